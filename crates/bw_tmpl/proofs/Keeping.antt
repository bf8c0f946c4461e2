-- Filling gaps and closing keep markup.
use Rattle.std.proofs.Common.{◌≡◌, ℕ, Bool, true, false, List, [], ◌∷◌, map, refl, sym, ap, subst, ◌∙◌}
use Rattle.std.specs.Prelude.{if◌then◌else◌, ◌||◌, ◌==◌, IsUtf8}
use Rattle.std.specs.List.{list_any}
use Rattle.bw_lang.specs.declared.items.Attr.{Attr}
use Rattle.bw_lang.specs.declared.items.AttrValue.{AttrValue}
use Rattle.bw_lang.specs.declared.items.AttrValue.TheVariants as value
use Rattle.bw_lang.specs.Document.Forest.{Forest, none, text, gap, element}
use Rattle.bw_lang.specs.Document.Documents.{append, plug, plug_text, filled_value, filled_attr, keep_fixed, closed_attrs, close}
use Rattle.bw_lang.specs.Template.Markup.{is_void}
use Rattle.bw_lang.specs.declared.pieces.NameClass.TheVariants as class
use Rattle.bw_lang.specs.Table.Names.{same}
use Rattle.bw_lang.specs.Template.RepeatedAttributes.{repeated}
use Rattle.bw_lang.specs.Template.Pieces.{IsNameOf}
use Rattle.bw_tmpl.specs.Markup.{IsValueOf, AreAttrs, names_of, IsMarkup}
use Rattle.bw_tmpl.specs.Laws.{PlugsMarkup, PlugsTextMarkup, ClosesMarkup}

append_markup : (e f : Forest) → IsMarkup e → IsMarkup f → IsMarkup (append e f)
append_markup none f p q = q
append_markup (text s e) f p q = (p.0, append_markup e f p.1 q)
append_markup (gap g e) f p q = (tt, append_markup e f p.1 q)
append_markup (element tag attrs inner e) f p q = (p.0, p.1, p.2, p.3, p.4, append_markup e f p.5 q)

gap_plugged : (v : Bool) (e r : Forest) (h : ℕ) → IsMarkup e → IsMarkup r → IsMarkup (if v then append e r else gap h r)
gap_plugged true e r h p q = append_markup e r p q
gap_plugged false e r h p q = (tt, q)

pub plug_markup : PlugsMarkup
plug_markup g e none p q = tt
plug_markup g e (text s f) p q = (q.0, plug_markup g e f p q.1)
plug_markup g e (gap h f) p q = gap_plugged (h == g) e (plug g e f) h p (plug_markup g e f p q.1)
plug_markup g e (element tag attrs inner f) p q =
    (q.0, q.1, q.2, λ (v : is_void tag ≡ true). ap (plug g e) (q.3 v), plug_markup g e inner p q.4, plug_markup g e f p q.5)

-- ---- strings

filled_text : (g : ℕ) (s : List ℕ) (v : AttrValue) → IsUtf8 s → IsValueOf (Unit {0}) v → IsValueOf (Unit {0}) (filled_value g s v)
filled_text g s (value.Fixed v) u h = h
filled_text g s (value.Hole k) u h = by_name (k == g)
  where
    by_name : (b : Bool) → IsValueOf (Unit {0}) (if b then value.Fixed s else value.Hole k)
    by_name true = u
    by_name false = tt

filled_attrs : (g : ℕ) (s : List ℕ) (attrs : List Attr) → IsUtf8 s → AreAttrs (Unit {0}) attrs → AreAttrs (Unit {0}) (map (filled_attr g s) attrs)
filled_attrs g s [] u h = tt
filled_attrs g s (a ∷ attrs) u h = (h.0, filled_text g s a.value u h.1, filled_attrs g s attrs u h.2)

filled_names : (g : ℕ) (s : List ℕ) (attrs : List Attr) → names_of (map (filled_attr g s) attrs) ≡ names_of attrs
filled_names g s [] = refl
filled_names g s (a ∷ attrs) = ap (λ (l : List (List ℕ)). a.name ∷ l) (filled_names g s attrs)

gap_filled : (v : Bool) (s : List ℕ) (r : Forest) (h : ℕ) → IsUtf8 s → IsMarkup r → IsMarkup (if v then text s r else gap h r)
gap_filled true s r h u q = (u, q)
gap_filled false s r h u q = (tt, q)

pub plug_text_markup : PlugsTextMarkup
plug_text_markup g s none u q = tt
plug_text_markup g s (text t f) u q = (q.0, plug_text_markup g s f u q.1)
plug_text_markup g s (gap h f) u q = gap_filled (h == g) s (plug_text g s f) h u (plug_text_markup g s f u q.1)
plug_text_markup g s (element tag attrs inner f) u q = (
  q.0,
  filled_attrs g s attrs u q.1,
  ap repeated (filled_names g s attrs) ∙ q.2,
  λ (v : is_void tag ≡ true). ap (plug_text g s) (q.3 v),
  plug_text_markup g s inner u q.4,
  plug_text_markup g s f u q.5,
)

-- ---- closing

neither : (b c : Bool) → (b || c) ≡ false → (b ≡ false) × (c ≡ false)
neither true c h = absurd (cc)
neither false c h = (refl, h)

keep_absent : (n : List ℕ) (a : Attr) (v : AttrValue) (rest : List Attr) → same n a.name ≡ false → list_any (same n) (names_of rest) ≡ false
    → list_any (same n) (names_of (keep_fixed a v rest)) ≡ false
keep_absent n a (value.Fixed v) rest h k = ap (λ (b : Bool). b || list_any (same n) (names_of rest)) h ∙ k
keep_absent n a (value.Hole g) rest h k = k

closed_absent : (n : List ℕ) (attrs : List Attr) → list_any (same n) (names_of attrs) ≡ false → list_any (same n) (names_of (closed_attrs attrs)) ≡ false
closed_absent n [] h = refl
closed_absent n (a ∷ attrs) h =
    let k = neither (same n a.name) (list_any (same n) (names_of attrs)) h in keep_absent n a a.value (closed_attrs attrs) k.0 (closed_absent n attrs k.1)

record Closed (attrs : List Attr) : Type 0 where
  fixed : AreAttrs ⊥ attrs
  once : repeated (names_of attrs) ≡ false

keep_closed : (a : Attr) (v : AttrValue) (rest : List Attr) → a.value ≡ v → IsNameOf class.Attr a.name → IsValueOf (Unit {0}) a.value
    → list_any (same a.name) (names_of rest) ≡ false → Closed rest → Closed (keep_fixed a v rest)
keep_closed a (value.Fixed v) rest e n u h c = record {
  fixed = (n, subst (IsValueOf ⊥) (sym e) (subst (IsValueOf (Unit {0})) e u), c.fixed);
  once = ap (λ (b : Bool). b || repeated (names_of rest)) h ∙ c.once;
}
keep_closed a (value.Hole g) rest e n u h c = c

closed_are : (attrs : List Attr) → AreAttrs (Unit {0}) attrs → repeated (names_of attrs) ≡ false → Closed (closed_attrs attrs)
closed_are [] h r = record { fixed = tt; once = refl }
closed_are (a ∷ attrs) h r =
    let k = neither (list_any (same a.name) (names_of attrs)) (repeated (names_of attrs)) r in
    keep_closed a a.value (closed_attrs attrs) refl h.0 h.1 (closed_absent a.name attrs k.0) (closed_are attrs h.2 k.1)

pub close_markup : ClosesMarkup
close_markup none q = tt
close_markup (text s f) q = (q.0, close_markup f q.1)
close_markup (gap g f) q = close_markup f q.1
close_markup (element tag attrs inner f) q =
    let c = closed_are attrs q.1 q.2 in (q.0, c.fixed, c.once, λ (v : is_void tag ≡ true). ap close (q.3 v), close_markup inner q.4, close_markup f q.5)

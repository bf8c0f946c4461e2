-- The names of templates and gaps in a typed service stand for what it has.
use Rattle.std.proofs.Common.{◌≡◌, ℕ, ◌+◌, ◌<◌, Bool, true, false, cond, List, [], ◌∷◌, map, length, Some, None, refl, ap, sym, arith}
use Rattle.std.specs.Prelude.{◌||◌, not, position, if◌then◌else◌, is_some}
use Rattle.std.specs.List.{position_or_len}
use Rattle.std.proofs.lemmas.List.Elements.{All-map, All-contains, All-weaker}
use Rattle.std.proofs.lemmas.Bool.{lt-ltb}
use Rattle.bw_lang.specs.declared.service.Literal.{Literal}
use Rattle.bw_lang.specs.declared.service.Literal.TheVariants as literals
use Rattle.bw_lang.specs.declared.service.Service.{Service}
use Rattle.bw_lang.specs.declared.service.Shared.{Shared}
use Rattle.bw_lang.specs.declared.service.Template.{Template}
use Rattle.bw_lang.specs.declared.stmt.Kind.{Kind}
use Rattle.bw_lang.specs.declared.stmt.Kind.TheVariants.{Int, Bool as Truth, Str, Html}
use Rattle.bw_lang.specs.Table.Names.{same, name_number}
use Rattle.bw_lang.specs.Service.Reads.{IsReadable}
use Rattle.bw_lang.specs.Service.Term.{no_more, filling}
use Rattle.bw_lang.proofs.Small.{readable_is_woven}
use Rattle.bw_types.specs.declared.fault.GapKind.{GapKind}
use Rattle.bw_types.specs.Faults.{literal_kind}
use Rattle.bw_types.specs.Gaps.{gap_kind, gap_uses, template_uses}
use Rattle.bw_types.specs.Scopes.{is_among, template_names}
use Rattle.bw_types.proofs.Parts.{all_parts}
use Rattle.bw_types.proofs.WellTyped.{typed}
use Rattle.bw_typed.specs.Named.{NamesTemplate, IsLiteral, SharedBegin, GapsHaveNumbers, PlugsAreKnown}
use Rattle.bw_typed.specs.Numbered.{numbers}
use Rattle.bw_typed.proofs.Found.{found}
use Rattle.bw_typed.proofs.Services.{gaps_are_numbered}

-- a place within the list is found
at_place : {X : Type 0} (p : X → Bool) (xs : List X) → position_or_len p xs < length xs → position p xs ≡ Some (position_or_len p xs)
at_place p xs h = ap (λ (b : Bool). cond b (Some (position_or_len p xs)) None) (lt-ltb (position_or_len p xs) (length xs) h)

-- ---- templates

-- a template that has the name has a place
placed : (w : List ℕ) (ts : List Template) → is_among w (map (λ (t : Template). t.name) ts) ≡ true
    → position_or_len (λ (t : Template). same w t.name) ts < length ts
placed w [] h = absurd (cc)
placed w (t ∷ ts) h = by_test (same w t.name) h (placed w ts)
  where
    by_test : (b : Bool) → (b || is_among w (map (λ (t : Template). t.name) ts)) ≡ true
        → (is_among w (map (λ (t : Template). t.name) ts) ≡ true → position_or_len (λ (t : Template). same w t.name) ts < length ts)
        → cond (not b) (1 + position_or_len (λ (t : Template). same w t.name) ts) 0 < length (t ∷ ts)
    by_test true h ih = omega arith
    by_test false h ih = omega (arith, ih h)

pub names_template : (s : Service) (w : List ℕ) → is_among w (template_names s) ≡ true → NamesTemplate s w
names_template s w h =
    let l = placed w s.templates h in
    (position_or_len (λ (t : Template). same w t.name) s.templates, at_place (λ (t : Template). same w t.name) s.templates l, l)

named_kind : (b : Bool) (kind : Kind) → (if b then Some Html else None) ≡ Some kind → (b ≡ true) × (kind ≡ Html)
named_kind true kind h = (refl, sym (some_is h))
  where
    some_is : Some Html ≡ Some kind → Html ≡ kind
    some_is e = cc
named_kind false kind h = absurd (cc)

some_same : (a b : Kind) → Some a ≡ Some b → b ≡ a
some_same a b e = cc

literal_is : (s : Service) (l : Literal) (kind : Kind) → literal_kind s l ≡ Some kind → IsLiteral s l kind
literal_is s (literals.Int n) kind h = some_same Int kind h
literal_is s (literals.Bool b) kind h = some_same Truth kind h
literal_is s (literals.Str v) kind h = some_same Str kind h
literal_is s (literals.Tmpl w) kind h = let n = named_kind (is_among w (template_names s)) kind h in (n.1, names_template s w n.0)

pub shared_begin : SharedBegin
shared_begin s r h =
    All-weaker (λ (v : Shared). literal_kind s v.init ≡ Some v.kind) (λ v. IsLiteral s v.init v.kind) (λ v e. literal_is s v.init v.kind e) s.shared
    (typed s (readable_is_woven s r) h).shared

-- ---- gaps

-- a gap that has a kind has a number of the table
kind_inside : (s : Service) → ∥ IsReadable s ∥₁ → (g : ℕ) → is_some (gap_kind (template_uses s.templates) g) ≡ true → g < length s.gaps
kind_inside s h g e =
    let uses = template_uses s.templates in
    All-contains (λ n. n < length s.gaps) (numbers uses) g
    (All-map (λ n. n < length s.gaps) (λ (x : ℕ × GapKind). x.0) uses
    (all_parts (λ (t : Template). gap_uses t.items) (λ x. x.0 < length s.gaps) s.templates (gaps_are_numbered s h)))
    (found uses g e)

pub gaps_have_numbers : GapsHaveNumbers
gaps_have_numbers s h w kind e =
    let l = kind_inside s h (name_number s.gaps w) (ap is_some e) in
    record { numbered = at_place (same w) s.gaps l; inside = l; has_kind = e }

pub plugs_are_known : PlugsAreKnown
plugs_are_known s h scope no_more t = tt
plugs_are_known s h scope (filling w e ps) t = ((t.0.0, gaps_have_numbers s h w t.0.0 t.0.2), plugs_are_known s h scope ps t.1)

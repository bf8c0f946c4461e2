-- What shows a fault isn't valid.
use Rattle.std.proofs.Common.{◌≡◌, ℕ, ◌==◌, Bool, true, false, ◌||◌, ◌&&◌, not, List, Option, Some, None, IfSome, if◌then◌else◌, refl, ap, sym, ◌∙◌, subst}
use Rattle.bw_lang.specs.Table.Names.{same}
use Rattle.std.specs.List.{list_all}
use Rattle.std.proofs.lemmas.Bool.{false≢true, and_parts}
use Rattle.bw_lang.specs.declared.items.Attr.{Attr}
use Rattle.bw_lang.specs.Document.Forest.{Forest, none, text, gap, element}
use Rattle.bw_lang.specs.Document.Documents.{append, close, closed_attrs}
use Rattle.bw_lang.proofs.Forests.{close-append}
use Rattle.bw_schema.specs.declared.rules.Rule.{Rule}
use Rattle.bw_lang.specs.Text.Bytes.{is_blank_text}
use Rattle.bw_schema.specs.Words.{is_among}
use Rattle.bw_schema.specs.Rules.{allows, permits, rule_of}
use Rattle.bw_schema.specs.Validity.{each_fixed, has_fixed, has_value, each_child, each_text, is_other, ordered, holds, is_bare, is_rooted, Obeys, Follows}
use Rattle.bw_schema.specs.Validity.{EveryElement, Valid}
use Rattle.bw_sum.specs.Graph.{Graph}
use Rattle.bw_sum.specs.Unfolding.{Fills, Unfolds, inside}
use Rattle.bw_explain.specs.Atoms.{is_plain}
use Rattle.bw_explain.specs.Shows.{some_broken, breaks, breaks_some, is_shown, Shown, here, led, among}
use Rattle.bw_explain.specs.Shows as shown
use Rattle.bw_faults.specs.declared.fault.Fault.{Fault}
use Rattle.bw_schema.specs.Needs.{Needs, nothing, all_of, some_of, attr, one_value, content, order}
use Rattle.bw_schema.specs.declared.schema.Schema.{Schema}

not_both : (b : Bool) → b ≡ true → not b ≡ true → ⊥
not_both true h k = false≢true k
not_both false h k = false≢true h

one_of : (a b c d e g : Bool) (v w x y z u : Bool) → (v ≡ true) → (w ≡ true) → (x ≡ true) → (y ≡ true) → (z ≡ true) → (u ≡ false)
    → (if a then not v else if b then not w else if c then not x else if d then not y else if e then not z else if g then u else false) ≡ true → ⊥
one_of true b c d e g v w x y z u p q r s t k h = not_both v p h
one_of false true c d e g v w x y z u p q r s t k h = not_both w q h
one_of false false true d e g v w x y z u p q r s t k h = not_both x r h
one_of false false false true e g v w x y z u p q r s t k h = not_both y s h
one_of false false false false true g v w x y z u p q r s t k h = not_both z t h
one_of false false false false false true v w x y z u p q r s t k h = false≢true (sym k ∙ h)
one_of false false false false false false v w x y z u p q r s t k h = false≢true h

none_of : (a b : Bool) → a ≡ true → b ≡ false → (not a || b) ≡ false
none_of true b h k = k
none_of false b h k = absurd (false≢true h)

none_of_part : (p a b : Bool) → a ≡ true → b ≡ false → ((p && not a) || b) ≡ false
none_of_part true a b h k = none_of a b h k
none_of_part false a b h k = k

none_of_other : (a b : Bool) → not a ≡ true → b ≡ false → (a || b) ≡ false
none_of_other true b h k = absurd (false≢true h)
none_of_other false b h k = k

-- where the needs hold, none is broken
held : (needs : Needs) (b : List Attr) (j : Forest) → holds true needs b j ≡ true → some_broken needs b j ≡ false
held nothing b j h = refl
held (all_of parts rest) b j h = let k = and_parts _ _ h in none_of_part (is_plain parts) (holds true parts b j) (some_broken rest b j) k.0 (held rest b j k.1)
held (some_of parts rest) b j h = held rest b j (and_parts _ _ h).1
held (attr x rest) b j h = let k = and_parts _ _ h in none_of (has_fixed b x) (some_broken rest b j) k.0 (held rest b j k.1)
held (one_value x vs rest) b j h = let k = and_parts _ _ h in none_of (has_value b x vs) (some_broken rest b j) k.0 (held rest b j k.1)
held (content x rest) b j h = let k = and_parts _ _ h in none_of_other (each_child (is_other x) j) (some_broken rest b j) k.0 (held rest b j k.1)
held (order x y rest) b j h = let k = and_parts _ _ h in none_of (ordered x y j) (some_broken rest b j) k.0 (held rest b j k.1)

obeys_not : (number : ℕ) (r : Rule) (b : List Attr) (j : Forest) → Obeys r b j → breaks number r b j ≡ true → ⊥
obeys_not number r b j o h =
    one_of (number == 1) (number == 2) (number == 3) (number == 4) (number == 5) (number == 7) (each_fixed (λ x v. allows r x) b)
    (list_all (has_fixed b) r.must) (each_fixed (permits r.values) b) (each_child (is_among r.has) j) (r.text || each_text is_blank_text j)
    (some_broken r.needs b j)
    o.allowed o.required o.values o.children o.texts (held r.needs b j o.needs) h

follows_not : (number : ℕ) (o : Option Rule) (b : List Attr) (j : Forest) → IfSome o (λ r. Obeys r b j) → breaks_some number o b j ≡ true → ⊥
follows_not number None b j f h = false≢true h
follows_not number (Some r) b j f h = obeys_not number r b j f h

every_parts : (P : List ℕ → List Attr → Forest → Type 0) (a b : Forest) → EveryElement P (append a b) → EveryElement P a × EveryElement P b
every_parts P none b h = (tt, h)
every_parts P (text s r) b h = every_parts P r b h
every_parts P (gap g r) b h = every_parts P r b h
every_parts P (element tag c i r) b h = let k = every_parts P r b h.1.1 in ((h.0, (h.1.0, k.0)), k.1)

module _ (templates : ℕ → Forest) (G : Graph) (rules : List Rule) (f : Fault) where
  led_parts : (e d : Forest) → EveryElement (Follows rules) (close (append e d)) → EveryElement (Follows rules) (close e)
      × EveryElement (Follows rules) (close d)
  led_parts e d h = every_parts (Follows rules) (close e) (close d) (subst (EveryElement (Follows rules)) (close-append e d) h)

  shown_breaks : {n k : ℕ} {t d : Forest} → Shown templates G (is_shown rules f) n k t d → EveryElement (Follows rules) (close d) → ⊥
  shown_breaks (here {tag = tag} {b = b} {j = j} q g h) v =
      follows_not f.number (rule_of rules tag) (closed_attrs b) (close j) v.0 (and_parts _ _ h).1
  shown_breaks (shown.inside q s) v = shown_breaks s v.1.0
  shown_breaks (led l s) v = shown_breaks s v
  shown_breaks (among {c = c} {d = d} {e = e} h s g) v = shown_breaks s (led_parts d e (led_parts c (append d e) v).1).0

pub shown_is_broken : (templates : ℕ → Forest) (G : Graph) (s : Schema) (f : Fault) (n : ℕ) (d : Forest)
    → Shown templates G (is_shown s.elements f) n 0 (templates n) d
    → Valid s (close d) → ⊥
shown_is_broken templates G s f n d h v = shown_breaks templates G s.elements f h v.each

-- an unfolding of one element is one element of that tag
one_filled : (templates : ℕ → Forest) (G : Graph) (n : ℕ) (root tag : List ℕ) (a : List Attr) (i d : Forest) → same tag root ≡ false
    → Fills templates G n (element tag a i none) d → is_rooted root (close d) ≡ false
one_filled templates G n root tag a i d h (inside {d = e} q f r) = ap (λ b. b && is_bare (close e)) h

-- an unfolding of a template of one element that isn't the schema's root isn't valid
pub root_is_broken : (templates : ℕ → Forest) (G : Graph) (s : Schema) (n : ℕ) (tag : List ℕ) (a : List Attr) (i d : Forest) → templates n
    ≡ element tag a i none → same tag s.root ≡ false → Unfolds templates G n d → Valid s (close d) → ⊥
root_is_broken templates G s n tag a i d e h u v = false≢true (sym (one_filled templates G n s.root tag a i d h (subst (λ t. Fills templates G n t d) e u))
    ∙ v.root)

-- Laws of validity.
use Rattle.std.proofs.Common.{◌≡◌, ℕ, suc, ◌+◌, Bool, true, false, not, ◌||◌, List, Option, Some, None, IfSome, is_some, if◌then◌else◌, refl, ap, sym, ◌∙◌}
use Rattle.std.specs.List.{list_all}
use Rattle.std.proofs.lemmas.Bool.{false≢true}
use Rattle.bw_lang.specs.Document.Documents.{elements, close, closed_attrs}
use Rattle.bw_lang.specs.Document.Forest.{Forest, none, text, gap, element}
use Rattle.bw_lang.specs.declared.items.Attr.{Attr}
use Rattle.bw_schema.proofs.ValidLaws.{all_has, closed_child, closed_each, closed_holds, closed_root, closed_text}
use Rattle.bw_schema.specs.Rules.{allows, permits, rule_of}
use Rattle.bw_schema.specs.Validity as v
use Rattle.bw_lang.specs.Text.Bytes.{is_blank_text}
use Rattle.bw_schema.specs.Words.{is_among}
use Rattle.bw_schema.specs.declared.rules.Rule.{Rule}
use Rattle.bw_valid.specs.Breaches as b
use Rattle.bw_valid.specs.Laws.{ValidDecided, BreachClosed}
use Rattle.bw_valid.specs.declared.breach.Breach.{Breach}

some_none : {X : Type 0} (x : X) → Some x ≡ None → ⊥
some_none x h = false≢true (sym (ap is_some h))

-- the first of six tests that fails
abbrev first_false : Bool → Bool → Bool → Bool → Bool → Bool → Option ℕ
first_false p q r s t u =
    if not p then Some 1 else if not q then Some 2 else if not r then Some 3 else
    if not s then Some 4 else if not t then Some 5 else if not u then Some 7 else None

record All (p q r s t u : Bool) : Type 0 where
  first : p ≡ true
  second : q ≡ true
  third : r ≡ true
  fourth : s ≡ true
  fifth : t ≡ true
  last : u ≡ true

none_fails : (p q r s t u : Bool) → first_false p q r s t u ≡ None → All p q r s t u
none_fails true true true true true true h = record { first = refl; second = refl; third = refl; fourth = refl; fifth = refl; last = refl }
none_fails true true true true true false h = absurd (some_none 7 h)
none_fails true true true true false u h = absurd (some_none 5 h)
none_fails true true true false t u h = absurd (some_none 4 h)
none_fails true true false s t u h = absurd (some_none 3 h)
none_fails true false r s t u h = absurd (some_none 2 h)
none_fails false q r s t u h = absurd (some_none 1 h)

all_hold : (p q r s t u : Bool) → All p q r s t u → first_false p q r s t u ≡ None
all_hold true true true true true true h = refl
all_hold false q r s t u h = absurd (false≢true h.first)
all_hold true false r s t u h = absurd (false≢true h.second)
all_hold true true false s t u h = absurd (false≢true h.third)
all_hold true true true false t u h = absurd (false≢true h.fourth)
all_hold true true true true false u h = absurd (false≢true h.fifth)
all_hold true true true true true false h = absurd (false≢true h.last)

-- the tests of an element, in their order
abbrev first_test : Rule → List Attr → Bool
first_test r attrs = v.each_fixed (λ x w. allows r x) attrs

abbrev second_test : Rule → List Attr → Bool
second_test r attrs = list_all (v.has_fixed attrs) r.must

abbrev third_test : Rule → List Attr → Bool
third_test r attrs = v.each_fixed (permits r.values) attrs

abbrev fourth_test : Rule → Forest → Bool
fourth_test r inner = v.each_child (is_among r.has) inner

abbrev fifth_test : Rule → Forest → Bool
fifth_test r inner = r.text || v.each_text is_blank_text inner

abbrev last_test : Rule → List Attr → Forest → Bool
last_test r attrs inner = v.holds true r.needs attrs inner

placed_none : (n : ℕ) (o : Option ℕ) → b.placed n o ≡ None → o ≡ None
placed_none n None h = refl
placed_none n (Some k) h = absurd (some_none _ h)

then_none : (x y : Option Breach) → b.or_then x y ≡ None → (x ≡ None) × (y ≡ None)
then_none None y h = (refl, h)
then_none (Some x) y h = absurd (some_none x h)

follows : (o : Option Rule) (attrs : List Attr) (inner : Forest) → b.broken_at o attrs inner ≡ None → IfSome o (λ r. v.Obeys r attrs inner)
follows None attrs inner h = tt
follows (Some r) attrs inner h =
    let k = none_fails (first_test r attrs) (second_test r attrs) (third_test r attrs) (fourth_test r inner) (fifth_test r inner) (last_test r attrs inner) h in
    record { allowed = k.first; required = k.second; values = k.third; children = k.fourth; texts = k.fifth; needs = k.last }

follows_back : (o : Option Rule) (attrs : List Attr) (inner : Forest) → IfSome o (λ r. v.Obeys r attrs inner) → b.broken_at o attrs inner ≡ None
follows_back None attrs inner h = refl
follows_back (Some r) attrs inner h =
    all_hold (first_test r attrs) (second_test r attrs) (third_test r attrs) (fourth_test r inner) (fifth_test r inner) (last_test r attrs inner)
    (record { first = h.allowed; second = h.required; third = h.values; fourth = h.children; fifth = h.texts; last = h.needs })

pub unbroken : (rules : List Rule) (n : ℕ) (t : Forest) → b.first_broken rules n t ≡ None → v.EveryElement (v.Follows rules) t
unbroken rules n none h = tt
unbroken rules n (text s r) h = unbroken rules n r h
unbroken rules n (gap g r) h = unbroken rules n r h
unbroken rules n (element tag attrs inner r) h =
    let p = then_none _ _ h in
    let q = then_none _ _ p.1 in
    (follows (rule_of rules tag) attrs inner (placed_none _ _ p.0), (unbroken rules (n + 1) inner q.0, unbroken rules (n + 1 + elements inner) r q.1))

unbroken_back : (rules : List Rule) (n : ℕ) (t : Forest) → v.EveryElement (v.Follows rules) t → b.first_broken rules n t ≡ None
unbroken_back rules n none h = refl
unbroken_back rules n (text s r) h = unbroken_back rules n r h
unbroken_back rules n (gap g r) h = unbroken_back rules n r h
unbroken_back rules n (element tag attrs inner r) h =
    ap (λ o. b.or_then (b.placed (n + 1) o) (b.or_then (b.first_broken rules (n + 1) inner) (b.first_broken rules (n + 1 + elements inner) r)))
    (follows_back (rule_of rules tag) attrs inner h.0)
    ∙ ap (λ o. b.or_then o (b.first_broken rules (n + 1 + elements inner) r)) (unbroken_back rules (n + 1) inner h.1.0)
    ∙ unbroken_back rules (n + 1 + elements inner) r h.1.1

when : (c : Bool) (o : Option Breach) (x : Breach) → (if c then o else Some x) ≡ None → (c ≡ true) × (o ≡ None)
when true o x h = (refl, h)
when false o x h = absurd (some_none x h)

pub valid_decided : ValidDecided
valid_decided s t = (
  λ h. ap (λ c. if c then b.first_broken s.elements 0 t else Some (record { place = 1; rule = 6 })) h.root ∙ unbroken_back s.elements 0 t h.each,
  λ h. let k = when _ _ _ h in record { root = k.0; each = unbroken s.elements 0 t k.1 },
)

-- ---- closing

first_six : (p q r s t u : Bool) {p' q' r' s' t' u' : Bool} → p ≡ p' → q ≡ q' → r ≡ r' → s ≡ s' → t ≡ t' → u ≡ u'
    → first_false p q r s t u ≡ first_false p' q' r' s' t' u'
first_six p q r s t u e f g h k l = λ i. first_false (e i) (f i) (g i) (h i) (k i) (l i)

closed_broken : (o : Option Rule) (a : List Attr) (i : Forest) → b.broken_at o (closed_attrs a) (close i) ≡ b.broken_at o a i
closed_broken None a i = refl
closed_broken (Some r) a i =
    first_six (first_test r (closed_attrs a)) (second_test r (closed_attrs a)) (third_test r (closed_attrs a)) (fourth_test r (close i))
    (fifth_test r (close i)) (last_test r (closed_attrs a) (close i))
    (closed_each (λ x w. allows r x) a) (all_has a r.must) (closed_each (permits r.values) a) (closed_child (is_among r.has) i)
    (ap (λ c. r.text || c) (closed_text is_blank_text i)) (closed_holds true r.needs a i)

closed_elements : (t : Forest) → elements (close t) ≡ elements t
closed_elements none = refl
closed_elements (text s r) = closed_elements r
closed_elements (gap g r) = closed_elements r
closed_elements (element tag a i r) = λ k. suc (closed_elements i k + closed_elements r k)

closed_first : (rules : List Rule) (n : ℕ) (t : Forest) → b.first_broken rules n (close t) ≡ b.first_broken rules n t
closed_first rules n none = refl
closed_first rules n (text s r) = closed_first rules n r
closed_first rules n (gap g r) = closed_first rules n r
closed_first rules n (element tag a i r) =
    ap (λ o. b.or_then (b.placed (n + 1) o) (b.or_then (b.first_broken rules (n + 1) (close i))
    (b.first_broken rules (n + 1 + elements (close i)) (close r)))) (closed_broken (rule_of rules tag) a i)
    ∙ ap (λ o. b.or_then (b.placed (n + 1) (b.broken_at (rule_of rules tag) a i))
    (b.or_then o (b.first_broken rules (n + 1 + elements (close i)) (close r)))) (closed_first rules (n + 1) i)
    ∙ ap (λ o. b.or_then (b.placed (n + 1) (b.broken_at (rule_of rules tag) a i)) (b.or_then (b.first_broken rules (n + 1) i) o))
    (ap (λ k. b.first_broken rules (n + 1 + k) (close r)) (closed_elements i) ∙ closed_first rules (n + 1 + elements i) r)

pub breach_closed : BreachClosed
breach_closed s t =
    ap (λ c. if c then b.first_broken s.elements 0 (close t) else Some (record { place = 1; rule = 6 })) (closed_root s.root t)
    ∙ ap (λ o. if v.is_rooted s.root t then o else Some (record { place = 1; rule = 6 })) (closed_first s.elements 0 t)

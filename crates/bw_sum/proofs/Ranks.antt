-- The rank of a well formed summary has a bound.
use Rattle.std.specs.Prelude.{◌≡◌, ℕ, ◌+◌, ◌-◌, ◌*◌, ◌^◌, ◌<◌, ◌≤◌, List, [], ◌∷◌, length}
use Rattle.std.proofs.Common.{refl, sym, ◌∙◌, subst, arith}
use Rattle.std.specs.declared.cmp.Ordering.{Ordering}
use Rattle.std.specs.declared.cmp.Ordering.TheVariants.{Less, Equal, Greater}
use Rattle.std.specs.Ordering.{nat_cmp, ordering_then}
use Rattle.std.specs.List.{AllByRecursion}
use Rattle.std.proofs.lemmas.Cmp.{ranked}
use Rattle.bw_solve.specs.Sets.{IsSet}
use Rattle.bw_strings.specs.declared.strings.StrSet.{StrSet}
use Rattle.bw_strings.specs.declared.strings.StrSet.TheVariants.{Any, Of}
use Rattle.bw_strings.specs.Strings as strings
use Rattle.bw_strings.specs.Lawful.StringLaws.{small}
use Rattle.bw_sum.specs.Labels.{pair_cmp, AreLabels, labels_rank}
use Rattle.bw_sum.specs.Edges.{edge_cmp}
use Rattle.bw_sum.specs.Laws.{RankIsBounded}
use Rattle.bw_sum.specs.Small.{IsSmall1, IsSmall2, IsSmall3, IsSmallLabel}

-- a set is no longer than the numbers that its members are coded by
few_by : {T : Type 0} {cmp : T → T → Ordering} (P : T → Type 0) (code : T → ℕ) (n : ℕ) → ((x y : T) → P x → P y → cmp x y ≡ Less → code x < code y)
    → ((x : T) → P x → code x < n)
    → (low : ℕ) (xs : List T) → AllByRecursion (λ x. low ≤ code x) xs → IsSet cmp xs → AllByRecursion P xs → length xs ≤ n - low
few_by P code n f t low [] l s p = omega arith
few_by {cmp = cmp} P code n f t low (x ∷ xs) l s p =
    let r = few_by P code n f t (code x + 1) xs (above xs s.0 p.1) s.1 p.1 in
    let a : low ≤ code x = l.0 in
    let b : code x < n = t x p.0 in
    omega (arith, r)
  where
    above : (ys : List _) → AllByRecursion (λ y. cmp x y ≡ Less) ys → AllByRecursion P ys → AllByRecursion (λ y. code x + 1 ≤ code y) ys
    above [] h q = tt
    above (y ∷ ys) h q = (let k : code x < code y = f x y p.0 q.0 h.0 in omega arith, above ys h.1 q.1)

zero_on : {T : Type 0} (code : T → ℕ) (xs : List T) → AllByRecursion (λ x. 0 ≤ code x) xs
zero_on code [] = tt
zero_on code (x ∷ xs) = (omega arith, zero_on code xs)

less1 : (a b : ℕ) → nat_cmp a b ≡ Less → a < b
less1 a b e = let r : a < b = ranked a b Less (sym e) in r

no_greater : Greater ≡ Less → ⊥
no_greater q = subst (λ o. elim o as (λ _. Type 0) [ Less ↦ ⊥ | Equal ↦ ⊥ | Greater ↦ Unit {0} ]) q tt

less2 : (a b c d : ℕ) → b < 2 ^ 32 → d < 2 ^ 32 → (o p : Ordering) → nat_cmp a c ≡ o → nat_cmp b d ≡ p → ordering_then o p ≡ Less
    → a * 4294967296 + b < c * 4294967296 + d
less2 a b c d h k Less p e f l = let r = less1 a c e in omega arith
less2 a b c d h k Equal p e f l = let r : a ≡ c = ranked a c Equal (sym e) in let s = less1 b d (f ∙ l) in omega arith
less2 a b c d h k Greater p e f l = absurd (no_greater l)

less3 : (a b c d e f : ℕ) → b < 2 ^ 32 → e < 2 ^ 32 → c < 2 ^ 32 → f < 2 ^ 32 → (o p q : Ordering) → nat_cmp a d ≡ o → nat_cmp b e ≡ p → nat_cmp c f ≡ q
    → ordering_then (ordering_then o p) q ≡ Less
    → a * 18446744073709551616 + (b * 4294967296 + c) < d * 18446744073709551616 + (e * 4294967296 + f)
less3 a b c d e f h i j k Less p q x y z l = let r = less1 a d x in omega arith
less3 a b c d e f h i j k Equal Less q x y z l = let r : a ≡ d = ranked a d Equal (sym x) in let s = less1 b e y in omega arith
less3 a b c d e f h i j k Equal Equal q x y z l = let r : a ≡ d = ranked a d Equal (sym x) in let s : b ≡ e = ranked b e Equal (sym y) in let t =
    less1 c f (z ∙ l) in omega arith
less3 a b c d e f h i j k Equal Greater q x y z l = absurd (no_greater l)
less3 a b c d e f h i j k Greater p q x y z l = absurd (no_greater l)

few1 : (xs : List ℕ) → IsSet nat_cmp xs → AllByRecursion IsSmall1 xs → length xs ≤ 4294967296
few1 xs s p = let r = few_by IsSmall1 (λ x. x) 4294967296 (λ x y h k e. less1 x y e) (λ x h. h) 0 xs (zero_on (λ x. x) xs) s p in omega arith

few2 : (xs : List (ℕ × ℕ)) → IsSet pair_cmp xs → AllByRecursion IsSmall2 xs → length xs ≤ 18446744073709551616
few2 xs s p =
    let r = few_by IsSmall2 (λ t. t.0 * 4294967296 + t.1) 18446744073709551616
    (λ x y h k e. less2 x.0 x.1 y.0 y.1 h.1 k.1 (nat_cmp x.0 y.0) (nat_cmp x.1 y.1) refl refl e) (λ x h. let a = h.0 in let b = h.1 in omega arith) 0 xs
    (zero_on (λ t. t.0 * 4294967296 + t.1) xs) s p in
    omega arith

few3 : (xs : List (ℕ × ℕ × ℕ)) → IsSet edge_cmp xs → AllByRecursion IsSmall3 xs → length xs ≤ 79228162514264337593543950336
few3 xs s p =
    let r = few_by IsSmall3 (λ t. t.0 * 18446744073709551616 + (t.1 * 4294967296 + t.2)) 79228162514264337593543950336
    (λ x y h k e. less3 x.0 x.1 x.2 y.0 y.1 y.2 h.1 k.1 h.2 k.2 (nat_cmp x.0 y.0) (nat_cmp x.1 y.1) (nat_cmp x.2 y.2) refl refl refl e)
    (λ x h. let a = h.0 in let b = h.1 in let c = h.2 in omega arith)
    0 xs (zero_on (λ t. t.0 * 18446744073709551616 + (t.1 * 4294967296 + t.2)) xs) s p in
    omega arith

abbrev by_key : (ℕ × ℕ) × StrSet → (ℕ × ℕ) × StrSet → Ordering
by_key e f = pair_cmp e.0 f.0

keys_set : (es : List ((ℕ × ℕ) × StrSet)) → AreLabels es → IsSet by_key es
keys_set [] s = tt
keys_set (e ∷ es) s = (s.0, keys_set es s.1.1)

few_labels : (es : List ((ℕ × ℕ) × StrSet)) → AreLabels es → AllByRecursion IsSmallLabel es → length es ≤ 18446744073709551616
few_labels es s p =
    let r = few_by {cmp = by_key} IsSmallLabel (λ t. t.0.0 * 4294967296 + t.0.1) 18446744073709551616
    (λ x y h k e. less2 x.0.0 x.0.1 y.0.0 y.0.1 h.1 k.1 (nat_cmp x.0.0 y.0.0) (nat_cmp x.0.1 y.0.1) refl refl e)
    (λ x h. let a = h.0 in let b = h.1 in omega arith) 0 es (zero_on (λ t. t.0.0 * 4294967296 + t.0.1) es) (keys_set es s) p in
    omega arith

strings_few : (s : StrSet) → strings.IsWellFormed s → strings.rank_of s ≤ 4294967297
strings_few Any f = omega arith
strings_few (Of xs) f = omega (arith, small xs f.0 f.1)

labels_few : (es : List ((ℕ × ℕ) × StrSet)) → AreLabels es → labels_rank es ≤ length es * 4294967297
labels_few [] s = omega arith
labels_few (e ∷ es) s = omega (arith, strings_few e.1 s.1.0.0, labels_few es s.1.1)

pub rank_is_bounded : RankIsBounded
rank_is_bounded s p =
    let a = few1 s.roots p.0.0.0 p.1.roots in
    let b = few3 s.edges p.0.1.0.0 p.1.edges in
    let c = few_labels s.texts p.0.1.1.0.0 p.1.texts in
    let d = labels_few s.texts p.0.1.1.0.0 in
    let e = few2 s.tracks p.0.1.1.1.0.0 p.1.tracks in
    let f = few1 s.lacks p.0.1.1.1.1.0 p.1.lacks in
    omega arith

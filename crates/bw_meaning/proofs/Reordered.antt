-- What is done to names with values keeps two orders of them alike.
use Rattle.std.proofs.Common.{◌≡◌, ℕ, ◌+◌, Bool, true, false, cond, List, [], ◌∷◌, ◌++◌, Option, Some, None, refl, sym, ap, ◌∙◌, arith}
use Rattle.std.specs.Prelude.{if◌then◌else◌, find, not}
use Rattle.std.specs.List.{list_any, AllByRecursion, IsDistinct}
use Rattle.std.specs.Option.{option_map}
use Rattle.std.proofs.lemmas.Cmp.{nat_list_eq_equiv}
use Rattle.std.proofs.lemmas.List.Elements.{filter-append}
use Rattle.std.proofs.lemmas.List.Sorted.{IsPermutation-map}
use Rattle.std.proofs.lemmas.List.Sums.{sum_by-cons}
use Rattle.std.proofs.lemmas.Map.Keys.{IsDistinct-IsPermutation}
use Rattle.bw_lang.specs.Table.Names.{same, beside}
use Rattle.bw_meaning.specs.NameLaws.{Agree}
use Rattle.bw_meaning.specs.Orders.{of_name, IsReordered, OrdersAreReordered}
use Rattle.bw_meaning.specs.Values.{Value, Values, names_of, weight, weights, replaced, without}
use Rattle.bw_lang.proofs.SameNames.{same_is}
use Rattle.bw_meaning.proofs.Maps.{orders_agree}

-- ---- what a name stands for

-- the value of the first
abbrev first_of : Values → Option Value
first_of [] = None
first_of (p ∷ ps) = Some p.1

one_more : (b : Bool) (p : List ℕ × Value) (o : Option (List ℕ × Value)) (ps : Values) → option_map (λ x. x.1) o ≡ first_of ps →
    option_map (λ x. x.1) (cond b (Some p) o) ≡ first_of (cond b (p ∷ ps) ps)
one_more true p o ps e = refl
one_more false p o ps e = e

looked : (w : List ℕ) (values : Values) → beside w values ≡ first_of (of_name w values)
looked w [] = refl
looked w (p ∷ ps) = one_more (same w p.0) p (find (λ x. same w x.0) ps) (of_name w ps) (looked w ps)

pub agree : (a b : Values) → IsReordered a b → Agree a b
agree a b h w = looked w a ∙ ap first_of (h w) ∙ sym (looked w b)

-- ---- a value is stored

-- the first of these with another value
abbrev anew : Value → Values → Values
anew v [] = []
anew v (p ∷ ps) = (p.0, v) ∷ ps

-- the first pair has the name x by a, and the name w by b; c says whether x is w
stored : (a b c : Bool) (v : Value) (p : List ℕ × Value) (m n : Values) → (c ≡ true → a ≡ b) → (c ≡ false → a ≡ true → b ≡ true → ⊥) →
    m ≡ (if c then anew v n else n) →
    (if b then cond a ((p.0, v) ∷ n) n else cond a (p ∷ m) m) ≡ (if c then anew v (cond a (p ∷ n) n) else cond a (p ∷ n) n)
stored true true true v p m n alike apart e = refl
stored true true false v p m n alike apart e = absurd (apart refl refl refl)
stored true false true v p m n alike apart e = let h = alike refl in cc
stored true false false v p m n alike apart e = ap (λ l. p ∷ l) e
stored false true true v p m n alike apart e = let h = alike refl in cc
stored false true false v p m n alike apart e = refl
stored false false c v p m n alike apart e = e

of_either : (b : Bool) (x : List ℕ) (ps qs : Values) → of_name x (if b then ps else qs) ≡ (if b then of_name x ps else of_name x qs)
of_either true x ps qs = refl
of_either false x ps qs = refl

either_side : (c : Bool) (ps : Values) → ps ≡ (if c then ps else ps)
either_side true ps = refl
either_side false ps = refl

of_replaced : (w x : List ℕ) (v : Value) (values : Values) →
    of_name x (replaced w v values) ≡ (if same x w then anew v (of_name x values) else of_name x values)
of_replaced w x v [] = either_side (same x w) []
of_replaced w x v (p ∷ ps) =
    let one = nat_list_eq_equiv in
    of_either (same w p.0) x ((p.0, v) ∷ ps) (p ∷ replaced w v ps)
    ∙ stored (same x p.0) (same w p.0) (same x w) v p (of_name x (replaced w v ps)) (of_name x ps)
    (λ e. ap (λ y. same y p.0) (same_is x w e))
    (λ n a b. let h = one.symm w x ∙ one.congr x p.0 w a in let g = one.symm p.0 w ∙ b in let k = one.symm x w in cc)
    (of_replaced w x v ps)

pub replaced_alike : (w : List ℕ) (v : Value) (a b : Values) → IsReordered a b → IsReordered (replaced w v a) (replaced w v b)
replaced_alike w v a b h x = of_replaced w x v a ∙ ap (λ l. if same x w then anew v l else l) (h x) ∙ sym (of_replaced w x v b)

-- ---- a name is added, and names are taken away

pub added_alike : (w : List ℕ) (v : Value) (a b : Values) → IsReordered a b → IsReordered (a ++ (w, v) ∷ []) (b ++ (w, v) ∷ [])
added_alike w v a b h x =
    filter-append (λ y. same x y.0) a ((w, v) ∷ []) ∙ ap (λ l. l ++ of_name x ((w, v) ∷ [])) (h x)
    ∙ sym (filter-append (λ y. same x y.0) b ((w, v) ∷ []))

-- the first pair is one of the names by a, and has the name x by b; c says whether x is one of them
left : (a b c : Bool) (p : List ℕ × Value) (m n : Values) → (b ≡ true → a ≡ c) → m ≡ (if c then [] else n) →
    (if a then m else cond b (p ∷ m) m) ≡ (if c then [] else cond b (p ∷ n) n)
left true true true p m n alike e = e
left true true false p m n alike e = let f = alike refl in cc
left true false c p m n alike e = e
left false true true p m n alike e = let f = alike refl in cc
left false true false p m n alike e = ap (λ l. p ∷ l) e
left false false c p m n alike e = e

of_kept : (a : Bool) (x : List ℕ) (p : List ℕ × Value) (ps : Values) →
    of_name x (cond (not a) (p ∷ ps) ps) ≡ (if a then of_name x ps else cond (same x p.0) (p ∷ of_name x ps) (of_name x ps))
of_kept true x p ps = refl
of_kept false x p ps = refl

of_without : (names : List (List ℕ)) (x : List ℕ) (values : Values) →
    of_name x (without names values) ≡ (if list_any (same x) names then [] else of_name x values)
of_without names x [] = either_side (list_any (same x) names) []
of_without names x (p ∷ ps) =
    of_kept (list_any (same p.0) names) x p (without names ps)
    ∙ left (list_any (same p.0) names) (same x p.0) (list_any (same x) names) p (of_name x (without names ps)) (of_name x ps)
    (λ e. ap (λ y. list_any (same y) names) (sym (same_is x p.0 e))) (of_without names x ps)

pub without_alike : (names : List (List ℕ)) (a b : Values) → IsReordered a b → IsReordered (without names a) (without names b)
without_alike names a b h x =
    of_without names x a ∙ ap (λ l. if list_any (same x) names then [] else l) (h x) ∙ sym (of_without names x b)

-- ---- weights

-- without the first of that name
abbrev dropped : List ℕ → Values → Values
dropped w [] = []
dropped w (p ∷ ps) = if same w p.0 then ps else p ∷ dropped w ps

abbrev heaviness : Option Value → ℕ
heaviness None = 0
heaviness (Some v) = weight v

abbrev behind_first : Values → Values
behind_first [] = []
behind_first (p ∷ ps) = ps

exchanged : (a b c : ℕ) → a + (b + c) ≡ b + (a + c)
exchanged a b c = omega arith

dropped_weight : (w : List ℕ) (values : Values) → weights values ≡ heaviness (first_of (of_name w values)) + weights (dropped w values)
dropped_weight w [] = refl
dropped_weight w (p ∷ ps) = one (same w p.0) (dropped_weight w ps)
  where
    one : (b : Bool) → weights ps ≡ heaviness (first_of (of_name w ps)) + weights (dropped w ps) →
        weights (p ∷ ps) ≡ heaviness (first_of (cond b (p ∷ of_name w ps) (of_name w ps))) + weights (if b then ps else p ∷ dropped w ps)
    one true e = sum_by-cons (λ x. weight x.1) p ps
    one false e =
        sum_by-cons (λ x. weight x.1) p ps ∙ ap (λ n. weight p.1 + n) e
        ∙ exchanged (weight p.1) (heaviness (first_of (of_name w ps))) (weights (dropped w ps))
        ∙ ap (λ n. heaviness (first_of (of_name w ps)) + n) (sym (sum_by-cons (λ x. weight x.1) p (dropped w ps)))

-- the first pair has the name x by a, and the name w by b; c says whether x is w
taken_off : (a b c : Bool) (p : List ℕ × Value) (m n : Values) → (c ≡ true → a ≡ b) → (c ≡ false → a ≡ true → b ≡ true → ⊥) →
    m ≡ (if c then behind_first n else n) →
    (if b then n else cond a (p ∷ m) m) ≡ (if c then behind_first (cond a (p ∷ n) n) else cond a (p ∷ n) n)
taken_off true true true p m n alike apart e = refl
taken_off true true false p m n alike apart e = absurd (apart refl refl refl)
taken_off true false true p m n alike apart e = let h = alike refl in cc
taken_off true false false p m n alike apart e = ap (λ l. p ∷ l) e
taken_off false true true p m n alike apart e = let h = alike refl in cc
taken_off false true false p m n alike apart e = refl
taken_off false false c p m n alike apart e = e

of_dropped : (w x : List ℕ) (values : Values) →
    of_name x (dropped w values) ≡ (if same x w then behind_first (of_name x values) else of_name x values)
of_dropped w x [] = either_side (same x w) []
of_dropped w x (p ∷ ps) =
    let one = nat_list_eq_equiv in
    of_either (same w p.0) x ps (p ∷ dropped w ps)
    ∙ taken_off (same x p.0) (same w p.0) (same x w) p (of_name x (dropped w ps)) (of_name x ps)
    (λ e. ap (λ y. same y p.0) (same_is x w e))
    (λ n a b. let h = one.symm w x ∙ one.congr x p.0 w a in let g = one.symm p.0 w ∙ b in let k = one.symm x w in cc)
    (of_dropped w x ps)

dropped_alike : (w : List ℕ) (a b : Values) → IsReordered a b → IsReordered (dropped w a) (dropped w b)
dropped_alike w a b h x = of_dropped w x a ∙ ap (λ l. if same x w then behind_first l else l) (h x) ∙ sym (of_dropped w x b)

head_dropped : (b : Bool) (ps qs : Values) → b ≡ true → (if b then ps else qs) ≡ ps
head_dropped true ps qs e = refl
head_dropped false ps qs e = cc

-- none has a name, so there is none
none_named : (values : Values) → IsReordered [] values → values ≡ []
none_named [] h = refl
none_named (q ∷ qs) h = absurd (no_name (same q.0 q.0) (nat_list_eq_equiv.refl q.0) (h q.0))
  where
    no_name : (b : Bool) → b ≡ true → [] ≡ cond b (q ∷ of_name q.0 qs) (of_name q.0 qs) → ⊥
    no_name true e f = cc
    no_name false e f = cc

pub weights_alike : (a b : Values) → IsReordered a b → weights a ≡ weights b
weights_alike [] b h = ap weights (sym (none_named b h))
weights_alike (p ∷ ps) b h =
    let e : dropped p.0 (p ∷ ps) ≡ ps = head_dropped (same p.0 p.0) ps (p ∷ dropped p.0 ps) (nat_list_eq_equiv.refl p.0) in
    let rest : IsReordered ps (dropped p.0 b) = λ x. ap (of_name x) (sym e) ∙ dropped_alike p.0 (p ∷ ps) b h x in
    dropped_weight p.0 (p ∷ ps)
    ∙ ap (λ l. heaviness (first_of l) + weights (dropped p.0 (p ∷ ps))) (h p.0)
    ∙ ap (λ l. heaviness (first_of (of_name p.0 b)) + weights l) e
    ∙ ap (λ k. heaviness (first_of (of_name p.0 b)) + k) (weights_alike ps (dropped p.0 b) rest)
    ∙ sym (dropped_weight p.0 b)

-- ---- names that don't stand twice

-- the pair of a name that has a value
abbrev listed : List ℕ → Option Value → Values
listed w None = []
listed w (Some v) = (w, v) ∷ []

none_of : (w : List ℕ) (values : Values) → AllByRecursion (λ y. same w y ≡ false) (names_of values) → of_name w values ≡ []
none_of w [] h = refl
none_of w (p ∷ ps) h = passed (same w p.0) h.0 (none_of w ps h.1)
  where
    passed : (b : Bool) → b ≡ false → of_name w ps ≡ [] → cond b (p ∷ of_name w ps) (of_name w ps) ≡ []
    passed true e f = cc
    passed false e f = f

one_each : (values : Values) → IsDistinct same (names_of values) → (w : List ℕ) → of_name w values ≡ listed w (beside w values)
unfolding IsDistinct
one_each [] d w = refl
one_each (p ∷ ps) d w = found (same w p.0) refl (one_each ps d.1 w)
  where
    found : (b : Bool) → same w p.0 ≡ b → of_name w ps ≡ listed w (beside w ps) →
        cond b (p ∷ of_name w ps) (of_name w ps) ≡ listed w (option_map (λ x. x.1) (cond b (Some p) (find (λ x. same w x.0) ps)))
    found true e rest = ap (λ l. p ∷ l) (ap (λ y. of_name y ps) (same_is w p.0 e) ∙ none_of p.0 ps d.0) ∙ ap (λ y. (y, p.1) ∷ []) (sym (same_is w p.0 e))
    found false e rest = rest

pub orders_are_reordered : OrdersAreReordered
orders_are_reordered a b d p w =
    let other = IsDistinct-IsPermutation same nat_list_eq_equiv.symm (names_of a) (names_of b) (IsPermutation-map (λ x. x.0) a b p) d in
    one_each a d w ∙ ap (listed w) (orders_agree a b d p w) ∙ sym (one_each b other w)

-- Sorted lists without doubles.
use Rattle.std.proofs.Common.{◌≡◌, ◌⊎◌, inl, inr, ℕ, zero, suc, ◌<◌, ◌≤◌, Bool, true, false, ◌||◌, List, [], ◌∷◌, ◌++◌, length, append_assoc, get_or, Option}
use Rattle.std.proofs.Common.{Some, None, Ok, Err, refl, sym, ap, ◌∙◌, subst, arith, add-one}
use Rattle.std.proofs.Math.Bool.{or-false, or_assoc}
use Rattle.std.proofs.lemmas.Bool.{false≢true, cases_Bool, or_left}
use Rattle.std.specs.declared.cmp.Ordering.{Ordering}
use Rattle.std.specs.declared.cmp.Ordering.TheVariants.{Less, Equal, Greater}
use Rattle.std.specs.Ordering.{nat_cmp, is_eq, is_lt, match_ordering, ordering_reverse, ordering_then}
use Rattle.std.specs.Cmp.{IsTotalOrder}
use Rattle.std.specs.Cmp.Lexicographic.{slice_cmp}
use Rattle.std.specs.List.{AllByRecursion, insert, list_any}
use Rattle.std.specs.Slice.{IsItemAt}
use Rattle.std.specs.List.Sorted.{IsBinarySearchResult, IsSortedBy}
use Rattle.std.proofs.lemmas.Cmp.{tied_itself, ranked}
use Rattle.std.proofs.lemmas.List.Sorted.{searchable_from_sorted}
use Rattle.bw_solve.specs.Sets.{IsSet, has, merge}
use Rattle.bw_solve.specs.Lawful.SetLaws.{above_lacks, has_congr, merge_has, merge_set}
use Rattle.bw_solve.proofs.Search.{found}
use Rattle.bw_faults.specs.declared.fault.Fault.{Fault}
use Rattle.bw_faults.specs.Order.{group, template_rank, fault_cmp, fault_total}
use Rattle.bw_faults.specs.Lists.{Lists, OneList}

three : (o : Ordering) → ((o ≡ Less) ⊎ (o ≡ Equal)) ⊎ (o ≡ Greater)
three Less = inl (inl refl)
three Equal = inl (inr refl)
three Greater = inr refl

all_weaker : {T : Type 0} (P Q : T → Type 0) (xs : List T) → ((x : T) → P x → Q x) → AllByRecursion P xs → AllByRecursion Q xs
all_weaker P Q [] f h = h
all_weaker P Q (x ∷ xs) f h = (f x h.0, all_weaker P Q xs f h.1)

same_Equal : (o : Ordering) → is_eq o ≡ true → o ≡ Equal
same_Equal Less h = absurd (false≢true h)
same_Equal Equal h = refl
same_Equal Greater h = absurd (false≢true h)

drop_head : (a b c : Bool) → a ≡ true → b ≡ false → c ≡ false → b ≡ c
drop_head a b c p q r = q ∙ sym r

module _ {T : Type 0} {cmp : T → T → Ordering} (o : IsTotalOrder cmp) where
  itself : (x : T) (xs : List T) → has cmp (x ∷ xs) x ≡ true
  itself x xs = or_left (is_eq (cmp x x)) (has cmp xs x) (ap is_eq (tied_itself o x))

  -- what is below the first member is none
  below_lacks : (x y : T) (ys : List T) → cmp x y ≡ Less → IsSet cmp (y ∷ ys) → has cmp (y ∷ ys) x ≡ false
  below_lacks x y ys e s = above_lacks o x (y ∷ ys) (e, all_weaker (λ z. cmp y z ≡ Less) (λ z. cmp x z ≡ Less) ys (λ z k. o.trans x y z e k) s.0)

  tails : (x y : T) (xs ys : List T) → x ≡ y → IsSet cmp (x ∷ xs) → IsSet cmp (y ∷ ys) → ((z : T) → has cmp (x ∷ xs) z ≡ has cmp (y ∷ ys) z) → (z : T)
      → has cmp xs z ≡ has cmp ys z
  tails x y xs ys e s t h z = elim (cases_Bool (is_eq (cmp x z))) [
    | inl here ↦
        let k = same_Equal _ here in
        let l : has cmp xs z ≡ false = sym (has_congr o xs x z k) ∙ above_lacks o x xs s.0 in
        let m : has cmp ys z ≡ false = sym (has_congr o ys x z k) ∙ ap (has cmp ys) e ∙ above_lacks o y ys t.0 in
        l ∙ sym m
    | inr other ↦
        ap (λ b. b || has cmp xs z) (sym other) ∙ h z ∙ ap (λ b. b || has cmp ys z) (ap (λ w. is_eq (cmp w z)) (sym e) ∙ other)
  ]

  -- sets with the same members are equal
  pub set_equal : ((x y : T) → cmp x y ≡ Equal → x ≡ y) → (xs ys : List T) → IsSet cmp xs → IsSet cmp ys → ((z : T) → has cmp xs z ≡ has cmp ys z) → xs ≡ ys
  set_equal same [] [] s t h = refl
  set_equal same [] (y ∷ ys) s t h = absurd (false≢true (h y ∙ itself y ys))
  set_equal same (x ∷ xs) [] s t h = absurd (false≢true (sym (h x) ∙ itself x xs))
  set_equal same (x ∷ xs) (y ∷ ys) s t h = elim (three (cmp x y)) [
    | inl r ↦ elim r [
      | inl e ↦ absurd (false≢true (sym (below_lacks x y ys e t) ∙ sym (h x) ∙ itself x xs))
      | inr e ↦ let k = same x y e in (λ i. k i ∷ set_equal same xs ys s.1 t.1 (tails x y xs ys k s t h) i)
    ]
    | inr e ↦ absurd (false≢true (sym (below_lacks y x xs (o.antisymm y x ∙ ap ordering_reverse e) s) ∙ h y ∙ itself y ys))
  ]

  -- nothing more joins a set without changing it
  pub merge_nothing : (xs : List T) → merge cmp xs [] ≡ xs
  merge_nothing [] = refl
  merge_nothing (x ∷ xs) = refl

  by_order : (P : List T → Type 0) (r : Ordering) (a b c : List T) → (r ≡ Less → P a) → (r ≡ Equal → P b) → (r ≡ Greater → P c) → P (match_ordering r a b c)
  by_order P Less a b c l e g = l refl
  by_order P Equal a b c l e g = e refl
  by_order P Greater a b c l e g = g refl

  -- a member that is there already
  pub add_there : (xs : List T) (x : T) → IsSet cmp xs → has cmp xs x ≡ true → merge cmp xs (x ∷ []) ≡ xs
  add_there [] x s h = absurd (false≢true h)
  add_there (y ∷ ys) x s h = by_order (λ l. l ≡ y ∷ ys) (cmp y x) _ _ _
      (λ e. ap (λ l. y ∷ l) (add_there ys x s.1 (sym (ap (λ r. is_eq r || has cmp ys x) e) ∙ h)))
      (λ e. ap (λ l. y ∷ l) (merge_nothing ys))
      (λ e. absurd (false≢true (sym (below_lacks x y ys (o.antisymm x y ∙ ap ordering_reverse e) s) ∙ h)))

  -- a member put between those below and those above
  pub add_between : (xs : List T) (i : ℕ) (x : T) → i ≤ length xs → ((k : ℕ) (d : T) → k < i → cmp (get_or xs k d) x ≡ Less)
      → ((k : ℕ) (d : T) → i ≤ k → k < length xs → cmp (get_or xs k d) x ≡ Greater)
      → insert xs i x ≡ merge cmp xs (x ∷ [])
  add_between [] zero x h p q = refl
  add_between [] (suc i) x h p q = absurd (omega (arith, h))
  add_between (y ∷ ys) zero x h p q = by_order (λ l. x ∷ y ∷ ys ≡ l) (cmp y x) _ _ _
      (λ e. absurd (not_less (sym e ∙ q 0 x (omega arith) (omega arith))))
      (λ e. absurd (not_equal (sym e ∙ q 0 x (omega arith) (omega arith))))
      (λ e. refl)
    where
      not_less : Less ≡ Greater → ⊥
      not_less e = false≢true (sym (ap is_lt e))

      not_equal : Equal ≡ Greater → ⊥
      not_equal e = false≢true (sym (ap is_eq e))
  add_between (y ∷ ys) (suc i) x h p q = by_order (λ l. insert (y ∷ ys) (suc i) x ≡ l) (cmp y x) _ _ _
      (λ e. ap (λ l. y ∷ l) (add_between ys i x (omega (arith, h)) (λ k d l. p (suc k) d (omega (arith, l)))
      (λ k d l m. q (suc k) d (omega (arith, l)) (omega (arith, m)))))
      (λ e. absurd (false≢true (ap is_lt (sym e ∙ p 0 x (omega arith)))))
      (λ e. absurd (false≢true (ap is_lt (sym e ∙ p 0 x (omega arith)))))

set_steps : {T : Type 0} (cmp : T → T → Ordering) (xs : List T) → IsSet cmp xs → (k : ℕ) (d : T) → suc k < length xs
    → cmp (get_or xs k d) (get_or xs (suc k) d) ≡ Less
set_steps cmp [] s k d h = absurd (omega arith)
set_steps cmp (x ∷ []) s k d h = absurd (omega arith)
set_steps cmp (x ∷ y ∷ ys) s zero d h = s.0.0
set_steps cmp (x ∷ y ∷ ys) s (suc k) d h = set_steps cmp (y ∷ ys) s.1 k d (omega arith)

set_sorted : {T : Type 0} {cmp : T → T → Ordering} → IsTotalOrder cmp → (xs : List T) → IsSet cmp xs → IsSortedBy (λ a b. is_lt (cmp a b)) xs
set_sorted {cmp = cmp} o xs s k d l h = rw add-one (ap is_lt
    (o.antisymm (get_or xs (suc k) d) (get_or xs k d) ∙ ap ordering_reverse (set_steps cmp xs s k d (let n : suc k < length xs = omega arith in n))))

-- what a binary search answers gives the set with the member
pub inserted : {T : Type 0} {cmp : T → T → Ordering} → IsTotalOrder cmp → (xs : List T) (x : T) (i : ℕ) → IsSet cmp xs → i ≤ length xs
    → IsBinarySearchResult (λ y. cmp y x) xs (Err i) → insert xs i x ≡ merge cmp xs (x ∷ [])
inserted o xs x i s h p =
    let parts = p (searchable_from_sorted o (λ y. y) xs x (set_sorted o xs s)) in
    add_between o xs i x h (λ k d l. parts.0 k d (omega arith) l) (λ k d l m. parts.1 k d l m)

pub was_there : {T : Type 0} {cmp : T → T → Ordering} → IsTotalOrder cmp → (xs : List T) (x : T) (i : ℕ) → IsSet cmp xs → i < length xs
    → IsBinarySearchResult (λ y. cmp y x) xs (Ok i) → merge cmp xs (x ∷ []) ≡ xs
was_there o xs x i s h p = add_there o xs x s (sym (found _ o xs x s (Ok i) h p))

then_parts : (a b : Ordering) → ordering_then a b ≡ Equal → (a ≡ Equal) × (b ≡ Equal)
then_parts Less b h = absurd (false≢true (ap is_eq h))
then_parts Equal b h = (refl, h)
then_parts Greater b h = absurd (false≢true (ap is_eq h))

same_nat : (a b : ℕ) → nat_cmp a b ≡ Equal → a ≡ b
same_nat a b h = let r : a ≡ b = ranked a b Equal (sym h) in r

same_list : (xs ys : List ℕ) → slice_cmp nat_cmp xs ys ≡ Equal → xs ≡ ys
same_list [] [] h = refl
same_list [] (y ∷ ys) h = absurd (false≢true (ap is_eq h))
same_list (x ∷ xs) [] h = absurd (false≢true (ap is_eq h))
same_list (x ∷ xs) (y ∷ ys) h = let p = then_parts (nat_cmp x y) (slice_cmp nat_cmp xs ys) h in λ i. same_nat x y p.0 i ∷ same_list xs ys p.1 i

same_template : (a b : Option ℕ) → template_rank a ≡ template_rank b → a ≡ b
same_template None None h = refl
same_template None (Some n) h = absurd (omega arith)
same_template (Some m) None h = absurd (omega arith)
same_template (Some m) (Some n) h = let e : m ≡ n = omega arith in ap Some e

-- faults that tie are equal
pub same_fault : (x y : Fault) → fault_cmp x y ≡ Equal → x ≡ y
same_fault x y h =
    let p = then_parts _ (slice_cmp nat_cmp x.detail y.detail) h in
    let q = then_parts _ (nat_cmp x.number y.number) p.0 in
    let r = then_parts _ (nat_cmp x.place y.place) q.0 in
    let s = then_parts _ (nat_cmp (template_rank x.template) (template_rank y.template)) r.0 in
    let t = then_parts (nat_cmp x.point y.point) (nat_cmp (group x) (group y)) s.0 in
    λ i. record {
      number = same_nat x.number y.number q.1 i;
      point = same_nat x.point y.point t.0 i;
      template = same_template x.template y.template (same_nat _ _ s.1) i;
      place = same_nat x.place y.place r.1 i;
      detail = same_list x.detail y.detail p.1 i;
    }

pub one_list : OneList
one_list xs ys s t h = set_equal fault_total same_fault xs ys s t h

-- so there is one list of the faults of which something holds
pub lists_unique : (P : Fault → Type 0) (xs ys : List Fault) → Lists P xs → Lists P ys → xs ≡ ys
lists_unique P xs ys p q = one_list xs ys p.set q.set (λ z. elim (cases_Bool (has fault_cmp xs z)) [
  | inl there ↦ there ∙ sym (q.whole z (p.sound z there))
  | inr absent ↦ elim (cases_Bool (has fault_cmp ys z)) [
    | inl there ↦ absurd (false≢true (sym absent ∙ p.whole z (q.sound z there)))
    | inr also ↦ absent ∙ sym also
  ]
])

any_end : (p : Fault → Bool) (xs : List Fault) (x : Fault) → list_any p (xs ++ x ∷ []) ≡ (list_any p xs || p x)
any_end p [] x = or-false (p x)
any_end p (y ∷ ys) x = ap (λ b. p y || b) (any_end p ys x) ∙ sym (or_assoc (p y) (list_any p ys) (p x))

all_front : (P : Fault → Type 0) (xs ys : List Fault) → AllByRecursion P (xs ++ ys) → AllByRecursion P xs
all_front P [] ys h = tt
all_front P (x ∷ xs) ys h = (h.0, all_front P xs ys h.1)

-- the front of a set is a set
set_front : (xs ys : List Fault) → IsSet fault_cmp (xs ++ ys) → IsSet fault_cmp xs
set_front [] ys s = tt
set_front (x ∷ xs) ys s = (all_front (λ y. fault_cmp x y ≡ Less) xs ys s.0, set_front xs ys s.1)

-- a list without a first fault is empty
pub no_front : (xs : List Fault) → IsItemAt xs 0 None → xs ≡ []
no_front [] h = refl
no_front (x ∷ xs) h = let few : length (x ∷ xs) ≤ 0 = h.3 in absurd (omega (arith, few))

-- one fault more of another list
pub joined_more : (old xs : List Fault) (x : Fault) (rest : List Fault) → IsSet fault_cmp old → IsSet fault_cmp (xs ++ x ∷ rest)
    → merge fault_cmp (merge fault_cmp old xs) (x ∷ []) ≡ merge fault_cmp old (xs ++ x ∷ [])
joined_more old xs x rest s t =
    let front = set_front xs (x ∷ rest) t in
    let more = set_front (xs ++ x ∷ []) rest (subst (IsSet fault_cmp) (sym (append_assoc xs (x ∷ []) rest)) t) in
    one_list (merge fault_cmp (merge fault_cmp old xs) (x ∷ [])) (merge fault_cmp old (xs ++ x ∷ []))
    (merge_set fault_total (merge fault_cmp old xs) (x ∷ []) (merge_set fault_total old xs s front) (tt, tt))
    (merge_set fault_total old (xs ++ x ∷ []) s more) (λ z.
    merge_has fault_total (merge fault_cmp old xs) (x ∷ []) z ∙ ap (λ b. b || (is_eq (fault_cmp x z) || false)) (merge_has fault_total old xs z)
    ∙ ap (λ b. (has fault_cmp old z || has fault_cmp xs z) || b) (or-false (is_eq (fault_cmp x z)))
    ∙ or_assoc (has fault_cmp old z) (has fault_cmp xs z) (is_eq (fault_cmp x z))
    ∙ ap (λ b. has fault_cmp old z || b) (sym (any_end (λ y. is_eq (fault_cmp y z)) xs x))
    ∙ sym (merge_has fault_total old (xs ++ x ∷ []) z))

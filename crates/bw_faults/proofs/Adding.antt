-- Adding to lists of faults.
use Rattle.std.proofs.Common.{◌≡◌, ◌⊎◌, inl, inr, ℕ, zero, suc, ◌+◌, ◌<◌, Bool, true, false, ◌||◌, List, [], ◌∷◌, ◌++◌, length, take, get_or, refl, sym, ap}
use Rattle.std.proofs.Common.{◌∙◌, subst, arith}
use Rattle.std.proofs.Math.Bool.{or-false}
use Rattle.std.proofs.lemmas.Bool.{false≢true, or_cases, or_left, or_right}
use Rattle.std.proofs.lemmas.Cmp.{tied_itself}
use Rattle.std.proofs.lemmas.List.{take_more}
use Rattle.std.specs.declared.cmp.Ordering.{Ordering}
use Rattle.std.specs.declared.cmp.Ordering.TheVariants.{Less, Equal, Greater}
use Rattle.std.specs.List.{Contains}
use Rattle.std.specs.Ordering.{is_eq}
use Rattle.bw_solve.specs.Sets.{IsSet, has, merge}
use Rattle.bw_solve.specs.Lawful.SetLaws.{merge_has}
use Rattle.bw_faults.specs.declared.fault.Fault.{Fault}
use Rattle.bw_faults.specs.Lists.{Lists, Adds, When, OfSome}
use Rattle.bw_faults.specs.Order.{fault_cmp, fault_total}
use Rattle.bw_faults.proofs.Lists.{same_fault}

is_Equal : (o : Ordering) → is_eq o ≡ true → o ≡ Equal
is_Equal Less h = absurd (false≢true h)
is_Equal Equal h = refl
is_Equal Greater h = absurd (false≢true h)

pub adds_none : (P : Fault → Type 0) (old : List Fault) → ((x : Fault) → P x → ⊥) → Adds P old old
adds_none P old h = record { sound = λ x k. inl k; kept = λ x k. k; whole = λ x p. absurd (h x p) }

-- one and then another
pub adds_then : {P Q : Fault → Type 0} (R : Fault → Type 0) {a b c : List Fault} → Adds P a b → Adds Q b c
    → ((x : Fault) → P x ⊎ Q x → R x) → ((x : Fault) → R x → P x ⊎ Q x) → Adds R a c
adds_then R p q to from = record {
  sound = λ x h. elim (q.sound x h) [
    | inl k ↦ elim (p.sound x k) [ inl l ↦ inl l | inr l ↦ inr (to x (inl l)) ]
    | inr k ↦ inr (to x (inr k))
  ];
  kept = λ x h. q.kept x (p.kept x h);
  whole = λ x r. elim (from x r) [ inl l ↦ q.kept x (p.whole x l) | inr l ↦ q.whole x l ];
}

-- one fault
pub adds_fault : (f : Fault) (P : Fault → Type 0) (old : List Fault) → ((x : Fault) → x ≡ f → P x) → ((x : Fault) → P x → x ≡ f)
    → Adds P old (merge fault_cmp old (f ∷ []))
adds_fault f P old to from = record {
  sound = λ x h. elim (or_cases (has fault_cmp old x) (is_eq (fault_cmp f x) || false) (sym (merge_has fault_total old (f ∷ []) x) ∙ h)) [
    | inl k ↦ inl k
    | inr k ↦ inr (to x (sym (same_fault f x (is_Equal (fault_cmp f x) (sym (or-false (is_eq (fault_cmp f x))) ∙ k)))))
  ];
  kept = λ x h. merge_has fault_total old (f ∷ []) x ∙ or_left _ _ h;
  whole = λ x p. merge_has fault_total old (f ∷ []) x ∙ or_right (has fault_cmp old x) _
      (or_left _ false (ap is_eq (ap (fault_cmp f) (from x p) ∙ tied_itself fault_total f)));
}

-- a fault that is none
pub adds_when_not : (b : Bool) (f : Fault) (old : List Fault) → b ≡ false → Adds (When b f) old old
adds_when_not b f old e = adds_none (When b f) old (λ x h. absurd (false≢true (sym e ∙ h.0)))

pub adds_when : (b : Bool) (f : Fault) (old new : List Fault) → b ≡ true → new ≡ merge fault_cmp old (f ∷ []) → Adds (When b f) old new
adds_when b f old new e n = subst (λ xs. Adds (When b f) old xs) (sym n) (adds_fault f (When b f) old (λ x k. (e, k)) (λ x k. k.1))

-- of some among two lists
some_append : {X : Type 0} (P : X → Fault → Type 0) (xs ys : List X) (f : Fault) → OfSome P xs f ⊎ OfSome P ys f → OfSome P (xs ++ ys) f
some_append P [] ys f (inl h) = absurd h
some_append P [] ys f (inr h) = h
some_append P (x ∷ xs) ys f (inl (inl h)) = inl h
some_append P (x ∷ xs) ys f (inl (inr h)) = inr (some_append P xs ys f (inl h))
some_append P (x ∷ xs) ys f (inr h) = inr (some_append P xs ys f (inr h))

some_back : {X : Type 0} (P : X → Fault → Type 0) (xs ys : List X) (f : Fault) → OfSome P (xs ++ ys) f → OfSome P xs f ⊎ OfSome P ys f
some_back P [] ys f h = inr h
some_back P (x ∷ xs) ys f (inl h) = inl (inl h)
some_back P (x ∷ xs) ys f (inr h) = elim (some_back P xs ys f h) [ inl k ↦ inl (inr k) | inr k ↦ inr k ]

one_in : {X : Type 0} (P : X → Fault → Type 0) (x : X) (f : Fault) → OfSome P (x ∷ []) f → P x f
one_in P x f (inl h) = h
one_in P x f (inr h) = absurd h

-- those of one more
pub adds_more : {X : Type 0} (P : X → Fault → Type 0) (xs : List X) (i : ℕ) (x : X) (a b c : List Fault) → x ≡ get_or xs i x → i < length xs
    → Adds (OfSome P (take i xs)) a b → Adds (P x) b c → Adds (OfSome P (take (i + 1) xs)) a c
adds_more P xs i x a b c e h p q =
    subst (λ ys. Adds (OfSome P ys) a c) (sym (take_more xs i x h ∙ ap (λ y. take i xs ++ y ∷ []) (sym e)))
    (adds_then (OfSome P (take i xs ++ x ∷ [])) p q
    (λ f k. some_append P (take i xs) (x ∷ []) f (elim k [ inl l ↦ inl l | inr l ↦ inr (inl l) ]))
    (λ f k. elim (some_back P (take i xs) (x ∷ []) f k) [ inl l ↦ inl l | inr l ↦ inr (one_in P x f l) ]))

-- what was added to the empty list is all
pub all_added : (P : Fault → Type 0) (l : List Fault) → IsSet fault_cmp l → Adds P [] l → Lists P l
all_added P l s a = record { set = s; sound = λ x h. elim (a.sound x h) [ inl k ↦ absurd (false≢true k) | inr k ↦ k ]; whole = a.whole }

-- an empty list of all faults
pub none_of : {P : Fault → Type 0} (l : List Fault) → l ≡ [] → Lists P l → (f : Fault) → P f → ⊥
none_of {P = P} l e h f p = false≢true ((subst (λ xs. Lists P xs) e h).whole f p)

-- of one of a list
pub some_to : {X : Type 0} (P : X → Fault → Type 0) (xs : List X) (f : Fault) → OfSome P xs f → (x : X) × Contains xs x × P x f
some_to P [] f h = absurd h
some_to P (x ∷ xs) f (inl h) = (x, (0, omega arith, refl), h)
some_to P (x ∷ xs) f (inr h) = let r = some_to P xs f h in (r.0, (suc r.1.0, omega (arith, r.1.1), r.1.2), r.2)

some_at : {X : Type 0} (P : X → Fault → Type 0) (xs : List X) (f : Fault) (k : ℕ) (x : X) → k < length xs → get_or xs k x ≡ x → P x f → OfSome P xs f
some_at P [] f k x l e h = absurd (omega arith)
some_at P (y ∷ xs) f zero x l e h = inl (subst (λ z. P z f) (sym e) h)
some_at P (y ∷ xs) f (suc k) x l e h = inr (some_at P xs f k x (omega (arith, l)) e h)

pub some_from : {X : Type 0} (P : X → Fault → Type 0) (xs : List X) (f : Fault) (x : X) → Contains xs x → P x f → OfSome P xs f
some_from P xs f x c h = some_at P xs f c.0 x c.1 c.2 h

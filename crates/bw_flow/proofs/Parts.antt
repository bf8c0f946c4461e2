-- Parts of a flow.
use Rattle.std.proofs.Common.{◌≡◌, ◌⊎◌, ℕ, ◌+◌, Bool, true, false, List, [], ◌∷◌, ◌++◌, length, refl, ap, sym, ◌∙◌, subst, inl, inr, arith, append_assoc, Some}
use Rattle.std.specs.Prelude.{slice_get}
use Rattle.std.proofs.lemmas.List.{length-append}
use Rattle.std.proofs.lemmas.List.Sums.{sum_by-cons}
use Rattle.bw_lang.specs.declared.service.Session.{Session}
use Rattle.bw_lang.specs.Service.Code.{numbered}
use Rattle.bw_lang.specs.Service.Numbers.{statements}
use Rattle.bw_flow.specs.Steps.{Step}
use Rattle.bw_flow.specs.Stands.{IsAt}

pub either : (b : Bool) → (b ≡ true) ⊎ (b ≡ false)
either true = inl refl
either false = inr refl

-- these points stand in the flow from place p on
abbrev pub Holds : List Step → ℕ → List Step → Type 0
Holds flow p [] = Unit {0}
Holds flow p (x ∷ xs) = IsAt flow p x × Holds flow (p + 1) xs

pub holds_at : (flow : List Step) (p q : ℕ) (xs : List Step) → p ≡ q → Holds flow p xs → Holds flow q xs
holds_at flow p q xs e h = subst (λ r. Holds flow r xs) e h

pub holds_parts : (flow : List Step) (p : ℕ) (xs ys : List Step) → Holds flow p (xs ++ ys) → Holds flow p xs × Holds flow (p + length xs) ys
holds_parts flow p [] ys h = (tt, holds_at flow p (p + 0) ys (omega arith) h)
holds_parts flow p (x ∷ xs) ys h =
    let r = holds_parts flow (p + 1) xs ys h.1 in
    ((h.0, r.0), holds_at flow (p + 1 + length xs) (p + length (x ∷ xs)) ys (omega arith) r.1)

get_here : (pre : List Step) (x : Step) (xs : List Step) → slice_get (pre ++ x ∷ xs) (length pre) ≡ Some x
get_here [] x xs = refl
get_here (y ∷ pre) x xs = get_here pre x xs

holds_from : (pre xs : List Step) → Holds (pre ++ xs) (length pre) xs
holds_from pre [] = tt
holds_from pre (x ∷ xs) =
    let l : length (pre ++ x ∷ []) ≡ length pre + 1 = omega (arith, length-append pre (x ∷ [])) in
    let r = holds_from (pre ++ x ∷ []) xs in
    (get_here pre x xs, subst (λ f. Holds f (length pre + 1) xs) (append_assoc pre (x ∷ []) xs) (holds_at ((pre ++ x ∷ []) ++ xs) _ (length pre + 1) xs l r))

pub holds_self : (flow : List Step) → Holds flow 0 flow
holds_self flow = holds_from [] flow

-- ---- how many statements sessions have

abbrev pub sizes : List Session → ℕ
sizes [] = 0
sizes (s ∷ ss) = numbered s.body + sizes ss

pub sizes_are : (ss : List Session) → sizes ss ≡ statements ss
sizes_are [] = refl
sizes_are (s ∷ ss) = ap (λ k. numbered s.body + k) (sizes_are ss) ∙ sym (sum_by-cons (λ z. numbered z.body) s ss)

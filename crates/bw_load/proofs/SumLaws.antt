-- The summary of a document, operation by operation.
use Rattle.std.proofs.Common.{◌≡◌, ◌<◌, ℕ, Bool, true, List, [], ◌∷◌, ◌++◌, length, Option, Some, None, refl, sym, ap, subst, ◌∙◌, append_assoc}
use Rattle.std.specs.Prelude.{is_some}
use Rattle.std.specs.List.{AllByRecursion}
use Rattle.bw_saved.specs.Fields.Reading.{◌>>=◌}
use Rattle.std.proofs.lemmas.List.{append-nil}
use Rattle.bw_saved.proofs.Codecs.{bind_some, some_is}
use Rattle.bw_doc.specs.Made.{Made, constant, plug, plug_text}
use Rattle.bw_doc.specs.Operations.{Operation, operations}
use Rattle.bw_doc.specs.Operations as ops
use Rattle.bw_lang.specs.declared.service.Service.{Service}
use Rattle.bw_load.specs.Sums.{sum_of, done, all_done, IsKnown}
use Rattle.bw_saved.specs.Documents.Demands.{IsBuilt}
use Rattle.bw_sum.specs.declared.summary.Summary.{Summary}

-- the operations of a document put its summary on top
pub sums_up : (service : Service) (d : Made) (more : List Operation) (stack : List Summary) →
    all_done service (operations d ++ more) stack ≡ all_done service more (sum_of service d ∷ stack)
sums_up service (constant n items) more stack = refl
sums_up service (plug b g a) more stack =
    ap (λ (os : List Operation). all_done service os stack)
    (append_assoc (operations b) (operations a ++ ops.plug g ∷ []) more ∙ ap (λ (os : List Operation). operations b ++ os)
    (append_assoc (operations a) (ops.plug g ∷ []) more))
    ∙ sums_up service b (operations a ++ (ops.plug g ∷ more)) stack ∙ sums_up service a (ops.plug g ∷ more) (sum_of service b ∷ stack)
sums_up service (plug_text b g s) more stack =
    ap (λ (os : List Operation). all_done service os stack) (append_assoc (operations b) (ops.plug_text g s ∷ []) more)
    ∙ sums_up service b (ops.plug_text g s ∷ more) stack

pub sum_is : (service : Service) (d : Made) → all_done service (operations d) [] ≡ Some (sum_of service d ∷ [])
sum_is service d = ap (λ (os : List Operation). all_done service os []) (sym (append-nil (operations d))) ∙ sums_up service d [] []

-- ---- operations of built documents

known_both : (service : Service) (xs ys : List Operation) → AllByRecursion (IsKnown service) xs → AllByRecursion (IsKnown service) ys →
    AllByRecursion (IsKnown service) (xs ++ ys)
known_both service [] ys h k = k
known_both service (x ∷ xs) ys h k = (h.0, known_both service xs ys h.1 k)

pub built_known : (service : Service) (d : Made) → IsBuilt service d → AllByRecursion (IsKnown service) (operations d)
built_known service (constant n items) h = (h.0, tt)
built_known service (plug b g a) h =
    known_both service (operations b) (operations a ++ ops.plug g ∷ []) (built_known service b h.0)
    (known_both service (operations a) (ops.plug g ∷ []) (built_known service a h.1) (tt, tt))
built_known service (plug_text b g s) h = known_both service (operations b) (ops.plug_text g s ∷ []) (built_known service b h.0) (tt, tt)

-- ---- as a loop goes over them

pub known_next : (service : Service) (old new : List Operation) (o : Operation) → old ≡ o ∷ new → AllByRecursion (IsKnown service) old →
    IsKnown service o × AllByRecursion (IsKnown service) new
known_next service old new o e h = subst (λ (os : List Operation). AllByRecursion (IsKnown service) os) e h

pub done_next : (service : Service) (old new : List Operation) (o : Operation) (stack next : List Summary) (x : Option (List Summary)) → old ≡ o ∷ new →
    done service o stack ≡ Some next → all_done service old stack ≡ x → all_done service new next ≡ x
done_next service old new o stack next x e d h =
    sym (ap (λ (os : List Operation). all_done service os stack) e ∙ ap (λ (r : Option (List Summary)). r >>= all_done service new) d) ∙ h

some_there : {A : Type 0} (o : Option A) (f : A → Option A) (x : A) → (o >>= f) ≡ Some x → is_some o ≡ true
some_there None f x e = absurd (cc)
some_there (Some a) f x e = refl

-- what the next operation takes is on the stack
pub done_ready : (service : Service) (old new : List Operation) (o : Operation) (stack x : List Summary) → old ≡ o ∷ new →
    all_done service old stack ≡ Some x → is_some (done service o stack) ≡ true
done_ready service old new o stack x e h =
    some_there (done service o stack) (all_done service new) x (sym (ap (λ (os : List Operation). all_done service os stack) e) ∙ h)

pub done_end : (service : Service) (old : List Operation) (stack : List Summary) (s : Summary) → old ≡ [] → all_done service old stack ≡ Some (s ∷ []) →
    stack ≡ s ∷ []
done_end service old stack s e h = some_is stack (s ∷ []) (sym (ap (λ (os : List Operation). all_done service os stack) e) ∙ h)

-- The replies of all links that wait can be written.
use Rattle.std.proofs.Common.{◌≡◌, List, [], ◌∷◌, ◌++◌, sym, subst}
use Rattle.std.specs.List.{AllByRecursion}
use Rattle.bw_lang.specs.declared.service.Service.{Service}
use Rattle.bw_world.specs.Streams.Taking.{AreFit}
use Rattle.bw_keeping.specs.declared.waiting.Waiting.{Waiting}

all_then : {X : Type 0} (P : X → Type 0) (xs : List X) (x : X) → AllByRecursion P xs → P x → AllByRecursion P (xs ++ x ∷ [])
all_then P [] x all one = (one, tt)
all_then P (y ∷ xs) x (first, others) one = (first, all_then P xs x others one)

-- none waits
pub none_fits : {Link : Type 0} (service : Service) (ws : List (Waiting Link)) → ws ≡ [] → AllByRecursion (λ v. AreFit service v.taken) ws
none_fits {Link} service ws none = subst (λ (x : List (Waiting Link)). AllByRecursion (λ (v : Waiting Link). AreFit service v.taken) x) (sym none) tt

-- one more waits
pub fits_more : {Link : Type 0} (service later : Service) (ws now : List (Waiting Link)) (w : Waiting Link)
    → AllByRecursion (λ v. AreFit service v.taken) ws → AreFit service w.taken → now ≡ ws ++ w ∷ [] → later ≡ service
    → AllByRecursion (λ v. AreFit later v.taken) now
fits_more {Link} service later ws now w all one pushed same =
    subst (λ (s : Service). AllByRecursion (λ (v : Waiting Link). AreFit s v.taken) now) (sym same)
    (subst (λ (x : List (Waiting Link)). AllByRecursion (λ (v : Waiting Link). AreFit service v.taken) x) (sym pushed)
    (all_then (λ v. AreFit service v.taken) ws w all one))

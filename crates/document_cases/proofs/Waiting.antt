-- Where turns wait, in their order.
use Rattle.std.proofs.Common.{◌≡◌, ℕ, List, [], ◌∷◌, ◌++◌, Some, sym, subst}
use Rattle.std.specs.Prelude.{slice_get}
use Rattle.std.specs.List.{All}
use Rattle.std.proofs.lemmas.List.Elements.{All-nil, All-cons, All-append}
use Rattle.std.proofs.lemmas.Option.{slice_get_within, get_or_from_slice_get}
use Rattle.bw_lang.specs.declared.service.Service.{Service}
use Rattle.bw_flow.specs.Steps.{Step}
use Rattle.bw_run.specs.declared.turn.Frame.{Frame}
use Rattle.bw_run.specs.Fit.{IsFrame}

pub none_wait : (service : Service) (flow : List Step) (frames : List Frame) → frames ≡ [] → All (IsFrame service flow) frames
none_wait service flow frames e = subst (All (IsFrame service flow)) (sym e) (All-nil (IsFrame service flow))

pub waits_at : (service : Service) (flow : List Step) (frames : List Frame) (i : ℕ) (frame : Frame) → All (IsFrame service flow) frames →
    slice_get frames i ≡ Some frame → IsFrame service flow frame
waits_at service flow frames i frame h e =
    subst (IsFrame service flow) (get_or_from_slice_get frames i frame frame e) (h i frame (slice_get_within frames i frame e))

pub one_more_waits : (service : Service) (flow : List Step) (old new : List Frame) (frame : Frame) → All (IsFrame service flow) old →
    IsFrame service flow frame → new ≡ old ++ frame ∷ [] → All (IsFrame service flow) new
one_more_waits service flow old new frame h f e =
    let P = IsFrame service flow in
    subst (All P) (sym e) (All-append P old (frame ∷ []) h (All-cons P frame [] f (All-nil P)))

pub ruleset waiting_rules = (none_wait, waits_at, one_more_waits)

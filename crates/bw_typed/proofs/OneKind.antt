-- Each expression has the kind that its use demands.
use Rattle.std.proofs.Common.{◌≡◌, sym, ◌∙◌}
use Rattle.std.specs.Prelude.{Some}
use Rattle.std.proofs.lemmas.List.Elements.{All-weaker}
use Rattle.bw_lang.specs.declared.service.Service.{Service}
use Rattle.bw_lang.specs.declared.stmt.Kind.TheVariants.{Bool as Truth, Str, Html, Strs}
use Rattle.bw_lang.specs.Service.Code.{Code, done, declare, assign, if_then, if_else, while_loop, block, for_each, show, exit}
use Rattle.bw_lang.proofs.Small.{readable_is_woven}
use Rattle.bw_types.specs.Scopes.{Scope, no_locals, with_local, scope_behind, behind_each}
use Rattle.bw_types.specs.Typing.{IsTypedCode, IsTypedSession}
use Rattle.bw_types.proofs.CompleteKinds.{kind_passes}
use Rattle.bw_types.proofs.WellTyped.{typed}
use Rattle.bw_typed.specs.Kinds.{KindIsOne, KindsAgree, MeetsKinds, SessionsAreTyped, KindsAreMet}

pub kind_is_one : KindIsOne
kind_is_one s k e kind h = (kind_passes s k e kind h).1

pub kinds_agree : KindsAgree
kinds_agree s k e a b p q = let same : Some a ≡ Some b = sym (kind_is_one s k e a p) ∙ kind_is_one s k e b q in cc

meets : (s : Service) (k : Scope) (c : Code) → IsTypedCode s k c → MeetsKinds s k c
meets s k done h = tt
meets s k (declare kind w e c) h = (kind_is_one s k e kind h.1, meets s (with_local k w kind) c h.2)
meets s k (assign w e c) h = ((h.0.0, h.0.1, kind_is_one s k e h.0.0 h.0.2), meets s k c h.1)
meets s k (if_then e y c) h = (kind_is_one s k e Truth h.0, meets s k y h.1, meets s (scope_behind k y) c h.2)
meets s k (if_else e y n c) h = (
  kind_is_one s k e Truth h.0,
  meets s k y h.1,
  meets s (scope_behind k y) n h.2,
  meets s (scope_behind (scope_behind k y) n) c h.3,
)
meets s k (while_loop e y c) h = (kind_is_one s k e Truth h.0, meets s k y h.1, meets s (scope_behind k y) c h.2)
meets s k (block y c) h = (meets s k y h.0, meets s (scope_behind k y) c h.1)
meets s k (for_each w e y c) h = (kind_is_one s k e Strs h.1, meets s (with_local k w Str) y h.2, meets s (behind_each k w y) c h.3)
meets s k (show p rs c) h = (kind_is_one s k p Html h.0, meets s k c h.2)
meets s k (exit p c) h = (kind_is_one s k p Html h.0, meets s k c h.1)

pub sessions_are_typed : SessionsAreTyped
sessions_are_typed s r h = (typed s (readable_is_woven s r) h).sessions

pub kinds_are_met : KindsAreMet
kinds_are_met s r h =
    All-weaker (IsTypedSession s) (λ x. MeetsKinds s no_locals x.body) (λ x t. meets s no_locals x.body t.0) s.sessions (sessions_are_typed s r h)

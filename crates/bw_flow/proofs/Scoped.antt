-- In a service that is typed names are declared once, and before they are used.
use Rattle.std.proofs.Common.{◌≡◌, ℕ, List, [], ◌∷◌, ap, sym, ◌∙◌}
use Rattle.std.specs.Prelude.{is_some}
use Rattle.std.specs.Option.{option_or}
use Rattle.std.proofs.lemmas.List.Elements.{All-weaker}
use Rattle.bw_lang.specs.declared.service.Service.{Service}
use Rattle.bw_lang.specs.declared.stmt.Kind.TheVariants as kinds
use Rattle.bw_lang.specs.Service.Code.{Code, done, declare, assign, if_then, if_else, while_loop, for_each, block, show, exit}
use Rattle.bw_lang.specs.Service.CodeNames.{local_names}
use Rattle.bw_types.specs.Scopes as names
use Rattle.bw_types.specs.Scopes.{Scope, no_locals, shared_kind, scope_behind, behind_each}
use Rattle.bw_types.specs.Typing.{IsTypedCode, IsTypedSession}
use Rattle.bw_flow.specs.declared.point.Local.{Local}
use Rattle.bw_flow.specs.Scoped.{is_known, IsScoped, TypedIsScoped}
use Rattle.bw_flow.specs.Scopes.{with_local}
use Rattle.bw_flow.specs.TypedFlow.{kind_at}
use Rattle.bw_lang.specs.Service.Order.{IsWoven}
use Rattle.bw_flow.proofs.Names.{Matches, matches_nothing, matches_more, matches_new, kind_in_is, kind_at_is, new_at}

known_is : (service : Service) (sc : List Local) (w : List ℕ) → is_known service sc w ≡ is_some (kind_at service sc w)
known_is service sc w = ap (λ o. is_some (option_or o (shared_kind service w))) (sym (kind_in_is sc w))

module _ (service : Service) (woven : IsWoven service) where
  scoped : (c : Code) (sc : List Local) (scope : Scope) → Matches service scope sc → IsTypedCode service scope c → IsScoped service c sc
  scoped done sc scope m t = tt
  scoped (declare k w e rest) sc scope m t = (
    known_is service sc w ∙ ap is_some (new_at service scope sc w woven m t.0),
    scoped rest (with_local sc w k) (names.with_local scope w k) (matches_new service scope sc w k woven m t.0) t.2,
  )
  scoped (assign w e rest) sc scope m t =
      let a = t.0 in (known_is service sc w ∙ ap is_some (sym (kind_at_is service scope sc w m) ∙ a.1), scoped rest sc scope m t.1)
  scoped (if_then e y rest) sc scope m t =
      (scoped y sc scope m t.1, scoped rest sc (scope_behind scope y) (matches_more service scope sc (local_names y) m) t.2)
  scoped (if_else e y o rest) sc scope m t =
      let m1 = matches_more service scope sc (local_names y) m in (
        scoped y sc scope m t.1,
        scoped o sc (scope_behind scope y) m1 t.2,
        scoped rest sc (scope_behind (scope_behind scope y) o) (matches_more service (scope_behind scope y) sc (local_names o) m1) t.3,
      )
  scoped (while_loop e y rest) sc scope m t =
      (scoped y sc scope m t.1, scoped rest sc (scope_behind scope y) (matches_more service scope sc (local_names y) m) t.2)
  scoped (block y rest) sc scope m t =
      (scoped y sc scope m t.0, scoped rest sc (scope_behind scope y) (matches_more service scope sc (local_names y) m) t.1)
  scoped (for_each w e y rest) sc scope m t = (
    known_is service sc w ∙ ap is_some (new_at service scope sc w woven m t.0),
    scoped y (with_local sc w kinds.Str) (names.with_local scope w kinds.Str) (matches_new service scope sc w kinds.Str woven m t.0) t.2,
    scoped rest sc (behind_each scope w y) (matches_more service scope sc (w ∷ local_names y) m) t.3,
  )
  scoped (show e rs rest) sc scope m t = scoped rest sc scope m t.2
  scoped (exit e rest) sc scope m t = scoped rest sc scope m t.1

pub typed_is_scoped : TypedIsScoped
typed_is_scoped service woven t =
    All-weaker (IsTypedSession service) (λ s. IsScoped service s.body [])
    (λ s h. scoped service woven s.body [] no_locals (matches_nothing service) h.0) service.sessions t.sessions

-- In a typed service each literal has the kind of its variable.
use Rattle.bw_lang.proofs.Options.{some_is}
use Rattle.std.proofs.Common.{◌≡◌, ℕ, suc, List, [], ◌∷◌, Some, refl, sym, ap, ◌∙◌, subst, arith}
use Rattle.std.specs.Prelude.{slice_get}
use Rattle.std.specs.List.{All, AllByRecursion}
use Rattle.bw_lang.specs.declared.service.Literal.{Literal}
use Rattle.bw_lang.specs.declared.service.Service.{Service}
use Rattle.bw_lang.specs.declared.service.Shared.{Shared}
use Rattle.bw_lang.specs.declared.stmt.Kind.{Kind}
use Rattle.bw_lang.specs.Table.Names.{same}
use Rattle.bw_types.specs.Scopes.{shared_kind}
use Rattle.bw_types.specs.Faults.{literal_kind}
use Rattle.bw_cover.specs.Abstracts.{Nothing, Strings}
use Rattle.bw_cover.specs.Kinds.{IsOf, TypedLiterals}
use Rattle.bw_cover.specs.Facts.{literal_known}
use Rattle.bw_cover.proofs.Checked.{template_of}
use Rattle.bw_flow.proofs.Names.{shared_is}
use Rattle.bw_lang.specs.declared.service.Literal.TheVariants as literals
use Rattle.bw_lang.specs.declared.stmt.Kind.TheVariants as kinds

module _ (service : Service) where
  literal_of : (l : Literal) (k : Kind) → literal_kind service l ≡ Some k → IsOf k (literal_known service l)
  literal_of (literals.Int n) k e = subst (λ x. IsOf x Nothing) (some_is kinds.Int k e) tt
  literal_of (literals.Bool b) k e = subst (λ x. IsOf x Nothing) (some_is kinds.Bool k e) tt
  literal_of (literals.Str s) k e = subst (λ x. IsOf x (Strings (same s))) (some_is kinds.Str k e) tt
  literal_of (literals.Tmpl w) k e = template_of service w k e

  each_literal : (vs : List Shared) → ((j : ℕ) (v : Shared) → slice_get vs j ≡ Some v → shared_kind service v.name ≡ Some v.kind)
      → All (λ (v : Shared). literal_kind service v.init ≡ Some v.kind) vs
      → AllByRecursion (λ (v : Shared). (kind : Kind) → shared_kind service v.name ≡ Some kind → IsOf kind (literal_known service v.init)) vs
  each_literal [] h t = tt
  each_literal (v ∷ vs) h t = (
    λ k e. literal_of v.init k (t 0 v (omega arith) ∙ ap Some (some_is v.kind k (sym (h 0 v refl) ∙ e))),
    each_literal vs (λ j u e. h (suc j) u e) (λ i d lt. t (suc i) d (omega arith)),
  )

pub typed_literals : TypedLiterals
typed_literals service woven t = each_literal service service.shared (shared_is service woven t) t.shared

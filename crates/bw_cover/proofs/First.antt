-- The shared variables begin covered.
use Rattle.std.proofs.Common.{◌≡◌, ℕ, Bool, true, false, List, [], ◌∷◌, Some, None, refl, sym, ap, ◌∙◌, subst}
use Rattle.std.specs.Prelude.{◌||◌, if◌then◌else◌, map, is_some}
use Rattle.std.specs.List.{AllByRecursion}
use Rattle.bw_lang.specs.declared.service.Literal.{Literal}
use Rattle.bw_lang.specs.declared.service.Literal.TheVariants as literals
use Rattle.bw_lang.specs.declared.service.Service.{Service}
use Rattle.bw_lang.specs.declared.service.Shared.{Shared}
use Rattle.bw_lang.specs.Document.Forest.{none}
use Rattle.bw_lang.specs.Table.Names.{same, beside}
use Rattle.bw_meaning.specs.Values.{Value, Values, document, constant as document_at, literal_value, first_values}
use Rattle.bw_types.specs.Scopes.{is_among}
use Rattle.bw_cover.specs.Abstracts.{covers, Below}
use Rattle.bw_cover.specs.Covered.{CoversShared}
use Rattle.bw_cover.specs.Facts.{Facts, literal_known}
use Rattle.bw_cover.proofs.Locals.{none_some}
use Rattle.bw_cover.proofs.Names.{beside-cons}
use Rattle.bw_lang.proofs.SameNames.{same_is, same_self}
use Rattle.bw_cover.proofs.Values.{covers_below}
use Rattle.bw_cover.proofs.Lookups.{template_given}

module _ {K : Type 0} (service : Service) (f : Facts K) where
  literal_covered : (l : Literal) → covers service (literal_known service l) (literal_value service l)
  literal_covered (literals.Int n) = tt
  literal_covered (literals.Bool b) = tt
  literal_covered (literals.Str s) = same_self s
  literal_covered (literals.Tmpl w) = template_given service w (document (document_at none))

  abbrev begins : List Shared → Values
  begins vs = map (λ (v : Shared). (v.name, literal_value service v.init)) vs

  first_names : (vs : List Shared) (w : List ℕ) → is_some (beside w (begins vs)) ≡ is_among w (map (λ (v : Shared). v.name) vs)
  first_names [] w = refl
  first_names (v ∷ vs) w = ap is_some (beside-cons w v.name (literal_value service v.init) (begins vs)) ∙ by_test (same w v.name) (first_names vs w)
    where
      by_test : (b : Bool) → is_some (beside w (begins vs)) ≡ is_among w (map (λ (x : Shared). x.name) vs)
          → is_some (if b then Some (literal_value service v.init) else beside w (begins vs)) ≡ (b || is_among w (map (λ (x : Shared). x.name) vs))
      by_test true h = refl
      by_test false h = h

  first_each : (vs : List Shared) → AllByRecursion (λ (v : Shared). Below (literal_known service v.init) (f.shared v.name)) vs → (w : List ℕ) (x : Value)
      → beside w (begins vs) ≡ Some x → covers service (f.shared w) x
  first_each [] h w x e = absurd (none_some None x refl e)
  first_each (v ∷ vs) h w x e = by_test (same w v.name) refl (sym (beside-cons w v.name (literal_value service v.init) (begins vs)) ∙ e)
      (first_each vs h.1 w x)
    where
      found : (y z : Value) → Some y ≡ Some z → y ≡ z
      found y z k = cc

      by_test : (b : Bool) → same w v.name ≡ b → (if b then Some (literal_value service v.init) else beside w (begins vs)) ≡ Some x
          → (beside w (begins vs) ≡ Some x → covers service (f.shared w) x) → covers service (f.shared w) x
      by_test true t k r =
          subst (λ n. covers service (f.shared n) x) (sym (same_is w v.name t))
          (subst (covers service (f.shared v.name)) (found (literal_value service v.init) x k)
          (covers_below service (literal_known service v.init) (f.shared v.name) (literal_value service v.init) h.0 (literal_covered v.init)))
      by_test false t k r = r k

  -- the shared variables begin covered
  pub first_covered : AllByRecursion (λ (v : Shared). Below (literal_known service v.init) (f.shared v.name)) service.shared
      → CoversShared service f (first_values service)
  first_covered h = record { names = first_names service.shared; each = first_each service.shared h }

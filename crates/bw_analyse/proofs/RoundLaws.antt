-- A round looks only at rows that there are.
use Rattle.std.proofs.Common.{◌≡◌, ℕ, ◌+◌, ◌<◌, List, [], ◌∷◌, length, map, Option, Some, None, refl, sym, ap, ◌∙◌, arith}
use Rattle.std.specs.Prelude.{slice_get, slice_index_or}
use Rattle.std.specs.List.{AllByRecursion}
use Rattle.std.proofs.lemmas.List.{get_or_default}
use Rattle.bw_lang.specs.declared.service.Service.{Service}
use Rattle.bw_lang.specs.declared.service.Shared.{Shared}
use Rattle.bw_flow.specs.declared.point.Local.{Local}
use Rattle.bw_flow.specs.Steps.{Step}
use Rattle.bw_solve.specs.System.{family}
use Rattle.bw_analyse.specs.declared.abstracts.Abstract.{Abstract}
use Rattle.bw_analyse.specs.declared.arrows.Arrow.{Arrow}
use Rattle.bw_analyse.specs.Abstracts.{both, least_of}
use Rattle.bw_analyse.specs.Known.{of_literal}
use Rattle.bw_analyse.specs.Rounds.{left_by, left_at, added_by, join_some, joined, next_local, next_shared, Placed, placed, next_row, empty, round, arrows_to}
use Rattle.bw_analyse.specs.Lawful.SystemLaws.{get_below, IsPlaced, all_placed}

module _ (service : Service) (flow : List Step) (f g : ℕ → List Abstract) (same : (c : ℕ) → c < length flow + 1 → f c ≡ g c) where
  left_same : (w : List ℕ) (a : Arrow) (o : Option Step) → slice_get flow a.from ≡ o → left_at service flow f w a o ≡ left_at service flow g w a o
  left_same w a None e = refl
  left_same w a (Some x) e =
      let b = get_below flow a.from x e in
      let here : f a.from ≡ g a.from = same a.from (omega arith) in
      let behind : f (length flow) ≡ g (length flow) = same (length flow) (omega arith) in
      λ i. left_by service x.scope (here i) (behind i) a.is_first w x.act

  local_same : (arrows : List Arrow) (l : Local) → next_local service flow f arrows l ≡ next_local service flow g arrows l
  local_same [] l = refl
  local_same (a ∷ as_) l = λ i. join_some (left_same l.name a (slice_get flow a.from) refl i) (local_same as_ l i)

  added_same : (v : Shared) (xs : List Placed) → AllByRecursion (IsPlaced flow) xs
      → joined (λ (x : Placed). added_by service x.step.scope (f x.place) (f (length flow)) v.name x.step.act) xs (both (of_literal service v.init)
      (least_of v.kind))
      ≡ joined (λ (x : Placed). added_by service x.step.scope (g x.place) (g (length flow)) v.name x.step.act) xs (both (of_literal service v.init)
      (least_of v.kind))
  added_same v [] h = refl
  added_same v (x ∷ xs) h =
      let b = get_below flow x.place x.step h.0 in
      let here : f x.place ≡ g x.place = same x.place (omega arith) in
      let behind : f (length flow) ≡ g (length flow) = same (length flow) (omega arith) in
      λ i. join_some (added_by service x.step.scope (here i) (behind i) v.name x.step.act) (added_same v xs h.1 i)

  row_same : (q : ℕ) (o : Option Step) → next_row service flow f q o ≡ next_row service flow g q o
  row_same q None = λ i. map (λ (v : Shared). added_same v (placed 0 flow) (all_placed flow) i) service.shared
  row_same q (Some x) = λ i. map (λ (l : Local). local_same (arrows_to q 0 flow) l i) x.scope

  pub round_same : (q : ℕ) → round service flow q f ≡ round service flow q g
  round_same q = row_same q (slice_get flow q)

-- the rows of a list and the family that it is
pub family_same : (service : Service) (flow : List Step) (rows : List (List Abstract)) → length rows ≡ length flow + 1 → (c : ℕ) → c < length flow + 1
    → slice_index_or rows c [] ≡ family (empty service flow) rows c
family_same service flow rows e c l = get_or_default rows c [] (empty service flow c) (omega arith)

-- the rows that a round makes of a list of rows
module _ (service : Service) (flow : List Step) (rows : List (List Abstract)) (count : length rows ≡ length flow + 1) (q : ℕ) (made : List Abstract) where
  abbrev now : ℕ → List Abstract
  now c = slice_index_or rows c []

  as_family : round service flow q now ≡ round service flow q (family (empty service flow) rows)
  as_family = round_same service flow now (family (empty service flow) rows) (family_same service flow rows count) q

  pub local_round : (x : Step) (arrows : List Arrow) → slice_get flow q ≡ Some x → arrows ≡ arrows_to q 0 flow
      → made ≡ map (next_local service flow now arrows) x.scope → made ≡ round service flow q (family (empty service flow) rows)
  local_round x arrows at are e =
      e ∙ ap (λ (a : List Arrow). map (next_local service flow now a) x.scope) are ∙ ap (next_row service flow now q) (sym at) ∙ as_family

  pub shared_round : slice_get flow q ≡ None → made ≡ map (next_shared service flow now) service.shared
      → made ≡ round service flow q (family (empty service flow) rows)
  shared_round at e = e ∙ ap (next_row service flow now q) (sym at) ∙ as_family

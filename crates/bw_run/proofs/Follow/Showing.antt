-- The show from behind which a run goes on, among statements.
use Rattle.std.proofs.Common.{◌≡◌, ℕ, ◌+◌, ◌<◌, ◌≤◌, false, List, [], ◌∷◌, refl, sym, ap}
use Rattle.std.proofs.Common.{◌∙◌, arith, ⊎_elim}
use Rattle.std.specs.Prelude.{slice_get}
use Rattle.std.proofs.lemmas.Bool.{cases_lt}
use Rattle.std.proofs.lemmas.Option.{same_Some}
use Rattle.bw_lang.specs.declared.service.Service.{Service}
use Rattle.bw_lang.specs.declared.stmt.Kind.TheVariants as kinds
use Rattle.bw_lang.specs.Service.Code.{Code, done, declare, assign, if_then, if_else, while_loop, block, for_each, show, exit, numbered}
use Rattle.bw_lang.specs.Service.Term.{Term}
use Rattle.bw_flow.specs.declared.point.Local.{Local}
use Rattle.bw_flow.specs.declared.point.Received.{Received}
use Rattle.bw_flow.specs.Flows.{is_join, is_show}
use Rattle.bw_flow.specs.Layout.{step, receives}
use Rattle.bw_flow.specs.Scopes.{with_local}
use Rattle.bw_flow.specs.Stands.{IsAt, Lowered}
use Rattle.bw_flow.specs.Numbers.{HasNumbers}
use Rattle.bw_flow.specs.Steps.{Step}
use Rattle.bw_flow.specs.Steps as acts

module _ (service : Service) (flow : List Step) (num : HasNumbers flow) (pk : ℕ) (x : Step) (page : Term) (fields : List Received)
    (here : IsAt flow pk x) (is : x.act ≡ acts.shows page fields) where
  -- a point with the show's number is the show
  pub same_point : (p : ℕ) (y : Step) → IsAt flow p y → is_join y.act ≡ false → y.number ≤ x.number → x.number < y.number + 1 → y ≡ x
  same_point p y at j a b =
      let ep = num p pk y x at here j (ap is_join is) (omega arith) in
      same_Some y x (sym at ∙ ap (λ q. slice_get flow q) ep ∙ here)

  pub other_point : (p : ℕ) (y : Step) → IsAt flow p y → is_join y.act ≡ false → is_show y.act ≡ false → y.number ≤ x.number → x.number < y.number + 1 → ⊥
  other_point p y at j f a b = let h = ap (λ z. is_show z.act) (same_point p y at j a b) in let g = ap is_show is in cc

  -- the show is within as many foreachs as are around statements among which it is
  pub deep : (c : Code) (n : ℕ) (sc : List Local) (d p q : ℕ) → Lowered service flow c n sc d p q → n ≤ x.number → x.number < n + numbered c → d ≤ x.inside
  deep done n sc d p q low a b = absurd (omega arith)
  deep (declare k v e rest) n sc d p q low a b =
      ⊎_elim (λ lt. absurd (other_point p (step n sc d (acts.sets v e) (low.0 ∷ [])) low.1 refl refl a lt))
      (λ le. deep rest (n + 1) (with_local sc v k) d low.0 q low.2 le (omega arith)) (cases_lt x.number (n + 1))
  deep (assign v e rest) n sc d p q low a b =
      ⊎_elim (λ lt. absurd (other_point p (step n sc d (acts.sets v e) (low.0 ∷ [])) low.1 refl refl a lt))
      (λ le. deep rest (n + 1) sc d low.0 q low.2 le (omega arith)) (cases_lt x.number (n + 1))
  deep (if_then e y rest) n sc d p q low a b =
      ⊎_elim (λ lt. absurd (other_point p (step n sc d (acts.tests e) (low.0 ∷ low.1 ∷ [])) low.3 refl refl a lt))
      (λ le. ⊎_elim (λ lt. deep y (n + 1) sc d low.0 low.1 low.5 le lt) (λ le2. deep rest (n + 1 + numbered y) sc d low.2 q low.6 le2 (omega arith))
      (cases_lt x.number (n + 1 + numbered y)))
      (cases_lt x.number (n + 1))
  deep (if_else e y z rest) n sc d p q low a b =
      let n2 = n + 1 + numbered y in
      ⊎_elim (λ lt. absurd (other_point p (step n sc d (acts.tests e) (low.0 ∷ low.1 ∷ [])) low.4 refl refl a lt))
      (λ le. ⊎_elim (λ lt. deep y (n + 1) sc d low.0 low.2 low.6 le lt)
      (λ le2. ⊎_elim (λ lt. deep z n2 sc d low.1 low.2 low.7 le2 lt) (λ le3. deep rest (n2 + numbered z) sc d low.3 q low.8 le3 (omega arith))
      (cases_lt x.number (n2 + numbered z)))
      (cases_lt x.number n2))
      (cases_lt x.number (n + 1))
  deep (while_loop e b rest) n sc d p q low a lt =
      ⊎_elim (λ here. absurd (other_point p (step n sc d (acts.tests e) (low.0 ∷ low.1 ∷ [])) low.2 refl refl a here))
      (λ le. ⊎_elim (λ inside. deep b (n + 1) sc d low.0 p low.3 le inside)
      (λ le2. deep rest (n + 1 + numbered b) sc d low.1 q low.4 le2 (omega arith)) (cases_lt x.number (n + 1 + numbered b)))
      (cases_lt x.number (n + 1))
  deep (block b rest) n sc d p q low a lt =
      ⊎_elim (λ inside. deep b n sc d p low.0 low.1 a inside) (λ le2. deep rest (n + numbered b) sc d low.0 q low.2 le2 (omega arith))
      (cases_lt x.number (n + numbered b))
  deep (for_each v e b rest) n sc d p q low a lt =
      ⊎_elim (λ here. absurd (other_point p (step n sc d (acts.goes_over v e) (low.0 ∷ low.1 ∷ [])) low.2 refl refl a here))
      (λ le. ⊎_elim (λ inside. let h = deep b (n + 1) (with_local sc v kinds.Str) (d + 1) low.0 p low.3 le inside in omega arith)
      (λ le2. deep rest (n + 1 + numbered b) sc d low.1 q low.4 le2 (omega arith)) (cases_lt x.number (n + 1 + numbered b)))
      (cases_lt x.number (n + 1))
  deep (show e fs rest) n sc d p q low a b =
      ⊎_elim (λ lt. let h = ap (λ z. z.inside) (same_point p (step n sc d (acts.shows e (receives service sc fs)) (low.0 ∷ [])) low.1 refl a lt) in
      omega arith)
      (λ le. deep rest (n + 1) sc d low.0 q low.2 le (omega arith)) (cases_lt x.number (n + 1))
  deep (exit e rest) n sc d p q low a b =
      ⊎_elim (λ lt. absurd (other_point p (step n sc d (acts.exits e) []) low.1 refl refl a lt))
      (λ le. deep rest (n + 1) sc d low.0 q low.2 le (omega arith)) (cases_lt x.number (n + 1))

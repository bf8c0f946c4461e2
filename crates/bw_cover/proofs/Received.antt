-- What a show of the flow receives is what its statement receives.
use Rattle.std.proofs.Common.{◌≡◌, ◌⊎◌, ℕ, ◌+◌, ◌<◌, ◌≤◌, List, [], ◌++◌, refl, ap, sym, ◌∙◌, inl, inr}
use Rattle.std.specs.Prelude.{◌==◌, if◌then◌else◌}
use Rattle.std.proofs.lemmas.Bool.{cases_lt}
use Rattle.bw_lang.specs.declared.service.Service.{Service}
use Rattle.bw_lang.specs.declared.stmt.Kind.TheVariants as kinds
use Rattle.bw_lang.specs.declared.stmt.Receive.{Receive}
use Rattle.bw_lang.specs.Service.Code.{Code, done, declare, assign, if_then, if_else, while_loop, for_each, block, show, exit, numbered}
use Rattle.bw_lang.specs.Service.Numbers.{first_number}
use Rattle.bw_lang.specs.Service.Term.{Term}
use Rattle.bw_meaning.specs.GoOn.{body_of}
use Rattle.bw_flow.specs.declared.point.Local.{Local}
use Rattle.bw_flow.specs.declared.point.Received.{Received}
use Rattle.bw_flow.specs.Layout.{plan_of, receives}
use Rattle.bw_flow.specs.Scopes.{with_local}
use Rattle.bw_flow.specs.Stands.{IsAt}
use Rattle.bw_flow.specs.Steps.{Step}
use Rattle.bw_flow.specs.Steps as acts
use Rattle.bw_flow.proofs.Numbered.{all_have_numbers}
use Rattle.bw_flow.proofs.Stands.{stands_for_all}
use Rattle.bw_model.specs.Received.{receives_at, receives_of}
use Rattle.bw_cover.specs.Received.{scope_at, scope_of, ShowsReceive}
use Rattle.bw_cover.proofs.FlowWorlds.{stands_here}
use Rattle.bw_cover.proofs.Shows.{IsOutside, at_show, outside, Agree, agree}

-- ---- scopes and receives

abbrev seen : List Local → List Receive → List Local
seen scope rs = scope

abbrev received : List Local → List Receive → List Receive
received scope rs = rs

scope_found : (c : Code) (n : ℕ) (sc : List Local) (k : ℕ) → at_show seen c n sc k ≡ scope_at c n sc k
scope_found done n sc k = refl
scope_found (declare kind w e rest) n sc k = scope_found rest (n + 1) (with_local sc w kind) k
scope_found (assign w e rest) n sc k = scope_found rest (n + 1) sc k
scope_found (if_then t y rest) n sc k = λ i. scope_found y (n + 1) sc k i ++ scope_found rest (n + 1 + numbered y) sc k i
scope_found (if_else t y z rest) n sc k =
    λ i. scope_found y (n + 1) sc k i ++ (scope_found z (n + 1 + numbered y) sc k i ++ scope_found rest (n + 1 + numbered y + numbered z) sc k i)
scope_found (while_loop t b rest) n sc k = λ i. scope_found b (n + 1) sc k i ++ scope_found rest (n + 1 + numbered b) sc k i
scope_found (block b rest) n sc k = λ i. scope_found b n sc k i ++ scope_found rest (n + numbered b) sc k i
scope_found (for_each w e b rest) n sc k = λ i. scope_found b (n + 1) (with_local sc w kinds.Str) k i ++ scope_found rest (n + 1 + numbered b) sc k i
scope_found (show p rs rest) n sc k = λ i. (if n == k then sc else []) ++ scope_found rest (n + 1) sc k i
scope_found (exit p rest) n sc k = scope_found rest (n + 1) sc k

receives_found : (c : Code) (n : ℕ) (sc : List Local) (k : ℕ) → at_show received c n sc k ≡ receives_at c n k
receives_found done n sc k = refl
receives_found (declare kind w e rest) n sc k = receives_found rest (n + 1) (with_local sc w kind) k
receives_found (assign w e rest) n sc k = receives_found rest (n + 1) sc k
receives_found (if_then t y rest) n sc k = λ i. receives_found y (n + 1) sc k i ++ receives_found rest (n + 1 + numbered y) sc k i
receives_found (if_else t y z rest) n sc k =
    λ i. receives_found y (n + 1) sc k i ++ (receives_found z (n + 1 + numbered y) sc k i ++ receives_found rest (n + 1 + numbered y + numbered z) sc k i)
receives_found (while_loop t b rest) n sc k = λ i. receives_found b (n + 1) sc k i ++ receives_found rest (n + 1 + numbered b) sc k i
receives_found (block b rest) n sc k = λ i. receives_found b n sc k i ++ receives_found rest (n + numbered b) sc k i
receives_found (for_each w e b rest) n sc k =
    λ i. receives_found b (n + 1) (with_local sc w kinds.Str) k i ++ receives_found rest (n + 1 + numbered b) sc k i
receives_found (show p rs rest) n sc k = λ i. (if n == k then rs else []) ++ receives_found rest (n + 1) sc k i
receives_found (exit p rest) n sc k = receives_found rest (n + 1) sc k

-- a session receives nothing at a number that is none of its own
pub receives_outside : (service : Service) (session k : ℕ) → IsOutside k (first_number service session) (numbered (body_of service session))
    → receives_of service session k ≡ []
receives_outside service session k h =
    let c = body_of service session in
    let n = first_number service session in
    sym (receives_found c n [] k) ∙ outside received c n [] k h

-- a number is one of these, or outside
pub inside_or_not : (k n count : ℕ) → ((n ≤ k) × (k < n + count)) ⊎ IsOutside k n count
inside_or_not k n count = by (cases_lt k n) (cases_lt k (n + count))
  where
    by : (k < n) ⊎ (n ≤ k) → (k < n + count) ⊎ (n + count ≤ k) → ((n ≤ k) × (k < n + count)) ⊎ IsOutside k n count
    by (inl h) g = inr (inl h)
    by (inr h) (inl g) = inl (h, g)
    by (inr h) (inr g) = inr (inr g)

module _ (service : Service) (session p : ℕ) (x : Step) (e : Term) (rs : List Received) (at : IsAt (plan_of service).steps p x) (is : x.act ≡ acts.shows e rs)
    (from : first_number service session ≤ x.number) (below : x.number < first_number service session + numbered (body_of service session)) where
  abbrev flow : List Step
  flow = (plan_of service).steps

  abbrev c : Code
  c = body_of service session

  abbrev n : ℕ
  n = first_number service session

  by_number : {A : Type 0} (f : List Local → List Receive → List A)
      → Agree f service flow (all_have_numbers service) p x e rs at is (at_show f c n [] x.number)
  by_number f =
      let low = stands_here service flow service.sessions (plan_of service).firsts 1 session _ (stands_for_all service) in
      agree f service flow (all_have_numbers service) p x e rs at is c n [] 0 low.0 low.1 low.2 from below

  pub scope_is : scope_of service session x.number ≡ x.scope
  scope_is = sym (scope_found c n [] x.number) ∙ (by_number seen).found_is

  -- in the scope of the point
  pub fields_are : rs ≡ receives service x.scope (receives_of service session x.number)
  fields_are =
      let a = by_number received in
      a.fields_are ∙ ap (receives service x.scope) (sym a.found_is ∙ receives_found c n [] x.number)

pub shows_receive : ShowsReceive
shows_receive service session p x e rs at is from below =
    fields_are service session p x e rs at is from below
    ∙ ap (λ scope. receives service scope (receives_of service session x.number)) (sym (scope_is service session p x e rs at is from below))

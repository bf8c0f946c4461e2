-- Where the page of a fault of an element stands, and what is said where faults are explained.
use Rattle.std.proofs.Common.{◌≡◌, ◌⊎◌, ◌<◌, ◌≤◌, ℕ, Bool, true, false, cond, List, [], ◌∷◌, ◌++◌, length, Option, None, Some, Result, Ok, Err, IfOk}
use Rattle.std.proofs.Common.{refl, sym, ap, ◌∙◌, subst, inl, inr, arith}
use Rattle.std.specs.Prelude.{find, nat_le, nat_lt, nat_eq, not, ◌&&◌, position, slice_get}
use Rattle.std.specs.List.{position_or_len}
use Rattle.std.specs.Ordering.{is_eq}
use Rattle.std.proofs.lemmas.Bool.{and_parts, cases_lt, false≢true, or_left, or_right}
use Rattle.std.proofs.lemmas.Bool.Decides.{nat_tests}
use Rattle.std.proofs.lemmas.Cmp.{tied_itself}
use Rattle.std.proofs.lemmas.List.{append-nil}
use Rattle.std.proofs.lemmas.List.Sums.{fails_before_first}
use Rattle.std.proofs.lemmas.Option.{get_or_from_slice_get, slice_get_within}
use Rattle.bw_analyse.specs.declared.facts.Facts.{Facts}
use Rattle.bw_analyse.specs.Facts.{AreFacts, page_of}
use Rattle.bw_analyse.specs.GapFaults.{IsGapFault}
use Rattle.bw_flow.specs.Layout.{flow_of}
use Rattle.bw_analyse.specs.Pages.{page_graph}
use Rattle.bw_check.specs.Accepts.{HasNoList, IsCheckFault}
use Rattle.bw_check.specs.Faults.{IsElementFault, IsPageFault, IsReceivedFault, IsServiceFault}
use Rattle.bw_check.specs.Findings.{AreFindings}
use Rattle.bw_check.specs.declared.checking.Findings.{Findings}
use Rattle.bw_check.specs.declared.fault.CheckFault.{CheckFault}
use Rattle.bw_check.specs.declared.fault.CheckFault.TheVariants as checks
use Rattle.bw_explain.specs.Explained.{IsExplained, IsSplit, NotValid}
use Rattle.bw_explain.specs.Shows.{Shows}
use Rattle.bw_explain.specs.declared.explained.Explained.{Explained}
use Rattle.bw_faults.specs.declared.fault.Fault.{Fault}
use Rattle.bw_faults.specs.Order.{fault_cmp, fault_total}
use Rattle.bw_fields.specs.Received.{IsFaultOf}
use Rattle.bw_fields.specs.Received.IsFaultOf.{missing, repeated, unfit}
use Rattle.bw_flow.specs.Flows.{is_join, is_statement}
use Rattle.bw_flow.specs.Steps.{Act, sets, tests, goes_over, shows, exits, joins, Plan, Step}
use Rattle.bw_flow.specs.declared.point.Received.{Received}
use Rattle.bw_flow.proofs.Found.{finds_each}
use Rattle.bw_flow.proofs.Numbered.{all_have_numbers}
use Rattle.bw_judge.specs.Faults.{IsFault}
use Rattle.bw_judge.specs.Faults.IsFault.{wrong_root, breaks}
use Rattle.bw_lang.specs.Document.Forest.{Forest}
use Rattle.bw_lang.specs.declared.service.Service.{Service}
use Rattle.bw_lang.specs.declared.text.Memory.{Memory}
use Rattle.bw_schema.specs.declared.schema.Schema.{Schema}
use Rattle.bw_shape.specs.Outlines.{root_of}
use Rattle.bw_solve.specs.Sets.{has}
use Rattle.bw_strings.specs.Literals.{literals_of}
use Rattle.bw_sum.specs.Graph.{Graph, graph}
use Rattle.bw_sum.specs.Templates.{template_items}
use Rattle.bw_sum.specs.declared.summary.Summary.{Summary}
use Rattle.bw_questions.specs.Asked.{examined}
use Rattle.bw_questions.specs.Behind.{Shown, AreMarked, behind_marks}
use Rattle.bw_command.specs.Codes.{status_for}
use Rattle.bw_questions.specs.Explaining.{is_of_element, StandsAt, Explains, explanation_text, IsExplanationOf, IsExplanation}
use Rattle.bw_questions.specs.FaultLines.{check_text, fault_lines, page_names}
use Rattle.bw_questions.specs.Questions.{IsStop, Said}
use Rattle.bw_questions.specs.Reports.{SaysWhy}
use Rattle.bw_questions.specs.declared.seen.Sight.{Sight}
use Rattle.bw_command.specs.declared.status.Refusal.{Refusal}
use Rattle.bw_command.specs.declared.status.Status.TheVariants.{ServiceRefused}
use Rattle.bw_questions.specs.declared.stop.Stop.{Stop}
use Rattle.bw_questions.specs.declared.stop.Stop.TheVariants as stop

-- ---- the first fault of an element

-- what is found in a list is in it, and passes the test
pub found_listed : (p : Fault → Bool) (xs : List Fault) (f : Fault) → find p xs ≡ Some f → (p f ≡ true) × (has fault_cmp xs f ≡ true)
found_listed p [] f e = absurd (let none : None ≡ Some f = e in cc)
found_listed p (x ∷ xs) f e = by (p x) refl (found_listed p xs f) e
  where
    by : (b : Bool) → p x ≡ b → (find p xs ≡ Some f → (p f ≡ true) × (has fault_cmp xs f ≡ true)) → cond b (Some x) (find p xs) ≡ Some f
        → (p f ≡ true) × (has fault_cmp (x ∷ xs) f ≡ true)
    by true passes later same =
        let is : x ≡ f = cc in (
          ap p (sym is) ∙ passes,
          or_left (is_eq (fault_cmp x f)) (has fault_cmp xs f) (ap (λ y. is_eq (fault_cmp y f)) is ∙ ap is_eq (tied_itself fault_total f)),
        )
    by false passes later same = let r = later same in (r.0, or_right (is_eq (fault_cmp x f)) (has fault_cmp xs f) r.1)

below_eight : (n : ℕ) → nat_lt n 8 ≡ true → n < 8
below_eight n e = grind (arith, nat_tests)

-- its number is one of an element
pub element_number : (f : Fault) → is_of_element f ≡ true → f.number < 8
element_number f e = below_eight f.number (and_parts (nat_le 1 f.number) (nat_lt f.number 8) e).1

-- ---- where its page stands

-- a fault of an element has the number of its page's statement
element_point : {templates : ℕ → Forest} {G : Graph} {root : ℕ} {s : Schema} {point : ℕ} {f : Fault} → IsFault templates G root s point f → f.point ≡ point
element_point (wrong_root at other) = refl
element_point (breaks reached at rule broken) = refl

-- and one of a field has none of an element
not_field : {templates : ℕ → Forest} {G : Graph} {root : ℕ} {service : Service} {point : ℕ} {r : Received} {f : Fault}
    → IsFaultOf templates G root service point r f → f.number < 8 → ⊥
not_field (missing lacks) few = absurd (omega arith)
not_field (repeated kind doubles) few = absurd (omega arith)
not_field (unfit misfit) few = absurd (omega arith)

not_gap : (service : Service) (facts : Facts) (f : Fault) → IsGapFault service facts f → f.number < 8 → ⊥
not_gap service facts f g few = let eleven : f.number ≡ 11 = ap (λ (x : Fault). x.number) g.3.2.1 in absurd (omega arith)

-- so it is a fault of an element of the page at some place
pub fault_stands : (service : Service) (schema : Schema) (facts : Facts) (f : Fault) → IsServiceFault service schema facts f → f.number < 8
    → (p : ℕ) × StandsAt service schema facts f p
fault_stands service schema facts f (inl w) few = (w.0, by w.1.3)
  where
    by : IsReceivedFault service facts w.0 w.1.0 f ⊎ IsElementFault service schema facts w.0 w.1.0.number f → StandsAt service schema facts f w.0
    by (inl received) = absurd (not_field received.2 few)
    by (inr element) = let number : f.point ≡ w.1.0.number = element_point element in record {
      step = w.1.0;
      at = w.1.1;
      page = w.1.2;
      number = sym number;
      fault = subst (λ n. IsElementFault service schema facts w.0 n f) (sym number) element;
    }
fault_stands service schema facts f (inr gap) few = absurd (not_gap service facts f gap few)

-- what shows a page is no join
no_join : (a : Act) → (page_of a ≡ None → ⊥) → is_join a ≡ false
no_join (sets w e) page = refl
no_join (tests e) page = refl
no_join (goes_over w e) page = refl
no_join (shows e rs) page = refl
no_join (exits e) page = refl
no_join joins page = absurd (page refl)

-- one show or exit has the number of that statement
pub one_place : (service : Service) (schema : Schema) (facts : Facts) (f : Fault) (p q : ℕ) → StandsAt service schema facts f p
    → position (is_statement f.point) (flow_of service) ≡ Some q → StandsAt service schema facts f q
one_place service schema facts f p q s e =
    let found = (finds_each service f.point).0 q e in
    subst (StandsAt service schema facts f)
    (all_have_numbers service p q s.step found.0 s.at found.1 (no_join s.step.act s.page) found.3 (s.number ∙ sym found.2)) s

is_that : (x : Step) (k : ℕ) → x.number ≡ k → is_join x.act ≡ false → is_statement k x ≡ true
is_that x k e j = let same : nat_eq x.number k ≡ true = grind (arith, nat_tests) in λ i. same i && not (j i)

-- what passes is found
some_position : {A : Type 0} (q : A → Bool) (xs : List A) (i : ℕ) (x : A) → slice_get xs i ≡ Some x → q x ≡ true → position q xs ≡ None → ⊥
some_position q xs i x at passes none = by (nat_lt (position_or_len q xs) (length xs)) refl none (cases_lt (position_or_len q xs) (length xs))
  where
    inside : position_or_len q xs < length xs → nat_lt (position_or_len q xs) (length xs) ≡ true
    inside l = grind (arith, nat_tests)

    by : (b : Bool) → nat_lt (position_or_len q xs) (length xs) ≡ b → cond b (Some (position_or_len q xs)) None ≡ None
        → (position_or_len q xs < length xs) ⊎ (length xs ≤ position_or_len q xs) → ⊥
    by true e none c = cc
    by false e none (inl l) = false≢true (sym e ∙ inside l)
    by false e none (inr l) =
        let below = slice_get_within xs i x at in
        false≢true (sym (fails_before_first q xs i x (omega arith)) ∙ ap q (get_or_from_slice_get xs i x x at) ∙ passes)

pub some_place : (service : Service) (schema : Schema) (facts : Facts) (f : Fault) (p : ℕ) → StandsAt service schema facts f p
    → position (is_statement f.point) (flow_of service) ≡ None → ⊥
some_place service schema facts f p s e =
    some_position (is_statement f.point) (flow_of service) p s.step s.at (is_that s.step f.point s.number (no_join s.step.act s.page)) e

-- the code finds the place
place_in : (service : Service) (schema : Schema) (found : Findings) (f : Fault) → AreFindings service schema found
    → position (is_statement f.point) found.flow.steps ≡ position (is_statement f.point) (flow_of service)
place_in service schema found f a = ap (λ (plan : Plan). position (is_statement f.point) plan.steps) a.flow_is

pub stands_found : (service : Service) (schema : Schema) (found : Findings) (f : Fault) (q : ℕ) → AreFindings service schema found
    → IsServiceFault service schema found.facts f → f.number < 8 → Some q ≡ position (is_statement f.point) found.flow.steps
    → StandsAt service schema found.facts f q
stands_found service schema found f q a is few e =
    let s = fault_stands service schema found.facts f is few in
    one_place service schema found.facts f s.0 q s.1 (sym (place_in service schema found f a) ∙ sym e)

pub is_found : (service : Service) (schema : Schema) (found : Findings) (f : Fault) → AreFindings service schema found
    → IsServiceFault service schema found.facts f → f.number < 8 → None ≡ position (is_statement f.point) found.flow.steps → ⊥
is_found service schema found f a is few e =
    let s = fault_stands service schema found.facts f is few in
    some_place service schema found.facts f s.0 s.1 (sym (place_in service schema found f a) ∙ sym e)

-- what explains a fault by the graph of its page explains it
pub page_explains : (service : Service) (schema : Schema) (facts : Facts) (f : Fault) (p : ℕ) (page : Summary) (r : Result Explained Memory)
    → AreFacts service facts → StandsAt service schema facts f p → page ≡ page_graph service facts p
    → IfOk r (IsExplained (Shows (template_items service) (graph (literals_of service) page) schema.elements f (root_of page))
    (IsSplit (template_items service) (graph (literals_of service) page) schema.elements f)) → IfOk r (NotValid schema) → IfOk r (Explains service schema f)
page_explains service schema facts f p page (Ok e) are stands is explained refused = record {
  facts = facts;
  facts_are = are;
  place = p;
  stands = stands;
  explained = subst (λ (s : Summary). IsExplained (Shows (template_items service) (graph (literals_of service) s) schema.elements f (root_of s))
      (IsSplit (template_items service) (graph (literals_of service) s) schema.elements f) e) is explained;
  refused = refused;
}
page_explains service schema facts f p page (Err m) are stands is explained refused = tt

-- ---- what is said

pub first_explained : (tree : Service) (by : Schema) (faults : List Fault) (f : Fault) (e : Explained) → Some f ≡ find is_of_element faults
    → Explains tree by f e → IsExplanation tree by (checks.Refused faults) (explanation_text e)
first_explained tree by faults f e first explains = subst (λ o. IsExplanationOf tree by o (explanation_text e)) first (e, explains, refl)

pub none_explained : (tree : Service) (by : Schema) (faults : List Fault) → None ≡ find is_of_element faults
    → IsExplanation tree by (checks.Refused faults) []
none_explained tree by faults none = subst (λ o. IsExplanationOf tree by o []) none refl

said_text : (a b : List ℕ) → a ≡ b
    → (let s : Said = record { status = ServiceRefused; text = a } in s) ≡ (let s : Said = record { status = ServiceRefused; text = b } in s)
said_text a b e = ap (λ (t : List ℕ). let s : Said = record { status = ServiceRefused; text = t } in s) e

-- the lines of the faults that were found, and behind them what explains them
pub faults_said : (how : Option Shown) (tree : Service) (by : Schema) (found : Findings) (sight : Option Sight) (names : List (List ℕ))
    (more text : List ℕ) → AreFindings tree by found → (found.faults ≡ [] → ⊥) → names ≡ page_names tree → AreMarked how sight
    → IsExplanation tree by (checks.Refused found.faults) more → text ≡ fault_lines (behind_marks sight) names found.faults ++ more
    → (examined how tree by).says (record { status = ServiceRefused; text = text })
faults_said how tree by found sight names more text a some same marked explains e = (
  checks.Refused found.faults,
  (a.limits, some, (found.facts, a.facts_are, a.faults_are)),
  (λ is. cc),
  marked.0,
  marked.1,
  more,
  explains,
  said_text text _ (e ∙ ap (λ n. fault_lines (behind_marks sight) n found.faults ++ more) same
      ∙ ap (λ (b : Fault → List ℕ). fault_lines b (page_names tree) found.faults ++ more) (λ i g. marked.2 g i)),
)

not_explained : (tree : Service) (by : Schema) (fault : CheckFault) → HasNoList fault → IsExplanation tree by fault []
not_explained tree by (checks.Refused l) h = absurd h
not_explained tree by (checks.TooLarge n) h = refl
not_explained tree by (checks.TooMany n) h = refl
not_explained tree by checks.Memory h = refl

-- a limit that is passed has its line, and nothing is explained
pub limit_said : (how : Option Shown) (tree : Service) (by : Schema) (sight : Option Sight) (names : List (List ℕ)) (fault : CheckFault) (s : Stop)
    → names ≡ page_names tree → AreMarked how sight → SaysWhy how (behind_marks sight) names fault s → IsCheckFault tree by fault → HasNoList fault
    → IsStop (examined how tree by) s
limit_said how tree by sight names fault (stop.Says refusal text) same marked h f none = (
  fault,
  f,
  h.1,
  marked.0,
  marked.1,
  [],
  not_explained tree by fault none,
  ap (λ (r : Refusal). let s : Said = record { status = status_for r; text = text.items } in s) h.0
      ∙ said_text text.items _ (h.2 ∙ ap (λ n. check_text how (behind_marks sight) n fault) same
      ∙ ap (λ (b : Fault → List ℕ). check_text how b (page_names tree) fault) (λ i g. marked.2 g i) ∙ sym (append-nil _)),
)
limit_said how tree by sight names fault stop.ReadFault same marked h f none = absurd h
limit_said how tree by sight names fault stop.Memory same marked h f none = tt

-- An expression that has a kind fails no test, and typed statements fail none.
use Rattle.std.proofs.Common.{◌≡◌, ◌⊎◌, ℕ, inl, inr, List, [], ◌∷◌, ◌++◌, Option, Some, refl, ap, sym, ◌∙◌}
use Rattle.std.specs.Prelude.{◌||◌, flat_map}
use Rattle.std.specs.List.{All}
use Rattle.std.proofs.lemmas.List.Elements.{All-head, All-tail}
use Rattle.bw_lang.specs.declared.service.Service.{Service}
use Rattle.bw_lang.specs.declared.stmt.Kind.{Kind}
use Rattle.bw_lang.specs.declared.stmt.Kind.TheVariants.{Int, Bool as Truth, Str, Html, Strs}
use Rattle.bw_lang.specs.declared.stmt.Receive.{Receive}
use Rattle.bw_lang.specs.Service.Code.{Code, done, declare, assign, if_then, if_else, while_loop, block, for_each, show, exit}
use Rattle.bw_lang.specs.Service.Term as t
use Rattle.bw_lang.specs.Service.Term.{Term, Fillings, no_more, filling}
use Rattle.bw_types.specs.declared.fault.GapKind.{GapKind}
use Rattle.bw_types.specs.declared.fault.GapKind.TheVariants.{Content, Attribute}
use Rattle.bw_types.specs.declared.fault.TypeFault.TheVariants as faults
use Rattle.bw_types.specs.ExpressionFaults.{OpSort, joins_truths, tests_equality, compares, adds, computes, op_sort, op_kind, fun_takes, kind_of, demand}
use Rattle.bw_types.specs.ExpressionFaults.{demand_same, demand_sum, left_demand, right_demand, gap_demand, gap_unknown, name_unknown, faults_in}
use Rattle.bw_types.specs.ExpressionFaults.{faults_in_pairs, wanted}
use Rattle.bw_types.specs.Faults.{code_faults, receive_fault, demand_received, local_repeated, local_faults}
use Rattle.bw_types.specs.Gaps.{kind_of_gap}
use Rattle.bw_types.specs.Scopes.{Scope, is_among, declared_names, name_kind, variable_kind, with_local, scope_behind, behind_each}
use Rattle.bw_types.proofs.Elements.{passing}
use Rattle.bw_types.proofs.Differing.{among_none}
use Rattle.bw_types.proofs.Parts.{none_of_both}
use Rattle.bw_types.specs.Typing.{Takes, Fits, HasKind, AreTyped, IsNew, IsReceived, IsTypedCode}

pub demanded : (kind : Kind) → demand kind (Some kind) ≡ []
demanded Int = refl
demanded Truth = refl
demanded Str = refl
demanded Html = refl
demanded Strs = refl

-- the kind that is there is the one that is demanded
pub demand_met : (kind : Kind) (o : Option Kind) → o ≡ Some kind → demand kind o ≡ []
demand_met kind o h = ap (demand kind) h ∙ demanded kind

pub known : (w : List ℕ) (o : Option Kind) (kind : Kind) → o ≡ Some kind → name_unknown w o ≡ []
known w o kind h = ap (name_unknown w) h

-- ---- expressions

left_met : (sort : OpSort) (side kind : Kind) → Takes sort side kind → left_demand sort (Some side) ≡ []
left_met joins_truths side kind h = demand_met Truth (Some side) (ap Some h.0)
left_met tests_equality Int kind h = refl
left_met tests_equality Truth kind h = refl
left_met tests_equality Str kind h = refl
left_met tests_equality Html kind h = absurd (h.0 refl)
left_met tests_equality Strs kind h = absurd (h.1 refl)
left_met compares side kind h = demand_met Int (Some side) (ap Some h.0)
left_met adds side kind h = elim h.0 [ inl e ↦ ap (λ k. demand_sum (Some k)) e | inr e ↦ ap (λ k. demand_sum (Some k)) e ]
left_met computes side kind h = demand_met Int (Some side) (ap Some h.0)

right_met : (sort : OpSort) (side kind : Kind) → Takes sort side kind → right_demand sort (Some side) (Some side) ≡ []
right_met joins_truths side kind h = demand_met Truth (Some side) (ap Some h.0)
right_met tests_equality side kind h = demanded side
right_met compares side kind h = demand_met Int (Some side) (ap Some h.0)
right_met adds side kind h = demanded side
right_met computes side kind h = demand_met Int (Some side) (ap Some h.0)

gives : (sort : OpSort) (side kind : Kind) → Takes sort side kind → op_kind sort (Some side) ≡ Some kind
gives joins_truths side kind h = ap Some (sym h.1)
gives tests_equality side kind h = ap Some (sym h.2)
gives compares side kind h = ap Some (sym h.1)
gives adds side kind h = ap Some (sym h.1)
gives computes side kind h = ap Some (sym h.1)

fit_met : (g : GapKind) (kind : Kind) → Fits g kind → gap_demand (Some g) (Some kind) ≡ []
fit_met Content kind h = elim h [ inl e ↦ ap (λ k. gap_demand (Some Content) (Some k)) e | inr e ↦ ap (λ k. gap_demand (Some Content) (Some k)) e ]
fit_met Attribute kind h = demand_met Str (Some kind) (ap Some h)

abbrev Passes : Service → Scope → Term → Kind → Type 0
Passes s k e kind = (faults_in s k e ≡ []) × (kind_of s k e ≡ Some kind)

binary_passes : (s : Service) (k : Scope) (sort : OpSort) (l r : Term) (side kind : Kind) → Passes s k l side → Passes s k r side → Takes sort side kind
    → (faults_in s k l ++ (left_demand sort (kind_of s k l) ++ (faults_in s k r ++ right_demand sort (kind_of s k l) (kind_of s k r))) ≡ [])
    × (op_kind sort (kind_of s k l) ≡ Some kind)
binary_passes s k sort l r side kind p q h = (
  none_of_both (faults_in s k l) _ p.0 (none_of_both (left_demand sort (kind_of s k l)) _ (ap (left_demand sort) p.1 ∙ left_met sort side kind h)
      (none_of_both (faults_in s k r) _ q.0 (ap (λ o. right_demand sort o (kind_of s k r)) p.1 ∙ ap (right_demand sort (Some side)) q.1
      ∙ right_met sort side kind h))),
  ap (op_kind sort) p.1 ∙ gives sort side kind h,
)

mutual
  pub kind_passes : (s : Service) (k : Scope) (e : Term) (kind : Kind) → HasKind s k e kind → Passes s k e kind
  kind_passes s k (t.int n) kind h = (refl, ap Some (sym h))
  kind_passes s k (t.truth b) kind h = (refl, ap Some (sym h))
  kind_passes s k (t.string v) kind h = (refl, ap Some (sym h))
  kind_passes s k t.nothing kind h = (refl, ap Some (sym h))
  kind_passes s k (t.name w) kind h = (known w (name_kind s k w) kind h, h)
  kind_passes s k (t.paren e) kind h = kind_passes s k e kind h
  kind_passes s k (t.not e) kind h = let p = kind_passes s k e Truth h.0 in
      (none_of_both (faults_in s k e) _ p.0 (demand_met Truth (kind_of s k e) p.1), ap Some (sym h.1))
  kind_passes s k (t.neg e) kind h = let p = kind_passes s k e Int h.0 in
      (none_of_both (faults_in s k e) _ p.0 (demand_met Int (kind_of s k e) p.1), ap Some (sym h.1))
  kind_passes s k (t.binary op l r) kind h = binary_passes s k (op_sort op) l r h.0 kind (kind_passes s k l h.0 h.1) (kind_passes s k r h.0 h.2) h.3
  kind_passes s k (t.call f e) kind h =
      let p = kind_passes s k e (fun_takes f) h.0 in (none_of_both (faults_in s k e) _ p.0 (demand_met (fun_takes f) (kind_of s k e) p.1), ap Some (sym h.1))
  kind_passes s k (t.plug b ps) kind h =
      let p = kind_passes s k b Html h.0 in (
        none_of_both (faults_in s k b) _ p.0 (none_of_both (demand Html (kind_of s k b)) _ (demand_met Html (kind_of s k b) p.1) (pairs_pass s k ps h.1)),
        ap Some (sym h.2),
      )

  pub pairs_pass : (s : Service) (k : Scope) (ps : Fillings) → AreTyped s k ps → faults_in_pairs s k ps ≡ []
  pairs_pass s k no_more h = refl
  pairs_pass s k (filling w e ps) h =
      let p = kind_passes s k e h.0.1 h.0.3 in let g = kind_of_gap s w in
      none_of_both (gap_unknown w g) _ (ap (gap_unknown w) h.0.2)
      (none_of_both (faults_in s k e) _ p.0 (none_of_both (gap_demand g (kind_of s k e)) _
      (ap (λ o. gap_demand o (kind_of s k e)) h.0.2 ∙ ap (gap_demand (Some h.0.0)) p.1 ∙ fit_met h.0.0 h.0.1 h.0.4) (pairs_pass s k ps h.1)))

wanted_passes : (s : Service) (k : Scope) (kind : Kind) (e : Term) → HasKind s k e kind → wanted s k kind e ≡ []
wanted_passes s k kind e h = let p = kind_passes s k e kind h in none_of_both (faults_in s k e) _ p.0 (demand_met kind (kind_of s k e) p.1)

-- ---- statements

new_passes : (s : Service) (k : Scope) (w : List ℕ) → IsNew s k w → local_repeated s k w ≡ []
new_passes s k w h =
    passing _ (faults.Repeated w) (ap (λ b. b || is_among w k.taken) (among_none w (declared_names s) h.0) ∙ among_none w k.taken h.1)

received_passes : (w : List ℕ) (o : Option Kind) → (o ≡ Some Str) ⊎ (o ≡ Some Strs) → name_unknown w o ++ demand_received o ≡ []
received_passes w o h = elim h [ inl e ↦ ap (λ o. name_unknown w o ++ demand_received o) e | inr e ↦ ap (λ o. name_unknown w o ++ demand_received o) e ]

receives_pass : (s : Service) (k : Scope) (rs : List Receive) → All (IsReceived s k) rs → flat_map (receive_fault s k) rs ≡ []
receives_pass s k [] h = refl
receives_pass s k (r ∷ rs) h =
    none_of_both (receive_fault s k r) _ (received_passes r.target (variable_kind s k r.target) (All-head (IsReceived s k) r rs h))
    (receives_pass s k rs (All-tail (IsReceived s k) r rs h))

local_passes : (s : Service) (k : Scope) (w : List ℕ) (kind : Kind) (e : Term) → IsNew s k w → HasKind s k e kind → local_faults s k w kind e ≡ []
local_passes s k w kind e n h = none_of_both (local_repeated s k w) _ (new_passes s k w n) (wanted_passes s k kind e h)

pub code_passes : (s : Service) (k : Scope) (a : Code) → IsTypedCode s k a → code_faults s k a ≡ []
code_passes s k done h = refl
code_passes s k (declare kind w e a) h =
    none_of_both (local_faults s k w kind e) _ (local_passes s k w kind e h.0 h.1) (code_passes s (with_local k w kind) a h.2)
code_passes s k (assign w e a) h =
    let p = kind_passes s k e h.0.0 h.0.2 in let v = variable_kind s k w in
    none_of_both (name_unknown w v) _ (known w v h.0.0 h.0.1)
    (none_of_both (faults_in s k e) _ p.0 (none_of_both (demand_same v (kind_of s k e)) _
    (ap (λ o. demand_same o (kind_of s k e)) h.0.1 ∙ demand_met h.0.0 (kind_of s k e) p.1) (code_passes s k a h.1)))
code_passes s k (if_then e y a) h =
    none_of_both (wanted s k Truth e) _ (wanted_passes s k Truth e h.0)
    (none_of_both (code_faults s k y) _ (code_passes s k y h.1) (code_passes s (scope_behind k y) a h.2))
code_passes s k (if_else e y n a) h =
    none_of_both (wanted s k Truth e) _ (wanted_passes s k Truth e h.0)
    (none_of_both (code_faults s k y) _ (code_passes s k y h.1)
    (none_of_both (code_faults s (scope_behind k y) n) _ (code_passes s (scope_behind k y) n h.2)
    (code_passes s (scope_behind (scope_behind k y) n) a h.3)))
code_passes s k (while_loop e y a) h =
    none_of_both (wanted s k Truth e) _ (wanted_passes s k Truth e h.0)
    (none_of_both (code_faults s k y) _ (code_passes s k y h.1) (code_passes s (scope_behind k y) a h.2))
code_passes s k (block y a) h = none_of_both (code_faults s k y) _ (code_passes s k y h.0) (code_passes s (scope_behind k y) a h.1)
code_passes s k (for_each w e y a) h =
    none_of_both (local_faults s k w Strs e) _ (local_passes s k w Strs e h.0 h.1)
    (none_of_both (code_faults s (with_local k w Str) y) _ (code_passes s (with_local k w Str) y h.2) (code_passes s (behind_each k w y) a h.3))
code_passes s k (show p rs a) h =
    none_of_both (wanted s k Html p) _ (wanted_passes s k Html p h.0)
    (none_of_both (flat_map (receive_fault s k) rs) _ (receives_pass s k rs h.1) (code_passes s k a h.2))
code_passes s k (exit p a) h = none_of_both (wanted s k Html p) _ (wanted_passes s k Html p h.0) (code_passes s k a h.1)

-- An expression in which no test fails has a kind, and statements in which none fails are typed.
use Rattle.std.proofs.Common.{◌≡◌, ◌≢◌, ℕ, Bool, true, false, ◌⊎◌, inl, inr, List, [], ◌∷◌, Option, Some, None, refl, ap, sym, ◌∙◌}
use Rattle.std.specs.Prelude.{◌||◌, flat_map}
use Rattle.std.specs.List.{All}
use Rattle.std.proofs.lemmas.List.Elements.{All-cons, All-nil}
use Rattle.bw_lang.specs.declared.service.Service.{Service}
use Rattle.bw_lang.specs.declared.stmt.Kind.{Kind}
use Rattle.bw_lang.specs.declared.stmt.Kind.TheVariants.{Int, Bool as Truth, Str, Html, Strs}
use Rattle.bw_lang.specs.declared.stmt.Receive.{Receive}
use Rattle.bw_lang.specs.Service.Code.{Code, done, declare, assign, if_then, if_else, while_loop, block, for_each, show, exit}
use Rattle.bw_lang.specs.Service.Term as t
use Rattle.bw_lang.specs.Service.Term.{Term, Fillings, no_more, filling}
use Rattle.bw_types.specs.declared.fault.GapKind.{GapKind}
use Rattle.bw_types.specs.declared.fault.GapKind.TheVariants.{Content, Attribute}
use Rattle.bw_types.specs.ExpressionFaults.{OpSort, joins_truths, tests_equality, compares, adds, computes, op_sort, op_kind, fun_takes, fun_gives, kind_of}
use Rattle.bw_types.specs.ExpressionFaults.{demand, demand_same, demand_plain, demand_sum, left_demand, right_demand, gap_demand, gap_unknown, name_unknown}
use Rattle.bw_types.specs.ExpressionFaults.{faults_in, faults_in_pairs, wanted}
use Rattle.bw_types.specs.Faults.{code_faults, receive_fault, demand_received, local_repeated, local_faults}
use Rattle.bw_types.specs.Gaps.{kind_of_gap}
use Rattle.bw_types.specs.Scopes.{Scope, is_among, declared_names, name_kind, variable_kind, with_local, scope_behind, behind_each}
use Rattle.bw_types.specs.Typing.{Takes, Fits, HasKind, AreTyped, IsNew, IsReceived, IsTypedCode}
use Rattle.bw_types.proofs.Elements.{passes}
use Rattle.bw_types.proofs.Differing.{not_among}
use Rattle.bw_types.proofs.Parts.{nothing_first, nothing_behind}

pub is_demanded : (kind found : Kind) → demand kind (Some found) ≡ [] → found ≡ kind
is_demanded Int Int h = refl
is_demanded Truth Truth h = refl
is_demanded Str Str h = refl
is_demanded Html Html h = refl
is_demanded Strs Strs h = refl
is_demanded Int Truth h = absurd (cc)
is_demanded Int Str h = absurd (cc)
is_demanded Int Html h = absurd (cc)
is_demanded Int Strs h = absurd (cc)
is_demanded Truth Int h = absurd (cc)
is_demanded Truth Str h = absurd (cc)
is_demanded Truth Html h = absurd (cc)
is_demanded Truth Strs h = absurd (cc)
is_demanded Str Int h = absurd (cc)
is_demanded Str Truth h = absurd (cc)
is_demanded Str Html h = absurd (cc)
is_demanded Str Strs h = absurd (cc)
is_demanded Html Int h = absurd (cc)
is_demanded Html Truth h = absurd (cc)
is_demanded Html Str h = absurd (cc)
is_demanded Html Strs h = absurd (cc)
is_demanded Strs Int h = absurd (cc)
is_demanded Strs Truth h = absurd (cc)
is_demanded Strs Str h = absurd (cc)
is_demanded Strs Html h = absurd (cc)

pub is_known : (w : List ℕ) (o : Option Kind) → name_unknown w o ≡ [] → (kind : Kind) × (o ≡ Some kind)
is_known w None h = absurd (cc)
is_known w (Some kind) h = (kind, refl)

gap_known : (w : List ℕ) (o : Option GapKind) → gap_unknown w o ≡ [] → (g : GapKind) × (o ≡ Some g)
gap_known w None h = absurd (cc)
gap_known w (Some g) h = (g, refl)

plain_kind : (kind : Kind) → demand_plain (Some kind) ≡ [] → (kind ≢ Html) × (kind ≢ Strs)
plain_kind Int h = (λ e. cc, λ e. cc)
plain_kind Truth h = (λ e. cc, λ e. cc)
plain_kind Str h = (λ e. cc, λ e. cc)
plain_kind Html h = absurd (cc)
plain_kind Strs h = absurd (cc)

sum_kind : (kind : Kind) → demand_sum (Some kind) ≡ [] → (kind ≡ Int) ⊎ (kind ≡ Str)
sum_kind Int h = inl refl
sum_kind Str h = inr refl
sum_kind Truth h = absurd (cc)
sum_kind Html h = absurd (cc)
sum_kind Strs h = absurd (cc)

gap_fits : (g : GapKind) (kind : Kind) → gap_demand (Some g) (Some kind) ≡ [] → Fits g kind
gap_fits Content Int h = absurd (cc)
gap_fits Content Truth h = absurd (cc)
gap_fits Content Str h = inl refl
gap_fits Content Html h = inr refl
gap_fits Content Strs h = absurd (cc)
gap_fits Attribute kind h = is_demanded Str kind h

-- ---- expressions

-- the sides of an operator, whose demands are met, and what it gives
takes : (sort : OpSort) (l r : Kind) → left_demand sort (Some l) ≡ [] → right_demand sort (Some l) (Some r) ≡ [] → (kind : Kind) × (r ≡ l)
    × Takes sort l kind × (op_kind sort (Some l) ≡ Some kind)
takes joins_truths l r p q = (Truth, is_demanded Truth r q ∙ sym (is_demanded Truth l p), (is_demanded Truth l p, refl), refl)
takes tests_equality l r p q = let d = plain_kind l p in (Truth, is_demanded l r q, (d.0, d.1, refl), refl)
takes compares l r p q = (Truth, is_demanded Int r q ∙ sym (is_demanded Int l p), (is_demanded Int l p, refl), refl)
takes adds l r p q = (l, is_demanded l r q, (sum_kind l p, refl), refl)
takes computes l r p q = (Int, is_demanded Int r q ∙ sym (is_demanded Int l p), (is_demanded Int l p, refl), refl)

abbrev Kinded : Service → Scope → Term → Type 0
Kinded s k e = (kind : Kind) × (kind_of s k e ≡ Some kind) × HasKind s k e kind

-- the demanded kind
meets : (s : Service) (k : Scope) (e : Term) (kind : Kind) → Kinded s k e → demand kind (kind_of s k e) ≡ [] → HasKind s k e kind
meets s k e kind h d = let same : h.0 ≡ kind = is_demanded kind h.0 (ap (demand kind) (sym h.1) ∙ d) in rw (← same) h.2

joins : (s : Service) (k : Scope) (sort : OpSort) (l r : Term) → Kinded s k l → Kinded s k r → left_demand sort (kind_of s k l) ≡ []
    → right_demand sort (kind_of s k l) (kind_of s k r) ≡ []
    → (kind : Kind) × (op_kind sort (kind_of s k l) ≡ Some kind) × ((side : Kind) × HasKind s k l side × HasKind s k r side × Takes sort side kind)
joins s k sort l r a b p q =
    let t = takes sort a.0 b.0 (ap (left_demand sort) (sym a.1) ∙ p)
    (ap (λ o. right_demand sort o (Some b.0)) (sym a.1) ∙ ap (right_demand sort (kind_of s k l)) (sym b.1) ∙ q) in
    (t.0, ap (op_kind sort) a.1 ∙ t.3, (a.0, a.2, rw (← t.1) b.2, t.2))

fills : (s : Service) (k : Scope) (w : List ℕ) (e : Term) → gap_unknown w (kind_of_gap s w) ≡ [] → Kinded s k e
    → gap_demand (kind_of_gap s w) (kind_of s k e) ≡ []
    → (g : GapKind) × (kind : Kind) × (kind_of_gap s w ≡ Some g) × HasKind s k e kind × Fits g kind
fills s k w e u h d =
    let g = gap_known w (kind_of_gap s w) u in
    (g.0, h.0, g.1, h.2, gap_fits g.0 h.0 (ap (λ o. gap_demand o (Some h.0)) (sym g.1) ∙ ap (gap_demand (kind_of_gap s w)) (sym h.1) ∙ d))

mutual
  pub kinded : (s : Service) (k : Scope) (e : Term) → faults_in s k e ≡ [] → Kinded s k e
  kinded s k (t.int n) h = (Int, refl, refl)
  kinded s k (t.truth b) h = (Truth, refl, refl)
  kinded s k (t.string v) h = (Str, refl, refl)
  kinded s k t.nothing h = (Strs, refl, refl)
  kinded s k (t.name w) h = let x = is_known w (name_kind s k w) h in (x.0, x.1, x.1)
  kinded s k (t.paren e) h = kinded s k e h
  kinded s k (t.not e) h = (Truth, refl, (meets s k e Truth (kinded s k e (nothing_first _ _ h)) (nothing_behind (faults_in s k e) _ h), refl))
  kinded s k (t.neg e) h = (Int, refl, (meets s k e Int (kinded s k e (nothing_first _ _ h)) (nothing_behind (faults_in s k e) _ h), refl))
  kinded s k (t.binary op l r) h =
      let b = nothing_behind (faults_in s k l) _ h in let c = nothing_behind (left_demand (op_sort op) (kind_of s k l)) _ b in
      joins s k (op_sort op) l r (kinded s k l (nothing_first _ _ h)) (kinded s k r (nothing_first _ _ c)) (nothing_first _ _ b)
      (nothing_behind (faults_in s k r) _ c)
  kinded s k (t.call f e) h = (fun_gives f, refl, (meets s k e (fun_takes f) (kinded s k e (nothing_first _ _ h)) (nothing_behind (faults_in s k e) _ h), refl))
  kinded s k (t.plug b ps) h =
      let d = nothing_behind (faults_in s k b) _ h in (
        Html,
        refl,
        (
          meets s k b Html (kinded s k b (nothing_first _ _ h)) (nothing_first _ _ d),
          pairs_typed s k ps (nothing_behind (demand Html (kind_of s k b)) _ d),
          refl,
        ),
      )

  pub pairs_typed : (s : Service) (k : Scope) (ps : Fillings) → faults_in_pairs s k ps ≡ [] → AreTyped s k ps
  pairs_typed s k no_more h = tt
  pairs_typed s k (filling w e ps) h =
      let b = nothing_behind (gap_unknown w (kind_of_gap s w)) _ h in let c = nothing_behind (faults_in s k e) _ b in (
        fills s k w e (nothing_first _ _ h) (kinded s k e (nothing_first _ _ b)) (nothing_first _ _ c),
        pairs_typed s k ps (nothing_behind (gap_demand (kind_of_gap s w) (kind_of s k e)) _ c),
      )

pub has_wanted : (s : Service) (k : Scope) (kind : Kind) (e : Term) → wanted s k kind e ≡ [] → HasKind s k e kind
has_wanted s k kind e h = meets s k e kind (kinded s k e (nothing_first _ _ h)) (nothing_behind (faults_in s k e) _ h)

-- ---- statements

pub either_false : (a b : Bool) → (a || b) ≡ false → (a ≡ false) × (b ≡ false)
either_false true b h = absurd (cc)
either_false false b h = (refl, h)

is_new : (s : Service) (k : Scope) (w : List ℕ) → local_repeated s k w ≡ [] → IsNew s k w
is_new s k w h =
    let e = either_false (is_among w (declared_names s)) (is_among w k.taken) (passes _ _ h) in
    (not_among w (declared_names s) e.0, not_among w k.taken e.1)

assigned : (s : Service) (k : Scope) (w : List ℕ) (e : Term) → name_unknown w (variable_kind s k w) ≡ [] → faults_in s k e ≡ []
    → demand_same (variable_kind s k w) (kind_of s k e) ≡ []
    → (kind : Kind) × (variable_kind s k w ≡ Some kind) × HasKind s k e kind
assigned s k w e u f d =
    let v = is_known w (variable_kind s k w) u in
    (v.0, v.1, meets s k e v.0 (kinded s k e f) (ap (λ o. demand_same o (kind_of s k e)) (sym v.1) ∙ d))

received_kind : (o : Option Kind) (kind : Kind) → o ≡ Some kind → demand_received o ≡ [] → (o ≡ Some Str) ⊎ (o ≡ Some Strs)
received_kind None kind e d = absurd (cc)
received_kind (Some Int) kind e d = absurd (cc)
received_kind (Some Truth) kind e d = absurd (cc)
received_kind (Some Str) kind e d = inl refl
received_kind (Some Html) kind e d = absurd (cc)
received_kind (Some Strs) kind e d = inr refl

receives_typed : (s : Service) (k : Scope) (rs : List Receive) → flat_map (receive_fault s k) rs ≡ [] → All (IsReceived s k) rs
receives_typed s k [] h = All-nil (IsReceived s k)
receives_typed s k (r ∷ rs) h =
    let here = nothing_first (receive_fault s k r) _ h in let v = is_known r.target (variable_kind s k r.target) (nothing_first _ _ here) in
    All-cons (IsReceived s k) r rs (received_kind (variable_kind s k r.target) v.0 v.1
    (nothing_behind (name_unknown r.target (variable_kind s k r.target)) _ here)) (receives_typed s k rs (nothing_behind (receive_fault s k r) _ h))

-- a local with its value
local_typed : (s : Service) (k : Scope) (w : List ℕ) (kind : Kind) (e : Term) → local_faults s k w kind e ≡ [] → IsNew s k w × HasKind s k e kind
local_typed s k w kind e h = (is_new s k w (nothing_first _ _ h), has_wanted s k kind e (nothing_behind (local_repeated s k w) _ h))

pub code_typed : (s : Service) (k : Scope) (a : Code) → code_faults s k a ≡ [] → IsTypedCode s k a
code_typed s k done h = tt
code_typed s k (declare kind w e a) h =
    let l = local_typed s k w kind e (nothing_first _ _ h) in (l.0, l.1, code_typed s (with_local k w kind) a (nothing_behind (local_faults s k w kind e) _ h))
code_typed s k (assign w e a) h =
    let b = nothing_behind (name_unknown w (variable_kind s k w)) _ h in let c = nothing_behind (faults_in s k e) _ b in (
      assigned s k w e (nothing_first _ _ h) (nothing_first _ _ b) (nothing_first _ _ c),
      code_typed s k a (nothing_behind (demand_same (variable_kind s k w) (kind_of s k e)) _ c),
    )
code_typed s k (if_then e y a) h =
    let b = nothing_behind (wanted s k Truth e) _ h in (
      has_wanted s k Truth e (nothing_first _ _ h),
      code_typed s k y (nothing_first _ _ b),
      code_typed s (scope_behind k y) a (nothing_behind (code_faults s k y) _ b),
    )
code_typed s k (if_else e y n a) h =
    let b = nothing_behind (wanted s k Truth e) _ h in let c = nothing_behind (code_faults s k y) _ b in (
      has_wanted s k Truth e (nothing_first _ _ h),
      code_typed s k y (nothing_first _ _ b),
      code_typed s (scope_behind k y) n (nothing_first _ _ c),
      code_typed s (scope_behind (scope_behind k y) n) a (nothing_behind (code_faults s (scope_behind k y) n) _ c),
    )
code_typed s k (while_loop e y a) h =
    let b = nothing_behind (wanted s k Truth e) _ h in (
      has_wanted s k Truth e (nothing_first _ _ h),
      code_typed s k y (nothing_first _ _ b),
      code_typed s (scope_behind k y) a (nothing_behind (code_faults s k y) _ b),
    )
code_typed s k (block y a) h = (code_typed s k y (nothing_first _ _ h), code_typed s (scope_behind k y) a (nothing_behind (code_faults s k y) _ h))
code_typed s k (for_each w e y a) h =
    let l = local_typed s k w Strs e (nothing_first _ _ h) in let b = nothing_behind (local_faults s k w Strs e) _ h in (
      l.0,
      l.1,
      code_typed s (with_local k w Str) y (nothing_first _ _ b),
      code_typed s (behind_each k w y) a (nothing_behind (code_faults s (with_local k w Str) y) _ b),
    )
code_typed s k (show p rs a) h =
    let b = nothing_behind (wanted s k Html p) _ h in (
      has_wanted s k Html p (nothing_first _ _ h),
      receives_typed s k rs (nothing_first _ _ b),
      code_typed s k a (nothing_behind (flat_map (receive_fault s k) rs) _ b),
    )
code_typed s k (exit p a) h = (has_wanted s k Html p (nothing_first _ _ h), code_typed s k a (nothing_behind (wanted s k Html p) _ h))

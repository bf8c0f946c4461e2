-- What runs settle on, with the rests around them.
use Rattle.std.proofs.Common.{◌≡◌, ℕ, zero, suc, ◌+◌, ◌-◌, ◌<◌, ◌≤◌, Bool, true, false, List, [], ◌∷◌, ◌++◌, length, map, take, Some, refl}
use Rattle.std.proofs.Common.{sym, ap, ◌∙◌, arith, append_assoc}
use Rattle.std.specs.Prelude.{if◌then◌else◌, slice_get, unwrap_or}
use Rattle.std.proofs.lemmas.List.{length-append}
use Rattle.std.proofs.lemmas.List.Sums.{sum_by-append}
use Rattle.std.proofs.Math.Seq.{take-append_seam}
use Rattle.bw_lang.specs.declared.service.Service.{Service}
use Rattle.bw_lang.specs.declared.stmt.Receive.{Receive}
use Rattle.bw_lang.specs.Service.Term.{Term}
use Rattle.bw_flow.specs.declared.point.Local.{Local}
use Rattle.bw_flow.specs.Layout.{receives}
use Rattle.bw_flow.specs.Steps.{Step}
use Rattle.bw_meaning.specs.Expressions.{Evaluated, Gives, Faults, eval}
use Rattle.bw_meaning.specs.States.{State, Outcome, Went, Shown, Exited, Failed, Rests}
use Rattle.bw_meaning.specs.Statements.{when_paid, with_unit, when_given, with_value, begin, then_do, leave}
use Rattle.bw_meaning.specs.Statements.{room, add_rest}
use Rattle.bw_meaning.specs.Values.{Value, list_weight}
use Rattle.bw_meaning.proofs.Good.{Leaves, eval_leaves}
use Rattle.bw_run.specs.Follow.Laws.{Settles}
use Rattle.bw_meaning.specs.Values.{names_of}
use Rattle.bw_run.specs.Follow.Runs.{cut, plain, rests_weight, last_rest, outer_rests, within, run}
use Rattle.bw_run.specs.Follow.Scoped.{names_in}
use Rattle.bw_run.proofs.Follow.Names.{length_names, names_take, take_all, take_take, Apart, without_declared}
use Rattle.bw_run.proofs.Follow.Ends.{Ends}

-- ---- settling

pub settles_step : (R : ℕ → Outcome) (o : Outcome) → Settles (λ g. R (suc g)) o → Settles R o
settles_step R o s = (suc s.0, λ g. let e : suc s.0 + g ≡ suc (s.0 + g) = omega arith in ap R e ∙ s.1 g)

pub settles_to : (R : ℕ → Outcome) (o p : Outcome) → o ≡ p → Settles R o → Settles R p
settles_to R o p e s = (s.0, λ g. s.1 g ∙ e)

pub settles_by : (R Q : ℕ → Outcome) (o : Outcome) → ((g : ℕ) → R g ≡ Q g) → Settles Q o → Settles R o
settles_by R Q o e s = (s.0, λ g. e (s.0 + g) ∙ s.1 g)

settles_paid : (u : ℕ) (R : ℕ → ℕ → Outcome) (O : ℕ → Outcome) → ((w : ℕ) → w < u → Settles (λ g. R g w) (O w)) →
    Settles (λ g. when_paid u (R g)) (when_paid u O)
settles_paid zero R O h = (0, λ g. refl)
settles_paid (suc u) R O h = h u (omega arith)

pub settles_unit : (st : State) (R : ℕ → State → Outcome) (O : State → Outcome) →
    ((u : ℕ) → u < st.units → Settles (λ g. R g (record st { units = u })) (O (record st { units = u }))) → Settles (λ g. with_unit st (R g)) (with_unit st O)
settles_unit st R O h = settles_paid st.units (λ g u. R g (record st { units = u })) (λ u. O (record st { units = u })) h

settles_given : (u : ℕ) (o : Evaluated) (R : ℕ → Value → ℕ → Outcome) (O : Value → ℕ → Outcome) → Leaves u o →
    ((v : Value) (w : ℕ) → w ≤ u → Settles (λ g. R g v w) (O v w)) → Settles (λ g. when_given o (R g)) (when_given o O)
settles_given u (Gives v w) R O l h = h v w l
settles_given u (Faults f w) R O l h = (0, λ g. refl)

pub settles_value : (service : Service) (e : Term) (st : State) (R : ℕ → Value → State → Outcome) (O : Value → State → Outcome) →
    ((v : Value) (u : ℕ) → u ≤ st.units → Settles (λ g. R g v (record st { units = u })) (O v (record st { units = u }))) →
    Settles (λ g. with_value service e st (R g)) (with_value service e st O)
settles_value service e st R O h =
    settles_given st.units (eval service st.locals st.shared e st.units) (λ g v u. R g v (record st { units = u }))
    (λ v u. O v (record st { units = u })) (eval_leaves service st.locals st.shared e st.units) h

pub settles_begin : (service : Service) (e : Term) (st : State) (R : ℕ → Value → State → Outcome) (O : Value → State → Outcome) →
    ((v : Value) (u : ℕ) → u < st.units → Settles (λ g. R g v (record st { units = u })) (O v (record st { units = u }))) →
    Settles (λ g. begin service e st (R g)) (begin service e st O)
settles_begin service e st R O h =
    settles_paid st.units (λ g u. with_value service e (record st { units = u }) (R g)) (λ u. with_value service e (record st { units = u }) O)
    (λ u lt. settles_value service e (record st { units = u }) R O (λ v w le. h v w (omega arith)))

-- ---- outcomes with the rests around them, and what follows

-- an outcome, its rests put behind these, and then what follows
abbrev pub on : Rests → (State → Outcome) → Outcome → Outcome
on rs k o = then_do (within rs o) k

pub on_then : (rs : Rests) (k : State → Outcome) (o : Outcome) (go : State → Outcome) → on rs (λ st. on rs k (go st)) o ≡ on rs k (then_do o go)
on_then rs k (Went st) go = refl
on_then rs k (Shown at locals rests shown shared units) go = refl
on_then rs k (Exited last shared units) go = refl
on_then rs k (Failed f units) go = refl

on_paid : (rs : Rests) (k : State → Outcome) (u : ℕ) (f : ℕ → Outcome) → when_paid u (λ w. on rs k (f w)) ≡ on rs k (when_paid u f)
on_paid rs k zero f = refl
on_paid rs k (suc u) f = refl

on_given : (rs : Rests) (k : State → Outcome) (o : Evaluated) (f : Value → ℕ → Outcome) → when_given o (λ v u. on rs k (f v u)) ≡ on rs k (when_given o f)
on_given rs k (Gives v u) f = refl
on_given rs k (Faults f u) g = refl

pub on_unit : (rs : Rests) (k : State → Outcome) (st : State) (f : State → Outcome) → with_unit st (λ st1. on rs k (f st1)) ≡ on rs k (with_unit st f)
on_unit rs k st f = on_paid rs k st.units (λ u. f (record st { units = u }))

pub on_value : (rs : Rests) (k : State → Outcome) (service : Service) (e : Term) (st : State) (f : Value → State → Outcome) →
    with_value service e st (λ v st1. on rs k (f v st1)) ≡ on rs k (with_value service e st f)
on_value rs k service e st f = on_given rs k (eval service st.locals st.shared e st.units) (λ v u. f v (record st { units = u }))

paid_same : (u : ℕ) (f g : ℕ → Outcome) → ((w : ℕ) → f w ≡ g w) → when_paid u f ≡ when_paid u g
paid_same zero f g h = refl
paid_same (suc u) f g h = h u

pub on_begin : (rs : Rests) (k : State → Outcome) (service : Service) (e : Term) (st : State) (f : Value → State → Outcome) →
    begin service e st (λ v st1. on rs k (f v st1)) ≡ on rs k (begin service e st f)
on_begin rs k service e st f =
    paid_same st.units (λ u. with_value service e (record st { units = u }) (λ v st1. on rs k (f v st1)))
    (λ u. on rs k (with_value service e (record st { units = u }) f)) (λ u. on_value rs k service e (record st { units = u }) f)
    ∙ on_paid rs k st.units (λ u. with_value service e (record st { units = u }) f)

-- a rest more around
pub on_rest : (rs : Rests) (vs : List (List ℕ)) (k : State → Outcome) (o : Outcome) → on (rs ++ vs ∷ []) k o ≡ on rs k (add_rest vs o)
on_rest rs vs k (Went st) = refl
on_rest rs vs k (Shown at locals rests shown shared units) = ap (λ r. Shown at locals r shown shared units) (append_assoc rs (vs ∷ []) rests)
on_rest rs vs k (Exited last shared units) = refl
on_rest rs vs k (Failed f units) = refl

pub rest_leave : (vs xs : List (List ℕ)) (o : Outcome) → add_rest vs (leave xs o) ≡ leave xs (add_rest vs o)
rest_leave vs xs (Went st) = refl
rest_leave vs xs (Shown at locals rests shown shared units) = refl
rest_leave vs xs (Exited last shared units) = refl
rest_leave vs xs (Failed f units) = refl

-- ---- the locals in scope

pub names_cut : (sc : List Local) (ys : List (List ℕ)) (st : State) → names_of st.locals ≡ names_in sc ++ ys →
    names_of (cut (length sc) st).locals ≡ names_in sc
names_cut sc ys st e = ap (λ n. names_of (take n st.locals)) (sym (length_names sc)) ∙ names_take (names_in sc) ys st.locals e

pub cut_all : (sc : List Local) (st : State) → names_of st.locals ≡ names_in sc → cut (length sc) st ≡ st
cut_all sc st e = ap (λ l. record st { locals = l }) (ap (λ n. take n st.locals) (sym (length_names sc)) ∙ take_all (names_in sc) st.locals e)

pub cut_cut : (sc scq : List Local) (ys : List (List ℕ)) (st : State) → names_in sc ≡ names_in scq ++ ys →
    cut (length scq) (cut (length sc) st) ≡ cut (length scq) st
cut_cut sc scq ys st e =
    ap (λ n. cut (length scq) (cut n st)) (sym (length_names sc) ∙ ap length e)
    ∙ ap (λ n. cut n (cut (length (names_in scq ++ ys)) st)) (sym (length_names scq))
    ∙ ap (λ l. record st { locals = l }) (take_take (names_in scq) ys st.locals)
    ∙ ap (λ n. cut n st) (length_names scq)

-- where locals more than those in scope are cut, a block's end may leave them out
pub leave_as_cut : (flow : List Step) (d : ℕ) (rs : Rests) (sc : List Local) (xs : List (List ℕ)) (o : Outcome) (k : State → Outcome) →
    Ends flow d (names_in sc ++ xs) o → Apart (names_in sc) xs → on rs (λ st. k (cut (length sc) st)) o ≡ on rs k (leave xs o)
leave_as_cut flow d rs sc xs (Went st) k e a =
    ap (λ l. k (record st { locals = l })) (ap (λ n. take n st.locals) (sym (length_names sc)) ∙ sym (without_declared (names_in sc) xs st.locals e a))
leave_as_cut flow d rs sc xs (Shown at locals rests shown shared units) k e a = refl
leave_as_cut flow d rs sc xs (Exited last shared units) k e a = refl
leave_as_cut flow d rs sc xs (Failed f units) k e a = refl

-- ---- what stands at a place

-- from place q on, with these locals in scope, these rests and at most this room, the flow does what k does
pub record Means (service : Service) (flow : List Step) (q : ℕ) (sc : List Local) (rs : Rests) (r : ℕ) (k : State → Outcome) : Type 0 where
  pub by : (st : State) (ys : List (List ℕ)) → names_of st.locals ≡ names_in sc ++ ys → room st ≤ r →
      Settles (λ g. run service flow g q rs st) (k (cut (length sc) st))

pub plain_receives : (service : Service) (sc : List Local) (rs : List Receive) → map plain (receives service sc rs) ≡ rs
plain_receives service sc [] = refl
plain_receives service sc (r ∷ rs) = ap (λ l. r ∷ l) (plain_receives service sc rs)

last_is : (rs : Rests) (vs : List (List ℕ)) → slice_get (rs ++ vs ∷ []) (length rs) ≡ Some vs
last_is [] vs = refl
last_is (r ∷ rs) vs = last_is rs vs

pub length_more : (rs : Rests) (vs : List (List ℕ)) → length (rs ++ vs ∷ []) ≡ length rs + 1
length_more rs vs = length-append rs (vs ∷ [])

less_one : (rs : Rests) (vs : List (List ℕ)) → length (rs ++ vs ∷ []) - 1 ≡ length rs
less_one rs vs = let e = length_more rs vs in omega arith

pub last_rest_is : (rs : Rests) (vs : List (List ℕ)) → last_rest (rs ++ vs ∷ []) ≡ vs
last_rest_is rs vs = ap (λ n. unwrap_or (slice_get (rs ++ vs ∷ []) n) []) (less_one rs vs) ∙ ap (λ o. unwrap_or o []) (last_is rs vs)

pub outer_rests_are : (rs : Rests) (vs : List (List ℕ)) → outer_rests (rs ++ vs ∷ []) ≡ rs
outer_rests_are rs vs = ap (λ n. take n (rs ++ vs ∷ [])) (less_one rs vs) ∙ take-append_seam rs (vs ∷ [])

pub weight_more : (rs : Rests) (vs : List (List ℕ)) (around : ℕ) → around ≡ rests_weight rs → around + list_weight vs ≡ rests_weight (rs ++ vs ∷ [])
weight_more rs vs around e = let s = sum_by-append list_weight rs (vs ∷ []) in omega arith

pub if_true : (b : Bool) (p q : Outcome) → b ≡ true → (if b then p else q) ≡ p
if_true true p q e = refl
if_true false p q e = cc

pub if_false : (b : Bool) (p q : Outcome) → b ≡ false → (if b then p else q) ≡ q
if_false true p q e = cc
if_false false p q e = refl

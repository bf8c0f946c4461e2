-- What the flow does at one point, in a loop and in a foreach, from what it does from the next places on.
use Rattle.std.proofs.Common.{◌≡◌, ℕ, zero, suc, ◌+◌, ◌<◌, ◌≤◌, Bool, true, false, List, [], ◌∷◌, ◌++◌, length, Option, Some, None, refl}
use Rattle.std.proofs.Common.{sym, ap, ◌∙◌, subst, arith, append_assoc}
use Rattle.std.specs.Prelude.{◌==◌, if◌then◌else◌}
use Rattle.std.proofs.lemmas.Bool.{eq-eqb, ne_eqb}
use Rattle.std.proofs.lemmas.List.{append-nil}
use Rattle.bw_lang.specs.declared.service.Service.{Service}
use Rattle.bw_lang.specs.declared.stmt.Kind.TheVariants as kinds
use Rattle.bw_lang.specs.declared.turn.TurnFault.{TurnFault}
use Rattle.bw_lang.specs.Service.Code.{Code, while_loop, numbered}
use Rattle.bw_lang.specs.Service.Term.{Term}
use Rattle.bw_flow.specs.declared.point.Local.{Local}
use Rattle.bw_flow.specs.Layout.{step}
use Rattle.bw_flow.specs.Scopes.{with_local}
use Rattle.bw_flow.specs.Stands.{IsAt, Lowered}
use Rattle.bw_flow.specs.Steps.{Step}
use Rattle.bw_flow.specs.Steps as acts
use Rattle.bw_meaning.specs.Operators.{truth_of, list_of}
use Rattle.bw_meaning.specs.States.{State, Outcome, Went, Shown, Exited, Failed, Rests}
use Rattle.bw_meaning.specs.Statements.{declared, add_local, with_unit, with_value, begin, then_do, unless_fault, leave}
use Rattle.bw_meaning.specs.Statements.{room, add_rest, each, exec}
use Rattle.bw_meaning.specs.Values.{Document, Value, Values, text, list_weight}
use Rattle.bw_meaning.proofs.Good.{Good, good_more}
use Rattle.bw_meaning.proofs.Loops.{loops_again}
use Rattle.bw_run.specs.Follow.Laws.{Settles}
use Rattle.bw_meaning.specs.Values.{names_of}
use Rattle.bw_run.specs.Follow.Runs.{cut, last_rest, outer_rests, Next, go_over, does, at_point, run}
use Rattle.bw_run.specs.Follow.Scoped.{names_in}
use Rattle.bw_flow.specs.Scoped.{IsScoped}
use Rattle.bw_run.proofs.Follow.Names.{names_add, names_with, Apart}
use Rattle.bw_run.proofs.Follow.Names.{scoped_apart}
use Rattle.bw_run.proofs.Follow.Ends.{Ends, exec_ends}
use Rattle.bw_run.proofs.Follow.Settling.{settles_step, settles_to, settles_by, settles_unit, settles_value, settles_begin, on, on_then, on_unit, on_value}
use Rattle.bw_run.proofs.Follow.Settling.{on_begin, on_rest, rest_leave, names_cut, cut_all, leave_as_cut, length_more, last_rest_is, outer_rests_are, if_true}
use Rattle.bw_run.proofs.Follow.Settling.{if_false, Means}

module _ (service : Service) (flow : List Step) where
  pub settles_point : (p : ℕ) (x : Step) (rs : Rests) (st : State) (o : Outcome) → IsAt flow p x →
      Settles (λ g. does service x.act x (run service flow g) rs (cut (length x.scope) st)) o → Settles (λ g. run service flow g p rs st) o
  settles_point p x rs st o at s =
      settles_step (λ g. run service flow g p rs st) o
      (settles_by (λ g. run service flow (suc g) p rs st) (λ g. does service x.act x (run service flow g) rs (cut (length x.scope) st)) o
      (λ g. ap (λ y. at_point service y (run service flow g) rs st) at) s)

  pub means_at : (q : ℕ) (sc : List Local) (rs : Rests) (r : ℕ) (k : State → Outcome) (st : State) → Means service flow q sc rs r k →
      names_of st.locals ≡ names_in sc → room st ≤ r → Settles (λ g. run service flow g q rs st) (k st)
  means_at q sc rs r k st m e le =
      settles_to (λ g. run service flow g q rs st) (k (cut (length sc) st)) (k st) (ap k (cut_all sc st e)) (m.by st [] (e
      ∙ sym (append-nil (names_in sc))) le)

  pub means_to : (q : ℕ) (sc : List Local) (rs : Rests) (r : ℕ) (k l : State → Outcome) →
      ((st : State) → names_of st.locals ≡ names_in sc → k st ≡ l st) → Means service flow q sc rs r k → Means service flow q sc rs r l
  means_to q sc rs r k l h m = record {
    by = λ st ys e le. settles_to (λ g. run service flow g q rs st) (k (cut (length sc) st)) (l (cut (length sc) st))
        (h (cut (length sc) st) (names_cut sc ys st e)) (m.by st ys e le);
  }

  -- after an outcome that ends with just the locals in scope at q
  pub settles_next : (lo hi d q : ℕ) (sc : List Local) (rs : Rests) (r : ℕ) (k : State → Outcome) (o : Outcome) → Good lo hi r o →
      Ends flow d (names_in sc) o → Means service flow q sc rs r k → Settles (λ g. on rs (run service flow g q rs) o) (on rs k o)
  settles_next lo hi d q sc rs r k (Went st) g e m = means_at q sc rs r k st m e g
  settles_next lo hi d q sc rs r k (Shown at locals rests shown shared units) g e m = (0, λ x. refl)
  settles_next lo hi d q sc rs r k (Exited last shared units) g e m = (0, λ x. refl)
  settles_next lo hi d q sc rs r k (Failed f units) g e m = (0, λ x. refl)

  -- a point that evaluates and has one successor
  pub sim_one : (lo hi d p q : ℕ) (x : Step) (sc1 : List Local) (rs : Rests) (r : ℕ) (k : State → Outcome) (e : Term) (O : Value → State → Outcome) →
      IsAt flow p x →
      ((next : Next) (st : State) → does service x.act x next rs st ≡ begin service e st (λ v st1. on rs (next q rs) (O v st1))) →
      ((v : Value) (st1 : State) → names_of st1.locals ≡ names_in x.scope → Ends flow d (names_in sc1) (O v st1)) →
      ((v : Value) (st1 : State) → Good lo hi (room st1) (O v st1)) →
      Means service flow q sc1 rs r k → Means service flow p x.scope rs r (λ st. on rs k (begin service e st O))
  sim_one lo hi d p q x sc1 rs r k e O at acts ends good m = record {
    by = λ st ys en le.
        let st0 = cut (length x.scope) st in
        settles_point p x rs st (on rs k (begin service e st0 O)) at
        (settles_by (λ g. does service x.act x (run service flow g) rs st0)
        (λ g. begin service e st0 (λ v st1. on rs (run service flow g q rs) (O v st1))) (on rs k (begin service e st0 O))
        (λ g. acts (run service flow g) st0)
        (settles_to (λ g. begin service e st0 (λ v st1. on rs (run service flow g q rs) (O v st1)))
        (begin service e st0 (λ v st1. on rs k (O v st1))) (on rs k (begin service e st0 O)) (on_begin rs k service e st0 O)
        (settles_begin service e st0 (λ g v st1. on rs (run service flow g q rs) (O v st1)) (λ v st1. on rs k (O v st1))
        (λ v u lt. let st1 = record st0 { units = u } in settles_next lo hi d q sc1 rs r k (O v st1)
        (good_more lo hi (room st1) lo hi r (O v st1) (omega arith) (omega arith) (omega arith) (good v st1))
        (ends v st1 (names_cut x.scope ys st en)) m))));
  }

  -- a join
  pub means_join : (j q n d : ℕ) (sc : List Local) (rs : Rests) (r : ℕ) (k : State → Outcome) → IsAt flow j (step n sc d acts.joins (q ∷ [])) →
      Means service flow q sc rs r k → Means service flow j sc rs r k
  means_join j q n d sc rs r k at m = record {
    by = λ st ys en le.
        let st0 = cut (length sc) st in
        settles_point j (step n sc d acts.joins (q ∷ [])) rs st (k st0) at (means_at q sc rs r k st0 m (names_cut sc ys st en) le);
  }

  pub settles_test : (b : Bool) (rs : Rests) (k : State → Outcome) (R Q : ℕ → Outcome) (o p : Outcome) → Settles R (on rs k o) → Settles Q (on rs k p) →
      Settles (λ g. if b then R g else Q g) (on rs k (if b then o else p))
  settles_test true rs k R Q o p a b = a
  settles_test false rs k R Q o p a b = b

  -- a test
  pub sim_test : (p y z n d : ℕ) (sc : List Local) (rs : Rests) (r : ℕ) (k : State → Outcome) (e : Term) (A B : State → Outcome) →
      IsAt flow p (step n sc d (acts.tests e) (y ∷ z ∷ [])) →
      (st : State) (ys : List (List ℕ)) → names_of st.locals ≡ names_in sc ++ ys → room st ≤ r →
      ((st1 : State) → names_of st1.locals ≡ names_in sc → room st1 < room st → Settles (λ g. run service flow g y rs st1) (on rs k (A st1))) →
      ((st1 : State) → names_of st1.locals ≡ names_in sc → room st1 < room st → Settles (λ g. run service flow g z rs st1) (on rs k (B st1))) →
      Settles (λ g. run service flow g p rs st) (on rs k (begin service e (cut (length sc) st) (λ v st1. if truth_of v then A st1 else B st1)))
  sim_test p y z n d sc rs r k e A B at st ys en le ha hb =
      let st0 = cut (length sc) st in
      let O = λ (v : Value) (st1 : State). if truth_of v then A st1 else B st1 in
      settles_point p (step n sc d (acts.tests e) (y ∷ z ∷ [])) rs st (on rs k (begin service e st0 O)) at
      (settles_to (λ g. begin service e st0 (λ v st1. if truth_of v then run service flow g y rs st1 else run service flow g z rs st1))
      (begin service e st0 (λ v st1. on rs k (O v st1))) (on rs k (begin service e st0 O)) (on_begin rs k service e st0 O)
      (settles_begin service e st0 (λ g v st1. if truth_of v then run service flow g y rs st1 else run service flow g z rs st1) (λ v st1. on rs k (O v st1))
      (λ v u lt.
      let st1 = record st0 { units = u } in
      settles_test (truth_of v) rs k (λ g. run service flow g y rs st1) (λ g. run service flow g z rs st1) (A st1) (B st1)
      (ha st1 (names_cut sc ys st en) (omega arith)) (hb st1 (names_cut sc ys st en) (omega arith)))))

  -- a block's statements, from a place at which their locals are in scope, with what follows the block
  pub inner : (b : Code) (n y p d around : ℕ) (sc1 sc : List Local) (xs : List (List ℕ)) (rs : Rests) (r : ℕ) (k : State → Outcome) (st : State) →
      Lowered service flow b n sc1 d y p → IsScoped service b sc1 → names_in sc1 ++ declared b ≡ names_in sc ++ xs → Apart (names_in sc) xs →
      Means service flow y sc1 rs r (λ st1. on rs (λ st2. k (cut (length sc) st2)) (exec service b n around st1)) →
      names_of st.locals ≡ names_in sc1 → room st ≤ r →
      Settles (λ g. run service flow g y rs st) (on rs k (leave xs (exec service b n around st)))
  inner b n y p d around sc1 sc xs rs r k st low s eq a m en le =
      let o = exec service b n around st in
      settles_to (λ g. run service flow g y rs st) (on rs (λ st2. k (cut (length sc) st2)) o) (on rs k (leave xs o))
      (leave_as_cut flow d rs sc xs o k (subst (λ ns. Ends flow d ns o) eq (exec_ends flow service b n sc1 d y p around st low s en)) a)
      (means_at y sc1 rs r (λ st1. on rs (λ st2. k (cut (length sc) st2)) (exec service b n around st1)) st m en le)

  -- a loop, from what its body does before anything that follows
  module _ (e : Term) (b rest : Code) (n : ℕ) (sc : List Local) (d p around y z : ℕ) (rs : Rests) (r : ℕ) (kq : State → Outcome)
      (at : IsAt flow p (step n sc d (acts.tests e) (y ∷ z ∷ []))) (low : Lowered service flow b (n + 1) sc d y p) (s : IsScoped service b sc)
      (mz : Means service flow z sc rs r (λ st. on rs kq (exec service rest (n + 1 + numbered b) around st)))
      (bodies : (r1 : ℕ) (k1 : State → Outcome) → Means service flow p sc rs r1 k1 →
      Means service flow y sc rs r1 (λ st. on rs (λ st1. k1 (cut (length sc) st1)) (exec service b (n + 1) around st))) where
    pub loop_from : (m : ℕ) (st : State) (zs : List (List ℕ)) → names_of st.locals ≡ names_in sc ++ zs → room st < m → room st ≤ r →
        Settles (λ g. run service flow g p rs st) (on rs kq (exec service (while_loop e b rest) n around (cut (length sc) st)))
    loop_from zero st zs en lt le = absurd (omega arith)
    loop_from (suc m) st zs en lt le =
        let st0 = cut (length sc) st in
        let loop = exec service (while_loop e b rest) n around in
        let next = exec service rest (n + 1 + numbered b) around in
        let kw = λ (st1 : State). on rs kq (loop st1) in
        let once = λ (st1 : State). leave (declared b) (exec service b (n + 1) around st1) in
        let again = λ (st1 : State). then_do (once st1) loop in
        settles_to (λ g. run service flow g p rs st) (on rs kq (begin service e st0 (λ v st1. if truth_of v then again st1 else next st1)))
        (on rs kq (loop st0)) (ap (on rs kq) (sym (loops_again service e b rest n around st0)))
        (sim_test p y z n d sc rs r kq e again next at st zs en le
        (λ st1 en1 lt1. settles_to (λ g. run service flow g y rs st1) (on rs kw (once st1)) (on rs kq (again st1)) (on_then rs kq (once st1) loop)
        (inner b (n + 1) y p d around sc sc (declared b) rs (room st1) kw st1 low s refl (scoped_apart service b sc s)
        (bodies (room st1) kw (record { by = λ st2 zs2 en2 le2. loop_from m st2 zs2 en2 (omega arith) (omega arith) })) en1 (omega arith)))
        (λ st1 en1 lt1. means_at z sc rs r (λ st2. on rs kq (next st2)) st1 mz en1 (omega arith)))

  -- a foreach over strings, from what its body does before anything that follows
  module _ (w : List ℕ) (e : Term) (b : Code) (n : ℕ) (sc : List Local) (d p around y z : ℕ) (rs : Rests) (r : ℕ) (k : State → Outcome)
      (at : IsAt flow p (step n sc d (acts.goes_over w e) (y ∷ z ∷ [])))
      (low : Lowered service flow b (n + 1) (with_local sc w kinds.Str) (d + 1) y p) (s : IsScoped service b (with_local sc w kinds.Str))
      (apart : Apart (names_in sc) (w ∷ declared b)) (ed : d ≡ length rs) (mz : Means service flow z sc rs r k)
      (bodies : (vs : List (List ℕ)) (k1 : State → Outcome) → Means service flow p sc (rs ++ vs ∷ []) r k1 →
      Means service flow y (with_local sc w kinds.Str) (rs ++ vs ∷ []) r
      (λ st. on (rs ++ vs ∷ []) (λ st1. k1 (cut (length sc) st1)) (exec service b (n + 1) (around + list_weight vs) st))) where
    -- with a rest of its own it goes on
    pub goes_on : (vs : List (List ℕ)) (next : Next) (st : State) →
        does service (acts.goes_over w e) (step n sc d (acts.goes_over w e) (y ∷ z ∷ [])) next (rs ++ vs ∷ []) st ≡ go_over w vs (y ∷ z ∷ []) next rs st
    goes_on vs next st =
        let rs1 = rs ++ vs ∷ [] in
        let places = y ∷ z ∷ [] in
        let l = length_more rs vs in
        if_false (length rs1 == d) (with_value service e st (λ v. go_over w (list_of v) places next rs1))
        (go_over w (last_rest rs1) places next (outer_rests rs1) st) (ne_eqb (length rs1) d (λ x. omega arith))
        ∙ ap (λ l. go_over w l places next (outer_rests rs1) st) (last_rest_is rs vs) ∙ ap (λ l. go_over w vs places next l st) (outer_rests_are rs vs)

    pub over : (vs : List (List ℕ)) (st : State) → names_of st.locals ≡ names_in sc → room st ≤ r →
        Settles (λ g. go_over w vs (y ∷ z ∷ []) (run service flow g) rs st)
        (on rs k (each vs w (w ∷ declared b) (λ ws. exec service b (n + 1) (around + list_weight ws)) st))
    over [] st en le =
        settles_to (λ g. with_unit st (run service flow g z rs)) (with_unit st (λ st1. on rs k (Went st1))) (on rs k (with_unit st Went))
        (on_unit rs k st Went)
        (settles_unit st (λ g. run service flow g z rs) (λ st1. k st1) (λ u lt. means_at z sc rs r k (record st { units = u }) mz en (omega arith)))
    over (v ∷ vs) st en le =
        let rs1 = rs ++ vs ∷ [] in
        let sc1 = with_local sc w kinds.Str in
        let names = w ∷ declared b in
        let body = λ (ws : List (List ℕ)). exec service b (n + 1) (around + list_weight ws) in
        let k2 = λ (st1 : State). on rs k (each vs w names body st1) in
        let once = λ (st1 : State). leave names (add_rest vs (body vs (add_local w (text v) st1))) in
        let go = λ (st1 : State). then_do (once st1) (each vs w names body) in
        settles_to (λ g. with_unit st (λ st1. run service flow g y rs1 (add_local w (text v) st1))) (with_unit st (λ st1. on rs k (go st1)))
        (on rs k (with_unit st go)) (on_unit rs k st go)
        (settles_unit st (λ g st1. run service flow g y rs1 (add_local w (text v) st1)) (λ st1. on rs k (go st1))
        (λ u lt.
        let st1 = record st { units = u } in
        let st2 = add_local w (text v) st1 in
        let o = body vs st2 in
        settles_to (λ g. run service flow g y rs1 st2) (on rs1 k2 (leave names o)) (on rs k (go st1))
        (on_rest rs vs k2 (leave names o) ∙ ap (on rs k2) (rest_leave vs names o) ∙ on_then rs k (once st1) (each vs w names body))
        (inner b (n + 1) y p (d + 1) (around + list_weight vs) sc1 sc names rs1 r k2 st2 low s (ap (λ l. l ++ declared b) (names_with sc w kinds.Str)
        ∙ append_assoc (names_in sc) (w ∷ []) (declared b)) apart
        (bodies vs k2 (record {
          by = λ st3 zs en3 le3.
              let st4 = cut (length sc) st3 in
              settles_point p (step n sc d (acts.goes_over w e) (y ∷ z ∷ [])) rs1 st3 (k2 st4) at
              (settles_by (λ g. does service (acts.goes_over w e) (step n sc d (acts.goes_over w e) (y ∷ z ∷ [])) (run service flow g) rs1 st4)
              (λ g. go_over w vs (y ∷ z ∷ []) (run service flow g) rs st4) (k2 st4) (λ g. goes_on vs (run service flow g) st4)
              (over vs st4 (names_cut sc zs st3 en3) le3));
        }))
        (names_add w (text v) st1 (names_in sc) en ∙ sym (names_with sc w kinds.Str)) (omega arith))))

    pub enters : Means service flow p sc rs r
        (λ st. on rs k (with_value service e st (λ v. each (list_of v) w (w ∷ declared b) (λ ws. exec service b (n + 1) (around + list_weight ws)))))
    enters = record {
      by = λ st zs en le.
          let st0 = cut (length sc) st in
          let x = step n sc d (acts.goes_over w e) (y ∷ z ∷ []) in
          let places = y ∷ z ∷ [] in
          let go = λ (v : Value). each (list_of v) w (w ∷ declared b) (λ ws. exec service b (n + 1) (around + list_weight ws)) in
          settles_point p x rs st (on rs k (with_value service e st0 go)) at
          (settles_by (λ g. does service x.act x (run service flow g) rs st0)
          (λ g. with_value service e st0 (λ v. go_over w (list_of v) places (run service flow g) rs)) (on rs k (with_value service e st0 go))
          (λ g. if_true (length rs == d) (with_value service e st0 (λ v. go_over w (list_of v) places (run service flow g) rs))
          (go_over w (last_rest rs) places (run service flow g) (outer_rests rs) st0) (eq-eqb (length rs) d (sym ed)))
          (settles_to (λ g. with_value service e st0 (λ v. go_over w (list_of v) places (run service flow g) rs))
          (with_value service e st0 (λ v st1. on rs k (go v st1))) (on rs k (with_value service e st0 go)) (on_value rs k service e st0 go)
          (settles_value service e st0 (λ g v. go_over w (list_of v) places (run service flow g) rs) (λ v st1. on rs k (go v st1))
          (λ v u le1. over (list_of v) (record st0 { units = u }) (names_cut sc zs st en) (omega arith)))));
    }

    -- with a rest of its own, from the end of its body on
    pub again : (vs : List (List ℕ)) →
        Means service flow p sc (rs ++ vs ∷ []) r (λ st. on rs k (each vs w (w ∷ declared b) (λ ws. exec service b (n + 1) (around + list_weight ws)) st))
    again vs = record {
      by = λ st zs en le.
          let st0 = cut (length sc) st in
          let x = step n sc d (acts.goes_over w e) (y ∷ z ∷ []) in
          let o = on rs k (each vs w (w ∷ declared b) (λ ws. exec service b (n + 1) (around + list_weight ws)) st0) in
          settles_point p x (rs ++ vs ∷ []) st o at
          (settles_by (λ g. does service x.act x (run service flow g) (rs ++ vs ∷ []) st0)
          (λ g. go_over w vs (y ∷ z ∷ []) (run service flow g) rs st0) o (λ g. goes_on vs (run service flow g) st0)
          (over vs st0 (names_cut sc zs st en) le));
    }

  pub on_exits : (rs : Rests) (k : State → Outcome) (f : Option TurnFault) (units : ℕ) (d : Document) (shared : Values) (u : ℕ) →
      unless_fault f units (Exited d shared u) ≡ on rs k (unless_fault f units (Exited d shared u))
  on_exits rs k None units d shared u = refl
  on_exits rs k (Some f) units d shared u = refl

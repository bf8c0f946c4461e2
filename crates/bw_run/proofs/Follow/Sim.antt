-- The flow does what the statements do.
use Rattle.std.proofs.Common.{◌≡◌, ℕ, suc, ◌+◌, List, [], ◌∷◌, ◌++◌, length, map, refl}
use Rattle.std.proofs.Common.{sym, ap, ◌∙◌, subst, arith, append_assoc}
use Rattle.std.specs.Prelude.{if◌then◌else◌}
use Rattle.std.proofs.lemmas.List.{append-nil}
use Rattle.bw_lang.specs.declared.service.Service.{Service}
use Rattle.bw_lang.specs.declared.stmt.Kind.TheVariants as kinds
use Rattle.bw_lang.specs.Service.Code.{Code, done, declare, assign, if_then, if_else, while_loop, block, for_each, show, exit, numbered}
use Rattle.bw_lang.specs.Service.Term.{Term}
use Rattle.bw_flow.specs.declared.point.Local.{Local}
use Rattle.bw_flow.specs.Layout.{step, receives}
use Rattle.bw_flow.specs.Scopes.{with_local}
use Rattle.bw_flow.specs.Stands.{Lowered}
use Rattle.bw_flow.specs.Steps.{Step}
use Rattle.bw_flow.specs.Steps as acts
use Rattle.bw_meaning.specs.Operators.{truth_of, list_of, document_of}
use Rattle.bw_meaning.specs.Pages.{show_fault, exit_fault}
use Rattle.bw_meaning.specs.States.{State, Outcome, Went, Rests}
use Rattle.bw_meaning.specs.Statements.{declared, add_local, store, with_value, begin, leave}
use Rattle.bw_meaning.specs.Statements.{room, each, wait, shows, exits, exec}
use Rattle.bw_meaning.specs.Values.{Value, list_weight}
use Rattle.bw_meaning.proofs.Good.{good_unless, good_wait}
use Rattle.bw_meaning.proofs.OneMore.{begin_same}
use Rattle.bw_run.specs.Follow.Laws.{Settles}
use Rattle.bw_run.specs.Follow.Runs.{cut, plain, rests_weight, run}
use Rattle.bw_run.specs.Follow.Scoped.{names_in}
use Rattle.bw_flow.specs.Scoped.{IsScoped}
use Rattle.bw_run.proofs.Follow.Names.{names_store, names_add, names_with}
use Rattle.bw_run.proofs.Follow.Names.{scoped_apart, unknown_apart, apart_with}
use Rattle.bw_run.proofs.Follow.Ends.{ends_shows, exec_ends}
use Rattle.bw_run.proofs.Follow.Settling.{settles_to, on, on_then, on_begin, cut_cut, leave_as_cut, plain_receives, length_more, weight_more, Means}
use Rattle.bw_run.proofs.Follow.Points.{means_to, sim_one, means_join, sim_test, inner, means_at, loop_from, enters, again, settles_point, on_exits}

module _ (service : Service) (flow : List Step) where
  -- Statements from place p to place q: whatever the flow does from q on, from p on it does the statements and then that.
  pub sim : (c : Code) (n : ℕ) (sc : List Local) (d p q around : ℕ) (rs : Rests) (scq : List Local) (ys : List (List ℕ)) (r : ℕ) (k : State → Outcome) →
      Lowered service flow c n sc d p q → IsScoped service c sc → names_in sc ++ declared c ≡ names_in scq ++ ys → d ≡ length rs →
      around ≡ rests_weight rs → Means service flow q scq rs r k →
      Means service flow p sc rs r (λ st. on rs (λ st1. k (cut (length scq) st1)) (exec service c n around st))
  sim done n sc d p q around rs scq ys r k low s eq ed ea m = record {
    by = λ st zs en le.
        let eq0 = sym (append-nil (names_in sc)) ∙ eq in
        settles_to (λ g. run service flow g p rs st) (k (cut (length scq) st)) (k (cut (length scq) (cut (length sc) st)))
        (ap k (sym (cut_cut sc scq ys st eq0)))
        (subst (λ x. Settles (λ g. run service flow g x rs st) (k (cut (length scq) st))) (sym low) (m.by st (ys ++ zs) (en ∙ ap (λ l. l ++ zs) eq0
        ∙ append_assoc (names_in scq) ys zs) le));
  }
  sim (declare kind w e rest) n sc d p q around rs scq ys r k low s eq ed ea m =
      let kq = λ (st1 : State). k (cut (length scq) st1) in
      let sc1 = with_local sc w kind in
      let next = exec service rest (n + 1) around in
      let go = λ (v : Value) (st1 : State). Went (add_local w v st1) in
      let eq1 = ap (λ l. l ++ declared rest) (names_with sc w kind) ∙ append_assoc (names_in sc) (w ∷ []) (declared rest) ∙ eq in
      means_to service flow p sc rs r (λ st. on rs (λ st1. on rs kq (next st1)) (begin service e st go))
      (λ st. on rs kq (exec service (declare kind w e rest) n around st)) (λ st en. on_then rs kq (begin service e st go) next)
      (sim_one service flow n (n + 1) d p low.0 (step n sc d (acts.sets w e) (low.0 ∷ [])) sc1 rs r (λ st1. on rs kq (next st1)) e go low.1
      (λ after st. ap (λ b. begin service e st (λ v st1. after low.0 rs (if b then store w v st1 else add_local w v st1))) s.0)
      (λ v st1 en. names_add w v st1 (names_in sc) en ∙ sym (names_with sc w kind)) (λ v st1. omega arith)
      (sim rest (n + 1) sc1 d low.0 q around rs scq ys r k low.2 s.1 eq1 ed ea m))
  sim (assign w e rest) n sc d p q around rs scq ys r k low s eq ed ea m =
      let kq = λ (st1 : State). k (cut (length scq) st1) in
      let next = exec service rest (n + 1) around in
      let go = λ (v : Value) (st1 : State). Went (store w v st1) in
      means_to service flow p sc rs r (λ st. on rs (λ st1. on rs kq (next st1)) (begin service e st go))
      (λ st. on rs kq (exec service (assign w e rest) n around st)) (λ st en. on_then rs kq (begin service e st go) next)
      (sim_one service flow n (n + 1) d p low.0 (step n sc d (acts.sets w e) (low.0 ∷ [])) sc rs r (λ st1. on rs kq (next st1)) e go low.1
      (λ after st. ap (λ b. begin service e st (λ v st1. after low.0 rs (if b then store w v st1 else add_local w v st1))) s.0)
      (λ v st1 en. names_store w v st1 ∙ en) (λ v st1. omega arith)
      (sim rest (n + 1) sc d low.0 q around rs scq ys r k low.2 s.1 eq ed ea m))
  sim (if_then e y rest) n sc d p q around rs scq ys r k low s eq ed ea m =
      let kq = λ (st1 : State). k (cut (length scq) st1) in
      let next = exec service rest (n + 1 + numbered y) around in
      let kr = λ (st1 : State). on rs kq (next st1) in
      let yes = λ (st1 : State). leave (declared y) (exec service y (n + 1) around st1) in
      let go = λ (v : Value) (st1 : State). if truth_of v then yes st1 else Went st1 in
      let mj = means_join service flow low.1 low.2 n d sc rs r kr low.4
      (sim rest (n + 1 + numbered y) sc d low.2 q around rs scq ys r k low.6 s.1 eq ed ea m) in
      let my = sim y (n + 1) sc d low.0 low.1 around rs sc (declared y) r kr low.5 s.0 refl ed ea mj in
      means_to service flow p sc rs r (λ st. on rs kr (begin service e st go)) (λ st. on rs kq (exec service (if_then e y rest) n around st))
      (λ st en. on_then rs kq (begin service e st go) next)
      (record {
        by = λ st zs en le. sim_test service flow p low.0 low.1 n d sc rs r kr e yes (λ st1. Went st1) low.3 st zs en le
            (λ st1 en1 lt. inner service flow y (n + 1) low.0 low.1 d around sc sc (declared y) rs r kr st1 low.5 s.0 refl
            (scoped_apart service y sc s.0) my en1
            (omega arith))
            (λ st1 en1 lt. means_at service flow low.1 sc rs r kr st1 mj en1 (omega arith));
      })
  sim (if_else e y z rest) n sc d p q around rs scq ys r k low s eq ed ea m =
      let kq = λ (st1 : State). k (cut (length scq) st1) in
      let n2 = n + 1 + numbered y in
      let next = exec service rest (n2 + numbered z) around in
      let kr = λ (st1 : State). on rs kq (next st1) in
      let yes = λ (st1 : State). leave (declared y) (exec service y (n + 1) around st1) in
      let other = λ (st1 : State). leave (declared z) (exec service z n2 around st1) in
      let go = λ (v : Value) (st1 : State). if truth_of v then yes st1 else other st1 in
      let mj = means_join service flow low.2 low.3 n d sc rs r kr low.5 (sim rest (n2 + numbered z) sc d low.3 q around rs scq ys r k low.8 s.2 eq ed ea m) in
      let my = sim y (n + 1) sc d low.0 low.2 around rs sc (declared y) r kr low.6 s.0 refl ed ea mj in
      let mz = sim z n2 sc d low.1 low.2 around rs sc (declared z) r kr low.7 s.1 refl ed ea mj in
      means_to service flow p sc rs r (λ st. on rs kr (begin service e st go)) (λ st. on rs kq (exec service (if_else e y z rest) n around st))
      (λ st en. on_then rs kq (begin service e st go) next)
      (record {
        by = λ st zs en le. sim_test service flow p low.0 low.1 n d sc rs r kr e yes other low.4 st zs en le
            (λ st1 en1 lt. inner service flow y (n + 1) low.0 low.2 d around sc sc (declared y) rs r kr st1 low.6 s.0 refl
            (scoped_apart service y sc s.0) my en1
            (omega arith))
            (λ st1 en1 lt. inner service flow z n2 low.1 low.2 d around sc sc (declared z) rs r kr st1 low.7 s.1 refl (scoped_apart service z sc s.1) mz en1
            (omega arith));
      })
  sim (while_loop e b rest) n sc d p q around rs scq ys r k low s eq ed ea m = record {
    by = λ st zs en le.
        loop_from service flow e b rest n sc d p around low.0 low.1 rs r (λ st1. k (cut (length scq) st1)) low.2 low.3 s.0
        (sim rest (n + 1 + numbered b) sc d low.1 q around rs scq ys r k low.4 s.1 eq ed ea m)
        (λ r1 k1 m1. sim b (n + 1) sc d low.0 p around rs sc (declared b) r1 k1 low.3 s.0 refl ed ea m1)
        (suc (room st)) st zs en (omega arith) le;
  }
  sim (block b rest) n sc d p q around rs scq ys r k low s eq ed ea m =
      let kq = λ (st1 : State). k (cut (length scq) st1) in
      let next = exec service rest (n + numbered b) around in
      let kr = λ (st1 : State). on rs kq (next st1) in
      means_to service flow p sc rs r (λ st. on rs (λ st1. kr (cut (length sc) st1)) (exec service b n around st))
      (λ st. on rs kq (exec service (block b rest) n around st))
      (λ st en. leave_as_cut flow d rs sc (declared b) (exec service b n around st) kr
      (exec_ends flow service b n sc d p low.0 around st low.1 s.0 en) (scoped_apart service b sc s.0)
      ∙ on_then rs kq (leave (declared b) (exec service b n around st)) next)
      (sim b n sc d p low.0 around rs sc (declared b) r kr low.1 s.0 refl ed ea
      (sim rest (n + numbered b) sc d low.0 q around rs scq ys r k low.2 s.1 eq ed ea m))
  sim (for_each w e b rest) n sc d p q around rs scq ys r k low s eq ed ea m =
      let kq = λ (st1 : State). k (cut (length scq) st1) in
      let sc1 = with_local sc w kinds.Str in
      let next = exec service rest (n + 1 + numbered b) around in
      let kr = λ (st1 : State). on rs kq (next st1) in
      let go = λ (v : Value). each (list_of v) w (w ∷ declared b) (λ ws. exec service b (n + 1) (around + list_weight ws)) in
      let eq1 = ap (λ l. l ++ declared b) (names_with sc w kinds.Str) ∙ append_assoc (names_in sc) (w ∷ []) (declared b) in
      means_to service flow p sc rs r (λ st. on rs kr (with_value service e st go)) (λ st. on rs kq (exec service (for_each w e b rest) n around st))
      (λ st en. on_then rs kq (with_value service e st go) next)
      (enters service flow w e b n sc d p around low.0 low.1 rs r kr low.2 low.3 s.1
      (unknown_apart service sc w (declared b) s.0 (apart_with sc w kinds.Str (declared b) (scoped_apart service b sc1 s.1))) ed
      (sim rest (n + 1 + numbered b) sc d low.1 q around rs scq ys r k low.4 s.2 eq ed ea m)
      (λ vs k1 m1. sim b (n + 1) sc1 (d + 1) low.0 p (around + list_weight vs) (rs ++ vs ∷ []) sc (w ∷ declared b) r k1 low.3 s.1 eq1
      (ap (λ x. x + 1) ed ∙ sym (length_more rs vs)) (weight_more rs vs around ea) m1))
  sim (show e fs rest) n sc d p q around rs scq ys r k low s eq ed ea m =
      let kq = λ (st1 : State). k (cut (length scq) st1) in
      let x = step n sc d (acts.shows e (receives service sc fs)) (low.0 ∷ []) in
      let next = exec service rest (n + 1) around in
      let go = λ (v : Value). shows n around fs (document_of v) in
      means_to service flow p sc rs r (λ st. on rs (λ st1. on rs kq (next st1)) (begin service e st go))
      (λ st. on rs kq (exec service (show e fs rest) n around st)) (λ st en. on_then rs kq (begin service e st go) next)
      (sim_one service flow n (n + 1) d p low.0 x sc rs r (λ st1. on rs kq (next st1)) e go low.1
      (λ after st. ap (λ a. begin service e st
      (λ v st1. on rs (after low.0 rs) (shows n a (map plain (receives service sc fs)) (document_of v) st1))) (sym ea)
      ∙ ap (λ l. begin service e st (λ v st1. on rs (after low.0 rs) (shows n around l (document_of v) st1))) (plain_receives service sc fs))
      (λ v st1 en. ends_shows flow d n around (names_in sc) fs (document_of v) st1 en
      (record { place = p; point = x; page = e; fields = receives service sc fs; is = low.1; acts = refl; number = refl; names = en; depth = omega arith }))
      (λ v st1. good_unless n (n + 1) (room st1) (show_fault (document_of v) st1.locals around st1.shared) st1.units
      (wait n fs (document_of v) st1 st1.inputs)
      (good_wait n (n + 1) (room st1) n fs (document_of v) st1 st1.inputs (omega arith) (omega arith) (omega arith)))
      (sim rest (n + 1) sc d low.0 q around rs scq ys r k low.2 s eq ed ea m))
  sim (exit e rest) n sc d p q around rs scq ys r k low s eq ed ea m = record {
    by = λ st zs en le.
        let st0 = cut (length sc) st in
        let kq = λ (st1 : State). k (cut (length scq) st1) in
        let x = step n sc d (acts.exits e) [] in
        let go = λ (v : Value). exits (document_of v) in
        settles_point service flow p x rs st (on rs kq (begin service e st0 go)) low.1
        (settles_to (λ g. begin service e st0 go) (begin service e st0 go) (on rs kq (begin service e st0 go))
        (begin_same service e st0 go (λ v st1. on rs kq (go v st1))
        (λ v st1 lt. on_exits service flow rs kq (exit_fault (document_of v) st1.shared) st1.units (document_of v) st1.shared st1.units)
        ∙ on_begin rs kq service e st0 go)
        (0, λ g. refl));
  }

  -- from the end of a foreach's body on, where it has this rest
  pub sim_again : (w : List ℕ) (e : Term) (b rest : Code) (n : ℕ) (sc : List Local) (d p q around : ℕ) (rs : Rests) (scq : List Local)
      (ys : List (List ℕ)) (r : ℕ) (k : State → Outcome) →
      Lowered service flow (for_each w e b rest) n sc d p q → IsScoped service (for_each w e b rest) sc →
      names_in sc ++ declared rest ≡ names_in scq ++ ys → d ≡ length rs → around ≡ rests_weight rs → Means service flow q scq rs r k →
      (vs : List (List ℕ)) →
      Means service flow p sc (rs ++ vs ∷ []) r
      (λ st. on rs (λ st1. on rs (λ st2. k (cut (length scq) st2)) (exec service rest (n + 1 + numbered b) around st1))
      (each vs w (w ∷ declared b) (λ ws. exec service b (n + 1) (around + list_weight ws)) st))
  sim_again w e b rest n sc d p q around rs scq ys r k low s eq ed ea m vs =
      let sc1 = with_local sc w kinds.Str in
      let eq1 = ap (λ l. l ++ declared b) (names_with sc w kinds.Str) ∙ append_assoc (names_in sc) (w ∷ []) (declared b) in
      again service flow w e b n sc d p around low.0 low.1 rs r
      (λ st1. on rs (λ st2. k (cut (length scq) st2)) (exec service rest (n + 1 + numbered b) around st1)) low.2 low.3 s.1
      (unknown_apart service sc w (declared b) s.0 (apart_with sc w kinds.Str (declared b) (scoped_apart service b sc1 s.1))) ed
      (sim rest (n + 1 + numbered b) sc d low.1 q around rs scq ys r k low.4 s.2 eq ed ea m)
      (λ vs k1 m1. sim b (n + 1) sc1 (d + 1) low.0 p (around + list_weight vs) (rs ++ vs ∷ []) sc (w ∷ declared b) r k1 low.3 s.1 eq1
      (ap (λ x. x + 1) ed ∙ sym (length_more rs vs)) (weight_more rs vs around ea) m1)
      vs

-- A whole session: what the flow does from its first point, and from behind a show.
use Rattle.std.proofs.Common.{◌≡◌, ℕ, zero, suc, ◌+◌, ◌<◌, Bool, true, false, List, [], ◌∷◌, map, take, length, Option, Some, None, refl, sym, ap}
use Rattle.std.proofs.Common.{◌∙◌, subst, arith, ⊎_elim}
use Rattle.std.specs.Prelude.{◌==◌, nat_lt, if◌then◌else◌, slice_get, unwrap_or}
use Rattle.std.proofs.lemmas.Bool.{cases_lt}
use Rattle.std.proofs.lemmas.List.{length-map}
use Rattle.std.proofs.lemmas.List.Sums.{sum_by-cons}
use Rattle.std.proofs.lemmas.Option.{slice_get_past, slice_get_within, same_Some}
use Rattle.bw_lang.specs.declared.service.Service.{Service}
use Rattle.bw_lang.specs.declared.service.Session.{Session}
use Rattle.bw_lang.specs.declared.turn.TurnFault.{TurnFault}
use Rattle.bw_lang.specs.Service.Code.{Code, done, declare, assign, if_then, if_else, while_loop, block, for_each, show, exit, numbered}
use Rattle.bw_flow.specs.Layout.{points, plan_of}
use Rattle.bw_flow.specs.Stands.{Lowered, AllLowered}
use Rattle.bw_types.specs.Faults.{ends_in_exit}
use Rattle.std.specs.List.{All}
use Rattle.std.proofs.lemmas.List.Elements.{All-head, All-tail}
use Rattle.bw_run.proofs.Follow.Closing.{closes_is}
use Rattle.bw_flow.specs.Steps.{Step}
use Rattle.bw_flow.proofs.Stands.{stands_for_all}
use Rattle.bw_flow.proofs.Numbered.{all_have_numbers}
use Rattle.bw_meaning.specs.Expressions.{Evaluated, Gives, Faults, eval}
use Rattle.bw_meaning.specs.GoOn.{go_on_behind, with_rest, body_of, go_on}
use Rattle.bw_lang.specs.Service.Numbers.{first_number, statements}
use Rattle.bw_meaning.specs.Operators.{document_of, truth_of, list_of}
use Rattle.bw_meaning.specs.Pages.{exit_fault}
use Rattle.bw_meaning.specs.States.{State, Outcome, Went, Shown, Exited, Failed, Answered, budget}
use Rattle.bw_meaning.specs.Statements.{declared, add_local, store, taken, when_paid, when_given, with_value, begin, then_do, unless_fault, leave, refills}
use Rattle.bw_meaning.specs.Statements.{room, turns, add_rest, each, shows, exits, exec}
use Rattle.bw_meaning.specs.Values.{Document, Value, Values, list_weight}
use Rattle.bw_run.specs.Follow.Laws.{Settles, TurnsAgree, GoingOnAgrees}
use Rattle.bw_run.specs.Follow.Runs.{cut, plain, first_of, at_point, run}
use Rattle.bw_flow.specs.Scoped.{IsScoped}
use Rattle.bw_run.proofs.Follow.Settling.{settles_step, settles_to, on, Means}
use Rattle.bw_run.proofs.Follow.Sim.{sim}
use Rattle.bw_run.proofs.Follow.Back.{back}
use Rattle.bw_flow.proofs.Shut.{closes, length_firsts}

-- ---- a session never comes to the end of its statements

abbrev NotWent : Outcome → Type 0
NotWent (Went st) = ⊥
NotWent (Shown at locals rests shown shared units) = Unit {0}
NotWent (Exited last shared units) = Unit {0}
NotWent (Failed f units) = Unit {0}

not_then : (o : Outcome) (go : State → Outcome) → ((st : State) → NotWent (go st)) → NotWent (then_do o go)
not_then (Went st) go h = h st
not_then (Shown at locals rests shown shared units) go h = tt
not_then (Exited last shared units) go h = tt
not_then (Failed f units) go h = tt

not_if : (b : Bool) (o p : Outcome) → NotWent o → NotWent p → NotWent (if b then o else p)
not_if true o p a b = a
not_if false o p a b = b

not_unless : (f : Option TurnFault) (units : ℕ) (d : Document) (shared : Values) (u : ℕ) → NotWent (unless_fault f units (Exited d shared u))
not_unless None units d shared u = tt
not_unless (Some f) units d shared u = tt

not_given : (o : Evaluated) (go : Value → ℕ → Outcome) → ((v : Value) (u : ℕ) → NotWent (go v u)) → NotWent (when_given o go)
not_given (Gives v u) go h = h v u
not_given (Faults f u) go h = tt

not_paid : (u : ℕ) (go : ℕ → Outcome) → ((w : ℕ) → NotWent (go w)) → NotWent (when_paid u go)
not_paid zero go h = tt
not_paid (suc u) go h = h u

on_same : (o : Outcome) (k : State → Outcome) → NotWent o → on [] k o ≡ o
on_same (Went st) k h = absurd h
on_same (Shown at locals rests shown shared units) k h = refl
on_same (Exited last shared units) k h = refl
on_same (Failed f units) k h = refl

module _ (service : Service) (around : ℕ) where
  never : (c : Code) (n : ℕ) (st : State) → closes false c ≡ true → NotWent (exec service c n around st)
  never done n st h = cc
  never (declare k w e rest) n st h = not_then (begin service e st (λ v st1. Went (add_local w v st1))) (exec service rest (n + 1) around)
      (λ st1. never rest (n + 1) st1 h)
  never (assign w e rest) n st h = not_then (begin service e st (λ v st1. Went (store w v st1))) (exec service rest (n + 1) around)
      (λ st1. never rest (n + 1) st1 h)
  never (if_then t y rest) n st h =
      not_then (begin service t st (λ v st1. if truth_of v then leave (declared y) (exec service y (n + 1) around st1) else Went st1))
      (exec service rest (n + 1 + numbered y) around) (λ st1. never rest (n + 1 + numbered y) st1 h)
  never (if_else t y z rest) n st h =
      not_then (begin service t st
      (λ v st1. if truth_of v then leave (declared y) (exec service y (n + 1) around st1) else leave (declared z)
      (exec service z (n + 1 + numbered y) around st1))) (exec service rest (n + 1 + numbered y + numbered z) around)
      (λ st1. never rest (n + 1 + numbered y + numbered z) st1 h)
  never (while_loop t b rest) n st h =
      not_then (turns (room st) service t (λ st1. leave (declared b) (exec service b (n + 1) around st1)) st)
      (exec service rest (n + 1 + numbered b) around) (λ st1. never rest (n + 1 + numbered b) st1 h)
  never (block b rest) n st h = not_then (leave (declared b) (exec service b n around st)) (exec service rest (n + numbered b) around)
      (λ st1. never rest (n + numbered b) st1 h)
  never (for_each w e b rest) n st h =
      not_then (with_value service e st (λ v. each (list_of v) w (w ∷ declared b) (λ vs. exec service b (n + 1) (around + list_weight vs))))
      (exec service rest (n + 1 + numbered b) around) (λ st1. never rest (n + 1 + numbered b) st1 h)
  never (show p rs rest) n st h = not_then (begin service p st (λ v. shows n around rs (document_of v))) (exec service rest (n + 1) around)
      (λ st1. never rest (n + 1) st1 h)
  never (exit p rest) n st h =
      not_paid st.units (λ u. with_value service p (record st { units = u }) (λ v. exits (document_of v)))
      (λ u. not_given (eval service st.locals st.shared p u) (λ v w. exits (document_of v) (record st { units = w }))
      (λ v w. not_unless (exit_fault (document_of v) st.shared) w (document_of v) st.shared w))

  never_back : (c : Code) (n : ℕ) (b : Bool) (a : Answered) → closes b c ≡ true → NotWent (go_on_behind service c n around a)
  never_back done n b a h = tt
  never_back (declare k w e rest) n b a h = never_back rest (n + 1) false a h
  never_back (assign w e rest) n b a h = never_back rest (n + 1) false a h
  never_back (if_then t y rest) n b a h =
      let m = n + 1 + numbered y in
      not_if (nat_lt a.at m) (then_do (leave (declared y) (go_on_behind service y (n + 1) around a)) (exec service rest m around))
      (go_on_behind service rest m around a)
      (not_then (leave (declared y) (go_on_behind service y (n + 1) around a)) (exec service rest m around) (λ st. never rest m st h))
      (never_back rest m false a h)
  never_back (if_else t y z rest) n b a h =
      let k = n + 1 + numbered y in
      let m = k + numbered z in
      let next = exec service rest m around in
      let o1 = leave (declared y) (go_on_behind service y (n + 1) around a) in
      let o2 = leave (declared z) (go_on_behind service z k around a) in
      let o3 = go_on_behind service rest m around a in
      not_if (nat_lt a.at k) (then_do o1 next) (if nat_lt a.at m then then_do o2 next else o3) (not_then o1 next (λ st. never rest m st h))
      (not_if (nat_lt a.at m) (then_do o2 next) o3 (not_then o2 next (λ st. never rest m st h)) (never_back rest m false a h))
  never_back (while_loop t c rest) n b a h =
      let m = n + 1 + numbered c in
      let loop = exec service (while_loop t c rest) n around in
      not_if (nat_lt a.at m) (then_do (leave (declared c) (go_on_behind service c (n + 1) around a)) loop) (go_on_behind service rest m around a)
      (not_then (leave (declared c) (go_on_behind service c (n + 1) around a)) loop (λ st. never (while_loop t c rest) n st h)) (never_back rest m false a h)
  never_back (block c rest) n b a h =
      let m = n + numbered c in
      not_if (nat_lt a.at m) (then_do (leave (declared c) (go_on_behind service c n around a)) (exec service rest m around))
      (go_on_behind service rest m around a)
      (not_then (leave (declared c) (go_on_behind service c n around a)) (exec service rest m around) (λ st. never rest m st h)) (never_back rest m false a h)
  never_back (for_each w e c rest) n b a h =
      let m = n + 1 + numbered c in
      let names = w ∷ declared c in
      let o = with_rest a.rests
      (λ vs inner. then_do (leave names (add_rest vs (go_on_behind service c (n + 1) (around + list_weight vs) (record a { rests = inner }))))
      (each vs w names (λ more. exec service c (n + 1) (around + list_weight more)))) in
      not_if (nat_lt a.at m) (then_do o (exec service rest m around)) (go_on_behind service rest m around a)
      (not_then o (exec service rest m around) (λ st. never rest m st h)) (never_back rest m false a h)
  never_back (show p rs rest) n b a h =
      let st = taken rs a.locals a.input a.later in
      not_if (a.at == n) (exec service rest (n + 1) around st) (go_on_behind service rest (n + 1) around a) (never rest (n + 1) st h)
      (never_back rest (n + 1) false a h)
  never_back (exit p rest) n b a h = never_back rest (n + 1) true a h

-- ---- the session at a place

body_at : List Session → ℕ → Code
body_at ss k = unwrap_or (slice_get (map (λ s. s.body) ss) k) done

pub record Found (service : Service) (flow : List Step) (ss : List Session) (fs : List ℕ) (n out k : ℕ) : Type 0 where
  pub first : ℕ
  pub is : slice_get fs k ≡ Some first
  pub lowered : Lowered service flow (unwrap_or (slice_get (map (λ s. s.body) ss) k) done) (n + statements (take k ss)) [] 0 first out
  pub scoped : IsScoped service (unwrap_or (slice_get (map (λ s. s.body) ss) k) done) []
  pub closed : closes false (unwrap_or (slice_get (map (λ s. s.body) ss) k) done) ≡ true

pub found : (service : Service) (flow : List Step) (ss : List Session) (fs : List ℕ) (n out k : ℕ) → AllLowered service flow ss fs n out →
    All (λ s. IsScoped service s.body []) ss → All (λ s. ends_in_exit s.body ≡ true) ss → k < length ss → Found service flow ss fs n out k
found service flow [] fs n out k low s c lt = absurd (omega arith)
found service flow (x ∷ ss) [] n out k low s c lt = absurd low
found service flow (x ∷ ss) (f ∷ fs) n out zero low s c lt =
    record {
      first = f;
      is = refl;
      lowered = subst (λ m. Lowered service flow x.body m [] 0 f out) (zero_more n) low.0;
      scoped = All-head (λ s. IsScoped service s.body []) x ss s;
      closed = closes_is x.body ∙ All-head (λ s. ends_in_exit s.body ≡ true) x ss c;
    }
  where
    zero_more : (n : ℕ) → n ≡ n + 0
    zero_more n = omega arith
found service flow (x ∷ ss) (f ∷ fs) n out (suc k) low s c lt =
    let h = found service flow ss fs (n + numbered x.body) out k low.1 (All-tail (λ s. IsScoped service s.body []) x ss s)
    (All-tail (λ s. ends_in_exit s.body ≡ true) x ss c) (omega arith) in
    record {
      first = h.first;
      is = h.is;
      lowered = subst (λ m. Lowered service flow (unwrap_or (slice_get (map (λ s. s.body) ss) k) done) m [] 0 h.first out)
          (more n (numbered x.body) (statements (take k ss)) (statements (x ∷ take k ss)) (sum_by-cons (λ s. numbered s.body) x (take k ss))) h.lowered;
      scoped = h.scoped;
      closed = h.closed;
    }
  where
    more : (a b c d : ℕ) → d ≡ b + c → a + b + c ≡ a + d
    more a b c d e = omega arith

-- what is no point is the end
pub means_end : (service : Service) (flow : List Step) (q r : ℕ) → slice_get flow q ≡ None → Means service flow q [] [] r (λ st. Went st)
means_end service flow q r e = record {
  by = λ st ys en le. settles_step (λ g. run service flow g q [] st) (Went (cut 0 st))
      (0, λ g. ap (λ o. at_point service o (run service flow (0 + g)) [] st) e);
}

pub at_end : (flow : List Step) → slice_get flow (length flow) ≡ None
at_end flow = slice_get_past flow (length flow) (omega arith)

pub turns_agree : TurnsAgree
turns_agree service session first shared inputs ready e =
    let ss = service.sessions in
    let flow = (plan_of service).steps in
    let fs = (plan_of service).firsts in
    let len = length_firsts ss 0 (points ss) in
    let f = found service flow ss fs 1 (length flow) session (stands_for_all service) ready.scoped ready.closed
    (omega (arith, slice_get_within fs session first e, len)) in
    let st : State = record { locals = []; shared = shared; units = budget; inputs = inputs } in
    let same : f.first ≡ first = same_Some f.first first (sym f.is ∙ e) in
    let body = body_of service session in
    let o = exec service body (first_number service session) 0 st in
    let m = sim service flow body (first_number service session) [] 0 f.first (length flow) 0 [] [] (declared body) (room st) (λ st1. Went st1)
    f.lowered f.scoped refl refl refl (means_end service flow (length flow) (room st) (at_end flow)) in
    subst (λ p. Settles (λ g. run service flow g p [] st) o) same
    (settles_to (λ g. run service flow g f.first [] st) (on [] (λ st1. Went (cut 0 st1)) o) o
    (on_same o (λ st1. Went (cut 0 st1)) (never service 0 body (first_number service session) st f.closed))
    (m.by st [] refl (omega arith)))

pub in_range : (ss : List Session) (k m : ℕ) → m < m + numbered (unwrap_or (slice_get (map (λ s. s.body) ss) k) done) → k < length ss
in_range ss k m lt =
    ⊎_elim (λ h. h) (λ le.
    let e = slice_get_past (map (λ s. s.body) ss) k (omega (arith, length-map ss (λ (s : Session). s.body))) in
    let z : numbered (unwrap_or (slice_get (map (λ s. s.body) ss) k) done) ≡ 0 = ap (λ o. numbered (unwrap_or o done)) e in
    absurd (omega arith)) (cases_lt k (length ss))

pub none_more : (n : ℕ) → 0 + n ≡ n
none_more n = omega arith

pub going_on_agrees : GoingOnAgrees
going_on_agrees service session p x e rs a ready at is fit of =
    let ss = service.sessions in
    let flow = (plan_of service).steps in
    let fs = (plan_of service).firsts in
    let n = first_number service session in
    let body = body_of service session in
    let f = found service flow ss fs 1 (length flow) session (stands_for_all service) ready.scoped ready.closed
    (in_range ss session n (omega (arith, of.from, of.below))) in
    let a1 : Answered = record a { at = x.number } in
    let r = budget + refills a.later in
    let o = go_on_behind service body n 0 a1 in
    let h = back service flow (all_have_numbers service) p x e rs at is a.locals a.input a.later fit.names body n [] 0 f.first (length flow) 0 []
    a.rests [] (declared body) r (λ st1. Went st1) f.lowered f.scoped refl refl refl
    (means_end service flow (length flow) r (at_end flow)) of.from of.below (omega arith) (none_more (length a.rests) ∙ fit.rests) in
    let same : o ≡ go_on service session a = ap (λ k. go_on_behind service body n 0 (record a { at = k })) (sym fit.number) in
    settles_to (λ g. run service flow g (first_of x.next) a.rests (taken (map plain rs) a.locals a.input a.later))
    (on [] (λ st1. Went (cut 0 st1)) o) (go_on service session a)
    (on_same o (λ st1. Went (cut 0 st1)) (never_back service 0 body n false a1 f.closed) ∙ same) h.runs

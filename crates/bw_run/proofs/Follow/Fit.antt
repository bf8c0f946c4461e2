-- The frames that turns show are fit.
use Rattle.std.proofs.Common.{◌≡◌, ℕ, ◌+◌, ◌<◌, ◌≤◌, [], length, refl, sym, ap, ◌∙◌, subst, arith}
use Rattle.bw_lang.specs.declared.service.Service.{Service}
use Rattle.bw_lang.specs.Service.Code.{numbered}
use Rattle.bw_flow.specs.Layout.{points, plan_of}
use Rattle.bw_flow.proofs.Stands.{stands_for_all}
use Rattle.bw_flow.proofs.Numbered.{all_have_numbers}
use Rattle.bw_meaning.specs.GoOn.{go_on_behind, body_of}
use Rattle.bw_lang.specs.Service.Numbers.{first_number}
use Rattle.bw_meaning.specs.States.{Input, State, Went, Shown, Answered, Rests, budget}
use Rattle.bw_meaning.specs.Statements.{declared, refills, room}
use Rattle.bw_meaning.proofs.ExecLaw.{behind_good}
use Rattle.bw_meaning.proofs.Good.{Good, exec_good}
use Rattle.bw_meaning.specs.Values.{Values}
use Rattle.bw_run.specs.Follow.Laws.{IsFitShow, ShownIsFit, ShownAgainIsFit}
use Rattle.bw_run.proofs.Follow.Back.{back}
use Rattle.bw_run.proofs.Follow.Ends.{Ends, Waits, exec_ends}
use Rattle.bw_run.proofs.Follow.Whole.{found, in_range, means_end, at_end, none_more}
use Rattle.std.proofs.lemmas.Option.{slice_get_within}
use Rattle.bw_flow.proofs.Shut.{length_firsts}

plus_none : (n m : ℕ) → 0 + n ≡ m → n ≡ m
plus_none n m e = omega arith

-- where a session waits, the frame is fit
waits_fit : (service : Service) (session : ℕ) (i : Input) (at : ℕ) (locals : Values) (rests : Rests) → Waits (plan_of service).steps 0 at locals rests →
    first_number service session ≤ at → at < first_number service session + numbered (body_of service session) →
    IsFitShow service session i at locals rests
waits_fit service session i at locals rests w from below = (
  w.place,
  w.point,
  w.page,
  w.fields,
  w.is,
  w.acts,
  record { number = w.number; names = w.names; rests = plus_none (length rests) w.point.inside w.depth },
  record { from = from; below = below },
)

pub shown_is_fit : ShownIsFit
shown_is_fit service session first shared inputs i at locals rests shown sh units ready ef e =
    let ss = service.sessions in
    let flow = (plan_of service).steps in
    let fs = (plan_of service).firsts in
    let len = length_firsts ss 0 (points ss) in
    let f = found service flow ss fs 1 (length flow) session (stands_for_all service) ready.scoped ready.closed
    (omega (arith, slice_get_within fs session first ef, len)) in
    let st : State = record { locals = []; shared = shared; units = budget; inputs = inputs } in
    let body = body_of service session in
    let n = first_number service session in
    let w : Waits flow 0 at locals rests = subst (Ends flow 0 (declared body)) e
    (exec_ends flow service body n [] 0 f.first (length flow) 0 st f.lowered f.scoped refl) in
    let g = subst (Good n (n + numbered body) (room st)) e (exec_good service body n 0 st) in
    waits_fit service session i at locals rests w g.0 g.1

pub shown_again_is_fit : ShownAgainIsFit
shown_again_is_fit service session p0 x0 e0 rs0 a i at locals rests shown sh units ready at0 is fit of e =
    let ss = service.sessions in
    let flow = (plan_of service).steps in
    let fs = (plan_of service).firsts in
    let body = body_of service session in
    let n = first_number service session in
    let f = found service flow ss fs 1 (length flow) session (stands_for_all service) ready.scoped ready.closed
    (in_range ss session n (omega (arith, of.from, of.below))) in
    let a1 : Answered = record a { at = x0.number } in
    let r = budget + refills a.later in
    let h = back service flow (all_have_numbers service) p0 x0 e0 rs0 at0 is a.locals a.input a.later fit.names body n [] 0 f.first (length flow) 0
    [] a.rests [] (declared body) r (λ st1. Went st1) f.lowered f.scoped refl refl refl
    (means_end service flow (length flow) r (at_end flow)) of.from of.below (omega arith) (none_more (length a.rests) ∙ fit.rests) in
    let e1 : go_on_behind service body n 0 a1 ≡ Shown at locals rests shown sh units = ap (λ k. go_on_behind service body n 0 (record a { at = k }))
    (sym fit.number) ∙ e in
    let w : Waits flow 0 at locals rests = subst (Ends flow 0 (declared body)) e1 h.ends in
    let g = subst (Good n (n + numbered body) r) e1 (behind_good service body n 0 a1) in
    waits_fit service session i at locals rests w g.0 g.1

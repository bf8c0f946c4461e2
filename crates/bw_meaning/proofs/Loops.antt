-- A loop by its own equation.
use Rattle.std.proofs.Common.{◌≡◌, ℕ, zero, suc, ◌+◌, ap, refl, ◌∙◌, arith}
use Rattle.std.specs.Prelude.{if◌then◌else◌}
use Rattle.bw_lang.specs.declared.service.Service.{Service}
use Rattle.bw_lang.specs.Service.Code.{while_loop, numbered}
use Rattle.bw_lang.specs.Service.Term.{Term}
use Rattle.bw_meaning.specs.Expressions.{Evaluated, Gives, Faults, eval}
use Rattle.bw_meaning.specs.Laws.{LoopsAgain}
use Rattle.bw_meaning.specs.Operators.{truth_of}
use Rattle.bw_meaning.specs.States.{State, Outcome, Went}
use Rattle.bw_meaning.specs.Statements.{declared, when_paid, when_given, with_value, begin, then_do, leave, room, turns, exec}
use Rattle.bw_meaning.specs.Values.{Value}
use Rattle.bw_meaning.proofs.Good.{good_leave, exec_good}
use Rattle.bw_meaning.proofs.OneMore.{then_if, then_then, begin_same, then_same, turns_same}

then_given : (o : Evaluated) (go : Value → ℕ → Outcome) (next : State → Outcome) → then_do (when_given o go) next ≡ when_given o (λ v u. then_do (go v u) next)
then_given (Gives v left) go next = refl
then_given (Faults f left) go next = refl

then_paid : (u : ℕ) (f g : ℕ → Outcome) (next : State → Outcome) → ((w : ℕ) → then_do (f w) next ≡ g w) → then_do (when_paid u f) next ≡ when_paid u g
then_paid zero f g next h = refl
then_paid (suc u) f g next h = h u

then_begin : (service : Service) (e : Term) (st : State) (go : Value → State → Outcome) (next : State → Outcome) →
    then_do (begin service e st go) next ≡ begin service e st (λ v st1. then_do (go v st1) next)
then_begin service e st go next =
    then_paid st.units (λ u. with_value service e (record st { units = u }) go)
    (λ u. with_value service e (record st { units = u }) (λ v st1. then_do (go v st1) next)) next
    (λ u. then_given (eval service st.locals st.shared e u) (λ v w. go v (record st { units = w })) next)

pub loops_again : LoopsAgain
loops_again service t b rest n around st =
    let m = n + 1 + numbered b in
    let next = exec service rest m around in
    let run = λ (st1 : State). leave (declared b) (exec service b (n + 1) around st1) in
    let good = λ (st1 : State). good_leave (n + 1) m (room st1) (declared b) (exec service b (n + 1) around st1) (exec_good service b (n + 1) around st1) in
    let loop = exec service (while_loop t b rest) n around in
    let go = λ (v : Value) (st1 : State). if truth_of v then then_do (run st1) (turns (room st) service t run) else Went st1 in
    ap (λ o. then_do o next) (turns_same (n + 1) m (room st) (suc (room st)) service t run st good (omega arith) (omega arith))
    ∙ then_begin service t st go next
    ∙ begin_same service t st (λ v st1. then_do (go v st1) next) (λ v st1. if truth_of v then then_do (run st1) loop else next st1)
    (λ v st1 lt. then_if (truth_of v) (then_do (run st1) (turns (room st) service t run)) (Went st1) next
    ∙ ap (λ o. if truth_of v then o else next st1) (then_then (run st1) (turns (room st) service t run) next
    ∙ then_same (n + 1) m (room st1) (run st1) (λ st2. then_do (turns (room st) service t run st2) next) loop (good st1)
    (λ st2 le. ap (λ o. then_do o next) (turns_same (n + 1) m (room st) (room st2) service t run st2 good (omega arith) (omega arith)))))

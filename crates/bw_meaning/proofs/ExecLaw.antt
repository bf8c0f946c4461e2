-- One more input: statements do what they did, and from a show on what is behind it.
use Rattle.std.proofs.Common.{◌≡◌, ℕ, ◌+◌, List, [], ◌∷◌, ◌++◌, refl, sym, ap, ◌∙◌, arith}
use Rattle.std.specs.Prelude.{◌==◌, nat_lt, if◌then◌else◌}
use Rattle.bw_lang.specs.declared.service.Service.{Service}
use Rattle.bw_lang.specs.Service.Code.{Code, done, declare, assign, if_then, if_else, while_loop, block, for_each, show, exit, numbered}
use Rattle.bw_meaning.specs.GoOn.{with_rest, go_on_behind}
use Rattle.bw_meaning.specs.Laws.{answered}
use Rattle.bw_meaning.specs.Operators.{truth_of, list_of, document_of}
use Rattle.bw_meaning.specs.Pages.{show_fault, exit_fault}
use Rattle.bw_meaning.specs.States.{Rests, Input, State, Outcome, Went, Exited, Answered, budget}
use Rattle.bw_meaning.specs.Statements.{declared, add_local, store, taken, with_value, begin, then_do, leave, refills, room, turns, add_rest, each, wait, shows}
use Rattle.bw_meaning.specs.Statements.{exits, exec}
use Rattle.bw_meaning.specs.Values.{Value, Values, list_weight}
use Rattle.bw_meaning.proofs.Good.{Good, good_more, good_then, good_step, good_leave, good_begin, good_value, good_if, good_unless, good_wait, good_turns}
use Rattle.bw_meaning.proofs.Good.{good_rest, good_each, good_inner, exec_good, taken_room}
use Rattle.bw_meaning.proofs.OneMore.{more, Back, onward, law_leave, onward_same, law_step, law_value, law_begin, law_if, law_unless, law_wait, if_below}
use Rattle.bw_meaning.proofs.OneMore.{if_above, if_at, if_past, then_if, then_then, law_turns, law_each}

pub good_with : (lo hi r : ℕ) (rests : Rests) (go : List (List ℕ) → Rests → Outcome) → ((vs : List (List ℕ)) (inner : Rests) → Good lo hi r (go vs inner)) →
    Good lo hi r (with_rest rests go)
good_with lo hi r [] go h = tt
good_with lo hi r (vs ∷ inner) go h = h vs inner

-- what is behind an answered show keeps within one budget and the inputs behind it
pub behind_good : (service : Service) (c : Code) (n around : ℕ) (a : Answered) →
    Good n (n + numbered c) (budget + refills a.later) (go_on_behind service c n around a)
behind_good service done n around a = tt
behind_good service (declare kind w e rest) n around a =
    good_more (n + 1) (n + 1 + numbered rest) (budget + refills a.later) n (n + (1 + numbered rest)) (budget + refills a.later)
    (go_on_behind service rest (n + 1) around a) (omega arith) (omega arith) (omega arith) (behind_good service rest (n + 1) around a)
behind_good service (assign w e rest) n around a =
    good_more (n + 1) (n + 1 + numbered rest) (budget + refills a.later) n (n + (1 + numbered rest)) (budget + refills a.later)
    (go_on_behind service rest (n + 1) around a) (omega arith) (omega arith) (omega arith) (behind_good service rest (n + 1) around a)
behind_good service (exit p rest) n around a =
    good_more (n + 1) (n + 1 + numbered rest) (budget + refills a.later) n (n + (1 + numbered rest)) (budget + refills a.later)
    (go_on_behind service rest (n + 1) around a) (omega arith) (omega arith) (omega arith) (behind_good service rest (n + 1) around a)
behind_good service (show p rs rest) n around a =
    let r = budget + refills a.later in
    let hi = n + (1 + numbered rest) in
    let st = taken rs a.locals a.input a.later in
    let e = taken_room rs a.locals a.input a.later in
    good_if n hi r (a.at == n) (exec service rest (n + 1) around st) (go_on_behind service rest (n + 1) around a)
    (good_more (n + 1) (n + 1 + numbered rest) (room st) n hi r (exec service rest (n + 1) around st) (omega arith) (omega arith) (omega arith)
    (exec_good service rest (n + 1) around st))
    (good_more (n + 1) (n + 1 + numbered rest) r n hi r (go_on_behind service rest (n + 1) around a) (omega arith) (omega arith) (omega arith)
    (behind_good service rest (n + 1) around a))
behind_good service (block b rest) n around a =
    let r = budget + refills a.later in
    let m = n + numbered b in
    let hi = n + (numbered b + numbered rest) in
    good_if n hi r (nat_lt a.at m) (then_do (leave (declared b) (go_on_behind service b n around a)) (exec service rest m around))
    (go_on_behind service rest m around a)
    (good_step n m (m + numbered rest) hi r (leave (declared b) (go_on_behind service b n around a)) (exec service rest m around) (omega arith) (omega arith)
    (omega arith)
    (good_leave n m r (declared b) (go_on_behind service b n around a) (behind_good service b n around a))
    (λ st. exec_good service rest m around st))
    (good_more m (m + numbered rest) r n hi r (go_on_behind service rest m around a) (omega arith) (omega arith) (omega arith)
    (behind_good service rest m around a))
behind_good service (if_then t y rest) n around a =
    let r = budget + refills a.later in
    let m = n + 1 + numbered y in
    let hi = n + (1 + numbered y + numbered rest) in
    good_if n hi r (nat_lt a.at m) (then_do (leave (declared y) (go_on_behind service y (n + 1) around a)) (exec service rest m around))
    (go_on_behind service rest m around a)
    (good_step n m (m + numbered rest) hi r (leave (declared y) (go_on_behind service y (n + 1) around a)) (exec service rest m around) (omega arith)
    (omega arith)
    (omega arith)
    (good_inner n m r (declared y) (go_on_behind service y (n + 1) around a) (behind_good service y (n + 1) around a))
    (λ st. exec_good service rest m around st))
    (good_more m (m + numbered rest) r n hi r (go_on_behind service rest m around a) (omega arith) (omega arith) (omega arith)
    (behind_good service rest m around a))
behind_good service (if_else t y z rest) n around a =
    let r = budget + refills a.later in
    let k = n + 1 + numbered y in
    let m = k + numbered z in
    let hi = n + (1 + numbered y + numbered z + numbered rest) in
    let p = then_do (leave (declared y) (go_on_behind service y (n + 1) around a)) (exec service rest m around) in
    let q = then_do (leave (declared z) (go_on_behind service z k around a)) (exec service rest m around) in
    good_if n hi r (nat_lt a.at k) p (if nat_lt a.at m then q else go_on_behind service rest m around a)
    (good_step n m (m + numbered rest) hi r (leave (declared y) (go_on_behind service y (n + 1) around a)) (exec service rest m around) (omega arith)
    (omega arith)
    (omega arith)
    (good_inner n m r (declared y) (go_on_behind service y (n + 1) around a)
    (good_more (n + 1) k r (n + 1) m r (go_on_behind service y (n + 1) around a) (omega arith) (omega arith) (omega arith)
    (behind_good service y (n + 1) around a)))
    (λ st. exec_good service rest m around st))
    (good_if n hi r (nat_lt a.at m) q (go_on_behind service rest m around a)
    (good_step n m (m + numbered rest) hi r (leave (declared z) (go_on_behind service z k around a)) (exec service rest m around) (omega arith) (omega arith)
    (omega arith)
    (good_leave n m r (declared z) (go_on_behind service z k around a)
    (good_more k m r n m r (go_on_behind service z k around a) (omega arith) (omega arith) (omega arith) (behind_good service z k around a)))
    (λ st. exec_good service rest m around st))
    (good_more m (m + numbered rest) r n hi r (go_on_behind service rest m around a) (omega arith) (omega arith) (omega arith)
    (behind_good service rest m around a)))
behind_good service (while_loop t b rest) n around a =
    let r = budget + refills a.later in
    let m = n + 1 + numbered b in
    let hi = n + (1 + numbered b + numbered rest) in
    let o = leave (declared b) (go_on_behind service b (n + 1) around a) in
    good_if n hi r (nat_lt a.at m) (then_do o (exec service (while_loop t b rest) n around)) (go_on_behind service rest m around a)
    (good_then n hi r o (exec service (while_loop t b rest) n around)
    (good_more n m r n hi r o (omega arith) (omega arith) (omega arith)
    (good_inner n m r (declared b) (go_on_behind service b (n + 1) around a) (behind_good service b (n + 1) around a)))
    (λ st le. good_more n hi (room st) n hi r (exec service (while_loop t b rest) n around st) (omega arith) (omega arith) le
    (exec_good service (while_loop t b rest) n around st)))
    (good_more m (m + numbered rest) r n hi r (go_on_behind service rest m around a) (omega arith) (omega arith) (omega arith)
    (behind_good service rest m around a))
behind_good service (for_each w e b rest) n around a =
    let r = budget + refills a.later in
    let m = n + 1 + numbered b in
    let hi = n + (1 + numbered b + numbered rest) in
    let names = w ∷ declared b in
    let o = λ (vs : List (List ℕ)) (inner : Rests).
    then_do (leave names (add_rest vs (go_on_behind service b (n + 1) (around + list_weight vs) (record a { rests = inner }))))
    (each vs w names (λ later. exec service b (n + 1) (around + list_weight later))) in
    good_if n hi r (nat_lt a.at m) (then_do (with_rest a.rests o) (exec service rest m around)) (go_on_behind service rest m around a)
    (good_step n m (m + numbered rest) hi r (with_rest a.rests o) (exec service rest m around) (omega arith) (omega arith) (omega arith)
    (good_with n m r a.rests o (λ vs inner.
    good_then n m r (leave names (add_rest vs (go_on_behind service b (n + 1) (around + list_weight vs) (record a { rests = inner }))))
    (each vs w names (λ later. exec service b (n + 1) (around + list_weight later)))
    (good_leave n m r names (add_rest vs (go_on_behind service b (n + 1) (around + list_weight vs) (record a { rests = inner })))
    (good_rest n m r vs (go_on_behind service b (n + 1) (around + list_weight vs) (record a { rests = inner }))
    (good_more (n + 1) m r n m r (go_on_behind service b (n + 1) (around + list_weight vs) (record a { rests = inner })) (omega arith) (omega arith)
    (omega arith)
    (behind_good service b (n + 1) (around + list_weight vs) (record a { rests = inner })))))
    (λ st le. good_each n m r vs w names (λ later. exec service b (n + 1) (around + list_weight later)) st le
    (λ ws st2. good_more (n + 1) m (room st2) n m (room st2) (exec service b (n + 1) (around + list_weight ws) st2) (omega arith) (omega arith) (omega arith)
    (exec_good service b (n + 1) (around + list_weight ws) st2)))))
    (λ st. exec_good service rest m around st))
    (good_more m (m + numbered rest) r n hi r (go_on_behind service rest m around a) (omega arith) (omega arith) (omega arith)
    (behind_good service rest m around a))

-- what comes behind a show of these statements that this input answers
abbrev pub back : Service → Code → ℕ → ℕ → Input → Back
back service c n around i = λ k l rs. go_on_behind service c n around (answered k l rs i)

pub exec_law : (service : Service) (c : Code) (n around : ℕ) (st : State) (i : Input) →
    exec service c n around (more i st) ≡ onward i (back service c n around i) (exec service c n around st)
exec_law service done n around st i = refl
exec_law service (declare kind w e rest) n around st i =
    let m = n + 1 in
    let b = back service (declare kind w e rest) n around i in
    let go = λ (v : Value) (st1 : State). Went (add_local w v st1) in
    ap (λ o. then_do o (exec service rest m around)) (law_begin service e st i b go go (λ v st1 lt. refl))
    ∙ law_step m m (m + numbered rest) (room st) i b b (back service rest m around i) (begin service e st go) (exec service rest m around)
    (good_begin m m (room st) service e st go (omega arith) (λ v st1 lt. omega arith))
    (λ st1. exec_good service rest m around st1) (λ st1. exec_law service rest m around st1 i)
    (λ k l rs x y. absurd (omega arith)) (λ k l rs x y. refl)
exec_law service (assign w e rest) n around st i =
    let m = n + 1 in
    let b = back service (assign w e rest) n around i in
    let go = λ (v : Value) (st1 : State). Went (store w v st1) in
    ap (λ o. then_do o (exec service rest m around)) (law_begin service e st i b go go (λ v st1 lt. refl))
    ∙ law_step m m (m + numbered rest) (room st) i b b (back service rest m around i) (begin service e st go) (exec service rest m around)
    (good_begin m m (room st) service e st go (omega arith) (λ v st1 lt. omega arith))
    (λ st1. exec_good service rest m around st1) (λ st1. exec_law service rest m around st1 i)
    (λ k l rs x y. absurd (omega arith)) (λ k l rs x y. refl)
exec_law service (if_then t y rest) n around st i =
    let m = n + 1 + numbered y in
    let next = exec service rest m around in
    let b = back service (if_then t y rest) n around i in
    let a = λ (k : ℕ) (l : Values) (rs : Rests). leave (declared y) (go_on_behind service y (n + 1) around (answered k l rs i)) in
    let go = λ (v : Value) (st1 : State). if truth_of v then leave (declared y) (exec service y (n + 1) around st1) else Went st1 in
    ap (λ o. then_do o next) (law_begin service t st i a go go
    (λ v st1 lt. law_if (truth_of v) i a (leave (declared y) (exec service y (n + 1) around (more i st1))) (Went (more i st1))
    (leave (declared y) (exec service y (n + 1) around st1)) (Went st1)
    (ap (leave (declared y)) (exec_law service y (n + 1) around st1 i)
    ∙ law_leave (declared y) i (back service y (n + 1) around i) (exec service y (n + 1) around st1))
    refl))
    ∙ law_step n m (m + numbered rest) (room st) i a b (back service rest m around i) (begin service t st go) next
    (good_begin n m (room st) service t st go (omega arith)
    (λ v st1 lt. good_if n m (room st) (truth_of v) (leave (declared y) (exec service y (n + 1) around st1)) (Went st1)
    (good_inner n m (room st) (declared y) (exec service y (n + 1) around st1)
    (good_more (n + 1) m (room st1) (n + 1) m (room st) (exec service y (n + 1) around st1) (omega arith) (omega arith) (omega arith)
    (exec_good service y (n + 1) around st1)))
    (omega arith)))
    (λ st1. exec_good service rest m around st1) (λ st1. exec_law service rest m around st1 i)
    (λ k l rs x lt. sym (if_below k m (then_do (a k l rs) next) (go_on_behind service rest m around (answered k l rs i)) lt))
    (λ k l rs le x. sym (if_above k m (then_do (a k l rs) next) (go_on_behind service rest m around (answered k l rs i)) le))
exec_law service (if_else t y z rest) n around st i =
    let j = n + 1 + numbered y in
    let m = j + numbered z in
    let next = exec service rest m around in
    let b = back service (if_else t y z rest) n around i in
    let p = λ (k : ℕ) (l : Values) (rs : Rests). leave (declared y) (go_on_behind service y (n + 1) around (answered k l rs i)) in
    let q = λ (k : ℕ) (l : Values) (rs : Rests). leave (declared z) (go_on_behind service z j around (answered k l rs i)) in
    let a = λ (k : ℕ) (l : Values) (rs : Rests). if nat_lt k j then p k l rs else q k l rs in
    let go = λ (v : Value) (st1 : State). if truth_of v then leave (declared y) (exec service y (n + 1) around st1) else leave (declared z)
    (exec service z j around st1) in
    ap (λ o. then_do o next) (law_begin service t st i a go go
    (λ v st1 lt. law_if (truth_of v) i a (leave (declared y) (exec service y (n + 1) around (more i st1)))
    (leave (declared z) (exec service z j around (more i st1))) (leave (declared y) (exec service y (n + 1) around st1))
    (leave (declared z) (exec service z j around st1))
    (ap (leave (declared y)) (exec_law service y (n + 1) around st1 i)
    ∙ law_leave (declared y) i (back service y (n + 1) around i) (exec service y (n + 1) around st1)
    ∙ onward_same (n + 1) j (room st1) i p a (leave (declared y) (exec service y (n + 1) around st1))
    (good_leave (n + 1) j (room st1) (declared y) (exec service y (n + 1) around st1) (exec_good service y (n + 1) around st1))
    (λ k l rs x lt1. sym (if_below k j (p k l rs) (q k l rs) lt1)))
    (ap (leave (declared z)) (exec_law service z j around st1 i) ∙ law_leave (declared z) i (back service z j around i) (exec service z j around st1)
    ∙ onward_same j m (room st1) i q a (leave (declared z) (exec service z j around st1))
    (good_leave j m (room st1) (declared z) (exec service z j around st1) (exec_good service z j around st1))
    (λ k l rs le x. sym (if_above k j (p k l rs) (q k l rs) le)))))
    ∙ law_step n m (m + numbered rest) (room st) i a b (back service rest m around i) (begin service t st go) next
    (good_begin n m (room st) service t st go (omega arith)
    (λ v st1 lt. good_if n m (room st) (truth_of v) (leave (declared y) (exec service y (n + 1) around st1)) (leave (declared z) (exec service z j around st1))
    (good_inner n m (room st) (declared y) (exec service y (n + 1) around st1)
    (good_more (n + 1) j (room st1) (n + 1) m (room st) (exec service y (n + 1) around st1) (omega arith) (omega arith) (omega arith)
    (exec_good service y (n + 1) around st1)))
    (good_leave n m (room st) (declared z) (exec service z j around st1)
    (good_more j m (room st1) n m (room st) (exec service z j around st1) (omega arith) (omega arith) (omega arith) (exec_good service z j around st1)))))
    (λ st1. exec_good service rest m around st1) (λ st1. exec_law service rest m around st1 i)
    (λ k l rs x lt. then_if (nat_lt k j) (p k l rs) (q k l rs) next
    ∙ ap (λ o. if nat_lt k j then then_do (p k l rs) next else o)
    (sym (if_below k m (then_do (q k l rs) next) (go_on_behind service rest m around (answered k l rs i)) lt)))
    (λ k l rs le x. sym (if_above k j (then_do (p k l rs) next)
    (if nat_lt k m then then_do (q k l rs) next else go_on_behind service rest m around (answered k l rs i)) (omega arith)
    ∙ if_above k m (then_do (q k l rs) next) (go_on_behind service rest m around (answered k l rs i)) le))
exec_law service (while_loop t b rest) n around st i =
    let m = n + 1 + numbered b in
    let next = exec service rest m around in
    let run = λ (st1 : State). leave (declared b) (exec service b (n + 1) around st1) in
    let body = λ (k : ℕ) (l : Values) (rs : Rests). leave (declared b) (go_on_behind service b (n + 1) around (answered k l rs i)) in
    let loop = λ (st1 : State). turns (room st1) service t run st1 in
    let a = λ (k : ℕ) (l : Values) (rs : Rests). then_do (body k l rs) loop in
    ap (λ o. then_do o next) (law_turns (n + 1) m (room st) (room (more i st)) service t run body i st
    (λ st1. good_leave (n + 1) m (room st1) (declared b) (exec service b (n + 1) around st1) (exec_good service b (n + 1) around st1))
    (λ st1. ap (leave (declared b)) (exec_law service b (n + 1) around st1 i)
    ∙ law_leave (declared b) i (back service b (n + 1) around i) (exec service b (n + 1) around st1))
    (λ k l rs x y. good_leave (n + 1) m budget (declared b) (go_on_behind service b (n + 1) around (answered k l rs i))
    (good_more (n + 1) m (budget + 0) (n + 1) m budget (go_on_behind service b (n + 1) around (answered k l rs i)) (omega arith) (omega arith) (omega arith)
    (behind_good service b (n + 1) around (answered k l rs i))))
    (omega arith) (omega arith))
    ∙ law_step n m (m + numbered rest) (room st) i a (back service (while_loop t b rest) n around i) (back service rest m around i)
    (turns (room st) service t run st) next
    (good_turns n m (room st) (room st) service t run st (omega arith)
    (λ st1. good_inner n m (room st1) (declared b) (exec service b (n + 1) around st1) (exec_good service b (n + 1) around st1)))
    (λ st1. exec_good service rest m around st1) (λ st1. exec_law service rest m around st1 i)
    (λ k l rs x lt. then_then (body k l rs) loop next
    ∙ sym (if_below k m (then_do (body k l rs) (exec service (while_loop t b rest) n around)) (go_on_behind service rest m around (answered k l rs i)) lt))
    (λ k l rs le x. sym (if_above k m (then_do (body k l rs) (exec service (while_loop t b rest) n around))
    (go_on_behind service rest m around (answered k l rs i))
    le))
exec_law service (block b rest) n around st i =
    let m = n + numbered b in
    let next = exec service rest m around in
    let a = λ (k : ℕ) (l : Values) (rs : Rests). leave (declared b) (go_on_behind service b n around (answered k l rs i)) in
    ap (λ o. then_do o next) (ap (leave (declared b)) (exec_law service b n around st i)
    ∙ law_leave (declared b) i (back service b n around i) (exec service b n around st))
    ∙ law_step n m (m + numbered rest) (room st) i a (back service (block b rest) n around i) (back service rest m around i)
    (leave (declared b) (exec service b n around st)) next
    (good_leave n m (room st) (declared b) (exec service b n around st) (exec_good service b n around st))
    (λ st1. exec_good service rest m around st1) (λ st1. exec_law service rest m around st1 i)
    (λ k l rs x lt. sym (if_below k m (then_do (a k l rs) next) (go_on_behind service rest m around (answered k l rs i)) lt))
    (λ k l rs le x. sym (if_above k m (then_do (a k l rs) next) (go_on_behind service rest m around (answered k l rs i)) le))
exec_law service (for_each w e b rest) n around st i =
    let m = n + 1 + numbered b in
    let next = exec service rest m around in
    let names = w ∷ declared b in
    let run = λ (vs : List (List ℕ)) (st2 : State). exec service b (n + 1) (around + list_weight vs) st2 in
    let go = λ (v : Value) (st1 : State). each (list_of v) w names run st1 in
    let inner = λ (vs : List (List ℕ)) (k : ℕ) (l : Values) (rs : Rests). go_on_behind service b (n + 1) (around + list_weight vs) (answered k l rs i) in
    let a = λ (k : ℕ) (l : Values) (rs : Rests). with_rest rs (λ vs others. then_do (leave names (add_rest vs (inner vs k l others))) (each vs w names run)) in
    ap (λ o. then_do o next) (law_value service e st i a go go
    (λ v st1. law_each (n + 1) m w (list_of v) names run inner a i st1
    (λ ws st2. exec_good service b (n + 1) (around + list_weight ws) st2)
    (λ ws st2. exec_law service b (n + 1) (around + list_weight ws) st2 i)
    (λ ws k l rs x y. refl)))
    ∙ law_step n m (m + numbered rest) (room st) i a (back service (for_each w e b rest) n around i) (back service rest m around i) (with_value service e st go)
    next
    (good_value n m (room st) service e st go (λ v st1 le. good_each n m (room st) (list_of v) w names run st1 le
    (λ vs st2. good_more (n + 1) m (room st2) n m (room st2) (exec service b (n + 1) (around + list_weight vs) st2) (omega arith) (omega arith) (omega arith)
    (exec_good service b (n + 1) (around + list_weight vs) st2))))
    (λ st1. exec_good service rest m around st1) (λ st1. exec_law service rest m around st1 i)
    (λ k l rs x lt. sym (if_below k m (then_do (a k l rs) next) (go_on_behind service rest m around (answered k l rs i)) lt))
    (λ k l rs le x. sym (if_above k m (then_do (a k l rs) next) (go_on_behind service rest m around (answered k l rs i)) le))
exec_law service (show p fs rest) n around st i =
    let m = n + 1 in
    let next = exec service rest m around in
    let a = λ (k : ℕ) (l : Values) (rs : Rests). Went (taken fs l i []) in
    let go = λ (v : Value) (st1 : State). shows n around fs (document_of v) st1 in
    ap (λ o. then_do o next) (law_begin service p st i a go go
    (λ v st1 lt. law_unless (show_fault (document_of v) st1.locals around st1.shared) st1.units i a
    (wait n fs (document_of v) (more i st1) (st1.inputs ++ i ∷ [])) (wait n fs (document_of v) st1 st1.inputs)
    (law_wait n fs (document_of v) st1 st1.inputs i a (λ l. refl))))
    ∙ law_step n m (m + numbered rest) (room st) i a (back service (show p fs rest) n around i) (back service rest m around i) (begin service p st go) next
    (good_begin n m (room st) service p st go (omega arith)
    (λ v st1 lt. good_unless n m (room st) (show_fault (document_of v) st1.locals around st1.shared) st1.units (wait n fs (document_of v) st1 st1.inputs)
    (good_wait n m (room st) n fs (document_of v) st1 st1.inputs (omega arith) (omega arith) (omega arith))))
    (λ st1. exec_good service rest m around st1) (λ st1. exec_law service rest m around st1 i)
    (λ k l rs x lt. sym (if_at k n (next (taken fs l i [])) (go_on_behind service rest m around (answered k l rs i)) x lt))
    (λ k l rs le x. sym (if_past k n (next (taken fs l i [])) (go_on_behind service rest m around (answered k l rs i)) le))
exec_law service (exit p rest) n around st i =
    let b = back service (exit p rest) n around i in
    let go = λ (v : Value) (st1 : State). exits (document_of v) st1 in
    law_begin service p st i b go go
    (λ v st1 lt. law_unless (exit_fault (document_of v) st1.shared) st1.units i b (Exited (document_of v) st1.shared st1.units)
    (Exited (document_of v) st1.shared st1.units) refl)

-- One more input behind an answered show.
use Rattle.std.proofs.Common.{◌≡◌, ℕ, ◌+◌, ◌<◌, ◌≤◌, List, [], ◌∷◌, ◌++◌, refl, sym, ap, ◌∙◌, arith}
use Rattle.std.specs.Prelude.{◌==◌, nat_lt, if◌then◌else◌}
use Rattle.bw_lang.specs.declared.service.Service.{Service}
use Rattle.bw_lang.specs.Service.Code.{Code, done, declare, assign, if_then, if_else, while_loop, block, for_each, show, exit, numbered}
use Rattle.bw_lang.specs.Service.Numbers.{first_number}
use Rattle.bw_meaning.specs.GoOn.{with_rest, go_on_behind, body_of}
use Rattle.bw_meaning.specs.Laws.{answered, TurnGoesOn, GoingOnGoesOn}
use Rattle.bw_meaning.specs.States.{Rests, Input, State, Outcome, Answered, budget}
use Rattle.bw_meaning.specs.Statements.{declared, taken, then_do, leave, refills, room, add_rest, each, exec}
use Rattle.bw_meaning.specs.Values.{Values, list_weight}
use Rattle.bw_meaning.proofs.Good.{good_more, good_then, good_leave, good_rest, good_each, good_inner, exec_good}
use Rattle.bw_meaning.proofs.OneMore.{Back, onward, received_more, law_leave, onward_same, law_then, law_step, law_if, if_below, if_above, if_past, then_if}
use Rattle.bw_meaning.proofs.OneMore.{law_turn, law_each}
use Rattle.bw_meaning.proofs.ExecLaw.{good_with, behind_good, back, exec_law}

-- one more input behind the others
abbrev pub longer : Input → Answered → Answered
longer i a = record a { later = a.later ++ i ∷ [] }

law_with : (rests : Rests) (i : Input) (b : Back) (go' go : List (List ℕ) → Rests → Outcome) →
    ((vs : List (List ℕ)) (inner : Rests) → go' vs inner ≡ onward i b (go vs inner)) → with_rest rests go' ≡ onward i b (with_rest rests go)
law_with [] i b go' go h = refl
law_with (vs ∷ inner) i b go' go h = h vs inner

pub behind_law : (service : Service) (c : Code) (n around : ℕ) (a : Answered) (i : Input) →
    go_on_behind service c n around (longer i a) ≡ onward i (back service c n around i) (go_on_behind service c n around a)
behind_law service done n around a i = refl
behind_law service (declare kind w e rest) n around a i = behind_law service rest (n + 1) around a i
behind_law service (assign w e rest) n around a i = behind_law service rest (n + 1) around a i
behind_law service (exit p rest) n around a i = behind_law service rest (n + 1) around a i
behind_law service (show p fs rest) n around a i =
    let m = n + 1 in
    let next = exec service rest m around in
    let b = back service (show p fs rest) n around i in
    let st = taken fs a.locals a.input a.later in
    let later = λ (k : ℕ) (l : Values) (rs : Rests) (le : m ≤ k) (x : k < m + numbered rest).
    sym (if_past k n (next (taken fs l i [])) (go_on_behind service rest m around (answered k l rs i)) le) in
    law_if (a.at == n) i b (next (taken fs a.locals a.input (a.later ++ i ∷ []))) (go_on_behind service rest m around (longer i a)) (next st)
    (go_on_behind service rest m around a)
    (ap next (received_more fs a.input.form i (record { locals = a.locals; shared = a.input.shared; units = budget; inputs = a.later }))
    ∙ exec_law service rest m around st i ∙ onward_same m (m + numbered rest) (room st) i (back service rest m around i) b (next st)
    (exec_good service rest m around st) later)
    (behind_law service rest m around a i ∙ onward_same m (m + numbered rest) (budget + refills a.later) i (back service rest m around i) b
    (go_on_behind service rest m around a) (behind_good service rest m around a) later)
behind_law service (block c rest) n around a i =
    let m = n + numbered c in
    let r = budget + refills a.later in
    let next = exec service rest m around in
    let b = back service (block c rest) n around i in
    let p = λ (k : ℕ) (l : Values) (rs : Rests). leave (declared c) (go_on_behind service c n around (answered k l rs i)) in
    let later = λ (k : ℕ) (l : Values) (rs : Rests) (le : m ≤ k) (x : k < m + numbered rest).
    sym (if_above k m (then_do (p k l rs) next) (go_on_behind service rest m around (answered k l rs i)) le) in
    law_if (nat_lt a.at m) i b (then_do (leave (declared c) (go_on_behind service c n around (longer i a))) next)
    (go_on_behind service rest m around (longer i a))
    (then_do (leave (declared c) (go_on_behind service c n around a)) next) (go_on_behind service rest m around a)
    (ap (λ o. then_do o next) (ap (leave (declared c)) (behind_law service c n around a i)
    ∙ law_leave (declared c) i (back service c n around i) (go_on_behind service c n around a))
    ∙ law_step n m (m + numbered rest) r i p b (back service rest m around i) (leave (declared c) (go_on_behind service c n around a)) next
    (good_leave n m r (declared c) (go_on_behind service c n around a) (behind_good service c n around a))
    (λ st1. exec_good service rest m around st1) (λ st1. exec_law service rest m around st1 i)
    (λ k l rs x lt. sym (if_below k m (then_do (p k l rs) next) (go_on_behind service rest m around (answered k l rs i)) lt)) later)
    (behind_law service rest m around a i ∙ onward_same m (m + numbered rest) r i (back service rest m around i) b (go_on_behind service rest m around a)
    (behind_good service rest m around a) later)
behind_law service (if_then t y rest) n around a i =
    let m = n + 1 + numbered y in
    let r = budget + refills a.later in
    let next = exec service rest m around in
    let b = back service (if_then t y rest) n around i in
    let p = λ (k : ℕ) (l : Values) (rs : Rests). leave (declared y) (go_on_behind service y (n + 1) around (answered k l rs i)) in
    let later = λ (k : ℕ) (l : Values) (rs : Rests) (le : m ≤ k) (x : k < m + numbered rest).
    sym (if_above k m (then_do (p k l rs) next) (go_on_behind service rest m around (answered k l rs i)) le) in
    law_if (nat_lt a.at m) i b (then_do (leave (declared y) (go_on_behind service y (n + 1) around (longer i a))) next)
    (go_on_behind service rest m around (longer i a))
    (then_do (leave (declared y) (go_on_behind service y (n + 1) around a)) next) (go_on_behind service rest m around a)
    (ap (λ o. then_do o next) (ap (leave (declared y)) (behind_law service y (n + 1) around a i)
    ∙ law_leave (declared y) i (back service y (n + 1) around i) (go_on_behind service y (n + 1) around a))
    ∙ law_step n m (m + numbered rest) r i p b (back service rest m around i) (leave (declared y) (go_on_behind service y (n + 1) around a)) next
    (good_inner n m r (declared y) (go_on_behind service y (n + 1) around a) (behind_good service y (n + 1) around a))
    (λ st1. exec_good service rest m around st1) (λ st1. exec_law service rest m around st1 i)
    (λ k l rs x lt. sym (if_below k m (then_do (p k l rs) next) (go_on_behind service rest m around (answered k l rs i)) lt)) later)
    (behind_law service rest m around a i ∙ onward_same m (m + numbered rest) r i (back service rest m around i) b (go_on_behind service rest m around a)
    (behind_good service rest m around a) later)
behind_law service (if_else t y z rest) n around a i =
    let j = n + 1 + numbered y in
    let m = j + numbered z in
    let r = budget + refills a.later in
    let next = exec service rest m around in
    let b = back service (if_else t y z rest) n around i in
    let p = λ (k : ℕ) (l : Values) (rs : Rests). leave (declared y) (go_on_behind service y (n + 1) around (answered k l rs i)) in
    let q = λ (k : ℕ) (l : Values) (rs : Rests). leave (declared z) (go_on_behind service z j around (answered k l rs i)) in
    let c = λ (k : ℕ) (l : Values) (rs : Rests). if nat_lt k j then p k l rs else q k l rs in
    let one = leave (declared y) (go_on_behind service y (n + 1) around a) in
    let other = leave (declared z) (go_on_behind service z j around a) in
    let here = λ (k : ℕ) (l : Values) (rs : Rests) (x : n ≤ k) (lt : k < m). then_if (nat_lt k j) (p k l rs) (q k l rs) next
    ∙ ap (λ o. if nat_lt k j then then_do (p k l rs) next else o)
    (sym (if_below k m (then_do (q k l rs) next) (go_on_behind service rest m around (answered k l rs i)) lt)) in
    let later = λ (k : ℕ) (l : Values) (rs : Rests) (le : m ≤ k) (x : k < m + numbered rest).
    sym (if_above k j (then_do (p k l rs) next) (if nat_lt k m then then_do (q k l rs) next else go_on_behind service rest m around (answered k l rs i))
    (omega arith)
    ∙ if_above k m (then_do (q k l rs) next) (go_on_behind service rest m around (answered k l rs i)) le) in
    law_if (nat_lt a.at j) i b (then_do (leave (declared y) (go_on_behind service y (n + 1) around (longer i a))) next)
    (if nat_lt a.at m then then_do (leave (declared z) (go_on_behind service z j around (longer i a))) next else go_on_behind service rest m around
    (longer i a))
    (then_do one next) (if nat_lt a.at m then then_do other next else go_on_behind service rest m around a)
    (ap (λ o. then_do o next) (ap (leave (declared y)) (behind_law service y (n + 1) around a i)
    ∙ law_leave (declared y) i (back service y (n + 1) around i) (go_on_behind service y (n + 1) around a)
    ∙ onward_same (n + 1) j r i p c one (good_leave (n + 1) j r (declared y) (go_on_behind service y (n + 1) around a) (behind_good service y (n + 1) around a))
    (λ k l rs x lt. sym (if_below k j (p k l rs) (q k l rs) lt)))
    ∙ law_step n m (m + numbered rest) r i c b (back service rest m around i) one next
    (good_inner n m r (declared y) (go_on_behind service y (n + 1) around a)
    (good_more (n + 1) j r (n + 1) m r (go_on_behind service y (n + 1) around a) (omega arith) (omega arith) (omega arith)
    (behind_good service y (n + 1) around a)))
    (λ st1. exec_good service rest m around st1) (λ st1. exec_law service rest m around st1 i) here later)
    (law_if (nat_lt a.at m) i b (then_do (leave (declared z) (go_on_behind service z j around (longer i a))) next)
    (go_on_behind service rest m around (longer i a))
    (then_do other next) (go_on_behind service rest m around a)
    (ap (λ o. then_do o next) (ap (leave (declared z)) (behind_law service z j around a i)
    ∙ law_leave (declared z) i (back service z j around i) (go_on_behind service z j around a)
    ∙ onward_same j m r i q c other (good_leave j m r (declared z) (go_on_behind service z j around a) (behind_good service z j around a))
    (λ k l rs le x. sym (if_above k j (p k l rs) (q k l rs) le)))
    ∙ law_step n m (m + numbered rest) r i c b (back service rest m around i) other next
    (good_leave n m r (declared z) (go_on_behind service z j around a)
    (good_more j m r n m r (go_on_behind service z j around a) (omega arith) (omega arith) (omega arith) (behind_good service z j around a)))
    (λ st1. exec_good service rest m around st1) (λ st1. exec_law service rest m around st1 i) here later)
    (behind_law service rest m around a i ∙ onward_same m (m + numbered rest) r i (back service rest m around i) b (go_on_behind service rest m around a)
    (behind_good service rest m around a) later))
behind_law service (while_loop t c rest) n around a i =
    let m = n + 1 + numbered c in
    let r = budget + refills a.later in
    let loop = exec service (while_loop t c rest) n around in
    let b = back service (while_loop t c rest) n around i in
    let p = λ (k : ℕ) (l : Values) (rs : Rests). leave (declared c) (go_on_behind service c (n + 1) around (answered k l rs i)) in
    law_if (nat_lt a.at m) i b (then_do (leave (declared c) (go_on_behind service c (n + 1) around (longer i a))) loop)
    (go_on_behind service rest m around (longer i a))
    (then_do (leave (declared c) (go_on_behind service c (n + 1) around a)) loop) (go_on_behind service rest m around a)
    (ap (λ o. then_do o loop) (ap (leave (declared c)) (behind_law service c (n + 1) around a i)
    ∙ law_leave (declared c) i (back service c (n + 1) around i) (go_on_behind service c (n + 1) around a))
    ∙ law_then n m r i p b (leave (declared c) (go_on_behind service c (n + 1) around a)) loop loop
    (good_inner n m r (declared c) (go_on_behind service c (n + 1) around a) (behind_good service c (n + 1) around a))
    (λ st le. exec_law service (while_loop t c rest) n around st i)
    (λ k l rs x lt. sym (if_below k m (then_do (p k l rs) loop) (go_on_behind service rest m around (answered k l rs i)) lt)))
    (behind_law service rest m around a i ∙ onward_same m (m + numbered rest) r i (back service rest m around i) b (go_on_behind service rest m around a)
    (behind_good service rest m around a)
    (λ k l rs le x. sym (if_above k m (then_do (p k l rs) loop) (go_on_behind service rest m around (answered k l rs i)) le)))
behind_law service (for_each w e c rest) n around a i =
    let m = n + 1 + numbered c in
    let r = budget + refills a.later in
    let next = exec service rest m around in
    let names = w ∷ declared c in
    let b = back service (for_each w e c rest) n around i in
    let run = λ (vs : List (List ℕ)) (st2 : State). exec service c (n + 1) (around + list_weight vs) st2 in
    let inside = λ (vs : List (List ℕ)) (k : ℕ) (l : Values) (rs : Rests). go_on_behind service c (n + 1) (around + list_weight vs) (answered k l rs i) in
    let p = λ (k : ℕ) (l : Values) (rs : Rests). with_rest rs (λ vs others. then_do (leave names (add_rest vs (inside vs k l others))) (each vs w names run)) in
    let o = λ (vs : List (List ℕ)) (inner : Rests).
    then_do (leave names (add_rest vs (go_on_behind service c (n + 1) (around + list_weight vs) (record a { rests = inner })))) (each vs w names run) in
    let o' = λ (vs : List (List ℕ)) (inner : Rests).
    then_do (leave names (add_rest vs (go_on_behind service c (n + 1) (around + list_weight vs) (longer i (record a { rests = inner })))))
    (each vs w names run) in
    let later = λ (k : ℕ) (l : Values) (rs : Rests) (le : m ≤ k) (x : k < m + numbered rest).
    sym (if_above k m (then_do (p k l rs) next) (go_on_behind service rest m around (answered k l rs i)) le) in
    law_if (nat_lt a.at m) i b (then_do (with_rest a.rests o') next) (go_on_behind service rest m around (longer i a)) (then_do (with_rest a.rests o) next)
    (go_on_behind service rest m around a)
    (ap (λ y. then_do y next) (law_with a.rests i p o' o (λ vs inner.
    ap (λ y. then_do (leave names (add_rest vs y)) (each vs w names run))
    (behind_law service c (n + 1) (around + list_weight vs) (record a { rests = inner }) i)
    ∙ law_turn (n + 1) m r vs names i (inside vs) p (go_on_behind service c (n + 1) (around + list_weight vs) (record a { rests = inner }))
    (each vs w names run)
    (behind_good service c (n + 1) (around + list_weight vs) (record a { rests = inner }))
    (λ st. law_each (n + 1) m w vs names run inside p i st
    (λ ws st2. exec_good service c (n + 1) (around + list_weight ws) st2)
    (λ ws st2. exec_law service c (n + 1) (around + list_weight ws) st2 i)
    (λ ws k l rs x y. refl))
    (λ k l rs x y. refl)))
    ∙ law_step n m (m + numbered rest) r i p b (back service rest m around i) (with_rest a.rests o) next
    (good_with n m r a.rests o (λ vs inner.
    good_then n m r (leave names (add_rest vs (go_on_behind service c (n + 1) (around + list_weight vs) (record a { rests = inner })))) (each vs w names run)
    (good_leave n m r names (add_rest vs (go_on_behind service c (n + 1) (around + list_weight vs) (record a { rests = inner })))
    (good_rest n m r vs (go_on_behind service c (n + 1) (around + list_weight vs) (record a { rests = inner }))
    (good_more (n + 1) m r n m r (go_on_behind service c (n + 1) (around + list_weight vs) (record a { rests = inner })) (omega arith) (omega arith)
    (omega arith)
    (behind_good service c (n + 1) (around + list_weight vs) (record a { rests = inner })))))
    (λ st le. good_each n m r vs w names run st le
    (λ ws st2. good_more (n + 1) m (room st2) n m (room st2) (exec service c (n + 1) (around + list_weight ws) st2) (omega arith) (omega arith) (omega arith)
    (exec_good service c (n + 1) (around + list_weight ws) st2)))))
    (λ st1. exec_good service rest m around st1) (λ st1. exec_law service rest m around st1 i)
    (λ k l rs x lt. sym (if_below k m (then_do (p k l rs) next) (go_on_behind service rest m around (answered k l rs i)) lt)) later)
    (behind_law service rest m around a i ∙ onward_same m (m + numbered rest) r i (back service rest m around i) b (go_on_behind service rest m around a)
    (behind_good service rest m around a) later)

pub turn_goes_on : TurnGoesOn
turn_goes_on service session first inputs i at locals rests shown shared units e =
    exec_law service (body_of service session) (first_number service session) 0 (record { locals = []; shared = first; units = budget; inputs = inputs }) i
    ∙ ap (onward i (back service (body_of service session) (first_number service session) 0 i)) e

pub going_on_goes_on : GoingOnGoesOn
going_on_goes_on service session a i at locals rests shown shared units e =
    behind_law service (body_of service session) (first_number service session) 0 a i
    ∙ ap (onward i (back service (body_of service session) (first_number service session) 0 i)) e

-- The plugs that a turn makes, in their order: it follows the meaning, and hands on what that gives.
use Rattle.std.specs.Prelude.{ℕ, zero, suc, ◌+◌, ◌==◌, nat_lt, if◌then◌else◌, List, [], ◌∷◌, ◌++◌}
use Rattle.bw_lang.specs.declared.service.Service.{Service}
use Rattle.bw_lang.specs.Service.Code.{Code, done, declare, assign, if_then, if_else, while_loop, block, for_each, show, exit, numbered}
use Rattle.bw_lang.specs.Document.Forest.{Forest}
use Rattle.bw_lang.specs.Service.Term.{Term, int, truth, string, name, paren, not, neg, binary, call, plug, nothing, Fillings, no_more, filling}
use Rattle.bw_meaning.specs.Expressions.{Evaluated, Gives, Faults, given, eval}
use Rattle.bw_meaning.specs.GoOn.{with_rest, go_on_behind, body_of}
use Rattle.bw_lang.specs.Service.Numbers.{first_number}
use Rattle.bw_meaning.specs.Operators.{truth_of, list_of, document_of, decides, filled}
use Rattle.bw_meaning.specs.States.{Rests, Input, State, Outcome, Went, Shown, Exited, Failed, Answered, budget}
use Rattle.bw_meaning.specs.Statements.{declared, add_local, taken, then_do, leave, room, add_rest, each, exec}
use Rattle.bw_meaning.specs.Values.{Value, Values, text, list_weight}
use Rattle.bw_lang.specs.Table.Names as names

-- the number of the gap that is filled, and the tree in which it is
pub record Plug : Type 0 where
  pub gap : ℕ
  pub base : Forest

-- what goes on where there is a unit, where an expression has a value, and where statements went to their end
abbrev pub on_unit : ℕ → (ℕ → List Plug) → List Plug
on_unit zero go = []
on_unit (suc units) go = go units

-- goes on with a value
abbrev pub on_value : Evaluated → (Value → ℕ → List Plug) → List Plug
on_value (Gives v units) go = go v units
on_value (Faults f units) go = []

-- goes on where statements went to their end
abbrev pub on_end : Outcome → (State → List Plug) → List Plug
on_end (Went st) go = go st
on_end (Shown at locals rests shown shared units) go = []
on_end (Exited last shared units) go = []
on_end (Failed f units) go = []

abbrev mutual
  -- those of an expression
  pub plugs_in : Service → Values → Values → Term → ℕ → List Plug
  plugs_in service l s (int n) units = []
  plugs_in service l s (truth b) units = []
  plugs_in service l s (string t) units = []
  plugs_in service l s nothing units = []
  plugs_in service l s (name w) units = []
  plugs_in service l s (paren e) units = on_unit units (λ u. plugs_in service l s e u)
  plugs_in service l s (not e) units = on_unit units (λ u. plugs_in service l s e u)
  plugs_in service l s (neg e) units = on_unit units (λ u. plugs_in service l s e u)
  plugs_in service l s (call f e) units = on_unit units (λ u. plugs_in service l s e u)
  plugs_in service l s (binary op a b) units =
      on_unit units (λ u. plugs_in service l s a u ++ on_value (eval service l s a u) (λ v u1. if decides op v then [] else plugs_in service l s b u1))
  plugs_in service l s (plug b ps) units =
      on_unit units (λ u. plugs_in service l s b u ++ on_value (eval service l s b u) (λ d u1. plugs_by service l s ps d u1))

  -- those of its pairs, where d is the base
  pub plugs_by : Service → Values → Values → Fillings → Value → ℕ → List Plug
  plugs_by service l s no_more d units = []
  plugs_by service l s (filling g e ps) d units =
      plugs_in service l s e units ++ on_value (eval service l s e units) (λ v u1.
      record { gap = names.name_number service.gaps g; base = (document_of d).tree }
      ∷ on_value (given (filled (names.name_number service.gaps g) v (document_of d)) u1) (λ d1 u2. plugs_by service l s ps d1 u2))

-- those of a statement's expression, and then those of what is done with its value
abbrev pub value_plugs : Service → Term → State → (Value → State → List Plug) → List Plug
value_plugs service e st go =
    plugs_in service st.locals st.shared e st.units ++ on_value (eval service st.locals st.shared e st.units) (λ v u. go v (record st { units = u }))

-- the same where a unit is taken first
abbrev pub begin_plugs : Service → Term → State → (Value → State → List Plug) → List Plug
begin_plugs service e st go = on_unit st.units (λ u. value_plugs service e (record st { units = u }) go)

-- those of a loop of at most n turns
abbrev pub turns_plugs : ℕ → Service → Term → (State → Outcome) → (State → List Plug) → State → List Plug
turns_plugs zero service t body inside st = []
turns_plugs (suc n) service t body inside st =
    begin_plugs service t st (λ v st1. if truth_of v then inside st1 ++ on_end (body st1) (turns_plugs n service t body inside) else [])

-- those of a foreach
abbrev pub each_plugs : List (List ℕ) → List ℕ → List (List ℕ) → (List (List ℕ) → State → Outcome) → (List (List ℕ) → State → List Plug) → State → List Plug
each_plugs [] w own body inside st = []
each_plugs (v ∷ vs) w own body inside st =
    on_unit st.units (λ u. let st1 = add_local w (text v) (record st { units = u }) in
    inside vs st1 ++ on_end (leave own (add_rest vs (body vs st1))) (each_plugs vs w own body inside))

-- those of statements: of the first one, and then of what follows it where it comes to its end
abbrev pub plugs : Service → Code → ℕ → ℕ → State → List Plug
plugs service done n around st = []
plugs service (declare kind w e rest) n around st =
    begin_plugs service e st (λ v st1. []) ++ on_end (exec service (declare kind w e done) n around st) (plugs service rest (n + 1) around)
plugs service (assign w e rest) n around st =
    begin_plugs service e st (λ v st1. []) ++ on_end (exec service (assign w e done) n around st) (plugs service rest (n + 1) around)
plugs service (if_then t y rest) n around st =
    begin_plugs service t st (λ v st1. if truth_of v then plugs service y (n + 1) around st1 else [])
    ++ on_end (exec service (if_then t y done) n around st) (plugs service rest (n + 1 + numbered y) around)
plugs service (if_else t y z rest) n around st =
    begin_plugs service t st (λ v st1. if truth_of v then plugs service y (n + 1) around st1 else plugs service z (n + 1 + numbered y) around st1)
    ++ on_end (exec service (if_else t y z done) n around st) (plugs service rest (n + 1 + numbered y + numbered z) around)
plugs service (while_loop t b rest) n around st =
    turns_plugs (room st) service t (λ st1. leave (declared b) (exec service b (n + 1) around st1)) (plugs service b (n + 1) around) st
    ++ on_end (exec service (while_loop t b done) n around st) (plugs service rest (n + 1 + numbered b) around)
plugs service (block b rest) n around st =
    plugs service b n around st ++ on_end (exec service (block b done) n around st) (plugs service rest (n + numbered b) around)
plugs service (for_each w e b rest) n around st =
    value_plugs service e st (λ v. each_plugs (list_of v) w (w ∷ declared b) (λ vs. exec service b (n + 1) (around + list_weight vs))
    (λ vs. plugs service b (n + 1) (around + list_weight vs)))
    ++ on_end (exec service (for_each w e b done) n around st) (plugs service rest (n + 1 + numbered b) around)
plugs service (show p rs rest) n around st =
    begin_plugs service p st (λ v st1. []) ++ on_end (exec service (show p rs done) n around st) (plugs service rest (n + 1) around)
plugs service (exit p rest) n around st = begin_plugs service p st (λ v st1. [])

-- goes on with the rest of the outermost foreach
abbrev pub rest_plugs : Rests → (List (List ℕ) → Rests → List Plug) → List Plug
rest_plugs [] go = []
rest_plugs (vs ∷ inner) go = go vs inner

-- those of what comes behind an answered show
abbrev pub plugs_behind : Service → Code → ℕ → ℕ → Answered → List Plug
plugs_behind service done n around a = []
plugs_behind service (declare kind w e rest) n around a = plugs_behind service rest (n + 1) around a
plugs_behind service (assign w e rest) n around a = plugs_behind service rest (n + 1) around a
plugs_behind service (if_then t y rest) n around a =
    if nat_lt a.at (n + 1 + numbered y)
    then plugs_behind service y (n + 1) around a ++ on_end (leave (declared y) (go_on_behind service y (n + 1) around a))
    (plugs service rest (n + 1 + numbered y) around)
    else plugs_behind service rest (n + 1 + numbered y) around a
plugs_behind service (if_else t y z rest) n around a =
    if nat_lt a.at (n + 1 + numbered y)
    then plugs_behind service y (n + 1) around a
    ++ on_end (leave (declared y) (go_on_behind service y (n + 1) around a)) (plugs service rest (n + 1 + numbered y + numbered z) around)
    else if nat_lt a.at (n + 1 + numbered y + numbered z)
    then plugs_behind service z (n + 1 + numbered y) around a
    ++ on_end (leave (declared z) (go_on_behind service z (n + 1 + numbered y) around a)) (plugs service rest (n + 1 + numbered y + numbered z) around)
    else plugs_behind service rest (n + 1 + numbered y + numbered z) around a
plugs_behind service (while_loop t b rest) n around a =
    if nat_lt a.at (n + 1 + numbered b)
    then plugs_behind service b (n + 1) around a ++ on_end (leave (declared b) (go_on_behind service b (n + 1) around a))
    (plugs service (while_loop t b rest) n around)
    else plugs_behind service rest (n + 1 + numbered b) around a
plugs_behind service (block b rest) n around a =
    if nat_lt a.at (n + numbered b)
    then plugs_behind service b n around a ++ on_end (leave (declared b) (go_on_behind service b n around a)) (plugs service rest (n + numbered b) around)
    else plugs_behind service rest (n + numbered b) around a
plugs_behind service (for_each w e b rest) n around a =
    if nat_lt a.at (n + 1 + numbered b)
    then rest_plugs a.rests (λ vs inner.
    plugs_behind service b (n + 1) (around + list_weight vs) (record a { rests = inner })
    ++ on_end (leave (w ∷ declared b) (add_rest vs (go_on_behind service b (n + 1) (around + list_weight vs) (record a { rests = inner }))))
    (each_plugs vs w (w ∷ declared b) (λ more. exec service b (n + 1) (around + list_weight more))
    (λ more. plugs service b (n + 1) (around + list_weight more))))
    ++ on_end (with_rest a.rests (λ vs inner.
    then_do (leave (w ∷ declared b) (add_rest vs (go_on_behind service b (n + 1) (around + list_weight vs) (record a { rests = inner }))))
    (each vs w (w ∷ declared b) (λ more. exec service b (n + 1) (around + list_weight more)))))
    (plugs service rest (n + 1 + numbered b) around)
    else plugs_behind service rest (n + 1 + numbered b) around a
plugs_behind service (show p rs rest) n around a =
    if a.at == n
    then plugs service rest (n + 1) around (taken rs a.locals a.input a.later)
    else plugs_behind service rest (n + 1) around a
plugs_behind service (exit p rest) n around a = plugs_behind service rest (n + 1) around a

-- those of a session's turn, and of going on from an answered show
abbrev pub turn_plugs : Service → ℕ → Values → List Input → List Plug
turn_plugs service session first inputs =
    plugs service (body_of service session) (first_number service session) 0 (record { locals = []; shared = first; units = budget; inputs = inputs })

-- those of going on from an answered show
abbrev pub go_on_plugs : Service → ℕ → Answered → List Plug
go_on_plugs service session a = plugs_behind service (body_of service session) (first_number service session) 0 a

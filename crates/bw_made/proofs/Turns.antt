-- What statements come to is made of constants and of strings in UTF-8.
use Rattle.std.proofs.Common.{ℕ, zero, suc, ◌+◌, List, [], ◌∷◌, map}
use Rattle.std.specs.Prelude.{◌==◌, nat_lt, if◌then◌else◌, slice_get, unwrap_or, IsUtf8}
use Rattle.std.specs.List.{All, AllByRecursion}
use Rattle.std.proofs.lemmas.List.Elements.{All-head, All-tail}
use Rattle.bw_lang.specs.declared.service.Literal.{Literal}
use Rattle.bw_lang.specs.declared.service.Literal.TheVariants as literals
use Rattle.bw_lang.specs.declared.service.Service.{Service}
use Rattle.bw_lang.specs.declared.service.Session.{Session}
use Rattle.bw_lang.specs.declared.service.Shared.{Shared}
use Rattle.bw_lang.specs.Service.Code.{Code, done, declare, assign, if_then, if_else, while_loop, block, for_each, show, exit, numbered}
use Rattle.bw_lang.specs.Document.Forest.{none}
use Rattle.bw_meaning.specs.GoOn.{with_rest, go_on_behind, body_of, turn, go_on}
use Rattle.bw_lang.specs.Service.Numbers.{first_number}
use Rattle.std.proofs.lemmas.Str.{IsUtf8-from_is_utf8}
use Rattle.bw_meaning.specs.Operators.{truth_of, list_of, document_of}
use Rattle.bw_meaning.specs.States.{Rests, Input, State, Outcome, Went, Answered, budget}
use Rattle.bw_meaning.specs.Statements.{declared, add_local, store, taken, with_value, begin, then_do}
use Rattle.bw_meaning.specs.Statements.{leave, room, turns, add_rest, each, shows, exits, exec}
use Rattle.bw_meaning.specs.Values.{Value, Values, document, constant, list_weight, template_value, literal_value, first_values}
use Rattle.bw_typed.specs.Strings.{CodeStrings, LiteralString, IsUtf8Text}
use Rattle.bw_made.specs.Made.{IsText, AreTexts, AreTextInputs, AreTextRests, IsTextState, IsTextOutcome}
use Rattle.bw_made.proofs.Texts.{some_else}
use Rattle.bw_made.proofs.Values.{AreConstants, document_is, template_text, empty_document}
use Rattle.bw_made.proofs.Outcomes.{list_texts, added, stored, taken_holds, come_value, come_begin, come_then, come_if, come_leave, come_rest}
use Rattle.bw_made.proofs.Outcomes.{come_turns, come_each, come_shows, come_exits}

module _ (service : Service) (Constant : _) (c : AreConstants Constant service) where
  abbrev H : State → Type 0
  H st = IsTextState Constant st

  abbrev C : Outcome → Type 0
  C o = IsTextOutcome Constant o

  pub exec_comes : (code : Code) (n around : ℕ) (st : State) → CodeStrings IsUtf8Text code → H st → C (exec service code n around st)
  exec_comes done n around st s h = h
  exec_comes (declare kind w e rest) n around st s h =
      come_then service Constant c (begin service e st (λ v st1. Went (add_local w v st1))) (exec service rest (n + 1) around)
      (come_begin service Constant c e st (λ v st1. Went (add_local w v st1)) s.0 h (λ v st1 k h1. added Constant w v st1 k h1))
      (λ st1 h1. exec_comes rest (n + 1) around st1 s.1 h1)
  exec_comes (assign w e rest) n around st s h =
      come_then service Constant c (begin service e st (λ v st1. Went (store w v st1))) (exec service rest (n + 1) around)
      (come_begin service Constant c e st (λ v st1. Went (store w v st1)) s.0 h (λ v st1 k h1. stored Constant w v st1 k h1))
      (λ st1 h1. exec_comes rest (n + 1) around st1 s.1 h1)
  exec_comes (if_then t y rest) n around st s h =
      let go = λ (v : Value) (st1 : State). if truth_of v then leave (declared y) (exec service y (n + 1) around st1) else Went st1 in
      come_then service Constant c (begin service t st go) (exec service rest (n + 1 + numbered y) around)
      (come_begin service Constant c t st go s.0 h (λ v st1 k h1.
      come_if service Constant c (truth_of v) (leave (declared y) (exec service y (n + 1) around st1)) (Went st1)
      (come_leave service Constant c (declared y) (exec service y (n + 1) around st1) (exec_comes y (n + 1) around st1 s.1 h1)) h1))
      (λ st1 h1. exec_comes rest (n + 1 + numbered y) around st1 s.2 h1)
  exec_comes (if_else t y z rest) n around st s h =
      let k = n + 1 + numbered y in
      let go = λ (v : Value) (st1 : State). if truth_of v then leave (declared y) (exec service y (n + 1) around st1) else leave (declared z)
      (exec service z k around st1) in
      come_then service Constant c (begin service t st go) (exec service rest (k + numbered z) around)
      (come_begin service Constant c t st go s.0 h (λ v st1 _ h1.
      come_if service Constant c (truth_of v) (leave (declared y) (exec service y (n + 1) around st1)) (leave (declared z) (exec service z k around st1))
      (come_leave service Constant c (declared y) (exec service y (n + 1) around st1) (exec_comes y (n + 1) around st1 s.1 h1))
      (come_leave service Constant c (declared z) (exec service z k around st1) (exec_comes z k around st1 s.2 h1))))
      (λ st1 h1. exec_comes rest (k + numbered z) around st1 s.3 h1)
  exec_comes (while_loop t b rest) n around st s h =
      let body = λ (st1 : State). leave (declared b) (exec service b (n + 1) around st1) in
      come_then service Constant c (turns (room st) service t body st) (exec service rest (n + 1 + numbered b) around)
      (come_turns service Constant c (room st) t body st s.0
      (λ st1 h1. come_leave service Constant c (declared b) (exec service b (n + 1) around st1) (exec_comes b (n + 1) around st1 s.1 h1)) h)
      (λ st1 h1. exec_comes rest (n + 1 + numbered b) around st1 s.2 h1)
  exec_comes (block b rest) n around st s h =
      come_then service Constant c (leave (declared b) (exec service b n around st)) (exec service rest (n + numbered b) around)
      (come_leave service Constant c (declared b) (exec service b n around st) (exec_comes b n around st s.0 h))
      (λ st1 h1. exec_comes rest (n + numbered b) around st1 s.1 h1)
  exec_comes (for_each w e b rest) n around st s h =
      let body = λ (vs : List (List ℕ)) (st2 : State). exec service b (n + 1) (around + list_weight vs) st2 in
      let go = λ (v : Value) (st1 : State). each (list_of v) w (w ∷ declared b) body st1 in
      come_then service Constant c (with_value service e st go) (exec service rest (n + 1 + numbered b) around)
      (come_value service Constant c e st go s.0 h (λ v st1 k h1.
      come_each service Constant c (list_of v) w (w ∷ declared b) body st1 (list_texts Constant v k)
      (λ more st2 m h2. exec_comes b (n + 1) (around + list_weight more) st2 s.1 h2) h1))
      (λ st1 h1. exec_comes rest (n + 1 + numbered b) around st1 s.2 h1)
  exec_comes (show p rs rest) n around st s h =
      let go = λ (v : Value). shows n around rs (document_of v) in
      come_then service Constant c (begin service p st go) (exec service rest (n + 1) around)
      (come_begin service Constant c p st go s.0 h (λ v st1 k h1.
      come_shows service Constant c n around rs (document_of v) st1 (document_is Constant c.empty v k) h1))
      (λ st1 h1. exec_comes rest (n + 1) around st1 s.1 h1)
  exec_comes (exit p rest) n around st s h =
      come_begin service Constant c p st (λ v. exits (document_of v)) s.0 h (λ v st1 k h1.
      come_exits service Constant c (document_of v) st1 (document_is Constant c.empty v k) h1)

  -- ---- going on

  come_rests : (rests : Rests) (go : List (List ℕ) → Rests → Outcome) → AreTextRests rests
      → ((vs : List (List ℕ)) (inner : Rests) → AllByRecursion IsUtf8 vs → AreTextRests inner → C (go vs inner)) → C (with_rest rests go)
  come_rests [] go h g = tt
  come_rests (vs ∷ inner) go h g = g vs inner h.0 h.1

  pub behind_comes : (code : Code) (n around : ℕ) (a : Answered) → CodeStrings IsUtf8Text code → AreTexts Constant a.locals → AreTextRests a.rests
      → AreTextInputs Constant (a.input ∷ a.later) → C (go_on_behind service code n around a)
  behind_comes done n around a s l r i = tt
  behind_comes (declare kind w e rest) n around a s l r i = behind_comes rest (n + 1) around a s.1 l r i
  behind_comes (assign w e rest) n around a s l r i = behind_comes rest (n + 1) around a s.1 l r i
  behind_comes (if_then t y rest) n around a s l r i =
      let m = n + 1 + numbered y in
      let o = leave (declared y) (go_on_behind service y (n + 1) around a) in
      come_if service Constant c (nat_lt a.at m) (then_do o (exec service rest m around)) (go_on_behind service rest m around a)
      (come_then service Constant c o (exec service rest m around)
      (come_leave service Constant c (declared y) (go_on_behind service y (n + 1) around a) (behind_comes y (n + 1) around a s.1 l r i))
      (λ st1 h1. exec_comes rest m around st1 s.2 h1))
      (behind_comes rest m around a s.2 l r i)
  behind_comes (if_else t y z rest) n around a s l r i =
      let k = n + 1 + numbered y in
      let m = k + numbered z in
      let next = exec service rest m around in
      let one = leave (declared y) (go_on_behind service y (n + 1) around a) in
      let other = leave (declared z) (go_on_behind service z k around a) in
      come_if service Constant c (nat_lt a.at k) (then_do one next) (if nat_lt a.at m then then_do other next else go_on_behind service rest m around a)
      (come_then service Constant c one next
      (come_leave service Constant c (declared y) (go_on_behind service y (n + 1) around a) (behind_comes y (n + 1) around a s.1 l r i))
      (λ st1 h1. exec_comes rest m around st1 s.3 h1))
      (come_if service Constant c (nat_lt a.at m) (then_do other next) (go_on_behind service rest m around a)
      (come_then service Constant c other next
      (come_leave service Constant c (declared z) (go_on_behind service z k around a) (behind_comes z k around a s.2 l r i))
      (λ st1 h1. exec_comes rest m around st1 s.3 h1))
      (behind_comes rest m around a s.3 l r i))
  behind_comes (while_loop t b rest) n around a s l r i =
      let m = n + 1 + numbered b in
      let loop = exec service (while_loop t b rest) n around in
      let o = leave (declared b) (go_on_behind service b (n + 1) around a) in
      come_if service Constant c (nat_lt a.at m) (then_do o loop) (go_on_behind service rest m around a)
      (come_then service Constant c o loop
      (come_leave service Constant c (declared b) (go_on_behind service b (n + 1) around a) (behind_comes b (n + 1) around a s.1 l r i))
      (λ st1 h1. exec_comes (while_loop t b rest) n around st1 s h1))
      (behind_comes rest m around a s.2 l r i)
  behind_comes (block b rest) n around a s l r i =
      let m = n + numbered b in
      let o = leave (declared b) (go_on_behind service b n around a) in
      come_if service Constant c (nat_lt a.at m) (then_do o (exec service rest m around)) (go_on_behind service rest m around a)
      (come_then service Constant c o (exec service rest m around)
      (come_leave service Constant c (declared b) (go_on_behind service b n around a) (behind_comes b n around a s.0 l r i))
      (λ st1 h1. exec_comes rest m around st1 s.1 h1))
      (behind_comes rest m around a s.1 l r i)
  behind_comes (for_each w e b rest) n around a s l r i =
      let m = n + 1 + numbered b in
      let names = w ∷ declared b in
      let body = λ (vs : List (List ℕ)) (st : State). exec service b (n + 1) (around + list_weight vs) st in
      let inside = λ (vs : List (List ℕ)) (inner : Rests). go_on_behind service b (n + 1) (around + list_weight vs) (record a { rests = inner }) in
      let go = λ (vs : List (List ℕ)) (inner : Rests). then_do (leave names (add_rest vs (inside vs inner))) (each vs w names body) in
      come_if service Constant c (nat_lt a.at m) (then_do (with_rest a.rests go) (exec service rest m around)) (go_on_behind service rest m around a)
      (come_then service Constant c (with_rest a.rests go) (exec service rest m around)
      (come_rests a.rests go r (λ vs inner hv hi.
      come_then service Constant c (leave names (add_rest vs (inside vs inner))) (each vs w names body)
      (come_leave service Constant c names (add_rest vs (inside vs inner)) (come_rest service Constant c vs (inside vs inner) hv
      (behind_comes b (n + 1) (around + list_weight vs) (record a { rests = inner }) s.1 l hi i)))
      (λ st2 h2. come_each service Constant c vs w names body st2 hv
      (λ more st3 k h3. exec_comes b (n + 1) (around + list_weight more) st3 s.1 h3) h2)))
      (λ st1 h1. exec_comes rest m around st1 s.2 h1))
      (behind_comes rest m around a s.2 l r i)
  behind_comes (show p rs rest) n around a s l r i =
      come_if service Constant c (a.at == n) (exec service rest (n + 1) around (taken rs a.locals a.input a.later)) (go_on_behind service rest (n + 1) around a)
      (exec_comes rest (n + 1) around (taken rs a.locals a.input a.later) s.1 (taken_holds Constant rs a.locals a.input a.later l i))
      (behind_comes rest (n + 1) around a s.1 l r i)
  behind_comes (exit p rest) n around a s l r i = behind_comes rest (n + 1) around a s.1 l r i

  -- ---- turns

  body_strings : (ss : List Session) (session : ℕ) → All (λ s. CodeStrings IsUtf8Text s.body) ss →
      CodeStrings IsUtf8Text (unwrap_or (slice_get (map (λ (s : Session). s.body) ss) session) done)
  body_strings [] session h = tt
  body_strings (s ∷ ss) zero h = All-head (λ (s : Session). CodeStrings IsUtf8Text s.body) s ss h
  body_strings (s ∷ ss) (suc n) h = body_strings ss n (All-tail (λ (s : Session). CodeStrings IsUtf8Text s.body) s ss h)

  module _ (strings : All (λ s. CodeStrings IsUtf8Text s.body) service.sessions) where
    pub turn_comes : (session : ℕ) (shared : Values) (inputs : List Input) → AreTexts Constant shared → AreTextInputs Constant inputs →
        C (turn service session shared inputs)
    turn_comes session shared inputs h i =
        exec_comes (body_of service session) (first_number service session) 0 (record { locals = []; shared = shared; units = budget; inputs = inputs })
        (body_strings service.sessions session strings) (record { locals = tt; shared = h; inputs = i })

    pub going_on_comes : (session : ℕ) (a : Answered) → AreTexts Constant a.locals → AreTextRests a.rests → AreTextInputs Constant (a.input ∷ a.later) →
        C (go_on service session a)
    going_on_comes session a l r i =
        behind_comes (body_of service session) (first_number service session) 0 a (body_strings service.sessions session strings) l r i

  -- ---- what a world begins with

  literal_text : (l : Literal) → LiteralString IsUtf8Text l → IsText Constant (literal_value service l)
  literal_text (literals.Int n) h = tt
  literal_text (literals.Bool b) h = tt
  literal_text (literals.Str s) h = IsUtf8-from_is_utf8 s h
  literal_text (literals.Tmpl w) h =
      some_else (IsText Constant) (template_value service w) (document (constant none)) (template_text Constant service c.templates w)
      (empty_document Constant c.empty)

  first_from : (vs : List Shared) → All (λ v. LiteralString IsUtf8Text v.init) vs →
      AreTexts Constant (map (λ (v : Shared). (v.name, literal_value service v.init)) vs)
  first_from [] h = tt
  first_from (v ∷ vs) h = (
    literal_text v.init (All-head (λ (v : Shared). LiteralString IsUtf8Text v.init) v vs h),
    first_from vs (All-tail (λ (v : Shared). LiteralString IsUtf8Text v.init) v vs h),
  )

  pub first_texts : All (λ v. LiteralString IsUtf8Text v.init) service.shared → AreTexts Constant (first_values service)
  first_texts h = first_from service.shared h

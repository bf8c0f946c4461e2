-- Worked examples of the faults of a turn, one for each. In front of each n is 3, s is "ab" and there are 100 units.
use Rattle.std.specs.Prelude.{◌≡◌, ℕ, zero, suc, ◌+◌, pos, negsuc, List, [], ◌∷◌, ◌++◌, codes, Option, Some, None, Result, Ok, Err}
use Rattle.std.specs.List.{repeat}
use Rattle.bw_lang.specs.declared.turn.TurnFault.{TurnFault}
use Rattle.bw_lang.specs.declared.expr.Op.TheVariants as ops
use Rattle.bw_lang.specs.declared.turn.TurnFault.TheVariants as faults
use Rattle.bw_lang.specs.Service.Code.{Code, done, assign, while_loop, show, exit}
use Rattle.bw_lang.specs.Document.Forest.{Forest}
use Rattle.bw_lang.specs.Document.Forest as forest
use Rattle.bw_lang.specs.Service.Term.{int, string, paren, neg, binary}
use Rattle.bw_meaning.specs.Expressions.{Gives, Faults, eval}
use Rattle.bw_meaning.specs.Operators.{document_of, filled}
use Rattle.bw_meaning.specs.Pages.{page_length, exit_fault, show_fault}
use Rattle.bw_meaning.specs.Samples.{n, s, d, nat, list_name, list_items, least, greatest, locals, shared, of_measure, of_session, state, value_of}
use Rattle.bw_meaning.specs.States.{Outcome, Exited, Failed}
use Rattle.bw_meaning.specs.Statements.{exec}
use Rattle.bw_meaning.specs.Values.{Document, Value, Values, list_weight, weight, number, text, document, constant}

-- ---- units and numbers

-- while (n > 0) { n = n - 1; } exit (List); costs 3 * 8 + 4 + 3 units: exit List; costs 2
abbrev pub counts_down : Code
counts_down = while_loop (binary ops.Gt n (nat 0)) (assign (codes "n") (binary ops.Sub n (nat 1)) done) (exit (paren list_name) done)

-- what statements come to with so many units
abbrev pub with_units : ℕ → Code → Outcome
with_units units body = exec (of_session done) body 1 0 (record (state locals) { units = units })

pub record UnitExamples : Type 0 where
  -- the last node takes the last unit
  pub enough : with_units 31 counts_down ≡ Exited (constant list_items) shared 0
  pub spent : with_units 30 counts_down ≡ Failed faults.Spent 0
  -- no unit for a statement, and one for the statement but none for its node
  pub no_unit : with_units 0 (exit list_name done) ≡ Failed faults.Spent 0
  pub one_unit : with_units 1 (exit list_name done) ≡ Failed faults.Spent 0

-- a fault tells what is left: units were taken for what had begun
pub record NumberFaultExamples : Type 0 where
  -- n / 0, n % 0
  pub divided : value_of (binary ops.Div n (nat 0)) ≡ Faults faults.DivideByZero 97
  pub no_remainder : value_of (binary ops.Rem n (nat 0)) ≡ Faults faults.DivideByZero 97
  -- 9223372036854775807 + 1
  pub sum : value_of (binary ops.Add (nat greatest) (nat 1)) ≡ Faults faults.Overflow 97
  pub product : value_of (binary ops.Mul (nat greatest) (nat 2)) ≡ Faults faults.Overflow 97
  -- the least number has no opposite, and its quotient and its remainder by -1 are faults
  pub opposite : value_of (neg (int least)) ≡ Faults faults.Overflow 98
  pub quotient : value_of (binary ops.Div (int least) (int (negsuc 0))) ≡ Faults faults.Overflow 97
  pub remainder : value_of (binary ops.Rem (int least) (int (negsuc 0))) ≡ Faults faults.Overflow 97
  -- n = n / 0; fails the turn
  pub fails : with_units 100 (assign (codes "n") (binary ops.Div n (nat 0)) done) ≡ Failed faults.DivideByZero 96

-- ---- strings and documents

-- so many doublings of one byte
abbrev pub doubled : ℕ → List ℕ
doubled zero = codes "q"
doubled (suc k) = doubled k ++ doubled k

-- <[g]><[g]>, for the gap rows
abbrev pub twice : Document
twice = constant (forest.gap 0 (forest.gap 0 forest.none))

-- so many div elements inside one another, with the gap rows in the innermost
abbrev pub divs : ℕ → Forest
divs zero = forest.gap 0 forest.none
divs (suc k) = forest.element (codes "div") [] (divs k) forest.none

-- goes on with the document that was made, where one was
abbrev pub on_document : Result Value TurnFault → (Document → Result Value TurnFault) → Result Value TurnFault
on_document (Ok v) go = go (document_of v)
on_document (Err f) go = Err f

-- t, and then what was made with itself in its gaps rows, so many times
abbrev pub grown : ℕ → Document → Result Value TurnFault
grown zero t = Ok (document t)
grown (suc k) t = on_document (grown k t) (λ e. filled 0 (document e) e)

-- t, with t in its gaps rows, so many times
abbrev pub plugged_in : ℕ → Document → Result Value TurnFault
plugged_in zero t = Ok (document t)
plugged_in (suc k) t = on_document (plugged_in k t) (λ e. filled 0 (document t) e)

-- the weight of what was made
abbrev pub weight_of : Result Value TurnFault → Option ℕ
weight_of (Ok v) = Some (weight v)
weight_of (Err f) = None

pub record SizeFaultExamples : Type 0 where
  -- 14 doublings make 16,384 bytes, and one byte more or one doubling more is too long
  pub longest : eval (of_session done) ((codes "s", text (doubled 13)) ∷ []) [] (binary ops.Add s s) 100 ≡ Gives (text (doubled 14)) 97
  pub too_long : eval (of_session done) ((codes "s", text (doubled 14)) ∷ []) [] (binary ops.Add s s) 100 ≡ Faults (faults.StringTooLong 32768) 97
  pub one_more : eval (of_session done) ((codes "s", text (doubled 14)) ∷ []) [] (binary ops.Add s (string (codes "q"))) 100 ≡ Faults
      (faults.StringTooLong 16385) 97
  -- a document of two gaps, plugged into itself: weights 192, 640, 3,264 and 55,552, and then it would be too heavy
  pub once : weight_of (grown 1 twice) ≡ Some 640
  pub three_times : weight_of (grown 3 twice) ≡ Some 55552
  pub heavy : grown 4 twice ≡ Err (faults.Heavy 14276928)
  -- one plug less than 4,000 deep is fine
  pub deepest : weight_of (filled 0 (document twice) (of_measure 100 3999 1)) ≡ Some (64 + 100 + 192)
  pub deep : filled 0 (document twice) (of_measure 100 4000 1) ≡ Err (faults.Deep 4001)
  -- 60 elements inside one another, and again 60 in the innermost: 540 after 8 plugs
  pub nested : plugged_in 8 (constant (divs 60)) ≡ Err (faults.Nested 540)
  -- weight is tested before depth, and depth before nest
  pub weight_first : filled 0 (document (of_measure 1048576 4000 500)) (of_measure 192 1 1) ≡ Err (faults.Heavy (64 + 192 + 1048576))
  pub depth_second : filled 0 (document (of_measure 192 4000 500)) (of_measure 192 1 1) ≡ Err (faults.Deep 4001)

-- ---- the end of a turn

-- a document that weighs so much, and a local i besides
abbrev pub held_with : Document → Values
held_with e = (codes "d", document e) ∷ (codes "i", number (pos 11)) ∷ []

pub record PageFaultExamples : Type 0 where
  -- a page of 4,194,304 bytes goes out, and a longer one doesn't, whatever else is too heavy
  pub longest_page : (e : Document) → page_length e ≡ 4194304 → exit_fault e [] ≡ None
  pub long_page : (e : Document) (values : Values) → page_length e ≡ 4227468 → exit_fault e values ≡ Some (faults.PageTooLong 4227468)
  pub long_shown : (e : Document) (values values1 : Values) (around : ℕ) → page_length e ≡ 4227468 →
      show_fault e values around values1 ≡ Some (faults.PageTooLong 4227468)
  -- show d; where d and the shown document weigh 786,944 each, and an int 16
  pub carried : exec (of_session done) (show d [] done) 1 0 (state (held_with (of_measure 786944 12 1))) ≡ Failed (faults.SessionHeavy 1573904) 98
  -- the rests of the foreachs around a show count: 16, and 16 and the bytes of each string
  pub rests : show_fault (of_measure 1048000 1 1) [] (list_weight (codes "abc" ∷ [])) [] ≡ None
  pub heavy_rests : show_fault (of_measure 1048000 1 1) [] (list_weight (doubled 10 ∷ [])) [] ≡ Some (faults.SessionHeavy (1048000 + 16 + 16 + 1024))
  -- exit d; carries nothing on
  pub not_carried : exec (of_session done) (exit d done) 1 0 (state (held_with (of_measure 786944 12 1))) ≡ Exited (of_measure 786944 12 1) shared 98
  -- eleven shared variables of 786,944 each
  pub shared_heavy : exit_fault twice (repeat 11 ((codes "v", document (of_measure 786944 12 1)) ∷ [])) ≡ Some (faults.SharedHeavy 8656384)
  -- what a session carries is tested before what is shared
  pub session_first : show_fault (of_measure 1048576 1 1) [] 1 (repeat 11 ((codes "v", document (of_measure 786944 12 1)) ∷ [])) ≡ Some
      (faults.SessionHeavy 1048577)

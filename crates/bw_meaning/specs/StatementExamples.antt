-- Worked examples of statements. In front of each n is 3, s is "ab", c is a list of "u" and "v", the shared variable k is 5,
-- and there are 100 units.
use Rattle.std.specs.Prelude.{◌≡◌, ℕ, pos, true, false, List, [], ◌∷◌, ◌++◌, codes}
use Rattle.bw_lang.specs.declared.expr.Op.TheVariants as ops
use Rattle.bw_lang.specs.declared.stmt.Kind.TheVariants as kinds
use Rattle.bw_lang.specs.Service.Code.{Code, done, declare, assign, if_then, if_else, while_loop, block, for_each, show, exit}
use Rattle.bw_lang.specs.Service.Term.{truth, name, nothing, binary}
use Rattle.bw_meaning.specs.Samples.{n, s, c, x, nat, list_name, list_items, locals, shared, of_session, state, after, two, sent}
use Rattle.bw_meaning.specs.States.{Input, Outcome, Went, Shown, Exited}
use Rattle.bw_meaning.specs.Statements.{exec}
use Rattle.bw_meaning.specs.Values.{Values, number, text, list, constant}

-- the locals, with these values of n, s and c
abbrev pub with_values : ℕ → List ℕ → List (List ℕ) → Values
with_values k bytes strings = (codes "n", number (pos k)) ∷ (codes "s", text bytes) ∷ (codes "c", list strings) ∷ []

-- the statements came to their end with these locals and so many units
abbrev pub went : Values → ℕ → Outcome
went values units = Went (record (state values) { units = units })

-- what s and c are
abbrev pub ab : List ℕ
ab = codes "ab"

abbrev pub uv : List (List ℕ)
uv = codes "u" ∷ codes "v" ∷ []

-- int m = 1; n = m;
abbrev pub sets_n : Code
sets_n = declare kinds.Int (codes "m") (nat 1) (assign (codes "n") (name (codes "m")) done)

-- what statements come to where one input is there
abbrev pub answered_by : Input → Code → Outcome
answered_by i body = exec (of_session done) body 1 0 (record (state locals) { inputs = i ∷ [] })

-- one unit as each begins, besides those of its expression
pub record StepExamples : Type 0 where
  -- int m = n + 1;
  pub declares : after (declare kinds.Int (codes "m") (binary ops.Add n (nat 1)) done) ≡ went (locals ++ (codes "m", number (pos 4)) ∷ []) 96
  -- n = 7;
  pub assigns : after (assign (codes "n") (nat 7) done) ≡ went (with_values 7 ab uv) 98
  -- k = 7; which is a shared variable
  pub assigns_shared : after (assign (codes "k") (nat 7) done) ≡ Went (record (state locals) { shared = (codes "k", number (pos 7)) ∷ []; units = 98 })
  -- { int m = 1; n = m; } costs nothing itself, and m is gone behind it
  pub leaves_block : after (block sets_n done) ≡ went (with_values 1 ab uv) 96

pub record ChoiceExamples : Type 0 where
  -- if (true) { int m = 1; n = m; }
  pub holds : after (if_then (truth true) sets_n done) ≡ went (with_values 1 ab uv) 94
  -- if (false) { .. }
  pub fails : after (if_then (truth false) sets_n done) ≡ went locals 98
  -- if (true) { n = 8; } else { int m = 1; n = m; }
  pub first : after (if_else (truth true) (assign (codes "n") (nat 8) done) sets_n done) ≡ went (with_values 8 ab uv) 96
  pub second : after (if_else (truth false) (assign (codes "n") (nat 8) done) sets_n done) ≡ went (with_values 1 ab uv) 94

-- one unit as each test begins
pub record LoopExamples : Type 0 where
  -- while (n > 0) { n = n - 1; } makes three turns of 1 + 3 + 4 units, and a last test
  pub counts_down : after (while_loop (binary ops.Gt n (nat 0)) (assign (codes "n") (binary ops.Sub n (nat 1)) done) done) ≡ went (with_values 0 ab uv) 72
  -- foreach (x in c) { s = s + x; } makes two turns of 1 + 4 units and a last test, besides the list's own unit
  pub goes_over : after (for_each (codes "x") c (assign (codes "s") (binary ops.Add s x) done) done) ≡ went (with_values 3 (codes "abuv") uv) 88
  -- foreach (x in c) { c = none; s = s + x; } goes over the list as it was
  pub list_once : after (for_each (codes "x") c (assign (codes "c") nothing (assign (codes "s") (binary ops.Add s x) done)) done) ≡ went
      (with_values 3 (codes "abuv") []) 84

-- a show takes a unit and its expression's, and waits where no input is there
pub record ShowExamples : Type 0 where
  -- show List;
  pub waits : after (show list_name [] done) ≡ Shown 1 locals [] (constant list_items) shared 98
  -- foreach (x in c) { show List; } waits with x in scope, and with what is still to come of the list
  pub in_a_loop : after (for_each (codes "x") c (show list_name [] done) done)
      ≡ Shown 2 (locals ++ (codes "x", text (codes "u")) ∷ []) ((codes "v" ∷ []) ∷ []) (constant list_items) shared 96
  -- show List receive [s=f, c=f]; is answered by f=a&f=b: a string gets the first value, a list all of them. There are new units
  pub receives : answered_by (sent two) (show list_name
      (record { target = codes "s"; field = codes "f" } ∷ record { target = codes "c"; field = codes "f" } ∷ []) done)
      ≡ Went (record { locals = with_values 3 (codes "a") (codes "a" ∷ codes "b" ∷ []); shared = shared; units = 100000; inputs = [] })
  -- the same, answered by a form without the field
  pub receives_none : answered_by (sent [])
      (show list_name (record { target = codes "s"; field = codes "f" } ∷ record { target = codes "c"; field = codes "f" } ∷ []) done)
      ≡ Went (record { locals = with_values 3 [] []; shared = shared; units = 100000; inputs = [] })
  -- show List receive [t=f]; at whose request the shared variable t is "old" and k is 9: both replace those at hand, and
  -- then the field is stored
  pub shared_first :
      answered_by (record { form = two; shared = (codes "t", text (codes "old")) ∷ (codes "k", number (pos 9)) ∷ [] })
      (show list_name (record { target = codes "t"; field = codes "f" } ∷ []) done)
      ≡ Went (record { locals = locals; shared = (codes "t", text (codes "a")) ∷ (codes "k", number (pos 9)) ∷ []; units = 100000; inputs = [] })
  -- exit List; n = 7; ends there
  pub exits : after (exit list_name (assign (codes "n") (nat 7) done)) ≡ Exited (constant list_items) shared 98

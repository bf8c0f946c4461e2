-- Worked examples of turns: what they show and what they cost.
use Rattle.std.specs.Prelude.{◌≡◌, ℕ, ◌+◌, ◌*◌, pos, List, [], ◌∷◌, codes, Option, Some, None}
use Rattle.bw_lang.specs.declared.expr.Fun.TheVariants as funs
use Rattle.bw_lang.specs.declared.expr.Op.TheVariants as ops
use Rattle.bw_lang.specs.declared.stmt.Kind.TheVariants as kinds
use Rattle.bw_lang.specs.Service.Code.{Code, done, declare, assign, while_loop, for_each, show, exit}
use Rattle.bw_lang.specs.Service.Term.{Term, name, paren, binary, call, plug, nothing, no_more}
use Rattle.bw_meaning.specs.GoOn.{turn, go_on}
use Rattle.bw_meaning.specs.Laws.{answered}
use Rattle.bw_meaning.specs.Samples.{n, c, d, nat, list_name, list_items, row_name, rows, with_n, row_of_x, shared, of_session, two, sent, page}
use Rattle.bw_meaning.specs.States.{Input, Outcome, Shown, Rests, cost}
use Rattle.bw_meaning.specs.Values.{Values, number, text, document, list, constant}

-- what a session's turn over these inputs shows, where k is 5 at first
abbrev pub turn_of : Code → List Input → Outcome
turn_of body inputs = turn (of_session body) 0 shared inputs

-- the rests that a waiting session keeps
abbrev pub rests_of : Outcome → Rests
rests_of (Shown at locals rests shown sh units) = rests
rests_of o = []

-- the number of the show at which it waits
abbrev pub shown_at : Outcome → Option ℕ
shown_at (Shown at locals rests shown sh units) = Some at
shown_at o = None

-- ---- a list of what was picked

-- strings c = none; show List receive [c=f]; html d = List; foreach (x in c) { body } exit d;
abbrev pub picks : Code → Code
picks body =
    declare kinds.Strs (codes "c") nothing
    (show list_name (record { target = codes "c"; field = codes "f" } ∷ [])
    (declare kinds.Html (codes "d") list_name
    (for_each (codes "x") c body
    (exit d done))))

-- d = d<[rows=Row<[n=x]];
abbrev pub adds_row : Code
adds_row = assign (codes "d") (plug d (rows row_of_x no_more)) done

-- show Row<[n=x];
abbrev pub shows_row : Code
shows_row = show row_of_x [] done

pub record PickExamples : Type 0 where
  -- the first turn waits at the second statement
  pub waits : shown_at (turn_of (picks adds_row) []) ≡ Some 2
  pub first_cost : cost (turn_of (picks adds_row) []) ≡ 4
  -- two values make two rows: 2 for the declaration, 1 for the list, 7 for each row, 1 for the last test, 2 for the exit
  pub both : page (turn_of (picks adds_row) (sent two ∷ [])) ≡ codes "<ul><li>a</li><li>b</li></ul>"
  pub both_cost : cost (turn_of (picks adds_row) (sent two ∷ [])) ≡ 20
  pub neither : page (turn_of (picks adds_row) (sent [] ∷ [])) ≡ codes "<ul></ul>"
  -- a show in a foreach keeps what is still to come, and goes on with it
  pub one : page (turn_of (picks shows_row) (sent two ∷ [])) ≡ codes "<li>a</li>"
  pub rest : rests_of (turn_of (picks shows_row) (sent two ∷ [])) ≡ (codes "b" ∷ []) ∷ []
  pub other : page (turn_of (picks shows_row) (sent two ∷ sent [] ∷ [])) ≡ codes "<li>b</li>"
  pub last_rest : rests_of (turn_of (picks shows_row) (sent two ∷ sent [] ∷ [])) ≡ [] ∷ []
  pub ends : page (turn_of (picks shows_row) (sent two ∷ sent [] ∷ sent [] ∷ [])) ≡ codes "<ul></ul>"

-- what the picking session holds at the show in its loop
abbrev pub held : Values
held = (codes "c", list (codes "a" ∷ codes "b" ∷ [])) ∷ (codes "d", document (constant list_items)) ∷ (codes "x", text (codes "a")) ∷ []

-- ---- rows, a counter, and what a loop costs

abbrev pub i : Term
i = name (codes "i")

-- html d = List; int i = 0; while (i < 3) { i = i + 1; d = d<[rows=Row<[n=text(i)]]; } exit d;
abbrev pub three_rows : Code
three_rows =
    declare kinds.Html (codes "d") list_name
    (declare kinds.Int (codes "i") (nat 0)
    (while_loop (binary ops.Lt i (nat 3))
    (assign (codes "i") (binary ops.Add i (nat 1))
    (assign (codes "d") (plug d (rows (plug row_name (with_n (call funs.Text i) no_more)) no_more)) done))
    (exit d done)))

abbrev pub k : Term
k = name (codes "k")

-- Row<[n=text(k)]
abbrev pub row_of_k : Term
row_of_k = plug row_name (with_n (call funs.Text k) no_more)

-- k = k + 1; show Row<[n=text(k)]; k = k + 1; exit Row<[n=text(k)];
abbrev pub counts : Code
counts = assign (codes "k") (binary ops.Add k (nat 1)) (show row_of_k [] (assign (codes "k") (binary ops.Add k (nat 1)) (exit row_of_k done)))

-- int n = 10; while (n > 0) { n = n - 1; } exit List;
abbrev pub counts_down : Code
counts_down =
    declare kinds.Int (codes "n") (nat 10)
    (while_loop (binary ops.Gt n (nat 0)) (assign (codes "n") (binary ops.Sub n (nat 1)) done)
    (exit list_name done))

-- show List; and then the same, with a parenthesis more
abbrev pub shows_and_counts_down : Code
shows_and_counts_down =
    show list_name []
    (declare kinds.Int (codes "n") (nat 10)
    (while_loop (binary ops.Gt n (nat 0)) (assign (codes "n") (binary ops.Sub n (nat 1)) done)
    (exit (paren list_name) done)))

pub record LoopTurnExamples : Type 0 where
  pub numbered_rows : page (turn_of three_rows []) ≡ codes "<ul><li>1</li><li>2</li><li>3</li></ul>"
  -- k is 5 at first, and at the second request somebody else has made it 8
  pub counted : page (turn_of counts []) ≡ codes "<li>6</li>"
  pub counted_again : page (turn_of counts (record { form = []; shared = (codes "k", number (pos 8)) ∷ [] } ∷ [])) ≡ codes "<li>9</li>"
  -- 2 for the declaration, 8 for each turn of the loop, 4 for its last test and 2 for the exit
  pub loop_cost : cost (turn_of counts_down []) ≡ 2 + 8 * 10 + 4 + 2
  -- each input gives new units, and the cost is that of the last turn alone
  pub cost_again : cost (turn_of shows_and_counts_down (sent [] ∷ [])) ≡ 2 + 8 * 10 + 4 + 3
  -- going on from the show alone
  pub goes_on : page (go_on (of_session (picks shows_row)) 0 (answered 5 held ((codes "b" ∷ []) ∷ []) (sent []))) ≡ codes "<li>b</li>"
  pub goes_on_cost : cost (go_on (of_session (picks shows_row)) 0 (answered 5 held ((codes "b" ∷ []) ∷ []) (sent []))) ≡ 5

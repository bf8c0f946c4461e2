-- Worked examples: which plugs turns make, and facts that accept a service.
use Rattle.std.specs.Prelude.{◌≡◌, ℕ, Bool, true, false, ◌&&◌, not, ◌==◌, if◌then◌else◌, List, [], ◌∷◌, codes, map}
use Rattle.bw_lang.specs.Service.Code.{Code, done, exit}
use Rattle.bw_lang.specs.Document.Documents.{count}
use Rattle.bw_lang.specs.Table.Names.{same}
use Rattle.bw_lang.specs.Service.Term.{name, string, plug, no_more, filling}
use Rattle.bw_lang.specs.declared.service.Service.{Service}
use Rattle.bw_meaning.specs.Samples.{of_session, shared, two, sent}
use Rattle.bw_meaning.specs.TurnExamples.{picks, adds_row, shows_row}
use Rattle.bw_sum.specs.Graph.{Graph, constant}
use Rattle.bw_sum.specs.Opening.{opens}
use Rattle.bw_sum.specs.Templates.{template_items}
use Rattle.bw_cover.specs.Abstracts.{Abstract, Nothing, Html, any, is_gap}
use Rattle.bw_cover.specs.Facts.{Facts}
use Rattle.bw_cover.specs.Plugs.{Plug, turn_plugs}
use Rattle.bw_cover.specs.Sound.{Accepts}
use Rattle.bw_cover.specs.Spots.{Spot, statement, meeting, out}

-- strings c = none; show List receive [c=f]; html d = List; foreach (x in c) { d = d<[rows=Row<[n=x]]; } exit d;
abbrev pub rows_service : Service
rows_service = of_session (picks adds_row)

-- the numbers of the gaps that are filled, and how often each was open
abbrev pub filled : List Plug → List (ℕ × ℕ)
filled made = map (λ (p : Plug). (p.gap, count p.gap p.base)) made

-- exit L<[n="a"]; where L has no gap of that name
abbrev pub misses : Code
misses = exit (plug (name (codes "List")) (filling (codes "n") (string (codes "a")) no_more)) done

-- exit L<[r=R, r=R]; fills the gap of L, and then the one that R brings
abbrev pub fills_twice : Code
fills_twice = exit (plug (name (codes "List")) (filling (codes "rows") (name (codes "Row")) (filling (codes "rows") (name (codes "Row")) no_more))) done

-- the gaps that are filled, each with how often it was open
pub record PlugExamples : Type 0 where
  -- nothing is plugged before the first answer
  pub none : filled (turn_plugs rows_service 0 shared []) ≡ []
  -- two values: each row's n, and then the list's r, which the row opens again
  pub rows : filled (turn_plugs rows_service 0 shared (sent two ∷ [])) ≡ (1, 1) ∷ (0, 1) ∷ (1, 1) ∷ (0, 1) ∷ []
  -- a show in a foreach plugs one row for each answer
  pub shows : filled (turn_plugs (of_session (picks shows_row)) 0 shared (sent two ∷ sent [] ∷ [])) ≡ (1, 1) ∷ (1, 1) ∷ []
  pub misses_one : filled (turn_plugs (of_session misses) 0 shared []) ≡ (1, 0) ∷ []
  pub twice : filled (turn_plugs (of_session fills_twice) 0 shared []) ≡ (0, 1) ∷ (0, 1) ∷ []

-- ---- facts about the service of rows

-- the list with rows, one behind the other; it lacks n
abbrev pub rows_known : Graph
rows_known = record {
  root = λ n. n == 0;
  edge = λ n g m. (0 == g) && (m == 1);
  label = λ n g s. true;
  track = λ g n. 0 == g;
  lack = λ g. is_gap rows_service g && not (opens g (template_items rows_service 0));
}

-- what is known of d, of x and of c, wherever they are in scope
abbrev pub cell : List ℕ → Abstract
cell w = if same w (codes "d") then Html rows_known else if same w (codes "x") then any else Nothing

-- the locals in scope at the statement of each number
abbrev pub scope_at : ℕ → List (List ℕ)
scope_at n =
    if n == 1 then [] else if n == 2 then codes "c" ∷ [] else if n == 3 then codes "c" ∷ []
    else if n == 5 then codes "c" ∷ codes "d" ∷ codes "x" ∷ [] else codes "c" ∷ codes "d" ∷ []

-- and at each point
abbrev pub scope_of : Spot → List (List ℕ)
scope_of (statement n) = scope_at n
scope_of (meeting n) = []
scope_of out = []

-- the exit is the sixth statement
abbrev pub is_last : Spot → Bool
is_last (statement n) = n == 6
is_last (meeting n) = false
is_last out = false

-- the list is shown at first, and the list with its rows at last
abbrev pub shown_of : Spot → Graph
shown_of (statement n) = if n == 6 then rows_known else constant (template_items rows_service) (is_gap rows_service) 0
shown_of (meeting n) = rows_known
shown_of out = rows_known

-- all that is said of the service
abbrev pub rows_facts : Facts Spot
rows_facts = record { scope = scope_of; local = λ q w. cell w; shared = λ w. Nothing; shown = shown_of; is_exit = is_last; place = λ n. statement n }

-- the laws' premises are met by a service with a show that receives, and a foreach that plugs
abbrev pub RowsAreAccepted : Type 0
RowsAreAccepted = Accepts rows_service rows_facts 0

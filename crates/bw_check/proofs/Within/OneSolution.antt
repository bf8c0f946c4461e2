-- A service has one least solution: each of its rows is that of some round.
use Rattle.std.proofs.Common.{◌≡◌, ℕ, suc, ◌^◌, ◌<◌, true, List, [], ◌∷◌, length, refl, sym, ap, ◌∙◌, subst, arith}
use Rattle.std.specs.Prelude.{slice_index_or}
use Rattle.bw_lang.specs.declared.service.Service.{Service}
use Rattle.bw_solve.specs.System.{family, rounds, EachFits}
use Rattle.bw_solve.proofs.Least.{rounds_fit}
use Rattle.bw_strings.specs.Literals.{literals_of}
use Rattle.bw_types.specs.declared.typed.Typed.{Typed}
use Rattle.bw_analyse.specs.declared.abstracts.Abstract.{Abstract}
use Rattle.bw_analyse.specs.Lawful.AbstractLaws.{abstracts_lattice}
use Rattle.bw_analyse.specs.Abstracts.{is_below}
use Rattle.bw_analyse.specs.Facts.{pages_of}
use Rattle.bw_analyse.specs.Fits.{FitsCell}
use Rattle.bw_flow.specs.Layout.{flow_of}
use Rattle.bw_analyse.specs.Least.{rows, IsLeastSolution}
use Rattle.bw_analyse.specs.Rounds.{empty, round}
use Rattle.bw_analyse.specs.Lawful.RowLaws.{rows_lattice}
use Rattle.bw_analyse.specs.Rows.{each_below}
use Rattle.bw_analyse.specs.Lawful.TypedSystem.{typed_system}
use Rattle.bw_check.proofs.Within.Equal.{row_equal}
use Rattle.bw_check.specs.Within.Laws.{FactsAreOne}

-- lists of one length with the same elements are equal
list_equal : {X : Type 0} (xs ys : List X) (d : ℕ → X) → length xs ≡ length ys
    → ((i : ℕ) → i < length xs → slice_index_or xs i (d i) ≡ slice_index_or ys i (d i)) → xs ≡ ys
list_equal [] [] d l h = refl
list_equal [] (y ∷ ys) d l h = absurd (omega arith)
list_equal (x ∷ xs) [] d l h = absurd (omega arith)
list_equal (x ∷ xs) (y ∷ ys) d l h =
    let first : x ≡ y = h 0 (omega arith) in
    let rest = list_equal xs ys (λ i. d (suc i)) (omega arith) (λ i b. h (suc i) (omega arith)) in
    λ i. first i ∷ rest i

-- the rows after some rounds
abbrev pub rows_after : Service → ℕ → ℕ → List Abstract
rows_after service = rounds (empty service (flow_of service)) (round service (flow_of service))

-- the row of each cell is that after so many rounds
abbrev pub IsRound : Service → (ℕ → List Abstract) → ℕ → Type 0
IsRound service f n = (cell : ℕ) → cell < rows service → f cell ≡ rows_after service n cell

module _ (t : Typed) (few : length (literals_of t.service) < 2 ^ 32) where
  abbrev Fitting : (ℕ → List Abstract) → Type 0
  Fitting f = EachFits (rows t.service) (FitsCell t.service) f

  rows_equal : (f g : ℕ → List Abstract) → Fitting f → Fitting g → (cell : ℕ) → cell < rows t.service → each_below is_below (f cell) (g cell) ≡ true
      → each_below is_below (g cell) (f cell) ≡ true → f cell ≡ g cell
  rows_equal f g p q cell l = row_equal (f cell) (g cell) ((typed_system t few).fits_alike cell (f cell) (g cell) l (p cell l) (q cell l))

  pub is_round : (f : ℕ → List Abstract) → Fitting f → IsLeastSolution t.service f → (n : ℕ) × IsRound t.service f n
  is_round f fits least =
      let n = least.reached.0 in (
        n,
        λ cell l. rows_equal f (rows_after t.service n) fits (rounds_fit (rows_lattice abstracts_lattice) (typed_system t few) n) cell l
            (least.reached.1 cell l) (least.above n cell l),
      )

  one_below : (f g : ℕ → List Abstract) → Fitting f → IsLeastSolution t.service f → IsLeastSolution t.service g → (cell : ℕ) → cell < rows t.service
      → each_below is_below (f cell) (g cell) ≡ true
  one_below f g fits p q cell l =
      let r = is_round f fits p in subst (λ row. each_below is_below row (g cell) ≡ true) (sym (r.1 cell l)) (q.above r.0 cell l)

  one_solution : (f g : ℕ → List Abstract) → Fitting f → Fitting g → IsLeastSolution t.service f → IsLeastSolution t.service g → (cell : ℕ)
      → cell < rows t.service → f cell ≡ g cell
  one_solution f g fits fits2 p q cell l = rows_equal f g fits fits2 cell l (one_below f g fits p q cell l) (one_below g f fits2 q p cell l)

pub facts_are_one : (t : Typed) → FactsAreOne t.service
facts_are_one t f g p q =
    let a = p.solution in
    let b = q.solution in
    let same = list_equal f.rows g.rows (empty t.service (flow_of t.service)) (a.cells ∙ sym b.cells) (λ cell l.
    one_solution t p.few (family (empty t.service (flow_of t.service)) f.rows) (family (empty t.service (flow_of t.service)) g.rows) a.fits b.fits
    a.least b.least cell (subst (λ n. cell < n) a.cells l)) in
    (same, p.pages ∙ ap (λ (values : List (List Abstract)). pages_of t.service (λ c. slice_index_or values c [])) same ∙ sym q.pages)

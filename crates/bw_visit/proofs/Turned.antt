-- What a scripted user does next.
use Rattle.std.proofs.Common.{◌≡◌, inl, inr, ℕ, true, List, [], ◌∷◌, ◌++◌, length, sym, ap, ◌∙◌, subst, arith}
use Rattle.std.specs.Prelude.{◌==◌, drop}
use Rattle.std.proofs.lemmas.Bool.Decides.{nat_tests}
use Rattle.std.proofs.lemmas.List.{nil_from_length, length-append}
use Rattle.bw_http.specs.Paths.{HasNo, IsCutAt}
use Rattle.bw_visit.specs.Scripts.{AreLines}
use Rattle.bw_visit.specs.Turns.{ByLine, IsAnswered, IsNext, Keeps, Shrinks}
use Rattle.bw_visit.specs.Visits.{Next, Does, by_line}
use Rattle.bw_visit.specs.declared.turns.After.{After}
use Rattle.bw_visit.specs.declared.turns.After.TheVariants as after

done : (body lines line later : List ℕ) (next : Next) → IsCutAt 10 lines line later → ByLine body line later next → Does body lines next
done body lines line later next cut h = subst (Does body lines) (sym h.is) (by_line line later cut h.result h.fills h.enough)

pub next_by : (body lines line later message : List ℕ) (a : After) → IsCutAt 10 lines line later → IsAnswered body line later message a
    → IsNext body lines message a
next_by body lines line later message after.Over cut h = done body lines line later _ cut h
next_by body lines line later message (after.Sends rest) cut h = done body lines line later _ cut h
next_by body lines line later message (after.Unknown name) cut h = done body lines line later _ cut h
next_by body lines line later message after.Memory cut h = tt

pub empty_is : (xs : List ℕ) → true ≡ (length xs == 0) → xs ≡ []
empty_is xs e = nil_from_length xs (grind (arith, nat_tests))

-- ---- lines

-- lines that have no end are none
pub no_line_is_none : (lines : List ℕ) → HasNo 10 lines → AreLines lines → lines ≡ []
no_line_is_none lines none (inl e) = e
no_line_is_none lines none (inr e) = absurd (none e.0 [] e.1)

later_ended : (line later front : List ℕ) → line ++ 10 ∷ later ≡ front ++ 10 ∷ [] → AreLines later
later_ended [] later [] e = inl (ap (drop 1) e)
later_ended [] later (c ∷ front) e = inr (front, ap (drop 1) e)
later_ended (b ∷ line) later [] e = absurd (omega (arith, ap length e, length-append line (10 ∷ later)))
later_ended (b ∷ line) later (c ∷ front) e = later_ended line later front (ap (drop 1) e)

-- what follows a line are lines
pub later_are_lines : (lines line later : List ℕ) → IsCutAt 10 lines line later → AreLines lines → AreLines later
later_are_lines lines line later cut (inl e) = absurd (omega (arith, ap length cut.0, ap length e, length-append line (10 ∷ later)))
later_are_lines lines line later cut (inr e) = later_ended line later e.0 (sym cut.0 ∙ e.1)

pub shrinks_by : (lines line later message : List ℕ) (a : After) → IsCutAt 10 lines line later → AreLines lines → Keeps later message a
    → Shrinks lines message a
shrinks_by lines line later message after.Over cut are h = tt
shrinks_by lines line later message (after.Sends rest) cut are h = (
  omega (arith, ap length h.0, ap length cut.0, length-append line (10 ∷ later)),
  subst AreLines (sym h.0) (later_are_lines lines line later cut are),
  h.1,
)
shrinks_by lines line later message (after.Unknown name) cut are h = tt
shrinks_by lines line later message after.Memory cut are h = tt

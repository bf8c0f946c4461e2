-- What is kept of links grows by a piece, or by links of which nothing is kept.
use Rattle.std.proofs.Common.{◌≡◌, ℕ, List, [], ◌∷◌, ◌++◌, length, refl, sym, ap, ◌∙◌, subst, arith, append_assoc, append-nil, length-append}
use Rattle.std.proofs.lemmas.List.{map-append}
use Rattle.bw_journal.specs.Layout.{Entry, entries_bytes, entry_bytes, last_sum, sum_after}
use Rattle.bw_journal.proofs.Readings.{long_entry, sum_then}
use Rattle.bw_out.specs.Doors.{Returned}
use Rattle.bw_stable.specs.Deeds.{Deed}
use Rattle.bw_keeping.specs.Answered.{Exchange, backs_of, entries_of}
use Rattle.bw_keeping.specs.Kept.{AreKept, IsPiece}
use Rattle.bw_keeping.proofs.Lists.{none_then, entries_then, after_none}

-- entries have bytes
pub no_bytes : (sum : ℕ) (es : List Entry) → entries_bytes sum es ≡ [] → es ≡ []
no_bytes sum [] none = refl
no_bytes sum (e ∷ es) none =
    let some = long_entry sum e in
    let size = length-append (entry_bytes sum e) (entries_bytes (sum_after sum e) es) in
    let zero : length (entry_bytes sum e ++ entries_bytes (sum_after sum e) es) ≡ 0 = ap length none in
    absurd (omega (arith, some, size, zero))

pub backs_then : (xs ys : List Exchange) → backs_of (xs ++ ys) ≡ backs_of xs ++ backs_of ys
backs_then xs ys = map-append (λ x. x.back) xs ys

-- more links behind the last ones
pub all_later : (xs quiet group later ys : List Exchange) → xs ≡ quiet ++ (group ++ later) → xs ++ ys ≡ quiet ++ (group ++ (later ++ ys))
all_later xs quiet group later ys all =
    ap (λ (l : List Exchange). l ++ ys) all ∙ append_assoc quiet (group ++ later) ys
    ∙ ap (λ (l : List Exchange). quiet ++ l) (append_assoc group later ys)

-- links of which nothing is kept may be given back behind
pub quiet_more : (sum : ℕ) (given : List Returned) (xs ys : List Exchange) (deeds : List Deed) → AreKept sum given xs deeds → entries_of ys ≡ []
    → AreKept sum given (xs ++ ys) deeds
quiet_more sum given xs ys [] are none = none_then xs ys none are
quiet_more sum given xs ys (deed ∷ deeds) (quiet, group, later, all, first, piece, more) none = (
  quiet,
  group,
  later ++ ys,
  all_later xs quiet group later ys all,
  first,
  piece,
  quiet_more (last_sum sum (entries_of group)) (given ++ backs_of (quiet ++ group)) later ys deeds more none,
)

-- what is kept of all
pub entries_later : (xs quiet group later : List Exchange) → xs ≡ quiet ++ (group ++ later) → entries_of quiet ≡ []
    → entries_of xs ≡ entries_of group ++ entries_of later
entries_later xs quiet group later all none =
    ap (λ (l : List Exchange). entries_of l) all ∙ after_none quiet (group ++ later) none ∙ entries_then group later

-- the check behind the last ones
pub sum_later : (sum : ℕ) (xs quiet group later : List Exchange) → xs ≡ quiet ++ (group ++ later) → entries_of quiet ≡ []
    → last_sum sum (entries_of xs) ≡ last_sum (last_sum sum (entries_of group)) (entries_of later)
sum_later sum xs quiet group later all none =
    ap (λ (es : List Entry). last_sum sum es) (entries_later xs quiet group later all none)
    ∙ sum_then sum (entries_of group) (entries_of later)

-- what is told of all
pub given_later : (given : List Returned) (xs quiet group later : List Exchange) → xs ≡ quiet ++ (group ++ later)
    → given ++ backs_of xs ≡ (given ++ backs_of (quiet ++ group)) ++ backs_of later
given_later given xs quiet group later all =
    ap (λ (l : List Exchange). given ++ backs_of l) (all ∙ sym (append_assoc quiet group later))
    ∙ ap (λ (bs : List Returned). given ++ bs) (backs_then (quiet ++ group) later)
    ∙ sym (append_assoc given (backs_of (quiet ++ group)) (backs_of later))

-- a piece more
pub piece_more : (sum : ℕ) (given : List Returned) (xs ys : List Exchange) (deeds : List Deed) (deed : Deed) → AreKept sum given xs deeds
    → IsPiece deed (entries_bytes (last_sum sum (entries_of xs)) (entries_of ys)) (given ++ backs_of xs)
    → AreKept sum given (xs ++ ys) (deeds ++ deed ∷ [])
piece_more sum given xs ys [] deed are piece = (
  xs,
  ys,
  [],
  ap (λ (l : List Exchange). xs ++ l) (sym (append-nil ys)),
  are,
  subst (λ (es : List Entry). IsPiece deed (entries_bytes (last_sum sum es) (entries_of ys)) (given ++ backs_of xs)) are piece,
  refl,
)
piece_more sum given xs ys (first ∷ deeds) deed (quiet, group, later, all, none, old, more) piece =
    let after = last_sum sum (entries_of group) in
    let back = given ++ backs_of (quiet ++ group) in
    let summed = subst (λ (n : ℕ). IsPiece deed (entries_bytes n (entries_of ys)) (given ++ backs_of xs)) (sum_later sum xs quiet group later all none) piece in
    let told = subst (λ (bs : List Returned). IsPiece deed (entries_bytes (last_sum after (entries_of later)) (entries_of ys)) bs)
    (given_later given xs quiet group later all) summed in (
      quiet,
      group,
      later ++ ys,
      all_later xs quiet group later ys all,
      none,
      old,
      piece_more after back later ys deeds deed more told,
    )

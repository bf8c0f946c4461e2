-- What a crash leaves of a journal, and how its service goes on.
use Rattle.std.proofs.Common.{◌≡◌, ℕ, List, [], ◌∷◌, ◌++◌, Option, refl, sym, ap, ◌∙◌, subst, append_assoc}
use Rattle.std.proofs.lemmas.List.{append-nil}
use Rattle.std.specs.List.{AllByRecursion}
use Rattle.bw_journal.specs.Journals.{IsJournal}
use Rattle.bw_journal.specs.Layout.{Entry, Fits, entries_bytes, last_sum}
use Rattle.bw_journal.specs.Starts.{Start, head_at, sum_at}
use Rattle.bw_journal.proofs.Readings.{bytes_then, cuts_are_read, fits_then, sum_then}
use Rattle.bw_out.specs.Doors.{Returned}
use Rattle.bw_stable.specs.Deeds.{Deed, Folder, cut, kept, moved, alone, after_deeds, MayLeave, MayStop}
use Rattle.bw_bringing.specs.Bringing.{Brings}
use Rattle.bw_survival.specs.Restarts.{HasKept, IsInFlight, Keeps, RestartsGoOn, file_of, joined}
use Rattle.bw_bringing.proofs.Bringing.{between}

-- ---- groups

pub joined_then : (first more : List (List Entry)) → joined (first ++ more) ≡ joined first ++ joined more
joined_then [] more = refl
joined_then (group ∷ first) more = ap (λ (l : List Entry). group ++ l) (joined_then first more) ∙ sym (append_assoc group (joined first) (joined more))

-- the groups of the first deeds, and those of the others
pub record Parted (sum : ℕ) (done undone : List Deed) (groups : List (List Entry)) : Type 0 where
  pub whole : List (List Entry)
  pub rest : List (List Entry)
  pub all : groups ≡ whole ++ rest
  pub first : Keeps sum done whole
  pub second : Keeps (last_sum sum (joined whole)) undone rest

parted : (sum : ℕ) (done undone : List Deed) (groups : List (List Entry)) → Keeps sum (done ++ undone) groups → Parted sum done undone groups
parted sum [] undone groups k = record { whole = []; rest = groups; all = refl; first = refl; second = k }
parted sum (cut len ∷ done) undone groups k = absurd k
parted sum (moved move ∷ done) undone groups k = absurd k
parted sum (kept bytes returned held ∷ done) undone [] k = absurd k
parted sum (kept bytes returned held ∷ done) undone (group ∷ groups) k =
    let p = parted (last_sum sum group) done undone groups k.1 in
    record {
      whole = group ∷ p.whole;
      rest = p.rest;
      all = ap (λ (l : List (List Entry)). group ∷ l) p.all;
      first = (k.0, p.first);
      second = subst (λ (s : ℕ). Keeps s undone p.rest) (sym (sum_then sum group (joined p.whole))) p.second;
    }

-- a group is to be kept
next_is : (sum : ℕ) (bytes : List ℕ) (returned : Option (List Returned)) (held : Option (List ℕ)) (undone : List Deed) (rest : List (List Entry))
    → Keeps sum (kept bytes returned held ∷ undone) rest
    → (next : List Entry) × (later : List (List Entry)) × (rest ≡ next ∷ later) × (bytes ≡ entries_bytes sum next)
next_is sum bytes returned held undone [] k = absurd k
next_is sum bytes returned held undone (next ∷ later) k = (next, later, refl, k.0)

-- what the file is behind these deeds
file_then : (start : Start) (before more : List Entry)
    → file_of start (before ++ more) ≡ file_of start before ++ entries_bytes (last_sum (sum_at start) before) more
file_then start before more =
    ap (λ (l : List ℕ). head_at start ++ l) (bytes_then (sum_at start) before more)
    ∙ sym (append_assoc (head_at start) (entries_bytes (sum_at start) before) (entries_bytes (last_sum (sum_at start) before) more))

pub file_after : (start : Start) (before : List Entry) (done : List Deed) (whole : List (List Entry)) → Keeps (last_sum (sum_at start) before) done whole
    → after_deeds done (alone (file_of start before)) ≡ alone (file_of start (before ++ joined whole))
file_after start before [] whole k =
    ap (λ (l : List Entry). alone (file_of start l)) (sym (append-nil before))
    ∙ ap (λ (g : List (List Entry)). alone (file_of start (before ++ joined g))) (sym k)
file_after start before (cut len ∷ done) whole k = absurd k
file_after start before (moved move ∷ done) whole k = absurd k
file_after start before (kept bytes returned held ∷ done) [] k = absurd k
file_after start before (kept bytes returned held ∷ done) (group ∷ whole) k =
    let there : file_of start before ++ bytes ≡ file_of start (before ++ group) =
    ap (λ (l : List ℕ). file_of start before ++ l) k.0 ∙ sym (file_then start before group) in
    let next : Keeps (last_sum (sum_at start) (before ++ group)) done whole =
    subst (λ (s : ℕ). Keeps s done whole) (sym (sum_then (sum_at start) before group)) k.1 in
    ap (λ (l : List ℕ). after_deeds done (alone l)) there ∙ file_after start (before ++ group) done whole next
    ∙ ap (λ (l : List Entry). alone (file_of start l)) (append_assoc before group (joined whole))

-- ---- entries that fit

pub record BothFit (a b : List Entry) : Type 0 where
  pub first : AllByRecursion Fits a
  pub second : AllByRecursion Fits b

both_fit : (a b : List Entry) → AllByRecursion Fits (a ++ b) → BothFit a b
both_fit [] b f = record { first = tt; second = f }
both_fit (e ∷ a) b f = let r = both_fit a b f.1 in record { first = (f.0, r.first); second = r.second }

-- ---- a crash

-- a first part of nothing is nothing
none_first : (a b : List Entry) → [] ≡ a ++ b → a ≡ []
none_first [] b e = refl
none_first (x ∷ a) b e = absurd cc

-- behind the head, entries and a first part of more of them are a journal
head_first : (start : Start) (before : List Entry) (front : List ℕ)
    → file_of start before ++ front ≡ head_at start ++ (entries_bytes (sum_at start) before ++ front)
head_first start before front = append_assoc (head_at start) (entries_bytes (sum_at start) before) front

-- no entry of a group is in flight
pub none_in_flight : (rest : List (List Entry)) → IsInFlight [] rest
none_in_flight [] = refl
none_in_flight (next ∷ later) = (next, refl)

module _ (start : Start) (before : List Entry) (groups : List (List Entry)) (fits : AllByRecursion Fits (before ++ joined groups)) (done undone : List Deed)
    (p : Parted (last_sum (sum_at start) before) done undone groups) where
  abbrev passed : List Entry
  passed = before ++ joined p.whole

  all : joined groups ≡ joined p.whole ++ joined p.rest
  all = ap joined p.all ∙ joined_then p.whole p.rest

  each : BothFit before (joined groups)
  each = both_fit before (joined groups) fits

  parts_fit : BothFit (joined p.whole) (joined p.rest)
  parts_fit = both_fit (joined p.whole) (joined p.rest) (subst (AllByRecursion Fits) all each.second)

  passed_fit : AllByRecursion Fits passed
  passed_fit = fits_then before (joined p.whole) each.first parts_fit.first

  there : after_deeds done (alone (file_of start before)) ≡ alone (file_of start passed)
  there = file_after start before done p.whole p.first

  -- these first entries of what was in flight are there, and those are lost
  has_kept : (left front : List ℕ) (first lost : List Entry) (tail : List ℕ) → left ≡ file_of start passed ++ front → IsInFlight first p.rest
      → joined p.rest ≡ first ++ lost → IsJournal (sum_at start) (entries_bytes (sum_at start) passed ++ front) (passed ++ first) tail
      → HasKept start before groups done left
  has_kept left front first lost tail is flight rest_is journal = record {
    whole = p.whole;
    rest = p.rest;
    first = first;
    others = lost;
    groups_are = p.all;
    done_is = p.first;
    in_flight = flight;
    all = all ∙ ap (λ (l : List Entry). joined p.whole ++ l) rest_is ∙ sym (append_assoc (joined p.whole) first lost);
    behind = entries_bytes (sum_at start) passed ++ front;
    parts = is ∙ head_first start passed front;
    tail = tail;
    journal = subst (λ (l : List Entry). IsJournal (sum_at start) (entries_bytes (sum_at start) passed ++ front) l tail)
        (append_assoc before (joined p.whole) first) journal;
  }

  at_rest : (left : List ℕ) → left ≡ file_of start passed → HasKept start before groups done left
  at_rest left is =
      let c = cuts_are_read (sum_at start) passed [] [] [] passed_fit tt refl in
      let none : c.kept ≡ [] = none_first c.kept c.lost c.all in
      has_kept left [] [] (joined p.rest) c.tail (is ∙ sym (append-nil (file_of start passed))) (none_in_flight p.rest) refl
      (subst (λ (l : List Entry). IsJournal (sum_at start) (entries_bytes (sum_at start) passed ++ []) (passed ++ l) c.tail) none c.journal)

  in_midst : (left front rest : List ℕ) (next : List Entry) (later : List (List Entry)) → p.rest ≡ next ∷ later
      → front ++ rest ≡ entries_bytes (last_sum (last_sum (sum_at start) before) (joined p.whole)) next
      → left ≡ file_of start passed ++ front → HasKept start before groups done left
  in_midst left front rest next later rest_is bytes is =
      let more : joined p.rest ≡ next ++ joined later = ap joined rest_is in
      let next_fits = (both_fit next (joined later) (subst (AllByRecursion Fits) more parts_fit.second)).first in
      let bytes_are : front ++ rest ≡ entries_bytes (last_sum (sum_at start) passed) next =
      bytes ∙ ap (λ (k : ℕ). entries_bytes k next) (sym (sum_then (sum_at start) before (joined p.whole))) in
      let c = cuts_are_read (sum_at start) passed next front rest passed_fit next_fits bytes_are in
      has_kept left front c.kept (c.lost ++ joined later) c.tail is
      (subst (IsInFlight c.kept) (sym rest_is) (c.lost, c.all))
      (more ∙ ap (λ (l : List Entry). l ++ joined later) c.all ∙ append_assoc c.kept c.lost (joined later)) c.journal

-- whatever is left, by what was in flight
by_stop : (start : Start) (before : List Entry) (groups : List (List Entry)) (done undone : List Deed) (left : List ℕ)
    → AllByRecursion Fits (before ++ joined groups) → (p : Parted (last_sum (sum_at start) before) done undone groups)
    → MayStop undone (alone (file_of start (before ++ joined p.whole))) left → HasKept start before groups done left
by_stop start before groups done [] left fits p stop = at_rest start before groups fits done [] p left stop
by_stop start before groups done (cut len ∷ undone) left fits p stop = absurd p.second
by_stop start before groups done (moved move ∷ undone) left fits p stop = absurd p.second
by_stop start before groups done (kept bytes returned held ∷ undone) left fits p stop =
    let n = next_is (last_sum (last_sum (sum_at start) before) (joined p.whole)) bytes returned held undone p.rest p.second in
    in_midst start before groups fits done (kept bytes returned held ∷ undone) p left stop.0 stop.1 n.0 n.1 n.2 (stop.2 ∙ n.3) stop.3

pub has_kept_some : (start : Start) (before : List Entry) (groups : List (List Entry)) (deeds : List Deed) (left : List ℕ)
    → AllByRecursion Fits (before ++ joined groups) → Keeps (last_sum (sum_at start) before) deeds groups → (may : MayLeave deeds (file_of start before) left)
    → HasKept start before groups may.done left
has_kept_some start before groups deeds left fits keeps may =
    let sum = last_sum (sum_at start) before in
    let kept_all = subst (λ (d : List Deed). Keeps sum d groups) (sym may.all) keeps in
    let p = parted sum may.done may.undone groups kept_all in
    by_stop start before groups may.done may.undone left fits p
    (subst (λ (f : Folder). MayStop may.undone f left) (file_after start before may.done p.whole p.first) may.stops)

pub restarts_go_on : RestartsGoOn
restarts_go_on formats service origin to start before groups deeds left fits brings keeps may =
    let k = has_kept_some start before groups deeds left fits keeps may in
    let parts : before ++ joined groups ≡ (before ++ (joined k.whole ++ k.first)) ++ k.others =
    ap (λ (l : List Entry). before ++ l) k.all ∙ sym (append_assoc before (joined k.whole ++ k.first) k.others) in
    let b = between formats service origin to (before ++ (joined k.whole ++ k.first)) k.others
    (subst (λ (l : List Entry). Brings formats service origin l to) parts brings) in
    record { kept = k; world = b.mid; brings = b.before; goes_on = b.behind }

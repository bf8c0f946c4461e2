-- Where a journal begins, from the bytes at hand.
use Rattle.std.proofs.Common.{◌≡◌, ◌≤◌, ◌<◌, ◌⊎◌, ◌+◌, ◌-◌, ◌^◌, ℕ, List, [], ◌++◌, length, drop, Option, Some, None, true, refl, sym, ap, ◌∙◌, subst, inl, inr}
use Rattle.std.proofs.Common.{arith, append_assoc}
use Rattle.std.specs.Int.{w64, from_be_bytes}
use Rattle.std.proofs.lemmas.List.{append-nil, drop_at, length-append}
use Rattle.bw_http.specs.Taken.{IsFilled}
use Rattle.bw_journal.specs.Heads.{HasNone, HasOther, HasVersion, head_of, saved_front}
use Rattle.bw_journal.specs.Reading.{IsCut}
use Rattle.bw_journal.specs.Saved.{BeginsSaved, HasNoSaved, IsSavedSize, front_check, saved_bytes}
use Rattle.bw_journal.specs.Starts as starts
use Rattle.bw_journal.specs.declared.limits.TheConstants.{MAX_SAVED_BYTES}
use Rattle.bw_journal.proofs.Numbers.{eight_from_more}
use Rattle.bw_journal.proofs.SavedWorlds.{length-saved_bytes, none_by_size, number_of_saved}
use Rattle.bw_recall.specs.Recalling.{IsRecalledBehind}
use Rattle.bw_recall.specs.Starting.{HasNoStart, IsSavedFrom, IsSavedIn, IsStarted, RecalledFrom, StartsSaved}
use Rattle.bw_recall.specs.Windows.{Hand, Holds, KnowsEnd, fresh}
use Rattle.bw_recall.specs.declared.starting.Mark.{Mark}
use Rattle.bw_recall.specs.declared.starting.Started.{Started}
use Rattle.bw_recall.specs.declared.starting.Started.TheVariants as started
use Rattle.bw_recall.specs.declared.window.TheConstants.{MAX_TEXT_BYTES}
use Rattle.bw_recall.proofs.Advancing.{IsLeft, at_end, filled_left, knows_end, same_bytes}
use Rattle.bw_recall.proofs.Headed.{AreEnough, cut_is_all, no_start_more, other_more, same_front, version_more}

-- ---- a saved world that is at hand

-- how many bytes were taken
pub taken_size : (sum after : ℕ) (bytes world rest : List ℕ) → BeginsSaved sum bytes world rest after
    → length bytes - length rest ≡ length (saved_bytes sum world)
taken_size sum after bytes world rest b =
    let n : length bytes ≡ length (saved_bytes sum world ++ rest) = ap (λ (x : List ℕ). length x) b.parts in
    omega (arith, n, length-append (saved_bytes sum world) rest)

pub taken_few : (sum after : ℕ) (bytes world rest : List ℕ) → BeginsSaved sum bytes world rest after
    → (length rest ≤ length bytes) × (length bytes - length rest ≤ 16 + MAX_SAVED_BYTES)
taken_few sum after bytes world rest b =
    let n : length bytes ≡ length (saved_bytes sum world ++ rest) = ap (λ (x : List ℕ). length x) b.parts in
    let m = length-append (saved_bytes sum world) rest in
    (omega (arith, n, m), omega (arith, n, m, length-saved_bytes sum world, b.fits))

-- what is left behind it
pub taken_left : (sum after : ℕ) (bytes world rest left : List ℕ) (size : ℕ) → BeginsSaved sum bytes world rest after → size ≡ length bytes - length rest
    → left ≡ drop size bytes → left ≡ rest
taken_left sum after bytes world rest left size b is e =
    e ∙ ap (λ (x : List ℕ). drop size x) b.parts
    ∙ drop_at (saved_bytes sum world) rest size (sym (taken_size sum after bytes world rest b) ∙ sym is)

-- ---- more bytes behind those at hand

saved_more : (sum after : ℕ) (bytes world rest more : List ℕ) → BeginsSaved sum bytes world rest after
    → BeginsSaved sum (bytes ++ more) world (rest ++ more) after
saved_more sum after bytes world rest more b = record {
  fits = b.fits;
  parts = ap (λ (x : List ℕ). x ++ more) b.parts ∙ append_assoc (saved_bytes sum world) rest more;
  sum_is = b.sum_is;
}

-- no saved world is in front of all bytes, where none is in front of as many as it would have
none_more : (sum size : ℕ) (held rest : List ℕ) → HasNoSaved sum held → size ≡ 16 + from_be_bytes w64 (held ++ rest)
    → (rest ≡ []) ⊎ (size ≤ length held) → HasNoSaved sum (held ++ rest)
none_more sum size held rest never is (inl none) world more fits e =
    never world more fits (sym (append-nil held) ∙ ap (λ (x : List ℕ). held ++ x) (sym none) ∙ e)
none_more sum size held rest never is (inr enough) world more fits e =
    let number : from_be_bytes w64 (held ++ rest) ≡ length world = number_of_saved sum (held ++ rest) world more fits e in
    let f = same_front held (saved_bytes sum world) rest more e (omega (arith, enough, is, number, length-saved_bytes sum world)) in
    never world f.0 fits f.1

-- none is there where its length is missing or too great
none_sized : (sum : ℕ) (held rest : List ℕ) → IsSavedSize held None → (rest ≡ []) ⊎ (8 ≤ length held) → HasNoSaved sum (held ++ rest)
none_sized sum held rest size (inl none) =
    let all : held ++ rest ≡ held = ap (λ (x : List ℕ). held ++ x) none ∙ append-nil held in
    subst (HasNoSaved sum) (sym all) (none_by_size sum held size)
none_sized sum held rest (inl few) (inr enough) = absurd (omega (arith, few, enough))
none_sized sum held rest (inr long) (inr enough) =
    none_by_size sum (held ++ rest) (inr (omega (arith, long, eight_from_more held rest enough)))

-- the bytes at hand were looked at, and the source has left these
module _ (start : Mark) (old held : Hand) (left later : Option (List ℕ)) (filled : IsFilled left later old.bytes held.bytes)
    (ends : KnowsEnd old left → KnowsEnd held later) (unread : List ℕ) (is : left ≡ Some unread) (none : old.ended ≡ true → unread ≡ []) where
  l : IsLeft unread filled.0 later
  l = filled_left unread old.bytes held.bytes left later is filled

  over : held.ended ≡ true → l.rest ≡ []
  over e = at_end l.rest later l.left (ends (knows_end old unread left is none) e)

  all : old.bytes ++ unread ≡ held.bytes ++ l.rest
  all = same_bytes old.bytes held.bytes unread filled.0 l.rest filled.2 l.parts

  enough : (need : ℕ) → Holds held need → (l.rest ≡ []) ⊎ (need ≤ length held.bytes)
  enough need (inl ended) = inl (over ended)
  enough need (inr room) = inr room

  -- there is none, by its length
  pub unsized : IsSavedSize held.bytes None → Holds held 8 → IsSavedFrom start (old.bytes ++ unread) held later (started.Damaged start.len)
  unsized size holds = (refl, subst (HasNoSaved start.sum) (sym all) (none_sized start.sum held.bytes l.rest size (enough 8 holds)))

  -- what came of as many bytes as it has
  pub sized : (new : Hand) (size : ℕ) (result : Started) → IsSavedSize old.bytes (Some size) → Holds held size → new.ended ≡ held.ended
      → IsSavedIn start held.bytes new.bytes result → IsSavedFrom start (old.bytes ++ unread) new later result
  sized new size (started.Saved world mark) known holds same r = record {
    rest = l.rest;
    left = l.left;
    ended = λ e. over (sym same ∙ e);
    begins = subst (λ (x : List ℕ). BeginsSaved start.sum x world.items (new.bytes ++ l.rest) mark.sum) (sym all)
        (saved_more start.sum mark.sum held.bytes world.items new.bytes l.rest r.0);
    len_is = r.1;
  }
  sized new size (started.Damaged n) known holds same r =
      let number : size ≡ 16 + from_be_bytes w64 (held.bytes ++ l.rest) =
      known.2 ∙ ap (λ (k : ℕ). 16 + k) (sym (eight_from_more old.bytes unread known.0) ∙ ap (λ (x : List ℕ). from_be_bytes w64 x) all) in (
        r.0,
        subst (HasNoSaved start.sum) (sym all) (none_more start.sum size held.bytes l.rest r.1 number (enough size holds)),
      )
  sized new size started.Memory known holds same r = tt
  sized new size started.New known holds same r = absurd r
  sized new size (started.Empty mark) known holds same r = absurd r
  sized new size (started.Version n) known holds same r = absurd r
  sized new size started.Other known holds same r = absurd r
  sized new size started.ReadFault known holds same r = absurd r

  -- what came of the bytes at hand and those behind them came of all
  pub through : (new : Hand) (last : Option (List ℕ)) (result : Started) → StartsSaved start held new later last result
      → IsSavedFrom start (old.bytes ++ unread) new last result
  through new last result r = subst (λ (x : List ℕ). IsSavedFrom start x new last result) (sym all) (r l.rest l.left over)

-- so it is of bytes for which room was made
pub starts_grown : (start : Mark) (old grown new : Hand) (left last : Option (List ℕ)) (result : Started) → grown.bytes ≡ old.bytes → grown.ended ≡ old.ended
    → StartsSaved start grown new left last result → StartsSaved start old new left last result
starts_grown start old grown new left last result b e r unread is none =
    subst (λ (x : List ℕ). IsSavedFrom start (x ++ unread) new last result) b (r unread is (λ ended. none (sym e ∙ ended)))

-- ---- the first bytes of a file

module _ (text bytes seen : List ℕ) (old held : Hand) (left later : Option (List ℕ)) (need : ℕ)
    (old_is : old ≡ fresh (length (head_of text) + MAX_TEXT_BYTES)) (need_is : need ≡ length (head_of text) + MAX_TEXT_BYTES) (seen_is : seen ≡ held.bytes)
    (holds : Holds held need) (filled : IsFilled left later old.bytes held.bytes) (ends : KnowsEnd old left → KnowsEnd held later)
    (is : left ≡ Some bytes) where
  left_there : IsLeft bytes filled.0 later
  left_there = filled_left bytes old.bytes held.bytes left later is filled

  abbrev rest : List ℕ
  rest = left_there.rest

  bytes_are : seen ++ rest ≡ bytes
  bytes_are =
      ap (λ (x : List ℕ). x ++ rest) (seen_is ∙ filled.2 ∙ ap (λ (h : Hand). h.bytes ++ filled.0) old_is) ∙ sym left_there.parts

  ended_there : held.ended ≡ true → rest ≡ []
  ended_there e = at_end rest later left_there.left (ends (λ opened. let never = sym (ap (λ (h : Hand). h.ended) old_is) ∙ opened in absurd cc) e)

  full : need ≤ length held.bytes → length (head_of text) + MAX_TEXT_BYTES ≤ length seen
  full room = omega (arith, room, need_is, ap (λ (x : List ℕ). length x) seen_is)

  are_enough : AreEnough text seen rest
  are_enough = elim holds [ inl ended ↦ inl (ended_there ended) | inr room ↦ inr (full room) ]

  pub starts_new : (hand : Hand) (last : Option (List ℕ)) → IsCut (head_of text) seen → IsStarted text bytes hand last started.New
  starts_new hand last c =
      let same : seen ≡ bytes = sym (append-nil seen) ∙ ap (λ (x : List ℕ). seen ++ x) (sym (cut_is_all text seen rest c are_enough)) ∙ bytes_are in
      subst (IsCut (head_of text)) same c

  pub starts_versioned : (n : ℕ) → HasVersion seen n → HasVersion bytes n
  starts_versioned n v = subst (λ (x : List ℕ). HasVersion x n) bytes_are (version_more seen rest n v)

  pub starts_foreign : HasOther text seen → HasOther text bytes
  starts_foreign h = subst (HasOther text) bytes_are (other_more text seen rest h)

  pub starts_headless : (hand : Hand) (last : Option (List ℕ)) → HasNone text seen → IsStarted text bytes hand last (started.Damaged 0)
  starts_headless hand last h = inl (refl, subst (HasNoStart text) bytes_are (no_start_more text seen rest h are_enough))

  -- the parts of all bytes, behind a head of so many
  behind_front : (front more hand : List ℕ) (from : ℕ) → seen ≡ front ++ more → from ≡ length front → hand ≡ drop from held.bytes
      → bytes ≡ front ++ (hand ++ rest)
  behind_front front more hand from parts from_is let_go =
      let at : hand ≡ more = let_go ∙ ap (λ (x : List ℕ). drop from x) (sym seen_is ∙ parts) ∙ drop_at front more from (sym from_is) in
      sym bytes_are ∙ ap (λ (x : List ℕ). x ++ rest) parts ∙ append_assoc front more rest ∙ ap (λ (x : List ℕ). front ++ (x ++ rest)) (sym at)

  pub starts_empty : (hand : Hand) (more : List ℕ) (from : ℕ) (mark : Mark) → length text < 2 ^ 32 → seen ≡ head_of text ++ more → from ≡ length (head_of text)
      → hand.bytes ≡ drop from held.bytes → hand.ended ≡ held.ended → mark.len ≡ from → mark.sum ≡ starts.sum_from text starts.nothing
      → IsStarted text bytes hand later (started.Empty mark)
  starts_empty hand more from mark named parts from_is let_go same len sum = record {
    fits = record { named = named; origin = tt };
    rest = rest;
    left = left_there.left;
    ended = λ e. ended_there (sym same ∙ e);
    parts = behind_front (head_of text) more hand.bytes from parts from_is let_go;
    len_is = len ∙ from_is;
    sum_is = sum;
  }

  -- what came of the saved world came of the journal
  by_saved : (mid hand : Hand) (last : Option (List ℕ)) (mark : Mark) (result : Started) → length text < 2 ^ 32 → mark.len ≡ length (saved_front text)
      → mark.sum ≡ front_check text → bytes ≡ saved_front text ++ (mid.bytes ++ rest) → IsSavedFrom mark (mid.bytes ++ rest) hand last result
      → IsStarted text bytes hand last result
  by_saved mid hand last mark (started.Saved world after) named len sum parts r =
      let b : BeginsSaved (front_check text) (mid.bytes ++ rest) world.items (hand.bytes ++ r.rest) after.sum =
      subst (λ (k : ℕ). BeginsSaved k (mid.bytes ++ rest) world.items (hand.bytes ++ r.rest) after.sum) sum r.begins in
      record {
        fits = record { named = named; origin = b.fits };
        rest = r.rest;
        left = r.left;
        ended = r.ended;
        parts = parts ∙ ap (λ (x : List ℕ). saved_front text ++ x) b.parts
            ∙ sym (append_assoc (saved_front text) (saved_bytes (front_check text) world.items) (hand.bytes ++ r.rest));
        len_is = r.len_is ∙ ap (λ (k : ℕ). k + length (saved_bytes mark.sum world.items)) len
            ∙ ap (λ (k : ℕ). length (saved_front text) + length (saved_bytes k world.items)) sum
            ∙ sym (length-append (saved_front text) (saved_bytes (front_check text) world.items));
        sum_is = b.sum_is;
      }
  by_saved mid hand last mark (started.Damaged n) named len sum parts r =
      inr (record {
        behind = mid.bytes ++ rest;
        parts = parts;
        len_is = r.0 ∙ len;
        none = subst (λ (k : ℕ). HasNoSaved k (mid.bytes ++ rest)) sum r.1;
      })
  by_saved mid hand last mark started.ReadFault named len sum parts r = tt
  by_saved mid hand last mark started.Memory named len sum parts r = tt
  by_saved mid hand last mark started.New named len sum parts r = absurd r
  by_saved mid hand last mark (started.Empty after) named len sum parts r = absurd r
  by_saved mid hand last mark (started.Version n) named len sum parts r = absurd r
  by_saved mid hand last mark started.Other named len sum parts r = absurd r

  pub starts_saved : (mid hand : Hand) (last : Option (List ℕ)) (more : List ℕ) (from : ℕ) (mark : Mark) (result : Started) → length text < 2 ^ 32
      → seen ≡ saved_front text ++ more → from ≡ length (saved_front text) → mid.bytes ≡ drop from held.bytes → mid.ended ≡ held.ended → mark.len ≡ from
      → mark.sum ≡ front_check text → StartsSaved mark mid hand later last result → IsStarted text bytes hand last result
  starts_saved mid hand last more from mark result named parts from_is let_go same len sum r =
      by_saved mid hand last mark result named (len ∙ from_is) sum (behind_front (saved_front text) more mid.bytes from parts from_is let_go)
      (r rest left_there.left (λ e. ended_there (sym same ∙ e)))

-- ---- the entries behind

pub recalled_from : RecalledFrom
recalled_from formats before now start bytes hand later mark result b r =
    let all = r b.rest b.left b.ended in record {
      behind = hand.bytes ++ b.rest;
      head = b.parts;
      recalled = subst (λ (k : ℕ). IsRecalledBehind formats before now (length (starts.head_at start)) k (hand.bytes ++ b.rest) result) b.sum_is
          (subst (λ (k : ℕ). IsRecalledBehind formats before now k mark.sum (hand.bytes ++ b.rest) result) b.len_is all);
    }

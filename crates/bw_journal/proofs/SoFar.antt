-- A journal that is read entry after entry.
use Rattle.std.proofs.Common.{◌≡◌, ℕ, ◌<◌, ◌-◌, ◌≤◌, List, [], ◌∷◌, ◌++◌, length, refl, sym, ap, ◌∙◌, arith, append_assoc}
use Rattle.std.proofs.lemmas.List.{length-append, append-nil}
use Rattle.bw_journal.specs.Layout.{Entry, sum_after, entry_bytes, entries_bytes, last_sum}
use Rattle.bw_journal.specs.Reading.{Begins}
use Rattle.bw_journal.specs.Journals.{Splits}
use Rattle.bw_journal.proofs.Readings.{bytes_then, sum_then, fits_then, long_entry}

-- these entries were passed
pub record IsSoFar (sum : ℕ) (bytes rest : List ℕ) (after : ℕ) : Type 0 where
  pub passed : List Entry
  pub splits : Splits sum bytes passed rest
  pub sum_is : after ≡ last_sum sum passed

pub at_start : (sum : ℕ) (bytes : List ℕ) → IsSoFar sum bytes bytes sum
at_start sum bytes = record { passed = []; splits = record { fits = tt; parts = refl }; sum_is = refl }

-- one entry more was passed
pub splits_more : (sum : ℕ) (bytes rest next : List ℕ) (es : List Entry) (after then : ℕ) (e : Entry) → Splits sum bytes es rest → after ≡ last_sum sum es
    → Begins after rest e next then → Splits sum bytes (es ++ e ∷ []) next
splits_more sum bytes rest next es after then e splits is b =
    let parts : rest ≡ entry_bytes (last_sum sum es) e ++ next = b.parts ∙ ap (λ (k : ℕ). entry_bytes k e ++ next) is in
    record {
      fits = fits_then es (e ∷ []) splits.fits (b.fits, tt);
      parts = splits.parts ∙ ap (λ (x : List ℕ). entries_bytes sum es ++ x) parts
          ∙ sym (append_assoc (entries_bytes sum es) (entry_bytes (last_sum sum es) e) next)
          ∙ ap (λ (x : List ℕ). x ++ next)
          (ap (λ (x : List ℕ). entries_bytes sum es ++ x) (sym (append-nil (entry_bytes (last_sum sum es) e))) ∙ sym (bytes_then sum es (e ∷ [])));
    }

pub sum_more : (sum : ℕ) (rest next : List ℕ) (es : List Entry) (after then : ℕ) (e : Entry) → after ≡ last_sum sum es → Begins after rest e next then
    → then ≡ last_sum sum (es ++ e ∷ [])
sum_more sum rest next es after then e is b = b.sum_is ∙ ap (λ (k : ℕ). sum_after k e) is ∙ sym (sum_then sum es (e ∷ []))

pub one_more : (sum : ℕ) (bytes rest next : List ℕ) (after then : ℕ) (e : Entry) → IsSoFar sum bytes rest after → Begins after rest e next then
    → IsSoFar sum bytes next then
one_more sum bytes rest next after then e so b = record {
  passed = so.passed ++ e ∷ [];
  splits = splits_more sum bytes rest next so.passed after then e so.splits so.sum_is b;
  sum_is = sum_more sum rest next so.passed after then e so.sum_is b;
}

pub fewer : (sum : ℕ) (bytes rest next : List ℕ) (then : ℕ) (e : Entry) → Begins sum rest e next then → length next < length rest
fewer sum bytes rest next then e b =
    let n : length rest ≡ length (entry_bytes sum e ++ next) = ap (λ (x : List ℕ). length x) b.parts in
    omega (arith, n, length-append (entry_bytes sum e) next, long_entry sum e)

pub len_of : (sum : ℕ) (bytes rest : List ℕ) (es : List Entry) → Splits sum bytes es rest → length bytes - length rest ≡ length (entries_bytes sum es)
len_of sum bytes rest es s =
    let n : length bytes ≡ length (entries_bytes sum es ++ rest) = ap (λ (x : List ℕ). length x) s.parts in
    omega (arith, n, length-append (entries_bytes sum es) rest)

pub not_longer : (sum : ℕ) (bytes rest : List ℕ) (after : ℕ) → IsSoFar sum bytes rest after → length rest ≤ length bytes
not_longer sum bytes rest after so =
    let n : length bytes ≡ length (entries_bytes sum so.passed ++ rest) = ap (λ (x : List ℕ). length x) so.splits.parts in
    omega (arith, n, length-append (entries_bytes sum so.passed) rest)

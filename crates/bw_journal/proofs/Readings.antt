-- Journals are read in one way, and cut anywhere they are journals.
use Rattle.std.proofs.Common.{◌≡◌, ℕ, ◌<◌, List, [], ◌∷◌, ◌++◌, length, take, drop, refl, sym, ap, ◌∙◌, subst, arith, append_assoc, inl, inr}
use Rattle.std.specs.List.{AllByRecursion}
use Rattle.std.proofs.lemmas.Bool.{cases_lt}
use Rattle.std.proofs.lemmas.List.{length-append, append-nil, nil_from_length, take-append-le, take_at, take-append-drop, length-take-le}
use Rattle.bw_journal.specs.Layout.{Entry, Fits, four, eight, front_bytes, message_bytes, sum_of, front_sum, sum_after, entry_bytes, entries_bytes, last_sum}
use Rattle.bw_journal.specs.Reading.{entry, IsShort, IsUnsound}
use Rattle.bw_journal.specs.Laws.{ReadsOnce, NotBoth, CutsAreRead}
use Rattle.bw_journal.proofs.Lists.{same_front, cut_is}
use Rattle.bw_journal.proofs.Numbers.{length_one, eight_one, length-four, length-eight, length-front}

-- ---- an entry has bytes of its own

entry_is : (e f : Entry) → e.key ≡ f.key → e.message ≡ f.message → e ≡ f
entry_is e f a b = ap (λ (k : ℕ). entry k e.message) a ∙ ap (λ (m : List ℕ). entry f.key m) b

pub one_entry : (sum : ℕ) (e f : Entry) (x y : List ℕ) → Fits e → Fits f → entry_bytes sum e ++ x ≡ entry_bytes sum f ++ y → (e ≡ f) × (x ≡ y)
one_entry sum e f x y fe ff eq =
    let fr = front_bytes (length e.message) e.key in
    let gr = front_bytes (length f.message) f.key in
    let ce = eight (front_sum sum e) in
    let cf = eight (front_sum sum f) in
    let me = message_bytes (front_sum sum e) e.message in
    let mf = message_bytes (front_sum sum f) f.message in
    let one = same_front fr gr ((ce ++ me) ++ x) ((cf ++ mf) ++ y) (length-front (length e.message) e.key ∙ sym (length-front (length f.message) f.key))
    (sym (append_assoc fr (ce ++ me) x) ∙ eq ∙ append_assoc gr (cf ++ mf) y) in
    let fours = same_front (four (length e.message)) (four (length f.message)) (eight e.key) (eight f.key)
    (length-four (length e.message) ∙ sym (length-four (length f.message))) one.0 in
    let size : length e.message ≡ length f.message = length_one (length e.message) (length f.message) fe.message ff.message fours.0 in
    let key : e.key ≡ f.key = eight_one e.key f.key fe.key ff.key fours.1 in
    let two = same_front ce cf (me ++ x) (mf ++ y) (length-eight (front_sum sum e) ∙ sym (length-eight (front_sum sum f)))
    (sym (append_assoc ce me x) ∙ one.1 ∙ append_assoc cf mf y) in
    let le = eight (sum_of (front_sum sum e) e.message) in
    let lf = eight (sum_of (front_sum sum f) f.message) in
    let three = same_front e.message f.message (le ++ x) (lf ++ y) size (sym (append_assoc e.message le x) ∙ two.1 ∙ append_assoc f.message lf y) in
    let last = same_front le lf x y (length-eight (sum_of (front_sum sum e) e.message) ∙ sym (length-eight (sum_of (front_sum sum f) f.message))) three.1 in
    (entry_is e f key three.0, last.1)

-- no entry begins another's proper first part
pub not_short : (sum : ℕ) (e : Entry) (rest : List ℕ) → Fits e → IsShort sum (entry_bytes sum e ++ rest) → ⊥
not_short sum e rest fits s =
    let more = s.cut.more in
    let same = one_entry sum e s.whole (rest ++ more) [] fits s.fits
    (sym (append_assoc (entry_bytes sum e) rest more) ∙ s.cut.whole ∙ sym (append-nil (entry_bytes sum s.whole))) in
    let none : length (rest ++ more) ≡ 0 = ap (λ (l : List ℕ). length l) same.1 in
    omega (arith, none, length-append rest more, s.cut.some)

pub not_unsound : (sum : ℕ) (e : Entry) (bytes rest : List ℕ) → Fits e → bytes ≡ entry_bytes sum e ++ rest → IsUnsound sum bytes → ⊥
not_unsound sum e bytes rest fits is never = never e fits [] rest (append-nil bytes ∙ is)

pub short_not_unsound : (sum : ℕ) (bytes : List ℕ) → IsShort sum bytes → IsUnsound sum bytes → ⊥
short_not_unsound sum bytes s never = never s.whole s.fits s.cut.more [] (s.cut.whole ∙ sym (append-nil (entry_bytes sum s.whole)))

-- ---- entries one after another

cons_is : (e f : Entry) (es fs : List Entry) → e ≡ f → es ≡ fs → e ∷ es ≡ f ∷ fs
cons_is e f es fs a b = cc

-- the first entry is taken from both
behind_first : (sum : ℕ) (e f : Entry) (es fs : List Entry) (t u : List ℕ) → Fits e → Fits f
    → entries_bytes sum (e ∷ es) ++ t ≡ entries_bytes sum (f ∷ fs) ++ u
    → (e ≡ f) × (entries_bytes (sum_after sum e) es ++ t ≡ entries_bytes (sum_after sum f) fs ++ u)
behind_first sum e f es fs t u fe ff eq =
    one_entry sum e f (entries_bytes (sum_after sum e) es ++ t) (entries_bytes (sum_after sum f) fs ++ u) fe ff
    (sym (append_assoc (entry_bytes sum e) (entries_bytes (sum_after sum e) es) t) ∙ eq
    ∙ append_assoc (entry_bytes sum f) (entries_bytes (sum_after sum f) fs) u)

-- behind entries neither an entry nor its end follows
abbrev Halts : ℕ → List ℕ → Type 0
Halts sum t = (e : Entry) (rest : List ℕ) → Fits e → t ≡ entry_bytes sum e ++ rest → ⊥

halts_short : (sum : ℕ) (t : List ℕ) → IsShort sum t → Halts sum t
halts_short sum t s e rest fits is = not_short sum e rest fits (subst (λ (x : List ℕ). IsShort sum x) is s)

halts_unsound : (sum : ℕ) (t : List ℕ) → IsUnsound sum t → Halts sum t
halts_unsound sum t never e rest fits is = not_unsound sum e t rest fits is never

pub same_entries : (sum : ℕ) (es fs : List Entry) (t u : List ℕ) → AllByRecursion Fits es → AllByRecursion Fits fs → Halts (last_sum sum es) t
    → Halts (last_sum sum fs) u
    → entries_bytes sum es ++ t ≡ entries_bytes sum fs ++ u → (es ≡ fs) × (t ≡ u)
same_entries sum [] [] t u fe ff ht hu eq = (refl, eq)
same_entries sum [] (f ∷ fs) t u fe ff ht hu eq =
    absurd (ht f (entries_bytes (sum_after sum f) fs ++ u) ff.0 (eq ∙ append_assoc (entry_bytes sum f) (entries_bytes (sum_after sum f) fs) u))
same_entries sum (e ∷ es) [] t u fe ff ht hu eq =
    absurd (hu e (entries_bytes (sum_after sum e) es ++ t) fe.0 (sym eq ∙ append_assoc (entry_bytes sum e) (entries_bytes (sum_after sum e) es) t))
same_entries sum (e ∷ es) (f ∷ fs) t u fe ff ht hu eq =
    let first = behind_first sum e f es fs t u fe.0 ff.0 eq in
    let s : sum_after sum f ≡ sum_after sum e = ap (λ (x : Entry). sum_after sum x) (sym first.0) in
    let hu2 : Halts (last_sum (sum_after sum e) fs) u = subst (λ (k : ℕ). Halts (last_sum k fs) u) s hu in
    let eq2 = first.1 ∙ ap (λ (k : ℕ). entries_bytes k fs ++ u) s in
    let rest = same_entries (sum_after sum e) es fs t u fe.1 ff.1 ht hu2 eq2 in
    (cons_is e f es fs first.0 rest.0, rest.1)

pub reads_once : ReadsOnce
reads_once sum bytes es fs t u a b =
    same_entries sum es fs t u a.splits.fits b.splits.fits (halts_short (last_sum sum es) t a.tail_is) (halts_short (last_sum sum fs) u b.tail_is)
    (sym a.splits.parts ∙ b.splits.parts)

pub not_both : NotBoth
not_both sum bytes es fs t u a b =
    let same = same_entries sum es fs t u a.splits.fits b.splits.fits (halts_short (last_sum sum es) t a.tail_is)
    (halts_unsound (last_sum sum fs) u b.unsound) (sym a.splits.parts ∙ b.splits.parts) in
    let s : IsShort (last_sum sum fs) u =
    subst (λ (x : List ℕ). IsShort (last_sum sum fs) x) same.1 (subst (λ (x : List Entry). IsShort (last_sum sum x) t) same.0 a.tail_is) in
    short_not_unsound (last_sum sum fs) u s b.unsound

-- ---- an append that was cut

-- the first of more entries, and less than one
pub record Cuts (sum : ℕ) (more : List Entry) (front : List ℕ) : Type 0 where
  pub kept : List Entry
  pub lost : List Entry
  pub tail : List ℕ
  pub all : more ≡ kept ++ lost
  pub fits : AllByRecursion Fits kept
  pub parts : front ≡ entries_bytes sum kept ++ tail
  pub tail_is : IsShort (last_sum sum kept) tail

pub long_entry : (sum : ℕ) (e : Entry) → 0 < length (entry_bytes sum e)
long_entry sum e =
    omega (
      arith,
      length-append (front_bytes (length e.message) e.key) (eight (front_sum sum e) ++ message_bytes (front_sum sum e) e.message),
      length-front (length e.message) e.key,
    )

none_is_short : (sum : ℕ) → IsShort sum []
none_is_short sum =
    let e = entry 0 [] in
    record {
      whole = e;
      fits = record { key = omega arith; message = omega arith };
      cut = record { more = entry_bytes sum e; some = long_entry sum e; whole = refl };
    }

nothing : (a b : List ℕ) → a ++ b ≡ [] → a ≡ []
nothing a b e = let n : length (a ++ b) ≡ 0 = ap (λ (l : List ℕ). length l) e in nil_from_length a (omega (arith, n, length-append a b))

pub cut_of : (sum : ℕ) (more : List Entry) (front rest : List ℕ) → AllByRecursion Fits more → front ++ rest ≡ entries_bytes sum more → Cuts sum more front
cut_of sum [] front rest fits eq =
    let is : front ≡ [] = nothing front rest eq in
    record {
      kept = [];
      lost = [];
      tail = front;
      all = refl;
      fits = tt;
      parts = refl;
      tail_is = subst (λ (t : List ℕ). IsShort sum t) (sym is) (none_is_short sum);
    }
cut_of sum (e ∷ es) front rest fits eq =
    let bytes = entry_bytes sum e in
    let behind = entries_bytes (sum_after sum e) es in
    elim (cases_lt (length front) (length bytes)) as (λ _. Cuts sum (e ∷ es) front) [
      | inl lt ↦
          let n = length front in
          let front_of : List ℕ → List ℕ = take n in
          let part : front ≡ take n bytes = sym (take_at front rest n refl) ∙ ap front_of eq ∙ take-append-le n bytes behind (omega (arith, lt)) in
          record {
            kept = [];
            lost = e ∷ es;
            tail = front;
            all = refl;
            fits = tt;
            parts = refl;
            tail_is = record { whole = e; fits = fits.0; cut = cut_is bytes front lt part };
          }
      | inr le ↦
          let n = length bytes in
          let first = take n front in
          let second = drop n front in
          let whole : first ++ second ≡ front = take-append-drop n front in
          let both = same_front first bytes (second ++ rest) behind (length-take-le n front le)
          (sym (append_assoc first second rest) ∙ ap (λ (x : List ℕ). x ++ rest) whole ∙ eq) in
          let c = cut_of (sum_after sum e) es second rest fits.1 both.1 in
          record {
            kept = e ∷ c.kept;
            lost = c.lost;
            tail = c.tail;
            all = ap (λ (x : List Entry). e ∷ x) c.all;
            fits = (fits.0, c.fits);
            parts = sym whole ∙ ap (λ (x : List ℕ). x ++ second) both.0 ∙ ap (λ (x : List ℕ). bytes ++ x) c.parts
                ∙ sym (append_assoc bytes (entries_bytes (sum_after sum e) c.kept) c.tail);
            tail_is = c.tail_is;
          }
    ]

pub bytes_then : (sum : ℕ) (es fs : List Entry) → entries_bytes sum (es ++ fs) ≡ entries_bytes sum es ++ entries_bytes (last_sum sum es) fs
bytes_then sum [] fs = refl
bytes_then sum (e ∷ es) fs =
    ap (λ (x : List ℕ). entry_bytes sum e ++ x) (bytes_then (sum_after sum e) es fs)
    ∙ sym (append_assoc (entry_bytes sum e) (entries_bytes (sum_after sum e) es) (entries_bytes (last_sum (sum_after sum e) es) fs))

pub sum_then : (sum : ℕ) (es fs : List Entry) → last_sum sum (es ++ fs) ≡ last_sum (last_sum sum es) fs
sum_then sum [] fs = refl
sum_then sum (e ∷ es) fs = sum_then (sum_after sum e) es fs

pub fits_then : (es fs : List Entry) → AllByRecursion Fits es → AllByRecursion Fits fs → AllByRecursion Fits (es ++ fs)
fits_then [] fs a b = b
fits_then (e ∷ es) fs a b = (a.0, fits_then es fs a.1 b)

pub cuts_are_read : CutsAreRead
cuts_are_read sum before more front rest fb fm eq =
    let c = cut_of (last_sum sum before) more front rest fm eq in
    record {
      kept = c.kept;
      lost = c.lost;
      tail = c.tail;
      all = c.all;
      journal = record {
        splits = record {
          fits = fits_then before c.kept fb c.fits;
          parts = ap (λ (x : List ℕ). entries_bytes sum before ++ x) c.parts
              ∙ sym (append_assoc (entries_bytes sum before) (entries_bytes (last_sum sum before) c.kept) c.tail)
              ∙ ap (λ (x : List ℕ). x ++ c.tail) (sym (bytes_then sum before c.kept));
        };
        tail_is = subst (λ (k : ℕ). IsShort k c.tail) (sym (sum_then sum before c.kept)) c.tail_is;
      };
    }

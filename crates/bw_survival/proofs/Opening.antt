-- What a crash leaves of a journal before a group is kept.
use Rattle.std.proofs.Common.{◌≡◌, ◌≤◌, ◌⊎◌, ◌+◌, ◌-◌, ℕ, List, [], ◌∷◌, ◌++◌, length, take, drop, refl, sym, ap, ◌∙◌, subst, inl, inr, arith, append_assoc}
use Rattle.std.proofs.Math.Seq.{take-append-add}
use Rattle.std.proofs.lemmas.List.{append-nil, length-append, take-append-drop, take_at}
use Rattle.bw_journal.specs.Heads.{head_of}
use Rattle.bw_journal.specs.Layout.{entries_bytes, last_sum}
use Rattle.bw_journal.specs.Reading.{IsCut, IsShort}
use Rattle.bw_journal.specs.Starts.{head_at, sum_at}
use Rattle.bw_stable.specs.Deeds.{Deed, Folder, cut, kept, alone, after_deed, after_deeds, MayLeave, MayStop}
use Rattle.bw_stable.proofs.Deeds.{at_rest}
use Rattle.bw_survival.specs.Restarts.{CutsLeaveEntries, HeadsAreBegun, empty_start, file_of}

-- while the first deed is done, or behind it
first_deed : (deed : Deed) (deeds : List Deed) (file there left : List ℕ) (done undone : List Deed) → after_deed deed (alone file) ≡ alone there
    → done ++ undone ≡ deed ∷ deeds → MayStop undone (after_deeds done (alone file)) left → MayStop (deed ∷ deeds) (alone file) left ⊎ MayLeave deeds there left
first_deed deed deeds file there left [] undone is e stops = inl (subst (λ (d : List Deed). MayStop d (alone file) left) e stops)
first_deed deed deeds file there left (d ∷ done) undone is e stops =
    let same : d ≡ deed = cc in
    let rest : done ++ undone ≡ deeds = cc in
    let at : after_deeds done (after_deed d (alone file)) ≡ after_deeds done (alone there) =
    ap (λ (x : Deed). after_deeds done (after_deed x (alone file))) same ∙ ap (λ (f : Folder). after_deeds done f) is in
    inr (record { done = done; undone = undone; all = rest; stops = subst (λ (f : Folder). MayStop undone f left) at stops })

pub goes_by_first : (deed : Deed) (deeds : List Deed) (file there left : List ℕ) → after_deed deed (alone file) ≡ alone there
    → MayLeave (deed ∷ deeds) file left
    → MayStop (deed ∷ deeds) (alone file) left ⊎ MayLeave deeds there left
goes_by_first deed deeds file there left is may = first_deed deed deeds file there left may.done may.undone is may.all may.stops

-- a first part of what is cut is cut
cut_less : (want bytes front rest : List ℕ) → front ++ rest ≡ bytes → IsCut want bytes → IsCut want front
cut_less want bytes front rest e c = record {
  more = rest ++ c.more;
  some = omega (arith, c.some, length-append rest c.more);
  whole = sym (append_assoc front rest c.more) ∙ ap (λ (l : List ℕ). l ++ c.more) e ∙ c.whole;
}

cut_front : (want bytes : List ℕ) (n : ℕ) → IsCut want bytes → IsCut want (take n bytes)
cut_front want bytes n c = cut_less want bytes (take n bytes) (drop n bytes) (take-append-drop n bytes) c

short_front : (sum : ℕ) (bytes : List ℕ) (n : ℕ) → IsShort sum bytes → IsShort sum (take n bytes)
short_front sum bytes n s = record { whole = s.whole; fits = s.fits; cut = cut_front _ bytes n s.cut }

take_behind : (a b : List ℕ) (n : ℕ) → length a ≤ n → take n (a ++ b) ≡ a ++ take (n - length a) b
take_behind a b n few =
    let size : n ≡ length a + (n - length a) = omega (arith, few) in
    ap (λ (k : ℕ). take k (a ++ b)) size ∙ take-append-add a b (n - length a)

pub cuts_leave_entries : CutsLeaveEntries
cuts_leave_entries start entries tail deeds left fits short may =
    let file = file_of start entries in
    elim (goes_by_first (cut (length file)) deeds (file ++ tail) (take (length file) (file ++ tail)) left refl may) [
      | inl stop ↦ inl (record {
        behind = entries_bytes (sum_at start) entries ++ take (stop.0 - length file) tail;
        parts = stop.2 ∙ take_behind file tail stop.0 stop.1
            ∙ append_assoc (head_at start) (entries_bytes (sum_at start) entries) (take (stop.0 - length file) tail);
        tail = take (stop.0 - length file) tail;
        journal = record {
          splits = record { fits = fits; parts = refl };
          tail_is = short_front (last_sum (sum_at start) entries) tail (stop.0 - length file) short;
        };
      })
      | inr later ↦ inr (subst (λ (l : List ℕ). MayLeave deeds l left) (take_at file tail (length file) refl) later)
    ]

-- the head is there, or a first part of it
head_kept : (text : List ℕ) (deeds : List Deed) (left front rest : List ℕ) → front ++ rest ≡ head_of text → left ≡ front
    → IsCut (head_of text) left ⊎ MayLeave deeds (file_of (empty_start text) []) left
head_kept text deeds left front [] e is =
    let all : left ≡ file_of (empty_start text) [] = is ∙ sym (append-nil front) ∙ e ∙ sym (append-nil (head_of text)) in
    let there = subst (λ (l : List ℕ). MayStop deeds (alone (file_of (empty_start text) [])) l) (sym all) (at_rest deeds (file_of (empty_start text) [])) in
    inr (record { done = []; undone = deeds; all = refl; stops = there })
head_kept text deeds left front (x ∷ rest) e is =
    inl (record { more = x ∷ rest; some = omega arith; whole = ap (λ (l : List ℕ). l ++ (x ∷ rest)) is ∙ e })

pub heads_are_begun : HeadsAreBegun
heads_are_begun text file returned held deeds left begun may =
    elim (goes_by_first (cut 0) (kept (head_of text) returned held ∷ deeds) file [] left refl may) [
      | inl stop ↦ inl (subst (IsCut (head_of text)) (sym stop.2) (cut_front (head_of text) file stop.0 begun))
      | inr later ↦ elim (goes_by_first (kept (head_of text) returned held) deeds [] (head_of text) left refl later) [
        | inl stop ↦ head_kept text deeds left stop.0 stop.1 stop.2 stop.3
        | inr then ↦ inr (subst (λ (l : List ℕ). MayLeave deeds l left) (sym (append-nil (head_of text))) then)
      ]
    ]

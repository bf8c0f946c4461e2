-- The saved world that a journal begins at.
use Rattle.std.proofs.Common.{◌≡◌, ℕ, ◌<◌, ◌≤◌, ◌+◌, ◌-◌, ◌⊎◌, List, ◌++◌, length, take, drop, sym, ap, ◌∙◌, inl, inr, arith, append_assoc}
use Rattle.std.specs.Prelude.{Result, Ok, Err, OnErr}
use Rattle.std.specs.Int.{w64, from_be_bytes}
use Rattle.std.proofs.lemmas.List.{length-append, take-append-drop, length-take-le, length-drop}
use Rattle.bw_journal.specs.Heads.{front_of, saved_front}
use Rattle.bw_journal.specs.Layout.{eight, message_bytes, sum_of}
use Rattle.bw_journal.specs.Saved.{BeginsSaved, FitsSaved, HasNoSaved, front_check, length_sum, saved_bytes, saved_head, saved_start, saved_sum}
use Rattle.bw_journal.specs.declared.limits.TheConstants.{MAX_SAVED_BYTES}
use Rattle.bw_journal.proofs.HeadParts.{length-front_of}
use Rattle.bw_journal.proofs.Lists.{same_front}
use Rattle.bw_journal.proofs.Numbers.{IsBytes, bytes_of_front, eight_from_eight, eight_from_front, eight_read, length-eight}

-- ---- lengths

pub length-saved_bytes : (sum : ℕ) (saved : List ℕ) → length (saved_bytes sum saved) ≡ 16 + length saved
length-saved_bytes sum saved =
    let last : List ℕ = eight (sum_of (length_sum sum saved) saved) in
    omega (
      arith,
      length-append (eight (length saved)) (saved ++ last),
      length-eight (length saved),
      length-append saved last,
      length-eight (sum_of (length_sum sum saved) saved),
    )

pub length-saved_head : (text saved : List ℕ) → length (saved_head text saved) ≡ 32 + length text + length saved
length-saved_head text saved =
    omega (
      arith,
      length-append (saved_front text) (saved_bytes (front_check text) saved),
      length-front_of 1 text,
      length-saved_bytes (front_check text) saved,
    )

-- where there is no room for so many bytes, there is none for the head
pub full_saved : {T E : Type 0} (result : Result T E) (capacity len : ℕ) (text saved : List ℕ) → capacity < len + (16 + length text + 16 + length saved)
    → OnErr result (capacity < len + length (saved_head text saved))
full_saved (Ok x) capacity len text saved lt = tt
full_saved (Err e) capacity len text saved lt = omega (arith, lt, length-saved_head text saved)

-- ---- what is put there

-- the check behind a saved world, over its parts
pub saved_sum_is : (sum a b : ℕ) (len saved : List ℕ) → len ≡ eight (length saved) → a ≡ sum_of sum len → b ≡ sum_of a saved → b ≡ saved_sum sum saved
saved_sum_is sum a b len saved is p q =
    q ∙ ap (λ (n : ℕ). sum_of n saved) p ∙ ap (λ (l : List ℕ). sum_of (sum_of sum l) saved) is

pub saved_put : (text saved o o1 o2 o3 o4 len last : List ℕ) (after : ℕ) → len ≡ eight (length saved) → after ≡ saved_start text saved → last ≡ eight after
    → o1 ≡ o ++ front_of 1 text → o2 ≡ o1 ++ len → o3 ≡ o2 ++ saved → o4 ≡ o3 ++ last → o4 ≡ o ++ saved_head text saved
saved_put text saved o o1 o2 o3 o4 len last after is sum e p q r s =
    let front = front_of 1 text in
    let l = eight (length saved) in
    let c = eight (saved_start text saved) in
    let one : o2 ≡ (o ++ front) ++ l = q ∙ ap (λ (x : List ℕ). x ++ len) p ∙ ap (λ (x : List ℕ). (o ++ front) ++ x) is in
    let two : o3 ≡ ((o ++ front) ++ l) ++ saved = r ∙ ap (λ (x : List ℕ). x ++ saved) one in
    s ∙ ap (λ (x : List ℕ). x ++ last) two ∙ ap (λ (x : List ℕ). (((o ++ front) ++ l) ++ saved) ++ x) (e ∙ ap eight sum)
    ∙ append_assoc ((o ++ front) ++ l) saved c ∙ append_assoc (o ++ front) l (saved ++ c) ∙ append_assoc o front (l ++ (saved ++ c))

-- ---- what is read

-- the number in front of a saved world is its length
pub number_of_saved : (sum : ℕ) (bytes saved rest : List ℕ) → FitsSaved saved → bytes ≡ saved_bytes sum saved ++ rest → from_be_bytes w64 bytes ≡ length saved
number_of_saved sum bytes saved rest fits e =
    let behind = message_bytes (length_sum sum saved) saved in
    ap (λ (b : List ℕ). from_be_bytes w64 b) (e ∙ append_assoc (eight (length saved)) behind rest)
    ∙ eight_from_eight (length saved) (behind ++ rest) (omega (arith, fits))

pub length_is : (sum : ℕ) (bytes saved rest : List ℕ) → bytes ≡ saved_bytes sum saved ++ rest → length bytes ≡ 16 + length saved + length rest
length_is sum bytes saved rest e =
    let n : length bytes ≡ length (saved_bytes sum saved ++ rest) = ap (λ (b : List ℕ). length b) e in
    omega (arith, n, length-append (saved_bytes sum saved) rest, length-saved_bytes sum saved)

-- no saved world where its length is missing or too great
pub none_by_size : (sum : ℕ) (bytes : List ℕ) → (length bytes < 8) ⊎ (MAX_SAVED_BYTES < from_be_bytes w64 bytes) → HasNoSaved sum bytes
none_by_size sum bytes size saved rest fits e =
    elim size [
      | inl few ↦ omega (arith, few, length_is sum bytes saved rest e)
      | inr long ↦ omega (arith, long, fits, number_of_saved sum bytes saved rest fits e)
    ]

-- nor where the bytes are fewer than it has
pub none_by_length : (sum : ℕ) (bytes : List ℕ) → length bytes < 16 + from_be_bytes w64 bytes → HasNoSaved sum bytes
none_by_length sum bytes lt saved rest fits e = omega (arith, lt, number_of_saved sum bytes saved rest fits e, length_is sum bytes saved rest e)

-- the parts of bytes: eight, as many as their number says, and the rest
pub record IsParted (bytes saved behind : List ℕ) : Type 0 where
  pub size : length saved ≡ from_be_bytes w64 bytes
  pub front : take 8 bytes ≡ eight (length saved)
  pub parts : bytes ≡ eight (length saved) ++ (saved ++ behind)

pub parted : (bytes front back saved behind : List ℕ) (n : ℕ) → IsBytes bytes → 16 + from_be_bytes w64 bytes ≤ length bytes → n ≡ from_be_bytes w64 bytes
    → front ≡ take 8 bytes → back ≡ drop 8 bytes → saved ≡ take n back → behind ≡ drop n back → IsParted bytes saved behind
parted bytes front back saved behind n h le is f b s e =
    let long : length back ≡ length bytes - 8 = ap (λ (x : List ℕ). length x) b ∙ length-drop 8 bytes in
    let size : length saved ≡ n = ap (λ (x : List ℕ). length x) s ∙ length-take-le n back (omega (arith, le, is, long)) in
    let few : 8 ≤ length bytes = omega (arith, le) in
    let number : from_be_bytes w64 bytes ≡ from_be_bytes w64 (take 8 bytes) = sym (eight_from_front 8 bytes (omega arith)) in
    let first : eight (length saved) ≡ take 8 bytes =
    eight_read (take 8 bytes) (length saved) (bytes_of_front 8 bytes h) (length-take-le 8 bytes few) (size ∙ is ∙ number) in
    record {
      size = size ∙ is;
      front = sym first;
      parts = sym (take-append-drop 8 bytes) ∙ ap (λ (x : List ℕ). x ++ drop 8 bytes) (sym first)
          ∙ ap (λ (x : List ℕ). eight (length saved) ++ x)
          (sym b ∙ sym (take-append-drop n back) ∙ ap (λ (x : List ℕ). x ++ drop n back) (sym s) ∙ ap (λ (x : List ℕ). saved ++ x) (sym e));
    }

-- where a saved world is in front, its check stands behind its bytes
check_behind : (sum : ℕ) (bytes saved behind other rest : List ℕ) → IsParted bytes saved behind → FitsSaved other → bytes ≡ saved_bytes sum other ++ rest
    → behind ≡ eight (saved_sum sum saved) ++ rest
check_behind sum bytes saved behind other rest p fits e =
    let size : length saved ≡ length other = p.size ∙ number_of_saved sum bytes other rest fits e in
    let c = eight (sum_of (length_sum sum other) other) in
    let one : eight (length saved) ++ (saved ++ behind) ≡ eight (length other) ++ (other ++ (c ++ rest)) =
    sym p.parts ∙ e ∙ append_assoc (eight (length other)) (other ++ c) rest ∙ ap (λ (x : List ℕ). eight (length other) ++ x) (append_assoc other c rest) in
    let two = same_front (eight (length saved)) (eight (length other)) (saved ++ behind) (other ++ (c ++ rest))
    (length-eight (length saved) ∙ sym (length-eight (length other))) one in
    let three = same_front saved other behind (c ++ rest) size two.1 in
    three.1 ∙ ap (λ (x : List ℕ). eight (saved_sum sum x) ++ rest) (sym three.0)

pub none_by_check : (sum after : ℕ) (bytes saved behind : List ℕ) → IsParted bytes saved behind → after ≡ saved_sum sum saved
    → ((rest : List ℕ) → behind ≡ eight after ++ rest → ⊥) → HasNoSaved sum bytes
none_by_check sum after bytes saved behind p is never other rest fits e =
    never rest (check_behind sum bytes saved behind other rest p fits e ∙ ap (λ (k : ℕ). eight k ++ rest) (sym is))

pub saved_found : (sum after : ℕ) (bytes saved behind rest : List ℕ) → IsParted bytes saved behind → from_be_bytes w64 bytes ≤ MAX_SAVED_BYTES
    → after ≡ saved_sum sum saved → behind ≡ eight after ++ rest → BeginsSaved sum bytes saved rest after
saved_found sum after bytes saved behind rest p fits is e =
    let c = eight (saved_sum sum saved) in
    record {
      fits = omega (arith, fits, p.size);
      parts = p.parts ∙ ap (λ (x : List ℕ). eight (length saved) ++ (saved ++ x)) (e ∙ ap (λ (k : ℕ). eight k ++ rest) is)
          ∙ ap (λ (x : List ℕ). eight (length saved) ++ x) (sym (append_assoc saved c rest)) ∙ sym (append_assoc (eight (length saved)) (saved ++ c) rest);
      sum_is = is;
    }

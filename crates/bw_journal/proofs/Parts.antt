-- What bytes begin with, from what their parts begin with.
use Rattle.std.proofs.Common.{◌≡◌, ℕ, ◌<◌, ◌≤◌, ◌+◌, ◌-◌, ◌^◌, List, ◌++◌, length, take, drop, replicate, refl, sym, ap, ◌∙◌, subst, arith, append_assoc}
use Rattle.std.proofs.lemmas.List.{length-append, length-replicate}
use Rattle.std.specs.Int.{w32, w64, from_be_bytes}
use Rattle.bw_journal.specs.Layout.{Entry, four, eight, front_bytes, sum_of, message_bytes, entry_bytes, front_sum}
use Rattle.bw_journal.specs.Reading.{entry, IsCut, NeverBegins, IsShort, IsUnsound, Begins, IsNext, IsShortMessage, IsUnsoundMessage, BeginsMessage}
use Rattle.bw_journal.specs.Reading.{IsMessageNext}
use Rattle.bw_journal.specs.declared.entries.Next.{Next}
use Rattle.bw_journal.specs.declared.entries.Next.TheVariants.{Short, Unsound, Whole}
use Rattle.bw_journal.proofs.Lists.{same_front}
use Rattle.bw_journal.proofs.Numbers.{IsBytes, bytes_filled, bytes_of_front, bytes_behind, take_all, below_8, length_one, four_from_four, four_from_filled}
use Rattle.bw_journal.proofs.Numbers.{least_four, length-four, length-eight, length-front, front_read}
use Rattle.bw_journal.specs.declared.limits.TheConstants.{MAX_MESSAGE_BYTES, MAX_ENTRY_BYTES}

-- ---- messages

pub few_is_short : (len sum : ℕ) (bytes : List ℕ) → length bytes < len → IsShortMessage len sum bytes
few_is_short len sum bytes lt =
    let fill : List ℕ = replicate (len - length bytes) 0 in
    let filled : length fill ≡ len - length bytes = length-replicate (len - length bytes) 0 in
    record {
      whole = bytes ++ fill;
      size = omega (arith, length-append bytes fill, filled);
      cut = record {
        more = fill ++ eight (sum_of sum (bytes ++ fill));
        some = omega (arith, length-append fill (eight (sum_of sum (bytes ++ fill))), filled);
        whole = sym (append_assoc bytes fill (eight (sum_of sum (bytes ++ fill))));
      };
    }

pub cut_is_short : (len sum : ℕ) (bytes message rest : List ℕ) → length message ≡ len → bytes ≡ message ++ rest → IsCut (eight (sum_of sum message)) rest
    → IsShortMessage len sum bytes
cut_is_short len sum bytes message rest size parts cut = record {
  whole = message;
  size = size;
  cut = record {
    more = cut.more;
    some = cut.some;
    whole = ap (λ (b : List ℕ). b ++ cut.more) parts ∙ append_assoc message rest cut.more ∙ ap (λ (b : List ℕ). message ++ b) cut.whole;
  };
}

pub message_unsound : (len sum : ℕ) (bytes message rest : List ℕ) → length message ≡ len → bytes ≡ message ++ rest
    → NeverBegins (eight (sum_of sum message)) rest
    → IsUnsoundMessage len sum bytes
message_unsound len sum bytes message rest size parts never m is x y e =
    let one : message ++ (rest ++ x) ≡ m ++ (eight (sum_of sum m) ++ y) =
    sym (append_assoc message rest x) ∙ ap (λ (b : List ℕ). b ++ x) (sym parts) ∙ e ∙ append_assoc m (eight (sum_of sum m)) y in
    let both = same_front message m (rest ++ x) (eight (sum_of sum m) ++ y) (size ∙ sym is) one in
    never x y (both.1 ∙ ap (λ (k : List ℕ). eight (sum_of sum k) ++ y) (sym both.0))

pub message_begins : (len sum : ℕ) (bytes message rest more : List ℕ) (after : ℕ) → length message ≡ len → bytes ≡ message ++ rest
    → rest ≡ eight (sum_of sum message) ++ more → after ≡ sum_of sum message → BeginsMessage len sum bytes message more after
message_begins len sum bytes message rest more after size parts e is = record {
  size = size;
  parts = parts ∙ ap (λ (b : List ℕ). message ++ b) e ∙ sym (append_assoc message (eight (sum_of sum message)) more);
  sum_is = is;
}

-- ---- entries

-- fewer bytes than a front, of which no length of a message need be too great
pub few_front : (sum : ℕ) (bytes : List ℕ) → IsBytes bytes → length bytes < 12 → from_be_bytes w32 bytes ≤ MAX_MESSAGE_BYTES → IsShort sum bytes
few_front sum bytes h lt small =
    let fill : List ℕ = replicate (12 - length bytes) 0 in
    let filled : length fill ≡ 12 - length bytes = length-replicate (12 - length bytes) 0 in
    let p = bytes ++ fill in
    let size : length p ≡ 12 = omega (arith, length-append bytes fill, filled) in
    let hp : IsBytes p = bytes_filled bytes (12 - length bytes) h in
    let second = drop 4 (take 12 p) in
    let m = from_be_bytes w32 p in
    let n = from_be_bytes w64 second in
    let is : p ≡ front_bytes m n = sym (take_all p 12 size) ∙ front_read p (take 12 p) second m n hp (omega (arith, size)) refl refl refl refl in
    let message : List ℕ = replicate m 0 in
    let long : length message ≡ m = length-replicate m 0 in
    let e = entry n message in
    let more = eight (front_sum sum e) ++ message_bytes (front_sum sum e) message in
    record {
      whole = e;
      fits = record {
        key = below_8 second (bytes_behind 4 (take 12 p) (bytes_of_front 12 p hp));
        message = omega (arith, long, four_from_filled bytes (12 - length bytes), small);
      };
      cut = record {
        more = fill ++ more;
        some = omega (arith, length-append fill more, filled);
        whole = sym (append_assoc bytes fill more) ∙ ap (λ (f : List ℕ). f ++ more) (is ∙ ap (λ (k : ℕ). front_bytes k n) (sym long));
      };
    }

-- bytes of which each length of a message is too great
pub long_front : (sum : ℕ) (bytes : List ℕ) → MAX_MESSAGE_BYTES < from_be_bytes w32 bytes → IsUnsound sum bytes
long_front sum bytes long e fits x y eq =
    let n = length e.message in
    let behind : List ℕ = eight (front_sum sum e) ++ message_bytes (front_sum sum e) e.message in
    let parts : bytes ++ x ≡ four n ++ (eight e.key ++ (behind ++ y)) =
    eq ∙ append_assoc (front_bytes n e.key) behind y ∙ append_assoc (four n) (eight e.key) (behind ++ y) in
    let is : from_be_bytes w32 (bytes ++ x) ≡ n =
    ap (λ (b : List ℕ). from_be_bytes w32 b) parts ∙ four_from_four n (eight e.key ++ (behind ++ y)) (omega (arith, fits.message)) in
    omega (arith, long, least_four bytes x, is, fits.message)

-- bytes that begin with a front of an entry, and with its check in part
pub cut_front : (sum len key : ℕ) (bytes front rest : List ℕ) → len ≤ MAX_MESSAGE_BYTES → key < 2 ^ 64 → front ≡ front_bytes len key → bytes ≡ front ++ rest
    → IsCut (eight (sum_of sum front)) rest → IsShort sum bytes
cut_front sum len key bytes front rest small few is parts cut =
    let message : List ℕ = replicate len 0 in
    let size : length message ≡ len = length-replicate len 0 in
    let e = entry key message in
    let same : front ≡ front_bytes (length message) key = is ∙ ap (λ (n : ℕ). front_bytes n key) (sym size) in
    let more : List ℕ = message_bytes (front_sum sum e) message in
    record {
      whole = e;
      fits = record { key = few; message = omega (arith, size, small) };
      cut = record {
        more = cut.more ++ more;
        some = omega (arith, length-append cut.more more, cut.some);
        whole = ap (λ (b : List ℕ). b ++ (cut.more ++ more)) parts ∙ append_assoc front rest (cut.more ++ more)
            ∙ ap (λ (b : List ℕ). front ++ b) (sym (append_assoc rest cut.more more) ∙ ap (λ (b : List ℕ). b ++ more) cut.whole)
            ∙ ap (λ (f : List ℕ). f ++ (eight (sum_of sum f) ++ more)) same;
      };
    }

pub short_behind : (sum len key : ℕ) (bytes front rest more : List ℕ) → len ≤ MAX_MESSAGE_BYTES → key < 2 ^ 64 → front ≡ front_bytes len key
    → bytes ≡ front ++ rest
    → rest ≡ eight (sum_of sum front) ++ more → IsShortMessage len (sum_of sum front) more → IsShort sum bytes
short_behind sum len key bytes front rest more small few is parts e short =
    let whole = entry key short.whole in
    let same : front ≡ front_bytes (length short.whole) key = is ∙ ap (λ (n : ℕ). front_bytes n key) (sym short.size) in
    let m = short.cut.more in
    let c = eight (sum_of sum front) in
    record {
      whole = whole;
      fits = record { key = few; message = omega (arith, short.size, small) };
      cut = record {
        more = m;
        some = short.cut.some;
        whole = ap (λ (b : List ℕ). b ++ m) (parts ∙ ap (λ (b : List ℕ). front ++ b) e) ∙ append_assoc front (c ++ more) m
            ∙ ap (λ (b : List ℕ). front ++ b) (append_assoc c more m ∙ ap (λ (b : List ℕ). c ++ b) short.cut.whole)
            ∙ ap (λ (f : List ℕ). f ++ (eight (sum_of sum f) ++ message_bytes (sum_of sum f) short.whole)) same;
      };
    }

pub begins_behind : (sum len key : ℕ) (bytes front rest more message after_message : List ℕ) (after : ℕ) → len ≤ MAX_MESSAGE_BYTES → key < 2 ^ 64
    → front ≡ front_bytes len key → bytes ≡ front ++ rest → rest ≡ eight (sum_of sum front) ++ more
    → BeginsMessage len (sum_of sum front) more message after_message after → Begins sum bytes (entry key message) after_message after
begins_behind sum len key bytes front rest more message last after small few is parts e b =
    let same : front ≡ front_bytes (length message) key = is ∙ ap (λ (n : ℕ). front_bytes n key) (sym b.size) in
    let c = eight (sum_of sum front) in
    let mb = message_bytes (sum_of sum front) message in
    record {
      fits = record { key = few; message = omega (arith, b.size, small) };
      parts = parts ∙ ap (λ (x : List ℕ). front ++ x) (e ∙ ap (λ (x : List ℕ). c ++ x) b.parts ∙ sym (append_assoc c mb last))
          ∙ sym (append_assoc front (c ++ mb) last)
          ∙ ap (λ (f : List ℕ). (f ++ (eight (sum_of sum f) ++ message_bytes (sum_of sum f) message)) ++ last) same;
      sum_is = b.sum_is ∙ ap (λ (f : List ℕ). sum_of (sum_of sum f) message) same;
    }

-- what follows a front, where the bytes begin as an entry does
after_front : (sum len key : ℕ) (bytes front rest x y : List ℕ) (e : Entry) → front ≡ front_bytes len key → bytes ≡ front ++ rest
    → bytes ++ x ≡ entry_bytes sum e ++ y
    → (front ≡ front_bytes (length e.message) e.key) × (rest ++ x ≡ eight (sum_of sum front) ++ (message_bytes (sum_of sum front) e.message ++ y))
after_front sum len key bytes front rest x y e is parts eq =
    let f = front_bytes (length e.message) e.key in
    let c = eight (front_sum sum e) in
    let mb = message_bytes (front_sum sum e) e.message in
    let one : front ++ (rest ++ x) ≡ f ++ (c ++ (mb ++ y)) =
    sym (append_assoc front rest x) ∙ ap (λ (b : List ℕ). b ++ x) (sym parts) ∙ eq ∙ append_assoc f (c ++ mb) y
    ∙ ap (λ (b : List ℕ). f ++ b) (append_assoc c mb y) in
    let len_is : length front ≡ length f = ap (λ (b : List ℕ). length b) is ∙ length-front len key ∙ sym (length-front (length e.message) e.key) in
    let both = same_front front f (rest ++ x) (c ++ (mb ++ y)) len_is one in
    (both.0, both.1 ∙ ap (λ (g : List ℕ). eight (sum_of sum g) ++ (message_bytes (sum_of sum g) e.message ++ y)) (sym both.0))

pub front_unsound : (sum len key : ℕ) (bytes front rest : List ℕ) → front ≡ front_bytes len key → bytes ≡ front ++ rest
    → NeverBegins (eight (sum_of sum front)) rest → IsUnsound sum bytes
front_unsound sum len key bytes front rest is parts never e fits x y eq =
    never x (message_bytes (sum_of sum front) e.message ++ y) (after_front sum len key bytes front rest x y e is parts eq).1

pub unsound_behind : (sum len key : ℕ) (bytes front rest more : List ℕ) → len ≤ MAX_MESSAGE_BYTES → key < 2 ^ 64 → front ≡ front_bytes len key
    → bytes ≡ front ++ rest
    → rest ≡ eight (sum_of sum front) ++ more → IsUnsoundMessage len (sum_of sum front) more → IsUnsound sum bytes
unsound_behind sum len key bytes front rest more small few is parts r never e fits x y eq =
    let a = after_front sum len key bytes front rest x y e is parts eq in
    let c = eight (sum_of sum front) in
    let mb = message_bytes (sum_of sum front) e.message in
    let fours = same_front (four len) (four (length e.message)) (eight key) (eight e.key) (length-four len ∙ sym (length-four (length e.message)))
    (sym is ∙ a.0) in
    let size : length e.message ≡ len = sym (length_one len (length e.message) small fits.message fours.0) in
    let one : c ++ (more ++ x) ≡ c ++ (mb ++ y) = sym (append_assoc c more x) ∙ ap (λ (b : List ℕ). b ++ x) (sym r) ∙ a.1 in
    never e.message size x y (same_front c c (more ++ x) (mb ++ y) refl one).1

pub next_behind : (sum len key front_sum : ℕ) (bytes front rest more : List ℕ) (next : Next) → len ≤ MAX_MESSAGE_BYTES → key < 2 ^ 64
    → front ≡ front_bytes len key
    → bytes ≡ front ++ rest → front_sum ≡ sum_of sum front → rest ≡ eight front_sum ++ more → IsMessageNext len key front_sum more next → IsNext sum bytes next
next_behind sum len key fs bytes front rest more Short small few is parts s r next =
    short_behind sum len key bytes front rest more small few is parts (r ∙ ap (λ (k : ℕ). eight k ++ more) s)
    (subst (λ (k : ℕ). IsShortMessage len k more) s next)
next_behind sum len key fs bytes front rest more Unsound small few is parts s r next =
    unsound_behind sum len key bytes front rest more small few is parts (r ∙ ap (λ (k : ℕ). eight k ++ more) s)
    (subst (λ (k : ℕ). IsUnsoundMessage len k more) s next)
next_behind sum len key fs bytes front rest more (Whole f) small few is parts s r next =
    let b = begins_behind sum len key bytes front rest more f.message.now f.rest.now f.sum small few is parts (r ∙ ap (λ (k : ℕ). eight k ++ more) s)
    (subst (λ (k : ℕ). BeginsMessage len k more f.message.now f.rest.now f.sum) s next.0) in
    subst (λ (k : ℕ). Begins sum bytes (entry k f.message.now) f.rest.now f.sum) (sym next.1) b

-- ---- lengths

pub length-entry : (sum : ℕ) (e : Entry) → length (entry_bytes sum e) ≡ 28 + length e.message
length-entry sum e =
    let c = eight (front_sum sum e) in
    let last = eight (sum_of (front_sum sum e) e.message) in
    omega (
      arith,
      length-append (front_bytes (length e.message) e.key) (c ++ (e.message ++ last)),
      length-front (length e.message) e.key,
      length-append c (e.message ++ last),
      length-append e.message last,
      length-eight (front_sum sum e),
      length-eight (sum_of (front_sum sum e) e.message),
    )

-- less than an entry is less than the longest one
pub short_is_few : (sum : ℕ) (bytes : List ℕ) → IsShort sum bytes → length bytes < MAX_ENTRY_BYTES
short_is_few sum bytes s =
    let n : length (bytes ++ s.cut.more) ≡ length (entry_bytes sum s.whole) = ap (λ (b : List ℕ). length b) s.cut.whole in
    omega (arith, n, length-append bytes s.cut.more, s.cut.some, length-entry sum s.whole, s.fits.message)

-- and so is what is told of a call
pub next_is_few : (sum : ℕ) (bytes : List ℕ) (next : Next) → IsNext sum bytes next → next ≡ Short → length bytes < MAX_ENTRY_BYTES
next_is_few sum bytes next is e = short_is_few sum bytes (subst (λ (n : Next). IsNext sum bytes n) e is)

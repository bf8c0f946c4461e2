-- The head of a journal, from its parts.
use Rattle.std.proofs.Common.{◌≡◌, ℕ, zero, ◌<◌, ◌≤◌, ◌+◌, ◌-◌, List, [], ◌∷◌, ◌++◌, length, get_or, take, drop, suc, refl, sym, ap, ◌∙◌, arith}
use Rattle.std.proofs.Common.{append_assoc}
use Rattle.std.specs.Prelude.{Result, Ok, Err, OnErr}
use Rattle.std.proofs.lemmas.List.{length-append, append-nil, take-append-drop, length-take-le, drop_at}
use Rattle.std.proofs.Math.Seq.{drop-cons}
use Rattle.bw_journal.specs.Heads.{name_bytes, version_bytes, text_bytes, front_of, head_of, saved_front, BeginsHead, IsHead, IsForeign, BeginsText}
use Rattle.bw_journal.specs.Heads.{BeginsVersion, BeginsVersioned}
use Rattle.bw_journal.specs.Layout.{four}
use Rattle.bw_journal.specs.Reading.{IsCut, NeverBegins, IsPassed}
use Rattle.bw_journal.specs.declared.heads.Head.{Head}
use Rattle.bw_journal.specs.declared.heads.Head.TheVariants.{Begun, Whole, Saved, Version, Other, Damaged}
use Rattle.bw_journal.specs.declared.passing.Passed.{Passed}
use Rattle.bw_journal.specs.declared.passing.Passed.TheVariants.{Differs, Cut, Behind}
use Rattle.bw_journal.proofs.Lists.{same_front}
use Rattle.bw_journal.proofs.Numbers.{IsBytes, bytes_of_front, below_4, four_read, four_from_front, four_from_four, length-four}
use Rattle.std.specs.Int.{w32, from_be_bytes}

-- ---- one part behind another

pub behind_front : (front a b : List ℕ) → front ++ a ≡ front ++ b → a ≡ b
behind_front front a b e = (same_front front front a b refl e).1

cut_behind : (front want bytes rest : List ℕ) → bytes ≡ front ++ rest → IsCut want rest → IsCut (front ++ want) bytes
cut_behind front want bytes rest e c = record {
  more = c.more;
  some = c.some;
  whole = ap (λ (b : List ℕ). b ++ c.more) e ∙ append_assoc front rest c.more ∙ ap (λ (b : List ℕ). front ++ b) c.whole;
}

never_behind : (front want bytes rest : List ℕ) → bytes ≡ front ++ rest → NeverBegins want rest → NeverBegins (front ++ want) bytes
never_behind front want bytes rest parts never x y e =
    never x y (behind_front front (rest ++ x) (want ++ y)
    (sym (append_assoc front rest x) ∙ ap (λ (b : List ℕ). b ++ x) (sym parts) ∙ e ∙ append_assoc front want y))

-- what comes of the rest, where the front was passed
pub passed_behind : (want rest front bytes : List ℕ) (next : Passed) → IsPassed want rest next → bytes ≡ front ++ rest → IsPassed (front ++ want) bytes next
passed_behind want rest front bytes Differs is parts = never_behind front want bytes rest parts is
passed_behind want rest front bytes Cut is parts = cut_behind front want bytes rest parts is
passed_behind want rest front bytes (Behind last) is parts =
    parts ∙ ap (λ (b : List ℕ). front ++ b) is ∙ sym (append_assoc front want last.now)

-- ---- the head of this service or none

-- five parts one behind another are what stands in front of where a journal begins
pub front_parts : (origin : ℕ) (text : List ℕ) → (((name_bytes ++ version_bytes) ++ four (length text)) ++ text) ++ (origin ∷ []) ≡ front_of origin text
front_parts origin text = simp append_assoc

-- bytes that don't begin so, however they go on, don't as they are
pub never_in_front : (want bytes rest : List ℕ) → NeverBegins want bytes → bytes ≡ want ++ rest → ⊥
never_in_front want bytes rest never e = never [] rest (append-nil bytes ∙ e)

-- nor do those that are less than that
pub cut_not_in_front : (want bytes rest : List ℕ) → IsCut want bytes → bytes ≡ want ++ rest → ⊥
cut_not_in_front want bytes rest c e =
    let n : length (bytes ++ c.more) ≡ length want = ap (λ (b : List ℕ). length b) c.whole in
    let m : length bytes ≡ length (want ++ rest) = ap (λ (b : List ℕ). length b) e in
    omega (arith, n, m, length-append bytes c.more, length-append want rest, c.some)

-- where no head of this service is in front, the one that is there is another's
differs : (text bytes rest : List ℕ) (origin : ℕ) → NeverBegins (head_of text) bytes → ((more : List ℕ) → bytes ≡ saved_front text ++ more → ⊥) → origin ≤ 1
    → bytes ≡ front_of origin text ++ rest → ⊥
differs text bytes rest zero never none known e = never_in_front (head_of text) bytes rest never e
differs text bytes rest (suc zero) never none known e = none rest e
differs text bytes rest (suc (suc n)) never none known e = omega (arith, known)

-- where it isn't this service's, it is what it is for any
pub head_is : (text bytes : List ℕ) (head : Head) → NeverBegins (head_of text) bytes → ((more : List ℕ) → bytes ≡ saved_front text ++ more → ⊥)
    → IsForeign bytes head → IsHead text bytes head
head_is text bytes Begun never none is = absurd is
head_is text bytes (Whole rest) never none is = absurd is
head_is text bytes (Saved rest) never none is = absurd is
head_is text bytes (Version n) never none is = is
head_is text bytes Other never none is = record {
  begins = is;
  differs = λ same.
      differs text bytes is.rest is.origin never none is.known (is.parts ∙ ap (λ (t : List ℕ). front_of is.origin t ++ is.rest) same);
}
head_is text bytes Damaged never none is = record {
  none = is;
  not_cut = λ c. never c.more [] (c.whole ∙ sym (append-nil (head_of text)));
}

-- ---- behind the name

-- bytes that don't begin with the name begin with no head
pub no_name : (bytes : List ℕ) → NeverBegins name_bytes bytes → BeginsHead bytes → ⊥
no_name bytes never h = never [] ((version_bytes ++ text_bytes h.origin h.text) ++ h.rest) (append-nil bytes ∙ h.parts)

pub cut_name : (bytes : List ℕ) → IsCut name_bytes bytes → BeginsHead bytes → ⊥
cut_name bytes c h =
    cut_not_in_front name_bytes bytes ((version_bytes ++ text_bytes h.origin h.text) ++ h.rest) c h.parts

-- ---- a service's file behind its length

pub length-front_of : (origin : ℕ) (text : List ℕ) → length (front_of origin text) ≡ 16 + length text
length-front_of origin text =
    omega (
      arith,
      length-append name_bytes (version_bytes ++ text_bytes origin text),
      length-append version_bytes (text_bytes origin text),
      length-append (four (length text)) (text ++ (origin ∷ [])),
      length-append text (origin ∷ []),
      length-four (length text),
    )

pub length-head : (text : List ℕ) → length (head_of text) ≡ 16 + length text
length-head text = length-front_of 0 text

-- where there is no room for so many bytes, there is none for the head
pub full_is : {T E : Type 0} (result : Result T E) (capacity len : ℕ) (text : List ℕ) → capacity < len + (16 + length text)
    → OnErr result (capacity < len + length (head_of text))
full_is (Ok x) capacity len text lt = tt
full_is (Err e) capacity len text lt = omega (arith, lt, length-head text)

-- the parts of bytes that begin with a service's file
pub text_parts : (origin : ℕ) (text rest : List ℕ) → text_bytes origin text ++ rest ≡ four (length text) ++ (text ++ origin ∷ rest)
text_parts origin text rest =
    append_assoc (four (length text)) (text ++ (origin ∷ [])) rest ∙ ap (λ (b : List ℕ). four (length text) ++ b) (append_assoc text (origin ∷ []) rest)

pub few_no_text : (bytes : List ℕ) → length bytes < 4 → BeginsText bytes → ⊥
few_no_text bytes lt t =
    let behind : List ℕ = t.text ++ t.origin ∷ t.rest in
    let n : length bytes ≡ length (four (length t.text) ++ behind) = ap (λ (b : List ℕ). length b) (t.parts ∙ text_parts t.origin t.text t.rest) in
    omega (arith, lt, n, length-append (four (length t.text)) behind, length-four (length t.text))

origin_behind : (origin : ℕ) (text rest : List ℕ) → get_or (text ++ origin ∷ rest) (length text) 0 ≡ origin
origin_behind origin [] rest = refl
origin_behind origin (b ∷ text) rest = origin_behind origin text rest

-- behind the length of a service's file are so many bytes, and one that says where its journal begins
pub text_has : (bytes rest : List ℕ) (n : ℕ) → rest ≡ drop 4 bytes → n ≡ from_be_bytes w32 bytes → BeginsText bytes
    → (n < length rest) × (get_or rest n 0 ≤ 1)
text_has bytes rest n r e t =
    let all : List ℕ = t.text ++ t.origin ∷ t.rest in
    let parts : bytes ≡ four (length t.text) ++ all = t.parts ∙ text_parts t.origin t.text t.rest in
    let size : n ≡ length t.text = e ∙ ap (λ (b : List ℕ). from_be_bytes w32 b) parts ∙ four_from_four (length t.text) all t.named in
    let behind : rest ≡ all = r ∙ ap (λ (b : List ℕ). drop 4 b) parts ∙ drop_at (four (length t.text)) all 4 (length-four (length t.text)) in
    let long : length rest ≡ length t.text + suc (length t.rest) = ap (λ (b : List ℕ). length b) behind ∙ length-append t.text (t.origin ∷ t.rest) in
    let there : get_or rest n 0 ≡ t.origin =
    ap (λ (b : List ℕ). get_or b n 0) behind ∙ ap (λ (k : ℕ). get_or all k 0) size ∙ origin_behind t.origin t.text t.rest in
    (omega (arith, size, long), omega (arith, there, t.known))

-- and bytes of which that holds begin with one
pub text_found : (bytes rest : List ℕ) (n : ℕ) → IsBytes bytes → 4 ≤ length bytes → rest ≡ drop 4 bytes → n ≡ from_be_bytes w32 bytes → n < length rest
    → get_or rest n 0 ≤ 1 → BeginsText bytes
text_found bytes rest n h le r e lt known =
    let text : List ℕ = take n rest in
    let origin : ℕ = get_or rest n 0 in
    let last : List ℕ = drop (suc n) rest in
    let size : length text ≡ n = length-take-le n rest (omega (arith, lt)) in
    let front : four n ≡ take 4 bytes =
    four_read (take 4 bytes) n (bytes_of_front 4 bytes h) (length-take-le 4 bytes le) (e ∙ sym (four_from_front 4 bytes (omega arith))) in
    let behind : drop n rest ≡ origin ∷ last = drop-cons rest n 0 lt in
    let all : bytes ≡ four n ++ (text ++ drop n rest) =
    sym (take-append-drop 4 bytes) ∙ ap (λ (b : List ℕ). b ++ drop 4 bytes) (sym front)
    ∙ ap (λ (b : List ℕ). four n ++ b) (sym r ∙ sym (take-append-drop n rest)) in
    record {
      text = text;
      origin = origin;
      rest = last;
      named = omega (arith, size, e, below_4 bytes h);
      known = known;
      parts = all ∙ ap (λ (b : List ℕ). four n ++ (text ++ b)) behind ∙ ap (λ (k : ℕ). four k ++ (text ++ origin ∷ last)) (sym size)
          ∙ sym (text_parts origin text last);
    }

-- ---- a version

pub version_is : (bytes : List ℕ) (digit : ℕ) → 0 < length bytes → digit ≡ get_or bytes 0 0 → 50 ≤ digit → digit ≤ 57 → BeginsVersion bytes (digit - 48)
version_is [] digit some e low high = absurd (let n : 0 < 0 = some in omega (arith, n))
version_is (b ∷ bytes) digit some e low high =
    let is : b ≡ 48 + (digit - 48) = omega (arith, e, low) in
    record { rest = bytes; parts = ap (λ (x : ℕ). x ∷ bytes) is; low = omega (arith, low); high = omega (arith, high) }

-- bytes that don't begin with the version 1 begin with no head behind the name
pub no_version : (bytes : List ℕ) → NeverBegins version_bytes bytes → BeginsVersioned bytes → ⊥
no_version bytes never v = never [] v.rest (append-nil bytes ∙ v.parts)

pub cut_version : (bytes : List ℕ) → IsCut version_bytes bytes → BeginsVersioned bytes → ⊥
cut_version bytes c v =
    cut_not_in_front version_bytes bytes v.rest c v.parts

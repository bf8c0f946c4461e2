-- What bytes begin with, where more of them follow.
use Rattle.std.proofs.Common.{◌≡◌, ◌≤◌, ◌⊎◌, ◌+◌, ℕ, List, [], ◌∷◌, ◌++◌, length, Option, Some, None, refl, sym, ap, ◌∙◌, subst, inl, inr, arith, append_assoc}
use Rattle.std.proofs.lemmas.List.{append-nil, length-append}
use Rattle.std.specs.Prelude.{IfSome}
use Rattle.bw_journal.specs.Heads.{BeginsHead, HasNone, HasOther, HasVersion, front_of, head_of}
use Rattle.bw_journal.specs.Reading.{IsCut}
use Rattle.bw_journal.proofs.HeadParts.{length-front_of, length-head}
use Rattle.bw_recall.specs.Starting.{HasNoStart}
use Rattle.bw_recall.specs.declared.window.TheConstants.{MAX_TEXT_BYTES}

pub if_some : {A : Type 0} (o : Option A) (P : A → Type 0) → ((x : A) → o ≡ Some x → P x) → IfSome o P
if_some None P h = tt
if_some (Some x) P h = h x refl

pub version_more : (bytes more : List ℕ) (n : ℕ) → HasVersion bytes n → HasVersion (bytes ++ more) n
version_more bytes more n v = record {
  rest = v.rest ++ more;
  parts = ap (λ (x : List ℕ). x ++ more) v.parts;
  low = v.low;
  high = v.high;
}

abbrev begins_more : (bytes more : List ℕ) → BeginsHead bytes → BeginsHead (bytes ++ more)
begins_more bytes more h = record {
  text = h.text;
  origin = h.origin;
  rest = h.rest ++ more;
  named = h.named;
  known = h.known;
  parts = ap (λ (x : List ℕ). x ++ more) h.parts ∙ append_assoc (front_of h.origin h.text) h.rest more;
}

pub other_more : (text bytes more : List ℕ) → HasOther text bytes → HasOther text (bytes ++ more)
other_more text bytes more h = record { begins = begins_more bytes more h.begins; differs = h.differs }

-- bytes that begin alike: the shorter ones are the front of the others
pub same_front : (a b x y : List ℕ) → a ++ x ≡ b ++ y → length b ≤ length a → (r : List ℕ) × (a ≡ b ++ r)
same_front a [] x y e few = (a, refl)
same_front [] (q ∷ b) x y e few = absurd (omega arith)
same_front (p ∷ a) (q ∷ b) x y e few =
    let tails : a ++ x ≡ b ++ y = cc in
    let heads : p ≡ q = cc in
    let fewer : length b ≤ length a = omega (arith, few) in
    let s = same_front a b x y tails fewer in
    (s.0, ap (λ (k : ℕ). k ∷ a) heads ∙ ap (λ (l : List ℕ). q ∷ l) s.1)

-- the bytes at hand are all bytes, or as many as the longest head that is looked for
abbrev pub AreEnough : List ℕ → List ℕ → List ℕ → Type 0
AreEnough text held rest = (rest ≡ []) ⊎ (length (head_of text) + MAX_TEXT_BYTES ≤ length held)

pub no_start_more : (text held rest : List ℕ) → HasNone text held → AreEnough text held rest → HasNoStart text (held ++ rest)
no_start_more text held rest h (inl none) =
    let all : held ++ rest ≡ held = ap (λ (x : List ℕ). held ++ x) none ∙ append-nil held in
    record {
      none = λ b few. h.none (subst BeginsHead all b);
      not_cut = λ c. h.not_cut (subst (IsCut (head_of text)) all c);
    }
no_start_more text held rest h (inr enough) = record {
  none = λ b few.
      let front = front_of b.origin b.text in
      let within : length front ≤ length held = omega (arith, enough, few, length-head text, length-front_of b.origin b.text) in
      let f = same_front held front rest b.rest b.parts within in
      h.none (record { text = b.text; origin = b.origin; rest = f.0; named = b.named; known = b.known; parts = f.1 });
  not_cut = λ c.
      h.not_cut (record {
        more = rest ++ c.more;
        some = omega (arith, c.some, length-append rest c.more);
        whole = sym (append_assoc held rest c.more) ∙ c.whole;
      });
}

-- a first part of the head is all there is
pub cut_is_all : (text held rest : List ℕ) → IsCut (head_of text) held → AreEnough text held rest → rest ≡ []
cut_is_all text held rest c (inl none) = none
cut_is_all text held rest c (inr enough) =
    let size : length held + length c.more ≡ length (head_of text) = sym (length-append held c.more) ∙ ap (λ (x : List ℕ). length x) c.whole in
    absurd (omega (arith, c.some, size, enough))

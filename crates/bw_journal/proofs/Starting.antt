-- Where a journal starts is known by its bytes.
use Rattle.std.proofs.Common.{◌≡◌, ℕ, List, ◌∷◌, ◌++◌, length, refl, sym, ap, ◌∙◌, arith, append_assoc}
use Rattle.bw_journal.specs.Heads.{IsNamed, name_bytes, version_bytes, text_bytes, front_of, head_of, saved_front}
use Rattle.bw_journal.specs.Layout.{four, eight, sum_of}
use Rattle.bw_journal.specs.Saved.{FitsSaved, front_check, length_sum, saved_bytes}
use Rattle.bw_journal.specs.Starts.{StartsOnce, nothing, saved}
use Rattle.bw_journal.proofs.HeadParts.{behind_front, text_parts}
use Rattle.bw_journal.proofs.Lists.{same_front}
use Rattle.bw_journal.proofs.Numbers.{four_one, length-eight, length-four}
use Rattle.bw_journal.proofs.SavedWorlds.{number_of_saved}

-- behind the name and the version
behind_version : (a b : ℕ) (t u x y : List ℕ) → front_of a t ++ x ≡ front_of b u ++ y → four (length t) ++ (t ++ a ∷ x) ≡ four (length u) ++ (u ++ b ∷ y)
behind_version a b t u x y e =
    sym (text_parts a t x) ∙ behind_front (name_bytes ++ version_bytes) (text_bytes a t ++ x) (text_bytes b u ++ y) e ∙ text_parts b u y

same_first : (a b : ℕ) (x y : List ℕ) → a ∷ x ≡ b ∷ y → a ≡ b
same_first a b x y e = cc

-- what stands in front of where a journal begins ends with where that is
one_origin : (a b : ℕ) (text x y : List ℕ) → front_of a text ++ x ≡ front_of b text ++ y → a ≡ b
one_origin a b text x y e =
    same_first a b x y
    (behind_front text (a ∷ x) (b ∷ y) (behind_front (four (length text)) (text ++ a ∷ x) (text ++ b ∷ y) (behind_version a b text text x y e)))

-- so it is of two services
pub one_front : (a b : ℕ) (t u x y : List ℕ) → IsNamed t → IsNamed u → front_of a t ++ x ≡ front_of b u ++ y → a ≡ b
one_front a b t u x y nt nu e =
    let one = same_front (four (length t)) (four (length u)) (t ++ a ∷ x) (u ++ b ∷ y) (length-four (length t) ∙ sym (length-four (length u)))
    (behind_version a b t u x y e) in
    let size : length t ≡ length u = four_one (length t) (length u) nt nu one.0 in
    same_first a b x y (same_front t u (a ∷ x) (b ∷ y) size one.1).1

-- a saved world is what the bytes say
one_saved : (sum : ℕ) (a b rest more : List ℕ) → FitsSaved a → FitsSaved b → saved_bytes sum a ++ rest ≡ saved_bytes sum b ++ more → (a ≡ b) × (rest ≡ more)
one_saved sum a b rest more fa fb e =
    let size : length a ≡ length b =
    sym (number_of_saved sum (saved_bytes sum a ++ rest) a rest fa refl) ∙ number_of_saved sum (saved_bytes sum a ++ rest) b more fb e in
    let ca = eight (sum_of (length_sum sum a) a) in
    let cb = eight (sum_of (length_sum sum b) b) in
    let one : eight (length a) ++ (a ++ (ca ++ rest)) ≡ eight (length b) ++ (b ++ (cb ++ more)) =
    ap (λ (x : List ℕ). eight (length a) ++ x) (sym (append_assoc a ca rest)) ∙ sym (append_assoc (eight (length a)) (a ++ ca) rest) ∙ e
    ∙ append_assoc (eight (length b)) (b ++ cb) more ∙ ap (λ (x : List ℕ). eight (length b) ++ x) (append_assoc b cb more) in
    let two = same_front (eight (length a)) (eight (length b)) (a ++ (ca ++ rest)) (b ++ (cb ++ more))
    (length-eight (length a) ∙ sym (length-eight (length b))) one in
    let three = same_front a b (ca ++ rest) (cb ++ more) size two.1 in
    let last = same_front ca cb rest more
    (length-eight (sum_of (length_sum sum a) a) ∙ sym (length-eight (sum_of (length_sum sum b) b))) three.1 in
    (three.0, last.1)

pub starts_once : StartsOnce
starts_once text bytes rest more nothing nothing fa fb p q = (refl, (same_front (head_of text) (head_of text) rest more refl (sym p ∙ q)).1)
starts_once text bytes rest more nothing (saved b) fa fb p q =
    let behind = saved_bytes (front_check text) b in
    let never : 0 ≡ 1 = one_origin 0 1 text rest (behind ++ more) (sym p ∙ q ∙ append_assoc (saved_front text) behind more) in
    absurd (omega (arith, never))
starts_once text bytes rest more (saved a) nothing fa fb p q =
    let behind = saved_bytes (front_check text) a in
    let never : 0 ≡ 1 = one_origin 0 1 text more (behind ++ rest) (sym q ∙ p ∙ append_assoc (saved_front text) behind rest) in
    absurd (omega (arith, never))
starts_once text bytes rest more (saved a) (saved b) fa fb p q =
    let x = saved_bytes (front_check text) a in
    let y = saved_bytes (front_check text) b in
    let front = same_front (saved_front text) (saved_front text) (x ++ rest) (y ++ more) refl
    (sym (append_assoc (saved_front text) x rest) ∙ sym p ∙ q ∙ append_assoc (saved_front text) y more) in
    let both = one_saved (front_check text) a b rest more fa fb front.1 in
    (ap (λ (s : List ℕ). saved s) both.0, both.1)

-- The front of a file, of one byte more than may be, tells what the whole file is.
use Rattle.std.proofs.Common.{◌≡◌, ◌<◌, ◌≤◌, ℕ, List, inl, inr, subst, length, take, arith, Some, None, IfSome, ◌∙◌, Result}
use Rattle.std.specs.declared.option.Option.{Option}
use Rattle.std.proofs.lemmas.Grind.{common_steps}
use Rattle.std.proofs.lemmas.Bool.{cases_lt}
use Rattle.bw_out.specs.Told.{Disk}
use Rattle.bw_questions.specs.Asked.{file}
use Rattle.bw_questions.specs.Questions.{Question, ◌>>=◌, IsAnswer}
use Rattle.bw_questions.specs.declared.stop.Stop.{Stop}
use Rattle.bw_questions.proofs.Answering.{asks_next}

pub take_all : (n : ℕ) (s : List ℕ) → length s ≤ n → take n s ≡ s
take_all n s h = grind (arith, common_steps)

pub take_short : (n : ℕ) (s : List ℕ) → length (take n s) < n → take n s ≡ s
take_short n s h = grind (arith, common_steps)

pub take_length : (n : ℕ) (s : List ℕ) → n < length s → length (take n s) ≡ n
take_length n s h = grind (arith, common_steps)

-- a file that is too long is refused for that, as its front is, where there is one reason
pub refused_all : {F : Type 0} (R : List ℕ → F → Type 0) (long fault : F) (n : ℕ) (content : List ℕ) → ((bytes : List ℕ) → n ≤ length bytes → R bytes long)
    → (R (take n content) long → R (take n content) fault → long ≡ fault) → R (take n content) fault → R content fault
refused_all R long fault n content too_long one r = elim (cases_lt n (length content)) [
  | inr le ↦ subst (λ b. R b fault) (take_all n content le) r
  | inl gt ↦
      let full : n ≤ length (take n content) = omega (arith, take_length n content gt) in
      let whole : n ≤ length content = omega arith in
      subst (R content) (one (too_long (take n content) full) r) (too_long content whole)
]

-- so what the front answers is what the file does
pub front_answers : {A B : Type 0} (seen : B → A) (told : Option Disk) (next : List ℕ → Question A) (name bytes given : List ℕ) (n : ℕ) (r : Result B Stop)
    → ((content : List ℕ) → IsAnswer seen (next (take n content)) r → IsAnswer seen (next content) r)
    → IfSome told (λ disk. (content : List ℕ) × (disk name ≡ Some content) × (bytes ≡ take n content)) → given ≡ bytes → IsAnswer seen (next given) r
    → IfSome told (λ disk. IsAnswer seen (file disk name >>= next) r)
front_answers seen None next name bytes given n r all found e a = tt
front_answers seen (Some disk) next name bytes given n r all found e a =
    asks_next seen (file disk name) next found.0 r found.1 (all found.0 (subst (λ b. IsAnswer seen (next b) r) (e ∙ found.2) a))

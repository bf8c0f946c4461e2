-- Questions, one after another: what the program finds out before it does its work.
use Rattle.std.specs.Prelude.{◌≡◌, ◌⊎◌, ℕ, List, [], ◌∷◌, ◌++◌, Result, MatchResult, ⊤}
use Rattle.bw_command.specs.Codes.{status_for}
use Rattle.bw_command.specs.declared.status.Status.{Status}
use Rattle.bw_questions.specs.declared.stop.Stop.{Stop}
use Rattle.bw_questions.specs.declared.stop.Stop.TheVariants.{Says, ReadFault, Memory}

-- a line with its end
abbrev pub line : List ℕ → List ℕ
line text = text ++ 10 ∷ []

-- what is said where a question goes wrong, or at the end: a status, and the text that is printed
pub record Said : Type 0 where
  pub status : Status
  pub text : List ℕ

-- A question: the values that it gives, and what is said where it gives none.
pub record Question (A : Type 0) : Type 1 where
  pub gives : A → Type 0
  pub says : Said → Type 0

-- a question, and then one about its value: it ends with the first that gives none
infixl 10 ◌>>=◌
abbrev pub ◌>>=◌ : {A B : Type 0} → Question A → (A → Question B) → Question B
◌>>=◌ {A = A} question next = record {
  gives = λ b. (a : A) × question.gives a × (next a).gives b;
  says = λ said. question.says said ⊎ ((a : A) × question.gives a × (next a).says said);
}

-- no question is left
abbrev pub found : {A : Type 0} → A → Question A
found value = record { gives = λ b. b ≡ value; says = λ said. ⊥ }

-- the code stopped at a question; a read fault and want of memory are free here, and have their causes elsewhere
abbrev pub IsStop : {A : Type 0} → Question A → Stop → Type 0
IsStop question (Says refusal text) = question.says (record { status = status_for refusal; text = text.items })
IsStop question ReadFault = ⊤
IsStop question Memory = ⊤

-- the code's answer, whose value is seen so, is one of the question's
abbrev pub IsAnswer : {A B : Type 0} → (B → A) → Question A → Result B Stop → Type 0
IsAnswer seen question result = MatchResult result (λ value. question.gives (seen value)) (IsStop question)

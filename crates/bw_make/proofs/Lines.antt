-- The lines of the pages from one number on.
use Rattle.std.proofs.Common.{◌≡◌, ◌++◌, ◌+◌, ◌-◌, ◌<◌, ◌∷◌, ℕ, suc, List, ap, ◌∙◌, append_assoc, sym, arith, flat_map}
use Rattle.std.specs.List.{range_with_len}

one_less : (page n : ℕ) → page < n → n - page ≡ suc (n - (page + 1))
one_less page n less = omega (arith, less)

-- the numbers from one on are it and those from the next on
first_taken : (page n : ℕ) → page < n → range_with_len page (n - page) ≡ page ∷ range_with_len (page + 1) (n - (page + 1))
first_taken page n less = ap (range_with_len page) (one_less page n less)

-- where the line of a page has come behind a text, it and the lines to come are what they were before
pub goes_on : (f : ℕ → List ℕ) (text longer whole : List ℕ) (page n : ℕ) → page < n → longer ≡ text ++ f page
    → text ++ flat_map f (range_with_len page (n - page)) ≡ whole → longer ++ flat_map f (range_with_len (page + 1) (n - (page + 1))) ≡ whole
goes_on f text longer whole page n less grown there =
    ap (λ t. t ++ flat_map f (range_with_len (page + 1) (n - (page + 1)))) grown ∙ append_assoc text (f page) _
    ∙ ap (λ pages. text ++ flat_map f pages) (sym (first_taken page n less)) ∙ there

-- three parts that are put behind a text one after another
pub three : (text a b c t₁ t₂ t₃ : List ℕ) → t₁ ≡ text ++ a → t₂ ≡ t₁ ++ b → t₃ ≡ t₂ ++ c → t₃ ≡ text ++ (a ++ (b ++ c))
three text a b c t₁ t₂ t₃ first second third =
    third ∙ ap (λ t. t ++ c) second ∙ append_assoc t₁ b c ∙ ap (λ t. t ++ (b ++ c)) first ∙ append_assoc text a (b ++ c)

-- and five
pub five : (text a b c d e t₁ t₂ t₃ t₄ t₅ : List ℕ) → t₁ ≡ text ++ a → t₂ ≡ t₁ ++ b → t₃ ≡ t₂ ++ c → t₄ ≡ t₃ ++ d → t₅ ≡ t₄ ++ e
    → t₅ ≡ text ++ (a ++ (b ++ (c ++ (d ++ e))))
five text a b c d e t₁ t₂ t₃ t₄ t₅ first second third fourth fifth =
    three t₂ c d e t₃ t₄ t₅ third fourth fifth ∙ ap (λ t. t ++ (c ++ (d ++ e))) second ∙ append_assoc t₁ b _
    ∙ ap (λ t. t ++ (b ++ (c ++ (d ++ e)))) first ∙ append_assoc text a _

-- and four
pub four : (text a b c d t₁ t₂ t₃ t₄ : List ℕ) → t₁ ≡ text ++ a → t₂ ≡ t₁ ++ b → t₃ ≡ t₂ ++ c → t₄ ≡ t₃ ++ d → t₄ ≡ text ++ (a ++ (b ++ (c ++ d)))
four text a b c d t₁ t₂ t₃ t₄ first second third fourth =
    three t₁ b c d t₂ t₃ t₄ second third fourth ∙ ap (λ t. t ++ (b ++ (c ++ d))) first ∙ append_assoc text a _

-- a part may stand for what it equals
pub shown_as : (whole text part same : List ℕ) → whole ≡ text ++ part → part ≡ same → whole ≡ text ++ same
shown_as whole text part same behind equal = behind ∙ ap (λ p. text ++ p) equal

-- and so may the text that it stands behind
pub begun_as : (whole text same parts : List ℕ) → whole ≡ text ++ parts → text ≡ same → whole ≡ same ++ parts
begun_as whole text same parts put equal = put ∙ ap (λ t. t ++ parts) equal

-- What a byte of a string tells.
use Rattle.std.proofs.Common.{◌≡◌, ℕ, ◌+◌, ◌<◌, Bool, true, false, List, [], ◌∷◌, ◌++◌, length, get_or, drop, ap, ◌∙◌, arith, ◌⊎◌}
use Rattle.std.proofs.lemmas.List.{drop_more}
use Rattle.std.proofs.lemmas.Bool.Decides.{nat_tests}
use Rattle.bw_lex.specs.declared.pieces.StringByte.TheVariants as inside
use Rattle.bw_lex.specs.Pieces.{string_byte, string_at, string}

-- behind a backslash: one of the three
pub stands_escaped : (b c : ℕ) → string_byte true b ≡ inside.Stands c → ((c ≡ b) × ((b ≡ 34) ⊎ (b ≡ 92))) ⊎ ((b ≡ 110) × (c ≡ 10))
stands_escaped b c e = grind (arith, nat_tests)

-- and else any byte but the three that mean something else
pub stands_plain : (b c : ℕ) → string_byte false b ≡ inside.Stands c → (c ≡ b) × ((b ≡ 34 → ⊥) × (b ≡ 92 → ⊥) × (b ≡ 10 → ⊥))
stands_plain b c e = (grind (arith, nat_tests), (λ q. grind (arith, nat_tests), λ q. grind (arith, nat_tests), λ q. grind (arith, nat_tests)))

pub escapes_is : (escaped : Bool) (b : ℕ) → string_byte escaped b ≡ inside.Escapes → (escaped ≡ false) × (b ≡ 92)
escapes_is true b e = grind (arith, nat_tests)
escapes_is false b e = grind (arith, nat_tests)

pub closes_is : (escaped : Bool) (b : ℕ) → string_byte escaped b ≡ inside.Closes → (escaped ≡ false) × (b ≡ 34)
closes_is true b e = grind (arith, nat_tests)
closes_is false b e = grind (arith, nat_tests)

-- a string at a byte that stands for a byte of the text, and at a backslash
pub string-stands : (bad escaped : Bool) (text bytes : List ℕ) (n m c : ℕ) → n < length bytes
    → string_byte escaped (get_or bytes n 0) ≡ inside.Stands c
    → string bad escaped text m (drop n bytes) ≡ string bad false (text ++ c ∷ []) (m + 1) (drop (n + 1) bytes)
string-stands bad escaped text bytes n m c h e =
    ap (string bad escaped text m) (drop_more bytes n 0 h)
    ∙ ap (λ s. string_at s text m (λ c. string bad false (text ++ c ∷ []) (m + 1) (drop (n + 1) bytes)) (string bad true text (m + 1) (drop (n + 1) bytes))) e

pub string-escapes : (bad escaped : Bool) (text bytes : List ℕ) (n m : ℕ) → n < length bytes → string_byte escaped (get_or bytes n 0) ≡ inside.Escapes
    → string bad escaped text m (drop n bytes) ≡ string bad true text (m + 1) (drop (n + 1) bytes)
string-escapes bad escaped text bytes n m h e =
    ap (string bad escaped text m) (drop_more bytes n 0 h)
    ∙ ap (λ s. string_at s text m (λ c. string bad false (text ++ c ∷ []) (m + 1) (drop (n + 1) bytes)) (string bad true text (m + 1) (drop (n + 1) bytes))) e

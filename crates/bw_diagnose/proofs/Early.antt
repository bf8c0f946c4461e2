-- Declarations are found among the tokens that there are.
use Rattle.std.proofs.Common.{◌≡◌, ◌<◌, ◌≤◌, ℕ, zero, suc, ◌+◌, List, [], ◌∷◌, length, get_or, Option, Some, refl, ap, sym, subst, arith}
use Rattle.bw_lang.specs.declared.declaration.Draft.{Draft}
use Rattle.bw_places.specs.Counts.{draft_tokens, drafts_tokens}
use Rattle.bw_places.specs.Drafted.{draft_of, drafts_of}
use Rattle.bw_places.specs.Seeking.{declared_at, run}
use Rattle.bw_places.specs.declared.span.Span.{Span}
use Rattle.bw_places.specs.declared.spelled.Spelled.{Spelled}

the_same : (a b : Span) → Some a ≡ Some b → a ≡ b
the_same a b e = cc

pub declared_early : (ds : List Draft) (n at : ℕ) (own : Span) → declared_at ds n at ≡ Some own → own.from ≤ at + drafts_tokens ds
declared_early [] n at own e = absurd (cc)
declared_early (d ∷ ds) zero at own e =
    subst (λ (s : Span). s.from ≤ at + drafts_tokens (d ∷ ds)) (the_same (run at (draft_tokens d)) own e) (omega arith)
declared_early (d ∷ ds) (suc n) at own e = omega (arith, declared_early ds n (at + draft_tokens d) own e)

-- a declaration has no more tokens than all of them
pub declaration_is_few : (xs : List Spelled) (n : ℕ) (x : Spelled) → x ≡ get_or xs n x → n < length xs
    → draft_tokens (draft_of x) ≤ drafts_tokens (drafts_of xs)
declaration_is_few [] n x e h = absurd (omega arith)
declaration_is_few (y ∷ xs) zero x e h =
    let f : draft_tokens (draft_of x) ≡ draft_tokens (draft_of y) = ap (λ (z : Spelled). draft_tokens (draft_of z)) e in omega (arith, f)
declaration_is_few (y ∷ xs) (suc n) x e h = omega (arith, declaration_is_few xs n x e (omega arith))

use Rattle.std.proofs.Common.{◌≡◌, ◌∙◌, ℕ, List, [], ◌∷◌, ◌++◌, ap, length, eqb, true, false, refl}
use Rattle.bw_recall.proofs.handling.is_all.Goals as goal

-- something stands in front
not_nil : (a b : List ℕ) → (a ≡ [] → ⊥) → a ++ b ≡ [] → ⊥
not_nil [] b never e = never refl
not_nil (x ∷ a) b never e = absurd cc

some : (a b : List ℕ) → a ≡ b → false ≡ eqb (length a) 0 → b ≡ [] → ⊥
some a b e f none =
    let t : eqb (length a) 0 ≡ true = ap (λ (x : List ℕ). eqb (length x) 0) (e ∙ none) in
    let u = f ∙ t in
    cc

pub returns-else-is_empty : goal.returns-else-is_empty
returns-else-is_empty c = (
  λ yes. let f = c.if-is_empty.false in absurd cc,
  λ e. absurd (not_nil c.args.intake.now c.args.source.now.left (some c.bytes.result.now c.args.intake.now c.bytes.ensures.value c.if-is_empty.ensures) e),
)

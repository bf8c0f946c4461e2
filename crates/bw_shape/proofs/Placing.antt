-- Templates that are taken in, each once.
use Rattle.std.proofs.Common.{◌≡◌, inl, inr, ℕ, ◌+◌, ◌<◌, ◌++◌, Bool, true, false, List, [], ◌∷◌, length, set, get_or, replicate, ap, sym, ◌∙◌, subst, arith}
use Rattle.std.specs.List.{All, Contains}
use Rattle.std.proofs.lemmas.Bool.{false≢true}
use Rattle.std.proofs.lemmas.List.{get_or-set_same, length-set, get_or_default, length-replicate}
use Rattle.std.proofs.lemmas.List.Elements.{All-push, Contains-append_left, Contains-push}
use Rattle.bw_shape.specs.Rows.Rows.{flag}
use Rattle.bw_shape.specs.Reach.{Takes, Placed}
use Rattle.bw_shape.proofs.Reaching.{set_keeps, set_news, all_clear}
use Rattle.bw_shape.proofs.Rows.Steps.{equal_or}
use Rattle.bw_shape.proofs.Rows.Waking.{last}

-- no template yet
pub placed_none : (rows : ℕ) → Placed rows (replicate rows false) []
placed_none rows = record {
  len = length-replicate {A = Bool} rows false;
  listed = λ n h. absurd (false≢true (sym (all_clear rows n) ∙ h));
  small = λ i d l. absurd (omega (arith, l));
}

-- one more
pub placed_more : (rows to : ℕ) (placed : List Bool) (back : List ℕ) (placed2 : List Bool) (back2 : List ℕ) → to < rows → Placed rows placed back
    → Takes to placed back placed2 back2 → Placed rows placed2 back2
placed_more rows to placed back placed2 back2 l p (inl t) = subst (λ s. Placed rows s back2) (sym t.1) (subst (Placed rows placed) (sym t.2) p)
placed_more rows to placed back placed2 back2 l p (inr t) =
    subst (λ s. Placed rows s back2) (sym t.1) (subst (Placed rows (set placed to true)) (sym t.2) (record {
      len = length-set placed to true ∙ p.len;
      listed = λ n h. elim (set_news placed to n (equal_or n to) h) [
        | inl it ↦ Contains-append_left back (to ∷ []) n (p.listed n it)
        | inr it ↦ subst (λ j. Contains (back ++ to ∷ []) j) (sym it) (Contains-push back to)
      ];
      small = All-push (λ n. n < rows) back to p.small l;
    }))

-- it is marked, and those that were stay so
pub takes_here : (to : ℕ) (placed : List Bool) (back : List ℕ) (placed2 : List Bool) (back2 : List ℕ) → to < length placed
    → Takes to placed back placed2 back2 → flag placed2 to ≡ true
takes_here to placed back placed2 back2 l (inl t) = ap (λ s. flag s to) t.1 ∙ t.0
takes_here to placed back placed2 back2 l (inr t) = ap (λ s. flag s to) t.1 ∙ get_or-set_same placed to true false l

pub takes_keeps : (to n : ℕ) (placed : List Bool) (back : List ℕ) (placed2 : List Bool) (back2 : List ℕ) → to < length placed
    → Takes to placed back placed2 back2 → flag placed n ≡ true → flag placed2 n ≡ true
takes_keeps to n placed back placed2 back2 l (inl t) h = ap (λ s. flag s n) t.1 ∙ h
takes_keeps to n placed back placed2 back2 l (inr t) h = ap (λ s. flag s n) t.1 ∙ set_keeps placed to n l (equal_or n to) h

-- one more of a list
pub marks_more : (order : List ℕ) (k : ℕ) (placed placed2 : List Bool)
    → ((n : ℕ) → flag placed n ≡ true → flag placed2 n ≡ true) → flag placed2 (get_or order k 0) ≡ true
    → ((i : ℕ) → i < k → flag placed (get_or order i 0) ≡ true) → (i : ℕ) → i < k + 1 → flag placed2 (get_or order i 0) ≡ true
marks_more order k placed placed2 keep here h i l = elim (last k i l) [
  | inl it ↦ keep (get_or order i 0) (h i it)
  | inr it ↦ subst (λ j. flag placed2 (get_or order j 0) ≡ true) (sym it) here
]

-- all of a list
pub all_marked : (order : List ℕ) (placed : List Bool) → ((i : ℕ) → i < length order → flag placed (get_or order i 0) ≡ true)
    → All (λ n. flag placed n ≡ true) order
all_marked order placed h i d l = subst (λ n. flag placed n ≡ true) (get_or_default order i 0 d l) (h i l)

-- what is marked is there
pub all_there : (rows : ℕ) (order : List ℕ) (placed : List Bool) (back : List ℕ) → Placed rows placed back → All (λ n. flag placed n ≡ true) order
    → (n : ℕ) → Contains order n → Contains back n
all_there rows order placed back p h n c = p.listed n (subst (λ m. flag placed m ≡ true) c.2 (h c.0 n c.1))

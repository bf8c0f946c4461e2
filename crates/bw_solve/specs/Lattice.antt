-- What a lattice has to obey.
use Rattle.std.specs.Prelude.{◌≡◌, ℕ, ◌<◌, ◌≤◌, Bool, true, false}

-- `alike` relates two well formed values that may be joined; the order, the joins and the numbers are lawful among such values
pub record IsLattice {V : Type 0} (alike : V → V → Type 0) (below : V → V → Bool) (join : V → V → V) (size rank : V → ℕ) : Type 0 where
  pub alike_symm : (a b : V) → alike a b → alike b a
  pub alike_trans : (a b c : V) → alike a b → alike b c → alike a c
  pub below_refl : (a : V) → alike a a → below a a ≡ true
  pub below_trans : (a b c : V) → alike a b → alike b c → below a b ≡ true → below b c ≡ true → below a c ≡ true
  -- a join is alike with both sides, by symmetry and transitivity
  pub join_alike : (a b : V) → alike a b → alike (join a b) a
  -- it is the least upper bound
  pub join_left : (a b : V) → alike a b → below a (join a b) ≡ true
  pub join_right : (a b : V) → alike a b → below b (join a b) ≡ true
  pub join_least : (a b c : V) → alike a b → alike b c → below a c ≡ true → below b c ≡ true → below (join a b) c ≡ true
  pub size_grows : (a b : V) → alike a b → below a b ≡ true → size a ≤ size b
  pub rank_grows : (a b : V) → alike a b → below a b ≡ true → rank a ≤ rank b
  -- the rank rises wherever a value really grows
  pub rank_rises : (a b : V) → alike a b → below a b ≡ true → below b a ≡ false → rank a < rank b

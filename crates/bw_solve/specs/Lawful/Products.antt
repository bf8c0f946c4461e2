-- Two lattices side by side, as the parts of a struct are.
use Rattle.std.specs.Prelude.{◌≡◌, ℕ, ◌+◌, ◌<◌, ◌≤◌, Bool, true, false, ◌&&◌}
use Rattle.std.proofs.Common.{refl, sym, subst, arith}
use Rattle.std.proofs.lemmas.Bool.{and_parts, and_from}
use Rattle.bw_solve.specs.Lattice.{IsLattice}

-- one of the two grew, and the other didn't fall
pub sum_rises : (p q : Bool) (a b c d : ℕ) → (p && q) ≡ false → a ≤ c → b ≤ d → (p ≡ false → a < c) → (q ≡ false → b < d) → a + b < c + d
sum_rises true q a b c d e h k f g = let l : b < d = g e in omega arith
sum_rises false q a b c d e h k f g = let l : a < c = f refl in omega arith

pub pair_lattice : {V W : Type 0} {alike : V → V → Type 0} {below : V → V → Bool} {join : V → V → V} {size rank : V → ℕ}
    {alike2 : W → W → Type 0} {below2 : W → W → Bool} {join2 : W → W → W} {size2 rank2 : W → ℕ}
    → IsLattice alike below join size rank → IsLattice alike2 below2 join2 size2 rank2
    → IsLattice {V = V × W} (λ a b. alike a.0 b.0 × alike2 a.1 b.1) (λ a b. below a.0 b.0 && below2 a.1 b.1) (λ a b. (join a.0 b.0, join2 a.1 b.1))
    (λ a. size a.0 + size2 a.1) (λ a. rank a.0 + rank2 a.1)
pair_lattice {below = below} {join = join} {rank = rank} {below2 = below2} {join2 = join2} {rank2 = rank2} L M = record {
  alike_symm = λ a b h. (L.alike_symm a.0 b.0 h.0, M.alike_symm a.1 b.1 h.1);
  alike_trans = λ a b c h k. (L.alike_trans a.0 b.0 c.0 h.0 k.0, M.alike_trans a.1 b.1 c.1 h.1 k.1);
  below_refl = λ a h. and_from (below a.0 a.0) (below2 a.1 a.1) (L.below_refl a.0 h.0) (M.below_refl a.1 h.1);
  below_trans = λ a b c h k p q.
      let pp = and_parts (below a.0 b.0) (below2 a.1 b.1) p in
      let qq = and_parts (below b.0 c.0) (below2 b.1 c.1) q in
      and_from (below a.0 c.0) (below2 a.1 c.1) (L.below_trans a.0 b.0 c.0 h.0 k.0 pp.0 qq.0) (M.below_trans a.1 b.1 c.1 h.1 k.1 pp.1 qq.1);
  join_alike = λ a b h. (L.join_alike a.0 b.0 h.0, M.join_alike a.1 b.1 h.1);
  join_left = λ a b h. and_from (below a.0 (join a.0 b.0)) (below2 a.1 (join2 a.1 b.1)) (L.join_left a.0 b.0 h.0) (M.join_left a.1 b.1 h.1);
  join_right = λ a b h. and_from (below b.0 (join a.0 b.0)) (below2 b.1 (join2 a.1 b.1)) (L.join_right a.0 b.0 h.0) (M.join_right a.1 b.1 h.1);
  join_least = λ a b c h k p q.
      let pp = and_parts (below a.0 c.0) (below2 a.1 c.1) p in
      let qq = and_parts (below b.0 c.0) (below2 b.1 c.1) q in
      and_from (below (join a.0 b.0) c.0) (below2 (join2 a.1 b.1) c.1) (L.join_least a.0 b.0 c.0 h.0 k.0 pp.0 qq.0)
      (M.join_least a.1 b.1 c.1 h.1 k.1 pp.1 qq.1);
  size_grows = λ a b h p. let pp = and_parts (below a.0 b.0) (below2 a.1 b.1) p in omega (arith, L.size_grows a.0 b.0 h.0 pp.0, M.size_grows a.1 b.1 h.1 pp.1);
  rank_grows = λ a b h p. let pp = and_parts (below a.0 b.0) (below2 a.1 b.1) p in omega (arith, L.rank_grows a.0 b.0 h.0 pp.0, M.rank_grows a.1 b.1 h.1 pp.1);
  rank_rises = λ a b h p n.
      let pp = and_parts (below a.0 b.0) (below2 a.1 b.1) p in
      sum_rises (below b.0 a.0) (below2 b.1 a.1) (rank a.0) (rank2 a.1) (rank b.0) (rank2 b.1) n (L.rank_grows a.0 b.0 h.0 pp.0) (M.rank_grows a.1 b.1 h.1 pp.1)
      (L.rank_rises a.0 b.0 h.0 pp.0) (M.rank_rises a.1 b.1 h.1 pp.1);
}

-- a struct whose parts are those of another lattice
pub on_lattice : {V W : Type 0} {alike : V → V → Type 0} {below : V → V → Bool} {join : V → V → V} {size rank : V → ℕ}
    (parts : W → V) (join2 : W → W → W) → ((a b : W) → parts (join2 a b) ≡ join (parts a) (parts b))
    → IsLattice alike below join size rank
    → IsLattice {V = W} (λ a b. alike (parts a) (parts b)) (λ a b. below (parts a) (parts b)) join2 (λ a. size (parts a)) (λ a. rank (parts a))
on_lattice {alike = alike} {below = below} parts join2 same L = record {
  alike_symm = λ a b h. L.alike_symm (parts a) (parts b) h;
  alike_trans = λ a b c h k. L.alike_trans (parts a) (parts b) (parts c) h k;
  below_refl = λ a h. L.below_refl (parts a) h;
  below_trans = λ a b c h k p q. L.below_trans (parts a) (parts b) (parts c) h k p q;
  join_alike = λ a b h. subst (λ v. alike v (parts a)) (sym (same a b)) (L.join_alike (parts a) (parts b) h);
  join_left = λ a b h. subst (λ v. below (parts a) v ≡ true) (sym (same a b)) (L.join_left (parts a) (parts b) h);
  join_right = λ a b h. subst (λ v. below (parts b) v ≡ true) (sym (same a b)) (L.join_right (parts a) (parts b) h);
  join_least = λ a b c h k p q. subst (λ v. below v (parts c) ≡ true) (sym (same a b)) (L.join_least (parts a) (parts b) (parts c) h k p q);
  size_grows = λ a b h p. L.size_grows (parts a) (parts b) h p;
  rank_grows = λ a b h p. L.rank_grows (parts a) (parts b) h p;
  rank_rises = λ a b h p n. L.rank_rises (parts a) (parts b) h p n;
}

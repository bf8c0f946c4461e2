-- The laws of rows: they are a lattice, part by part.
use Rattle.std.specs.Prelude.{◌≡◌, ℕ, ◌<◌, ◌≤◌, Bool, true, false, List, [], ◌∷◌}
use Rattle.std.proofs.Common.{refl, sym, arith}
use Rattle.std.proofs.lemmas.Bool.{and_parts, and_from, false≢true}
use Rattle.bw_solve.specs.Lattice.{IsLattice}
use Rattle.bw_solve.specs.Lawful.Products.{sum_rises}
use Rattle.bw_analyse.specs.Rows.{EachAlike, each_below, each_join, all_sizes}

module _ {V : Type 0} {alike : V → V → Type 0} {below : V → V → Bool} {join : V → V → V} {size rank : V → ℕ} (L : IsLattice alike below join size rank) where
  symm : (a b : List V) → EachAlike alike a b → EachAlike alike b a
  symm [] [] h = tt
  symm (a ∷ xs) (b ∷ ys) h = (L.alike_symm a b h.0, symm xs ys h.1)
  symm [] (b ∷ ys) h = absurd h
  symm (a ∷ xs) [] h = absurd h

  trans : (a b c : List V) → EachAlike alike a b → EachAlike alike b c → EachAlike alike a c
  trans [] [] [] h k = tt
  trans (a ∷ xs) (b ∷ ys) (c ∷ zs) h k = (L.alike_trans a b c h.0 k.0, trans xs ys zs h.1 k.1)
  trans [] [] (c ∷ zs) h k = absurd k
  trans (a ∷ xs) (b ∷ ys) [] h k = absurd k
  trans [] (b ∷ ys) c h k = absurd h
  trans (a ∷ xs) [] c h k = absurd h

  itself : (a : List V) → EachAlike alike a a → each_below below a a ≡ true
  itself [] h = refl
  itself (a ∷ xs) h = and_from (below a a) (each_below below xs xs) (L.below_refl a h.0) (itself xs h.1)

  below_all : (a b c : List V) → EachAlike alike a b → EachAlike alike b c → each_below below a b ≡ true → each_below below b c ≡ true
      → each_below below a c ≡ true
  below_all [] [] [] h k p q = refl
  below_all (a ∷ xs) (b ∷ ys) (c ∷ zs) h k p q =
      let pp = and_parts (below a b) (each_below below xs ys) p in
      let qq = and_parts (below b c) (each_below below ys zs) q in
      and_from (below a c) (each_below below xs zs) (L.below_trans a b c h.0 k.0 pp.0 qq.0) (below_all xs ys zs h.1 k.1 pp.1 qq.1)
  below_all [] [] (c ∷ zs) h k p q = absurd k
  below_all (a ∷ xs) (b ∷ ys) [] h k p q = absurd k
  below_all [] (b ∷ ys) c h k p q = absurd h
  below_all (a ∷ xs) [] c h k p q = absurd h

  joins : (a b : List V) → EachAlike alike a b → EachAlike alike (each_join join a b) a
  joins [] [] h = tt
  joins (a ∷ xs) (b ∷ ys) h = (L.join_alike a b h.0, joins xs ys h.1)
  joins [] (b ∷ ys) h = absurd h
  joins (a ∷ xs) [] h = absurd h

  left : (a b : List V) → EachAlike alike a b → each_below below a (each_join join a b) ≡ true
  left [] [] h = refl
  left (a ∷ xs) (b ∷ ys) h = and_from (below a (join a b)) (each_below below xs (each_join join xs ys)) (L.join_left a b h.0) (left xs ys h.1)
  left [] (b ∷ ys) h = absurd h
  left (a ∷ xs) [] h = absurd h

  right : (a b : List V) → EachAlike alike a b → each_below below b (each_join join a b) ≡ true
  right [] [] h = refl
  right (a ∷ xs) (b ∷ ys) h = and_from (below b (join a b)) (each_below below ys (each_join join xs ys)) (L.join_right a b h.0) (right xs ys h.1)
  right [] (b ∷ ys) h = absurd h
  right (a ∷ xs) [] h = absurd h

  least : (a b c : List V) → EachAlike alike a b → EachAlike alike b c → each_below below a c ≡ true → each_below below b c ≡ true
      → each_below below (each_join join a b) c ≡ true
  least [] [] [] h k p q = refl
  least (a ∷ xs) (b ∷ ys) (c ∷ zs) h k p q =
      let pp = and_parts (below a c) (each_below below xs zs) p in
      let qq = and_parts (below b c) (each_below below ys zs) q in
      and_from (below (join a b) c) (each_below below (each_join join xs ys) zs) (L.join_least a b c h.0 k.0 pp.0 qq.0) (least xs ys zs h.1 k.1 pp.1 qq.1)
  least [] [] (c ∷ zs) h k p q = absurd k
  least (a ∷ xs) (b ∷ ys) [] h k p q = absurd k
  least [] (b ∷ ys) c h k p q = absurd h
  least (a ∷ xs) [] c h k p q = absurd h

  sizes : (a b : List V) → EachAlike alike a b → each_below below a b ≡ true → all_sizes size a ≤ all_sizes size b
  sizes [] [] h p = omega arith
  sizes (a ∷ xs) (b ∷ ys) h p = let pp = and_parts (below a b) (each_below below xs ys) p in omega (arith, L.size_grows a b h.0 pp.0, sizes xs ys h.1 pp.1)
  sizes [] (b ∷ ys) h p = absurd h
  sizes (a ∷ xs) [] h p = absurd h

  ranks : (a b : List V) → EachAlike alike a b → each_below below a b ≡ true → all_sizes rank a ≤ all_sizes rank b
  ranks [] [] h p = omega arith
  ranks (a ∷ xs) (b ∷ ys) h p = let pp = and_parts (below a b) (each_below below xs ys) p in omega (arith, L.rank_grows a b h.0 pp.0, ranks xs ys h.1 pp.1)
  ranks [] (b ∷ ys) h p = absurd h
  ranks (a ∷ xs) [] h p = absurd h

  rises : (a b : List V) → EachAlike alike a b → each_below below a b ≡ true → each_below below b a ≡ false → all_sizes rank a < all_sizes rank b
  rises [] [] h p n = absurd (false≢true (sym n))
  rises (a ∷ xs) (b ∷ ys) h p n =
      let pp = and_parts (below a b) (each_below below xs ys) p in
      sum_rises (below b a) (each_below below ys xs) (rank a) (all_sizes rank xs) (rank b) (all_sizes rank ys) n
      (L.rank_grows a b h.0 pp.0) (ranks xs ys h.1 pp.1) (L.rank_rises a b h.0 pp.0) (rises xs ys h.1 pp.1)
  rises [] (b ∷ ys) h p n = absurd h
  rises (a ∷ xs) [] h p n = absurd h

  pub rows_lattice : IsLattice {V = List V} (EachAlike alike) (each_below below) (each_join join) (all_sizes size) (all_sizes rank)
  rows_lattice = record {
    alike_symm = symm;
    alike_trans = trans;
    below_refl = itself;
    below_trans = below_all;
    join_alike = joins;
    join_left = left;
    join_right = right;
    join_least = least;
    size_grows = sizes;
    rank_grows = ranks;
    rank_rises = rises;
  }

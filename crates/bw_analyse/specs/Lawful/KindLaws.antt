-- Values of their kinds, and how they grow: what plugs and joins make of them.
use Rattle.std.specs.Prelude.{◌≡◌, ℕ, ◌*◌, ◌^◌, ◌<◌, ◌≤◌, true, List, [], ◌∷◌, length}
use Rattle.std.proofs.Common.{refl, arith}
use Rattle.std.proofs.lemmas.Bool.{and_parts, and_from}
use Rattle.bw_lang.specs.declared.stmt.Kind.{Kind}
use Rattle.bw_lang.specs.declared.stmt.Kind.TheVariants as kinds
use Rattle.bw_strings.specs.Strings as strings
use Rattle.bw_strings.specs.Lawful.StringLaws.{strings_lattice, none_least, small}
use Rattle.bw_strings.specs.declared.strings.StrSet.{StrSet}
use Rattle.bw_strings.specs.declared.strings.StrSet.TheVariants.{Any, Of}
use Rattle.bw_sum.proofs.Growing.{plug_grows, text_grows}
use Rattle.bw_sum.proofs.Ranks.{rank_is_bounded}
use Rattle.bw_sum.proofs.WellFormed.{well_formed_alike, none_well_formed, join_well_formed, plug_well_formed, plug_text_well_formed}
use Rattle.bw_sum.specs.Small.{highest_rank}
use Rattle.bw_analyse.specs.declared.abstracts.Abstract.{Abstract}
use Rattle.bw_analyse.specs.declared.abstracts.Abstract.TheVariants.{Nothing, Str, Html}
use Rattle.bw_analyse.specs.Abstracts.{AreAlike, is_below, both, rank_of, plugged_by, least_of}
use Rattle.bw_analyse.specs.Lawful.AbstractLaws.{abstracts_lattice}
use Rattle.bw_analyse.specs.Fits.{Fits, AllFit}
use Rattle.bw_analyse.specs.Rows.{EachAlike, each_below, all_sizes}

-- no well formed set of strings has a higher rank
strings_few : (s : StrSet) → strings.IsWellFormed s → strings.rank_of s ≤ 4294967297
strings_few Any f = omega arith
strings_few (Of xs) f = omega (arith, small xs f.0 f.1)

pub fits_alike : (k : Kind) (a b : Abstract) → Fits k a → Fits k b → AreAlike a b
fits_alike kinds.Int Nothing Nothing p q = tt
fits_alike kinds.Bool Nothing Nothing p q = tt
fits_alike kinds.Strs Nothing Nothing p q = tt
fits_alike kinds.Str (Str s) (Str r) p q = (p, q)
fits_alike kinds.Html (Html s) (Html r) p q = well_formed_alike s r p q
fits_alike kinds.Int Nothing b p q = absurd q
fits_alike kinds.Bool Nothing b p q = absurd q
fits_alike kinds.Strs Nothing b p q = absurd q
fits_alike kinds.Str (Str s) b p q = absurd q
fits_alike kinds.Html (Html s) b p q = absurd q
fits_alike k a b p q = absurd p

pub fits_few : (k : Kind) (a : Abstract) → Fits k a → rank_of a ≤ highest_rank
fits_few kinds.Int Nothing p = omega arith
fits_few kinds.Bool Nothing p = omega arith
fits_few kinds.Strs Nothing p = omega arith
fits_few kinds.Str (Str s) p = omega (arith, strings_few s p)
fits_few kinds.Html (Html s) p = rank_is_bounded s p
fits_few k a p = absurd p

pub least_fits : (k : Kind) → Fits k (least_of k)
least_fits kinds.Int = tt
least_fits kinds.Bool = tt
least_fits kinds.Strs = tt
least_fits kinds.Str = (tt, tt)
least_fits kinds.Html = none_well_formed

pub least_below : (k : Kind) (a : Abstract) → Fits k a → is_below (least_of k) a ≡ true
least_below kinds.Int Nothing p = refl
least_below kinds.Bool Nothing p = refl
least_below kinds.Strs Nothing p = refl
least_below kinds.Str (Str s) p = none_least s
least_below kinds.Html (Html s) p = refl
least_below k a p = absurd p

pub both_fits : (k : Kind) (a b : Abstract) → Fits k a → Fits k b → Fits k (both a b)
both_fits kinds.Int Nothing Nothing p q = tt
both_fits kinds.Bool Nothing Nothing p q = tt
both_fits kinds.Strs Nothing Nothing p q = tt
both_fits kinds.Str (Str s) (Str r) p q = (strings_lattice.join_alike s r (p, q)).0
both_fits kinds.Html (Html s) (Html r) p q = join_well_formed s r p q
both_fits kinds.Int Nothing b p q = absurd q
both_fits kinds.Bool Nothing b p q = absurd q
both_fits kinds.Strs Nothing b p q = absurd q
both_fits kinds.Str (Str s) b p q = absurd q
both_fits kinds.Html (Html s) b p q = absurd q
both_fits k a b p q = absurd p

-- both are of the kind, and the second is above the first
abbrev pub Up : Kind → Abstract → Abstract → Type 0
Up k a b = Fits k a × Fits k b × (is_below a b ≡ true)

pub up_itself : (k : Kind) (a : Abstract) → Fits k a → Up k a a
up_itself k a h = (h, h, abstracts_lattice.below_refl a (fits_alike k a a h h))

pub up_both : (k : Kind) (a b c d : Abstract) → Up k a b → Up k c d → Up k (both a c) (both b d)
up_both k a b c d p q =
    let L = abstracts_lattice in
    let bd = both_fits k b d p.1 q.1 in (
      both_fits k a c p.0 q.0,
      bd,
      L.join_least a c (both b d) (fits_alike k a c p.0 q.0) (fits_alike k c (both b d) q.0 bd)
          (L.below_trans a b (both b d) (fits_alike k a b p.0 p.1) (fits_alike k b (both b d) p.1 bd) p.2 (L.join_left b d (fits_alike k b d p.1 q.1)))
          (L.below_trans c d (both b d) (fits_alike k c d q.0 q.1) (fits_alike k d (both b d) q.1 bd) q.2 (L.join_right b d (fits_alike k b d p.1 q.1))),
    )

-- a document in a document
pub up_plug : (a b c d : Abstract) (g : ℕ) → g < 2 ^ 32 → Up kinds.Html a b → Up kinds.Html c d → Up kinds.Html (plugged_by a g c) (plugged_by b g d)
up_plug (Html a) (Html b) (Html c) (Html d) g l p q = (
  plug_well_formed a g c l p.0 q.0,
  plug_well_formed b g d l p.1 q.1,
  plug_grows a b g c d (fits_alike kinds.Html (Html a) (Html b) p.0 p.1) (fits_alike kinds.Html (Html c) (Html d) q.0 q.1) p.2 q.2,
)
up_plug (Html a) (Html b) (Html c) d g l p q = absurd q.1
up_plug (Html a) (Html b) c d g l p q = absurd q.0
up_plug (Html a) b c d g l p q = absurd p.1
up_plug a b c d g l p q = absurd p.0

-- a string in a document
pub up_fill : (a b c d : Abstract) (g : ℕ) → g < 2 ^ 32 → Up kinds.Html a b → Up kinds.Str c d → Up kinds.Html (plugged_by a g c) (plugged_by b g d)
up_fill (Html a) (Html b) (Str c) (Str d) g l p q = (
  plug_text_well_formed a g c l p.0 q.0,
  plug_text_well_formed b g d l p.1 q.1,
  text_grows a b g c d (fits_alike kinds.Html (Html a) (Html b) p.0 p.1) (q.0, q.1) p.2 q.2,
)
up_fill (Html a) (Html b) (Str c) d g l p q = absurd q.1
up_fill (Html a) (Html b) c d g l p q = absurd q.0
up_fill (Html a) b c d g l p q = absurd p.1
up_fill a b c d g l p q = absurd p.0

-- ---- rows

pub all_alike : (ks : List Kind) (a b : List Abstract) → AllFit ks a → AllFit ks b → EachAlike AreAlike a b
all_alike [] [] [] p q = tt
all_alike (k ∷ ks) (a ∷ xs) (b ∷ ys) p q = (fits_alike k a b p.0 q.0, all_alike ks xs ys p.1 q.1)
all_alike [] [] (b ∷ ys) p q = absurd q
all_alike [] (a ∷ xs) ys p q = absurd p
all_alike (k ∷ ks) [] ys p q = absurd p
all_alike (k ∷ ks) (a ∷ xs) [] p q = absurd q

pub all_few : (ks : List Kind) (a : List Abstract) → AllFit ks a → all_sizes rank_of a ≤ length ks * highest_rank
all_few [] [] p = omega arith
all_few (k ∷ ks) (a ∷ xs) p = omega (arith, fits_few k a p.0, all_few ks xs p.1)
all_few [] (a ∷ xs) p = absurd p
all_few (k ∷ ks) [] p = absurd p

-- there are as many as kinds, each is of its kind, and the second is above the first
abbrev pub AllUp : List Kind → List Abstract → List Abstract → Type 0
AllUp [] [] [] = Unit {0}
AllUp (k ∷ ks) (a ∷ xs) (b ∷ ys) = Up k a b × AllUp ks xs ys
AllUp _ _ _ = ⊥

pub all_up : (ks : List Kind) (a b : List Abstract) → AllFit ks a → AllFit ks b → each_below is_below a b ≡ true → AllUp ks a b
all_up [] [] [] p q h = tt
all_up (k ∷ ks) (a ∷ xs) (b ∷ ys) p q h =
    let r = and_parts (is_below a b) (each_below is_below xs ys) h in ((p.0, q.0, r.0), all_up ks xs ys p.1 q.1 r.1)
all_up [] [] (b ∷ ys) p q h = absurd q
all_up [] (a ∷ xs) ys p q h = absurd p
all_up (k ∷ ks) [] ys p q h = absurd p
all_up (k ∷ ks) (a ∷ xs) [] p q h = absurd q

pub all_itself : (ks : List Kind) (a : List Abstract) → AllFit ks a → AllUp ks a a
all_itself [] [] p = tt
all_itself (k ∷ ks) (a ∷ xs) p = (up_itself k a p.0, all_itself ks xs p.1)
all_itself [] (a ∷ xs) p = absurd p
all_itself (k ∷ ks) [] p = absurd p

pub up_fits : (ks : List Kind) (a b : List Abstract) → AllUp ks a b → AllFit ks a
up_fits [] [] [] p = tt
up_fits (k ∷ ks) (a ∷ xs) (b ∷ ys) p = (p.0.0, up_fits ks xs ys p.1)
up_fits [] [] (b ∷ ys) p = absurd p
up_fits [] (a ∷ xs) ys p = absurd p
up_fits (k ∷ ks) [] ys p = absurd p
up_fits (k ∷ ks) (a ∷ xs) [] p = absurd p

pub up_below : (ks : List Kind) (a b : List Abstract) → AllUp ks a b → each_below is_below a b ≡ true
up_below [] [] [] p = refl
up_below (k ∷ ks) (a ∷ xs) (b ∷ ys) p = and_from (is_below a b) (each_below is_below xs ys) p.0.2 (up_below ks xs ys p.1)
up_below [] [] (b ∷ ys) p = absurd p
up_below [] (a ∷ xs) ys p = absurd p
up_below (k ∷ ks) [] ys p = absurd p
up_below (k ∷ ks) (a ∷ xs) [] p = absurd p

-- The laws of what is known: a lattice for each kind.
use Rattle.std.specs.Prelude.{◌≡◌, ◌<◌, ◌≤◌, true, false}
use Rattle.std.proofs.Common.{refl, sym, arith}
use Rattle.std.proofs.lemmas.Bool.{false≢true}
use Rattle.bw_solve.specs.Lattice.{IsLattice}
use Rattle.bw_strings.specs.Lawful.StringLaws.{strings_lattice}
use Rattle.bw_sum.specs.Lawful.SummaryLaws.{summary_lattice}
use Rattle.bw_analyse.specs.declared.abstracts.Abstract.{Abstract}
use Rattle.bw_analyse.specs.declared.abstracts.Abstract.TheVariants.{Nothing, Str, Html}
use Rattle.bw_analyse.specs.Abstracts.{AreAlike, is_below, both, size_of, rank_of}

symm : (a b : Abstract) → AreAlike a b → AreAlike b a
symm Nothing Nothing h = tt
symm (Str s) (Str r) h = strings_lattice.alike_symm s r h
symm (Html s) (Html r) h = summary_lattice.alike_symm s r h
symm a b h = absurd h

alike : (a b c : Abstract) → AreAlike a b → AreAlike b c → AreAlike a c
alike Nothing Nothing Nothing h k = tt
alike (Str s) (Str r) (Str q) h k = strings_lattice.alike_trans s r q h k
alike (Html s) (Html r) (Html q) h k = summary_lattice.alike_trans s r q h k
alike Nothing Nothing c h k = absurd k
alike (Str s) (Str r) c h k = absurd k
alike (Html s) (Html r) c h k = absurd k
alike a b c h k = absurd h

itself : (a : Abstract) → AreAlike a a → is_below a a ≡ true
itself Nothing h = refl
itself (Str s) h = strings_lattice.below_refl s h
itself (Html s) h = summary_lattice.below_refl s h

trans : (a b c : Abstract) → AreAlike a b → AreAlike b c → is_below a b ≡ true → is_below b c ≡ true → is_below a c ≡ true
trans Nothing Nothing Nothing h k p q = refl
trans (Str s) (Str r) (Str t) h k p q = strings_lattice.below_trans s r t h k p q
trans (Html s) (Html r) (Html t) h k p q = summary_lattice.below_trans s r t h k p q
trans Nothing Nothing c h k p q = absurd k
trans (Str s) (Str r) c h k p q = absurd k
trans (Html s) (Html r) c h k p q = absurd k
trans a b c h k p q = absurd h

joins : (a b : Abstract) → AreAlike a b → AreAlike (both a b) a
joins Nothing Nothing h = tt
joins (Str s) (Str r) h = strings_lattice.join_alike s r h
joins (Html s) (Html r) h = summary_lattice.join_alike s r h
joins a b h = absurd h

left : (a b : Abstract) → AreAlike a b → is_below a (both a b) ≡ true
left Nothing Nothing h = refl
left (Str s) (Str r) h = strings_lattice.join_left s r h
left (Html s) (Html r) h = summary_lattice.join_left s r h
left a b h = absurd h

right : (a b : Abstract) → AreAlike a b → is_below b (both a b) ≡ true
right Nothing Nothing h = refl
right (Str s) (Str r) h = strings_lattice.join_right s r h
right (Html s) (Html r) h = summary_lattice.join_right s r h
right a b h = absurd h

least : (a b c : Abstract) → AreAlike a b → AreAlike b c → is_below a c ≡ true → is_below b c ≡ true → is_below (both a b) c ≡ true
least Nothing Nothing Nothing h k p q = refl
least (Str s) (Str r) (Str t) h k p q = strings_lattice.join_least s r t h k p q
least (Html s) (Html r) (Html t) h k p q = summary_lattice.join_least s r t h k p q
least Nothing Nothing c h k p q = absurd k
least (Str s) (Str r) c h k p q = absurd k
least (Html s) (Html r) c h k p q = absurd k
least a b c h k p q = absurd h

sizes : (a b : Abstract) → AreAlike a b → is_below a b ≡ true → size_of a ≤ size_of b
sizes Nothing Nothing h p = omega arith
sizes (Str s) (Str r) h p = strings_lattice.size_grows s r h p
sizes (Html s) (Html r) h p = summary_lattice.size_grows s r h p
sizes a b h p = absurd h

ranks : (a b : Abstract) → AreAlike a b → is_below a b ≡ true → rank_of a ≤ rank_of b
ranks Nothing Nothing h p = omega arith
ranks (Str s) (Str r) h p = strings_lattice.rank_grows s r h p
ranks (Html s) (Html r) h p = summary_lattice.rank_grows s r h p
ranks a b h p = absurd h

rises : (a b : Abstract) → AreAlike a b → is_below a b ≡ true → is_below b a ≡ false → rank_of a < rank_of b
rises Nothing Nothing h p n = absurd (false≢true (sym n))
rises (Str s) (Str r) h p n = strings_lattice.rank_rises s r h p n
rises (Html s) (Html r) h p n = summary_lattice.rank_rises s r h p n
rises a b h p n = absurd h

pub abstracts_lattice : IsLattice {V = Abstract} AreAlike is_below both size_of rank_of
abstracts_lattice = record {
  alike_symm = symm;
  alike_trans = alike;
  below_refl = itself;
  below_trans = trans;
  join_alike = joins;
  join_left = left;
  join_right = right;
  join_least = least;
  size_grows = sizes;
  rank_grows = ranks;
  rank_rises = rises;
}

-- Patterns that are written can be used.
use Rattle.std.proofs.Common.{◌≡◌, ℕ, ◌+◌, ◌≤◌, true, ◌&&◌, ◌==◌, nat_le, List, [], ◌∷◌, length, refl, ap, sym, ◌∙◌, arith, chars, IsUtf8, eq-eqb}
use Rattle.std.specs.Char.{IsScalar}
use Rattle.std.proofs.Math.Utf8.{scalars, scalar}
use Rattle.std.proofs.lemmas.Str.{scalars-chars}
use Rattle.std.proofs.lemmas.Bool.{le-leb}
use Rattle.bw_format.specs.declared.pattern.Member.{Member}
use Rattle.bw_format.specs.declared.pattern.Member.TheVariants as member
use Rattle.bw_format.specs.declared.pattern.Class.{Class}
use Rattle.bw_format.specs.declared.pattern.Class.TheVariants as class
use Rattle.bw_format.specs.Pattern.{Pattern, nothing, one, sequence, either, star, plus, optional, group, places, repeats}
use Rattle.bw_format.specs.Lively.{Lively, TakesSome, IsUsable}
use Rattle.bw_format.specs.Spelling.{spell, spell_class, spell_member, spell_members, IsMember, IsClass, Levelled, Spells}
use Rattle.bw_format.proofs.Lists.{and_left, and_right, and_both, or_left}

members_long : (ms : List Member) (rest : List ℕ) → length rest ≤ length (spell_members ms rest)
members_long [] rest = omega arith
members_long (member.Char c ∷ ms) rest = omega (arith, members_long ms rest)
members_long (member.Range low high ∷ ms) rest = omega (arith, members_long ms rest)

class_long : (k : Class) (rest : List ℕ) → 1 + length rest ≤ length (spell_class k rest)
class_long (class.Char c) rest = omega arith
class_long (class.Escaped c) rest = omega arith
class_long class.Any rest = omega arith
class_long (class.OneOf ms) rest = omega (arith, members_long ms (93 ∷ rest))

-- each place has a character of its own
places_few : (p : Pattern) (rest : List ℕ) → places p + length rest ≤ length (spell p rest)
places_few nothing rest = omega arith
places_few (one k) rest = class_long k rest
places_few (sequence p q) rest = omega (arith, places_few p (spell q rest), places_few q rest)
places_few (either p q) rest = omega (arith, places_few p (124 ∷ spell q rest), places_few q rest)
places_few (star p) rest = omega (arith, places_few p (42 ∷ rest))
places_few (plus p) rest = omega (arith, places_few p (43 ∷ rest))
places_few (optional p) rest = omega (arith, places_few p (63 ∷ rest))
places_few (group p) rest = omega (arith, places_few p (41 ∷ rest))

-- and so has each repetition
repeats_few : (p : Pattern) (rest : List ℕ) → repeats p + length rest ≤ length (spell p rest)
repeats_few nothing rest = omega arith
repeats_few (one k) rest = omega (arith, class_long k rest)
repeats_few (sequence p q) rest = omega (arith, repeats_few p (spell q rest), repeats_few q rest)
repeats_few (either p q) rest = omega (arith, repeats_few p (124 ∷ spell q rest), repeats_few q rest)
repeats_few (star p) rest = omega (arith, repeats_few p (42 ∷ rest))
repeats_few (plus p) rest = omega (arith, repeats_few p (43 ∷ rest))
repeats_few (optional p) rest = omega (arith, repeats_few p (63 ∷ rest))
repeats_few (group p) rest = omega (arith, repeats_few p (41 ∷ rest))

first_scalar : (c : ℕ) (cs : List ℕ) → scalars (c ∷ cs) ≡ true → IsScalar c
first_scalar c cs h = and_left (scalar c) (scalars cs) h

rest_scalars : (c : ℕ) (cs : List ℕ) → scalars (c ∷ cs) ≡ true → scalars cs ≡ true
rest_scalars c cs h = and_right (scalar c) (scalars cs) h

members_scalars : (ms : List Member) (rest : List ℕ) → scalars (spell_members ms rest) ≡ true → scalars rest ≡ true
members_scalars [] rest h = h
members_scalars (member.Char c ∷ ms) rest h = members_scalars ms rest (rest_scalars c (spell_members ms rest) h)
members_scalars (member.Range low high ∷ ms) rest h = members_scalars ms rest (rest_scalars high (spell_members ms rest) (rest_scalars 45
    (high ∷ spell_members ms rest) (rest_scalars low (45 ∷ high ∷ spell_members ms rest) h)))

member_takes : (m : Member) (ms : List Member) (rest : List ℕ) → IsMember m → scalars (spell_member m rest) ≡ true → TakesSome (class.OneOf (m ∷ ms))
member_takes (member.Char c) ms rest i h = (c, first_scalar c rest h, or_left (c == c) _ (eq-eqb c c refl))
member_takes (member.Range low high) ms rest i h = (
  low,
  first_scalar low (45 ∷ high ∷ rest) h,
  or_left (nat_le low low && nat_le low high) _ (and_both (nat_le low low) (nat_le low high) (le-leb low low
      (omega arith)) (le-leb low high i.2)),
)

class_takes : (k : Class) (rest : List ℕ) → IsClass k → scalars (spell_class k rest) ≡ true → TakesSome k
class_takes (class.Char c) rest i h = (c, first_scalar c rest h, eq-eqb c c refl)
class_takes (class.Escaped c) rest i h = (c, first_scalar c rest (rest_scalars 92 (c ∷ rest) h), eq-eqb c c refl)
class_takes class.Any rest i h = (46, first_scalar 46 rest h, refl)
class_takes (class.OneOf []) rest i h = absurd (i.0 refl)
class_takes (class.OneOf (m ∷ ms)) rest i h = member_takes m ms (spell_members ms (93 ∷ rest)) i.1.0 (rest_scalars 91 (spell_members (m ∷ ms) (93 ∷ rest)) h)

class_scalars : (k : Class) (rest : List ℕ) → scalars (spell_class k rest) ≡ true → scalars rest ≡ true
class_scalars (class.Char c) rest h = rest_scalars c rest h
class_scalars (class.Escaped c) rest h = rest_scalars c rest (rest_scalars 92 (c ∷ rest) h)
class_scalars class.Any rest h = rest_scalars 46 rest h
class_scalars (class.OneOf ms) rest h = rest_scalars 93 rest (members_scalars ms (93 ∷ rest) (rest_scalars 91 (spell_members ms (93 ∷ rest)) h))

-- each class holds one of the characters that are written
lively : (p : Pattern) (rest : List ℕ) → Levelled p → scalars (spell p rest) ≡ true → Lively p × (scalars rest ≡ true)
lively nothing rest l h = (tt, h)
lively (one k) rest l h = (class_takes k rest l h, class_scalars k rest h)
lively (sequence p q) rest l h = let a = lively p (spell q rest) l.2 h in let b = lively q rest l.3 a.1 in ((a.0, b.0), b.1)
lively (either p q) rest l h = let a = lively p (124 ∷ spell q rest) l.2 h in let b = lively q rest l.3 (rest_scalars 124 (spell q rest) a.1) in
    ((a.0, b.0), b.1)
lively (star p) rest l h = let a = lively p (42 ∷ rest) l.1 h in (a.0, rest_scalars 42 rest a.1)
lively (plus p) rest l h = let a = lively p (43 ∷ rest) l.1 h in (a.0, rest_scalars 43 rest a.1)
lively (optional p) rest l h = let a = lively p (63 ∷ rest) l.1 h in (a.0, rest_scalars 63 rest a.1)
lively (group p) rest l h = let a = lively p (41 ∷ rest) l.1 (rest_scalars 40 (spell p (41 ∷ rest)) h) in (a.0, rest_scalars 41 rest a.1)

pub usable : (bytes : List ℕ) (p : Pattern) → IsUtf8 bytes → length (chars bytes) ≤ 256 → Spells (chars bytes) p → IsUsable p
usable bytes p u n s = (
  (lively p [] s.2 (ap scalars (sym s.0) ∙ scalars-chars bytes u)).0,
  omega (arith, places_few p [], ap length s.0, n),
  omega (arith, repeats_few p [], ap length s.0, n),
)

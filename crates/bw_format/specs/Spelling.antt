-- How a pattern is written.
use Rattle.std.specs.Prelude.{◌≡◌, ◌≢◌, ◌≤◌, ◌+◌, ℕ, max, List, [], ◌∷◌, IsTrue}
use Rattle.bw_format.specs.declared.pattern.Member.{Member}
use Rattle.bw_format.specs.declared.pattern.Member.TheVariants as member
use Rattle.bw_format.specs.declared.pattern.Class.{Class}
use Rattle.bw_format.specs.declared.pattern.Class.TheVariants.{Char, Escaped, Any, OneOf}
use Rattle.bw_format.specs.Pattern.{Pattern, nothing, one, sequence, either, star, plus, optional, group}
use Rattle.bw_format.specs.Signs.{is_plain, is_inner}
use Rattle.bw_format.specs.declared.limits.TheConstants.{MAX_GROUPS}

abbrev pub spell_member : Member → List ℕ → List ℕ
spell_member (member.Char c) rest = c ∷ rest
spell_member (member.Range low high) rest = low ∷ 45 ∷ high ∷ rest

abbrev pub spell_members : List Member → List ℕ → List ℕ
spell_members [] rest = rest
spell_members (m ∷ ms) rest = spell_member m (spell_members ms rest)

abbrev pub spell_class : Class → List ℕ → List ℕ
spell_class (Char c) rest = c ∷ rest
spell_class (Escaped c) rest = 92 ∷ c ∷ rest
spell_class Any rest = 46 ∷ rest
spell_class (OneOf ms) rest = 91 ∷ spell_members ms (93 ∷ rest)

-- the characters of a pattern, and what follows
abbrev pub spell : Pattern → List ℕ → List ℕ
spell nothing rest = rest
spell (one class) rest = spell_class class rest
spell (sequence p q) rest = spell p (spell q rest)
spell (either p q) rest = spell p (124 ∷ spell q rest)
spell (star p) rest = spell p (42 ∷ rest)
spell (plus p) rest = spell p (43 ∷ rest)
spell (optional p) rest = spell p (63 ∷ rest)
spell (group p) rest = 40 ∷ spell p (41 ∷ rest)

-- a member of a bracket is a plain character, or a range that doesn't fall
abbrev pub IsMember : Member → Type 0
IsMember (member.Char c) = IsTrue (is_inner c)
IsMember (member.Range low high) = IsTrue (is_inner low) × IsTrue (is_inner high) × (low ≤ high)

abbrev pub AreMembers : List Member → Type 0
AreMembers [] = Unit {0}
AreMembers (m ∷ ms) = IsMember m × AreMembers ms

-- a character that stands unescaped is plain, and a bracket has a member
abbrev pub IsClass : Class → Type 0
IsClass (Char c) = IsTrue (is_plain c)
IsClass (Escaped c) = Unit {0}
IsClass Any = Unit {0}
IsClass (OneOf ms) = (ms ≢ []) × AreMembers ms

-- how tightly a pattern binds: an alternative least, then a sequence, a repetition, and what stands alone
abbrev pub level : Pattern → ℕ
level nothing = 1
level (one class) = 3
level (sequence p q) = 1
level (either p q) = 0
level (star p) = 2
level (plus p) = 2
level (optional p) = 2
level (group p) = 3

-- each part binds as tightly as its place demands
abbrev pub Levelled : Pattern → Type 0
Levelled nothing = Unit {0}
Levelled (one class) = IsClass class
Levelled (sequence p q) = (level p ≡ 1) × (2 ≤ level q) × Levelled p × Levelled q
Levelled (either p q) = (level p ≤ 1) × (level q ≡ 1) × Levelled p × Levelled q
Levelled (star p) = (level p ≡ 3) × Levelled p
Levelled (plus p) = (level p ≡ 3) × Levelled p
Levelled (optional p) = (level p ≡ 3) × Levelled p
Levelled (group p) = (level p ≤ 1) × Levelled p

-- how many parentheses stand inside one another
abbrev pub nest : Pattern → ℕ
nest nothing = 0
nest (one class) = 0
nest (sequence p q) = max (nest p) (nest q)
nest (either p q) = max (nest p) (nest q)
nest (star p) = nest p
nest (plus p) = nest p
nest (optional p) = nest p
nest (group p) = nest p + 1

-- the text spells the pattern, with at most 16 parentheses inside one another
abbrev pub Spells : List ℕ → Pattern → Type 0
Spells text p = (text ≡ spell p []) × (level p ≤ 1) × Levelled p × (nest p ≤ MAX_GROUPS)

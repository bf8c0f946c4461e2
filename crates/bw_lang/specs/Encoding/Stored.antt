-- How the logic stores a value: the number of its constructor, and then its parts.
use Rattle.std.specs.Prelude.{ℕ}
use base.Stored.{Gv, gnil, gnum, gcons}

-- the first part of a pair, and the second
abbrev pub head : Gv → Gv
head gnil = gnil
head (gnum n) = gnil
head (gcons a b) = a

abbrev pub tail : Gv → Gv
tail gnil = gnil
tail (gnum n) = gnil
tail (gcons a b) = b

-- the number that is stored
abbrev pub stored_number : Gv → ℕ
stored_number gnil = 0
stored_number (gnum n) = n
stored_number (gcons a b) = 0

-- the number of the constructor of what is stored
abbrev pub tag : Gv → ℕ
tag g = stored_number (head g)

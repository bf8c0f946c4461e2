-- Steps of which each goes on from what the one before it found.
use Rattle.std.specs.Prelude.{Option, Some, None}

-- the one step, and then the other
infixl 10 ◌>>=◌
abbrev pub ◌>>=◌ : {A B : Type 0} → Option A → (A → Option B) → Option B
(Some x) >>= f = f x
None >>= f = None

-- what comes of it where there is one, and else the other
abbrev pub where_some : {A B : Type 0} → Option A → (A → B) → B → B
where_some (Some x) f d = f x
where_some None f d = d

-- Where the gaps of a name are open: how many there are, and how deep they stand.
use Rattle.std.specs.Prelude.{ℕ, ◌+◌, ◌*◌, ◌≡◌, ◌≤◌, Bool, if◌then◌else◌, ◌==◌, List, [], ◌∷◌, slice_get, Option, Some, None, unwrap_or}
use Rattle.bw_lang.specs.declared.items.Attr.{Attr}
use Rattle.bw_lang.specs.Document.Documents.{deeper, under, here, one_if, is_hole}
use Rattle.bw_lang.specs.Document.Forest.{Forest, none, text, gap, element}
use Rattle.bw_doc.specs.declared.spots.Spot.{Spot}
use Rattle.bw_doc.specs.declared.spots.Open.{Open}
use Rattle.bw_lang.specs.declared.measure.TheConstants.{MAX_NEST, MAX_OPEN_GAPS}

-- nowhere
abbrev pub nowhere : Spot
nowhere = record { count = 0; depth = None }

-- here and there
abbrev pub join : Spot → Spot → Spot
join a b = record { count = a.count + b.count; depth = deeper a.depth b.depth }

-- inside one element
abbrev pub inside : Spot → Spot
inside a = record { count = a.count; depth = under a.depth }

-- once and inside no element, where it holds
abbrev pub once : Bool → Spot
once b = record { count = one_if b; depth = here b }

-- the sum of two depths, where both are there
abbrev pub below : Option ℕ → Option ℕ → Option ℕ
below None n = None
below (Some m) None = None
below (Some m) (Some n) = Some (m + n)

-- the second once more at each of the first
abbrev pub times : Spot → Spot → Spot
times a b = record { count = a.count * b.count; depth = below a.depth b.depth }

-- nowhere, where it holds
abbrev pub unless : Bool → Spot → Spot
unless b a = if b then nowhere else a

-- the open content gaps g
abbrev pub content : ℕ → Forest → Spot
content g none = nowhere
content g (text s rest) = content g rest
content g (gap h rest) = join (once (h == g)) (content g rest)
content g (element tag attrs inner rest) = join (inside (content g inner)) (content g rest)

-- the attributes whose value is the open gap g
abbrev pub holes : ℕ → List Attr → Spot
holes g [] = nowhere
holes g (a ∷ attrs) = join (once (is_hole g a.value)) (holes g attrs)

-- the open attribute gaps g; the element of an attribute is around it
abbrev pub hole : ℕ → Forest → Spot
hole g none = nowhere
hole g (text s rest) = hole g rest
hole g (gap h rest) = hole g rest
hole g (element tag attrs inner rest) = join (inside (join (holes g attrs) (hole g inner))) (hole g rest)

-- both
abbrev pub opened : ℕ → Forest → Open
opened g f = record { content = content g f; hole = hole g f }

-- no gap of the name is open
abbrev pub closed : Open
closed = record { content = nowhere; hole = nowhere }

-- what a table has at a gap
abbrev pub at : List Open → ℕ → Open
at table g = unwrap_or (slice_get table g) closed

-- the table has at each gap what this gives
abbrev pub IsTableOf : (ℕ → Open) → List Open → Type 0
IsTableOf f table = (g : ℕ) → at table g ≡ f g

-- the table has each gap as it is open in the forest
abbrev pub IsTable : List Open → Forest → Type 0
IsTable table f = IsTableOf (λ g. opened g f) table

-- what is open of a name where `with` is put into the content gaps `into`; `same` where these are of that name
abbrev pub plugged_open : Bool → Open → Open → Spot → Open
plugged_open same o with into = record { content = join (unless same o.content) (times into with.content); hole = join o.hole (times into with.hole) }

-- what is open of a name where a string fills some gaps; `same` where these are of that name
abbrev pub filled_open : Bool → Open → Open
filled_open same o = record { content = unless same o.content; hole = unless same o.hole }

-- no more than fit into a document within the limits
pub record IsSmall (o : Open) : Type 0 where
  pub count : o.content.count + o.hole.count ≤ MAX_OPEN_GAPS
  pub content : unwrap_or o.content.depth 0 ≤ MAX_NEST
  pub hole : unwrap_or o.hole.depth 0 ≤ MAX_NEST

-- of every name
abbrev pub AreSmall : (ℕ → Open) → Type 0
AreSmall f = (g : ℕ) → IsSmall (f g)

-- of each name, where the second table's are put into the content gaps g of the first
abbrev pub plugged_at : ℕ → List Open → List Open → ℕ → Open
plugged_at g table with h = plugged_open (h == g) (at table h) (at with h) (at table g).content

-- of each name, where a string fills the gaps g
abbrev pub filled_at : ℕ → List Open → ℕ → Open
filled_at g table h = filled_open (h == g) (at table h)

-- here and there
abbrev pub both : Open → Open → Open
both a b = record { content = join a.content b.content; hole = join a.hole b.hole }

-- what is open, where it holds
abbrev pub only : Bool → Open → Open
only b o = if b then o else closed

-- of each name, where more is open of the name g
abbrev pub added_at : ℕ → Open → List Open → ℕ → Open
added_at g o table h = both (at table h) (only (g == h) o)

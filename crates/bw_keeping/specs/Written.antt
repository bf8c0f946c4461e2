-- What is written on links.
use Rattle.std.specs.Prelude.{ℕ, List, [], ◌∷◌, ◌++◌, Option, None, Some}

-- one and then the other, where both are told
abbrev pub both : Option (List ℕ) → Option (List ℕ) → Option (List ℕ)
both None later = None
both (Some first) None = None
both (Some first) (Some later) = Some (first ++ later)

-- what is written on links, one after another, where it is told of each
abbrev pub written_on : {Link : Type 0} → (Link → Option (List ℕ)) → List Link → Option (List ℕ)
written_on held [] = Some []
written_on held (link ∷ links) = both (held link) (written_on held links)

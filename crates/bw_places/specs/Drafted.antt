-- Declarations of a service as they are drafted, by what its text tells besides.
use Rattle.std.specs.Prelude.{ℕ, Bool, true, false, List, map, unsigned_abs}
use Rattle.bw_lang.specs.declared.declaration.Draft.{Draft}
use Rattle.bw_lang.specs.declared.declaration.Draft.TheVariants as drafts
use Rattle.bw_lang.specs.declared.declaration.Written.{Written}
use Rattle.bw_lang.specs.declared.declaration.Written.TheVariants as written
use Rattle.bw_lang.specs.declared.service.Literal.{Literal}
use Rattle.bw_lang.specs.declared.service.Literal.TheVariants as literals
use Rattle.bw_places.specs.declared.spelled.Spelled.{Spelled}
use Rattle.bw_places.specs.declared.spelled.Spelled.TheVariants as spelled

-- a number with `-` in front of it, or without
abbrev pub signed : Bool → ℕ → Written
signed true n = written.Minus n
signed false n = written.Plus n

-- how a literal is written: a number with `-` in front of it where that is so
abbrev pub written_as : Bool → Literal → Written
written_as minus (literals.Int n) = signed minus (unsigned_abs n)
written_as minus (literals.Bool b) = written.Bool b
written_as minus (literals.Str s) = written.Str s
written_as minus (literals.Tmpl w) = written.Name w

-- the declaration as it is drafted, and declarations
abbrev pub draft_of : Spelled → Draft
draft_of (spelled.Template w inside) = drafts.Template w.now inside.now
draft_of (spelled.Shared v minus) = drafts.Shared v.now.kind v.now.name (written_as minus v.now.init)
draft_of (spelled.Session s) = drafts.Session s.now

abbrev pub drafts_of : List Spelled → List Draft
drafts_of = map draft_of

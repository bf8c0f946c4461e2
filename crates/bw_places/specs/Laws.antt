-- What places are.
use Rattle.std.specs.Prelude.{◌≡◌, ◌<◌, ℕ, ◌-◌, List, ◌++◌, drop, length, slice_get, Some}
use Rattle.bw_lang.specs.declared.declaration.Draft.{Draft}
use Rattle.bw_lang.specs.Service.Drafts.{spell_draft, spell_service}
use Rattle.bw_places.specs.Heads.{Head, heads_of, spell_head}
use Rattle.bw_places.specs.Seeking.{Found, seek_all, declared_at}
use Rattle.bw_places.specs.Standing.{Stands}
use Rattle.bw_places.specs.declared.span.Span.{Span}

-- of each statement of a service the place is found, and there stands that statement, as it is written
abbrev pub StatementsStand : Type 0
StatementsStand =
    (name : List ℕ) (ds : List Draft) (n : ℕ) → n < length (heads_of ds)
    → (h : Head) × (span : Span) × (slice_get (heads_of ds) n ≡ Some h) × (seek_all ds n 3 ≡ Found span)
    × Stands (spell_service name ds) (spell_head h) span

-- and so of each declaration
abbrev pub DeclarationsStand : Type 0
DeclarationsStand =
    (name : List ℕ) (ds : List Draft) (n : ℕ) → n < length ds
    → (d : Draft) × (span : Span) × (slice_get ds n ≡ Some d) × (declared_at ds n 3 ≡ Some span)
    × Stands (spell_service name ds) (spell_draft d) span

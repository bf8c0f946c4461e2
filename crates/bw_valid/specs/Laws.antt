-- Laws of validity.
use Rattle.std.specs.Prelude.{◌≡◌, ◌↔◌, ℕ, List, None}
use Rattle.bw_lang.specs.declared.items.Attr.{Attr}
use Rattle.bw_lang.specs.Document.Documents.{close}
use Rattle.bw_lang.specs.Document.Forest.{Forest, none, element}
use Rattle.bw_lang.specs.Document.Print.{joined}
use Rattle.bw_schema.specs.Validity.{Valid}
use Rattle.bw_schema.specs.declared.schema.Schema.{Schema}
use Rattle.bw_valid.specs.Breaches.{breach}

-- a page is valid exactly where nothing is broken
abbrev pub ValidDecided : Type 0
ValidDecided = (s : Schema) (t : Forest) → Valid s t ↔ (breach s t ≡ None)

-- closing the gaps of a page changes nothing
abbrev pub BreachClosed : Type 0
BreachClosed = (s : Schema) (t : Forest) → breach s (close t) ≡ breach s t

-- nor does joining the texts of one that is an element: what is read back from its print is as valid as the page itself
abbrev pub BreachJoined : Type 0
BreachJoined =
    (s : Schema) (tag : List ℕ) (attrs : List Attr) (inner : Forest) →
    breach s (joined (element tag attrs inner none)) ≡ breach s (element tag attrs inner none)

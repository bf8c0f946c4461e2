-- Laws of reading.
use Rattle.std.specs.Prelude.{◌≡◌, ◌≢◌, ◌⊎◌, ◌≤◌, ℕ, ◌*◌, List, IsUtf8, length}
use Rattle.bw_lang.specs.Document.Forest.{Forest}
use Rattle.bw_lang.specs.Document.Documents.{plug, plug_text, close, count}
use Rattle.bw_lang.specs.Document.Print.{print, joined}
use Rattle.bw_lang.specs.Document.Measures.{items_weight}
use Rattle.bw_tmpl.specs.declared.fault.TmplFault.{TmplFault}
use Rattle.bw_tmpl.specs.declared.fault.TmplFault.TheVariants as fault
use Rattle.bw_lang.specs.declared.pieces.Piece.{Piece}
use Rattle.bw_lang.specs.Template.Pieces.{SpellsPieces}
use Rattle.bw_lang.specs.Document.Measures.{nest}
use Rattle.bw_lang.specs.Template.PieceItems.{ReadsAs}
use Rattle.bw_lang.specs.Template.Templates.{IsTemplate, IsClosedTemplate}
use Rattle.bw_tmpl.specs.Refusals.{IsTemplateRefused, IsClosedRefused}
use Rattle.bw_tmpl.specs.Markup.{IsMarkup, IsClosedMarkup}

-- bytes are one list of pieces at most
abbrev pub OneSpelling : Type 0
OneSpelling = (ps qs : List Piece) (bytes : List ℕ) → SpellsPieces ps bytes → SpellsPieces qs bytes → ps ≡ qs

-- pieces read as one list of items at most
abbrev pub OneReading : Type 0
OneReading = (names : List (List ℕ)) (ps : List Piece) (f g : Forest) → ReadsAs names ps f → ReadsAs names ps g → f ≡ g

-- bytes are one template at most
abbrev pub OneTemplate : Type 0
OneTemplate = (names : List (List ℕ)) (most : ℕ) (bytes : List ℕ) (f g : Forest) → IsTemplate names most bytes f → IsTemplate names most bytes g → f ≡ g

-- what is a template is refused for want of memory alone
abbrev pub NotBoth : Type 0
NotBoth =
    (names : List (List ℕ)) (most : ℕ) (bytes : List ℕ) (f : Forest) (e : TmplFault) → IsTemplate names most bytes f → IsTemplateRefused most bytes e
    → e ≡ fault.Memory

-- there is one reason at most, beside want of memory
abbrev pub OneReason : Type 0
OneReason =
    (most : ℕ) (bytes : List ℕ) (d e : TmplFault) → IsTemplateRefused most bytes d → IsTemplateRefused most bytes e → (d ≡ fault.Memory → ⊥)
    → (e ≡ fault.Memory → ⊥) → d ≡ e

-- bytes are a template, or there is a reason beside want of memory
abbrev pub ReadOrRefused : Type 0
ReadOrRefused =
    (names : List (List ℕ)) (most : ℕ) (bytes : List ℕ) →
    ((f : Forest) × IsTemplate names most bytes f) ⊎ ((e : TmplFault) × (e ≢ fault.Memory) × IsTemplateRefused most bytes e)

-- bytes are one template without gaps at most
abbrev pub OneClosedTemplate : Type 0
OneClosedTemplate = (most : ℕ) (bytes : List ℕ) (f g : Forest) → IsClosedTemplate most bytes f → IsClosedTemplate most bytes g → f ≡ g

-- what is a template without gaps is refused for want of memory alone
abbrev pub NotBothClosed : Type 0
NotBothClosed = (most : ℕ) (bytes : List ℕ) (f : Forest) (e : TmplFault) → IsClosedTemplate most bytes f → IsClosedRefused most bytes e → e ≡ fault.Memory

-- there is one reason at most, beside want of memory
abbrev pub OneClosedReason : Type 0
OneClosedReason =
    (most : ℕ) (bytes : List ℕ) (d e : TmplFault) → IsClosedRefused most bytes d → IsClosedRefused most bytes e → (d ≡ fault.Memory → ⊥)
    → (e ≡ fault.Memory → ⊥) → d ≡ e

-- bytes are a template without gaps, or there is a reason beside want of memory
abbrev pub ClosedReadOrRefused : Type 0
ClosedReadOrRefused =
    (most : ℕ) (bytes : List ℕ) →
    ((f : Forest) × IsClosedTemplate most bytes f) ⊎ ((e : TmplFault) × (e ≢ fault.Memory) × IsClosedRefused most bytes e)

-- a template without gaps is a template, whatever the table
abbrev pub ClosedIsTemplate : Type 0
ClosedIsTemplate = (names : List (List ℕ)) (most : ℕ) (bytes : List ℕ) (f : Forest) → IsClosedTemplate most bytes f → IsTemplate names most bytes f

-- the items of a template without gaps have no open gap
abbrev pub ClosedHasNoGap : Type 0
ClosedHasNoGap = (most : ℕ) (bytes : List ℕ) (f : Forest) → IsClosedTemplate most bytes f → (g : ℕ) → count g f ≡ 0

-- a template's items are bounded by its bytes
abbrev pub ItemsBounded : Type 0
ItemsBounded = (names : List (List ℕ)) (most : ℕ) (bytes : List ℕ) (f : Forest) → IsTemplate names most bytes f → items_weight f ≤ 65 * length bytes

-- what is read is markup
abbrev pub ReadsMarkup : Type 0
ReadsMarkup = (names : List (List ℕ)) (most : ℕ) (bytes : List ℕ) (f : Forest) → IsTemplate names most bytes f → IsMarkup f

-- filling a gap by markup leaves markup
abbrev pub PlugsMarkup : Type 0
PlugsMarkup = (g : ℕ) (e f : Forest) → IsMarkup e → IsMarkup f → IsMarkup (plug g e f)

-- filling a gap by a string leaves markup
abbrev pub PlugsTextMarkup : Type 0
PlugsTextMarkup = (g : ℕ) (s : List ℕ) (f : Forest) → IsUtf8 s → IsMarkup f → IsMarkup (plug_text g s f)

-- closing leaves markup without open gaps
abbrev pub ClosesMarkup : Type 0
ClosesMarkup = (f : Forest) → IsMarkup f → IsClosedMarkup (close f)

-- What is printed reads as the document, with neighbouring texts joined and without empty ones.
abbrev pub ReadsBack : Type 0
ReadsBack = (f : Forest) (most : ℕ) → IsClosedMarkup f → nest f ≤ most → IsClosedTemplate most (print f) (joined f)

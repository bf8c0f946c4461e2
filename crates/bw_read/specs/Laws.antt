-- Laws of pages that are read.
use Rattle.std.specs.Prelude.{◌≡◌, ◌≤◌, ◌<◌, ◌^◌, ℕ, ◌⊎◌, List, length, IsUtf8}
use Rattle.bw_lang.specs.declared.measure.Measure.{Measure}
use Rattle.bw_lang.specs.Template.Controls.{fields}
use Rattle.bw_lang.specs.Document.Documents.{count, elements}
use Rattle.bw_lang.specs.Document.Forest.{Forest}
use Rattle.bw_lang.specs.Document.Measures.{nest}
use Rattle.bw_lang.specs.Document.Print.{print, joined}
use Rattle.bw_page.specs.Laws.{turn_target}
use Rattle.bw_page.specs.Pages.{show_page, exit_page}
use Rattle.bw_read.specs.Made.{IsMade, IsShown, IsTitle, IsTurn}
use Rattle.bw_read.specs.Pages.{IsRoot, IsPage}
use Rattle.bw_tmpl.specs.Markup.{IsMarkup, IsClosedMarkup}
use Rattle.bw_lang.specs.declared.measure.TheConstants.{MAX_NEST}
use Rattle.bw_read.specs.declared.reading.TheConstants.{MAX_PAGE_BYTES, MAX_PAGE_NEST}

-- ---- what is read

-- bytes are the page of one document at most
abbrev pub OnePage : Type 0
OnePage = (bytes : List ℕ) (f g : Forest) → IsPage bytes f → IsPage bytes g → f ≡ g

-- bytes are the page of a document or of none
abbrev pub PageOrNone : Type 0
PageOrNone = (bytes : List ℕ) → ((f : Forest) × IsPage bytes f) ⊎ ((f : Forest) → IsPage bytes f → ⊥)

-- a page is markup
abbrev pub PagesAreMarkup : Type 0
PagesAreMarkup = (bytes : List ℕ) (f : Forest) → IsPage bytes f → IsMarkup f

-- it has no open gap
abbrev pub PagesHaveNoGap : Type 0
PagesHaveNoGap = (bytes : List ℕ) (f : Forest) → IsPage bytes f → (g : ℕ) → count g f ≡ 0

-- its texts are joined
abbrev pub PagesAreJoined : Type 0
PagesAreJoined = (bytes : List ℕ) (f : Forest) → IsPage bytes f → joined f ≡ f

-- its elements can be counted in 32 bits
abbrev pub PagesAreSmall : Type 0
PagesAreSmall = (bytes : List ℕ) (f : Forest) → IsPage bytes f → elements f < 2 ^ 32

-- ---- joining

-- texts that are joined stay so
abbrev pub JoinsOnce : Type 0
JoinsOnce = (d : Forest) → joined (joined d) ≡ joined d

-- joining texts changes no field
abbrev pub JoinsNoField : Type 0
JoinsNoField = (d : Forest) → fields (joined d) ≡ fields d

-- nor how many elements there are
abbrev pub JoinsNoElement : Type 0
JoinsNoElement = (d : Forest) → elements (joined d) ≡ elements d

-- ---- printing and reading

-- what a page prints to reads as it, with its texts joined
abbrev pub ReadsBack : Type 0
ReadsBack = (f : Forest) → IsClosedMarkup f → IsRoot f → nest f ≤ MAX_PAGE_NEST → length (print f) ≤ MAX_PAGE_BYTES → IsPage (print f) (joined f)

-- so it is with the page that shows a document
abbrev pub ShownReadsBack : Type 0
ShownReadsBack =
    (title target : List ℕ) (d : Forest) → IsUtf8 title → IsUtf8 target → IsMarkup d → nest d ≤ MAX_NEST →
    let page = show_page title target d in length (print page) ≤ MAX_PAGE_BYTES → IsPage (print page) (joined page)

-- and with a session's last page
abbrev pub LastReadsBack : Type 0
LastReadsBack =
    (title : List ℕ) (d : Forest) → IsUtf8 title → IsMarkup d → nest d ≤ MAX_NEST →
    let page = exit_page title d in length (print page) ≤ MAX_PAGE_BYTES → IsPage (print page) (joined page)

-- ---- the pages of a service

-- a document that is made by plugs from items that read is markup
abbrev pub MadeIsMarkup : Type 0
MadeIsMarkup = (d : Forest) (m : Measure) → IsMade d m → IsMarkup d

-- the page that shows one to a session's client reads back
abbrev pub MadeShownReadsBack : Type 0
MadeShownReadsBack =
    (title number key turn : List ℕ) (d : Forest) → IsTitle title → IsTurn number key turn → IsShown d →
    let page = show_page title (turn_target number key turn) d in IsPage (print page) (joined page)

-- and so does the page with which a session ends
abbrev pub MadeLastReadsBack : Type 0
MadeLastReadsBack = (title : List ℕ) (d : Forest) → IsTitle title → IsShown d → let page = exit_page title d in IsPage (print page) (joined page)

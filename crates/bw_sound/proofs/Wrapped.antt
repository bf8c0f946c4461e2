-- A document in its wrapper, closed, is the page.
use Rattle.std.proofs.Common.{◌≡◌, ℕ, List, [], ◌∷◌, codes, ap}
use Rattle.bw_lang.specs.declared.items.AttrValue.TheVariants.{Fixed}
use Rattle.bw_lang.specs.Document.Documents.{append, close}
use Rattle.bw_lang.specs.Document.Forest.{Forest, none, text, element}
use Rattle.bw_lang.specs.Document.Wrappers.{page, attr, button}
use Rattle.bw_lang.proofs.Forests.{close-append}
use Rattle.bw_page.specs.Pages.{show_page, exit_page}

-- a form with this target around the items
abbrev pub form_around : List ℕ → Forest → Forest
form_around target items =
    element (codes "form") (attr (codes "action") (Fixed target) ∷ attr (codes "method") (Fixed (codes "post")) ∷ []) items none

-- the wrapper of a shown page with its gaps filled
abbrev pub shown : List ℕ → List ℕ → Forest → Forest
shown title target d = page (text title none) (form_around target (append d button))

-- the wrapper of a last page with its gaps filled
abbrev pub ended : List ℕ → Forest → Forest
ended title d = page (text title none) (append d none)

pub shown_closed : (title target : List ℕ) (d : Forest) → close (shown title target d) ≡ show_page title target d
shown_closed title target d = ap (λ items. page (text title none) (form_around target items)) (close-append d button)

pub ended_closed : (title : List ℕ) (d : Forest) → close (ended title d) ≡ exit_page title d
ended_closed title d = ap (page (text title none)) (close-append d none)

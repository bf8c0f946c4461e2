-- The wrappers of pages: documents with gaps that a title, a form's target and a session's document fill.
use Rattle.std.specs.Prelude.{ℕ, ◌+◌, List, [], ◌∷◌, codes}
use Rattle.bw_lang.specs.declared.items.Attr.{Attr}
use Rattle.bw_lang.specs.declared.items.AttrValue.{AttrValue}
use Rattle.bw_lang.specs.declared.items.AttrValue.TheVariants.{Fixed, Hole}
use Rattle.bw_lang.specs.Document.Documents.{append}
use Rattle.bw_lang.specs.Document.Forest.{Forest, none, gap, element}

-- an element without attributes
abbrev pub plain : List ℕ → Forest → Forest
plain tag items = element tag [] items none

-- an attribute with this value
abbrev pub attr : List ℕ → AttrValue → Attr
attr name value = record { name = name; value = value }

-- a whole page with these items as its title, and these in its body
abbrev pub page : Forest → Forest → Forest
page title body = plain (codes "html") (element (codes "head") [] (plain (codes "title") title) (plain (codes "body") body))

-- the button at the end of a form: <p><input type="submit" value="Continue"/></p>
abbrev pub button : Forest
button =
    plain (codes "p")
    (element (codes "input") (attr (codes "type") (Fixed (codes "submit")) ∷ attr (codes "value") (Fixed (codes "Continue")) ∷ []) none none)

-- a form with this target around the items and the button
abbrev pub form : AttrValue → Forest → Forest
form target items =
    element (codes "form") (attr (codes "action") target ∷ attr (codes "method") (Fixed (codes "post")) ∷ []) (append items button) none

-- The gaps title, target and document of a wrapper have the numbers n, n + 1 and n + 2.

-- the wrapper of a shown page: <html><head><title><[title]></title></head><body><form action=[target] method="post">
-- <[document]><p><input type="submit" value="Continue"/></p></form></body></html>, in one line
abbrev pub show_wrapper : ℕ → Forest
show_wrapper n = page (gap n none) (form (Hole (n + 1)) (gap (n + 2) none))

-- the wrapper of a session's last page: <html><head><title><[title]></title></head><body><[document]></body></html>
abbrev pub exit_wrapper : ℕ → Forest
exit_wrapper n = page (gap n none) (gap (n + 2) none)

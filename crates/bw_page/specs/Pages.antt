-- The pages that documents are wrapped into: the wrappers, plugged with the title, the target and the closed document.
use Rattle.std.specs.Prelude.{ℕ, ◌+◌, List}
use Rattle.bw_lang.specs.Document.Forest.{Forest}
use Rattle.bw_lang.specs.Document.Documents.{plug, plug_text, close}
use Rattle.bw_lang.specs.Document.Wrappers.{show_wrapper, exit_wrapper}

-- the wrapper of a shown page, plugged with the title, the target and the closed document
abbrev pub show_page_at : ℕ → List ℕ → List ℕ → Forest → Forest
show_page_at n title target document = plug (n + 2) (close document) (plug_text (n + 1) target (plug_text n title (show_wrapper n)))

-- the wrapper of a session's last page, plugged with the title and the closed document
abbrev pub exit_page_at : ℕ → List ℕ → Forest → Forest
exit_page_at n title document = plug (n + 2) (close document) (plug_text n title (exit_wrapper n))

-- a shown page. Its wrapper's gaps may have any numbers, since a document is closed before it meets them
abbrev pub show_page : List ℕ → List ℕ → Forest → Forest
show_page title target document = show_page_at 0 title target document

-- a session's last page
abbrev pub exit_page : List ℕ → Forest → Forest
exit_page title document = exit_page_at 0 title document

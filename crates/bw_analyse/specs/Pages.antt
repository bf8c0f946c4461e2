-- The graphs of pages.
use Rattle.std.specs.Prelude.{◌≡◌, ℕ, ◌+◌, [], ◌∷◌, length, Option, Some, None, slice_get}
use Rattle.bw_lang.specs.declared.service.Service.{Service}
use Rattle.bw_lang.specs.Table.Names.{name_number}
use Rattle.bw_flow.specs.Steps.{Act, sets, tests, goes_over, shows, exits, joins, Step}
use Rattle.bw_strings.specs.declared.strings.StrSet.{StrSet}
use Rattle.bw_strings.specs.declared.strings.StrSet.TheVariants.{Any, Of}
use Rattle.bw_strings.specs.Literals.{literals_of}
use Rattle.bw_sum.specs.Constants.{constant_of}
use Rattle.bw_sum.specs.declared.summary.Summary.{Summary}
use Rattle.bw_sum.specs.Summaries.{plugged, plugged_text}
use Rattle.bw_sum.specs.Templates.{template_items}
use Rattle.bw_analyse.specs.declared.facts.Facts.{Facts}
use Rattle.bw_analyse.specs.Abstracts.{no_document}
use Rattle.bw_analyse.specs.Facts.{page_of, shown_fact}
use Rattle.bw_flow.specs.Layout.{flow_of}

-- the summary of the wrapper of shown pages as it stands, and that of the wrapper of last pages
abbrev pub show_constant : Service → Summary
show_constant service = let n = length service.templates in constant_of n (template_items service n) (length service.gaps)

abbrev pub exit_constant : Service → Summary
exit_constant service = let n = length service.templates + 1 in constant_of n (template_items service n) (length service.gaps)

-- a shown page: the title, any target, and the document
abbrev pub shown_page : Service → StrSet → Summary → Summary
shown_page service name document =
    let gaps = length service.gaps in
    plugged (plugged_text (plugged_text (show_constant service) gaps name) (gaps + 1) Any) (gaps + 2) document

-- a last page
abbrev pub exited_page : Service → StrSet → Summary → Summary
exited_page service name document =
    let gaps = length service.gaps in plugged (plugged_text (exit_constant service) gaps name) (gaps + 2) document

-- the name of the service, as a string
abbrev pub name_of : Service → StrSet
name_of service = Of (name_number (literals_of service) service.name ∷ [])

-- the page of a point that does this, with this document
abbrev pub page_by : Service → Summary → Act → Summary
page_by service document (shows e rs) = shown_page service (name_of service) document
page_by service document (exits e) = exited_page service (name_of service) document
page_by service document (sets v e) = no_document
page_by service document (tests e) = no_document
page_by service document (goes_over v e) = no_document
page_by service document joins = no_document

abbrev pub page_at : Service → Option Summary → Option Step → Summary
page_at service None x = no_document
page_at service (Some document) None = no_document
page_at service (Some document) (Some x) = page_by service document x.act

-- the graph of the page at a place
abbrev pub page_graph : Service → Facts → ℕ → Summary
page_graph service facts p = page_at service (shown_fact facts p) (slice_get (flow_of service) p)

-- a show or an exit stands at the place
abbrev pub HasPage : Service → ℕ → Type 0
HasPage service p = (x : Step) × (slice_get (flow_of service) p ≡ Some x) × (page_of x.act ≡ None → ⊥)

-- What is read as a page.
use Rattle.std.proofs.Common.{◌≤◌, ℕ, List, [], length, arith, ap}
use Rattle.std.specs.Prelude.{◌++◌}
use Rattle.std.proofs.Common.{length-append}
use Rattle.bw_lang.specs.Document.Forest.{Forest}
use Rattle.bw_lang.specs.Template.Templates.{IsTemplate, IsClosedTemplate}
use Rattle.bw_lang.proofs.Weights.{parts_weigh}
use Rattle.bw_tmpl.proofs.GapLaws.{none_open}
use Rattle.bw_tmpl.proofs.Made.{reads_markup}
use Rattle.bw_tmpl.proofs.Weights.{items_bounded}
use Rattle.bw_read.specs.Laws.{PagesAreMarkup, PagesHaveNoGap, PagesAreJoined, PagesAreSmall}
use Rattle.bw_read.specs.Pages.{IsPage}
use Rattle.bw_read.proofs.Joining.{read_is_joined}

-- a page's element is a template, by a table without names
template : (bytes : List ℕ) (f : Forest) → IsClosedTemplate 512 bytes f → IsTemplate [] 512 bytes f
template bytes f h = record { pieces = h.pieces; spelled = h.spelled.spells; once = h.once; reads = h.reads; nested = h.nested }

pub pages_are_markup : PagesAreMarkup
pages_are_markup bytes f p = reads_markup [] 512 p.inside f (template p.inside f p.reads)

pub pages_have_no_gap : PagesHaveNoGap
pages_have_no_gap bytes f p = let h = p.reads in none_open [] h.pieces f h.spelled.closed h.reads

pub pages_are_joined : PagesAreJoined
pages_are_joined bytes f p = let h = p.reads in read_is_joined [] f h.pieces p.inside h.spelled.spells h.reads

inside_short : (bytes : List ℕ) (f : Forest) (p : IsPage bytes f) → length p.inside ≤ 4195328
inside_short bytes f p =
    let rest = p.inside ++ p.back in
    omega (arith, p.short, ap length p.parts, length-append p.front (p.doctype ++ rest), length-append p.doctype rest, length-append p.inside p.back)

pub pages_are_small : PagesAreSmall
pages_are_small bytes f p =
    omega (arith, inside_short bytes f p, items_bounded [] 512 p.inside f (template p.inside f p.reads), parts_weigh f)

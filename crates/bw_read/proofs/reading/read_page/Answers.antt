use Rattle.std.proofs.Common.{◌≤◌, ℕ, List, length, subst, sym, arith}
use Rattle.std.proofs.lemmas.Result.{err_from_is_err_and}
use Rattle.bw_lang.specs.Template.Templates.{IsClosedTemplate}
use Rattle.bw_tmpl.specs.Refusals.{IsClosedRefused}
use Rattle.bw_read.proofs.Decided.{page_read, refused, not_rooted}
use Rattle.bw_read.proofs.Pages.{pages_are_small}
use Rattle.bw_read.proofs.reading.read_page.Goals as goal

pub returns-in_err-items-clause-page : goal.returns-in_err-items-clause-page
returns-in_err-items-clause-page c =
    let p = err_from_is_err_and c.from_residual.result c.from_residual.ensures.1 in
    let fault = c.in_err-items.field-0.0 in
    let r = subst (λ (l : List ℕ). IsClosedRefused 512 l fault) c.element_of.ensures c.in_err-items.ensures.items in
    rw (p.1, p.2) (refused c.args.bytes.now fault r)

pub returns-then-is_root-clause-page : goal.returns-then-is_root-clause-page
returns-then-is_root-clause-page c =
    let items = c.in_ok-items.items in
    let reads = subst (λ (l : List ℕ). IsClosedTemplate 512 l items) c.element_of.ensures c.in_ok-items.ensures.items in
    let short : length c.args.bytes.now ≤ 4195328 = omega arith in
    page_read c.args.bytes.now items short c.if-not-is_utf8.ensures reads (sym c.if-is_root.ensures)

pub returns-then-is_root-clause-small : goal.returns-then-is_root-clause-small
returns-then-is_root-clause-small c = pages_are_small c.args.bytes.now c.in_ok-items.items (returns-then-is_root-clause-page c)

pub returns-else-is_root-clause-page : goal.returns-else-is_root-clause-page
returns-else-is_root-clause-page c =
    let items = c.in_ok-items.items in
    let reads = subst (λ (l : List ℕ). IsClosedTemplate 512 l items) c.element_of.ensures c.in_ok-items.ensures.items in
    not_rooted c.args.bytes.now items reads (sym c.if-is_root.ensures)

-- The bytes of a page read as it, with its texts joined, and joining texts leaves it valid.
use Rattle.std.proofs.Common.{ℕ, List, [], codes, ◌∙◌}
use Rattle.bw_http.specs.declared.request.Path.TheVariants as paths
use Rattle.bw_http.specs.Paths.{spelling}
use Rattle.bw_lang.specs.declared.items.AttrValue.TheVariants.{Fixed}
use Rattle.bw_lang.specs.declared.service.Service.{Service}
use Rattle.bw_lang.specs.Document.Documents.{append, close}
use Rattle.bw_lang.specs.Document.Forest.{Forest, none, text, element}
use Rattle.bw_lang.specs.Document.Print.{print, joined}
use Rattle.bw_lang.specs.Document.Wrappers.{page, form}
use Rattle.bw_lang.specs.Service.Reads.{IsReadable}
use Rattle.bw_made.specs.Made.{IsItemsOf, IsPageOf}
use Rattle.bw_made.proofs.Pages.{shown_pages_read_back, last_pages_read_back}
use Rattle.bw_meaning.specs.Values.{Document}
use Rattle.bw_page.specs.Pages.{show_page, exit_page}
use Rattle.bw_read.specs.Pages.{IsPage}
use Rattle.bw_read.proofs.Decided.{one_page}
use Rattle.bw_schema.specs.declared.schema.Schema.{Schema}
use Rattle.bw_schema.specs.Validity.{Valid}
use Rattle.bw_valid.proofs.BreachLaws.{valid_decided}
use Rattle.bw_valid.proofs.JoinedLaws.{breach_joined}
use Rattle.bw_sound.specs.Good.{ReadsAsValid}

page_valid : (schema : Schema) (title body : Forest) → Valid schema (page title body) → Valid schema (joined (page title body))
page_valid schema title body h =
    let inside = element (codes "head") [] (element (codes "title") [] title none) (element (codes "body") [] body none) in
    (valid_decided schema (joined (page title body))).1
    (breach_joined schema (codes "html") [] inside ∙ (valid_decided schema (page title body)).0 h)

reads_valid : (schema : Schema) (body : List ℕ) (f : Forest) → IsPage body f → Valid schema f → ReadsAsValid schema body f
reads_valid schema body f h v = record { reads = h; only = λ other k. one_page body other f k h; valid = v }

module _ (service : Service) (readable : ∥ IsReadable service ∥₁) (schema : Schema) (d : Document) (made : IsPageOf (IsItemsOf service) d) where
  pub show_reads : (number key turn : ℕ) → let page = show_page service.name (spelling (paths.Turn number key turn)) d.tree in
      Valid schema page → ReadsAsValid schema (print page) (joined page)
  show_reads number key turn valid =
      let target = spelling (paths.Turn number key turn) in
      reads_valid schema _ _ (shown_pages_read_back service d number key turn readable made)
      (page_valid schema (text service.name none) (form (Fixed target) (close d.tree)) valid)

  pub last_reads : let page = exit_page service.name d.tree in Valid schema page → ReadsAsValid schema (print page) (joined page)
  last_reads valid =
      reads_valid schema _ _ (last_pages_read_back service d readable made)
      (page_valid schema (text service.name none) (append (close d.tree) none) valid)

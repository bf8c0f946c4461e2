-- The templates of a service that was read are markup.
use Rattle.std.specs.Prelude.{ℕ, List}
use Rattle.std.specs.List.{All}
use Rattle.bw_lang.specs.declared.service.Service.{Service}
use Rattle.bw_lang.specs.Service.Reads.{Reads}
use Rattle.bw_tmpl.specs.Markup.{IsMarkup}

abbrev pub TemplatesAreMarkup : Type 0
TemplatesAreMarkup = (bytes : List ℕ) (service : Service) → Reads bytes service → All (λ t. IsMarkup t.items) service.templates

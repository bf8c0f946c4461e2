-- What tables say of the names of a service.
use Rattle.std.specs.Prelude.{◌≡◌, []}
use Rattle.bw_lang.specs.declared.service.Service.{Service}
use Rattle.bw_lang.specs.Table.Names.{with_names}
use Rattle.bw_types.specs.declared.tables.Tables.{Tables}
use Rattle.bw_types.specs.Fields.{template_fields}
use Rattle.bw_types.specs.Gaps.{template_uses}
use Rattle.bw_types.specs.Scopes.{template_names, session_names, shared_kinds}
use Rattle.bw_types.specs.Tables.{with_kinds, with_uses}

-- the tables hold the names of the templates and of the sessions, and with the kinds of their first places the shared
-- variables, the gaps of the templates and the fields of their controls
pub record IsKnown (service : Service) (tables : Tables) : Type 0 where
  pub templates : tables.templates ≡ with_names [] (template_names service)
  pub sessions : tables.sessions ≡ with_names [] (session_names service)
  pub shared : tables.shared ≡ with_kinds [] (shared_kinds service)
  pub gaps : tables.gaps ≡ with_uses [] (template_uses service.templates)
  pub fields : tables.fields ≡ with_kinds [] (template_fields service.templates)

-- The wrappers of a service's pages.
use Rattle.std.specs.Prelude.{◌≡◌, length}
use Rattle.bw_lang.specs.declared.service.Service.{Service}
use Rattle.bw_lang.specs.Document.Wrappers.{show_wrapper, exit_wrapper}
use Rattle.bw_shape.specs.declared.basis.Wrappers.{Wrappers}

-- these are the wrappers of shown and of last pages of the service
abbrev pub AreWrappers : Service → Wrappers → Type 0
AreWrappers service w = (w.show ≡ show_wrapper (length service.gaps)) × (w.exit ≡ exit_wrapper (length service.gaps))

-- The declarations of each sort, in source order.
use Rattle.std.specs.Prelude.{List, filter_map, Option, Some, None}
use Rattle.bw_lang.specs.declared.declaration.Declaration.{Declaration}
use Rattle.bw_lang.specs.declared.declaration.Declaration.TheVariants as declarations
use Rattle.bw_lang.specs.declared.service.Session.{Session}
use Rattle.bw_lang.specs.declared.service.Shared.{Shared}
use Rattle.bw_lang.specs.declared.service.Sort.{Sort}
use Rattle.bw_lang.specs.declared.service.Sort.TheVariants as sorts
use Rattle.bw_lang.specs.declared.service.Template.{Template}

-- what a declaration declares
abbrev pub sort_of : Declaration → Sort
sort_of (declarations.Template t) = sorts.Template
sort_of (declarations.Shared v) = sorts.Shared
sort_of (declarations.Session s) = sorts.Session

abbrev pub as_template : Declaration → Option Template
as_template (declarations.Template t) = Some t
as_template d = None

abbrev pub as_shared : Declaration → Option Shared
as_shared (declarations.Shared v) = Some v
as_shared d = None

abbrev pub as_session : Declaration → Option Session
as_session (declarations.Session s) = Some s
as_session d = None

-- the templates among declarations
abbrev pub templates_of : List Declaration → List Template
templates_of ds = filter_map as_template ds

-- the shared variables among them
abbrev pub shared_of : List Declaration → List Shared
shared_of ds = filter_map as_shared ds

-- and the sessions
abbrev pub sessions_of : List Declaration → List Session
sessions_of ds = filter_map as_session ds

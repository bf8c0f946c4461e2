-- The names of a service that was read.
use Rattle.std.specs.Prelude.{◌≤◌, ℕ, List, length}
use Rattle.std.specs.List.{All}
use Rattle.bw_lang.specs.declared.service.Literal.{Literal}
use Rattle.bw_lang.specs.declared.service.Literal.TheVariants as literals
use Rattle.bw_lang.specs.declared.service.Service.{Service}
use Rattle.bw_lang.specs.declared.service.Session.{Session}
use Rattle.bw_lang.specs.declared.service.Shared.{Shared}
use Rattle.bw_lang.specs.declared.stmt.Receive.{Receive}
use Rattle.bw_lang.specs.Service.Code.{Code, done, declare, assign, if_then, if_else, while_loop, block, for_each, show, exit}
use Rattle.bw_lang.specs.Service.Reads.{IsReadable}
use Rattle.bw_types.specs.Fields.{field_names}
use Rattle.bw_lang.specs.Service.Term.{Term, int, truth, string, name, paren, not, neg, binary, call, plug, nothing, Fillings, no_more, filling}
use Rattle.bw_lang.specs.declared.limits.TheConstants.{MAX_NAME_BYTES}

abbrev pub IsShortName : List ℕ → Type 0
IsShortName w = length w ≤ MAX_NAME_BYTES

-- each name in the expression is short
abbrev mutual
  pub HasShortNames : Term → Type 0
  HasShortNames (int n) = Unit {0}
  HasShortNames (truth b) = Unit {0}
  HasShortNames (string s) = Unit {0}
  HasShortNames (name w) = IsShortName w
  HasShortNames (paren e) = HasShortNames e
  HasShortNames (not e) = HasShortNames e
  HasShortNames (neg e) = HasShortNames e
  HasShortNames (binary op l r) = HasShortNames l × HasShortNames r
  HasShortNames (call f e) = HasShortNames e
  HasShortNames (plug b ps) = HasShortNames b × HaveShortNames ps
  HasShortNames nothing = Unit {0}

  pub HaveShortNames : Fillings → Type 0
  HaveShortNames no_more = Unit {0}
  HaveShortNames (filling w e ps) = IsShortName w × HasShortNames e × HaveShortNames ps

-- the target and the field of a receive are short
abbrev pub IsShortReceive : Receive → Type 0
IsShortReceive r = IsShortName r.target × IsShortName r.field

-- each name in the statements is short
abbrev pub CodeHasShortNames : Code → Type 0
CodeHasShortNames done = Unit {0}
CodeHasShortNames (declare t w e rest) = IsShortName w × HasShortNames e × CodeHasShortNames rest
CodeHasShortNames (assign w e rest) = IsShortName w × HasShortNames e × CodeHasShortNames rest
CodeHasShortNames (if_then t y rest) = HasShortNames t × CodeHasShortNames y × CodeHasShortNames rest
CodeHasShortNames (if_else t y n rest) = HasShortNames t × CodeHasShortNames y × CodeHasShortNames n × CodeHasShortNames rest
CodeHasShortNames (while_loop t b rest) = HasShortNames t × CodeHasShortNames b × CodeHasShortNames rest
CodeHasShortNames (block b rest) = CodeHasShortNames b × CodeHasShortNames rest
CodeHasShortNames (for_each w e b rest) = IsShortName w × HasShortNames e × CodeHasShortNames b × CodeHasShortNames rest
CodeHasShortNames (show p rs rest) = HasShortNames p × All IsShortReceive rs × CodeHasShortNames rest
CodeHasShortNames (exit p rest) = HasShortNames p × CodeHasShortNames rest

-- the literal is no name, or a short one
abbrev pub NamesShort : Literal → Type 0
NamesShort (literals.Tmpl w) = IsShortName w
NamesShort l = Unit {0}

abbrev pub IsShortShared : Shared → Type 0
IsShortShared v = IsShortName v.name × NamesShort v.init

abbrev pub IsShortSession : Session → Type 0
IsShortSession s = IsShortName s.name × CodeHasShortNames s.body

-- no name of a service is longer than 64 bytes: its own, those of its declarations and of its gaps, and those that stand
-- in its sessions
pub record NamesAreShort (service : Service) : Type 0 where
  pub own : IsShortName service.name
  pub gaps : All IsShortName service.gaps
  pub templates : All (λ t. IsShortName t.name) service.templates
  pub shared : All IsShortShared service.shared
  pub sessions : All IsShortSession service.sessions

abbrev pub ReadableHasShortNames : Type 0
ReadableHasShortNames = (service : Service) → ∥ IsReadable service ∥₁ → NamesAreShort service

-- so it is with the names of its controls and the fields that its sessions receive
abbrev pub FieldsAreShort : Type 0
FieldsAreShort = (service : Service) → ∥ IsReadable service ∥₁ → All IsShortName (field_names service)

use Rattle.std.proofs.Common.{◌≡◌, ◌∙◌, sym, ap, List, Ok, Err}
use Rattle.std.specs.Prelude.{IfOk, Result, Option, Some, ℕ}
use Rattle.bw_lang.specs.declared.declaration.Draft.{Draft}
use Rattle.bw_lang.specs.declared.token.Lexeme.{Lexeme}
use Rattle.bw_parse.specs.declared.fault.ParseFault.{ParseFault}
use Rattle.bw_parse.specs.declared.fault.ParseFault.TheVariants as faults
use Rattle.bw_parse.specs.declared.services.ServiceDraft.{ServiceDraft}
use Rattle.bw_parse.specs.Gives.{Gives}
use Rattle.bw_parse.specs.Steps.Services.{parse_service}
use Rattle.bw_parse.proofs.Drafts.{ReadsService, service_is, service_gives}
use Rattle.bw_parse.proofs.services.parse_service.Goals as goal

abbrev parts : ServiceDraft → List ℕ × List Draft
parts d = (d.name, d.drafts.items)

found : (r : Result ServiceDraft ParseFault) (ts : List Lexeme) → Gives parts r (parse_service ts) → IfOk r (λ d. ReadsService ts d.name d.drafts.items)
found (Ok d) ts g = service_is ts (d.name, d.drafts.items) g
found (Err e) ts g = tt

only : (r : Result ServiceDraft ParseFault) (x y : Option (List ℕ × List Draft)) → Gives parts r x → x ≡ y → Gives parts r y
only (Ok d) x y g p = sym p ∙ g
only (Err faults.Memory) x y g p = tt
only (Err (faults.Syntax left)) x y g p = sym p ∙ g

pub returns-clause-found : goal.returns-clause-found
returns-clause-found c = found c.whole_service.result c.args.lexemes.now c.whole_service.ensures

pub returns-clause-only : goal.returns-clause-only
returns-clause-only c name ds n v p =
    only c.whole_service.result (parse_service c.args.lexemes.now) (Some (name, ds)) c.whole_service.ensures (ap parse_service p ∙ service_gives name ds n v)

use Rattle.std.proofs.Common.{◌≡◌, length, []}
use Rattle.bw_parse.specs.Steps.Services.{parse_drafts}
use Rattle.bw_parse.proofs.services.drafts.Given as goal

abbrev pub invariant-drafts : goal.invariant-drafts
invariant-drafts l = parse_drafts [] l.fn.lexemes ≡ parse_drafts l.list.items l.rest

abbrev pub decreases-drafts : goal.decreases-drafts
decreases-drafts l = length l.rest

use Rattle.std.proofs.Common.{◌≡◌, IfSome, subst}
use Rattle.bigwig.proofs.Causes.{closed_shows}
use Rattle.bigwig.proofs.Brought.{file_brought, file_refuses, memory_refuses, nothing_brought}
use Rattle.bigwig.proofs.bringing.bring_back.Goals as goal

pub returns-in-Ok-None-clause-found : goal.returns-in-Ok-None-clause-found
returns-in-Ok-None-clause-found g c =
    nothing_brought g.F.File.Channel.left _ c.args.name.now c.args.text.now _ _ _ c.bring_nothing.result c.in-Ok-None.field-0-is c.in-Ok-None.ensures.found
    c.bring_nothing.ensures.stands c.bring_nothing.ensures.sound c.bring_nothing.ensures.found c.bring_nothing.ensures.service

pub returns-in-Ok-None-clause-stops : goal.returns-in-Ok-None-clause-stops
returns-in-Ok-None-clause-stops g c = memory_refuses _ c.args.name.now c.args.text.now _ _ c.bring_nothing.result c.bring_nothing.ensures.memory

pub returns-in-Ok-Some-clause-found : goal.returns-in-Ok-Some-clause-found
returns-in-Ok-Some-clause-found g c =
    file_brought g.F.File.Channel.left _ c.args.name.now c.args.text.now _ c.in-Ok-Some.file _ _ c.bring_file-brought.result c.in-Ok-Some.field-0-is
    c.in-Ok-Some.ensures.found c.bring_file-brought.ensures.found

pub returns-in-Ok-Some-clause-stops : goal.returns-in-Ok-Some-clause-stops
returns-in-Ok-Some-clause-stops g c =
    file_refuses g.F.File.Channel.left _ c.args.name.now c.args.text.now _ c.in-Ok-Some.file _ _ c.bring_file-brought.result c.in-Ok-Some.field-0-is
    c.in-Ok-Some.ensures.found c.bring_file-brought.ensures.stops

pub returns-in-Ok-Some-clause-read_fault : goal.returns-in-Ok-Some-clause-read_fault
returns-in-Ok-Some-clause-read_fault g c =
    closed_shows _ _ _ _ _ _ c.in-Ok-Some.ensures.cause.quiet
    (subst (λ f. IfSome f (λ file. g.F.File.Channel.read_faults file ≡ 0)) c.in-Ok-Some.field-0-is c.in-Ok-Some.ensures.fresh)
    c.bring_file-brought.ensures.takes.cause c.close.ensures.failed c.close.ensures.quiet

use Rattle.std.proofs.Common.{◌≡◌, None, arith}
use Rattle.bw_load.specs.Loaded.{world_of}
use Rattle.bw_load.specs.Loads.{uncovered}
use Rattle.bw_load.proofs.Found.{found}
use Rattle.bw_load.proofs.Lawful.{typed_is_small}
use Rattle.bw_load.proofs.Truncated.{accepted_is_sound, of_answer, of_good_answer}
use Rattle.bw_saved.specs.FileLaws.{IsFile}
use Rattle.bw_sound.specs.Worlds.{IsSoundWorld}
use Rattle.bw_load.proofs.loading.load.Goals as goal

pub if_covered-requires : goal.if_covered-requires
if_covered-requires c =
    (found c.files_read_back.ensures.found c.typed.result.now c.args.checked.now.typed c.flow.result.now c.args.checked.now.flow c.args.text.now
    c.args.bytes.now
    c.in-Ok.saved c.typed.ensures c.flow.ensures c.args.checked.now.lowered (typed_is_small c.args.checked.now.typed) (λ i. omega (arith, c.type_inv.bytes i))
    c.in-Ok.ensures).saved

pub returns-clause-file : goal.returns-clause-file
returns-clause-file c =
    of_answer (IsFile c.args.checked.now.typed.service c.args.text.now c.args.bytes.now) c.if_covered.result c.in-Ok.saved c.if_covered.ensures.same
    (found c.files_read_back.ensures.found c.typed.result.now c.args.checked.now.typed c.flow.result.now c.args.checked.now.flow c.args.text.now
    c.args.bytes.now
    c.in-Ok.saved c.typed.ensures c.flow.ensures c.args.checked.now.lowered (typed_is_small c.args.checked.now.typed) (λ i. omega (arith, c.type_inv.bytes i))
    c.in-Ok.ensures)

pub returns-clause-sound : goal.returns-clause-sound
returns-clause-sound c =
    let service = c.args.checked.now.typed.service in
    let facts = c.args.checked.now.facts in
    of_good_answer (λ s. ∥ IsSoundWorld service (world_of service s) ∥₁) (uncovered service facts c.in-Ok.saved ≡ None) c.if_covered.result c.in-Ok.saved
    c.if_covered.ensures.same c.if_covered.ensures.covered
    (λ none. accepted_is_sound c.loaded_is_sound.ensures c.args.checked.now.typed c.args.checked.now.schema facts c.in-Ok.saved c.args.checked.now.accepted
    (found c.files_read_back.ensures.found c.typed.result.now c.args.checked.now.typed c.flow.result.now c.args.checked.now.flow c.args.text.now
    c.args.bytes.now
    c.in-Ok.saved c.typed.ensures c.flow.ensures c.args.checked.now.lowered (typed_is_small c.args.checked.now.typed) (λ i. omega (arith, c.type_inv.bytes i))
    c.in-Ok.ensures).saved none)

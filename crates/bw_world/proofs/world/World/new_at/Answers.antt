use Rattle.std.proofs.Common.{sym, subst}
use Rattle.bw_sound.specs.Worlds.{BeginsSound}
use Rattle.bw_sound.proofs.Runs.{empty_is_sound}
use Rattle.bw_world.proofs.Good.{begins_sound}
use Rattle.bw_world.proofs.world.World.new_at.Goals as goal

pub invariant_of-result : goal.invariant_of-result
invariant_of-result c =
    let checked = c.args.checked in
    begins_sound checked.typed checked.schema checked.facts c.in_ok-state.state c.args.next c.args.first checked.accepted c.in_ok-state.ensures.service
    c.in_ok-state.ensures.stands

pub returns-clause-sound : goal.returns-clause-sound
returns-clause-sound c = subst BeginsSound (sym c.in_ok-state.ensures.service) (empty_is_sound c.args.checked.typed)

use Rattle.std.proofs.Common.{◌≡◌, ◌++◌, OnOk, None, refl, subst}
use Rattle.bw_diagnose.specs.Blocks as spec
use Rattle.bw_diagnose.specs.Places.{name_place}
use Rattle.bw_hints.specs.Hints as hints
use Rattle.bw_diagnose.proofs.SameBlocks.{same_block}
use Rattle.bw_diagnose.proofs.blocks.push_facts_block.Goals as goal

pub returns : goal.returns
returns c =
    let name = c.args.name.now in
    let text = c.args.told.now.text.now in
    subst (λ b. OnOk c.push_block.result (c.push_block.new.out.items ≡ c.args.out.now.items ++ b))
    (same_block name text c.name_place.result (name_place text) None None c.facts_what.result.now hints.facts_what c.facts_mend.result.now hints.facts_mend
    c.name_place.ensures refl c.facts_what.ensures c.facts_mend.ensures) c.push_block.ensures

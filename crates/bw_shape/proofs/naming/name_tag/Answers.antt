use Rattle.bw_shape.proofs.PairsNamed.{tag_low, tag_front}
use Rattle.bw_shape.proofs.naming.name_tag.Goals as goal

pub returns-clause-low : goal.returns-clause-low
returns-clause-low c = tag_low c.args.tags.now c.add.new.self c.args.tag.now c.in_ok-add.ensures.ok

pub returns-clause-front : goal.returns-clause-front
returns-clause-front c = tag_front c.args.tags.now c.add.new.self c.args.tag.now c.in_ok-add.ensures.ok

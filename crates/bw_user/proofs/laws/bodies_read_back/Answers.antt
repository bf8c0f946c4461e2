use Rattle.bw_user.proofs.Read.{answers_are_text}
use Rattle.bw_user.proofs.ReadBack.{bodies_read_back}
use Rattle.bw_user.proofs.laws.bodies_read_back.Goals as goal

pub returns : goal.returns
returns c = record { back = bodies_read_back; text = answers_are_text }

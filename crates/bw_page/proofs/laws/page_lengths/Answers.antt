use Rattle.bw_page.proofs.Sizes.{exit_length, show_length, turn_length}
use Rattle.bw_page.proofs.laws.page_lengths.Goals as goal

pub returns : goal.returns
returns c = record { exit = exit_length; show = show_length; turn = turn_length }

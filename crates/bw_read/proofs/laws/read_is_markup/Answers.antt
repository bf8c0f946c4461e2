use Rattle.bw_read.proofs.Pages.{pages_are_markup, pages_have_no_gap, pages_are_joined, pages_are_small}
use Rattle.bw_read.proofs.laws.read_is_markup.Goals as goal

pub returns : goal.returns
returns c = record { markup = pages_are_markup; no_gap = pages_have_no_gap; joined = pages_are_joined; small = pages_are_small }

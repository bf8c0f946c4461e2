use Rattle.bw_made.proofs.Pages.{pages_are_shown, shown_pages_read_back, last_pages_read_back, waiting_is_made}
use Rattle.bw_made.proofs.laws.pages_read_back.Goals as goal

pub returns : goal.returns
returns c = record { documents = pages_are_shown; shown = shown_pages_read_back; last = last_pages_read_back; waits = waiting_is_made }

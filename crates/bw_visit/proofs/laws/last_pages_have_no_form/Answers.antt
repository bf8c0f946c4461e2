use Rattle.bw_visit.proofs.LastPages.{last_pages_have_no_form}
use Rattle.bw_visit.proofs.laws.last_pages_have_no_form.Goals as goal

pub returns : goal.returns
returns c = last_pages_have_no_form

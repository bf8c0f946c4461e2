use Rattle.bw_http.proofs.Lossy.{requests_are_text, cuts_are_text}
use Rattle.bw_http.proofs.laws.forms_are_text.Goals as goal

pub returns : goal.returns
returns c = record { requests = requests_are_text; cuts = cuts_are_text }

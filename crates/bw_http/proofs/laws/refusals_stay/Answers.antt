use Rattle.bw_http.proofs.Streams.{denied-append, too_long_stays}
use Rattle.bw_http.proofs.laws.refusals_stay.Goals as goal

pub returns : goal.returns
returns c = record { refused = denied-append; long = too_long_stays }

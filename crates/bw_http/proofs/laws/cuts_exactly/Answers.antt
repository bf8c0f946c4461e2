use Rattle.bw_http.proofs.Streams.{message_unique, denied_exact}
use Rattle.bw_http.proofs.Due.{message_exact, long_exact, end_exact}
use Rattle.bw_http.proofs.OnePath.{one_request}
use Rattle.bw_http.proofs.laws.cuts_exactly.Goals as goal

pub returns : goal.returns
returns c = record { one = message_unique; request = one_request; refused = denied_exact; long = long_exact; read = message_exact; end = end_exact }

use Rattle.bw_http.proofs.Streams.{cut_tells}
use Rattle.bw_http.proofs.reading.read_request.Goals as goal

pub returns-clause-stream : goal.returns-clause-stream
returns-clause-stream g c = cut_tells _ _ _ _ _ c.take_request.ensures.taken

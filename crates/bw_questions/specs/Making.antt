-- What `make` prints: the made service of so many pages, and its turns.
use Rattle.std.specs.Prelude.{ℕ, ◌+◌, List, [], ◌∷◌, ◌++◌, length, map, codes, decimal}
use Rattle.std.specs.List.{range_with_len}
use Rattle.bw_http.specs.declared.replies.Reply.{Reply}
use Rattle.bw_http.specs.declared.replies.Reply.TheVariants as replies
use Rattle.bw_http.specs.declared.request.Method.TheVariants.{Get, Post}
use Rattle.bw_http.specs.declared.request.Path.TheVariants as paths
use Rattle.bw_http.specs.declared.request.Request.{Request}
use Rattle.bw_lang.specs.declared.service.Service.{Service}
use Rattle.bw_make.specs.Made.{made}
use Rattle.bw_model.specs.Sessions.{World, empty}
use Rattle.bw_model.specs.Steps.{step}
use Rattle.bw_questions.specs.Questions.{line}

-- the request that begins the made session, which gets number 1 and key 0
abbrev pub first_request : Request
first_request = record { method = Get; path = paths.Start (codes "go"); form = [] }

-- the form that it is sent at a turn: the turn's number
abbrev pub next_request : ℕ → Request
next_request turn = record { method = Post; path = paths.Turn 1 0 turn; form = (codes "f", decimal turn) ∷ [] }

-- all requests of a session of so many pages
abbrev pub requests : ℕ → List Request
requests count = first_request ∷ map next_request (range_with_len 1 count)

-- the length of the page that a reply has
abbrev pub page_length : Reply → ℕ
page_length (replies.Page page) = length page
page_length (replies.Final page) = length page
page_length other = 0

-- the lengths of all pages that are answered from a world on, together
abbrev pub sent : Service → World → List Request → ℕ
sent service world [] = 0
sent service world (request ∷ more) =
    let next = step service world request 0 in page_length next.reply + sent service next.world more

-- the five lines of a made service of so many pages and bytes, whose pages have so many bytes
abbrev pub lines_of : (count bytes sent : ℕ) → List ℕ
lines_of count bytes sent =
    line (codes "made " ++ decimal count) ++ (line (codes "bytes " ++ decimal bytes) ++ (line (codes "accepted")
    ++ (line (codes "turns " ++ decimal count) ++ line (codes "sent " ++ decimal sent))))

-- what is printed
abbrev pub made_text : ℕ → Service → List ℕ
made_text count service = lines_of count (length (made count)) (sent service (empty service) (requests count))

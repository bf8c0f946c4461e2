-- The requests of a made session are sent, and the lengths of their pages add up.
use Rattle.std.proofs.Common.{Vec, Global, ◌≡◌, ◌<◌, ◌≤◌, ◌+◌, ◌-◌, ℕ, suc, List, ◌∷◌, length, map, Option, None, Some, IfSome, IfOk, Result, sym, ap, ◌∙◌}
use Rattle.std.proofs.Common.{subst, inl, inr, arith}
use Rattle.std.specs.List.{range_with_len}
use Rattle.bw_http.specs.declared.replies.Reply.{Reply}
use Rattle.bw_http.specs.declared.replies.Reply.TheVariants as replies
use Rattle.bw_http.specs.declared.request.Request.{Request}
use Rattle.bw_lang.specs.declared.service.Service.{Service}
use Rattle.bw_lang.specs.declared.text.Memory.{Memory}
use Rattle.bw_make.specs.Made.{made}
use Rattle.bw_model.specs.Sessions.{World, empty}
use Rattle.bw_model.specs.Steps.{Step, step}
use Rattle.bw_out.specs.Told.{Disk}
use Rattle.bw_world.specs.Seen.{Seen}
use Rattle.bw_world.specs.Stands.{StandsFor, Ends, Handles}
use Rattle.bw_questions.specs.Asked.{Ruled, accepted_text, made_work, turned}
use Rattle.bw_questions.specs.Asked.Work.{prints}
use Rattle.bw_questions.specs.Making.{first_request, next_request, requests, page_length, sent, lines_of}
use Rattle.bigwig.specs.Sending.{IsSent}
use Rattle.bigwig.specs.Outcomes.{Speaks}
use Rattle.bw_questions.specs.Questions.{IsStop}
use Rattle.bw_command.specs.declared.status.Status.{Status}
use Rattle.bw_questions.specs.declared.stop.Stop.{Stop}
use Rattle.bw_questions.proofs.Answering.{stops_first}

-- ---- one request

end_sent : (old new : Seen) (reply : Reply) (a b n : ℕ) (s : Step) → n ≡ page_length reply → (reply ≡ replies.Memory → ⊥) → Ends old new reply a b s
    → (n ≡ page_length s.reply) × StandsFor new s.world
end_sent old new reply a b n s e some (inl w) = absurd (some w.reply)
end_sent old new reply a b n s e some (inr t) = (e ∙ ap page_length t.reply, t.world)

-- a request was answered, and this is the length of its page
pub one_sent : (old new : Seen) (request : Request) (reply : Reply) (a b n : ℕ) → n ≡ page_length reply → (reply ≡ replies.Memory → ⊥)
    → Handles old new reply a b (λ m. step old.service m request 0) → IsSent old new request n
one_sent old new request reply a b n e some handles m stands = end_sent old new reply a b n (step old.service m request 0) e some (handles m stands)

-- ---- one after another

-- The code's world stands for a model world, and so much was sent so far: what is sent from there on, by the turns that are
-- left, makes it all.
record Way (service : Service) (seen : Seen) (so_far turn count : ℕ) : Type 0 where
  pub world : World
  pub stands : StandsFor seen world
  pub all : so_far + sent service world (map next_request (range_with_len (turn + 1) (count - turn))) ≡ sent service (empty service) (requests count)

-- the same, which no tactic looks into
pub IsOnTheWay : Service → Seen → ℕ → ℕ → ℕ → Type 0
IsOnTheWay service seen so_far turn count = Way service seen so_far turn count

add_one : (a b c n all : ℕ) → a + (b + c) ≡ all → n ≡ b → (a + n) + c ≡ all
add_one a b c n all e f = omega (arith, e, f)

add_none : (a b all : ℕ) → a + b ≡ all → b ≡ 0 → a ≡ all
add_none a b all e f = omega (arith, e, f)

-- one request more
goes_on : (service : Service) (m : World) (request : Request) (more : List Request) (a n all : ℕ) → a + sent service m (request ∷ more) ≡ all
    → n ≡ page_length (step service m request 0).reply → (a + n) + sent service (step service m request 0).world more ≡ all
goes_on service m request more a n all e f =
    add_one a (page_length (step service m request 0).reply) (sent service (step service m request 0).world more) n all e f

less_one : (turn count : ℕ) → turn < count → count - turn ≡ suc (count - (turn + 1))
less_one turn count less = omega (arith, less)

next_taken : (turn count : ℕ) (request : Request) → turn < count → request ≡ next_request (turn + 1)
    → map next_request (range_with_len (turn + 1) (count - turn)) ≡ request ∷ map next_request (range_with_len (turn + 1 + 1) (count - (turn + 1)))
next_taken turn count request less is =
    ap (λ k. map next_request (range_with_len (turn + 1) k)) (less_one turn count less)
    ∙ ap (λ r. r ∷ map next_request (range_with_len (turn + 1 + 1) (count - (turn + 1)))) (sym is)

none_less : (count : ℕ) → count ≡ count - 0
none_less count = omega arith

pub way_begins : (old new : Seen) (request : Request) (n count : ℕ) → StandsFor old (empty old.service) → request ≡ first_request
    → IsSent old new request n → IsOnTheWay old.service new n 0 count
unfolding IsOnTheWay
way_begins old new request n count stands is sends =
    let m = empty old.service in
    let one = sends m stands in
    let more = map next_request (range_with_len 1 (count - 0)) in
    let all : sent old.service m (request ∷ more) ≡ sent old.service m (requests count) =
    ap (λ r. sent old.service m (r ∷ more)) is
    ∙ ap (λ k. sent old.service m (first_request ∷ map next_request (range_with_len 1 k))) (sym (none_less count)) in
    record {
      world = (step old.service m request 0).world;
      stands = one.1;
      all = ap (λ k. k + sent old.service (step old.service m request 0).world more) one.0 ∙ all;
    }

pub way_goes_on : (service : Service) (old new : Seen) (request : Request) (a n turn count : ℕ) → turn < count → old.service ≡ service
    → request ≡ next_request (turn + 1) → IsSent old new request n → IsOnTheWay service old a turn count → IsOnTheWay service new (a + n) (turn + 1) count
unfolding IsOnTheWay
way_goes_on service old new request a n turn count less by is sends way =
    let m = way.world in
    let more = map next_request (range_with_len (turn + 1 + 1) (count - (turn + 1))) in
    let here : a + sent service m (request ∷ more) ≡ sent service (empty service) (requests count) =
    ap (λ l. a + sent service m l) (sym (next_taken turn count request less is)) ∙ way.all in
    let one = subst (λ s. (n ≡ page_length (step s m request 0).reply) × StandsFor new (step s m request 0).world) by (sends m way.stands) in
    record { world = (step service m request 0).world; stands = one.1; all = goes_on service m request more a n _ here one.0 }

none_left : (turn count : ℕ) → count ≤ turn → count - turn ≡ 0
none_left turn count full = omega (arith, full)

pub way_ends : (service : Service) (seen : Seen) (a turn count : ℕ) → count ≤ turn → IsOnTheWay service seen a turn count
    → a ≡ sent service (empty service) (requests count)
unfolding IsOnTheWay
way_ends service seen a turn count full way =
    add_none a (sent service way.world (map next_request (range_with_len (turn + 1) (count - turn)))) _ way.all
    (ap (λ k. sent service way.world (map next_request (range_with_len (turn + 1) k))) (none_left turn count full))

-- ---- what is printed

-- the service is the one that the world was made with
pub lines_by : (service seen : Service) (count n s : ℕ) (r : Result (Vec ℕ Global) Memory) → seen ≡ service
    → s ≡ sent seen (empty seen) (requests count) → IfOk r (λ t. t.items ≡ lines_of count n s)
    → IfOk r (λ t. t.items ≡ lines_of count n (sent service (empty service) (requests count)))
lines_by service seen count n s r e f h =
    subst (λ k. IfOk r (λ t. t.items ≡ lines_of count n k)) (f ∙ ap (λ x. sent x (empty x) (requests count)) e) h

-- the made service was accepted, and its turns were run
pub made_gives : (count : ℕ) (text lines : List ℕ) (n : ℕ) (ruled : Ruled) → text ≡ made count → n ≡ length text → (accepted_text text).gives ruled
    → lines ≡ lines_of count n (sent ruled.service (empty ruled.service) (requests count)) → (made_work count).gives (prints lines)
made_gives count text lines n ruled e l g is = (
  ruled,
  subst (λ t. (accepted_text t).gives ruled) e g,
  ap prints (is ∙ ap (λ k. lines_of count k (sent ruled.service (empty ruled.service) (requests count))) (l ∙ ap length e)),
)

-- or it was not
pub made_stops : (count : ℕ) (text : List ℕ) (s : Stop) → text ≡ made count → IsStop (accepted_text text) s → IsStop (made_work count) s
made_stops count text s e h = stops_first (accepted_text (made count)) (turned count) s (subst (λ t. IsStop (accepted_text t) s) e h)

-- no file is asked for
pub made_speaks : (told : Option Disk) (count : ℕ) (held now : Option (List ℕ)) (r : Status) → Speaks (made_work count) held now r
    → IfSome told (λ d. Speaks (made_work count) held now r)
made_speaks None count held now r h = tt
made_speaks (Some d) count held now r h = h

-- Laws of the world.
use Rattle.std.specs.Prelude.{◌≡◌, ◌≢◌, ◌<◌, ◌≤◌, ℕ, Bool, true, false, List, [], ◌∷◌, ◌++◌, length, map, find, Some, ⊤}
use Rattle.std.specs.List.{AllByRecursion}
use Rattle.bw_http.specs.declared.replies.Reply.{Reply}
use Rattle.bw_http.specs.declared.replies.Reply.TheVariants as replies
use Rattle.bw_http.specs.declared.request.Request.{Request}
use Rattle.bw_lang.specs.declared.service.Service.{Service}
use Rattle.bw_model.specs.Answers.{Answer, Said}
use Rattle.bw_model.specs.Sessions.{Live, World, empty}
use Rattle.bw_model.specs.Steps.{is_of, reply_to, Answerer, step, step_by}
use Rattle.bw_model.specs.Talks.{Asked, said_to, conversation, own_answers}
use Rattle.bw_lang.specs.declared.turn.TheConstants.{BUDGET}
use Rattle.bw_model.specs.declared.limits.TheConstants.{MAX_LIVE}

-- ---- what is refused, is spent or fails

-- the reply is a page of a session
abbrev pub is_page : Reply → Bool
is_page (replies.Page page) = true
is_page (replies.Final page) = true
is_page reply = false

-- each other reply leaves the world as it was: each session, and each shared variable
abbrev pub OthersChangeNothing : Type 0
OthersChangeNothing =
    (service : Service) (w : World) (request : Request) (key : ℕ) →
    is_page (step service w request key).reply ≡ false → (step service w request key).world ≡ w

-- a request takes 100,000 units at most
abbrev pub StepsAreShort : Type 0
StepsAreShort = (service : Service) (w : World) (request : Request) (key : ℕ) → (step service w request key).cost ≤ BUDGET

-- ---- live sessions

-- no two of them have one number, and each number is below the next one
abbrev pub AreApart : ℕ → List Live → Type 0
AreApart next [] = ⊤
AreApart next (l ∷ ls) = (l.number < next) × AllByRecursion (λ (m : Live). m.number ≢ l.number) ls × AreApart next ls

-- so it is in a world, in which at most 1,000 are live
pub record IsWorld (w : World) : Type 0 where
  pub apart : AreApart w.next w.live
  pub few : length w.live ≤ MAX_LIVE

-- it is so in the empty world, and each step keeps it, whatever sessions are answered
abbrev pub EmptyIsWorld : Type 0
EmptyIsWorld = (service : Service) → IsWorld (empty service)

abbrev pub StepsKeepWorlds : Type 0
StepsKeepWorlds =
    (ans : Answerer) (service : Service) (w : World) (request : Request) (key : ℕ) → IsWorld w → IsWorld (step_by ans service w request key).world

-- ---- sessions don't meet, by whatever they are answered: by their meaning alone, or with formats of fields

-- What a session is answered, whichever requests come between, is what it alone is answered for what is said to it: for
-- its own submissions, and the shared variables at its own requests.
abbrev pub SessionsAreAlone : Type 0
SessionsAreAlone =
    (ans : Answerer) (service : Service) (w : World) (number key : ℕ) (l : Live) (asked : List Asked) → IsWorld w →
    find (is_of number key) w.live ≡ Some l →
    let talk = conversation ans service number key w asked in map (λ x. x.1) talk ≡ own_answers ans w.first (Some l.talk) (map (λ x. x.0) talk)

-- And what a request says to a live session is replied by that answer, under the session's number and key.
abbrev pub RepliesAreAnswers : Type 0
RepliesAreAnswers =
    (ans : Answerer) (service : Service) (w : World) (number key : ℕ) (l : Live) (a : Asked) (said : Said) → find (is_of number key) w.live ≡ Some l →
    said_to number key w a ≡ Some said →
    (step_by ans service w a.request a.key).reply ≡ reply_to service number key (ans w.first l.talk said).answer

-- So two sessions that have come to the same are answered alike in any two runs that say the same to them. Where one of
-- them gives way earlier it is answered alike until then.
abbrev pub RunsAgree : Type 0
RunsAgree =
    (ans : Answerer) (service : Service) (w w1 : World) (number number1 key key1 : ℕ) (l l1 : Live) (asked asked1 : List Asked) → IsWorld w →
    IsWorld w1 → w.first ≡ w1.first → find (is_of number key) w.live ≡ Some l → find (is_of number1 key1) w1.live ≡ Some l1 → l.talk ≡ l1.talk →
    let talk = conversation ans service number key w asked in
    let talk1 = conversation ans service number1 key1 w1 asked1 in
    (more : List Said) → map (λ x. x.0) talk1 ≡ map (λ x. x.0) talk ++ more → (later : List Answer) × (map (λ x. x.1) talk1 ≡ map (λ x. x.1) talk ++ later)

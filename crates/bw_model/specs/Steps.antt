-- One request is one step of the world.
use Rattle.std.specs.Prelude.{ℕ, suc, Bool, nat_lt, ◌==◌, ◌&&◌, if◌then◌else◌, List, [], ◌∷◌, ◌++◌, codes, flat_map, take, Option, Some, None}
use Rattle.std.specs.Option.{option_map}
use Rattle.bw_http.specs.declared.replies.Allow.TheVariants as methods
use Rattle.bw_http.specs.declared.replies.Reply.{Reply}
use Rattle.bw_http.specs.declared.replies.Reply.TheVariants as replies
use Rattle.bw_http.specs.declared.request.Method.{Method}
use Rattle.bw_http.specs.declared.request.Method.TheVariants.{Get, Other}
use Rattle.bw_http.specs.declared.request.Path.{Path}
use Rattle.bw_http.specs.declared.request.Path.TheVariants as paths
use Rattle.bw_http.specs.declared.request.Request.{Request}
use Rattle.bw_http.specs.Paths.{spelling}
use Rattle.bw_lang.specs.declared.service.Service.{Service}
use Rattle.bw_lang.specs.Document.Print.{print}
use Rattle.bw_meaning.specs.States.{Form}
use Rattle.bw_types.specs.Scopes.{session_of}
use Rattle.bw_page.specs.Pages.{show_page, exit_page}
use Rattle.bw_model.specs.Answers.{Answer, Shows, Ends, Says, Fate, Stays, IsUsed, GoesOn, Leaves, Said, Answered, turned, answered}
use Rattle.bw_model.specs.Sessions.{Started, Talk, Live, World, now}
use Rattle.bw_model.specs.declared.limits.TheConstants.{MAX_LIVE, MAX_NUMBER}

-- what a request comes to: the reply, the world afterwards, and the units that it took
pub record Step : Type 0 where
  pub reply : Reply
  pub world : World
  pub cost : ℕ

-- ---- replies

-- the session of this number and key is answered, with its pages under the service's name
abbrev pub reply_to : Service → ℕ → ℕ → Answer → Reply
reply_to service number key (Shows d turn) = replies.Page (print (show_page service.name (spelling (paths.Turn number key turn)) d.tree))
reply_to service number key (Ends d) = replies.Final (print (exit_page service.name d.tree))
reply_to service number key (Says reply) = reply

-- the names of the sessions in source order, a line each
abbrev pub index_of : Service → List ℕ
index_of service = flat_map (λ s. s.name ++ codes "\n") service.sessions

-- a reply after which the world is as it was
abbrev pub refuses : World → Reply → Step
refuses w reply = record { reply = reply; world = w; cost = 0 }

-- ---- live sessions

-- it has this number and this key
abbrev pub is_of : ℕ → ℕ → Live → Bool
is_of number key l = l.number == number && l.key == key

-- the live session of this number and key, and the others in their order
abbrev pub taken_out : ℕ → ℕ → List Live → Option (Live × List Live)
taken_out number key [] = None
taken_out number key (l ∷ ls) =
    if is_of number key l then Some (l, ls) else option_map (λ (found : Live × List Live). (found.0, l ∷ found.1)) (taken_out number key ls)

-- what becomes of the world, where the session stands in front of these others if it stays
abbrev pub fated : World → Live → List Live → Fate → World
fated w l others Stays = w
fated w l others IsUsed = record w { live = l ∷ others }
fated w l others (GoesOn talk shared) = record w { shared = shared; live = record l { talk = talk } ∷ others }
fated w l others (Leaves shared) = record w { shared = shared; live = others }

-- the step of a session that is live
abbrev pub visits : Service → World → Live → List Live → Answered → Step
visits service w l others a = record { reply = reply_to service l.number l.key a.answer; world = fated w l others a.fate; cost = a.cost }

-- ---- starts

-- a session that begins in this world
abbrev pub beginner : World → ℕ → Talk
beginner w session = record { session = session; origin = Started w.shared; inputs = [] }

-- What becomes of the world: a session that waits gets the next number and stands in front; where 1,000 were live, the
-- one that wasn't used for the longest time gives way.
abbrev pub founded : World → ℕ → Fate → World
founded w key (GoesOn talk shared) =
    record w { shared = shared; next = suc w.next; live = take MAX_LIVE (record { number = w.next; key = key; talk = talk } ∷ w.live) }
founded w key (Leaves shared) = record w { shared = shared }
founded w key fate = w

abbrev pub begins : Service → World → ℕ → Answered → Step
begins service w key a = record { reply = reply_to service w.next key a.answer; world = founded w key a.fate; cost = a.cost }

-- ---- requests

-- the start of the session of this name
abbrev pub starts : Service → World → ℕ → Option ℕ → Step
starts service w key None = refuses w replies.NoSuch
starts service w key (Some session) =
    if nat_lt MAX_NUMBER w.next then refuses w replies.NoNumbers
    else let talk = beginner w session in begins service w key (turned w.first talk (now service talk))

-- what a session is answered: by the number of a first turn, what it has come to, and what is said
abbrev pub Answerer : Type 0
Answerer = ℕ → Talk → Said → Answered

-- a turn of a live session, that is answered so
abbrev pub asks_by : Answerer → Service → World → Method → Form → ℕ → Option (Live × List Live) → Step
asks_by ans service w method form turn None = refuses w replies.NoSuch
asks_by ans service w method form turn (Some found) =
    visits service w found.0 found.1 (ans w.first found.0.talk (record { method = method; form = form; turn = turn; shared = w.shared }))

-- what a request by this method comes to, by its path
abbrev pub on_path_by : Answerer → Service → World → Method → Form → ℕ → Path → Step
on_path_by ans service w method form key paths.Other = refuses w replies.NoSuch
on_path_by ans service w Get form key paths.Index = refuses w (replies.Index (index_of service))
on_path_by ans service w method form key paths.Index = refuses w (replies.Method methods.Get)
on_path_by ans service w Get form key (paths.Start name) = starts service w key (session_of service name)
on_path_by ans service w method form key (paths.Start name) = refuses w (replies.Method methods.Get)
on_path_by ans service w Other form key (paths.Turn number k turn) = refuses w (replies.Method methods.GetPost)
on_path_by ans service w method form key (paths.Turn number k turn) = asks_by ans service w method form turn (taken_out number k w.live)

-- what a request comes to, with the key that was drawn for it
abbrev pub step_by : Answerer → Service → World → Request → ℕ → Step
step_by ans service w request key = on_path_by ans service w request.method request.form key request.path

-- by the meaning of the session
abbrev pub asks : Service → World → Method → Form → ℕ → Option (Live × List Live) → Step
asks service = asks_by (answered service) service

abbrev pub on_path : Service → World → Method → Form → ℕ → Path → Step
on_path service = on_path_by (answered service) service

abbrev pub step : Service → World → Request → ℕ → Step
step service = step_by (answered service) service

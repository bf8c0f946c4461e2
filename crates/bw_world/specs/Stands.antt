-- What a world stands for.
use Rattle.std.specs.Prelude.{◌≡◌, ◌≤◌, ◌+◌, ◌⊎◌, ℕ, List, [], ◌∷◌, ⊤}
use Rattle.bw_eval.specs.View.{document, values}
use Rattle.bw_http.specs.declared.replies.Reply.{Reply}
use Rattle.bw_http.specs.declared.replies.Reply.TheVariants as replies
use Rattle.bw_http.specs.Replies.{IsReply}
use Rattle.bw_lang.specs.declared.service.Service.{Service}
use Rattle.bw_lang.specs.Table.Names.{with_names}
use Rattle.bw_meaning.specs.States.{Outcome, Shown}
use Rattle.bw_meaning.specs.Values as meaning
use Rattle.bw_model.specs.Sessions.{Live, World, now, current}
use Rattle.bw_model.specs.Steps.{Step}
use Rattle.bw_run.specs.Walks.{number_at}
use Rattle.bw_types.specs.Fields.{field_names}
use Rattle.bw_world.specs.declared.suspended.Suspended.{Suspended}
use Rattle.bw_flow.specs.Layout.{flow_of}
use Rattle.bw_world.specs.Seen.{Seen}
use Rattle.bw_lang.specs.declared.turn.TheConstants.{BUDGET}

-- the session waits where the frame says, with its locals and rests, and its document is the page's
abbrev pub IsWaiting : Service → Suspended → Outcome → Type 0
IsWaiting service s o =
    (shared : meaning.Values) × (units : ℕ)
    × (o ≡ Shown (number_at (flow_of service) s.frame.point) (values s.frame.locals) s.frame.rests (document s.page) shared units)

-- it stands for a live session of the model world: the numbers, the key, the session and the turn agree, and it waits
-- where that session has come to
pub record LiveStands (service : Service) (first : ℕ) (s : Suspended) (l : Live) : Type 0 where
  pub number : s.number ≡ l.number
  pub key : s.key ≡ l.key
  pub session : s.session ≡ l.talk.session
  pub turn : s.turn ≡ current first l.talk
  pub waits : IsWaiting service s (now service l.talk)

-- so do all, in order
abbrev pub AllStand : Service → ℕ → List (ℕ × Suspended) → List Live → Type 0
AllStand service first [] [] = ⊤
AllStand service first [] (l ∷ ls) = ⊥
AllStand service first (x ∷ live) [] = ⊥
AllStand service first (x ∷ live) (l ∷ ls) = LiveStands service first x.1 l × AllStand service first live ls

-- A world stands for a model world: the shared variables, the next number and that of a first turn agree, and each live
-- session, in order, stands for the one there.
pub record StandsFor (w : Seen) (m : World) : Type 0 where
  pub shared : values w.shared ≡ m.shared
  pub next : w.next ≡ m.next
  pub first : w.first ≡ m.first
  pub live : AllStand w.service w.first w.live m.live

-- the counter rose by at most 100,000
abbrev pub Rises : ℕ → ℕ → Type 0
Rises before after = (before ≤ after) × (after ≤ before + BUDGET)

-- there was no memory: the world is as before, and the counter rose by at most 100,000
pub record Wants (old new : Seen) (answer : Reply) (before after : ℕ) : Type 0 where
  pub reply : answer ≡ replies.Memory
  pub world : new ≡ old
  pub rises : Rises before after

-- the step was taken: the reply is its reply, the world stands for its world, and the counter rose by its cost
pub record Takes (new : Seen) (answer : Reply) (before after : ℕ) (step : Step) : Type 0 where
  pub reply : answer ≡ step.reply
  pub world : StandsFor new step.world
  pub cost : after ≡ before + step.cost

-- one of both
abbrev pub Ends : Seen → Seen → Reply → ℕ → ℕ → Step → Type 0
Ends old new reply before after step = Wants old new reply before after ⊎ Takes new reply before after step

-- for each model world that the world stands for, the step was taken, or there was no memory
abbrev pub Handles : Seen → Seen → Reply → ℕ → ℕ → (World → Step) → Type 0
Handles old new reply before after step = (m : World) → StandsFor old m → Ends old new reply before after (step m)

-- the model world with these live sessions
abbrev pub model : Seen → List Live → World
model w ls = record { shared = values w.shared; next = w.next; first = w.first; live = ls }

-- so for each list of live sessions that the world's stand for
abbrev pub Steps : Seen → Seen → Reply → ℕ → ℕ → (World → Step) → Type 0
Steps old new reply before after step =
    (ls : List Live) → AllStand old.service old.first old.live ls → Ends old new reply before after (step (model old ls))

-- the names of the fields of a service, each once
abbrev pub fields_of : Service → List (List ℕ)
fields_of service = with_names [] (field_names service)

-- Whatever the world stands for: its service stays, it is as before where there was no memory, the reply can be written,
-- and the counter rose by at most 100,000.
pub record Stays (old new : Seen) (answer : Reply) (before after : ℕ) : Type 0 where
  pub service : new.service ≡ old.service
  pub memory : answer ≡ replies.Memory → new ≡ old
  pub reply : IsReply (fields_of old.service) answer
  pub rises : Rises before after

-- Laws of runs.
use Rattle.std.specs.Prelude.{◌≡◌, ◌+◌, ℕ, List, ◌++◌, length, Option}
use Rattle.bw_format.specs.declared.format.Format.{Format}
use Rattle.bw_http.specs.declared.replies.Reply.{Reply}
use Rattle.bw_lang.specs.declared.service.Service.{Service}
use Rattle.bw_model.specs.Runs.{At, Turns, Run, wants}
use Rattle.bw_model.specs.Within.{AreWithin}
use Rattle.bw_world.specs.Streams.Courses.{Course}
use Rattle.bw_world.specs.declared.ends.StreamEnd.{StreamEnd}

-- messages, and then a run over what follows them, are one run
abbrev pub RunsGoOn : Type 0
RunsGoOn =
    (formats : List Format) (service : Service) (most more : ℕ) (at mid to : At) (replies others : List Reply) (cost costs : ℕ) →
    Turns formats service at replies cost mid → length replies ≡ most → Run formats service more mid others costs to →
    Run formats service (most + more) at (replies ++ others) (cost + costs) to

-- two runs handled the same messages: by the same replies, at the same cost, and with the same behind them: the world, the
-- keys, and the bytes that are left
pub record AreAlike {formats : List Format} {service : Service} {most : ℕ} {at to then : At} {replies others : List Reply} {cost costs : ℕ} (one : Run formats service most at replies cost to)
    (other : Run formats service most at others costs then) : Type 0 where
  pub handled : one.first ≡ other.first
  pub spent : cost ≡ costs
  pub left : to ≡ then

-- A stream is answered in one way, unless memory is wanted. How bytes that are no message are refused is left open.
abbrev pub AnswersOnce : Type 0
AnswersOnce =
    (formats : List Format) (service : Service) (most : ℕ) (at to then : At) (replies others : List Reply) (cost costs : ℕ)
    (one : Run formats service most at replies cost to) (other : Run formats service most at others costs then) → wants replies ≡ 0 → wants others ≡ 0 → AreAlike one other

-- however a stream was answered, what sessions stored stays within the formats
abbrev pub CoursesKeepWithin : Type 0
CoursesKeepWithin =
    (formats : List Format) (service : Service) (most : ℕ) (at to : At) (held now : Option (List ℕ)) (taken : List ℕ) (cost : ℕ) (end : StreamEnd) →
    Course formats service most at to held now taken cost end → AreWithin formats service at.world → AreWithin formats service to.world

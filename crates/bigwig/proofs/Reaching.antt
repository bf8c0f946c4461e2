-- The world behind a stream that was answered is fit, where the one before it is.
use Rattle.std.proofs.Common.{ℕ, List, Option}
use Rattle.bw_world.specs.Streams.Courses.{Course}
use Rattle.bw_world.specs.declared.ends.StreamEnd.{StreamEnd}
use Rattle.bw_world.proofs.Streams.Within.{course_leads, courses_keep_within}
use Rattle.bw_check.specs.Accepts.{Accepts}
use Rattle.bw_model.specs.Reached.{Reached, none}
use Rattle.bw_model.specs.Runs.{At}
use Rattle.bw_model.proofs.Reaching.{streams_reach}
use Rattle.bw_sound.proofs.Runs.{worlds_are_sound}
use Rattle.bw_questions.specs.Asked.{Ruled}
use Rattle.bigwig.specs.Fits.{IsFitWorld}

pub course_is_fit : (ruled : Ruled) (most : ℕ) (at to : At) (held now : Option (List ℕ)) (taken : List ℕ) (cost : ℕ) (end : StreamEnd)
    → Accepts ruled.service ruled.schema → Course ruled.formats ruled.service most at to held now taken cost end → IsFitWorld ruled at.world
    → IsFitWorld ruled to.world
course_is_fit ruled most at to held now taken cost end accepts c fit =
    let reached = course_leads (Reached ruled.service at.world) ruled.formats ruled.service at
    (λ replies cost to turns. streams_reach ruled.formats ruled.service at.world at to replies cost turns none) most to held now taken cost end c in (
      worlds_are_sound ruled.service ruled.schema at.world to.world accepts fit.0 reached,
      courses_keep_within ruled.formats ruled.service most at to held now taken cost end c fit.1,
    )

-- Good replies to a stream.
use Rattle.std.specs.Prelude.{List}
use Rattle.bw_check.specs.Accepts.{Accepts}
use Rattle.bw_format.specs.declared.format.Format.{Format}
use Rattle.bw_http.specs.declared.replies.Reply.{Reply}
use Rattle.bw_lang.specs.declared.service.Service.{Service}
use Rattle.bw_model.specs.Runs.{At}
use Rattle.bw_schema.specs.declared.schema.Schema.{Schema}
use Rattle.bw_sound.specs.Good.{AreGood}
use Rattle.bw_sound.specs.Worlds.{IsSoundWorld}
use Rattle.bw_world.specs.Streams.Answers.{Place, IsAt}

-- Whichever replies the messages from here on have, each of them is good by each schema that accepts the service, for each
-- sound world that the code's stands for.
abbrev pub RepliesAreGood : List Format → Service → Place → Type 0
RepliesAreGood formats service place =
    (schema : Schema) (at : At) (replies : List Reply) → Accepts service schema → IsAt place at → IsSoundWorld service at.world
    → AreGood formats service schema at replies

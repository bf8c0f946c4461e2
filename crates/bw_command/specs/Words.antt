-- The words of the command line, by clap: one simple command with three words, eight options and two flags.
use Rattle.std.specs.Prelude.{◌≡◌, true, List, [], Option, Some, codes, option_map}
use Rattle.std.specs.Borrow.{Bor}
use Rattle.clap.specs.Words.{App, Row, Rule, Text, new_app, new_rule, with_rule, matches_of, fault_of}
use Rattle.clap.specs.Walk.{first_of}
use Rattle.clap.specs.Simple.{on_top}
use Rattle.clap.specs.declared.builder.action.ArgAction.TheVariants.{SetTrue}
use Rattle.bw_command.specs.declared.words.Line.{Line}

-- an option that takes one value
abbrev pub option_rule : Text → Rule
option_rule id = record (new_rule id) { long = Some id }

-- an option without a value: what is written is `true` where it stands, and else `false`
abbrev pub flag_rule : Text → Rule
flag_rule id = record (new_rule id) { long = Some id; action = Some SetTrue }

-- the command without arguments: there is no help and no version, and the words don't begin with the program's name
abbrev pub bare : App
bare = on_top (λ s. record s { no_binary_name = true; disable_help_flag = true; disable_version_flag = true }) (new_app (codes "bigwig"))

-- the whole command
unfoldable pub bigwig : App
bigwig =
    with_rule (with_rule (with_rule (with_rule (with_rule (with_rule (with_rule (with_rule (with_rule (with_rule (with_rule (with_rule (with_rule bare
    (new_rule (codes "command"))) (new_rule (codes "first"))) (new_rule (codes "second")))
    (option_rule (codes "schema"))) (option_rule (codes "workers"))) (option_rule (codes "limit")))
    (option_rule (codes "port"))) (option_rule (codes "formats"))) (option_rule (codes "journal"))) (option_rule (codes "load")))
    (option_rule (codes "rotate"))) (flag_rule (codes "show-source"))) (flag_rule (codes "explain"))

-- clap takes the words
abbrev pub IsTaken : List Text → Type 0
IsTaken words = fault_of bigwig words ≡ []

-- what stands at each place of the command line
pub record Written : Type 0 where
  pub command : Option Text
  pub first : Option Text
  pub second : Option Text
  pub schema : Option Text
  pub workers : Option Text
  pub limit : Option Text
  pub port : Option Text
  pub formats : Option Text
  pub journal : Option Text
  pub load : Option Text
  pub rotate : Option Text
  pub source : Option Text
  pub explain : Option Text

-- the first values of clap's matches
abbrev pub written_in : List Row → Written
written_in rows = record {
  command = first_of (codes "command") rows;
  first = first_of (codes "first") rows;
  second = first_of (codes "second") rows;
  schema = first_of (codes "schema") rows;
  workers = first_of (codes "workers") rows;
  limit = first_of (codes "limit") rows;
  port = first_of (codes "port") rows;
  formats = first_of (codes "formats") rows;
  journal = first_of (codes "journal") rows;
  load = first_of (codes "load") rows;
  rotate = first_of (codes "rotate") rows;
  source = first_of (codes "show-source") rows;
  explain = first_of (codes "explain") rows;
}

-- what is written by these words
abbrev pub written_by : List Text → Written
written_by words = written_in (matches_of bigwig words)

-- the text of a word that may be there
abbrev pub text_of : Option (Bor Text) → Option Text
text_of = option_map (λ s. s.now)

-- what the code's lines hold
abbrev pub line_of : Line → Written
line_of l = record {
  command = text_of l.command;
  first = text_of l.first;
  second = text_of l.second;
  schema = text_of l.schema;
  workers = text_of l.workers;
  limit = text_of l.limit;
  port = text_of l.port;
  formats = text_of l.formats;
  journal = text_of l.journal;
  load = text_of l.load;
  rotate = text_of l.rotate;
  source = text_of l.source;
  explain = text_of l.explain;
}

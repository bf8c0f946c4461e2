-- The script of a scripted user: which one a file has, and what is said of scripts.
use Rattle.std.specs.Prelude.{◌≡◌, ℕ, List, ◌++◌, map, codes}
use Rattle.bw_visit.specs.Scripts.{IsScript, IsNoScript}
use Rattle.bw_questions.specs.Lines.{shown}
use Rattle.bw_questions.specs.Asked.{Script}
use Rattle.bw_questions.specs.Questions.{Question, line}
use Rattle.bw_command.specs.declared.status.Status.TheVariants.{ScriptRefused}

-- the bytes are no script
abbrev pub no_script_line : List ℕ
no_script_line = codes "script malformed"

-- no control has the name of an answer
abbrev pub unknown_line : List ℕ → List ℕ
unknown_line name = codes "unknown answer " ++ map shown name

-- which script is the content?
abbrev pub script : List ℕ → Question Script
script content = record {
  gives = λ s. IsScript content s.name s.lines;
  says = λ said. IsNoScript content × (said ≡ record { status = ScriptRefused; text = line no_script_line });
}

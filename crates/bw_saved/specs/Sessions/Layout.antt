-- Sessions and files as bytes.
use Rattle.std.specs.Prelude.{ℕ, List, ◌++◌, length, codes}
use Rattle.std.specs.List.{flat_map}
use Rattle.std.specs.Int.{w16, w32, w64, to_be_bytes}
use Rattle.bw_flow.specs.Steps.{Step}
use Rattle.bw_run.specs.Walks.{number_at}
use Rattle.bw_saved.specs.declared.saved.Record.{Record}
use Rattle.bw_saved.specs.declared.saved.Saved.{Saved}
use Rattle.bw_saved.specs.Documents.Layout.{document}
use Rattle.bw_saved.specs.Fields.Spelling.{text, strings}
use Rattle.bw_saved.specs.Values.Layout.{variables}

-- a session: its number, its key, which session of the service it is, its turn, the number of the show at which it waits,
-- the locals in scope, the rests, the outermost first, and the document
abbrev pub session : List Step → Record → List ℕ
session flow r =
    to_be_bytes w32 r.number ++ (to_be_bytes w64 r.key ++ (to_be_bytes w16 r.session ++ (to_be_bytes w32 r.turn
    ++ (to_be_bytes w32 (number_at flow r.frame.point) ++ (variables r.frame.locals ++ (flat_map strings r.frame.rests ++ document r.page))))))

-- all that waits: the next session's number, that of a first turn, the shared variables, and how many sessions, and these
abbrev pub waiting : List Step → Saved → List ℕ
waiting flow s =
    to_be_bytes w64 s.next ++ (to_be_bytes w32 s.first ++ (variables s.shared ++ (to_be_bytes w32 (length s.records) ++ flat_map (session flow) s.records)))

-- the file, for a service of this text
abbrev pub file : List Step → List ℕ → Saved → List ℕ
file flow service s = codes "BWSAVE1\n" ++ (text service ++ waiting flow s)

-- The numbers of statements.
use Rattle.std.specs.Prelude.{ℕ, ◌+◌, List, take, sum_by}
use Rattle.bw_lang.specs.declared.service.Service.{Service}
use Rattle.bw_lang.specs.declared.service.Session.{Session}
use Rattle.bw_lang.specs.Service.Code.{numbered}

-- how many statements there are in sessions, blocks not counted
abbrev pub statements : List Session → ℕ
statements sessions = sum_by (λ s. numbered s.body) sessions

-- the number of the first statement of a session, which is known by its place. Statements are numbered from 1
abbrev pub first_number : Service → ℕ → ℕ
first_number service session = 1 + statements (take session service.sessions)

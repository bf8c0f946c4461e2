-- At which token a limit is passed that is counted over all tokens.
use Rattle.std.specs.Prelude.{ℕ, suc, ◌+◌, ◌-◌, Bool, false, true, nat_le, nat_lt, ◌||◌, if◌then◌else◌, List, [], ◌∷◌, length, Option, Some, None, bytes_eq}
use Rattle.std.specs.Prelude.{codes, slice_get}
use Rattle.bw_lang.specs.Text.Brackets.{depth_behind, ends_stretch}
use Rattle.bw_lang.specs.declared.limits.Limit.{Limit}
use Rattle.bw_lang.specs.declared.limits.Limit.TheVariants as limits
use Rattle.bw_lang.specs.declared.limits.TheConstants as most
use Rattle.bw_lang.specs.declared.token.Lexeme.{Lexeme}
use Rattle.bw_lang.specs.declared.token.Lexeme.TheVariants as lex
use Rattle.bw_diagnose.specs.declared.walk.Walk.{Walk}

-- a token is this word
abbrev pub is_word : List ℕ → Lexeme → Bool
is_word word (lex.Word own) = bytes_eq own word
is_word word l = false

-- a token is a template
abbrev pub is_template : Lexeme → Bool
is_template (lex.Template inside) = true
is_template l = false

-- in a session a local is declared behind these words
abbrev pub declares : Lexeme → Bool
declares l =
    is_word (codes "int") l || (is_word (codes "bool") l || (is_word (codes "string") l || (is_word (codes "html") l
    || (is_word (codes "strings") l || is_word (codes "foreach") l))))

abbrev pub name_length : Lexeme → ℕ
name_length (lex.Word own) = length own
name_length l = 0

abbrev pub text_length : Lexeme → ℕ
text_length (lex.Str text) = length text
text_length l = 0

-- one more, where it is so
abbrev pub one_if : Bool → ℕ → ℕ
one_if so n = if so then suc n else n

-- What the limit counts, behind a token: the brackets that are open, the tokens of a row, what is declared, or the bytes
-- of that token. Locals are counted within two braces, and anew in each session. Other limits aren't found among tokens.
abbrev pub count_behind : Limit → Walk → Lexeme → ℕ
count_behind limits.Nesting walk l = depth_behind walk.depth l
count_behind limits.Stretch walk l = if ends_stretch l then 0 else suc walk.count
count_behind limits.Templates walk l = one_if (is_template l) walk.count
count_behind limits.Sessions walk l = one_if (is_word (codes "session") l) walk.count
count_behind limits.Shared walk l = one_if (is_word (codes "shared") l) walk.count
count_behind limits.Locals walk l = if nat_lt walk.depth 2 then 0 else one_if (declares l) walk.count
count_behind limits.NameBytes walk l = name_length l
count_behind limits.StringBytes walk l = text_length l
count_behind limits.Gaps walk l = 0
count_behind limits.Fields walk l = 0
count_behind limits.Weight walk l = 0

-- the greatest number that is still read
abbrev pub greatest : Limit → ℕ
greatest limits.Nesting = most.MAX_NESTING
greatest limits.Stretch = most.MAX_STRETCH
greatest limits.Templates = most.MAX_TEMPLATES
greatest limits.Sessions = most.MAX_SESSIONS
greatest limits.Shared = most.MAX_SHARED
greatest limits.Gaps = most.MAX_GAPS
greatest limits.Fields = most.MAX_FIELDS
greatest limits.Locals = most.MAX_LOCALS
greatest limits.NameBytes = most.MAX_NAME_BYTES
greatest limits.StringBytes = most.MAX_STRING_BYTES
greatest limits.Weight = most.MAX_TEMPLATE_WEIGHT

abbrev pub walk_behind : Limit → Walk → Lexeme → Walk
walk_behind limit walk l = record { depth = depth_behind walk.depth l; count = count_behind limit walk l }

-- the first token behind which more is counted than is read; the next one has this number
abbrev pub passing : Limit → ℕ → Walk → List Lexeme → Option ℕ
passing limit at walk [] = None
passing limit at walk (l ∷ ls) =
    if nat_lt (greatest limit) (walk_behind limit walk l).count then Some at else passing limit (at + 1) (walk_behind limit walk l) ls

abbrev pub is_foreach : Option Lexeme → Bool
is_foreach None = false
is_foreach (Some l) = is_word (codes "foreach") l

-- the token that is shown where the limit is passed at this one: the name of what is declared, or the token itself
abbrev pub shown_token : Limit → List Lexeme → ℕ → ℕ
shown_token limits.Templates ls at = at - 2
shown_token limits.Sessions ls at = at + 1
shown_token limits.Shared ls at = at + 2
shown_token limits.Locals ls at = if is_foreach (slice_get ls at) then at + 2 else at + 1
shown_token limit ls at = at

-- where the limit isn't found among tokens, it is the service's name
abbrev pub shown_or_name : Limit → List Lexeme → Option ℕ → ℕ
shown_or_name limit ls None = 1
shown_or_name limit ls (Some at) = shown_token limit ls at

abbrev pub limit_token : Limit → List Lexeme → ℕ
limit_token limit ls = shown_or_name limit ls (passing limit 0 (record { depth = 0; count = 0 }) ls)

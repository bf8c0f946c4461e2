-- Which tokens a fault is about.
use Rattle.std.specs.Prelude.{ℕ, zero, suc, ◌+◌, ◌-◌, Bool, false, true, ◌&&◌, ◌||◌, if◌then◌else◌, List, [], Option, Some, None, bytes_eq, codes, slice_get}
use Rattle.bw_lang.specs.declared.token.Lexeme.{Lexeme}
use Rattle.bw_lang.specs.declared.token.Lexeme.TheVariants as lex
use Rattle.bw_places.specs.declared.span.Span.{Span}
use Rattle.bw_diagnose.specs.Walks.{is_word, is_template}
use Rattle.bw_diagnose.specs.declared.finding.Wanted.{Wanted}
use Rattle.bw_diagnose.specs.declared.finding.Wanted.TheVariants as wanted

abbrev pub is_sign : List ℕ → Lexeme → Bool
is_sign sign (lex.Sign own) = bytes_eq own sign
is_sign sign l = false

-- the token of this number is this word, or this sign, or a template
abbrev pub says_word : List ℕ → Option Lexeme → Bool
says_word word None = false
says_word word (Some l) = is_word word l

abbrev pub says_sign : List ℕ → Option Lexeme → Bool
says_sign sign None = false
says_sign sign (Some l) = is_sign sign l

abbrev pub says_template : Option Lexeme → Bool
says_template None = false
says_template (Some l) = is_template l

abbrev pub word_at : List Lexeme → ℕ → List ℕ → Bool
word_at ls at word = says_word word (slice_get ls at)

abbrev pub sign_at : List Lexeme → ℕ → List ℕ → Bool
sign_at ls at sign = says_sign sign (slice_get ls at)

abbrev pub template_at : List Lexeme → ℕ → Bool
template_at ls at = says_template (slice_get ls at)

-- a template of this name; the word in front of what is received; a field of this name that is received; a gap of this
-- name that is plugged
abbrev pub is_wanted : Wanted → List Lexeme → List ℕ → ℕ → Bool
is_wanted wanted.Template ls name at = template_at ls at && word_at ls (at - 2) name
is_wanted wanted.Receive ls name at = word_at ls at (codes "receive")
is_wanted wanted.Field ls name at = word_at ls at name && sign_at ls (at - 1) (codes "=")
is_wanted wanted.Gap ls name at =
    word_at ls at name && (sign_at ls (at + 1) (codes "=") && (sign_at ls (at - 1) (codes "<[") || sign_at ls (at - 1) (codes ",")))

-- the first of so many tokens that is such a one; they begin at this one
abbrev pub first : Wanted → List Lexeme → List ℕ → ℕ → ℕ → Option ℕ
first what ls name at zero = None
first what ls name at (suc left) = if is_wanted what ls name at then Some at else first what ls name (at + 1) left

-- the first one from this token on, and in front of that one
abbrev pub first_in : Wanted → List Lexeme → List ℕ → Span → Option ℕ
first_in what ls name span = first what ls name span.from (span.to - span.from)

-- ---- in the tokens of a statement

-- where what is received begins
abbrev pub receive_in : List Lexeme → Span → Option ℕ
receive_in ls span = first_in wanted.Receive ls [] span

-- a field that is received, behind that
abbrev pub field_behind : List Lexeme → List ℕ → Span → Option ℕ → Option ℕ
field_behind ls name span None = None
field_behind ls name span (Some at) = first_in wanted.Field ls name (record { from = at; to = span.to })

abbrev pub field_in : List Lexeme → List ℕ → Span → Option ℕ
field_in ls name span = field_behind ls name span (receive_in ls span)

-- the tokens in front of what is received
abbrev pub shown_in : Span → Option ℕ → Span
shown_in span None = span
shown_in span (Some at) = record { from = span.from; to = at }

-- this one, where there is no other
abbrev pub alone : ℕ → Option ℕ → Option ℕ
alone at None = Some at
alone at (Some other) = None

-- a gap that is plugged once among these tokens
abbrev pub gap_behind : List Lexeme → List ℕ → Span → Option ℕ → Option ℕ
gap_behind ls name span None = None
gap_behind ls name span (Some at) = alone at (first_in wanted.Gap ls name (record { from = at + 1; to = span.to }))

abbrev pub gap_among : List Lexeme → List ℕ → Span → Option ℕ
gap_among ls name span = gap_behind ls name span (first_in wanted.Gap ls name span)

abbrev pub gap_in : List Lexeme → List ℕ → Span → Option ℕ
gap_in ls name span = gap_among ls name (shown_in span (receive_in ls span))

-- Which bytes of a text a refusal points at. Bytes and tokens are counted from 0.
use Rattle.std.specs.Prelude.{ℕ, suc, ◌+◌, ◌-◌, Bool, ◌==◌, ◌&&◌, ◌||◌, false, nat_lt, if◌then◌else◌, min, max, List, [], ◌∷◌, length, take, drop, Option}
use Rattle.std.specs.Prelude.{Some, None, slice_get}
use Rattle.std.specs.Char.{is_ascii_alphanumeric}
use Rattle.bw_blame.specs.declared.site.Blamed.{Blamed}
use Rattle.bw_blame.specs.declared.site.Site.{Site}
use Rattle.bw_blame.specs.declared.site.Site.TheVariants as sites
use Rattle.bw_excerpt.specs.declared.excerpt.Place.{Place}
use Rattle.bw_faults.specs.declared.fault.Fault.{Fault}
use Rattle.bw_lang.specs.declared.declaration.Draft.{Draft}
use Rattle.bw_lang.specs.declared.declaration.Draft.TheVariants as drafts
use Rattle.bw_lang.specs.declared.limits.TheConstants.{MAX_FILE_BYTES}
use Rattle.bw_lang.specs.declared.token.Lexeme.{Lexeme}
use Rattle.bw_lang.specs.declared.token.Lexeme.TheVariants as lex
use Rattle.bw_lang.specs.declared.token.Token.{Token}
use Rattle.bw_lex.specs.declared.LexFault.{LexFault}
use Rattle.bw_lex.specs.declared.LexFault.TheVariants as lexing
use Rattle.bw_places.specs.Seeking.{Sought, Found, Behind, seek_all, declared_at}
use Rattle.bw_places.specs.Tags.{tag_place}
use Rattle.bw_places.specs.declared.span.Span.{Span}
use Rattle.bw_syntax.specs.declared.fault.SyntaxFault.{SyntaxFault}
use Rattle.bw_syntax.specs.declared.fault.SyntaxFault.TheVariants as reading
use Rattle.bw_diagnose.specs.Finding.{first_in, field_in, gap_in}
use Rattle.bw_diagnose.specs.Known.{tokens_in, lexemes_in}
use Rattle.bw_diagnose.specs.Walks.{limit_token}
use Rattle.bw_diagnose.specs.declared.finding.Wanted.TheVariants as wanted

abbrev pub place : ℕ → ℕ → Place
place from to = record { from = from; to = to }

abbrev pub span : ℕ → ℕ → Span
span from to = record { from = from; to = to }

-- ---- bytes

-- so many bytes
abbrev pub bytes_at : List ℕ → ℕ → ℕ → Place
bytes_at text at count = place (min at (length text)) (min at (length text) + count)

-- how many letters, digits and `_` stand in front
abbrev pub word_length : List ℕ → ℕ
word_length [] = 0
word_length (b ∷ bs) = if is_ascii_alphanumeric b || b == 95 then suc (word_length bs) else 0

-- the word there, or else the one byte
abbrev pub word_there : List ℕ → ℕ → Place
word_there text at = bytes_at text at (max 1 (word_length (drop (min at (length text)) text)))

-- the last byte that is more than a space, of bytes the first of which has this number; and else this one
abbrev pub last_filled : ℕ → ℕ → List ℕ → ℕ
last_filled last at [] = last
last_filled last at (b ∷ bs) = last_filled (if nat_lt 32 b then at else last) (at + 1) bs

-- the byte, or at the end of the text the last one that is more than a space
abbrev pub filled : List ℕ → ℕ → ℕ
filled text at = if nat_lt at (length text) then at else last_filled 0 0 text

-- ---- tokens

-- where a token begins, and what stands behind it
abbrev pub token_start : Option Token → ℕ
token_start None = 0
token_start (Some t) = min t.start MAX_FILE_BYTES

abbrev pub token_end : Option Token → ℕ
token_end None = 0
token_end (Some t) = t.end

-- the bytes of a token, and of some tokens
abbrev pub token_place : List Token → ℕ → Place
token_place tokens at = place (token_start (slice_get tokens at)) (token_end (slice_get tokens at))

abbrev pub span_place : List Token → ℕ → ℕ → Place
span_place tokens from to = place (token_start (slice_get tokens from)) (token_end (slice_get tokens (to - 1)))

-- ---- the insides of templates

abbrev pub inside_of : Option Lexeme → List ℕ
inside_of (Some (lex.Template inside)) = inside
inside_of other = []

-- a gap outside tags begins there
abbrev pub begins_hole : List ℕ → Bool
begins_hole [] = false
begins_hole (a ∷ []) = false
begins_hole (a ∷ b ∷ bs) = a == 60 && b == 91

-- the place of the gap n outside tags, both counted from 0, in bytes the first of which has this place
abbrev pub hole_place : List ℕ → ℕ → ℕ → Option ℕ
hole_place [] n at = None
hole_place (b ∷ bs) n at =
    if begins_hole (b ∷ bs) then (if n == 0 then Some at else hole_place bs (n - 1) (at + 1)) else hole_place bs n (at + 1)

abbrev pub behind_start : ℕ → List ℕ → ℕ → ℕ → Place
behind_start from inside count at = place from (from + (count + word_length (drop (at + count) inside)))

-- From a byte of an inside on, so many bytes and then a word; the template begins at `start`. Where there is none, it is the
-- word <html> in front of the inside.
abbrev pub inside_place : ℕ → List ℕ → ℕ → Option ℕ → Place
inside_place start inside count None = place start (start + 6)
inside_place start inside count (Some at) = behind_start (start + 6 + min at (length inside)) inside count (min at (length inside))

-- the start tag n, and the gap n, of the template that is token `at`
abbrev pub tag_there : List Token → List Lexeme → ℕ → ℕ → Place
tag_there tokens ls at n =
    inside_place (token_start (slice_get tokens at)) (inside_of (slice_get ls at)) 1 (tag_place (inside_of (slice_get ls at)) n 0)

abbrev pub hole_there : List Token → List Lexeme → ℕ → ℕ → Place
hole_there tokens ls at n =
    inside_place (token_start (slice_get tokens at)) (inside_of (slice_get ls at)) 2 (hole_place (inside_of (slice_get ls at)) n 0)

-- ---- texts that are read as no service

abbrev pub lex_place : List ℕ → LexFault → Place
lex_place text (lexing.BadByte at) = bytes_at text at 1
lex_place text (lexing.OpenString at) = place at (length text)
lex_place text (lexing.OpenTemplate at) = bytes_at text at 6
lex_place text (lexing.NumberTooBig at) = word_there text at
lex_place text lexing.Memory = place 0 0

-- the template of this name; and else the service's name
abbrev pub name_of_template : Option ℕ → ℕ
name_of_template None = 1
name_of_template (Some at) = at - 2

abbrev pub template_token : List Lexeme → List ℕ → ℕ
template_token ls name = name_of_template (first_in wanted.Template ls name (span 0 (length ls)))

abbrev pub syntax_place : List ℕ → SyntaxFault → Place
syntax_place text reading.TooLong = bytes_at text MAX_FILE_BYTES 1
syntax_place text (reading.Lex fault) = lex_place text fault
syntax_place text (reading.TooMany limit n) = token_place (tokens_in text) (limit_token limit (lexemes_in text))
syntax_place text (reading.Syntax at) = word_there text (filled text at)
syntax_place text (reading.Template name fault) = token_place (tokens_in text) (template_token (lexemes_in text) name)
syntax_place text reading.Memory = place 0 0

-- ---- services that aren't well typed

-- what a test is about, in the declaration of these tokens
abbrev pub site_place : List ℕ → Span → Site → Place
site_place text own (sites.Tokens from to) = span_place (tokens_in text) (own.from + from) (own.from + to)
site_place text own (sites.Target at) = token_place (tokens_in text) (own.from + at)
site_place text own sites.Literal = span_place (tokens_in text) (own.from + 4) (own.to - 1)
site_place text own (sites.StartTag n) = tag_there (tokens_in text) (lexemes_in text) (own.from + 3) n
site_place text own (sites.Hole n) = hole_there (tokens_in text) (lexemes_in text) (own.from + 3) n

-- what the first test that fails is about; the service's name stands for none
abbrev pub name_place : List ℕ → Place
name_place text = token_place (tokens_in text) 1

abbrev pub declared_place : List ℕ → Option Span → Site → Place
declared_place text None site = name_place text
declared_place text (Some own) site = site_place text own site

abbrev pub blamed_place : List ℕ → List Draft → Option Blamed → Place
blamed_place text ds None = name_place text
blamed_place text ds (Some b) = declared_place text (declared_at ds b.declaration 3) b.site

-- ---- services that aren't accepted

-- the tokens of a statement; the service's name stands for none
abbrev pub sought_span : Sought → Span
sought_span (Found own) = own
sought_span (Behind n at) = span 1 2

abbrev pub statement_span : List Draft → ℕ → Span
statement_span ds point = sought_span (seek_all ds (point - 1) 3)

-- the declaration of the template n, both counted from 0, in declarations the first of which has this number
abbrev pub template_number : List Draft → ℕ → ℕ → Option ℕ
template_number [] n at = None
template_number (drafts.Template w inside ∷ ds) n at = if n == 0 then Some at else template_number ds (n - 1) (at + 1)
template_number (drafts.Shared kind w init ∷ ds) n at = template_number ds n (at + 1)
template_number (drafts.Session s ∷ ds) n at = template_number ds n (at + 1)

-- its tokens
abbrev pub numbered_span : List Draft → Option ℕ → Option Span
numbered_span ds None = None
numbered_span ds (Some d) = declared_at ds d 3

abbrev pub template_span : List Draft → ℕ → Option Span
template_span ds n = numbered_span ds (template_number ds n 0)

-- the start tag of an element, which is counted from 1; wrappers of pages have none
abbrev pub element_place : List ℕ → ℕ → Option Span → Option Place
element_place text element None = None
element_place text element (Some own) = Some (tag_there (tokens_in text) (lexemes_in text) (own.from + 3) (element - 1))

abbrev pub fault_element : List ℕ → List Draft → Fault → Option ℕ → Option Place
fault_element text ds f None = None
fault_element text ds f (Some template) = element_place text f.place (template_span ds template)

-- a field that is received, a gap that is plugged, or else the whole statement
abbrev pub token_or : List ℕ → Span → Option ℕ → Place
token_or text own None = span_place (tokens_in text) own.from own.to
token_or text own (Some at) = token_place (tokens_in text) at

abbrev pub named_token : List ℕ → Span → Fault → Option ℕ → Option ℕ
named_token text own f (Some template) = None
named_token text own f None =
    if f.number == 11 then gap_in (lexemes_in text) f.detail own else field_in (lexemes_in text) f.detail own

abbrev pub fault_place : List ℕ → List Draft → Fault → Place
fault_place text ds f = token_or text (statement_span ds f.point) (named_token text (statement_span ds f.point) f f.template)

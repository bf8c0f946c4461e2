-- What the parser gives for declarations and for a service. The number at the front bounds its steps.
-- It only follows the steps of the code: nothing is promised by it.
use Rattle.std.specs.Prelude.{ℕ, zero, suc, ◌+◌, length, nat_lt, if◌then◌else◌, List, [], ◌∷◌, ◌++◌, Option, Some, None, codes}
use Rattle.bw_lang.specs.declared.declaration.Written.{Written}
use Rattle.bw_lang.specs.declared.declaration.Written.TheVariants as written
use Rattle.bw_lang.specs.declared.declaration.Draft.{Draft}
use Rattle.bw_lang.specs.declared.declaration.Draft.TheVariants as drafts
use Rattle.bw_lang.specs.declared.token.Lexeme.{Lexeme}
use Rattle.bw_lang.specs.declared.token.Lexeme.TheVariants as lex
use Rattle.bw_parse.specs.declared.lexemes.Meaning.{Meaning}
use Rattle.bw_parse.specs.declared.lexemes.Meaning.TheVariants.{Truth, Function, Nothing, Other, Free}
pub use Rattle.bw_parse.specs.Steps.Fronts.{meaning}
use Rattle.bw_lang.specs.Table.Options.{◌>>=◌, where_some}
use Rattle.bw_parse.specs.Steps.Fronts.{Read, behind, keyword, named, shared_kind}
use Rattle.bw_parse.specs.Steps.Statements.{parse_code}

-- the inside of a template
unfoldable pub template_token : List Lexeme → Read (List ℕ)
template_token [] = None
template_token (lex.Template t ∷ ts) = Some (t, ts)
template_token (t ∷ ts) = None

-- a number that a text may have
unfoldable pub number_token : List Lexeme → Read ℕ
number_token [] = None
number_token (lex.Number n ∷ ts) = if nat_lt n 9223372036854775808 then Some (n, ts) else None
number_token (t ∷ ts) = None

-- the literal that a word of this meaning is
abbrev pub word_literal : List ℕ → Meaning → Option Written
word_literal w (Truth b) = Some (written.Bool b)
word_literal w (Function f) = None
word_literal w Nothing = None
word_literal w Other = None
word_literal w Free = Some (written.Name w)

-- a literal without `-` in front
unfoldable pub plain_literal : List Lexeme → Read Written
plain_literal [] = None
plain_literal (lex.Number n ∷ ts) = if nat_lt n 9223372036854775808 then Some (written.Plus n, ts) else None
plain_literal (lex.Str s ∷ ts) = Some (written.Str s, ts)
plain_literal (lex.Word w ∷ ts) = word_literal w (meaning w) >>= λ l. Some (l, ts)
plain_literal (t ∷ ts) = None

unfoldable pub literal : List Lexeme → Read Written
literal ts = where_some (behind (codes "-") ts) (λ k. number_token k >>= λ n. Some (written.Minus n.0, n.1)) (plain_literal ts)

-- ---- declarations, behind their first word

unfoldable pub parse_template : List Lexeme → Read Draft
parse_template k =
    named k >>= λ w. behind (codes "=") w.1 >>= λ e. template_token e >>= λ t. behind (codes ";") t.1 >>= λ z. Some (drafts.Template w.0 t.0, z)

unfoldable pub parse_shared : List Lexeme → Read Draft
parse_shared k =
    shared_kind k >>= λ t. named t.1 >>= λ w. behind (codes "=") w.1 >>= λ e. literal e >>= λ l. behind (codes ";") l.1 >>= λ z.
    Some (drafts.Shared t.0 w.0 l.0, z)

unfoldable pub parse_session : List Lexeme → Read Draft
parse_session k =
    named k >>= λ w. behind (codes "(") w.1 >>= λ a. behind (codes ")") a >>= λ b. behind (codes "{") b >>= λ c.
    parse_code c >>= λ d. Some (drafts.Session (record { name = w.0; body = d.0 }), d.1)

unfoldable pub draft : List Lexeme → Read Draft
draft ts =
    where_some (keyword (codes "html") ts) parse_template
    (where_some (keyword (codes "shared") ts) parse_shared (keyword (codes "session") ts >>= parse_session))

-- the declarations up to the closing brace, behind those of front
unfoldable pub drafts_from : ℕ → List Draft → List Lexeme → Read (List Draft)
drafts_from zero front ts = None
drafts_from (suc f) front ts =
    where_some (behind (codes "}") ts) (λ k. Some (front, k)) (draft ts >>= λ d. drafts_from f (front ++ d.0 ∷ []) d.1)

-- the same with as many steps as can be needed
unfoldable pub parse_drafts : List Draft → List Lexeme → Read (List Draft)
parse_drafts front ts = drafts_from (length ts + 1) front ts

-- it, where nothing follows
abbrev pub if_last : {A : Type 0} → A → List Lexeme → Option A
if_last x [] = Some x
if_last x (t ∷ ts) = None

-- the name and the declarations of a service, of all the lexemes
unfoldable pub parse_service : List Lexeme → Option (List ℕ × List Draft)
parse_service ts =
    keyword (codes "service") ts >>= λ k. named k >>= λ w. behind (codes "{") w.1 >>= λ b. parse_drafts [] b >>= λ d.
    if_last (w.0, d.0) d.1

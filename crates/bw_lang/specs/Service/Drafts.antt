-- Declarations whose templates aren't read yet, and the tokens that a service is written with.
use Rattle.std.specs.Prelude.{◌≢◌, ℕ, pos, neg_ℤ, ◌<◌, ◌^◌, List, [], ◌∷◌, codes}
use Rattle.bw_lang.specs.declared.declaration.Draft.{Draft}
use Rattle.bw_lang.specs.declared.declaration.Draft.TheVariants as drafts
use Rattle.bw_lang.specs.declared.declaration.Written.{Written}
use Rattle.bw_lang.specs.declared.declaration.Written.TheVariants as written
use Rattle.bw_lang.specs.declared.service.Literal.{Literal}
use Rattle.bw_lang.specs.declared.service.Literal.TheVariants as literals
use Rattle.bw_lang.specs.declared.stmt.Kind.{Kind}
use Rattle.bw_lang.specs.declared.stmt.Kind.TheVariants as kinds
use Rattle.bw_lang.specs.declared.token.Lexeme.{Lexeme}
use Rattle.bw_lang.specs.declared.token.Lexeme.TheVariants as lex
use Rattle.bw_lang.specs.Text.Spelling.{spell_code, IsCode}
use Rattle.bw_lang.specs.Text.Words.{truth_word, kind_word, IsName}

-- the literal that is written so
abbrev pub literal_of : Written → Literal
literal_of (written.Plus n) = literals.Int (pos n)
literal_of (written.Minus n) = literals.Int (neg_ℤ (pos n))
literal_of (written.Bool b) = literals.Bool b
literal_of (written.Str s) = literals.Str s
literal_of (written.Name w) = literals.Tmpl w

-- numbers are below 2^63, and names are no keywords
abbrev pub IsWritten : Written → Type 0
IsWritten (written.Plus n) = n < 2 ^ 63
IsWritten (written.Minus n) = n < 2 ^ 63
IsWritten (written.Bool b) = Unit {0}
IsWritten (written.Str s) = Unit {0}
IsWritten (written.Name w) = IsName w

abbrev pub spell_literal : Written → List Lexeme → List Lexeme
spell_literal (written.Plus n) k = lex.Number n ∷ k
spell_literal (written.Minus n) k = lex.Sign (codes "-") ∷ (lex.Number n ∷ k)
spell_literal (written.Bool b) k = lex.Word (truth_word b) ∷ k
spell_literal (written.Str s) k = lex.Str s ∷ k
spell_literal (written.Name w) k = lex.Word w ∷ k

abbrev pub spell_draft : Draft → List Lexeme → List Lexeme
spell_draft (drafts.Template name inside) k = lex.Word (codes "html") ∷
    (lex.Word name ∷ (lex.Sign (codes "=") ∷ (lex.Template inside ∷ (lex.Sign (codes ";") ∷ k))))
spell_draft (drafts.Shared kind name init) k = lex.Word (codes "shared") ∷
    (lex.Word (kind_word kind) ∷ (lex.Word name ∷ (lex.Sign (codes "=") ∷ spell_literal init (lex.Sign (codes ";") ∷ k))))
spell_draft (drafts.Session s) k =
    lex.Word (codes "session") ∷ (lex.Word s.name ∷ (lex.Sign (codes "(") ∷
    (lex.Sign (codes ")") ∷ (lex.Sign (codes "{") ∷ spell_code s.body (lex.Sign (codes "}") ∷ k)))))

abbrev pub spell_drafts : List Draft → List Lexeme → List Lexeme
spell_drafts [] k = k
spell_drafts (d ∷ ds) k = spell_draft d (spell_drafts ds k)

-- all the tokens of a service
abbrev pub spell_service : List ℕ → List Draft → List Lexeme
spell_service name drafts = lex.Word (codes "service") ∷ (lex.Word name ∷ (lex.Sign (codes "{") ∷ spell_drafts drafts (lex.Sign (codes "}") ∷ [])))

-- a kind that a shared variable may have: not a list, which is for locals alone
abbrev pub IsShareable : Kind → Type 0
IsShareable kind = kind ≢ kinds.Strs

-- names are no keywords, expressions are levelled, numbers can be written, and no shared variable is a list
abbrev pub IsFormed : Draft → Type 0
IsFormed (drafts.Template name inside) = IsName name
IsFormed (drafts.Shared kind name init) = IsShareable kind × IsName name × IsWritten init
IsFormed (drafts.Session s) = IsName s.name × IsCode s.body

abbrev pub AreFormed : List Draft → Type 0
AreFormed [] = Unit {0}
AreFormed (d ∷ ds) = IsFormed d × AreFormed ds

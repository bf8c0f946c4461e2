-- The strings of a service are UTF-8, as those of its tokens are.
use Rattle.std.proofs.Common.{ℕ, List, sym, subst}
use Rattle.std.proofs.Math.Bool.{Bool-set}
use Rattle.std.proofs.Math.Logic.{∥∥₁_elim}
use Rattle.std.specs.List.{All}
use Rattle.std.proofs.lemmas.List.Elements.{All-map, All-weaker}
use Rattle.std.proofs.lemmas.Str.{is_utf8-from_IsUtf8}
use Rattle.bw_lang.specs.declared.token.Lexeme.{Lexeme}
use Rattle.bw_lang.specs.declared.token.TokenKind.{TokenKind}
use Rattle.bw_lang.specs.declared.token.TokenKind.TheVariants as kinds
use Rattle.bw_lang.specs.Text.Cuts.{HasText, StandsIn}
use Rattle.bw_lang.specs.Text.Lexemes.{lexeme, lexeme_of}
use Rattle.bw_lang.specs.Service.Reads.{IsText}
use Rattle.bw_lex.proofs.Within.{all-within}
use Rattle.bw_typed.specs.Strings.{IsUtf8Text, SessionsAreUtf8, SharedAreUtf8}
use Rattle.bw_typed.proofs.Props.{code_strings_prop, literal_string_prop}
use Rattle.bw_typed.proofs.Spelled.{Says, sessions_strings, shareds_strings}

kind_says : (kind : TokenKind) (bytes : List ℕ) (from to : ℕ) → HasText kind → Says IsUtf8Text (lexeme_of kind bytes from to)
kind_says kinds.Word bytes from to h = tt
kind_says (kinds.Number n) bytes from to h = tt
kind_says (kinds.Str s) bytes from to h = is_utf8-from_IsUtf8 s h
kind_says kinds.Template bytes from to h = tt
kind_says kinds.Sign bytes from to h = tt

text_says : (bytes : List ℕ) (ls : List Lexeme) → IsText bytes ls → All (Says IsUtf8Text) ls
text_says bytes ls x =
    subst (All (Says IsUtf8Text)) (sym x.says) (All-map (Says IsUtf8Text) (lexeme bytes) x.tokens
    (All-weaker (StandsIn bytes) (λ t. Says IsUtf8Text (lexeme bytes t)) (λ t w. kind_says t.what bytes t.start t.end w.text) x.tokens
    (all-within bytes x.tokens x.cut)))

pub sessions_are_utf8 : SessionsAreUtf8
sessions_are_utf8 s h = λ i d l.
    ∥∥₁_elim h (code_strings_prop IsUtf8Text (λ v. hlevel Bool-set) _)
    (λ r. sessions_strings IsUtf8Text r.0 s r.1 (text_says r.0 r.1.drafted.lexemes r.1.drafted.text) i d l)

pub shared_are_utf8 : SharedAreUtf8
shared_are_utf8 s h = λ i d l.
    ∥∥₁_elim h (literal_string_prop IsUtf8Text (λ v. hlevel Bool-set) _)
    (λ r. shareds_strings IsUtf8Text r.0 s r.1 (text_says r.0 r.1.drafted.lexemes r.1.drafted.text) i d l)

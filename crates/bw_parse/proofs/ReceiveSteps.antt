-- The equations that the loop over receives meets.
use Rattle.std.proofs.Common.{◌≡◌, List, [], ◌∷◌, ◌++◌, Some, None, ap, ◌∙◌, codes}
use Rattle.bw_lang.specs.declared.stmt.Receive.{Receive}
use Rattle.bw_lang.specs.declared.token.Lexeme.{Lexeme}
use Rattle.bw_lang.specs.Table.Options.{◌>>=◌, where_some}
use Rattle.bw_parse.specs.Steps.Fronts.{Read, behind}
use Rattle.bw_parse.specs.Steps.Statements.{receive, parse_list}
use Rattle.bw_parse.proofs.Receives.{parse_list_is}

at : (front : List Receive) (ts : List Lexeme) (o : Read Receive) → receive ts ≡ o
    → parse_list front ts ≡ (o >>= λ r. where_some (behind (codes ",") r.1) (λ k. parse_list (front ++ r.0 ∷ []) k) (Some (front ++ r.0 ∷ [], r.1)))
at front ts o e =
    parse_list_is front ts ∙ ap (λ o. o >>= λ r. where_some (behind (codes ",") r.1) (λ k. parse_list (front ++ r.0 ∷ []) k) (Some (front ++ r.0 ∷ [], r.1))) e

pub list_fails : (front : List Receive) (ts : List Lexeme) → receive ts ≡ None → parse_list front ts ≡ None
list_fails front ts e = at front ts None e

pub list_ends : (front : List Receive) (ts k : List Lexeme) (r : Receive) → receive ts ≡ Some (r, k) → behind (codes ",") k ≡ None
    → parse_list front ts ≡ Some (front ++ r ∷ [], k)
list_ends front ts k r e h = at front ts (Some (r, k)) e ∙ ap (λ o. where_some o (λ j. parse_list (front ++ r ∷ []) j) (Some (front ++ r ∷ [], k))) h

pub list_goes : (front : List Receive) (ts k j : List Lexeme) (r : Receive) → receive ts ≡ Some (r, k) → behind (codes ",") k ≡ Some j
    → parse_list front ts ≡ parse_list (front ++ r ∷ []) j
list_goes front ts k j r e h = at front ts (Some (r, k)) e ∙ ap (λ o. where_some o (λ j. parse_list (front ++ r ∷ []) j) (Some (front ++ r ∷ [], k))) h

pub ruleset receive_equations = (list_fails, list_ends, list_goes)

-- The equations that the loop over declarations meets.
use Rattle.std.proofs.Common.{◌≡◌, List, [], ◌∷◌, ◌++◌, Some, None, ap, ◌∙◌, codes}
use Rattle.bw_lang.specs.declared.declaration.Draft.{Draft}
use Rattle.bw_lang.specs.declared.token.Lexeme.{Lexeme}
use Rattle.bw_lang.specs.Table.Options.{◌>>=◌, where_some}
use Rattle.bw_parse.specs.Steps.Fronts.{Read, behind}
use Rattle.bw_parse.specs.Steps.Services.{draft, parse_drafts}
use Rattle.bw_parse.proofs.Drafts.{parse_drafts_is}

pub drafts_end : (front : List Draft) (ts k : List Lexeme) → behind (codes "}") ts ≡ Some k → parse_drafts front ts ≡ Some (front, k)
drafts_end front ts k e = parse_drafts_is front ts ∙ ap (λ o. where_some o (λ k. Some (front, k)) (draft ts >>= λ d. parse_drafts (front ++ d.0 ∷ []) d.1)) e

at : (front : List Draft) (ts : List Lexeme) (o : Read Draft) → behind (codes "}") ts ≡ None → draft ts ≡ o
    → parse_drafts front ts ≡ (o >>= λ d. parse_drafts (front ++ d.0 ∷ []) d.1)
at front ts o n e =
    parse_drafts_is front ts ∙ ap (λ o. where_some o (λ k. Some (front, k)) (draft ts >>= λ d. parse_drafts (front ++ d.0 ∷ []) d.1)) n
    ∙ ap (λ o. o >>= λ d. parse_drafts (front ++ d.0 ∷ []) d.1) e

pub drafts_fail : (front : List Draft) (ts : List Lexeme) → behind (codes "}") ts ≡ None → draft ts ≡ None → parse_drafts front ts ≡ None
drafts_fail front ts n e = at front ts None n e

pub drafts_go : (front : List Draft) (d : Draft) (ts k : List Lexeme) → behind (codes "}") ts ≡ None → draft ts ≡ Some (d, k)
    → parse_drafts front ts ≡ parse_drafts (front ++ d ∷ []) k
drafts_go front d ts k n e = at front ts (Some (d, k)) n e

pub ruleset draft_equations = (drafts_end, drafts_fail, drafts_go)

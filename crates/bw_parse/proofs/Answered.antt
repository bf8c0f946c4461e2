-- Lexemes are those of a service, or of none.
use Rattle.std.proofs.Common.{◌≡◌, ◌⊎◌, ◌∙◌, inl, inr, ℕ, List, Option, Some, None, refl, sym, ap}
use Rattle.bw_lang.specs.declared.declaration.Draft.{Draft}
use Rattle.bw_lang.specs.declared.token.Lexeme.{Lexeme}
use Rattle.bw_parse.specs.Laws.{IsSpelled, SpelledOrNot}
use Rattle.bw_parse.specs.Steps.Services.{parse_service}
use Rattle.bw_parse.proofs.Drafts.{service_is, service_gives}

by_parse : (ts : List Lexeme) (o : Option (List ℕ × List Draft)) → parse_service ts ≡ o →
    ((name : List ℕ) × (drafts : List Draft) × IsSpelled ts name drafts) ⊎ ((name : List ℕ) (drafts : List Draft) → IsSpelled ts name drafts → ⊥)
by_parse ts (Some x) p = inl (x.0, x.1, service_is ts x p)
by_parse ts None p = inr (λ name drafts s. let q = sym p ∙ ap parse_service s.2 ∙ service_gives name drafts s.0 s.1 in absurd cc)

pub spelled_or_not : SpelledOrNot
spelled_or_not ts = by_parse ts (parse_service ts) refl

-- Bytes read as a service, or there is a reason why not.
use Rattle.std.proofs.Common.{◌≡◌, ◌≢◌, ◌≤◌, ◌⊎◌, inl, inr, ℕ, List, [], ◌∷◌, length, Option, Some, None, refl, ap, arith}
use Rattle.std.proofs.lemmas.Bool.{cases_lt}
use Rattle.bw_lang.specs.declared.declaration.Declaration.{Declaration}
use Rattle.bw_lang.specs.declared.declaration.Declaration.TheVariants as declarations
use Rattle.bw_lang.specs.declared.declaration.Draft.{Draft}
use Rattle.bw_lang.specs.declared.declaration.Draft.TheVariants as drafts
use Rattle.bw_lang.specs.declared.limits.Limit.{Limit}
use Rattle.bw_lang.specs.declared.pieces.Piece.{Piece}
use Rattle.bw_lang.specs.declared.service.Service.{Service}
use Rattle.bw_lang.specs.declared.token.Lexeme.{Lexeme}
use Rattle.bw_lang.specs.Text.Brackets.{too_deep}
use Rattle.bw_lang.specs.Service.Drafts.{literal_of}
use Rattle.bw_lang.specs.Document.Forest.{Forest}
use Rattle.bw_lang.specs.Service.Limits.{too_many}
use Rattle.bw_lang.specs.Table.Names.{with_names}
use Rattle.bw_lang.specs.Template.PieceGaps.{gap_names}
use Rattle.bw_lang.specs.Template.Pieces.{SpellsPieces}
use Rattle.bw_lang.specs.Service.Reads.{IsText, IsDraft, IsInside, IsRead, AreRead, Reads, lexemes, service_of}
use Rattle.bw_lang.specs.Template.Templates.{IsTemplate}
use Rattle.bw_lex.proofs.Refusing as tokens
use Rattle.bw_parse.proofs.Answered as parsed
use Rattle.bw_tmpl.proofs.Answered as templates
use Rattle.bw_tmpl.proofs.Spelled.{spelled_once}
use Rattle.bw_tmpl.specs.declared.fault.TmplFault.{TmplFault}
use Rattle.bw_tmpl.specs.declared.fault.TmplFault.TheVariants as reasons
use Rattle.bw_tmpl.specs.Refusals.{IsTemplateRefused}
use Rattle.bw_syntax.specs.declared.fault.SyntaxFault.{SyntaxFault}
use Rattle.bw_syntax.specs.declared.fault.SyntaxFault.TheVariants as faults
use Rattle.bw_syntax.specs.Laws.{ReadOrRefused}
use Rattle.bw_syntax.specs.Refusals.{IsUnread, IsFirstUnread, IsServiceRefused}
use Rattle.bw_syntax.proofs.Stages.{first_unread_refuses, draft_refuses}

-- ---- templates

abbrev InsideAnswer : List (List ℕ) → List ℕ → Type 0
InsideAnswer before inside =
    ((items : Forest) × (after : List (List ℕ)) × IsInside before inside items after)
    ⊎ ((e : TmplFault) × (e ≢ reasons.Memory) × IsTemplateRefused 64 inside e)

-- the table that the template's pieces give
by_table : (before : List (List ℕ)) (inside : List ℕ) (ps : List Piece) → SpellsPieces ps inside →
    ((items : Forest) × IsTemplate (with_names before (gap_names ps)) 64 inside items)
    ⊎ ((e : TmplFault) × (e ≢ reasons.Memory) × IsTemplateRefused 64 inside e) →
    InsideAnswer before inside
by_table before inside ps s (inl r) =
    let same = spelled_once ps r.1.pieces inside s r.1.spelled in
    inl (r.0, with_names before (gap_names ps), record { read = r.1; names = ap (λ qs. with_names before (gap_names qs)) same })
by_table before inside ps s (inr r) = inr r

inside_answer : (before : List (List ℕ)) (inside : List ℕ) → InsideAnswer before inside
inside_answer before inside =
    elim (templates.read_or_refused [] 64 inside) [
      | inl r ↦
          by_table before inside r.1.pieces r.1.spelled (templates.read_or_refused (with_names before (gap_names r.1.pieces)) 64 inside)
      | inr r ↦ inr r
    ]

one_answered : (before : List (List ℕ)) (d : Draft) →
    ((r : Declaration) × (next : List (List ℕ)) × IsRead before d r next) ⊎ ((fault : SyntaxFault) × (fault ≢ faults.Memory) × IsUnread d fault)
one_answered before (drafts.Template name inside) =
    elim (inside_answer before inside) [
      | inl r ↦ inl (declarations.Template (record { name = name; items = r.0 }), r.1, (refl, r.2))
      | inr r ↦ inr (faults.Template name r.0, (λ e. cc), (refl, r.2, r.1))
    ]
one_answered before (drafts.Shared kind name init) =
    inl (declarations.Shared (record { kind = kind; name = name; init = literal_of init }), before, (refl, refl))
one_answered before (drafts.Session s) = inl (declarations.Session s, before, (refl, refl))

all_answered : (before : List (List ℕ)) (ds : List Draft) →
    ((rs : List Declaration) × (after : List (List ℕ)) × AreRead before ds rs after)
    ⊎ ((fault : SyntaxFault) × (fault ≢ faults.Memory) × IsFirstUnread before ds fault)
all_answered before [] = inl ([], before, refl)
all_answered before (d ∷ ds) =
    elim (one_answered before d) [
      | inl r ↦ elim (all_answered r.1 ds) [
        | inl rest ↦ inl (r.0 ∷ rest.0, rest.1, (r.1, r.2, rest.2))
        | inr u ↦ inr (u.0, u.1, inr (r.0, r.1, r.2, u.2))
      ]
      | inr u ↦ inr (u.0, u.1, inl u.2)
    ]

-- ---- a whole text

abbrev Answer : List ℕ → Type 0
Answer bytes = ((service : Service) × Reads bytes service) ⊎ ((fault : SyntaxFault) × (fault ≢ faults.Memory) × IsServiceRefused bytes fault)

by_limit : (bytes name : List ℕ) (ds : List Draft) (rs : List Declaration) (gaps : List (List ℕ)) → IsDraft bytes name ds → AreRead [] ds rs gaps →
    (o : Option (Limit × ℕ)) → too_many name gaps rs ≡ o → Answer bytes
by_limit bytes name ds rs gaps d r None e =
    inl (service_of name gaps rs, record { drafts = ds; drafted = d; declarations = rs; read = r; within = e; whole = refl })
by_limit bytes name ds rs gaps d r (Some x) e =
    inr (faults.TooMany x.0 x.1, (λ e. cc), inr (record { name = name; drafts = ds; drafted = d; declarations = rs; gaps = gaps; read = r; passed = e }))

by_templates : (bytes name : List ℕ) (ds : List Draft) → IsDraft bytes name ds → Answer bytes
by_templates bytes name ds d =
    elim (all_answered [] ds) [
      | inl r ↦ by_limit bytes name ds r.0 r.1 d r.2 (too_many name r.1 r.0) refl
      | inr u ↦ inr (u.0, u.1, draft_refuses bytes name ds u.0 d (first_unread_refuses name ds u.0 u.2))
    ]

by_spelling : (bytes : List ℕ) (ls : List Lexeme) → IsText bytes ls → too_deep ls ≡ None → Answer bytes
by_spelling bytes ls t shallow =
    elim (parsed.spelled_or_not ls) [
      | inl s ↦
          by_templates bytes s.0 s.1 (record { lexemes = ls; text = t; shallow = shallow; named = s.2.0; formed = s.2.1; spelled = s.2.2 })
      | inr n ↦ inr (
        faults.Syntax 0,
        (λ e. cc),
        record { lexemes = ls; text = t; shallow = shallow; nothing = λ name ds a b c. n name ds (a, b, c); place = omega arith },
      )
    ]

by_depth : (bytes : List ℕ) (ls : List Lexeme) → IsText bytes ls → (o : Option (Limit × ℕ)) → too_deep ls ≡ o → Answer bytes
by_depth bytes ls t None e = by_spelling bytes ls t e
by_depth bytes ls t (Some x) e = inr (faults.TooMany x.0 x.1, (λ e. cc), inl (record { lexemes = ls; text = t; passed = e }))

by_tokens : (bytes : List ℕ) → length bytes ≤ 1048576 → Answer bytes
by_tokens bytes short =
    elim (tokens.read_or_refused bytes) [
      | inl r ↦
          let ls = lexemes bytes r.0 in
          by_depth bytes ls (record { short = short; tokens = r.0; cut = r.1; says = refl }) (too_deep ls) refl
      | inr r ↦ inr (faults.Lex r.0, (λ e. cc), (short, r.1))
    ]

pub always : ReadOrRefused
always bytes =
    elim (cases_lt 1048576 (length bytes)) [
      | inl long ↦ inr (faults.TooLong, (λ e. cc), long)
      | inr short ↦ by_tokens bytes (omega (arith, short))
    ]

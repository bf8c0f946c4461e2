-- A text has one answer.
use Rattle.std.proofs.Common.{◌≡◌, ◌≢◌, ◌<◌, ◌⊎◌, inl, inr, ℕ, List, [], ◌∷◌, length, map, Option, Some, None, refl, sym, ap, ◌∙◌, subst, arith}
use Rattle.bw_lang.specs.declared.declaration.Declaration.{Declaration}
use Rattle.bw_lang.specs.declared.declaration.Declaration.TheVariants as declarations
use Rattle.bw_lang.specs.declared.declaration.Draft.{Draft}
use Rattle.bw_lang.specs.declared.declaration.Draft.TheVariants as drafts
use Rattle.bw_lang.specs.declared.limits.Limit.{Limit}
use Rattle.bw_lang.specs.declared.token.Lexeme.{Lexeme}
use Rattle.bw_lang.specs.Text.Brackets.{too_deep}
use Rattle.bw_lang.specs.Document.Forest.{Forest}
use Rattle.bw_lang.specs.Text.Lexemes.{lexeme}
use Rattle.bw_lang.specs.Service.Limits.{too_many}
use Rattle.bw_lang.specs.Table.Names.{with_names}
use Rattle.bw_lang.specs.Template.PieceGaps.{gap_names}
use Rattle.bw_lang.specs.Service.Reads.{IsText, IsDraft, IsInside, IsRead, AreRead, service_of}
use Rattle.bw_lang.specs.Template.Templates.{IsTemplate}
use Rattle.bw_lex.specs.Refusals.{IsTextRefused as IsUntokened}
use Rattle.bw_lex.specs.declared.LexFault.{LexFault}
use Rattle.bw_lex.proofs.Cutting.{cut_once, read_exactly}
use Rattle.bw_lex.proofs.Refusing.{refused_exactly}
use Rattle.bw_parse.proofs.Drafts.{service_gives}
use Rattle.bw_parse.specs.Steps.Services.{parse_service}
use Rattle.bw_tmpl.proofs.Deciding.{one_template, not_both, one_reason}
use Rattle.bw_tmpl.proofs.Spelled.{spelled_once}
use Rattle.bw_syntax.specs.declared.fault.SyntaxFault.{SyntaxFault}
use Rattle.bw_syntax.specs.declared.fault.SyntaxFault.TheVariants as faults
use Rattle.bw_syntax.specs.Laws.{ReadsOnce, NotBoth, OneReason}
use Rattle.bw_syntax.specs.Refusals.{IsUnread, IsFirstUnread, IsDeep, IsNoService, IsUnreadDraft, IsGreat, IsServiceRefused}

some_is : {A : Type 0} (x y : A) (o : Option A) → o ≡ Some x → o ≡ Some y → x ≡ y
some_is x y o p q = cc

not_some : {A : Type 0} {B : Type 0} (x : A) (o : Option A) → o ≡ Some x → o ≡ None → B
not_some x o p q = absurd cc

-- ---- each step gives one thing

one_text : (bytes : List ℕ) (ls ms : List Lexeme) → IsText bytes ls → IsText bytes ms → ls ≡ ms
one_text bytes ls ms t u = t.says ∙ ap (map (lexeme bytes)) (cut_once bytes t.tokens u.tokens t.cut u.cut) ∙ sym u.says

one_draft : (bytes n m : List ℕ) (ds es : List Draft) → IsDraft bytes n ds → IsDraft bytes m es → (n ≡ m) × (ds ≡ es)
one_draft bytes n m ds es d e =
    let same = some_is (n, ds) (m, es) (parse_service d.lexemes)
    (ap parse_service d.spelled ∙ service_gives n ds d.named d.formed)
    (ap parse_service (one_text bytes d.lexemes e.lexemes d.text e.text ∙ e.spelled) ∙ service_gives m es e.named e.formed) in
    (ap (λ x. x.0) same, ap (λ x. x.1) same)

one_inside : (gaps next last : List (List ℕ)) (inside : List ℕ) (f g : Forest) → IsInside gaps inside f next → IsInside gaps inside g last
    → (f ≡ g) × (next ≡ last)
one_inside gaps next last inside f g r s =
    let pieces = spelled_once r.read.pieces s.read.pieces inside r.read.spelled s.read.spelled in
    let names : next ≡ last = r.names ∙ ap (λ ps. with_names gaps (gap_names ps)) pieces ∙ sym s.names in
    (one_template last 64 inside f g (subst (λ t. IsTemplate t 64 inside f) names r.read) s.read, names)

one_read : (gaps next last : List (List ℕ)) (d : Draft) (r s : Declaration) → IsRead gaps d r next → IsRead gaps d s last → (r ≡ s) × (next ≡ last)
one_read gaps next last (drafts.Template name inside) (declarations.Template t) (declarations.Template u) p q =
    let same = one_inside gaps next last inside t.items u.items p.1 q.1 in
    ((λ i. declarations.Template (record { name = (p.0 ∙ sym q.0) i; items = same.0 i })), same.1)
one_read gaps next last (drafts.Shared kind name init) (declarations.Shared v) (declarations.Shared w) p q =
    (ap declarations.Shared (p.0 ∙ sym q.0), p.1 ∙ sym q.1)
one_read gaps next last (drafts.Session s) (declarations.Session t) (declarations.Session u) p q = (ap declarations.Session (p.0 ∙ sym q.0), p.1 ∙ sym q.1)
one_read gaps next last (drafts.Template name inside) (declarations.Template t) s p q = absurd q
one_read gaps next last (drafts.Shared kind name init) (declarations.Shared v) s p q = absurd q
one_read gaps next last (drafts.Session s) (declarations.Session t) u p q = absurd q
one_read gaps next last d r s p q = absurd p

are_one : (gaps last end : List (List ℕ)) (ds : List Draft) (rs ss : List Declaration) → AreRead gaps ds rs last → AreRead gaps ds ss end
    → (rs ≡ ss) × (last ≡ end)
are_one gaps last end [] [] [] p q = (refl, p ∙ sym q)
are_one gaps last end (d ∷ ds) (r ∷ rs) (s ∷ ss) p q =
    let same = one_read gaps p.0 q.0 d r s p.1 q.1 in
    let rest = are_one q.0 last end ds rs ss (subst (λ g. AreRead g ds rs last) same.1 p.2) q.2 in
    ((λ i. same.0 i ∷ rest.0 i), rest.1)
are_one gaps last end [] [] (s ∷ ss) p q = absurd q
are_one gaps last end (d ∷ ds) (r ∷ rs) [] p q = absurd q
are_one gaps last end ds rs ss p q = absurd p

-- ---- templates that are refused

-- what is read isn't refused
read_or_unread : (gaps next : List (List ℕ)) (d : Draft) (r : Declaration) (fault : SyntaxFault) → IsRead gaps d r next → IsUnread d fault
    → fault ≡ faults.Memory
read_or_unread gaps next (drafts.Template name inside) (declarations.Template t) (faults.Template n f) p q =
    absurd (q.2 (not_both next 64 inside t.items f p.1.read q.1))
read_or_unread gaps next (drafts.Template name inside) r (faults.Template n f) p q = absurd p
read_or_unread gaps next d r faults.Memory p q = refl
read_or_unread gaps next d r fault p q = absurd q

all_read : (gaps last : List (List ℕ)) (ds : List Draft) (rs : List Declaration) (fault : SyntaxFault) → AreRead gaps ds rs last
    → IsFirstUnread gaps ds fault → fault ≡ faults.Memory
all_read gaps last [] [] fault p q = q
all_read gaps last (d ∷ ds) (r ∷ rs) fault p q =
    elim q [
      | inl u ↦ read_or_unread gaps p.0 d r fault p.1 u
      | inr v ↦ all_read v.1 last ds rs fault (subst (λ g. AreRead g ds rs last) (one_read gaps p.0 v.1 d r v.0 p.1 v.2).1 p.2) v.3
    ]
all_read gaps last ds rs fault p q = absurd p

one_unread : (d : Draft) (f g : SyntaxFault) → IsUnread d f → IsUnread d g → f ≢ faults.Memory → g ≢ faults.Memory → f ≡ g
one_unread (drafts.Template name inside) (faults.Template n f) (faults.Template m g) p q a b =
    λ i. faults.Template ((p.0 ∙ sym q.0) i) (one_reason 64 inside f g p.1 q.1 p.2 q.2 i)
one_unread d faults.Memory g p q a b = absurd (a refl)
one_unread d f faults.Memory p q a b = absurd (b refl)
one_unread (drafts.Template name inside) (faults.Template n f) g p q a b = absurd q
one_unread d f g p q a b = absurd p

first_unread : (gaps : List (List ℕ)) (ds : List Draft) (f g : SyntaxFault) → IsFirstUnread gaps ds f → IsFirstUnread gaps ds g → f ≢ faults.Memory
    → g ≢ faults.Memory → f ≡ g
first_unread gaps [] f g p q a b = absurd (a p)
first_unread gaps (d ∷ ds) f g p q a b =
    elim p [
      | inl u ↦ elim q [ inl v ↦ one_unread d f g u v a b | inr v ↦ absurd (a (read_or_unread gaps v.1 d v.0 f v.2 u)) ]
      | inr u ↦ elim q [
        | inl v ↦ absurd (b (read_or_unread gaps u.1 d u.0 g u.2 v))
        | inr v ↦ first_unread v.1 ds f g (subst (λ h. IsFirstUnread h ds f) (one_read gaps u.1 v.1 d u.0 v.0 u.2 v.2).1 u.3) v.3 a b
      ]
    ]

-- ---- a service, or a reason

pub reads_once : ReadsOnce
reads_once bytes s t r q =
    let d = one_draft bytes s.name t.name r.drafts q.drafts r.drafted q.drafted in
    let same = are_one [] s.gaps t.gaps q.drafts r.declarations q.declarations (subst (λ ds. AreRead [] ds r.declarations s.gaps) d.1 r.read) q.read in
    r.whole ∙ (λ i. service_of (d.0 i) (same.1 i) (same.0 i)) ∙ sym q.whole

no_tokens : (bytes : List ℕ) (ls : List Lexeme) (fault : LexFault) → IsText bytes ls → IsUntokened bytes fault → ⊥
no_tokens bytes ls fault t u = let o = (read_exactly bytes t.tokens).0 t.cut in let e = (refused_exactly bytes fault).0 u in absurd cc

lex_once : (bytes : List ℕ) (f g : LexFault) → IsUntokened bytes f → IsUntokened bytes g → f ≡ g
lex_once bytes f g p q = let d = (refused_exactly bytes f).0 p in let e = (refused_exactly bytes g).0 q in cc

great_is : (bytes name : List ℕ) (ds : List Draft) (rs : List Declaration) (gaps : List (List ℕ)) (limit : Limit) (n : ℕ) → IsDraft bytes name ds
    → AreRead [] ds rs gaps → IsGreat bytes limit n → too_many name gaps rs ≡ Some (limit, n)
great_is bytes name ds rs gaps limit n d r g =
    let same = one_draft bytes name g.name ds g.drafts d g.drafted in
    let read = are_one [] gaps g.gaps g.drafts rs g.declarations (subst (λ ds. AreRead [] ds rs gaps) same.1 r) g.read in
    (λ i. too_many (same.0 i) (read.1 i) (read.0 i)) ∙ g.passed

deep_is : (bytes : List ℕ) (ls : List Lexeme) (limit : Limit) (n : ℕ) → IsText bytes ls → IsDeep bytes limit n → too_deep ls ≡ Some (limit, n)
deep_is bytes ls limit n t d = ap too_deep (one_text bytes ls d.lexemes t d.text) ∙ d.passed

no_service : (bytes name : List ℕ) (ds : List Draft) (at : ℕ) → IsDraft bytes name ds → IsNoService bytes at → ⊥
no_service bytes name ds at d n = n.nothing name ds d.named d.formed (one_text bytes n.lexemes d.lexemes n.text d.text ∙ d.spelled)

unread_is : (bytes name : List ℕ) (ds : List Draft) (fault : SyntaxFault) → IsDraft bytes name ds → IsUnreadDraft bytes fault → IsFirstUnread [] ds fault
unread_is bytes name ds fault d u = subst (λ ds. IsFirstUnread [] ds fault) (sym (one_draft bytes name u.name ds u.drafts d u.drafted).1) u.unread

pub read_or_refused : NotBoth
read_or_refused bytes s faults.TooLong r p = absurd (omega (arith, r.drafted.text.short))
read_or_refused bytes s (faults.Lex fault) r p = absurd (no_tokens bytes r.drafted.lexemes fault r.drafted.text p.1)
read_or_refused bytes s (faults.TooMany limit n) r (inl d) =
    not_some (limit, n) (too_deep r.drafted.lexemes) (deep_is bytes r.drafted.lexemes limit n r.drafted.text d) r.drafted.shallow
read_or_refused bytes s (faults.TooMany limit n) r (inr g) =
    not_some (limit, n) (too_many s.name s.gaps r.declarations) (great_is bytes s.name r.drafts r.declarations s.gaps limit n r.drafted r.read g) r.within
read_or_refused bytes s (faults.Syntax at) r p = absurd (no_service bytes s.name r.drafts at r.drafted p)
read_or_refused bytes s (faults.Template name fault) r p =
    all_read [] s.gaps r.drafts r.declarations (faults.Template name fault) r.read (unread_is bytes s.name r.drafts (faults.Template name fault) r.drafted p)
read_or_refused bytes s faults.Memory r p = refl

-- ---- one reason

-- the reasons that come once there are tokens
abbrev IsLate : SyntaxFault → Type 0
IsLate faults.TooLong = ⊥
IsLate (faults.Lex fault) = ⊥
IsLate faults.Memory = ⊥
IsLate fault = Unit {0}

late_text : (bytes : List ℕ) (fault : SyntaxFault) → IsLate fault → IsServiceRefused bytes fault → (ls : List Lexeme) × IsText bytes ls
late_text bytes (faults.TooMany limit n) l (inl d) = (d.lexemes, d.text)
late_text bytes (faults.TooMany limit n) l (inr g) = (g.drafted.lexemes, g.drafted.text)
late_text bytes (faults.Syntax at) l p = (p.lexemes, p.text)
late_text bytes (faults.Template name fault) l p = (p.drafted.lexemes, p.drafted.text)
late_text bytes fault l p = absurd l

not_late_long : (bytes : List ℕ) (fault : SyntaxFault) → IsLate fault → IsServiceRefused bytes fault → 1048576 < length bytes → ⊥
not_late_long bytes fault l p h = omega (arith, (late_text bytes fault l p).1.short)

not_late_lex : (bytes : List ℕ) (fault : SyntaxFault) (f : LexFault) → IsLate fault → IsServiceRefused bytes fault → IsServiceRefused bytes (faults.Lex f) → ⊥
not_late_lex bytes fault f l p q = let t = late_text bytes fault l p in no_tokens bytes t.0 f t.1 q.1

deep_not_draft : (bytes name : List ℕ) (ds : List Draft) (limit : Limit) (n : ℕ) → IsDeep bytes limit n → IsDraft bytes name ds → ⊥
deep_not_draft bytes name ds limit n d e = not_some (limit, n) (too_deep e.lexemes) (deep_is bytes e.lexemes limit n e.text d) e.shallow

great_not_unread : (bytes : List ℕ) (limit : Limit) (n : ℕ) (fault : SyntaxFault) → IsGreat bytes limit n → IsUnreadDraft bytes fault → fault ≡ faults.Memory
great_not_unread bytes limit n fault g u = all_read [] g.gaps g.drafts g.declarations fault g.read (unread_is bytes g.name g.drafts fault g.drafted u)

abbrev Passed : Type 0
Passed = Limit × ℕ

many_once : (bytes : List ℕ) (x y : Passed) → IsDeep bytes x.0 x.1 ⊎ IsGreat bytes x.0 x.1 → IsDeep bytes y.0 y.1 ⊎ IsGreat bytes y.0 y.1 → x ≡ y
many_once bytes x y (inl d) (inl e) = some_is x y (too_deep d.lexemes) d.passed (deep_is bytes d.lexemes y.0 y.1 d.text e)
many_once bytes x y (inl d) (inr e) = absurd (deep_not_draft bytes e.name e.drafts x.0 x.1 d e.drafted)
many_once bytes x y (inr d) (inl e) = absurd (deep_not_draft bytes d.name d.drafts y.0 y.1 e d.drafted)
many_once bytes x y (inr d) (inr e) =
    some_is x y (too_many d.name d.gaps d.declarations) d.passed (great_is bytes d.name d.drafts d.declarations d.gaps y.0 y.1 d.drafted d.read e)

many_not_syntax : (bytes : List ℕ) (limit : Limit) (n at : ℕ) → IsDeep bytes limit n ⊎ IsGreat bytes limit n → IsNoService bytes at → ⊥
many_not_syntax bytes limit n at (inl d) s = not_some (limit, n) (too_deep s.lexemes) (deep_is bytes s.lexemes limit n s.text d) s.shallow
many_not_syntax bytes limit n at (inr g) s = no_service bytes g.name g.drafts at g.drafted s

many_not_template : (bytes : List ℕ) (limit : Limit) (m : ℕ) (fault : SyntaxFault) → IsDeep bytes limit m ⊎ IsGreat bytes limit m
    → IsUnreadDraft bytes fault → fault ≡ faults.Memory
many_not_template bytes limit m fault (inl d) u = absurd (deep_not_draft bytes u.name u.drafts limit m d u.drafted)
many_not_template bytes limit m fault (inr g) u = great_not_unread bytes limit m fault g u

pub one_reason_each : OneReason
one_reason_each bytes faults.Memory g p q a b = absurd (a refl)
one_reason_each bytes f faults.Memory p q a b = absurd (b refl)
one_reason_each bytes faults.TooLong faults.TooLong p q a b = refl
one_reason_each bytes faults.TooLong (faults.Lex g) p q a b = absurd (omega (arith, q.0))
one_reason_each bytes (faults.Lex f) faults.TooLong p q a b = absurd (omega (arith, p.0))
one_reason_each bytes (faults.Lex f) (faults.Lex g) p q a b = ap faults.Lex (lex_once bytes f g p.1 q.1)
one_reason_each bytes faults.TooLong g p q a b = absurd (not_late_long bytes g tt q p)
one_reason_each bytes f faults.TooLong p q a b = absurd (not_late_long bytes f tt p q)
one_reason_each bytes (faults.Lex f) g p q a b = absurd (not_late_lex bytes g f tt q p)
one_reason_each bytes f (faults.Lex g) p q a b = absurd (not_late_lex bytes f g tt p q)
one_reason_each bytes (faults.TooMany l m) (faults.TooMany k n) p q a b = ap (λ (x : Passed). faults.TooMany x.0 x.1) (many_once bytes (l, m) (k, n) p q)
one_reason_each bytes (faults.TooMany l m) (faults.Syntax at) p q a b = absurd (many_not_syntax bytes l m at p q)
one_reason_each bytes (faults.Syntax at) (faults.TooMany l m) p q a b = absurd (many_not_syntax bytes l m at q p)
one_reason_each bytes (faults.TooMany l m) (faults.Template n f) p q a b = absurd (b (many_not_template bytes l m (faults.Template n f) p q))
one_reason_each bytes (faults.Template n f) (faults.TooMany l m) p q a b = absurd (a (many_not_template bytes l m (faults.Template n f) q p))
one_reason_each bytes (faults.Syntax at) (faults.Syntax other) p q a b = tt
one_reason_each bytes (faults.Syntax at) (faults.Template n f) p q a b = absurd (no_service bytes q.name q.drafts at q.drafted p)
one_reason_each bytes (faults.Template n f) (faults.Syntax at) p q a b = absurd (no_service bytes p.name p.drafts at p.drafted q)
one_reason_each bytes (faults.Template n f) (faults.Template m g) p q a b =
    first_unread [] p.drafts (faults.Template n f) (faults.Template m g) p.unread (unread_is bytes p.name p.drafts (faults.Template m g) p.drafted q) a b

-- The declarations of a service, as the tokens of its text spell them, are those that the text is written for.
use Rattle.std.proofs.Common.{◌≡◌, ◌<◌, ◌≤◌, ℕ, zero, suc, ◌+◌, Bool, List, [], ◌∷◌, ◌++◌, length, get_or, drop, map, append_assoc, refl, ap, sym, ◌∙◌, subst}
use Rattle.std.proofs.Common.{arith, codes}
use Rattle.std.specs.List.{slice_get}
use Rattle.std.proofs.lemmas.List.{at_drop_more, map-append}
use Rattle.bw_lang.specs.declared.declaration.Declaration.{Declaration}
use Rattle.bw_lang.specs.declared.declaration.Declaration.TheVariants as declarations
use Rattle.bw_lang.specs.declared.declaration.Declared.{Declared}
use Rattle.bw_lang.specs.declared.declaration.Draft.{Draft}
use Rattle.bw_lang.specs.declared.declaration.Draft.TheVariants as drafts
use Rattle.bw_lang.specs.declared.declaration.Written.{Written}
use Rattle.bw_lang.specs.declared.declaration.Written.TheVariants as written
use Rattle.bw_lang.specs.declared.service.Service.{Service}
use Rattle.bw_lang.specs.declared.service.Session.{Session}
use Rattle.bw_lang.specs.declared.service.Shared.{Shared}
use Rattle.bw_lang.specs.declared.stmt.Kind.{Kind}
use Rattle.bw_lang.specs.declared.token.Lexeme.{Lexeme}
use Rattle.bw_lang.specs.declared.token.Lexeme.TheVariants as lex
use Rattle.bw_lang.specs.Service.Drafts.{literal_of, spell_draft, spell_drafts, spell_literal, spell_service}
use Rattle.bw_lang.specs.Service.Order.{declarations_of, seen}
use Rattle.bw_lang.specs.Service.Reads.{AreRead, Reads}
use Rattle.bw_lang.proofs.Small.{declarations_are}
use Rattle.bw_places.specs.Counts.{draft_tokens, drafts_tokens}
use Rattle.bw_places.specs.Drafted.{written_as, draft_of, drafts_of}
use Rattle.bw_places.specs.declared.spelled.Spelled.{Spelled}
use Rattle.bw_places.proofs.Dropping.{some_less}
use Rattle.bw_places.proofs.Seeks.{drafts_are_few}
use Rattle.bw_places.proofs.Past.{past_draft}
use Rattle.bw_diagnose.specs.Finding.{says_sign}
use Rattle.bw_diagnose.specs.Known.{AreDrafts, lexemes_in}
use Rattle.bw_diagnose.specs.Places.{inside_of}
use Rattle.bw_diagnose.specs.Spelling.{drafted, drafted_all}
use Rattle.bw_diagnose.proofs.Read.{drafts_read}

-- ---- one declaration after the other

all_here : (ls : List Lexeme) (at : ℕ) (xs : List Declared) (i : ℕ) (x : Declared) → x ≡ get_or xs i x → i < length xs
    → drafted_all ls at (map seen (drop i xs))
    ≡ drafted ls at (seen x) ∷ drafted_all ls (at + draft_tokens (drafted ls at (seen x))) (map seen (drop (i + 1) xs))
all_here ls at xs i x e h =
    at_drop_more (λ l. drafted_all ls at (map seen l)) xs i x h
    ∙ ap (λ (y : Declared). drafted_all ls at (seen y ∷ map seen (drop (i + 1) xs))) (sym e)

-- the same, where the declaration is seen as this one, and the next one begins at this token
next_here : (ls : List Lexeme) (at next : ℕ) (xs : List Declared) (i : ℕ) (x : Declared) (s : Spelled) → x ≡ get_or xs i x → i < length xs
    → draft_of s ≡ drafted ls at (seen x) → next ≡ at + draft_tokens (draft_of s)
    → drafted_all ls at (map seen (drop i xs)) ≡ draft_of s ∷ drafted_all ls next (map seen (drop (i + 1) xs))
next_here ls at next xs i x s e h f g =
    all_here ls at xs i x e h
    ∙ ap (λ (d : Draft). d ∷ drafted_all ls (at + draft_tokens d) (map seen (drop (i + 1) xs))) (sym f)
    ∙ ap (λ n. draft_of s ∷ drafted_all ls n (map seen (drop (i + 1) xs))) (sym g)

pub spelled_more : (ls : List Lexeme) (at next : ℕ) (xs : List Declared) (i : ℕ) (x : Declared) (s : Spelled) (done more : List Spelled) (all : List Draft)
    → x ≡ get_or xs i x → i < length xs → draft_of s ≡ drafted ls at (seen x) → next ≡ at + draft_tokens (draft_of s)
    → more ≡ done ++ s ∷ [] → drafts_of done ++ drafted_all ls at (map seen (drop i xs)) ≡ all
    → drafts_of more ++ drafted_all ls next (map seen (drop (i + 1) xs)) ≡ all
spelled_more ls at next xs i x s done more all e h f g m w =
    let rest = drafted_all ls next (map seen (drop (i + 1) xs)) in
    ap (λ (l : List Spelled). drafts_of l ++ rest) m
    ∙ ap (λ l. l ++ rest) (map-append draft_of done (s ∷ []))
    ∙ append_assoc (drafts_of done) (draft_of s ∷ []) rest
    ∙ ap (λ l. drafts_of done ++ l) (sym (next_here ls at next xs i x s e h f g))
    ∙ w

pub ends_more : (ls : List Lexeme) (at next : ℕ) (xs : List Declared) (i : ℕ) (x : Declared) (s : Spelled) → x ≡ get_or xs i x → i < length xs
    → draft_of s ≡ drafted ls at (seen x) → next ≡ at + draft_tokens (draft_of s)
    → drafts_tokens (drafted_all ls at (map seen (drop i xs)))
    ≡ draft_tokens (draft_of s) + drafts_tokens (drafted_all ls next (map seen (drop (i + 1) xs)))
ends_more ls at next xs i x s e h f g = ap drafts_tokens (next_here ls at next xs i x s e h f g)

-- ---- they are those that are drafted

-- a token behind others
at_later : (ls l : List Lexeme) (at i : ℕ) → drop at ls ≡ l → slice_get ls (at + i) ≡ slice_get l i
at_later ls l at i d = sym (dropped at ls i) ∙ ap (λ k. slice_get k i) d
  where
    dropped : (n : ℕ) (xs : List Lexeme) (i : ℕ) → slice_get (drop n xs) i ≡ slice_get xs (n + i)
    dropped zero xs i = let e : i ≡ 0 + i = omega arith in ap (slice_get xs) e
    dropped (suc n) [] i = refl
    dropped (suc n) (x ∷ xs) i = let e : suc (n + i) ≡ suc n + i = omega arith in dropped n xs i ∙ ap (slice_get (x ∷ xs)) e

-- a literal is written with `-` where that is its first token
same_written : (init : Written) (k : List Lexeme) → written_as (says_sign (codes "-") (slice_get (spell_literal init k) 0)) (literal_of init) ≡ init
same_written (written.Plus n) k = refl
same_written (written.Minus zero) k = refl
same_written (written.Minus (suc n)) k = refl
same_written (written.Bool b) k = refl
same_written (written.Str s) k = refl
same_written (written.Name w) k = refl

same_template : (ls : List Lexeme) (at : ℕ) (w name inside : List ℕ) (k : List Lexeme) → w ≡ name
    → drop at ls ≡ spell_draft (drafts.Template name inside) k
    → drafts.Template w (inside_of (slice_get ls (at + 3))) ≡ drafts.Template name inside
same_template ls at w name inside k e d =
    ap (λ x. drafts.Template x (inside_of (slice_get ls (at + 3)))) e
    ∙ ap (λ o. drafts.Template name (inside_of o)) (at_later ls (spell_draft (drafts.Template name inside) k) at 3 d)

same_shared : (ls : List Lexeme) (at : ℕ) (v : Shared) (kind : Kind) (name : List ℕ) (init : Written) (k : List Lexeme)
    → v ≡ record { kind = kind; name = name; init = literal_of init } → drop at ls ≡ spell_draft (drafts.Shared kind name init) k
    → drafted ls at (declarations.Shared v) ≡ drafts.Shared kind name init
same_shared ls at v kind name init k e d =
    ap (λ (x : Shared). drafted ls at (declarations.Shared x)) e
    ∙ ap (λ o. drafts.Shared kind name (written_as (says_sign (codes "-") o) (literal_of init)))
    (at_later ls (spell_draft (drafts.Shared kind name init) k) at 4 d)
    ∙ ap (drafts.Shared kind name) (same_written init (lex.Sign (codes ";") ∷ k))

one_first : (ls : List Lexeme) (at : ℕ) (x : Declaration) (xs : List Declaration) (d : Draft) (ds : List Draft) → drafted ls at x ≡ d
    → drafted_all ls (at + draft_tokens d) xs ≡ ds → drafted_all ls at (x ∷ xs) ≡ d ∷ ds
one_first ls at x xs d ds own rest = ap (λ (y : Draft). y ∷ drafted_all ls (at + draft_tokens y) xs) own ∙ ap (λ l. d ∷ l) rest

behind : (ls : List Lexeme) (at : ℕ) (d : Draft) (k : List Lexeme) → drop at ls ≡ spell_draft d k → drop (at + draft_tokens d) ls ≡ k
behind ls at d k e = some_less (at + draft_tokens d) at (draft_tokens d) ls (spell_draft d k) k refl e (past_draft d k)

all_drafted : (ls : List Lexeme) (before after : List (List ℕ)) (ds : List Draft) (xs : List Declaration) (at : ℕ) (k : List Lexeme)
    → AreRead before ds xs after → drop at ls ≡ spell_drafts ds k → drafted_all ls at xs ≡ ds
all_drafted ls before after [] [] at k r e = refl
all_drafted ls before after [] (x ∷ xs) at k r e = absurd r
all_drafted ls before after (d ∷ ds) [] at k r e = absurd (nothing_read before after d ds r)
  where
    nothing_read : (before after : List (List ℕ)) (d : Draft) (ds : List Draft) → AreRead before (d ∷ ds) [] after → ⊥
    nothing_read before after d ds r = r
all_drafted ls before after (drafts.Template w inside ∷ ds) (declarations.Template t ∷ xs) at k (next, one, r) e =
    let d = drafts.Template w inside in
    one_first ls at (declarations.Template t) xs d ds (same_template ls at t.name w inside (spell_drafts ds k) one.0 e)
    (all_drafted ls next after ds xs (at + draft_tokens d) k r (behind ls at d (spell_drafts ds k) e))
all_drafted ls before after (drafts.Shared kind w init ∷ ds) (declarations.Shared v ∷ xs) at k (next, one, r) e =
    let d = drafts.Shared kind w init in
    one_first ls at (declarations.Shared v) xs d ds (same_shared ls at v kind w init (spell_drafts ds k) one.0 e)
    (all_drafted ls next after ds xs (at + draft_tokens d) k r (behind ls at d (spell_drafts ds k) e))
all_drafted ls before after (drafts.Session s ∷ ds) (declarations.Session t ∷ xs) at k (next, one, r) e =
    let d = drafts.Session s in
    one_first ls at (declarations.Session t) xs d ds (ap (λ (x : Session). drafts.Session x) one.0)
    (all_drafted ls next after ds xs (at + draft_tokens d) k r (behind ls at d (spell_drafts ds k) e))
all_drafted ls before after (drafts.Template w inside ∷ ds) (declarations.Shared v ∷ xs) at k (next, one, r) e = absurd one
all_drafted ls before after (drafts.Template w inside ∷ ds) (declarations.Session t ∷ xs) at k (next, one, r) e = absurd one
all_drafted ls before after (drafts.Shared kind w init ∷ ds) (declarations.Template t ∷ xs) at k (next, one, r) e = absurd one
all_drafted ls before after (drafts.Shared kind w init ∷ ds) (declarations.Session t ∷ xs) at k (next, one, r) e = absurd one
all_drafted ls before after (drafts.Session s ∷ ds) (declarations.Template t ∷ xs) at k (next, one, r) e = absurd one
all_drafted ls before after (drafts.Session s ∷ ds) (declarations.Shared v ∷ xs) at k (next, one, r) e = absurd one

-- ---- of a text that reads as a service

known_drafts : (text : List ℕ) (service : Service) (ls : List Lexeme) (xs : List Declaration) (r : Reads text service) → ls ≡ lexemes_in text
    → xs ≡ declarations_of service → drafted_all ls 3 xs ≡ r.drafts
known_drafts text service ls xs r e f =
    let own = drafts_read text service r in
    all_drafted ls [] service.gaps r.drafts xs 3 (lex.Sign (codes "}") ∷ [])
    (subst (λ l. AreRead [] r.drafts l service.gaps) (sym (f ∙ declarations_are text service r)) r.read) (ap (drop 3) (e ∙ own.spelled))

pub known_few : (text : List ℕ) (service : Service) (ls : List Lexeme) (xs : List Declaration) → Reads text service → ls ≡ lexemes_in text
    → xs ≡ declarations_of service → 3 + drafts_tokens (drafted_all ls 3 xs) ≤ length ls
known_few text service ls xs r e f =
    let own = drafts_read text service r in
    subst (λ ds. 3 + drafts_tokens ds ≤ length ls) (sym (known_drafts text service ls xs r e f)) (drafts_are_few ls own.name r.drafts (e ∙ own.spelled))

pub known_are : (text : List ℕ) (service : Service) (ls : List Lexeme) (xs : List Declaration) (ds : List Draft) → Reads text service
    → ls ≡ lexemes_in text → xs ≡ declarations_of service → ds ≡ drafted_all ls 3 xs → AreDrafts text ds
known_are text service ls xs ds r e f g = subst (AreDrafts text) (sym (g ∙ known_drafts text service ls xs r e f)) (drafts_read text service r)

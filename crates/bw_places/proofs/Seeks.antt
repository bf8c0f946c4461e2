-- Statements and declarations are found where they stand.
use Rattle.std.proofs.Common.{◌≡◌, ◌<◌, ◌≤◌, ℕ, zero, suc, ◌+◌, List, [], ◌∷◌, ◌++◌, length, drop, length-drop, refl, ap, sym, ◌∙◌, subst, arith, Some, codes}
use Rattle.std.specs.List.{slice_get}
use Rattle.std.proofs.lemmas.List.{append-nil}
use Rattle.bw_lang.specs.declared.declaration.Draft.{Draft}
use Rattle.bw_lang.specs.declared.declaration.Draft.TheVariants as drafts
use Rattle.bw_lang.specs.declared.token.Lexeme.{Lexeme}
use Rattle.bw_lang.specs.declared.token.Lexeme.TheVariants as lex
use Rattle.bw_lang.specs.Service.Code.{Code, done, declare, assign, if_then, if_else, while_loop, block, for_each, show, exit}
use Rattle.bw_lang.specs.Service.Drafts.{spell_draft, spell_drafts, spell_service}
use Rattle.bw_lang.specs.Text.Spelling.{spell_code}
use Rattle.bw_places.specs.Counts.{term_tokens, receive_tokens, code_tokens, draft_tokens, drafts_tokens}
use Rattle.bw_places.specs.Heads.{Head, declares, assigns, tests, repeats, goes_over, shows, exits, spell_head, head_tokens, heads, heads_in, heads_of}
use Rattle.bw_places.specs.Laws.{StatementsStand, DeclarationsStand}
use Rattle.bw_places.specs.Seeking.{Sought, Found, Behind, run, past, here, seek, seek_in, seek_all, declared_at}
use Rattle.bw_places.specs.Standing.{Stands}
use Rattle.bw_places.specs.declared.span.Span.{Span}
use Rattle.bw_places.proofs.Dropping.{one_less, some_less}
use Rattle.bw_places.proofs.Right.{Right, past_right, first_right}
use Rattle.bw_places.proofs.Past.{past_head, past_code, past_draft, past_drafts}

-- so many tokens later
behind : (ls : List Lexeme) (at count : ℕ) (x k : List Lexeme) → drop at ls ≡ x → drop count x ≡ k → drop (at + count) ls ≡ k
behind ls at count x k d f = some_less (at + count) at count ls x k refl d f

pub seek_right : (ls : List Lexeme) (c : Code) (n at end : ℕ) (k : List Lexeme) → drop at ls ≡ spell_code c k → end ≡ at + code_tokens c
    → end ≤ length ls → Right ls (heads c) n end (seek c n at)
seek_right ls done n at end k d q le = (omega arith, omega arith)
seek_right ls (declare kind w e rest) n at end k d q le =
    let h = declares kind w e in
    first_right ls h (heads rest) n at (4 + term_tokens e) end (spell_code rest k) (seek rest) (omega arith) (omega arith) d (past_head h _)
    (λ m. seek_right ls rest m (at + (4 + term_tokens e)) end k (behind ls at (4 + term_tokens e) _ _ d (past_head h _)) (omega arith) le)
seek_right ls (assign w e rest) n at end k d q le =
    let h = assigns w e in
    first_right ls h (heads rest) n at (3 + term_tokens e) end (spell_code rest k) (seek rest) (omega arith) (omega arith) d (past_head h _)
    (λ m. seek_right ls rest m (at + (3 + term_tokens e)) end k (behind ls at (3 + term_tokens e) _ _ d (past_head h _)) (omega arith) le)
seek_right ls (if_then t y rest) n at end k d q le =
    let h = tests t in
    let count = 3 + term_tokens t in
    let mid = at + count + 1 + code_tokens y in
    let d2 : drop (at + count + 1) ls ≡ spell_code y (lex.Sign (codes "}") ∷ spell_code rest k) =
    behind ls (at + count) 1 _ _ (behind ls at count _ _ d (past_head h _)) refl in
    let d3 : drop (mid + 1) ls ≡ spell_code rest k = behind ls mid 1 _ _ (behind ls (at + count + 1) (code_tokens y) _ _ d2 (past_code y _)) refl in
    first_right ls h (heads y ++ heads rest) n at count end _ (λ m p. past (seek y m (p + 1)) (λ j q. seek rest j (q + 1)))
    (omega arith) (omega arith) d (past_head h _)
    (λ m. past_right ls (heads y) (heads rest) m mid end (seek y m (at + count + 1)) (λ j q. seek rest j (q + 1))
    (seek_right ls y m (at + count + 1) mid _ d2 refl (omega arith))
    (λ j. seek_right ls rest j (mid + 1) end k d3 (omega arith) le))
seek_right ls (if_else t y z rest) n at end k d q le =
    let h = tests t in
    let count = 3 + term_tokens t in
    let mid = at + count + 1 + code_tokens y in
    let more = mid + 3 + code_tokens z in
    let d2 : drop (at + count + 1) ls ≡ spell_code y (lex.Sign (codes "}") ∷ (lex.Word (codes "else") ∷ (lex.Sign (codes "{") ∷
    spell_code z (lex.Sign (codes "}") ∷ spell_code rest k)))) =
    behind ls (at + count) 1 _ _ (behind ls at count _ _ d (past_head h _)) refl in
    let d3 : drop (mid + 3) ls ≡ spell_code z (lex.Sign (codes "}") ∷ spell_code rest k) =
    behind ls mid 3 _ _ (behind ls (at + count + 1) (code_tokens y) _ _ d2 (past_code y _)) refl in
    let d4 : drop (more + 1) ls ≡ spell_code rest k = behind ls more 1 _ _ (behind ls (mid + 3) (code_tokens z) _ _ d3 (past_code z _)) refl in
    first_right ls h (heads y ++ (heads z ++ heads rest)) n at count end _
    (λ m p. past (seek y m (p + 1)) (λ j q. past (seek z j (q + 3)) (λ i r. seek rest i (r + 1))))
    (omega arith) (omega arith) d (past_head h _)
    (λ m. past_right ls (heads y) (heads z ++ heads rest) m mid end (seek y m (at + count + 1)) (λ j q. past (seek z j (q + 3)) (λ i r. seek rest i (r + 1)))
    (seek_right ls y m (at + count + 1) mid _ d2 refl (omega arith))
    (λ j. past_right ls (heads z) (heads rest) j more end (seek z j (mid + 3)) (λ i r. seek rest i (r + 1))
    (seek_right ls z j (mid + 3) more _ d3 refl (omega arith))
    (λ i. seek_right ls rest i (more + 1) end k d4 (omega arith) le)))
seek_right ls (while_loop t b rest) n at end k d q le =
    let h = repeats t in
    let count = 3 + term_tokens t in
    let mid = at + count + 1 + code_tokens b in
    let d2 : drop (at + count + 1) ls ≡ spell_code b (lex.Sign (codes "}") ∷ spell_code rest k) =
    behind ls (at + count) 1 _ _ (behind ls at count _ _ d (past_head h _)) refl in
    let d3 : drop (mid + 1) ls ≡ spell_code rest k = behind ls mid 1 _ _ (behind ls (at + count + 1) (code_tokens b) _ _ d2 (past_code b _)) refl in
    first_right ls h (heads b ++ heads rest) n at count end _ (λ m p. past (seek b m (p + 1)) (λ j q. seek rest j (q + 1)))
    (omega arith) (omega arith) d (past_head h _)
    (λ m. past_right ls (heads b) (heads rest) m mid end (seek b m (at + count + 1)) (λ j q. seek rest j (q + 1))
    (seek_right ls b m (at + count + 1) mid _ d2 refl (omega arith))
    (λ j. seek_right ls rest j (mid + 1) end k d3 (omega arith) le))
seek_right ls (block b rest) n at end k d q le =
    let mid = at + 1 + code_tokens b in
    let d2 : drop (at + 1) ls ≡ spell_code b (lex.Sign (codes "}") ∷ spell_code rest k) = behind ls at 1 _ _ d refl in
    let d3 : drop (mid + 1) ls ≡ spell_code rest k = behind ls mid 1 _ _ (behind ls (at + 1) (code_tokens b) _ _ d2 (past_code b _)) refl in
    past_right ls (heads b) (heads rest) n mid end (seek b n (at + 1)) (λ j q. seek rest j (q + 1))
    (seek_right ls b n (at + 1) mid _ d2 refl (omega arith))
    (λ j. seek_right ls rest j (mid + 1) end k d3 (omega arith) le)
seek_right ls (for_each w e b rest) n at end k d q le =
    let h = goes_over w e in
    let count = 5 + term_tokens e in
    let mid = at + count + 1 + code_tokens b in
    let d2 : drop (at + count + 1) ls ≡ spell_code b (lex.Sign (codes "}") ∷ spell_code rest k) =
    behind ls (at + count) 1 _ _ (behind ls at count _ _ d (past_head h _)) refl in
    let d3 : drop (mid + 1) ls ≡ spell_code rest k = behind ls mid 1 _ _ (behind ls (at + count + 1) (code_tokens b) _ _ d2 (past_code b _)) refl in
    first_right ls h (heads b ++ heads rest) n at count end _ (λ m p. past (seek b m (p + 1)) (λ j q. seek rest j (q + 1)))
    (omega arith) (omega arith) d (past_head h _)
    (λ m. past_right ls (heads b) (heads rest) m mid end (seek b m (at + count + 1)) (λ j q. seek rest j (q + 1))
    (seek_right ls b m (at + count + 1) mid _ d2 refl (omega arith))
    (λ j. seek_right ls rest j (mid + 1) end k d3 (omega arith) le))
seek_right ls (show p rs rest) n at end k d q le =
    let h = shows p rs in
    let count = 2 + term_tokens p + receive_tokens rs in
    first_right ls h (heads rest) n at count end (spell_code rest k) (seek rest) (omega arith) (omega arith) d (past_head h _)
    (λ m. seek_right ls rest m (at + count) end k (behind ls at count _ _ d (past_head h _)) (omega arith) le)
seek_right ls (exit p rest) n at end k d q le =
    let h = exits p in
    let count = 2 + term_tokens p in
    first_right ls h (heads rest) n at count end (spell_code rest k) (seek rest) (omega arith) (omega arith) d (past_head h _)
    (λ m. seek_right ls rest m (at + count) end k (behind ls at count _ _ d (past_head h _)) (omega arith) le)

-- in a declaration
in_right : (ls : List Lexeme) (d : Draft) (n at end : ℕ) (k : List Lexeme) → drop at ls ≡ spell_draft d k → end ≡ at + draft_tokens d
    → end ≤ length ls → Right ls (heads_in d) n end (seek_in d n at)
in_right ls (drafts.Template w inside) n at end k d q le = (omega arith, omega arith)
in_right ls (drafts.Shared kind w init) n at end k d q le = (omega arith, omega arith)
in_right ls (drafts.Session s) n at end k d q le =
    let mid = at + 5 + code_tokens s.body in
    subst (λ hs. Right ls hs n end (past (seek s.body n (at + 5)) (λ j q. Behind j (q + 1)))) (append-nil (heads s.body))
    (past_right ls (heads s.body) [] n mid end (seek s.body n (at + 5)) (λ j q. Behind j (q + 1))
    (seek_right ls s.body n (at + 5) mid (lex.Sign (codes "}") ∷ k) (behind ls at 5 _ _ d refl) refl (omega arith))
    (λ j. (omega arith, omega arith)))

all_right : (ls : List Lexeme) (ds : List Draft) (n at end : ℕ) (k : List Lexeme) → drop at ls ≡ spell_drafts ds k → end ≡ at + drafts_tokens ds
    → end ≤ length ls → Right ls (heads_of ds) n end (seek_all ds n at)
all_right ls [] n at end k d q le = (omega arith, omega arith)
all_right ls (x ∷ ds) n at end k d q le =
    let mid = at + draft_tokens x in
    past_right ls (heads_in x) (heads_of ds) n mid end (seek_in x n at) (seek_all ds)
    (in_right ls x n at mid _ d refl (omega arith))
    (λ j. all_right ls ds j mid end k (behind ls at (draft_tokens x) _ _ d (past_draft x _)) (omega arith) le)

-- the service's tokens end behind its declarations and a brace
service_length : (w : List ℕ) (ds : List Draft) → 3 + drafts_tokens ds ≤ length (spell_service w ds)
service_length w ds =
    let ls = spell_service w ds in
    let e : drop (3 + drafts_tokens ds) ls ≡ lex.Sign (codes "}") ∷ [] = behind ls 3 (drafts_tokens ds) _ _ refl (past_drafts ds _) in
    let l : length (drop (3 + drafts_tokens ds) ls) ≡ 1 = ap length e in
    omega (arith, length-drop (3 + drafts_tokens ds) ls)

pick : (ls : List Lexeme) (hs : List Head) (n end : ℕ) (s : Sought) → Right ls hs n end s → n < length hs
    → (h : Head) × (span : Span) × (slice_get hs n ≡ Some h) × (s ≡ Found span) × Stands ls (spell_head h) span
pick ls hs n end (Found span) (h, e, st) below = (h, span, e, refl, st)
pick ls hs n end (Behind m p) (e, f) below = absurd (omega arith)

pub statements_stand : StatementsStand
statements_stand w ds n below =
    let ls = spell_service w ds in
    pick ls (heads_of ds) n (3 + drafts_tokens ds) (seek_all ds n 3)
    (all_right ls ds n 3 (3 + drafts_tokens ds) (lex.Sign (codes "}") ∷ []) refl refl (service_length w ds)) below

-- a declaration has tokens
some_tokens : (d : Draft) → 0 < draft_tokens d
some_tokens (drafts.Template w inside) = omega arith
some_tokens (drafts.Shared kind w init) = omega arith
some_tokens (drafts.Session s) = omega arith

declared_right : (ls : List Lexeme) (ds : List Draft) (n at : ℕ) (k : List Lexeme) → drop at ls ≡ spell_drafts ds k
    → at + drafts_tokens ds ≤ length ls → n < length ds
    → (x : Draft) × (span : Span) × (slice_get ds n ≡ Some x) × (declared_at ds n at ≡ Some span) × Stands ls (spell_draft x) span
declared_right ls [] n at k d le below = absurd (omega arith)
declared_right ls (x ∷ ds) zero at k d le below = (
  x,
  run at (draft_tokens x),
  refl,
  refl,
  record {
    some = omega (arith, some_tokens x);
    inside = omega arith;
    written = d ∙ ap (spell_draft x) (sym (behind ls at (draft_tokens x) _ _ d (past_draft x _)));
  },
)
declared_right ls (x ∷ ds) (suc n) at k d le below =
    declared_right ls ds n (at + draft_tokens x) k (behind ls at (draft_tokens x) _ _ d (past_draft x _)) (omega arith) (omega arith)

pub declarations_stand : DeclarationsStand
declarations_stand w ds n below =
    declared_right (spell_service w ds) ds n 3 (lex.Sign (codes "}") ∷ []) refl (service_length w ds) below

-- a service has as many tokens as its declarations, and more
pub drafts_are_few : (ls : List Lexeme) (w : List ℕ) (ds : List Draft) → ls ≡ spell_service w ds → 3 + drafts_tokens ds ≤ length ls
drafts_are_few ls w ds e = subst (λ l. 3 + drafts_tokens ds ≤ length l) (sym e) (service_length w ds)

-- The statement that is sought is that of its number among all.
use Rattle.std.proofs.Common.{◌≡◌, ℕ, zero, suc, ◌+◌, List, [], ◌∷◌, ◌++◌, append-nil, refl, ap, ◌∙◌, arith}
use Rattle.bw_lang.specs.declared.declaration.Draft.{Draft}
use Rattle.bw_lang.specs.declared.declaration.Draft.TheVariants as drafts
use Rattle.bw_lang.specs.Service.Code.{Code, done, declare, assign, if_then, if_else, while_loop, block, for_each, show, exit}
use Rattle.bw_places.specs.Counts.{term_tokens, receive_tokens, code_tokens, draft_tokens, drafts_tokens}
use Rattle.bw_places.specs.Seeking.{Sought, Found, Behind, run, past, here, seek, seek_in, seek_all, spans, spans_in, spans_of}
use Rattle.bw_places.specs.declared.span.Span.{Span}

-- the statement n of these, which end in front of this token, or one behind them
abbrev pub pick : List Span → ℕ → ℕ → Sought
pick [] n end = Behind n end
pick (s ∷ ss) zero end = Found s
pick (s ∷ ss) (suc n) end = pick ss n end

past_pick : (ss ts : List Span) (n mid end : ℕ) (next : ℕ → ℕ → Sought) → ((m : ℕ) → next m mid ≡ pick ts m end)
    → past (pick ss n mid) next ≡ pick (ss ++ ts) n end
past_pick [] ts n mid end next h = h n
past_pick (s ∷ ss) ts zero mid end next h = refl
past_pick (s ∷ ss) ts (suc n) mid end next h = past_pick ss ts n mid end next h

-- a statement, and then what follows it
first_pick : (ts : List Span) (n at count end : ℕ) (next : ℕ → ℕ → Sought) → ((m : ℕ) → next m (at + count) ≡ pick ts m end)
    → past (here n at count) next ≡ pick (run at count ∷ ts) n end
first_pick ts zero at count end next h = refl
first_pick ts (suc n) at count end next h = h n

-- a block, and then what follows it
block_pick : (ss ts : List Span) (s : Sought) (n mid end : ℕ) (next : ℕ → ℕ → Sought) → s ≡ pick ss n mid
    → ((m : ℕ) → next m mid ≡ pick ts m end) → past s next ≡ pick (ss ++ ts) n end
block_pick ss ts s n mid end next e h = ap (λ x. past x next) e ∙ past_pick ss ts n mid end next h

behind_all : (n at end : ℕ) → end ≡ at + 0 → Behind n at ≡ Behind n end
behind_all n at end q = let e : at ≡ end = omega arith in ap (λ x. Behind n x) e

seek_picks : (c : Code) (n at end : ℕ) → end ≡ at + code_tokens c → seek c n at ≡ pick (spans c at) n end
seek_picks done n at end q = behind_all n at end q
seek_picks (declare kind w e rest) n at end q =
    let count = 4 + term_tokens e in
    first_pick (spans rest (at + count)) n at count end (seek rest) (λ m. seek_picks rest m (at + count) end (omega arith))
seek_picks (assign w e rest) n at end q =
    let count = 3 + term_tokens e in
    first_pick (spans rest (at + count)) n at count end (seek rest) (λ m. seek_picks rest m (at + count) end (omega arith))
seek_picks (if_then t y rest) n at end q =
    let count = 3 + term_tokens t in
    let mid = at + count + 1 + code_tokens y in
    first_pick (spans y (at + count + 1) ++ spans rest (mid + 1)) n at count end (λ m p. past (seek y m (p + 1)) (λ j q. seek rest j (q + 1)))
    (λ m. block_pick (spans y (at + count + 1)) (spans rest (mid + 1)) (seek y m (at + count + 1)) m mid end (λ j q. seek rest j (q + 1))
    (seek_picks y m (at + count + 1) mid refl) (λ j. seek_picks rest j (mid + 1) end (omega arith)))
seek_picks (if_else t y z rest) n at end q =
    let count = 3 + term_tokens t in
    let mid = at + count + 1 + code_tokens y in
    let more = mid + 3 + code_tokens z in
    first_pick (spans y (at + count + 1) ++ (spans z (mid + 3) ++ spans rest (more + 1))) n at count end
    (λ m p. past (seek y m (p + 1)) (λ j q. past (seek z j (q + 3)) (λ i r. seek rest i (r + 1))))
    (λ m. block_pick (spans y (at + count + 1)) (spans z (mid + 3) ++ spans rest (more + 1)) (seek y m (at + count + 1)) m mid end
    (λ j q. past (seek z j (q + 3)) (λ i r. seek rest i (r + 1)))
    (seek_picks y m (at + count + 1) mid refl)
    (λ j. block_pick (spans z (mid + 3)) (spans rest (more + 1)) (seek z j (mid + 3)) j more end (λ i r. seek rest i (r + 1))
    (seek_picks z j (mid + 3) more refl) (λ i. seek_picks rest i (more + 1) end (omega arith))))
seek_picks (while_loop t b rest) n at end q =
    let count = 3 + term_tokens t in
    let mid = at + count + 1 + code_tokens b in
    first_pick (spans b (at + count + 1) ++ spans rest (mid + 1)) n at count end (λ m p. past (seek b m (p + 1)) (λ j q. seek rest j (q + 1)))
    (λ m. block_pick (spans b (at + count + 1)) (spans rest (mid + 1)) (seek b m (at + count + 1)) m mid end (λ j q. seek rest j (q + 1))
    (seek_picks b m (at + count + 1) mid refl) (λ j. seek_picks rest j (mid + 1) end (omega arith)))
seek_picks (block b rest) n at end q =
    let mid = at + 1 + code_tokens b in
    block_pick (spans b (at + 1)) (spans rest (mid + 1)) (seek b n (at + 1)) n mid end (λ j q. seek rest j (q + 1))
    (seek_picks b n (at + 1) mid refl) (λ j. seek_picks rest j (mid + 1) end (omega arith))
seek_picks (for_each w e b rest) n at end q =
    let count = 5 + term_tokens e in
    let mid = at + count + 1 + code_tokens b in
    first_pick (spans b (at + count + 1) ++ spans rest (mid + 1)) n at count end (λ m p. past (seek b m (p + 1)) (λ j q. seek rest j (q + 1)))
    (λ m. block_pick (spans b (at + count + 1)) (spans rest (mid + 1)) (seek b m (at + count + 1)) m mid end (λ j q. seek rest j (q + 1))
    (seek_picks b m (at + count + 1) mid refl) (λ j. seek_picks rest j (mid + 1) end (omega arith)))
seek_picks (show p rs rest) n at end q =
    let count = 2 + term_tokens p + receive_tokens rs in
    first_pick (spans rest (at + count)) n at count end (seek rest) (λ m. seek_picks rest m (at + count) end (omega arith))
seek_picks (exit p rest) n at end q =
    let count = 2 + term_tokens p in
    first_pick (spans rest (at + count)) n at count end (seek rest) (λ m. seek_picks rest m (at + count) end (omega arith))

in_picks : (d : Draft) (n at end : ℕ) → end ≡ at + draft_tokens d → seek_in d n at ≡ pick (spans_in d at) n end
in_picks (drafts.Template w inside) n at end q = behind_all n (at + 5) end (omega arith)
in_picks (drafts.Shared kind w init) n at end q = behind_all n (at + draft_tokens (drafts.Shared kind w init)) end (omega arith)
in_picks (drafts.Session s) n at end q =
    let mid = at + 5 + code_tokens s.body in
    block_pick (spans s.body (at + 5)) [] (seek s.body n (at + 5)) n mid end (λ j q. Behind j (q + 1))
    (seek_picks s.body n (at + 5) mid refl) (λ j. behind_all j (mid + 1) end (omega arith))
    ∙ ap (λ l. pick l n end) (append-nil (spans s.body (at + 5)))

pub all_picks : (ds : List Draft) (n at end : ℕ) → end ≡ at + drafts_tokens ds → seek_all ds n at ≡ pick (spans_of ds at) n end
all_picks [] n at end q = behind_all n at end q
all_picks (d ∷ ds) n at end q =
    let mid = at + draft_tokens d in
    block_pick (spans_in d at) (spans_of ds mid) (seek_in d n at) n mid end (seek_all ds) (in_picks d n at mid refl)
    (λ j. all_picks ds j mid end (omega arith))

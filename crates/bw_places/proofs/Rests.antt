-- What is left of a list, one after the other.
use Rattle.std.proofs.Common.{◌≡◌, ◌≢◌, ◌<◌, ℕ, suc, ◌+◌, ◌-◌, ◌==◌, true, false, if◌then◌else◌, List, [], ◌∷◌, ◌++◌, length, get_or, drop, refl, ap, sym, ◌∙◌}
use Rattle.std.proofs.Common.{arith, Some, None, append_assoc, append-nil}
use Rattle.std.proofs.lemmas.Bool.{ne_eqb}
use Rattle.std.proofs.lemmas.List.{at_drop_more, drop_more}
use Rattle.bw_places.specs.Tags.{begins_tag, tag_place}
use Rattle.bw_lang.specs.declared.expr.Pair.{Pair}
use Rattle.bw_lang.specs.declared.stmt.Stmt.{Stmt}
use Rattle.bw_lang.specs.declared.stmt.Stmt.TheVariants.{Declare, Assign, If, While, Each, Block, Show, Exit}
use Rattle.bw_lang.specs.Service.Code.{Code, done}
use Rattle.bw_lang.specs.Service.CodeView.{before, code}
use Rattle.bw_lang.specs.Service.TermView.{term, fillings}
use Rattle.bw_places.specs.Counts.{term_tokens, pair_tokens, receive_tokens, code_tokens}
use Rattle.bw_places.specs.Seeking.{run, spans}

pub pairs_at : (xs : List Pair) (i : ℕ) (x : Pair) → x ≡ get_or xs i x → i < length xs
    → pair_tokens (fillings (drop i xs)) ≡ 3 + term_tokens (term x.value) + pair_tokens (fillings (drop (i + 1) xs))
pairs_at xs i x e h = at_drop_more (λ l. pair_tokens (fillings l)) xs i x h
    ∙ ap (λ (y : Pair). 3 + term_tokens (term y.value) + pair_tokens (fillings (drop (i + 1) xs))) (sym e)

-- the tokens of a statement, and of those behind it
pub tokens_before : (s : Stmt) (c : Code) → code_tokens (before s c) ≡ code_tokens (before s done) + code_tokens c
tokens_before (Declare k w e) c = omega arith
tokens_before (Assign w e) c = omega arith
tokens_before (If t y None) c = omega arith
tokens_before (If t y (Some n)) c = omega arith
tokens_before (While t b) c = omega arith
tokens_before (Each w e b) c = omega arith
tokens_before (Block b) c = omega arith
tokens_before (Show p rs) c = omega arith
tokens_before (Exit p) c = omega arith

pub block_at : (xs : List Stmt) (i : ℕ) (x : Stmt) → x ≡ get_or xs i x → i < length xs
    → code_tokens (code (drop i xs)) ≡ code_tokens (before x done) + code_tokens (code (drop (i + 1) xs))
block_at xs i x e h = at_drop_more (λ l. code_tokens (code l)) xs i x h
    ∙ ap (λ (y : Stmt). code_tokens (before y (code (drop (i + 1) xs)))) (sym e) ∙ tokens_before x (code (drop (i + 1) xs))

-- a statement without blocks, of so many tokens, and code behind it
one_statement : (c : Code) (at count own : ℕ) → own ≡ count → run at count ∷ spans c (at + count) ≡ (run at count ∷ []) ++ spans c (at + own)
one_statement c at count own e = ap (λ n. run at count ∷ spans c (at + n)) (sym e)

-- a block, a brace, and code behind that
one_block : (b c : Code) (at end : ℕ) → at + code_tokens b + 1 ≡ end → spans b at ++ spans c (at + code_tokens b + 1) ≡ (spans b at ++ []) ++ spans c end
one_block b c at end e = ap (λ n. spans b at ++ spans c n) e ∙ ap (λ l. l ++ spans c end) (sym (append-nil (spans b at)))

-- the statements of a statement, and then those behind it
spans_before : (s : Stmt) (c : Code) (at : ℕ) → spans (before s c) at ≡ spans (before s done) at ++ spans c (at + code_tokens (before s done))
spans_before (Declare k w e) c at =
    let count = 4 + term_tokens (term e) in one_statement c at count (code_tokens (before (Declare k w e) done)) (omega arith)
spans_before (Assign w e) c at =
    let count = 3 + term_tokens (term e) in one_statement c at count (code_tokens (before (Assign w e) done)) (omega arith)
spans_before (Show p rs) c at =
    let count = 2 + term_tokens (term p) + receive_tokens rs in one_statement c at count (code_tokens (before (Show p rs) done)) (omega arith)
spans_before (Exit p) c at =
    let count = 2 + term_tokens (term p) in one_statement c at count (code_tokens (before (Exit p) done)) (omega arith)
spans_before (Block b) c at = one_block b c (at + 1) (at + code_tokens (before (Block b) done)) (omega arith)
spans_before (While t b) c at =
    let count = 3 + term_tokens (term t) in
    ap (λ l. run at count ∷ l) (one_block b c (at + count + 1) (at + code_tokens (before (While t b) done)) (omega arith))
spans_before (Each w e b) c at =
    let count = 5 + term_tokens (term e) in
    ap (λ l. run at count ∷ l) (one_block b c (at + count + 1) (at + code_tokens (before (Each w e b) done)) (omega arith))
spans_before (If t y None) c at =
    let count = 3 + term_tokens (term t) in
    ap (λ l. run at count ∷ l) (one_block y c (at + count + 1) (at + code_tokens (before (If t y None) done)) (omega arith))
spans_before (If t y (Some z)) c at =
    let count = 3 + term_tokens (term t) in
    let mid = at + count + 1 + code_tokens y + 3 in
    let first = spans y (at + count + 1) in
    ap (λ l. run at count ∷ l)
    (ap (λ l. first ++ l) (one_block z c mid (at + code_tokens (before (If t y (Some z)) done)) (omega arith))
    ∙ sym (append_assoc first (spans z mid ++ []) (spans c (at + code_tokens (before (If t y (Some z)) done)))))

pub spans_at : (xs : List Stmt) (i : ℕ) (x : Stmt) (at : ℕ) → x ≡ get_or xs i x → i < length xs
    → spans (code (drop i xs)) at ≡ spans (before x done) at ++ spans (code (drop (i + 1) xs)) (at + code_tokens (before x done))
spans_at xs i x at e h = at_drop_more (λ l. spans (code l) at) xs i x h
    ∙ ap (λ (y : Stmt). spans (before y (code (drop (i + 1) xs))) at) (sym e) ∙ spans_before x (code (drop (i + 1) xs)) at

pub tag_step : (xs : List ℕ) (i n at : ℕ) → i < length xs → tag_place (drop i xs) n at
    ≡ (if begins_tag (drop i xs) then (if n == 0 then Some at else tag_place (drop (i + 1) xs) (n - 1) (at + 1))
    else tag_place (drop (i + 1) xs) n (at + 1))
tag_step xs i n at h = let e = drop_more xs i 0 h in rw e refl

-- a start tag that isn't the one that is sought, and a place where none begins
pub tag_passed : (xs : List ℕ) (i n m : ℕ) → i < length xs → begins_tag (drop i xs) ≡ true → n ≢ 0 → m ≡ n - 1
    → tag_place (drop (i + 1) xs) m (i + 1) ≡ tag_place (drop i xs) n i
tag_passed xs i n m h b ne e = let f = ne_eqb n 0 ne in let s = tag_step xs i n i h in rw (e, s, b, f) refl

pub tag_absent : (xs : List ℕ) (i n m : ℕ) → i < length xs → begins_tag (drop i xs) ≡ false → m ≡ n
    → tag_place (drop (i + 1) xs) m (i + 1) ≡ tag_place (drop i xs) n i
tag_absent xs i n m h b e = let s = tag_step xs i n i h in rw (e, s, b) refl

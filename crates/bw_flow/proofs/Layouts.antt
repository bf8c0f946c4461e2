-- Laws of the layout of points.
use Rattle.std.proofs.Common.{◌≡◌, ℕ, zero, suc, ◌+◌, ◌≤◌, List, [], ◌∷◌, ◌++◌, length, refl, ap, sym, ◌∙◌, arith, append_assoc, Some, None}
use Rattle.std.proofs.lemmas.List.{append-nil, length-append}
use Rattle.bw_lang.specs.declared.stmt.Kind.TheVariants as kinds
use Rattle.bw_lang.specs.declared.stmt.Stmt.{Stmt}
use Rattle.bw_lang.specs.declared.stmt.Stmt.TheVariants.{Declare, Assign, If, While, Each, Block, Show, Exit}
use Rattle.bw_lang.specs.Service.Code.{Code, done, declare, assign, if_then, if_else, while_loop, for_each, block, show, exit, numbered}
use Rattle.bw_lang.specs.Service.CodeView.{before}
use Rattle.bw_lang.specs.Service.TermView.{term}
use Rattle.bw_lang.specs.declared.service.Service.{Service}
use Rattle.bw_flow.specs.declared.point.Local.{Local}
use Rattle.bw_flow.specs.Scopes.{with_local}
use Rattle.bw_flow.specs.Steps.{sets, tests, goes_over, shows, exits, joins, Step}
use Rattle.bw_flow.specs.Layout.{count, enter, after, step, steps, receives}
use Rattle.bw_flow.specs.Drawing.{first_of}

-- ---- where statements begin

begins_here : (n p q : ℕ) → 1 ≤ n → first_of n p q ≡ p
begins_here zero p q h = absurd (omega arith)
begins_here (suc n) p q h = refl

begins_later : (m k p q : ℕ) → first_of (m + k) p q ≡ first_of m p (first_of k (p + m) q)
begins_later zero k p q = let a : 0 + k ≡ k = omega arith in let b : p ≡ p + 0 = omega arith in λ i. first_of (a i) (b i) q
begins_later (suc m) k p q = begins_here (suc m + k) p q (omega arith)

pub first_of_is : (c : Code) (p q : ℕ) → first_of (count c) p q ≡ enter c p q
first_of_is done p q = refl
first_of_is (declare k w e rest) p q = begins_here _ p q (omega arith)
first_of_is (assign w e rest) p q = begins_here _ p q (omega arith)
first_of_is (if_then e y rest) p q = begins_here _ p q (omega arith)
first_of_is (if_else e y o rest) p q = begins_here _ p q (omega arith)
first_of_is (while_loop e b rest) p q = begins_here _ p q (omega arith)
first_of_is (for_each w e b rest) p q = begins_here _ p q (omega arith)
first_of_is (block b rest) p q = begins_later (count b) (count rest) p q ∙ ap (first_of (count b) p) (first_of_is rest (p + count b) q)
    ∙ first_of_is b p (enter rest (p + count b) q)
first_of_is (show e rs rest) p q = begins_here _ p q (omega arith)
first_of_is (exit e rest) p q = begins_here _ p q (omega arith)

-- ---- how many points there are

cons_length : (x : Step) (xs : List Step) → length (x ∷ xs) ≡ 1 + length xs
cons_length x xs = omega arith

pub length_steps : (service : Service) (c : Code) (n : ℕ) (sc : List Local) (d p q : ℕ) → length (steps service c n sc d p q) ≡ count c
length_steps service done n sc d p q = refl
length_steps service (declare k w e rest) n sc d p q = omega (arith, length_steps service rest (n + 1) (with_local sc w k) d (p + 1) q)
length_steps service (assign w e rest) n sc d p q = omega (arith, length_steps service rest (n + 1) sc d (p + 1) q)
length_steps service (if_then e y rest) n sc d p q =
    let join = p + 1 + count y in
    let ys = steps service y (n + 1) sc d (p + 1) join in
    let more = step n sc d joins (enter rest (join + 1) q ∷ []) ∷ steps service rest (n + 1 + numbered y) sc d (join + 1) q in
    omega (arith, length-append ys more, length_steps service y (n + 1) sc d (p + 1) join, length_steps service rest (n + 1 + numbered y) sc d (join + 1) q)
length_steps service (if_else e y o rest) n sc d p q =
    let other = p + 1 + count y in let join = other + count o in
    let ys = steps service y (n + 1) sc d (p + 1) join in
    let os = steps service o (n + 1 + numbered y) sc d other join in
    let more = step n sc d joins (enter rest (join + 1) q ∷ []) ∷ steps service rest (n + 1 + numbered y + numbered o) sc d (join + 1) q in
    omega (
      arith,
      length-append ys (os ++ more),
      length-append os more,
      length_steps service y (n + 1) sc d (p + 1) join,
      length_steps service o (n + 1 + numbered y) sc d other join,
      length_steps service rest (n + 1 + numbered y + numbered o) sc d (join + 1) q,
    )
length_steps service (while_loop e b rest) n sc d p q =
    let behind = p + 1 + count b in
    omega (
      arith,
      length-append (steps service b (n + 1) sc d (p + 1) p) (steps service rest (n + 1 + numbered b) sc d behind q),
      length_steps service b (n + 1) sc d (p + 1) p,
      length_steps service rest (n + 1 + numbered b) sc d behind q,
    )
length_steps service (for_each w e b rest) n sc d p q =
    let behind = p + 1 + count b in let inner = with_local sc w kinds.Str in
    omega (
      arith,
      length-append (steps service b (n + 1) inner (d + 1) (p + 1) p) (steps service rest (n + 1 + numbered b) sc d behind q),
      length_steps service b (n + 1) inner (d + 1) (p + 1) p,
      length_steps service rest (n + 1 + numbered b) sc d behind q,
    )
length_steps service (block b rest) n sc d p q =
    let r = enter rest (p + count b) q in
    omega (
      arith,
      length-append (steps service b n sc d p r) (steps service rest (n + numbered b) sc d (p + count b) q),
      length_steps service b n sc d p r,
      length_steps service rest (n + numbered b) sc d (p + count b) q,
    )
length_steps service (show e rs rest) n sc d p q = omega (arith, length_steps service rest (n + 1) sc d (p + 1) q)
length_steps service (exit e rest) n sc d p q = omega (arith, length_steps service rest (n + 1) sc d (p + 1) q)

-- ---- a statement, and those behind it

pub size_before : (s : Stmt) (c : Code) → numbered (before s c) ≡ numbered (before s done) + numbered c
size_before (Declare k w e) c = omega arith
size_before (Assign w e) c = omega arith
size_before (If service y None) c = omega arith
size_before (If service y (Some n)) c = omega arith
size_before (While service b) c = omega arith
size_before (Each w e b) c = omega arith
size_before (Block b) c = omega arith
size_before (Show p rs) c = omega arith
size_before (Exit p) c = omega arith

pub after_before : (s : Stmt) (c : Code) (sc : List Local) → after (before s c) sc ≡ after c (after (before s done) sc)
after_before (Declare k w e) c sc = refl
after_before (Assign w e) c sc = refl
after_before (If service y None) c sc = refl
after_before (If service y (Some n)) c sc = refl
after_before (While service b) c sc = refl
after_before (Each w e b) c sc = refl
after_before (Block b) c sc = refl
after_before (Show p rs) c sc = refl
after_before (Exit p) c sc = refl

glue_one : (a : Step) (ys : List Step) (j : Step) (r : List Step) → a ∷ (ys ++ (j ∷ r)) ≡ (a ∷ (ys ++ (j ∷ []))) ++ r
glue_one a ys j r = ap (λ l. a ∷ l) (sym (append_assoc ys (j ∷ []) r))

glue_two : (a : Step) (ys os : List Step) (j : Step) (r : List Step) → a ∷ (ys ++ (os ++ (j ∷ r))) ≡ (a ∷ (ys ++ (os ++ (j ∷ [])))) ++ r
glue_two a ys os j r = ap (λ l. a ∷ (ys ++ l)) (sym (append_assoc os (j ∷ []) r)) ∙ ap (λ l. a ∷ l) (sym (append_assoc ys (os ++ (j ∷ [])) r))

glue_loop : (a : Step) (ys r : List Step) → a ∷ (ys ++ r) ≡ (a ∷ (ys ++ [])) ++ r
glue_loop a ys r = ap (λ l. a ∷ (l ++ r)) (sym (append-nil ys))

glue_block : (ys r : List Step) → ys ++ r ≡ (ys ++ []) ++ r
glue_block ys r = ap (λ l. l ++ r) (sym (append-nil ys))

-- The points of a statement, and then those behind it, which stand from place m on with the numbers from k on.
pub steps_before : (service : Service) (s : Stmt) (c : Code) (n : ℕ) (sc : List Local) (d p q m k : ℕ) → m ≡ p + count (before s done) →
    k ≡ n + numbered (before s done)
    → steps service (before s c) n sc d p q ≡ steps service (before s done) n sc d p (enter c m q) ++ steps service c k (after (before s done) sc) d m q
steps_before service (Declare kind w e) c n sc d p q m k em ek = λ i.
    step n sc d (sets w (term e)) (enter c (sym em i) q ∷ []) ∷ steps service c (sym ek i) (with_local sc w kind) d (sym em i) q
steps_before service (Assign w e) c n sc d p q m k em ek = λ i.
    step n sc d (sets w (term e)) (enter c (sym em i) q ∷ []) ∷ steps service c (sym ek i) sc d (sym em i) q
steps_before service (If e y None) c n sc d p q m k em ek =
    let join = p + 1 + count y in
    let a : join + 1 ≡ m = omega arith in
    let b : n + 1 + numbered y ≡ k = omega arith in
    let first = step n sc d (tests (term e)) (enter y (p + 1) join ∷ join ∷ []) in
    let ys = steps service y (n + 1) sc d (p + 1) join in
    (λ i. first ∷ (ys ++ (step n sc d joins (enter c (a i) q ∷ []) ∷ steps service c (b i) sc d (a i) q)))
    ∙ glue_one first ys (step n sc d joins (enter c m q ∷ [])) (steps service c k sc d m q)
steps_before service (If e y (Some o)) c n sc d p q m k em ek =
    let other = p + 1 + count y in let join = other + count o in
    let a : join + 1 ≡ m = omega arith in
    let b : n + 1 + numbered y + numbered o ≡ k = omega arith in
    let first = step n sc d (tests (term e)) (enter y (p + 1) join ∷ enter o other join ∷ []) in
    let ys = steps service y (n + 1) sc d (p + 1) join in
    let os = steps service o (n + 1 + numbered y) sc d other join in
    (λ i. first ∷ (ys ++ (os ++ (step n sc d joins (enter c (a i) q ∷ []) ∷ steps service c (b i) sc d (a i) q))))
    ∙ glue_two first ys os (step n sc d joins (enter c m q ∷ [])) (steps service c k sc d m q)
steps_before service (While e y) c n sc d p q m k em ek =
    let a : p + 1 + count y ≡ m = omega arith in
    let b : n + 1 + numbered y ≡ k = omega arith in
    let ys = steps service y (n + 1) sc d (p + 1) p in
    (λ i. step n sc d (tests (term e)) (enter y (p + 1) p ∷ enter c (a i) q ∷ []) ∷ (ys ++ steps service c (b i) sc d (a i) q))
    ∙ glue_loop (step n sc d (tests (term e)) (enter y (p + 1) p ∷ enter c m q ∷ [])) ys (steps service c k sc d m q)
steps_before service (Each w e y) c n sc d p q m k em ek =
    let a : p + 1 + count y ≡ m = omega arith in
    let b : n + 1 + numbered y ≡ k = omega arith in
    let ys = steps service y (n + 1) (with_local sc w kinds.Str) (d + 1) (p + 1) p in
    (λ i. step n sc d (goes_over w (term e)) (enter y (p + 1) p ∷ enter c (a i) q ∷ []) ∷ (ys ++ steps service c (b i) sc d (a i) q))
    ∙ glue_loop (step n sc d (goes_over w (term e)) (enter y (p + 1) p ∷ enter c m q ∷ [])) ys (steps service c k sc d m q)
steps_before service (Block y) c n sc d p q m k em ek =
    let a : p + count y ≡ m = omega arith in
    let b : n + numbered y ≡ k = omega arith in
    (λ i. steps service y n sc d p (enter c (a i) q) ++ steps service c (b i) sc d (a i) q)
    ∙ glue_block (steps service y n sc d p (enter c m q)) (steps service c k sc d m q)
steps_before service (Show e rs) c n sc d p q m k em ek =
    λ i. step n sc d (shows (term e) (receives service sc rs)) (enter c (sym em i) q ∷ []) ∷ steps service c (sym ek i) sc d (sym em i) q
steps_before service (Exit e) c n sc d p q m k em ek = λ i. step n sc d (exits (term e)) [] ∷ steps service c (sym ek i) sc d (sym em i) q

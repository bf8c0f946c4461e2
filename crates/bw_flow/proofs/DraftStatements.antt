-- Each kind of statement, as it stands in a draft.
use Rattle.std.proofs.Common.{◌≡◌, ℕ, ◌+◌, List, [], ◌∷◌, ◌++◌, length, take, ap, sym, ◌∙◌, arith, append_assoc}
use Rattle.std.proofs.Common.{Option, Some, None}
use Rattle.std.proofs.lemmas.List.{append-nil, length-append}
use Rattle.bw_lang.specs.declared.stmt.Kind.{Kind}
use Rattle.bw_lang.specs.declared.stmt.Kind.TheVariants as kinds
use Rattle.bw_lang.specs.declared.expr.Expr.{Expr}
use Rattle.bw_lang.specs.declared.stmt.Receive.{Receive}
use Rattle.bw_lang.specs.declared.stmt.Stmt.{Stmt}
use Rattle.bw_lang.specs.declared.stmt.Stmt.TheVariants.{Declare, Assign, If, While, Each, Block, Show, Exit}
use Rattle.bw_lang.specs.Service.TermView.{term}
use Rattle.bw_lang.specs.Service.Code.{Code, done, if_then, if_else, for_each, numbered}
use Rattle.bw_lang.specs.Service.CodeView.{before}
use Rattle.bw_lang.specs.Service.Term.{Term}
use Rattle.bw_lang.specs.declared.service.Service.{Service}
use Rattle.bw_flow.specs.declared.point.Local.{Local}
use Rattle.bw_flow.specs.Scopes.{with_local}
use Rattle.bw_flow.specs.Steps.{Act, sets, tests, goes_over, shows, exits, joins, Step}
use Rattle.bw_flow.specs.Layout.{count, enter, step, steps, receives}
use Rattle.bw_flow.specs.Drawing.{Drawn, with_step, with_statement, with_code, with_block, first_of}
use Rattle.bw_flow.proofs.Layouts.{first_of_is, length_steps}
use Rattle.bw_flow.proofs.Drafts.{take_front}

one_more : (xs : List Step) (x : Step) → length (xs ++ x ∷ []) ≡ length xs + 1
one_more xs x = omega (arith, length-append xs (x ∷ []))

-- a declaration, an assignment, a show and an exit
pub declared_one : (service : Service) (x z : Drawn) (k : Kind) (w : List ℕ) (e : Expr) (d q : ℕ) (s : Stmt) → s ≡ Declare k w e
    → z ≡ record (with_statement x d (sets w (term e)) (q ∷ [])) { scope = with_local x.scope w k } → z ≡ with_code service x (before s done) d q
unfolding with_code
declared_one service x z k w e d q s es ez = ez ∙ ap (λ s. with_code service x (before s done) d q) (sym es)

pub assigned_one : (service : Service) (x z : Drawn) (w : List ℕ) (e : Expr) (d q : ℕ) (s : Stmt) → s ≡ Assign w e →
    z ≡ with_statement x d (sets w (term e)) (q ∷ []) → z ≡ with_code service x (before s done) d q
unfolding with_code
assigned_one service x z w e d q s es ez = ez ∙ ap (λ s. with_code service x (before s done) d q) (sym es)

pub shown_one : (service : Service) (x z : Drawn) (e : Expr) (rs : List Receive) (d q : ℕ) (s : Stmt) → s ≡ Show e rs →
    z ≡ with_statement x d (shows (term e) (receives service x.scope rs)) (q ∷ []) → z ≡ with_code service x (before s done) d q
unfolding with_code
shown_one service x z e rs d q s es ez = ez ∙ ap (λ s. with_code service x (before s done) d q) (sym es)

pub exited_one : (service : Service) (x z : Drawn) (e : Expr) (d q : ℕ) (s : Stmt) → s ≡ Exit e → z ≡ with_statement x d (exits (term e)) [] →
    z ≡ with_code service x (before s done) d q
unfolding with_code
exited_one service x z e d q s es ez = ez ∙ ap (λ s. with_code service x (before s done) d q) (sym es)

-- an `if` without else
pub meets : (service : Service) (x y z r : Drawn) (e : Term) (b : Code) (n d q j : ℕ) → n ≡ x.number → j ≡ length x.steps + 1 + count b
    → y ≡ with_statement x d (tests e) (first_of (count b) (length x.steps + 1) j ∷ j ∷ [])
    → z ≡ with_block service y b d j → r ≡ with_step z (step n z.scope d joins (q ∷ [])) → r ≡ with_code service x (if_then e b done) d q
unfolding with_code
meets service x y z r e b n d q j en ej ey ez er =
    let p = length x.steps in
    let join = p + 1 + count b in
    let jj : j ≡ join = ej in
    let first = step x.number x.scope d (tests e) (enter b (p + 1) join ∷ join ∷ []) in
    let y2 : y ≡ record { steps = x.steps ++ first ∷ []; number = x.number + 1; scope = x.scope } =
    ey ∙ (λ i. with_statement x d (tests e) (first_of (count b) (p + 1) (jj i) ∷ jj i ∷ []))
    ∙ (λ i. with_statement x d (tests e) (first_of_is b (p + 1) join i ∷ join ∷ [])) in
    let bs = λ (l : ℕ). steps service b (x.number + 1) x.scope d l join in
    let z2 : z ≡ record { steps = (x.steps ++ first ∷ []) ++ bs (p + 1); number = x.number + 1 + numbered b; scope = x.scope } =
    ez ∙ (λ i. with_block service (y2 i) b d (jj i))
    ∙ (λ i. record { steps = (x.steps ++ first ∷ []) ++ bs (one_more x.steps first i); number = x.number + 1 + numbered b; scope = x.scope }) in
    let last = step x.number x.scope d joins (q ∷ []) in
    let num : x.number + 1 + numbered b ≡ x.number + (1 + numbered b + 0) = omega arith in
    let whole : ((x.steps ++ first ∷ []) ++ bs (p + 1)) ++ last ∷ [] ≡ x.steps ++ (first ∷ (bs (p + 1) ++ last ∷ [])) =
    append_assoc (x.steps ++ first ∷ []) (bs (p + 1)) (last ∷ []) ∙ append_assoc x.steps (first ∷ []) (bs (p + 1) ++ last ∷ []) in
    er ∙ (λ i. with_step (z2 i) (step (en i) (z2 i).scope d joins (q ∷ []))) ∙ (λ i. record { steps = whole i; number = num i; scope = x.scope })

-- an `if` with else
pub meets_other : (service : Service) (x y z v r : Drawn) (e : Term) (b o : Code) (n d q j : ℕ) → n ≡ x.number → j ≡ length x.steps + 1 + count b + count o
    → y ≡ with_statement x d (tests e) (first_of (count b) (length x.steps + 1) j ∷ first_of (count o) (length x.steps + 1 + count b) j ∷ [])
    → z ≡ with_block service y b d j → v ≡ with_block service z o d j → r ≡ with_step v (step n v.scope d joins (q ∷ [])) →
    r ≡ with_code service x (if_else e b o done) d q
unfolding with_code
meets_other service x y z v r e b o n d q j en ej ey ez ev er =
    let p = length x.steps in
    let other = p + 1 + count b in
    let join = other + count o in
    let jj : j ≡ join = ej in
    let first = step x.number x.scope d (tests e) (enter b (p + 1) join ∷ enter o other join ∷ []) in
    let y2 : y ≡ record { steps = x.steps ++ first ∷ []; number = x.number + 1; scope = x.scope } =
    ey ∙ (λ i. with_statement x d (tests e) (first_of (count b) (p + 1) (jj i) ∷ first_of (count o) (p + 1 + count b) (jj i) ∷ []))
    ∙ (λ i. with_statement x d (tests e) (first_of_is b (p + 1) join i ∷ first_of_is o other join i ∷ [])) in
    let bs = λ (l : ℕ). steps service b (x.number + 1) x.scope d l join in
    let os = λ (l : ℕ). steps service o (x.number + 1 + numbered b) x.scope d l join in
    let front = (x.steps ++ first ∷ []) ++ bs (p + 1) in
    let z2 : z ≡ record { steps = front; number = x.number + 1 + numbered b; scope = x.scope } =
    ez ∙ (λ i. with_block service (y2 i) b d (jj i))
    ∙ (λ i. record { steps = (x.steps ++ first ∷ []) ++ bs (one_more x.steps first i); number = x.number + 1 + numbered b; scope = x.scope }) in
    let len : length front ≡ other = omega (
      arith,
      length-append (x.steps ++ first ∷ []) (bs (p + 1)),
      one_more x.steps first,
      length_steps service b (x.number + 1) x.scope d (p + 1) join,
    ) in
    let v2 : v ≡ record { steps = front ++ os other; number = x.number + 1 + numbered b + numbered o; scope = x.scope } =
    ev ∙ (λ i. with_block service (z2 i) o d (jj i))
    ∙ (λ i. record { steps = front ++ os (len i); number = x.number + 1 + numbered b + numbered o; scope = x.scope }) in
    let last = step x.number x.scope d joins (q ∷ []) in
    let num : x.number + 1 + numbered b + numbered o ≡ x.number + (1 + numbered b + numbered o + 0) = omega arith in
    let whole : (front ++ os other) ++ last ∷ [] ≡ x.steps ++ (first ∷ (bs (p + 1) ++ (os other ++ last ∷ []))) =
    append_assoc front (os other) (last ∷ []) ∙ append_assoc (x.steps ++ first ∷ []) (bs (p + 1)) (os other ++ last ∷ [])
    ∙ append_assoc x.steps (first ∷ []) (bs (p + 1) ++ (os other ++ last ∷ [])) in
    er ∙ (λ i. with_step (v2 i) (step (en i) (v2 i).scope d joins (q ∷ []))) ∙ (λ i. record { steps = whole i; number = num i; scope = x.scope })

pub if_one : (service : Service) (x y z r : Drawn) (e : Expr) (b : Code) (o : Option Code) (n d q j : ℕ) (s : Stmt) → s ≡ If e b o → o ≡ None → n ≡ x.number →
    j ≡ length x.steps + 1 + count b
    → y ≡ with_statement x d (tests (term e)) (first_of (count b) (length x.steps + 1) j ∷ j ∷ [])
    → z ≡ with_block service y b d j → r ≡ with_step z (step n z.scope d joins (q ∷ [])) → r ≡ with_code service x (before s done) d q
if_one service x y z r e b o n d q j s es eo en ej ey ez er =
    meets service x y z r (term e) b n d q j en ej ey ez er ∙ (λ i. with_code service x (before (If e b (sym eo i)) done) d q)
    ∙ ap (λ s. with_code service x (before s done) d q) (sym es)

pub if_other_one : (service : Service) (x y z v r : Drawn) (e : Expr) (b c : Code) (o : Option Code) (n d q j : ℕ) (s : Stmt) → s ≡ If e b o → o ≡ Some c →
    n ≡ x.number → j ≡ length x.steps + 1 + count b + count c
    → y ≡ with_statement x d (tests (term e)) (first_of (count b) (length x.steps + 1) j ∷ first_of (count c) (length x.steps + 1 + count b) j ∷ [])
    → z ≡ with_block service y b d j → v ≡ with_block service z c d j → r ≡ with_step v (step n v.scope d joins (q ∷ [])) →
    r ≡ with_code service x (before s done) d q
if_other_one service x y z v r e b c o n d q j s es eo en ej ey ez ev er =
    meets_other service x y z v r (term e) b c n d q j en ej ey ez ev er ∙ (λ i. with_code service x (before (If e b (sym eo i)) done) d q)
    ∙ ap (λ s. with_code service x (before s done) d q) (sym es)

-- a loop: its head, and then its body, in this scope and so many foreachs
looped : (service : Service) (x y z : Drawn) (a : Act) (b : Code) (sc : List Local) (d inner q h : ℕ) → h ≡ length x.steps
    → y ≡ record (with_statement x d a (first_of (count b) (length x.steps + 1) (length x.steps) ∷ q ∷ [])) { scope = sc }
    → z ≡ with_block service y b inner h
    → z ≡ record {
      steps = x.steps ++ (step x.number x.scope d a
          (enter b (length x.steps + 1) (length x.steps) ∷ q ∷ []) ∷ (steps service b (x.number + 1) sc inner (length x.steps + 1) (length x.steps) ++ []));
      number =
          x.number + (1 + numbered b + 0);
      scope = sc;
    }
unfolding with_code
looped service x y z a b sc d inner q h eh ey ez =
    let p = length x.steps in
    let first = step x.number x.scope d a (enter b (p + 1) p ∷ q ∷ []) in
    let y2 : y ≡ record { steps = x.steps ++ first ∷ []; number = x.number + 1; scope = sc } =
    ey ∙ (λ i. record (with_statement x d a (first_of_is b (p + 1) p i ∷ q ∷ [])) { scope = sc }) in
    let bs = λ (l : ℕ). steps service b (x.number + 1) sc inner l p in
    let num : x.number + 1 + numbered b ≡ x.number + (1 + numbered b + 0) = omega arith in
    let whole : (x.steps ++ first ∷ []) ++ bs (p + 1) ≡ x.steps ++ (first ∷ (bs (p + 1) ++ [])) =
    append_assoc x.steps (first ∷ []) (bs (p + 1)) ∙ ap (λ l. x.steps ++ (first ∷ l)) (sym (append-nil (bs (p + 1)))) in
    ez ∙ (λ i. with_block service (y2 i) b inner (eh i))
    ∙ (λ i. record { steps = (x.steps ++ first ∷ []) ++ bs (one_more x.steps first i); number = x.number + 1 + numbered b; scope = sc })
    ∙ (λ i. record { steps = whole i; number = num i; scope = sc })

pub while_one : (service : Service) (x y z : Drawn) (e : Expr) (b : Code) (d q h : ℕ) (s : Stmt) → s ≡ While e b → h ≡ length x.steps
    → y ≡ with_statement x d (tests (term e)) (first_of (count b) (length x.steps + 1) (length x.steps) ∷ q ∷ [])
    → z ≡ with_block service y b d h → z ≡ with_code service x (before s done) d q
unfolding with_code
while_one service x y z e b d q h s es eh ey ez = looped service x y z (tests (term e)) b x.scope d d q h eh ey ez
    ∙ ap (λ s. with_code service x (before s done) d q) (sym es)

pub each_one : (service : Service) (x y z r : Drawn) (w : List ℕ) (e : Expr) (b : Code) (d inner q h depth : ℕ) (s : Stmt) → s ≡ Each w e b →
    h ≡ length x.steps → inner ≡ d + 1
    → y ≡ record (with_statement x d (goes_over w (term e)) (first_of (count b) (length x.steps + 1) (length x.steps) ∷ q ∷ []))
    { scope = with_local x.scope w kinds.Str }
    → depth ≡ length x.scope → z ≡ with_block service y b inner h → r ≡ record z { scope = take depth z.scope } → r ≡ with_code service x (before s done) d q
unfolding with_code
each_one service x y z r w e b d inner q h depth s es eh ei ey ed ez er =
    let sc = with_local x.scope w kinds.Str in
    let z2 = looped service x y z (goes_over w (term e)) b sc d (d + 1) q h eh ey (ez ∙ (λ i. with_block service y b (ei i) h)) in
    er ∙ (λ i. record (z2 i) { scope = take (ed i) (z2 i).scope })
    ∙ ap (λ l. record (with_code service x (for_each w (term e) b done) d q) { scope = l }) (take_front x.scope (record { name = w; kind = kinds.Str } ∷ []))
    ∙ ap (λ s. with_code service x (before s done) d q) (sym es)

pub block_one : (service : Service) (x z : Drawn) (b : Code) (d q : ℕ) (s : Stmt) → s ≡ Block b → z ≡ with_block service x b d q →
    z ≡ with_code service x (before s done) d q
unfolding with_code
block_one service x z b d q s es ez =
    let a : x.number + numbered b ≡ x.number + (numbered b + 0) = omega arith in
    ez ∙ (λ i. record { steps = x.steps ++ sym (append-nil (steps service b x.number x.scope d (length x.steps) q)) i; number = a i; scope = x.scope })
    ∙ ap (λ s. with_code service x (before s done) d q) (sym es)

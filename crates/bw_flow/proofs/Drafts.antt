-- One statement more in a draft.
use Rattle.std.proofs.Common.{◌≡◌, ℕ, zero, suc, ◌+◌, ◌-◌, ◌<◌, ◌≤◌, List, [], ◌∷◌, ◌++◌, length, get_or, take, drop, refl, ap, sym, ◌∙◌, arith, append_assoc}
use Rattle.std.proofs.lemmas.List.{append-nil, length-append}
use Rattle.std.proofs.Math.Seq.{drop-cons}
use Rattle.bw_lang.specs.declared.service.Session.{Session}
use Rattle.bw_lang.specs.declared.stmt.Stmt.{Stmt}
use Rattle.bw_lang.specs.Service.Code.{Code, done, declare, assign, if_then, if_else, while_loop, for_each, block, show, exit, numbered}
use Rattle.bw_lang.specs.Service.CodeView.{before, code}
use Rattle.bw_lang.specs.declared.service.Service.{Service}
use Rattle.bw_flow.specs.declared.point.Local.{Local}
use Rattle.bw_flow.specs.Layout.{count, points, enter, after, step, steps, session_steps, session_firsts}
use Rattle.bw_flow.specs.Steps.{Act}
use Rattle.bw_flow.specs.Drawing.{Drawn, with_code, with_block, with_statement, first_of}
use Rattle.bw_flow.proofs.Layouts.{first_of_is, length_steps, size_before, after_before, steps_before}
use Rattle.bw_flow.proofs.Codes.{count_before}

-- a statement, and then those behind it
with_before : (service : Service) (x : Drawn) (s : Stmt) (c : Code) (d q : ℕ)
    → with_code service x (before s c) d q ≡ with_code service (with_code service x (before s done) d (enter c (length x.steps + count (before s done)) q)) c d
    q
unfolding with_code
with_before service x s c d q =
    let p = length x.steps in
    let m = p + count (before s done) in
    let ss = steps service (before s done) x.number x.scope d p (enter c m q) in
    let k = x.number + numbered (before s done) in
    let len : m ≡ length (x.steps ++ ss) = omega (arith, length-append x.steps ss, length_steps service (before s done) x.number x.scope d p (enter c m q)) in
    let rest = λ (r : ℕ). steps service c k (after (before s done) x.scope) d r q in
    let e : x.steps ++ steps service (before s c) x.number x.scope d p q ≡ (x.steps ++ ss) ++ rest (length (x.steps ++ ss)) =
    ap (λ l. x.steps ++ l) (steps_before service s c x.number x.scope d p q m k refl refl) ∙ sym (append_assoc x.steps ss (rest m))
    ∙ ap (λ r. (x.steps ++ ss) ++ rest r) len in
    let n : x.number + numbered (before s c) ≡ k + numbered c = omega (arith, size_before s c) in
    λ i. record { steps = e i; number = n i; scope = after_before s c x.scope i }

-- what a block's loop keeps: the points still to come make the whole, and so many points are to come
pub record Comes (service : Service) (x y : Drawn) (xs : List Stmt) (i d q end : ℕ) : Type 0 where
  pub whole : with_code service y (code (drop i xs)) d q ≡ with_code service x (code xs) d q
  pub many : length y.steps + count (code (drop i xs)) ≡ end

code_at : (xs : List Stmt) (i : ℕ) (s : Stmt) → s ≡ get_or xs i s → i < length xs → code (drop i xs) ≡ before s (code (drop (i + 1) xs))
code_at xs i s e h =
    let a : suc i ≡ i + 1 = omega arith in
    ap code (drop-cons xs i s h) ∙ (λ j. before (sym e j) (code (drop (a j) xs)))

pub comes_first : (service : Service) (x : Drawn) (xs : List Stmt) (d q end : ℕ) → end ≡ length x.steps + count (code xs) → Comes service x x xs 0 d q end
comes_first service x xs d q end e = record { whole = refl; many = sym e }

pub comes_next : (service : Service) (x y z : Drawn) (xs : List Stmt) (i d q end behind later next : ℕ) (s : Stmt) → s ≡ get_or xs i s → i < length xs
    → Comes service x y xs i d q end → behind ≡ length y.steps + count (before s done) → later ≡ end - behind → next ≡ first_of later behind q
    → z ≡ with_code service y (before s done) d next → Comes service x z xs (i + 1) d q end
unfolding with_code
comes_next service x y z xs i d q end behind later next s e h comes eb el en ez =
    let c = code (drop (i + 1) xs) in
    let at = code_at xs i s e h in
    let many : count (code (drop i xs)) ≡ count (before s done) + count c = ap count at ∙ count_before s c in
    let has = comes.many in
    let el2 : later ≡ count c = omega arith in
    let en2 : next ≡ enter c (length y.steps + count (before s done)) q = en ∙ (λ j. first_of (el2 j) (eb j) q) ∙ first_of_is c _ q in
    let z2 : z ≡ with_code service y (before s done) d (enter c (length y.steps + count (before s done)) q) = ez
    ∙ ap (with_code service y (before s done) d) en2 in
    let ss = steps service (before s done) y.number y.scope d (length y.steps) next in
    record {
      whole = ap (λ w. with_code service w c d q) z2 ∙ sym (with_before service y s c d q) ∙ ap (λ b. with_code service y b d q) (sym at) ∙ comes.whole;
      many = ap (λ (w : Drawn). length w.steps + count c) ez
          ∙ omega (arith, length-append y.steps ss, length_steps service (before s done) y.number y.scope d (length y.steps) next);
    }

with_none : (service : Service) (y : Drawn) (d q : ℕ) → with_code service y done d q ≡ y
unfolding with_code
with_none service y d q =
    let a : y.number + 0 ≡ y.number = omega arith in
    λ i. record { steps = append-nil y.steps i; number = a i; scope = y.scope }

drop_all : (xs : List Stmt) (i : ℕ) → length xs ≤ i → drop i xs ≡ []
drop_all [] zero h = refl
drop_all [] (suc i) h = refl
drop_all (x ∷ xs) zero h = absurd (omega arith)
drop_all (x ∷ xs) (suc i) h = drop_all xs i (omega arith)

pub take_front : (sc more : List Local) → take (length sc) (sc ++ more) ≡ sc
take_front [] more = refl
take_front (l ∷ sc) more = ap (λ m. l ∷ m) (take_front sc more)

-- what statements add to the scope
adds : (c : Code) (sc : List Local) → (more : List Local) × (after c sc ≡ sc ++ more)
adds done sc = ([], sym (append-nil sc))
adds (declare k w e rest) sc =
    let one : Local = record { name = w; kind = k } in
    let r = adds rest (sc ++ one ∷ []) in (one ∷ r.0, r.1 ∙ append_assoc sc (one ∷ []) r.0)
adds (assign w e rest) sc = adds rest sc
adds (if_then e y rest) sc = adds rest sc
adds (if_else e y o rest) sc = adds rest sc
adds (while_loop e b rest) sc = adds rest sc
adds (for_each w e b rest) sc = adds rest sc
adds (block b rest) sc = adds rest sc
adds (show e rs rest) sc = adds rest sc
adds (exit e rest) sc = adds rest sc

leaves : (c : Code) (sc : List Local) → take (length sc) (after c sc) ≡ sc
leaves c sc = let r = adds c sc in ap (take (length sc)) r.1 ∙ take_front sc r.0

-- the end of a block
pub comes_last : (service : Service) (x y z : Drawn) (xs : List Stmt) (c : Code) (i d q end depth : ℕ) → length xs ≤ i → Comes service x y xs i d q end →
    code xs ≡ c
    → depth ≡ length x.scope → z ≡ record y { scope = take depth y.scope } → z ≡ with_block service x c d q
unfolding with_code
comes_last service x y z xs c i d q end depth h comes ec ed ez =
    let whole : y ≡ with_code service x c d q =
    sym (with_none service y d q) ∙ ap (λ l. with_code service y (code l) d q) (sym (drop_all xs i h)) ∙ comes.whole ∙ ap (λ b. with_code service x b d q) ec in
    ez ∙ (λ j. record (whole j) { scope = take (ed j) (whole j).scope }) ∙ ap (λ l. record (with_code service x c d q) { scope = l }) (leaves c x.scope)

-- ---- the sessions

-- what the sessions' loop keeps: the places and the points still to come make the whole, and no local is in scope
pub record Goes (service : Service) (x y : Drawn) (fs : List ℕ) (xs : List Session) (i out : ℕ) : Type 0 where
  pub places : fs ++ session_firsts (drop i xs) (length y.steps) out ≡ session_firsts xs (length x.steps) out
  pub points : y.steps ++ session_steps service (drop i xs) y.number (length y.steps) out ≡ x.steps ++ session_steps service xs x.number (length x.steps) out
  pub outside : y.scope ≡ []

pub goes_next : (service : Service) (x y z : Drawn) (fs gs : List ℕ) (xs : List Session) (i out first : ℕ) (s : Session) → s ≡ get_or xs i s → i < length xs →
    Goes service x y fs xs i out
    → first ≡ first_of (count s.body) (length y.steps) out → z ≡ with_block service y s.body 0 out → gs ≡ fs ++ first ∷ [] → Goes service x z gs xs (i + 1) out
unfolding with_code
goes_next service x y z fs gs xs i out first s e h goes ef ez eg =
    let p = length y.steps in
    let rest = drop (i + 1) xs in
    let a : suc i ≡ i + 1 = omega arith in
    let at : drop i xs ≡ s ∷ rest = drop-cons xs i s h ∙ (λ j. sym e j ∷ drop (a j) xs) in
    let body = λ (sc : List Local). steps service s.body y.number sc 0 p out in
    let ss = body [] in
    let zs : z.steps ≡ y.steps ++ ss = ap (λ (w : Drawn). w.steps) ez ∙ (λ j. y.steps ++ body (goes.outside j)) in
    let zn : z.number ≡ y.number + numbered s.body = ap (λ (w : Drawn). w.number) ez in
    let zl : length z.steps ≡ p + count s.body = ap length zs ∙ omega (arith, length-append y.steps ss, length_steps service s.body y.number [] 0 p out) in
    let firsts = session_firsts rest (p + count s.body) out in
    let more = session_steps service rest (y.number + numbered s.body) (p + count s.body) out in
    let begins : first ≡ enter s.body p out = ef ∙ first_of_is s.body p out in
    record {
      places = (λ j. eg j ++ session_firsts rest (zl j) out) ∙ append_assoc fs (first ∷ []) firsts ∙ (λ j. fs ++ (begins j ∷ firsts))
          ∙ ap (λ l. fs ++ session_firsts l p out) (sym at) ∙ goes.places;
      points = (λ j. zs j ++ session_steps service rest (zn j) (zl j) out) ∙ append_assoc y.steps ss more
          ∙ ap (λ l. y.steps ++ session_steps service l y.number p out) (sym at) ∙ goes.points;
      outside = ap (λ (w : Drawn). w.scope) ez ∙ goes.outside;
    }

-- ---- room for what comes

-- the next statement has room where the whole block has
pub room_for : (service : Service) (x y : Drawn) (xs : List Stmt) (i d q end most : ℕ) (s : Stmt) → s ≡ get_or xs i s → i < length xs
    → Comes service x y xs i d q end → end ≤ most → length y.steps + count (before s done) ≤ most
room_for service x y xs i d q end most s e h comes within =
    let c = code (drop (i + 1) xs) in omega (arith, within, comes.many, ap count (code_at xs i s e h), count_before s c)

count_drop : (xs : List Stmt) (i : ℕ) → count (code (drop i xs)) ≤ count (code xs)
count_drop [] zero = omega arith
count_drop [] (suc i) = omega arith
count_drop (x ∷ xs) zero = omega arith
count_drop (x ∷ xs) (suc i) = omega (arith, count_drop xs i, count_before x (code xs))

-- the points only become more
pub rises : (service : Service) (x y : Drawn) (xs : List Stmt) (i d q end : ℕ) → Comes service x y xs i d q end → end ≡ length x.steps + count (code xs)
    → length x.steps ≤ length y.steps
rises service x y xs i d q end comes e = omega (arith, comes.many, e, count_drop xs i)

sessions_length : (service : Service) (ss : List Session) (n p out : ℕ) → length (session_steps service ss n p out) ≡ points ss
sessions_length service [] n p out = refl
sessions_length service (s ∷ ss) n p out =
    let front = steps service s.body n [] 0 p out in
    let more = session_steps service ss (n + numbered s.body) (p + count s.body) out in
    omega (
      arith,
      length-append front more,
      length_steps service s.body n [] 0 p out,
      sessions_length service ss (n + numbered s.body) (p + count s.body) out,
    )

-- and the next session where all have
pub session_room : (service : Service) (x y : Drawn) (fs : List ℕ) (xs : List Session) (i out most : ℕ) (s : Session) → s ≡ get_or xs i s → i < length xs
    → Goes service x y fs xs i out → length x.steps + points xs ≤ most → length y.steps + count s.body ≤ most
session_room service x y fs xs i out most s e h goes within =
    let a : suc i ≡ i + 1 = omega arith in
    let at : drop i xs ≡ s ∷ drop (i + 1) xs = drop-cons xs i s h ∙ (λ j. sym e j ∷ drop (a j) xs) in
    let left = session_steps service (drop i xs) y.number (length y.steps) out in
    let all = session_steps service xs x.number (length x.steps) out in
    omega (
      arith,
      within,
      ap length goes.points,
      length-append y.steps left,
      length-append x.steps all,
      sessions_length service (drop i xs) y.number (length y.steps) out,
      sessions_length service xs x.number (length x.steps) out,
      ap points at,
    )

-- a block adds its points, and so does its head before it
pub block_length : (service : Service) (x : Drawn) (c : Code) (d q : ℕ) → length (with_block service x c d q).steps ≡ length x.steps + count c
unfolding with_code
block_length service x c d q =
    let new = steps service c x.number x.scope d (length x.steps) q in
    omega (arith, length-append x.steps new, length_steps service c x.number x.scope d (length x.steps) q)

pub head_length : (x : Drawn) (d : ℕ) (a : Act) (next : List ℕ) → length (with_statement x d a next).steps ≡ length x.steps + 1
head_length x d a next = length-append x.steps (step x.number x.scope d a next ∷ [])

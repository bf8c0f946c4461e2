-- The numbers of points.
use Rattle.std.proofs.Common.{◌≡◌, ◌⊎◌, ℕ, zero, suc, ◌+◌, ◌≤◌, Bool, true, false, List, [], ◌∷◌, ◌++◌, refl, ap, sym, ◌∙◌, inl, inr, arith, Some, None}
use Rattle.std.specs.Prelude.{slice_get, if◌then◌else◌}
use Rattle.bw_lang.specs.declared.service.Session.{Session}
use Rattle.bw_lang.specs.declared.stmt.Kind.TheVariants as kinds
use Rattle.bw_lang.specs.Service.Code.{Code, done, declare, assign, if_then, if_else, while_loop, for_each, block, show, exit, numbered}
use Rattle.bw_lang.specs.declared.service.Service.{Service}
use Rattle.bw_flow.proofs.Parts.{either}
use Rattle.bw_flow.specs.declared.point.Local.{Local}
use Rattle.bw_flow.specs.Flows.{is_join, is_show}
use Rattle.bw_flow.specs.Layout.{count, enter, step, steps, points, session_steps}
use Rattle.bw_flow.specs.Scopes.{with_local}
use Rattle.bw_flow.specs.Steps.{Act, sets, tests, goes_over, shows, exits, joins, Step}
use Rattle.bw_flow.specs.Numbers.{numbers_of, numbers_from, StatementsInOrder, AllHaveNumbers}
use Rattle.bw_flow.proofs.Parts.{sizes, sizes_are}

numbers_parts : (xs ys : List Step) → numbers_of (xs ++ ys) ≡ numbers_of xs ++ numbers_of ys
numbers_parts [] ys = refl
numbers_parts (x ∷ xs) ys = by (is_join x.act) (numbers_parts xs ys)
  where
    by : (b : Bool) → numbers_of (xs ++ ys) ≡ numbers_of xs ++ numbers_of ys →
        (if b then numbers_of (xs ++ ys) else x.number ∷ numbers_of (xs ++ ys)) ≡ (if b then numbers_of xs else x.number ∷ numbers_of xs) ++ numbers_of ys
    by true e = e
    by false e = ap (λ l. x.number ∷ l) e

from_parts : (n a b : ℕ) → numbers_from n (a + b) ≡ numbers_from n a ++ numbers_from (n + a) b
from_parts n zero b = let e : 0 + b ≡ b = omega arith in let f : n ≡ n + 0 = omega arith in λ i. numbers_from (f i) (e i)
from_parts n (suc a) b =
    let e : suc a + b ≡ suc (a + b) = omega arith in let f : n + 1 + a ≡ n + suc a = omega arith in
    ap (numbers_from n) e ∙ ap (λ l. n ∷ l) (from_parts (n + 1) a b ∙ ap (λ m. numbers_from (n + 1) a ++ numbers_from m b) f)

one_and : (n k : ℕ) → numbers_from n (1 + k) ≡ n ∷ numbers_from (n + 1) k
one_and n k = let e : 1 + k ≡ suc k = omega arith in ap (numbers_from n) e

one_and_more : (n a b : ℕ) → numbers_from n (1 + a + b) ≡ n ∷ (numbers_from (n + 1) a ++ numbers_from (n + 1 + a) b)
one_and_more n a b = let e : 1 + a + b ≡ suc (a + b) = omega arith in ap (numbers_from n) e ∙ ap (λ l. n ∷ l) (from_parts (n + 1) a b)

pub in_order : (service : Service) (c : Code) (n : ℕ) (sc : List Local) (d p q : ℕ) → numbers_of (steps service c n sc d p q) ≡ numbers_from n (numbered c)
in_order service done n sc d p q = refl
in_order service (declare k w e rest) n sc d p q = ap (λ l. n ∷ l) (in_order service rest (n + 1) (with_local sc w k) d (p + 1) q)
    ∙ sym (one_and n (numbered rest))
in_order service (assign w e rest) n sc d p q = ap (λ l. n ∷ l) (in_order service rest (n + 1) sc d (p + 1) q) ∙ sym (one_and n (numbered rest))
in_order service (if_then e y rest) n sc d p q =
    let join = p + 1 + count y in
    let ys = steps service y (n + 1) sc d (p + 1) join in
    let more = step n sc d joins (enter rest (join + 1) q ∷ []) ∷ steps service rest (n + 1 + numbered y) sc d (join + 1) q in
    ap (λ l. n ∷ l) (numbers_parts ys more ∙ (λ i.
    in_order service y (n + 1) sc d (p + 1) join i ++ in_order service rest (n + 1 + numbered y) sc d (join + 1) q i))
    ∙ sym (one_and_more n (numbered y) (numbered rest))
in_order service (if_else e y o rest) n sc d p q =
    let other = p + 1 + count y in let join = other + count o in
    let ys = steps service y (n + 1) sc d (p + 1) join in
    let os = steps service o (n + 1 + numbered y) sc d other join in
    let more = step n sc d joins (enter rest (join + 1) q ∷ []) ∷ steps service rest (n + 1 + numbered y + numbered o) sc d (join + 1) q in
    let e1 : 1 + numbered y + numbered o + numbered rest ≡ 1 + numbered y + (numbered o + numbered rest) = omega arith in
    ap (λ l. n ∷ l) (numbers_parts ys (os ++ more) ∙ ap (λ l. numbers_of ys ++ l) (numbers_parts os more)
    ∙ (λ i. in_order service y (n + 1) sc d (p + 1) join
    i ++ (in_order service o (n + 1 + numbered y) sc d other join i ++ in_order service rest (n + 1 + numbered y + numbered o) sc d (join + 1) q i))
    ∙ ap (λ l. numbers_from (n + 1) (numbered y) ++ l) (sym (from_parts (n + 1 + numbered y) (numbered o) (numbered rest))))
    ∙ sym (ap (numbers_from n) e1 ∙ one_and_more n (numbered y) (numbered o + numbered rest))
in_order service (while_loop e y rest) n sc d p q =
    let behind = p + 1 + count y in
    ap (λ l. n ∷ l) (numbers_parts (steps service y (n + 1) sc d (p + 1) p) (steps service rest (n + 1 + numbered y) sc d behind q)
    ∙ (λ i. in_order service y (n + 1) sc d (p + 1) p i ++ in_order service rest (n + 1 + numbered y) sc d behind q i))
    ∙ sym (one_and_more n (numbered y) (numbered rest))
in_order service (for_each w e y rest) n sc d p q =
    let behind = p + 1 + count y in let inner = with_local sc w kinds.Str in
    ap (λ l. n ∷ l) (numbers_parts (steps service y (n + 1) inner (d + 1) (p + 1) p) (steps service rest (n + 1 + numbered y) sc d behind q)
    ∙ (λ i. in_order service y (n + 1) inner (d + 1) (p + 1) p i ++ in_order service rest (n + 1 + numbered y) sc d behind q i))
    ∙ sym (one_and_more n (numbered y) (numbered rest))
in_order service (block y rest) n sc d p q =
    let behind = p + count y in let r = enter rest behind q in
    numbers_parts (steps service y n sc d p r) (steps service rest (n + numbered y) sc d behind q)
    ∙ (λ i. in_order service y n sc d p r i ++ in_order service rest (n + numbered y) sc d behind q i) ∙ sym (from_parts n (numbered y) (numbered rest))
in_order service (show e rs rest) n sc d p q = ap (λ l. n ∷ l) (in_order service rest (n + 1) sc d (p + 1) q) ∙ sym (one_and n (numbered rest))
in_order service (exit e rest) n sc d p q = ap (λ l. n ∷ l) (in_order service rest (n + 1) sc d (p + 1) q) ∙ sym (one_and n (numbered rest))

pub sessions_in_order : (service : Service) (ss : List Session) (n p out : ℕ) → numbers_of (session_steps service ss n p out) ≡ numbers_from n (sizes ss)
sessions_in_order service [] n p out = refl
sessions_in_order service (s ∷ ss) n p out =
    numbers_parts (steps service s.body n [] 0 p out) (session_steps service ss (n + numbered s.body) (p + count s.body) out)
    ∙ (λ i. in_order service s.body n [] 0 p out i ++ sessions_in_order service ss (n + numbered s.body) (p + count s.body) out i)
    ∙ sym (from_parts n (numbered s.body) (sizes ss))

pub statements_in_order : StatementsInOrder
statements_in_order service = sessions_in_order service service.sessions 1 0 (points service.sessions) ∙ ap (numbers_from 1) (sizes_are service.sessions)

-- a statement's point whose number is among those from n on
pub cons_head : {A : Type 0} (x y : A) (xs ys : List A) → x ∷ xs ≡ y ∷ ys → (x ≡ y) × (xs ≡ ys)
cons_head x y xs ys e = (cc, cc)

pub numbers_skip : (x : Step) (xs : List Step) → is_join x.act ≡ true → numbers_of (x ∷ xs) ≡ numbers_of xs
numbers_skip x xs e = ap (λ (b : Bool). if b then numbers_of xs else x.number ∷ numbers_of xs) e

numbers_take : (x : Step) (xs : List Step) → is_join x.act ≡ false → numbers_of (x ∷ xs) ≡ x.number ∷ numbers_of xs
numbers_take x xs e = ap (λ (b : Bool). if b then numbers_of xs else x.number ∷ numbers_of xs) e

-- the first statement's point: its number is the first, and the others follow
pub first_taken : (x : Step) (xs : List Step) (n k : ℕ) → numbers_of (x ∷ xs) ≡ numbers_from n k → is_join x.act ≡ false →
    (m : ℕ) × (x.number ≡ n) × (numbers_of xs ≡ numbers_from (n + 1) m) × (k ≡ suc m)
first_taken x xs n zero h e = absurd (let f : x.number ∷ numbers_of xs ≡ [] = sym (numbers_take x xs e) ∙ h in cc)
first_taken x xs n (suc k) h e = let r = cons_head x.number n (numbers_of xs) (numbers_from (n + 1) k) (sym (numbers_take x xs e) ∙ h) in (k, r.0, r.1, refl)

not_less : (xs : List Step) (n k q : ℕ) (y : Step) → numbers_of xs ≡ numbers_from n k → slice_get xs q ≡ Some y → is_join y.act ≡ false → n ≤ y.number
not_less [] n k q y h at e = absurd (let f : None ≡ Some y = at in cc)
not_less (x ∷ xs) n k zero y h at e =
    let f : x ≡ y = cc in
    let g : is_join x.act ≡ false = ap (λ (z : Step). is_join z.act) f ∙ e in
    let r = first_taken x xs n k h g in
    let l : y.number ≡ n = ap (λ (z : Step). z.number) (sym f) ∙ r.1 in omega arith
not_less (x ∷ xs) n k (suc q) y h at e = by (either (is_join x.act)) (not_less xs n k q y) (λ m. not_less xs (n + 1) m q y)
  where
    by : (is_join x.act ≡ true) ⊎ (is_join x.act ≡ false)
        → (numbers_of xs ≡ numbers_from n k → slice_get xs q ≡ Some y → is_join y.act ≡ false → n ≤ y.number)
        → ((m : ℕ) → numbers_of xs ≡ numbers_from (n + 1) m → slice_get xs q ≡ Some y → is_join y.act ≡ false → n + 1 ≤ y.number) → n ≤ y.number
    by (inl j) skip past = skip (sym (numbers_skip x xs j) ∙ h) at e
    by (inr j) skip past = let r = first_taken x xs n k h j in let l = past r.0 r.2 at e in omega arith

same_place : (xs : List Step) (n k p q : ℕ) (x y : Step) → numbers_of xs ≡ numbers_from n k → slice_get xs p ≡ Some x → slice_get xs q ≡ Some y →
    is_join x.act ≡ false → is_join y.act ≡ false → x.number ≡ y.number → p ≡ q
same_place [] n k p q x y h a b i j e = absurd (let f : None ≡ Some x = a in cc)
same_place (z ∷ xs) n k zero zero x y h a b i j e = refl
same_place (z ∷ xs) n k zero (suc q) x y h a b i j e =
    let f : z ≡ x = cc in
    let r = first_taken z xs n k h (ap (λ (w : Step). is_join w.act) f ∙ i) in
    let l = not_less xs (n + 1) r.0 q y r.2 b j in
    let m : x.number ≡ n = ap (λ (w : Step). w.number) (sym f) ∙ r.1 in absurd (omega arith)
same_place (z ∷ xs) n k (suc p) zero x y h a b i j e =
    let f : z ≡ y = cc in
    let r = first_taken z xs n k h (ap (λ (w : Step). is_join w.act) f ∙ j) in
    let l = not_less xs (n + 1) r.0 p x r.2 a i in
    let m : y.number ≡ n = ap (λ (w : Step). w.number) (sym f) ∙ r.1 in absurd (omega arith)
same_place (z ∷ xs) n k (suc p) (suc q) x y h a b i j e =
    ap suc (by (either (is_join z.act)) (same_place xs n k p q x y) (λ m. same_place xs (n + 1) m p q x y))
  where
    by : (is_join z.act ≡ true) ⊎ (is_join z.act ≡ false)
        → (numbers_of xs ≡ numbers_from n k → slice_get xs p ≡ Some x → slice_get xs q ≡ Some y → is_join x.act ≡ false → is_join y.act ≡ false →
        x.number ≡ y.number → p ≡ q)
        → ((m : ℕ) → numbers_of xs ≡ numbers_from (n + 1) m → slice_get xs p ≡ Some x → slice_get xs q ≡ Some y → is_join x.act ≡ false →
        is_join y.act ≡ false → x.number ≡ y.number → p ≡ q) → p ≡ q
    by (inl service) skip past = skip (sym (numbers_skip z xs service) ∙ h) a b i j e
    by (inr service) skip past = let r = first_taken z xs n k h service in past r.0 r.2 a b i j e

-- a show is no place where the branches of an `if` meet
pub no_join : (a : Act) → is_show a ≡ true → is_join a ≡ false
no_join (sets w e) h = refl
no_join (tests e) h = refl
no_join (goes_over w e) h = refl
no_join (shows e rs) h = refl
no_join (exits e) h = refl
no_join joins h = cc

pub all_have_numbers : AllHaveNumbers
all_have_numbers service p q x y a b i j e =
    same_place (session_steps service service.sessions 1 0 (points service.sessions)) 1 (sizes service.sessions) p q x y
    (sessions_in_order service service.sessions 1 0 (points service.sessions)) a b i j e

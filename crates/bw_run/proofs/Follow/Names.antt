-- The names of locals: those in scope, in order of declaration.
use Rattle.std.proofs.Common.{◌≡◌, ℕ, Bool, true, false, cond, List, [], ◌∷◌, ◌++◌, length, take, Option, Some, None, refl, sym, ap}
use Rattle.std.proofs.Common.{◌∙◌, subst, append_assoc}
use Rattle.std.specs.Prelude.{if◌then◌else◌, find, not, is_some, ◌||◌}
use Rattle.std.specs.List.{list_any}
use Rattle.std.specs.Option.{option_map, option_or}
use Rattle.std.proofs.lemmas.List.{map-append, length-map}
use Rattle.std.proofs.lemmas.Cmp.{nat_list_eq_equiv}
use Rattle.bw_lang.specs.declared.service.Service.{Service}
use Rattle.bw_lang.specs.declared.stmt.Kind.{Kind}
use Rattle.bw_lang.specs.declared.stmt.Receive.{Receive}
use Rattle.bw_lang.specs.Service.Code.{Code, done, declare, assign, if_then, if_else, while_loop, block, for_each, show, exit}
use Rattle.bw_lang.specs.Table.Names.{same}
use Rattle.bw_flow.specs.declared.point.Local.{Local}
use Rattle.bw_flow.specs.Scopes.{kind_in, with_local}
use Rattle.bw_types.specs.Scopes.{shared_kind}
use Rattle.bw_lang.specs.Service.Submissions.{values_of}
use Rattle.bw_meaning.specs.Forms.{received_value}
use Rattle.bw_meaning.specs.States.{Form, Input, State, budget}
use Rattle.bw_meaning.specs.Statements.{declared, add_local, store, variable, received, taken}
use Rattle.bw_meaning.specs.Values.{Value, Values, replaced, without}
use Rattle.bw_meaning.specs.Values.{names_of}
use Rattle.bw_flow.specs.Scoped.{is_known}
use Rattle.bw_run.specs.Follow.Scoped.{names_in}
use Rattle.bw_flow.specs.Scoped.{IsScoped}
use Rattle.bw_meaning.specs.States.{Input}

-- ---- what storing leaves

names_if : (b : Bool) (w : List ℕ) (v u : Value) (ps qs : Values) → names_of qs ≡ names_of ps →
    names_of (if b then (w, v) ∷ ps else (w, u) ∷ qs) ≡ w ∷ names_of ps
names_if true w v u ps qs e = refl
names_if false w v u ps qs e = ap (λ l. w ∷ l) e

names_replaced : (w : List ℕ) (v : Value) (ps : Values) → names_of (replaced w v ps) ≡ names_of ps
names_replaced w v [] = refl
names_replaced w v (p ∷ ps) = names_if (same w p.0) p.0 v p.1 ps (replaced w v ps) (names_replaced w v ps)

pub names_received : (rs : List Receive) (form : Form) (st : State) → names_of (received rs form st).locals ≡ names_of st.locals
names_received [] form st = refl
names_received (r ∷ rs) form st =
    let v = received_value (variable r.target st) (values_of r.field form) in
    names_received rs form (store r.target v st) ∙ names_replaced r.target v st.locals

pub names_store : (w : List ℕ) (v : Value) (st : State) → names_of (store w v st).locals ≡ names_of st.locals
names_store w v st = names_replaced w v st.locals

pub names_taken : (rs : List Receive) (l : Values) (i : Input) (later : List Input) → names_of (taken rs l i later).locals ≡ names_of l
names_taken rs l i later = names_received rs i.form (record { locals = l; shared = i.shared; units = budget; inputs = later })

pub names_add : (w : List ℕ) (v : Value) (st : State) (ns : List (List ℕ)) → names_of st.locals ≡ ns → names_of (add_local w v st).locals ≡ ns ++ w ∷ []
names_add w v st ns e = map-append (λ x. x.0) st.locals ((w, v) ∷ []) ∙ ap (λ l. l ++ w ∷ []) e

pub names_with : (sc : List Local) (w : List ℕ) (k : Kind) → names_in (with_local sc w k) ≡ names_in sc ++ w ∷ []
names_with sc w k = map-append (λ l. l.name) sc (record { name = w; kind = k } ∷ [])

pub length_names : (sc : List Local) → length (names_in sc) ≡ length sc
length_names sc = length-map sc (λ l. l.name)

-- ---- the first locals

pub names_take : (ns ys : List (List ℕ)) (l : Values) → names_of l ≡ ns ++ ys → names_of (take (length ns) l) ≡ ns
names_take [] ys l e = refl
names_take (n ∷ ns) ys [] e = cc
names_take (n ∷ ns) ys (p ∷ l) e = let h : p.0 ≡ n = cc in let t : names_of l ≡ ns ++ ys = cc in let r = names_take ns ys l t in cc

pub take_all : (ns : List (List ℕ)) (l : Values) → names_of l ≡ ns → take (length ns) l ≡ l
take_all [] [] e = refl
take_all [] (p ∷ l) e = cc
take_all (n ∷ ns) [] e = cc
take_all (n ∷ ns) (p ∷ l) e = let t : names_of l ≡ ns = cc in ap (λ r. p ∷ r) (take_all ns l t)

pub take_take : (ns ys : List (List ℕ)) (l : Values) → take (length ns) (take (length (ns ++ ys)) l) ≡ take (length ns) l
take_take [] ys l = refl
take_take (n ∷ ns) ys [] = refl
take_take (n ∷ ns) ys (p ∷ l) = ap (λ r. p ∷ r) (take_take ns ys l)

-- ---- what a block declares is apart from what is in scope in front of it

abbrev pub Apart : List (List ℕ) → List (List ℕ) → Type 0
Apart [] xs = Unit {0}
Apart (n ∷ ns) xs = (list_any (same n) xs ≡ false) × Apart ns xs

any_here : (b c : Bool) → b ≡ true → (b || c) ≡ true
any_here true c e = refl
any_here false c e = cc

any_there : (b c : Bool) → c ≡ true → (b || c) ≡ true
any_there true c e = refl
any_there false c e = e

any_behind : (ws : List (List ℕ)) (z : List ℕ) (zs : List (List ℕ)) → list_any (same z) (ws ++ z ∷ zs) ≡ true
any_behind [] z zs = any_here (same z z) (list_any (same z) zs) (nat_list_eq_equiv.refl z)
any_behind (w ∷ ws) z zs = any_there (same z w) (list_any (same z) (ws ++ z ∷ zs)) (any_behind ws z zs)

drop_one : (b : Bool) (p : List ℕ × Value) (l : Values) → b ≡ true → cond (not b) (p ∷ l) l ≡ l
drop_one true p l e = refl
drop_one false p l e = cc

keep_one : (b : Bool) (p : List ℕ × Value) (l : Values) → b ≡ false → cond (not b) (p ∷ l) l ≡ p ∷ l
keep_one true p l e = cc
keep_one false p l e = refl

without_own : (ws zs : List (List ℕ)) (l : Values) → names_of l ≡ zs → without (ws ++ zs) l ≡ []
without_own ws [] [] e = refl
without_own ws [] (p ∷ l) e = cc
without_own ws (z ∷ zs) [] e = refl
without_own ws (z ∷ zs) (p ∷ l) e =
    let h : z ≡ p.0 = cc in
    let t : names_of l ≡ zs = cc in
    let i = subst (λ x. list_any (same x) (ws ++ z ∷ zs) ≡ true) h (any_behind ws z zs) in
    drop_one (list_any (same p.0) (ws ++ z ∷ zs)) p (without (ws ++ z ∷ zs) l) i
    ∙ ap (λ xs. without xs l) (sym (append_assoc ws (z ∷ []) zs)) ∙ without_own (ws ++ z ∷ []) zs l t

pub without_declared : (ns xs : List (List ℕ)) (l : Values) → names_of l ≡ ns ++ xs → Apart ns xs → without xs l ≡ take (length ns) l
without_declared [] xs l e a = without_own [] xs l e
without_declared (n ∷ ns) xs [] e a = refl
without_declared (n ∷ ns) xs (p ∷ l) e a =
    let h : n ≡ p.0 = cc in
    let t : names_of l ≡ ns ++ xs = cc in
    let i = subst (λ x. list_any (same x) xs ≡ false) h a.0 in
    keep_one (list_any (same p.0) xs) p (without xs l) i ∙ ap (λ r. p ∷ r) (without_declared ns xs l t a.1)

-- ---- from `IsScoped`

same_not : (a b : List ℕ) (s : Bool) → same b a ≡ s → same a b ≡ false → s ≡ false
same_not a b false e f = refl
same_not a b true e f = let g = nat_list_eq_equiv.symm b a in cc

is_some_or : {A : Type 0} (a b : Option A) → is_some (option_or a b) ≡ false → is_some a ≡ false
is_some_or None b e = refl
is_some_or (Some x) b e = cc

not_found : (b : Bool) (l : Local) (r : Option Local) → is_some (option_map (λ (l : Local). l.kind) (cond b (Some l) r)) ≡ false →
    (b ≡ false) × (is_some (option_map (λ (l : Local). l.kind) r) ≡ false)
not_found true l r e = cc
not_found false l r e = (refl, e)

or_false : (a b : Bool) → a ≡ false → b ≡ false → (a || b) ≡ false
or_false true b e f = cc
or_false false b e f = f

apart_none : (ns : List (List ℕ)) → Apart ns []
apart_none [] = tt
apart_none (n ∷ ns) = (refl, apart_none ns)

apart_one : (sc : List Local) (w : List ℕ) (xs : List (List ℕ)) → is_some (kind_in sc w) ≡ false → Apart (names_in sc) xs → Apart (names_in sc) (w ∷ xs)
apart_one [] w xs e a = tt
apart_one (l ∷ sc) w xs e a =
    let h = not_found (same w l.name) l (find (λ x. same w x.name) sc) e in
    (or_false (same l.name w) (list_any (same l.name) xs) (same_not w l.name (same l.name w) refl h.0) a.0, apart_one sc w xs h.1 a.1)

apart_front : (ns ms xs : List (List ℕ)) → Apart (ns ++ ms) xs → Apart ns xs
apart_front [] ms xs a = tt
apart_front (n ∷ ns) ms xs a = (a.0, apart_front ns ms xs a.1)

pub unknown_apart : (service : Service) (sc : List Local) (w : List ℕ) (xs : List (List ℕ)) → is_known service sc w ≡ false →
    Apart (names_in sc) xs → Apart (names_in sc) (w ∷ xs)
unknown_apart service sc w xs e a = apart_one sc w xs (is_some_or (kind_in sc w) (shared_kind service w) e) a

pub apart_with : (sc : List Local) (w : List ℕ) (k : Kind) (xs : List (List ℕ)) → Apart (names_in (with_local sc w k)) xs → Apart (names_in sc) xs
apart_with sc w k xs a = apart_front (names_in sc) (w ∷ []) xs (subst (λ ns. Apart ns xs) (names_with sc w k) a)

pub scoped_apart : (service : Service) (c : Code) (sc : List Local) → IsScoped service c sc → Apart (names_in sc) (declared c)
scoped_apart service done sc s = apart_none (names_in sc)
scoped_apart service (declare k w e rest) sc s = unknown_apart service sc w (declared rest) s.0
    (apart_with sc w k (declared rest) (scoped_apart service rest (with_local sc w k) s.1))
scoped_apart service (assign w e rest) sc s = scoped_apart service rest sc s.1
scoped_apart service (if_then t y rest) sc s = scoped_apart service rest sc s.1
scoped_apart service (if_else t y z rest) sc s = scoped_apart service rest sc s.2
scoped_apart service (while_loop t b rest) sc s = scoped_apart service rest sc s.1
scoped_apart service (block b rest) sc s = scoped_apart service rest sc s.1
scoped_apart service (for_each w e b rest) sc s = scoped_apart service rest sc s.2
scoped_apart service (show p rs rest) sc s = scoped_apart service rest sc s
scoped_apart service (exit p rest) sc s = scoped_apart service rest sc s

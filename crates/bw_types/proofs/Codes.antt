-- The statements of a block, one after the other.
use Rattle.std.proofs.Common.{◌≡◌, ℕ, zero, suc, ◌+◌, ◌-◌, ◌<◌, false, List, [], ◌∷◌, ◌++◌, length, get_or, drop, refl, ap, sym, ◌∙◌, arith, append_assoc}
use Rattle.std.proofs.Common.{append-nil, Some, None}
use Rattle.std.proofs.lemmas.List.{length-append}
use Rattle.std.proofs.Math.Seq.{drop-append_seam}
use Rattle.bw_lang.specs.declared.service.Service.{Service}
use Rattle.bw_lang.specs.declared.stmt.Kind.{Kind}
use Rattle.bw_lang.specs.declared.stmt.Kind.TheVariants as kinds
use Rattle.bw_lang.specs.declared.stmt.Stmt.{Stmt}
use Rattle.bw_lang.specs.declared.stmt.Stmt.TheVariants.{Declare, Assign, If, While, Block, Each, Show, Exit}
use Rattle.bw_lang.specs.Service.Code.{Code, done, declare, assign, if_then, if_else, while_loop, block, for_each, show, exit}
use Rattle.bw_lang.specs.Service.CodeNames.{local_names}
use Rattle.bw_lang.specs.Service.CodeView.{before, code}
use Rattle.bw_lang.specs.Service.Term.{Term}
use Rattle.bw_lang.specs.Service.TermView.{term}
use Rattle.std.specs.Prelude.{slice_get}
use Rattle.bw_types.specs.declared.fault.TypeFault.{TypeFault}
use Rattle.bw_types.specs.Faults.{code_faults, ends_in_exit}
use Rattle.bw_types.specs.Places.{after, outside}
use Rattle.bw_types.specs.Scopes.{Scope, with_local, scope_behind, behind_each}
use Rattle.bw_types.proofs.First.{drop_more}

-- ---- one statement more

faults_before : (s : Service) (k : Scope) (x : Stmt) (c : Code) → code_faults s k (before x c) ≡ code_faults s k (before x done)
    ++ code_faults s (after k (before x done)) c
faults_before s k (Declare t w e) c = simp append-nil
faults_before s k (Assign w e) c = simp (append_assoc, append-nil)
faults_before s k (If t y None) c = simp (append_assoc, append-nil)
faults_before s k (If t y (Some n)) c = simp (append_assoc, append-nil)
faults_before s k (While t y) c = simp (append_assoc, append-nil)
faults_before s k (Block y) c = simp append-nil
faults_before s k (Each w e y) c = simp (append_assoc, append-nil)
faults_before s k (Show p rs) c = simp (append_assoc, append-nil)
faults_before s k (Exit p) c = simp (append_assoc, append-nil)

after_before : (k : Scope) (x : Stmt) (c : Code) → after k (before x c) ≡ after (after k (before x done)) c
after_before k (Declare t w e) c = refl
after_before k (Assign w e) c = refl
after_before k (If t y None) c = refl
after_before k (If t y (Some n)) c = refl
after_before k (While t y) c = refl
after_before k (Block y) c = refl
after_before k (Each w e y) c = refl
after_before k (Show p rs) c = refl
after_before k (Exit p) c = refl

-- the faults from a statement on, where there is none in front
pub faults_here : (s : Service) (k : Scope) (xs : List Stmt) (i : ℕ) (x : Stmt) (whole : List TypeFault) → whole ≡ code_faults s k (code (drop i xs))
    → x ≡ get_or xs i x → i < length xs
    → whole ≡ code_faults s k (before x done) ++ code_faults s (after k (before x done)) (code (drop (i + 1) xs))
faults_here s k xs i x whole w e h = w ∙ ap (λ l. code_faults s k (code l)) (drop_more xs i x e h) ∙ faults_before s k x (code (drop (i + 1) xs))

-- the scope behind all statements, from behind one statement on
pub after_here : (k : Scope) (xs : List Stmt) (i : ℕ) (x : Stmt) → x ≡ get_or xs i x → i < length xs
    → after k (code (drop i xs)) ≡ after (after k (before x done)) (code (drop (i + 1) xs))
after_here k xs i x e h = ap (λ l. after k (code l)) (drop_more xs i x e h) ∙ after_before k x (code (drop (i + 1) xs))

-- ---- the end of a block

-- the locals that statements declare in their block, the newest first
abbrev added : Code → List (List ℕ × Kind)
added done = []
added (declare t w e a) = added a ++ (w, t) ∷ []
added (assign w e a) = added a
added (if_then t y a) = added a
added (if_else t y n a) = added a
added (while_loop t y a) = added a
added (block y a) = added a
added (for_each w e y a) = added a
added (show p rs a) = added a
added (exit p a) = added a

locals_after : (k : Scope) (a : Code) → (after k a).locals ≡ added a ++ k.locals
locals_after k done = refl
locals_after k (declare t w e a) = locals_after (with_local k w t) a ∙ sym (append_assoc (added a) ((w, t) ∷ []) k.locals)
locals_after k (assign w e a) = locals_after k a
locals_after k (if_then t y a) = locals_after (scope_behind k y) a
locals_after k (if_else t y n a) = locals_after (scope_behind (scope_behind k y) n) a
locals_after k (while_loop t y a) = locals_after (scope_behind k y) a
locals_after k (block y a) = locals_after (scope_behind k y) a
locals_after k (for_each w e y a) = locals_after (behind_each k w y) a
locals_after k (show p rs a) = locals_after k a
locals_after k (exit p a) = locals_after k a

taken_after : (k : Scope) (a : Code) → (after k a).taken ≡ k.taken ++ local_names a
taken_after k done = sym (append-nil k.taken)
taken_after k (declare t w e a) = taken_after (with_local k w t) a ∙ append_assoc k.taken (w ∷ []) (local_names a)
taken_after k (assign w e a) = taken_after k a
taken_after k (if_then t y a) = taken_after (scope_behind k y) a ∙ append_assoc k.taken (local_names y) (local_names a)
taken_after k (if_else t y n a) =
    taken_after (scope_behind (scope_behind k y) n) a ∙ append_assoc (k.taken ++ local_names y) (local_names n) (local_names a)
    ∙ append_assoc k.taken (local_names y) (local_names n ++ local_names a)
taken_after k (while_loop t y a) = taken_after (scope_behind k y) a ∙ append_assoc k.taken (local_names y) (local_names a)
taken_after k (block y a) = taken_after (scope_behind k y) a ∙ append_assoc k.taken (local_names y) (local_names a)
taken_after k (for_each w e y a) = taken_after (behind_each k w y) a ∙ append_assoc k.taken (w ∷ local_names y) (local_names a)
taken_after k (show p rs a) = taken_after k a
taken_after k (exit p a) = taken_after k a

-- leaving a block
pub outside-after : (k : Scope) (a : Code) → outside (length k.locals) (after k a) ≡ scope_behind k a
outside-after k a =
    let m = after k a in
    let n : length m.locals - length k.locals ≡ length (added a) = omega (arith, ap length (locals_after k a), length-append (added a) k.locals) in
    let l : drop (length m.locals - length k.locals) m.locals ≡ k.locals = ap (λ i. drop i m.locals) n ∙ ap (drop (length (added a))) (locals_after k a)
    ∙ drop-append_seam (added a) k.locals in
    ap (λ x. record { locals = x; taken = m.taken }) l ∙ ap (λ x. record { locals = k.locals; taken = x }) (taken_after k a)

-- leaving a foreach: its local goes too
pub outside-each : (k : Scope) (w : List ℕ) (y : Code) → outside (length k.locals) (scope_behind (with_local k w kinds.Str) y) ≡ behind_each k w y
outside-each k w y =
    let n : length ((w, kinds.Str) ∷ k.locals) - length k.locals ≡ 1 = omega arith in
    ap (λ i. record { locals = drop i ((w, kinds.Str) ∷ k.locals); taken = (k.taken ++ w ∷ []) ++ local_names y }) n
    ∙ ap (λ l. record { locals = k.locals; taken = l }) (append_assoc k.taken (w ∷ []) (local_names y))

-- ---- the last statement

exit_skips : (p : Term) (z : Stmt) (r : Code) → ends_in_exit (exit p (before z r)) ≡ ends_in_exit (before z r)
exit_skips p (Declare t w e) r = refl
exit_skips p (Assign w e) r = refl
exit_skips p (If t y None) r = refl
exit_skips p (If t y (Some n)) r = refl
exit_skips p (While t y) r = refl
exit_skips p (Block y) r = refl
exit_skips p (Each w e y) r = refl
exit_skips p (Show q rs) r = refl
exit_skips p (Exit q) r = refl

skips : (y z : Stmt) (r : Code) → ends_in_exit (before y (before z r)) ≡ ends_in_exit (before z r)
skips (Declare t w e) z r = refl
skips (Assign w e) z r = refl
skips (If t y None) z r = refl
skips (If t y (Some n)) z r = refl
skips (While t y) z r = refl
skips (Block y) z r = refl
skips (Each w e y) z r = refl
skips (Show q rs) z r = refl
skips (Exit q) z r = exit_skips (term q) z r

-- a block ends in `exit` where its last statement is one
pub last_decides : (xs : List Stmt) (x : Stmt) → slice_get xs (length xs - 1) ≡ Some x → ends_in_exit (code xs) ≡ ends_in_exit (before x done)
last_decides [] x h = absurd (cc)
last_decides (y ∷ []) x h = let e : y ≡ x = cc in ap (λ s. ends_in_exit (before s done)) e
last_decides (y ∷ z ∷ zs) x h =
    let e : suc (length (z ∷ zs) - 1) ≡ length (y ∷ z ∷ zs) - 1 = omega arith in skips y z (code zs)
    ∙ last_decides (z ∷ zs) x (ap (slice_get (y ∷ z ∷ zs)) e ∙ h)

pub none_ends : (xs : List Stmt) → slice_get xs (length xs - 1) ≡ None → ends_in_exit (code xs) ≡ false
none_ends [] h = refl
none_ends (y ∷ xs) h = absurd (past (y ∷ xs) (length (y ∷ xs) - 1) h (omega arith))
  where
    past : (xs : List Stmt) (i : ℕ) → slice_get xs i ≡ None → i < length xs → ⊥
    past [] i h l = omega arith
    past (x ∷ xs) zero h l = cc
    past (x ∷ xs) (suc i) h l = past xs i h (omega arith)

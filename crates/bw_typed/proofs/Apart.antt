-- The locals in scope have names of their own.
use Rattle.std.proofs.Common.{◌≡◌, ◌≢◌, ℕ, suc, ◌+◌, List, [], ◌∷◌, ◌++◌, get_or, length, refl, ap, sym, subst, ◌∙◌, append_assoc, append-nil, arith}
use Rattle.std.specs.List.{All, Contains}
use Rattle.std.proofs.lemmas.List.{get_or_append_left, length-append}
use Rattle.std.proofs.lemmas.List.Elements.{All-cons, All-nil, All-head, All-tail, All-weaker, Contains-append_left, Contains-append_right}
use Rattle.std.proofs.lemmas.List.Kept.{AllPairs-cons}
use Rattle.bw_lang.specs.declared.service.Service.{Service}
use Rattle.bw_lang.specs.declared.service.Session.{Session}
use Rattle.bw_lang.specs.declared.stmt.Kind.{Kind}
use Rattle.bw_lang.specs.declared.stmt.Kind.TheVariants.{Str}
use Rattle.bw_lang.specs.Service.Code.{Code, done, declare, assign, if_then, if_else, while_loop, block, for_each, show, exit}
use Rattle.bw_lang.specs.Service.CodeNames.{local_names}
use Rattle.bw_types.specs.Scopes.{Scope, no_locals, declared_names, with_local, scope_behind, behind_each}
use Rattle.bw_types.proofs.Differing.{Differ, none_differ}
use Rattle.bw_lang.proofs.Small.{readable_is_woven}
use Rattle.bw_types.proofs.OwnLocals.{locals_own}
use Rattle.bw_types.proofs.Parts.{all_behind, all_so}
use Rattle.bw_types.proofs.Services.{Walked}
use Rattle.bw_types.proofs.Sorted.{sessions_none}
use Rattle.bw_typed.specs.Apart.{names_in, IsApart, AreApart, LocalsAreApart}

-- names that differ: what is in front isn't behind
front_apart : (a b : List (List ℕ)) (w : List ℕ) → Differ (a ++ b) → Contains a w → ¬ (Contains b w)
front_apart a b w d c e =
    d c.0 (length a + e.0) w (omega (arith, c.1)) (omega (arith, e.1, length-append a b))
    (get_or_append_left a b w c.0 c.1 ∙ c.2 ∙ sym (behind_at a b e.0 w ∙ e.2))
  where
    behind_at : (a b : List (List ℕ)) (j : ℕ) (w : List ℕ) → get_or (a ++ b) (length a + j) w ≡ get_or b j w
    behind_at [] b j w = ap (λ n. get_or b n w) (omega arith)
    behind_at (x ∷ a) b j w = ap (λ n. get_or (x ∷ (a ++ b)) n w) (step (length a) j) ∙ behind_at a b j w
      where
        step : (n j : ℕ) → suc n + j ≡ suc (n + j)
        step n j = omega arith

module _ (s : Service) where
  abbrev Undeclared : List ℕ → Type 0
  Undeclared w = ¬ (Contains (declared_names s) w)

  -- the locals in scope are among those that are taken, and these and the names to come differ
  record Holds (k : Scope) (names : List (List ℕ)) : Type 0 where
    pub differ : Differ (names_in k)
    pub among : All (λ w. Contains k.taken w) (names_in k)
    pub fresh : All Undeclared (names_in k)
    pub all : Differ (k.taken ++ names)
    pub new : All Undeclared names

  apart_now : (k : Scope) (c : Code) (more : List (List ℕ)) → Holds k (local_names c ++ more) → IsApart s k c more
  apart_now k c more h = record {
    differ = h.differ;
    undeclared = h.fresh;
    later =
        All-weaker (λ w. Contains k.taken w) (λ w. ¬ (Contains (local_names c ++ more) w)) (λ w i. front_apart k.taken (local_names c ++ more) w h.all i)
        (names_in k) h.among;
  }

  -- the same names, put together otherwise
  same_names : (k : Scope) (a b : List (List ℕ)) → a ≡ b → Holds k a → Holds k b
  same_names k a b e h = subst (Holds k) e h

  -- a local more
  one_local : (k : Scope) (w : List ℕ) (kind : Kind) (names : List (List ℕ)) → Holds k (w ∷ names) → Holds (with_local k w kind) names
  one_local k w kind names h = record {
    differ = AllPairs-cons (λ v w. v ≢ w) w (names_in k) (All-weaker (λ v. Contains k.taken v) (λ v. w ≢ v) (λ v i. other v i) (names_in k) h.among) h.differ;
    among =
        All-cons (λ v. Contains (k.taken ++ w ∷ []) v) w (names_in k) (Contains-append_right k.taken (w ∷ []) w (0, omega arith, refl))
        (All-weaker (λ v. Contains k.taken v) (λ v. Contains (k.taken ++ w ∷ []) v) (λ v i. Contains-append_left k.taken (w ∷ []) v i) (names_in k) h.among);
    fresh = All-cons Undeclared w (names_in k) (All-head Undeclared w names h.new) h.fresh;
    all = subst Differ (sym (append_assoc k.taken (w ∷ []) names)) h.all;
    new = All-tail Undeclared w names h.new;
  }
    where
      other : (v : List ℕ) → Contains k.taken v → w ≢ v
      other v i e = front_apart k.taken (w ∷ names) v h.all i (0, omega arith, e)

  -- names that went out of scope, with those of a block or of a foreach
  gone : (k : Scope) (own names : List (List ℕ)) → Holds k (own ++ names) → Holds (record { locals = k.locals; taken = k.taken ++ own }) names
  gone k own names h = record {
    differ = h.differ;
    among = All-weaker (λ v. Contains k.taken v) (λ v. Contains (k.taken ++ own) v) (λ v i. Contains-append_left k.taken own v i) (names_in k) h.among;
    fresh = h.fresh;
    all = subst Differ (sym (append_assoc k.taken own names)) h.all;
    new = all_behind Undeclared own names h.new;
  }

  apart : (k : Scope) (c : Code) (more : List (List ℕ)) → Holds k (local_names c ++ more) → AreApart s k c more
  apart k done more h = apart_now k done more h
  apart k (declare t w e c) more h = (apart_now k (declare t w e c) more h, apart (with_local k w t) c more (one_local k w t (local_names c ++ more) h))
  apart k (assign w e c) more h = (apart_now k (assign w e c) more h, apart k c more h)
  apart k (if_then e y c) more h =
      let g = same_names k _ (local_names y ++ (local_names c ++ more)) (append_assoc (local_names y) (local_names c) more) h in (
        apart_now k (if_then e y c) more h,
        apart k y (local_names c ++ more) g,
        apart (scope_behind k y) c more (gone k (local_names y) (local_names c ++ more) g),
      )
  apart k (if_else e y n c) more h =
      let g =
      same_names k _ (local_names y ++ (local_names n ++ (local_names c ++ more)))
      (append_assoc (local_names y) (local_names n ++ local_names c) more
      ∙ ap (λ l. local_names y ++ l) (append_assoc (local_names n) (local_names c) more)) h in
      let m = gone k (local_names y) (local_names n ++ (local_names c ++ more)) g in (
        apart_now k (if_else e y n c) more h,
        apart k y (local_names n ++ (local_names c ++ more)) g,
        apart (scope_behind k y) n (local_names c ++ more) m,
        apart (scope_behind (scope_behind k y) n) c more (gone (scope_behind k y) (local_names n) (local_names c ++ more) m),
      )
  apart k (while_loop e y c) more h =
      let g = same_names k _ (local_names y ++ (local_names c ++ more)) (append_assoc (local_names y) (local_names c) more) h in (
        apart_now k (while_loop e y c) more h,
        apart k y (local_names c ++ more) g,
        apart (scope_behind k y) c more (gone k (local_names y) (local_names c ++ more) g),
      )
  apart k (block y c) more h =
      let g = same_names k _ (local_names y ++ (local_names c ++ more)) (append_assoc (local_names y) (local_names c) more) h in
      (apart_now k (block y c) more h, apart k y (local_names c ++ more) g, apart (scope_behind k y) c more (gone k (local_names y) (local_names c ++ more) g))
  apart k (for_each w e y c) more h =
      let g = same_names k _ (w ∷ (local_names y ++ (local_names c ++ more))) (ap (λ l. w ∷ l) (append_assoc (local_names y) (local_names c) more)) h in (
        apart_now k (for_each w e y c) more h,
        apart (with_local k w Str) y (local_names c ++ more) (one_local k w Str (local_names y ++ (local_names c ++ more)) g),
        apart (behind_each k w y) c more (gone k (w ∷ local_names y) (local_names c ++ more) g),
      )
  apart k (show p rs c) more h = (apart_now k (show p rs c) more h, apart k c more h)
  apart k (exit p c) more h = (apart_now k (exit p c) more h, apart k c more h)

  -- where a session begins
  pub from_start : (c : Code) → Differ (local_names c) → All Undeclared (local_names c) → AreApart s no_locals c []
  from_start c d u =
      apart no_locals c []
      (same_names no_locals (local_names c) (local_names c ++ []) (sym (append-nil (local_names c)))
      (record { differ = none_differ; among = All-nil (λ w. Contains [] w); fresh = All-nil Undeclared; all = d; new = u }))

pub locals_are_apart : LocalsAreApart
locals_are_apart s r h =
    all_so (Walked s) (λ (x : Session). AreApart s no_locals x.body [])
    (λ x f. let o = locals_own s no_locals x.body f.body (record { differ = none_differ; apart = All-nil (Undeclared s) }) in
    from_start s x.body o.differ o.apart)
    s.sessions (sessions_none s (readable_is_woven s r) h)

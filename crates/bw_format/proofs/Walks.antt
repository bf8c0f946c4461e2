-- What the steps of a pattern come to: its marks are moved on by one character.
use Rattle.std.proofs.Math.Seq.{take-append_seam}
use Rattle.std.proofs.Common.{subst, ◌≡◌, ◌≢◌, ◌<◌, ◌≤◌, ℕ, zero, suc, ◌+◌, Bool, true, false, ◌&&◌, ◌||◌, List, [], ◌∷◌, ◌++◌, length, take, drop, set, get_or, replicate, cond, refl, ap, sym, ◌∙◌, arith, length-append, append_assoc}
use Rattle.std.proofs.lemmas.List.{get_or-set_same, get_or-set_other, length-set, take-append-drop, length-take-le, length-drop, take-replicate, length-replicate}
use Rattle.bw_format.specs.declared.light.Light.{Light}
use Rattle.bw_format.specs.declared.light.Light.TheVariants.{Green, Yellow, Red}
use Rattle.bw_format.specs.declared.steps.At.{At}
use Rattle.bw_format.specs.declared.walking.Ends.{Ends}
use Rattle.bw_format.specs.declared.walking.Walk.{Walk}
use Rattle.bw_format.specs.Classes.{holds}
use Rattle.bw_format.specs.Pattern.{Pattern, nothing, one, sequence, either, star, plus, optional, group, places, repeats}
use Rattle.bw_format.specs.Marks.{marked, ends, skips, ended, shifted, light_from}
use Rattle.bw_format.specs.Steps.{Op, keep, turn, join, begin, after_star, after_plus, at_start, past, inside, again, code, Fits, no_ends, or_ends, walk, stepped, run, read}
use Rattle.bw_format.proofs.Again.{ends_again}
use Rattle.bw_format.proofs.Ended.{or_none, ends_entered, ends_first, ended_first, length-ended, front_is, back_is, both_ended}
use Rattle.bw_format.proofs.Left.{length-shifted}

run_append : (c : ℕ) (a b : List Op) (w : Walk) → run c (a ++ b) w ≡ run c b (run c a w)
run_append c [] b w = refl
run_append c (o ∷ os) b w = run_append c os b (stepped c o w)

-- ---- lists

at_seam : (front back others : List Bool) (x : Bool) (i : ℕ) → length front ≡ i → get_or (front ++ x ∷ back ++ others) i false ≡ x
at_seam [] back others x zero h = refl
at_seam [] back others x (suc i) h = absurd (omega (arith, h))
at_seam (y ∷ ys) back others x zero h = absurd (omega (arith, h))
at_seam (y ∷ ys) back others x (suc i) h = at_seam ys back others x i (omega (arith, h))

set_seam : (front back others : List Bool) (x z : Bool) (i : ℕ) → length front ≡ i
    → set (front ++ x ∷ back ++ others) i z ≡ front ++ z ∷ back ++ others
set_seam [] back others x z zero h = refl
set_seam [] back others x z (suc i) h = absurd (omega (arith, h))
set_seam (y ∷ ys) back others x z zero h = absurd (omega (arith, h))
set_seam (y ∷ ys) back others x z (suc i) h = ap (λ l. y ∷ l) (set_seam ys back others x z i (omega (arith, h)))

apart : (a b c d : List Bool) → a ++ (b ++ c) ++ d ≡ a ++ b ++ (c ++ d)
apart a b c d = ap (λ l. l ++ d) (sym (append_assoc a b c)) ∙ append_assoc (a ++ b) c d

passed : (a b c d : List Bool) → a ++ b ++ (c ++ d) ≡ a ++ b ++ c ++ d
passed a b c d = sym (append_assoc (a ++ b) c d)

-- the parts of what is walked over: the first, the second, and what they come to
module _ (e : Ends) (kept : List Ends) (m a b n o x y q : List Bool) where
  first_part : walk e (m ++ (a ++ b) ++ n) (o ++ (x ++ y) ++ q) kept ≡ walk e (m ++ a ++ (b ++ n)) (o ++ x ++ (y ++ q)) kept
  first_part = ap (λ l. walk e l (o ++ (x ++ y) ++ q) kept) (apart m a b n) ∙ ap (λ l. walk e (m ++ a ++ (b ++ n)) l kept) (apart o x y q)

  second_part : walk e (m ++ a ++ (b ++ n)) (o ++ x ++ (y ++ q)) kept ≡ walk e (m ++ a ++ b ++ n) (o ++ x ++ y ++ q) kept
  second_part = ap (λ l. walk e l (o ++ x ++ (y ++ q)) kept) (passed m a b n) ∙ ap (λ l. walk e (m ++ a ++ b ++ n) l kept) (passed o x y q)

  both_parts : walk e (m ++ a ++ b ++ n) (o ++ x ++ y ++ q) kept ≡ walk e (m ++ (a ++ b) ++ n) (o ++ (x ++ y) ++ q) kept
  both_parts = sym (first_part ∙ second_part)

-- ---- what is kept

-- what stands below this depth
abbrev Keeps : ℕ → List Ends → List Ends → Type 0
Keeps depth old new = ((k : ℕ) → k < depth → get_or new k no_ends ≡ get_or old k no_ends) × (length new ≡ length old)

keeps_on : (depth : ℕ) (a b c : List Ends) → Keeps depth a b → Keeps depth b c → Keeps depth a c
keeps_on depth a b c h k = (λ i l. k.0 i l ∙ h.0 i l, k.1 ∙ h.1)

keeps_set : (depth : ℕ) (kept : List Ends) (e : Ends) → Keeps depth kept (set kept depth e)
keeps_set depth kept e =
    (λ k l. (let other : k ≢ depth = omega (arith, l) in get_or-set_other kept depth k e no_ends other), length-set kept depth e)

keeps_less : (depth : ℕ) (a b : List Ends) → Keeps (depth + 1) a b → Keeps depth a b
keeps_less depth a b h = (λ k l. h.0 k (omega (arith, l)), h.1)

-- what was kept at it stands there behind what is inside
found : (depth : ℕ) (kept new : List Ends) (e : Ends) → depth < length kept → Keeps (depth + 1) (set kept depth e) new → get_or new depth no_ends ≡ e
found depth kept new e l h = h.0 depth (omega arith) ∙ get_or-set_same kept depth e no_ends l

inside_of : (depth : ℕ) (kept new : List Ends) (e : Ends) → Keeps (depth + 1) (set kept depth e) new → Keeps depth kept new
inside_of depth kept new e h = keeps_on depth kept (set kept depth e) new (keeps_set depth kept e) (keeps_less depth (set kept depth e) new h)

-- ---- a pattern's steps

-- the ends behind a pattern
abbrev behind_of : Pattern → ℕ → Ends → List Bool → Ends
behind_of p c e marks = record { before = ends p e.before marks; behind = ends p e.behind (shifted p e.before c marks) }

-- the walk stands behind the pattern, whose marks and repetitions are moved on
abbrev Ran : Pattern → ℕ → ℕ → Ends → List Bool → List Bool → List Bool → List Bool → List Bool → List Ends → Walk → Type 0
Ran p c depth e m marks n o q kept w =
    (new : List Ends)
    × (w ≡ walk (behind_of p c e marks) (m ++ shifted p e.before c marks ++ n) (o ++ ended p (shifted p e.before c marks) ++ q) new)
    × Keeps depth kept new

star_ends : (p : Pattern) (a : Bool) (marks : List Bool) → a || ends p (a || ends p false marks) marks ≡ a || ends p false marks
star_ends p true marks = refl
star_ends p false marks = ends_again p false marks

pub ran : (p : Pattern) (at : At) (c most : ℕ) (e : Ends) (m marks n o q : List Bool) (kept : List Ends) → length m ≡ at.place → length marks ≡ places p
    → length o ≡ at.own → length kept ≡ most → Fits p at.depth most
    → Ran p c at.depth e m marks n o q kept (run c (code p at) (walk e (m ++ marks ++ n) (o ++ ended p marks ++ q) kept))
ran nothing at c most e m [] n o q kept hm hp ho hk fits = (kept, refl, (λ k l. refl, refl))
ran nothing at c most e m (x ∷ xs) n o q kept hm hp ho hk fits = absurd (omega (arith, hp))
ran (one class) at c most e m [] n o q kept hm hp ho hk fits = absurd (omega (arith, hp))
ran (one class) at c most e m (x ∷ (y ∷ xs)) n o q kept hm hp ho hk fits = absurd (omega (arith, hp))
ran (one class) at c most e m (x ∷ []) n o q kept hm hp ho hk fits =
    let z = e.before && holds class c in
    let repeated = o ++ [] ++ q in (
      kept,
      ap (λ b. walk (record { before = b; behind = z }) (set (m ++ x ∷ [] ++ n) at.place z) repeated kept) (at_seam m [] n x at.place hm ∙ sym (or_none x))
          ∙ ap (λ l. walk (record { before = x || false; behind = z }) l repeated kept) (set_seam m [] n x z at.place hm)
          ∙ ap (λ b. walk (record { before = x || false; behind = b }) (m ++ z ∷ [] ++ n) repeated kept) (sym (or_none z)),
      (λ k l. refl, refl),
    )
ran (sequence p q) at c most e m marks n o others kept hm hp ho hk fits =
    let front = take (places p) marks in
    let back = drop (places p) marks in
    let split : front ++ back ≡ marks = take-append-drop (places p) marks in
    let few : length front ≡ places p = length-take-le (places p) marks (omega (arith, hp)) in
    let rest : length back ≡ places q = omega (arith, length-drop (places p) marks, hp) in
    let one = shifted p e.before c front in
    let middle = behind_of p c e front in
    let other = shifted q middle.before c back in
    let F = ran p at c most e m front (back ++ n) o (ended q back ++ others) kept hm few ho hk fits.0 in
    let G = ran q (past p at) c most middle (m ++ one) back n (o ++ ended p one) others F.0
    (omega (arith, length-append m one, length-shifted p e.before c front, hm))
    rest
    (omega (arith, length-append o (ended p one), length-ended p one, ho))
    (F.2.1 ∙ hk)
    fits.1 in
    let left = code p at in
    let right = code q (past p at) in (
      G.0,
      run_append c left right (walk e (m ++ marks ++ n) (o ++ (ended p front ++ ended q back) ++ others) kept)
          ∙ ap (λ l. run c right (run c left (walk e (m ++ l ++ n) (o ++ (ended p front ++ ended q back) ++ others) kept))) (sym split)
          ∙ ap (λ w. run c right (run c left w)) (first_part e kept m front back n o (ended p front) (ended q back) others)
          ∙ ap (λ w. run c right w) (F.1 ∙ second_part middle F.0 m one back n o (ended p one) (ended q back) others)
          ∙ G.1
          ∙ both_parts (behind_of q c middle back) G.0 m one other n o (ended p one) (ended q other) others
          ∙ ap (λ l. walk (behind_of q c middle back) (m ++ (one ++ other) ++ n) (o ++ l ++ others) G.0)
          (both_ended p q front back one other e.before middle.before c c refl refl (ended p one) (ended q other) refl refl)
          ∙ ap (λ l. walk (record { before = ends q middle.before back; behind = ends q (ends p e.behind l) other }) (m ++ (one ++ other) ++ n)
          (o ++ ended (sequence p q) (one ++ other) ++ others) G.0)
          (sym (front_is p q front back one other e.before middle.before c c refl refl))
          ∙ ap (λ l. walk (record { before = ends q middle.before back; behind = ends q (ends p e.behind (take (places p) (one ++ other))) l })
          (m ++ (one ++ other) ++ n) (o ++ ended (sequence p q) (one ++ other) ++ others) G.0)
          (sym (back_is p q front back one other e.before middle.before c c refl refl)),
      keeps_on at.depth kept F.0 G.0 F.2 G.2,
    )
ran (either p q) at c most e m marks n o others kept hm hp ho hk fits =
    let depth = at.depth in
    let front = take (places p) marks in
    let back = drop (places p) marks in
    let split : front ++ back ≡ marks = take-append-drop (places p) marks in
    let few : length front ≡ places p = length-take-le (places p) marks (omega (arith, hp)) in
    let rest : length back ≡ places q = omega (arith, length-drop (places p) marks, hp) in
    let one = shifted p e.before c front in
    let other = shifted q e.before c back in
    let left = behind_of p c e front in
    let right = behind_of q c e back in
    let start = set kept depth e in
    let F = ran p (inside at) c most e m front (back ++ n) o (ended q back ++ others) start hm few ho (length-set kept depth e ∙ hk) fits.1 in
    let low : depth < length F.0 = omega (arith, hk, fits.0, F.2.1, length-set kept depth e) in
    let e_is : get_or F.0 depth no_ends ≡ e = found depth kept F.0 e (omega (arith, hk, fits.0)) F.2 in
    let middle = set F.0 depth left in
    let G = ran q (inside (past p at)) c most e (m ++ one) back n (o ++ ended p one) others middle
    (omega (arith, length-append m one, length-shifted p e.before c front, hm))
    rest
    (omega (arith, length-append o (ended p one), length-ended p one, ho))
    (length-set F.0 depth left ∙ F.2.1 ∙ length-set kept depth e ∙ hk)
    fits.2 in
    let left_is : get_or G.0 depth no_ends ≡ left = found depth F.0 G.0 left low G.2 in
    let first = code p (inside at) in
    let second = code q (inside (past p at)) in
    let last = λ (w : Walk). stepped c (join depth) w in
    let end = λ (w : Walk). stepped c (join depth) (run c second (stepped c (turn depth) w)) in
    let at_first = walk e (m ++ marks ++ n) (o ++ (ended p front ++ ended q back) ++ others) kept in (
      G.0,
      run_append c (keep depth ∷ [] ++ first ++ turn depth ∷ [] ++ second) (join depth ∷ []) at_first
          ∙ ap last (run_append c (keep depth ∷ [] ++ first ++ turn depth ∷ []) second at_first)
          ∙ ap (λ w. last (run c second w)) (run_append c (keep depth ∷ [] ++ first) (turn depth ∷ []) at_first)
          ∙ ap (λ l. end (run c first (walk e (m ++ l ++ n) (o ++ (ended p front ++ ended q back) ++ others) start))) (sym split)
          ∙ ap (λ w. end (run c first w)) (first_part e start m front back n o (ended p front) (ended q back) others)
          ∙ ap end (F.1 ∙ second_part left F.0 m one back n o (ended p one) (ended q back) others)
          ∙ ap (λ x. last (run c second (walk x (m ++ one ++ back ++ n) (o ++ ended p one ++ ended q back ++ others) middle))) e_is
          ∙ ap last G.1
          ∙ ap (λ x. walk (or_ends x right) (m ++ one ++ other ++ n) (o ++ ended p one ++ ended q other ++ others) G.0) left_is
          ∙ both_parts (or_ends left right) G.0 m one other n o (ended p one) (ended q other) others
          ∙ ap (λ l. walk (or_ends left right) (m ++ (one ++ other) ++ n) (o ++ l ++ others) G.0)
          (both_ended p q front back one other e.before e.before c c refl refl (ended p one) (ended q other) refl refl)
          ∙ ap (λ l. walk (record { before = ends p e.before front || ends q e.before back; behind = ends p e.behind l || ends q e.behind other })
          (m ++ (one ++ other) ++ n) (o ++ ended (either p q) (one ++ other) ++ others) G.0)
          (sym (front_is p q front back one other e.before e.before c c refl refl))
          ∙ ap (λ l. walk (record {
            before = ends p e.before front || ends q e.before back;
            behind = ends p e.behind (take (places p) (one ++ other)) || ends q e.behind l;
          })
          (m ++ (one ++ other) ++ n) (o ++ ended (either p q) (one ++ other) ++ others) G.0)
          (sym (back_is p q front back one other e.before e.before c c refl refl)),
      keeps_on depth kept F.0 G.0 (inside_of depth kept F.0 e F.2) (inside_of depth F.0 G.0 left G.2),
    )
ran (star p) at c most e m marks n o q kept hm hp ho hk fits =
    let depth = at.depth in
    let old = ends p false marks in
    let start = set kept depth e in
    let entered : Ends = record { before = e.before || old; behind = false } in
    let inner = behind_of p c entered marks in
    let new = shifted p entered.before c marks in
    let F = ran p (again at) c most entered m marks n (o ++ old ∷ []) q start hm hp
    (omega (arith, length-append o (old ∷ []), ho)) (length-set kept depth e ∙ hk) fits.1 in
    let e_is : get_or F.0 depth no_ends ≡ e = found depth kept F.0 e (omega (arith, hk, fits.0)) F.2 in
    let body = code p (again at) in
    let last = λ (w : Walk). stepped c (after_star depth at.own) w in (
      F.0,
      run_append c (begin depth at.own ∷ [] ++ body) (after_star depth at.own ∷ []) (walk e (m ++ marks ++ n) (o ++ old ∷ ended p marks ++ q) kept)
          ∙ ap (λ b. last (run c body (walk (record { before = e.before || b; behind = false }) (m ++ marks ++ n) (o ++ old ∷ ended p marks ++ q) start)))
          (at_seam o (ended p marks) q old at.own ho)
          ∙ ap (λ l. last (run c body (walk entered (m ++ marks ++ n) (l ++ q) start))) (sym (append_assoc o (old ∷ []) (ended p marks)))
          ∙ ap last F.1
          ∙ ap (λ l. last (walk inner (m ++ new ++ n) (l ++ q) F.0)) (append_assoc o (old ∷ []) (ended p new))
          ∙ ap (λ l. walk (or_ends (get_or F.0 depth no_ends) inner) (m ++ new ++ n) l F.0) (set_seam o (ended p new) q old inner.behind at.own ho)
          ∙ ap (λ x. walk (or_ends x inner) (m ++ new ++ n) (o ++ inner.behind ∷ ended p new ++ q) F.0) e_is
          ∙ ap (λ b. walk (record { before = b; behind = e.behind || inner.behind }) (m ++ new ++ n) (o ++ inner.behind ∷ ended p new ++ q) F.0)
          (star_ends p e.before marks),
      inside_of depth kept F.0 e F.2,
    )
ran (plus p) at c most e m marks n o q kept hm hp ho hk fits =
    let depth = at.depth in
    let old = ends p false marks in
    let start = set kept depth e in
    let entered : Ends = record { before = e.before || old; behind = false } in
    let inner = behind_of p c entered marks in
    let new = shifted p entered.before c marks in
    let F = ran p (again at) c most entered m marks n (o ++ old ∷ []) q start hm hp
    (omega (arith, length-append o (old ∷ []), ho)) (length-set kept depth e ∙ hk) fits.1 in
    let e_is : get_or F.0 depth no_ends ≡ e = found depth kept F.0 e (omega (arith, hk, fits.0)) F.2 in
    let body = code p (again at) in
    let last = λ (w : Walk). stepped c (after_plus depth at.own (skips p)) w in (
      F.0,
      run_append c (begin depth at.own ∷ [] ++ body) (after_plus depth at.own (skips p) ∷ [])
          (walk e (m ++ marks ++ n) (o ++ old ∷ ended p marks ++ q) kept)
          ∙ ap (λ b. last (run c body (walk (record { before = e.before || b; behind = false }) (m ++ marks ++ n) (o ++ old ∷ ended p marks ++ q) start)))
          (at_seam o (ended p marks) q old at.own ho)
          ∙ ap (λ l. last (run c body (walk entered (m ++ marks ++ n) (l ++ q) start))) (sym (append_assoc o (old ∷ []) (ended p marks)))
          ∙ ap last F.1
          ∙ ap (λ l. last (walk inner (m ++ new ++ n) (l ++ q) F.0)) (append_assoc o (old ∷ []) (ended p new))
          ∙ ap (λ x. walk (record { before = inner.before; behind = inner.behind || (x.behind && skips p) }) (m ++ new ++ n)
          (set (o ++ old ∷ ended p new ++ q) at.own inner.behind) F.0) e_is
          ∙ ap (λ l. walk (record { before = inner.before; behind = inner.behind || (e.behind && skips p) }) (m ++ new ++ n) l F.0)
          (set_seam o (ended p new) q old inner.behind at.own ho)
          ∙ ap (λ b. walk (record { before = inner.before; behind = b }) (m ++ new ++ n) (o ++ inner.behind ∷ ended p new ++ q) F.0)
          (sym (ends_entered p e.behind new))
          ∙ ap (λ b. walk (record { before = b; behind = ends p e.behind new }) (m ++ new ++ n) (o ++ inner.behind ∷ ended p new ++ q) F.0)
          (ends_again p e.before marks),
      inside_of depth kept F.0 e F.2,
    )
ran (optional p) at c most e m marks n o q kept hm hp ho hk fits =
    let depth = at.depth in
    let F = ran p (inside at) c most e m marks n o q (set kept depth e) hm hp ho (length-set kept depth e ∙ hk) fits.1 in
    let new = shifted p e.before c marks in (
      F.0,
      run_append c (keep depth ∷ [] ++ code p (inside at)) (join depth ∷ []) (walk e (m ++ marks ++ n) (o ++ ended p marks ++ q) kept)
          ∙ ap (λ w. stepped c (join depth) w) F.1
          ∙ ap (λ x. walk (or_ends x (behind_of p c e marks)) (m ++ new ++ n) (o ++ ended p new ++ q) F.0)
          (found depth kept F.0 e (omega (arith, hk, fits.0)) F.2),
      inside_of depth kept F.0 e F.2,
    )
ran (group p) at c most e m marks n o q kept hm hp ho hk fits = ran p at c most e m marks n o q kept hm hp ho hk fits

-- ---- the walk of a text

-- the marks of a pattern and of its repetitions stand at the front of what a walk remembers, and it may end there or not
pub record IsOver (p : Pattern) (enter may : Bool) (most : ℕ) (w : Walk) : Type 0 where
  pub room : places p ≤ length w.marks
  pub keeps : length w.kept ≡ most
  pub repeated : take (repeats p) w.ended ≡ ended p (take (places p) w.marks)
  pub at_end : may ≡ ends p enter (take (places p) w.marks)

front_of : (xs ys : List Bool) (n : ℕ) → length xs ≡ n → take n (xs ++ ys) ≡ xs
front_of xs ys n h = (let F : ℕ → Type 0 = λ i. take i (xs ++ ys) ≡ xs in subst F h (take-append_seam xs ys))

-- before it no character is read
pub over_first : (p : Pattern) (may : Bool) (most : ℕ) (w : Walk) → places p ≤ most → repeats p ≤ most → may ≡ skips p
    → w.marks ≡ replicate most false → w.ended ≡ replicate most false → length w.kept ≡ most
    → (take (places p) w.marks ≡ replicate (places p) false) × IsOver p true may most w
over_first p may most w few rare skip marks repeated keeps =
    let none : take (places p) w.marks ≡ replicate (places p) false = ap (λ l. take (places p) l) marks ∙ take-replicate (places p) most false few in (
      none,
      record {
        room = omega (arith, few, ap length marks, length-replicate most false);
        keeps = keeps;
        repeated =
            ap (λ l. take (repeats p) l) repeated ∙ take-replicate (repeats p) most false rare ∙ ended_first p ∙ ap (λ l. ended p l) (sym none);
        at_end = skip ∙ ends_first p ∙ ap (λ l. ends p true l) (sym none);
      },
    )

-- by a character more
pub over_next : (p : Pattern) (enter may : Bool) (c most : ℕ) (os : List Op) (w new : Walk) → Fits p 0 most → os ≡ code p at_start
    → new ≡ read c os enter w → IsOver p enter may most w
    → (take (places p) new.marks ≡ shifted p enter c (take (places p) w.marks)) × IsOver p false new.ends.behind most new
over_next p enter may c most os w new fits laid is over =
    let e : Ends = record { before = enter; behind = false } in
    let marks = take (places p) w.marks in
    let others = drop (places p) w.marks in
    let rest = drop (repeats p) w.ended in
    let after = shifted p enter c marks in
    let F = ran p at_start c most e [] marks others [] rest w.kept refl (length-take-le (places p) w.marks over.room) refl over.keeps fits in
    let whole : w.ended ≡ ended p marks ++ rest = sym (take-append-drop (repeats p) w.ended) ∙ ap (λ l. l ++ rest) over.repeated in
    let there : new ≡ walk (behind_of p c e marks) (after ++ others) (ended p after ++ rest) F.0 =
    is
    ∙ ap (λ l. read c l enter w) laid
    ∙ ap (λ l. run c (code p at_start) (walk e l w.ended w.kept)) (sym (take-append-drop (places p) w.marks))
    ∙ ap (λ l. run c (code p at_start) (walk e (marks ++ others) l w.kept)) whole
    ∙ F.1 in
    let moved : take (places p) new.marks ≡ after =
    ap (λ v. take (places p) v.marks) there ∙ front_of after others (places p) (length-shifted p enter c marks) in (
      moved,
      record {
        room = omega (arith, ap (λ v. length v.marks) there, length-append after others, length-shifted p enter c marks);
        keeps = ap (λ v. length v.kept) there ∙ F.2.1 ∙ over.keeps;
        repeated =
            ap (λ v. take (repeats p) v.ended) there ∙ front_of (ended p after) rest (repeats p) (length-ended p after) ∙ ap (λ l. ended p l) (sym moved);
        at_end = ap (λ v. v.ends.behind) there ∙ ap (λ l. ends p false l) (sym moved);
      },
    )

-- and where none is left
pub over_last : (p : Pattern) (enter may : Bool) (most : ℕ) (w : Walk) (marks : List Bool) (text : List ℕ) (wanted : Light) → IsOver p enter may most w
    → marks ≡ take (places p) w.marks → text ≡ [] → light_from p enter (take (places p) w.marks) text ≡ wanted
    → cond may Green (cond (enter || marked marks) Yellow Red) ≡ wanted
over_last p enter may most w marks text wanted over is none h =
    ap (λ b. cond b Green (cond (enter || marked marks) Yellow Red)) over.at_end
    ∙ ap (λ l. cond (ends p enter (take (places p) w.marks)) Green (cond (enter || marked l) Yellow Red)) is
    ∙ sym (ap (λ t. light_from p enter (take (places p) w.marks) t) none) ∙ h

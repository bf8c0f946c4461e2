-- What is left of a document that is taken apart.
use Rattle.std.proofs.Common.{◌≡◌, ◌<◌, ◌+◌, ℕ, Bool, true, false, List, [], ◌∷◌, ◌++◌, refl, sym, ap, subst, ◌∙◌, append_assoc, arith}
use Rattle.std.proofs.lemmas.List.{append-nil}
use Rattle.bw_doc.specs.Made.{Made, plug, plug_text, parts}
use Rattle.bw_doc.specs.Operations as ops
use Rattle.bw_doc.specs.Operations.{operations}
use Rattle.bw_saved.specs.declared.operations.Task.{Task}
use Rattle.bw_saved.specs.Documents.Left.{last_of, left_of, all_left, steps_of, all_steps, IsLeftOf}

-- a task more is done first
pub one_left : (ts : List Task) (t : Task) → all_left (ts ++ t ∷ []) ≡ left_of t.doc.now t.entered ++ all_left ts
one_left [] t = sym (append-nil (left_of t.doc.now t.entered))
one_left (u ∷ ts) t =
    ap (λ (x : List ops.Operation). x ++ left_of u.doc.now u.entered) (one_left ts t)
    ∙ append_assoc (left_of t.doc.now t.entered) (all_left ts) (left_of u.doc.now u.entered)

pub one_step : (ts : List Task) (t : Task) → all_steps (ts ++ t ∷ []) ≡ all_steps ts + steps_of t.doc.now t.entered
one_step [] t = omega arith
one_step (u ∷ ts) t = let e = one_step ts t in omega (arith, e)

-- the parts of a plug, and then itself
pub plug_left : (ts ts1 ts2 ts3 : List Task) (d b a : Task) → ts1 ≡ ts ++ d ∷ [] → ts2 ≡ ts1 ++ a ∷ [] → ts3 ≡ ts2 ++ b ∷ [] →
    (all_left ts3 ≡ left_of b.doc.now b.entered ++ (left_of a.doc.now a.entered ++ (left_of d.doc.now d.entered ++ all_left ts)))
    × (all_steps ts3 ≡ all_steps ts + steps_of d.doc.now d.entered + steps_of a.doc.now a.entered + steps_of b.doc.now b.entered)
plug_left ts ts1 ts2 ts3 d b a e1 e2 e3 =
    let l1 = ap all_left e1 ∙ one_left ts d in
    let l2 = ap all_left e2 ∙ one_left ts1 a ∙ ap (λ (x : List ops.Operation). left_of a.doc.now a.entered ++ x) l1 in
    let l3 = ap all_left e3 ∙ one_left ts2 b ∙ ap (λ (x : List ops.Operation). left_of b.doc.now b.entered ++ x) l2 in
    let s1 = ap all_steps e1 ∙ one_step ts d in
    let s2 = ap all_steps e2 ∙ one_step ts1 a in
    let s3 = ap all_steps e3 ∙ one_step ts2 b in
    (l3, omega (arith, s1, s2, s3))

pub text_left : (ts ts1 ts2 : List Task) (d b : Task) → ts1 ≡ ts ++ d ∷ [] → ts2 ≡ ts1 ++ b ∷ [] →
    (all_left ts2 ≡ left_of b.doc.now b.entered ++ (left_of d.doc.now d.entered ++ all_left ts))
    × (all_steps ts2 ≡ all_steps ts + steps_of d.doc.now d.entered + steps_of b.doc.now b.entered)
text_left ts ts1 ts2 d b e1 e2 =
    let l1 = ap all_left e1 ∙ one_left ts d in
    let l2 = ap all_left e2 ∙ one_left ts1 b ∙ ap (λ (x : List ops.Operation). left_of b.doc.now b.entered ++ x) l1 in
    let s1 = ap all_steps e1 ∙ one_step ts d in
    let s2 = ap all_steps e2 ∙ one_step ts1 b in
    (l2, omega (arith, s1, s2))

-- so they are what was left of it
pub plug_splits : (ts ts3 : List Task) (d b a : Made) (g : ℕ) (entered : Bool) → d ≡ plug b g a → entered ≡ false →
    all_left ts3 ≡ operations b ++ (operations a ++ (last_of d ∷ all_left ts)) → all_steps ts3 ≡ all_steps ts + 1 + (parts a + parts a) + (parts b + parts b) →
    (all_left ts3 ≡ left_of d entered ++ all_left ts) × (all_steps ts3 < steps_of d entered + all_steps ts)
plug_splits ts ts3 d b a g entered is not left steps =
    subst (λ (e : Bool). (all_left ts3 ≡ left_of d e ++ all_left ts) × (all_steps ts3 < steps_of d e + all_steps ts)) (sym not)
    (subst (λ (d : Made). all_left ts3 ≡ operations b ++ (operations a ++ (last_of d ∷ all_left ts)) →
    (all_left ts3 ≡ left_of d false ++ all_left ts) × (all_steps ts3 < steps_of d false + all_steps ts)) (sym is)
    (λ l. (l ∙ simp append_assoc, omega (arith, steps))) left)

pub text_splits : (ts ts2 : List Task) (d b : Made) (g : ℕ) (s : List ℕ) (entered : Bool) → d ≡ plug_text b g s → entered ≡ false →
    all_left ts2 ≡ operations b ++ (last_of d ∷ all_left ts) → all_steps ts2 ≡ all_steps ts + 1 + (parts b + parts b) →
    (all_left ts2 ≡ left_of d entered ++ all_left ts) × (all_steps ts2 < steps_of d entered + all_steps ts)
text_splits ts ts2 d b g s entered is not left steps =
    subst (λ (e : Bool). (all_left ts2 ≡ left_of d e ++ all_left ts) × (all_steps ts2 < steps_of d e + all_steps ts)) (sym not)
    (subst (λ (d : Made). all_left ts2 ≡ operations b ++ (last_of d ∷ all_left ts) →
    (all_left ts2 ≡ left_of d false ++ all_left ts) × (all_steps ts2 < steps_of d false + all_steps ts)) (sym is)
    (λ l. (l ∙ simp append_assoc, omega (arith, steps))) left)

-- ---- the next one

pub next_due : (old mid new : List Task) (t : Task) (b : Bool) → old ≡ mid ++ t ∷ [] → IsLeftOf t mid new b → b ≡ true →
    all_left old ≡ last_of t.doc.now ∷ all_left new
next_due old mid new t true e h is =
    ap all_left e ∙ one_left mid t ∙ ap (λ (x : List ops.Operation). x ++ all_left mid) h.0 ∙ ap (λ (ts : List Task). last_of t.doc.now ∷ all_left ts) (sym h.1)
next_due old mid new t false e h is = absurd cc

pub next_left : (old mid new : List Task) (t : Task) (b : Bool) → old ≡ mid ++ t ∷ [] → IsLeftOf t mid new b → b ≡ false →
    (all_left new ≡ all_left old) × (all_steps new < all_steps old)
next_left old mid new t true e h is = absurd cc
next_left old mid new t false e h is =
    let l = ap all_left e ∙ one_left mid t in
    let s = ap all_steps e ∙ one_step mid t in
    (h.0 ∙ sym l, omega (arith, h.1, s))

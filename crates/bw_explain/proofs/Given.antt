-- What a walk of the code goes by settles the documents between its states.
use Rattle.std.proofs.Common.{◌≡◌, ◌⊎◌, inl, inr, ℕ, zero, suc, ◌<◌, ◌≤◌, ◌==◌, Bool, true, false, if◌then◌else◌, length, refl, ap, sym, ◌∙◌, subst, arith}
use Rattle.std.proofs.lemmas.Bool.{false≢true, eq-eqb}
use Rattle.bw_lang.specs.Document.Forest.{Forest}
use Rattle.bw_shape.specs.Nodes.Templates.{template_at}
use Rattle.bw_explain.specs.declared.sizes.TheConstants.{MAX_SIZE}
use Rattle.bw_explain.specs.declared.walk.Known.{Known}
use Rattle.bw_explain.specs.declared.walk.Walk.{Walk}
use Rattle.bw_explain.specs.declared.aim.Aim.{Aim}
use Rattle.bw_explain.specs.declared.aim.Aim.TheVariants.{Plain}
use Rattle.bw_explain.specs.declared.page.Page.{Page}
use Rattle.bw_explain.specs.Aims.{aim_of, walk_of, known_of, table_of, part_of, Has, IsPlain, IsMade, IsReady, IsFairAim, IsGiven}
use Rattle.bw_explain.specs.Sizes.{size, if_so, IsLeast}
use Rattle.bw_explain.specs.Tables.{Table, size_at, Documents, Settles, Solved}
use Rattle.bw_sum.specs.Graph.{Graph}
use Rattle.bw_explain.specs.Walks.{Aim as Sought, Runs, no_aim, Known as Sizes, known_at, known_with, from, at, walk, seek, seek_value, IsDraft}
use Rattle.bw_explain.specs.Ways.{graph}
use Rattle.bw_explain.proofs.Runs.{stays, runs_fill, fill_runs}
use Rattle.bw_explain.proofs.Seeking.{settles}

known_by : (b c d : Bool) (k : Known)
    → (if b then (known_of k).stay else if c then (known_of k).first else if d then (known_of k).second else (known_of k).whole)
    ≡ size_at (if b then k.stay.now else if c then k.first.now else if d then k.second.now else k.whole.now)
known_by true c d k = refl
known_by false true d k = refl
known_by false false true k = refl
known_by false false false k = refl

pub known_is : (k : Known) (a b : ℕ) → known_at (known_of k) a b ≡ size_at (table_of k a b)
known_is k a b = known_by (a == b) (b == 1) (a == 1) k

pub walk_settles : (w : Walk) → IsGiven w → Settles (length w.page.templates.now) (if_so (w.low == w.high) 0) (Has w.page w.aim w.low w.high)
    (seek_value w.page.templates.now (walk_of w) w.low w.high)
walk_settles w g = settles w.page.templates.now (walk_of w) w.low w.high g.states.0 g.states.1 g.zero (λ o. (g.plain o).least) g.fair.cost
    (λ a b m h k l e. subst (λ v. IsLeast (Has w.page w.aim a b m) (v m)) (sym (known_is w.known a b)) ((g.known a b h k l e).least m))

-- ---- one table after another

order : (a b : ℕ) → a ≤ b → (a ≡ b) ⊎ (a < b)
order a b h = grind arith

same_part : (stay f s : Table) (x y : ℕ) → x ≡ y → part_of stay f s x y ≡ stay
same_part stay f s x y e = ap (λ b. if b then stay else if y == 1 then f else if x == 1 then s else stay) (eq-eqb x y e)

pub stay_at : (T : ℕ → Forest) (G : Graph) (A : Sought) (t : Table) → Solved (λ m d. Runs T G A m 0 0 (T m) 0 d) t → (w : ℕ)
    → Solved (λ m d. Runs T G A m 0 w (T m) w d) t
stay_at T G A t s w = record {
  least = λ n. record {
    low = λ d h. (s.least n).low d (stays T G A h (omega arith) 0);
    high = λ l. let r = (s.least n).high l in (r.0, stays T G A r.1 (omega arith) w, r.2);
  };
  doc = λ n l. let r = s.doc n l in (stays T G A r.0 (omega arith) w, r.1);
}

module _ (p : Page) (a : Aim) where
  pub parts : (stay f s : Table) (low high : ℕ) → high ≤ 2 → Solved (Has p a 0 0) stay → (high ≡ 2 → low ≡ 0 → Solved (Has p a 0 1) f)
      → (high ≡ 2 → low ≡ 0 → Solved (Has p a 1 2) s) → (x y : ℕ) → low ≤ x → x ≤ y → y ≤ high → ((x ≡ low) → (y ≡ high) → ⊥)
      → Solved (Has p a x y) (part_of stay f s x y)
  parts stay f s low high most solved first second x y h k l e = elim (order x y k) [
    | inl q ↦ subst (Solved (Has p a x y)) (sym (same_part stay f s x y q))
        (subst (λ w. Solved (Has p a x w) stay) q (stay_at (template_at p.templates.now) (graph p.nodes.now) (aim_of a) stay solved x))
    | inr q ↦ elim (order low x h) [
      | inl b ↦ elim (order y high l) [
        | inl g ↦ absurd (e (sym b) g)
        | inr g ↦
            let c : 0 ≡ x = omega (arith, q, g, most) in
            let d : 1 ≡ y = omega (arith, q, g, most) in
            subst (λ w. Solved (Has p a w y) (part_of stay f s w y)) c
            (subst (λ w. Solved (Has p a 0 w) (part_of stay f s 0 w)) d (first (omega (arith, q, g, most)) (omega (arith, q, g, most, b))))
      ]
      | inr b ↦
          let c : 1 ≡ x = omega (arith, q, b, l, most) in
          let d : 2 ≡ y = omega (arith, q, b, l, most) in
          subst (λ w. Solved (Has p a w y) (part_of stay f s w y)) c
          (subst (λ w. Solved (Has p a 1 w) (part_of stay f s 1 w)) d (second (omega (arith, q, b, l, most)) (omega (arith, q, b, l, most))))
    ]
  ]

pub plain_solved : (p : Page) (t : Table) → Solved (Has p Plain 0 0) t → Solved (IsPlain p) t
plain_solved p t s = record {
  least = λ n. record {
    low = λ d f. (s.least n).low d (fill_runs (template_at p.templates.now) (graph p.nodes.now) no_aim refl f 0 0);
    high = λ l. let r = (s.least n).high l in (r.0, runs_fill (template_at p.templates.now) (graph p.nodes.now) no_aim (λ b j. refl) r.1, r.2);
  };
  doc = λ n l. let r = s.doc n l in (runs_fill (template_at p.templates.now) (graph p.nodes.now) no_aim (λ b j. refl) r.0, r.1);
}

pub fair_plain : (p : Page) → IsFairAim p Plain
fair_plain p = record {
  cost = record { low = λ b j q f h. absurd (false≢true h); high = λ l. absurd (omega (arith, l)) };
  made = tt;
}

-- others for the documents between two states
abbrev lent : Table → Table → Table → Table → Sizes
lent a b c d = record { stay = size_at a; first = size_at b; second = size_at c; whole = size_at d }

with_by : (b c d : Bool) (k : Known) (t : Table)
    → lent (if b then t else k.stay.now) (if b then k.first.now else if c then t else k.first.now)
    (if b then k.second.now else if c then k.second.now else if d then t else k.second.now)
    (if b then k.whole.now else if c then k.whole.now else if d then k.whole.now else t)
    ≡ (if b then lent t k.first.now k.second.now k.whole.now
    else if c then lent k.stay.now t k.second.now k.whole.now
    else if d then lent k.stay.now k.first.now t k.whole.now
    else lent k.stay.now k.first.now k.second.now t)
with_by true c d k t = refl
with_by false true d k t = refl
with_by false false true k t = refl
with_by false false false k t = refl

pub with_is : (k r : Known) (t : Table) (x y : ℕ) → r.stay.now ≡ (if x == y then t else k.stay.now)
    → r.first.now ≡ (if x == y then k.first.now else if y == 1 then t else k.first.now)
    → r.second.now ≡ (if x == y then k.second.now else if y == 1 then k.second.now else if x == 1 then t else k.second.now)
    → r.whole.now ≡ (if x == y then k.whole.now else if y == 1 then k.whole.now else if x == 1 then k.whole.now else t)
    → known_of r ≡ known_with (known_of k) x y (size_at t)
with_is k r t x y e f g h =
    ap (λ z. lent z r.first.now r.second.now r.whole.now) e
    ∙ ap (λ z. lent (if x == y then t else k.stay.now) z r.second.now r.whole.now) f
    ∙ ap (λ z. lent (if x == y then t else k.stay.now) (if x == y then k.first.now else if y == 1 then t else k.first.now) z r.whole.now) g
    ∙ ap (λ z. lent (if x == y then t else k.stay.now) (if x == y then k.first.now else if y == 1 then t else k.first.now)
    (if x == y then k.second.now else if y == 1 then k.second.now else if x == 1 then t else k.second.now) z) h
    ∙ with_by (x == y) (y == 1) (x == 1) k t

-- what holds of the documents between two states, and of those that come before, holds of all that are lent with them
module _ (P : ℕ → ℕ → Table → Type 0) (k r : Known) (t : Table) where
  abbrev Others : ℕ → ℕ → Type 0
  Others x y = (a b : ℕ) → x ≤ a → a ≤ b → b ≤ y → ((a ≡ x) → (b ≡ y) → ⊥) → P a b (table_of k a b)

  pub tables_with : (x y a b : ℕ) → r.stay.now ≡ (if x == y then t else k.stay.now)
      → r.first.now ≡ (if x == y then k.first.now else if y == 1 then t else k.first.now)
      → r.second.now ≡ (if x == y then k.second.now else if y == 1 then k.second.now else if x == 1 then t else k.second.now)
      → r.whole.now ≡ (if x == y then k.whole.now else if y == 1 then k.whole.now else if x == 1 then k.whole.now else t)
      → P x y t → Others x y → x ≤ a → a ≤ b → b ≤ y → y ≤ 2 → P a b (table_of r a b)
  tables_with zero zero zero zero e f g h is o lo le hi most = subst (P 0 0) (sym e) is
  tables_with (suc zero) (suc zero) (suc zero) (suc zero) e f g h is o lo le hi most = subst (P 1 1) (sym e) is
  tables_with (suc (suc zero)) (suc (suc zero)) (suc (suc zero)) (suc (suc zero)) e f g h is o lo le hi most = subst (P 2 2) (sym e) is
  tables_with zero (suc zero) zero zero e f g h is o lo le hi most = subst (P 0 0) (sym e) (o 0 0 lo le hi (λ p q. absurd (omega (arith, q))))
  tables_with zero (suc zero) (suc zero) (suc zero) e f g h is o lo le hi most = subst (P 1 1) (sym e) (o 1 1 lo le hi (λ p q. absurd (omega (arith, p))))
  tables_with zero (suc zero) zero (suc zero) e f g h is o lo le hi most = subst (P 0 1) (sym f) is
  tables_with (suc zero) (suc (suc zero)) (suc zero) (suc zero) e f g h is o lo le hi most =
      subst (P 1 1) (sym e) (o 1 1 lo le hi (λ p q. absurd (omega (arith, q))))
  tables_with (suc zero) (suc (suc zero)) (suc (suc zero)) (suc (suc zero)) e f g h is o lo le hi most =
      subst (P 2 2) (sym e) (o 2 2 lo le hi (λ p q. absurd (omega (arith, p))))
  tables_with (suc zero) (suc (suc zero)) (suc zero) (suc (suc zero)) e f g h is o lo le hi most = subst (P 1 2) (sym g) is
  tables_with zero (suc (suc zero)) zero zero e f g h is o lo le hi most = subst (P 0 0) (sym e) (o 0 0 lo le hi (λ p q. absurd (omega (arith, q))))
  tables_with zero (suc (suc zero)) (suc zero) (suc zero) e f g h is o lo le hi most =
      subst (P 1 1) (sym e) (o 1 1 lo le hi (λ p q. absurd (omega (arith, p))))
  tables_with zero (suc (suc zero)) (suc (suc zero)) (suc (suc zero)) e f g h is o lo le hi most =
      subst (P 2 2) (sym e) (o 2 2 lo le hi (λ p q. absurd (omega (arith, p))))
  tables_with zero (suc (suc zero)) zero (suc zero) e f g h is o lo le hi most = subst (P 0 1) (sym f) (o 0 1 lo le hi (λ p q. absurd (omega (arith, q))))
  tables_with zero (suc (suc zero)) (suc zero) (suc (suc zero)) e f g h is o lo le hi most =
      subst (P 1 2) (sym g) (o 1 2 lo le hi (λ p q. absurd (omega (arith, p))))
  tables_with zero (suc (suc zero)) zero (suc (suc zero)) e f g h is o lo le hi most = subst (P 0 2) (sym h) is
  tables_with x y a b e f g h is o lo le hi most = absurd (omega (arith, lo, le, hi, most))

-- the same walk where the documents between its states are those that are settled by now
module _ (w b : Walk) (t : Table) (p : b.page ≡ w.page) (a : b.aim ≡ w.aim) (low : b.low ≡ w.low) (high : b.high ≡ w.high) where
  pub ready_by : b.plain.now ≡ w.plain.now → b.known.stay.now ≡ (if w.low == w.high then t else w.known.stay.now)
      → b.known.first.now ≡ (if w.low == w.high then w.known.first.now else if w.high == 1 then t else w.known.first.now)
      → b.known.second.now ≡ (if w.low == w.high then w.known.second.now else if w.high == 1 then w.known.second.now else if w.low == 1 then t
      else w.known.second.now)
      → b.known.whole.now ≡ (if w.low == w.high then w.known.whole.now else if w.high == 1 then w.known.whole.now else if w.low == 1 then w.known.whole.now
      else t)
      → IsGiven w → Documents (Has w.page w.aim w.low w.high) t → IsReady b
  ready_by q e f g h is docs = record {
    most = let m = is.states.1 in omega (arith, m, high);
    zero = λ o. low ∙ is.zero (sym deep ∙ o);
    plain = λ o. subst (λ (x : Page). Documents (IsPlain x) b.plain.now) (sym p)
        (subst (Documents (IsPlain w.page)) (sym q) (is.plain (sym deep ∙ o)).doc);
    known = λ x y lo le hi. subst (λ (z : Page). Documents (Has z b.aim x y) (table_of b.known x y)) (sym p)
        (subst (λ (z : Aim). Documents (Has w.page z x y) (table_of b.known x y)) (sym a)
        (tables_with (λ x y t. Documents (Has w.page w.aim x y) t) w.known b.known t w.low w.high x y e f g h docs
        (λ u v l m n o. (is.known u v l m n o).doc) (omega (arith, lo, low)) le (omega (arith, hi, high)) is.states.1));
    made = subst (λ (z : Page). IsMade z b.aim) (sym p) (subst (IsMade w.page) (sym a) is.fair.made);
  }
    where
      deep : (aim_of b.aim).deep ≡ (aim_of w.aim).deep
      deep = ap (λ (x : Aim). (aim_of x).deep) a

  -- what a walk over a template comes to is its value
  module _ (n : ℕ) (items : Forest) (same : walk_of b ≡ seek (walk_of w) w.low w.high (size_at t)) (it : items ≡ template_at w.page.templates.now n) where
    pub value_is : at (walk (walk_of b) n 0 (from b.low) items) b.high ≡ seek_value w.page.templates.now (walk_of w) w.low w.high (size_at t) n
    value_is =
        ap (at (walk (walk_of b) n 0 (from b.low) items)) high
        ∙ ap (λ z. at (walk z n 0 (from b.low) items) w.high) same
        ∙ ap (λ z. at (walk (seek (walk_of w) w.low w.high (size_at t)) n 0 (from z) items) w.high) low
        ∙ ap (λ z. at (walk (seek (walk_of w) w.low w.high (size_at t)) n 0 (from w.low) z) w.high) it

    pub next_made : (v : ℕ) (doc : ℕ → Forest) (d : Forest) → v ≡ seek_value w.page.templates.now (walk_of w) w.low w.high (size_at t) n
        → IsDraft (template_at b.page.templates.now) (graph b.page.nodes.now) (aim_of b.aim) n 0 b.low b.high items
        (walk (walk_of b) n 0 (from b.low) items) doc → d ≡ doc b.high → v ≤ MAX_SIZE → Has w.page w.aim w.low w.high n d × (size d ≤ v)
    next_made v doc d e draft is l =
        let m : at (walk (walk_of b) n 0 (from b.low) items) b.high ≡ v = value_is ∙ sym e in
        let k = draft b.high (omega arith) (subst (λ z. z ≤ MAX_SIZE) (sym m) l) in (
          subst (λ (z : Page). Has z w.aim w.low w.high n d) p
              (subst (λ (z : Aim). Has b.page z w.low w.high n d) a
              (subst (λ z. Has b.page b.aim z w.high n d) low
              (subst (λ z. Has b.page b.aim b.low z n d) high
              (subst (λ z. Runs (template_at b.page.templates.now) (graph b.page.nodes.now) (aim_of b.aim) n 0 b.low z b.high d)
              (it ∙ ap (λ (z : Page). template_at z.templates.now n) (sym p))
              (subst (λ z. Runs (template_at b.page.templates.now) (graph b.page.nodes.now) (aim_of b.aim) n 0 b.low items b.high z) (sym is) k.0))))),
          subst (λ z. size z ≤ v) (sym is) (subst (λ z. size (doc b.high) ≤ z) m k.1),
        )

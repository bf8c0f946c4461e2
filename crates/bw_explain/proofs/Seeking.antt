-- The documents that are looked for are settled one after another.
use Rattle.std.proofs.Common.{◌≡◌, ◌⊎◌, inl, inr, ℕ, ◌+◌, ◌<◌, ◌≤◌, ◌==◌, min, Bool, true, false, ◌&&◌, if◌then◌else◌, List, length, refl, ap, sym, ◌∙◌}
use Rattle.std.proofs.Common.{subst, arith}
use Rattle.std.proofs.lemmas.Bool.{false≢true, cases_Bool, eqb-true, eq-eqb, ne_eqb, and_parts, and_from}
use Rattle.std.proofs.lemmas.List.{get_or_past}
use Rattle.bw_lang.specs.Document.Forest.{Forest, none}
use Rattle.bw_shape.specs.Nodes.Templates.{template_at}
use Rattle.bw_sum.specs.Unfolding.{Fills, Unfolds}
use Rattle.bw_explain.specs.declared.sizes.TheConstants.{PAST, NONE}
use Rattle.bw_explain.specs.Sizes.{size, capped, Found, if_so, IsLeast}
use Rattle.bw_explain.specs.Tables.{Bounds, Settles}
use Rattle.bw_explain.specs.Walks.{Runs, nothing, Known, known_at, known_with, Walk, plain_walk, from, at, walk, seek, seek_value, CostIs}
use Rattle.bw_explain.specs.Ways.{Way, graph}
use Rattle.bw_explain.proofs.Numbers.{if_true}
use Rattle.bw_explain.proofs.Runs.{runs_fill, fill_runs}
use Rattle.bw_explain.proofs.WalkLaws.{from_there}
use Rattle.bw_explain.proofs.WalkLows.{runs_low, walk_low, begin_low}
use Rattle.bw_explain.proofs.WalkFound.{walk_there}

-- ---- all documents

same_four : {X : Type 0} (b c d : Bool) (f : X) → (if b then f else if c then f else if d then f else f) ≡ f
same_four true c d f = refl
same_four false true d f = refl
same_four false false true f = refl
same_four false false false f = refl

pub unbound : (v s : ℕ) → min v NONE ≤ capped (0 + s) → v ≤ capped s
unbound v s h = omega arith

module _ (templates : List Forest) (nodes : List (List Way)) (plain : ℕ → ℕ) where
  pub flat_low : ((m : ℕ) (d : Forest) → Unfolds (template_at templates) (graph nodes) m d → plain m ≤ capped (size d)) → (n : ℕ) (t d : Forest)
      → Fills (template_at templates) (graph nodes) n t d → (walk (plain_walk nodes plain) n 0 (from 0) t).start ≤ capped (size d)
  flat_low low n t d f =
      let u = plain_walk nodes plain in
      unbound (walk u n 0 (from 0) t).start (size d)
      (runs_low templates u 0 0 (omega arith) (λ o. refl) NONE (λ o. absurd (false≢true (sym o))) (λ b j q g h. absurd (false≢true h))
      (λ x y m a b c. inl (λ e r. subst (λ k. k m ≤ capped (size e)) (sym (same_four (x == y) (y == 1) (x == 1) plain))
      (low m e (runs_fill (template_at templates) (graph nodes) u.aim (λ b j. refl) r))))
      (fill_runs (template_at templates) (graph nodes) u.aim refl f 0 0) (omega arith) (omega arith) (from 0) 0 (begin_low 0 NONE refl))

  pub flat_there : ((m : ℕ) → plain m ≤ PAST → Found (Unfolds (template_at templates) (graph nodes) m) (plain m)) → (n : ℕ) (t : Forest)
      → (walk (plain_walk nodes plain) n 0 (from 0) t).start ≤ PAST
      → Found (Fills (template_at templates) (graph nodes) n t) (walk (plain_walk nodes plain) n 0 (from 0) t).start
  flat_there there n t l =
      let u = plain_walk nodes plain in
      let a = walk_there templates u 0 0 (omega arith) (λ o. refl) (λ o. absurd (false≢true (sym o))) (λ c. absurd (omega (arith, c)))
      (λ x y m a b c h. found x y m a b c (subst (λ k. k m ≤ PAST) (same_four (x == y) (y == 1) (x == 1) plain) h)) n 0 t l in
      (a.0, runs_fill (template_at templates) (graph nodes) u.aim (λ b j. refl) a.1, a.2)
    where
      found : (x y m : ℕ) → 0 ≤ x → x ≤ y → y ≤ 0 → plain m ≤ PAST
          → Found (Runs (template_at templates) (graph nodes) (plain_walk nodes plain).aim m 0 x (template_at templates m) y)
          (known_at (plain_walk nodes plain).known x y m)
      found x y m a b c h =
          let d = there m h in
          let e : x ≡ y = omega (arith, b, c) in (
            d.0,
            subst (λ z. Runs (template_at templates) (graph nodes) (plain_walk nodes plain).aim m 0 x (template_at templates m) z d.0) e
                (fill_runs (template_at templates) (graph nodes) (plain_walk nodes plain).aim refl d.1 0 x),
            subst (λ k. capped (size d.0) ≤ k m) (sym (same_four (x == y) (y == 1) (x == 1) plain)) d.2,
          )

-- ---- what is known of others

abbrev sel : Bool → Bool → Bool → Known → ℕ → ℕ
sel b c d K = if b then K.stay else if c then K.first else if d then K.second else K.whole

abbrev put : Bool → Bool → Bool → Known → (ℕ → ℕ) → Known
put b c d K v =
    if b then record { stay = v; first = K.first; second = K.second; whole = K.whole }
    else if c then record { stay = K.stay; first = v; second = K.second; whole = K.whole }
    else if d then record { stay = K.stay; first = K.first; second = v; whole = K.whole }
    else record { stay = K.stay; first = K.first; second = K.second; whole = v }

same_by : (b c d : Bool) (K : Known) (v : ℕ → ℕ) → sel b c d (put b c d K v) ≡ v
same_by true c d K v = refl
same_by false true d K v = refl
same_by false false true K v = refl
same_by false false false K v = refl

pub known_same : (K : Known) (v : ℕ → ℕ) (x y : ℕ) → known_at (known_with K x y v) x y ≡ v
known_same K v x y = same_by (x == y) (y == 1) (x == 1) K v

stay_by : (c d : Bool) (K : Known) (v : ℕ → ℕ) → (put false c d K v).stay ≡ K.stay
stay_by true d K v = refl
stay_by false true K v = refl
stay_by false false K v = refl

order : (a b : ℕ) → a ≤ b → (a ≡ b) ⊎ (a < b)
order a b h = grind arith

pub known_other : (K : Known) (v : ℕ → ℕ) (x y a b : ℕ) → x ≤ a → a ≤ b → b ≤ y → y ≤ 2 → ((a ≡ x) → (b ≡ y) → ⊥)
    → known_at (known_with K x y v) a b ≡ known_at K a b
known_other K v x y a b h k l most not_it = elim (order a b k) [
  | inl e ↦
      let ab = eq-eqb a b e in
      let xy = ne_eqb x y (λ s. not_it (omega (arith, h, k, l, s)) (omega (arith, h, k, l, s))) in
      ap (λ t. sel t (b == 1) (a == 1) (known_with K x y v)) ab ∙ ap (λ t. (put t (y == 1) (x == 1) K v).stay) xy ∙ stay_by (y == 1) (x == 1) K v
      ∙ sym (ap (λ t. sel t (b == 1) (a == 1) K) ab)
  | inr s ↦ elim (order x a h) [
    | inl e ↦ between e (λ f. not_it (sym e) f) s
    | inr r ↦ two (inr ((omega (arith, r, s, l, most), omega (arith, r, s, l, most)), (omega (arith, r, s, l, most), omega (arith, r, s, l, most))))
  ]
]
  where
    two : (((a ≡ 0) × (b ≡ 1)) × ((x ≡ 0) × (y ≡ 2))) ⊎ (((a ≡ 1) × (b ≡ 2)) × ((x ≡ 0) × (y ≡ 2))) → known_at (known_with K x y v) a b ≡ known_at K a b
    two (inl p) = subst (λ q. known_at (known_with K q y v) a b ≡ known_at K a b) (sym p.1.0)
        (subst (λ q. known_at (known_with K 0 q v) a b ≡ known_at K a b) (sym p.1.1)
        (subst (λ q. known_at (known_with K 0 2 v) q b ≡ known_at K q b) (sym p.0.0)
        (subst (λ q. known_at (known_with K 0 2 v) 0 q ≡ known_at K 0 q) (sym p.0.1) refl)))
    two (inr p) = subst (λ q. known_at (known_with K q y v) a b ≡ known_at K a b) (sym p.1.0)
        (subst (λ q. known_at (known_with K 0 q v) a b ≡ known_at K a b) (sym p.1.1)
        (subst (λ q. known_at (known_with K 0 2 v) q b ≡ known_at K q b) (sym p.0.0)
        (subst (λ q. known_at (known_with K 0 2 v) 1 q ≡ known_at K 1 q) (sym p.0.1) refl)))

    between : x ≡ a → ((b ≡ y) → ⊥) → a < b → known_at (known_with K x y v) a b ≡ known_at K a b
    between e f s = elim (order b y l) [
      | inl g ↦ absurd (f g)
      | inr r ↦ two (inl ((omega (arith, r, s, most), omega (arith, r, s, most)), (omega (arith, r, s, most, e), omega (arith, r, s, most))))
    ]

-- ---- the laws by which they are settled

module _ (templates : List Forest) (u : Walk) (x y : ℕ) (order_is : x ≤ y) (most : y ≤ 2) (zero_at : u.aim.deep ≡ true → x ≡ 0)
    (plain_is : u.aim.deep ≡ false → (m : ℕ) → IsLeast (Unfolds (template_at templates) (graph u.nodes) m) (u.plain m))
    (cost_is : CostIs (template_at templates) (graph u.nodes) u.aim.good u.aim.template u.aim.attrs u.aim.inner u.cost)
    (known_is : (a b m : ℕ) → x ≤ a → a ≤ b → b ≤ y → ((a ≡ x) → (b ≡ y) → ⊥)
    → IsLeast (Runs (template_at templates) (graph u.nodes) u.aim m 0 a (template_at templates m) b) (known_at u.known a b m)) where
  abbrev Has : ℕ → ℕ → ℕ → Forest → Type 0
  Has a b m d = Runs (template_at templates) (graph u.nodes) u.aim m 0 a (template_at templates m) b d

  which : (a b : ℕ) → ((a ≡ x) × (b ≡ y)) ⊎ ((a ≡ x) → (b ≡ y) → ⊥)
  which a b = elim (cases_Bool ((a == x) && (b == y))) [
    | inl e ↦ let p = and_parts (a == x) (b == y) e in inl (eqb-true a x p.0, eqb-true b y p.1)
    | inr e ↦ inr (λ p q. false≢true (sym e ∙ and_from (a == x) (b == y) (eq-eqb a x p) (eq-eqb b y q)))
  ]

  known_low : (v : ℕ → ℕ) (B : ℕ) → Bounds (Has x y) v (seek_value templates u x y v) B → (a b m : ℕ) → x ≤ a → a ≤ b → b ≤ y
      → ((d : Forest) → Has a b m d → known_at (known_with u.known x y v) a b m ≤ capped (size d))
      ⊎ (B ≤ at (walk (seek u x y v) m 0 (from a) (template_at templates m)) b)
  known_low v B bounds a b m h k l = elim (which a b) [
    | inl e ↦ subst (λ c. ((d : Forest) → Has c b m d → known_at (known_with u.known x y v) c b m ≤ capped (size d))
        ⊎ (B ≤ at (walk (seek u x y v) m 0 (from c) (template_at templates m)) b)) (sym e.0)
        (subst (λ c. ((d : Forest) → Has x c m d → known_at (known_with u.known x y v) x c m ≤ capped (size d))
        ⊎ (B ≤ at (walk (seek u x y v) m 0 (from x) (template_at templates m)) c)) (sym e.1)
        (elim (bounds m) [
          | inl w ↦ inl (λ d r. subst (λ f. f m ≤ capped (size d)) (sym (known_same u.known v x y)) (w d r))
          | inr w ↦ inr w
        ]))
    | inr e ↦ inl (λ d r. subst (λ f. f m ≤ capped (size d)) (sym (known_other u.known v x y a b h k l most e)) ((known_is a b m h k l e).low d r))
  ]

  known_there : (v : ℕ → ℕ) → ((m : ℕ) → v m ≤ PAST → Found (Has x y m) (v m)) → (a b m : ℕ) → x ≤ a → a ≤ b → b ≤ y
      → known_at (known_with u.known x y v) a b m ≤ PAST → Found (Has a b m) (known_at (known_with u.known x y v) a b m)
  known_there v there a b m h k l = elim (which a b) [
    | inl e ↦ subst (λ c. known_at (known_with u.known x y v) c b m ≤ PAST → Found (Has c b m) (known_at (known_with u.known x y v) c b m)) (sym e.0)
        (subst (λ c. known_at (known_with u.known x y v) x c m ≤ PAST → Found (Has x c m) (known_at (known_with u.known x y v) x c m)) (sym e.1)
        (subst (λ f. f m ≤ PAST → Found (Has x y m) (f m)) (sym (known_same u.known v x y)) (there m)))
    | inr e ↦ subst (λ f. f m ≤ PAST → Found (Has a b m) (f m)) (sym (known_other u.known v x y a b h k l most e)) (known_is a b m h k l e).high
  ]

  pub settles : Settles (length templates) (if_so (x == y) 0) (Has x y) (seek_value templates u x y)
  settles = record {
    low = λ v B bounds n d h. walk_low templates (seek u x y v) x y most zero_at B
        (λ o. flat_low templates u.nodes u.plain (λ m. (plain_is o m).low)) cost_is.low (known_low v B bounds) n d order_is h;
    high = λ v there n l. walk_there templates (seek u x y v) x y most zero_at
        (λ o. flat_there templates u.nodes u.plain (λ m. (plain_is o m).high)) cost_is.high (known_there v there) n 0 (template_at templates n) l;
    outside = λ v m o. subst (λ t. (if_so (x == y) 0 ≤ PAST) ⊎ (NONE ≤ at (walk (seek u x y v) m 0 (from x) t) y)) (sym (get_or_past templates m none o)) outer;
    outside_least = λ m o l.
        let e = one l in
        let f : Has x y m none = subst (λ t. Runs (template_at templates) (graph u.nodes) u.aim m 0 x t y none) (sym (get_or_past templates m none o))
        (subst (λ z. Runs (template_at templates) (graph u.nodes) u.aim m 0 x none z none) e nothing) in
        let z : if_so (x == y) 0 ≡ 0 = if_true (x == y) 0 (eq-eqb x y e) in
        (record { low = λ d h. omega (arith, z); high = λ k. (none, f, omega (arith, z)) }, λ k. (f, omega (arith, z)));
  }
    where
      one : if_so (x == y) 0 ≤ PAST → x ≡ y
      one l = elim (cases_Bool (x == y)) [
        | inl e ↦ eqb-true x y e
        | inr e ↦ let f = ap (λ b. if_so b 0) e in absurd (omega (arith, f, l))
      ]

      split : (v : ℕ) → (v ≤ PAST) ⊎ (NONE ≤ v)
      split v = grind arith

      big : (v : ℕ) → (v ≤ PAST → ⊥) → NONE ≤ v
      big v f = elim (split v) [ inl l ↦ absurd (f l) | inr l ↦ l ]

      outer : (if_so (x == y) 0 ≤ PAST) ⊎ (NONE ≤ at (from x) y)
      outer = elim (cases_Bool (x == y)) [
        | inl e ↦ let f = if_true (x == y) 0 e in inl (omega (arith, f))
        | inr e ↦ inr (big (at (from x) y) (λ l. false≢true (sym e ∙ eq-eqb x y (from_there x y most l))))
      ]

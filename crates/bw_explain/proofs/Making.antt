-- What is put for a gap into a document that takes one state to another.
use Rattle.std.proofs.Common.{◌≡◌, inl, inr, ℕ, ◌+◌, ◌<◌, ◌≤◌, min, Bool, true, not, List, refl, ap, sym, ◌∙◌, subst, arith}
use Rattle.std.proofs.lemmas.Bool.{and_parts, and_from}
use Rattle.bw_lang.specs.Text.Bytes.{is_blank_text}
use Rattle.bw_lang.specs.Document.Forest.{Forest, none, text, gap}
use Rattle.bw_explain.specs.declared.sizes.TheConstants.{MAX_SIZE}
use Rattle.bw_explain.specs.declared.walk.Walk.{Walk as Going}
use Rattle.bw_explain.specs.Aims.{aim_of, walk_of, known_of, table_of}
use Rattle.bw_explain.specs.Sizes.{size, if_so, least_of, is_loose}
use Rattle.bw_explain.specs.Tables.{Table, size_at, doc_at, Documents}
use Rattle.bw_explain.specs.Walks.{Aim, takes, is_wordy, says_wordy, gap_cost, known_at, Runs, left, said, led, Adds, IsLoose, open_gap, one_text, Picks}
use Rattle.bw_explain.specs.Walks.{loose, plug}
use Rattle.bw_shape.specs.Nodes.Nodes.{among}
use Rattle.bw_explain.specs.Ways.{Way, way_of, ways_at, says, graph}
use Rattle.bw_explain.proofs.Filling.{led_there, way_at}
use Rattle.bw_explain.proofs.Given.{known_is}
use Rattle.bw_explain.proofs.Numbers.{least_is, if_there}
use Rattle.bw_explain.proofs.Runs.{stay_takes, next_takes, taken}

-- where no template has the least size, a string or the open gap does
pub loose_for : (known : ℕ → ℕ) (ms : List ℕ) (b : Bool) (v : ℕ) → v ≡ min (if_so b 1) (least_of known ms) → v ≤ MAX_SIZE
    → ((m : ℕ) → among ms m ≡ true → v < known m) → (b ≡ true) × (v ≡ 1)
loose_for known ms b v e l h = elim (least_is (if_so b 1) (least_of known ms)) [
  | inl k ↦ let c = if_there b 1 (let q = e in omega (arith, q, k, l)) in (c.0, e ∙ k ∙ c.1)
  | inr k ↦
      let m = led_there known ms (let q = e in omega (arith, q, k, l)) in
      let a = h m.0 m.1 in
      let b = m.2 in
      absurd (let q = e in omega (arith, a, b, q, k))
]

pub none_picks : (w : Going) (way : Way) (x y : ℕ) (t : Table) (v : ℕ) → v ≡ gap_cost (walk_of w) way x y → v ≤ MAX_SIZE → t ≡ table_of w.known x y
    → ((m : ℕ) → among way.led m ≡ true → v < size_at t m) → (takes x y (is_loose way) (says_wordy (aim_of w.aim) way) ≡ true) × (v ≡ 1)
none_picks w way x y t v e l g h = loose_for (known_at (known_of w.known) x y) way.led (takes x y (is_loose way) (says_wordy (aim_of w.aim) way)) v e l
    (λ m i. subst (λ f. v < f m) (sym (known_is w.known x y)) (subst (λ z. v < size_at z m) g (h m i)))

module _ (templates : ℕ → Forest) (nodes : List (List Way)) (A : Aim) (n k g x y v : ℕ) where
  -- what was put for a gap
  pub picks_run : (w : Way) (t : Table) (old new : Forest) → way_of (ways_at nodes n) g ≡ w → v ≤ MAX_SIZE
      → Documents (λ m d. Runs templates (graph nodes) A m 0 x (templates m) y d) t → Picks A w t x y v old new
      → Adds (Runs templates (graph nodes) A n k x (gap g none) y) v old new
  picks_run w t old new e l docs (loose {d = d} h o f) = record { some = d; behind = f; has = by h; most = sized h o }
    where
      is_at : w.at ≡ g
      is_at = ap (λ z. z.at) (sym e) ∙ way_at (ways_at nodes n) g

      by : {d : Forest} → IsLoose A w x y d → Runs templates (graph nodes) A n k x (gap g none) y d
      by (open_gap q o) = subst (λ z. Runs templates (graph nodes) A n k x (gap g none) z (gap w.at none)) q
          (subst (λ z. Runs templates (graph nodes) A n k x (gap g none) x (gap z none)) (sym is_at) (left (ap (λ z. z.is_open) e ∙ o)))
      by (one_text {s = s} q o) = said (ap (λ z. says z s) e ∙ q) o

      sized : {d : Forest} → IsLoose A w x y d → 1 ≤ v → size d ≤ v
      sized (open_gap q o) h = omega (arith, h)
      sized (one_text q o) h = omega (arith, h)
  picks_run w t old new e l docs (plug m i s f) =
      let d = docs m (omega (arith, s, l)) in
      record { some = doc_at t m; behind = f; has = led (ap (λ z. among z.led m) e ∙ i) d.0; most = let h = d.1 in omega (arith, h, s) }

-- a gap left open, or a text that may fill it
pub next_says : (A : Aim) (w : Way) (x y : ℕ) → (x ≡ y → ⊥) → takes x y (is_loose w) (says_wordy A w) ≡ true → (x + 1 ≡ y) × (says_wordy A w ≡ true)
next_says A w x y no_stay h = elim (taken x y (is_loose w) (says_wordy A w) h) [ inl a ↦ absurd (no_stay a.0) | inr a ↦ a ]

pub loose_next : (A : Aim) (w : Way) (x y : ℕ) (s : List ℕ) → (x ≡ y → ⊥) → takes x y (is_loose w) (says_wordy A w) ≡ true → says w s ≡ true
    → not (is_blank_text s) ≡ true → IsLoose A w x y (text s none)
loose_next A w x y s no_stay h said_it wordy =
    let n = next_says A w x y no_stay h in
    let k = and_parts _ A.wordy n.1 in
    one_text said_it (subst (λ z. takes x z true (is_wordy A s) ≡ true) n.0
    (next_takes x true (is_wordy A s) (and_from A.wordy (not (is_blank_text s)) k.1 wordy)))

pub loose_open : (A : Aim) (w : Way) (x y g : ℕ) → x ≡ y → w.is_open ≡ true → g ≡ w.at → IsLoose A w x y (gap g none)
loose_open A w x y g e o f = subst (λ z. IsLoose A w x y (gap z none)) (sym f) (open_gap e o)

pub loose_said : (A : Aim) (w : Way) (x y : ℕ) (s : List ℕ) → x ≡ y → says w s ≡ true → IsLoose A w x y (text s none)
loose_said A w x y s e h = one_text h (subst (λ z. takes x z true (is_wordy A s) ≡ true) e (stay_takes x true (is_wordy A s) refl))

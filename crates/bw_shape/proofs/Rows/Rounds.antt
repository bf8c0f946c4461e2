-- What looking at rows keeps, one after another and in rounds.
use Rattle.std.proofs.Common.{◌≡◌, ◌≢◌, inl, inr, ℕ, zero, suc, ◌+◌, ◌<◌, ◌≤◌, Bool, true, false, ◌||◌, List, [], length, get_or, replicate, refl, sym, ap, ◌∙◌}
use Rattle.std.proofs.Common.{subst, arith}
use Rattle.std.specs.List.{All, Contains}
use Rattle.std.proofs.lemmas.Bool.{false≢true}
use Rattle.std.proofs.lemmas.List.{get_or-replicate, length-replicate}
use Rattle.bw_shape.specs.Rows.Rows.{flag, at, missing}
use Rattle.bw_shape.specs.Rows.Least.{Derivation, IsDerived, IsClosedAt, IsLeast}
use Rattle.bw_shape.specs.Rows.Rounds.{ReadsLinks, AreReaders, Step, IsSettled, Progress, Look, Round}
use Rattle.bw_shape.proofs.Rows.Steps.{equal_or}
use Rattle.bw_shape.proofs.Rows.Waking.{last}

none_left : (a b : Bool) → (a || b) ≡ false → (a ≡ false) × (b ≡ false)
none_left false b h = (refl, h)
none_left true b h = absurd (false≢true (sym h))

empty_row : (rows n : ℕ) → get_or {A = List Bool} (replicate rows []) n [] ≡ []
empty_row zero n = refl
empty_row (suc rows) zero = refl
empty_row (suc rows) (suc n) = empty_row rows n

-- the flags of the rows that are due, after that of row n was cleared
pub record Clearing (n : ℕ) (due later : List Bool) : Type 0 where
  pub len : length later ≡ length due
  pub here : flag later n ≡ false
  pub others : (m : ℕ) → m ≢ n → flag later m ≡ flag due m

module _ {width rows : ℕ} {follows : Derivation} where
  progress_none : (table : List (List Bool)) (due : List Bool) → Progress width rows follows table table due due false
  progress_none table due = record {
    derived = λ d. d;
    settled = λ s. s;
    same = λ _. refl;
    quiet = λ _ n h. h;
    long = refl;
    len = refl;
    falls = λ d h. absurd (false≢true h);
  }

  no_more : {a b : List (List Bool)} {p q : List Bool} (x : Bool) → IsDerived width follows a → Progress width rows follows a b p q x
      → missing width b ≤ missing width a
  no_more true d s = let f = s.falls d refl in omega (arith, f)
  no_more {a = a} false d s = subst (λ t. missing width t ≤ missing width a) (sym (s.same refl)) (omega arith)

  then_falls : {a b c : List (List Bool)} {p q r : List Bool} (x y : Bool) → Progress width rows follows a b p q x → Progress width rows follows b c q r y
      → IsDerived width follows a → (x || y) ≡ true → missing width c < missing width a
  then_falls true y s t d h = let f = s.falls d refl in let g = no_more y (s.derived d) t in omega (arith, f, g)
  then_falls {c = c} false y s t d h = let e = s.same refl in
      subst (λ u. missing width c < missing width u) e (t.falls (s.derived d) h)

  progress_then : {a b c : List (List Bool)} {p q r : List Bool} {x y : Bool} → Progress width rows follows a b p q x → Progress width rows follows b c q r y
      → Progress width rows follows a c p r (x || y)
  progress_then {x = x} {y = y} s t = record {
    derived = λ d. t.derived (s.derived d);
    settled = λ h. t.settled (s.settled h);
    same = λ h. let e = none_left x y h in t.same e.1 ∙ s.same e.0;
    quiet = λ h n f. let e = none_left x y h in t.quiet e.1 n (s.quiet e.0 n f);
    long = t.long ∙ s.long;
    len = t.len ∙ s.len;
    falls = then_falls x y s t;
  }

  -- a row that isn't due
  pub look_idle : (n : ℕ) (table : List (List Bool)) (due : List Bool) → flag due n ≡ false → Look width rows follows n table table due due false
  look_idle n table due h = record { progress = progress_none table due; done = λ _. h }

  -- one in which nothing was new
  pub look_same : {n : ℕ} {old new : List (List Bool)} {due later : List Bool} → Clearing n due later → Step width follows n old new false
      → Look width rows follows n old new due later false
  look_same {n = n} {old = old} {new = new} {due = due} {later = later} k s = record {
    progress = record {
      derived = s.derived;
      settled = λ h m l f. elim (equal_or m n) [
        | inl here ↦ subst (λ j. IsClosedAt width follows new j) (sym here) (λ c v g. s.whole c v (subst (λ t. follows (at t) n c ≡ true) (s.same refl) g))
        | inr other ↦ subst (λ t. IsClosedAt width follows t m) (sym (s.same refl)) (h m l (sym (k.others m other) ∙ f))
      ];
      same = s.same;
      quiet = λ _ m f. elim (equal_or m n) [
        | inl here ↦ subst (λ j. flag later j ≡ false) (sym here) k.here
        | inr other ↦ k.others m other ∙ f
      ];
      long = s.long;
      len = k.len;
      falls = s.falls;
    };
    done = λ _. k.here;
  }

  -- what follows in a row that doesn't read the one that was looked at is as before
  unread : {links : ℕ → List (ℕ × ℕ)} {readers : List (List ℕ)} {n : ℕ} {old new : List (List Bool)} {changed : Bool} → ReadsLinks links follows
      → AreReaders rows links readers → n < rows → Step width follows n old new changed → (m : ℕ) → m < rows → ¬ (Contains (get_or readers n []) m)
      → (c : ℕ) → follows (at new) m c ≡ follows (at old) m c
  unread {links = links} {readers = readers} {n = n} {old = old} {new = new} law are l s m v apart c =
      law m c (at new) (at old) (λ j d i. elim (equal_or (get_or (links m) j d).1 n) [
        | inl it ↦ absurd (apart (subst (λ row. Contains (get_or readers row []) m) it (are.each m v j d i (omega (arith, it, l, are.len)))))
        | inr other ↦ s.others (get_or (links m) j d).1 other
      ])

  -- one in which something was new, where its readers are due then
  pub look_new : {links : ℕ → List (ℕ × ℕ)} {readers : List (List ℕ)} {n : ℕ} {old new : List (List Bool)} {due later last : List Bool}
      → ReadsLinks links follows → AreReaders rows links readers → n < rows → length due ≡ rows → Clearing n due later → Step width follows n old new true
      → length last ≡ length later → ((m : ℕ) → flag last m ≡ false → flag later m ≡ false)
      → ((m : ℕ) → m < length later → flag last m ≡ false → ¬ (Contains (get_or readers n []) m))
      → Look width rows follows n old new due last true
  look_new {n = n} {old = old} {new = new} {due = due} {last = last} law are l size k s len before apart = record {
    progress = record {
      derived = s.derived;
      settled = λ h m v f c w g.
          let old_follows : follows (at old) m c ≡ true = sym (unread law are l s m v (apart m (omega (arith, v, size, k.len)) f) c) ∙ g in
          elim (equal_or m n) [
            | inl here ↦ subst (λ j. at new j c ≡ true) (sym here) (s.whole c w (subst (λ j. follows (at old) j c ≡ true) here old_follows))
            | inr other ↦ s.others m other c ∙ h m v (sym (k.others m other) ∙ before m f) c w old_follows
          ];
      same = λ h. absurd (false≢true (sym h));
      quiet = λ h. absurd (false≢true (sym h));
      long = s.long;
      len = len ∙ k.len;
      falls = s.falls;
    };
    done = λ h. absurd (false≢true (sym h));
  }

  -- one row more
  pub round_more : {order : List ℕ} {k : ℕ} {a b c : List (List Bool)} {p q r : List Bool} {x y : Bool} → Round width rows follows order k a b p q x
      → Look width rows follows (get_or order k 0) b c q r y → Round width rows follows order (k + 1) a c p r (x || y)
  round_more {order = order} {k = k} {r = r} {x = x} {y = y} s t = record {
    progress = progress_then s.progress t.progress;
    done = λ h i l. let e = none_left x y h in elim (last k i l) [
      | inl before ↦ t.progress.quiet e.1 (get_or order i 0) (s.done e.0 i before)
      | inr here ↦ subst (λ j. flag r (get_or order j 0) ≡ false) (sym here) (t.done e.1)
    ];
  }

-- what the rounds keep
pub record Kept (width rows : ℕ) (follows : Derivation) (order : List ℕ) (table : List (List Bool)) (due : List Bool) (changed : Bool)
    : Type 0 where
  pub long : length table ≡ rows
  pub len : length due ≡ rows
  pub derived : IsDerived width follows table
  pub settled : IsSettled width rows follows table due
  pub done : changed ≡ false → (i : ℕ) → i < length order → flag due (get_or order i 0) ≡ false

module _ {width rows : ℕ} {follows : Derivation} where
  -- no fact is known, and each row is due
  pub kept_start : (order : List ℕ) → Kept width rows follows order (replicate rows []) (replicate rows true) true
  kept_start order = record {
    long = length-replicate {A = List Bool} rows [];
    len = length-replicate rows true;
    derived = λ n c h. absurd (false≢true (sym (nothing n c) ∙ h));
    settled = λ n l h. absurd (false≢true (sym h ∙ get_or-replicate rows n true false l));
    done = λ h. absurd (false≢true (sym h));
  }
    where
      nothing : (n c : ℕ) → at (replicate rows []) n c ≡ false
      nothing n c = ap (λ r. flag r c) (empty_row rows n)

  -- a round more
  pub kept_more : {order : List ℕ} {a b : List (List Bool)} {p q : List Bool} {x y : Bool} → Kept width rows follows order a p x
      → Round width rows follows order (length order) a b p q y → Kept width rows follows order b q y
  kept_more k r = record {
    long = r.progress.long ∙ k.long;
    len = r.progress.len ∙ k.len;
    derived = r.progress.derived k.derived;
    settled = r.progress.settled k.settled;
    done = r.done;
  }

  -- where no fact was new, the facts are the least
  pub kept_least : {order : List ℕ} {table : List (List Bool)} {due : List Bool} → Kept width rows follows order table due false
      → All (λ n. n < rows) order → IsLeast width follows order table
  kept_least {order = order} k small = record {
    derived = k.derived;
    closed = λ i l. k.settled (get_or order i 0) (small i 0 l) (k.done refl i l);
  }

-- The lists of the rows that read a row, and the flags of those that are due.
use Rattle.std.proofs.Common.{◌≡◌, ◌≢◌, ◌⊎◌, inl, inr, ℕ, ◌+◌, ◌<◌, ◌≤◌, Bool, true, false, List, [], ◌∷◌, length, set, get_or, refl, ap, sym, ◌∙◌}
use Rattle.std.proofs.Common.{subst, arith}
use Rattle.std.specs.List.{Contains}
use Rattle.std.proofs.lemmas.Bool.{false≢true}
use Rattle.std.proofs.lemmas.List.{get_or_past, get_or_default, get_or-set_same, get_or-set_other, length-set}
use Rattle.bw_shape.specs.Rows.Rows.{flag}
use Rattle.bw_shape.specs.Rows.Rounds.{IsEntered, IsLed, AreReadersBelow, Entered}
use Rattle.bw_shape.proofs.Rows.Rows.{split}
use Rattle.bw_shape.proofs.Rows.Steps.{equal_or}

pub last : (k c : ℕ) → c < k + 1 → (c < k) ⊎ (c ≡ k)
last k c h = grind arith

first : (j : ℕ) → j < 1 → j ≡ 0
first j h = omega (arith, h)

-- the row isn't there
pub enter_past : (n : ℕ) (link : ℕ × ℕ) (readers : List (List ℕ)) → length readers ≤ link.1 → Entered n (link ∷ []) 1 readers readers
enter_past n link readers l = record {
  len = refl;
  keeps = λ m reader h. h;
  done = λ j d h. subst (λ k. IsEntered n readers (get_or (link ∷ []) k d)) (sym (first j h)) (λ k. absurd (omega (arith, k, l)));
  only = λ m reader h. inl h;
}

-- the list of a row with one reader more
pub enter_row : (n : ℕ) (link : ℕ × ℕ) (readers : List (List ℕ)) (list : List ℕ) → link.1 < length readers
    → ((reader : ℕ) → Contains (get_or readers link.1 []) reader → Contains list reader) → Contains list n
    → ((reader : ℕ) → Contains list reader → Contains (get_or readers link.1 []) reader ⊎ (reader ≡ n))
    → Entered n (link ∷ []) 1 readers (set readers link.1 list)
enter_row n link readers list l keeps has only =
    let row = link.1 in
    record {
      len = length-set {A = List ℕ} readers row list;
      keeps = λ m reader h. elim (equal_or m row) [
        | inl here ↦ subst (λ k. Contains (get_or (set readers row list) k []) reader) (sym here)
            (subst (λ xs. Contains xs reader) (sym (get_or-set_same readers row list [] l))
            (keeps reader (subst (λ k. Contains (get_or readers k []) reader) here h)))
        | inr other ↦ subst (λ xs. Contains xs reader) (sym (get_or-set_other readers row m list [] other)) h
      ];
      done = λ j d h. subst (λ k. IsEntered n (set readers row list) (get_or (link ∷ []) k d)) (sym (first j h))
          (λ _. subst (λ xs. Contains xs n) (sym (get_or-set_same readers row list [] l)) has);
      only = λ m reader h. elim (equal_or m row) [
        | inl here ↦
            let there = subst (λ xs. Contains xs reader) (ap (λ k. get_or (set readers row list) k []) here ∙ get_or-set_same readers row list [] l) h in
            elim (only reader there) [
              | inl before ↦ inl (subst (λ k. Contains (get_or readers k []) reader) (sym here) before)
              | inr new ↦ inr (new, (0, link, omega arith, sym here))
            ]
        | inr other ↦ inl (subst (λ xs. Contains xs reader) (get_or-set_other readers row m list [] other) h)
      ];
    }

-- one link more
pub entered_more : {n k : ℕ} {links : List (ℕ × ℕ)} {link : ℕ × ℕ} {a b c : List (List ℕ)} → k < length links → link ≡ get_or links k link
    → Entered n links k a b → Entered n (link ∷ []) 1 b c → Entered n links (k + 1) a c
entered_more {n = n} {k = k} {links = links} {link = link} {c = c} l is s t = record {
  len = t.len ∙ s.len;
  keeps = λ m reader h. t.keeps m reader (s.keeps m reader h);
  done = λ j d h. elim (last k j h) [
    | inl before ↦ λ v. t.keeps (get_or links j d).1 n (s.done j d before (omega (arith, v, t.len)))
    | inr here ↦ subst (λ i. IsEntered n c (get_or links i d)) (sym here)
        (subst (IsEntered n c) (is ∙ get_or_default links k link d l) (t.done 0 d (omega arith)))
  ];
  only = λ m reader h. elim (t.only m reader h) [
    | inl before ↦ elim (s.only m reader before) [
      | inl old ↦ inl old
      | inr (same, (j, d, under, there)) ↦ inr (same, (j, d, omega (arith, under), there))
    ]
    | inr (same, (j, d, under, there)) ↦
        let here = ap (λ (z : ℕ × ℕ). z.1) (sym is) ∙ ap (λ i. (get_or (link ∷ []) i d).1) (sym (first j under)) ∙ there in
        inr (same, (k, link, omega arith, here))
  ];
}

-- one row more, with all of its links
pub entered_all : {n rows : ℕ} {links : ℕ → List (ℕ × ℕ)} {old new : List (List ℕ)} → AreReadersBelow n rows links old
    → Entered n (links n) (length (links n)) old new → AreReadersBelow (n + 1) rows links new
entered_all {n = n} {links = links} {new = new} a e = record {
  len = e.len ∙ a.len;
  each = λ m l j d h. elim (last n m l) [
    | inl before ↦ λ v. e.keeps (get_or (links m) j d).1 m (a.each m before j d h (omega (arith, v, e.len)))
    | inr here ↦ subst (λ i. IsEntered i new (get_or (links i) j d)) (sym here) (e.done j d (subst (λ i. j < length (links i)) here h))
  ];
  only = λ m reader h. elim (e.only m reader h) [
    | inl before ↦ let k = a.only m reader before in (omega (arith, k.0), k.1)
    | inr (same, there) ↦ (omega (arith, same), subst (λ i. IsLed (links i) (length (links i)) m) (sym same) there)
  ];
}

-- a row that isn't due after one more was made due wasn't before
pub raise_keeps : (old new : List Bool) (row : ℕ) → (row < length old → flag new row ≡ true) → ((c : ℕ) → (c ≡ row → ⊥) → flag new c ≡ flag old c)
    → (n : ℕ) → flag new n ≡ false → flag old n ≡ false
raise_keeps old new row here others n h = elim (equal_or n row) [
  | inl it ↦ elim (split row (length old)) [
    | inl low ↦ absurd (false≢true (sym h ∙ ap (flag new) it ∙ here low))
    | inr high ↦ ap (flag old) it ∙ get_or_past old row false high
  ]
  | inr other ↦ sym (others n other) ∙ h
]

-- those that were made due aren't among the others
pub raise_apart : (old new : List Bool) (row : ℕ) → (row < length old → flag new row ≡ true) → (n : ℕ) → n < length old → flag new n ≡ false → row ≢ n
raise_apart old new row here n l h e = false≢true (sym h ∙ ap (flag new) (sym e) ∙ here (subst (λ k. k < length old) (sym e) l))

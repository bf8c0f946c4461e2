-- Naming the tags of formulas, one after another.
use Rattle.std.proofs.Common.{◌≡◌, ℕ, ◌+◌, ◌<◌, ◌≤◌, Bool, true, false, ◌||◌, not, cond, List, [], ◌∷◌, ◌++◌, length, take, get_or, append_assoc, refl, sym, ap}
use Rattle.std.proofs.Common.{◌∙◌, subst, arith}
use Rattle.std.specs.List.{list_any}
use Rattle.std.proofs.lemmas.Bool.{false≢true, or_left, or_right, and_from}
use Rattle.std.proofs.lemmas.List.{append-nil, take_more}
use Rattle.std.proofs.lemmas.List.Elements.{All-append, All-cons}
use Rattle.std.proofs.lemmas.List.Folds.{list_any-append}
use borrow.Author.Tests.{eq-eqb}
use Rattle.bw_lang.specs.Table.Names.{name_number, with_name, Extends}
use Rattle.bw_lang.proofs.TableLaws.{extends_trans, extends_refl, added_are_there, names_stay}
use Rattle.bw_schema.specs.Needs.{Needs, nothing, all_of, some_of, content, order, append_needs}
use Rattle.bw_schema.specs.declared.needs.Formula.{Formula}
use Rattle.bw_schema.specs.NeedsView.{needs, before_need}
use Rattle.bw_schema.proofs.NeedsLaws.{needs_more}
use Rattle.bw_shape.specs.Tests.{tag_column}
use Rattle.bw_sum.proofs.ReadGaps.{longer}
use Rattle.bw_shape.specs.Formulas.{same_pair, pair_number, AreNamed, AreColumns, Names}
use Rattle.bw_shape.proofs.Stays.{named_stay, named_append}

-- a tag that was taken in is there
pub tag_low : (old new : List (List ℕ)) (x : List ℕ) → new ≡ with_name old x → name_number new x < length new
tag_low old new x e = subst (λ (t : List (List ℕ)). name_number t x < length t) (sym e) (added_are_there old (x ∷ []) 0 x (omega arith))

pub tag_front : (old new : List (List ℕ)) (x : List ℕ) → new ≡ with_name old x → Extends old new
tag_front old new x e = subst (λ t. Extends old t) (sym e) (names_stay old (x ∷ []))

-- one list of formulas and then another
pub names_then : {a b c : List (List ℕ)} {p q r : List (ℕ × ℕ)} (m n : Needs) → Names a b p q m → Names b c q r n → Names a c p r (append_needs m n)
names_then {a = a} {b = b} {c = c} {p = p} {q = q} {r = r} m n x y = record {
  front = extends_trans a b c x.front y.front;
  behind = (x.behind.0 ++ y.behind.0, y.behind.1 ∙ ap (λ k. k ++ y.behind.0) x.behind.1 ∙ append_assoc p x.behind.0 y.behind.0);
  small = λ s. y.small (x.small s);
  named = named_append c (length c) r m n
      (subst (λ k. AreNamed c (length c) k m) (sym y.behind.1)
      (named_stay b c (length b) (length c) q y.behind.0 y.front (omega arith) (longer b c y.front) m x.named)) y.named;
}

pub names_none : (a : List (List ℕ)) (p : List (ℕ × ℕ)) (n : Needs) → AreNamed a (length a) p n → Names a a p p n
names_none a p n h = record { front = extends_refl a; behind = ([], sym (append-nil p)); small = λ s. s; named = h }

wider : (k l : ℕ) (p : List (ℕ × ℕ)) → k ≤ l → AreColumns k p → AreColumns l p
wider k l p h a i d m = let b = a i d m in (omega (arith, b.0, h), omega (arith, b.1, h))

pub names_content : (a b : List (List ℕ)) (p : List (ℕ × ℕ)) (x : List ℕ) → Extends a b → name_number b x < length b → Names a b p p (content x nothing)
names_content a b p x e l = record { front = e; behind = ([], sym (append-nil p)); small = wider (length a) (length b) p (longer a b e); named = (l, tt) }

-- the pair that was pushed is found
pair_known : (p : ℕ × ℕ) (pairs : List (ℕ × ℕ)) → list_any (same_pair p) pairs ≡ true → pair_number pairs p < length pairs
pair_known p [] h = absurd (false≢true h)
pair_known p (q ∷ pairs) h = by_test (same_pair p q) h (pair_known p pairs)
  where
    by_test : (b : Bool) → (b || list_any (same_pair p) pairs) ≡ true → (list_any (same_pair p) pairs ≡ true → pair_number pairs p < length pairs)
        → cond (not b) (1 + pair_number pairs p) 0 < length (q ∷ pairs)
    by_test true h ih = omega arith
    by_test false h ih = omega (arith, ih h)

pub names_order : (a b c : List (List ℕ)) (p r : List (ℕ × ℕ)) (x y : List ℕ) (m n : ℕ) → Extends a b → Extends b c → name_number c x < length c
    → name_number c y < length c → m ≡ name_number c y + 1 → n ≡ name_number c x + 1
    → r ≡ p ++ (m, n) ∷ [] → Names a c p r (order x y nothing)
names_order a b c p r x y m n e f l k im in_ is =
    let pair : ℕ × ℕ = (tag_column c y, tag_column c x) in
    let one : m ≡ tag_column c y = omega (arith, im) in
    let two_ : n ≡ tag_column c x = omega (arith, in_) in
    let eq : r ≡ p ++ pair ∷ [] = is ∙ ap (λ z. p ++ (z, n) ∷ []) one ∙ ap (λ z. p ++ (tag_column c y, z) ∷ []) two_ in
    let found_it : list_any (same_pair pair) (p ++ pair ∷ []) ≡ true =
    list_any-append (same_pair pair) p (pair ∷ [])
    ∙ or_right (list_any (same_pair pair) p) _ (or_left (same_pair pair pair) false (and_from _ _ (eq-eqb pair.0 pair.0 refl) (eq-eqb pair.1 pair.1 refl))) in
    let low = pair_known pair (p ++ pair ∷ []) found_it in
    record {
      front = extends_trans a b c e f;
      behind = ((m, n) ∷ [], is);
      small = λ s. subst (AreColumns (length c)) (sym is) (All-append (λ q. (q.0 < length c + 1) × (q.1 < length c + 1)) p ((m, n) ∷ [])
          (wider (length a) (length c) p (longer a c (extends_trans a b c e f)) s)
          (All-cons (λ q. (q.0 < length c + 1) × (q.1 < length c + 1)) (m, n) [] (omega (arith, im, k), omega (arith, in_, l))
          (λ i d h. absurd (omega (arith, h)))));
      named = ((l, (k, subst (λ z. pair_number z pair < length z) (sym eq) low)), tt);
    }

-- one formula more
pub needs_take : (fs : List Formula) (i : ℕ) (f : Formula) → f ≡ get_or fs i f → i < length fs
    → needs (take (i + 1) fs) ≡ append_needs (needs (take i fs)) (before_need f nothing)
needs_take fs i f e h = ap needs (take_more fs i f h) ∙ needs_more (take i fs) (get_or fs i f)
    ∙ ap (λ g. append_needs (needs (take i fs)) (before_need g nothing)) (sym e)

pub names_all : {a b : List (List ℕ)} {p q : List (ℕ × ℕ)} {m : Needs} → Names a b p q m → Names a b p q (all_of m nothing)
names_all h = record { front = h.front; behind = h.behind; small = h.small; named = (h.named, tt) }

pub names_some : {a b : List (List ℕ)} {p q : List (ℕ × ℕ)} {m : Needs} → Names a b p q m → Names a b p q (some_of m nothing)
names_some h = record { front = h.front; behind = h.behind; small = h.small; named = (h.named, tt) }

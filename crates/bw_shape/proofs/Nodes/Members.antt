-- What the nodes say is what the members of the summary say.
use Rattle.std.proofs.Common.{◌≡◌, inl, inr, ℕ, ◌==◌, Bool, true, false, ◌||◌, ◌&&◌, not, if◌then◌else◌, List, [], ◌∷◌, refl, ap, sym, ◌∙◌}
use Rattle.std.specs.List.{list_any}
use Rattle.std.proofs.lemmas.Bool.{false≢true, cases_Bool, or_cases, or_left, or_right, and_parts, and_from, not-true}
use Rattle.std.specs.List.{AllByRecursion}
use Rattle.bw_solve.specs.Tables.{found}
use Rattle.std.specs.Prelude.{cond}
use Rattle.std.specs.declared.cmp.Ordering.{Ordering}
use Rattle.std.specs.declared.cmp.Ordering.TheVariants.{Less, Equal, Greater}
use Rattle.std.specs.Ordering.{nat_cmp, is_eq, ordering_then}
use borrow.Author.Tests.{eqb-true}
use Rattle.bw_lang.specs.Table.Names.{same}
use Rattle.bw_solve.specs.Sets.{has}
use Rattle.bw_strings.specs.declared.strings.StrSet.{StrSet}
use Rattle.bw_strings.specs.declared.strings.StrSet.TheVariants.{Any, Of}
use Rattle.bw_strings.specs.Asking.{text_of, has_string, blank}
use Rattle.bw_lang.specs.Text.Bytes.{is_blank_text}
use Rattle.bw_sum.specs.Edges.{edge_cmp}
use Rattle.bw_sum.specs.Labels.{pair_cmp, IsHeld, AreLabels}
use Rattle.bw_sum.proofs.PartLaws.{is_eq_nat}
use Rattle.bw_shape.specs.Nodes.Nodes.{among}
use Rattle.bw_shape.specs.Nodes.Parts.{links_of, opens_of, sayings_of, gaps_of, wordy_of}
use Rattle.bw_shape.proofs.Nodes.Bools.{fails_at, any_at, all_at, passes_at, same_itself}
use Rattle.std.proofs.lemmas.Slice.Eq.{bytes_eq-Decides}
use Rattle.std.proofs.Math.Bool.{and_assoc, or-false}

-- two orders one behind the other say equal where both do
pub then_eq : (a b : Ordering) → is_eq (ordering_then a b) ≡ (is_eq a && is_eq b)
then_eq Less b = refl
then_eq Equal b = refl
then_eq Greater b = refl

and_two : {a b c d : Bool} → a ≡ b → c ≡ d → (a && c) ≡ (b && d)
and_two {b = b} {c = c} p q = ap (λ x. x && c) p ∙ ap (λ x. b && x) q

two_eq : (p q : ℕ × ℕ) → is_eq (pair_cmp p q) ≡ ((p.0 == q.0) && (p.1 == q.1))
two_eq p q = then_eq (nat_cmp p.0 q.0) (nat_cmp p.1 q.1) ∙ and_two (is_eq_nat p.0 q.0) (is_eq_nat p.1 q.1)

three_eq : (p q : ℕ × ℕ × ℕ) → is_eq (edge_cmp p q) ≡ (((p.0 == q.0) && (p.1 == q.1)) && (p.2 == q.2))
three_eq p q = then_eq (ordering_then (nat_cmp p.0 q.0) (nat_cmp p.1 q.1)) (nat_cmp p.2 q.2) ∙ and_two (two_eq (p.0, p.1) (q.0, q.1)) (is_eq_nat p.2 q.2)

-- a test of a list with one item more, where another test says so
any_if : {X : Type 0} (p : X → Bool) (b : Bool) (x : X) (xs : List X) → list_any p (if b then x ∷ xs else xs) ≡ ((b && p x) || list_any p xs)
any_if p true x xs = refl
any_if p false x xs = refl

or_two : {a b c d : Bool} → a ≡ b → c ≡ d → (a || c) ≡ (b || d)
or_two {b = b} {c = c} p q = ap (λ x. x || c) p ∙ ap (λ x. b || x) q

pub links_are : (n g m : ℕ) (edges : List (ℕ × ℕ × ℕ)) → list_any (λ l. (l.0 == g) && (l.1 == m)) (links_of n edges) ≡ has edge_cmp edges (n, g, m)
links_are n g m [] = refl
links_are n g m (e ∷ es) =
    any_if (λ l. (l.0 == g) && (l.1 == m)) (e.0 == n) (e.1, e.2) (links_of n es)
    ∙ or_two (sym (and_assoc (e.0 == n) (e.1 == g) (e.2 == m)) ∙ sym (three_eq e (n, g, m))) (links_are n g m es)

turned : (a b : Bool) → (a && b) ≡ (b && a)
turned true true = refl
turned true false = refl
turned false true = refl
turned false false = refl

pub opens_are : (n g : ℕ) (tracks : List (ℕ × ℕ)) → among (opens_of n tracks) g ≡ has pair_cmp tracks (g, n)
opens_are n g [] = refl
opens_are n g (t ∷ ts) = any_if (λ m. m == g) (t.1 == n) t.0 (opens_of n ts) ∙ or_two (turned (t.1 == n) (t.0 == g) ∙ sym (two_eq t (g, n))) (opens_are n g ts)

abbrev at_gap : List (List ℕ) → ℕ → ℕ → List ℕ → (ℕ × ℕ) × StrSet → Bool
at_gap literals n g w l = ((l.0.0 == n) && (l.0.1 == g)) && has_string literals l.1 w

pub strings_are : (literals : List (List ℕ)) (n g : ℕ) (w : List ℕ) (labels : List ((ℕ × ℕ) × StrSet))
    → list_any (at_gap literals n g w) labels ≡ list_any (λ l. (l.0 == g) && has_string literals l.1 w) (sayings_of n labels)
strings_are literals n g w [] = refl
strings_are literals n g w (l ∷ ls) =
    or_two (and_assoc (l.0.0 == n) (l.0.1 == g) (has_string literals l.1 w)) (strings_are literals n g w ls)
    ∙ sym (any_if (λ l. (l.0 == g) && has_string literals l.1 w) (l.0.0 == n) (l.0.1, l.1) (sayings_of n ls))

-- a set that is held has a string
some_string : (literals : List (List ℕ)) (S : StrSet) → IsHeld S → (w : List ℕ) × (has_string literals S w ≡ true)
some_string literals Any h = ([], refl)
some_string literals (Of []) h = absurd (false≢true (sym h.1))
some_string literals (Of (n ∷ ns)) h = (
  text_of literals n,
  or_left (same (text_of literals n) (text_of literals n)) (list_any (λ k. same (text_of literals k) (text_of literals n)) ns)
      (same_itself (text_of literals n)),
)

wordy_string : (literals : List (List ℕ)) (S : StrSet) → blank literals S ≡ false → (w : List ℕ) × (has_string literals S w ≡ true) × (is_blank_text w ≡ false)
wordy_string literals Any h = (97 ∷ [], refl, refl)
wordy_string literals (Of ns) h =
    let r = fails_at (λ n. is_blank_text (text_of literals n)) ns h in
    (text_of literals r.0, any_at (λ n. same (text_of literals n) (text_of literals r.0)) ns r.0 r.1 (same_itself (text_of literals r.0)), r.2)

blank_string : (literals : List (List ℕ)) (S : StrSet) (w : List ℕ) → has_string literals S w ≡ true → is_blank_text w ≡ false → blank literals S ≡ false
blank_string literals Any w h k = refl
blank_string literals (Of ns) w h k = elim (cases_Bool (blank literals (Of ns))) [
  | inl it ↦
      let r = passes_at (λ n. same (text_of literals n) w) ns h in
      let e = all_at (λ n. is_blank_text (text_of literals n)) ns r.0 r.1 it in
      absurd (false≢true (sym k ∙ sym (ap is_blank_text ((bytes_eq-Decides (text_of literals r.0) w).0 r.2)) ∙ e))
  | inr isnt ↦ isnt
]

among_if : (b : Bool) (x : ℕ × StrSet) (xs : List (ℕ × StrSet)) (g : ℕ)
    → among (gaps_of (if b then x ∷ xs else xs)) g ≡ ((b && (x.0 == g)) || among (gaps_of xs) g)
among_if true x xs g = refl
among_if false x xs g = refl

pub said_to : (literals : List (List ℕ)) (n g : ℕ) (labels : List ((ℕ × ℕ) × StrSet)) → AreLabels labels → among (gaps_of (sayings_of n labels)) g ≡ true
    → (w : List ℕ) × (list_any (at_gap literals n g w) labels ≡ true)
said_to literals n g [] t h = absurd (false≢true h)
said_to literals n g (l ∷ ls) t h = elim (or_cases ((l.0.0 == n) && (l.0.1 == g)) (among (gaps_of (sayings_of n ls)) g)
    (sym (among_if (l.0.0 == n) (l.0.1, l.1) (sayings_of n ls) g) ∙ h)) [
      | inl it ↦ let s = some_string literals l.1 t.1.0 in (
        s.0,
        or_left (at_gap literals n g s.0 l) (list_any (at_gap literals n g s.0) ls)
            (and_from _ _ it s.1),
      )
      | inr it ↦ let r = said_to literals n g ls t.1.1 it in (r.0, or_right (at_gap literals n g r.0 l) _ r.1)
    ]

pub saying_from : (literals : List (List ℕ)) (n g : ℕ) (w : List ℕ) (labels : List ((ℕ × ℕ) × StrSet)) → list_any (at_gap literals n g w) labels ≡ true
    → among (gaps_of (sayings_of n labels)) g ≡ true
saying_from literals n g w [] h = absurd (false≢true h)
saying_from literals n g w (l ∷ ls) h = among_if (l.0.0 == n) (l.0.1, l.1) (sayings_of n ls) g
    ∙ elim (or_cases (at_gap literals n g w l) (list_any (at_gap literals n g w) ls) h) [
      | inl it ↦ or_left ((l.0.0 == n) && (l.0.1 == g)) (among (gaps_of (sayings_of n ls)) g) (and_parts _ _ it).0
      | inr it ↦ or_right ((l.0.0 == n) && (l.0.1 == g)) _ (saying_from literals n g w ls it)
    ]

wordy_cons : (b : Bool) (x g : ℕ) (xs : List ℕ) → among (if b then xs else x ∷ xs) g ≡ ((not b && (x == g)) || among xs g)
wordy_cons true x g xs = refl
wordy_cons false x g xs = refl

wordy_if : (literals : List (List ℕ)) (b : Bool) (x : ℕ × StrSet) (xs : List (ℕ × StrSet)) (g : ℕ)
    → among (wordy_of literals (if b then x ∷ xs else xs)) g ≡ ((b && (not (blank literals x.1) && (x.0 == g))) || among (wordy_of literals xs) g)
wordy_if literals true x xs g = wordy_cons (blank literals x.1) x.0 g (wordy_of literals xs)
wordy_if literals false x xs g = refl

pub wordy_to : (literals : List (List ℕ)) (n g : ℕ) (labels : List ((ℕ × ℕ) × StrSet)) → among (wordy_of literals (sayings_of n labels)) g ≡ true
    → (w : List ℕ) × (list_any (at_gap literals n g w) labels ≡ true) × (is_blank_text w ≡ false)
wordy_to literals n g [] h = absurd (false≢true h)
wordy_to literals n g (l ∷ ls) h =
    elim (or_cases ((l.0.0 == n) && (not (blank literals l.1) && (l.0.1 == g))) (among (wordy_of literals (sayings_of n ls)) g)
    (sym (wordy_if literals (l.0.0 == n) (l.0.1, l.1) (sayings_of n ls) g) ∙ h)) [
      | inl it ↦
          let p = and_parts (l.0.0 == n) (not (blank literals l.1) && (l.0.1 == g)) it in
          let q = and_parts (not (blank literals l.1)) (l.0.1 == g) p.1 in
          let s = wordy_string literals l.1 (not-true _ q.0) in
          (s.0, or_left (at_gap literals n g s.0 l) (list_any (at_gap literals n g s.0) ls) (and_from _ _ (and_from _ _ p.0 q.1) s.1), s.2)
      | inr it ↦ let r = wordy_to literals n g ls it in (r.0, or_right (at_gap literals n g r.0 l) _ r.1, r.2)
    ]

pub wording_from : (literals : List (List ℕ)) (n g : ℕ) (w : List ℕ) (labels : List ((ℕ × ℕ) × StrSet)) → list_any (at_gap literals n g w) labels ≡ true
    → is_blank_text w ≡ false
    → among (wordy_of literals (sayings_of n labels)) g ≡ true
wording_from literals n g w [] h k = absurd (false≢true h)
wording_from literals n g w (l ∷ ls) h k = wordy_if literals (l.0.0 == n) (l.0.1, l.1) (sayings_of n ls) g
    ∙ elim (or_cases (at_gap literals n g w l) (list_any (at_gap literals n g w) ls) h) [
      | inl it ↦
          let p = and_parts ((l.0.0 == n) && (l.0.1 == g)) (has_string literals l.1 w) it in
          let q = and_parts (l.0.0 == n) (l.0.1 == g) p.0 in
          or_left ((l.0.0 == n) && (not (blank literals l.1) && (l.0.1 == g))) (among (wordy_of literals (sayings_of n ls)) g)
          (and_from _ _ q.0 (and_from _ _ (ap not (blank_string literals l.1 w p.1 k)) q.1))
      | inr it ↦ or_right ((l.0.0 == n) && (not (blank literals l.1) && (l.0.1 == g))) _ (wording_from literals n g w ls it k)
    ]

-- the strings at a gap are those of its label
pub label_is : (literals : List (List ℕ)) (n g : ℕ) (w : List ℕ) (labels : List ((ℕ × ℕ) × StrSet)) → AreLabels labels
    → list_any (at_gap literals n g w) labels ≡ has_string literals (found pair_cmp (Of []) labels (n, g)) w
label_is literals n g w [] t = refl
label_is literals n g w (l ∷ ls) t = by_key (is_eq (pair_cmp l.0 (n, g))) refl (label_is literals n g w ls t.1.1)
  where
    none_behind : (rest : List ((ℕ × ℕ) × StrSet)) → AllByRecursion (λ f. pair_cmp l.0 f.0 ≡ Less) rest → is_eq (pair_cmp l.0 (n, g)) ≡ true
        → list_any (at_gap literals n g w) rest ≡ false
    none_behind [] a e = refl
    none_behind (f ∷ rest) a e = elim (cases_Bool (((f.0.0 == n) && (f.0.1 == g)))) [
      | inl it ↦
          let p = and_parts (f.0.0 == n) (f.0.1 == g) it in
          let q = and_parts (l.0.0 == n) (l.0.1 == g) (sym (two_eq l.0 (n, g)) ∙ e) in
          let m : (l.0.0 == f.0.0) ≡ true = ap (λ k. l.0.0 == k) (eqb-true f.0.0 n p.0) ∙ q.0 in
          let o : (l.0.1 == f.0.1) ≡ true = ap (λ k. l.0.1 == k) (eqb-true f.0.1 g p.1) ∙ q.1 in
          absurd (false≢true (sym (ap is_eq a.0) ∙ two_eq l.0 f.0 ∙ and_from _ _ m o))
      | inr isnt ↦ ap (λ b. (b && has_string literals f.1 w) || list_any (at_gap literals n g w) rest) isnt ∙ none_behind rest a.1 e
    ]

    by_key : (b : Bool) → is_eq (pair_cmp l.0 (n, g)) ≡ b → list_any (at_gap literals n g w) ls ≡ has_string literals (found pair_cmp (Of []) ls (n, g)) w
        → (at_gap literals n g w l || list_any (at_gap literals n g w) ls) ≡ has_string literals (cond b l.1 (found pair_cmp (Of []) ls (n, g))) w
    by_key true e ih =
        ap (λ b. (b && has_string literals l.1 w) || list_any (at_gap literals n g w) ls) (sym (two_eq l.0 (n, g)) ∙ e)
        ∙ ap (λ b. has_string literals l.1 w || b) (none_behind ls t.0 e) ∙ or-false (has_string literals l.1 w)
    by_key false e ih = ap (λ b. (b && has_string literals l.1 w) || list_any (at_gap literals n g w) ls) (sym (two_eq l.0 (n, g)) ∙ e) ∙ ih

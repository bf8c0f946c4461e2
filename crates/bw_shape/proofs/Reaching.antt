-- The templates that are reached.
use Rattle.std.proofs.Common.{◌≡◌, ◌≢◌, ◌⊎◌, inl, inr, ℕ, zero, suc, ◌+◌, ◌<◌, ◌≤◌, ◌==◌, ◌&&◌, ◌++◌, Bool, true, false, List, [], ◌∷◌, length, set, get_or}
use Rattle.std.proofs.Common.{replicate, refl, ap, sym, ◌∙◌, subst, arith}
use Rattle.std.specs.List.{list_any, Contains}
use Rattle.std.proofs.lemmas.Bool.{false≢true, or_cases, or_left, or_right, and_parts, and_from}
use Rattle.std.proofs.lemmas.List.{get_or-set_same, get_or-set_other, length-set, length-append, get_or_append_left, get_or_default, get_or-replicate}
use Rattle.std.proofs.lemmas.List.{length-replicate}
use Rattle.std.proofs.lemmas.List.Elements.{All-push, Contains-append_left, Contains-push}
use borrow.Author.Tests.{eqb-true, eq-eqb}
use Rattle.bw_shape.specs.Rows.Rows.{flag, ones}
use Rattle.bw_shape.specs.Nodes.Nodes.{Node, node_at, no_node}
use Rattle.bw_shape.specs.Reach.{links_to, Walked, root_is, along, Takes, Visit, Reaching, Reaches}
use Rattle.bw_shape.proofs.Rows.Steps.{equal_or, in_row}
use Rattle.bw_shape.proofs.Rows.Waking.{last}

ones_set : (xs : List Bool) (n : ℕ) → n < length xs → flag xs n ≡ false → ones (set xs n true) ≡ suc (ones xs)
ones_set [] n l h = absurd (omega (arith, l))
ones_set (true ∷ xs) zero l h = absurd (false≢true (sym h))
ones_set (false ∷ xs) zero l h = omega arith
ones_set (b ∷ xs) (suc n) l h = let k = ones_set xs n (omega (arith, l)) h in omega (arith, k)

pub set_keeps : (xs : List Bool) (to n : ℕ) → to < length xs → (n ≡ to) ⊎ (n ≢ to) → flag xs n ≡ true → flag (set xs to true) n ≡ true
set_keeps xs to n l (inl e) h = subst (λ j. flag (set xs to true) j ≡ true) (sym e) (get_or-set_same xs to true false l)
set_keeps xs to n l (inr e) h = get_or-set_other xs to n true false e ∙ h

pub set_news : (xs : List Bool) (to n : ℕ) → (n ≡ to) ⊎ (n ≢ to) → flag (set xs to true) n ≡ true → (flag xs n ≡ true) ⊎ (n ≡ to)
set_news xs to n (inl e) h = inr e
set_news xs to n (inr e) h = inl (sym (get_or-set_other xs to n true false e) ∙ h)

pub visit_start : (links : List (ℕ × ℕ)) (seen : List Bool) (order : List ℕ) → Visit links 0 seen order seen order
visit_start links seen order = record {
  len = refl;
  count = refl;
  keeps = λ n h. h;
  long = omega arith;
  front = λ i l. refl;
  listed = λ h. h;
  marked = λ h. h;
  news = λ n h. inl h;
  done = λ j l. absurd (omega (arith, l));
}

-- one link more
pub visit_more : (links : List (ℕ × ℕ)) (k : ℕ) (seen : List Bool) (order : List ℕ) (seen1 : List Bool) (order1 : List ℕ) (seen2 : List Bool) (order2 : List ℕ)
    → (get_or links k (0, 0)).1 < length seen1 → Visit links k seen order seen1 order1 → Takes (get_or links k (0, 0)).1 seen1 order1 seen2 order2
    → Visit links (k + 1) seen order seen2 order2
visit_more links k seen order seen1 order1 seen2 order2 l v (inl t) =
    subst (λ s. Visit links (k + 1) seen order s order2) (sym t.1) (subst (λ o. Visit links (k + 1) seen order seen1 o) (sym t.2) (record {
      len = v.len;
      count = v.count;
      keeps = v.keeps;
      long = v.long;
      front = v.front;
      listed = v.listed;
      marked = v.marked;
      news = λ n h. elim (v.news n h) [ inl it ↦ inl it | inr it ↦ inr (it.0, omega (arith, it.1), it.2) ];
      done = λ j m. elim (last k j m) [ inl it ↦ v.done j it | inr it ↦ subst (λ i. flag seen1 (get_or links i (0, 0)).1 ≡ true) (sym it) t.0 ];
    }))
visit_more links k seen order seen1 order1 seen2 order2 l v (inr t) =
    let to = (get_or links k (0, 0)).1 in
    subst (λ s. Visit links (k + 1) seen order s order2) (sym t.1) (subst (λ o. Visit links (k + 1) seen order (set seen1 to true) o) (sym t.2) (record {
      len = length-set seen1 to true ∙ v.len;
      count = let a = ones_set seen1 to l t.0 in let b = length-append order1 (to ∷ []) in omega (arith, v.count, a, b);
      keeps = λ n h. set_keeps seen1 to n l (equal_or n to) (v.keeps n h);
      long = let b = length-append order1 (to ∷ []) in omega (arith, v.long, b);
      front = λ i m. get_or_append_left order1 (to ∷ []) 0 i (omega (arith, m, v.long)) ∙ v.front i m;
      listed = λ f n h. elim (set_news seen1 to n (equal_or n to) h) [
        | inl it ↦ Contains-append_left order1 (to ∷ []) n (v.listed f n it)
        | inr it ↦ subst (λ j. Contains (order1 ++ to ∷ []) j) (sym it) (Contains-push order1 to)
      ];
      marked = λ f. All-push (λ n. flag (set seen1 to true) n ≡ true) order1 to
          (λ i d m. set_keeps seen1 to (get_or order1 i d) l (equal_or (get_or order1 i d) to) (v.marked f i d m)) (get_or-set_same seen1 to true false l);
      news = λ n h. elim (set_news seen1 to n (equal_or n to) h) [
        | inl it ↦ elim (v.news n it) [ inl old ↦ inl old | inr new ↦ inr (new.0, omega (arith, new.1), new.2) ]
        | inr it ↦ inr (k, omega arith, sym it)
      ];
      done = λ j m. elim (last k j m) [
        | inl it ↦ set_keeps seen1 to (get_or links j (0, 0)).1 l (equal_or (get_or links j (0, 0)).1 to) (v.done j it)
        | inr it ↦ subst (λ i. flag (set seen1 to true) (get_or links i (0, 0)).1 ≡ true) (sym it) (get_or-set_same seen1 to true false l)
      ];
    }))

-- a link that is found has a place
place_of : (links : List (ℕ × ℕ)) (g m : ℕ) → list_any (λ l. (l.0 == g) && (l.1 == m)) links ≡ true
    → (j : ℕ) × (j < length links) × ((get_or links j (0, 0)).1 ≡ m)
place_of [] g m h = absurd (false≢true h)
place_of (l ∷ links) g m h = elim (or_cases ((l.0 == g) && (l.1 == m)) (list_any (λ k. (k.0 == g) && (k.1 == m)) links) h) [
  | inl it ↦ (0, omega arith, eqb-true l.1 m (and_parts (l.0 == g) (l.1 == m) it).1)
  | inr it ↦ let r = place_of links g m it in (suc r.0, omega (arith, r.1), r.2)
]

-- what stands at a place is linked
at_place : (links : List (ℕ × ℕ)) (j : ℕ) → j < length links
    → list_any (λ l. (l.0 == (get_or links j (0, 0)).0) && (l.1 == (get_or links j (0, 0)).1)) links ≡ true
at_place [] j h = absurd (omega (arith, h))
at_place (l ∷ links) zero h = or_left ((l.0 == l.0) && (l.1 == l.1)) _ (and_from (l.0 == l.0) (l.1 == l.1) (eq-eqb l.0 l.0 refl) (eq-eqb l.1 l.1 refl))
at_place (l ∷ links) (suc j) h = or_right ((l.0 == (get_or links j (0, 0)).0) && (l.1 == (get_or links j (0, 0)).1)) _ (at_place links j (omega (arith, h)))

none_set : (n : ℕ) → ones (replicate n false) ≡ 0
none_set zero = refl
none_set (suc n) = let k = none_set n in omega (arith, k)

pub all_clear : (n c : ℕ) → flag (replicate n false) c ≡ false
all_clear zero c = refl
all_clear (suc n) zero = refl
all_clear (suc n) (suc c) = all_clear n c

pub reach_start : (nodes : List Node) (root : ℕ) (seen : List Bool) (order : List ℕ) → root < length nodes
    → Takes root (replicate (length nodes) false) [] seen order → Reaching nodes root seen order 0
reach_start nodes root seen order l (inl t) = absurd (false≢true (sym (get_or-replicate (length nodes) root false false l) ∙ t.0))
reach_start nodes root seen order l (inr t) =
    let clear : List Bool = replicate (length nodes) false in
    let size : length clear ≡ length nodes = length-replicate {A = Bool} (length nodes) false in
    let in_it : root < length clear = omega (arith, l, size) in
    subst (λ s. Reaching nodes root s order 0) (sym t.1) (subst (λ o. Reaching nodes root (set clear root true) o 0) (sym t.2) (record {
      len = length-set clear root true ∙ size;
      count = let a = ones_set clear root in_it (get_or-replicate (length nodes) root false false l) in let b = none_set (length nodes) in omega (arith, a, b);
      low = omega arith;
      rooted = get_or-set_same clear root true false in_it;
      listed = λ n h. elim (set_news clear root n (equal_or n root) h) [
        | inl it ↦ absurd (false≢true (sym (all_clear (length nodes) n) ∙ it))
        | inr it ↦ (0, omega arith, sym it)
      ];
      marked = λ i d m. let z : i ≡ 0 = omega (arith, m) in
          subst (λ k. flag (set clear root true) (get_or (root ∷ []) k d) ≡ true) (sym z) (get_or-set_same clear root true false in_it);
      sound = λ n h. elim (set_news clear root n (equal_or n root) h) [
        | inl it ↦ absurd (false≢true (sym (all_clear (length nodes) n) ∙ it))
        | inr it ↦ subst (Walked nodes root) (sym it) root_is
      ];
      done = λ j m. absurd (omega (arith, m));
    }))

-- one template more
pub reach_more : (nodes : List Node) (root : ℕ) (seen : List Bool) (order : List ℕ) (k : ℕ) (seen2 : List Bool) (order2 : List ℕ)
    → k < length order → Reaching nodes root seen order k
    → Visit (node_at nodes (get_or order k 0)).links (length (node_at nodes (get_or order k 0)).links) seen order seen2 order2
    → Reaching nodes root seen2 order2 (k + 1)
reach_more nodes root seen order k seen2 order2 l r v = record {
  len = v.len ∙ r.len;
  count = omega (arith, v.count, r.count);
  low = omega (arith, l, v.long);
  rooted = v.keeps root r.rooted;
  listed = v.listed r.listed;
  marked = v.marked r.marked;
  sound = λ n h. elim (v.news n h) [
    | inl it ↦ r.sound n it
    | inr it ↦ let links = (node_at nodes (get_or order k 0)).links in
        subst (Walked nodes root) it.2 (along (get_or links it.0 (0, 0)).0 (r.sound (get_or order k 0) (r.marked k 0 l)) (at_place links it.0 it.1))
  ];
  done = λ j m g to h. elim (last k j m) [
    | inl it ↦ v.keeps to (r.done j it g to (subst (λ i. links_to (node_at nodes i) g to ≡ true) (v.front j (omega (arith, it, l))) h))
    | inr it ↦ let e : get_or order2 j 0 ≡ get_or order k 0 = ap (λ i. get_or order2 i 0) it ∙ v.front k l in
        let p = place_of (node_at nodes (get_or order k 0)).links g to (subst (λ i. links_to (node_at nodes i) g to ≡ true) e h) in
        subst (λ i. flag seen2 i ≡ true) p.2 (v.done p.0 p.1)
  ];
}

-- all were looked at
walked_seen : (nodes : List Node) (root : ℕ) (seen : List Bool) (order : List ℕ) → Reaching nodes root seen order (length order)
    → (n : ℕ) → Walked nodes root n → flag seen n ≡ true
walked_seen nodes root seen order r n root_is = r.rooted
walked_seen nodes root seen order r n (along {n = m} g w e) =
    let c = r.listed m (walked_seen nodes root seen order r m w) in
    r.done c.0 c.1 g n (subst (λ i. links_to (node_at nodes i) g n ≡ true) (sym (get_or_default order c.0 0 m c.1 ∙ c.2)) e)

pub reach_all : (nodes : List Node) (root : ℕ) (seen : List Bool) (order : List ℕ) (k : ℕ) → length order ≤ k
    → Reaching nodes root seen order k → Reaches nodes root order
reach_all nodes root seen order k l r =
    let e : k ≡ length order = let low = r.low in omega (arith, l, low) in
    let q = subst (Reaching nodes root seen order) e r in
    record {
      sound = λ i d m. q.sound (get_or order i d) (q.marked i d m);
      whole = λ n w. q.listed n (walked_seen nodes root seen order q n w);
      small = λ i d m. let x = in_row seen (get_or order i d) (q.marked i d m) in omega (arith, x, q.len);
    }

-- the links of the template that is next
pub next_links : (nodes : List Node) (root : ℕ) (seen : List Bool) (order : List ℕ) (k : ℕ) → k < length order → Reaching nodes root seen order k
    → (x : ℕ) → x ≡ get_or order k x → (node : Node) → node ≡ get_or nodes x node → (links : List (ℕ × ℕ)) → links ≡ node.links
    → links ≡ (node_at nodes (get_or order k 0)).links
next_links nodes root seen order k l r x e node f links h =
    let at : x ≡ get_or order k 0 = e ∙ get_or_default order k x 0 l in
    let m = in_row seen (get_or order k 0) (r.marked k 0 l) in
    let b : x < length nodes = omega (arith, m, at, r.len) in
    h ∙ ap (λ n. n.links) (f ∙ get_or_default nodes x node no_node b ∙ ap (λ j. get_or nodes j no_node) at)

-- Rows and names, one after the other.
use Rattle.std.proofs.Common.{◌≡◌, ◌⊎◌, inl, inr, ℕ, zero, suc, ◌+◌, ◌<◌, ◌≤◌, ◌++◌, Bool, true, false, cond, List, [], ◌∷◌, length, get_or, drop}
use Rattle.std.proofs.Common.{map, Option, Some, None, refl, sym, ap, ◌∙◌, arith}
use denote.Ref.{Bor}
use Rattle.std.specs.Slice.{IsItemAt}
use Rattle.std.specs.Prelude.{slice_get, if◌then◌else◌, filter, nat_lt, position, MatchOption}
use Rattle.std.specs.List.{All, position_or_len}
use Rattle.std.proofs.lemmas.Bool.{cases_lt, ltb-true}
use Rattle.std.proofs.lemmas.List.{append-nil, at_drop_all, length_push}
use Rattle.std.proofs.lemmas.Option.{get_or_from_slice_get, slice_get_within}
use Rattle.std.proofs.lemmas.List.Elements.{All-nil, All-cons, All-push}
use Rattle.bw_lang.specs.declared.service.Service.{Service}
use Rattle.bw_lang.specs.declared.service.Template.{Template}
use Rattle.bw_lang.specs.declared.expr.Pair.{Pair}
use Rattle.bw_lang.specs.Table.Names.{same}
use Rattle.bw_lang.specs.Service.Term.{nodes, nodes_in}
use Rattle.bw_lang.specs.Service.TermView.{term, fillings}
use Rattle.bw_flow.specs.Steps.{Step}
use Rattle.bw_sum.specs.Constants.{constant_of}
use Rattle.bw_sum.specs.Templates.{template_items}
use Rattle.bw_sum.specs.declared.summary.Summary.{Summary}
use Rattle.bw_types.specs.Scopes.{template_of}
use Rattle.bw_analyse.specs.declared.abstracts.Abstract.{Abstract}
use Rattle.bw_analyse.specs.declared.abstracts.Abstract.TheVariants.{Nothing, Html}
use Rattle.bw_analyse.specs.Abstracts.{AreAlike, both}
use Rattle.bw_analyse.specs.Constants.{first_constants}
use Rattle.bw_analyse.specs.Known.{of_name, constant_at}
use Rattle.bw_analyse.specs.Readers.{all_below, readers_at}
use Rattle.bw_analyse.specs.Rows.{EachAlike, each_join}

none_of : (names : List (List ℕ)) (w : List ℕ) → of_name names [] w ≡ None
none_of [] w = refl
none_of (n ∷ ns) w = refl

-- the row of no variable
abbrev no_row : List Abstract
no_row = []

drop_none : (n : ℕ) → drop n no_row ≡ no_row
drop_none zero = refl
drop_none (suc n) = refl

module _ {X : Type 0} (name : X → List ℕ) where
  pub next_name : (xs : List X) (row : List Abstract) (i : ℕ) (x : X) (w : List ℕ) → x ≡ get_or xs i x → i < length xs → same w (name x) ≡ false
      → of_name (map name (drop i xs)) (drop i row) w ≡ of_name (map name (drop (i + 1) xs)) (drop (i + 1) row) w
  next_name [] row i x w e l s = absurd (omega arith)
  next_name (y ∷ ys) [] zero x w e l s = sym (none_of (map name ys) w)
  next_name (y ∷ ys) (a ∷ row) zero x w e l s = ap (λ b. if b then Some a else of_name (map name ys) row w) (ap (λ z. same w (name z)) (sym e) ∙ s)
  next_name (y ∷ ys) [] (suc i) x w e l s =
      none_of (map name (drop i ys)) w ∙ sym (none_of (map name (drop (suc i + 1) (y ∷ ys))) w)
      ∙ ap (λ r. of_name (map name (drop (suc i + 1) (y ∷ ys))) r w) (sym (drop_none (suc i + 1)))
  next_name (y ∷ ys) (a ∷ row) (suc i) x w e l s =
      let k : suc i + 1 ≡ suc (i + 1) = omega arith in
      next_name ys row i x w e (omega arith) s ∙ ap (λ n. of_name (map name (drop n (y ∷ ys))) (drop n (a ∷ row)) w) (sym k)

  pub found_name : (xs : List X) (row : List Abstract) (i : ℕ) (x : X) (w : List ℕ) → x ≡ get_or xs i x → i < length xs → same w (name x) ≡ true
      → of_name (map name (drop i xs)) (drop i row) w ≡ slice_get row i
  found_name [] row i x w e l s = absurd (omega arith)
  found_name (y ∷ ys) [] zero x w e l s = refl
  found_name (y ∷ ys) (a ∷ row) zero x w e l s = ap (λ b. if b then Some a else of_name (map name ys) row w) (ap (λ z. same w (name z)) (sym e) ∙ s)
  found_name (y ∷ ys) [] (suc i) x w e l s = none_of (map name (drop i ys)) w
  found_name (y ∷ ys) (a ∷ row) (suc i) x w e l s = found_name ys row i x w e (omega arith) s

map_same : {X : Type 0} (xs : List X) → map (λ x. x) xs ≡ xs
map_same [] = refl
map_same (x ∷ xs) = ap (λ ys. x ∷ ys) (map_same xs)

-- the same of names alone
pub next_plain : (names : List (List ℕ)) (row : List Abstract) (i : ℕ) (x w : List ℕ) → x ≡ get_or names i x → i < length names → same w x ≡ false
    → of_name (drop i names) (drop i row) w ≡ of_name (drop (i + 1) names) (drop (i + 1) row) w
next_plain names row i x w e l s =
    ap (λ ys. of_name ys (drop i row) w) (sym (map_same (drop i names))) ∙ next_name (λ (n : List ℕ). n) names row i x w e l s
    ∙ ap (λ ys. of_name ys (drop (i + 1) row) w) (map_same (drop (i + 1) names))

-- ---- rows, place by place

pub alike_at : (xs ys : List Abstract) (i : ℕ) (d e : Abstract) → EachAlike AreAlike xs ys → i < length xs → i < length ys
    → AreAlike (get_or xs i d) (get_or ys i e)
alike_at [] ys i d e h k l = absurd (omega arith)
alike_at (x ∷ xs) [] i d e h k l = absurd h
alike_at (x ∷ xs) (y ∷ ys) zero d e h k l = h.0
alike_at (x ∷ xs) (y ∷ ys) (suc i) d e h k l = alike_at xs ys i d e h.1 (omega arith) (omega arith)

none_right : (xs : List Abstract) → each_join both xs [] ≡ []
none_right [] = refl
none_right (x ∷ xs) = refl

-- where one of the two rows ends, so does their join
pub join_ends : (xs ys : List Abstract) (i : ℕ) (list : List Abstract) → (length xs ≤ i) ⊎ (length ys ≤ i)
    → list ++ each_join both (drop i xs) (drop i ys) ≡ each_join both xs ys → list ≡ each_join both xs ys
join_ends xs ys i list (inl h) e =
    sym (append-nil list) ∙ sym (at_drop_all (λ zs. list ++ each_join both zs (drop i ys)) xs i h) ∙ e
join_ends xs ys i list (inr h) e =
    sym (append-nil list) ∙ ap (λ zs. list ++ zs) (sym (none_right (drop i xs)))
    ∙ sym (at_drop_all (λ zs. list ++ each_join both (drop i xs) zs) ys i h) ∙ e

-- ---- the numbers of readers

all_small : (m n : ℕ) → m ≤ n → All (λ r. r < n) (all_below m)
all_small zero n h = All-nil (λ r. r < n)
all_small (suc m) n h = All-push (λ r. r < n) (all_below m) m (all_small m n (omega arith)) (omega arith)

filter_small : (n : ℕ) (next : List ℕ) → All (λ r. r < n + 1) (filter (λ q. nat_lt q n) next)
filter_small n [] = All-nil (λ r. r < n + 1)
filter_small n (q ∷ qs) = by_test (nat_lt q n) refl (filter_small n qs)
  where
    by_test : (b : Bool) → nat_lt q n ≡ b → All (λ r. r < n + 1) (filter (λ q. nat_lt q n) qs)
        → All (λ r. r < n + 1) (cond b (q ∷ filter (λ q. nat_lt q n) qs) (filter (λ q. nat_lt q n) qs))
    by_test true e h = All-cons (λ r. r < n + 1) q (filter (λ q. nat_lt q n) qs) (let l : q < n = ltb-true q n e in omega arith) h
    by_test false e h = h

pub readers_small : (n : ℕ) (o : Option Step) → All (λ r. r < n + 1) (readers_at n o)
readers_small n None = all_small (n + 1) (n + 1) (omega arith)
readers_small n (Some x) = All-push (λ r. r < n + 1) (filter (λ q. nat_lt q n) x.next) n (filter_small n x.next) (omega arith)

-- ---- constants

pub constant_at_place : (service : Service) (m n : ℕ) → n < m
    → slice_get (first_constants service m) n ≡ Some (constant_of n (template_items service n) (length service.gaps))
constant_at_place service zero n h = absurd (omega arith)
constant_at_place service (suc m) n h = by_cases (cases_lt n m) (λ l. constant_at_place service m n l)
  where
    count : (m : ℕ) → length (first_constants service m) ≡ m
    count zero = refl
    count (suc m) = length_push (first_constants service m) (constant_of m (template_items service m) (length service.gaps)) ∙ (let e = count m in omega arith)

    front : {X : Type 0} (xs : List X) (y : X) (i : ℕ) → i < length xs → slice_get (xs ++ y ∷ []) i ≡ slice_get xs i
    front [] y i h = absurd (omega arith)
    front (x ∷ xs) y zero h = refl
    front (x ∷ xs) y (suc i) h = front xs y i (omega arith)

    last : {X : Type 0} (xs : List X) (y : X) (i : ℕ) → length xs ≡ i → slice_get (xs ++ y ∷ []) i ≡ Some y
    last [] y zero h = refl
    last [] y (suc i) h = absurd (omega arith)
    last (x ∷ xs) y zero h = absurd (omega arith)
    last (x ∷ xs) y (suc i) h = last xs y i (omega arith)

    by_cases : (n < m) ⊎ (m ≤ n)
        → (n < m → slice_get (first_constants service m) n ≡ Some (constant_of n (template_items service n) (length service.gaps)))
        → slice_get (first_constants service (suc m)) n ≡ Some (constant_of n (template_items service n) (length service.gaps))
    by_cases (inl l) before =
        front (first_constants service m) (constant_of m (template_items service m) (length service.gaps)) n (let e = count m in omega arith) ∙ before l
    by_cases (inr l) before =
        let e : m ≡ n = omega arith in
        last (first_constants service m) (constant_of m (template_items service m) (length service.gaps)) n (count m ∙ e)
        ∙ ap (λ k. Some (constant_of k (template_items service k) (length service.gaps))) e

-- the number of a template that is found is below that of all
pub found_below : {X : Type 0} (p : X → Bool) (xs : List X) (n : ℕ) → position p xs ≡ Some n → n < length xs
found_below p xs n e = by_test (nat_lt (position_or_len p xs) (length xs)) refl e
  where
    by_test : (b : Bool) → nat_lt (position_or_len p xs) (length xs) ≡ b → cond b (Some (position_or_len p xs)) None ≡ Some n → n < length xs
    by_test true t k = let d : position_or_len p xs ≡ n = cc in let l : position_or_len p xs < length xs = ltb-true (position_or_len p xs)
        (length xs) t in omega arith
    by_test false t k = absurd (cc)

-- what is known of the template of a name is its constant
constant_is : (service : Service) (w : List ℕ) (constants : List Summary) (n : ℕ) (s : Summary)
    → constants ≡ first_constants service (length service.templates) → template_of service w ≡ Some n → s ≡ get_or constants n s
    → Html s ≡ constant_at service (template_of service w)
constant_is service w constants n s is e at =
    let l = found_below (λ (t : Template). same w t.name) service.templates n e in
    let k = constant_at_place service (length service.templates) n l in
    let known = constant_of n (template_items service n) (length service.gaps) in
    ap Html (at ∙ ap (λ xs. get_or xs n s) is ∙ get_or_from_slice_get (first_constants service (length service.templates)) n known s k)
    ∙ sym (ap (constant_at service) e)

-- and each has one
constant_there : (service : Service) (w : List ℕ) (constants : List Summary) (n : ℕ)
    → constants ≡ first_constants service (length service.templates) → template_of service w ≡ Some n → length constants ≤ n → ⊥
constant_there service w constants n is e above =
    let l = found_below (λ (t : Template). same w t.name) service.templates n e in
    let k = constant_at_place service (length service.templates) n l in
    let known = constant_of n (template_items service n) (length service.gaps) in
    let below = slice_get_within (first_constants service (length service.templates)) n known k in
    let same_length : length constants ≡ length (first_constants service (length service.templates)) = ap length is in
    omega arith

-- so what is found at the place of a template of that name is its summary
pub constant_found : (service : Service) (w : List ℕ) (constants : List Summary) (n : ℕ) (found : Option (Bor Summary))
    → constants ≡ first_constants service (length service.templates) → template_of service w ≡ Some n → IsItemAt constants n found
    → MatchOption found (constant_at service (template_of service w) ≡ Nothing) (λ s. constant_at service (template_of service w) ≡ Html s.now)
constant_found service w constants n None is e item = absurd (constant_there service w constants n is e item.3)
constant_found service w constants n (Some s) is e item = sym (constant_is service w constants n s.now is e item.1)

-- ---- pairs

-- a pair that was read has fewer nodes than the pairs
pub pair_size_at_read : (xs : List Pair) (i : ℕ) (d : Pair) → i < length xs
    → (get_or xs i d ≡ get_or xs i d) × (nodes (term (get_or xs i d).value) < nodes_in (fillings xs))
pair_size_at_read xs i d h = (refl, smaller xs i d h)
  where
    smaller : (ys : List Pair) (j : ℕ) (x : Pair) → j < length ys → nodes (term (get_or ys j x).value) < nodes_in (fillings ys)
    smaller [] j x m = absurd (omega arith)
    smaller (y ∷ ys) zero x m = omega arith
    smaller (y ∷ ys) (suc j) x m = omega (arith, smaller ys j x (omega arith))

-- Which templates are reached from a root, and how they are found.
use Rattle.std.specs.Prelude.{◌≡◌, ◌⊎◌, ℕ, ◌+◌, ◌<◌, ◌≤◌, ◌==◌, ◌&&◌, ◌++◌, Bool, true, false, List, [], ◌∷◌, length, set, slice_index_or}
use Rattle.std.specs.List.{list_any, All, Contains}
use Rattle.bw_shape.specs.Rows.Rows.{flag, ones}
use Rattle.bw_shape.specs.Nodes.Nodes.{Node, node_at}

-- a link of the node at that gap leads to that template
abbrev pub links_to : Node → ℕ → ℕ → Bool
links_to node g m = list_any (λ l. (l.0 == g) && (l.1 == m)) node.links

-- from the root along links
pub data Walked (nodes : List Node) (root : ℕ) : ℕ → Type 0 where
  root_is : Walked nodes root root
  along : {n m : ℕ} (g : ℕ) → Walked nodes root n → links_to (node_at nodes n) g m ≡ true → Walked nodes root m

-- a template was taken in, unless it was there
abbrev pub Takes : ℕ → List Bool → List ℕ → List Bool → List ℕ → Type 0
Takes to seen order seen2 order2 =
    ((flag seen to ≡ true) × (seen2 ≡ seen) × (order2 ≡ order)) ⊎ ((flag seen to ≡ false) × (seen2 ≡ set seen to true) × (order2 ≡ order ++ to ∷ []))

-- the templates that the first k links lead to were taken in
pub record Visit (links : List (ℕ × ℕ)) (k : ℕ) (seen : List Bool) (order : List ℕ) (seen2 : List Bool) (order2 : List ℕ) : Type 0 where
  pub len : length seen2 ≡ length seen
  pub count : length order2 + ones seen ≡ length order + ones seen2
  pub keeps : (n : ℕ) → flag seen n ≡ true → flag seen2 n ≡ true
  pub long : length order ≤ length order2
  pub front : (i : ℕ) → i < length order → slice_index_or order2 i 0 ≡ slice_index_or order i 0
  pub listed : ((n : ℕ) → flag seen n ≡ true → Contains order n) → (n : ℕ) → flag seen2 n ≡ true → Contains order2 n
  pub marked : All (λ n. flag seen n ≡ true) order → All (λ n. flag seen2 n ≡ true) order2
  pub news : (n : ℕ) → flag seen2 n ≡ true → (flag seen n ≡ true) ⊎ ((j : ℕ) × (j < k) × ((slice_index_or links j (0, 0)).1 ≡ n))
  pub done : (j : ℕ) → j < k → flag seen2 (slice_index_or links j (0, 0)).1 ≡ true

-- the templates up to a place of the order were looked at
pub record Reaching (nodes : List Node) (root : ℕ) (seen : List Bool) (order : List ℕ) (k : ℕ) : Type 0 where
  pub len : length seen ≡ length nodes
  pub count : length order ≡ ones seen
  pub low : k ≤ length order
  pub rooted : flag seen root ≡ true
  pub listed : (n : ℕ) → flag seen n ≡ true → Contains order n
  pub marked : All (λ n. flag seen n ≡ true) order
  pub sound : (n : ℕ) → flag seen n ≡ true → Walked nodes root n
  pub done : (j : ℕ) → j < k → (g m : ℕ) → links_to (node_at nodes (slice_index_or order j 0)) g m ≡ true → flag seen m ≡ true

-- the list has exactly the templates that are reached
pub record Reaches (nodes : List Node) (root : ℕ) (order : List ℕ) : Type 0 where
  pub sound : All (λ n. Walked nodes root n) order
  pub whole : (n : ℕ) → Walked nodes root n → Contains order n
  pub small : All (λ n. n < length nodes) order

-- templates were taken in, none of them past the rows
pub record Placed (rows : ℕ) (placed : List Bool) (back : List ℕ) : Type 0 where
  pub len : length placed ≡ rows
  pub listed : (n : ℕ) → flag placed n ≡ true → Contains back n
  pub small : All (λ n. n < rows) back

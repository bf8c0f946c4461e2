-- The least sizes that were found, and documents of these sizes.
use Rattle.std.specs.Prelude.{◌≡◌, ◌⊎◌, ℕ, ◌<◌, ◌≤◌, min, List, length, slice_index_or}
use Rattle.bw_lang.specs.Document.Forest.{Forest, none}
use Rattle.bw_explain.specs.declared.sizes.TheConstants.{MAX_SIZE, PAST, NONE}
use Rattle.bw_explain.specs.Sizes.{size, capped, Found, IsLeast}

-- sizes: NONE where there is no document, or none was found by now. past: the size of each that is past the last
pub record Table : Type 0 where
  pub past : ℕ
  pub sizes : List ℕ
  pub docs : List Forest

-- the size of template n, past the end that of each other one
abbrev pub size_at : Table → ℕ → ℕ
size_at t n = slice_index_or t.sizes n t.past

-- its document
abbrev pub doc_at : Table → ℕ → Forest
doc_at t n = slice_index_or t.docs n none

-- a document for each size, and no size over NONE
pub record IsTable (t : Table) : Type 0 where
  pub long : length t.docs ≡ length t.sizes
  pub most : (n : ℕ) → size_at t n ≤ NONE
  pub beyond : t.past ≤ NONE

-- where a size of at most MAX_SIZE was found, the document has that size at most
abbrev pub Documents : (ℕ → Forest → Type 0) → Table → Type 0
Documents Has t = (n : ℕ) → size_at t n ≤ MAX_SIZE → Has n (doc_at t n) × (size (doc_at t n) ≤ size_at t n)

-- each size that was found is the least one, and each document is one of these
pub record Settled (Has : ℕ → Forest → Type 0) (t : Table) : Type 0 where
  pub least : (n : ℕ) → size_at t n ≤ PAST → IsLeast (Has n) (size_at t n)
  pub doc : Documents Has t

-- each size is the least one
pub record Solved (Has : ℕ → Forest → Type 0) (t : Table) : Type 0 where
  pub least : (n : ℕ) → IsLeast (Has n) (size_at t n)
  pub doc : Documents Has t

-- a template that is to be settled next, and its least size: NONE where there is none
pub record IsNext (count : ℕ) (known value : ℕ → ℕ) (at least : ℕ) : Type 0 where
  pub low : (m : ℕ) → m < count → (known m ≤ PAST) ⊎ (least ≤ value m)
  pub here : least ≤ PAST → (at < count) × (PAST < known at) × (least ≡ value at)
  pub most : least ≤ NONE

-- each size that is known is the least one, and b is below what the others may get
abbrev pub Bounds : (ℕ → Forest → Type 0) → (ℕ → ℕ) → (ℕ → ℕ) → ℕ → Type 0
Bounds Has known value b = (m : ℕ) → ((d : Forest) → Has m d → known m ≤ capped (size d)) ⊎ (b ≤ value m)

-- value is the least size of a template's documents by those that are known. low: where what is known is below all documents, or another template's
-- size is a bound, so is it; high: where what is known is there, so is it. past is the size of the templates from count on
pub record Settles (count past : ℕ) (Has : ℕ → Forest → Type 0) (value : (ℕ → ℕ) → ℕ → ℕ) : Type 0 where
  pub low : (known : ℕ → ℕ) (b : ℕ) → Bounds Has known (value known) b → (n : ℕ) (d : Forest) → Has n d → min (value known n) b ≤ capped (size d)
  pub high : (known : ℕ → ℕ) → ((m : ℕ) → known m ≤ PAST → Found (Has m) (known m)) → (n : ℕ) → value known n ≤ PAST → Found (Has n) (value known n)
  pub outside : (known : ℕ → ℕ) (m : ℕ) → count ≤ m → (past ≤ PAST) ⊎ (NONE ≤ value known m)
  pub outside_least : (m : ℕ) → count ≤ m → past ≤ PAST → IsLeast (Has m) past × (past ≤ MAX_SIZE → Has m none × (size none ≤ past))

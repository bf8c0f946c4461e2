-- The documents that a graph stands for.
use Rattle.std.specs.Prelude.{◌≡◌, ℕ, Bool, true, false, List, [], ◌∷◌}
use Rattle.bw_lang.specs.declared.items.Attr.{Attr}
use Rattle.bw_lang.specs.declared.items.AttrValue.{AttrValue}
use Rattle.bw_lang.specs.declared.items.AttrValue.TheVariants.{Fixed, Hole}
use Rattle.bw_lang.specs.Document.Documents.{append}
use Rattle.bw_lang.specs.Document.Forest.{Forest, none, text, gap, element}
use Rattle.bw_sum.specs.Graph.{Graph}
use Rattle.bw_sum.specs.Opening.{opens}

-- an attribute's value of template n, as it is, left open, or fixed by a string of its gap's label
pub data FillsValue (G : Graph) : ℕ → AttrValue → AttrValue → Type 0 where
  kept : {n : ℕ} {s : List ℕ} → FillsValue G n (Fixed s) (Fixed s)
  left_open : {n g : ℕ} → G.track g n ≡ true → FillsValue G n (Hole g) (Hole g)
  said_in : {n g : ℕ} {s : List ℕ} → G.label n g s ≡ true → FillsValue G n (Hole g) (Fixed s)

-- its attributes, one after the other
pub data FillsAttrs (G : Graph) : ℕ → List Attr → List Attr → Type 0 where
  no_more : {n : ℕ} → FillsAttrs G n [] []
  more : {n : ℕ} {x : List ℕ} {u v : AttrValue} {a b : List Attr} → FillsValue G n u v → FillsAttrs G n a b
      → FillsAttrs G n (record { name = x; value = u } ∷ a) (record { name = x; value = v } ∷ b)

-- d is the part t of template n, with each content gap left open, a text of its label, or the items of what an edge leads to
pub data Fills (templates : ℕ → Forest) (G : Graph) : ℕ → Forest → Forest → Type 0 where
  end : {n : ℕ} → Fills templates G n none none
  words : {n : ℕ} {s : List ℕ} {t d : Forest} → Fills templates G n t d → Fills templates G n (text s t) (text s d)
  inside : {n : ℕ} {tag : List ℕ} {a b : List Attr} {i j t d : Forest} → FillsAttrs G n a b → Fills templates G n i j → Fills templates G n t d
      → Fills templates G n (element tag a i t) (element tag b j d)
  left : {n g : ℕ} {t d : Forest} → G.track g n ≡ true → Fills templates G n t d → Fills templates G n (gap g t) (gap g d)
  said : {n g : ℕ} {s : List ℕ} {t d : Forest} → G.label n g s ≡ true → Fills templates G n t d → Fills templates G n (gap g t) (text s d)
  led : {n g m : ℕ} {t d e : Forest} → G.edge n g m ≡ true → Fills templates G m (templates m) e → Fills templates G n t d
      → Fills templates G n (gap g t) (append e d)

-- template n unfolds to d
abbrev pub Unfolds : (ℕ → Forest) → Graph → ℕ → Forest → Type 0
Unfolds templates G n d = Fills templates G n (templates n) d

-- some root unfolds to d, and each gap of the service that the graph doesn't lack is open in d
pub record Covers (templates : ℕ → Forest) (gaps : ℕ → Bool) (G : Graph) (d : Forest) : Type 0 where
  pub root : ℕ
  pub is_root : G.root root ≡ true
  pub unfolds : Unfolds templates G root d
  pub has_open : (g : ℕ) → gaps g ≡ true → G.lack g ≡ false → opens g d ≡ true

-- The shape of a page graph: the least facts on its templates.
use Rattle.std.specs.Prelude.{◌≡◌, ℕ, ◌+◌, ◌≤◌, true, false, List}
use Rattle.bw_lang.specs.declared.items.Attr.{Attr}
use Rattle.bw_lang.specs.Document.Forest.{Forest, none, text, gap, element}
use Rattle.bw_lang.specs.Table.Names.{same}
use Rattle.bw_sum.specs.Graph.{Graph}
use Rattle.bw_lang.specs.Text.Bytes.{is_blank_text}
use Rattle.bw_shape.specs.Tests.{is_field, stands}

-- from the root along edges
pub data Reached (G : Graph) (root : ℕ) : ℕ → Type 0 where
  root_is : Reached G root root
  along : {n g m : ℕ} → Reached G root n → G.edge n g m ≡ true → Reached G root m

-- what may stand at the top: an element, or a text that isn't blank
pub data Top : Type 0 where
  tagged : List ℕ → Top
  wordy : Top

-- the part of template n may have this at its top
pub data Gives (templates : ℕ → Forest) (G : Graph) : ℕ → Forest → Top → Type 0 where
  element_here : {n : ℕ} {tag : List ℕ} {a : List Attr} {i r : Forest} → Gives templates G n (element tag a i r) (tagged tag)
  text_here : {n : ℕ} {s : List ℕ} {r : Forest} → is_blank_text s ≡ false → Gives templates G n (text s r) wordy
  said : {n g : ℕ} {s : List ℕ} {r : Forest} → G.label n g s ≡ true → is_blank_text s ≡ false → Gives templates G n (gap g r) wordy
  led : {n g m : ℕ} {r : Forest} {x : Top} → G.edge n g m ≡ true → Gives templates G m (templates m) x → Gives templates G n (gap g r) x
  after_text : {n : ℕ} {s : List ℕ} {r : Forest} {x : Top} → Gives templates G n r x → Gives templates G n (text s r) x
  after_gap : {n g : ℕ} {r : Forest} {x : Top} → Gives templates G n r x → Gives templates G n (gap g r) x
  after_element : {n : ℕ} {tag : List ℕ} {a : List Attr} {i r : Forest} {x : Top} → Gives templates G n r x → Gives templates G n (element tag a i r) x

-- the template may have a control of the field
pub data Has (templates : ℕ → Forest) (G : Graph) (names : List (List ℕ)) (f : ℕ) : ℕ → Type 0 where
  stands_here : {n : ℕ} → stands names f (templates n) ≡ true → Has templates G names f n
  leads : {n g m : ℕ} → G.edge n g m ≡ true → Has templates G names f m → Has templates G names f n

-- the part of template n may have no control of the field
pub data Lacks (templates : ℕ → Forest) (G : Graph) (names : List (List ℕ)) (f : ℕ) : ℕ → Forest → Type 0 where
  end : {n : ℕ} → Lacks templates G names f n none
  words : {n : ℕ} {s : List ℕ} {r : Forest} → Lacks templates G names f n r → Lacks templates G names f n (text s r)
  inside : {n : ℕ} {tag : List ℕ} {a : List Attr} {i r : Forest} → is_field names f tag a ≡ false
      → Lacks templates G names f n i → Lacks templates G names f n r
      → Lacks templates G names f n (element tag a i r)
  left : {n g : ℕ} {r : Forest} → G.track g n ≡ true → Lacks templates G names f n r → Lacks templates G names f n (gap g r)
  said : {n g : ℕ} {s : List ℕ} {r : Forest} → G.label n g s ≡ true → Lacks templates G names f n r → Lacks templates G names f n (gap g r)
  led : {n g m : ℕ} {r : Forest} → G.edge n g m ≡ true → Lacks templates G names f m (templates m)
      → Lacks templates G names f n r → Lacks templates G names f n (gap g r)

-- k of the controls of the field, and of the gaps with an edge to a template that may have it, stand in the part
pub data Places (templates : ℕ → Forest) (G : Graph) (names : List (List ℕ)) (f : ℕ) : ℕ → Forest → ℕ → Type 0 where
  end : {n : ℕ} → Places templates G names f n none 0
  words : {n k : ℕ} {s : List ℕ} {r : Forest} → Places templates G names f n r k → Places templates G names f n (text s r) k
  control : {n j k : ℕ} {tag : List ℕ} {a : List Attr} {i r : Forest} → is_field names f tag a ≡ true
      → Places templates G names f n i j → Places templates G names f n r k
      → Places templates G names f n (element tag a i r) (1 + (j + k))
  other : {n j k : ℕ} {tag : List ℕ} {a : List Attr} {i r : Forest} → Places templates G names f n i j → Places templates G names f n r k
      → Places templates G names f n (element tag a i r) (j + k)
  passed : {n g k : ℕ} {r : Forest} → Places templates G names f n r k → Places templates G names f n (gap g r) k
  led : {n g m k : ℕ} {r : Forest} → G.edge n g m ≡ true → Has templates G names f m → Places templates G names f n r k
      → Places templates G names f n (gap g r) (1 + k)

-- the template may have two controls of the field
pub data Doubles (templates : ℕ → Forest) (G : Graph) (names : List (List ℕ)) (f : ℕ) : ℕ → Type 0 where
  two : {n k : ℕ} → Places templates G names f n (templates n) k → 2 ≤ k → Doubles templates G names f n
  leads : {n g m : ℕ} → G.edge n g m ≡ true → Doubles templates G names f m → Doubles templates G names f n

-- the part of template n may have no x at its top
pub data Misses (templates : ℕ → Forest) (G : Graph) (x : List ℕ) : ℕ → Forest → Type 0 where
  end : {n : ℕ} → Misses templates G x n none
  words : {n : ℕ} {s : List ℕ} {r : Forest} → Misses templates G x n r → Misses templates G x n (text s r)
  other : {n : ℕ} {tag : List ℕ} {a : List Attr} {i r : Forest} → same tag x ≡ false → Misses templates G x n r → Misses templates G x n (element tag a i r)
  left : {n g : ℕ} {r : Forest} → G.track g n ≡ true → Misses templates G x n r → Misses templates G x n (gap g r)
  said : {n g : ℕ} {s : List ℕ} {r : Forest} → G.label n g s ≡ true → Misses templates G x n r → Misses templates G x n (gap g r)
  led : {n g m : ℕ} {r : Forest} → G.edge n g m ≡ true → Misses templates G x m (templates m) → Misses templates G x n r → Misses templates G x n (gap g r)

-- it may have a y before an x at its top
pub data Crossing (templates : ℕ → Forest) (G : Graph) (x y : List ℕ) : ℕ → Forest → Type 0 where
  element_first : {n : ℕ} {a : List Attr} {i r : Forest} → Gives templates G n r (tagged x) → Crossing templates G x y n (element y a i r)
  gap_first : {n g m : ℕ} {r : Forest} → G.edge n g m ≡ true → Gives templates G m (templates m) (tagged y)
      → Gives templates G n r (tagged x) → Crossing templates G x y n (gap g r)
  within : {n g m : ℕ} {r : Forest} → G.edge n g m ≡ true → Crossing templates G x y m (templates m) → Crossing templates G x y n (gap g r)
  after_text : {n : ℕ} {s : List ℕ} {r : Forest} → Crossing templates G x y n r → Crossing templates G x y n (text s r)
  after_gap : {n g : ℕ} {r : Forest} → Crossing templates G x y n r → Crossing templates G x y n (gap g r)
  after_element : {n : ℕ} {tag : List ℕ} {a : List Attr} {i r : Forest} → Crossing templates G x y n r → Crossing templates G x y n (element tag a i r)

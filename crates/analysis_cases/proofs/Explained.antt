-- The elements of a page that explains a fault.
use Rattle.std.proofs.Common.{◌≡◌, ℕ, ◌<◌, ◌≤◌, ◌+◌, ◌^◌, length, refl, ap, subst, arith}
use Rattle.bw_lang.specs.Document.Forest.{Forest, none, text, gap, element}
use Rattle.bw_lang.specs.Document.Documents.{close, elements}
use Rattle.bw_lang.specs.declared.tree.Tree.{Tree}
use Rattle.bw_explain.specs.declared.explained.Explained.{Explained}
use Rattle.bw_explain.specs.declared.explained.Explained.TheVariants as answers
use Rattle.bw_explain.specs.Explained.{IsExplained}
use Rattle.bw_explain.specs.Explained.IsExplained.{page, too_big, disjunction, no_unfolding}
use Rattle.bw_explain.specs.Sizes.{size}

-- a document that is closed has no more elements than items
elements_few : (d : Forest) → elements (close d) ≤ size d
elements_few none = omega arith
elements_few (text s r) = let l = elements_few r in omega (arith, l)
elements_few (gap g r) = let l = elements_few r in omega (arith, l)
elements_few (element tag a i r) = let l = elements_few i in let m = elements_few r in omega (arith, l, m)

abbrev items_of : Explained → Forest
items_of (answers.Page t) = t.items
items_of answers.NoUnfolding = none
items_of answers.TooBig = none
items_of answers.Disjunction = none

-- so its elements can be counted
pub few_elements : {Shown : Forest → Type 0} {Split : Type 0} {e : Explained} → IsExplained Shown Split e → (t : Tree) → e ≡ answers.Page t
    → elements t.items < 2 ^ 32
few_elements (page {d} shown small least) t is =
    let same : close d ≡ t.items = ap items_of is in
    let l = elements_few d in
    subst (λ i. elements i < 2 ^ 32) same (omega (arith, l, small))
few_elements (too_big d shown big) t is = absurd (let no_page : answers.TooBig ≡ answers.Page t = is in cc)
few_elements (disjunction none_shows split) t is = absurd (let no_page : answers.Disjunction ≡ answers.Page t = is in cc)
few_elements (no_unfolding none_shows whole) t is = absurd (let no_page : answers.NoUnfolding ≡ answers.Page t = is in cc)

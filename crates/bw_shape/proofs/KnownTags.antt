-- Tags that are in a table.
use Rattle.std.proofs.Common.{ℕ, List, arith}
use Rattle.bw_lang.specs.Document.Forest.{Forest, none, text, gap, element}
use Rattle.bw_lang.specs.Document.Documents.{append}
use Rattle.bw_lang.specs.Table.Names.{Extends}
use Rattle.bw_lang.proofs.TableLaws.{numbers_stay}
use Rattle.bw_shape.specs.Columns.{AreKnown}
use Rattle.bw_sum.proofs.ReadGaps.{longer}

-- a longer table has them too
pub known_stay : (old new : List (List ℕ)) (t : Forest) → Extends old new → AreKnown old t → AreKnown new t
known_stay old new none e h = tt
known_stay old new (text s r) e h = known_stay old new r e h
known_stay old new (gap g r) e h = known_stay old new r e h
known_stay old new (element tag a i r) e h = (
  let k = numbers_stay old new tag e h.0 in let l = longer old new e in let m = h.0 in
      omega (arith, k, l, m),
  (known_stay old new i e h.1.0, known_stay old new r e h.1.1),
)

pub known_append : (tags : List (List ℕ)) (a b : Forest) → AreKnown tags a → AreKnown tags b → AreKnown tags (append a b)
known_append tags none b h k = k
known_append tags (text s r) b h k = known_append tags r b h k
known_append tags (gap g r) b h k = known_append tags r b h k
known_append tags (element tag a i r) b h k = (h.0, (h.1.0, known_append tags r b h.1.1 k))

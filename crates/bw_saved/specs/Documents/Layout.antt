-- Documents as bytes.
use Rattle.std.specs.Prelude.{ℕ, List, ◌∷◌, ◌++◌, length}
use Rattle.std.specs.List.{flat_map}
use Rattle.std.specs.Int.{w16, w32, to_be_bytes}
use Rattle.bw_doc.specs.Made.{Made}
use Rattle.bw_doc.specs.Operations.{Operation, constant, plug, plug_text, operations}
use Rattle.bw_saved.specs.Fields.Spelling.{text}

-- an operation: a byte that says what it does, and the template, or the gap, or the gap and the text
abbrev pub operation : Operation → List ℕ
operation (constant n) = 0 ∷ to_be_bytes w16 n
operation (plug g) = 1 ∷ to_be_bytes w16 g
operation (plug_text g s) = 2 ∷ (to_be_bytes w16 g ++ text s)

-- a document: how many operations make it, and these in order
abbrev pub document : Made → List ℕ
document d = to_be_bytes w32 (length (operations d)) ++ flat_map operation (operations d)

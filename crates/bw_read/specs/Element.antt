-- The bytes of a page's element, by cutting off what may stand around it.
use Rattle.std.specs.Prelude.{ℕ, if◌then◌else◌, List, [], ◌∷◌, codes}
use Rattle.bw_lang.specs.Text.Bytes.{is_blank}
use Rattle.bw_lang.specs.Table.Options.{where_some}
use Rattle.bw_tmpl.specs.Steps.Reading.{past_blanks, stripped}

-- the bytes behind a document type and blanks, where one stands at the front
abbrev pub past_doctype : List ℕ → List ℕ
past_doctype bytes = where_some (stripped (codes "<!DOCTYPE html>") bytes) past_blanks bytes

-- a byte in front of bytes, unless it is a blank at the end
abbrev pub unless_last : ℕ → List ℕ → List ℕ
unless_last b [] = if is_blank b then [] else b ∷ []
unless_last b (c ∷ bytes) = b ∷ c ∷ bytes

-- the bytes without the blanks at their end
abbrev pub trimmed : List ℕ → List ℕ
trimmed [] = []
trimmed (b ∷ bytes) = unless_last b (trimmed bytes)

-- the bytes without the blanks and the document type in front and the blanks at the end
abbrev pub element_of : List ℕ → List ℕ
element_of bytes = trimmed (past_doctype (past_blanks bytes))

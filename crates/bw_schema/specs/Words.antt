-- Words, lists of words, and the words that a schema's text says.
use Rattle.std.specs.Prelude.{ℕ, Bool, false, not, ◌||◌, ◌==◌, List, [], ◌∷◌, length, map, filter}
use Rattle.std.specs.List.{list_any, slice_split}
use Rattle.std.specs.Str.{byte}
use Rattle.std.specs.Str.Lines.{lines}
use Rattle.bw_lang.specs.Text.Bytes.{is_blank_text}
use Rattle.bw_lang.specs.Table.Names.{same}

-- the word is in the list
abbrev pub is_among : List (List ℕ) → List ℕ → Bool
is_among words w = list_any (λ x. same x w) words

-- a space or a tab: they part the words of a line
abbrev pub parts_words : ℕ → Bool
parts_words b = b == byte " " || b == byte "\t"

-- it has one element at least
abbrev pub has_some : {A : Type 0} → List A → Bool
has_some xs = not (length xs == 0)

-- what stands between spaces and tabs
abbrev pub words_of : List ℕ → List (List ℕ)
words_of line = filter has_some (slice_split parts_words line)

-- the first word begins with `#`
abbrev pub is_remark : List (List ℕ) → Bool
is_remark [] = false
is_remark ([] ∷ words) = false
is_remark ((b ∷ w) ∷ words) = b == byte "#"

-- a line that is skipped
abbrev pub is_skipped : List ℕ → Bool
is_skipped line = is_blank_text line || is_remark (words_of line)

-- the words of each line that isn't skipped. Lines end with LF or with the text, and a CR before LF isn't part of them.
abbrev pub said : List ℕ → List (List (List ℕ))
said text = map words_of (filter (λ line. not (is_skipped line)) (lines text))

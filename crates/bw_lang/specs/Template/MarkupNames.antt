-- Which bytes names in a template are made of.
use Rattle.std.specs.Prelude.{ℕ, Bool, false, ◌||◌, ◌==◌, List, [], ◌∷◌}
use Rattle.std.specs.Char.{is_ascii_lowercase, is_ascii_digit, is_ascii_alphabetic, is_ascii_alphanumeric}
use Rattle.bw_lang.specs.Template.MarkupBytes.{hyphen, underscore}
use Rattle.bw_lang.specs.declared.pieces.NameClass.{NameClass}
use Rattle.bw_lang.specs.declared.pieces.NameClass.TheVariants as class

-- a byte that may begin a name of the class
abbrev pub first_of : NameClass → ℕ → Bool
first_of class.Tag c = is_ascii_lowercase c
first_of class.Attr c = is_ascii_lowercase c
first_of class.Word c = is_ascii_alphabetic c || c == underscore

-- a byte that may stand in a name of the class
abbrev pub later_of : NameClass → ℕ → Bool
later_of class.Tag c = is_ascii_lowercase c || is_ascii_digit c
later_of class.Attr c = is_ascii_lowercase c || is_ascii_digit c || c == hyphen
later_of class.Word c = is_ascii_alphanumeric c || c == underscore

-- the first byte passes a test
abbrev pub begins : (ℕ → Bool) → List ℕ → Bool
begins p [] = false
begins p (b ∷ bs) = p b

-- Documents that are made by plugs from items that read, and the pages of a service.
use Rattle.std.specs.Prelude.{◌≡◌, ◌≤◌, ℕ, List, length, IsUtf8}
use Rattle.std.specs.List.{AllPass}
use Rattle.bw_lang.specs.declared.measure.Measure.{Measure}
use Rattle.bw_lang.specs.Document.Documents as doc
use Rattle.bw_lang.specs.Document.Forest.{Forest}
use Rattle.bw_lang.specs.Document.Measures.{constant_measure, text_measure, plugged, IsWithin}
use Rattle.bw_lang.specs.Document.Print.{print}
use Rattle.bw_lang.specs.Template.Templates.{IsTemplate}
use Rattle.bw_lang.specs.Text.Bytes.{is_word_byte, is_digit}
use Rattle.bw_page.specs.Bytes.{is_hex_digit}
use Rattle.bw_lang.specs.declared.limits.TheConstants.{MAX_NAME_BYTES, MAX_TEMPLATE_NEST}
use Rattle.bw_lang.specs.declared.turn.TheConstants.{MAX_DOCUMENT_BYTES}

-- The document has this measure and is made by plugs: it is the constant of a template that bytes read as, or a document
-- that is made so with its open gaps of a name filled by another or by a string.
pub data IsMade : Forest → Measure → Type 0 where
  constant : (names : List (List ℕ)) (bytes : List ℕ) (t : Forest) → IsTemplate names MAX_TEMPLATE_NEST bytes t → IsMade t (constant_measure t)
  plug : (b a : Forest) (m n : Measure) (g : ℕ) → IsMade b m → IsMade a n → IsMade (doc.plug g a b) (plugged m n (doc.count g b) (doc.around g b))
  fill : (b : Forest) (m : Measure) (g : ℕ) (s : List ℕ) → IsUtf8 s → IsMade b m
      → IsMade (doc.plug_text g s b) (plugged m (text_measure (length s)) (doc.count g b) (doc.around g b))

-- a document that is made so, within the limits on documents and on what one prints to
pub record IsShown (d : Forest) : Type 0 where
  pub measure : Measure
  pub made : IsMade d measure
  pub within : IsWithin measure
  pub short : length (print d) ≤ MAX_DOCUMENT_BYTES

-- the name of a service
pub record IsTitle (title : List ℕ) : Type 0 where
  pub word : AllPass is_word_byte title
  pub short : length title ≤ MAX_NAME_BYTES

-- the number, the key and the turn of a session, as the target of its form has them
pub record IsTurn (number key turn : List ℕ) : Type 0 where
  pub number_digits : AllPass is_digit number
  pub number_short : length number ≤ 10
  pub key_digits : AllPass is_hex_digit key
  pub key_length : length key ≡ 16
  pub turn_digits : AllPass is_digit turn
  pub turn_short : length turn ≤ 10

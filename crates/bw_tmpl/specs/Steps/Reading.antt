-- What stands at the front of bytes, and the bytes behind it.
-- It only follows the steps of the code: nothing is promised by it.
use Rattle.std.specs.Prelude.{ℕ, zero, suc, Bool, not, ◌&&◌, ◌||◌, ◌==◌, nat_eq, if◌then◌else◌, List, [], ◌∷◌, length, take, drop, Option, Some, None, Result}
use Rattle.std.specs.Prelude.{MatchResult, codes, ◌≡◌}
use Rattle.std.specs.Str.{is_utf8}
use lib.Pointwise.{pointwise}
use Rattle.bw_lang.specs.Template.MarkupBytes.{ampersand, less_than, greater_than, double_quote, single_quote}
use Rattle.bw_lang.specs.Text.Bytes.{is_blank}
use Rattle.bw_lang.specs.Template.MarkupNames.{first_of, later_of, begins}
use Rattle.bw_lang.specs.declared.pieces.Tag.{Tag}
use Rattle.bw_lang.specs.declared.pieces.Piece.{Piece}
use Rattle.bw_lang.specs.declared.pieces.Piece.TheVariants as piece
use Rattle.bw_lang.specs.declared.pieces.RawAttr.{RawAttr}
use Rattle.bw_lang.specs.declared.pieces.RawValue.{RawValue}
use Rattle.bw_lang.specs.declared.pieces.RawValue.TheVariants as raw
use Rattle.bw_lang.specs.declared.pieces.NameClass.{NameClass}
use Rattle.bw_lang.specs.declared.pieces.NameClass.TheVariants as class
use Rattle.bw_lang.specs.Table.Options.{◌>>=◌, where_some}
use Rattle.bw_tmpl.specs.declared.fault.TmplFault.{TmplFault}
use Rattle.bw_tmpl.specs.declared.fault.TmplFault.TheVariants as fault

-- there is nothing to read, and the fault says so; want of memory says nothing
abbrev pub MalformedIfNone : {A : Type 0} → TmplFault → Option A → Type 0
MalformedIfNone fault.Memory o = Unit {0}
MalformedIfNone fault.Malformed o = o ≡ None
MalformedIfNone fault.Mismatched o = ⊥
MalformedIfNone fault.RepeatedAttribute o = ⊥
MalformedIfNone fault.Nesting o = ⊥

-- The answer is what there is to read, where view says what of it is compared, or Malformed where there is nothing; it may be Memory at any time.
abbrev pub Gives : {A B : Type 0} → (A → B) → Result A TmplFault → Option B → Type 0
Gives view answer o = MatchResult answer (λ x. o ≡ Some (view x)) (λ e. MalformedIfNone e o)

-- the bytes behind these at the front
abbrev pub stripped : List ℕ → List ℕ → Option (List ℕ)
stripped front bytes = if pointwise nat_eq (take (length front) bytes) front then Some (drop (length front) bytes) else None

-- ---- names

-- how many bytes at the front pass a test
abbrev pub leading : (ℕ → Bool) → List ℕ → ℕ
leading p [] = 0
leading p (b ∷ bs) = if p b then suc (leading p bs) else 0

-- the longest name at the front
abbrev pub name_at : NameClass → List ℕ → Option (List ℕ × List ℕ)
name_at c bytes =
    let n = leading (later_of c) bytes in
    if begins (first_of c) bytes then Some (take n bytes, drop n bytes) else None

-- the bytes behind the blanks at the front
abbrev pub past_blanks : List ℕ → List ℕ
past_blanks bytes = drop (leading is_blank bytes) bytes

-- ---- characters

-- the character and the bytes behind it
abbrev pub as_char : ℕ → List ℕ → Option (ℕ × List ℕ)
as_char c rest = Some (c, rest)

-- the character that a reference at the front stands for
abbrev pub ref_at : List ℕ → Option (ℕ × List ℕ)
ref_at bytes =
    where_some (stripped (codes "&amp;") bytes) (as_char ampersand)
    (where_some (stripped (codes "&lt;") bytes) (as_char less_than)
    (where_some (stripped (codes "&gt;") bytes) (as_char greater_than) (where_some (stripped (codes "&quot;") bytes) (as_char double_quote) None)))

-- a character at the front that is neither `<` nor the byte that ends the text or value
abbrev pub char_at : ℕ → List ℕ → Option (ℕ × List ℕ)
char_at stop [] = None
char_at stop (b ∷ bs) = if b == ampersand then ref_at (b ∷ bs) else if b == less_than || b == stop then None else Some (b, bs)

-- a byte that stands for itself in a text that stop ends
abbrev pub is_plain : ℕ → ℕ → Bool
is_plain stop b = not (b == ampersand) && (not (b == less_than) && not (b == stop))

-- ---- many, one after the other

-- what was met, and then what go reads of the rest
abbrev pub many_next : {A : Type 0} → Option (A × List ℕ) → List ℕ → (List ℕ → List A × List ℕ) → List A × List ℕ
many_next None bytes go = ([], bytes)
many_next (Some x) bytes go = (x.0 ∷ (go x.1).0, (go x.1).1)

-- at most so many
unfoldable pub many : {A : Type 0} → (List ℕ → Option (A × List ℕ)) → ℕ → List ℕ → List A × List ℕ
many step zero bytes = ([], bytes)
many step (suc n) bytes = many_next (step bytes) bytes (many step n)

-- as many as there are, and the bytes behind them
abbrev pub each : {A : Type 0} → (List ℕ → Option (A × List ℕ)) → List ℕ → List A × List ℕ
each step bytes = many step (length bytes) bytes

-- the bytes, if they are UTF-8
abbrev pub checked : List ℕ → Option (List ℕ)
checked t = if is_utf8 t then Some t else None

-- ---- attributes

-- a value up to its quote, behind the first quote
unfoldable pub quoted_at : ℕ → List ℕ → Option (RawValue × List ℕ)
quoted_at quote bytes =
    let t = each (char_at quote) bytes in
    checked t.0 >>= λ v. stripped (quote ∷ []) t.1 >>= λ rest. Some (raw.Fixed v, rest)

-- the name of a gap, behind `[`, up to `]`
unfoldable pub hole_at : List ℕ → Option (RawValue × List ℕ)
hole_at bytes = name_at class.Word bytes >>= λ n. stripped (codes "]") n.1 >>= λ rest. Some (raw.Hole n.0, rest)

-- a value, or a gap in its place
unfoldable pub value_at : List ℕ → Option (RawValue × List ℕ)
value_at bytes =
    where_some (stripped (codes "\"") bytes) (quoted_at double_quote)
    (where_some (stripped (codes "'") bytes) (quoted_at single_quote) (where_some (stripped (codes "[") bytes) hole_at None))

-- an attribute, with the blanks in front of it
unfoldable pub attr_at : List ℕ → Option (RawAttr × List ℕ)
attr_at bytes =
    if begins is_blank bytes then
    (name_at class.Attr (past_blanks bytes) >>= λ n. stripped (codes "=") n.1 >>= λ m. value_at m >>= λ v. Some (record { name = n.0; value = v.0 }, v.1))
    else None

-- ---- pieces

-- a tag's name, its attributes and the blanks behind them
unfoldable pub tag_at : List ℕ → Option (Tag × List ℕ)
tag_at bytes = name_at class.Tag bytes >>= λ n. let a = each attr_at n.1 in Some (record { name = n.0; attrs = a.0 }, past_blanks a.1)

-- a start tag or a whole tag, behind `<`
unfoldable pub whole_at : List ℕ → Option (Piece × List ℕ)
whole_at bytes =
    tag_at bytes >>= λ t.
    where_some (stripped (codes "/>") t.1) (λ rest. Some (piece.Whole t.0, rest))
    (where_some (stripped (codes ">") t.1) (λ rest. Some (piece.Start t.0, rest)) None)

-- an end tag, behind `</`
unfoldable pub end_at : List ℕ → Option (Piece × List ℕ)
end_at bytes = name_at class.Tag bytes >>= λ n. stripped (codes ">") (past_blanks n.1) >>= λ rest. Some (piece.End n.0, rest)

-- a content gap, behind `<[`
unfoldable pub gap_at : List ℕ → Option (Piece × List ℕ)
gap_at bytes = name_at class.Word bytes >>= λ n. stripped (codes "]>") n.1 >>= λ rest. Some (piece.Gap n.0, rest)

-- a text, as long as it can be
unfoldable pub text_at : List ℕ → Option (Piece × List ℕ)
text_at bytes =
    let t = each (char_at less_than) bytes in
    if length t.0 == 0 then None else (checked t.0 >>= λ v. Some (piece.Text v, t.1))

-- a piece of any kind
unfoldable pub piece_at : List ℕ → Option (Piece × List ℕ)
piece_at bytes =
    where_some (stripped (codes "<[") bytes) gap_at
    (where_some (stripped (codes "</") bytes) end_at (where_some (stripped (codes "<") bytes) whole_at (text_at bytes)))

-- all of the bytes as pieces
unfoldable pub pieces_of : List ℕ → Option (List Piece)
pieces_of bytes = let t = each piece_at bytes in if length t.1 == 0 then Some t.0 else None

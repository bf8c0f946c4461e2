-- The lines that show a place of a text.
use Rattle.std.specs.Prelude.{ℕ, nat_lt, nat_le, ◌+◌, ◌-◌, ◌==◌, max, min, if◌then◌else◌, List, [], ◌++◌, map, length, take, drop, codes}
use Rattle.std.specs.Prelude.{decimal}
use Rattle.std.proofs.Math.ListN.{replicate}
use Rattle.bw_excerpt.specs.Columns.{columns, spot_of, line_front, line_back, first_line, first_columns, behind_columns}
use Rattle.bw_excerpt.specs.declared.columns.Spot.{Spot}
use Rattle.bw_excerpt.specs.declared.excerpt.Place.{Place}
use Rattle.bw_excerpt.specs.declared.excerpt.TheConstants.{MAX_FRONT, KEPT_FRONT, MAX_WIDTH, MAX_WORDS}
use Rattle.std.specs.Str.{is_utf8}

-- a byte as it prints: a tab or another control as a space, so that each character has one column
abbrev pub shown : ℕ → ℕ
shown b = if nat_lt b 32 then 32 else (if b == 127 then 32 else b)

-- a text as it can be shown: each byte from 128 on is a `?` where the text isn't UTF-8
abbrev pub plain : ℕ → ℕ
plain b = if nat_lt b 128 then b else 63

abbrev pub readable : List ℕ → List ℕ
readable text = if is_utf8 text then text else map plain text

abbrev pub spaces : ℕ → List ℕ
spaces n = replicate n 32

-- what of a line is shown in front of a place, and how many columns that has
abbrev pub lead : List ℕ → List ℕ
lead front = if nat_le (columns front) MAX_FRONT then map shown front else codes "..." ++ map shown (behind_columns (columns front - KEPT_FRONT) front)

abbrev pub lead_columns : List ℕ → ℕ
lead_columns front = if nat_le (columns front) MAX_FRONT then columns front else 3 + KEPT_FRONT

-- and behind it, in so many columns
abbrev pub trail : ℕ → List ℕ → List ℕ
trail n back = map shown (first_columns n back) ++ (if nat_lt n (columns back) then codes "..." else [])

-- the marks under what stands there, in so many columns: one at least
abbrev pub marks : ℕ → List ℕ → List ℕ
marks n own = replicate (max 1 (min (columns own) n)) 94

-- a place's line, and the marks under the bytes up to another place
abbrev pub source_line : List ℕ → ℕ → List ℕ
source_line text from = lead (line_front text from) ++ trail (MAX_WIDTH - lead_columns (line_front text from)) (line_back text from)

abbrev pub mark_line : List ℕ → ℕ → ℕ → List ℕ
mark_line text from to =
    spaces (lead_columns (line_front text from))
    ++ marks (MAX_WIDTH - lead_columns (line_front text from)) (first_line (take (to - from) (drop from text)))

-- NAME:LINE:COLUMN
abbrev pub place_name : List ℕ → Spot → List ℕ
place_name name spot = map shown name ++ (codes ":" ++ (decimal spot.line ++ (codes ":" ++ decimal spot.column)))

-- a line's number, in a margin of this width
abbrev pub margin : ℕ → ℕ → List ℕ
margin wide line = spaces (wide - length (decimal line)) ++ decimal line

-- the lines that show some bytes of a text: where they are, behind an arrow
abbrev pub place_line : ℕ → List ℕ → List ℕ → Spot → List ℕ
place_line wide arrow name spot = spaces wide ++ (arrow ++ (place_name name spot ++ codes "\n"))

-- a rule
abbrev pub rule_line : ℕ → List ℕ
rule_line wide = spaces wide ++ codes " |\n"

-- their line
abbrev pub numbered_line : ℕ → ℕ → List ℕ → ℕ → List ℕ
numbered_line wide line text from = margin wide line ++ (codes " | " ++ (source_line text from ++ codes "\n"))

-- and marks under them
abbrev pub under_line : ℕ → List ℕ → ℕ → ℕ → List ℕ
under_line wide text from to = spaces wide ++ (codes " | " ++ (mark_line text from to ++ codes "\n"))

-- a place of a text, cut off at its end
abbrev pub start_in : List ℕ → Place → ℕ
start_in text place = min place.from (length text)

abbrev pub end_in : List ℕ → Place → ℕ
end_in text place = max (min place.to (length text)) (start_in text place)

-- the four lines: where it is, a rule, its line, and marks under it
abbrev pub excerpt : ℕ → List ℕ → List ℕ → List ℕ → Place → List ℕ
excerpt wide arrow name text place =
    place_line wide arrow name (spot_of text (start_in text place))
    ++ (rule_line wide
    ++ (numbered_line wide (spot_of text (start_in text place)).line text (start_in text place)
    ++ under_line wide text (start_in text place) (end_in text place)))

-- words, cut off where they are too long for a line
abbrev pub short : List ℕ → List ℕ
short words =
    if nat_le (columns words) MAX_WORDS then map shown words else map shown (first_columns (MAX_WORDS - 3) words) ++ codes "..."

-- a line of words
abbrev pub note : ℕ → List ℕ → List ℕ
note wide words = spaces wide ++ (codes " = " ++ (short words ++ codes "\n"))

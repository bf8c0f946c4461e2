-- Heads within the limits. What a head is, is the grammar of `httparse` (RFC 9112, sections 2 to 5).
use Rattle.std.specs.Prelude.{ℕ, ◌<◌, ◌≤◌, ◌⊎◌, Bool, List, length, drop, ◌==◌}
use Rattle.std.specs.List.{count_by, prefix_len}
use Rattle.httparse.specs.Ascii.{line_feed}
use Rattle.httparse.specs.Pieces.{is_newline}
use Rattle.httparse.specs.Grammar.{RequestHead, print_request, ReadsRequest}
use Rattle.bw_http.specs.declared.head.TheConstants.{MAX_HEADER_LINES, MAX_HEAD_BYTES, MAX_HEAD_LINES}

abbrev pub is_line_feed : ℕ → Bool
is_line_feed b = b == line_feed

-- the bytes from the first that is neither CR nor LF
abbrev pub skip_newlines : List ℕ → List ℕ
skip_newlines bytes = drop (prefix_len is_newline bytes) bytes

-- the line feeds from the first byte that is neither CR nor LF
abbrev pub line_count : List ℕ → ℕ
line_count bytes = count_by is_line_feed (skip_newlines bytes)

-- within the limits of bytes, of header lines, and of lines: these, the request line and the empty line
pub record IsWithinLimits (h : RequestHead) : Type 0 where
  pub bytes : length (print_request h) ≤ MAX_HEAD_BYTES
  pub fields : length h.fields ≤ MAX_HEADER_LINES
  pub lines : line_count (print_request h) ≤ MAX_HEAD_LINES

-- the bytes begin with that head, which is within the limits, and the rest follows it
pub record BeginsWith (bytes : List ℕ) (h : RequestHead) (rest : List ℕ) : Type 0 where
  pub reads : ReadsRequest bytes h rest
  pub limits : IsWithinLimits h

-- no prefix of the bytes is a head within the limits
abbrev pub HasNoHead : List ℕ → Type 0
HasNoHead bytes = (h : RequestHead) (rest : List ℕ) → ¬ (BeginsWith bytes h rest)

-- no head yet, and no limit of heads is passed
pub record LacksHead (bytes : List ℕ) : Type 0 where
  pub none : HasNoHead bytes
  pub short : length bytes < MAX_HEAD_BYTES
  pub few : line_count bytes ≤ MAX_HEAD_LINES

-- so many bytes, or so many lines, that no head can follow
abbrev pub IsOverLimits : List ℕ → Type 0
IsOverLimits bytes = (MAX_HEAD_BYTES ≤ length bytes) ⊎ (MAX_HEAD_LINES < line_count bytes)

-- over the limits, and no head among them
abbrev pub IsTooLong : List ℕ → Type 0
IsTooLong bytes = HasNoHead bytes × IsOverLimits bytes

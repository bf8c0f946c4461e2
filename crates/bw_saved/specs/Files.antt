-- What a file of saved sessions holds, and why it is refused.
use Rattle.std.specs.Prelude.{◌≡◌, ℕ, ◌-◌, ◌==◌, nat_lt, ◌&&◌, List, [], ◌∷◌, length, take, drop, codes, Option, Some, None, Result, Ok, Err, if◌then◌else◌}
use Rattle.std.specs.Int.{w32}
use Rattle.bw_flow.specs.Steps.{Plan}
use Rattle.bw_lang.specs.declared.service.Service.{Service}
use Rattle.bw_lang.specs.Table.Names.{same}
use Rattle.bw_saved.specs.declared.file.FileFault.{FileFault}
use Rattle.bw_saved.specs.declared.file.FileFault.TheVariants.{TooLong, Malformed, Version, OtherService, Memory}
use Rattle.bw_saved.specs.declared.limits.TheConstants.{MAX_SAVED_BYTES, VERSION}
use Rattle.bw_saved.specs.declared.saved.Saved.{Saved}
use Rattle.bw_saved.specs.Fields.Reading.{◌>>=◌, number_at}
use Rattle.bw_saved.specs.Sessions.Reading.{waiting_at, ended}

-- what stands behind these bytes
abbrev pub behind : List ℕ → List ℕ → Option (List ℕ)
behind [] bytes = Some bytes
behind (p ∷ ps) [] = None
behind (p ∷ ps) (b ∷ bytes) = if b == p then behind ps bytes else None

-- a digit from 1 on, and LF
abbrev pub digit_at : List ℕ → Option (ℕ × List ℕ)
digit_at [] = None
digit_at (d ∷ []) = None
digit_at (d ∷ lf ∷ bytes) = if nat_lt 48 d && (nat_lt d 58 && (lf == 10)) then Some (d - 48, bytes) else None

-- the version of the layout
abbrev pub version_at : List ℕ → Option (ℕ × List ℕ)
version_at bytes = behind (codes "BWSAVE") bytes >>= digit_at

-- so many bytes, and those behind them
abbrev pub so_many : ℕ × List ℕ → Option (List ℕ × List ℕ)
so_many n = if nat_lt (length n.1) n.0 then None else Some (take n.0 n.1, drop n.0 n.1)

-- four bytes of length, and so many bytes
abbrev pub bytes_at : List ℕ → Option (List ℕ × List ℕ)
bytes_at bytes = number_at w32 bytes >>= so_many

-- ---- the order of the refusals: the length, the version, the service, and the rest

-- by what stands behind the service's text
abbrev pub by_rest : Option Saved → Result Saved FileFault
by_rest None = Err Malformed
by_rest (Some s) = Ok s

-- by the service's text
abbrev pub by_text : Service → Plan → List ℕ → Option (List ℕ × List ℕ) → Result Saved FileFault
by_text service flow text None = Err Malformed
by_text service flow text (Some t) = if same t.0 text then by_rest (ended (waiting_at service flow t.1)) else Err OtherService

-- by the version
abbrev pub by_version : Service → Plan → List ℕ → Option (ℕ × List ℕ) → Result Saved FileFault
by_version service flow text None = Err Malformed
by_version service flow text (Some v) = if v.0 == VERSION then by_text service flow text (bytes_at v.1) else Err (Version v.0)

-- what the bytes of a file hold, for a service of this text, or the first refusal
abbrev pub decided : Service → Plan → List ℕ → List ℕ → Result Saved FileFault
decided service flow text bytes = if nat_lt MAX_SAVED_BYTES (length bytes) then Err TooLong else by_version service flow text (version_at bytes)

-- the answer is what is due, or there was no memory
abbrev pub IsDecided : Result Saved FileFault → Result Saved FileFault → Type 0
IsDecided (Err Memory) due = Unit {0}
IsDecided (Err TooLong) due = due ≡ Err TooLong
IsDecided (Err Malformed) due = due ≡ Err Malformed
IsDecided (Err (Version n)) due = due ≡ Err (Version n)
IsDecided (Err OtherService) due = due ≡ Err OtherService
IsDecided (Ok s) due = due ≡ Ok s

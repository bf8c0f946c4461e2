-- What a message is, and what came of the bytes that were taken.
use Rattle.std.specs.Prelude.{◌≡◌, ◌≢◌, ℕ, ◌≤◌, ◌<◌, ◌⊎◌, cond, List, [], ◌++◌, length, Result, Ok, Err}
use Rattle.std.specs.declared.option.Option.{Option}
use Rattle.std.specs.Io.KnownBytes.{IsAtEnd}
use Rattle.httparse.specs.Grammar.{RequestHead, print_request, NeverHasRequest}
use Rattle.httparse.specs.Spans.{IsWithin, span_bytes}
use Rattle.bw_http.specs.declared.request.Request.{Request}
use Rattle.bw_http.specs.declared.request.ReadOutcome.{ReadOutcome}
use Rattle.bw_http.specs.declared.request.ReadOutcome.TheVariants.{End, BadHead, Truncated, HeadTooLong, NoHost, Coding, BadLength, LengthRequired, BodyTooLong}
use Rattle.bw_http.specs.declared.request.ReadOutcome.TheVariants.{Media, ReadFault, Memory}
use Rattle.bw_http.specs.declared.decide.Decision.TheVariants.{Refused, Body}
use Rattle.bw_http.specs.declared.reading.Parts.{Parts}
use Rattle.bw_http.specs.declared.reading.Lack.{Lack}
use Rattle.bw_http.specs.declared.reading.Lack.TheVariants.{Line, Bytes}
use Rattle.bw_http.specs.declared.reading.Verdict.{Verdict}
use Rattle.bw_http.specs.declared.reading.Verdict.TheVariants.{Bad, TooLong, Denied, Whole, Short}
use Rattle.bw_http.specs.Heads.{BeginsWith, LacksHead, IsTooLong}
use Rattle.bw_http.specs.Decisions.{decide, method_of, is_post}
use Rattle.bw_http.specs.Forms.{form_of}
use Rattle.bw_http.specs.Paths.{LeadsTo}
use Rattle.bw_http.specs.Taken.{IsFilled}
use Rattle.bw_http.specs.declared.intake.TheConstants.{ROOM}

-- the bytes begin with a whole message, its head and its body, and the rest follows it
pub record IsMessage (bytes : List ℕ) (h : RequestHead) (body rest : List ℕ) : Type 0 where
  pub begins : BeginsWith bytes h (body ++ rest)
  pub size : decide h ≡ Body (length body)

-- the head is whole, and a test refuses it
pub record IsDenied (bytes : List ℕ) (e : ReadOutcome) : Type 0 where
  pub head : RequestHead
  pub rest : List ℕ
  pub begins : BeginsWith bytes head rest
  pub test : decide head ≡ Refused e

-- the head is whole, and its body is not
pub record LacksBody (bytes : List ℕ) : Type 0 where
  pub head : RequestHead
  pub rest : List ℕ
  pub size : ℕ
  pub begins : BeginsWith bytes head rest
  pub wants : decide head ≡ Body size
  pub lacks : length rest < size

-- no message is whole, and no limit is passed
abbrev pub IsShort : List ℕ → Type 0
IsShort bytes = LacksHead bytes ⊎ LacksBody bytes

-- the request that a head and a body send; only a POST sends a form
pub record IsRequest (h : RequestHead) (body : List ℕ) (r : Request) : Type 0 where
  pub method : r.method ≡ method_of h.method
  pub path : LeadsTo h.target r.path
  pub form : r.form ≡ cond (is_post (method_of h.method)) (form_of body) []

-- the parts of the message that the bytes begin with
pub record IsMessageAt (bytes : List ℕ) (p : Parts) : Type 0 where
  pub head : RequestHead
  pub body : List ℕ
  pub rest : List ℕ
  pub is : IsMessage bytes head body rest
  pub len : p.len ≡ length (print_request head)
  pub size : p.size ≡ length body
  pub method : p.method ≡ method_of head.method
  pub within : IsWithin p.len p.target
  pub target : span_bytes bytes p.target ≡ head.target

-- no message is whole before another line has ended, or before there are so many bytes
abbrev pub Lacks : List ℕ → Lack → Type 0
Lacks bytes Line = LacksHead bytes
Lacks bytes (Bytes need) = (length bytes < need) × (need ≤ ROOM) × ((more : List ℕ) → length (bytes ++ more) < need → IsShort (bytes ++ more))

-- what the verdict says of the bytes
abbrev pub IsVerdict : List ℕ → Verdict → Type 0
IsVerdict bytes Bad = NeverHasRequest bytes
IsVerdict bytes TooLong = IsTooLong bytes
IsVerdict bytes (Denied e) = IsDenied bytes e
IsVerdict bytes (Whole p) = IsMessageAt bytes p
IsVerdict bytes (Short lack) = Lacks bytes lack

-- the bytes begin with a whole message, or with what is refused whatever follows
abbrev pub IsSettled : List ℕ → Type 0
IsSettled bytes =
    ((h : RequestHead) × (body : List ℕ) × (rest : List ℕ) × IsMessage bytes h body rest)
    ⊎ ((e : ReadOutcome) × IsDenied bytes e) ⊎ IsTooLong bytes ⊎ NeverHasRequest bytes

-- Why no request came of the bytes that were taken, and what is kept of them: all, but for want of memory.
abbrev pub IsRefusal : List ℕ → Type 0 → ReadOutcome → List ℕ → Type 0
IsRefusal have ended End rest = ended × (have ≡ []) × (rest ≡ have)
IsRefusal have ended BadHead rest = NeverHasRequest have × (rest ≡ have)
IsRefusal have ended Truncated rest = ended × (have ≢ []) × IsShort have × (rest ≡ have)
IsRefusal have ended HeadTooLong rest = IsTooLong have × (rest ≡ have)
IsRefusal have ended NoHost rest = IsDenied have NoHost × (rest ≡ have)
IsRefusal have ended Coding rest = IsDenied have Coding × (rest ≡ have)
IsRefusal have ended BadLength rest = IsDenied have BadLength × (rest ≡ have)
IsRefusal have ended LengthRequired rest = IsDenied have LengthRequired × (rest ≡ have)
IsRefusal have ended BodyTooLong rest = IsDenied have BodyTooLong × (rest ≡ have)
IsRefusal have ended Media rest = IsDenied have Media × (rest ≡ have)
IsRefusal have ended ReadFault rest = IsShort have × (rest ≡ have)
IsRefusal have ended Memory rest = (h : RequestHead) × (body : List ℕ) × IsMessage have h body rest

-- what came of the bytes that were taken, and what is kept of them
abbrev pub IsOutcome : List ℕ → Type 0 → Result Request ReadOutcome → List ℕ → Type 0
IsOutcome have ended (Ok r) rest = (h : RequestHead) × (body : List ℕ) × IsMessage have h body rest × IsRequest h body r
IsOutcome have ended (Err e) rest = IsRefusal have ended e rest

-- The outcome of the bytes that were taken: those held before, and then those that the source gave.
pub record ComesOf (before after : Option (List ℕ)) (held : List ℕ) (r : Result Request ReadOutcome) (rest : List ℕ) : Type 0 where
  pub have : List ℕ
  pub filled : IsFilled before after held have
  pub outcome : IsOutcome have (IsAtEnd after) r rest

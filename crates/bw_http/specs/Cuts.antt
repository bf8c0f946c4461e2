-- A stream and its first message.
use Rattle.std.specs.Prelude.{◌≡◌, ◌≢◌, ℕ, List, [], ◌++◌, Some, Result, Ok, Err}
use Rattle.std.specs.declared.option.Option.{Option}
use Rattle.httparse.specs.Grammar.{RequestHead, NeverHasRequest}
use Rattle.bw_http.specs.declared.request.Request.{Request}
use Rattle.bw_http.specs.declared.request.ReadOutcome.{ReadOutcome}
use Rattle.bw_http.specs.declared.request.ReadOutcome.TheVariants.{End, BadHead, Truncated, HeadTooLong, NoHost, Coding, BadLength, LengthRequired, BodyTooLong}
use Rattle.bw_http.specs.declared.request.ReadOutcome.TheVariants.{Media, ReadFault, Memory}
use Rattle.bw_http.specs.Heads.{IsTooLong}
use Rattle.bw_http.specs.Messages.{IsMessage, IsDenied, IsShort, IsRequest}

-- some bytes at the front of the stream are so
abbrev pub AtFront : (List ℕ → Type 0) → List ℕ → Type 0
AtFront P stream = (front : List ℕ) × (more : List ℕ) × (stream ≡ front ++ more) × P front

-- Why no request comes of the stream, and what is left of it: all of it, but for want of memory, which takes the message.
abbrev pub CutsAs : List ℕ → ReadOutcome → List ℕ → Type 0
CutsAs stream End rest = (stream ≡ []) × (rest ≡ stream)
CutsAs stream BadHead rest = AtFront NeverHasRequest stream × (rest ≡ stream)
CutsAs stream Truncated rest = (stream ≢ []) × IsShort stream × (rest ≡ stream)
CutsAs stream HeadTooLong rest = AtFront IsTooLong stream × (rest ≡ stream)
CutsAs stream NoHost rest = IsDenied stream NoHost × (rest ≡ stream)
CutsAs stream Coding rest = IsDenied stream Coding × (rest ≡ stream)
CutsAs stream BadLength rest = IsDenied stream BadLength × (rest ≡ stream)
CutsAs stream LengthRequired rest = IsDenied stream LengthRequired × (rest ≡ stream)
CutsAs stream BodyTooLong rest = IsDenied stream BodyTooLong × (rest ≡ stream)
CutsAs stream Media rest = IsDenied stream Media × (rest ≡ stream)
CutsAs stream ReadFault rest = AtFront IsShort stream × (rest ≡ stream)
CutsAs stream Memory rest = (h : RequestHead) × (body : List ℕ) × IsMessage stream h body rest

-- the first message of the stream, and what is left behind it
abbrev pub Cut : List ℕ → Result Request ReadOutcome → List ℕ → Type 0
Cut stream (Ok r) rest = (h : RequestHead) × (body : List ℕ) × IsMessage stream h body rest × IsRequest h body r
Cut stream (Err e) rest = CutsAs stream e rest

-- Where the source tells its bytes, the outcome is a cut of the stream: the bytes held before, and then those that the
-- source had left. What is held and left afterwards is what the cut leaves.
abbrev pub Tells : Option (List ℕ) → Option (List ℕ) → List ℕ → Result Request ReadOutcome → List ℕ → Type 0
Tells before after held r rest = (bytes : List ℕ) → before ≡ Some bytes
    → (left : List ℕ) × (after ≡ Some left) × Cut (held ++ bytes) r (rest ++ left)

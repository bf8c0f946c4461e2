-- Laws of cuts.
use Rattle.std.specs.Prelude.{◌≡◌, ◌⊎◌, List, ℕ, [], ◌++◌, Result, Ok, Err}
use Rattle.httparse.specs.Grammar.{RequestHead}
use Rattle.bw_http.specs.declared.request.Request.{Request}
use Rattle.bw_http.specs.declared.request.ReadOutcome.{ReadOutcome}
use Rattle.bw_http.specs.declared.request.ReadOutcome.TheVariants.{End, BadHead, HeadTooLong, ReadFault, Memory}
use Rattle.bw_http.specs.Heads.{HasNoHead, IsTooLong}
use Rattle.bw_http.specs.Messages.{IsMessage, IsDenied, IsSettled, IsRequest}
use Rattle.bw_http.specs.Cuts.{Cut}
use Rattle.bw_lang.specs.Service.Submissions.{IsTextForm}

-- a stream begins with one message at most
abbrev pub OneMessage : Type 0
OneMessage =
    (stream : List ℕ) (h k : RequestHead) (a b r q : List ℕ) → IsMessage stream h a r → IsMessage stream k b q
    → (h ≡ k) × (a ≡ b) × (r ≡ q)

-- it came as this, unless a read failed first
abbrev pub CameAs : Result Request ReadOutcome → ReadOutcome → Type 0
CameAs r e = (r ≡ Err e) ⊎ (r ≡ Err ReadFault)

-- a head that a test refuses comes as that refusal
abbrev pub RefusesExactly : Type 0
RefusesExactly =
    (stream : List ℕ) (e : ReadOutcome) (r : Result Request ReadOutcome) (rest : List ℕ)
    → IsDenied stream e → Cut stream r rest → CameAs r e

-- a whole message comes as its request, or as want of memory
abbrev pub ReadsExactly : Type 0
ReadsExactly =
    (stream : List ℕ) (h : RequestHead) (body after rest : List ℕ) (e : ReadOutcome)
    → IsMessage stream h body after → Cut stream (Err e) rest → (e ≡ Memory) ⊎ (e ≡ ReadFault)

-- what passes a limit of heads, and begins with none, comes as too long or as what is no head
abbrev pub RefusesLong : Type 0
RefusesLong =
    (stream : List ℕ) (r : Result Request ReadOutcome) (rest : List ℕ) → IsTooLong stream → Cut stream r rest
    → (r ≡ Err BadHead) ⊎ CameAs r HeadTooLong

-- an empty stream comes as its end
abbrev pub EndsExactly : Type 0
EndsExactly = (r : Result Request ReadOutcome) (rest : List ℕ) → Cut [] r rest → CameAs r End

-- a head that a test refuses is refused whatever follows
abbrev pub StaysRefused : Type 0
StaysRefused = (front more : List ℕ) (e : ReadOutcome) → IsDenied front e → IsDenied (front ++ more) e

-- what is too long has no head whatever follows
abbrev pub StaysTooLong : Type 0
StaysTooLong = (front more : List ℕ) → IsTooLong front → HasNoHead (front ++ more)

-- what is settled is settled whatever follows
abbrev pub StaysSettled : Type 0
StaysSettled = (front more : List ℕ) → IsSettled front → IsSettled (front ++ more)

-- want of memory takes the message that a request would take
abbrev pub MemoryGoesOn : Type 0
MemoryGoesOn =
    (stream : List ℕ) (q : Request) (rest after : List ℕ)
    → Cut stream (Err Memory) rest → Cut stream (Ok q) after → rest ≡ after

-- a head and a body send one request
abbrev pub OneRequest : Type 0
OneRequest = (h : RequestHead) (body : List ℕ) (q r : Request) → IsRequest h body q → IsRequest h body r → q ≡ r

-- the form of a request that a head and a body send is UTF-8, whatever the bytes of the body
abbrev pub RequestsAreText : Type 0
RequestsAreText = (h : RequestHead) (body : List ℕ) (r : Request) → IsRequest h body r → IsTextForm r.form

-- so it is of each request that a stream is cut into
abbrev pub CutsAreText : Type 0
CutsAreText = (stream : List ℕ) (r : Request) (rest : List ℕ) → Cut stream (Ok r) rest → IsTextForm r.form

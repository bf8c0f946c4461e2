-- What a look at the front of the bytes found.
use Rattle.std.specs.Prelude.{ℕ, List, take, drop, ⊤}
use Rattle.httparse.specs.Grammar.{RequestHead}
use Rattle.httparse.specs.Spans.{IsRequestAt, IsRequestWithin}
use Rattle.httparse.specs.declared.spans.HeaderSpan.{HeaderSpan}
use Rattle.httparse.specs.declared.spans.RequestSpans.{RequestSpans}
use Rattle.bw_http.specs.declared.head.HeadLook.{HeadLook}
use Rattle.bw_http.specs.declared.head.HeadLook.TheVariants.{Whole, Bad, TooLong, More}
use Rattle.bw_http.specs.Heads.{BeginsWith}
use Rattle.bw_http.specs.declared.head.TheConstants.{MAX_HEAD_BYTES}

abbrev pub IfWhole : HeadLook → (RequestSpans → Type 0) → Type 0
IfWhole (Whole spans) P = P spans
IfWhole Bad P = ⊤
IfWhole TooLong P = ⊤
IfWhole More P = ⊤

abbrev pub OnBad : HeadLook → Type 0 → Type 0
OnBad (Whole spans) P = ⊤
OnBad Bad P = P
OnBad TooLong P = ⊤
OnBad More P = ⊤

abbrev pub OnTooLong : HeadLook → Type 0 → Type 0
OnTooLong (Whole spans) P = ⊤
OnTooLong Bad P = ⊤
OnTooLong TooLong P = P
OnTooLong More P = ⊤

abbrev pub OnMore : HeadLook → Type 0 → Type 0
OnMore (Whole spans) P = ⊤
OnMore Bad P = ⊤
OnMore TooLong P = ⊤
OnMore More P = P

-- the bytes begin with a head within the limits, and the spans cover its parts
pub record IsHeadAt (bytes : List ℕ) (headers : List HeaderSpan) (r : RequestSpans) : Type 0 where
  pub head : RequestHead
  pub begins : BeginsWith bytes head (drop r.len bytes)
  pub spans : IsRequestAt (take MAX_HEAD_BYTES bytes) headers r head
  pub within : IsRequestWithin (take MAX_HEAD_BYTES bytes) headers r

-- The lengths of the strings of a service that was read.
use Rattle.std.specs.Prelude.{◌≤◌, ℕ, List, length}
use Rattle.std.specs.List.{All}
use Rattle.bw_lang.specs.declared.service.Literal.{Literal}
use Rattle.bw_lang.specs.declared.service.Service.{Service}
use Rattle.bw_lang.specs.Service.Code.{Code}
use Rattle.bw_lang.specs.Service.Reads.{IsReadable}
use Rattle.bw_lang.specs.Service.Term.{Term, Fillings}
use Rattle.bw_typed.specs.Strings.{EachString, EachFilled, CodeStrings, LiteralString}
use Rattle.bw_lang.specs.declared.limits.TheConstants.{MAX_STRING_BYTES}

-- a string has at most 16,384 bytes
abbrev pub IsShort : List ℕ → Type 0
IsShort s = length s ≤ MAX_STRING_BYTES

-- each string of an expression, of the values of a plug, and of statements is short
abbrev pub HasShort : Term → Type 0
HasShort e = EachString IsShort e

abbrev pub HaveShort : Fillings → Type 0
HaveShort ps = EachFilled IsShort ps

abbrev pub CodeHasShort : Code → Type 0
CodeHasShort c = CodeStrings IsShort c

-- the literal is no string, or a short one
abbrev pub IsShortLiteral : Literal → Type 0
IsShortLiteral l = LiteralString IsShort l

-- no string of a session is longer than 16384 bytes
abbrev pub SessionsHaveShort : Type 0
SessionsHaveShort = (service : Service) → ∥ IsReadable service ∥₁ → All (λ s. CodeHasShort s.body) service.sessions

-- nor is a string that a shared variable begins with
abbrev pub SharedBeginShort : Type 0
SharedBeginShort = (service : Service) → ∥ IsReadable service ∥₁ → All (λ v. IsShortLiteral v.init) service.shared

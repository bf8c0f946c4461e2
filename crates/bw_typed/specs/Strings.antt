-- The strings that stand in a service, and the tokens that say them.
use Rattle.std.specs.Prelude.{◌≡◌, ℕ, true, List}
use Rattle.std.specs.List.{All, Contains}
use Rattle.std.specs.Str.{is_utf8}
use Rattle.bw_lang.specs.declared.service.Literal.{Literal}
use Rattle.bw_lang.specs.declared.service.Literal.TheVariants as literals
use Rattle.bw_lang.specs.declared.service.Service.{Service}
use Rattle.bw_lang.specs.declared.token.Lexeme.TheVariants as lex
use Rattle.bw_lang.specs.Service.Code.{Code, done, declare, assign, if_then, if_else, while_loop, block, for_each, show, exit}
use Rattle.bw_lang.specs.Service.Reads.{Reads, IsReadable}
use Rattle.bw_lang.specs.Service.Term.{Term, int, truth, string, name, paren, not, neg, binary, call, plug, nothing, Fillings, no_more, filling}

-- each string of the expression is so
abbrev mutual
  pub EachString : (List ℕ → Type 0) → Term → Type 0
  EachString P (int n) = Unit {0}
  EachString P (truth b) = Unit {0}
  EachString P (string s) = P s
  EachString P (name w) = Unit {0}
  EachString P (paren e) = EachString P e
  EachString P (not e) = EachString P e
  EachString P (neg e) = EachString P e
  EachString P (binary op l r) = EachString P l × EachString P r
  EachString P (call f e) = EachString P e
  EachString P (plug b ps) = EachString P b × EachFilled P ps
  EachString P nothing = Unit {0}

  pub EachFilled : (List ℕ → Type 0) → Fillings → Type 0
  EachFilled P no_more = Unit {0}
  EachFilled P (filling w e ps) = EachString P e × EachFilled P ps

-- each string of the expressions in the statements is so
abbrev pub CodeStrings : (List ℕ → Type 0) → Code → Type 0
CodeStrings P done = Unit {0}
CodeStrings P (declare t w e rest) = EachString P e × CodeStrings P rest
CodeStrings P (assign w e rest) = EachString P e × CodeStrings P rest
CodeStrings P (if_then t y rest) = EachString P t × CodeStrings P y × CodeStrings P rest
CodeStrings P (if_else t y n rest) = EachString P t × CodeStrings P y × CodeStrings P n × CodeStrings P rest
CodeStrings P (while_loop t b rest) = EachString P t × CodeStrings P b × CodeStrings P rest
CodeStrings P (block b rest) = CodeStrings P b × CodeStrings P rest
CodeStrings P (for_each w e b rest) = EachString P e × CodeStrings P b × CodeStrings P rest
CodeStrings P (show p rs rest) = EachString P p × CodeStrings P rest
CodeStrings P (exit p rest) = EachString P p × CodeStrings P rest

-- the literal is no string, or one that is so
abbrev pub LiteralString : (List ℕ → Type 0) → Literal → Type 0
LiteralString P (literals.Str s) = P s
LiteralString P l = Unit {0}

-- each string of a session is one that a token says of the bytes that the service was read from
abbrev pub SessionsSayTokens : Type 0
SessionsSayTokens = (bytes : List ℕ) (service : Service) (r : Reads bytes service)
    → All (λ s. CodeStrings (λ v. Contains r.drafted.lexemes (lex.Str v)) s.body) service.sessions

-- and so is each string that a shared variable begins with
abbrev pub SharedSayTokens : Type 0
SharedSayTokens = (bytes : List ℕ) (service : Service) (r : Reads bytes service)
    → All (λ v. LiteralString (λ w. Contains r.drafted.lexemes (lex.Str w)) v.init) service.shared

abbrev pub IsUtf8Text : List ℕ → Type 0
IsUtf8Text s = is_utf8 s ≡ true

-- each string of a session of a service that was read is UTF-8
abbrev pub SessionsAreUtf8 : Type 0
SessionsAreUtf8 = (service : Service) → ∥ IsReadable service ∥₁ → All (λ s. CodeStrings IsUtf8Text s.body) service.sessions

-- and so is each string that a shared variable begins with
abbrev pub SharedAreUtf8 : Type 0
SharedAreUtf8 = (service : Service) → ∥ IsReadable service ∥₁ → All (λ v. LiteralString IsUtf8Text v.init) service.shared

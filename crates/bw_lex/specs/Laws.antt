-- Laws of tokens.
use Rattle.std.specs.Prelude.{◌≡◌, ◌⊎◌, ◌↔◌, ℕ, List, Ok, Err}
use Rattle.bw_lang.specs.declared.token.Token.{Token}
use Rattle.bw_lang.specs.Text.Cuts.{AreTokens}
use Rattle.bw_lex.specs.declared.LexFault.{LexFault}
use Rattle.bw_lex.specs.Refusals.{IsTextRefused}
use Rattle.bw_lex.specs.Tokens.{tokens_of}

-- a text has no two lists of tokens
abbrev pub IsCutOnce : Type 0
IsCutOnce = (bytes : List ℕ) (tokens others : List Token) → AreTokens bytes tokens → AreTokens bytes others → tokens ≡ others

-- a text is read as tokens exactly where they are its tokens
abbrev pub IsReadExactly : Type 0
IsReadExactly = (bytes : List ℕ) (tokens : List Token) → AreTokens bytes tokens ↔ (tokens_of bytes ≡ Ok tokens)

-- a text is read as a fault exactly where that is its first
abbrev pub IsRefusedExactly : Type 0
IsRefusedExactly = (bytes : List ℕ) (fault : LexFault) → IsTextRefused bytes fault ↔ (tokens_of bytes ≡ Err fault)

-- each text has its tokens or a first fault
abbrev pub IsReadOrRefused : Type 0
IsReadOrRefused = (bytes : List ℕ) → ((tokens : List Token) × AreTokens bytes tokens) ⊎ ((fault : LexFault) × IsTextRefused bytes fault)

-- The page of a reply is found in its bytes.
use Rattle.std.proofs.Common.{◌≡◌, ◌≢◌, ◌<◌, ◌^◌, ℕ, Bool, true, false, List, [], ◌∷◌, ◌++◌, length, refl, sym, ap, ◌∙◌, arith, decimal, codes, cond}
use Rattle.std.proofs.Common.{append_assoc}
use Rattle.std.specs.Prelude.{◌==◌, ◌&&◌, take, drop}
use Rattle.std.specs.Str.{bytes_eq}
use Rattle.std.proofs.lemmas.Bool.{and_parts}
use Rattle.std.proofs.lemmas.Bool.Decides.{nat_tests}
use Rattle.bw_http.specs.Replies.{message, bytes_of}
use Rattle.bw_user.specs.Messages.{body_in}
use Rattle.bw_user.specs.Laws.{PagesAreBodies}
use Rattle.bw_user.proofs.Plain.{ok, Plain, decimal_plain}

no_end : (a : ℕ) → ok a ≡ true → (a == 13) ≡ false
no_end a h = grind (arith, nat_tests)

-- a byte that ends no line is passed
passed : (a : ℕ) (bytes : List ℕ) → ok a ≡ true → body_in (a ∷ bytes) ≡ body_in bytes
passed a bytes h = ap (λ (t : Bool). cond (t && bytes_eq (take 3 bytes) (codes "\n\r\n")) (drop 3 bytes) (body_in bytes)) (no_end a h)

past : (digits bytes : List ℕ) → Plain digits → body_in (digits ++ bytes) ≡ body_in bytes
past [] bytes h = refl
past (a ∷ digits) bytes h = let p = and_parts _ _ h in passed a (digits ++ bytes) p.0 ∙ past digits bytes p.1

-- what stands behind the digits of a length, and what a body has in front
pub behind : (digits rest body : List ℕ) → Plain digits → body_in ((digits ++ rest) ++ body) ≡ body_in (rest ++ body)
behind digits rest body h = ap body_in (append_assoc digits rest body) ∙ past digits (rest ++ body) h

pub pages_are_bodies : PagesAreBodies
pages_are_bodies names page h =
    behind (decimal (length page)) (codes "\r\nCache-Control: no-store\r\nConnection: close\r\n\r\n") page (decimal_plain (length page) h)

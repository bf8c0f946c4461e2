-- What a text reads as is short, and what is blamed is the first.
use Rattle.std.proofs.Common.{◌≡◌, ◌<◌, ◌≤◌, ◌^◌, ℕ, ◌+◌, List, [], ◌∷◌, ◌++◌, length, map, length-append, refl, ap, sym, ◌∙◌, subst, arith, Option, Some}
use Rattle.std.proofs.Common.{None, append_assoc, codes}
use Rattle.std.proofs.lemmas.List.{length-map}
use Rattle.bw_lang.specs.declared.declaration.Declaration.{Declaration}
use Rattle.bw_lang.specs.declared.declaration.Declaration.TheVariants as declarations
use Rattle.bw_lang.specs.declared.declaration.Draft.{Draft}
use Rattle.bw_lang.specs.declared.declaration.Draft.TheVariants as drafts
use Rattle.bw_lang.specs.declared.service.Service.{Service}
use Rattle.bw_lang.specs.declared.service.Session.{Session}
use Rattle.bw_lang.specs.declared.token.Token.{Token}
use Rattle.bw_lang.specs.declared.token.TokenKind.{TokenKind}
use Rattle.bw_lang.specs.declared.token.TokenKind.TheVariants as kinds
use Rattle.bw_lang.specs.Service.Order.{declarations_of}
use Rattle.bw_lang.specs.Service.Reads.{Reads, AreRead, lexemes}
use Rattle.bw_lang.specs.Text.Cuts.{Cuts, nothing, gap, token}
use Rattle.bw_lang.specs.Text.Lexemes.{lexeme}
use Rattle.bw_lang.specs.Text.TokenForms.{HasForm}
use Rattle.bw_lang.proofs.Small.{declarations_are}
use Rattle.bw_places.specs.Counts.{code_tokens, draft_tokens, drafts_tokens}
use Rattle.bw_places.proofs.Seeks.{drafts_are_few}
use Rattle.bw_types.specs.Scopes.{name_of}
use Rattle.bw_blame.specs.Blames.{Blame, IsShort, AreShort, ReadableIsShort, BlameIsFirst, site_of, first_site, first_blamed, blamed, declared_blames}
use Rattle.bw_blame.specs.Blames.{own_blames, blames_behind}
use Rattle.bw_blame.specs.declared.site.Blamed.{Blamed}

-- a token has bytes
some_bytes : (kind : TokenKind) (own : List ℕ) → HasForm kind own → 0 < length own
some_bytes kinds.Word [] h = absurd h
some_bytes kinds.Word (b ∷ own) h = omega arith
some_bytes (kinds.Number v) [] h = absurd (h.0 refl)
some_bytes (kinds.Number v) (b ∷ own) h = omega arith
some_bytes (kinds.Str s) [] h = let e : [] ≡ _ ∷ h.0 = h.1 in absurd (cc)
some_bytes (kinds.Str s) (b ∷ own) h = omega arith
some_bytes kinds.Template [] h = let e = h.1 in absurd (cc)
some_bytes kinds.Template (b ∷ own) h = omega arith
some_bytes kinds.Sign [] h = absurd h
some_bytes kinds.Sign (b ∷ own) h = omega arith

tokens_few : (at : ℕ) (bytes : List ℕ) (ts : List Token) → Cuts at bytes ts → length ts ≤ length bytes
tokens_few at bytes ts (nothing _) = omega arith
tokens_few at bytes ts (gap _ own rest _ g l more) = omega (arith, length-append own rest, tokens_few _ rest _ more)
tokens_few at bytes ts (token _ kind own rest us f h l more) = omega (arith, length-append own rest, some_bytes kind own f, tokens_few _ rest us more)

-- what is read has as many tokens as what is drafted
read_short : (n : ℕ) (before after : List (List ℕ)) (ds : List Draft) (xs : List Declaration) → AreRead before ds xs after → drafts_tokens ds ≤ n
    → n < 2 ^ 63 → AreShort xs
read_short n before after [] [] r few small = tt
read_short n before after [] (x ∷ xs) r few small = absurd r
read_short n before after (d ∷ ds) [] r few small = tt
read_short n before after (drafts.Template w inside ∷ ds) (declarations.Template t ∷ xs) (next, one, r) few small =
    (tt, read_short n next after ds xs r (omega arith) small)
read_short n before after (drafts.Shared kind w init ∷ ds) (declarations.Shared v ∷ xs) (next, one, r) few small =
    (tt, read_short n next after ds xs r (omega arith) small)
read_short n before after (drafts.Session s ∷ ds) (declarations.Session t ∷ xs) (next, one, r) few small =
    (subst (λ (y : Session). 6 + code_tokens y.body < 2 ^ 63) (sym one.0) (omega arith), read_short n next after ds xs r (omega arith) small)
read_short n before after (drafts.Template w inside ∷ ds) (declarations.Shared v ∷ xs) (next, one, r) few small = absurd one
read_short n before after (drafts.Template w inside ∷ ds) (declarations.Session t ∷ xs) (next, one, r) few small = absurd one
read_short n before after (drafts.Shared kind w init ∷ ds) (declarations.Template t ∷ xs) (next, one, r) few small = absurd one
read_short n before after (drafts.Shared kind w init ∷ ds) (declarations.Session t ∷ xs) (next, one, r) few small = absurd one
read_short n before after (drafts.Session s ∷ ds) (declarations.Template t ∷ xs) (next, one, r) few small = absurd one
read_short n before after (drafts.Session s ∷ ds) (declarations.Shared v ∷ xs) (next, one, r) few small = absurd one

pub readable_is_short : ReadableIsShort
readable_is_short service (bytes, r) =
    let text = r.drafted.text in
    let few : drafts_tokens r.drafts ≤ 1048576 = omega (
      arith,
      drafts_are_few r.drafted.lexemes service.name r.drafts r.drafted.spelled,
      ap length text.says,
      length-map text.tokens (lexeme bytes),
      tokens_few 0 bytes text.tokens text.cut.1,
      text.short,
    ) in
    subst AreShort (sym (declarations_are bytes service r)) (read_short 1048576 [] service.gaps r.drafts r.declarations r.read few (omega arith))

one_more : (bs rest : List Blame) (d : ℕ) (more : Option Blamed) → site_of more ≡ first_site rest → site_of (blamed d
    (first_site bs) more) ≡ first_site (bs ++ rest)
one_more [] rest d more e = e
one_more (b ∷ bs) rest d more e = refl

firsts : (service : Service) (earlier : List (List ℕ)) (d : ℕ) (xs : List Declaration)
    → site_of (first_blamed service earlier d xs) ≡ first_site (blames_behind service earlier d xs)
firsts service earlier d [] = refl
firsts service earlier d (x ∷ xs) =
    one_more (declared_blames service earlier d x) (blames_behind service (earlier ++ name_of x ∷ []) (d + 1) xs) d _
    (firsts service (earlier ++ name_of x ∷ []) (d + 1) xs)
    ∙ ap first_site (append_assoc _ (own_blames service d x) (blames_behind service (earlier ++ name_of x ∷ []) (d + 1) xs))

pub blame_is_first : BlameIsFirst
blame_is_first service = firsts service [] 0 (declarations_of service)

-- for a caller that knows the bytes
pub short_if_read : (bytes : List ℕ) (service : Service) → Reads bytes service → AreShort (declarations_of service)
short_if_read bytes service r = readable_is_short service (bytes, r)

-- The strings and the names of a service that was read are short.
use Rattle.std.proofs.Common.{◌≡◌, ℕ, ◌≤◌, List, [], length, Some, ap, sym, subst}
use Rattle.std.specs.List.{All}
use Rattle.std.specs.Coded.{le_prop}
use Rattle.std.proofs.Math.Logic.{∥∥₁_elim}
use Rattle.bw_lang.specs.declared.declaration.Declaration.{Declaration}
use Rattle.bw_lang.specs.declared.declaration.Declaration.TheVariants as declarations
use Rattle.bw_lang.specs.declared.limits.Leaf.TheVariants as leaves
use Rattle.bw_lang.specs.declared.service.Literal.{Literal}
use Rattle.bw_lang.specs.declared.service.Literal.TheVariants as literals
use Rattle.bw_lang.specs.declared.service.Service.{Service}
use Rattle.bw_lang.specs.declared.service.Session.{Session}
use Rattle.bw_lang.specs.declared.service.Shared.{Shared}
use Rattle.bw_lang.specs.Service.Limits.{declaration_lengths, literal_lengths}
use Rattle.bw_lang.specs.Service.Reads.{Reads}
use Rattle.bw_lang.specs.Service.Sorted.{as_shared, as_session}
use Rattle.bw_lang.proofs.Small.{all_within}
use Rattle.bw_types.proofs.Differing.{all_sorted}
use Rattle.bw_types.proofs.Parts.{parts_of_all}
use Rattle.bw_typed.specs.ShortStrings.{IsShort, CodeHasShort, IsShortLiteral, SessionsHaveShort, SharedBeginShort}
use Rattle.bw_typed.proofs.Props.{code_strings_prop, literal_string_prop}
use Rattle.bw_typed.proofs.Short.{AreMost, this, code_short}

module _ (bytes : List ℕ) (s : Service) (r : Reads bytes s) where
  -- the strings of each declaration are short
  abbrev HasStrings : Declaration → Type 0
  HasStrings d = AreMost 16384 (declaration_lengths leaves.Text s.gaps d)

  strings : All HasStrings r.declarations
  strings = parts_of_all (declaration_lengths leaves.Text s.gaps) (λ n. n ≤ 16384) r.declarations (all_within s.name s.gaps r.declarations r.within).strings

  literal_short : (l : Literal) → AreMost 16384 (literal_lengths leaves.Text l) → IsShortLiteral l
  literal_short (literals.Int n) h = tt
  literal_short (literals.Bool b) h = tt
  literal_short (literals.Str v) h = this 16384 (length v) [] h
  literal_short (literals.Tmpl w) h = tt

  session_short : (d : Declaration) (x : Session) → as_session d ≡ Some x → HasStrings d → CodeHasShort x.body
  session_short (declarations.Template t) x e h = absurd (cc)
  session_short (declarations.Shared v) x e h = absurd (cc)
  session_short (declarations.Session y) x e h = let same : y ≡ x = cc in subst (λ (z : Session). CodeHasShort z.body) same (code_short y.body h)

  shared_short : (d : Declaration) (v : Shared) → as_shared d ≡ Some v → HasStrings d → IsShortLiteral v.init
  shared_short (declarations.Template t) v e h = absurd (cc)
  shared_short (declarations.Shared u) v e h = let same : u ≡ v = cc in subst (λ (z : Shared). IsShortLiteral z.init) same (literal_short u.init h)
  shared_short (declarations.Session x) v e h = absurd (cc)

  pub sessions_short : All (λ x. CodeHasShort x.body) s.sessions
  sessions_short =
      subst (All (λ (x : Session). CodeHasShort x.body)) (sym (ap (λ (t : Service). t.sessions) r.whole))
      (all_sorted as_session HasStrings (λ (x : Session). CodeHasShort x.body) session_short r.declarations strings)

  pub shareds_short : All (λ v. IsShortLiteral v.init) s.shared
  shareds_short =
      subst (All (λ (v : Shared). IsShortLiteral v.init)) (sym (ap (λ (t : Service). t.shared) r.whole))
      (all_sorted as_shared HasStrings (λ (v : Shared). IsShortLiteral v.init) shared_short r.declarations strings)

pub sessions_have_short : SessionsHaveShort
sessions_have_short s h = λ i d l. ∥∥₁_elim h (code_strings_prop IsShort (λ v. hlevel le_prop) _) (λ r. sessions_short r.0 s r.1 i d l)

pub shared_begin_short : SharedBeginShort
shared_begin_short s h = λ i d l. ∥∥₁_elim h (literal_string_prop IsShort (λ v. hlevel le_prop) _) (λ r. shareds_short r.0 s r.1 i d l)

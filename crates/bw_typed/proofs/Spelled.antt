-- The strings of a service are those that its tokens say.
use Rattle.std.proofs.Common.{◌≡◌, ℕ, List, [], ◌∷◌, Some, ap, sym, subst}
use Rattle.std.specs.Prelude.{codes}
use Rattle.std.specs.List.{All, Contains}
use Rattle.std.proofs.lemmas.List.Elements.{All-cons, All-nil, All-head, All-tail, All-weaker, All-contains_itself}
use Rattle.bw_lang.specs.declared.declaration.Declaration.{Declaration}
use Rattle.bw_lang.specs.declared.declaration.Declaration.TheVariants as declarations
use Rattle.bw_lang.specs.declared.declaration.Draft.{Draft}
use Rattle.bw_lang.specs.declared.declaration.Draft.TheVariants as drafts
use Rattle.bw_lang.specs.declared.declaration.Written.{Written}
use Rattle.bw_lang.specs.declared.declaration.Written.TheVariants as written
use Rattle.bw_lang.specs.declared.service.Service.{Service}
use Rattle.bw_lang.specs.declared.service.Session.{Session}
use Rattle.bw_lang.specs.declared.service.Shared.{Shared}
use Rattle.bw_lang.specs.declared.stmt.Receive.{Receive}
use Rattle.bw_lang.specs.declared.token.Lexeme.{Lexeme}
use Rattle.bw_lang.specs.declared.token.Lexeme.TheVariants as lex
use Rattle.bw_lang.specs.Service.Code.{Code, done, declare, assign, if_then, if_else, while_loop, block, for_each, show, exit}
use Rattle.bw_lang.specs.Service.Drafts.{literal_of, spell_literal, spell_draft, spell_drafts, spell_service}
use Rattle.bw_lang.specs.Service.Reads.{Reads, IsRead, AreRead}
use Rattle.bw_lang.specs.Service.Sorted.{as_shared, as_session}
use Rattle.bw_lang.specs.Text.Spelling.{spell, spell_pairs, spell_each, spell_receives, spell_code}
use Rattle.bw_lang.specs.Service.Term.{Term, int, truth, string, name, paren, not, neg, binary, call, plug, nothing, Fillings, no_more, filling}
use Rattle.bw_lang.specs.Text.Words.{op_sign}
use Rattle.bw_types.proofs.Differing.{all_sorted}
use Rattle.bw_typed.specs.Strings.{EachString, EachFilled, CodeStrings, LiteralString, SessionsSayTokens, SharedSayTokens}

module _ (P : List ℕ → Type 0) where
  -- the lexeme says no string, or one that is so
  abbrev pub Says : Lexeme → Type 0
  Says (lex.Str s) = P s
  Says l = Unit {0}

  abbrev AllSay : List Lexeme → Type 0
  AllSay [] = Unit {0}
  AllSay (l ∷ ls) = Says l × AllSay ls

  mutual
    spelled : (e : Term) (k : List Lexeme) → AllSay (spell e k) → EachString P e × AllSay k
    spelled (int n) k h = (tt, h.1)
    spelled (truth b) k h = (tt, h.1)
    spelled (string s) k h = (h.0, h.1)
    spelled (name w) k h = (tt, h.1)
    spelled (paren e) k h = let a = spelled e (lex.Sign (codes ")") ∷ k) h.1 in (a.0, a.1.1)
    spelled (not e) k h = spelled e k h.1
    spelled (neg e) k h = spelled e k h.1
    spelled (binary op l r) k h = let a = spelled l (lex.Sign (op_sign op) ∷ spell r k) h in let b = spelled r k a.1.1 in ((a.0, b.0), b.1)
    spelled (call f e) k h = let a = spelled e (lex.Sign (codes ")") ∷ k) h.1.1 in (a.0, a.1.1)
    spelled (plug b ps) k h =
        let a = spelled b (spell_pairs (codes "<[") ps (lex.Sign (codes "]") ∷ k)) h in
        let c = spelled_pairs (codes "<[") ps (lex.Sign (codes "]") ∷ k) a.1 in ((a.0, c.0), c.1.1)
    spelled nothing k h = (tt, h.1)

    spelled_pairs : (s : List ℕ) (ps : Fillings) (k : List Lexeme) → AllSay (spell_pairs s ps k) → EachFilled P ps × AllSay k
    spelled_pairs s no_more k h = (tt, h)
    spelled_pairs s (filling w e ps) k h =
        let a = spelled e (spell_pairs (codes ",") ps k) h.1.1.1 in let b = spelled_pairs (codes ",") ps k a.1 in ((a.0, b.0), b.1)

  behind_each : (s : List ℕ) (rs : List Receive) (k : List Lexeme) → AllSay (spell_each s rs k) → AllSay k
  behind_each s [] k h = h
  behind_each s (r ∷ rs) k h = behind_each (codes ",") rs k h.1.1.1.1

  behind_receives : (rs : List Receive) (k : List Lexeme) → AllSay (spell_receives rs k) → AllSay k
  behind_receives [] k h = h
  behind_receives (r ∷ rs) k h = (behind_each (codes "[") (r ∷ rs) (lex.Sign (codes "]") ∷ k) h.1).1

  spelled_code : (c : Code) (k : List Lexeme) → AllSay (spell_code c k) → CodeStrings P c × AllSay k
  spelled_code done k h = (tt, h)
  spelled_code (declare t w e c) k h = let a = spelled e _ h.1.1.1 in let b = spelled_code c k a.1.1 in ((a.0, b.0), b.1)
  spelled_code (assign w e c) k h = let a = spelled e _ h.1.1 in let b = spelled_code c k a.1.1 in ((a.0, b.0), b.1)
  spelled_code (if_then t y c) k h =
      let a = spelled t _ h.1.1 in let b = spelled_code y _ a.1.1.1 in let d = spelled_code c k b.1.1 in ((a.0, b.0, d.0), d.1)
  spelled_code (if_else t y n c) k h =
      let last = lex.Sign (codes "}") ∷ spell_code c k in
      let other = lex.Sign (codes "}") ∷ (lex.Word (codes "else") ∷ (lex.Sign (codes "{") ∷ spell_code n last)) in
      let a = spelled t (lex.Sign (codes ")") ∷ (lex.Sign (codes "{") ∷ spell_code y other)) h.1.1 in let b = spelled_code y other a.1.1.1 in
      let m = spelled_code n last b.1.1.1.1 in let d = spelled_code c k m.1.1 in
      ((a.0, b.0, m.0, d.0), d.1)
  spelled_code (while_loop t y c) k h =
      let a = spelled t _ h.1.1 in let b = spelled_code y _ a.1.1.1 in let d = spelled_code c k b.1.1 in ((a.0, b.0, d.0), d.1)
  spelled_code (block y c) k h = let b = spelled_code y _ h.1 in let d = spelled_code c k b.1.1 in ((b.0, d.0), d.1)
  spelled_code (for_each w e y c) k h =
      let a = spelled e _ h.1.1.1.1 in let b = spelled_code y _ a.1.1.1 in let d = spelled_code c k b.1.1 in ((a.0, b.0, d.0), d.1)
  spelled_code (show p rs c) k h =
      let a = spelled p _ h.1 in let r = behind_receives rs (lex.Sign (codes ";") ∷ spell_code c k) a.1 in
      let d = spelled_code c k r.1 in ((a.0, d.0), d.1)
  spelled_code (exit p c) k h = let a = spelled p _ h.1 in let d = spelled_code c k a.1.1 in ((a.0, d.0), d.1)

  -- ---- declarations

  abbrev DeclaredStrings : Declaration → Type 0
  DeclaredStrings (declarations.Template t) = Unit {0}
  DeclaredStrings (declarations.Shared v) = LiteralString P v.init
  DeclaredStrings (declarations.Session s) = CodeStrings P s.body

  spelled_literal : (w : Written) (k : List Lexeme) → AllSay (spell_literal w k) → LiteralString P (literal_of w) × AllSay k
  spelled_literal (written.Plus n) k h = (tt, h.1)
  spelled_literal (written.Minus n) k h = (tt, h.1.1)
  spelled_literal (written.Bool b) k h = (tt, h.1)
  spelled_literal (written.Str s) k h = (h.0, h.1)
  spelled_literal (written.Name w) k h = (tt, h.1)

  spelled_draft : (before : List (List ℕ)) (draft : Draft) (d : Declaration) (after : List (List ℕ)) (k : List Lexeme) → IsRead before draft d after
      → AllSay (spell_draft draft k) → DeclaredStrings d × AllSay k
  spelled_draft before (drafts.Template n i) (declarations.Template t) after k r h = (tt, h.1.1.1.1.1)
  spelled_draft before (drafts.Shared kind n i) (declarations.Shared v) after k r h =
      let a = spelled_literal i (lex.Sign (codes ";") ∷ k) h.1.1.1.1 in (subst (λ (x : Shared). LiteralString P x.init) (sym r.0) a.0, a.1.1)
  spelled_draft before (drafts.Session s) (declarations.Session t) after k r h =
      let a = spelled_code s.body (lex.Sign (codes "}") ∷ k) h.1.1.1.1.1 in (subst (λ (x : Session). CodeStrings P x.body) (sym r.0) a.0, a.1.1)
  spelled_draft before draft d after k r h = absurd r

  spelled_drafts : (before : List (List ℕ)) (ds : List Draft) (rs : List Declaration) (after : List (List ℕ)) (k : List Lexeme) → AreRead before ds rs after
      → AllSay (spell_drafts ds k) → All DeclaredStrings rs
  spelled_drafts before [] [] after k r h = All-nil DeclaredStrings
  spelled_drafts before [] (d ∷ rs) after k r h = absurd r
  spelled_drafts before (d ∷ ds) [] after k r h = absurd r
  spelled_drafts before (d ∷ ds) (x ∷ rs) after k r h =
      let a = spelled_draft before d x r.0 (spell_drafts ds k) r.1 h in
      All-cons DeclaredStrings x rs a.0 (spelled_drafts r.0 ds rs after k r.2 a.1)

  by_recursion : (ls : List Lexeme) → All Says ls → AllSay ls
  by_recursion [] h = tt
  by_recursion (l ∷ ls) h = (All-head Says l ls h, by_recursion ls (All-tail Says l ls h))

  shared_strings : (d : Declaration) (v : Shared) → as_shared d ≡ Some v → DeclaredStrings d → LiteralString P v.init
  shared_strings (declarations.Template t) v e h = absurd (cc)
  shared_strings (declarations.Shared u) v e h = let same : u ≡ v = cc in subst (λ (x : Shared). LiteralString P x.init) same h
  shared_strings (declarations.Session x) v e h = absurd (cc)

  session_strings : (d : Declaration) (x : Session) → as_session d ≡ Some x → DeclaredStrings d → CodeStrings P x.body
  session_strings (declarations.Template t) x e h = absurd (cc)
  session_strings (declarations.Shared v) x e h = absurd (cc)
  session_strings (declarations.Session y) x e h = let same : y ≡ x = cc in subst (λ (z : Session). CodeStrings P z.body) same h

  module _ (bytes : List ℕ) (s : Service) (r : Reads bytes s) (say : All Says r.drafted.lexemes) where
    declared_strings : All DeclaredStrings r.declarations
    declared_strings =
        let all : AllSay (spell_service s.name r.drafts) = subst AllSay r.drafted.spelled (by_recursion r.drafted.lexemes say) in
        spelled_drafts [] r.drafts r.declarations s.gaps (lex.Sign (codes "}") ∷ []) r.read all.1.1.1

    pub sessions_strings : All (λ x. CodeStrings P x.body) s.sessions
    sessions_strings =
        subst (All (λ (x : Session). CodeStrings P x.body)) (sym (ap (λ (t : Service). t.sessions) r.whole))
        (all_sorted as_session DeclaredStrings (λ (x : Session). CodeStrings P x.body) session_strings r.declarations declared_strings)

    pub shareds_strings : All (λ v. LiteralString P v.init) s.shared
    shareds_strings =
        subst (All (λ (v : Shared). LiteralString P v.init)) (sym (ap (λ (t : Service). t.shared) r.whole))
        (all_sorted as_shared DeclaredStrings (λ (v : Shared). LiteralString P v.init) shared_strings r.declarations declared_strings)

-- a lexeme of the list says a string of the list
own_string : (ls : List Lexeme) (l : Lexeme) → Contains ls l → Says (λ v. Contains ls (lex.Str v)) l
own_string ls (lex.Str s) c = c
own_string ls (lex.Word w) c = tt
own_string ls (lex.Number n) c = tt
own_string ls (lex.Template t) c = tt
own_string ls (lex.Sign s) c = tt

own_strings : (ls : List Lexeme) → All (Says (λ v. Contains ls (lex.Str v))) ls
own_strings ls = All-weaker (Contains ls) (Says (λ v. Contains ls (lex.Str v))) (own_string ls) ls (All-contains_itself ls)

pub sessions_say_tokens : SessionsSayTokens
sessions_say_tokens bytes s r = sessions_strings (λ v. Contains r.drafted.lexemes (lex.Str v)) bytes s r (own_strings r.drafted.lexemes)

pub shared_say_tokens : SharedSayTokens
shared_say_tokens bytes s r = shareds_strings (λ v. Contains r.drafted.lexemes (lex.Str v)) bytes s r (own_strings r.drafted.lexemes)

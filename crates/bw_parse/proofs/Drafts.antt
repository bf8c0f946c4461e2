-- Declarations: what is parsed is spelled so, and what is spelled so is parsed.
use Rattle.std.proofs.Common.{◌≡◌, ℕ, zero, suc, ◌+◌, ◌*◌, ◌<◌, ◌≤◌, ◌^◌, true, false, List, [], ◌∷◌, ◌++◌, length, Some, None, refl, sym, ap, ◌∙◌}
use Rattle.std.proofs.Common.{subst, arith, inl, inr, append_assoc, append-nil, codes}
use Rattle.std.specs.Prelude.{nat_lt}
use Rattle.std.proofs.lemmas.Bool.{ltb-true, lt-ltb}
use Rattle.bw_lang.specs.declared.declaration.Draft.{Draft}
use Rattle.bw_lang.specs.declared.declaration.Draft.TheVariants as drafts
use Rattle.bw_lang.specs.declared.declaration.Written.{Written}
use Rattle.bw_lang.specs.declared.declaration.Written.TheVariants as written
use Rattle.bw_lang.specs.declared.token.Lexeme.{Lexeme}
use Rattle.bw_lang.specs.declared.token.Lexeme.TheVariants as lex
use Rattle.bw_lang.specs.Service.Drafts.{IsWritten, spell_literal, spell_draft, spell_drafts, spell_service, IsFormed, AreFormed}
use Rattle.bw_lang.specs.Text.Words.{IsName, kind_word}
use Rattle.bw_parse.specs.declared.lexemes.Meaning.{Meaning}
use Rattle.bw_parse.specs.declared.lexemes.Meaning.TheVariants.{Truth, Function, Nothing, Other, Free}
use Rattle.bw_lang.specs.Table.Options.{◌>>=◌, where_some}
use Rattle.bw_parse.specs.Steps.Fronts.{Read, behind, keyword, word, named, shared_kind, meaning}
use Rattle.bw_parse.specs.Steps.Services.{template_token, number_token, word_literal, plain_literal, literal, parse_template, parse_shared, parse_session}
use Rattle.bw_parse.specs.Steps.Services.{draft, drafts_from, parse_drafts, if_last, parse_service}
use Rattle.bw_parse.specs.Steps.Statements.{parse_code}
use Rattle.bw_parse.proofs.CodeComplete.{parse_code_gives}
use Rattle.bw_parse.proofs.CodeSound.{sound_code}
use Rattle.bw_parse.proofs.CodeSteps.{code_longer}
use Rattle.bw_lang.proofs.Options.{bind_some, where_cases, chosen, some_is}
use Rattle.bw_parse.proofs.FrontLaws.{some, behind_is, keyword_is, named_is, shared_kind_is, truth_is, free_is, shared_kind_self, free_meaning}
use Rattle.bw_parse.proofs.Stable.{bind_same, where_same}
use Rattle.bw_parse.proofs.Steps.{same_from}

-- ---- literals

template_token_is : (ts : List Lexeme) (x : List ℕ × List Lexeme) → template_token ts ≡ Some x → ts ≡ lex.Template x.0 ∷ x.1
unfolding template_token
template_token_is [] x e = absurd cc
template_token_is (lex.Template t ∷ ts) x e = let p : (t, ts) ≡ x = cc in ap (λ (y : List ℕ × List Lexeme). lex.Template y.0 ∷ y.1) p
template_token_is (t ∷ ts) x e = absurd cc

-- the lexemes are those of the literal, and then the rest
abbrev pub ReadsLiteral : List Lexeme → Written → List Lexeme → Type 0
ReadsLiteral ts l k = (ts ≡ spell_literal l k) × IsWritten l

literal_got : (ts : List Lexeme) (l : Written) (k : List Lexeme) (x : Written × List Lexeme) → ReadsLiteral ts l k → some (l, k) ≡ some x
    → ReadsLiteral ts x.0 x.1
literal_got ts l k x r p = subst (λ (y : Written × List Lexeme). ReadsLiteral ts y.0 y.1) (some_is (l, k) x p) r

number_token_is : (ts : List Lexeme) (x : ℕ × List Lexeme) → number_token ts ≡ Some x → (ts ≡ lex.Number x.0 ∷ x.1) × (x.0 < 2 ^ 63)
unfolding number_token
number_token_is [] x e = absurd cc
number_token_is (lex.Number n ∷ ts) x e =
    elim (chosen (nat_lt n 9223372036854775808) (Some (n, ts)) None (Some x) e) [
      | inl h ↦
          subst (λ (y : ℕ × List Lexeme). (lex.Number n ∷ ts ≡ lex.Number y.0 ∷ y.1) × (y.0 < 2 ^ 63)) (some_is (n, ts) x h.1)
          (refl, ltb-true n 9223372036854775808 h.0)
      | inr h ↦ let q = h.1 in absurd cc
    ]
number_token_is (t ∷ ts) x e = absurd cc

word_literal_is : (w : List ℕ) (m : Meaning) (l : Written) (k : List Lexeme) → meaning w ≡ m → word_literal w m ≡ Some l → ReadsLiteral (lex.Word w ∷ k) l k
word_literal_is w (Truth b) l k i e =
    subst (λ l. ReadsLiteral (lex.Word w ∷ k) l k) (some_is (written.Bool b) l e) (ap (λ v. lex.Word v ∷ k) (truth_is w b i), tt)
word_literal_is w (Function f) l k i e = absurd cc
word_literal_is w Nothing l k i e = absurd cc
word_literal_is w Other l k i e = absurd cc
word_literal_is w Free l k i e = subst (λ l. ReadsLiteral (lex.Word w ∷ k) l k) (some_is (written.Name w) l e) (refl, free_is w i)

plain_literal_is : (ts : List Lexeme) (x : Written × List Lexeme) → plain_literal ts ≡ Some x → ReadsLiteral ts x.0 x.1
unfolding plain_literal
plain_literal_is [] x e = absurd cc
plain_literal_is (lex.Number n ∷ ts) x e =
    elim (chosen (nat_lt n 9223372036854775808) (Some (written.Plus n, ts)) None (Some x) e) [
      | inl h ↦ literal_got (lex.Number n ∷ ts) (written.Plus n) ts x (refl, ltb-true n 9223372036854775808 h.0) h.1
      | inr h ↦ let q = h.1 in absurd cc
    ]
plain_literal_is (lex.Str s ∷ ts) x e = literal_got (lex.Str s ∷ ts) (written.Str s) ts x (refl, tt) e
plain_literal_is (lex.Word w ∷ ts) x e =
    let l = bind_some (word_literal w (meaning w)) (λ l. Some (l, ts)) x e in
    literal_got (lex.Word w ∷ ts) l.0 ts x (word_literal_is w (meaning w) l.0 ts refl l.1) l.2
plain_literal_is (t ∷ ts) x e = absurd cc

literal_is : (ts : List Lexeme) (x : Written × List Lexeme) → literal ts ≡ Some x → ReadsLiteral ts x.0 x.1
unfolding literal
literal_is ts x e =
    elim (where_cases (behind (codes "-") ts) _ (plain_literal ts) (Some x) e) [
      | inl h ↦
          let n = bind_some (number_token h.0) (λ n. Some (written.Minus n.0, n.1)) x h.2 in
          let i = number_token_is h.0 n.0 n.1 in
          literal_got ts (written.Minus n.0.0) n.0.1 x (behind_is (codes "-") ts h.0 h.1 ∙ ap (λ l. lex.Sign (codes "-") ∷ l) i.0, i.1) n.2
      | inr h ↦ plain_literal_is ts x h.1
    ]

literal_gives : (l : Written) (k : List Lexeme) → IsWritten l → literal (spell_literal l k) ≡ Some (l, k)
unfolding literal plain_literal number_token behind meaning
literal_gives (written.Plus n) k v = rw (lt-ltb n 9223372036854775808 v) refl
literal_gives (written.Minus n) k v = rw (lt-ltb n 9223372036854775808 v) refl
literal_gives (written.Bool true) k v = refl
literal_gives (written.Bool false) k v = refl
literal_gives (written.Str s) k v = refl
literal_gives (written.Name w) k v = ap (λ m. word_literal w m >>= λ l. Some (l, k)) (free_meaning w v)

-- ---- declarations

-- the lexemes are those of the declaration, and then the rest
abbrev pub ReadsDraft : List Lexeme → Draft → List Lexeme → Type 0
ReadsDraft ts d k = (ts ≡ spell_draft d k) × IsFormed d

draft_got : (ts : List Lexeme) (d : Draft) (k : List Lexeme) (x : Draft × List Lexeme) → ReadsDraft ts d k → some (d, k) ≡ some x → ReadsDraft ts x.0 x.1
draft_got ts d k x r p = subst (λ (y : Draft × List Lexeme). ReadsDraft ts y.0 y.1) (some_is (d, k) x p) r

template_is : (ts k : List Lexeme) (x : Draft × List Lexeme) → ts ≡ lex.Word (codes "html") ∷ k → parse_template k ≡ Some x → ReadsDraft ts x.0 x.1
unfolding parse_template
template_is ts k x i e =
    let w = bind_some (named k) _ x e in
    let wi = named_is k w.0 w.1 in
    let q = bind_some (behind (codes "=") w.0.1) _ x w.2 in
    let t = bind_some (template_token q.0) _ x q.2 in
    let z = bind_some (behind (codes ";") t.0.1) (λ z. Some (drafts.Template w.0.0 t.0.0, z)) x t.2 in
    draft_got ts (drafts.Template w.0.0 t.0.0) z.0 x (
      i ∙ ap (λ l. lex.Word (codes "html") ∷ l) (wi.0 ∙ ap (λ l. lex.Word w.0.0 ∷ l) (behind_is (codes "=") w.0.1 q.0 q.1
          ∙ ap (λ l. lex.Sign (codes "=") ∷ l) (template_token_is q.0 t.0 t.1 ∙ ap (λ l. lex.Template t.0.0 ∷ l) (behind_is (codes ";") t.0.1 z.0 z.1)))),
      wi.1,
    ) z.2

shared_is : (ts k : List Lexeme) (x : Draft × List Lexeme) → ts ≡ lex.Word (codes "shared") ∷ k → parse_shared k ≡ Some x → ReadsDraft ts x.0 x.1
unfolding parse_shared
shared_is ts k x i e =
    let t = bind_some (shared_kind k) _ x e in
    let ti = shared_kind_is k t.0 t.1 in
    let w = bind_some (named t.0.1) _ x t.2 in
    let wi = named_is t.0.1 w.0 w.1 in
    let q = bind_some (behind (codes "=") w.0.1) _ x w.2 in
    let l = bind_some (literal q.0) _ x q.2 in
    let li = literal_is q.0 l.0 l.1 in
    let z = bind_some (behind (codes ";") l.0.1) (λ z. Some (drafts.Shared t.0.0 w.0.0 l.0.0, z)) x l.2 in
    draft_got ts (drafts.Shared t.0.0 w.0.0 l.0.0) z.0 x (
      i ∙ ap (λ l. lex.Word (codes "shared") ∷ l)
          (ti.0 ∙ ap (λ l. lex.Word (kind_word t.0.0) ∷ l) (wi.0 ∙ ap (λ l. lex.Word w.0.0 ∷ l) (behind_is (codes "=") w.0.1 q.0 q.1
          ∙ ap (λ l. lex.Sign (codes "=") ∷ l) (li.0 ∙ ap (spell_literal l.0.0) (behind_is (codes ";") l.0.1 z.0 z.1))))),
      (ti.1, wi.1, li.1),
    ) z.2

session_is : (ts k : List Lexeme) (x : Draft × List Lexeme) → ts ≡ lex.Word (codes "session") ∷ k → parse_session k ≡ Some x → ReadsDraft ts x.0 x.1
unfolding parse_session parse_code
session_is ts k x i e =
    let w = bind_some (named k) _ x e in
    let wi = named_is k w.0 w.1 in
    let a = bind_some (behind (codes "(") w.0.1) _ x w.2 in
    let b = bind_some (behind (codes ")") a.0) _ x a.2 in
    let c = bind_some (behind (codes "{") b.0) _ x b.2 in
    let d = bind_some (parse_code c.0) (λ d. Some (drafts.Session (record { name = w.0.0; body = d.0 }), d.1)) x c.2 in
    let di = sound_code (4 * length c.0 + 4) c.0 d.0 d.1 in
    draft_got ts (drafts.Session (record { name = w.0.0; body = d.0.0 })) d.0.1 x (
      i ∙ ap (λ l. lex.Word (codes "session") ∷ l) (wi.0 ∙ ap (λ l. lex.Word w.0.0 ∷ l) (behind_is (codes "(") w.0.1 a.0 a.1
          ∙ ap (λ l. lex.Sign (codes "(") ∷ l) (behind_is (codes ")") a.0 b.0 b.1 ∙ ap (λ l. lex.Sign (codes ")") ∷ l) (behind_is (codes "{") b.0 c.0 c.1
          ∙ ap (λ l. lex.Sign (codes "{") ∷ l) di.spelled)))),
      (wi.1, di.good),
    ) d.2

pub draft_is : (ts : List Lexeme) (x : Draft × List Lexeme) → draft ts ≡ Some x → ReadsDraft ts x.0 x.1
unfolding draft
draft_is ts x e =
    elim (where_cases (keyword (codes "html") ts) parse_template _ (Some x) e) [
      | inl h ↦ template_is ts h.0 x (keyword_is (codes "html") ts h.0 h.1) h.2
      | inr h ↦ elim (where_cases (keyword (codes "shared") ts) parse_shared _ (Some x) h.1) [
        | inl g ↦ shared_is ts g.0 x (keyword_is (codes "shared") ts g.0 g.1) g.2
        | inr g ↦ let k = bind_some (keyword (codes "session") ts) parse_session x g.1 in session_is ts k.0 x (keyword_is (codes "session") ts k.0 k.1) k.2
      ]
    ]

pub draft_gives : (d : Draft) (k : List Lexeme) → IsFormed d → draft (spell_draft d k) ≡ Some (d, k)
unfolding draft parse_template parse_shared parse_session keyword named word behind template_token
draft_gives (drafts.Template name inside) k v = rw v refl
draft_gives (drafts.Shared t name init) k v =
    rw (shared_kind_self t (lex.Word name ∷ lex.Sign (codes "=") ∷ spell_literal init (lex.Sign (codes ";") ∷ k)) v.0)
    (rw v.1 (rw (literal_gives init (lex.Sign (codes ";") ∷ k) v.2) refl))
draft_gives (drafts.Session s) k v = rw v.0 (rw (parse_code_gives s.body k v.1) refl)

-- ---- lists of declarations

literal_longer : (l : Written) (k : List Lexeme) → length k ≤ length (spell_literal l k)
literal_longer (written.Plus n) k = omega arith
literal_longer (written.Minus n) k = omega arith
literal_longer (written.Bool b) k = omega arith
literal_longer (written.Str s) k = omega arith
literal_longer (written.Name w) k = omega arith

pub draft_longer : (d : Draft) (k : List Lexeme) → length k < length (spell_draft d k)
draft_longer (drafts.Template name inside) k = omega arith
draft_longer (drafts.Shared t name init) k = omega (arith, literal_longer init (lex.Sign (codes ";") ∷ k))
draft_longer (drafts.Session s) k = omega (arith, code_longer s.body (lex.Sign (codes "}") ∷ k))

pub draft_shorter : (ts : List Lexeme) (x : Draft × List Lexeme) → draft ts ≡ Some x → length x.1 < length ts
draft_shorter ts x e = omega (arith, ap length (draft_is ts x e).0, draft_longer x.0 x.1)

-- declarations behind those of front
pub record ReadsDrafts (front : List Draft) (ts : List Lexeme) (all : List Draft) (k : List Lexeme) : Type 0 where
  pub rest : List Draft
  pub is : all ≡ front ++ rest
  pub formed : AreFormed rest
  pub spelled : ts ≡ spell_drafts rest (lex.Sign (codes "}") ∷ k)

sound_from : (f : ℕ) (front : List Draft) (ts : List Lexeme) (x : List Draft × List Lexeme) → drafts_from f front ts ≡ Some x → ReadsDrafts front ts x.0 x.1
unfolding drafts_from
sound_from zero front ts x e = absurd cc
sound_from (suc f) front ts x e =
    elim (where_cases (behind (codes "}") ts) (λ k. Some (front, k)) _ (Some x) e) [
      | inl h ↦
          subst (λ (y : List Draft × List Lexeme). ReadsDrafts front ts y.0 y.1) (some_is (front, h.0) x h.2)
          (record { rest = []; is = sym (append-nil front); formed = tt; spelled = behind_is (codes "}") ts h.0 h.1 })
      | inr h ↦
          let d = bind_some (draft ts) (λ d. drafts_from f (front ++ d.0 ∷ []) d.1) x h.1 in
          let i = draft_is ts d.0 d.1 in
          let r = sound_from f (front ++ d.0.0 ∷ []) d.0.1 x d.2 in
          record {
            rest = d.0.0 ∷ r.rest;
            is = r.is ∙ append_assoc front (d.0.0 ∷ []) r.rest;
            formed = (i.1, r.formed);
            spelled = i.0
                ∙ ap (spell_draft d.0.0) r.spelled;
          }
    ]

stable_drafts : (f : ℕ) (front : List Draft) (ts : List Lexeme) → length ts + 1 ≤ f → drafts_from (suc f) front ts ≡ drafts_from f front ts
unfolding drafts_from
stable_drafts zero front ts le = absurd (omega arith)
stable_drafts (suc f) front ts le =
    where_same (behind (codes "}") ts) _ _ _ _ (λ k p. refl)
    (λ p. bind_same (draft ts) _ _ _ refl (λ d e. let s = draft_shorter ts d e in stable_drafts f (front ++ d.0 ∷ []) d.1 (omega arith)))

drafts_are : (f : ℕ) (front : List Draft) (ts : List Lexeme) → length ts + 1 ≤ f → drafts_from f front ts ≡ parse_drafts front ts
unfolding parse_drafts
drafts_are f front ts le = same_from (λ f. drafts_from f front ts) (length ts + 1) (λ f h. stable_drafts f front ts h) f (length ts + 1) le (omega arith)

pub parse_drafts_is : (front : List Draft) (ts : List Lexeme) → parse_drafts front ts ≡
    where_some (behind (codes "}") ts) (λ k. Some (front, k)) (draft ts >>= λ d. parse_drafts (front ++ d.0 ∷ []) d.1)
unfolding drafts_from
parse_drafts_is front ts =
    let f = length ts + 2 in
    sym (drafts_are (suc f) front ts (omega arith))
    ∙ where_same (behind (codes "}") ts) _ _ _ _ (λ k p. refl)
    (λ p. bind_same (draft ts) _ _ _ refl (λ d e. let s = draft_shorter ts d e in drafts_are f (front ++ d.0 ∷ []) d.1 (omega arith)))

-- no declaration begins with a brace
draft_begins : (d : Draft) (k : List Lexeme) → behind (codes "}") (spell_draft d k) ≡ None
unfolding behind
draft_begins (drafts.Template name inside) k = refl
draft_begins (drafts.Shared t name init) k = refl
draft_begins (drafts.Session s) k = refl

drafts_give : (ds front : List Draft) (k : List Lexeme) → AreFormed ds → parse_drafts front (spell_drafts ds (lex.Sign (codes "}") ∷ k)) ≡ Some (front ++ ds, k)
unfolding behind
drafts_give [] front k v = parse_drafts_is front _ ∙ ap (λ l. Some (l, k)) (sym (append-nil front))
drafts_give (d ∷ ds) front k v =
    let ts = spell_drafts ds (lex.Sign (codes "}") ∷ k) in
    parse_drafts_is front (spell_draft d ts)
    ∙ rw (draft_begins d ts) (rw (draft_gives d ts v.0) (drafts_give ds (front ++ d ∷ []) k v.1 ∙ ap (λ l. Some (l, k)) (append_assoc front (d ∷ []) ds)))

-- ---- a service

abbrev pub ReadsService : List Lexeme → List ℕ → List Draft → Type 0
ReadsService ts name ds = IsName name × AreFormed ds × (ts ≡ spell_service name ds)

if_last_is : {A : Type 0} (x : A) (ts : List Lexeme) (y : A) → if_last x ts ≡ Some y → (x ≡ y) × (ts ≡ [])
if_last_is x [] y e = (some_is x y e, refl)
if_last_is x (t ∷ ts) y e = absurd cc

pub service_is : (ts : List Lexeme) (x : List ℕ × List Draft) → parse_service ts ≡ Some x → ReadsService ts x.0 x.1
unfolding parse_service parse_drafts
service_is ts x e =
    let k = bind_some (keyword (codes "service") ts) _ x e in
    let w = bind_some (named k.0) _ x k.2 in
    let wi = named_is k.0 w.0 w.1 in
    let b = bind_some (behind (codes "{") w.0.1) _ x w.2 in
    let d = bind_some (parse_drafts [] b.0) (λ d. if_last (w.0.0, d.0) d.1) x b.2 in
    let di = sound_from (length b.0 + 1) [] b.0 d.0 d.1 in
    let l = if_last_is (w.0.0, d.0.0) d.0.1 x d.2 in
    subst (λ (y : List ℕ × List Draft). ReadsService ts y.0 y.1) l.0 (
      wi.1,
      subst AreFormed (sym di.is) di.formed,
      keyword_is (codes "service") ts k.0 k.1
          ∙ ap (λ l. lex.Word (codes "service") ∷ l) (wi.0 ∙ ap (λ l. lex.Word w.0.0 ∷ l) (behind_is (codes "{") w.0.1 b.0 b.1
          ∙ ap (λ l. lex.Sign (codes "{") ∷ l) (di.spelled ∙ (λ i. spell_drafts (sym di.is i) (lex.Sign (codes "}") ∷ l.1 i))))),
    )

pub service_gives : (name : List ℕ) (ds : List Draft) → IsName name → AreFormed ds → parse_service (spell_service name ds) ≡ Some (name, ds)
unfolding parse_service keyword named word behind
service_gives name ds n v = rw n (ap (λ (o : Read (List Draft)). o >>= λ d. if_last (name, d.0) d.1) (drafts_give ds [] [] v))

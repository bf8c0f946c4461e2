-- Receives: what is parsed is spelled so, and what is spelled so is parsed.
use Rattle.std.proofs.Common.{◌≡◌, ℕ, zero, suc, ◌+◌, ◌<◌, ◌≤◌, List, [], ◌∷◌, ◌++◌, length, Some, refl, sym, ap, ◌∙◌, subst, arith, inl, inr}
use Rattle.std.proofs.Common.{append_assoc, codes}
use Rattle.bw_lang.specs.declared.stmt.Receive.{Receive}
use Rattle.bw_lang.specs.declared.token.Lexeme.{Lexeme}
use Rattle.bw_lang.specs.declared.token.Lexeme.TheVariants as lex
use Rattle.bw_lang.specs.Text.Spelling.{spell_each, spell_receives, HaveTargets}
use Rattle.bw_lang.specs.Text.Words.{IsName}
use Rattle.bw_parse.specs.Steps.Follow.{binds}
use Rattle.bw_lang.specs.Table.Options.{◌>>=◌, where_some}
use Rattle.bw_parse.specs.Steps.Fronts.{behind, keyword, word, named}
use Rattle.bw_parse.specs.Steps.Statements.{receive, receives_from, parse_list, parse_receives}
use Rattle.bw_lang.proofs.Options.{bind_some, where_cases, some_is}
use Rattle.bw_parse.proofs.FrontLaws.{behind_is, keyword_is, named_is, word_is}
use Rattle.bw_parse.proofs.Stable.{bind_same, where_same}
use Rattle.bw_parse.proofs.Steps.{same_from}
use Rattle.bw_parse.proofs.Shorter.{behind_shorter}

-- the lexemes are those of a receive, and then the rest
abbrev pub ReadsReceive : List Lexeme → Receive → List Lexeme → Type 0
ReadsReceive ts r k = (ts ≡ lex.Word r.target ∷ lex.Sign (codes "=") ∷ lex.Word r.field ∷ k) × IsName r.target

pub receive_is : (ts : List Lexeme) (x : Receive × List Lexeme) → receive ts ≡ Some x → ReadsReceive ts x.0 x.1
unfolding receive
receive_is ts x e =
    let t = bind_some (named ts) _ x e in
    let n = named_is ts t.0 t.1 in
    let k = bind_some (behind (codes "=") t.0.1) _ x t.2 in
    let f = bind_some (word k.0) _ x k.2 in
    let p = n.0 ∙ ap (λ l. lex.Word t.0.0 ∷ l) (behind_is (codes "=") t.0.1 k.0 k.1 ∙ ap (λ l. lex.Sign (codes "=") ∷ l) (word_is k.0 f.0 f.1)) in
    subst (λ (y : Receive × List Lexeme). ReadsReceive ts y.0 y.1) (some_is (record { target = t.0.0; field = f.0.0 }, f.0.1) x f.2) (p, n.1)

-- receives behind those of front
pub record ReadsList (front : List Receive) (ts : List Lexeme) (all : List Receive) (k : List Lexeme) : Type 0 where
  pub first : Receive
  pub rest : List Receive
  pub is : all ≡ front ++ first ∷ rest
  pub names : HaveTargets (first ∷ rest)
  pub spelled : (s : List ℕ) → lex.Sign s ∷ ts ≡ spell_each s (first ∷ rest) k

sound_from : (f : ℕ) (front : List Receive) (ts : List Lexeme) (x : List Receive × List Lexeme) → receives_from f front ts ≡ Some x → ReadsList front ts x.0 x.1
unfolding receives_from
sound_from zero front ts x e = absurd cc
sound_from (suc f) front ts x e =
    let r = bind_some (receive ts) _ x e in
    let p = receive_is ts r.0 r.1 in
    let head : (s : List ℕ) → lex.Sign s ∷ ts ≡ spell_each s (r.0.0 ∷ []) r.0.1 = λ s. ap (λ l. lex.Sign s ∷ l) p.0 in
    elim (where_cases (behind (codes ",") r.0.1) (λ k. receives_from f (front ++ r.0.0 ∷ []) k) (Some (front ++ r.0.0 ∷ [], r.0.1)) (Some x) r.2) [
      | inl h ↦
          let c = behind_is (codes ",") r.0.1 h.0 h.1 in
          let o = sound_from f (front ++ r.0.0 ∷ []) h.0 x h.2 in
          record {
            first = r.0.0;
            rest = o.first ∷ o.rest;
            is = o.is ∙ append_assoc front (r.0.0 ∷ []) (o.first ∷ o.rest);
            names = (p.1, o.names);
            spelled = λ s. head s ∙ ap (λ l. spell_each s (r.0.0 ∷ []) l) (c ∙ o.spelled (codes ","));
          }
      | inr h ↦
          subst (λ (y : List Receive × List Lexeme). ReadsList front ts y.0 y.1) (some_is (front ++ r.0.0 ∷ [], r.0.1) x h.1)
          (record { first = r.0.0; rest = []; is = refl; names = (p.1, tt); spelled = head })
    ]

pub sound_list : (front : List Receive) (ts : List Lexeme) (x : List Receive × List Lexeme) → parse_list front ts ≡ Some x → ReadsList front ts x.0 x.1
unfolding parse_list
sound_list front ts x e = sound_from (length ts + 1) front ts x e

pub sound_receives : (ts : List Lexeme) (x : List Receive × List Lexeme) → parse_receives ts ≡ Some x → (ts ≡ spell_receives x.0 x.1) × HaveTargets x.0
unfolding parse_receives
sound_receives ts x e =
    elim (where_cases (keyword (codes "receive") ts) _ (Some ([], ts)) (Some x) e) [
      | inl h ↦
          let k = keyword_is (codes "receive") ts h.0 h.1 in
          let j = bind_some (behind (codes "[") h.0) _ x h.2 in
          let r = bind_some (parse_list [] j.0) _ x j.2 in
          let z = bind_some (behind (codes "]") r.0.1) (λ z. Some (r.0.0, z)) x r.2 in
          let l = sound_list [] j.0 r.0 r.1 in
          let a = behind_is (codes "[") h.0 j.0 j.1 in
          let b = behind_is (codes "]") r.0.1 z.0 z.1 in
          let all : (ts ≡ spell_receives (l.first ∷ l.rest) z.0) × HaveTargets (l.first ∷ l.rest) =
          (k ∙ ap (λ t. lex.Word (codes "receive") ∷ t) (a ∙ l.spelled (codes "[") ∙ ap (spell_each (codes "[") (l.first ∷ l.rest)) b), l.names) in
          subst (λ (y : List Receive × List Lexeme). (ts ≡ spell_receives y.0 y.1) × HaveTargets y.0) (some_is (r.0.0, z.0) x z.2)
          (subst (λ rs. (ts ≡ spell_receives rs z.0) × HaveTargets rs) (sym l.is) all)
      | inr h ↦ subst (λ (y : List Receive × List Lexeme). (ts ≡ spell_receives y.0 y.1) × HaveTargets y.0) (some_is ([], ts) x h.1) (refl, tt)
    ]

-- ---- the equations of the list

pub receive_shorter : (ts : List Lexeme) (x : Receive × List Lexeme) → receive ts ≡ Some x → length x.1 < length ts
receive_shorter ts x e = omega (arith, ap length (receive_is ts x e).0)

stable_list : (f : ℕ) (front : List Receive) (ts : List Lexeme) → length ts + 1 ≤ f → receives_from (suc f) front ts ≡ receives_from f front ts
unfolding receives_from
stable_list zero front ts le = absurd (omega arith)
stable_list (suc f) front ts le =
    bind_same (receive ts) (receive ts) _ _ refl
    (λ r p. let s = receive_shorter ts r p in
    where_same (behind (codes ",") r.1) _ _ _ _
    (λ k q. let t = behind_shorter (codes ",") r.1 k q in stable_list f (front ++ r.0 ∷ []) k (omega arith)) (λ q. refl))

list_is : (f : ℕ) (front : List Receive) (ts : List Lexeme) → length ts + 1 ≤ f → receives_from f front ts ≡ parse_list front ts
unfolding parse_list
list_is f front ts le = same_from (λ f. receives_from f front ts) (length ts + 1) (λ f h. stable_list f front ts h) f (length ts + 1) le (omega arith)

pub parse_list_is : (front : List Receive) (ts : List Lexeme) → parse_list front ts ≡
    (receive ts >>= λ r. where_some (behind (codes ",") r.1) (λ k. parse_list (front ++ r.0 ∷ []) k) (Some (front ++ r.0 ∷ [], r.1)))
unfolding receives_from
parse_list_is front ts =
    let f = length ts + 2 in
    sym (list_is (suc f) front ts (omega arith))
    ∙ bind_same (receive ts) (receive ts) _ _ refl
    (λ r p. let s = receive_shorter ts r p in
    where_same (behind (codes ",") r.1) _ _ _ _ (λ k q. let t = behind_shorter (codes ",") r.1 k q in list_is f (front ++ r.0 ∷ []) k (omega arith))
    (λ q. refl))

-- ---- what is spelled so is parsed

receive_gives : (r : Receive) (k : List Lexeme) → IsName r.target → receive (lex.Word r.target ∷ lex.Sign (codes "=") ∷ lex.Word r.field ∷ k) ≡ Some (r, k)
unfolding receive named word behind
receive_gives r k n = rw n refl

list_gives : (r : Receive) (rs front : List Receive) (k : List Lexeme) → HaveTargets (r ∷ rs) →
    parse_list front (lex.Word r.target ∷ lex.Sign (codes "=") ∷ lex.Word r.field ∷ spell_each (codes ",") rs (lex.Sign (codes "]") ∷ k))
    ≡ Some (front ++ r ∷ rs, lex.Sign (codes "]") ∷ k)
unfolding behind
list_gives r [] front k n = parse_list_is front _ ∙ rw (receive_gives r (lex.Sign (codes "]") ∷ k) n.0) refl
list_gives r (q ∷ rs) front k n =
    parse_list_is front _
    ∙ rw (receive_gives r (spell_each (codes ",") (q ∷ rs) (lex.Sign (codes "]") ∷ k)) n.0)
    (list_gives q rs (front ++ r ∷ []) k n.1 ∙ ap (λ l. Some (l, lex.Sign (codes "]") ∷ k)) (append_assoc front (r ∷ []) (q ∷ rs)))

pub receives_give : (rs : List Receive) (k : List Lexeme) → HaveTargets rs
    → parse_receives (spell_receives rs (lex.Sign (codes ";") ∷ k)) ≡ Some (rs, lex.Sign (codes ";") ∷ k)
unfolding parse_receives keyword behind
receives_give [] k n = refl
receives_give (r ∷ rs) k n = rw (list_gives r rs [] (lex.Sign (codes ";") ∷ k) n) refl

pub receives_bind : (rs : List Receive) (k : List Lexeme) → HaveTargets rs → binds (spell_receives rs (lex.Sign (codes ";") ∷ k)) < 1
receives_bind [] k n = omega arith
receives_bind (r ∷ rs) k n = omega arith

-- Statements that are parsed are spelled so.
use Rattle.std.proofs.Common.{◌≡◌, ℕ, zero, suc, List, ◌∷◌, Some, refl, sym, ap, ◌∙◌, subst, inl, inr, codes}
use Rattle.bw_lang.specs.Service.Code.{Code, done, declare, assign, if_then, if_else, while_loop, block, for_each, show, exit, append}
use Rattle.bw_lang.specs.declared.stmt.Kind.{Kind}
use Rattle.bw_lang.specs.declared.token.Lexeme.{Lexeme}
use Rattle.bw_lang.specs.declared.token.Lexeme.TheVariants as lex
use Rattle.bw_lang.specs.Text.Levels.{Levelled}
use Rattle.bw_lang.specs.Text.Spelling.{spell, spell_test, spell_value, spell_code, spell_receives, IsCode}
use Rattle.bw_lang.specs.Service.Term.{Term}
use Rattle.bw_lang.specs.Text.Words.{IsName, kind_word}
use Rattle.bw_parse.specs.Steps.Expressions.{parse, parse_inside, steps}
use Rattle.bw_lang.specs.Table.Options.{◌>>=◌}
use Rattle.bw_parse.specs.Steps.Fronts.{behind, keyword, named, kind}
use Rattle.bw_parse.specs.Steps.Statements.{condition, each_head, valued, parse_receives, parse_show, parse_exit, parse_declare, parse_assign, simple}
use Rattle.bw_parse.specs.Steps.Statements.{code_of, one, braces}
use Rattle.bw_lang.proofs.Options.{bind_some, where_cases, some_is}
use Rattle.bw_parse.proofs.FrontLaws.{some, behind_is, keyword_is, named_is, kind_is}
use Rattle.bw_parse.proofs.Receives.{sound_receives}
use Rattle.bw_parse.proofs.Sound.{sound_inside}
use Rattle.bw_parse.proofs.Whole.{parse_sound}

-- the lexemes are those of the statements, and then the rest
pub record ReadsCode (ts : List Lexeme) (c : Code) (k : List Lexeme) : Type 0 where
  pub spelled : ts ≡ spell_code c k
  pub good : IsCode c

-- there is a statement
abbrev pub IsStatement : Code → Type 0
IsStatement done = ⊥
IsStatement c = Unit {0}

-- the same for one statement
pub record ReadsOne (ts : List Lexeme) (c : Code) (k : List Lexeme) : Type 0 where
  pub spelled : ts ≡ spell_code c k
  pub good : IsCode c
  pub some : IsStatement c

pub append_spelled : (c d : Code) (k : List Lexeme) → spell_code (append c d) k ≡ spell_code c (spell_code d k)
append_spelled done d k = refl
append_spelled (declare t w e r) d k = ap (λ l. spell_code (declare t w e done) l) (append_spelled r d k)
append_spelled (assign w e r) d k = ap (λ l. spell_code (assign w e done) l) (append_spelled r d k)
append_spelled (if_then t y r) d k = ap (λ l. spell_code (if_then t y done) l) (append_spelled r d k)
append_spelled (if_else t y n r) d k = ap (λ l. spell_code (if_else t y n done) l) (append_spelled r d k)
append_spelled (while_loop t b r) d k = ap (λ l. spell_code (while_loop t b done) l) (append_spelled r d k)
append_spelled (for_each w e b r) d k = ap (λ l. spell_code (for_each w e b done) l) (append_spelled r d k)
append_spelled (block b r) d k = ap (λ l. spell_code (block b done) l) (append_spelled r d k)
append_spelled (show p rs r) d k = ap (λ l. spell_code (show p rs done) l) (append_spelled r d k)
append_spelled (exit p r) d k = ap (λ l. spell_code (exit p done) l) (append_spelled r d k)

append_good : (c d : Code) → IsCode c → IsCode d → IsCode (append c d)
append_good done d g h = h
append_good (declare t w e r) d g h = (g.0, g.1, append_good r d g.2 h)
append_good (assign w e r) d g h = (g.0, g.1, append_good r d g.2 h)
append_good (if_then t y r) d g h = (g.0, g.1, append_good r d g.2 h)
append_good (if_else t y n r) d g h = (g.0, g.1, g.2, append_good r d g.3 h)
append_good (while_loop t b r) d g h = (g.0, g.1, append_good r d g.2 h)
append_good (for_each w e b r) d g h = (g.0, g.1, g.2, append_good r d g.3 h)
append_good (block b r) d g h = (g.0, append_good r d g.1 h)
append_good (show p rs r) d g h = (g.0, g.1, append_good r d g.2 h)
append_good (exit p r) d g h = (g.0, append_good r d g.1 h)

got : {ts : List Lexeme} (c : Code) (k : List Lexeme) (x : Code × List Lexeme) → ReadsOne ts c k → some (c, k) ≡ some x → ReadsOne ts x.0 x.1
got {ts = ts} c k x r p = subst (λ (y : Code × List Lexeme). ReadsOne ts y.0 y.1) (some_is (c, k) x p) r

pub condition_is : (ts : List Lexeme) (x : Term × List Lexeme) → condition ts ≡ Some x → (ts ≡ spell_test x.0 x.1) × Levelled x.0
unfolding condition parse_inside
condition_is ts x e =
    let k = bind_some (behind (codes "(") ts) (λ k. parse_inside k) x e in
    let r = sound_inside (steps k.0) k.0 x k.2 in
    (behind_is (codes "(") ts k.0 k.1 ∙ ap (λ l. lex.Sign (codes "(") ∷ l) r.0, r.1)

-- the lexemes are those of ( NAME in e ) and then the rest
abbrev pub ReadsHead : List Lexeme → List ℕ × Term → List Lexeme → Type 0
ReadsHead ts h k =
    (ts ≡ lex.Sign (codes "(") ∷ lex.Word h.0 ∷ lex.Word (codes "in") ∷ spell h.1 (lex.Sign (codes ")") ∷ k)) × IsName h.0 × Levelled h.1

pub each_is : (ts : List Lexeme) (x : (List ℕ × Term) × List Lexeme) → each_head ts ≡ Some x → ReadsHead ts x.0 x.1
unfolding each_head parse_inside
each_is ts x e =
    let j = bind_some (behind (codes "(") ts) _ x e in
    let w = bind_some (named j.0) _ x j.2 in
    let wi = named_is j.0 w.0 w.1 in
    let k = bind_some (keyword (codes "in") w.0.1) _ x w.2 in
    let v = bind_some (parse_inside k.0) (λ v. Some ((w.0.0, v.0), v.1)) x k.2 in
    let vi = sound_inside (steps k.0) k.0 v.0 v.1 in
    subst (λ (y : (List ℕ × Term) × List Lexeme). ReadsHead ts y.0 y.1) (some_is ((w.0.0, v.0.0), v.0.1) x v.2) (
      behind_is (codes "(") ts j.0 j.1 ∙ ap (λ l. lex.Sign (codes "(") ∷ l) (wi.0 ∙ ap (λ l. lex.Word w.0.0 ∷ l)
          (keyword_is (codes "in") w.0.1 k.0 k.1 ∙ ap (λ l. lex.Word (codes "in") ∷ l) vi.0)),
      wi.1,
      vi.1,
    )

-- ---- statements without statements in them

-- the lexemes are those of NAME = e ; and then the rest
abbrev pub ReadsValue : List Lexeme → List ℕ × Term → List Lexeme → Type 0
ReadsValue ts v k = (ts ≡ spell_value v.0 v.1 k) × IsName v.0 × Levelled v.1

pub valued_is : (ts : List Lexeme) (x : (List ℕ × Term) × List Lexeme) → valued ts ≡ Some x → ReadsValue ts x.0 x.1
unfolding valued
valued_is ts x e =
    let w = bind_some (named ts) _ x e in
    let wi = named_is ts w.0 w.1 in
    let k = bind_some (behind (codes "=") w.0.1) _ x w.2 in
    let v = bind_some (parse 1 k.0) _ x k.2 in
    let vi = parse_sound k.0 v.0 v.1 in
    let z = bind_some (behind (codes ";") v.0.1) (λ z. Some ((w.0.0, v.0.0), z)) x v.2 in
    subst (λ (y : (List ℕ × Term) × List Lexeme). ReadsValue ts y.0 y.1) (some_is ((w.0.0, v.0.0), z.0) x z.2) (
      wi.0 ∙ ap (λ l. lex.Word w.0.0 ∷ l) (behind_is (codes "=") w.0.1 k.0 k.1
          ∙ ap (λ l. lex.Sign (codes "=") ∷ l) (vi.spelled ∙ ap (spell v.0.0) (behind_is (codes ";") v.0.1 z.0 z.1))),
      wi.1,
      vi.levelled,
    )

pub show_is : (ts k : List Lexeme) (x : Code × List Lexeme) → ts ≡ lex.Word (codes "show") ∷ k → parse_show k ≡ Some x → ReadsOne ts x.0 x.1
unfolding parse_show
show_is ts k x i e =
    let p = bind_some (parse 1 k) _ x e in
    let pi = parse_sound k p.0 p.1 in
    let r = bind_some (parse_receives p.0.1) _ x p.2 in
    let ri = sound_receives p.0.1 r.0 r.1 in
    let z = bind_some (behind (codes ";") r.0.1) (λ z. Some (show p.0.0 r.0.0 done, z)) x r.2 in
    got (show p.0.0 r.0.0 done) z.0 x
    (record {
      spelled =
          i ∙ ap (λ l. lex.Word (codes "show") ∷ l) (pi.spelled ∙ ap (spell p.0.0) (ri.0 ∙ ap (spell_receives r.0.0) (behind_is (codes ";") r.0.1 z.0 z.1)));
      good = (pi.levelled, ri.1, tt);
      some = tt;
    }) z.2

pub exit_is : (ts k : List Lexeme) (x : Code × List Lexeme) → ts ≡ lex.Word (codes "exit") ∷ k → parse_exit k ≡ Some x → ReadsOne ts x.0 x.1
unfolding parse_exit
exit_is ts k x i e =
    let p = bind_some (parse 1 k) _ x e in
    let pi = parse_sound k p.0 p.1 in
    let z = bind_some (behind (codes ";") p.0.1) (λ z. Some (exit p.0.0 done, z)) x p.2 in
    got (exit p.0.0 done) z.0 x
    (record {
      spelled = i
          ∙ ap (λ l. lex.Word (codes "exit") ∷ l) (pi.spelled ∙ ap (spell p.0.0) (behind_is (codes ";") p.0.1 z.0 z.1));
      good = (pi.levelled, tt);
      some = tt;
    }) z.2

pub declare_is : (t : Kind) (ts k : List Lexeme) (x : Code × List Lexeme) → ts ≡ lex.Word (kind_word t) ∷ k → parse_declare t k ≡ Some x → ReadsOne ts x.0 x.1
unfolding parse_declare
declare_is t ts k x i e =
    let v = bind_some (valued k) (λ v. Some (declare t v.0.0 v.0.1 done, v.1)) x e in
    let vi = valued_is k v.0 v.1 in
    got (declare t v.0.0.0 v.0.0.1 done) v.0.1 x (record { spelled = i ∙ ap (λ l. lex.Word (kind_word t) ∷ l) vi.0; good = (vi.1, vi.2, tt); some = tt }) v.2

pub assign_is : (ts : List Lexeme) (x : Code × List Lexeme) → parse_assign ts ≡ Some x → ReadsOne ts x.0 x.1
unfolding parse_assign
assign_is ts x e =
    let v = bind_some (valued ts) (λ v. Some (assign v.0.0 v.0.1 done, v.1)) x e in
    let vi = valued_is ts v.0 v.1 in
    got (assign v.0.0.0 v.0.0.1 done) v.0.1 x (record { spelled = vi.0; good = (vi.1, vi.2, tt); some = tt }) v.2

pub sound_simple : (ts : List Lexeme) (x : Code × List Lexeme) → simple ts ≡ Some x → ReadsOne ts x.0 x.1
unfolding simple
sound_simple ts x e =
    elim (where_cases (keyword (codes "show") ts) parse_show _ (Some x) e) [
      | inl h ↦ show_is ts h.0 x (keyword_is (codes "show") ts h.0 h.1) h.2
      | inr h ↦ elim (where_cases (keyword (codes "exit") ts) parse_exit _ (Some x) h.1) [
        | inl g ↦ exit_is ts g.0 x (keyword_is (codes "exit") ts g.0 g.1) g.2
        | inr g ↦ elim (where_cases (kind ts) (λ t. parse_declare t.0 t.1) (parse_assign ts) (Some x) g.1) [
          | inl i ↦ declare_is i.0.0 ts i.0.1 x (kind_is ts i.0 i.1) i.2
          | inr i ↦ assign_is ts x i.1
        ]
      ]
    ]

-- ---- all statements

mutual
  unfolding code_of

  pub sound_code : (f : ℕ) (ts : List Lexeme) (x : Code × List Lexeme) → code_of f ts ≡ Some x → ReadsCode ts x.0 (lex.Sign (codes "}") ∷ x.1)
  sound_code zero ts x e = absurd cc
  sound_code (suc f) ts x e =
      elim (where_cases (behind (codes "}") ts) (λ k. Some (done, k)) (one f ts >>= λ s. code_of f s.1 >>= λ c. Some (append s.0 c.0, c.1)) (Some x) e) [
        | inl h ↦
            subst (λ (y : Code × List Lexeme). ReadsCode ts y.0 (lex.Sign (codes "}") ∷ y.1)) (some_is (done, h.0) x h.2)
            (record { spelled = behind_is (codes "}") ts h.0 h.1; good = tt })
        | inr h ↦
            let s = bind_some (one f ts) _ x h.1 in
            let c = bind_some (code_of f s.0.1) (λ c. Some (append s.0.0 c.0, c.1)) x s.2 in
            let p = sound_one f ts s.0 s.1 in
            let q = sound_code f s.0.1 c.0 c.1 in
            subst (λ (y : Code × List Lexeme). ReadsCode ts y.0 (lex.Sign (codes "}") ∷ y.1)) (some_is (append s.0.0 c.0.0, c.0.1) x c.2)
            (record {
              spelled = p.spelled ∙ ap (spell_code s.0.0) q.spelled
                  ∙ sym (append_spelled s.0.0 c.0.0 (lex.Sign (codes "}") ∷ c.0.1));
              good = append_good s.0.0 c.0.0 p.good q.good;
            })
      ]

  pub sound_braces : (f : ℕ) (ts : List Lexeme) (x : Code × List Lexeme) → braces f ts ≡ Some x
      → (ts ≡ lex.Sign (codes "{") ∷ spell_code x.0 (lex.Sign (codes "}") ∷ x.1)) × IsCode x.0
  sound_braces zero ts x e = absurd cc
  sound_braces (suc f) ts x e =
      let k = bind_some (behind (codes "{") ts) (λ k. code_of f k) x e in
      let r = sound_code f k.0 x k.2 in
      (behind_is (codes "{") ts k.0 k.1 ∙ ap (λ l. lex.Sign (codes "{") ∷ l) r.spelled, r.good)

  pub sound_one : (f : ℕ) (ts : List Lexeme) (x : Code × List Lexeme) → one f ts ≡ Some x → ReadsOne ts x.0 x.1
  sound_one zero ts x e = absurd cc
  sound_one (suc f) ts x e =
      elim (where_cases (keyword (codes "if") ts) _ _ (Some x) e) [
        | inl h ↦
            let k = keyword_is (codes "if") ts h.0 h.1 in
            let t = bind_some (condition h.0) _ x h.2 in
            let ti = condition_is h.0 t.0 t.1 in
            let y = bind_some (braces f t.0.1) _ x t.2 in
            let yi = sound_braces f t.0.1 y.0 y.1 in
            let front =
            λ (l : List Lexeme) (q : y.0.1 ≡ l). k
            ∙ ap (λ l. lex.Word (codes "if") ∷ l) (ti.0
            ∙ ap (spell_test t.0.0) (yi.0 ∙ ap (λ l. lex.Sign (codes "{") ∷ spell_code y.0.0 (lex.Sign (codes "}") ∷ l)) q)) in
            elim (where_cases (keyword (codes "else") y.0.1) (λ e. braces f e >>= λ n. Some (if_else t.0.0 y.0.0 n.0 done, n.1))
            (Some (if_then t.0.0 y.0.0 done, y.0.1)) (Some x) y.2) [
              | inl g ↦
                  let n = bind_some (braces f g.0) (λ n. Some (if_else t.0.0 y.0.0 n.0 done, n.1)) x g.2 in
                  let ni = sound_braces f g.0 n.0 n.1 in
                  got (if_else t.0.0 y.0.0 n.0.0 done) n.0.1 x
                  (record {
                    spelled = front _ (keyword_is (codes "else") y.0.1 g.0 g.1 ∙ ap (λ l. lex.Word (codes "else") ∷ l) ni.0);
                    good = (
                      ti.1,
                      yi.1,
                      ni.1,
                      tt,
                    );
                    some = tt;
                  }) n.2
              | inr g ↦ got (if_then t.0.0 y.0.0 done) y.0.1 x (record { spelled = front _ refl; good = (ti.1, yi.1, tt); some = tt }) g.1
            ]
        | inr h ↦ elim (where_cases (keyword (codes "while") ts) _ _ (Some x) h.1) [
          | inl g ↦
              let k = keyword_is (codes "while") ts g.0 g.1 in
              let t = bind_some (condition g.0) _ x g.2 in
              let ti = condition_is g.0 t.0 t.1 in
              let b = bind_some (braces f t.0.1) (λ b. Some (while_loop t.0.0 b.0 done, b.1)) x t.2 in
              let bi = sound_braces f t.0.1 b.0 b.1 in
              got (while_loop t.0.0 b.0.0 done) b.0.1 x
              (record { spelled = k ∙ ap (λ l. lex.Word (codes "while") ∷ l) (ti.0 ∙ ap (spell_test t.0.0) bi.0); good = (ti.1, bi.1, tt); some = tt }) b.2
          | inr g ↦ elim (where_cases (keyword (codes "foreach") ts) _ _ (Some x) g.1) [
            | inl i ↦
                let k = keyword_is (codes "foreach") ts i.0 i.1 in
                let t = bind_some (each_head i.0) _ x i.2 in
                let ti = each_is i.0 t.0 t.1 in
                let b = bind_some (braces f t.0.1) (λ b. Some (for_each t.0.0.0 t.0.0.1 b.0 done, b.1)) x t.2 in
                let bi = sound_braces f t.0.1 b.0 b.1 in
                let head = λ (l : List Lexeme). lex.Sign (codes "(") ∷ lex.Word t.0.0.0 ∷ lex.Word (codes "in") ∷ spell t.0.0.1 (lex.Sign (codes ")") ∷ l) in
                got (for_each t.0.0.0 t.0.0.1 b.0.0 done) b.0.1 x
                (record { spelled = k ∙ ap (λ l. lex.Word (codes "foreach") ∷ l) (ti.0 ∙ ap head bi.0); good = (ti.1, ti.2, bi.1, tt); some = tt }) b.2
            | inr i ↦ elim (where_cases (behind (codes "{") ts) (λ k. code_of f k >>= λ b. Some (block b.0 done, b.1)) (simple ts) (Some x) i.1) [
              | inl j ↦
                  let b = bind_some (code_of f j.0) (λ b. Some (block b.0 done, b.1)) x j.2 in
                  let bi = sound_code f j.0 b.0 b.1 in
                  got (block b.0.0 done) b.0.1 x
                  (record { spelled = behind_is (codes "{") ts j.0 j.1 ∙ ap (λ l. lex.Sign (codes "{") ∷ l) bi.spelled; good = (bi.good, tt); some = tt }) b.2
              | inr j ↦ sound_simple ts x j.1
            ]
          ]
        ]
      ]

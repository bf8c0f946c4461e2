-- Lines read as the words that they are written with, and as nothing else.
use Rattle.std.proofs.Common.{◌≡◌, ℕ, ◌≤◌, Bool, true, false, ◌&&◌, ◌||◌, List, [], ◌∷◌, length, map, Some, None, refl, ap, sym, subst, ◌∙◌}
use Rattle.std.specs.Prelude.{codes, if◌then◌else◌, ◌==◌, nat_le}
use Rattle.std.specs.List.{list_all}
use Rattle.std.proofs.lemmas.Bool.{and_parts, and_from, eqb-true, leb-true, le-leb}
use Rattle.std.proofs.lemmas.List.{nil_from_length}
use Rattle.bw_lang.proofs.SameNames.{same_is}
use Rattle.bw_lang.proofs.Options.{bind_some, cond_some, if_some}
use Rattle.bw_lang.specs.Table.Names.{same}
use Rattle.bw_lang.specs.Table.Options.{◌>>=◌}
use Rattle.bw_lang.specs.declared.pieces.NameClass.{NameClass}
use Rattle.bw_lang.specs.declared.pieces.NameClass.TheVariants as class
use Rattle.bw_schema.proofs.Complete.{formula_complete}
use Rattle.bw_schema.proofs.SpelledParts.{formula_sound}
use Rattle.bw_schema.specs.Forms.{are_formed, are_names, depth, is_headed, is_line, is_name, one, spell_line, spell_needs}
use Rattle.bw_schema.specs.Steps.Reading.{formula_at, formula_of, line_of, line_with, lines_of, names_line, names_of, rare_line, root_of, tag_of, text_of}
use Rattle.bw_schema.specs.Steps.Reading.{value_line}
use Rattle.bw_schema.specs.Words.{has_some}
use Rattle.bw_schema.specs.declared.formulas.TheConstants.{FORMULA_NESTING}
use Rattle.bw_schema.specs.declared.lines.Line.{Line}
use Rattle.bw_schema.specs.declared.lines.Line.TheVariants.{Element, May, Must, Value, Has, Text, Need}
use Rattle.bw_schema.specs.declared.needs.Formula.{Formula}

-- the line is written with these words, and may stand in a schema of the version
pub record IsWritten (v : ℕ) (ws : List (List ℕ)) (line : Line) : Type 0 where
  pub spelled : ws ≡ spell_line line
  pub formed : is_line v line ≡ true

written_as : (v : ℕ) (ws : List (List ℕ)) (k l : Line) → k ≡ l → IsWritten v ws k → IsWritten v ws l
written_as v ws k l e w = subst (IsWritten v ws) e w

with_key : (v : ℕ) (key other : List ℕ) (ws : List (List ℕ)) (line : Line) → same key other ≡ true → IsWritten v (other ∷ ws) line → IsWritten v (key ∷ ws) line
with_key v key other ws line e w = subst (λ k. IsWritten v (k ∷ ws) line) (sym (same_is key other e)) w

no_words : (ws : List (List ℕ)) → (length ws == 0) ≡ true → ws ≡ []
no_words ws h = nil_from_length ws (eqb-true (length ws) 0 h)

-- ---- what is read is written so

pub tag_is : (ws : List (List ℕ)) (tag : List ℕ) → tag_of ws ≡ Some tag → (ws ≡ tag ∷ []) × (is_name class.Tag tag ≡ true)
tag_is [] tag h = absurd cc
tag_is (w ∷ []) tag h = let c = cond_some (is_name class.Tag w) w tag h in (ap (λ x. x ∷ []) c.1, ap (is_name class.Tag) (sym c.1) ∙ c.0)
tag_is (w ∷ x ∷ ws) tag h = absurd cc

names_are : (c : NameClass) (ws names : List (List ℕ)) → names_of c ws ≡ Some names → (ws ≡ names) × (are_names c names ≡ true)
names_are c ws names h = let k = cond_some (are_names c ws) ws names h in (k.1, ap (are_names c) (sym k.1) ∙ k.0)

value_is : (v : ℕ) (ws : List (List ℕ)) (line : Line) → value_line ws ≡ Some line → IsWritten v (codes "value" ∷ ws) line
value_is v [] line h = absurd cc
value_is v (w ∷ ws) line h =
    let k = cond_some (is_name class.Attr w && has_some ws) (Value w ws) line h in
    written_as v _ (Value w ws) line k.1 (record { spelled = refl; formed = k.0 })

formula_is : (v : ℕ) (ws : List (List ℕ)) (f : Formula) → (v == 2) ≡ true → formula_of ws ≡ Some f → IsWritten v (codes "need" ∷ ws) (Need f)
unfolding formula_of
formula_is v ws f two h =
    let b = bind_some (formula_at FORMULA_NESTING ws) (λ x. if length x.1 == 0 then Some x.0 else None) f h in
    let k = cond_some (length b.0.1 == 0) b.0.0 f b.2 in
    let s = (formula_sound FORMULA_NESTING).one_is ws b.0 b.1 in
    let made : IsWritten v (codes "need" ∷ ws) (Need b.0.0) = record {
      spelled = ap (λ (t : List (List ℕ)). codes "need" ∷ t) (s.spelled ∙ ap (spell_needs (one b.0.0)) (no_words b.0.1 k.0));
      formed = and_from (v == 2 && are_formed (one b.0.0)) (nat_le (depth (one b.0.0)) FORMULA_NESTING) (and_from (v == 2) (are_formed (one b.0.0)) two s.formed)
          (le-leb (depth (one b.0.0)) FORMULA_NESTING s.deep);
    } in
    written_as v _ (Need b.0.0) (Need f) (ap Need k.1) made

rare_is : (v : ℕ) (key : List ℕ) (ws : List (List ℕ)) (line : Line) → rare_line v key ws ≡ Some line → IsWritten v (key ∷ ws) line
unfolding rare_line
rare_is v key ws line h = first (same key (codes "text") && (length ws == 0)) refl h
  where
    second : (b : Bool) → (same key (codes "need") && (v == 2)) ≡ b → (if b then (formula_of ws >>= λ f. Some (Need f)) else None) ≡ Some line
        → IsWritten v (key ∷ ws) line
    second true e h =
        let k = and_parts (same key (codes "need")) (v == 2) e in
        let b = bind_some (formula_of ws) (λ f. Some (Need f)) line h in
        let n : Need b.0 ≡ line = cc in
        with_key v key (codes "need") ws line k.0 (written_as v _ (Need b.0) line n (formula_is v ws b.0 k.1 b.1))
    second false e h = absurd cc

    first : (b : Bool) → (same key (codes "text") && (length ws == 0)) ≡ b
        → (if b then Some Text else (if same key (codes "need") && (v == 2) then (formula_of ws >>= λ f. Some (Need f)) else None)) ≡ Some line
        → IsWritten v (key ∷ ws) line
    first true e h =
        let k = and_parts (same key (codes "text")) (length ws == 0) e in
        let n : Text ≡ line = cc in
        with_key v key (codes "text") ws line k.0 (written_as v _ Text line n
        (record { spelled = ap (λ (t : List (List ℕ)). codes "text" ∷ t) (no_words ws k.1); formed = refl }))
    first false e h = second (same key (codes "need") && (v == 2)) refl h

names_line_is : (v : ℕ) (key : List ℕ) (ws : List (List ℕ)) (line : Line) → names_line key ws ≡ Some line → IsWritten v (key ∷ ws) line
unfolding names_line
names_line_is v key ws line h = first (same key (codes "may")) refl h
  where
    made : (k : List ℕ) (c : NameClass) (l : List (List ℕ) → Line) → same key k ≡ true
        → ((names : List (List ℕ)) → are_names c names ≡ true → IsWritten v (k ∷ names) (l names))
        → (names_of c ws >>= λ names. Some (l names)) ≡ Some line → IsWritten v (key ∷ ws) line
    made k c l e w h =
        let b = bind_some (names_of c ws) (λ names. Some (l names)) line h in
        let n : l b.0 ≡ line = cc in
        let a = names_are c ws b.0 b.1 in
        with_key v key k ws line e (written_as v _ (l b.0) line n (subst (λ (t : List (List ℕ)). IsWritten v (k ∷ t) (l b.0)) (sym a.0) (w b.0 a.1)))

    third : (b : Bool) → same key (codes "has") ≡ b → (if b then (names_of class.Tag ws >>= λ tags. Some (Has tags)) else None) ≡ Some line
        → IsWritten v (key ∷ ws) line
    third true e h = made (codes "has") class.Tag Has e (λ names a. record { spelled = refl; formed = a }) h
    third false e h = absurd cc

    second : (b : Bool) → same key (codes "must") ≡ b
        → (if b then (names_of class.Attr ws >>= λ names. Some (Must names)) else
        (if same key (codes "has") then (names_of class.Tag ws >>= λ tags. Some (Has tags)) else None)) ≡ Some line
        → IsWritten v (key ∷ ws) line
    second true e h = made (codes "must") class.Attr Must e (λ names a. record { spelled = refl; formed = a }) h
    second false e h = third (same key (codes "has")) refl h

    first : (b : Bool) → same key (codes "may") ≡ b
        → (if b then (names_of class.Attr ws >>= λ names. Some (May names)) else
        (if same key (codes "must") then (names_of class.Attr ws >>= λ names. Some (Must names)) else
        (if same key (codes "has") then (names_of class.Tag ws >>= λ tags. Some (Has tags)) else None))) ≡ Some line
        → IsWritten v (key ∷ ws) line
    first true e h = made (codes "may") class.Attr May e (λ names a. record { spelled = refl; formed = a }) h
    first false e h = second (same key (codes "must")) refl h

with_is : (v : ℕ) (key : List ℕ) (ws : List (List ℕ)) (line : Line) → line_with v key ws ≡ Some line → IsWritten v (key ∷ ws) line
unfolding line_with
with_is v key ws line h = first (same key (codes "element")) refl h
  where
    third : (b : Bool) → (if b then rare_line v key ws else names_line key ws) ≡ Some line → IsWritten v (key ∷ ws) line
    third true h = rare_is v key ws line h
    third false h = names_line_is v key ws line h

    second : (b : Bool) → same key (codes "value") ≡ b
        → (if b then value_line ws else (if same key (codes "text")
        || same key (codes "need") then rare_line v key ws else names_line key ws)) ≡ Some line → IsWritten v (key ∷ ws) line
    second true e h = with_key v key (codes "value") ws line e (value_is v ws line h)
    second false e h = third (same key (codes "text") || same key (codes "need")) h

    first : (b : Bool) → same key (codes "element") ≡ b
        → (if b then (tag_of ws >>= λ tag. Some (Element tag)) else (if same key (codes "value") then value_line ws else
        (if same key (codes "text") || same key (codes "need") then rare_line v key ws else names_line key ws))) ≡ Some line → IsWritten v (key ∷ ws) line
    first true e h =
        let b = bind_some (tag_of ws) (λ tag. Some (Element tag)) line h in
        let n : Element b.0 ≡ line = cc in
        let t = tag_is ws b.0 b.1 in
        with_key v key (codes "element") ws line e
        (written_as v _ (Element b.0) line n (record { spelled = ap (λ (t : List (List ℕ)). codes "element" ∷ t) t.0; formed = t.1 }))
    first false e h = second (same key (codes "value")) refl h

pub line_is : (v : ℕ) (ws : List (List ℕ)) (line : Line) → line_of v ws ≡ Some line → IsWritten v ws line
line_is v [] line h = absurd cc
line_is v (key ∷ ws) line h = with_is v key ws line h

pub lines_are : (v : ℕ) (said : List (List (List ℕ))) (lines : List Line) → lines_of v said ≡ Some lines → (said ≡ map spell_line lines)
    × (list_all (is_line v) lines ≡ true)
lines_are v [] lines h = let n : [] ≡ lines = cc in (ap (map spell_line) n, ap (list_all (is_line v)) (sym n))
lines_are v (ws ∷ said) lines h =
    let b = bind_some (line_of v ws) (λ line. lines_of v said >>= λ more. Some (line ∷ more)) lines h in
    let k = bind_some (lines_of v said) (λ more. Some (b.0 ∷ more)) lines b.2 in
    let n : b.0 ∷ k.0 ≡ lines = cc in
    let w = line_is v ws b.0 b.1 in
    let rest = lines_are v said k.0 k.1 in (
      (λ i. w.spelled i ∷ rest.0 i) ∙ ap (map spell_line) n,
      ap (list_all (is_line v)) (sym n) ∙ and_from (is_line v b.0) (list_all (is_line v) k.0) w.formed rest.1,
    )

-- ---- what is written so is read

names_there : (c : NameClass) (names : List (List ℕ)) → are_names c names ≡ true → names_of c names ≡ Some names
names_there c names h = ap (λ b. if b then Some names else None) h

tag_there : (tag : List ℕ) → is_name class.Tag tag ≡ true → tag_of (tag ∷ []) ≡ Some tag
tag_there tag h = ap (λ b. if b then Some tag else None) h

formula_there : (f : Formula) → are_formed (one f) ≡ true → depth (one f) ≤ FORMULA_NESTING → formula_of (spell_needs (one f) []) ≡ Some f
unfolding formula_of
formula_there f h e = ap (λ o. o >>= λ x. if length x.1 == 0 then Some x.0 else None) ((formula_complete FORMULA_NESTING).one_read f [] h e)

pub line_there : (v : ℕ) (line : Line) → is_line v line ≡ true → line_of v (spell_line line) ≡ Some line
unfolding line_with names_line rare_line
line_there v (Element tag) h = ap (λ o. o >>= λ t. Some (Element t)) (tag_there tag h)
line_there v (May names) h = ap (λ o. o >>= λ ns. Some (May ns)) (names_there class.Attr names h)
line_there v (Must names) h = ap (λ o. o >>= λ ns. Some (Must ns)) (names_there class.Attr names h)
line_there v (Value name values) h = ap (λ b. if b then Some (Value name values) else None) h
line_there v (Has tags) h = ap (λ o. o >>= λ ns. Some (Has ns)) (names_there class.Tag tags h)
line_there v Text h = refl
line_there v (Need f) h =
    let k = and_parts (v == 2 && are_formed (one f)) (nat_le (depth (one f)) FORMULA_NESTING) h in
    let l = and_parts (v == 2) (are_formed (one f)) k.0 in
    ap (λ b. if b then (formula_of (spell_needs (one f) []) >>= λ g. Some (Need g)) else None) l.0
    ∙ ap (λ o. o >>= λ g. Some (Need g)) (formula_there f l.1 (leb-true (depth (one f)) FORMULA_NESTING k.1))

pub lines_there : (v : ℕ) (lines : List Line) → list_all (is_line v) lines ≡ true → lines_of v (map spell_line lines) ≡ Some lines
lines_there v [] h = refl
lines_there v (line ∷ lines) h =
    let k = and_parts (is_line v line) (list_all (is_line v) lines) h in
    ap (λ o. o >>= λ l. lines_of v (map spell_line lines) >>= λ ls. Some (l ∷ ls)) (line_there v line k.0)
    ∙ ap (λ o. o >>= λ ls. Some (line ∷ ls)) (lines_there v lines k.1)

-- ---- the text behind the first line

pub record IsBehind (v : ℕ) (said : List (List (List ℕ))) (root : List ℕ) (lines : List Line) : Type 0 where
  pub spelled : said ≡ (codes "root" ∷ root ∷ []) ∷ map spell_line lines
  pub root_tag : is_name class.Tag root ≡ true
  pub formed : list_all (is_line v) lines ≡ true
  pub headed : is_headed lines ≡ true

root_is : (ws : List (List ℕ)) (root : List ℕ) → root_of ws ≡ Some root → (ws ≡ codes "root" ∷ root ∷ []) × (is_name class.Tag root ≡ true)
root_is [] root h = absurd cc
root_is (key ∷ ws) root h =
    let k = if_some (same key (codes "root")) (tag_of ws) root h in
    let t = tag_is ws root k.1 in
    ((λ i. same_is key (codes "root") k.0 i ∷ t.0 i), t.1)

pub text_is : (v : ℕ) (said : List (List (List ℕ))) (t : List ℕ × List Line) → text_of v said ≡ Some t → IsBehind v said t.0 t.1
text_is v [] t h = absurd cc
text_is v (ws ∷ said) t h =
    let b = bind_some (root_of ws) (λ root. lines_of v said >>= λ lines. if is_headed lines then Some (root, lines) else None) t h in
    let k = bind_some (lines_of v said) (λ lines. if is_headed lines then Some (b.0, lines) else None) t b.2 in
    let c = cond_some (is_headed k.0) (b.0, k.0) t k.2 in
    let r = root_is ws b.0 b.1 in
    let l = lines_are v said k.0 k.1 in
    let made : IsBehind v (ws ∷ said) b.0 k.0 = record {
      spelled = λ i. r.0 i ∷ l.0 i;
      root_tag = r.1;
      formed = l.1;
      headed = c.0;
    } in
    subst (λ (u : List ℕ × List Line). IsBehind v (ws ∷ said) u.0 u.1) c.1 made

pub text_there : (v : ℕ) (said : List (List (List ℕ))) (root : List ℕ) (lines : List Line) → IsBehind v said root lines → text_of v said ≡ Some (root, lines)
text_there v said root lines b =
    ap (text_of v) b.spelled
    ∙ ap (λ o. o >>= λ r. lines_of v (map spell_line lines) >>= λ ls. if is_headed ls then Some (r, ls) else None) (tag_there root b.root_tag)
    ∙ ap (λ o. o >>= λ ls. if is_headed ls then Some (root, ls) else None) (lines_there v lines b.formed)
    ∙ ap (λ t. if t then Some (root, lines) else None) b.headed

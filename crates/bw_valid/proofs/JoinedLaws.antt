-- Joining the texts of a page changes nothing of what is valid in it.
use Rattle.std.proofs.Common.{◌≡◌, ℕ, suc, ◌+◌, Bool, true, false, ◌||◌, ◌&&◌, not, List, [], ◌∷◌, Option, Some, None, refl, ap, ◌∙◌, if◌then◌else◌}
use Rattle.std.specs.List.{list_all}
use Rattle.std.proofs.lemmas.List.Folds.{list_all-append}
use Rattle.bw_lang.specs.declared.items.Attr.{Attr}
use Rattle.bw_lang.specs.Document.Documents.{elements}
use Rattle.bw_lang.specs.Document.Forest.{Forest, none, text, gap, element}
use Rattle.bw_lang.specs.Document.Print.{text_before, joined}
use Rattle.bw_lang.proofs.Counts.{text_elements}
use Rattle.bw_schema.specs.declared.rules.Rule.{Rule}
use Rattle.bw_schema.specs.Needs.{Needs, nothing, all_of, some_of, attr, one_value, content, order}
use Rattle.bw_schema.specs.Rules.{allows, permits, rule_of}
use Rattle.bw_schema.specs.Validity as v
use Rattle.bw_lang.specs.Text.Bytes.{is_blank, is_blank_text}
use Rattle.bw_schema.specs.Words.{is_among}
use Rattle.bw_valid.specs.Breaches.{broken_at, placed, or_then, first_broken}
use Rattle.bw_valid.specs.Laws.{BreachJoined}
use Rattle.std.proofs.Math.Bool.{and_assoc}

-- ---- a text in front

text_child : (p : List ℕ → Bool) (s : List ℕ) (d : Forest) → v.each_child p (text_before s d) ≡ v.each_child p d
text_child p [] d = refl
text_child p (b ∷ s) none = refl
text_child p (b ∷ s) (text t d) = refl
text_child p (b ∷ s) (gap g d) = refl
text_child p (b ∷ s) (element tag attrs inner d) = refl

text_order : (x y s : List ℕ) (d : Forest) → v.ordered x y (text_before s d) ≡ v.ordered x y d
text_order x y [] d = refl
text_order x y (b ∷ s) none = refl
text_order x y (b ∷ s) (text t d) = refl
text_order x y (b ∷ s) (gap g d) = refl
text_order x y (b ∷ s) (element tag attrs inner d) = refl

text_blank : (s : List ℕ) (d : Forest) → v.each_text is_blank_text (text_before s d) ≡ (is_blank_text s && v.each_text is_blank_text d)
text_blank [] d = refl
text_blank (b ∷ s) none = refl
text_blank (b ∷ s) (text t d) =
    ap (λ x. x && v.each_text is_blank_text d) (list_all-append is_blank (b ∷ s) t)
    ∙ and_assoc (is_blank_text (b ∷ s)) (is_blank_text t) (v.each_text is_blank_text d)
text_blank (b ∷ s) (gap g d) = refl
text_blank (b ∷ s) (element tag attrs inner d) = refl

text_broken : (rules : List Rule) (n : ℕ) (s : List ℕ) (d : Forest) → first_broken rules n (text_before s d) ≡ first_broken rules n d
text_broken rules n [] d = refl
text_broken rules n (b ∷ s) none = refl
text_broken rules n (b ∷ s) (text t d) = refl
text_broken rules n (b ∷ s) (gap g d) = refl
text_broken rules n (b ∷ s) (element tag attrs inner d) = refl

-- ---- all texts

joined_elements : (d : Forest) → elements (joined d) ≡ elements d
joined_elements none = refl
joined_elements (text s d) = text_elements s (joined d) ∙ joined_elements d
joined_elements (gap g d) = joined_elements d
joined_elements (element tag attrs inner d) = λ i. suc (joined_elements inner i + joined_elements d i)

joined_child : (p : List ℕ → Bool) (d : Forest) → v.each_child p (joined d) ≡ v.each_child p d
joined_child p none = refl
joined_child p (text s d) = text_child p s (joined d) ∙ joined_child p d
joined_child p (gap g d) = joined_child p d
joined_child p (element tag attrs inner d) = ap (λ b. p tag && b) (joined_child p d)

joined_order : (x y : List ℕ) (d : Forest) → v.ordered x y (joined d) ≡ v.ordered x y d
joined_order x y none = refl
joined_order x y (text s d) = text_order x y s (joined d) ∙ joined_order x y d
joined_order x y (gap g d) = joined_order x y d
joined_order x y (element tag attrs inner d) =
    ap (λ b. (v.is_other y tag || b) && v.ordered x y (joined d)) (joined_child (v.is_other x) d)
    ∙ ap (λ b. (v.is_other y tag || v.each_child (v.is_other x) d) && b) (joined_order x y d)

joined_blank : (d : Forest) → v.each_text is_blank_text (joined d) ≡ v.each_text is_blank_text d
joined_blank none = refl
joined_blank (text s d) = text_blank s (joined d) ∙ ap (λ b. is_blank_text s && b) (joined_blank d)
joined_blank (gap g d) = joined_blank d
joined_blank (element tag attrs inner d) = joined_blank d

-- both parts of needs
both : (b : Bool) (p q r s : Bool) → p ≡ q → r ≡ s → v.joined b p r ≡ v.joined b q s
both b p q r s e f = ap (λ k. v.joined b k r) e ∙ ap (λ k. v.joined b q k) f

joined_holds : (b : Bool) (needs : Needs) (a : List Attr) (d : Forest) → v.holds b needs a (joined d) ≡ v.holds b needs a d
joined_holds b nothing a d = refl
joined_holds b (all_of parts rest) a d = both b _ _ _ _ (joined_holds true parts a d) (joined_holds b rest a d)
joined_holds b (some_of parts rest) a d = both b _ _ _ _ (joined_holds false parts a d) (joined_holds b rest a d)
joined_holds b (attr x rest) a d = both b _ _ _ _ refl (joined_holds b rest a d)
joined_holds b (one_value x vs rest) a d = both b _ _ _ _ refl (joined_holds b rest a d)
joined_holds b (content x rest) a d = both b _ _ _ _ (ap not (joined_child (v.is_other x) d)) (joined_holds b rest a d)
joined_holds b (order x y rest) a d = both b _ _ _ _ (joined_order x y d) (joined_holds b rest a d)

-- the number of the first rule that is broken, by what is known of children, of texts and of needs
abbrev asked : Rule → List Attr → Bool → Bool → Bool → Option ℕ
asked r a children texts needs =
    if not (v.each_fixed (λ x w. allows r x) a) then Some 1 else
    if not (list_all (v.has_fixed a) r.must) then Some 2 else
    if not (v.each_fixed (permits r.values) a) then Some 3 else
    if not children then Some 4 else
    if not (r.text || texts) then Some 5 else
    if not needs then Some 7 else None

joined_rule : (o : Option Rule) (a : List Attr) (d : Forest) → broken_at o a (joined d) ≡ broken_at o a d
joined_rule None a d = refl
joined_rule (Some r) a d =
    let ask = asked r a in
    ap (λ x. ask x (v.each_text is_blank_text (joined d)) (v.holds true r.needs a (joined d))) (joined_child (is_among r.has) d)
    ∙ ap (λ x. ask (v.each_child (is_among r.has) d) x (v.holds true r.needs a (joined d))) (joined_blank d)
    ∙ ap (λ x. ask (v.each_child (is_among r.has) d) (v.each_text is_blank_text d) x) (joined_holds true r.needs a d)

joined_broken : (rules : List Rule) (n : ℕ) (d : Forest) → first_broken rules n (joined d) ≡ first_broken rules n d
joined_broken rules n none = refl
joined_broken rules n (text s d) = text_broken rules n s (joined d) ∙ joined_broken rules n d
joined_broken rules n (gap g d) = joined_broken rules n d
joined_broken rules n (element tag a inner d) =
    let own = λ (x : Option ℕ). placed (n + 1) x in
    ap (λ x. or_then (own x) (or_then (first_broken rules (n + 1) (joined inner)) (first_broken rules (n + 1 + elements (joined inner)) (joined d))))
    (joined_rule (rule_of rules tag) a inner)
    ∙ ap (λ x. or_then (own (broken_at (rule_of rules tag) a inner)) (or_then x (first_broken rules (n + 1 + elements (joined inner)) (joined d))))
    (joined_broken rules (n + 1) inner)
    ∙ ap (λ k. or_then (own (broken_at (rule_of rules tag) a inner)) (or_then (first_broken rules (n + 1) inner) (first_broken rules (n + 1 + k) (joined d))))
    (joined_elements inner)
    ∙ ap (λ x. or_then (own (broken_at (rule_of rules tag) a inner)) (or_then (first_broken rules (n + 1) inner) x))
    (joined_broken rules (n + 1 + elements inner) d)

pub breach_joined : BreachJoined
breach_joined s tag attrs inner =
    ap (λ x. if v.is_rooted s.root (element tag attrs inner none) then x else Some (record { place = 1; rule = 6 }))
    (joined_broken s.elements 0 (element tag attrs inner none))

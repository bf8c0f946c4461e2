-- What is shown of a fault by the marks of a service is what is defined.
use Rattle.std.proofs.Common.{◌≡◌, ◌≤◌, ℕ, zero, suc, ◌+◌, ◌-◌, List, [], ◌∷◌, Option, None, Some, refl, ap, sym, ◌∙◌, arith}
use Rattle.std.specs.Prelude.{option_map, unwrap_or}
use Rattle.std.specs.List.{slice_get}
use Rattle.std.proofs.lemmas.Bool.{ne_eqb}
use Rattle.bw_excerpt.specs.declared.excerpt.Place.{Place}
use Rattle.bw_faults.specs.declared.fault.Fault.{Fault}
use Rattle.bw_hints.specs.Hints as hints
use Rattle.bw_lang.specs.declared.declaration.Draft.{Draft}
use Rattle.bw_lang.specs.declared.declaration.Draft.TheVariants as drafts
use Rattle.bw_places.specs.Counts.{draft_tokens, drafts_tokens}
use Rattle.bw_places.specs.Seeking.{declared_at, seek_all, spans_of}
use Rattle.bw_places.specs.declared.span.Span.{Span}
use Rattle.bw_places.proofs.Picks.{pick, all_picks}
use Rattle.bw_diagnose.specs.Blocks.{tag_name, fault_block, marked_block}
use Rattle.bw_diagnose.specs.Known.{tokens_in, lexemes_in}
use Rattle.bw_diagnose.specs.Marks.{insides_of, IsMarks, marked_span, marked_place, marked_element}
use Rattle.bw_diagnose.specs.Places.{span, tag_there, token_or, named_token, sought_span, statement_span, template_number, numbered_span}
use Rattle.bw_diagnose.specs.Places.{template_span, element_place, fault_element, fault_place}
use Rattle.bw_diagnose.specs.declared.marks.Marks.{Marks}
use Rattle.bw_diagnose.proofs.SameBlocks.{same_block}

-- ---- statements

picked : (ss : List Span) (n end : ℕ) → unwrap_or (slice_get ss n) (span 1 2) ≡ sought_span (pick ss n end)
picked [] n end = refl
picked (s ∷ ss) zero end = refl
picked (s ∷ ss) (suc n) end = picked ss n end

same_span : (ds : List Draft) (statements : List Span) (point : ℕ) → statements ≡ spans_of ds 3
    → marked_span statements point ≡ statement_span ds point
same_span ds statements point e =
    ap (λ l. marked_span l point) e ∙ picked (spans_of ds 3) (point - 1) (3 + drafts_tokens ds)
    ∙ ap sought_span (sym (all_picks ds (point - 1) 3 (3 + drafts_tokens ds) refl))

same_place : (text : List ℕ) (ds : List Draft) (statements : List Span) (f : Fault) → statements ≡ spans_of ds 3
    → marked_place text statements f ≡ fault_place text ds f
same_place text ds statements f e = ap (λ (s : Span). token_or text s (named_token text s f f.template)) (same_span ds statements f.point e)

-- ---- templates

-- the tokens of the declaration d, where the first of these has the number k
abbrev shifted : List Draft → ℕ → ℕ → Option ℕ → Option Span
shifted ds k at None = None
shifted ds k at (Some d) = declared_at ds (d - k) at

unshifted : (ds : List Draft) (o : Option ℕ) → numbered_span ds o ≡ shifted ds 0 3 o
unshifted ds None = refl
unshifted ds (Some d) = let e : d ≡ d - 0 = omega arith in ap (λ n. declared_at ds n 3) e

-- the next template
later : (n k at : ℕ) (w inside : List ℕ) (ds : List Draft)
    → template_number (drafts.Template w inside ∷ ds) (suc n) k ≡ template_number ds n (k + 1)
later n k at w inside ds = let f : suc n - 1 ≡ n = omega arith in let g = ne_eqb (suc n) 0 (λ z. omega arith) in rw (g, f) refl

number_from : (ds : List Draft) (n k d : ℕ) → template_number ds n k ≡ Some d → k ≤ d
number_from [] n k d e = absurd (cc)
number_from (drafts.Template w inside ∷ ds) zero k d e = let same : k ≡ d = cc in omega arith
number_from (drafts.Template w inside ∷ ds) (suc n) k d e =
    let h : k + 1 ≤ d = number_from ds n (k + 1) d (sym (later n k 0 w inside ds) ∙ e) in omega arith
number_from (drafts.Shared kind w init ∷ ds) n k d e = let h : k + 1 ≤ d = number_from ds n (k + 1) d e in omega arith
number_from (drafts.Session s ∷ ds) n k d e = let h : k + 1 ≤ d = number_from ds n (k + 1) d e in omega arith

one_on : (x : Draft) (ds : List Draft) (k at : ℕ) (o : Option ℕ) → ((d : ℕ) → o ≡ Some d → k + 1 ≤ d)
    → shifted (x ∷ ds) k at o ≡ shifted ds (k + 1) (at + draft_tokens x) o
one_on x ds k at None h = refl
one_on x ds k at (Some d) h =
    let le : k + 1 ≤ d = h d refl in
    let e : d - k ≡ suc (d - (k + 1)) = omega arith in
    ap (λ n. declared_at (x ∷ ds) n at) e

elements : (text : List ℕ) (element : ℕ) (ds : List Draft) (n k at : ℕ)
    → option_map (λ t. tag_there (tokens_in text) (lexemes_in text) t (element - 1)) (slice_get (insides_of ds at) n)
    ≡ element_place text element (shifted ds k at (template_number ds n k))
elements text element [] n k at = refl
elements text element (drafts.Template w inside ∷ ds) zero k at =
    let e : 0 ≡ k - k = omega arith in ap (λ i. element_place text element (declared_at (drafts.Template w inside ∷ ds) i at)) e
elements text element (drafts.Template w inside ∷ ds) (suc n) k at =
    let x = drafts.Template w inside in
    elements text element ds n (k + 1) (at + draft_tokens x)
    ∙ ap (element_place text element) (sym (one_on x ds k at (template_number ds n (k + 1)) (number_from ds n (k + 1))))
    ∙ ap (λ o. element_place text element (shifted (x ∷ ds) k at o)) (sym (later n k at w inside ds))
elements text element (drafts.Shared kind w init ∷ ds) n k at =
    let x = drafts.Shared kind w init in
    elements text element ds n (k + 1) (at + draft_tokens x)
    ∙ ap (element_place text element) (sym (one_on x ds k at (template_number ds n (k + 1)) (number_from ds n (k + 1))))
elements text element (drafts.Session s ∷ ds) n k at =
    let x = drafts.Session s in
    elements text element ds n (k + 1) (at + draft_tokens x)
    ∙ ap (element_place text element) (sym (one_on x ds k at (template_number ds n (k + 1)) (number_from ds n (k + 1))))

same_element : (text : List ℕ) (ds : List Draft) (insides : List ℕ) (f : Fault) (template : Option ℕ) → insides ≡ insides_of ds 3
    → marked_element text insides f template ≡ fault_element text ds f template
same_element text ds insides f None e = refl
same_element text ds insides f (Some n) e =
    ap (λ l. marked_element text l f (Some n)) e ∙ elements text f.place ds n 0 3
    ∙ ap (element_place text f.place) (sym (unshifted ds (template_number ds n 0)))

pub same_marks : (name text : List ℕ) (ds : List Draft) (marks : Marks) (f : Fault) → IsMarks ds marks
    → marked_block name text marks f ≡ fault_block name text ds f
same_marks name text ds marks f m =
    let element = same_element text ds marks.insides.items f f.template m.insides in
    same_block name text _ _ _ _ _ _ (hints.fault_mend f.number) _ (same_place text ds marks.statements.items f m.statements) element
    (ap (λ e. hints.fault_what f.number f.detail (tag_name text f.place e)) element) refl

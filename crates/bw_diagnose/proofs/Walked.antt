-- One step of a walk over the inside of a template.
use Rattle.std.proofs.Common.{◌≡◌, ◌<◌, ℕ, ◌+◌, Bool, if◌then◌else◌, List, ◌∷◌, length, get_or, drop, Option, Some, refl, ap, sym, ◌∙◌, subst}
use Rattle.std.proofs.lemmas.List.{at_drop_more}
use Rattle.bw_lang.specs.Text.Bytes.{is_blank}
use Rattle.bw_tmpl.specs.declared.fault.TmplFault.{TmplFault}
use Rattle.bw_diagnose.specs.Attributes.{repeats_here, names_behind, repeated_from}
use Rattle.bw_diagnose.specs.Gaps.{part_behind}
use Rattle.bw_diagnose.specs.Markup.{stage_behind, stuck, go_on, stuck_from}
use Rattle.bw_diagnose.specs.Pairing.{is_refused, pair_at, tag_behind, open_behind, refused_from}
use Rattle.bw_diagnose.specs.declared.gaps.Part.{Part}
use Rattle.bw_diagnose.specs.declared.markup.Stage.{Stage}

-- what is left begins with the byte
left : (xs : List ℕ) (i b : ℕ) → b ≡ get_or xs i b → i < length xs → drop i xs ≡ b ∷ drop (i + 1) xs
left xs i b e h = at_drop_more (λ l. l) xs i b h ∙ ap (λ y. y ∷ drop (i + 1) xs) (sym e)

pub stuck_step : (s : Stage) (xs : List ℕ) (i b : ℕ) → b ≡ get_or xs i b → i < length xs → stuck_from s i (drop i xs)
    ≡ go_on (stage_behind s b (drop (i + 1) xs)) (stuck s i) (λ next. stuck_from next (i + 1) (drop (i + 1) xs))
stuck_step s xs i b e h = ap (stuck_from s i) (left xs i b e h)

pub refused_step : (fault : TmplFault) (inside : List ℕ) (part : Part) (tag : Option ℕ) (around xs : List ℕ) (i b : ℕ) → b ≡ get_or xs i b → i < length xs
    → refused_from fault inside part tag around i (drop i xs)
    ≡ (if is_refused fault inside part around (drop i xs) then Some (pair_at fault around i)
    else refused_from fault inside (part_behind part b) (tag_behind part tag i (drop i xs)) (open_behind inside part tag around (drop i xs)) (i + 1)
    (drop (i + 1) xs))
refused_step fault inside part tag around xs i b e h =
    subst (λ l. refused_from fault inside part tag around i l ≡ (if is_refused fault inside part around l then Some (pair_at fault around i)
    else refused_from fault inside (part_behind part b) (tag_behind part tag i l) (open_behind inside part tag around l) (i + 1) (drop (i + 1) xs)))
    (sym (left xs i b e h)) refl

pub repeated_step : (part : Part) (blank : Bool) (names : List (List ℕ)) (xs : List ℕ) (i b : ℕ) → b ≡ get_or xs i b → i < length xs
    → repeated_from part blank names i (drop i xs)
    ≡ (if repeats_here part blank names (drop i xs) then Some i
    else repeated_from (part_behind part b) (is_blank b) (names_behind part blank names (drop i xs)) (i + 1) (drop (i + 1) xs))
repeated_step part blank names xs i b e h =
    subst (λ l. repeated_from part blank names i l ≡ (if repeats_here part blank names l then Some i
    else repeated_from (part_behind part b) (is_blank b) (names_behind part blank names l) (i + 1) (drop (i + 1) xs))) (sym (left xs i b e h)) refl

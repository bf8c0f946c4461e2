-- What is known of a saved value covers it.
use Rattle.std.proofs.Common.{◌≡◌, ◌<◌, ◌≤◌, ℕ, Bool, true, false, cond, List, [], ◌∷◌, length, refl, sym, ap, subst, ◌∙◌, arith, Some, None, Option}
use Rattle.std.specs.Prelude.{zero, suc, nat_lt, slice_get, unwrap_or, map, ◌++◌, ◌+◌, ◌^◌}
use Rattle.std.proofs.lemmas.Bool.{ltb-true, lt-ltb, eq-eqb}
use Rattle.bw_analyse.specs.Abstracts as abstracts
use Rattle.bw_analyse.specs.declared.abstracts.Abstract.{Abstract}
use Rattle.bw_analyse.specs.declared.abstracts.Abstract.TheVariants as abstract
use Rattle.bw_analyse.specs.Fits.{Fits}
use Rattle.bw_sound.specs.Found.Seen.{seen}
use Rattle.bw_cover.specs.Abstracts.{covers}
use Rattle.bw_doc.specs.Made.{Made, constant, plug, plug_text, tree}
use Rattle.bw_doc.specs.Operations.{items_at, items_in}
use Rattle.bw_eval.specs.declared.value.Value.{Value}
use Rattle.bw_eval.specs.declared.value.Value.TheVariants as values
use Rattle.bw_eval.specs.View.{value}
use Rattle.bw_lang.specs.declared.service.Service.{Service}
use Rattle.bw_lang.specs.declared.service.Template.{Template}
use Rattle.bw_lang.specs.declared.stmt.Kind.{Kind}
use Rattle.bw_lang.specs.declared.stmt.Kind.TheVariants as kinds
use Rattle.bw_lang.specs.Document.Documents as doc
use Rattle.bw_lang.specs.Document.Forest.{Forest, none}
use Rattle.bw_load.specs.SumLaws.{IsLawful, SumCovers}
use Rattle.bw_load.specs.Sums.{string_of, sum_of, known}
use Rattle.bw_saved.specs.Documents.Demands.{IsBuilt}
use Rattle.bw_saved.specs.Values.Demands.{IsValue}
use Rattle.bw_strings.specs.declared.strings.StrSet.{StrSet}
use Rattle.bw_strings.specs.declared.strings.StrSet.TheVariants.{Any, Of}
use Rattle.bw_strings.specs.Asking.{text_of, has_string}
use Rattle.bw_strings.specs.Literals.{literals_of}
use Rattle.bw_strings.specs.Strings as strings
use Rattle.bw_sum.specs.Graph.{graph}
use Rattle.bw_sum.proofs.Kept.{constant_covers, plug_covers, plug_text_covers, below_covers}
use Rattle.bw_sum.proofs.Opens.{opens_by_count}
use Rattle.bw_sum.proofs.WellFormed.{well_formed_alike, constant_well_formed, plug_well_formed, plug_text_well_formed}
use Rattle.bw_strings.proofs.Members.{below_by_strings}
use Rattle.bw_sound.proofs.Found.Seen.{one_seen}
use Rattle.bw_cover.specs.Abstracts as cover
use Rattle.bw_cover.specs.Abstracts.{Abstract as Abstract1}
use Rattle.bw_lang.specs.Document.Wrappers.{show_wrapper, exit_wrapper}
use Rattle.bw_lang.proofs.SameNames.{same_self}
use Rattle.bw_lang.specs.Table.Names.{name_number, same}
use Rattle.bw_sum.specs.Small.{IsWellFormed}
use Rattle.bw_sum.specs.Summaries.{AreAlike, plugged, plugged_text}
use Rattle.bw_sum.specs.Opening.{opens}
use Rattle.bw_sum.specs.Templates.{all_items, template_items}

-- the items of a template, behind which others stand
items_lookup : (ts : List Template) (ws : List Forest) (n : ℕ) → n < length ts →
    unwrap_or (slice_get (map (λ (t : Template). t.items) ts ++ ws) n) none ≡ items_in (slice_get ts n)
items_lookup [] ws n lt = absurd (omega (arith, lt))
items_lookup (t ∷ ts) ws zero lt = refl
items_lookup (t ∷ ts) ws (suc n) lt = items_lookup ts ws n (omega (arith, lt))

items_are : (service : Service) (n : ℕ) → n < length service.templates → template_items service n ≡ items_at service.templates n
items_are service n lt = items_lookup service.templates (show_wrapper (length service.gaps) ∷ exit_wrapper (length service.gaps) ∷ []) n lt

-- ---- strings

abbrev strings_at : Abstract1 → List ℕ → Bool
strings_at cover.Nothing s = true
strings_at (cover.Strings f) s = f s
strings_at (cover.Html g) s = true

numbered : (service : Service) (s : List ℕ) → has_string (literals_of service) (string_of (literals_of service) s) s ≡ true
numbered service s = by (nat_lt (name_number (literals_of service) s) (length (literals_of service))) refl
  where
    by : (b : Bool) → nat_lt (name_number (literals_of service) s) (length (literals_of service)) ≡ b →
        has_string (literals_of service) (cond b (Of (name_number (literals_of service) s ∷ [])) Any) s ≡ true
    by false e = refl
    by true e = ap (λ a. strings_at a s) (one_seen service s (ltb-true _ _ e)) ∙ same_self s

formed_string : (literals : List (List ℕ)) (s : List ℕ) → length literals < 2 ^ 32 → strings.IsWellFormed (string_of literals s)
formed_string literals s lt = by (nat_lt (name_number literals s) (length literals)) refl
  where
    by : (b : Bool) → nat_lt (name_number literals s) (length literals) ≡ b → strings.IsWellFormed (cond b (Of (name_number literals s ∷ [])) Any)
    by false e = tt
    by true e = let l = ltb-true _ _ e in ((tt, tt), (omega (arith, l, lt), tt))

-- ---- documents

pub sum_covers : (service : Service) → IsLawful service → (d : Made) → IsBuilt service d → SumCovers service d
sum_covers service lawful (constant n items) h =
    let is : items ≡ template_items service n = h.1 ∙ sym (items_are service n h.0) in
    record {
      formed = constant_well_formed n (template_items service n) (length service.gaps) (omega (arith, h.0, lawful.templates)) (omega (arith, lawful.gaps));
      covers = rw is (constant_covers (literals_of service) (template_items service) n (length service.gaps) (lawful.known n));
    }
sum_covers service lawful (plug b g a) h =
    let sb = sum_covers service lawful b h.0 in
    let sa = sum_covers service lawful a h.1 in
    let gaps = lawful.gaps in
    record {
      formed = plug_well_formed (sum_of service b) g (sum_of service a) (omega (arith, h.3.known, gaps)) sb.formed sa.formed;
      covers = plug_covers (literals_of service) (template_items service) (λ g. nat_lt g (length service.gaps)) (sum_of service b) g (sum_of service a)
          (tree b) (tree a)
          (well_formed_alike (sum_of service b) (sum_of service a) sb.formed sa.formed) (lawful.content g h.3.known h.2)
          ((opens_by_count g (tree b)).1 h.3.opens) sb.covers sa.covers;
    }
sum_covers service lawful (plug_text b g s) h =
    let sb = sum_covers service lawful b h.0 in
    let gaps = lawful.gaps in
    let formed = formed_string (literals_of service) s lawful.literals in
    record {
      formed = plug_text_well_formed (sum_of service b) g (string_of (literals_of service) s) (omega (arith, h.2.known, gaps)) sb.formed formed;
      covers = plug_text_covers (literals_of service) (template_items service) (λ g. nat_lt g (length service.gaps)) (sum_of service b) g
          (string_of (literals_of service) s)
          (tree b) s (well_formed_alike (sum_of service b) (sum_of service b) sb.formed sb.formed) formed (numbered service s) sb.covers;
    }

-- ---- values

pub below_is_covered : (service : Service) → IsLawful service → (kind : Kind) (v : Value) (cell : Abstract) → IsValue service kind v → Fits kind cell →
    abstracts.is_below (known service v) cell ≡ true → covers service (seen service cell) (value v)
below_is_covered service lawful kind v abstract.Nothing hv fits e = tt
below_is_covered service lawful kinds.Str (values.Str t) (abstract.Str s) hv fits e =
    below_by_strings (literals_of service) (string_of (literals_of service) t) s t e (numbered service t)
below_is_covered service lawful kinds.Html (values.Html d) (abstract.Html s) hv fits e =
    let c = sum_covers service lawful d hv.built in
    below_covers (literals_of service) (template_items service) (λ g. nat_lt g (length service.gaps)) (sum_of service d) s (tree d)
    (well_formed_alike (sum_of service d) s c.formed fits) e c.covers
below_is_covered service lawful kinds.Str v (abstract.Str s) hv fits e = absurd hv
below_is_covered service lawful kinds.Html v (abstract.Html s) hv fits e = absurd hv
below_is_covered service lawful kind v cell hv fits e = absurd fits

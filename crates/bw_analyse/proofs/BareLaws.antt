-- The walk that notes gap faults finds the same where of documents the gaps alone are kept that they may lack.
use Rattle.std.proofs.Common.{◌≡◌, ℕ, Bool, true, false, List, [], refl, ap, ◌∙◌}
use Rattle.std.specs.Prelude.{if◌then◌else◌, Option, Some, None}
use Rattle.bw_faults.specs.declared.fault.Fault.{Fault}
use Rattle.bw_lang.specs.declared.expr.Fun.{Fun}
use Rattle.bw_lang.specs.declared.expr.Fun.TheVariants as funs
use Rattle.bw_lang.specs.declared.expr.Op.{Op}
use Rattle.bw_lang.specs.declared.expr.Op.TheVariants as ops
use Rattle.bw_lang.specs.declared.service.Service.{Service}
use Rattle.bw_lang.specs.Table.Names.{name_number}
use Rattle.bw_lang.specs.Service.Term.{Term, int, truth, string, name, paren, not, neg, binary, call, plug, nothing, Fillings, no_more, filling}
use Rattle.bw_strings.specs.Strings.{is_none}
use Rattle.bw_strings.specs.declared.strings.StrSet.{StrSet}
use Rattle.bw_sum.specs.declared.summary.Summary.{Summary}
use Rattle.bw_sum.specs.Summaries.{plugged_text}
use Rattle.bw_analyse.specs.declared.abstracts.Abstract.{Abstract}
use Rattle.bw_analyse.specs.declared.abstracts.Abstract.TheVariants.{Nothing, Str, Html}
use Rattle.bw_analyse.specs.Abstracts.{plugged_by}
use Rattle.bw_analyse.specs.GapFaults.{lacks}
use Rattle.bw_analyse.specs.Known.{summed_by, combined_by, called_by, known, known_filled}
use Rattle.bw_analyse.specs.Noting.{noted_if, noted, noted_filled, noted_term, lacks_alone, bare}

called_bare : (f : Fun) → called_by f ≡ bare (called_by f)
called_bare funs.Text = refl
called_bare funs.Number = refl
called_bare funs.IsNumber = refl
called_bare funs.Count = refl

summed_bare : (a : Abstract) → summed_by (bare a) ≡ bare (summed_by a)
summed_bare Nothing = refl
summed_bare (Str s) = refl
summed_bare (Html s) = refl

combined_bare : (op : Op) (a : Abstract) → combined_by op (bare a) ≡ bare (combined_by op a)
combined_bare ops.Or a = refl
combined_bare ops.And a = refl
combined_bare ops.Eq a = refl
combined_bare ops.Ne a = refl
combined_bare ops.Lt a = refl
combined_bare ops.Le a = refl
combined_bare ops.Gt a = refl
combined_bare ops.Ge a = refl
combined_bare ops.Add a = summed_bare a
combined_bare ops.Sub a = refl
combined_bare ops.Mul a = refl
combined_bare ops.Div a = refl
combined_bare ops.Rem a = refl

none_either_way : {T : Type 0} (b : Bool) → ◌≡◌ {A = List T} (if b then [] else []) []
none_either_way true = refl
none_either_way false = refl

text_bare : (b : Summary) (g : ℕ) (s : StrSet) → plugged_text (lacks_alone b) g s ≡ lacks_alone (plugged_text b g s)
text_bare b g s = ap (λ l. record { roots = []; edges = []; texts = l; tracks = []; lacks = (plugged_text b g s).lacks }) (none_either_way (is_none s))

plug_bare : (b : Abstract) (g : ℕ) (a : Abstract) → plugged_by (bare b) g (bare a) ≡ bare (plugged_by b g a)
plug_bare Nothing g a = refl
plug_bare (Str s) g a = refl
plug_bare (Html b) g Nothing = refl
plug_bare (Html b) g (Str s) = ap Html (text_bare b g s)
plug_bare (Html b) g (Html a) = refl

lacks_bare : (a : Abstract) (g : ℕ) → lacks (bare a) g ≡ lacks a g
lacks_bare Nothing g = refl
lacks_bare (Str s) g = refl
lacks_bare (Html s) g = refl

module _ (service : Service) (names : List ℕ → Abstract) where
  abbrev bared : List ℕ → Abstract
  bared w = bare (names w)

  mutual
    known_bare : (e : Term) → known service bared e ≡ bare (known service names e)
    known_bare (int z) = refl
    known_bare (truth b) = refl
    known_bare (string s) = refl
    known_bare nothing = refl
    known_bare (name w) = refl
    known_bare (paren e) = known_bare e
    known_bare (not e) = refl
    known_bare (neg e) = refl
    known_bare (call f e) = called_bare f
    known_bare (binary op l r) = ap (combined_by op) (known_bare l) ∙ combined_bare op (known service names l)
    known_bare (plug b ps) = ap (known_filled service bared ps) (known_bare b) ∙ filled_bare ps (known service names b)

    filled_bare : (ps : Fillings) (a : Abstract) → known_filled service bared ps (bare a) ≡ bare (known_filled service names ps a)
    filled_bare no_more a = refl
    filled_bare (filling g e ps) a =
        let gap = name_number service.gaps g in
        ap (λ x. known_filled service bared ps (plugged_by (bare a) gap x)) (known_bare e)
        ∙ ap (known_filled service bared ps) (plug_bare a gap (known service names e)) ∙ filled_bare ps (plugged_by a gap (known service names e))

  mutual
    noted_bare : (n : ℕ) (e : Term) (old : List Fault) → noted service bared n e old ≡ noted service names n e old
    noted_bare n (int z) old = refl
    noted_bare n (truth b) old = refl
    noted_bare n (string s) old = refl
    noted_bare n nothing old = refl
    noted_bare n (name w) old = refl
    noted_bare n (paren e) old = noted_bare n e old
    noted_bare n (not e) old = noted_bare n e old
    noted_bare n (neg e) old = noted_bare n e old
    noted_bare n (call f e) old = noted_bare n e old
    noted_bare n (binary op l r) old = ap (noted service bared n r) (noted_bare n l old) ∙ noted_bare n r (noted service names n l old)
    noted_bare n (plug b ps) old =
        ap (λ a. noted_filled service bared n ps a (noted service bared n b old)) (known_bare b)
        ∙ ap (noted_filled service bared n ps (bare (known service names b))) (noted_bare n b old)
        ∙ noted_filled_bare n ps (known service names b) (noted service names n b old)

    noted_filled_bare : (n : ℕ) (ps : Fillings) (a : Abstract) (old : List Fault)
        → noted_filled service bared n ps (bare a) old ≡ noted_filled service names n ps a old
    noted_filled_bare n no_more a old = refl
    noted_filled_bare n (filling g e ps) a old =
        let gap = name_number service.gaps g in
        let all = noted service bared n e old in
        let more = plugged_by a gap (known service names e) in
        ap (λ x. noted_filled service bared n ps (plugged_by (bare a) gap x) (noted_if (lacks (bare a) gap) n g all)) (known_bare e)
        ∙ ap (λ x. noted_filled service bared n ps x (noted_if (lacks (bare a) gap) n g all)) (plug_bare a gap (known service names e))
        ∙ ap (λ b. noted_filled service bared n ps (bare more) (noted_if b n g all)) (lacks_bare a gap)
        ∙ ap (λ l. noted_filled service bared n ps (bare more) (noted_if (lacks a gap) n g l)) (noted_bare n e old)
        ∙ noted_filled_bare n ps more (noted_if (lacks a gap) n g (noted service names n e old))

  pub term_bare : (n : ℕ) (e : Option Term) (old : List Fault) → noted_term service bared n e old ≡ noted_term service names n e old
  term_bare n None old = refl
  term_bare n (Some e) old = noted_bare n e old

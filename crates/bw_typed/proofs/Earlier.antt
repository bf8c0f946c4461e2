-- The kind of the first place in front, and of the first of all.
use Rattle.std.proofs.Common.{◌≡◌, Bool, true, false, List, ◌∷◌, ◌++◌, Option, Some, None, refl, ap, sym, ◌∙◌}
use Rattle.std.specs.Prelude.{if◌then◌else◌}
use Rattle.std.specs.Option.{option_or}
use Rattle.std.proofs.lemmas.Bool.{eq-eqb}
use Rattle.std.proofs.lemmas.Cmp.{nat_list_eq_equiv}
use Rattle.bw_lang.specs.declared.controls.FieldKind.{FieldKind}
use Rattle.bw_lang.specs.declared.controls.FieldKind.TheVariants.{Single, Choice, Many}
use Rattle.bw_lang.specs.Table.Names.{same}
use Rattle.bw_types.specs.declared.fault.GapKind.{GapKind}
use Rattle.bw_types.specs.declared.fault.GapKind.TheVariants.{Content, Attribute}
use Rattle.bw_types.specs.TemplateFaults.{is_other_gap_kind, is_other_field_kind}
use Rattle.bw_types.proofs.Seek.{seek, seek-cons, seek-append, is_gap}
use Rattle.bw_typed.specs.Earlier.{EarlierGapSays, EarlierFieldSays}

module _ {K V : Type 0} (test : K → K → Bool) (self : (w : K) → test w w ≡ true) (is_other : Option V → V → Bool)
    (none_is : (v : V) → is_other None v ≡ false) (no_other : (v : V) → is_other (Some v) v ≡ false) where
  pub earlier : (front rest : List (K × V)) (w : K) (v : V) → is_other (seek test w (front ++ (w, v) ∷ rest)) v ≡ is_other (seek test w front) v
  earlier front rest w v =
      ap (λ o. is_other o v) (seek-append test w front ((w, v) ∷ rest) ∙ ap (λ o. option_or (seek test w front) o) here)
      ∙ by_front (seek test w front)
    where
      here : seek test w ((w, v) ∷ rest) ≡ Some v
      here = seek-cons test w (w, v) rest ∙ ap (λ (b : Bool). if b then Some v else seek test w rest) (self w)

      by_front : (o : Option V) → is_other (option_or o (Some v)) v ≡ is_other o v
      by_front None = no_other v ∙ sym (none_is v)
      by_front (Some u) = refl

no_other_gap : (v : GapKind) → is_other_gap_kind (Some v) v ≡ false
no_other_gap Content = refl
no_other_gap Attribute = refl

no_other_field : (v : FieldKind) → is_other_field_kind (Some v) v ≡ false
no_other_field Single = refl
no_other_field Choice = refl
no_other_field Many = refl

pub earlier_gap_says : EarlierGapSays
earlier_gap_says front rest g kind = earlier is_gap (λ g. eq-eqb g g refl) is_other_gap_kind (λ v. refl) no_other_gap front rest g kind

pub earlier_field_says : EarlierFieldSays
earlier_field_says front rest w kind = earlier same (λ w. nat_list_eq_equiv.refl w) is_other_field_kind (λ v. refl) no_other_field front rest w kind

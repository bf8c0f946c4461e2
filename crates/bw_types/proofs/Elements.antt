-- Templates in which no test fails.
use Rattle.std.proofs.Common.{◌≡◌, ℕ, Bool, true, false, List, [], ◌++◌, flat_map, refl}
use Rattle.std.specs.List.{All}
use Rattle.std.proofs.lemmas.List.Elements.{All-cons, All-nil, All-head, All-tail, All-append}
use Rattle.bw_lang.specs.declared.controls.FieldKind.{FieldKind}
use Rattle.bw_lang.specs.declared.items.Attr.{Attr}
use Rattle.bw_lang.specs.declared.items.AttrValue.{AttrValue}
use Rattle.bw_lang.specs.declared.items.AttrValue.TheVariants.{Fixed, Hole}
use Rattle.bw_lang.specs.declared.service.Service.{Service}
use Rattle.bw_lang.specs.Template.Controls.{fields, field_of}
use Rattle.bw_lang.specs.Document.Forest.{Forest, none, text, gap, element}
use Rattle.bw_types.specs.declared.fault.GapKind.{GapKind}
use Rattle.bw_types.specs.declared.fault.GapKind.TheVariants.{Content, Attribute}
use Rattle.bw_types.specs.declared.fault.TypeFault.{TypeFault}
use Rattle.bw_types.specs.Fields.{template_fields}
use Rattle.bw_types.specs.Gaps.{value_use, attr_uses, gap_uses, template_uses}
use Rattle.bw_types.specs.TemplateFaults.{fault_if, gap_fault, value_fault, attr_faults, field_fault, is_reserved, is_file_input, is_bad_control}
use Rattle.bw_types.specs.TemplateFaults.{element_faults, items_faults}
use Rattle.bw_types.specs.Typing.{EachElement}
use Rattle.bw_types.proofs.OneKind.{GapFits, FieldFits}
use Rattle.bw_types.proofs.Parts.{nothing_first, nothing_behind, none_of_both, all_first, all_behind, all_parts, parts_of_all, each_none, none_of_each, all_so}

pub passes : (b : Bool) (fault : TypeFault) → fault_if b fault ≡ [] → b ≡ false
passes true fault h = absurd (cc)
passes false fault h = refl

pub passing : (b : Bool) (fault : TypeFault) → b ≡ false → fault_if b fault ≡ []
passing b fault h = rw h

module _ (s : Service) where
  abbrev pub Uses : ℕ × GapKind → Type 0
  Uses x = GapFits (template_uses s.templates) x

  abbrev pub Controls : List ℕ × FieldKind → Type 0
  Controls x = FieldFits (template_fields s.templates) x

  -- each gap and each field has the kind of its first place, and no element is one of the page's, a file or a bad control
  pub record ItemsFit (d : Forest) : Type 0 where
    pub uses : All Uses (gap_uses d)
    pub controls : All Controls (fields d)
    pub tags : EachElement (λ tag xs. is_reserved tag ≡ false) d
    pub files : EachElement (λ tag xs. is_file_input tag xs ≡ false) d
    pub good : EachElement (λ tag xs. is_bad_control tag xs ≡ false) d

  value_fits : (v : AttrValue) → value_fault s v ≡ [] → All Uses (value_use v)
  value_fits (Fixed v) h = All-nil Uses
  value_fits (Hole g) h = All-cons Uses (g, Attribute) [] (passes _ _ h) (All-nil Uses)

  value_passes : (v : AttrValue) → All Uses (value_use v) → value_fault s v ≡ []
  value_passes (Fixed v) a = refl
  value_passes (Hole g) a = passing _ _ (All-head Uses (g, Attribute) [] a)

  attrs_fit : (xs : List Attr) → attr_faults s xs ≡ [] → All Uses (attr_uses xs)
  attrs_fit xs h =
      all_parts (λ x. value_use x.value) Uses xs (all_so (λ (x : Attr). value_fault s x.value ≡ []) (λ x. All Uses (value_use x.value))
      (λ x. value_fits x.value) xs (each_none (λ x. value_fault s x.value) xs h))

  attrs_pass : (xs : List Attr) → All Uses (attr_uses xs) → attr_faults s xs ≡ []
  attrs_pass xs a =
      none_of_each (λ x. value_fault s x.value) xs (all_so (λ (x : Attr). All Uses (value_use x.value)) (λ x. value_fault s x.value ≡ [])
      (λ x. value_passes x.value) xs (parts_of_all (λ x. value_use x.value) Uses xs a))

  pub items_fit : (t : List ℕ) (d : Forest) → items_faults s t d ≡ [] → ItemsFit d
  items_fit t none h = record { uses = All-nil Uses; controls = All-nil Controls; tags = tt; files = tt; good = tt }
  items_fit t (text v r) h = let n = items_fit t r h in record { uses = n.uses; controls = n.controls; tags = n.tags; files = n.files; good = n.good }
  items_fit t (gap g r) h =
      let n = items_fit t r (nothing_behind (gap_fault s g Content) _ h) in
      record {
        uses = All-cons Uses (g, Content) (gap_uses r) (passes _ _ (nothing_first _ _ h)) n.uses;
        controls = n.controls;
        tags = n.tags;
        files = n.files;
        good = n.good;
      }
  items_fit t (element tag xs i r) h =
      let a = nothing_first (element_faults s t tag xs) _ h in let b = nothing_behind (element_faults s t tag xs) _ h in
      let m = items_fit t i (nothing_first _ _ b) in let n = items_fit t r (nothing_behind (items_faults s t i) _ b) in
      let e = nothing_behind (fault_if (is_reserved tag) _) _ a in let f = nothing_behind (fault_if (is_file_input tag xs) _) _ e in
      let g = nothing_behind (fault_if (is_bad_control tag xs) _) _ f in
      let own = all_so (λ x. field_fault s x ≡ []) Controls (λ x. passes _ _) (field_of tag xs)
      (each_none (field_fault s) (field_of tag xs) (nothing_first _ _ g)) in
      record {
        uses =
            All-append Uses (attr_uses xs) (gap_uses i ++ gap_uses r) (attrs_fit xs (nothing_behind (flat_map (field_fault s) (field_of tag xs)) _ g))
            (All-append Uses (gap_uses i) (gap_uses r) m.uses n.uses);
        controls = All-append Controls (field_of tag xs) (fields i ++ fields r) own (All-append Controls (fields i) (fields r) m.controls n.controls);
        tags = (passes _ _ (nothing_first _ _ a), m.tags, n.tags);
        files = (passes _ _ (nothing_first _ _ e), m.files, n.files);
        good = (passes _ _ (nothing_first _ _ f), m.good, n.good);
      }

  pub items_pass : (t : List ℕ) (d : Forest) → ItemsFit d → items_faults s t d ≡ []
  items_pass t none a = refl
  items_pass t (text v r) a = items_pass t r (record { uses = a.uses; controls = a.controls; tags = a.tags; files = a.files; good = a.good })
  items_pass t (gap g r) a =
      none_of_both (gap_fault s g Content) _ (passing _ _ (All-head Uses (g, Content) (gap_uses r) a.uses))
      (items_pass t r (record { uses = All-tail Uses (g, Content) (gap_uses r) a.uses; controls = a.controls; tags = a.tags; files = a.files; good = a.good }))
  items_pass t (element tag xs i r) a =
      let u = all_behind Uses (attr_uses xs) (gap_uses i ++ gap_uses r) a.uses in let c =
      all_behind Controls (field_of tag xs) (fields i ++ fields r) a.controls in
      let own = all_so Controls (λ x. field_fault s x ≡ []) (λ x. passing _ _) (field_of tag xs)
      (all_first Controls (field_of tag xs) (fields i ++ fields r) a.controls) in
      none_of_both (element_faults s t tag xs) _
      (none_of_both (fault_if (is_reserved tag) _) _ (passing _ _ a.tags.0)
      (none_of_both (fault_if (is_file_input tag xs) _) _ (passing _ _ a.files.0)
      (none_of_both (fault_if (is_bad_control tag xs) _) _ (passing _ _ a.good.0)
      (none_of_both (flat_map (field_fault s) (field_of tag xs)) _ (none_of_each (field_fault s) (field_of tag xs) own)
      (attrs_pass xs (all_first Uses (attr_uses xs) (gap_uses i ++ gap_uses r) a.uses))))))
      (none_of_both (items_faults s t i) _
      (items_pass t i (record {
        uses = all_first Uses (gap_uses i) (gap_uses r) u;
        controls = all_first Controls (fields i) (fields r) c;
        tags = a.tags.1;
        files = a.files.1;
        good = a.good.1;
      }))
      (items_pass t r (record {
        uses = all_behind Uses (gap_uses i) (gap_uses r) u;
        controls = all_behind Controls (fields i) (fields r) c;
        tags = a.tags.2;
        files = a.files.2;
        good = a.good.2;
      })))

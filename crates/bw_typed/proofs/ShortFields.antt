-- The names of fields are short.
use Rattle.std.proofs.Common.{ℕ, ◌≤◌, Bool, true, false, List, [], ◌∷◌, ◌++◌, map, length, Some, None, sym, subst, flat_map}
use Rattle.std.specs.Prelude.{◌&&◌, codes, if◌then◌else◌}
use Rattle.std.specs.Option.{option_to_list}
use Rattle.std.specs.Coded.{le_prop}
use Rattle.std.specs.List.{All}
use Rattle.std.proofs.lemmas.List.Elements.{All-cons, All-nil, All-append, All-map, All-weaker}
use Rattle.std.proofs.Math.Logic.{∥∥₁_elim}
use Rattle.bw_lang.specs.declared.declaration.Declaration.{Declaration}
use Rattle.bw_lang.specs.declared.declaration.Declaration.TheVariants as declarations
use Rattle.bw_lang.specs.declared.items.Attr.{Attr}
use Rattle.bw_lang.specs.declared.items.AttrValue.{AttrValue}
use Rattle.bw_lang.specs.declared.items.AttrValue.TheVariants.{Fixed, Hole}
use Rattle.bw_lang.specs.declared.limits.Leaf.TheVariants as leaves
use Rattle.bw_lang.specs.declared.service.Service.{Service}
use Rattle.bw_lang.specs.declared.stmt.Receive.{Receive}
use Rattle.bw_lang.specs.Service.Code.{Code, done, declare, assign, if_then, if_else, while_loop, block, for_each, show, exit}
use Rattle.bw_lang.specs.Service.CodeNames.{received_fields}
use Rattle.bw_lang.specs.Template.Controls.{fixed, fixed_value, is_control, unless_empty, control_name, control_names}
use Rattle.bw_lang.specs.Document.Forest.{Forest, none, text, gap, element}
use Rattle.bw_lang.specs.Service.Limits.{gap_length, value_lengths, attr_lengths, item_lengths, code_lengths, declared_fields}
use Rattle.bw_lang.specs.Table.Names.{same}
use Rattle.bw_lang.specs.Service.Reads.{Reads}
use Rattle.bw_lang.proofs.Small.{declarations_are}
use Rattle.bw_types.specs.Fields.{field_names}
use Rattle.bw_types.proofs.Parts.{all_parts}
use Rattle.bw_typed.specs.ShortNames.{IsShortName, IsShortReceive, CodeHasShortNames, FieldsAreShort}
use Rattle.bw_typed.proofs.Short.{AreMost, both, this, next, code_names}
use Rattle.bw_typed.proofs.ShortReadable.{HasNames, names}

abbrev Short : List (List ℕ) → Type 0
Short names = All IsShortName names

module _ (gaps : List (List ℕ)) where
  nonempty_short : (v : List ℕ) → length v ≤ 64 → Short (option_to_list (unless_empty (Some v)))
  nonempty_short [] h = All-nil IsShortName
  nonempty_short (b ∷ v) h = All-cons IsShortName (b ∷ v) [] h (All-nil IsShortName)

  value_short : (v : AttrValue) → AreMost 64 (value_lengths gaps true v) → Short (option_to_list (unless_empty (fixed_value v)))
  value_short (Fixed v) h = nonempty_short v (this 64 (length v) [] h)
  value_short (Hole g) h = All-nil IsShortName

  -- the name of a control
  fixed_short : (attrs : List Attr) → AreMost 64 (flat_map (λ a. value_lengths gaps (true && same a.name (codes "name")) a.value) attrs)
      → Short (option_to_list (unless_empty (fixed (codes "name") attrs)))
  fixed_short [] h = All-nil IsShortName
  fixed_short (a ∷ attrs) h =
      let p =
      both 64 (value_lengths gaps (true && same a.name (codes "name")) a.value)
      (flat_map (λ a. value_lengths gaps (true && same a.name (codes "name")) a.value) attrs) h in
      by_test (same a.name (codes "name")) p.0 (fixed_short attrs p.1)
    where
      by_test : (b : Bool) → AreMost 64 (value_lengths gaps (true && b) a.value) → Short (option_to_list (unless_empty (fixed (codes "name") attrs)))
          → Short (option_to_list (unless_empty (if b then fixed_value a.value else fixed (codes "name") attrs)))
      by_test true h ih = value_short a.value h
      by_test false h ih = ih

  control_short : (control : Bool) (attrs : List Attr) → AreMost 64 (flat_map (λ a. value_lengths gaps (control && same a.name (codes "name")) a.value) attrs)
      → Short (option_to_list (if control then unless_empty (fixed (codes "name") attrs) else None))
  control_short true attrs h = fixed_short attrs h
  control_short false attrs h = All-nil IsShortName

  controls_short : (f : Forest) → AreMost 64 (item_lengths gaps f) → Short (control_names f)
  controls_short none h = All-nil IsShortName
  controls_short (text s f) h = controls_short f h
  controls_short (gap g f) h = controls_short f (next 64 (gap_length gaps g) (item_lengths gaps f) h)
  controls_short (element tag attrs inner f) h =
      let p = both 64 (attr_lengths gaps tag attrs) (item_lengths gaps inner ++ item_lengths gaps f) h in
      let q = both 64 (item_lengths gaps inner) (item_lengths gaps f) p.1 in
      All-append IsShortName (option_to_list (control_name tag attrs)) (control_names inner ++ control_names f) (control_short (is_control tag) attrs p.0)
      (All-append IsShortName (control_names inner) (control_names f) (controls_short inner q.0) (controls_short f q.1))

join : (a b : List (List ℕ)) → Short a → Short b → Short (a ++ b)
join a b p q = All-append IsShortName a b p q

received_short : (c : Code) → CodeHasShortNames c → Short (received_fields c)
received_short done h = All-nil IsShortName
received_short (declare t w e c) h = received_short c h.2
received_short (assign w e c) h = received_short c h.2
received_short (if_then e y c) h = join (received_fields y) (received_fields c) (received_short y h.1) (received_short c h.2)
received_short (if_else e y n c) h =
    join (received_fields y) (received_fields n ++ received_fields c) (received_short y h.1)
    (join (received_fields n) (received_fields c) (received_short n h.2) (received_short c h.3))
received_short (while_loop e y c) h = join (received_fields y) (received_fields c) (received_short y h.1) (received_short c h.2)
received_short (block y c) h = join (received_fields y) (received_fields c) (received_short y h.0) (received_short c h.1)
received_short (for_each w e y c) h = join (received_fields y) (received_fields c) (received_short y h.2) (received_short c h.3)
received_short (show p rs c) h =
    join (map (λ (r : Receive). r.field) rs) (received_fields c)
    (All-map IsShortName (λ (r : Receive). r.field) rs (All-weaker IsShortReceive (λ r. IsShortName r.field) (λ r s. s.1) rs h.1)) (received_short c h.2)
received_short (exit p c) h = received_short c h.1

module _ (bytes : List ℕ) (s : Service) (r : Reads bytes s) where
  declared_short : (d : Declaration) → HasNames bytes s r d → Short (declared_fields d)
  declared_short (declarations.Template t) h = controls_short s.gaps t.items (next 64 (length t.name) (item_lengths s.gaps t.items) h)
  declared_short (declarations.Shared v) h = All-nil IsShortName
  declared_short (declarations.Session x) h = received_short x.body (code_names x.body (next 64 (length x.name) (code_lengths leaves.Name x.body) h))

  pub fields_short : Short (field_names s)
  fields_short =
      subst (λ ds. Short (flat_map declared_fields ds)) (sym (declarations_are bytes s r))
      (all_parts declared_fields IsShortName r.declarations
      (All-weaker (HasNames bytes s r) (λ d. Short (declared_fields d)) declared_short r.declarations (names bytes s r)))

pub fields_are_short : FieldsAreShort
fields_are_short s h = λ i d l. ∥∥₁_elim h le_prop (λ r. fields_short r.0 s r.1 i d l)

-- Forms that are filled in have each field as it is due.
use Rattle.std.proofs.Common.{◌≡◌, ℕ, suc, Bool, true, false, List, [], ◌∷◌, length, refl, sym, ap, ◌∙◌, Option, Some, None}
use Rattle.std.specs.Prelude.{not, ◌||◌, ◌&&◌, if◌then◌else◌}
use Rattle.std.specs.List.{All, list_all, list_any}
use Rattle.std.specs.Option.{option_or}
use Rattle.std.proofs.lemmas.Bool.{and_parts}
use Rattle.std.proofs.lemmas.List.Elements.{All-head, All-tail}
use Rattle.bw_fields.specs.Found.{takes_many, is_misfit}
use Rattle.bw_fields.specs.Received.{HasField, is_kind, is_of_kind}
use Rattle.bw_flow.specs.declared.point.Received.{Received}
use Rattle.bw_lang.specs.declared.controls.FieldKind.{FieldKind}
use Rattle.bw_lang.specs.declared.controls.FieldKind.TheVariants.{Single, Choice, Many}
use Rattle.bw_lang.specs.declared.service.Service.{Service}
use Rattle.bw_lang.specs.declared.stmt.Kind.{Kind}
use Rattle.bw_lang.specs.declared.stmt.Kind.TheVariants as kinds
use Rattle.bw_lang.specs.Document.Forest.{Forest}
use Rattle.bw_lang.specs.Service.Submissions.{values_of}
use Rattle.bw_lang.specs.Table.Names.{same}
use Rattle.bw_lang.specs.Template.Controls.{fields}
use Rattle.bw_meaning.specs.States.{Form}
use Rattle.bw_run.specs.declared.fields.FieldFault.{FieldFault}
use Rattle.bw_run.specs.declared.fields.FieldFault.TheVariants as faults
use Rattle.bw_run.specs.Missing.{is_long, too_long, string_fault, field_fault, first_missing}
use Rattle.bw_types.specs.Fields.{kind_of_field}
use Rattle.bw_agent.specs.Controls.{controls}
use Rattle.bw_agent.specs.Filled.{filled}
use Rattle.bw_agent.specs.Laws.{is_single, is_choice, kinds_pass, count_of}
use Rattle.bw_agent.proofs.Counted.{single_is_sent, choice_is_sent}
use Rattle.bw_user.specs.Laws.{is_missing, FilledMissesNone}

abbrev Fields : Type 0
Fields = List (List ℕ × FieldKind)

-- the fields of a name have a kind, by another test
by_kind : (name : List ℕ) (k : FieldKind) (test : FieldKind → Bool) → ((x : FieldKind) → is_kind (Some k) x ≡ test x) → (fs : Fields)
    → list_all (is_of_kind name (Some k)) fs ≡ true → kinds_pass test name fs ≡ true
by_kind name k test alike [] h = refl
by_kind name k test alike (f ∷ fs) h =
    let p = and_parts _ _ h in
    (λ i. (ap (λ t. not (same f.0 name) || t) (sym (alike f.1)) ∙ p.0) i && by_kind name k test alike fs p.1 i)

single_alike : (x : FieldKind) → is_kind (Some Single) x ≡ is_single x
single_alike Single = refl
single_alike Choice = refl
single_alike Many = refl

choice_alike : (x : FieldKind) → is_kind (Some Choice) x ≡ is_choice x
choice_alike Single = refl
choice_alike Choice = refl
choice_alike Many = refl

-- a field that is there has a kind
no_kind : (name : List ℕ) (fs : Fields) → list_all (is_of_kind name None) fs ≡ true → list_any (λ (f : List ℕ × FieldKind). same f.0 name) fs ≡ true → ⊥
no_kind name [] h k = absurd cc
no_kind name (f ∷ fs) h k = let p = and_parts _ _ h in by_test (same f.0 name) p.0 k (no_kind name fs p.1)
  where
    later : Bool
    later = list_any (λ (x : List ℕ × FieldKind). same x.0 name) fs

    by_test : (t : Bool) → (not t || false) ≡ true → (t || later) ≡ true → (later ≡ true → ⊥) → ⊥
    by_test true a b none = absurd cc
    by_test false a b none = none b

-- ---- how often it is sent

module _ (service : Service) (page items : Forest) (r : Received) (answers : Form) (alike : fields page ≡ fields items) (has : HasField service page r) where
  kinds_are : (k : FieldKind) (test : FieldKind → Bool) → ((x : FieldKind) → is_kind (Some k) x ≡ test x) → kind_of_field service r.field ≡ Some k
      → kinds_pass test r.field (fields items) ≡ true
  kinds_are k test same_test e =
      ap (kinds_pass test r.field) (sym alike)
      ∙ by_kind r.field k test same_test (fields page) (ap (λ o. list_all (is_of_kind r.field o) (fields page)) (sym e) ∙ has.kinds)

  pub sent_once : takes_many r.kind ≡ false → length (values_of r.field (filled (controls items) answers)) ≡ 1
  sent_once m = by_test (kind_of_field service r.field) refl
    where
      by_test : (o : Option FieldKind) → kind_of_field service r.field ≡ o → length (values_of r.field (filled (controls items) answers)) ≡ 1
      by_test None k = absurd (no_kind r.field (fields page) (ap (λ o. list_all (is_of_kind r.field o) (fields page)) (sym k) ∙ has.kinds) has.there)
      by_test (Some Single) k =
          single_is_sent items r.field answers (kinds_are Single is_single single_alike k)
          ∙ ap (count_of r.field) (sym alike) ∙ has.once k
      by_test (Some Choice) k =
          choice_is_sent items r.field answers (kinds_are Choice is_choice choice_alike k)
          (ap (list_any (λ (f : List ℕ × FieldKind). same f.0 r.field)) (sym alike) ∙ has.there)
      by_test (Some Many) k =
          let f : not (takes_many r.kind) ≡ false = ap (λ o. is_misfit o r.kind) (sym k) ∙ has.fits in
          let g : true ≡ false = ap not (sym m) ∙ f in absurd cc

-- ---- what that means for a form

long_is_not : (field : ℕ) (values : List (List ℕ)) → is_missing (too_long field values) ≡ false
long_is_not field values = by_test (is_long values)
  where
    by_test : (t : Bool) → is_missing (if t then Some (faults.TooLong field) else None) ≡ false
    by_test true = refl
    by_test false = refl

one_is_not : (field : ℕ) (values : List (List ℕ)) → length values ≡ 1 → is_missing (string_fault field values) ≡ false
one_is_not field [] h = absurd cc
one_is_not field (v ∷ []) h = long_is_not field (v ∷ [])
one_is_not field (v ∷ (w ∷ values)) h = absurd (two (length values) h)
  where
    two : (n : ℕ) → suc (suc n) ≡ 1 → ⊥
    two n e = absurd cc

field_is_not : (field : ℕ) (kind : Kind) (values : List (List ℕ)) → (takes_many kind ≡ false → length values ≡ 1)
    → is_missing (field_fault field kind values) ≡ false
field_is_not field kinds.Int values h = one_is_not field values (h refl)
field_is_not field kinds.Bool values h = one_is_not field values (h refl)
field_is_not field kinds.Str values h = one_is_not field values (h refl)
field_is_not field kinds.Html values h = one_is_not field values (h refl)
field_is_not field kinds.Strs values h = long_is_not field values

first_is_not : (o p : Option FieldFault) → is_missing o ≡ false → is_missing p ≡ false → is_missing (option_or o p) ≡ false
first_is_not None p h k = k
first_is_not (Some f) p h k = h

pub filled_misses_none : FilledMissesNone
filled_misses_none service page items [] answers h e = refl
filled_misses_none service page items (r ∷ rs) answers h e =
    let pairs = filled (controls items) answers in
    first_is_not (field_fault r.id r.kind (values_of r.field pairs)) (first_missing rs pairs)
    (field_is_not r.id r.kind (values_of r.field pairs) (sent_once service page items r answers (sym e) (All-head (HasField service page) r rs h)))
    (filled_misses_none service page items rs answers (All-tail (HasField service page) r rs h) e)

-- The faults of items and of declarations, one after the other.
use Rattle.std.proofs.Common.{◌≡◌, ℕ, ◌+◌, ◌<◌, false, List, [], ◌∷◌, ◌++◌, length, get_or, drop, map, refl, ap, sym, ◌∙◌, append_assoc, append-nil}
use Rattle.std.specs.Prelude.{flat_map}
use Rattle.bw_lang.specs.declared.declaration.Declared.{Declared}
use Rattle.bw_lang.specs.declared.items.Attr.{Attr}
use Rattle.bw_lang.specs.declared.items.Item.{Item}
use Rattle.bw_lang.specs.declared.items.Item.TheVariants.{Text, Element, Gap}
use Rattle.bw_lang.specs.declared.service.Service.{Service}
use Rattle.bw_lang.specs.Template.Controls.{field_of}
use Rattle.bw_lang.specs.Document.Forest.{none}
use Rattle.bw_lang.specs.Service.Order.{seen}
use Rattle.bw_lang.specs.Document.View.{forest, before}
use Rattle.bw_types.specs.declared.fault.TypeFault.{TypeFault}
use Rattle.bw_types.specs.declared.fault.TypeFault.TheVariants as faults
use Rattle.bw_types.specs.Faults.{own_faults, faults_behind}
use Rattle.bw_types.specs.Scopes.{is_among, name_of}
use Rattle.bw_types.specs.TemplateFaults.{fault_if, field_fault, attr_faults, is_reserved, is_file_input, is_bad_control, element_faults, items_faults}
use Rattle.bw_types.proofs.First.{drop_more}

pub items_step : (s : Service) (t : List ℕ) (x : Item) (xs : List Item) → items_faults s t (forest (x ∷ xs)) ≡ items_faults s t (before x none)
    ++ items_faults s t (forest xs)
items_step s t (Text w) xs = refl
items_step s t (Gap g) xs = simp append-nil
items_step s t (Element e) xs = simp (append_assoc, append-nil)

-- the faults of an element whose tag and whose control pass
pub element-passes : (s : Service) (t : List ℕ) (tag : List ℕ) (xs : List Attr) → is_reserved tag ≡ false → is_file_input tag xs ≡ false
    → is_bad_control tag xs ≡ false
    → element_faults s t tag xs ≡ flat_map (field_fault s) (field_of tag xs) ++ attr_faults s xs
element-passes s t tag xs a b c = rw (a, b, c)

-- the test of a declaration's name
abbrev pub repeated : List (List ℕ) → List ℕ → List TypeFault
repeated earlier w = fault_if (is_among w earlier) (faults.Repeated w)

-- the faults from a declaration on, where there is none in front
pub declared_here : (s : Service) (earlier : List (List ℕ)) (ds : List Declared) (i : ℕ) (d : Declared) (n : List ℕ) (whole : List TypeFault)
    → whole ≡ faults_behind s earlier (map seen (drop i ds)) → n ≡ name_of (seen d) → d ≡ get_or ds i d → i < length ds
    → whole ≡ repeated earlier n ++ (own_faults s (seen d) ++ faults_behind s (earlier ++ n ∷ []) (map seen (drop (i + 1) ds)))
declared_here s earlier ds i d n whole w named e h =
    w ∙ ap (λ l. faults_behind s earlier (map seen l)) (drop_more ds i d e h)
    ∙ ap (λ m. repeated earlier m ++ (own_faults s (seen d) ++ faults_behind s (earlier ++ m ∷ []) (map seen (drop (i + 1) ds)))) (sym named)

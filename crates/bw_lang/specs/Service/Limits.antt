-- The limits of the declarations of a service.
use Rattle.std.specs.Prelude.{ℕ, Bool, ◌&&◌, if◌then◌else◌, List, [], ◌∷◌, ◌++◌, length, map, flat_map, slice_get, unwrap_or, Option, codes}
use Rattle.std.specs.Option.{option_or}
use Rattle.bw_lang.specs.declared.declaration.Declaration.{Declaration}
use Rattle.bw_lang.specs.declared.declaration.Declaration.TheVariants as declarations
use Rattle.bw_lang.specs.declared.items.Attr.{Attr}
use Rattle.bw_lang.specs.declared.items.AttrValue.{AttrValue}
use Rattle.bw_lang.specs.declared.items.AttrValue.TheVariants.{Fixed, Hole}
use Rattle.bw_lang.specs.declared.limits.Leaf.{Leaf}
use Rattle.bw_lang.specs.declared.limits.Leaf.TheVariants as leaves
use Rattle.bw_lang.specs.declared.limits.Limit.{Limit}
use Rattle.bw_lang.specs.declared.limits.Limit.TheVariants as limits
use Rattle.bw_lang.specs.declared.limits.TheConstants.{MAX_TEMPLATES, MAX_SESSIONS, MAX_SHARED, MAX_GAPS, MAX_FIELDS, MAX_LOCALS, MAX_NAME_BYTES}
use Rattle.bw_lang.specs.declared.limits.TheConstants.{MAX_STRING_BYTES, MAX_TEMPLATE_WEIGHT}
use Rattle.bw_lang.specs.declared.service.Literal.{Literal}
use Rattle.bw_lang.specs.declared.service.Literal.TheVariants as literals
use Rattle.bw_lang.specs.declared.stmt.Receive.{Receive}
use Rattle.bw_lang.specs.Text.Brackets.{passed}
use Rattle.bw_lang.specs.Service.Code.{Code, done, declare, assign, if_then, if_else, while_loop, block, for_each, show, exit}
use Rattle.bw_lang.specs.Service.CodeNames.{local_names, received_fields}
use Rattle.bw_lang.specs.Template.Controls.{is_control, control_names}
use Rattle.bw_lang.specs.Document.Forest.{Forest, none, text, gap, element}
use Rattle.bw_lang.specs.Document.Measures.{constant_weight}
use Rattle.bw_lang.specs.Table.Names.{same, with_names}
use Rattle.bw_lang.specs.Service.Sorted.{templates_of, shared_of, sessions_of}
use Rattle.bw_lang.specs.Service.Term.{Term, int, truth, string, name, paren, not, neg, binary, call, plug, nothing, Fillings, no_more, filling}

-- ---- the lengths of names, or of the texts of strings, in source order

-- of a name, and of a text, where this is what is asked for
abbrev pub name_length : Leaf → List ℕ → List ℕ
name_length leaves.Name w = length w ∷ []
name_length leaves.Text w = []

abbrev pub text_length : Leaf → List ℕ → List ℕ
text_length leaves.Name s = []
text_length leaves.Text s = length s ∷ []

abbrev mutual
  pub term_lengths : Leaf → Term → List ℕ
  term_lengths k (int n) = []
  term_lengths k (truth b) = []
  term_lengths k (string s) = text_length k s
  term_lengths k (name w) = name_length k w
  term_lengths k (paren e) = term_lengths k e
  term_lengths k (not e) = term_lengths k e
  term_lengths k (neg e) = term_lengths k e
  term_lengths k (binary op l r) = term_lengths k l ++ term_lengths k r
  term_lengths k (call f e) = term_lengths k e
  term_lengths k (plug b ps) = term_lengths k b ++ pair_lengths k ps
  term_lengths k nothing = []

  pub pair_lengths : Leaf → Fillings → List ℕ
  pair_lengths k no_more = []
  pair_lengths k (filling w e ps) = name_length k w ++ (term_lengths k e ++ pair_lengths k ps)

abbrev pub receive_lengths : Leaf → List Receive → List ℕ
receive_lengths k rs = flat_map (λ r. name_length k r.target ++ name_length k r.field) rs

abbrev pub code_lengths : Leaf → Code → List ℕ
code_lengths k done = []
code_lengths k (declare t w e rest) = name_length k w ++ (term_lengths k e ++ code_lengths k rest)
code_lengths k (assign w e rest) = name_length k w ++ (term_lengths k e ++ code_lengths k rest)
code_lengths k (if_then t y rest) = term_lengths k t ++ (code_lengths k y ++ code_lengths k rest)
code_lengths k (if_else t y n rest) = term_lengths k t ++ (code_lengths k y ++ (code_lengths k n ++ code_lengths k rest))
code_lengths k (while_loop t b rest) = term_lengths k t ++ (code_lengths k b ++ code_lengths k rest)
code_lengths k (block b rest) = code_lengths k b ++ code_lengths k rest
code_lengths k (for_each w e b rest) = name_length k w ++ (term_lengths k e ++ (code_lengths k b ++ code_lengths k rest))
code_lengths k (show p rs rest) = term_lengths k p ++ (receive_lengths k rs ++ code_lengths k rest)
code_lengths k (exit p rest) = term_lengths k p ++ code_lengths k rest

-- of the gap of this number, by the table of names
abbrev pub gap_length : List (List ℕ) → ℕ → ℕ
gap_length gaps g = length (unwrap_or (slice_get gaps g) [])

-- of an attribute's gap, or of a control's name
abbrev pub value_lengths : List (List ℕ) → Bool → AttrValue → List ℕ
value_lengths gaps names_control (Hole g) = gap_length gaps g ∷ []
value_lengths gaps names_control (Fixed v) = if names_control then length v ∷ [] else []

abbrev pub attr_lengths : List (List ℕ) → List ℕ → List Attr → List ℕ
attr_lengths gaps tag attrs = flat_map (λ a. value_lengths gaps (is_control tag && same a.name (codes "name")) a.value) attrs

-- of the gaps and the controls of items
abbrev pub item_lengths : List (List ℕ) → Forest → List ℕ
item_lengths gaps none = []
item_lengths gaps (text s rest) = item_lengths gaps rest
item_lengths gaps (gap g rest) = gap_length gaps g ∷ item_lengths gaps rest
item_lengths gaps (element tag attrs inner rest) = attr_lengths gaps tag attrs ++ (item_lengths gaps inner ++ item_lengths gaps rest)

abbrev pub items_lengths : Leaf → List (List ℕ) → Forest → List ℕ
items_lengths leaves.Name gaps items = item_lengths gaps items
items_lengths leaves.Text gaps items = []

abbrev pub literal_lengths : Leaf → Literal → List ℕ
literal_lengths k (literals.Str s) = text_length k s
literal_lengths k (literals.Tmpl w) = name_length k w
literal_lengths k l = []

abbrev pub declaration_lengths : Leaf → List (List ℕ) → Declaration → List ℕ
declaration_lengths k gaps (declarations.Template t) = name_length k t.name ++ items_lengths k gaps t.items
declaration_lengths k gaps (declarations.Shared v) = name_length k v.name ++ literal_lengths k v.init
declaration_lengths k gaps (declarations.Session s) = name_length k s.name ++ code_lengths k s.body

-- of a whole service of this name
abbrev pub all_lengths : Leaf → List ℕ → List (List ℕ) → List Declaration → List ℕ
all_lengths k service gaps ds = name_length k service ++ flat_map (declaration_lengths k gaps) ds

-- ---- the limits

-- the names of controls and the fields of receives, in source order
abbrev pub declared_fields : Declaration → List (List ℕ)
declared_fields (declarations.Template t) = control_names t.items
declared_fields (declarations.Shared v) = []
declared_fields (declarations.Session s) = received_fields s.body

-- how many different names there are
abbrev pub different : List (List ℕ) → ℕ
different names = length (with_names [] names)

-- the first limit that the declarations pass, with the first number that does
abbrev pub too_many : List ℕ → List (List ℕ) → List Declaration → Option (Limit × ℕ)
too_many service gaps ds =
    option_or (passed limits.Templates MAX_TEMPLATES (length (templates_of ds) ∷ []))
    (option_or (passed limits.Sessions MAX_SESSIONS (length (sessions_of ds) ∷ []))
    (option_or (passed limits.Shared MAX_SHARED (length (shared_of ds) ∷ []))
    (option_or (passed limits.Gaps MAX_GAPS (length gaps ∷ []))
    (option_or (passed limits.Fields MAX_FIELDS (different (flat_map declared_fields ds) ∷ []))
    (option_or (passed limits.Locals MAX_LOCALS (map (λ s. length (local_names s.body)) (sessions_of ds)))
    (option_or (passed limits.NameBytes MAX_NAME_BYTES (all_lengths leaves.Name service gaps ds))
    (option_or (passed limits.StringBytes MAX_STRING_BYTES (all_lengths leaves.Text service gaps ds))
    (passed limits.Weight MAX_TEMPLATE_WEIGHT (map (λ t. constant_weight t.items) (templates_of ds))))))))))

-- The schema by which pages are judged where no other is given.
use Prim.Native.String.{String}
use Rattle.std.specs.Prelude.{◌==◌, ℕ, Bool, true, false, List, [], ◌∷◌, codes}
use Rattle.std.specs.List.{slice_split}
use Rattle.bw_schema.specs.Needs.{nothing}
use Rattle.bw_schema.specs.declared.rules.Rule.{Rule}
use Rattle.bw_schema.specs.declared.rules.ValueList.{ValueList}

-- words between spaces
abbrev pub spaced : String → List (List ℕ)
spaced words = slice_split (λ b. b == 32) (codes words)

abbrev pub values : String → String → ValueList
values name words = record { name = codes name; words = spaced words }

-- a rule: a tag, attributes that are allowed, those that are required, values, children, and whether there is text
abbrev pub rule : String → List (List ℕ) → List (List ℕ) → List ValueList → List (List ℕ) → Bool → Rule
rule tag may must vs has text = record { tag = codes tag; may = may; must = must; values = vs; has = has; text = text; needs = nothing }

abbrev pub common : List (List ℕ)
common = spaced "class id title"

abbrev pub aligned : List (List ℕ)
aligned = spaced "class id title align"

abbrev pub alignments : List ValueList
alignments = values "align" "left center right justify" ∷ []

-- what stands in lines of text
abbrev pub phrases : List (List ℕ)
phrases = spaced "a b br code em i img input label select span strong textarea"

-- that, and paragraphs, lists, tables and the like
abbrev pub blocks : List (List ℕ)
blocks = spaced "a b br code div em h1 h2 h3 hr i img input label ol p pre select span strong table textarea ul"

abbrev pub built_in_root : List ℕ
built_in_root = codes "html"

abbrev pub built_in_rules : List Rule
built_in_rules =
    rule "html" [] [] [] (spaced "head body") false ∷
    rule "head" [] [] [] (spaced "title") false ∷
    rule "title" [] [] [] [] true ∷
    rule "body" [] [] [] (spaced "a b br code div em form h1 h2 h3 hr i img input label ol p pre select span strong table textarea ul") true ∷
    rule "form" (spaced "method class id") (spaced "action") (values "method" "get post" ∷ []) blocks true ∷
    rule "div" aligned [] alignments blocks true ∷
    rule "p" aligned [] alignments phrases true ∷
    rule "h1" aligned [] alignments phrases true ∷
    rule "h2" aligned [] alignments phrases true ∷
    rule "h3" aligned [] alignments phrases true ∷
    rule "pre" common [] [] (spaced "a b br code em i input label select span strong textarea") true ∷
    rule "ul" common [] [] (spaced "li") false ∷
    rule "ol" common [] [] (spaced "li") false ∷
    rule "li" common [] [] blocks true ∷
    rule "table" (spaced "class id title border") [] [] (spaced "tr") false ∷
    rule "tr" aligned [] alignments (spaced "td th") false ∷
    rule "td" (spaced "class id title colspan rowspan") [] [] blocks true ∷
    rule "th" (spaced "class id title colspan rowspan") [] [] blocks true ∷
    rule "a" (spaced "class id title href") [] [] (spaced "b br code em i img input label select span strong textarea") true ∷
    rule "b" common [] [] phrases true ∷
    rule "i" common [] [] phrases true ∷
    rule "em" common [] [] phrases true ∷
    rule "strong" common [] [] phrases true ∷
    rule "span" common [] [] phrases true ∷
    rule "code" common [] [] phrases true ∷
    rule "label" (spaced "class id title for") [] [] (spaced "a b br code em i img input select span strong textarea") true ∷
    rule "img" (spaced "class id title width height") (spaced "src alt") [] [] false ∷
    rule "br" common [] [] [] false ∷
    rule "hr" common [] [] [] false ∷
    rule "input" (spaced "class id title name type value size maxlength checked") []
    (values "type" "text password hidden radio checkbox submit reset button" ∷ []) [] false ∷
    rule "textarea" (spaced "class id title name rows cols") [] [] [] true ∷
    rule "select" (spaced "class id title name size multiple") [] [] (spaced "option") false ∷
    rule "option" (spaced "value selected") [] [] [] true ∷ []

-- The bytes of a printed document.
use Rattle.std.specs.Prelude.{ℕ, if◌then◌else◌, List, [], ◌∷◌, ◌++◌, codes}
use Rattle.bw_lang.specs.declared.items.Attr.{Attr}
use Rattle.bw_lang.specs.declared.items.AttrValue.{AttrValue}
use Rattle.bw_lang.specs.declared.items.AttrValue.TheVariants.{Fixed, Hole}
use Rattle.bw_lang.specs.Document.Forest.{Forest, none, text, gap, element}
use Rattle.bw_lang.specs.Template.Markup.{is_void, escaped}

-- an attribute, unless its gap is open
abbrev pub printed_attr : List ℕ → AttrValue → List ℕ
printed_attr name (Hole g) = []
printed_attr name (Fixed v) = codes " " ++ (name ++ (codes "=\"" ++ (escaped v ++ codes "\"")))

-- the attributes of a tag
abbrev pub printed_attrs : List Attr → List ℕ
printed_attrs [] = []
printed_attrs (a ∷ attrs) = printed_attr a.name a.value ++ printed_attrs attrs

-- a start tag without its end
abbrev pub printed_start : List ℕ → List Attr → List ℕ
printed_start tag attrs = codes "<" ++ (tag ++ printed_attrs attrs)

-- an end tag
abbrev pub printed_end : List ℕ → List ℕ
printed_end tag = codes "</" ++ (tag ++ codes ">")

-- a whole element, with the printed items in it
abbrev pub printed_element : List ℕ → List Attr → List ℕ → List ℕ
printed_element tag attrs inner =
    printed_start tag attrs ++ (if is_void tag then codes "/>" else codes ">" ++ (inner ++ printed_end tag))

-- a document, whose open gaps are left out
abbrev pub print : Forest → List ℕ
print none = []
print (text s rest) = escaped s ++ print rest
print (gap g rest) = print rest
print (element tag attrs inner rest) = printed_element tag attrs (print inner) ++ print rest

-- a text in front, unless it is empty; joined with a text that it comes to stand beside
abbrev pub text_before : List ℕ → Forest → Forest
text_before [] d = d
text_before (b ∷ s) (text t rest) = text ((b ∷ s) ++ t) rest
text_before (b ∷ s) none = text (b ∷ s) none
text_before (b ∷ s) (gap g rest) = text (b ∷ s) (gap g rest)
text_before (b ∷ s) (element tag attrs inner rest) = text (b ∷ s) (element tag attrs inner rest)

-- without empty texts, and with neighbouring texts joined
abbrev pub joined : Forest → Forest
joined none = none
joined (text s rest) = text_before s (joined rest)
joined (gap g rest) = gap g (joined rest)
joined (element tag attrs inner rest) = element tag attrs (joined inner) (joined rest)

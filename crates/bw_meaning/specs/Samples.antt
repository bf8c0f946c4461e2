-- A service and what its variables hold, for the worked examples.
use Rattle.std.specs.Prelude.{ℕ, ℤ, pos, negsuc, ◌^◌, ◌-◌, List, [], ◌∷◌, codes}
use Rattle.bw_lang.specs.declared.items.AttrValue.TheVariants as attrs
use Rattle.bw_lang.specs.declared.measure.Measure.{Measure}
use Rattle.bw_lang.specs.declared.service.Literal.TheVariants as literals
use Rattle.bw_lang.specs.declared.service.Service.{Service}
use Rattle.bw_lang.specs.declared.service.Sort.TheVariants as sorts
use Rattle.bw_lang.specs.declared.stmt.Kind.TheVariants as kinds
use Rattle.bw_lang.specs.Service.Code.{Code, done}
use Rattle.bw_lang.specs.Document.Forest.{Forest}
use Rattle.bw_lang.specs.Document.Forest as forest
use Rattle.bw_lang.specs.Document.Print.{print}
use Rattle.bw_lang.specs.Service.Term.{Term, int, name, plug, Fillings, no_more, filling}
use Rattle.bw_meaning.specs.Expressions.{Evaluated, Gives, Faults, eval}
use Rattle.bw_meaning.specs.Operators.{document_of}
use Rattle.bw_meaning.specs.States.{Form, Input, State, Outcome, Went, Shown, Exited, Failed}
use Rattle.bw_meaning.specs.Statements.{exec}
use Rattle.bw_meaning.specs.Values.{Values, number, text, list, Document, constant}

-- ---- names and expressions

abbrev pub n : Term
n = name (codes "n")

abbrev pub s : Term
s = name (codes "s")

abbrev pub c : Term
c = name (codes "c")

abbrev pub d : Term
d = name (codes "d")

abbrev pub x : Term
x = name (codes "x")

abbrev pub list_name : Term
list_name = name (codes "List")

abbrev pub row_name : Term
row_name = name (codes "Row")

abbrev pub aligned_name : Term
aligned_name = name (codes "Aligned")

-- a number that isn't negative
abbrev pub nat : ℕ → Term
nat k = int (pos k)

-- the gap rows, or n, or a, filled by this
abbrev pub rows : Term → Fillings → Fillings
rows e more = filling (codes "rows") e more

abbrev pub with_n : Term → Fillings → Fillings
with_n e more = filling (codes "n") e more

abbrev pub with_a : Term → Fillings → Fillings
with_a e more = filling (codes "a") e more

-- Row<[n=x]
abbrev pub row_of_x : Term
row_of_x = plug row_name (with_n x no_more)

-- the least number of 64 bits, and the greatest
abbrev pub least : ℤ
least = negsuc (2 ^ 63 - 1)

abbrev pub greatest : ℕ
greatest = 2 ^ 63 - 1

-- ---- templates

-- <ul><[rows]></ul>
abbrev pub list_items : Forest
list_items = forest.element (codes "ul") [] (forest.gap 0 forest.none) forest.none

-- <li><[n]></li><[rows]>
abbrev pub row_items : Forest
row_items = forest.element (codes "li") [] (forest.gap 1 forest.none) (forest.gap 0 forest.none)

-- <p align=[a]>x</p>
abbrev pub aligned_items : Forest
aligned_items = forest.element (codes "p") (record { name = codes "align"; value = attrs.Hole 2 } ∷ []) (forest.text (codes "x") forest.none) forest.none

-- a service of one session with these statements
abbrev pub of_session : Code → Service
of_session body = record {
  name = codes "Sample";
  gaps = codes "rows" ∷ codes "n" ∷ codes "a" ∷ [];
  order = sorts.Template ∷ sorts.Template ∷ sorts.Template ∷ sorts.Shared ∷ sorts.Shared ∷ sorts.Session ∷ [];
  templates = record { name = codes "List"; items = list_items } ∷ record { name = codes "Row"; items = row_items }
      ∷ record { name = codes "Aligned"; items = aligned_items } ∷ [];
  shared = record { kind = kinds.Int; name = codes "k"; init = literals.Int (pos 5) }
      ∷ record { kind = kinds.Html; name = codes "past"; init = literals.Tmpl (codes "List") } ∷ [];
  sessions = record { name = codes "go"; body = body } ∷ [];
}

-- ---- what is at hand

-- n is 3, s is "ab", c is a list of "u" and "v"
abbrev pub locals : Values
locals = (codes "n", number (pos 3)) ∷ (codes "s", text (codes "ab")) ∷ (codes "c", list (codes "u" ∷ codes "v" ∷ [])) ∷ []

-- k is 5
abbrev pub shared : Values
shared = (codes "k", number (pos 5)) ∷ []

-- the value of an expression, with 100 units
abbrev pub value_of : Term → Evaluated
value_of e = eval (of_session done) locals shared e 100

-- the page that a value prints to, and the measure of a document
abbrev pub printed : Evaluated → List ℕ
printed (Gives v units) = print (document_of v).tree
printed (Faults f units) = []

abbrev pub measured : Evaluated → Measure
measured (Gives v units) = (document_of v).measure
measured (Faults f units) = (constant forest.none).measure

-- a state with 100 units and no input
abbrev pub state : Values → State
state values = record { locals = values; shared = shared; units = 100; inputs = [] }

-- what statements come to, the first of which has number 1
abbrev pub after : Code → Outcome
after body = exec (of_session done) body 1 0 (state locals)

-- the list, made so that it has this measure
abbrev pub of_measure : (weight depth nest : ℕ) → Document
of_measure weight depth nest = record { tree = list_items; measure = record { weight = weight; depth = depth; nest = nest } }

-- ---- turns

-- two values for the field f, and no field
abbrev pub two : Form
two = (codes "f", codes "a") ∷ (codes "f", codes "b") ∷ []

abbrev pub sent : Form → Input
sent form = record { form = form; shared = shared }

-- what the document of a turn prints to
abbrev pub page : Outcome → List ℕ
page (Went st) = []
page (Shown at l rests shown sh units) = print shown.tree
page (Exited last sh units) = print last.tree
page (Failed f units) = []

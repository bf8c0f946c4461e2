-- Which bytes are a page.
use Rattle.std.specs.Prelude.{◌≡◌, ◌≤◌, ℕ, true, ◌⊎◌, List, [], ◌++◌, length, codes, IsUtf8}
use Rattle.bw_lang.specs.declared.items.Attr.{Attr}
use Rattle.bw_lang.specs.Text.Bytes.{is_blank}
use Rattle.bw_lang.specs.Document.Forest.{Forest, none, element}
use Rattle.bw_lang.specs.Template.Pieces.{passes}
use Rattle.bw_lang.specs.Template.Templates.{IsClosedTemplate}
use Rattle.bw_read.specs.declared.reading.TheConstants.{MAX_PAGE_BYTES, MAX_PAGE_NEST}

-- the document is one element html
abbrev pub IsRoot : Forest → Type 0
IsRoot f = (attrs : List Attr) × (inner : Forest) × (f ≡ element (codes "html") attrs inner none)

-- blanks, as many as there are
abbrev pub AreBlanks : List ℕ → Type 0
AreBlanks bytes = passes is_blank bytes ≡ true

-- a document type and blanks, or nothing
abbrev pub IsDoctype : List ℕ → Type 0
IsDoctype bytes = (bytes ≡ []) ⊎ ((blanks : List ℕ) × AreBlanks blanks × (bytes ≡ codes "<!DOCTYPE html>" ++ blanks))

-- The bytes are blanks, a document type or none, one element html that is written without gaps and in which at most 512
-- elements stand inside one another, and blanks. They are UTF-8, and they are at most 4195328.
pub record IsPage (bytes : List ℕ) (f : Forest) : Type 0 where
  pub front : List ℕ
  pub front_blank : AreBlanks front
  pub doctype : List ℕ
  pub doctype_or_none : IsDoctype doctype
  pub inside : List ℕ
  pub reads : IsClosedTemplate MAX_PAGE_NEST inside f
  pub root : IsRoot f
  pub back : List ℕ
  pub back_blank : AreBlanks back
  pub parts : bytes ≡ front ++ (doctype ++ (inside ++ back))
  pub utf8 : IsUtf8 bytes
  pub short : length bytes ≤ MAX_PAGE_BYTES

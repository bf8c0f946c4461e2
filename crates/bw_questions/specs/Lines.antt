-- The lines that tell why something is refused, without their ends.
use Rattle.std.specs.Prelude.{ℕ, ◌==◌, if◌then◌else◌, List, [], ◌++◌, map, codes, decimal}
use Rattle.bw_format.specs.declared.file.FormatFault.{FormatFault}
use Rattle.bw_format.specs.declared.file.FormatFault.TheVariants as formats
use Rattle.bw_lang.specs.declared.limits.Limit.{Limit}
use Rattle.bw_lang.specs.declared.limits.Limit.TheVariants as limits
use Rattle.bw_lang.specs.declared.stmt.Kind.{Kind}
use Rattle.bw_lang.specs.declared.stmt.Kind.TheVariants as kinds
use Rattle.bw_lex.specs.declared.LexFault.{LexFault}
use Rattle.bw_lex.specs.declared.LexFault.TheVariants as lexing
use Rattle.bw_schema.specs.declared.fault.SchemaFault.{SchemaFault}
use Rattle.bw_schema.specs.declared.fault.SchemaFault.TheVariants as schemas
use Rattle.bw_syntax.specs.declared.fault.SyntaxFault.{SyntaxFault}
use Rattle.bw_syntax.specs.declared.fault.SyntaxFault.TheVariants as reading
use Rattle.bw_tmpl.specs.declared.fault.TmplFault.{TmplFault}
use Rattle.bw_tmpl.specs.declared.fault.TmplFault.TheVariants as templates
use Rattle.bw_types.specs.declared.fault.TypeFault.{TypeFault}
use Rattle.bw_types.specs.declared.fault.TypeFault.TheVariants as typing
use Rattle.bw_valid.specs.declared.breach.Breach.{Breach}

-- the words that name a limit
abbrev pub limit_name : Limit → List ℕ
limit_name limits.Nesting = codes "nesting"
limit_name limits.Stretch = codes "stretch"
limit_name limits.Templates = codes "templates"
limit_name limits.Sessions = codes "sessions"
limit_name limits.Shared = codes "shared"
limit_name limits.Gaps = codes "gaps"
limit_name limits.Fields = codes "fields"
limit_name limits.Locals = codes "locals"
limit_name limits.NameBytes = codes "name bytes"
limit_name limits.StringBytes = codes "string bytes"
limit_name limits.Weight = codes "weight"

-- the word that names a kind
abbrev pub kind_name : Kind → List ℕ
kind_name kinds.Int = codes "int"
kind_name kinds.Bool = codes "bool"
kind_name kinds.Str = codes "string"
kind_name kinds.Html = codes "html"
kind_name kinds.Strs = codes "strings"

-- a byte of a field's name as it prints: the ends of lines as spaces
abbrev pub shown : ℕ → ℕ
shown b = if b == 10 then 32 else (if b == 13 then 32 else b)

-- why the text has no tokens
abbrev pub lex_line : LexFault → List ℕ
lex_line (lexing.BadByte at) = codes "lex bad byte at " ++ decimal at
lex_line (lexing.OpenString at) = codes "lex open string at " ++ decimal at
lex_line (lexing.OpenTemplate at) = codes "lex open template at " ++ decimal at
lex_line (lexing.NumberTooBig at) = codes "lex number too big at " ++ decimal at
lex_line lexing.Memory = []

-- why a template isn't read, behind its name
abbrev pub template_fault : TmplFault → List ℕ
template_fault templates.Malformed = codes " malformed"
template_fault templates.RepeatedAttribute = codes " repeated attribute"
template_fault templates.Mismatched = codes " mismatched"
template_fault templates.Nesting = codes " nesting"
template_fault templates.Memory = []

-- why the text is read as no service
abbrev pub syntax_line : SyntaxFault → List ℕ
syntax_line reading.TooLong = codes "service too long"
syntax_line (reading.Lex fault) = lex_line fault
syntax_line (reading.TooMany limit n) = codes "too many " ++ (limit_name limit ++ (codes " " ++ decimal n))
syntax_line (reading.Syntax at) = codes "syntax at " ++ decimal at
syntax_line (reading.Template name fault) = codes "template " ++ (name ++ template_fault fault)
syntax_line reading.Memory = []

-- why the service isn't well typed
abbrev pub type_line : TypeFault → List ℕ
type_line (typing.Repeated name) = codes "type repeated " ++ name
type_line (typing.Unknown name) = codes "type unknown " ++ name
type_line (typing.Kind wanted found) = codes "type kind " ++ (kind_name wanted ++ (codes " " ++ kind_name found))
type_line (typing.GapKinds gap) = codes "type gap kinds " ++ gap
type_line (typing.FieldKinds field) = codes "type field kinds " ++ map shown field
type_line (typing.BadControl template) = codes "type bad control " ++ template
type_line (typing.ReservedTag tag) = codes "type reserved tag " ++ tag
type_line (typing.FileInput template) = codes "type file input " ++ template
type_line (typing.NoExit session) = codes "type no exit " ++ session
type_line typing.Memory = []

-- the service has so many points, too many
abbrev pub points_line : ℕ → List ℕ
points_line n = codes "too many points " ++ decimal n

-- there is no file of this name
abbrev pub no_file_line : List ℕ → List ℕ
no_file_line name = codes "no file " ++ name

-- the bytes are no page
abbrev pub no_page_line : List ℕ
no_page_line = codes "not a page"

-- this element breaks this rule
abbrev pub breach_line : Breach → List ℕ
breach_line breach = codes "invalid place " ++ (decimal breach.place ++ (codes " rule " ++ decimal breach.rule))

-- why the text is read as no schema
abbrev pub schema_line : SchemaFault → List ℕ
schema_line schemas.Malformed = codes "schema malformed"
schema_line (schemas.Version version) = codes "schema version " ++ decimal version
schema_line (schemas.Repeated name) = codes "schema repeated " ++ name
schema_line (schemas.Unknown name) = codes "schema unknown " ++ name
schema_line schemas.TooLong = codes "schema too long"
schema_line schemas.Memory = []

-- why the file is read as no formats
abbrev pub format_line : FormatFault → List ℕ
format_line formats.TooLong = codes "formats too long"
format_line (formats.Malformed n) = codes "formats malformed line " ++ decimal n
format_line (formats.Repeated n) = codes "formats repeated line " ++ decimal n
format_line formats.Memory = []

-- the bytes are no texts
abbrev pub no_texts_line : List ℕ
no_texts_line = codes "texts malformed"

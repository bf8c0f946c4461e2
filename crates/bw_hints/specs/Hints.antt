-- The words of refusals: what is wrong, and how it is mended.
use Rattle.std.specs.Prelude.{ℕ, ◌==◌, if◌then◌else◌, List, [], ◌++◌, codes, Option, Some, None}
use Rattle.bw_lang.specs.declared.limits.Limit.{Limit}
use Rattle.bw_lang.specs.declared.limits.Limit.TheVariants as limits
use Rattle.bw_lang.specs.declared.stmt.Kind.{Kind}
use Rattle.bw_lang.specs.declared.stmt.Kind.TheVariants as kinds
use Rattle.bw_lex.specs.declared.LexFault.{LexFault}
use Rattle.bw_lex.specs.declared.LexFault.TheVariants as lexing
use Rattle.bw_syntax.specs.declared.fault.SyntaxFault.{SyntaxFault}
use Rattle.bw_syntax.specs.declared.fault.SyntaxFault.TheVariants as reading
use Rattle.bw_tmpl.specs.declared.fault.TmplFault.{TmplFault}
use Rattle.bw_tmpl.specs.declared.fault.TmplFault.TheVariants as templates
use Rattle.bw_types.specs.declared.fault.TypeFault.{TypeFault}
use Rattle.bw_types.specs.declared.fault.TypeFault.TheVariants as typing
use Rattle.bw_hints.specs.declared.hints.Expected.{Expected}
use Rattle.bw_hints.specs.declared.hints.Expected.TheVariants as expects
use Rattle.bw_hints.specs.declared.hints.Role.{Role}
use Rattle.bw_hints.specs.declared.hints.Role.TheVariants as roles

abbrev pub lex_what : LexFault → List ℕ
lex_what (lexing.BadByte at) = codes "this character begins nothing that a service is made of"
lex_what (lexing.OpenString at) = codes "this string has no closing quote on its line"
lex_what (lexing.OpenTemplate at) = codes "this template has no </html>"
lex_what (lexing.NumberTooBig at) = codes "this number is greater than 9,223,372,036,854,775,807"
lex_what lexing.Memory = []

abbrev pub lex_mend : LexFault → List ℕ
lex_mend (lexing.BadByte at) = codes "remove it, or put it into a string; the file must be UTF-8, and behind \\ in a string stands \", \\ or n"
lex_mend (lexing.OpenString at) = codes "add the quote; a line end in a string is written \\n"
lex_mend (lexing.OpenTemplate at) = codes "end it with </html>;"
lex_mend (lexing.NumberTooBig at) = codes "write a smaller number"
lex_mend lexing.Memory = []

abbrev pub limit_what : Limit → List ℕ
limit_what limits.Nesting = codes "here more than 64 brackets are open at once"
limit_what limits.Stretch = codes "here more than 500 words and signs stand without ; or a brace between them"
limit_what limits.Templates = codes "a service has at most 256 templates"
limit_what limits.Sessions = codes "a service has at most 64 sessions"
limit_what limits.Shared = codes "a service has at most 64 shared variables"
limit_what limits.Gaps = codes "the templates of a service have at most 128 different gap names"
limit_what limits.Fields = codes "a service has at most 128 different field names"
limit_what limits.Locals = codes "a session declares at most 64 locals, in all its blocks"
limit_what limits.NameBytes = codes "a name has at most 64 bytes"
limit_what limits.StringBytes = codes "a string has at most 16,384 bytes"
limit_what limits.Weight = codes "this template is too large"

abbrev pub template_what : TmplFault → List ℕ
template_what templates.Malformed = codes "from here on this is no text, tag or gap"
template_what templates.RepeatedAttribute = codes "this tag has an attribute twice"
template_what templates.Mismatched = codes "this element and its end tag don't pair"
template_what templates.Nesting = codes "here more than 64 elements stand inside one another"
template_what templates.Memory = []

abbrev pub syntax_what : SyntaxFault → List ℕ
syntax_what reading.TooLong = codes "the file has more than 1,048,576 bytes"
syntax_what (reading.Lex fault) = lex_what fault
syntax_what (reading.TooMany limit n) = limit_what limit
syntax_what (reading.Syntax at) = codes "reading gave up here: no service goes on like this"
syntax_what (reading.Template name fault) = template_what fault
syntax_what reading.Memory = []

abbrev pub limit_mend : Limit → List ℕ
limit_mend limits.Nesting = codes "take inner blocks or parentheses apart, as into locals"
limit_mend limits.Stretch = codes "cut the statement in two, by a local"
limit_mend limits.Templates = codes "make one template of two by a gap, or cut the service in two"
limit_mend limits.Sessions = codes "cut the service in two"
limit_mend limits.Shared = codes "cut the service in two"
limit_mend limits.Gaps = codes "use the same name in several templates"
limit_mend limits.Fields = codes "use the same name on several pages"
limit_mend limits.Locals = codes "use a local again, or cut the session in two"
limit_mend limits.NameBytes = codes "shorten it"
limit_mend limits.StringBytes = codes "cut it in two and join them by +, or put the text into a template"
limit_mend limits.Weight = codes "cut it in two, and plug one into the other"

-- where a template's markup stops, and this is expected
abbrev pub markup_mend : Option Expected → List ℕ
markup_mend None = codes "write &lt; and &amp; in texts, quotes around values, names of tags in lower case, and gaps as <[name]>"
markup_mend (Some expects.Text) = codes "write &lt; for <, &amp; for &, and other characters as they are; a tag's name is in lower case"
markup_mend (Some expects.Gap) = codes "a gap is written <[name]>, and name=[gap] in a tag"
markup_mend (Some expects.EndTag) = codes "an end tag is written </name>, with the name in lower case"
markup_mend (Some expects.Tag) = codes "behind a tag's name stand attributes, each behind a blank, and > or />; names are in lower case"
markup_mend (Some expects.Attribute) = codes "write a value behind the attribute's name, as in name=\"value\""
markup_mend (Some expects.Value) = codes "put the value between quotes, or write [gap]"
markup_mend (Some expects.Quoted) = codes "close the value by its quote; in a value < is written &lt;, and & is written &amp;"

abbrev pub template_mend : TmplFault → Option Expected → List ℕ
template_mend templates.Malformed expected = markup_mend expected
template_mend templates.RepeatedAttribute expected = codes "keep one of the two"
template_mend templates.Mismatched expected = codes "close each element in front of the end of the one around it; br, hr, img, input, meta and link have no end tag"
template_mend templates.Nesting expected = codes "plug the inner part as a template of its own"
template_mend templates.Memory expected = []

abbrev pub syntax_mend : SyntaxFault → Option Expected → List ℕ
syntax_mend reading.TooLong expected = codes "cut the service in two"
syntax_mend (reading.Lex fault) expected = lex_mend fault
syntax_mend (reading.TooMany limit n) expected = limit_mend limit
syntax_mend (reading.Syntax at) expected =
    codes "look in front of this place for a missing ; or bracket; a service ends with } for each { that is open"
syntax_mend (reading.Template name fault) expected = template_mend fault expected
syntax_mend reading.Memory expected = []

abbrev pub kind_name : Kind → List ℕ
kind_name kinds.Int = codes "an int"
kind_name kinds.Bool = codes "a bool"
kind_name kinds.Str = codes "a string"
kind_name kinds.Html = codes "a document"
kind_name kinds.Strs = codes "a list of strings"

abbrev pub kind_mend : Kind → Kind → List ℕ
kind_mend kinds.Int kinds.Str = codes "write number(..) around it, behind a test by isnumber(..)"
kind_mend kinds.Str kinds.Int = codes "write text(..) around it"
kind_mend kinds.Html kinds.Str = codes "plug it into a template: P<[gap=..]"
kind_mend kinds.Html kinds.Int = codes "write text(..) around it, and plug that into a template"
kind_mend kinds.Str kinds.Html = codes "a document is no text: plug it into a gap for content"
kind_mend kinds.Str kinds.Strs = codes "go over the list by foreach, and use each of its strings"
kind_mend kinds.Strs kinds.Str = codes "only a field with several values, or none, is a list"
kind_mend kinds.Bool kinds.Int = codes "compare it with a number, as in n > 0"
kind_mend kinds.Bool kinds.Str = codes "compare it with a string, as in s == \"yes\""
kind_mend wanted found = codes "give it another value, or declare the variable otherwise"

abbrev pub type_what : TypeFault → List ℕ
type_what (typing.Repeated name) = codes "this name is taken"
type_what (typing.Unknown name) = codes "nothing of this name can be used here"
type_what (typing.GapKinds name) = codes "this gap stands for content in one place and for an attribute's value in another"
type_what (typing.FieldKinds name) = codes "another control of this name sends another kind of value"
type_what (typing.BadControl name) = codes "a control must have a fixed name and type, must not be disabled, and an input has one of the eight types"
type_what (typing.ReservedTag name) = codes "html, head, body and form belong to the page around a template"
type_what (typing.FileInput name) = codes "files can't be sent"
type_what (typing.NoExit name) = codes "the last statement of this session isn't exit"
type_what (typing.Kind wanted found) = kind_name wanted ++ (codes " is expected here, and this is " ++ kind_name found)
type_what typing.Memory = []

-- of a variable that is received
abbrev pub target_mend : Kind → List ℕ
target_mend kinds.Int = codes "receive it into a string, and use number(..) of that behind a test by isnumber(..)"
target_mend found = codes "receive it into a string, or into strings where the field has several values"

-- of another kind, and of an unknown name
abbrev pub role_mend : Role → Kind → Kind → List ℕ
role_mend roles.Target wanted found = target_mend found
role_mend roles.Literal wanted found = codes "give it another value, or declare the variable otherwise"
role_mend role wanted found = kind_mend wanted found

abbrev pub unknown_mend : Role → List ℕ
unknown_mend roles.Gap = codes "mend its spelling, or write a gap of this name into a template"
unknown_mend roles.Literal = codes "mend its spelling, or add a template of this name"
unknown_mend role = codes "mend its spelling, or declare it; a local is known behind its declaration, to the end of its block"

abbrev pub type_mend : TypeFault → Role → List ℕ
type_mend (typing.Repeated name) role = codes "choose another name; templates, shared variables, sessions and a session's locals share them"
type_mend (typing.Unknown name) role = unknown_mend role
type_mend (typing.GapKinds name) role = codes "use two names"
type_mend (typing.FieldKinds name) role = codes "use two names"
type_mend (typing.BadControl name) role = codes "write name and type as plain values, and leave out disabled"
type_mend (typing.ReservedTag name) role = codes "leave this element out"
type_mend (typing.FileInput name) role = codes "leave this input out"
type_mend (typing.NoExit name) role = codes "end it with exit and a page"
type_mend (typing.Kind wanted found) role = role_mend role wanted found
type_mend typing.Memory role = []

-- the name that may be meant by an unknown one
abbrev pub meant_words : List ℕ → List ℕ
meant_words w = codes "perhaps you mean " ++ w

-- words with two names in them
abbrev pub five : List ℕ → List ℕ → List ℕ → List ℕ → List ℕ → List ℕ
five a b c d e = a ++ (b ++ (c ++ (d ++ e)))

-- what the check's faults of fields and plugs say, by their number and their detail
abbrev pub field_what : ℕ → List ℕ → List ℕ
field_what number detail =
    if number == 8 then (five (codes "a page of this show may have no field ") detail (codes "") [] (codes "")) else (
    if number == 9 then (five (codes "a page of this show may have the field ") detail (codes " more than once") [] (codes "")) else (
    if number == 10 then (five (codes "the field ") detail (codes " may send what doesn't fit the variable") [] (codes "")) else (
    five (codes "a plug here may find no open gap ") detail (codes "") [] (codes ""))))

-- the same of faults of an element's content, by the tag of the element too, and of those of fields and plugs
abbrev pub content_what : ℕ → List ℕ → List ℕ → List ℕ
content_what number detail tag =
    if number == 4 then (five (codes "this page may have <") detail (codes "> in <") tag (codes ">, which the schema doesn't allow there")) else (
    if number == 5 then (five (codes "this page may have text in <") tag (codes ">, where the schema allows none") [] (codes "")) else (
    if number == 6 then (five (codes "the root of this page is <") detail (codes ">, and the schema has another one") [] (codes "")) else (
    if number == 7 then (five (codes "on this page <") tag (codes "> may not have what its rule needs") [] (codes "")) else (
    field_what number detail))))

-- what each fault of the check says
abbrev pub fault_what : ℕ → List ℕ → List ℕ → List ℕ
fault_what number detail tag =
    if number == 1 then (five (codes "on this page <") tag (codes "> may have the attribute ") detail (codes ", which the schema doesn't allow")) else (
    if number == 2 then (five (codes "on this page <") tag (codes "> may lack the attribute ") detail (codes ", which the schema requires")) else (
    if number == 3 then (five (codes "on this page the attribute ") detail (codes " of <") tag
    (codes "> may have a value that the schema doesn't allow")) else (
    content_what number detail tag)))

abbrev pub fault_mend : ℕ → List ℕ
fault_mend number =
    if number == 1 then codes "leave the attribute out, or use a schema of your own by --schema" else (
    if number == 2 then codes "plug its gap on each way to this page, or write the value into the template" else (
    if number == 3 then codes "plug one of the strings that the schema lists, chosen by a test, and nothing that a client sent" else (
    if number == 4 then codes "put it into an element that may have it, as <li> into <ul>" else (
    if number == 5 then codes "plug an element that may have text, as <li> with a gap in it" else (
    if number == 6 then codes "give the schema the line: root html" else (
    if number == 7 then codes "give it what the need of its rule asks for; where the need is an or, one part must hold on every page" else (
    if number == 8 then codes "show a page that has an input of this name in each case" else (
    if number == 9 then codes "give the inputs names of their own; only radio and submit buttons may share one" else (
    if number == 10 then codes "receive a checkbox or a select with multiple into: strings c = none;" else (
    codes "plug it on one branch alone, or keep the two documents in two variables"))))))))))

-- the limits of the check
abbrev pub points_what : List ℕ
points_what = codes "the sessions have more than 4,096 statements and meetings of branches"

abbrev pub points_mend : List ℕ
points_mend = codes "cut the service in two"

abbrev pub facts_what : List ℕ
facts_what = codes "too many documents may reach one another"

abbrev pub facts_mend : List ℕ
facts_mend = codes "cut the service in two, or share fewer documents"

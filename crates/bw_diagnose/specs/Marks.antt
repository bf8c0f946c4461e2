-- Where the statements of a service and its templates stand, all of them. Tokens are counted from 0.
use Rattle.std.specs.Prelude.{◌≡◌, ℕ, ◌+◌, ◌-◌, List, [], ◌∷◌, ◌++◌, option_map, unwrap_or, slice_get, Option, Some, None}
use Rattle.bw_excerpt.specs.declared.excerpt.Place.{Place}
use Rattle.bw_faults.specs.declared.fault.Fault.{Fault}
use Rattle.bw_lang.specs.declared.declaration.Draft.{Draft}
use Rattle.bw_lang.specs.declared.declaration.Draft.TheVariants as drafts
use Rattle.bw_places.specs.Counts.{draft_tokens}
use Rattle.bw_places.specs.Seeking.{spans_of}
use Rattle.bw_places.specs.declared.span.Span.{Span}
use Rattle.bw_diagnose.specs.Known.{tokens_in, lexemes_in}
use Rattle.bw_diagnose.specs.Places.{span, tag_there, token_or, named_token}
use Rattle.bw_diagnose.specs.declared.marks.Marks.{Marks}

-- the tokens that are the insides of templates: in a declaration whose first token is this one, and in declarations
abbrev pub inside_in : Draft → ℕ → List ℕ
inside_in (drafts.Template w inside) at = (at + 3) ∷ []
inside_in (drafts.Shared kind w init) at = []
inside_in (drafts.Session s) at = []

abbrev pub insides_of : List Draft → ℕ → List ℕ
insides_of [] at = []
insides_of (d ∷ ds) at = inside_in d at ++ insides_of ds (at + draft_tokens d)

-- they stand there
pub record IsMarks (ds : List Draft) (marks : Marks) : Type 0 where
  pub statements : marks.statements.items ≡ spans_of ds 3
  pub insides : marks.insides.items ≡ insides_of ds 3

-- ---- what a fault is about, by these

-- the tokens of a statement, which is counted from 1; the service's name stands for none
abbrev pub marked_span : List Span → ℕ → Span
marked_span statements point = unwrap_or (slice_get statements (point - 1)) (span 1 2)

abbrev pub marked_place : List ℕ → List Span → Fault → Place
marked_place text statements f = token_or text (marked_span statements f.point) (named_token text (marked_span statements f.point) f f.template)

-- the start tag of an element, which is counted from 1; wrappers of pages have none
abbrev pub marked_element : List ℕ → List ℕ → Fault → Option ℕ → Option Place
marked_element text insides f None = None
marked_element text insides f (Some template) =
    option_map (λ at. tag_there (tokens_in text) (lexemes_in text) at (f.place - 1)) (slice_get insides template)

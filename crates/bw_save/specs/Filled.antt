-- Whether the plugs of documents fill gaps, as those of a turn do where the check accepted the service.
use Rattle.std.specs.Prelude.{ℕ, nat_lt, Bool, true, ◌&&◌, List, [], ◌∷◌, length}
use Rattle.std.specs.List.{list_all}
use Rattle.bw_doc.specs.Made.{Made, constant, plug, plug_text}
use Rattle.bw_eval.specs.declared.value.Value.{Value}
use Rattle.bw_eval.specs.declared.value.Value.TheVariants.{Int, Bool as Truth, Str, Html, Strs}
use Rattle.bw_lang.specs.declared.service.Service.{Service}
use Rattle.bw_saved.specs.declared.saved.Record.{Record}
use Rattle.bw_saved.specs.declared.saved.Saved.{Saved}
use Rattle.bw_saved.specs.Documents.Reading.{opens}

-- the constant is a template of the service, or the last plug fills a gap that is open, one of the service's
abbrev pub fills : Service → Made → Bool
fills service (constant n items) = nat_lt n (length service.templates)
fills service (plug b g a) = opens service b g
fills service (plug_text b g s) = opens service b g

-- the documents of which it is made
abbrev pub parts_of : Made → List Made
parts_of (constant n items) = []
parts_of (plug b g a) = b ∷ (a ∷ [])
parts_of (plug_text b g s) = b ∷ []

-- so it is with the document and all of its parts
abbrev pub is_filled : Service → Made → Bool
is_filled service (constant n items) = fills service (constant n items)
is_filled service (plug b g a) = fills service (plug b g a) && (is_filled service b && is_filled service a)
is_filled service (plug_text b g s) = fills service (plug_text b g s) && is_filled service b

-- with a value that is a document
abbrev pub is_filled_value : Service → Value → Bool
is_filled_value service (Int n) = true
is_filled_value service (Truth b) = true
is_filled_value service (Str s) = true
is_filled_value service (Html d) = is_filled service d
is_filled_value service (Strs ss) = true

-- with the value of each variable
abbrev pub are_filled : Service → List (List ℕ × Value) → Bool
are_filled service xs = list_all (λ x. is_filled_value service x.1) xs

-- with what a session carries, and shows
abbrev pub is_filled_session : Service → Record → Bool
is_filled_session service r = are_filled service r.frame.locals && is_filled service r.page

-- and with all that is saved
abbrev pub is_all_filled : Service → Saved → Bool
is_all_filled service s = are_filled service s.shared && list_all (is_filled_session service) s.records

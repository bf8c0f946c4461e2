-- What comes of filling in the form of a page.
use Rattle.std.specs.Prelude.{◌≡◌, ◌⊎◌, ℕ, List, [], codes, Option, Some, None, Result, Ok, Err, ⊤}
use Rattle.bw_lang.specs.declared.items.Element.{Element}
use Rattle.bw_lang.specs.Document.Forest.{Forest}
use Rattle.bw_lang.specs.Template.Controls.{control_names}
use Rattle.bw_meaning.specs.States.{Form}
use Rattle.bw_read.specs.Pages.{IsPage}
use Rattle.bw_agent.specs.declared.page.AgentFault.{AgentFault}
use Rattle.bw_agent.specs.declared.page.AgentFault.TheVariants as faults
use Rattle.bw_agent.specs.declared.page.Filled.{Filled}
use Rattle.bw_agent.specs.Controls.{controls, value_or}
use Rattle.bw_agent.specs.Filled.{filled, body_of, unknown}
use Rattle.bw_agent.specs.Forms.{form_in}

-- what is sent by a form: the body, to the target
abbrev pub sent_by : Element → Form → Filled
sent_by form answers = record { target = value_or (codes "action") [] form.attrs; body = body_of (filled (controls form.items) answers) }

-- it is sent, unless an answer has a name that no control of the form has
abbrev pub unless_unknown : Option (List ℕ) → Element → Form → Result Filled AgentFault
unless_unknown None form answers = Ok (sent_by form answers)
unless_unknown (Some name) form answers = Err (faults.UnknownAnswer name)

-- what comes of a form, where there is one. Controls without a field have a name too, and are sent by nobody
abbrev pub fills_form : Option Element → Form → Result Filled AgentFault
fills_form None answers = Err faults.NoForm
fills_form (Some form) answers = unless_unknown (unknown (control_names form.items) answers) form answers

-- what comes of a page
abbrev pub fills : Forest → Form → Result Filled AgentFault
fills page answers = fills_form (form_in page) answers

-- this comes, or there was no memory
abbrev pub Comes : Result Filled AgentFault → Result Filled AgentFault → Type 0
Comes due result = (result ≡ due) ⊎ (result ≡ Err faults.Memory)

-- the bytes are a page, of which this comes
abbrev pub OfPage : List ℕ → Form → Result Filled AgentFault → Type 0
OfPage bytes answers due = (page : Forest) × IsPage bytes page × (fills page answers ≡ due)

-- What comes of bytes: what comes of the page that they are, or that they are none. Want of memory says nothing.
abbrev pub OfBytes : List ℕ → Form → Result Filled AgentFault → Type 0
OfBytes bytes answers (Ok sent) = OfPage bytes answers (Ok sent)
OfBytes bytes answers (Err faults.NotAPage) = (page : Forest) → IsPage bytes page → ⊥
OfBytes bytes answers (Err faults.NoForm) = OfPage bytes answers (Err faults.NoForm)
OfBytes bytes answers (Err (faults.UnknownAnswer name)) = OfPage bytes answers (Err (faults.UnknownAnswer name))
OfBytes bytes answers (Err faults.Memory) = ⊤

-- Laws of summaries.
use Rattle.std.specs.Prelude.{◌≡◌, ◌↔◌, ◌<◌, ◌≤◌, ◌^◌, ◌+◌, ℕ, Bool, true, false, nat_lt, List, length}
use Rattle.bw_lang.specs.declared.service.Service.{Service}
use Rattle.bw_lang.specs.Document.Documents as doc
use Rattle.bw_lang.specs.Document.Forest.{Forest}
use Rattle.bw_lang.specs.Service.Reads.{IsReadable}
use Rattle.bw_strings.specs.declared.strings.StrSet.{StrSet}
use Rattle.bw_strings.specs.Asking.{has_string}
use Rattle.bw_strings.specs.Strings as strings
use Rattle.bw_sum.specs.Constants.{constant_of}
use Rattle.bw_sum.specs.Graph as graphs
use Rattle.bw_sum.specs.Graph.{graph, Same}
use Rattle.bw_sum.specs.Opening.{has_hole, opens}
use Rattle.bw_sum.specs.Small.{IsWellFormed, highest_rank}
use Rattle.bw_sum.specs.Summaries.{both, plugged, plugged_text, AreAlike, is_below, rank_of}
use Rattle.bw_sum.specs.Templates.{HasKnownGaps, template_items}
use Rattle.bw_sum.specs.Unfolding.{Covers}
use Rattle.bw_sum.specs.declared.summary.Summary.{Summary}

-- ---- the operations by their members

abbrev pub ConstantByMembers : Type 0
ConstantByMembers = (literals : List (List ℕ)) (templates : ℕ → Forest) (n gaps : ℕ) → HasKnownGaps gaps (templates n)
    → Same (graph literals (constant_of n (templates n) gaps)) (graphs.constant templates (λ g. nat_lt g gaps) n)

abbrev pub JoinByMembers : Type 0
JoinByMembers = (literals : List (List ℕ)) (a b : Summary) → AreAlike a b
    → Same (graph literals (both a b)) (graphs.joined (graph literals a) (graph literals b))

abbrev pub PlugByMembers : Type 0
PlugByMembers = (literals : List (List ℕ)) (b : Summary) (g : ℕ) (a : Summary) → AreAlike b a
    → Same (graph literals (plugged b g a)) (graphs.plugged (graph literals b) g (graph literals a))

abbrev pub PlugTextByMembers : Type 0
PlugTextByMembers = (literals : List (List ℕ)) (b : Summary) (g : ℕ) (s : StrSet) → AreAlike b b → strings.IsWellFormed s
    → Same (graph literals (plugged_text b g s)) (graphs.plugged_text (graph literals b) g (has_string literals s))

-- a summary is below another where its graph is
abbrev pub BelowByMembers : Type 0
BelowByMembers = (literals : List (List ℕ)) (a b : Summary) → AreAlike a b → is_below a b ≡ true → graphs.IsBelow (graph literals a) (graph literals b)

-- a gap is open where some open gap of that name is counted
abbrev pub OpensByCount : Type 0
OpensByCount = (g : ℕ) (d : Forest) → (opens g d ≡ true) ↔ (0 < doc.count g d)

-- the templates of a service that some text reads as have known gaps
abbrev pub ReadGapsAreKnown : Type 0
ReadGapsAreKnown = (service : Service) → IsReadable service → (n : ℕ) → HasKnownGaps (length service.gaps) (template_items service n)

-- ---- they grow

-- a plug grows with its base and with what is plugged
abbrev pub PlugGrows : Type 0
PlugGrows = (b c : Summary) (g : ℕ) (a d : Summary) → AreAlike b c → AreAlike a d → is_below b c ≡ true → is_below a d ≡ true
    → is_below (plugged b g a) (plugged c g d) ≡ true

abbrev pub PlugTextGrows : Type 0
PlugTextGrows = (b c : Summary) (g : ℕ) (s r : StrSet) → AreAlike b c → strings.AreWellFormed s r → is_below b c ≡ true → strings.is_below s r ≡ true
    → is_below (plugged_text b g s) (plugged_text c g r) ≡ true

-- ---- they keep summaries well formed

-- any two well formed summaries may be compared and joined
abbrev pub WellFormedAreAlike : Type 0
WellFormedAreAlike = (a b : Summary) → IsWellFormed a → IsWellFormed b → AreAlike a b

-- the constant of a template, and what operations make of well formed summaries, is well formed
abbrev pub ConstantIsWellFormed : Type 0
ConstantIsWellFormed = (n : ℕ) (items : Forest) (gaps : ℕ) → n < 2 ^ 32 → gaps + 3 ≤ 2 ^ 32 → IsWellFormed (constant_of n items gaps)

abbrev pub JoinIsWellFormed : Type 0
JoinIsWellFormed = (a b : Summary) → IsWellFormed a → IsWellFormed b → IsWellFormed (both a b)

abbrev pub PlugIsWellFormed : Type 0
PlugIsWellFormed = (b : Summary) (g : ℕ) (a : Summary) → g < 2 ^ 32 → IsWellFormed b → IsWellFormed a → IsWellFormed (plugged b g a)

abbrev pub PlugTextIsWellFormed : Type 0
PlugTextIsWellFormed = (b : Summary) (g : ℕ) (s : StrSet) → g < 2 ^ 32 → IsWellFormed b → strings.IsWellFormed s → IsWellFormed (plugged_text b g s)

-- so no summary rises for ever
abbrev pub RankIsBounded : Type 0
RankIsBounded = (s : Summary) → IsWellFormed s → rank_of s ≤ highest_rank

-- ---- they keep covering

-- the tree of a template is covered by its constant
abbrev pub ConstantCovers : Type 0
ConstantCovers = (literals : List (List ℕ)) (templates : ℕ → Forest) (n gaps : ℕ) → HasKnownGaps gaps (templates n)
    → Covers templates (λ g. nat_lt g gaps) (graph literals (constant_of n (templates n) gaps)) (templates n)

-- a document with the content gap g open is covered with a covered document at g, where no template has an attribute gap g
abbrev pub PlugCovers : Type 0
PlugCovers = (literals : List (List ℕ)) (templates : ℕ → Forest) (gaps : ℕ → Bool) (b : Summary) (g : ℕ) (a : Summary) (d e : Forest) → AreAlike b a
    → ((n : ℕ) → has_hole g (templates n) ≡ false) → opens g d ≡ true → Covers templates gaps (graph literals b) d → Covers templates gaps (graph literals a) e
    → Covers templates gaps (graph literals (plugged b g a)) (doc.plug g e d)

-- and with a covered string at a gap of either kind
abbrev pub PlugTextCovers : Type 0
PlugTextCovers = (literals : List (List ℕ)) (templates : ℕ → Forest) (gaps : ℕ → Bool) (b : Summary) (g : ℕ) (s : StrSet) (d : Forest) (t : List ℕ)
    → AreAlike b b
    → strings.IsWellFormed s → has_string literals s t ≡ true → Covers templates gaps (graph literals b) d
    → Covers templates gaps (graph literals (plugged_text b g s)) (doc.plug_text g t d)

-- what a summary covers is covered by each that it is below
abbrev pub BelowCovers : Type 0
BelowCovers = (literals : List (List ℕ)) (templates : ℕ → Forest) (gaps : ℕ → Bool) (a b : Summary) (d : Forest) → AreAlike a b → is_below a b ≡ true
    → Covers templates gaps (graph literals a) d → Covers templates gaps (graph literals b) d

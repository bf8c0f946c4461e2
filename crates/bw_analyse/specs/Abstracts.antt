-- What is known of a value, its order, and what a plug makes of it.
use Rattle.std.specs.Prelude.{ℕ, Bool, true, false, []}
use Rattle.bw_lang.specs.declared.stmt.Kind.{Kind}
use Rattle.bw_lang.specs.declared.stmt.Kind.TheVariants as kinds
use Rattle.bw_strings.specs.declared.strings.StrSet.TheVariants.{Of}
use Rattle.bw_strings.specs.Strings as strings
use Rattle.bw_sum.specs.declared.summary.Summary.{Summary}
use Rattle.bw_sum.specs.Summaries as summaries
use Rattle.bw_sum.specs.Summaries.{plugged, plugged_text}
use Rattle.bw_analyse.specs.declared.abstracts.Abstract.{Abstract}
use Rattle.bw_analyse.specs.declared.abstracts.Abstract.TheVariants.{Nothing, Str, Html}

-- both are of one kind, and well formed
abbrev pub AreAlike : Abstract → Abstract → Type 0
AreAlike Nothing Nothing = Unit {0}
AreAlike (Str s) (Str r) = strings.AreWellFormed s r
AreAlike (Html s) (Html r) = summaries.AreAlike s r
AreAlike a b = ⊥

-- the second knows no more than the first
abbrev pub is_below : Abstract → Abstract → Bool
is_below Nothing Nothing = true
is_below (Str s) (Str r) = strings.is_below s r
is_below (Html s) (Html r) = summaries.is_below s r
is_below a b = false

-- the join; of two kinds nothing is known
abbrev pub both : Abstract → Abstract → Abstract
both (Str s) (Str r) = Str (strings.both s r)
both (Html s) (Html r) = Html (summaries.both s r)
both a b = Nothing

-- how many members it has: roots, edges, tracks, lacks and strings
abbrev pub size_of : Abstract → ℕ
size_of Nothing = 0
size_of (Str s) = strings.size_of s
size_of (Html s) = summaries.size_of s

abbrev pub rank_of : Abstract → ℕ
rank_of Nothing = 0
rank_of (Str s) = strings.rank_of s
rank_of (Html s) = summaries.rank_of s

-- of a plug; of what is no plug into a document nothing is known
abbrev pub plugged_by : Abstract → ℕ → Abstract → Abstract
plugged_by (Html b) g (Html a) = Html (plugged b g a)
plugged_by (Html b) g (Str s) = Html (plugged_text b g s)
plugged_by b g a = Nothing

-- the summary of no document
abbrev pub no_document : Summary
no_document = record { roots = []; edges = []; texts = []; tracks = []; lacks = [] }

-- the least that is known of a variable of a kind: that it holds no string, or no document
abbrev pub least_of : Kind → Abstract
least_of kinds.Int = Nothing
least_of kinds.Bool = Nothing
least_of kinds.Str = Str (Of [])
least_of kinds.Html = Html no_document
least_of kinds.Strs = Nothing

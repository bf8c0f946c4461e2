-- The faults of plugs whose gap may be missing.
use Rattle.std.specs.Prelude.{◌≡◌, ◌⊎◌, ℕ, Bool, true, false, List, length, slice_get, Option, Some, None}
use Rattle.std.specs.Ordering.{nat_cmp}
use Rattle.bw_faults.specs.declared.fault.Fault.{Fault}
use Rattle.bw_lang.specs.declared.service.Service.{Service}
use Rattle.bw_lang.specs.Table.Names.{name_number}
use Rattle.bw_lang.specs.Service.Term.{Term, int, truth, string, name, paren, not, neg, binary, call, plug, nothing, Fillings, no_more, filling}
use Rattle.bw_flow.specs.Steps.{Act, sets, tests, goes_over, shows, exits, joins, Step}
use Rattle.bw_solve.specs.Sets.{has}
use Rattle.bw_analyse.specs.declared.abstracts.Abstract.{Abstract}
use Rattle.bw_analyse.specs.declared.abstracts.Abstract.TheVariants.{Nothing, Str, Html}
use Rattle.bw_analyse.specs.declared.facts.Facts.{Facts}
use Rattle.bw_analyse.specs.Abstracts.{plugged_by}
use Rattle.bw_analyse.specs.Facts.{rows_of}
use Rattle.bw_analyse.specs.Known.{look, known}
use Rattle.bw_flow.specs.Layout.{flow_of}

-- some document of these may have no open gap of that number
abbrev pub lacks : Abstract → ℕ → Bool
lacks Nothing g = false
lacks (Str s) g = false
lacks (Html s) g = has nat_cmp s.lacks g

-- A plug in the expression fills a gap of that name, and the base may have none open. The base of a pair is what the pairs
-- in front of it made.
abbrev mutual
  pub Misses : Service → (List ℕ → Abstract) → Term → List ℕ → Type 0
  Misses service names (int n) w = ⊥
  Misses service names (truth b) w = ⊥
  Misses service names (string s) w = ⊥
  Misses service names nothing w = ⊥
  Misses service names (name v) w = ⊥
  Misses service names (paren e) w = Misses service names e w
  Misses service names (not e) w = Misses service names e w
  Misses service names (neg e) w = Misses service names e w
  Misses service names (call f e) w = Misses service names e w
  Misses service names (binary op l r) w = Misses service names l w ⊎ Misses service names r w
  Misses service names (plug b ps) w = Misses service names b w ⊎ FillingMisses service names ps (known service names b) w

  pub FillingMisses : Service → (List ℕ → Abstract) → Fillings → Abstract → List ℕ → Type 0
  FillingMisses service names no_more a w = ⊥
  FillingMisses service names (filling g e ps) a w =
      (Misses service names e w ⊎ ((lacks a (name_number service.gaps g) ≡ true) × (w ≡ g)))
      ⊎ FillingMisses service names ps (plugged_by a (name_number service.gaps g) (known service names e)) w

-- the expression of a point, if it has one
abbrev pub term_of : Act → Option Term
term_of (sets v e) = Some e
term_of (tests e) = Some e
term_of (goes_over v e) = Some e
term_of (shows e rs) = Some e
term_of (exits e) = Some e
term_of joins = None

-- in the statement of number n a gap of that name may be missing
abbrev pub gap_fault : ℕ → List ℕ → Fault
gap_fault n w = record { number = 11; point = n; template = None; place = 0; detail = w }

-- the fault of a plug in this expression of the statement of number n
abbrev pub IsFaultIn : Service → (List ℕ → Abstract) → ℕ → Term → Fault → Type 0
IsFaultIn service names n e f = Misses service names e f.detail × (f ≡ gap_fault n f.detail)

-- of a plug in the expression of this point, where these rows tell of the locals and of the shared variables
abbrev pub IsFaultAt : Service → List Abstract → List Abstract → Step → Fault → Type 0
IsFaultAt service row shared x f = (e : Term) × (term_of x.act ≡ Some e) × IsFaultIn service (look service x.scope row shared) x.number e f

-- of a plug at some point, also of one to which nothing leads
abbrev pub IsGapFault : Service → Facts → Fault → Type 0
IsGapFault service facts f =
    (p : ℕ) × (x : Step) × (slice_get (flow_of service) p ≡ Some x)
    × IsFaultAt service (rows_of facts p) (rows_of facts (length (flow_of service))) x f

-- The walk over a service that notes its gap faults: each definition takes a list of faults, and adds those that it finds.
use Rattle.std.specs.Prelude.{ℕ, ◌+◌, Bool, List, [], ◌∷◌, if◌then◌else◌, Option, Some, None}
use Rattle.bw_faults.specs.declared.fault.Fault.{Fault}
use Rattle.bw_faults.specs.Order.{fault_cmp}
use Rattle.bw_lang.specs.declared.service.Service.{Service}
use Rattle.bw_lang.specs.Table.Names.{name_number}
use Rattle.bw_lang.specs.Service.Term.{Term, int, truth, string, name, paren, not, neg, binary, call, plug, nothing, Fillings, no_more, filling}
use Rattle.bw_flow.specs.declared.point.Local.{Local}
use Rattle.bw_flow.specs.Steps.{Step}
use Rattle.bw_solve.specs.Sets.{merge}
use Rattle.bw_sum.specs.declared.summary.Summary.{Summary}
use Rattle.bw_analyse.specs.declared.abstracts.Abstract.{Abstract}
use Rattle.bw_analyse.specs.declared.abstracts.Abstract.TheVariants.{Nothing, Str, Html}
use Rattle.bw_analyse.specs.Abstracts.{plugged_by}
use Rattle.bw_analyse.specs.GapFaults.{lacks, term_of, gap_fault}
use Rattle.bw_analyse.specs.Known.{look, known}

-- a fault more, where a gap may be missing
abbrev pub noted_if : Bool → ℕ → List ℕ → List Fault → List Fault
noted_if missing n g faults = if missing then merge fault_cmp faults (gap_fault n g ∷ []) else faults

abbrev mutual
  -- those in an expression of the statement of number n
  pub noted : Service → (List ℕ → Abstract) → ℕ → Term → List Fault → List Fault
  noted service names n (int z) faults = faults
  noted service names n (truth b) faults = faults
  noted service names n (string s) faults = faults
  noted service names n nothing faults = faults
  noted service names n (name v) faults = faults
  noted service names n (paren e) faults = noted service names n e faults
  noted service names n (not e) faults = noted service names n e faults
  noted service names n (neg e) faults = noted service names n e faults
  noted service names n (call f e) faults = noted service names n e faults
  noted service names n (binary op l r) faults = noted service names n r (noted service names n l faults)
  noted service names n (plug b ps) faults = noted_filled service names n ps (known service names b) (noted service names n b faults)

  -- those of pairs, from this base on
  pub noted_filled : Service → (List ℕ → Abstract) → ℕ → Fillings → Abstract → List Fault → List Fault
  noted_filled service names n no_more a faults = faults
  noted_filled service names n (filling g e ps) a faults =
      noted_filled service names n ps (plugged_by a (name_number service.gaps g) (known service names e))
      (noted_if (lacks a (name_number service.gaps g)) n g (noted service names n e faults))

-- those of a point's expression, if it has one
abbrev pub noted_term : Service → (List ℕ → Abstract) → ℕ → Option Term → List Fault → List Fault
noted_term service names n None faults = faults
noted_term service names n (Some e) faults = noted service names n e faults

-- those of the points from place p on; f tells the rows of the points, and `shared` is that of the shared variables
abbrev pub noted_all : Service → (ℕ → List Abstract) → List Abstract → ℕ → List Step → List Fault → List Fault
noted_all service f shared p [] faults = faults
noted_all service f shared p (x ∷ xs) faults =
    noted_all service f shared (p + 1) xs (noted_term service (look service x.scope (f p) shared) x.number (term_of x.act) faults)

-- ---- what the walk keeps of documents

-- the gaps that documents may lack, and no other members
abbrev pub lacks_alone : Summary → Summary
lacks_alone s = record { roots = []; edges = []; texts = []; tracks = []; lacks = s.lacks }

-- the same, and of documents the gaps alone that they may lack
abbrev pub bare : Abstract → Abstract
bare Nothing = Nothing
bare (Str s) = Str s
bare (Html s) = Html (lacks_alone s)

-- that of what names stand for
abbrev pub bares : Service → List Local → List Abstract → List Abstract → List ℕ → Abstract
bares service scope row shared w = bare (look service scope row shared w)

-- A journal that is begun anew, as often as may be, and what a crash leaves of it.
use Rattle.std.proofs.Common.{◌≡◌, ◌+◌, ℕ, suc, List, [], ◌∷◌, ◌++◌, length, Some, refl, sym, ap, ◌∙◌, subst, inl, inr, arith, append_assoc}
use Rattle.std.proofs.lemmas.List.{append-nil, length-append}
use Rattle.bw_format.specs.declared.format.Format.{Format}
use Rattle.bw_journal.specs.Journals.{IsJournal}
use Rattle.bw_journal.specs.Layout.{Entry, last_sum}
use Rattle.bw_journal.specs.Starts.{Origin, head_at, nothing, saved, sum_at, sum_from}
use Rattle.bw_journal.proofs.Readings.{reads_once}
use Rattle.bw_journal.proofs.Starting.{starts_once}
use Rattle.bw_lang.specs.declared.service.Service.{Service}
use Rattle.bw_model.specs.Sessions.{World}
use Rattle.bw_stable.specs.Deeds.{Deed, cut, kept, moved}
use Rattle.bw_stable.specs.Replacing.{LeavesBy, pieces}
use Rattle.bw_stable.proofs.Replaced.{replaces_between}
use Rattle.bw_bringing.specs.Bringing.{Brings}
use Rattle.bw_survival.specs.Restarts.{IsInFlight, Keeps, file_of, joined}
use Rattle.bw_survival.specs.Rotating.{BeginsAt, BringsBackOnce, LeadOn, Leads, Leg, Loading, Recovers, RotationsGoOn, deeds_of, groups_of, start_of}
use Rattle.bw_bringing.proofs.Bringing.{brings_once, brings_then}
use Rattle.bw_survival.proofs.Restarting.{file_after, joined_then, none_in_flight, restarts_go_on}

-- ---- one world for one file

begins_once : (loading : Loading) (service : Service) (origin : Origin) (a b : World) → BeginsAt loading service origin a → BeginsAt loading service origin b
    → a ≡ b
begins_once loading service nothing a b p q = p ∙ sym q
begins_once loading service (saved bytes) a b p q = let same : Some a ≡ Some b = sym p ∙ q in cc

pub brings_back_once : BringsBackOnce
brings_back_once loading formats service text file a b p q =
    let start = starts_once text file p.is_file.behind q.is_file.behind p.origin q.origin p.fits q.fits p.is_file.parts q.is_file.parts in
    let sum : ℕ = sum_from text q.origin in
    let journal : IsJournal sum q.is_file.behind p.entries p.is_file.tail =
    subst (λ (x : List ℕ). IsJournal sum x p.entries p.is_file.tail) start.1
    (subst (λ (o : Origin). IsJournal (sum_from text o) p.is_file.behind p.entries p.is_file.tail) start.0 p.is_file.journal) in
    let entries = (reads_once sum q.is_file.behind p.entries q.entries p.is_file.tail q.is_file.tail journal q.is_file.journal).0 in
    let first : p.first ≡ q.first =
    begins_once loading service q.origin p.first q.first (subst (λ (o : Origin). BeginsAt loading service o p.first) start.0 p.begins) q.begins in
    let brings : Brings formats service q.first q.entries a =
    subst (λ (w : World). Brings formats service w q.entries a) first (subst (λ (l : List Entry). Brings formats service p.first l a) entries p.brings) in
    brings_once formats service q.first a b q.entries brings q.brings

-- ---- a crash

-- each piece keeps one group
keeps_pieces : (sum : ℕ) (deeds : List Deed) (groups : List (List Entry)) → Keeps sum deeds groups → length groups ≡ pieces deeds
keeps_pieces sum [] groups k = ap length k
keeps_pieces sum (cut len ∷ deeds) groups k = absurd k
keeps_pieces sum (moved move ∷ deeds) groups k = absurd k
keeps_pieces sum (kept bytes returned held ∷ deeds) [] k = absurd k
keeps_pieces sum (kept bytes returned held ∷ deeds) (group ∷ groups) k = ap suc (keeps_pieces (last_sum sum group) deeds groups k.1)

module _ (loading : Loading) (formats : List Format) (service : Service) (text : List ℕ) where
  -- in the course of one leg
  one_leg : (from to : World) (leg : Leg) (left : List ℕ) (count : ℕ) → Leads loading formats service text from leg to
      → LeavesBy leg.deeds (file_of (start_of text leg) leg.before) left count → Recovers loading formats service from to text leg [] count left
  one_leg from to leg left count leads leaves =
      let start = start_of text leg in
      let g = restarts_go_on formats service from to start leg.before leg.groups leg.deeds left leads.fits leads.brings leads.keeps leaves.may in
      let k = g.kept in
      record {
        whole = k.whole;
        rest = k.rest;
        first = k.first;
        others = k.others;
        groups_are = k.groups_are;
        all_kept = keeps_pieces (last_sum (sum_at start) leg.before) leaves.may.done k.whole k.done_is ∙ leaves.count_is;
        in_flight = k.in_flight;
        all = k.all;
        world = g.world;
        brings = g.brings;
        found = record {
          origin = leg.origin;
          fits = leads.origin_fits;
          first = from;
          begins = leads.begins;
          entries = leg.before ++ (joined k.whole ++ k.first);
          is_file = record { behind = k.behind; parts = k.parts; tail = k.tail; journal = k.journal };
          brings = g.brings;
        };
        goes_on = g.goes_on;
      }

  -- what all legs together bring about
  leads_on : (from to : World) (leg : Leg) (legs : List Leg) → LeadOn loading formats service text from leg legs to
      → Brings formats service from (leg.before ++ joined (groups_of leg legs)) to
  leads_on from to leg [] l = l.brings
  leads_on from to leg (next ∷ legs) (mid, leads, none, on) =
      let rest : Brings formats service mid (joined (groups_of next legs)) to =
      subst (λ (es : List Entry). Brings formats service mid (es ++ joined (groups_of next legs)) to) none (leads_on mid to next legs on) in
      let all = brings_then formats service from mid to (leg.before ++ joined leg.groups) (joined (groups_of next legs)) leads.brings rest in
      subst (λ (es : List Entry). Brings formats service from es to)
      (append_assoc leg.before (joined leg.groups) (joined (groups_of next legs))
      ∙ ap (λ (es : List Entry). leg.before ++ es) (sym (joined_then leg.groups (groups_of next legs)))) all

  in_flight_more : (first : List Entry) (rest more : List (List Entry)) → IsInFlight first rest → IsInFlight first (rest ++ more)
  in_flight_more first [] more is = subst (λ (es : List Entry). IsInFlight es more) (sym is) (none_in_flight more)
  in_flight_more first (group ∷ rest) more is = is

  -- a crash in the course of the first leg
  in_first : (from mid to : World) (leg next : Leg) (legs : List Leg) (left : List ℕ) (count : ℕ)
      → Brings formats service mid (joined (groups_of next legs)) to → Recovers loading formats service from mid text leg [] count left
      → Recovers loading formats service from to text leg (next ∷ legs) count left
  in_first from mid to leg next legs left count on r =
      let more = groups_of next legs in
      record {
        whole = r.whole;
        rest = r.rest ++ more;
        first = r.first;
        others = r.others ++ joined more;
        groups_are = ap (λ (g : List (List Entry)). g ++ more) r.groups_are ∙ append_assoc r.whole r.rest more;
        all_kept = r.all_kept;
        in_flight = in_flight_more r.first r.rest more r.in_flight;
        all = joined_then leg.groups more ∙ ap (λ (es : List Entry). es ++ joined more) r.all
            ∙ append_assoc (joined r.whole ++ r.first) r.others (joined more);
        world = r.world;
        brings = r.brings;
        found = r.found;
        goes_on = brings_then formats service r.world mid to r.others (joined more) r.goes_on on;
      }

  -- a crash in the course of the others
  in_others : (from mid to : World) (leg next : Leg) (legs : List Leg) (left : List ℕ) (count more : ℕ) → Leads loading formats service text from leg mid
      → next.before ≡ [] → count ≡ pieces leg.deeds + more → Recovers loading formats service mid to text next legs more left
      → Recovers loading formats service from to text leg (next ∷ legs) count left
  in_others from mid to leg next legs left count more leads none e r =
      let passed = joined r.whole ++ r.first in
      let behind : Brings formats service mid passed r.world =
      subst (λ (es : List Entry). Brings formats service mid (es ++ passed) r.world) none r.brings in
      let both = brings_then formats service from mid r.world (leg.before ++ joined leg.groups) passed leads.brings behind in
      let parts : joined leg.groups ++ passed ≡ joined (leg.groups ++ r.whole) ++ r.first =
      sym (append_assoc (joined leg.groups) (joined r.whole) r.first) ∙ ap (λ (es : List Entry). es ++ r.first) (sym (joined_then leg.groups r.whole)) in
      let size = keeps_pieces (last_sum (sum_at (start_of text leg)) leg.before) leg.deeds leg.groups leads.keeps in
      record {
        whole = leg.groups ++ r.whole;
        rest = r.rest;
        first = r.first;
        others = r.others;
        groups_are = ap (λ (g : List (List Entry)). leg.groups ++ g) r.groups_are ∙ sym (append_assoc leg.groups r.whole r.rest);
        all_kept = omega (arith, e, size, r.all_kept, length-append leg.groups r.whole);
        in_flight = r.in_flight;
        all = joined_then leg.groups (groups_of next legs) ∙ ap (λ (es : List Entry). joined leg.groups ++ es) r.all
            ∙ sym (append_assoc (joined leg.groups) passed r.others) ∙ ap (λ (es : List Entry). es ++ r.others) parts;
        world = r.world;
        brings = subst (λ (es : List Entry). Brings formats service from es r.world)
            (append_assoc leg.before (joined leg.groups) passed ∙ ap (λ (es : List Entry). leg.before ++ es) parts) both;
        found = r.found;
        goes_on = r.goes_on;
      }

  recovers : (from to : World) (leg : Leg) (legs : List Leg) (left : List ℕ) (count : ℕ) → LeadOn loading formats service text from leg legs to
      → LeavesBy (deeds_of text leg legs) (file_of (start_of text leg) leg.before) left count
      → Recovers loading formats service from to text leg legs count left
  recovers from to leg [] left count l leaves = one_leg from to leg left count l leaves
  recovers from to leg (next ∷ legs) left count (mid, leads, none, on) leaves =
      let start = start_of text leg in
      let later = start_of text next in
      let on_from : Brings formats service mid (joined (groups_of next legs)) to =
      subst (λ (es : List Entry). Brings formats service mid (es ++ joined (groups_of next legs)) to) none (leads_on mid to next legs on) in
      let file : head_at later ≡ file_of later next.before =
      sym (append-nil (head_at later)) ∙ ap (λ (es : List Entry). file_of later es) (sym none) in
      elim (replaces_between leg.deeds (deeds_of text next legs) (file_of start leg.before) (head_at later)
      (file_of start (leg.before ++ joined leg.groups)) left count (file_after start leg.before leg.deeds leg.groups leads.keeps) leaves) [
        | inl first ↦ in_first from mid to leg next legs left count on_from (one_leg from mid leg left count leads first)
        | inr second ↦
            let behind = subst (λ (f : List ℕ). LeavesBy (deeds_of text next legs) f left second.0) file second.2 in
            in_others from mid to leg next legs left count second.0 leads none second.1 (recovers mid to next legs left second.0 on behind)
      ]

pub rotations_go_on : RotationsGoOn
rotations_go_on loading formats service from to text leg legs left on may =
    recovers loading formats service text from to leg legs left (pieces may.done) on (record { may = may; count_is = refl })

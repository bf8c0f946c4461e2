-- What a crash leaves of what is kept group by group, and of links that are served beside a journal.
use Rattle.std.proofs.Common.{◌≡◌, ℕ, List, [], ◌∷◌, ◌++◌, length, suc, take, sym, ap, ◌∙◌, subst, append_assoc}
use Rattle.std.proofs.Math.Seq.{take-append_seam}
use Rattle.std.proofs.lemmas.List.{append_cancel_left}
use Rattle.std.specs.List.{AllByRecursion}
use Rattle.bw_journal.specs.Layout.{Entry, Fits, last_sum}
use Rattle.bw_journal.specs.Starts.{Start, sum_at}
use Rattle.bw_journal.proofs.Readings.{fits_then, sum_then}
use Rattle.bw_format.specs.declared.format.Format.{Format}
use Rattle.bw_lang.specs.declared.service.Service.{Service}
use Rattle.bw_model.specs.Sessions.{World}
use Rattle.bw_bringing.specs.Bringing.{Brings}
use Rattle.bw_survival.specs.Restarts.{HasKept, IsFileOf, Keeps, file_of, joined}
use Rattle.bw_bringing.proofs.Bringing.{brings_then}
use Rattle.bw_survival.proofs.Restarting.{joined_then, restarts_go_on}
use Rattle.bw_stable.specs.Deeds.{Deed, cut, kept, moved, MayLeave}
use Rattle.bw_keeping.specs.Answered.{Exchange, backs_of, entries_of}
use Rattle.bw_keeping.specs.Kept.{AreKept}
use Rattle.bw_survival.specs.Laws.{AreParted, HasGroups}
use Rattle.bw_survival.specs.Surviving.{LinksSurvive}
use Rattle.bw_survival.proofs.LinksBring.{answered_bring, answered_fit}
use Rattle.bw_keeping.proofs.Lists.{entries_then}
use Rattle.bw_survival.proofs.Parting.{kept_in_parts, pieces_are_groups}

-- ---- groups

-- each deed keeps one group
keeps_long : (sum : ℕ) (deeds : List Deed) (groups : List (List Entry)) → Keeps sum deeds groups → length groups ≡ length deeds
keeps_long sum [] groups k = ap length k
keeps_long sum (cut len ∷ deeds) groups k = absurd k
keeps_long sum (moved move ∷ deeds) groups k = absurd k
keeps_long sum (kept bytes returned held ∷ deeds) [] k = absurd k
keeps_long sum (kept bytes returned held ∷ deeds) (group ∷ groups) k = ap suc (keeps_long (last_sum sum group) deeds groups k.1)

keeps_then : (sum : ℕ) (done undone : List Deed) (a b : List (List Entry)) → Keeps sum done a → Keeps (last_sum sum (joined a)) undone b
    → Keeps sum (done ++ undone) (a ++ b)
keeps_then sum [] undone a b first then =
    let none : a ≡ [] = first in
    subst (λ (l : List (List Entry)). Keeps sum undone (l ++ b)) (sym none)
    (subst (λ (l : List (List Entry)). Keeps (last_sum sum (joined l)) undone b) none then)
keeps_then sum (cut len ∷ done) undone a b first then = absurd first
keeps_then sum (moved move ∷ done) undone a b first then = absurd first
keeps_then sum (kept bytes returned held ∷ done) undone [] b first then = absurd first
keeps_then sum (kept bytes returned held ∷ done) undone (group ∷ a) b first then = (
  first.0,
  keeps_then (last_sum sum group) done undone a b first.1 (subst (λ (n : ℕ). Keeps n undone b) (sum_then sum group (joined a)) then),
)

-- lists that begin alike, and are parted at the same length
same_parts : {X : Type 0} (a x b y : List X) → a ++ x ≡ b ++ y → length a ≡ length b → a ≡ b
same_parts {X} a x b y all size =
    sym (take-append_seam a x) ∙ ap (λ (l : List X). take (length a) l) all ∙ ap (λ (n : ℕ). take n (b ++ y)) size ∙ take-append_seam b y

module _ (start : Start) (before passed others : List Entry) (done undone : List Deed) (left : List ℕ)
    (first : HasGroups (last_sum (sum_at start) before) passed done)
    (rest : HasGroups (last_sum (last_sum (sum_at start) before) passed) others undone) where
  abbrev groups : List (List Entry)
  groups = first.groups ++ rest.groups

  -- the groups of all
  all_kept : Keeps (last_sum (sum_at start) before) (done ++ undone) groups
  all_kept =
      keeps_then (last_sum (sum_at start) before) done undone first.groups rest.groups first.kept
      (subst (λ (es : List Entry). Keeps (last_sum (last_sum (sum_at start) before) es) undone rest.groups) (sym first.all) rest.kept)

  all_joined : joined groups ≡ passed ++ others
  all_joined =
      joined_then first.groups rest.groups ∙ ap (λ (es : List Entry). es ++ joined rest.groups) first.all
      ∙ ap (λ (es : List Entry). passed ++ es) rest.all

  module _ (k : HasKept start before groups done left) where
    whole_is : k.whole ≡ first.groups
    whole_is =
        same_parts k.whole k.rest first.groups rest.groups (sym k.groups_are)
        (keeps_long (last_sum (sum_at start) before) done k.whole k.done_is
        ∙ sym (keeps_long (last_sum (sum_at start) before) done first.groups first.kept))

    joined_whole : joined k.whole ≡ passed
    joined_whole = ap joined whole_is ∙ first.all

    parted_others : others ≡ k.first ++ k.others
    parted_others =
        append_cancel_left passed others (k.first ++ k.others)
        (sym all_joined ∙ k.all ∙ append_assoc (joined k.whole) k.first k.others
        ∙ ap (λ (es : List Entry). es ++ (k.first ++ k.others)) joined_whole)

    is_file : IsFileOf start (before ++ (passed ++ k.first)) left
    is_file =
        subst (λ (es : List Entry). IsFileOf start (before ++ (es ++ k.first)) left) joined_whole
        (record { behind = k.behind; parts = k.parts; tail = k.tail; journal = k.journal })

-- A crash left a journal of the entries before, of those that were kept whole, and of the first of the others; and from the world
-- that these bring about the lost ones bring about the world behind all of them.
pub record IsLeft (formats : List Format) (service : Service) (origin to : World) (start : Start) (before passed others : List Entry) (file : List ℕ)
    : Type 0 where
  pub found : List Entry
  pub lost : List Entry
  pub others_are : others ≡ found ++ lost
  pub is_file : IsFileOf start (before ++ (passed ++ found)) file
  pub world : World
  pub brings : Brings formats service origin (before ++ (passed ++ found)) world
  pub goes_on : Brings formats service world lost to

-- whenever a crash comes
pub left_so : (formats : List Format) (service : Service) (origin from to : World) (start : Start) (before passed others : List Entry) (deeds : List Deed)
    (left : List ℕ) → AllByRecursion Fits before → AllByRecursion Fits (passed ++ others) → Brings formats service origin before from
    → Brings formats service from (passed ++ others) to → (may : MayLeave deeds (file_of start before) left)
    → HasGroups (last_sum (sum_at start) before) passed may.done → HasGroups (last_sum (last_sum (sum_at start) before) passed) others may.undone
    → IsLeft formats service origin to start before passed others left
left_so formats service origin from to start before passed others deeds left fits fitting brings brought may first rest =
    let sum = last_sum (sum_at start) before in
    let gs : List (List Entry) = groups start before passed others may.done may.undone left first rest in
    let all : joined gs ≡ passed ++ others = all_joined start before passed others may.done may.undone left first rest in
    let keeps : Keeps sum deeds gs =
    subst (λ (ds : List Deed). Keeps sum ds gs) may.all (all_kept start before passed others may.done may.undone left first rest) in
    let r = restarts_go_on formats service origin to start before gs deeds left
    (fits_then before (joined gs) fits (subst (AllByRecursion Fits) (sym all) fitting))
    (brings_then formats service origin from to before (joined gs) brings
    (subst (λ (es : List Entry). Brings formats service from es to) (sym all) brought)) keeps may in
    record {
      found = r.kept.first;
      lost = r.kept.others;
      others_are = parted_others start before passed others may.done may.undone left first rest r.kept;
      is_file = is_file start before passed others may.done may.undone left first rest r.kept;
      world = r.world;
      brings = subst (λ (es : List Entry). Brings formats service origin (before ++ (es ++ r.kept.first)) r.world)
          (joined_whole start before passed others may.done may.undone left first rest r.kept) r.brings;
      goes_on = r.goes_on;
    }

-- so it is of links
pub links_survive : LinksSurvive
links_survive formats service origin start before from links exchanges to rest given deeds left fits brings answered are may =
    let sum = last_sum (sum_at start) before in
    let p : AreParted sum given exchanges may.done may.undone =
    kept_in_parts sum given exchanges may.done may.undone (subst (AreKept sum given exchanges) (sym may.all) are) in
    let all : entries_of exchanges ≡ entries_of p.first ++ entries_of p.others =
    ap (λ (xs : List Exchange). entries_of xs) p.all ∙ entries_then p.first p.others in
    let l = left_so formats service origin from.world to.world start before (entries_of p.first) (entries_of p.others) deeds left fits
    (subst (AllByRecursion Fits) all (answered_fit formats service from links exchanges to rest answered)) brings
    (subst (λ (es : List Entry). Brings formats service from.world es to.world) all
    (answered_bring formats service from links exchanges to rest answered)) may
    (pieces_are_groups sum given p.first may.done p.before)
    (pieces_are_groups (last_sum sum (entries_of p.first)) (given ++ backs_of p.first) p.others may.undone p.behind) in
    record {
      parts = p;
      found = l.found;
      lost = l.lost;
      others_are = l.others_are;
      is_file = l.is_file;
      world = l.world;
      brings = l.brings;
      goes_on = l.goes_on;
    }

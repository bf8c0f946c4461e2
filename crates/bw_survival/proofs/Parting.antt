-- The pieces that were kept are groups, and they are parted as the links are.
use Rattle.std.proofs.Common.{ℕ, List, [], ◌∷◌, ◌++◌, refl, sym, ap, ◌∙◌, subst, append-nil}
use Rattle.bw_journal.specs.Layout.{Entry, last_sum}
use Rattle.bw_out.specs.Doors.{Returned}
use Rattle.bw_stable.specs.Deeds.Deed.{cut, kept, moved}
use Rattle.bw_keeping.specs.Answered.{Exchange, backs_of, entries_of}
use Rattle.bw_keeping.specs.Kept.{AreKept}
use Rattle.bw_survival.specs.Laws.{KeptInParts, PiecesAreGroups}
use Rattle.bw_keeping.proofs.Pieces.{all_later, entries_later, given_later, sum_later}

-- the pieces are groups of what is kept of links
pub pieces_are_groups : PiecesAreGroups
pieces_are_groups sum given xs [] none = record { groups = []; kept = refl; all = sym none }
pieces_are_groups sum given xs (cut len ∷ deeds) (quiet, group, later, all, none, piece, more) = absurd piece
pieces_are_groups sum given xs (moved move ∷ deeds) (quiet, group, later, all, none, piece, more) = absurd piece
pieces_are_groups sum given xs (kept bytes returned unsent ∷ deeds) (quiet, group, later, all, none, piece, more) =
    let rec = pieces_are_groups (last_sum sum (entries_of group)) (given ++ backs_of (quiet ++ group)) later deeds more in
    record {
      groups = entries_of group ∷ rec.groups;
      kept = (piece.0, rec.kept);
      all = ap (λ (es : List Entry). entries_of group ++ es) rec.all ∙ sym (entries_later xs quiet group later all none);
    }

-- the pieces are parted, and so are the links
pub kept_in_parts : KeptInParts
kept_in_parts sum given xs [] undone are = record {
  first = [];
  others = xs;
  all = refl;
  before = refl;
  behind = subst (λ (bs : List Returned). AreKept sum bs xs undone) (sym (append-nil given)) are;
}
kept_in_parts sum given xs (deed ∷ done) undone (quiet, group, later, all, none, piece, more) =
    let p = kept_in_parts (last_sum sum (entries_of group)) (given ++ backs_of (quiet ++ group)) later done undone more in
    let first = quiet ++ (group ++ p.first) in
    record {
      first = first;
      others = p.others;
      all = all ∙ ap (λ (l : List Exchange). quiet ++ (group ++ l)) p.all ∙ sym (all_later first quiet group p.first p.others refl);
      before = (quiet, group, p.first, refl, none, piece, p.before);
      behind = subst (λ (n : ℕ). AreKept n (given ++ backs_of first) p.others undone) (sym (sum_later sum first quiet group p.first refl none))
          (subst (λ (bs : List Returned). AreKept (last_sum (last_sum sum (entries_of group)) (entries_of p.first)) bs p.others undone)
          (sym (given_later given first quiet group p.first refl)) p.behind);
    }

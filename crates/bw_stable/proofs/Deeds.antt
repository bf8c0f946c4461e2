-- What deeds make of a file, in parts.
use Rattle.std.proofs.Common.{◌≡◌, ◌+◌, ℕ, List, [], ◌∷◌, ◌++◌, length, refl, sym, inl, arith}
use Rattle.std.proofs.lemmas.List.{append-nil, take_all}
use Rattle.bw_stable.specs.Deeds.{Deed, Folder, cut, kept, moved, alone, after_deed, after_deeds, MayStop}
use Rattle.bw_stable.specs.Replacing.{pieces}

-- deeds, and then more
pub after_both : (first more : List Deed) (folder : Folder) → after_deeds (first ++ more) folder ≡ after_deeds more (after_deeds first folder)
after_both [] more folder = refl
after_both (deed ∷ first) more folder = after_both first more (after_deed deed folder)

pub pieces_both : (first more : List Deed) → pieces (first ++ more) ≡ pieces first + pieces more
pieces_both [] more = omega arith
pieces_both (cut len ∷ first) more = pieces_both first more
pieces_both (kept bytes returned held ∷ first) more = omega (arith, pieces_both first more)
pieces_both (moved move ∷ first) more = pieces_both first more

-- nothing of the next deed was done to a file that is alone
pub at_rest : (deeds : List Deed) (file : List ℕ) → MayStop deeds (alone file) file
at_rest [] file = refl
at_rest (cut len ∷ deeds) file = (len + length file, omega arith, sym (take_all (len + length file) file (omega arith)))
at_rest (kept bytes returned held ∷ deeds) file = ([], bytes, refl, sym (append-nil file))
at_rest (moved move ∷ deeds) file = inl refl

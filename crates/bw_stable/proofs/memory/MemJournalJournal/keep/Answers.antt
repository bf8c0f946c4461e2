use Rattle.std.proofs.Common.{[], ◌++◌}
use contract.BorrowLft.{⊑_meet, ⊑_static}
use Rattle.bw_stable.proofs.memory.MemJournalJournal.keep.Goals as goal

-- what is lent to the log outlives the call
pub and-self-inside-requires : goal.and-self-inside-requires
and-self-inside-requires g c κs within =
    let κ = κs.1.1.0 in
    let door = κs.1.1.1.0 ++ g.row.D.lives in
    let channel = κs.1.1.1.1.0 ++ g.row.C.lives in
    let bytes = (κs.1.1.1.1.1.0 ++ []) ++ [] in
    let of_door = ⊑_meet κ κs.1.1.1.0 g.row.D.lives within.0.0 within.1.0 in
    let of_channel = ⊑_meet κ κs.1.1.1.1.0 g.row.C.lives within.0.1.0 within.1.1.0 in
    let of_bytes =
    ⊑_meet κ (κs.1.1.1.1.1.0 ++ []) [] (⊑_meet κ κs.1.1.1.1.1.0 [] within.0.1.1.0 (⊑_static κ)) (⊑_static κ) in
    let of_all = ⊑_meet κ door (channel ++ bytes) of_door (⊑_meet κ channel bytes of_channel of_bytes) in
    ⊑_meet κ (door ++ (channel ++ bytes)) (door ++ (channel ++ bytes)) of_all of_all

-- How the logic stores deeds.
use Rattle.std.specs.Prelude.{◌≡◌, ℕ, zero, suc, List, [], None, Some, refl}
use Rattle.std.specs.declared.option.Option.{Option}
use Rattle.std.specs.Coded.{Coded, code_by, coded×, coded_ℕ, coded_list, coded_option}
use Rattle.bw_out.specs.Doors.{Returned}
use Rattle.bw_stable.specs.Deeds.{Deed, Move, cut, kept, moved, wrote, settled, renamed, named}

-- the parts of a link that was given back
abbrev pub LinkParts : Type 0
LinkParts = Option (List ℕ) × (Option (List ℕ) × (ℕ × ℕ))

-- a link as its parts
abbrev pub link_parts : Returned → LinkParts
link_parts link = (link.unread, (link.written, (link.read_faults, link.write_faults)))

-- a link from its parts
abbrev pub link_of : LinkParts → Returned
link_of p = record { unread = p.0; written = p.1.0; read_faults = p.1.1.0; write_faults = p.1.1.1 }

-- the parts make the same link again
pub links_stay : (link : Returned) → link_of (link_parts link) ≡ link
links_stay link = refl

-- how a link is stored
abbrev pub coded_link : Coded Returned
coded_link = code_by LinkParts
    (coded× (coded_option (coded_list coded_ℕ)) (coded× (coded_option (coded_list coded_ℕ)) (coded× coded_ℕ coded_ℕ))) link_parts link_of links_stay

-- the parts of a step: the bytes that were written, or a number
abbrev pub MoveParts : Type 0
MoveParts = Option (List ℕ) × ℕ

-- a step as its parts
abbrev pub move_parts : Move → MoveParts
move_parts (wrote bytes) = (Some bytes, 0)
move_parts settled = (None, 0)
move_parts renamed = (None, 1)
move_parts named = (None, 2)

-- a step of which no bytes are told, by its number
abbrev pub move_numbered : ℕ → Move
move_numbered zero = settled
move_numbered (suc zero) = renamed
move_numbered (suc (suc n)) = named

-- a step, where it is known whether bytes were written
abbrev pub move_by : Option (List ℕ) → ℕ → Move
move_by (Some bytes) n = wrote bytes
move_by None n = move_numbered n

-- a step from its parts
abbrev pub move_of : MoveParts → Move
move_of p = move_by p.0 p.1

-- the parts make the same step again
pub moves_stay : (move : Move) → move_of (move_parts move) ≡ move
moves_stay (wrote bytes) = refl
moves_stay settled = refl
moves_stay renamed = refl
moves_stay named = refl

-- how steps are stored
abbrev pub coded_move : Coded Move
coded_move = code_by MoveParts (coded× (coded_option (coded_list coded_ℕ)) coded_ℕ) move_parts move_of moves_stay

-- the parts of a deed: the length of a cut, or a step, or what was kept
abbrev pub DeedParts : Type 0
DeedParts = Option ℕ × (Option Move × (List ℕ × (Option (List Returned) × Option (List ℕ))))

-- a deed as its parts
abbrev pub deed_parts : Deed → DeedParts
deed_parts (cut len) = (Some len, (None, ([], (None, None))))
deed_parts (kept bytes returned held) = (None, (None, (bytes, (returned, held))))
deed_parts (moved move) = (None, (Some move, ([], (None, None))))

-- a deed, where it is known whether the file was cut or there was a step
abbrev pub deed_by : Option ℕ → Option Move → List ℕ → Option (List Returned) → Option (List ℕ) → Deed
deed_by (Some len) move bytes returned held = cut len
deed_by None (Some move) bytes returned held = moved move
deed_by None None bytes returned held = kept bytes returned held

-- a deed from its parts
abbrev pub deed_of : DeedParts → Deed
deed_of p = deed_by p.0 p.1.0 p.1.1.0 p.1.1.1.0 p.1.1.1.1

-- the parts make the same deed again
pub deeds_stay : (deed : Deed) → deed_of (deed_parts deed) ≡ deed
deeds_stay (cut len) = refl
deeds_stay (kept bytes returned held) = refl
deeds_stay (moved move) = refl

-- how deeds are stored
abbrev pub coded_deeds : Coded (List Deed)
coded_deeds =
    coded_list (code_by DeedParts (coded× (coded_option coded_ℕ) (coded× (coded_option coded_move)
    (coded× (coded_list coded_ℕ) (coded× (coded_option (coded_list coded_link)) (coded_option (coded_list coded_ℕ))))))
    deed_parts deed_of deeds_stay)

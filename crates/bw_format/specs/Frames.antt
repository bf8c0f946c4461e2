-- Reading the pieces of a pattern.
use Rattle.std.specs.Prelude.{List, [], ◌∷◌, length, cond, nat_le, Some, None}
use Rattle.std.specs.declared.option.Option.{Option}
use Rattle.bw_format.specs.declared.pattern.Class.{Class}
use Rattle.bw_format.specs.declared.frame.Frame.{Frame}
use Rattle.bw_format.specs.declared.frame.Groups.{Groups}
use Rattle.bw_format.specs.declared.frame.Times.{Times}
use Rattle.bw_format.specs.declared.frame.Times.TheVariants as time
use Rattle.bw_format.specs.Pattern.{Pattern, nothing, one, sequence, either, star, plus, optional, group}
use Rattle.bw_format.specs.declared.limits.TheConstants.{MAX_GROUPS}

abbrev pub times : Times → Pattern → Pattern
times time.Star p = star p
times time.Plus p = plus p
times time.Optional p = optional p

-- the sequence with its last piece
abbrev pub full_row : Pattern → Option Pattern → Pattern
full_row row None = row
full_row row (Some piece) = sequence row piece

-- what is read, behind the alternatives in front of it
abbrev pub behind : Option Pattern → Pattern → Pattern
behind None row = row
behind (Some earlier) row = either earlier row

-- all that is read of a group
abbrev pub whole : Frame → Pattern
whole f = behind f.earlier (full_row f.row f.last)

-- nothing is read behind these alternatives
abbrev pub fresh : Option Pattern → Frame
fresh earlier = record { earlier = earlier; row = nothing; last = None }

abbrev pub with_atom : Frame → Pattern → Frame
with_atom f atom = record { earlier = f.earlier; row = full_row f.row f.last; last = Some atom }

abbrev pub with_repeated : Times → Frame → Option Pattern → Option Frame
with_repeated t f None = None
with_repeated t f (Some atom) = Some (record { earlier = f.earlier; row = sequence f.row (times t atom); last = None })

abbrev pub repeated : Times → Frame → Option Frame
repeated t f = with_repeated t f f.last

abbrev pub barred : Frame → Frame
barred f = fresh (Some (whole f))

abbrev pub start : Groups
start = record { outer = []; frame = fresh None }

abbrev pub with_class : Groups → Class → Groups
with_class g class = record { outer = g.outer; frame = with_atom g.frame (one class) }

abbrev pub in_groups : List Frame → Option Frame → Option Groups
in_groups outer None = None
in_groups outer (Some frame) = Some (record { outer = outer; frame = frame })

abbrev pub groups_repeated : Times → Groups → Option Groups
groups_repeated t g = in_groups g.outer (repeated t g.frame)

abbrev pub groups_barred : Groups → Groups
groups_barred g = record { outer = g.outer; frame = barred g.frame }

-- at most 16 groups are open
abbrev pub opened : Groups → Option Groups
opened g = cond (nat_le MAX_GROUPS (length g.outer)) None (Some (record { outer = g.frame ∷ g.outer; frame = fresh None }))

abbrev pub closed_in : List Frame → Frame → Option Groups
closed_in [] frame = None
closed_in (f ∷ outer) frame = Some (record { outer = outer; frame = with_atom f (group (whole frame)) })

abbrev pub closed : Groups → Option Groups
closed g = closed_in g.outer g.frame

abbrev pub finished_in : List Frame → Frame → Option Pattern
finished_in [] frame = Some (whole frame)
finished_in (f ∷ outer) frame = None

abbrev pub finished : Groups → Option Pattern
finished g = finished_in g.outer g.frame

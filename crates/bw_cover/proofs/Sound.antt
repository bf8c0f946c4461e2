-- The laws, from the layout of the tree's own points.
use Rattle.bw_meaning.specs.GoOn.{body_of}
use Rattle.bw_lang.specs.Service.Numbers.{first_number}
use Rattle.bw_cover.specs.Spots.{out, starts}
use Rattle.bw_cover.specs.Sound.{TurnIsCovered, GoingOnIsCovered, TurnPlugsAreOpen, GoingOnPlugsAreOpen}
use Rattle.bw_cover.proofs.Laying.{laid_session}
use Rattle.bw_cover.proofs.Turns.{laid_turn, laid_go_on}

pub turn_is_covered : TurnIsCovered
turn_is_covered service f session first inputs a c i =
    (laid_turn service f session (starts (body_of service session) (first_number service session) out) out first inputs
    (laid_session service f session a.solves a.gaps a.kinded) c i).0

pub turn_plugs_are_open : TurnPlugsAreOpen
turn_plugs_are_open service f session first inputs a c i =
    (laid_turn service f session (starts (body_of service session) (first_number service session) out) out first inputs
    (laid_session service f session a.solves a.gaps a.kinded) c i).1

pub going_on_is_covered : GoingOnIsCovered
going_on_is_covered service f session w a c =
    (laid_go_on service f session (starts (body_of service session) (first_number service session) out) out w
    (laid_session service f session a.solves a.gaps a.kinded) c.locals c.shared c.later).0

pub going_on_plugs_are_open : GoingOnPlugsAreOpen
going_on_plugs_are_open service f session w a c =
    (laid_go_on service f session (starts (body_of service session) (first_number service session) out) out w
    (laid_session service f session a.solves a.gaps a.kinded) c.locals c.shared c.later).1

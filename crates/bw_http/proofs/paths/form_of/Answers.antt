use Rattle.std.proofs.Common.{◌≢◌, ℕ, List, codes, rules}
use Rattle.bw_http.specs.declared.request.Path.{Path}
use Rattle.bw_http.specs.declared.request.Path.TheVariants.{Index, Start, Turn, Other}
use Rattle.bw_http.specs.Paths.{IsForm, SpellsNoName, SpellsNoTurn, spelling}
use Rattle.bw_http.proofs.paths.form_of.Goals as goal

other : (path : List ℕ) → path ≢ codes "/" → SpellsNoTurn path → SpellsNoName path → (p : Path) → IsForm p → path ≢ spelling p
other path root turn name Index form = root
other path root turn name (Start word) form = name word form
other path root turn name (Turn n k t) form = turn n k t form
other path root turn name Other form = absurd form

pub returns-in-None : goal.returns-in-None
returns-in-None c =
    let root : c.args.path.now ≢ codes "/" = search rules in
    other c.args.path.now root c.in_default.ensures c.in-None.ensures

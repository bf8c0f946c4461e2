-- A service that was read has few points.
use Rattle.std.proofs.Common.{◌≡◌, ℕ, ◌+◌, ◌≤◌, List, [], ◌∷◌, length, refl, ap, arith}
use Rattle.std.specs.Prelude.{codes, sum_by}
use Rattle.std.proofs.lemmas.List.Sums.{sum_by-cons}
use Rattle.bw_lang.specs.declared.declaration.Declaration.{Declaration}
use Rattle.bw_lang.specs.declared.declaration.Declaration.TheVariants as declarations
use Rattle.bw_lang.specs.declared.declaration.Draft.TheVariants as drafts
use Rattle.bw_lang.specs.declared.declaration.Written.{Written}
use Rattle.bw_lang.specs.declared.declaration.Written.TheVariants as written
use Rattle.bw_lang.specs.declared.service.Session.{Session}
use Rattle.bw_lang.specs.declared.token.Lexeme.{Lexeme}
use Rattle.bw_lang.specs.declared.token.Lexeme.TheVariants as lex
use Rattle.bw_lang.specs.Service.Code.{Code, done, declare, assign, if_then, if_else, while_loop, for_each, block, show, exit}
use Rattle.bw_lang.specs.Service.Drafts.{spell_literal}
use Rattle.bw_lang.specs.Service.Order.{declarations_of}
use Rattle.bw_lang.specs.Service.Sorted.{sessions_of}
use Rattle.bw_lang.specs.Text.Spelling.{spell_code, spell_receives}
use Rattle.bw_lang.proofs.Small.{readable_is_woven}
use Rattle.bw_typed.specs.Few.{IsWithinTokens}
use Rattle.bw_typed.proofs.Few.{behind_term, behind_receives, declares_few}
use Rattle.bw_flow.specs.Layout.{count, points}
use Rattle.bw_flow.specs.Laws.{PointsAreFew}

-- statements have at least as many tokens as points
code_few : (c : Code) (k : List Lexeme) → count c + length k ≤ length (spell_code c k)
code_few done k = omega arith
code_few (declare t w e c) k = let rest = spell_code c k in omega (arith, behind_term e (lex.Sign (codes ";") ∷ rest), code_few c k)
code_few (assign w e c) k = let rest = spell_code c k in omega (arith, behind_term e (lex.Sign (codes ";") ∷ rest), code_few c k)
code_few (if_then t y c) k =
    let last = lex.Sign (codes "}") ∷ spell_code c k in
    omega (arith, behind_term t (lex.Sign (codes ")") ∷ (lex.Sign (codes "{") ∷ spell_code y last)), code_few y last, code_few c k)
code_few (if_else t y n c) k =
    let last = lex.Sign (codes "}") ∷ spell_code c k in
    let other = lex.Sign (codes "}") ∷ (lex.Word (codes "else") ∷ (lex.Sign (codes "{") ∷ spell_code n last)) in
    omega (
      arith,
      behind_term t (lex.Sign (codes ")") ∷ (lex.Sign (codes "{") ∷ spell_code y other)),
      code_few y other,
      code_few n last,
      code_few c k,
    )
code_few (while_loop t b c) k =
    let last = lex.Sign (codes "}") ∷ spell_code c k in
    omega (arith, behind_term t (lex.Sign (codes ")") ∷ (lex.Sign (codes "{") ∷ spell_code b last)), code_few b last, code_few c k)
code_few (block b c) k = let last = lex.Sign (codes "}") ∷ spell_code c k in omega (arith, code_few b last, code_few c k)
code_few (for_each w e b c) k =
    let last = lex.Sign (codes "}") ∷ spell_code c k in
    omega (arith, behind_term e (lex.Sign (codes ")") ∷ (lex.Sign (codes "{") ∷ spell_code b last)), code_few b last, code_few c k)
code_few (show p rs c) k =
    let last = lex.Sign (codes ";") ∷ spell_code c k in omega (arith, behind_term p (spell_receives rs last), behind_receives rs last, code_few c k)
code_few (exit p c) k = omega (arith, behind_term p (lex.Sign (codes ";") ∷ spell_code c k), code_few c k)

-- so does what follows a literal
behind_literal : (w : Written) (k : List Lexeme) → length k ≤ length (spell_literal w k)
behind_literal (written.Plus n) k = omega arith
behind_literal (written.Minus n) k = omega arith
behind_literal (written.Bool b) k = omega arith
behind_literal (written.Str s) k = omega arith
behind_literal (written.Name w) k = omega arith

-- the points of a declaration
abbrev own_points : Declaration → ℕ
own_points (declarations.Template t) = 0
own_points (declarations.Shared v) = 0
own_points (declarations.Session s) = count s.body

within : IsWithinTokens own_points
within before (drafts.Template n i) (declarations.Template t) after k r = omega arith
within before (drafts.Shared kind n i) (declarations.Shared v) after k r = omega (arith, behind_literal i (lex.Sign (codes ";") ∷ k))
within before (drafts.Session s) (declarations.Session t) after k r =
    omega (arith, ap (λ (x : Session). count x.body) r.0, code_few s.body (lex.Sign (codes "}") ∷ k))
within before draft d after k r = absurd r

all_points : (ds : List Declaration) → points (sessions_of ds) ≡ sum_by own_points ds
all_points [] = refl
all_points (declarations.Template t ∷ ds) = omega (arith, all_points ds, sum_by-cons own_points (declarations.Template t) ds)
all_points (declarations.Shared v ∷ ds) = omega (arith, all_points ds, sum_by-cons own_points (declarations.Shared v) ds)
all_points (declarations.Session s ∷ ds) = omega (arith, all_points ds, sum_by-cons own_points (declarations.Session s) ds)

pub points_are_few : PointsAreFew
points_are_few service h =
    let ds = declarations_of service in
    omega (arith, ap points (readable_is_woven service h).sessions, all_points ds, declares_few own_points within service h)

-- The points other than joins are the statements in source order.
use Rattle.std.proofs.Common.{◌≡◌, ℕ, ◌+◌, List, [], ◌∷◌, ◌++◌, map, refl, ap, sym, ◌∙◌}
use Rattle.std.proofs.lemmas.List.{map-append, append_assoc}
use Rattle.bw_lang.specs.declared.declaration.Declaration.{Declaration}
use Rattle.bw_lang.specs.declared.declaration.Declaration.TheVariants as declarations
use Rattle.bw_lang.specs.declared.declaration.Draft.{Draft}
use Rattle.bw_lang.specs.declared.declaration.Draft.TheVariants as drafts
use Rattle.bw_lang.specs.declared.service.Service.{Service}
use Rattle.bw_lang.specs.declared.service.Session.{Session}
use Rattle.bw_lang.specs.declared.stmt.Kind.TheVariants as kinds
use Rattle.bw_lang.specs.declared.stmt.Receive.{Receive}
use Rattle.bw_lang.specs.Service.Code.{Code, done, declare, assign, if_then, if_else, while_loop, for_each, block, show, exit, numbered}
use Rattle.bw_lang.specs.Service.Reads.{Reads, AreRead, IsRead}
use Rattle.bw_lang.specs.Service.Sorted.{sessions_of}
use Rattle.bw_flow.specs.declared.point.Local.{Local}
use Rattle.bw_flow.specs.Layout.{count, enter, step, steps, points, receives, session_steps, plan_of}
use Rattle.bw_flow.specs.Scopes.{with_local}
use Rattle.bw_flow.specs.Steps.{joins, Step}
use Rattle.bw_places.specs.Heads.{Head, heads, heads_in, heads_of}
use Rattle.bw_places.specs.Parts.{Part, part_of, part_at, parts_at, value, test, each, page, last_page, StatementsAreParts}

parts_of_both : (xs ys : List Step) → parts_at (xs ++ ys) ≡ parts_at xs ++ parts_at ys
parts_of_both [] ys = refl
parts_of_both (x ∷ xs) ys = ap (λ l. part_at x.act ++ l) (parts_of_both xs ys) ∙ sym (append_assoc (part_at x.act) (parts_at xs) (parts_at ys))

-- two runs of points, and the statements that they stand for
both : (xs ys : List Step) (hs is : List Head) → parts_at xs ≡ map part_of hs → parts_at ys ≡ map part_of is
    → parts_at (xs ++ ys) ≡ map part_of (hs ++ is)
both xs ys hs is e f = parts_of_both xs ys ∙ ap (λ l. l ++ parts_at ys) e ∙ ap (λ l. map part_of hs ++ l) f ∙ sym (map-append part_of hs is)

fields_alike : (service : Service) (scope : List Local) (rs : List Receive)
    → map {B = List ℕ × List ℕ} (λ r. (r.target, r.field)) (receives service scope rs) ≡ map {B = List ℕ × List ℕ} (λ r. (r.target, r.field)) rs
fields_alike service scope [] = refl
fields_alike service scope (r ∷ rs) = ap (λ l. (r.target, r.field) ∷ l) (fields_alike service scope rs)

pub of_code : (service : Service) (c : Code) (n : ℕ) (sc : List Local) (d p q : ℕ) → parts_at (steps service c n sc d p q) ≡ map part_of (heads c)
of_code service done n sc d p q = refl
of_code service (declare k w e rest) n sc d p q = ap (λ l. value w e ∷ l) (of_code service rest (n + 1) (with_local sc w k) d (p + 1) q)
of_code service (assign w e rest) n sc d p q = ap (λ l. value w e ∷ l) (of_code service rest (n + 1) sc d (p + 1) q)
of_code service (if_then e y rest) n sc d p q =
    let join = p + 1 + count y in
    ap (λ l. test e ∷ l) (both (steps service y (n + 1) sc d (p + 1) join)
    (step n sc d joins (enter rest (join + 1) q ∷ []) ∷ steps service rest (n + 1 + numbered y) sc d (join + 1) q) (heads y) (heads rest)
    (of_code service y (n + 1) sc d (p + 1) join) (of_code service rest (n + 1 + numbered y) sc d (join + 1) q))
of_code service (if_else e y o rest) n sc d p q =
    let other = p + 1 + count y in
    let join = other + count o in
    ap (λ l. test e ∷ l) (both (steps service y (n + 1) sc d (p + 1) join)
    (steps service o (n + 1 + numbered y) sc d other join
    ++ (step n sc d joins (enter rest (join + 1) q ∷ []) ∷ steps service rest (n + 1 + numbered y + numbered o) sc d (join + 1) q))
    (heads y) (heads o ++ heads rest) (of_code service y (n + 1) sc d (p + 1) join)
    (both (steps service o (n + 1 + numbered y) sc d other join)
    (step n sc d joins (enter rest (join + 1) q ∷ []) ∷ steps service rest (n + 1 + numbered y + numbered o) sc d (join + 1) q) (heads o) (heads rest)
    (of_code service o (n + 1 + numbered y) sc d other join) (of_code service rest (n + 1 + numbered y + numbered o) sc d (join + 1) q)))
of_code service (while_loop e b rest) n sc d p q =
    let behind = p + 1 + count b in
    ap (λ l. test e ∷ l) (both (steps service b (n + 1) sc d (p + 1) p) (steps service rest (n + 1 + numbered b) sc d behind q) (heads b) (heads rest)
    (of_code service b (n + 1) sc d (p + 1) p) (of_code service rest (n + 1 + numbered b) sc d behind q))
of_code service (for_each w e b rest) n sc d p q =
    let behind = p + 1 + count b in
    let inner = with_local sc w kinds.Str in
    ap (λ l. each w e ∷ l) (both (steps service b (n + 1) inner (d + 1) (p + 1) p) (steps service rest (n + 1 + numbered b) sc d behind q) (heads b)
    (heads rest)
    (of_code service b (n + 1) inner (d + 1) (p + 1) p) (of_code service rest (n + 1 + numbered b) sc d behind q))
of_code service (block b rest) n sc d p q =
    both (steps service b n sc d p (enter rest (p + count b) q)) (steps service rest (n + numbered b) sc d (p + count b) q) (heads b) (heads rest)
    (of_code service b n sc d p (enter rest (p + count b) q)) (of_code service rest (n + numbered b) sc d (p + count b) q)
of_code service (show e rs rest) n sc d p q =
    ap (λ l. page e l ∷ parts_at (steps service rest (n + 1) sc d (p + 1) q)) (fields_alike service sc rs)
    ∙ ap (λ l. page e (map {B = List ℕ × List ℕ} (λ r. (r.target, r.field)) rs) ∷ l) (of_code service rest (n + 1) sc d (p + 1) q)
of_code service (exit e rest) n sc d p q = ap (λ l. last_page e ∷ l) (of_code service rest (n + 1) sc d (p + 1) q)

-- the statements of sessions
abbrev session_heads : List Session → List Head
session_heads [] = []
session_heads (s ∷ ss) = heads s.body ++ session_heads ss

of_sessions : (service : Service) (ss : List Session) (n p out : ℕ) → parts_at (session_steps service ss n p out) ≡ map part_of (session_heads ss)
of_sessions service [] n p out = refl
of_sessions service (s ∷ ss) n p out =
    both (steps service s.body n [] 0 p out) (session_steps service ss (n + numbered s.body) (p + count s.body) out) (heads s.body) (session_heads ss)
    (of_code service s.body n [] 0 p out) (of_sessions service ss (n + numbered s.body) (p + count s.body) out)

-- what is read has the statements that are drafted
of_drafts : (before after : List (List ℕ)) (ds : List Draft) (xs : List Declaration) → AreRead before ds xs after → session_heads (sessions_of xs) ≡ heads_of ds
of_drafts before after [] [] r = refl
of_drafts before after (drafts.Template w inside ∷ ds) (declarations.Template t ∷ xs) (next, one, r) = of_drafts next after ds xs r
of_drafts before after (drafts.Shared kind w init ∷ ds) (declarations.Shared v ∷ xs) (next, one, r) = of_drafts next after ds xs r
of_drafts before after (drafts.Session s ∷ ds) (declarations.Session t ∷ xs) (next, one, r) =
    ap (λ (y : Session). heads y.body ++ session_heads (sessions_of xs)) one.0 ∙ ap (λ l. heads s.body ++ l) (of_drafts next after ds xs r)
of_drafts before after [] (x ∷ xs) r = absurd r
of_drafts before after (d ∷ ds) [] r = absurd (nothing_read before after d ds r)
  where
    nothing_read : (before after : List (List ℕ)) (d : Draft) (ds : List Draft) → AreRead before (d ∷ ds) [] after → ⊥
    nothing_read before after d ds r = r
of_drafts before after (drafts.Template w inside ∷ ds) (declarations.Shared v ∷ xs) (next, one, r) = absurd one
of_drafts before after (drafts.Template w inside ∷ ds) (declarations.Session t ∷ xs) (next, one, r) = absurd one
of_drafts before after (drafts.Shared kind w init ∷ ds) (declarations.Template t ∷ xs) (next, one, r) = absurd one
of_drafts before after (drafts.Shared kind w init ∷ ds) (declarations.Session t ∷ xs) (next, one, r) = absurd one
of_drafts before after (drafts.Session s ∷ ds) (declarations.Template t ∷ xs) (next, one, r) = absurd one
of_drafts before after (drafts.Session s ∷ ds) (declarations.Shared v ∷ xs) (next, one, r) = absurd one

pub statements_are_parts : StatementsAreParts
statements_are_parts bytes service r =
    of_sessions service service.sessions 1 0 (points service.sessions)
    ∙ ap (λ (x : Service). map part_of (session_heads x.sessions)) r.whole
    ∙ ap (map part_of) (of_drafts [] service.gaps r.drafts r.declarations r.read)

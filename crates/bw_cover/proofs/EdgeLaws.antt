-- The edges lead where the points of the flow lead: by induction on the statements.
use Rattle.std.proofs.Common.{◌≡◌, ℕ, ◌+◌, List, [], ◌∷◌, ◌++◌, Option, Some, None, refl, sym, ap, ◌∙◌, append_assoc}
use Rattle.bw_lang.specs.declared.service.Session.{Session}
use Rattle.bw_lang.specs.Service.Code.{Code, done, declare, assign, if_then, if_else, while_loop, block, for_each, show, exit, numbered}
use Rattle.bw_flow.specs.Leads as leads
use Rattle.bw_flow.proofs.Leads.{leads_agree}
use Rattle.bw_cover.specs.EdgeLaws.{point_of, between, ends, EdgesAreLeads, EdgesAreNexts}
use Rattle.bw_cover.specs.Facts.{keeps, Edge, edge}
use Rattle.bw_cover.specs.Least.{service_edges}
use Rattle.bw_cover.specs.Spots.{Spot, statement, meeting, out, starts, edges}

starts_are : (c : Code) (n : ℕ) (q : Spot) → point_of (starts c n q) ≡ leads.starts c n (point_of q)
starts_are done n q = refl
starts_are (declare kind w e rest) n q = refl
starts_are (assign w e rest) n q = refl
starts_are (if_then t y rest) n q = refl
starts_are (if_else t y z rest) n q = refl
starts_are (while_loop t b rest) n q = refl
starts_are (block b rest) n q = starts_are b n (starts rest (n + numbered b) q) ∙ ap (leads.starts b n) (starts_are rest (n + numbered b) q)
starts_are (for_each w e b rest) n q = refl
starts_are (show p rs rest) n q = refl
starts_are (exit p rest) n q = refl

abbrev Pairs : Type 0
Pairs = List (leads.Spot × leads.Spot)

ends_append : (a b : List (Edge Spot)) → ends (a ++ b) ≡ ends a ++ ends b
ends_append [] b = refl
ends_append (e ∷ a) b =
    let own : Pairs = between (point_of e.from) (point_of e.to) in
    ap (λ x. own ++ x) (ends_append a b) ∙ sym (append_assoc own (ends a) (ends b))

both : (a b c d : Pairs) → a ≡ c → b ≡ d → a ++ b ≡ c ++ d
both a b c d e i = ap (λ x. x ++ b) e ∙ ap (λ x. c ++ x) i

-- one that leads to a point, and two of one point
one : (s : leads.Spot) (p q : Option leads.Spot) (a b : Pairs) → p ≡ q → a ≡ b → leads.from s p ++ a ≡ leads.from s q ++ b
one s p q a b e i = both (leads.from s p) a (leads.from s q) b (ap (leads.from s) e) i

two : (s : leads.Spot) (p q p1 q1 : Option leads.Spot) (a b : Pairs) → p ≡ q → p1 ≡ q1 → a ≡ b →
    leads.from s p ++ (leads.from s p1 ++ a) ≡ (leads.from s q ++ leads.from s q1) ++ b
two s p q p1 q1 a b e f i =
    one s p q (leads.from s p1 ++ a) (leads.from s q1 ++ b) e (one s p1 q1 a b f i) ∙ sym (append_assoc (leads.from s q) (leads.from s q1) b)

parts : (a b : List (Edge Spot)) (x y : Pairs) → ends a ≡ x → ends b ≡ y → ends (a ++ b) ≡ x ++ y
parts a b x y e i = ends_append a b ∙ both (ends a) (ends b) x y e i

edges_are : (c : Code) (n : ℕ) (q : Spot) → ends (edges c n q) ≡ leads.leads c n (point_of q)
edges_are done n q = refl
edges_are (declare kind w e rest) n q =
    one (leads.statement n) (point_of (starts rest (n + 1) q)) (leads.starts rest (n + 1) (point_of q)) (ends (edges rest (n + 1) q))
    (leads.leads rest (n + 1) (point_of q)) (starts_are rest (n + 1) q) (edges_are rest (n + 1) q)
edges_are (assign w e rest) n q =
    one (leads.statement n) (point_of (starts rest (n + 1) q)) (leads.starts rest (n + 1) (point_of q)) (ends (edges rest (n + 1) q))
    (leads.leads rest (n + 1) (point_of q)) (starts_are rest (n + 1) q) (edges_are rest (n + 1) q)
edges_are (if_then t y rest) n q =
    let m = n + 1 + numbered y in
    let join = Some (leads.meeting n) in
    let behind = leads.from (leads.meeting n) (leads.starts rest m (point_of q)) ++ leads.leads rest m (point_of q) in
    two (leads.statement n) (point_of (starts y (n + 1) (meeting n))) (leads.starts y (n + 1) join) join join
    (ends (edges y (n + 1) (meeting n) ++ edge (meeting n) keeps (starts rest m q) ∷ edges rest m q))
    (leads.leads y (n + 1) join ++ behind) (starts_are y (n + 1) (meeting n)) refl
    (parts (edges y (n + 1) (meeting n)) (edge (meeting n) keeps (starts rest m q) ∷ edges rest m q) (leads.leads y (n + 1) join) behind
    (edges_are y (n + 1) (meeting n))
    (one (leads.meeting n) (point_of (starts rest m q)) (leads.starts rest m (point_of q)) (ends (edges rest m q)) (leads.leads rest m (point_of q))
    (starts_are rest m q) (edges_are rest m q)))
edges_are (if_else t y z rest) n q =
    let j = n + 1 + numbered y in
    let m = j + numbered z in
    let join = Some (leads.meeting n) in
    let behind = leads.from (leads.meeting n) (leads.starts rest m (point_of q)) ++ leads.leads rest m (point_of q) in
    two (leads.statement n) (point_of (starts y (n + 1) (meeting n))) (leads.starts y (n + 1) join) (point_of (starts z j (meeting n)))
    (leads.starts z j join)
    (ends (edges y (n + 1) (meeting n) ++ (edges z j (meeting n) ++ edge (meeting n) keeps (starts rest m q) ∷ edges rest m q)))
    (leads.leads y (n + 1) join ++ (leads.leads z j join ++ behind))
    (starts_are y (n + 1) (meeting n)) (starts_are z j (meeting n))
    (parts (edges y (n + 1) (meeting n)) (edges z j (meeting n) ++ edge (meeting n) keeps (starts rest m q) ∷ edges rest m q) (leads.leads y (n + 1) join)
    (leads.leads z j join ++ behind) (edges_are y (n + 1) (meeting n))
    (parts (edges z j (meeting n)) (edge (meeting n) keeps (starts rest m q) ∷ edges rest m q) (leads.leads z j join) behind (edges_are z j (meeting n))
    (one (leads.meeting n) (point_of (starts rest m q)) (leads.starts rest m (point_of q)) (ends (edges rest m q)) (leads.leads rest m (point_of q))
    (starts_are rest m q) (edges_are rest m q))))
edges_are (while_loop t b rest) n q =
    let m = n + 1 + numbered b in
    let head = Some (leads.statement n) in
    two (leads.statement n) (point_of (starts b (n + 1) (statement n))) (leads.starts b (n + 1) head) (point_of (starts rest m q))
    (leads.starts rest m (point_of q)) (ends (edges b (n + 1) (statement n) ++ edges rest m q))
    (leads.leads b (n + 1) head ++ leads.leads rest m (point_of q)) (starts_are b (n + 1) (statement n)) (starts_are rest m q)
    (parts (edges b (n + 1) (statement n)) (edges rest m q) (leads.leads b (n + 1) head) (leads.leads rest m (point_of q))
    (edges_are b (n + 1) (statement n)) (edges_are rest m q))
edges_are (for_each w e b rest) n q =
    let m = n + 1 + numbered b in
    let head = Some (leads.statement n) in
    two (leads.statement n) (point_of (starts b (n + 1) (statement n))) (leads.starts b (n + 1) head) (point_of (starts rest m q))
    (leads.starts rest m (point_of q)) (ends (edges b (n + 1) (statement n) ++ edges rest m q))
    (leads.leads b (n + 1) head ++ leads.leads rest m (point_of q)) (starts_are b (n + 1) (statement n)) (starts_are rest m q)
    (parts (edges b (n + 1) (statement n)) (edges rest m q) (leads.leads b (n + 1) head) (leads.leads rest m (point_of q))
    (edges_are b (n + 1) (statement n)) (edges_are rest m q))
edges_are (block b rest) n q =
    let m = n + numbered b in
    parts (edges b n (starts rest m q)) (edges rest m q) (leads.leads b n (leads.starts rest m (point_of q))) (leads.leads rest m (point_of q))
    (edges_are b n (starts rest m q) ∙ ap (leads.leads b n) (starts_are rest m q)) (edges_are rest m q)
edges_are (show p rs rest) n q =
    one (leads.statement n) (point_of (starts rest (n + 1) q)) (leads.starts rest (n + 1) (point_of q)) (ends (edges rest (n + 1) q))
    (leads.leads rest (n + 1) (point_of q)) (starts_are rest (n + 1) q) (edges_are rest (n + 1) q)
edges_are (exit p rest) n q = edges_are rest (n + 1) q

sessions_are : (ss : List Session) (n : ℕ) → ends (service_edges ss n) ≡ leads.service_leads ss n
sessions_are [] n = refl
sessions_are (s ∷ ss) n =
    parts (edges s.body n out) (service_edges ss (n + numbered s.body)) (leads.leads s.body n None) (leads.service_leads ss (n + numbered s.body))
    (edges_are s.body n out) (sessions_are ss (n + numbered s.body))

pub edges_are_leads : EdgesAreLeads
edges_are_leads service = sessions_are service.sessions 1

pub edges_are_nexts : EdgesAreNexts
edges_are_nexts service = edges_are_leads service ∙ sym (leads_agree service)

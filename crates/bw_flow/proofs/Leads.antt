-- What comes next in the flow is what the statements say.
use Rattle.std.proofs.Common.{◌≡◌, ℕ, ◌+◌, List, [], ◌∷◌, ◌++◌, length, refl, ap, sym, ◌∙◌, append_assoc, Option, Some, None}
use Rattle.std.specs.Prelude.{slice_get, option_map}
use Rattle.std.proofs.lemmas.List.{append-nil}
use Rattle.bw_lang.specs.declared.service.Session.{Session}
use Rattle.bw_lang.specs.declared.stmt.Kind.TheVariants as kinds
use Rattle.bw_lang.specs.Service.Code.{Code, done, declare, assign, if_then, if_else, while_loop, for_each, block, show, exit, numbered}
use Rattle.bw_lang.specs.declared.service.Service.{Service}
use Rattle.bw_flow.specs.declared.point.Local.{Local}
use Rattle.bw_flow.specs.Layout.{count, enter, step, steps, points, session_steps}
use Rattle.bw_flow.specs.Leads.{Spot, statement, meeting, starts, from, leads, service_leads, spot_of, spot_at, from_to, nexts, LeadsAgree}
use Rattle.bw_flow.specs.Scopes.{with_local}
use Rattle.bw_flow.specs.Steps.{joins, Step}
use Rattle.bw_flow.proofs.Layouts.{length_steps}
use Rattle.bw_flow.proofs.Parts.{Holds, holds_at, holds_parts, holds_self}
use Rattle.bw_flow.proofs.Stands.{length_sessions}

nexts_parts : (flow xs ys : List Step) → nexts flow (xs ++ ys) ≡ nexts flow xs ++ nexts flow ys
nexts_parts flow [] ys = refl
nexts_parts flow (x ∷ xs) ys =
    ap (λ l. from_to flow (spot_of x) x.next ++ l) (nexts_parts flow xs ys)
    ∙ sym (append_assoc (from_to flow (spot_of x) x.next) (nexts flow xs) (nexts flow ys))

to_one : (flow : List Step) (a : Spot) (q : ℕ) → from_to flow a (q ∷ []) ≡ from a (spot_at flow q)
to_one flow a q = append-nil (from a (spot_at flow q))

to_two : (flow : List Step) (a : Spot) (q r : ℕ) → from_to flow a (q ∷ r ∷ []) ≡ from a (spot_at flow q) ++ from a (spot_at flow r)
to_two flow a q r = ap (λ l. from a (spot_at flow q) ++ l) (append-nil (from a (spot_at flow r)))

-- where statements begin in the flow is where they begin
begins : (service : Service) (flow : List Step) (c : Code) (n : ℕ) (sc : List Local) (d p q : ℕ) → Holds flow p (steps service c n sc d p q) →
    spot_at flow (enter c p q) ≡ starts c n (spot_at flow q)
begins service flow done n sc d p q h = refl
begins service flow (declare k w e rest) n sc d p q h = ap (option_map spot_of) h.0
begins service flow (assign w e rest) n sc d p q h = ap (option_map spot_of) h.0
begins service flow (if_then e y rest) n sc d p q h = ap (option_map spot_of) h.0
begins service flow (if_else e y o rest) n sc d p q h = ap (option_map spot_of) h.0
begins service flow (while_loop e y rest) n sc d p q h = ap (option_map spot_of) h.0
begins service flow (for_each w e y rest) n sc d p q h = ap (option_map spot_of) h.0
begins service flow (block y rest) n sc d p q h =
    let behind = p + count y in let r = enter rest behind q in
    let ys = steps service y n sc d p r in
    let more = steps service rest (n + numbered y) sc d behind q in
    let a = holds_parts flow p ys more h in
    let b = holds_at flow (p + length ys) behind more (ap (λ l. p + l) (length_steps service y n sc d p r)) a.1 in
    begins service flow y n sc d p r a.0 ∙ ap (starts y n) (begins service flow rest (n + numbered y) sc d behind q b)
begins service flow (show e rs rest) n sc d p q h = ap (option_map spot_of) h.0
begins service flow (exit e rest) n sc d p q h = ap (option_map spot_of) h.0

agree : (service : Service) (flow : List Step) (c : Code) (n : ℕ) (sc : List Local) (d p q : ℕ) (Q : Option Spot) → Holds flow p (steps service c n sc d p q) →
    spot_at flow q ≡ Q → nexts flow (steps service c n sc d p q) ≡ leads c n Q
agree service flow done n sc d p q Q h e = refl
agree service flow (declare k w v rest) n sc d p q Q h e =
    let inner = with_local sc w k in
    let b = begins service flow rest (n + 1) inner d (p + 1) q h.1 ∙ ap (starts rest (n + 1)) e in
    let o = to_one flow (statement n) (enter rest (p + 1) q) ∙ ap (from (statement n)) b in
    λ i. o i ++ agree service flow rest (n + 1) inner d (p + 1) q Q h.1 e i
agree service flow (assign w v rest) n sc d p q Q h e =
    let b = begins service flow rest (n + 1) sc d (p + 1) q h.1 ∙ ap (starts rest (n + 1)) e in
    let o = to_one flow (statement n) (enter rest (p + 1) q) ∙ ap (from (statement n)) b in
    λ i. o i ++ agree service flow rest (n + 1) sc d (p + 1) q Q h.1 e i
agree service flow (if_then v y rest) n sc d p q Q h e =
    let join = p + 1 + count y in let m = n + 1 + numbered y in let J = Some (meeting n) in
    let ys = steps service y (n + 1) sc d (p + 1) join in
    let more = step n sc d joins (enter rest (join + 1) q ∷ []) ∷ steps service rest m sc d (join + 1) q in
    let a = holds_parts flow (p + 1) ys more h.1 in
    let b = holds_at flow (p + 1 + length ys) join more (ap (λ l. p + 1 + l) (length_steps service y (n + 1) sc d (p + 1) join)) a.1 in
    let js : spot_at flow join ≡ J = ap (option_map spot_of) b.0 in
    let by = begins service flow y (n + 1) sc d (p + 1) join a.0 ∙ ap (starts y (n + 1)) js in
    let br = begins service flow rest m sc d (join + 1) q b.1 ∙ ap (starts rest m) e in
    let two = to_two flow (statement n) (enter y (p + 1) join) join ∙ (λ i. from (statement n) (by i) ++ from (statement n) (js i)) in
    let one = to_one flow (meeting n) (enter rest (join + 1) q) ∙ ap (from (meeting n)) br in
    let ay = agree service flow y (n + 1) sc d (p + 1) join J a.0 js in
    let ar = agree service flow rest m sc d (join + 1) q Q b.1 e in
    (λ i. two i ++ nexts_parts flow ys more i) ∙ (λ i. (from (statement n) (starts y (n + 1) J) ++ from (statement n) J) ++ (ay i ++ (one i ++ ar i)))
agree service flow (if_else v y o rest) n sc d p q Q h e =
    let other = p + 1 + count y in let join = other + count o in let k = n + 1 + numbered y in let m = k + numbered o in let J = Some (meeting n) in
    let ys = steps service y (n + 1) sc d (p + 1) join in
    let os = steps service o k sc d other join in
    let more = step n sc d joins (enter rest (join + 1) q ∷ []) ∷ steps service rest m sc d (join + 1) q in
    let a = holds_parts flow (p + 1) ys (os ++ more) h.1 in
    let b = holds_parts flow other os more (holds_at flow (p + 1 + length ys) other (os ++ more)
    (ap (λ l. p + 1 + l) (length_steps service y (n + 1) sc d (p + 1) join)) a.1) in
    let c = holds_at flow (other + length os) join more (ap (λ l. other + l) (length_steps service o k sc d other join)) b.1 in
    let js : spot_at flow join ≡ J = ap (option_map spot_of) c.0 in
    let by = begins service flow y (n + 1) sc d (p + 1) join a.0 ∙ ap (starts y (n + 1)) js in
    let bo = begins service flow o k sc d other join b.0 ∙ ap (starts o k) js in
    let br = begins service flow rest m sc d (join + 1) q c.1 ∙ ap (starts rest m) e in
    let two = to_two flow (statement n) (enter y (p + 1) join) (enter o other join) ∙ (λ i. from (statement n) (by i) ++ from (statement n) (bo i)) in
    let one = to_one flow (meeting n) (enter rest (join + 1) q) ∙ ap (from (meeting n)) br in
    let ay = agree service flow y (n + 1) sc d (p + 1) join J a.0 js in
    let ao = agree service flow o k sc d other join J b.0 js in
    let ar = agree service flow rest m sc d (join + 1) q Q c.1 e in
    (λ i. two i ++ nexts_parts flow ys (os ++ more) i)
    ∙ (λ i. (from (statement n) (starts y (n + 1) J) ++ from (statement n) (starts o k J)) ++ (ay i ++ nexts_parts flow os more i))
    ∙ (λ i. (from (statement n) (starts y (n + 1) J) ++ from (statement n) (starts o k J)) ++ (leads y (n + 1) J ++ (ao i ++ (one i ++ ar i))))
agree service flow (while_loop v y rest) n sc d p q Q h e =
    let behind = p + 1 + count y in let m = n + 1 + numbered y in let H = Some (statement n) in
    let ys = steps service y (n + 1) sc d (p + 1) p in
    let more = steps service rest m sc d behind q in
    let a = holds_parts flow (p + 1) ys more h.1 in
    let b = holds_at flow (p + 1 + length ys) behind more (ap (λ l. p + 1 + l) (length_steps service y (n + 1) sc d (p + 1) p)) a.1 in
    let hs : spot_at flow p ≡ H = ap (option_map spot_of) h.0 in
    let by = begins service flow y (n + 1) sc d (p + 1) p a.0 ∙ ap (starts y (n + 1)) hs in
    let br = begins service flow rest m sc d behind q b ∙ ap (starts rest m) e in
    let two = to_two flow (statement n) (enter y (p + 1) p) (enter rest behind q) ∙ (λ i. from (statement n) (by i) ++ from (statement n) (br i)) in
    let ay = agree service flow y (n + 1) sc d (p + 1) p H a.0 hs in
    let ar = agree service flow rest m sc d behind q Q b e in
    (λ i. two i ++ nexts_parts flow ys more i) ∙ (λ i. (from (statement n) (starts y (n + 1) H) ++ from (statement n) (starts rest m Q)) ++ (ay i ++ ar i))
agree service flow (for_each w v y rest) n sc d p q Q h e =
    let behind = p + 1 + count y in let m = n + 1 + numbered y in let H = Some (statement n) in let inner = with_local sc w kinds.Str in
    let ys = steps service y (n + 1) inner (d + 1) (p + 1) p in
    let more = steps service rest m sc d behind q in
    let a = holds_parts flow (p + 1) ys more h.1 in
    let b = holds_at flow (p + 1 + length ys) behind more (ap (λ l. p + 1 + l) (length_steps service y (n + 1) inner (d + 1) (p + 1) p)) a.1 in
    let hs : spot_at flow p ≡ H = ap (option_map spot_of) h.0 in
    let by = begins service flow y (n + 1) inner (d + 1) (p + 1) p a.0 ∙ ap (starts y (n + 1)) hs in
    let br = begins service flow rest m sc d behind q b ∙ ap (starts rest m) e in
    let two = to_two flow (statement n) (enter y (p + 1) p) (enter rest behind q) ∙ (λ i. from (statement n) (by i) ++ from (statement n) (br i)) in
    let ay = agree service flow y (n + 1) inner (d + 1) (p + 1) p H a.0 hs in
    let ar = agree service flow rest m sc d behind q Q b e in
    (λ i. two i ++ nexts_parts flow ys more i) ∙ (λ i. (from (statement n) (starts y (n + 1) H) ++ from (statement n) (starts rest m Q)) ++ (ay i ++ ar i))
agree service flow (block y rest) n sc d p q Q h e =
    let behind = p + count y in let m = n + numbered y in let r = enter rest behind q in
    let ys = steps service y n sc d p r in
    let more = steps service rest m sc d behind q in
    let a = holds_parts flow p ys more h in
    let b = holds_at flow (p + length ys) behind more (ap (λ l. p + l) (length_steps service y n sc d p r)) a.1 in
    let br = begins service flow rest m sc d behind q b ∙ ap (starts rest m) e in
    nexts_parts flow ys more ∙ (λ i. agree service flow y n sc d p r (starts rest m Q) a.0 br i ++ agree service flow rest m sc d behind q Q b e i)
agree service flow (show v rs rest) n sc d p q Q h e =
    let b = begins service flow rest (n + 1) sc d (p + 1) q h.1 ∙ ap (starts rest (n + 1)) e in
    let o = to_one flow (statement n) (enter rest (p + 1) q) ∙ ap (from (statement n)) b in
    λ i. o i ++ agree service flow rest (n + 1) sc d (p + 1) q Q h.1 e i
agree service flow (exit v rest) n sc d p q Q h e = agree service flow rest (n + 1) sc d (p + 1) q Q h.1 e

sessions_agree : (service : Service) (flow : List Step) (ss : List Session) (n p out : ℕ) → spot_at flow out ≡ None →
    Holds flow p (session_steps service ss n p out) → nexts flow (session_steps service ss n p out) ≡ service_leads ss n
sessions_agree service flow [] n p out e h = refl
sessions_agree service flow (s ∷ ss) n p out e h =
    let body = steps service s.body n [] 0 p out in
    let more = session_steps service ss (n + numbered s.body) (p + count s.body) out in
    let a = holds_parts flow p body more h in
    let b = holds_at flow (p + length body) (p + count s.body) more (ap (λ l. p + l) (length_steps service s.body n [] 0 p out)) a.1 in
    nexts_parts flow body more ∙ (λ i. agree service flow s.body n [] 0 p out None a.0 e i ++ sessions_agree service flow ss (n + numbered s.body)
    (p + count s.body) out e b i)

past_end : (xs : List Step) → slice_get xs (length xs) ≡ None
past_end [] = refl
past_end (x ∷ xs) = past_end xs

pub leads_agree : LeadsAgree
leads_agree service =
    let out = points service.sessions in
    let flow = session_steps service service.sessions 1 0 out in
    let e : spot_at flow out ≡ None = ap (spot_at flow) (sym (length_sessions service service.sessions 1 0 out)) ∙ ap (option_map spot_of) (past_end flow) in
    sessions_agree service flow service.sessions 1 0 out e (holds_self flow)

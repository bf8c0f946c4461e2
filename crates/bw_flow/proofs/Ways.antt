-- Which locals are in scope where statements begin and end.
use Rattle.std.proofs.Common.{◌≡◌, ℕ, ◌+◌, List, [], ◌∷◌, ◌++◌, length, Some, ap, sym, ◌∙◌, subst, inl, inr, append_assoc}
use Rattle.std.proofs.lemmas.List.{append-nil}
use Rattle.bw_lang.specs.declared.service.Service.{Service}
use Rattle.bw_lang.specs.Service.Code.{Code, done, declare, assign, if_then, if_else, while_loop, for_each, block, show, exit, numbered}
use Rattle.bw_flow.specs.declared.point.Local.{Local}
use Rattle.bw_flow.specs.Layout.{count, enter, after, steps}
use Rattle.bw_flow.specs.Places.{Among}
use Rattle.bw_flow.specs.Scopes.{with_local}
use Rattle.bw_flow.specs.Stands.{IsAt}
use Rattle.bw_flow.specs.Steps.{Step}
use Rattle.bw_flow.specs.TypedFlow.{BringsIn, Follows}
use Rattle.bw_flow.proofs.Layouts.{length_steps}
use Rattle.bw_flow.proofs.Parts.{Holds, holds_at, holds_parts}

-- the first ones of these locals are those
abbrev pub Begins : List Local → List Local → Type 0
Begins front scope = (gone : List Local) × (scope ≡ front ++ gone)

-- where a point stands at that place, the first ones of these locals are in scope
abbrev pub Ends : List Step → ℕ → List Local → Type 0
Ends flow q scope = (y : Step) → IsAt flow q y → Begins y.scope scope

same_step : (flow : List Step) (p : ℕ) (x y : Step) → IsAt flow p x → IsAt flow p y → x ≡ y
same_step flow p x y a b = let e : Some x ≡ Some y = sym a ∙ b in cc

pub ends_at : (flow : List Step) (p : ℕ) (x : Step) → IsAt flow p x → Ends flow p x.scope
ends_at flow p x a y b = ([], ap (λ (z : Step). z.scope) (same_step flow p x y a b) ∙ sym (append-nil y.scope))

pub ends_more : (flow : List Step) (q : ℕ) (scope more : List Local) → Ends flow q scope → Ends flow q (scope ++ more)
ends_more flow q scope more h y b = let r = h y b in (r.0 ++ more, ap (λ s. s ++ more) r.1 ∙ append_assoc y.scope r.0 more)

-- statements only add locals
after_adds : (c : Code) (scope : List Local) → (more : List Local) × (after c scope ≡ scope ++ more)
after_adds done scope = ([], sym (append-nil scope))
after_adds (declare k w e rest) scope =
    let l : Local = record { name = w; kind = k } in
    let r = after_adds rest (with_local scope w k) in
    (l ∷ r.0, r.1 ∙ append_assoc scope (l ∷ []) r.0)
after_adds (assign w e rest) scope = after_adds rest scope
after_adds (if_then e y rest) scope = after_adds rest scope
after_adds (if_else e y o rest) scope = after_adds rest scope
after_adds (while_loop e y rest) scope = after_adds rest scope
after_adds (for_each w e y rest) scope = after_adds rest scope
after_adds (block y rest) scope = after_adds rest scope
after_adds (show e rs rest) scope = after_adds rest scope
after_adds (exit e rest) scope = after_adds rest scope

pub ends_after : (flow : List Step) (q : ℕ) (c : Code) (scope : List Local) → Ends flow q scope → Ends flow q (after c scope)
ends_after flow q c scope h = let r = after_adds c scope in subst (λ s. Ends flow q s) (sym r.1) (ends_more flow q scope r.0 h)

-- where statements begin, what is in scope in front of them is, or less where they have no point
pub entry : (service : Service) (flow : List Step) (c : Code) (n : ℕ) (sc : List Local) (d p q : ℕ) → Holds flow p (steps service c n sc d p q)
    → Ends flow q (after c sc) → Ends flow (enter c p q) sc
entry service flow done n sc d p q h e = e
entry service flow (declare k w v rest) n sc d p q h e = ends_at flow p _ h.0
entry service flow (assign w v rest) n sc d p q h e = ends_at flow p _ h.0
entry service flow (if_then t y rest) n sc d p q h e = ends_at flow p _ h.0
entry service flow (if_else t y o rest) n sc d p q h e = ends_at flow p _ h.0
entry service flow (while_loop t y rest) n sc d p q h e = ends_at flow p _ h.0
entry service flow (for_each w v y rest) n sc d p q h e = ends_at flow p _ h.0
entry service flow (show v rs rest) n sc d p q h e = ends_at flow p _ h.0
entry service flow (exit v rest) n sc d p q h e = ends_at flow p _ h.0
entry service flow (block y rest) n sc d p q h e =
    let behind = p + count y in let r = enter rest behind q in
    let ys = steps service y n sc d p r in
    let more = steps service rest (n + numbered y) sc d behind q in
    let a = holds_parts flow p ys more h in
    let b = holds_at flow (p + length ys) behind more (ap (λ l. p + l) (length_steps service y n sc d p r)) a.1 in
    entry service flow y n sc d p r a.0 (ends_after flow r y sc (entry service flow rest (n + numbered y) sc d behind q b e))

-- ---- the points that come next

-- each point that comes next follows
abbrev pub AllFollow : Service → List Step → Step → List ℕ → Type 0
AllFollow service flow x next = (q : ℕ) (y : Step) → Among q next → IsAt flow q y → Follows service x y

pub no_next : (service : Service) (flow : List Step) (x : Step) → AllFollow service flow x []
no_next service flow x q y h at = absurd h

pub next_kept : (service : Service) (flow : List Step) (x : Step) (r : ℕ) (more : List ℕ) → Ends flow r x.scope → AllFollow service flow x more
    → AllFollow service flow x (r ∷ more)
next_kept service flow x r more ends h q y (inl e) at = let b = ends y (subst (λ m. IsAt flow m y) e at) in (b.0, inl b.1)
next_kept service flow x r more ends h q y (inr i) at = h q y i at

pub next_brought : (service : Service) (flow : List Step) (x : Step) (l : Local) (r : ℕ) (more : List ℕ) → BringsIn service x.scope x.act l
    → Ends flow r (x.scope ++ l ∷ []) → AllFollow service flow x more → AllFollow service flow x (r ∷ more)
next_brought service flow x l r more brings ends h q y (inl e) at = let b = ends y (subst (λ m. IsAt flow m y) e at) in (b.0, inr (l, brings, b.1))
next_brought service flow x l r more brings ends h q y (inr i) at = h q y i at

-- The items of a service's templates, and those of the wrappers behind them.
use Rattle.std.proofs.Common.{◌≡◌, ℕ, zero, suc, ◌+◌, ◌<◌, List, [], ◌∷◌, ◌++◌, length, map, get_or, sym, ap, ◌∙◌, arith}
use Rattle.std.proofs.lemmas.List.{length-append, length-map}
use Rattle.bw_lang.specs.declared.service.Service.{Service}
use Rattle.bw_lang.specs.declared.service.Template.{Template}
use Rattle.bw_lang.specs.Document.Forest.{Forest, none}
use Rattle.bw_lang.specs.Document.Wrappers.{show_wrapper, exit_wrapper}
use Rattle.bw_sum.specs.Templates.{all_items}

-- what stands behind the templates
pub at_behind : (ts : List Template) (ys : List Forest) (k : ℕ) → get_or (map (λ t. t.items) ts ++ ys) (length ts + k) none ≡ get_or ys k none
at_behind [] ys k = let e : 0 + k ≡ k = omega arith in ap (λ j. get_or ys j none) e
at_behind (t ∷ ts) ys k =
    let e : length (t ∷ ts) + k ≡ suc (length ts + k) = omega arith in
    ap (λ j. get_or (t.items ∷ (map (λ t. t.items) ts ++ ys)) j none) e ∙ at_behind ts ys k

-- what stands among them
pub at_front : (ts : List Template) (ys : List Forest) (k : ℕ) (t : Template) → k < length ts → t ≡ get_or ts k t
    → get_or (map (λ t. t.items) ts ++ ys) k none ≡ t.items
at_front [] ys k t l e = absurd (omega (arith, l))
at_front (x ∷ ts) ys zero t l e = ap (λ y. y.items) (sym e)
at_front (x ∷ ts) ys (suc k) t l e = at_front ts ys k t (omega (arith, l)) e

-- how many there are
pub rows_are : (service : Service) → length (all_items service) ≡ length service.templates + 2
rows_are service =
    let g = length service.gaps in
    let a = length-append (map (λ t. t.items) service.templates) (show_wrapper g ∷ exit_wrapper g ∷ []) in
    let b : length (map (λ t. t.items) service.templates) ≡ length service.templates = length-map service.templates (λ t. t.items) in
    omega (arith, a, b)

-- those that were put together are all
pub all_are : (service given : Service) (show exit : Forest) (list : List Forest) → list ≡ map (λ t. t.items) given.templates ++ show ∷ exit ∷ []
    → given ≡ service → show ≡ show_wrapper (length given.gaps) → exit ≡ exit_wrapper (length given.gaps) → list ≡ all_items service
all_are service given show exit list is g s e =
    is ∙ ap (λ x. map (λ t. t.items) given.templates ++ x ∷ exit ∷ []) s
    ∙ ap (λ x. map (λ t. t.items) given.templates ++ show_wrapper (length given.gaps) ∷ x ∷ []) e ∙ ap all_items g

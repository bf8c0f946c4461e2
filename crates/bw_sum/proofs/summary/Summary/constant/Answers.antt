use Rattle.std.proofs.Common.{◌≡◌, ℕ, zero, suc, ◌+◌, ◌<◌, List, [], ◌∷◌, ◌++◌, length, map, get_or, refl, sym, ap, ◌∙◌, arith, Result, Ok, Err}
use Rattle.std.specs.Prelude.{IfOk, slice_get, unwrap_or}
use Rattle.bw_lang.specs.declared.service.Service.{Service}
use Rattle.bw_lang.specs.declared.service.Template.{Template}
use Rattle.bw_lang.specs.Document.Forest.{Forest, none}
use Rattle.bw_lang.specs.Document.Wrappers.{show_wrapper, exit_wrapper}
use Rattle.bw_sum.specs.Constants.{constant_of}
use Rattle.bw_sum.specs.Templates.{template_items}
use Rattle.bw_sum.proofs.summary.Summary.constant.Goals as goal
use Rattle.bw_sum.proofs.summary.Summary.constant.Goals.{then-number-templates-2+in_ok-wrapper, else-number-templates-2+in_ok-wrapper-2}

-- what stands among templates, and behind them
item_at : (ts : List Template) (ys : List Forest) (k : ℕ) (d : Template) → k < length ts
    → unwrap_or (slice_get (map (λ x. x.items) ts ++ ys) k) none ≡ (get_or ts k d).items
item_at [] ys k d l = absurd (omega (arith, l))
item_at (x ∷ ts) ys zero d l = refl
item_at (x ∷ ts) ys (suc k) d l = item_at ts ys k d (omega (arith, l))

behind : (ts : List Template) (ys : List Forest) (n k : ℕ) → n ≡ length ts + k
    → unwrap_or (slice_get (map (λ x. x.items) ts ++ ys) n) none ≡ unwrap_or (slice_get ys k) none
behind [] ys n k e = ap (λ j. unwrap_or (slice_get ys j) none) (omega (arith, e))
behind (t ∷ ts) ys zero k e = absurd (omega (arith, e))
behind (t ∷ ts) ys (suc n) k e = behind ts ys n k (omega (arith, e))

if_made : {T E : Type 0} {P Q : T → Type 0} (r : Result T E) → ((x : T) → P x → Q x) → IfOk r P → IfOk r Q
if_made (Ok x) f h = f x h
if_made (Err e) f h = h

pub constant_of-requires : goal.constant_of-requires
constant_of-requires c =
    let few = (c.readable_is_small.ensures.small c.args.typed.now.service c.args.typed.now.readable).gaps in
    let e = c.len-gaps.ensures ∙ ap (λ (x : Service). length x.gaps) c.service-service.ensures in
    omega (arith, few, e)

pub show_wrapper-requires : goal.show_wrapper-requires
show_wrapper-requires c =
    let few = (c.readable_is_small.ensures.small c.args.typed.now.service c.args.typed.now.readable).gaps in
    let e = ap (λ (x : Service). length x.gaps) c.service-service.ensures in
    omega (arith, few, e)

pub exit_wrapper-requires : goal.exit_wrapper-requires
exit_wrapper-requires c =
    let few = (c.readable_is_small.ensures.small c.args.typed.now.service c.args.typed.now.readable).gaps in
    let e = ap (λ (x : Service). length x.gaps) c.service-service.ensures in
    omega (arith, few, e)

pub constant_of-constant-requires : goal.constant_of-constant-requires
constant_of-constant-requires c =
    let few = (c.readable_is_small.ensures.small c.args.typed.now.service c.args.typed.now.readable).gaps in
    let e = c.len-gaps.ensures ∙ ap (λ (x : Service). length x.gaps) c.service-service.ensures in
    omega (arith, few, e)

pub returns-then-number-templates : goal.returns-then-number-templates
returns-then-number-templates c =
    let s = c.args.typed.now.service in
    let t = c.args.template in
    let g = length s.gaps in
    let k = c.number-number.result in
    let r = c.constant_of.result in
    let templates = c.as_slice-templates.ensures ∙ ap (λ (x : Service). x.templates) c.service-service.ensures in
    let items : template_items s t ≡ (get_or c.as_slice-templates.result.now k c.index-templates-number.result).items =
    ap (template_items s) (sym c.number-number.ensures)
    ∙ ap (λ (x : List Template). unwrap_or (slice_get (map (λ y. y.items) x ++ show_wrapper g ∷ exit_wrapper g ∷ []) k) none) (sym templates)
    ∙ item_at c.as_slice-templates.result.now _ k c.index-templates-number.result c.if-number-templates.true in
    let gaps = c.len-gaps.ensures ∙ ap (λ (x : Service). length x.gaps) c.service-service.ensures in
    if_made r (λ x e. e ∙ (λ i. constant_of t (sym items i) (gaps i))) c.constant_of.ensures

pub returns : goal.returns
returns c =
    let s = c.args.typed.now.service in
    let t = c.args.template in
    let g = length s.gaps in
    let r = c.constant_of-constant.result in
    let same = ap (λ (x : Service). length x.gaps) c.service-service.ensures in
    let long = ap length c.as_slice-templates.ensures ∙ ap (λ (x : Service). length x.templates) c.service-service.ensures in
    let items : template_items s t ≡ c.if-number-templates-2.wrapper =
    elim c.if-number-templates-2.branch [
      | then-number-templates-2+in_ok-wrapper w ↦
          behind s.templates (show_wrapper g ∷ exit_wrapper g ∷ []) t 0 (omega (arith, w.if-number-templates-2.true, c.number-number.ensures, long))
          ∙ sym (w.wrapper-is ∙ w.in_ok-wrapper.ensures ∙ ap show_wrapper same)
      | else-number-templates-2+in_ok-wrapper-2 w ↦
          behind s.templates (show_wrapper g ∷ exit_wrapper g ∷ []) t 1
          (omega (arith, w.if-number-templates-2.false, c.if-number-templates.false, c.requires, c.number-number.ensures, long))
          ∙ sym (w.wrapper-is ∙ w.in_ok-wrapper-2.ensures ∙ ap exit_wrapper same)
    ] in
    let gaps = c.len-gaps.ensures ∙ same in
    if_made r (λ x e. e ∙ (λ i. constant_of t (sym items i) (gaps i))) c.constant_of-constant.ensures

-- The value of an expression is covered by what is known of it, and each of its plugs has an open gap.
use Rattle.std.proofs.Common.{◌≡◌, ℕ, zero, suc, ◌≤◌, Bool, true, false, List, [], ◌∷◌, ◌++◌, Result, Ok, Err, refl}
use Rattle.std.specs.Prelude.{◌||◌, not, pos, if◌then◌else◌, option_map, find, map, is_some, nat_lt, length, slice_get, unwrap_or}
use Rattle.bw_lang.proofs.SameNames.{same_self}
use Rattle.bw_lang.specs.declared.expr.Fun.{Fun}
use Rattle.bw_lang.specs.declared.expr.Op.{Op}
use Rattle.bw_lang.specs.declared.expr.Op.TheVariants.{Or, And, Eq, Ne, Lt, Le, Gt, Ge, Add, Sub, Mul, Div, Rem}
use Rattle.bw_lang.specs.declared.measure.Measure.{Measure}
use Rattle.bw_lang.specs.declared.measure.MeasureFault.{MeasureFault}
use Rattle.bw_lang.specs.declared.service.Service.{Service}
use Rattle.bw_lang.specs.declared.turn.TurnFault.TheVariants.{StringTooLong}
use Rattle.bw_lang.specs.Document.Documents.{count}
use Rattle.bw_lang.specs.Document.Forest.{Forest}
use Rattle.bw_lang.specs.Document.Measures.{text_measure, plugged as measured, tested}
use Rattle.bw_lang.specs.Table.Names.{same, beside}
use Rattle.bw_lang.specs.Service.Term.{Term, int, truth, string, name, paren, not as negated, neg, binary, call, plug, nothing, Fillings, no_more, filling}
use Rattle.bw_meaning.specs.Expressions.{Evaluated, Gives, Faults, paid, and_then, given, named, eval, fill}
use Rattle.bw_meaning.specs.Operators.{number_of, truth_of, text_of, document_of, held, joined, sum, decides, combined, called, with_tree, filled}
use Rattle.bw_meaning.specs.Values.{Value, Values, number, truth_value, text, document, list}
use Rattle.bw_sum.specs.Graph.{Graph, plugged, plugged_text}
use Rattle.bw_sum.specs.Opening.{opens}
use Rattle.bw_sum.specs.Unfolding.{Covers}
use Rattle.bw_sum.proofs.Covering.{covers_plug, covers_text, covers_below as graph_below}
use Rattle.bw_sum.proofs.Opens.{opens_counted}
use Rattle.bw_sum.specs.Templates.{template_items}
use Rattle.bw_cover.specs.Abstracts.{Abstract, Nothing, Strings, Html, any, is_gap, covers, Below, plugged_by, summed_by, combined_by, called_by}
use Rattle.bw_cover.specs.Abstracts.{known, known_filled, EachPair, EachFilling, IsNotLacked, IsPlug}
use Rattle.bw_cover.specs.Plugs.{Plug, on_unit, on_value, plugs_in, plugs_by}
use Rattle.bw_cover.specs.Covered.{AreOpen}
use Rattle.std.specs.Prelude as std
use Rattle.bw_lang.specs.declared.expr.Fun.TheVariants as funs
use Rattle.bw_lang.specs.Document.Documents as doc
use Rattle.bw_lang.specs.Table.Names as names

-- what is covered is covered by all that is known less
pub covers_below : (service : Service) (a b : Abstract) (v : Value) → Below a b → covers service a v → covers service b v
covers_below service Nothing Nothing v l c = tt
covers_below service Nothing (Strings T) v l c = absurd l
covers_below service Nothing (Html H) v l c = absurd l
covers_below service (Strings S) Nothing v l c = tt
covers_below service (Strings S) (Strings T) (number n) l c = c
covers_below service (Strings S) (Strings T) (truth_value b) l c = c
covers_below service (Strings S) (Strings T) (text s) l c = l s c
covers_below service (Strings S) (Strings T) (document d) l c = c
covers_below service (Strings S) (Strings T) (list s) l c = c
covers_below service (Strings S) (Html H) v l c = absurd l
covers_below service (Html G) Nothing v l c = tt
covers_below service (Html G) (Strings T) v l c = absurd l
covers_below service (Html G) (Html H) (number n) l c = c
covers_below service (Html G) (Html H) (truth_value b) l c = c
covers_below service (Html G) (Html H) (text s) l c = c
covers_below service (Html G) (Html H) (document d) l c = graph_below (template_items service) (is_gap service) G H d.tree l c
covers_below service (Html G) (Html H) (list s) l c = c

pub open_append : (xs ys : List Plug) → AreOpen xs → AreOpen ys → AreOpen (xs ++ ys)
open_append [] ys h k = k
open_append (x ∷ xs) ys h k = (h.0, open_append xs ys h.1 k)

-- an evaluation whose value is covered
abbrev pub Given : Service → Abstract → Evaluated → Type 0
Given service a (Gives v u) = covers service a v
Given service a (Faults x u) = Unit {0}

-- and whose plugs are open
abbrev pub Evaluates : Service → Abstract → Evaluated → List Plug → Type 0
Evaluates service a o ps = Given service a o × AreOpen ps

module _ (service : Service) where
  given_nothing : (o : Evaluated) → Given service Nothing o
  given_nothing (Gives v u) = tt
  given_nothing (Faults f u) = tt

  good_paid : (a : Abstract) (u : ℕ) (go : ℕ → Evaluated) (ps : ℕ → List Plug) → ((w : ℕ) → Evaluates service a (go w) (ps w))
      → Evaluates service a (paid u go) (on_unit u ps)
  good_paid a zero go ps h = (tt, tt)
  good_paid a (suc u) go ps h = h u

  good_value : (a b : Abstract) (o : Evaluated) (go : Value → ℕ → Evaluated) (more : Value → ℕ → List Plug) → Given service a o
      → ((v : Value) (u : ℕ) → covers service a v → Evaluates service b (go v u) (more v u)) → Evaluates service b (and_then o go) (on_value o more)
  good_value a b (Gives v u) go more c h = h v u c
  good_value a b (Faults f u) go more c h = (tt, tt)

  good_then : (a b : Abstract) (o : Evaluated) (ps : List Plug) (go : Value → ℕ → Evaluated) (more : Value → ℕ → List Plug) → Evaluates service a o ps
      → ((v : Value) (u : ℕ) → covers service a v → Evaluates service b (go v u) (more v u)) → Evaluates service b (and_then o go) (ps ++ on_value o more)
  good_then a b o ps go more e h = let r = good_value a b o go more e.0 h in (r.0, open_append ps (on_value o more) e.1 r.1)

  -- where no plug is made behind the value
  good_last : (a b : Abstract) (o : Evaluated) (ps : List Plug) (go : Value → ℕ → Evaluated) → Evaluates service a o ps
      → ((v : Value) (u : ℕ) → covers service a v → Given service b (go v u)) → Evaluates service b (and_then o go) ps
  good_last a b (Gives v u) ps go e h = (h v u e.0, e.1)
  good_last a b (Faults f u) ps go e h = (tt, e.1)

  -- operators and functions
  joined_good : (s : List ℕ) (u : ℕ) → Given service any (given (joined s) u)
  joined_good s u = by_test (nat_lt 16384 (length s))
    where
      by_test : (b : Bool) → Given service any (given (if b then Err (StringTooLong (length s)) else Ok (text s)) u)
      by_test true = tt
      by_test false = refl

  sum_good : (a : Abstract) (v w : Value) (u : ℕ) → covers service a v → Given service (summed_by a) (given (sum v w) u)
  sum_good Nothing v w u c = given_nothing (given (sum v w) u)
  sum_good (Strings S) (number n) w u c = absurd c
  sum_good (Strings S) (truth_value b) w u c = absurd c
  sum_good (Strings S) (text s) w u c = joined_good (s ++ text_of w) u
  sum_good (Strings S) (document d) w u c = absurd c
  sum_good (Strings S) (list l) w u c = absurd c
  sum_good (Html G) v w u c = given_nothing (given (sum v w) u)

  either_nothing : (b : Bool) (o p : Evaluated) (ps : List Plug) → AreOpen ps → Evaluates service Nothing (if b then o else p) (if b then [] else ps)
  either_nothing true o p ps h = (given_nothing o, tt)
  either_nothing false o p ps h = (given_nothing p, h)

  binary_good : (op : Op) (a b : Abstract) (v : Value) (u : ℕ) (o : Evaluated) (ps : List Plug) → covers service a v → Evaluates service b o ps
      → Evaluates service (combined_by op a) (if decides op v then Gives v u else and_then o (λ w. given (combined op v w))) (if decides op v then [] else ps)
  binary_good Or a b v u o ps c e = either_nothing (decides Or v) (Gives v u) (and_then o (λ w. given (combined Or v w))) ps e.1
  binary_good And a b v u o ps c e = either_nothing (decides And v) (Gives v u) (and_then o (λ w. given (combined And v w))) ps e.1
  binary_good Eq a b v u o ps c e = (given_nothing (and_then o (λ w. given (combined Eq v w))), e.1)
  binary_good Ne a b v u o ps c e = (given_nothing (and_then o (λ w. given (combined Ne v w))), e.1)
  binary_good Lt a b v u o ps c e = (given_nothing (and_then o (λ w. given (combined Lt v w))), e.1)
  binary_good Le a b v u o ps c e = (given_nothing (and_then o (λ w. given (combined Le v w))), e.1)
  binary_good Gt a b v u o ps c e = (given_nothing (and_then o (λ w. given (combined Gt v w))), e.1)
  binary_good Ge a b v u o ps c e = (given_nothing (and_then o (λ w. given (combined Ge v w))), e.1)
  binary_good Add a b v u o ps c e = good_last b (summed_by a) o ps (λ w. given (sum v w)) e (λ w x d. sum_good a v w x c)
  binary_good Sub a b v u o ps c e = (given_nothing (and_then o (λ w. given (combined Sub v w))), e.1)
  binary_good Mul a b v u o ps c e = (given_nothing (and_then o (λ w. given (combined Mul v w))), e.1)
  binary_good Div a b v u o ps c e = (given_nothing (and_then o (λ w. given (combined Div v w))), e.1)
  binary_good Rem a b v u o ps c e = (given_nothing (and_then o (λ w. given (combined Rem v w))), e.1)

  called_good : (f : Fun) (v : Value) → covers service (called_by f) (called f v)
  called_good funs.Text v = refl
  called_good funs.Number v = tt
  called_good funs.IsNumber v = tt
  called_good funs.Count v = tt

  -- one pair of a plug
  tree_good : (G : Graph) (tree : Forest) (r : Result Measure MeasureFault) (u : ℕ) → Covers (template_items service) (is_gap service) G tree
      → Given service (Html G) (given (with_tree tree r) u)
  tree_good G tree (Ok m) u c = c
  tree_good G tree (Err f) u c = tt

  plug_good : (a e : Abstract) (d v : Value) (g u : ℕ) → covers service a d → covers service e v → IsNotLacked a g e → IsPlug service a g e
      → Given service (plugged_by a g e) (given (filled g v (document_of d)) u) × (1 ≤ count g (document_of d).tree)
  plug_good Nothing e d v g u c k l p = absurd p
  plug_good (Strings S) e d v g u c k l p = absurd p
  plug_good (Html B) e (number n) v g u c k l p = absurd c
  plug_good (Html B) e (truth_value b) v g u c k l p = absurd c
  plug_good (Html B) e (text s) v g u c k l p = absurd c
  plug_good (Html B) e (list s) v g u c k l p = absurd c
  plug_good (Html B) Nothing (document d) v g u c k l p = absurd p
  plug_good (Html B) (Strings S) (document d) (number n) g u c k l p = absurd k
  plug_good (Html B) (Strings S) (document d) (truth_value b) g u c k l p = absurd k
  plug_good (Html B) (Strings S) (document d) (document x) g u c k l p = absurd k
  plug_good (Html B) (Strings S) (document d) (list s) g u c k l p = absurd k
  plug_good (Html B) (Strings S) (document d) (text s) g u c k l p = (
    tree_good (plugged_text B g S) (doc.plug_text g s d.tree) (tested (measured d.measure (text_measure (length s)) (count g d.tree) (doc.around g d.tree))) u
        (covers_text (template_items service) B g s S k (is_gap service) d.tree c),
    opens_counted g d.tree (c.has_open g p l),
  )
  plug_good (Html B) (Html A) (document d) (number n) g u c k l p = absurd k
  plug_good (Html B) (Html A) (document d) (truth_value b) g u c k l p = absurd k
  plug_good (Html B) (Html A) (document d) (text s) g u c k l p = absurd k
  plug_good (Html B) (Html A) (document d) (list s) g u c k l p = absurd k
  plug_good (Html B) (Html A) (document d) (document x) g u c k l p =
      let o : opens g d.tree ≡ true = c.has_open g p.0 l in (
        tree_good (plugged B g A) (doc.plug g x.tree d.tree) (tested (measured d.measure x.measure (count g d.tree) (doc.around g d.tree))) u
            (covers_plug (template_items service) (is_gap service) B A g d.tree x.tree p.1 c k o),
        opens_counted g d.tree o,
      )

  module _ (l s : Values) (at : List ℕ → Abstract) (each : (w : List ℕ) → covers service (at w) (named service l s w)) where
    mutual
      pub eval_good : (e : Term) (u : ℕ) → EachPair IsNotLacked service at e → EachPair (IsPlug service) service at e
          → Evaluates service (known service at e) (eval service l s e u) (plugs_in service l s e u)
      eval_good (int n) u g p = (given_nothing (paid u (Gives (number n))), tt)
      eval_good (truth b) u g p = (given_nothing (paid u (Gives (truth_value b))), tt)
      eval_good (string t) u g p = let r = good_paid (Strings (same t)) u (Gives (text t)) (λ w. []) (λ w. (same_self t, tt)) in (r.0, tt)
      eval_good nothing u g p = (given_nothing (paid u (Gives (list []))), tt)
      eval_good (name w) u g p = let r = good_paid (at w) u (Gives (named service l s w)) (λ x. []) (λ x. (each w, tt)) in (r.0, tt)
      eval_good (paren e) u g p = good_paid (known service at e) u (λ w. eval service l s e w) (λ w. plugs_in service l s e w) (λ w. eval_good e w g p)
      eval_good (negated e) u g p =
          good_paid Nothing u (λ w. and_then (eval service l s e w) (λ v. Gives (truth_value (std.not (truth_of v))))) (λ w. plugs_in service l s e w)
          (λ w. good_last (known service at e) Nothing (eval service l s e w) (plugs_in service l s e w) (λ v. Gives (truth_value (std.not (truth_of v))))
          (eval_good e w g p) (λ v x c. tt))
      eval_good (neg e) u g p =
          good_paid Nothing u (λ w. and_then (eval service l s e w) (λ v. given (held (std.neg_ℤ (number_of v))))) (λ w. plugs_in service l s e w)
          (λ w. good_last (known service at e) Nothing (eval service l s e w) (plugs_in service l s e w) (λ v. given (held (std.neg_ℤ (number_of v))))
          (eval_good e w g p) (λ v x c. given_nothing (given (held (std.neg_ℤ (number_of v))) x)))
      eval_good (call f e) u g p =
          good_paid (called_by f) u (λ w. and_then (eval service l s e w) (λ v. Gives (called f v))) (λ w. plugs_in service l s e w)
          (λ w. good_last (known service at e) (called_by f) (eval service l s e w) (plugs_in service l s e w) (λ v. Gives (called f v)) (eval_good e w g p)
          (λ v x c. called_good f v))
      eval_good (binary op a b) u g p =
          good_paid (combined_by op (known service at a)) u
          (λ w. and_then (eval service l s a w)
          (λ v u1. if decides op v then Gives v u1 else and_then (eval service l s b u1) (λ x. given (combined op v x))))
          (λ w. plugs_in service l s a w ++ on_value (eval service l s a w) (λ v u1. if decides op v then [] else plugs_in service l s b u1))
          (λ w. good_then (known service at a) (combined_by op (known service at a)) (eval service l s a w) (plugs_in service l s a w)
          (λ v u1. if decides op v then Gives v u1 else and_then (eval service l s b u1) (λ x. given (combined op v x)))
          (λ v u1. if decides op v then [] else plugs_in service l s b u1)
          (eval_good a w g.0 p.0)
          (λ v u1 c. binary_good op (known service at a) (known service at b) v u1 (eval service l s b u1) (plugs_in service l s b u1) c
          (eval_good b u1 g.1 p.1)))
      eval_good (plug b ps) u g p =
          good_paid (known_filled service at ps (known service at b)) u
          (λ w. and_then (eval service l s b w) (λ d u1. fill service l s ps d u1))
          (λ w. plugs_in service l s b w ++ on_value (eval service l s b w) (λ d u1. plugs_by service l s ps d u1))
          (λ w. good_then (known service at b) (known_filled service at ps (known service at b)) (eval service l s b w) (plugs_in service l s b w)
          (λ d u1. fill service l s ps d u1) (λ d u1. plugs_by service l s ps d u1)
          (eval_good b w g.0 p.0)
          (λ d u1 c. fill_good ps (known service at b) d u1 c g.1 p.1))

      fill_good : (ps : Fillings) (a : Abstract) (d : Value) (u : ℕ) → covers service a d → EachFilling IsNotLacked service at ps a
          → EachFilling (IsPlug service) service at ps a
          → Evaluates service (known_filled service at ps a) (fill service l s ps d u) (plugs_by service l s ps d u)
      fill_good no_more a d u c g p = (c, tt)
      fill_good (filling h e ps) a d u c g p =
          let n = names.name_number service.gaps h in
          let b = plugged_by a n (known service at e) in
          let go = λ (v : Value) (u1 : ℕ). and_then (given (filled n v (document_of d)) u1) (λ d1 u2. fill service l s ps d1 u2) in
          let rest = λ (v : Value) (u1 : ℕ). on_value (given (filled n v (document_of d)) u1) (λ d1 u2. plugs_by service l s ps d1 u2) in
          good_then (known service at e) (known_filled service at ps b) (eval service l s e u) (plugs_in service l s e u) go
          (λ v u1. record { gap = n; base = (document_of d).tree } ∷ rest v u1)
          (eval_good e u g.1 p.1)
          (λ v u1 k.
          let one = plug_good a (known service at e) d v n u1 c k g.0 p.0 in
          let r = good_value b (known_filled service at ps b) (given (filled n v (document_of d)) u1) (λ d1 u2. fill service l s ps d1 u2)
          (λ d1 u2. plugs_by service l s ps d1 u2) one.0
          (λ d1 u2 cd. fill_good ps b d1 u2 cd g.2 p.2) in
          (r.0, (one.1, r.1)))

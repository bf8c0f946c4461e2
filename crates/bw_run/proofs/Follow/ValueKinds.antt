-- The value of an expression is of its kind.
use Rattle.std.proofs.Common.{◌≡◌, ◌⊎◌, ℕ, zero, suc, Bool, true, false, cond, List, [], ◌∷◌, ◌++◌, map, Option, Some, None, refl, sym, ap, ◌∙◌, subst}
use Rattle.std.proofs.Common.{inl, inr}
use Rattle.std.specs.Prelude.{ℤ, pos, neg_ℤ, ◌+ℤ◌, ◌-ℤ◌, ◌*ℤ◌, ◌||◌, nat_lt, length, int_div, int_rem, if◌then◌else◌, find, unwrap_or, Result, Ok, Err}
use Rattle.std.specs.Option.{option_map, option_or}
use Rattle.std.specs.Ordering.{int_eq}
use Rattle.bw_lang.specs.declared.expr.Fun.{Fun}
use Rattle.bw_lang.specs.declared.expr.Fun.TheVariants as funs
use Rattle.bw_lang.specs.declared.expr.Op.{Op}
use Rattle.bw_lang.specs.declared.expr.Op.TheVariants.{Or, And, Eq, Ne, Lt, Le, Gt, Ge, Add, Sub, Mul, Div, Rem}
use Rattle.bw_lang.specs.declared.measure.Measure.{Measure}
use Rattle.bw_lang.specs.declared.measure.MeasureFault.{MeasureFault}
use Rattle.bw_lang.specs.declared.service.Service.{Service}
use Rattle.bw_lang.specs.declared.service.Template.{Template}
use Rattle.bw_lang.specs.declared.stmt.Kind.{Kind}
use Rattle.bw_lang.specs.declared.stmt.Kind.TheVariants as kinds
use Rattle.bw_lang.specs.declared.turn.TurnFault.{TurnFault}
use Rattle.bw_lang.specs.declared.turn.TurnFault.TheVariants as faults
use Rattle.bw_lang.specs.Document.Documents as doc
use Rattle.bw_lang.specs.Document.Forest.{Forest}
use Rattle.bw_lang.specs.Document.Measures.{text_measure, plugged, tested}
use Rattle.bw_lang.specs.Table.Names as names
use Rattle.bw_lang.specs.Table.Names.{same, beside}
use Rattle.bw_lang.specs.Service.Term.{Term, int, truth, string, name, paren, not, neg, binary, call, plug, nothing, Fillings, no_more, filling}
use Rattle.bw_types.specs.ExpressionFaults.{op_sort, fun_takes, fun_gives}
use Rattle.bw_types.specs.Scopes.{Scope, is_among, variable_kind, name_kind}
use Rattle.bw_types.specs.Typing.{HasKind, AreTyped, Takes}
use Rattle.bw_meaning.specs.Expressions.{Evaluated, Gives, Faults, paid, and_then, given, named, eval, fill}
use Rattle.bw_meaning.specs.Numbers.{fits}
use Rattle.bw_meaning.specs.Operators.{held, joined, sum, divided, decides, combined, called, filled, with_tree, document_of, number_of, text_of}
use Rattle.bw_meaning.specs.Values.{Value, Values, Document, number, truth_value, text, document, list, constant, template_value}
use Rattle.bw_run.specs.Follow.Kinds.{kind_of, kinds_of, AreShared, GivesKind, ValuesHaveKinds}

-- ---- names

-- the kind of what stands beside a name
pub beside_kinds : (w : List ℕ) (xs : Values) → beside w (kinds_of xs) ≡ option_map kind_of (beside w xs)
beside_kinds w [] = refl
beside_kinds w (x ∷ xs) = by_test (same w x.0) (beside_kinds w xs)
  where
    by_test : (b : Bool) → beside w (kinds_of xs) ≡ option_map kind_of (beside w xs)
        → option_map (λ p. p.1) (cond b (Some (x.0, kind_of x.1)) (find (λ p. same w p.0) (kinds_of xs))) ≡ option_map kind_of
        (option_map (λ (p : List ℕ × Value). p.1) (cond b (Some x) (find (λ p. same w p.0) xs)))
    by_test true ih = refl
    by_test false ih = ih

template_has : (w : List ℕ) (ts : List Template) →
    option_map kind_of (option_map (λ (t : Template). document (constant t.items)) (find (λ t. same w t.name) ts)) ≡
    (if is_among w (map (λ t. t.name) ts) then Some kinds.Html else None)
template_has w [] = refl
template_has w (t ∷ ts) = by_test (same w t.name) (template_has w ts)
  where
    by_test : (b : Bool) → option_map kind_of (option_map (λ (t : Template). document (constant t.items)) (find (λ t. same w t.name) ts)) ≡
        (if is_among w (map (λ t. t.name) ts) then Some kinds.Html else None)
        → option_map kind_of (option_map (λ (t : Template). document (constant t.items)) (cond b (Some t) (find (λ t. same w t.name) ts))) ≡
        (if (b || is_among w (map (λ t. t.name) ts)) then Some kinds.Html else None)
    by_test true ih = refl
    by_test false ih = ih

mapped_or : {A B : Type 0} (f : A → B) (a b : Option A) → option_map f (option_or a b) ≡ option_or (option_map f a) (option_map f b)
mapped_or f None b = refl
mapped_or f (Some x) b = refl

-- the variable of a name is of its kind
pub variable_has : (service : Service) (scope : Scope) (locals shared : Values) (w : List ℕ) → kinds_of locals ≡ scope.locals → AreShared service shared →
    option_map kind_of (option_or (beside w locals) (beside w shared)) ≡ variable_kind service scope w
variable_has service scope locals shared w el es =
    mapped_or kind_of (beside w locals) (beside w shared)
    ∙ (λ i. option_or (sym (beside_kinds w locals) i) (sym (beside_kinds w shared) i))
    ∙ (λ i. option_or (beside w (el i)) (beside w (es i)))

or_assoc : {A : Type 0} (a b c : Option A) → option_or a (option_or b c) ≡ option_or (option_or a b) c
or_assoc None b c = refl
or_assoc (Some x) b c = refl

some_kind : (o : Option Value) (k : Kind) → option_map kind_of o ≡ Some k → kind_of (unwrap_or o (number (pos 0))) ≡ k
some_kind None k e = cc
some_kind (Some v) k e = cc

named_has : (service : Service) (scope : Scope) (locals shared : Values) (w : List ℕ) (k : Kind) → kinds_of locals ≡ scope.locals → AreShared service shared →
    name_kind service scope w ≡ Some k → kind_of (named service locals shared w) ≡ k
named_has service scope locals shared w k el es e =
    let o = option_or (beside w locals) (option_or (beside w shared) (template_value service w)) in
    let h : option_map kind_of o ≡ name_kind service scope w =
    ap (option_map kind_of) (or_assoc (beside w locals) (beside w shared) (template_value service w))
    ∙ mapped_or kind_of (option_or (beside w locals) (beside w shared)) (template_value service w)
    ∙ (λ i. option_or (variable_has service scope locals shared w el es i) (template_has w service.templates i)) in
    some_kind o k (h ∙ e)

-- ---- operators and functions

abbrev ResultHas : Kind → Result Value TurnFault → Type 0
ResultHas k (Ok v) = kind_of v ≡ k
ResultHas k (Err f) = Unit {0}

held_has : (z : ℤ) → ResultHas kinds.Int (held z)
held_has z = by_test (fits z)
  where
    by_test : (b : Bool) → ResultHas kinds.Int (if b then Ok (number z) else Err faults.Overflow)
    by_test true = refl
    by_test false = tt

joined_has : (s : List ℕ) → ResultHas kinds.Str (joined s)
joined_has s = by_test (nat_lt 16384 (length s))
  where
    by_test : (b : Bool) → ResultHas kinds.Str (if b then Err (faults.StringTooLong (length s)) else Ok (text s))
    by_test true = tt
    by_test false = refl

divided_has : (part : ℤ → ℤ → ℤ) (n d : ℤ) → ResultHas kinds.Int (divided part n d)
divided_has part n d = by_test (int_eq d (pos 0)) (fits (int_div n d))
  where
    by_test : (z b : Bool) → ResultHas kinds.Int (if z then Err faults.DivideByZero else (if b then Ok (number (part n d)) else Err faults.Overflow))
    by_test true b = tt
    by_test false true = refl
    by_test false false = tt

result_to : (j k : Kind) (r : Result Value TurnFault) → j ≡ k → ResultHas j r → ResultHas k r
result_to j k r e h = subst (λ i. ResultHas i r) e h

sum_has : (v w : Value) (side : Kind) → kind_of v ≡ side → (side ≡ kinds.Int) ⊎ (side ≡ kinds.Str) → ResultHas side (sum v w)
sum_has (text s) w side e t = result_to kinds.Str side (sum (text s) w) e (joined_has (s ++ text_of w))
sum_has (number n) w side e t = result_to kinds.Int side (sum (number n) w) e (held_has (n +ℤ number_of w))
sum_has (truth_value b) w side e (inl t) = absurd (let f : kinds.Bool ≡ kinds.Int = e ∙ t in cc)
sum_has (truth_value b) w side e (inr t) = absurd (let f : kinds.Bool ≡ kinds.Str = e ∙ t in cc)
sum_has (document d) w side e (inl t) = absurd (let f : kinds.Html ≡ kinds.Int = e ∙ t in cc)
sum_has (document d) w side e (inr t) = absurd (let f : kinds.Html ≡ kinds.Str = e ∙ t in cc)
sum_has (list l) w side e (inl t) = absurd (let f : kinds.Strs ≡ kinds.Int = e ∙ t in cc)
sum_has (list l) w side e (inr t) = absurd (let f : kinds.Strs ≡ kinds.Str = e ∙ t in cc)

combined_has : (op : Op) (v w : Value) (side kind : Kind) → kind_of v ≡ side → kind_of w ≡ side → Takes (op_sort op) side kind →
    ResultHas kind (combined op v w)
combined_has Or v w side kind ev ew t = ew ∙ t.0 ∙ sym t.1
combined_has And v w side kind ev ew t = ew ∙ t.0 ∙ sym t.1
combined_has Eq v w side kind ev ew t = sym t.2
combined_has Ne v w side kind ev ew t = sym t.2
combined_has Lt v w side kind ev ew t = sym t.1
combined_has Le v w side kind ev ew t = sym t.1
combined_has Gt v w side kind ev ew t = sym t.1
combined_has Ge v w side kind ev ew t = sym t.1
combined_has Add v w side kind ev ew t = result_to side kind (sum v w) (sym t.1) (sum_has v w side ev t.0)
combined_has Sub v w side kind ev ew t = result_to kinds.Int kind (combined Sub v w) (sym t.1) (held_has (number_of v -ℤ number_of w))
combined_has Mul v w side kind ev ew t = result_to kinds.Int kind (combined Mul v w) (sym t.1) (held_has (number_of v *ℤ number_of w))
combined_has Div v w side kind ev ew t = result_to kinds.Int kind (combined Div v w) (sym t.1) (divided_has int_div (number_of v) (number_of w))
combined_has Rem v w side kind ev ew t = result_to kinds.Int kind (combined Rem v w) (sym t.1) (divided_has int_rem (number_of v) (number_of w))

-- a left side that decides is the result
decided_has : (op : Op) (v : Value) (side kind : Kind) → decides op v ≡ true → kind_of v ≡ side → Takes (op_sort op) side kind → kind_of v ≡ kind
decided_has Or v side kind d e t = e ∙ t.0 ∙ sym t.1
decided_has And v side kind d e t = e ∙ t.0 ∙ sym t.1
decided_has Eq v side kind d e t = cc
decided_has Ne v side kind d e t = cc
decided_has Lt v side kind d e t = cc
decided_has Le v side kind d e t = cc
decided_has Gt v side kind d e t = cc
decided_has Ge v side kind d e t = cc
decided_has Add v side kind d e t = cc
decided_has Sub v side kind d e t = cc
decided_has Mul v side kind d e t = cc
decided_has Div v side kind d e t = cc
decided_has Rem v side kind d e t = cc

called_has : (f : Fun) (v : Value) → kind_of (called f v) ≡ fun_gives f
called_has funs.Text v = refl
called_has funs.Number v = refl
called_has funs.IsNumber v = refl
called_has funs.Count v = refl

tree_has : (t : Forest) (r : Result Measure MeasureFault) → ResultHas kinds.Html (with_tree t r)
tree_has t (Ok m) = refl
tree_has t (Err f) = tt

filled_has : (g : ℕ) (v : Value) (d : Document) → ResultHas kinds.Html (filled g v d)
filled_has g (text s) d = tree_has (doc.plug_text g s d.tree)
    (tested (plugged d.measure (text_measure (length s)) (doc.count g d.tree) (doc.around g d.tree)))
filled_has g (document a) d = tree_has (doc.plug g a.tree d.tree) (tested (plugged d.measure a.measure (doc.count g d.tree) (doc.around g d.tree)))
filled_has g (number n) d = refl
filled_has g (truth_value b) d = refl
filled_has g (list l) d = refl

-- ---- expressions

paid_has : (k : Kind) (units : ℕ) (go : ℕ → Evaluated) → ((u : ℕ) → GivesKind k (go u)) → GivesKind k (paid units go)
paid_has k zero go h = tt
paid_has k (suc u) go h = h u

then_has : (j k : Kind) (o : Evaluated) (go : Value → ℕ → Evaluated) → GivesKind j o → ((v : Value) (u : ℕ) → kind_of v ≡ j → GivesKind k (go v u)) →
    GivesKind k (and_then o go)
then_has j k (Gives v u) go g h = h v u g
then_has j k (Faults f u) go g h = tt

given_has : (k : Kind) (r : Result Value TurnFault) (u : ℕ) → ResultHas k r → GivesKind k (given r u)
given_has k (Ok v) u h = h
given_has k (Err f) u h = tt

module _ (service : Service) (scope : Scope) (locals shared : Values) (el : kinds_of locals ≡ scope.locals) (es : AreShared service shared) where
  decide : (op : Op) (side kind : Kind) (r : Term) (v : Value) (u : ℕ) → kind_of v ≡ side → Takes (op_sort op) side kind →
      ((u1 : ℕ) → GivesKind side (eval service locals shared r u1)) → (b : Bool) → decides op v ≡ b →
      GivesKind kind (if b then Gives v u else and_then (eval service locals shared r u) (λ w. given (combined op v w)))
  decide op side kind r v u ev t ih true d = decided_has op v side kind d ev t
  decide op side kind r v u ev t ih false d =
      then_has side kind (eval service locals shared r u) (λ w. given (combined op v w)) (ih u)
      (λ w u1 ew. given_has kind (combined op v w) u1 (combined_has op v w side kind ev ew t))

  mutual
    has : (e : Term) (kind : Kind) (units : ℕ) → HasKind service scope e kind → GivesKind kind (eval service locals shared e units)
    has (int n) kind units h = paid_has kind units (Gives (number n)) (λ u. sym h)
    has (truth b) kind units h = paid_has kind units (Gives (truth_value b)) (λ u. sym h)
    has (string s) kind units h = paid_has kind units (Gives (text s)) (λ u. sym h)
    has nothing kind units h = paid_has kind units (Gives (list [])) (λ u. sym h)
    has (name w) kind units h = paid_has kind units (Gives (named service locals shared w)) (λ u. named_has service scope locals shared w kind el es h)
    has (paren e) kind units h = paid_has kind units (λ u. eval service locals shared e u) (λ u. has e kind u h)
    has (not e) kind units h =
        paid_has kind units _ (λ u. then_has kinds.Bool kind (eval service locals shared e u) _ (has e kinds.Bool u h.0) (λ v u1 ev. sym h.1))
    has (neg e) kind units h =
        paid_has kind units _ (λ u. then_has kinds.Int kind (eval service locals shared e u) _ (has e kinds.Int u h.0)
        (λ v u1 ev. given_has kind (held (neg_ℤ (number_of v))) u1
        (result_to kinds.Int kind (held (neg_ℤ (number_of v))) (sym h.1) (held_has (neg_ℤ (number_of v))))))
    has (call f e) kind units h =
        paid_has kind units _ (λ u. then_has (fun_takes f) kind (eval service locals shared e u) _ (has e (fun_takes f) u h.0)
        (λ v u1 ev. called_has f v ∙ sym h.1))
    has (binary op l r) kind units h =
        paid_has kind units _ (λ u. then_has h.0 kind (eval service locals shared l u) _ (has l h.0 u h.1)
        (λ v u1 ev. decide op h.0 kind r v u1 ev h.3 (λ u2. has r h.0 u2 h.2) (decides op v) refl))
    has (plug b ps) kind units h =
        paid_has kind units _ (λ u. then_has kinds.Html kind (eval service locals shared b u) _ (has b kinds.Html u h.0)
        (λ d u1 ed. subst (λ k. GivesKind k (fill service locals shared ps d u1)) (sym h.2) (fills ps d u1 h.1 ed)))

    fills : (ps : Fillings) (d : Value) (units : ℕ) → AreTyped service scope ps → kind_of d ≡ kinds.Html →
        GivesKind kinds.Html (fill service locals shared ps d units)
    fills no_more d units h ed = ed
    fills (filling g e ps) d units h ed =
        let t = h.0 in
        then_has t.1 kinds.Html (eval service locals shared e units) _ (has e t.1 units t.3) (λ v u1 ev.
        then_has kinds.Html kinds.Html (given (filled (names.name_number service.gaps g) v (document_of d)) u1) _
        (given_has kinds.Html (filled (names.name_number service.gaps g) v (document_of d)) u1
        (filled_has (names.name_number service.gaps g) v (document_of d)))
        (λ d1 u2 e1. fills ps d1 u2 h.1 e1))

pub values_have_kinds : ValuesHaveKinds
values_have_kinds service scope e kind locals shared units h el es = has service scope locals shared el es e kind units h

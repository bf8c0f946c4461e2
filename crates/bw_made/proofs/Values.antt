-- The value of an expression is made of constants and of strings in UTF-8.
use Rattle.std.proofs.Common.{◌≡◌, ℕ, zero, suc, Bool, true, false, List, [], ◌++◌, Option, Some, None, refl, subst, length, arith}
use Rattle.std.specs.Prelude.{ℤ, pos, neg_ℤ, ◌+ℤ◌, ◌-ℤ◌, ◌*ℤ◌, nat_lt, int_div, int_rem, if◌then◌else◌, find, Result, Ok, Err, IsUtf8}
use Rattle.std.specs.List.{AllByRecursion}
use Rattle.std.specs.Option.{option_or}
use Rattle.std.specs.Ordering.{int_eq}
use Rattle.std.proofs.lemmas.Str.{IsUtf8-append, IsUtf8-nil, IsUtf8-from_is_utf8}
use Rattle.bw_lang.specs.declared.expr.Fun.{Fun}
use Rattle.bw_lang.specs.declared.expr.Fun.TheVariants as funs
use Rattle.bw_lang.specs.declared.expr.Op.{Op}
use Rattle.bw_lang.specs.declared.expr.Op.TheVariants.{Or, And, Eq, Ne, Lt, Le, Gt, Ge, Add, Sub, Mul, Div, Rem}
use Rattle.bw_lang.specs.declared.measure.Measure.{Measure}
use Rattle.bw_lang.specs.declared.measure.MeasureFault.{MeasureFault}
use Rattle.bw_lang.specs.declared.service.Service.{Service}
use Rattle.bw_lang.specs.declared.service.Template.{Template}
use Rattle.bw_lang.specs.declared.turn.TurnFault.{TurnFault}
use Rattle.bw_lang.specs.declared.turn.TurnFault.TheVariants as faults
use Rattle.bw_lang.specs.Document.Documents as doc
use Rattle.bw_lang.specs.Document.Forest.{Forest, none}
use Rattle.bw_lang.specs.Document.Measures.{constant_measure, text_measure, plugged, tested, IsWithin}
use Rattle.bw_lang.specs.Table.Names as names
use Rattle.bw_lang.specs.Table.Names.{same, beside}
use Rattle.bw_lang.specs.Service.Term.{Term, int, truth, string, name, paren, not, neg, binary, call, plug, nothing, Fillings, no_more, filling}
use Rattle.bw_meaning.specs.Expressions.{Evaluated, Gives, Faults, paid, and_then, given, named, eval, fill}
use Rattle.bw_meaning.specs.Numbers.{fits}
use Rattle.bw_meaning.specs.Operators.{held, joined, sum, divided, decides, combined, called, filled, with_tree, document_of, number_of, text_of}
use Rattle.bw_meaning.specs.Values.{Value, Values, Document, number, truth_value, text, document, list, constant, template_value}
use Rattle.bw_typed.specs.Strings.{EachString, EachFilled, IsUtf8Text}
use Rattle.bw_made.specs.Made.{IsMadeOf, IsDocumentOf, IsText, AreTexts, GivesText}
use Rattle.bw_made.specs.Made.{IsMadeOf as making}
use Rattle.bw_made.proofs.Decimals.{signed_text}
use Rattle.bw_made.proofs.Texts.{tested_within, IfSome, all_find, some_map, some_or, some_else}

-- a template is a constant, and within the limits
abbrev pub IsOwn : (Forest → Type 0) → Template → Type 0
IsOwn Constant t = Constant t.items × IsWithin (constant_measure t.items)

-- so is each of the service's, and the document without items is a constant
pub record AreConstants (Constant : Forest → Type 0) (service : Service) : Type 0 where
  pub templates : AllByRecursion (IsOwn Constant) service.templates
  pub empty : Constant none

module _ (Constant : Forest → Type 0) where
  abbrev Text : Value → Type 0
  Text v = IsText Constant v

  abbrev pub ResultText : Result Value TurnFault → Type 0
  ResultText (Ok v) = Text v
  ResultText (Err f) = Unit {0}

  pub empty_document : Constant none → IsDocumentOf Constant (constant none)
  empty_document e = record { made = making.constant none e; within = record { weight = omega arith; depth = omega arith; nest = omega arith } }

  pub document_is : Constant none → (v : Value) → Text v → IsDocumentOf Constant (document_of v)
  document_is e (number n) h = empty_document e
  document_is e (truth_value b) h = empty_document e
  document_is e (text s) h = empty_document e
  document_is e (document d) h = h
  document_is e (list s) h = empty_document e

  text_is : (v : Value) → Text v → IsUtf8 (text_of v)
  text_is (number n) h = IsUtf8-nil
  text_is (truth_value b) h = IsUtf8-nil
  text_is (text s) h = h
  text_is (document d) h = IsUtf8-nil
  text_is (list s) h = IsUtf8-nil

  -- ---- names

  pub beside_text : (w : List ℕ) (xs : Values) → AreTexts Constant xs → IfSome Text (beside w xs)
  beside_text w xs h =
      some_map Text (λ (x : List ℕ × Value). x.1) (find (λ (x : List ℕ × Value). same w x.0) xs)
      (all_find (λ (x : List ℕ × Value). Text x.1) (λ (x : List ℕ × Value). same w x.0) xs h)

  pub template_text : (service : Service) → AllByRecursion (IsOwn Constant) service.templates → (w : List ℕ) → IfSome Text (template_value service w)
  template_text service c w =
      some_map Text (λ (t : Template). document (constant t.items)) (find (λ (t : Template). same w t.name) service.templates)
      (of_template (find (λ (t : Template). same w t.name) service.templates)
      (all_find (IsOwn Constant) (λ (t : Template). same w t.name) service.templates c))
    where
      of_template : (o : Option Template) → IfSome (IsOwn Constant) o →
          IfSome (λ (t : Template). IsDocumentOf Constant (constant t.items)) o
      of_template None h = tt
      of_template (Some t) h = record { made = making.constant t.items h.0; within = h.1 }

  pub named_text : (service : Service) → AllByRecursion (IsOwn Constant) service.templates → (locals shared : Values) (w : List ℕ) → AreTexts Constant locals →
      AreTexts Constant shared → Text (named service locals shared w)
  named_text service c locals shared w hl hs =
      some_else Text (option_or (beside w locals) (option_or (beside w shared) (template_value service w))) (number (pos 0))
      (some_or Text (beside w locals) (option_or (beside w shared) (template_value service w)) (beside_text w locals hl)
      (some_or Text (beside w shared) (template_value service w) (beside_text w shared hs) (template_text service c w))) tt

  -- ---- operators and functions

  pub held_text : (z : ℤ) → ResultText (held z)
  held_text z = by_test (fits z)
    where
      by_test : (b : Bool) → ResultText (if b then Ok (number z) else Err faults.Overflow)
      by_test true = tt
      by_test false = tt

  joined_text : (s : List ℕ) → IsUtf8 s → ResultText (joined s)
  joined_text s h = by_test (nat_lt 16384 (length s))
    where
      by_test : (b : Bool) → ResultText (if b then Err (faults.StringTooLong (length s)) else Ok (text s))
      by_test true = tt
      by_test false = h

  divided_text : (part : ℤ → ℤ → ℤ) (n d : ℤ) → ResultText (divided part n d)
  divided_text part n d = by_test (int_eq d (pos 0)) (fits (int_div n d))
    where
      by_test : (z b : Bool) → ResultText (if z then Err faults.DivideByZero else (if b then Ok (number (part n d)) else Err faults.Overflow))
      by_test true b = tt
      by_test false true = tt
      by_test false false = tt

  sum_text : (v w : Value) → Text v → Text w → ResultText (sum v w)
  sum_text (text s) w h k = joined_text (s ++ text_of w) (IsUtf8-append s (text_of w) h (text_is w k))
  sum_text (number n) w h k = held_text (n +ℤ number_of w)
  sum_text (truth_value b) w h k = held_text (pos 0 +ℤ number_of w)
  sum_text (document d) w h k = held_text (pos 0 +ℤ number_of w)
  sum_text (list l) w h k = held_text (pos 0 +ℤ number_of w)

  pub combined_text : (op : Op) (v w : Value) → Text v → Text w → ResultText (combined op v w)
  combined_text Or v w h k = k
  combined_text And v w h k = k
  combined_text Eq v w h k = tt
  combined_text Ne v w h k = tt
  combined_text Lt v w h k = tt
  combined_text Le v w h k = tt
  combined_text Gt v w h k = tt
  combined_text Ge v w h k = tt
  combined_text Add v w h k = sum_text v w h k
  combined_text Sub v w h k = held_text (number_of v -ℤ number_of w)
  combined_text Mul v w h k = held_text (number_of v *ℤ number_of w)
  combined_text Div v w h k = divided_text int_div (number_of v) (number_of w)
  combined_text Rem v w h k = divided_text int_rem (number_of v) (number_of w)

  pub called_text : (f : Fun) (v : Value) → Text (called f v)
  called_text funs.Text v = signed_text (number_of v)
  called_text funs.Number v = tt
  called_text funs.IsNumber v = tt
  called_text funs.Count v = tt

  -- ---- plugs

  tree_text : (t : Forest) (m : Measure) (r : Result Measure MeasureFault) → tested m ≡ r → IsMadeOf Constant t m → ResultText (with_tree t r)
  tree_text t m (Ok x) e h =
      let w = tested_within m x e in
      record { made = subst (IsMadeOf Constant t) w.0 h; within = subst IsWithin w.0 w.1 }
  tree_text t m (Err f) e h = tt

  pub filled_text : (g : ℕ) (v : Value) (d : Document) → Text v → IsDocumentOf Constant d → ResultText (filled g v d)
  filled_text g (text s) d h k =
      let m = plugged d.measure (text_measure (length s)) (doc.count g d.tree) (doc.around g d.tree) in
      tree_text (doc.plug_text g s d.tree) m (tested m) refl (making.fill d.tree d.measure g s h k.made)
  filled_text g (document a) d h k =
      let m = plugged d.measure a.measure (doc.count g d.tree) (doc.around g d.tree) in
      tree_text (doc.plug g a.tree d.tree) m (tested m) refl (making.plug d.tree a.tree d.measure a.measure g k.made h.made)
  filled_text g (number n) d h k = k
  filled_text g (truth_value b) d h k = k
  filled_text g (list l) d h k = k

  -- ---- expressions

  pub paid_text : (units : ℕ) (go : ℕ → Evaluated) → ((u : ℕ) → GivesText Constant (go u)) → GivesText Constant (paid units go)
  paid_text zero go h = tt
  paid_text (suc u) go h = h u

  then_text : (o : Evaluated) (go : Value → ℕ → Evaluated) → GivesText Constant o → ((v : Value) (u : ℕ) → Text v → GivesText Constant (go v u)) →
      GivesText Constant (and_then o go)
  then_text (Gives v u) go g h = h v u g
  then_text (Faults f u) go g h = tt

  pub given_text : (r : Result Value TurnFault) (u : ℕ) → ResultText r → GivesText Constant (given r u)
  given_text (Ok v) u h = h
  given_text (Err f) u h = tt

  module _ (service : Service) (c : AreConstants Constant service) (locals shared : Values) (hl : AreTexts Constant locals)
      (hs : AreTexts Constant shared) where
    decide : (op : Op) (r : Term) (v : Value) (u : ℕ) → Text v → ((u1 : ℕ) → GivesText Constant (eval service locals shared r u1)) → (b : Bool) →
        GivesText Constant (if b then Gives v u else and_then (eval service locals shared r u) (λ w. given (combined op v w)))
    decide op r v u h ih true = h
    decide op r v u h ih false =
        then_text (eval service locals shared r u) (λ w. given (combined op v w)) (ih u)
        (λ w u1 k. given_text (combined op v w) u1 (combined_text op v w h k))

    mutual
      pub value_text : (e : Term) (units : ℕ) → EachString IsUtf8Text e → GivesText Constant (eval service locals shared e units)
      value_text (int n) units h = paid_text units (Gives (number n)) (λ u. tt)
      value_text (truth b) units h = paid_text units (Gives (truth_value b)) (λ u. tt)
      value_text (string s) units h = paid_text units (Gives (text s)) (λ u. IsUtf8-from_is_utf8 s h)
      value_text nothing units h = paid_text units (Gives (list [])) (λ u. tt)
      value_text (name w) units h = paid_text units (Gives (named service locals shared w)) (λ u. named_text service c.templates locals shared w hl hs)
      value_text (paren e) units h = paid_text units (λ u. eval service locals shared e u) (λ u. value_text e u h)
      value_text (not e) units h =
          paid_text units _ (λ u. then_text (eval service locals shared e u) _ (value_text e u h) (λ v u1 k. tt))
      value_text (neg e) units h =
          paid_text units _ (λ u. then_text (eval service locals shared e u) _ (value_text e u h)
          (λ v u1 k. given_text (held (neg_ℤ (number_of v))) u1 (held_text (neg_ℤ (number_of v)))))
      value_text (call f e) units h =
          paid_text units _ (λ u. then_text (eval service locals shared e u) _ (value_text e u h) (λ v u1 k. called_text f v))
      value_text (binary op l r) units h =
          paid_text units _ (λ u. then_text (eval service locals shared l u) _ (value_text l u h.0)
          (λ v u1 k. decide op r v u1 k (λ u2. value_text r u2 h.1) (decides op v)))
      value_text (plug b ps) units h =
          paid_text units _ (λ u. then_text (eval service locals shared b u) _ (value_text b u h.0) (λ d u1 k. fills_text ps d u1 h.1 k))

      fills_text : (ps : Fillings) (d : Value) (units : ℕ) → EachFilled IsUtf8Text ps → Text d → GivesText Constant (fill service locals shared ps d units)
      fills_text no_more d units h k = k
      fills_text (filling g e ps) d units h k =
          then_text (eval service locals shared e units) _ (value_text e units h.0) (λ v u1 kv.
          then_text (given (filled (names.name_number service.gaps g) v (document_of d)) u1) _
          (given_text (filled (names.name_number service.gaps g) v (document_of d)) u1
          (filled_text (names.name_number service.gaps g) v (document_of d) kv (document_is c.empty d k)))
          (λ d1 u2 k1. fills_text ps d1 u2 h.1 k1))

-- What is known of a value, of an expression and of a plug.
use Rattle.std.specs.Prelude.{◌≡◌, ℕ, Bool, true, false, List, length, nat_lt}
use Rattle.bw_lang.specs.declared.expr.Fun.{Fun}
use Rattle.bw_lang.specs.declared.expr.Op.{Op}
use Rattle.bw_lang.specs.declared.expr.Op.TheVariants.{Or, And, Eq, Ne, Lt, Le, Gt, Ge, Add, Sub, Mul, Div, Rem}
use Rattle.bw_lang.specs.declared.service.Service.{Service}
use Rattle.bw_lang.specs.Document.Forest.{Forest}
use Rattle.bw_lang.specs.Table.Names.{same, name_number}
use Rattle.bw_lang.specs.Service.Term.{Term, int, truth, string, name, paren, not, neg, binary, call, plug, nothing, Fillings, no_more, filling}
use Rattle.bw_meaning.specs.Values.{Value}
use Rattle.bw_sum.specs.Templates.{template_items}
use Rattle.bw_sum.specs.Graph.{Graph, plugged, plugged_text, IsBelow}
use Rattle.bw_sum.specs.Opening.{has_hole}
use Rattle.bw_sum.specs.Unfolding.{Covers}
use Rattle.bw_lang.specs.declared.expr.Fun.TheVariants as funs
use Rattle.bw_meaning.specs.Values as values

-- nothing of a number, a truth value or a list; the strings that a string may be; a summary of the documents that a document may be
pub data Abstract : Type 0 where
  Nothing : Abstract
  Strings : (List ℕ → Bool) → Abstract
  Html : Graph → Abstract

-- any string
abbrev pub any : Abstract
any = Strings (λ s. true)

-- the number of a gap of the service
abbrev pub is_gap : Service → ℕ → Bool
is_gap service g = nat_lt g (length service.gaps)

-- the tree is one of those that the summary stands for, and has the gaps open that this doesn't lack
abbrev pub CoversTree : Service → Graph → Forest → Type 0
CoversTree service G d = Covers (template_items service) (is_gap service) G d

-- The value is one of those that are known. Where nothing is known it may be any.
abbrev pub covers : Service → Abstract → Value → Type 0
covers service Nothing v = Unit {0}
covers service (Strings strings) (values.number n) = ⊥
covers service (Strings strings) (values.truth_value b) = ⊥
covers service (Strings strings) (values.text s) = strings s ≡ true
covers service (Strings strings) (values.document d) = ⊥
covers service (Strings strings) (values.list l) = ⊥
covers service (Html G) (values.number n) = ⊥
covers service (Html G) (values.truth_value b) = ⊥
covers service (Html G) (values.text s) = ⊥
covers service (Html G) (values.document d) = CoversTree service G d.tree
covers service (Html G) (values.list l) = ⊥

-- the second knows no more than the first
abbrev pub Below : Abstract → Abstract → Type 0
Below Nothing Nothing = Unit {0}
Below Nothing (Strings T) = ⊥
Below Nothing (Html H) = ⊥
Below (Strings S) Nothing = Unit {0}
Below (Strings S) (Strings T) = (s : List ℕ) → S s ≡ true → T s ≡ true
Below (Strings S) (Html H) = ⊥
Below (Html G) Nothing = Unit {0}
Below (Html G) (Strings T) = ⊥
Below (Html G) (Html H) = IsBelow G H

-- of a plug
abbrev pub plugged_by : Abstract → ℕ → Abstract → Abstract
plugged_by Nothing g a = Nothing
plugged_by (Strings S) g a = Nothing
plugged_by (Html B) g Nothing = Nothing
plugged_by (Html B) g (Strings S) = Html (plugged_text B g S)
plugged_by (Html B) g (Html A) = Html (plugged B g A)

-- of a sum, by its left side: any string, or nothing of a number
abbrev pub summed_by : Abstract → Abstract
summed_by Nothing = Nothing
summed_by (Strings S) = any
summed_by (Html G) = Nothing

-- of what an operator gives, by its left side
abbrev pub combined_by : Op → Abstract → Abstract
combined_by Or a = Nothing
combined_by And a = Nothing
combined_by Eq a = Nothing
combined_by Ne a = Nothing
combined_by Lt a = Nothing
combined_by Le a = Nothing
combined_by Gt a = Nothing
combined_by Ge a = Nothing
combined_by Add a = summed_by a
combined_by Sub a = Nothing
combined_by Mul a = Nothing
combined_by Div a = Nothing
combined_by Rem a = Nothing

-- of what a function gives
abbrev pub called_by : Fun → Abstract
called_by funs.Text = any
called_by funs.Number = Nothing
called_by funs.IsNumber = Nothing
called_by funs.Count = Nothing

abbrev mutual
  -- of an expression, where `look` is what is known of each name
  pub known : Service → (List ℕ → Abstract) → Term → Abstract
  known service look (int n) = Nothing
  known service look (truth b) = Nothing
  known service look (string s) = Strings (same s)
  known service look nothing = Nothing
  known service look (name w) = look w
  known service look (paren e) = known service look e
  known service look (not e) = Nothing
  known service look (neg e) = Nothing
  known service look (call f e) = called_by f
  known service look (binary op l r) = combined_by op (known service look l)
  known service look (plug b ps) = known_filled service look ps (known service look b)

  -- of a base with these pairs, one after the other
  pub known_filled : Service → (List ℕ → Abstract) → Fillings → Abstract → Abstract
  known_filled service look no_more a = a
  known_filled service look (filling g e ps) a = known_filled service look ps (plugged_by a (name_number service.gaps g) (known service look e))

-- Holds at each pair of each plug in an expression, of what is known of the base at that pair, the gap's number, and what
-- is known of what fills it.
abbrev mutual
  pub EachPair : (Abstract → ℕ → Abstract → Type 0) → Service → (List ℕ → Abstract) → Term → Type 0
  EachPair P service look (int n) = Unit {0}
  EachPair P service look (truth b) = Unit {0}
  EachPair P service look (string s) = Unit {0}
  EachPair P service look nothing = Unit {0}
  EachPair P service look (name w) = Unit {0}
  EachPair P service look (paren e) = EachPair P service look e
  EachPair P service look (not e) = EachPair P service look e
  EachPair P service look (neg e) = EachPair P service look e
  EachPair P service look (call f e) = EachPair P service look e
  EachPair P service look (binary op l r) = EachPair P service look l × EachPair P service look r
  EachPair P service look (plug b ps) = EachPair P service look b × EachFilling P service look ps (known service look b)

  pub EachFilling : (Abstract → ℕ → Abstract → Type 0) → Service → (List ℕ → Abstract) → Fillings → Abstract → Type 0
  EachFilling P service look no_more a = Unit {0}
  EachFilling P service look (filling g e ps) a =
      P a (name_number service.gaps g) (known service look e) × EachPair P service look e
      × EachFilling P service look ps (plugged_by a (name_number service.gaps g) (known service look e))

-- there is no gap fault: the base doesn't lack the gap
abbrev pub IsNotLacked : Abstract → ℕ → Abstract → Type 0
IsNotLacked Nothing g a = Unit {0}
IsNotLacked (Strings S) g a = Unit {0}
IsNotLacked (Html G) g a = G.lack g ≡ false

-- What typing gives: a document's gap is filled, by a string or by a document. The gap is one of the service's and, where
-- a document fills it, no attribute of a template has it.
abbrev pub IsPlug : Service → Abstract → ℕ → Abstract → Type 0
IsPlug service Nothing g a = ⊥
IsPlug service (Strings S) g a = ⊥
IsPlug service (Html B) g Nothing = ⊥
IsPlug service (Html B) g (Strings S) = is_gap service g ≡ true
IsPlug service (Html B) g (Html A) = (is_gap service g ≡ true) × ((n : ℕ) → has_hole g (template_items service n) ≡ false)

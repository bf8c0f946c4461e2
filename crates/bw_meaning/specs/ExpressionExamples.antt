-- Worked examples of expressions: the value, and what is left of 100 units.
use Rattle.std.specs.Prelude.{◌≡◌, ◌+◌, pos, negsuc, true, false, [], ◌∷◌, codes, Some, None}
use Rattle.bw_lang.specs.declared.expr.Fun.TheVariants as funs
use Rattle.bw_lang.specs.declared.expr.Op.TheVariants as ops
use Rattle.bw_lang.specs.Service.Code.{done}
use Rattle.bw_lang.specs.Service.Term.{truth, string, name, paren, not, neg, binary, call, plug, nothing, no_more}
use Rattle.bw_meaning.specs.Expressions.{Gives}
use Rattle.bw_meaning.specs.Numbers.{spelled}
use Rattle.bw_meaning.specs.Samples.{n, s, c, nat, list_name, row_name, aligned_name, rows, with_n, with_a, list_items, least, greatest, of_session, value_of}
use Rattle.bw_meaning.specs.Samples.{printed, measured}
use Rattle.bw_meaning.specs.Values.{number, truth_value, text, document, list, constant, first_values}

-- one unit for each node, as it begins
pub record NodeExamples : Type 0 where
  -- 7
  pub a_number : value_of (nat 7) ≡ Gives (number (pos 7)) 99
  -- true
  pub a_truth : value_of (truth true) ≡ Gives (truth_value true) 99
  -- "ab"
  pub a_string : value_of (string (codes "ab")) ≡ Gives (text (codes "ab")) 99
  -- none
  pub an_empty_list : value_of nothing ≡ Gives (list []) 99
  -- n, which is a local
  pub a_local : value_of n ≡ Gives (number (pos 3)) 99
  -- k, which is a shared variable
  pub a_shared_variable : value_of (name (codes "k")) ≡ Gives (number (pos 5)) 99
  -- List, which is a template
  pub a_template : value_of list_name ≡ Gives (document (constant list_items)) 99
  -- (7)
  pub a_parenthesis : value_of (paren (nat 7)) ≡ Gives (number (pos 7)) 98
  -- 1 + (2 * 3)
  pub nested : value_of (binary ops.Add (nat 1) (paren (binary ops.Mul (nat 2) (nat 3)))) ≡ Gives (number (pos 7)) 94
  -- shared int k = 5; shared html past = List;
  pub first_ones : first_values (of_session done) ≡ (codes "k", number (pos 5)) ∷ (codes "past", document (constant list_items)) ∷ []

pub record OperatorExamples : Type 0 where
  -- !true
  pub negated : value_of (not (truth true)) ≡ Gives (truth_value false) 98
  -- -n
  pub opposite : value_of (neg n) ≡ Gives (number (negsuc 2)) 98
  -- n - 4
  pub difference : value_of (binary ops.Sub n (nat 4)) ≡ Gives (number (negsuc 0)) 97
  -- -9223372036854775807 - 1
  pub down_to_least : value_of (binary ops.Sub (neg (nat greatest)) (nat 1)) ≡ Gives (number least) 96
  -- -7 / 2 is -3, and -7 % 2 is -1: a quotient is rounded towards zero, and a remainder has the sign of the dividend
  pub quotient : value_of (binary ops.Div (neg (nat 7)) (nat 2)) ≡ Gives (number (negsuc 2)) 96
  pub remainder : value_of (binary ops.Rem (neg (nat 7)) (nat 2)) ≡ Gives (number (negsuc 0)) 96
  -- s + "c"
  pub joins : value_of (binary ops.Add s (string (codes "c"))) ≡ Gives (text (codes "abc")) 97
  -- n == 3, true == false, s == "ab", s != "ab"
  pub equal_numbers : value_of (binary ops.Eq n (nat 3)) ≡ Gives (truth_value true) 97
  pub equal_truths : value_of (binary ops.Eq (truth true) (truth false)) ≡ Gives (truth_value false) 97
  pub equal_strings : value_of (binary ops.Eq s (string (codes "ab"))) ≡ Gives (truth_value true) 97
  pub different : value_of (binary ops.Ne s (string (codes "ab"))) ≡ Gives (truth_value false) 97
  -- n < 3, n <= 3, n > 3, n >= 3
  pub less : value_of (binary ops.Lt n (nat 3)) ≡ Gives (truth_value false) 97
  pub at_most : value_of (binary ops.Le n (nat 3)) ≡ Gives (truth_value true) 97
  pub greater : value_of (binary ops.Gt n (nat 3)) ≡ Gives (truth_value false) 97
  pub at_least : value_of (binary ops.Ge n (nat 3)) ≡ Gives (truth_value true) 97
  -- false && 1 / 0 == 1: the left side decides, and the right one isn't looked at and takes no unit
  pub decided_and : value_of (binary ops.And (truth false) (binary ops.Eq (binary ops.Div (nat 1) (nat 0)) (nat 1))) ≡ Gives (truth_value false) 98
  pub decided_or : value_of (binary ops.Or (truth true) (binary ops.Eq (binary ops.Div (nat 1) (nat 0)) (nat 1))) ≡ Gives (truth_value true) 98
  -- true && false, false || true
  pub both_hold : value_of (binary ops.And (truth true) (truth false)) ≡ Gives (truth_value false) 97
  pub one_holds : value_of (binary ops.Or (truth false) (truth true)) ≡ Gives (truth_value true) 97

pub record FunctionExamples : Type 0 where
  -- text(-12)
  pub text_of_number : value_of (call funs.Text (neg (nat 12))) ≡ Gives (text (codes "-12")) 97
  -- number("-12"), number("1a")
  pub number_of_text : value_of (call funs.Number (string (codes "-12"))) ≡ Gives (number (negsuc 11)) 98
  pub no_number : value_of (call funs.Number (string (codes "1a"))) ≡ Gives (number (pos 0)) 98
  -- isnumber("007"), isnumber("")
  pub spells_number : value_of (call funs.IsNumber (string (codes "007"))) ≡ Gives (truth_value true) 98
  pub spells_none : value_of (call funs.IsNumber (string [])) ≡ Gives (truth_value false) 98
  -- count(c), count(none)
  pub count_two : value_of (call funs.Count c) ≡ Gives (number (pos 2)) 98
  pub count_none : value_of (call funs.Count nothing) ≡ Gives (number (pos 0)) 98
  -- what spells a number: 64 bits, an optional minus, digits and nothing else
  pub spells : spelled (codes "-9223372036854775808") ≡ Some least
  pub too_big : spelled (codes "9223372036854775808") ≡ None
  pub no_digit : spelled (codes "-") ≡ None
  pub plus : spelled (codes "+1") ≡ None
  pub blank : spelled (codes " 1") ≡ None

-- a constant of List has weight 64 * (1 + 2), depth 1 and nest 1; one of Row weight 64 * (1 + 3)
pub record PlugExamples : Type 0 where
  pub a_constant : measured (value_of list_name) ≡ record { weight = 192; depth = 1; nest = 1 }
  -- List<[rows="a<b"] is one node besides its two parts
  pub a_string : printed (value_of (plug list_name (rows (string (codes "a<b")) no_more))) ≡ codes "<ul>a&lt;b</ul>"
  pub string_measure : measured (value_of (plug list_name (rows (string (codes "a<b")) no_more))) ≡ record { weight = 64 + 192 + 19; depth = 2; nest = 1 }
  -- List<[rows=Row<[n=s]]
  pub a_document : printed (value_of (plug list_name (rows (plug row_name (with_n s no_more)) no_more))) ≡ codes "<ul><li>ab</li></ul>"
  pub document_measure : measured (value_of (plug list_name (rows (plug row_name (with_n s no_more)) no_more))) ≡ record
      { weight = 64 + 192 + (64 + 256 + 18); depth = 3; nest = 2 }
  -- List<[rows=Row, n=s]: the second pair fills what the first one brought
  pub pairs : printed (value_of (plug list_name (rows row_name (with_n s no_more)))) ≡ codes "<ul><li>ab</li></ul>"
  -- List<[rows=Row<[n="a"]]<[rows=Row<[n="b"]]: the row that was put in first stays first, since each brings a gap behind it
  pub older_first : printed (value_of (plug (plug list_name (rows (plug row_name (with_n (string (codes "a")) no_more)) no_more))
      (rows (plug row_name (with_n (string (codes "b")) no_more)) no_more))) ≡ codes "<ul><li>a</li><li>b</li></ul>"
  -- Aligned<[a="left"]
  pub an_attribute : printed (value_of (plug aligned_name (with_a (string (codes "left")) no_more))) ≡ codes "<p align=\"left\">x</p>"
  pub attribute_measure : measured (value_of (plug aligned_name (with_a (string (codes "left")) no_more))) ≡ record
      { weight = 64 + 257 + 20; depth = 2; nest = 1 }
  -- Aligned<[n=s]: no such gap is open, so the tree stays; the weight and the depth rise
  pub elsewhere : printed (value_of (plug aligned_name (with_n s no_more))) ≡ codes "<p>x</p>"
  pub elsewhere_measure : measured (value_of (plug aligned_name (with_n s no_more))) ≡ record { weight = 64 + 257; depth = 2; nest = 1 }

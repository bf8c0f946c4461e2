-- What is so in at most one way.
use Rattle.std.proofs.Common.{ℕ, List, [], ◌∷◌}
use Rattle.std.proofs.Math.Bool.{Bool-set}
use Rattle.std.specs.Coded.{le_prop}
use Rattle.bw_lang.specs.declared.service.Literal.{Literal}
use Rattle.bw_lang.specs.declared.service.Literal.TheVariants as literals
use Rattle.bw_lang.specs.declared.service.Session.{Session}
use Rattle.bw_lang.specs.declared.service.Shared.{Shared}
use Rattle.bw_lang.specs.declared.stmt.Receive.{Receive}
use Rattle.bw_lang.specs.Service.Code.{Code, done, declare, assign, if_then, if_else, while_loop, block, for_each, show, exit}
use Rattle.bw_lang.specs.Text.Levels.{IsSome, IsWritable, Levelled, AreLevelled}
use Rattle.bw_lang.specs.Text.Spelling.{HaveTargets, IsCode}
use Rattle.bw_lang.specs.Service.Term.{Term, int, truth, string, name, paren, not, neg, binary, call, plug, nothing, Fillings, no_more, filling}
use Rattle.std.specs.Prelude.{ℤ, pos, negsuc}
use Rattle.bw_typed.specs.ShortNames.{HasShortNames, HaveShortNames, CodeHasShortNames, NamesShort, IsShortShared, IsShortSession}
use Rattle.bw_typed.specs.Strings.{EachString, EachFilled, CodeStrings, LiteralString}

writable_prop : (n : ℤ) → IsProp (IsWritable n)
writable_prop (pos n) = hlevel le_prop
writable_prop (negsuc n) = hlevel le_prop

some_prop : (ps : Fillings) → IsProp (IsSome ps)
some_prop no_more = hlevel le_prop
some_prop (filling w e ps) = hlevel le_prop

mutual
  levelled_prop : (e : Term) → IsProp (Levelled e)
  levelled_prop (int n) = writable_prop n
  levelled_prop (truth b) = hlevel le_prop
  levelled_prop (string s) = hlevel le_prop
  levelled_prop (name w) = hlevel Bool-set
  levelled_prop (paren e) = levelled_prop e
  levelled_prop (not e) = hlevel (le_prop, levelled_prop e)
  levelled_prop (neg e) = hlevel (le_prop, levelled_prop e)
  levelled_prop (binary op l r) = hlevel (le_prop, levelled_prop l, levelled_prop r)
  levelled_prop (call f e) = levelled_prop e
  levelled_prop (plug b ps) = hlevel (le_prop, some_prop ps, levelled_prop b, are_levelled_prop ps)
  levelled_prop nothing = hlevel le_prop

  are_levelled_prop : (ps : Fillings) → IsProp (AreLevelled ps)
  are_levelled_prop no_more = hlevel le_prop
  are_levelled_prop (filling w e ps) = hlevel (levelled_prop e, are_levelled_prop ps)

targets_prop : (rs : List Receive) → IsProp (HaveTargets rs)
targets_prop [] = hlevel le_prop
targets_prop (r ∷ rs) = hlevel (Bool-set, targets_prop rs)

pub code_prop : (c : Code) → IsProp (IsCode c)
code_prop done = hlevel le_prop
code_prop (declare t w e rest) = hlevel (Bool-set, levelled_prop e, code_prop rest)
code_prop (assign w e rest) = hlevel (Bool-set, levelled_prop e, code_prop rest)
code_prop (if_then t y rest) = hlevel (levelled_prop t, code_prop y, code_prop rest)
code_prop (if_else t y n rest) = hlevel (levelled_prop t, code_prop y, code_prop n, code_prop rest)
code_prop (while_loop t b rest) = hlevel (levelled_prop t, code_prop b, code_prop rest)
code_prop (block b rest) = hlevel (code_prop b, code_prop rest)
code_prop (for_each w e b rest) = hlevel (Bool-set, levelled_prop e, code_prop b, code_prop rest)
code_prop (show p rs rest) = hlevel (levelled_prop p, targets_prop rs, code_prop rest)
code_prop (exit p rest) = hlevel (levelled_prop p, code_prop rest)

-- ---- strings

module _ (P : List ℕ → Type 0) (p : (s : List ℕ) → IsProp (P s)) where
  mutual
    each_string_prop : (e : Term) → IsProp (EachString P e)
    each_string_prop (int n) = hlevel le_prop
    each_string_prop (truth b) = hlevel le_prop
    each_string_prop (string s) = p s
    each_string_prop (name w) = hlevel le_prop
    each_string_prop (paren e) = each_string_prop e
    each_string_prop (not e) = each_string_prop e
    each_string_prop (neg e) = each_string_prop e
    each_string_prop (binary op l r) = hlevel (each_string_prop l, each_string_prop r)
    each_string_prop (call f e) = each_string_prop e
    each_string_prop (plug b ps) = hlevel (each_string_prop b, each_filled_prop ps)
    each_string_prop nothing = hlevel le_prop

    each_filled_prop : (ps : Fillings) → IsProp (EachFilled P ps)
    each_filled_prop no_more = hlevel le_prop
    each_filled_prop (filling w e ps) = hlevel (each_string_prop e, each_filled_prop ps)

  pub code_strings_prop : (c : Code) → IsProp (CodeStrings P c)
  code_strings_prop done = hlevel le_prop
  code_strings_prop (declare t w e rest) = hlevel (each_string_prop e, code_strings_prop rest)
  code_strings_prop (assign w e rest) = hlevel (each_string_prop e, code_strings_prop rest)
  code_strings_prop (if_then t y rest) = hlevel (each_string_prop t, code_strings_prop y, code_strings_prop rest)
  code_strings_prop (if_else t y n rest) = hlevel (each_string_prop t, code_strings_prop y, code_strings_prop n, code_strings_prop rest)
  code_strings_prop (while_loop t b rest) = hlevel (each_string_prop t, code_strings_prop b, code_strings_prop rest)
  code_strings_prop (block b rest) = hlevel (code_strings_prop b, code_strings_prop rest)
  code_strings_prop (for_each w e b rest) = hlevel (each_string_prop e, code_strings_prop b, code_strings_prop rest)
  code_strings_prop (show page rs rest) = hlevel (each_string_prop page, code_strings_prop rest)
  code_strings_prop (exit page rest) = hlevel (each_string_prop page, code_strings_prop rest)

  pub literal_string_prop : (l : Literal) → IsProp (LiteralString P l)
  literal_string_prop (literals.Int n) = hlevel le_prop
  literal_string_prop (literals.Bool b) = hlevel le_prop
  literal_string_prop (literals.Str s) = p s
  literal_string_prop (literals.Tmpl w) = hlevel le_prop

-- ---- short names

mutual
  has_names_prop : (e : Term) → IsProp (HasShortNames e)
  has_names_prop (int n) = hlevel le_prop
  has_names_prop (truth b) = hlevel le_prop
  has_names_prop (string s) = hlevel le_prop
  has_names_prop (name w) = hlevel le_prop
  has_names_prop (paren e) = has_names_prop e
  has_names_prop (not e) = has_names_prop e
  has_names_prop (neg e) = has_names_prop e
  has_names_prop (binary op l r) = hlevel (has_names_prop l, has_names_prop r)
  has_names_prop (call f e) = has_names_prop e
  has_names_prop (plug b ps) = hlevel (has_names_prop b, have_names_prop ps)
  has_names_prop nothing = hlevel le_prop

  have_names_prop : (ps : Fillings) → IsProp (HaveShortNames ps)
  have_names_prop no_more = hlevel le_prop
  have_names_prop (filling w e ps) = hlevel (le_prop, has_names_prop e, have_names_prop ps)

names_prop : (c : Code) → IsProp (CodeHasShortNames c)
names_prop done = hlevel le_prop
names_prop (declare t w e rest) = hlevel (le_prop, has_names_prop e, names_prop rest)
names_prop (assign w e rest) = hlevel (le_prop, has_names_prop e, names_prop rest)
names_prop (if_then t y rest) = hlevel (has_names_prop t, names_prop y, names_prop rest)
names_prop (if_else t y n rest) = hlevel (has_names_prop t, names_prop y, names_prop n, names_prop rest)
names_prop (while_loop t b rest) = hlevel (has_names_prop t, names_prop b, names_prop rest)
names_prop (block b rest) = hlevel (names_prop b, names_prop rest)
names_prop (for_each w e b rest) = hlevel (le_prop, has_names_prop e, names_prop b, names_prop rest)
names_prop (show p rs rest) = hlevel (le_prop, has_names_prop p, names_prop rest)
names_prop (exit p rest) = hlevel (has_names_prop p, names_prop rest)

literal_names_prop : (l : Literal) → IsProp (NamesShort l)
literal_names_prop (literals.Int n) = hlevel le_prop
literal_names_prop (literals.Bool b) = hlevel le_prop
literal_names_prop (literals.Str s) = hlevel le_prop
literal_names_prop (literals.Tmpl w) = hlevel le_prop

pub short_shared_prop : (v : Shared) → IsProp (IsShortShared v)
short_shared_prop v = hlevel (le_prop, literal_names_prop v.init)

pub short_session_prop : (x : Session) → IsProp (IsShortSession x)
short_session_prop x = hlevel (le_prop, names_prop x.body)

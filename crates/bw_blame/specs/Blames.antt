-- The tests of names and kinds that fail, with their places: the walk of the tests once more, with what each tests.
use Rattle.std.specs.Prelude.{◌≡◌, ℕ, ◌+◌, ◌<◌, ◌^◌, not, List, [], ◌∷◌, ◌++◌, map, length, Option, Some, None}
use Rattle.bw_lang.specs.declared.declaration.Declaration.{Declaration}
use Rattle.bw_lang.specs.declared.declaration.Declaration.TheVariants as declarations
use Rattle.bw_lang.specs.declared.items.Attr.{Attr}
use Rattle.bw_lang.specs.declared.service.Service.{Service}
use Rattle.bw_lang.specs.declared.stmt.Kind.{Kind}
use Rattle.bw_lang.specs.declared.stmt.Kind.TheVariants.{Int, Bool as Truth, Str, Html, Strs}
use Rattle.bw_lang.specs.declared.stmt.Receive.{Receive}
use Rattle.bw_lang.specs.Document.Forest.{Forest, none, text, gap, element}
use Rattle.bw_lang.specs.Service.Code.{Code, done, declare, assign, if_then, if_else, while_loop, block, for_each, show, exit}
use Rattle.bw_lang.specs.Service.Order.{declarations_of}
use Rattle.bw_lang.specs.Service.Reads.{IsReadable}
use Rattle.bw_lang.specs.Service.Term.{Term, int, truth, string, name, paren, not as negated, neg, binary, call, plug, nothing, Fillings, no_more, filling}
use Rattle.bw_blame.specs.declared.site.Blamed.{Blamed}
use Rattle.bw_blame.specs.declared.site.Missed.{Missed}
use Rattle.bw_blame.specs.declared.site.Missed.TheVariants.{At, Memory}
use Rattle.bw_blame.specs.declared.site.Site.{Site}
use Rattle.bw_blame.specs.declared.site.Site.TheVariants.{Tokens, Target, Literal, StartTag, Hole}
use Rattle.bw_places.specs.Counts.{term_tokens, receive_tokens, code_tokens}
use Rattle.bw_places.specs.Tags.{tags}
use Rattle.bw_types.specs.declared.fault.GapKind.TheVariants.{Content}
use Rattle.bw_types.specs.declared.fault.TypeFault.{TypeFault}
use Rattle.bw_types.specs.declared.fault.TypeFault.TheVariants as faults
use Rattle.bw_types.specs.ExpressionFaults.{kind_of, demand, demand_same, left_demand, right_demand, op_sort, fun_takes, gap_demand, gap_unknown, name_unknown}
use Rattle.bw_types.specs.Faults.{local_repeated, receive_fault, ends_in_exit, literal_kind, literal_unknown, faults_of}
use Rattle.bw_types.specs.Gaps.{kind_of_gap}
use Rattle.bw_types.specs.Scopes.{Scope, no_locals, is_among, name_of, name_kind, variable_kind, with_local, scope_behind, behind_each}
use Rattle.bw_types.specs.TemplateFaults.{fault_if, gap_fault, element_faults}

-- a test that fails, and what it is about
pub record Blame : Type 0 where
  pub fault : TypeFault
  pub declaration : ℕ
  pub site : Site

-- these faults, about this part of a declaration
abbrev pub about : ℕ → Site → List TypeFault → List Blame
about d site found = map (λ f. record { fault = f; declaration = d; site = site }) found

-- so many tokens
abbrev pub these : ℕ → ℕ → Site
these p count = Tokens p (p + count)

-- ---- expressions, of which the first token is p

abbrev mutual
  pub blames_in : Service → Scope → ℕ → ℕ → Term → List Blame
  blames_in service scope d p (int n) = []
  blames_in service scope d p (truth b) = []
  blames_in service scope d p (string s) = []
  blames_in service scope d p nothing = []
  blames_in service scope d p (name w) = about d (these p 1) (name_unknown w (name_kind service scope w))
  blames_in service scope d p (paren e) = blames_in service scope d (p + 1) e
  blames_in service scope d p (negated e) =
      blames_in service scope d (p + 1) e ++ about d (these (p + 1) (term_tokens e)) (demand Truth (kind_of service scope e))
  blames_in service scope d p (neg e) =
      blames_in service scope d (p + 1) e ++ about d (these (p + 1) (term_tokens e)) (demand Int (kind_of service scope e))
  blames_in service scope d p (binary op l r) =
      blames_in service scope d p l ++ (about d (these p (term_tokens l)) (left_demand (op_sort op) (kind_of service scope l)) ++
      (blames_in service scope d (p + term_tokens l + 1) r ++ about d (these (p + term_tokens l + 1) (term_tokens r))
      (right_demand (op_sort op) (kind_of service scope l) (kind_of service scope r))))
  blames_in service scope d p (call f e) =
      blames_in service scope d (p + 2) e ++ about d (these (p + 2) (term_tokens e)) (demand (fun_takes f) (kind_of service scope e))
  blames_in service scope d p (plug b ps) =
      blames_in service scope d p b ++ (about d (these p (term_tokens b)) (demand Html (kind_of service scope b)) ++
      blames_in_pairs service scope d (p + term_tokens b) ps)

  -- the first token is the sign in front of the first pair
  pub blames_in_pairs : Service → Scope → ℕ → ℕ → Fillings → List Blame
  blames_in_pairs service scope d p no_more = []
  blames_in_pairs service scope d p (filling w e ps) =
      about d (these (p + 1) 1) (gap_unknown w (kind_of_gap service w)) ++ (blames_in service scope d (p + 3) e ++
      (about d (these (p + 3) (term_tokens e)) (gap_demand (kind_of_gap service w) (kind_of service scope e)) ++
      blames_in_pairs service scope d (p + 3 + term_tokens e) ps))

-- an expression of this kind is demanded
abbrev pub blames_wanted : Service → Scope → ℕ → ℕ → Kind → Term → List Blame
blames_wanted service scope d p kind e =
    blames_in service scope d p e ++ about d (these p (term_tokens e)) (demand kind (kind_of service scope e))

-- ---- statements, of which the first token is p

-- a local, whose name is token p, and what it is declared with, from token q on
abbrev pub blames_local : Service → Scope → ℕ → ℕ → ℕ → List ℕ → Kind → Term → List Blame
blames_local service scope d p q w kind e = about d (these p 1) (local_repeated service scope w) ++ blames_wanted service scope d q kind e

-- receives, each behind a sign, of which the first is token p
abbrev pub blames_receives : Service → Scope → ℕ → ℕ → List Receive → List Blame
blames_receives service scope d p [] = []
blames_receives service scope d p (r ∷ rs) = about d (Target (p + 1)) (receive_fault service scope r) ++ blames_receives service scope d (p + 4) rs

abbrev pub blames_code : Service → Scope → ℕ → ℕ → Code → List Blame
blames_code service scope d p done = []
blames_code service scope d p (declare kind w e rest) =
    blames_local service scope d (p + 1) (p + 3) w kind e ++ blames_code service (with_local scope w kind) d (p + 4 + term_tokens e) rest
blames_code service scope d p (assign w e rest) =
    about d (these p 1) (name_unknown w (variable_kind service scope w)) ++ (blames_in service scope d (p + 2) e ++
    (about d (these (p + 2) (term_tokens e)) (demand_same (variable_kind service scope w) (kind_of service scope e)) ++
    blames_code service scope d (p + 3 + term_tokens e) rest))
blames_code service scope d p (if_then t y rest) =
    blames_wanted service scope d (p + 2) Truth t ++ (blames_code service scope d (p + 4 + term_tokens t) y ++
    blames_code service (scope_behind scope y) d (p + 5 + term_tokens t + code_tokens y) rest)
blames_code service scope d p (if_else t y n rest) =
    blames_wanted service scope d (p + 2) Truth t ++ (blames_code service scope d (p + 4 + term_tokens t) y ++
    (blames_code service (scope_behind scope y) d (p + 7 + term_tokens t + code_tokens y) n ++
    blames_code service (scope_behind (scope_behind scope y) n) d (p + 8 + term_tokens t + code_tokens y + code_tokens n) rest))
blames_code service scope d p (while_loop t b rest) =
    blames_wanted service scope d (p + 2) Truth t ++ (blames_code service scope d (p + 4 + term_tokens t) b ++
    blames_code service (scope_behind scope b) d (p + 5 + term_tokens t + code_tokens b) rest)
blames_code service scope d p (block b rest) =
    blames_code service scope d (p + 1) b ++ blames_code service (scope_behind scope b) d (p + 2 + code_tokens b) rest
blames_code service scope d p (for_each w e b rest) =
    blames_local service scope d (p + 2) (p + 4) w Strs e ++ (blames_code service (with_local scope w Str) d (p + 6 + term_tokens e) b ++
    blames_code service (behind_each scope w b) d (p + 7 + term_tokens e + code_tokens b) rest)
blames_code service scope d p (show e rs rest) =
    blames_wanted service scope d (p + 1) Html e ++ (blames_receives service scope d (p + 2 + term_tokens e) rs ++
    blames_code service scope d (p + 2 + term_tokens e + receive_tokens rs) rest)
blames_code service scope d p (exit e rest) =
    blames_wanted service scope d (p + 1) Html e ++ blames_code service scope d (p + 2 + term_tokens e) rest

-- ---- templates

-- how many gaps stand among items, outside tags
abbrev pub holes : Forest → ℕ
holes none = 0
holes (text s rest) = holes rest
holes (gap g rest) = 1 + holes rest
holes (element tag attrs inner rest) = holes inner + holes rest

-- in items in front of which so many start tags and so many gaps stand
abbrev pub blames_items : Service → List ℕ → ℕ → ℕ → ℕ → Forest → List Blame
blames_items service template d m n none = []
blames_items service template d m n (text s rest) = blames_items service template d m n rest
blames_items service template d m n (gap g rest) = about d (Hole n) (gap_fault service g Content) ++ blames_items service template d m (n + 1) rest
blames_items service template d m n (element tag attrs inner rest) =
    about d (StartTag m) (element_faults service template tag attrs) ++ (blames_items service template d (m + 1) n inner ++
    blames_items service template d (m + 1 + length (tags inner)) (n + holes inner) rest)

-- ---- declarations

-- the token that is a declaration's name
abbrev pub name_site : Declaration → Site
name_site (declarations.Template t) = these 1 1
name_site (declarations.Shared v) = these 2 1
name_site (declarations.Session s) = these 1 1

abbrev pub own_blames : Service → ℕ → Declaration → List Blame
own_blames service d (declarations.Template t) = blames_items service t.name d 0 0 t.items
own_blames service d (declarations.Shared v) =
    about d Literal (literal_unknown service v.init) ++ about d Literal (demand v.kind (literal_kind service v.init))
own_blames service d (declarations.Session s) =
    blames_code service no_locals d 5 s.body ++ about d (these 1 1) (fault_if (not (ends_in_exit s.body)) (faults.NoExit s.name))

-- in declarations, the first of which has the number n and those in front of it these names
abbrev pub blames_behind : Service → List (List ℕ) → ℕ → List Declaration → List Blame
blames_behind service earlier d [] = []
blames_behind service earlier d (x ∷ xs) =
    about d (name_site x) (fault_if (is_among (name_of x) earlier) (faults.Repeated (name_of x))) ++ (own_blames service d x ++
    blames_behind service (earlier ++ name_of x ∷ []) (d + 1) xs)

-- all tests that fail, in source order, with their places
abbrev pub blames_of : Service → List Blame
blames_of service = blames_behind service [] 0 (declarations_of service)

-- without their places they are the tests that fail
abbrev pub TestsArePlaced : Type 0
TestsArePlaced = (service : Service) → map (λ b. b.fault) (blames_of service) ≡ faults_of service

-- what the first of them is about
abbrev pub first_site : List Blame → Option Site
first_site [] = None
first_site (b ∷ bs) = Some b.site

-- it is the first of these, or there was no memory
abbrev pub IsFirst : Missed → List Blame → Type 0
IsFirst (At site) found = first_site found ≡ Some site
IsFirst Memory found = Unit {0}

-- a test of this site fails, or there was no memory
abbrev pub missed_at : TypeFault → Site → Missed
missed_at faults.Memory site = Memory
missed_at fault site = At site

-- ---- the first declaration with a test that fails, and what its first one is about

-- those of one declaration, where the names of those in front are these
abbrev pub declared_blames : Service → List (List ℕ) → ℕ → Declaration → List Blame
declared_blames service earlier d x =
    about d (name_site x) (fault_if (is_among (name_of x) earlier) (faults.Repeated (name_of x))) ++ own_blames service d x

abbrev pub blamed : ℕ → Option Site → Option Blamed → Option Blamed
blamed d (Some site) more = Some (record { declaration = d; site = site })
blamed d None more = more

abbrev pub first_blamed : Service → List (List ℕ) → ℕ → List Declaration → Option Blamed
first_blamed service earlier d [] = None
first_blamed service earlier d (x ∷ xs) =
    blamed d (first_site (declared_blames service earlier d x)) (first_blamed service (earlier ++ name_of x ∷ []) (d + 1) xs)

-- the statements of a session have fewer than 2^63 tokens, as those of each text
abbrev pub IsShort : Declaration → Type 0
IsShort (declarations.Session s) = 6 + code_tokens s.body < 2 ^ 63
IsShort x = Unit {0}

abbrev pub AreShort : List Declaration → Type 0
AreShort [] = Unit {0}
AreShort (x ∷ xs) = IsShort x × AreShort xs

-- ---- laws

-- what a text reads as is short
abbrev pub ReadableIsShort : Type 0
ReadableIsShort = (service : Service) → IsReadable service → AreShort (declarations_of service)

abbrev pub site_of : Option Blamed → Option Site
site_of None = None
site_of (Some b) = Some b.site

-- what is blamed first is what the first test of all that fails is about
abbrev pub BlameIsFirst : Type 0
BlameIsFirst = (service : Service) → site_of (first_blamed service [] 0 (declarations_of service)) ≡ first_site (blames_of service)

-- What rounds know of values names only templates and literals of the service.
use Rattle.std.proofs.Common.{◌≡◌, ℕ, zero, suc, ◌<◌, Bool, true, false, cond, List, [], ◌∷◌, map, length, Option, Some, None, refl, arith}
use Rattle.std.specs.Prelude.{◌&&◌, not, if◌then◌else◌, option_map, unwrap_or, nat_lt, slice_get}
use Rattle.std.specs.List.{AllByRecursion, position_or_len}
use Rattle.std.specs.Option.{option_or}
use Rattle.std.proofs.lemmas.Bool.Decides.{nat_tests}
use Rattle.std.proofs.lemmas.Cmp.{nat_cmp_total}
use Rattle.bw_lang.specs.declared.expr.Fun.{Fun}
use Rattle.bw_lang.specs.declared.expr.Fun.TheVariants as funs
use Rattle.bw_lang.specs.declared.expr.Op.{Op}
use Rattle.bw_lang.specs.declared.expr.Op.TheVariants as ops
use Rattle.bw_lang.specs.declared.service.Literal.{Literal}
use Rattle.bw_lang.specs.declared.service.Literal.TheVariants as values
use Rattle.bw_lang.specs.declared.service.Service.{Service}
use Rattle.bw_lang.specs.declared.service.Shared.{Shared}
use Rattle.bw_lang.specs.declared.service.Template.{Template}
use Rattle.bw_lang.specs.declared.stmt.Kind.{Kind}
use Rattle.bw_lang.specs.declared.stmt.Kind.TheVariants as kinds
use Rattle.bw_lang.specs.Service.Order.{IsWoven}
use Rattle.bw_lang.specs.Service.Term.{Term, int, truth, string, name, paren, not as negated, neg, binary, call, plug, nothing, Fillings, no_more, filling}
use Rattle.bw_lang.specs.Table.Names.{same, name_number}
use Rattle.bw_solve.specs.Lawful.SetLaws.{merge_all, all_weaker}
use Rattle.bw_strings.specs.declared.strings.StrSet.{StrSet}
use Rattle.bw_strings.specs.declared.strings.StrSet.TheVariants.{Any, Of}
use Rattle.bw_strings.specs.Asking.{AreLiterals}
use Rattle.bw_strings.specs.Literals.{literals_of, term_strings, filling_strings, literal_strings}
use Rattle.bw_strings.specs.Strings as strings
use Rattle.bw_sum.specs.Templates.{template_items}
use Rattle.bw_types.specs.Scopes.{template_of}
use Rattle.bw_flow.specs.declared.point.Local.{Local}
use Rattle.bw_flow.specs.Steps.{Act, sets, tests, goes_over, shows, exits, joins, Step}
use Rattle.bw_analyse.specs.declared.abstracts.Abstract.{Abstract}
use Rattle.bw_analyse.specs.declared.abstracts.Abstract.TheVariants.{Nothing, Str, Html}
use Rattle.bw_analyse.specs.declared.arrows.Arrow.{Arrow}
use Rattle.bw_analyse.specs.Abstracts.{both, plugged_by, least_of}
use Rattle.bw_analyse.specs.Known.{any, of_name, of_local, of_shared, constant_at, look, of_literal, summed_by, combined_by, called_by, known, known_filled}
use Rattle.bw_flow.specs.Layout.{flow_of}
use Rattle.bw_analyse.specs.Rounds.{received_by, receives, left_by, is_local, added_by, join_some, joined, left_at, next_local, next_shared}
use Rattle.bw_analyse.specs.Rounds.{Placed, placed, arrows_to, empty_row, next_row}
use Rattle.bw_analyse.specs.Lawful.SystemLaws.{IsPlaced, all_placed}
use Rattle.bw_check.proofs.Within.Named.{AreNamed, two_named, HasLiterals, ActLiterals, point_literals, shared_literals}
use Rattle.bw_check.proofs.Within.OneSolution.{rows_after}
use Rattle.bw_check.proofs.Within.Within.{IsWithin, constant_within, join_within, plug_within, text_within}

pub literals_both : (literals : List (List ℕ)) (a b : StrSet) → AreLiterals literals a → AreLiterals literals b → AreLiterals literals (strings.both a b)
literals_both literals Any b h k = tt
literals_both literals (Of xs) Any h k = tt
literals_both literals (Of xs) (Of ys) h k = merge_all nat_cmp_total (λ n. n < length literals) xs ys h k

all_maps : {X : Type 0} (P : Abstract → Type 0) (f : X → Abstract) (xs : List X) → AllByRecursion (λ x. P (f x)) xs → AllByRecursion P (map f xs)
all_maps P f [] h = tt
all_maps P f (x ∷ xs) h = (h.0, all_maps P f xs h.1)

each_of : {X : Type 0} (P : X → Type 0) (xs : List X) → ((x : X) → P x) → AllByRecursion P xs
each_of P [] h = tt
each_of P (x ∷ xs) h = (h x, each_of P xs h)

module _ (service : Service) where
  -- the strings are literals of the service
  abbrev pub AreStrings : StrSet → Type 0
  AreStrings s = AreLiterals (literals_of service) s

  -- what is known names only templates and literals of the service
  abbrev pub IsKept : Abstract → Type 0
  IsKept Nothing = Unit {0}
  IsKept (Str s) = AreStrings s
  IsKept (Html s) = IsWithin (length service.templates) AreStrings s

  -- where something is known
  abbrev IsKeptOption : Option Abstract → Type 0
  IsKeptOption None = Unit {0}
  IsKeptOption (Some a) = IsKept a

  abbrev pub AreKept : List Abstract → Type 0
  AreKept row = AllByRecursion IsKept row

  -- ---- values

  kept_both : (a b : Abstract) → IsKept a → IsKept b → IsKept (both a b)
  kept_both (Str s) (Str r) h k = literals_both (literals_of service) s r h k
  kept_both (Html s) (Html r) h k = join_within (length service.templates) AreStrings (literals_both (literals_of service)) s r h k
  kept_both a b h k = tt

  kept_plug : (a : Abstract) (g : ℕ) (b : Abstract) → IsKept a → IsKept b → IsKept (plugged_by a g b)
  kept_plug (Html s) g (Html r) h k = plug_within (length service.templates) AreStrings (literals_both (literals_of service)) s g r h k
  kept_plug (Html s) g (Str r) h k = text_within (length service.templates) AreStrings (literals_both (literals_of service)) s g r h k
  kept_plug a g b h k = tt

  least_kept : (k : Kind) → IsKept (least_of k)
  least_kept kinds.Int = tt
  least_kept kinds.Bool = tt
  least_kept kinds.Str = tt
  least_kept kinds.Html = record { roots = tt; edges = tt; texts = tt; tracks = tt }
  least_kept kinds.Strs = tt

  summed_kept : (a : Abstract) → IsKept (summed_by a)
  summed_kept Nothing = tt
  summed_kept (Str s) = tt
  summed_kept (Html s) = tt

  combined_kept : (op : Op) (a : Abstract) → IsKept (combined_by op a)
  combined_kept ops.Add a = summed_kept a
  combined_kept op a = tt

  called_kept : (f : Fun) → IsKept (called_by f)
  called_kept funs.Text = tt
  called_kept f = tt

  received_kept : (o : Option Abstract) → IsKeptOption (option_map received_by o)
  received_kept None = tt
  received_kept (Some Nothing) = tt
  received_kept (Some (Str s)) = tt
  received_kept (Some (Html s)) = tt

  template_kept : (w : List ℕ) → IsKept (constant_at service (template_of service w))
  template_kept w = by_test (nat_lt n (length service.templates)) refl
    where
      n : ℕ
      n = position_or_len (λ (t : Template). same w t.name) service.templates

      by_test : (b : Bool) → nat_lt n (length service.templates) ≡ b → IsKept (constant_at service (cond b (Some n) None))
      by_test true e =
          constant_within (length service.templates) AreStrings (literals_both (literals_of service)) n (template_items service n) (length service.gaps)
          (below n (length service.templates) e)
        where
          below : (i k : ℕ) → nat_lt i k ≡ true → i < k
          below i k h = grind (arith, nat_tests)
      by_test false e = tt

  literal_kept : (l : Literal) → AreNamed (literals_of service) (literal_strings l) → IsKept (of_literal service l)
  literal_kept (values.Int n) h = tt
  literal_kept (values.Bool b) h = tt
  literal_kept (values.Str s) h = h
  literal_kept (values.Tmpl w) h = template_kept w

  -- ---- expressions

  module _ (names : List ℕ → Abstract) (kept : (w : List ℕ) → IsKept (names w)) where
    mutual
      pub known_kept : (e : Term) → HasLiterals service e → IsKept (known service names e)
      known_kept (int n) h = tt
      known_kept (truth b) h = tt
      known_kept (string s) h = h
      known_kept nothing h = tt
      known_kept (name w) h = kept w
      known_kept (paren e) h = known_kept e h
      known_kept (negated e) h = tt
      known_kept (neg e) h = tt
      known_kept (call f e) h = called_kept f
      known_kept (binary op l r) h = combined_kept op (known service names l)
      known_kept (plug b ps) h =
          let r = two_named (literals_of service) (term_strings b) (filling_strings ps) h in
          filled_kept ps (known service names b) (known_kept b r.0) r.1

      filled_kept : (ps : Fillings) (a : Abstract) → IsKept a → AreNamed (literals_of service) (filling_strings ps)
          → IsKept (known_filled service names ps a)
      filled_kept no_more a k h = k
      filled_kept (filling g e ps) a k h =
          let r = two_named (literals_of service) (term_strings e) (filling_strings ps) h in
          filled_kept ps (plugged_by a (name_number service.gaps g) (known service names e))
          (kept_plug a (name_number service.gaps g) (known service names e) k (known_kept e r.0)) r.1

  -- ---- names

  named_kept : (ns : List (List ℕ)) (row : List Abstract) (w : List ℕ) → AreKept row → IsKeptOption (of_name ns row w)
  named_kept [] row w h = tt
  named_kept (n ∷ ns) [] w h = tt
  named_kept (n ∷ ns) (a ∷ row) w h = by_test (same w n) (named_kept ns row w h.1)
    where
      by_test : (b : Bool) → IsKeptOption (of_name ns row w) → IsKeptOption (if b then Some a else of_name ns row w)
      by_test true r = h.0
      by_test false r = r

  pick_kept : (a b : Option Abstract) (c : Abstract) → IsKeptOption a → IsKeptOption b → IsKept c → IsKept (unwrap_or (option_or a b) c)
  pick_kept None None c h k l = l
  pick_kept None (Some b) c h k l = k
  pick_kept (Some a) b c h k l = h

  if_kept : (b : Bool) (x y : Option Abstract) → IsKeptOption x → IsKeptOption y → IsKeptOption (if b then x else y)
  if_kept true x y h k = h
  if_kept false x y h k = k

  module _ (scope : List Local) (row shared : List Abstract) (kept : AreKept row) (kept2 : AreKept shared) where
    local_kept : (w : List ℕ) → IsKeptOption (of_local scope row w)
    local_kept w = named_kept (map (λ l. l.name) scope) row w kept

    pub look_kept : (w : List ℕ) → IsKept (look service scope row shared w)
    look_kept w =
        pick_kept (of_local scope row w) (of_shared service.shared shared w) (constant_at service (template_of service w)) (local_kept w)
        (named_kept (map (λ v. v.name) service.shared) shared w kept2) (template_kept w)

    -- what a point leaves in a local, and what it adds to a shared variable
    left_kept : (is_first : Bool) (w : List ℕ) (act : Act) → ActLiterals service act → IsKeptOption (left_by service scope row shared is_first w act)
    left_kept is_first w (sets v e) h =
        if_kept (same w v) (Some (known service (look service scope row shared) e)) (of_local scope row w)
        (known_kept (look service scope row shared) look_kept e h) (local_kept w)
    left_kept is_first w (goes_over v e) h = if_kept (is_first && same w v) (Some any) (of_local scope row w) tt (local_kept w)
    left_kept is_first w (shows e rs) h =
        if_kept (receives w rs) (option_map received_by (of_local scope row w)) (of_local scope row w) (received_kept (of_local scope row w)) (local_kept w)
    left_kept is_first w (tests e) h = local_kept w
    left_kept is_first w (exits e) h = local_kept w
    left_kept is_first w joins h = local_kept w

    added_kept : (w : List ℕ) (act : Act) → ActLiterals service act → IsKeptOption (added_by service scope row shared w act)
    added_kept w (sets v e) h =
        if_kept (same w v && not (is_local scope w)) (Some (known service (look service scope row shared) e)) None
        (known_kept (look service scope row shared) look_kept e h) tt
    added_kept w (goes_over v e) h = tt
    added_kept w (shows e rs) h =
        if_kept (receives w rs && not (is_local scope w)) (option_map received_by (of_shared service.shared shared w)) None
        (received_kept (of_shared service.shared shared w)) tt
    added_kept w (tests e) h = tt
    added_kept w (exits e) h = tt
    added_kept w joins h = tt

  -- ---- rounds

  joined_kept : {X : Type 0} (of : X → Option Abstract) (xs : List X) (last : Abstract) → AllByRecursion (λ x. IsKeptOption (of x)) xs → IsKept last
      → IsKept (joined of xs last)
  joined_kept of [] last h k = k
  joined_kept of (x ∷ xs) last h k = one (of x) h.0 (joined_kept of xs last h.1 k)
    where
      one : (o : Option Abstract) → IsKeptOption o → IsKept (joined of xs last) → IsKept (join_some o (joined of xs last))
      one None g r = r
      one (Some a) g r = kept_both a (joined of xs last) g r

  module _ (woven : IsWoven service) where
    abbrev flow : List Step
    flow = flow_of service

    module _ (f : ℕ → List Abstract) (kept : (c : ℕ) → AreKept (f c)) where
      arrow_kept : (w : List ℕ) (a : Arrow) (o : Option Step) → slice_get flow a.from ≡ o → IsKeptOption (left_at service flow f w a o)
      arrow_kept w a None e = tt
      arrow_kept w a (Some x) e =
          left_kept x.scope (f a.from) (f (length flow)) (kept a.from) (kept (length flow)) a.is_first w x.act (point_literals service woven a.from x e)

      next_local_kept : (q : ℕ) (l : Local) → IsKept (next_local service flow f (arrows_to q 0 flow) l)
      next_local_kept q l =
          joined_kept (λ (a : Arrow). left_at service flow f l.name a (slice_get flow a.from)) (arrows_to q 0 flow) (least_of l.kind)
          (each_of (λ (a : Arrow). IsKeptOption (left_at service flow f l.name a (slice_get flow a.from))) (arrows_to q 0 flow)
          (λ a. arrow_kept l.name a (slice_get flow a.from) refl)) (least_kept l.kind)

      next_shared_kept : (v : Shared) → AreNamed (literals_of service) (literal_strings v.init) → IsKept (next_shared service flow f v)
      next_shared_kept v h =
          joined_kept (λ (x : Placed). added_by service x.step.scope (f x.place) (f (length flow)) v.name x.step.act) (placed 0 flow)
          (both (of_literal service v.init) (least_of v.kind))
          (all_weaker (IsPlaced flow) (λ (x : Placed). IsKeptOption (added_by service x.step.scope (f x.place) (f (length flow)) v.name x.step.act))
          (placed 0 flow)
          (λ x at. added_kept x.step.scope (f x.place) (f (length flow)) (kept x.place) (kept (length flow)) v.name x.step.act
          (point_literals service woven x.place x.step at)) (all_placed flow))
          (kept_both (of_literal service v.init) (least_of v.kind) (literal_kept v.init h) (least_kept v.kind))

      next_kept : (q : ℕ) (o : Option Step) → AreKept (next_row service flow f q o)
      next_kept q None =
          all_maps IsKept (next_shared service flow f) service.shared
          (all_weaker (λ (v : Shared). AreNamed (literals_of service) (literal_strings v.init)) (λ (v : Shared). IsKept (next_shared service flow f v))
          service.shared next_shared_kept (shared_literals service woven))
      next_kept q (Some x) =
          all_maps IsKept (next_local service flow f (arrows_to q 0 flow)) x.scope
          (each_of (λ (l : Local). IsKept (next_local service flow f (arrows_to q 0 flow) l)) x.scope (next_local_kept q))

    empty_kept : (o : Option Step) → AreKept (empty_row service o)
    empty_kept None =
        all_maps IsKept (λ (v : Shared). least_of v.kind) service.shared
        (each_of (λ (v : Shared). IsKept (least_of v.kind)) service.shared (λ v. least_kept v.kind))
    empty_kept (Some x) =
        all_maps IsKept (λ (l : Local). least_of l.kind) x.scope (each_of (λ (l : Local). IsKept (least_of l.kind)) x.scope (λ l. least_kept l.kind))

    -- the rows after any number of rounds name only templates and literals of the service
    pub rounds_kept : (n c : ℕ) → AreKept (rows_after service n c)
    rounds_kept zero c = empty_kept (slice_get flow c)
    rounds_kept (suc n) c = next_kept (rows_after service n) (rounds_kept n) c (slice_get flow c)

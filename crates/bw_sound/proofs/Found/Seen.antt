-- What is known, by its members: each operation on it is that of the laws of covering.
use Rattle.std.specs.Prelude.{◌≡◌, ℕ, suc, ◌+◌, ◌<◌, ◌||◌, Bool, true, false, not, cond, if◌then◌else◌, List, [], ◌∷◌, map, length}
use Rattle.std.specs.Prelude.{nat_lt, position, ◌^◌, Some, None}
use Rattle.std.proofs.Common.{refl, sym, ap, ◌∙◌, ◌⊎◌, ◌≤◌, subst, inl, inr, arith}
use Rattle.std.specs.List.{position_or_len}
use Rattle.std.proofs.lemmas.Bool.{cases_Bool, le-ltb, lt-ltb, ltb-true, ltb-false}
use Rattle.bw_lang.specs.declared.expr.Fun.{Fun}
use Rattle.bw_lang.specs.declared.expr.Fun.TheVariants as funs
use Rattle.bw_lang.specs.declared.expr.Op.{Op}
use Rattle.bw_lang.specs.declared.expr.Op.TheVariants.{Or, And, Eq, Ne, Lt, Le, Gt, Ge, Add, Sub, Mul, Div, Rem}
use Rattle.bw_lang.specs.declared.service.Literal.{Literal}
use Rattle.bw_lang.specs.declared.service.Literal.TheVariants as literals
use Rattle.bw_lang.specs.declared.service.Service.{Service}
use Rattle.bw_lang.specs.declared.service.Template.{Template}
use Rattle.bw_lang.specs.declared.stmt.Kind.{Kind}
use Rattle.bw_lang.specs.declared.stmt.Kind.TheVariants as kinds
use Rattle.bw_lang.specs.Table.Names.{same, name_number}
use Rattle.bw_lang.specs.Service.Term.{Term, int, truth, string, name, paren, not as negated, neg, binary, call, plug, nothing, Fillings, no_more, filling}
use Rattle.bw_strings.specs.Asking.{has_string, text_of}
use Rattle.bw_strings.specs.Literals.{literals_of, term_strings, filling_strings}
use Rattle.bw_strings.proofs.Members.{joins_by_strings, below_by_strings}
use Rattle.bw_sum.specs.Graph as graphs
use Rattle.bw_sum.specs.Graph.{Graph, graph, Same}
use Rattle.bw_sum.specs.Summaries as summaries
use Rattle.bw_sum.specs.Templates.{template_items, HasKnownGaps}
use Rattle.bw_sum.proofs.ConstantLaws.{constants}
use Rattle.bw_sum.proofs.GraphLaws.{joins as joins_are, plugs, plugs_text}
use Rattle.bw_sum.proofs.Growing.{below_by_members}
use Rattle.bw_types.specs.Scopes.{Scope, is_among, name_kind, template_names, template_of}
use Rattle.bw_types.specs.declared.fault.GapKind.{GapKind}
use Rattle.bw_types.specs.declared.fault.GapKind.TheVariants.{Content, Attribute}
use Rattle.bw_types.specs.Typing.{Fits as TakesKind, HasKind, AreTyped}
use Rattle.bw_lang.proofs.SameNames.{same_is}
use Rattle.bw_sum.specs.Constants.{constant_of}
use Rattle.bw_analyse.specs.Lawful.KnownLaws.{known_up, pair_up}
use Rattle.bw_cover.specs.Abstracts as cover
use Rattle.bw_cover.specs.Facts as facts
use Rattle.bw_cover.specs.Least as least
use Rattle.bw_analyse.specs.declared.abstracts.Abstract.{Abstract}
use Rattle.bw_analyse.specs.declared.abstracts.Abstract.TheVariants.{Nothing, Str, Html}
use Rattle.bw_analyse.specs.Abstracts.{is_below, both, plugged_by}
use Rattle.bw_analyse.specs.Fits.{Fits}
use Rattle.bw_analyse.specs.Lawful.KindLaws.{Up, up_itself, fits_alike}
use Rattle.bw_analyse.specs.Known as list
use Rattle.bw_analyse.specs.Known.{any, one_string, constant_at, summed_by, combined_by, called_by, known, known_filled}
use Rattle.bw_check.proofs.Within.Named.{IsNamed, AreNamed, two_named}
use Rattle.bw_sound.specs.Found.Seen.{seen}
use Rattle.std.proofs.Math.Bool.{or-false}

-- ---- graphs with the same members are the same

pub same_graph : (G H : Graph) → Same G H → G ≡ H
same_graph G H s = λ i. record {
  root = λ n. s.root n i;
  edge = λ n g m. s.edge n g m i;
  label = λ n g t. s.label n g t i;
  track = λ g n. s.track g n i;
  lack = λ g. s.lack g i;
}

-- the literal is no string, or one of these
abbrev pub AreLiteral : List (List ℕ) → Literal → Type 0
AreLiteral L (literals.Str s) = IsNamed L s
AreLiteral L (literals.Int n) = Unit {0}
AreLiteral L (literals.Bool b) = Unit {0}
AreLiteral L (literals.Tmpl w) = Unit {0}

-- the literal of the number of a string that is there is that string
text_is : (L : List (List ℕ)) (s : List ℕ) → name_number L s < length L → text_of L (name_number L s) ≡ s
text_is [] s h = absurd (omega arith)
text_is (x ∷ xs) s h = by_test (same s x) refl h (text_is xs s)
  where
    one_more : (n : ℕ) → text_of (x ∷ xs) (1 + n) ≡ text_of xs n
    one_more n = let e : 1 + n ≡ suc n = omega arith in ap (text_of (x ∷ xs)) e

    by_test : (b : Bool) → same s x ≡ b → cond (not b) (1 + name_number xs s) 0 < length (x ∷ xs)
        → (name_number xs s < length xs → text_of xs (name_number xs s) ≡ s) → text_of (x ∷ xs) (cond (not b) (1 + name_number xs s) 0) ≡ s
    by_test true t h ih = sym (same_is s x t)
    by_test false t h ih = one_more (name_number xs s) ∙ ih (omega arith)

-- the place of a template by its name
one_less : (m n : ℕ) → nat_lt (1 + m) (suc n) ≡ nat_lt m n
one_less m n = by_test (cases_Bool (nat_lt m n))
  where
    by_test : (nat_lt m n ≡ true) ⊎ (nat_lt m n ≡ false) → nat_lt (1 + m) (suc n) ≡ nat_lt m n
    by_test (inl e) = lt-ltb (1 + m) (suc n) (let l : m < n = ltb-true m n e in omega arith) ∙ sym e
    by_test (inr e) = le-ltb (1 + m) (suc n) (let l : n ≤ m = ltb-false m n e in omega arith) ∙ sym e

place_is : (w : List ℕ) (ts : List Template)
    → position (λ (t : Template). same w t.name) ts ≡ (if is_among w (map (λ (t : Template). t.name) ts) then Some (name_number (map (λ (t : Template). t.name)
    ts) w) else None)
place_is w ts = (λ i. cond (nat_lt (place_map w ts i) (length ts)) (Some (place_map w ts i)) None)
    ∙ ap (λ b. if b then Some (name_number (map (λ (t : Template). t.name) ts) w) else None) (there w ts)
  where
    place_map : (w : List ℕ) (ts : List Template) → position_or_len (λ (t : Template). same w t.name) ts ≡ name_number (map (λ (t : Template). t.name) ts) w
    place_map w [] = refl
    place_map w (t ∷ ts) = ap (λ n. cond (not (same w t.name)) (1 + n) 0) (place_map w ts)

    there : (w : List ℕ) (ts : List Template)
        → nat_lt (name_number (map (λ (t : Template). t.name) ts) w) (length ts) ≡ is_among w (map (λ (t : Template). t.name) ts)
    there w [] = refl
    there w (t ∷ ts) = by_test (same w t.name) (there w ts)
      where
        by_test : (b : Bool) → nat_lt (name_number (map (λ (t : Template). t.name) ts) w) (length ts) ≡ is_among w (map (λ (t : Template). t.name) ts)
            → nat_lt (cond (not b) (1 + name_number (map (λ (t : Template). t.name) ts) w) 0)
            (length (t ∷ ts)) ≡ (b || is_among w (map (λ (t : Template). t.name) ts))
        by_test true h = lt-ltb 0 (length (t ∷ ts)) (omega arith)
        by_test false h = one_less (name_number (map (λ (t : Template). t.name) ts) w) (length ts) ∙ h

module _ (service : Service) where
  abbrev L : List (List ℕ)
  L = literals_of service

  any_seen : seen service any ≡ cover.any
  any_seen = refl

  pub seen_both : (k : Kind) (a b : Abstract) → Fits k a → Fits k b → least.join (seen service a) (seen service b) ≡ seen service (both a b)
  seen_both kinds.Int Nothing Nothing p q = refl
  seen_both kinds.Bool Nothing Nothing p q = refl
  seen_both kinds.Strs Nothing Nothing p q = refl
  seen_both kinds.Str (Str s) (Str r) p q = λ i. cover.Strings (λ t. sym (joins_by_strings L s r t) i)
  seen_both kinds.Html (Html s) (Html r) p q = sym (ap cover.Html (same_graph (graph L (summaries.both s r)) (graphs.joined (graph L s) (graph L r))
      (joins_are L s r (fits_alike kinds.Html (Html s) (Html r) p q))))
  seen_both kinds.Int Nothing b p q = absurd q
  seen_both kinds.Bool Nothing b p q = absurd q
  seen_both kinds.Strs Nothing b p q = absurd q
  seen_both kinds.Str (Str s) b p q = absurd q
  seen_both kinds.Html (Html s) b p q = absurd q
  seen_both k a b p q = absurd p

  pub seen_below : (k : Kind) (a b : Abstract) → Fits k a → Fits k b → is_below a b ≡ true → cover.Below (seen service a) (seen service b)
  seen_below kinds.Int Nothing Nothing p q h = tt
  seen_below kinds.Bool Nothing Nothing p q h = tt
  seen_below kinds.Strs Nothing Nothing p q h = tt
  seen_below kinds.Str (Str s) (Str r) p q h = λ t e. below_by_strings L s r t h e
  seen_below kinds.Html (Html s) (Html r) p q h = below_by_members L s r (fits_alike kinds.Html (Html s) (Html r) p q) h
  seen_below kinds.Int Nothing b p q h = absurd q
  seen_below kinds.Bool Nothing b p q h = absurd q
  seen_below kinds.Strs Nothing b p q h = absurd q
  seen_below kinds.Str (Str s) b p q h = absurd q
  seen_below kinds.Html (Html s) b p q h = absurd q
  seen_below k a b p q h = absurd p

  -- ---- parts of expressions

  called_seen : (f : Fun) → seen service (called_by f) ≡ cover.called_by f
  called_seen funs.Text = any_seen
  called_seen funs.Number = refl
  called_seen funs.IsNumber = refl
  called_seen funs.Count = refl

  summed_seen : (a : Abstract) → seen service (summed_by a) ≡ cover.summed_by (seen service a)
  summed_seen Nothing = refl
  summed_seen (Str s) = any_seen
  summed_seen (Html s) = refl

  combined_seen : (op : Op) (a : Abstract) → seen service (combined_by op a) ≡ cover.combined_by op (seen service a)
  combined_seen Or a = refl
  combined_seen And a = refl
  combined_seen Eq a = refl
  combined_seen Ne a = refl
  combined_seen Lt a = refl
  combined_seen Le a = refl
  combined_seen Gt a = refl
  combined_seen Ge a = refl
  combined_seen Add a = summed_seen a
  combined_seen Sub a = refl
  combined_seen Mul a = refl
  combined_seen Div a = refl
  combined_seen Rem a = refl

  -- the string of a literal alone
  pub one_seen : (s : List ℕ) → name_number L s < length L → seen service (one_string service s) ≡ cover.Strings (same s)
  one_seen s h = λ i. cover.Strings (λ t. (or-false (same (text_of L (name_number L s)) t) ∙ ap (λ x. same x t) (text_is L s h)) i)

  pub plugged_seen : (g : GapKind) (k : Kind) (v a : Abstract) (n : ℕ) → TakesKind g k → Fits kinds.Html v → Fits k a
      → seen service (plugged_by v n a) ≡ cover.plugged_by (seen service v) n (seen service a)
  plugged_seen g k v a n t p q = by_kind g t
    where
      document : (v a : Abstract) → Fits kinds.Html v → Fits kinds.Html a
          → seen service (plugged_by v n a) ≡ cover.plugged_by (seen service v) n (seen service a)
      document (Html b) (Html a) p q = ap cover.Html (same_graph (graph L (summaries.plugged b n a)) (graphs.plugged (graph L b) n (graph L a))
          (plugs L b n a (fits_alike kinds.Html (Html b) (Html a) p q)))
      document (Html b) a p q = absurd q
      document v a p q = absurd p

      string : (v a : Abstract) → Fits kinds.Html v → Fits kinds.Str a → seen service (plugged_by v n a) ≡ cover.plugged_by (seen service v) n (seen service a)
      string (Html b) (Str s) p q = ap cover.Html (same_graph (graph L (summaries.plugged_text b n s)) (graphs.plugged_text (graph L b) n (has_string L s))
          (plugs_text L b n s p.0 q))
      string (Html b) a p q = absurd q
      string v a p q = absurd p

      by_kind : (g : GapKind) → TakesKind g k → seen service (plugged_by v n a) ≡ cover.plugged_by (seen service v) n (seen service a)
      by_kind Content (inl e) = string v a p (subst (λ x. Fits x a) e q)
      by_kind Content (inr e) = document v a p (subst (λ x. Fits x a) e q)
      by_kind Attribute e = string v a p (subst (λ x. Fits x a) e q)

  -- ---- names

  -- the templates' gaps have their numbers
  module _ (gaps : (n : ℕ) → HasKnownGaps (length service.gaps) (template_items service n)) where
    constant_seen : (n : ℕ) → seen service (constant_at service (Some n)) ≡ cover.Html (graphs.constant (template_items service) (cover.is_gap service) n)
    constant_seen n = ap cover.Html (same_graph (graph L (constant_of n (template_items service n) (length service.gaps)))
        (graphs.constant (template_items service) (λ g. nat_lt g (length service.gaps)) n)
        (constants L (template_items service) n (length service.gaps) (gaps n)))

    -- the constant of the template of that name, or nothing
    pub template_seen : (w : List ℕ) → seen service (constant_at service (template_of service w)) ≡ facts.template_known service w
    template_seen w = ap (λ o. seen service (constant_at service o)) (place_is w service.templates) ∙ by_test (is_among w (template_names service))
      where
        by_test : (b : Bool) → seen service (constant_at service (if b then Some (name_number (template_names service) w) else None))
            ≡ (if b then cover.Html (graphs.constant (template_items service) (cover.is_gap service) (name_number (template_names service) w))
            else cover.Nothing)
        by_test true = constant_seen (name_number (template_names service) w)
        by_test false = refl

    pub literal_seen : (l : Literal) → AreLiteral L l → seen service (list.of_literal service l) ≡ facts.literal_known service l
    literal_seen (literals.Int n) h = refl
    literal_seen (literals.Bool b) h = refl
    literal_seen (literals.Str s) h = one_seen s h
    literal_seen (literals.Tmpl w) h = template_seen w

    -- ---- expressions

    module _ (few : length service.gaps < 2 ^ 32) (many : length L < 2 ^ 32) (scope : Scope) (m : List ℕ → Abstract) (n : List ℕ → cover.Abstract)
        (kinded : (w : List ℕ) (kind : Kind) → name_kind service scope w ≡ Some kind → Up kind (m w) (m w))
        (same_names : (w : List ℕ) → seen service (m w) ≡ n w) where
      fits : (e : Term) (kind : Kind) → HasKind service scope e kind → Fits kind (known service m e)
      fits e kind h = (known_up service few many scope m m kinded e kind h).0

      mutual
        pub known_seen : (e : Term) (kind : Kind) → HasKind service scope e kind → AreNamed L (term_strings e)
            → seen service (known service m e) ≡ cover.known service n e
        known_seen (int z) kind h a = refl
        known_seen (truth b) kind h a = refl
        known_seen (string s) kind h a = one_seen s a.0
        known_seen nothing kind h a = refl
        known_seen (name w) kind h a = same_names w
        known_seen (paren e) kind h a = known_seen e kind h a
        known_seen (negated e) kind h a = refl
        known_seen (neg e) kind h a = refl
        known_seen (call f e) kind h a = called_seen f
        known_seen (binary op l r) kind h a =
            combined_seen op (known service m l) ∙ ap (cover.combined_by op) (known_seen l h.0 h.1 (two_named L (term_strings l) (term_strings r) a).0)
        known_seen (plug b ps) kind h a =
            let both_ = two_named L (term_strings b) (filling_strings ps) a in
            filled_seen ps (known service m b) (cover.known service n b) (fits b kinds.Html h.0) (known_seen b kinds.Html h.0 both_.0) h.1 both_.1

        filled_seen : (ps : Fillings) (v : Abstract) (u : cover.Abstract) → Fits kinds.Html v → seen service v ≡ u → AreTyped service scope ps
            → AreNamed L (filling_strings ps) → seen service (known_filled service m ps v) ≡ cover.known_filled service n ps u
        filled_seen no_more v u k e t a = e
        filled_seen (filling w x ps) v u k e t a =
            let both_ = two_named L (term_strings x) (filling_strings ps) a in
            let g = name_number service.gaps w in
            let one = known_seen x t.0.1 t.0.3 both_.0 in
            filled_seen ps (plugged_by v g (known service m x)) (cover.plugged_by u g (cover.known service n x))
            (pair_up service few many scope m m kinded t.0.0 t.0.1 v v (known service m x) (known service m x) w t.0.4 (up_itself kinds.Html v k)
            (known_up service few many scope m m kinded x t.0.1 t.0.3)).0
            (plugged_seen t.0.0 t.0.1 v (known service m x) g t.0.4 k (fits x t.0.1 t.0.3) ∙ (λ i. cover.plugged_by (e i) g (one i)))
            t.1 both_.1

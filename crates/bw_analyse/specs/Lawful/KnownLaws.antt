-- What is known of a typed expression is of its kind, and grows with what is known of names.
use Rattle.std.specs.Prelude.{◌≡◌, ℕ, ◌^◌, ◌<◌, List, length, Some}
use Rattle.std.specs.Prelude.{not}
use Rattle.std.proofs.Common.{refl, sym, subst, inl, inr, arith, ◌⊎◌}
use Rattle.std.proofs.lemmas.List.Sums.{prefix_len-le-length}
use Rattle.bw_lang.specs.declared.expr.Fun.{Fun}
use Rattle.bw_lang.specs.declared.expr.Fun.TheVariants as funs
use Rattle.bw_lang.specs.declared.expr.Op.{Op}
use Rattle.bw_lang.specs.declared.expr.Op.TheVariants.{Or, And, Eq, Ne, Lt, Le, Gt, Ge, Add, Sub, Mul, Div, Rem}
use Rattle.bw_lang.specs.declared.service.Service.{Service}
use Rattle.bw_lang.specs.declared.stmt.Kind.{Kind}
use Rattle.bw_lang.specs.declared.stmt.Kind.TheVariants as kinds
use Rattle.bw_lang.specs.Table.Names.{same, name_number}
use Rattle.bw_lang.specs.Service.Term.{Term, int, truth, string, name, paren, not as negated, neg, binary, call, plug, nothing, Fillings, no_more, filling}
use Rattle.bw_strings.specs.Literals.{literals_of}
use Rattle.bw_types.specs.declared.fault.GapKind.{GapKind}
use Rattle.bw_types.specs.declared.fault.GapKind.TheVariants.{Content, Attribute}
use Rattle.bw_types.specs.ExpressionFaults.{op_sort, fun_gives}
use Rattle.bw_types.specs.Scopes.{Scope, name_kind}
use Rattle.bw_types.specs.Typing.{Takes, Fits as TakesKind, HasKind, AreTyped}
use Rattle.bw_analyse.specs.declared.abstracts.Abstract.{Abstract}
use Rattle.bw_analyse.specs.declared.abstracts.Abstract.TheVariants.{Nothing, Str}
use Rattle.bw_analyse.specs.Abstracts.{plugged_by}
use Rattle.bw_analyse.specs.Lawful.KindLaws.{Up, up_itself, up_plug, up_fill}
use Rattle.bw_analyse.specs.Known.{one_string, summed_by, combined_by, called_by, known, known_filled}

at_kind : (k j : Kind) (a b : Abstract) → k ≡ j → Up j a b → Up k a b
at_kind k j a b e h = subst (λ x. Up x a b) (sym e) h

called_up : (f : Fun) → Up (fun_gives f) (called_by f) (called_by f)
called_up funs.Text = (tt, tt, refl)
called_up funs.Number = (tt, tt, refl)
called_up funs.IsNumber = (tt, tt, refl)
called_up funs.Count = (tt, tt, refl)

pub nothing_up : (k : Kind) → (k ≡ kinds.Int) ⊎ (k ≡ kinds.Bool) → Up k Nothing Nothing
nothing_up k (inl e) = at_kind k kinds.Int Nothing Nothing e (tt, tt, refl)
nothing_up k (inr e) = at_kind k kinds.Bool Nothing Nothing e (tt, tt, refl)

sum_int : (a b : Abstract) → Up kinds.Int a b → Up kinds.Int (summed_by a) (summed_by b)
sum_int Nothing Nothing h = h
sum_int Nothing b h = absurd h.1
sum_int a b h = absurd h.0

sum_str : (a b : Abstract) → Up kinds.Str a b → Up kinds.Str (summed_by a) (summed_by b)
sum_str (Str s) (Str r) h = (tt, tt, refl)
sum_str (Str s) b h = absurd h.1
sum_str a b h = absurd h.0

sum_up : (side : Kind) (a b : Abstract) → (side ≡ kinds.Int) ⊎ (side ≡ kinds.Str) → Up side a b → Up side (summed_by a) (summed_by b)
sum_up side a b (inl e) h = at_kind side kinds.Int (summed_by a) (summed_by b) e (sum_int a b (subst (λ x. Up x a b) e h))
sum_up side a b (inr e) h = at_kind side kinds.Str (summed_by a) (summed_by b) e (sum_str a b (subst (λ x. Up x a b) e h))

combined_up : (op : Op) (side kind : Kind) (a b : Abstract) → Takes (op_sort op) side kind → Up side a b → Up kind (combined_by op a) (combined_by op b)
combined_up Or side kind a b t h = nothing_up kind (inr t.1)
combined_up And side kind a b t h = nothing_up kind (inr t.1)
combined_up Eq side kind a b t h = nothing_up kind (inr t.2)
combined_up Ne side kind a b t h = nothing_up kind (inr t.2)
combined_up Lt side kind a b t h = nothing_up kind (inr t.1)
combined_up Le side kind a b t h = nothing_up kind (inr t.1)
combined_up Gt side kind a b t h = nothing_up kind (inr t.1)
combined_up Ge side kind a b t h = nothing_up kind (inr t.1)
combined_up Add side kind a b t h = at_kind kind side (summed_by a) (summed_by b) t.1 (sum_up side a b t.0 h)
combined_up Sub side kind a b t h = nothing_up kind (inl t.1)
combined_up Mul side kind a b t h = nothing_up kind (inl t.1)
combined_up Div side kind a b t h = nothing_up kind (inl t.1)
combined_up Rem side kind a b t h = nothing_up kind (inl t.1)

-- the number of a name is below 2 ^ 32 where there are fewer
bounded : (names : List (List ℕ)) (w : List ℕ) → length names < 2 ^ 32 → name_number names w < 2 ^ 32
bounded names w h = omega (arith, prefix_len-le-length (λ x. not (same w x)) names)

pub string_up : (service : Service) → length (literals_of service) < 2 ^ 32 → (s : List ℕ) → Up kinds.Str (one_string service s) (one_string service s)
string_up service few s = up_itself kinds.Str (one_string service s) ((tt, tt), (bounded (literals_of service) s few, tt))

module _ (service : Service) (gaps : length service.gaps < 2 ^ 32) (literals : length (literals_of service) < 2 ^ 32) (scope : Scope) (m n : List ℕ → Abstract)
    (names : (w : List ℕ) (kind : Kind) → name_kind service scope w ≡ Some kind → Up kind (m w) (n w)) where
  pub pair_up : (g : GapKind) (kind : Kind) (a b c d : Abstract) (w : List ℕ) → TakesKind g kind → Up kinds.Html a b → Up kind c d
      → Up kinds.Html (plugged_by a (name_number service.gaps w) c) (plugged_by b (name_number service.gaps w) d)
  pair_up Content kind a b c d w (inl e) h k = up_fill a b c d (name_number service.gaps w) (bounded service.gaps w gaps) h (subst (λ x. Up x c d) e k)
  pair_up Content kind a b c d w (inr e) h k = up_plug a b c d (name_number service.gaps w) (bounded service.gaps w gaps) h (subst (λ x. Up x c d) e k)
  pair_up Attribute kind a b c d w e h k = up_fill a b c d (name_number service.gaps w) (bounded service.gaps w gaps) h (subst (λ x. Up x c d) e k)

  mutual
    pub known_up : (e : Term) (kind : Kind) → HasKind service scope e kind → Up kind (known service m e) (known service n e)
    known_up (int z) kind h = nothing_up kind (inl h)
    known_up (truth b) kind h = nothing_up kind (inr h)
    known_up (string s) kind h = at_kind kind kinds.Str (one_string service s) (one_string service s) h (string_up service literals s)
    known_up nothing kind h = at_kind kind kinds.Strs Nothing Nothing h (tt, tt, refl)
    known_up (name w) kind h = names w kind h
    known_up (paren e) kind h = known_up e kind h
    known_up (negated e) kind h = nothing_up kind (inr h.1)
    known_up (neg e) kind h = nothing_up kind (inl h.1)
    known_up (call f e) kind h = at_kind kind (fun_gives f) (called_by f) (called_by f) h.1 (called_up f)
    known_up (binary op l r) kind h = combined_up op h.0 kind (known service m l) (known service n l) h.3 (known_up l h.0 h.1)
    known_up (plug b ps) kind h =
        at_kind kind kinds.Html (known_filled service m ps (known service m b)) (known_filled service n ps (known service n b)) h.2
        (filled_up ps (known service m b) (known service n b) (known_up b kinds.Html h.0) h.1)

    filled_up : (ps : Fillings) (a b : Abstract) → Up kinds.Html a b → AreTyped service scope ps
        → Up kinds.Html (known_filled service m ps a) (known_filled service n ps b)
    filled_up no_more a b h t = h
    filled_up (filling w e ps) a b h t =
        filled_up ps (plugged_by a (name_number service.gaps w) (known service m e)) (plugged_by b (name_number service.gaps w) (known service n e))
        (pair_up t.0.0 t.0.1 a b (known service m e) (known service n e) w t.0.4 h (known_up e t.0.1 t.0.3)) t.1

-- Variables whose tests pass are covered by what is known of them.
use Rattle.std.proofs.Common.{◌≡◌, ◌<◌, ℕ, ◌+◌, Bool, true, false, cond, List, [], ◌∷◌, length, map, Option, Some, None, refl, sym, ap, subst, ◌∙◌, arith}
use Rattle.std.specs.Prelude.{is_some, find, option_map, position, slice_get, unwrap_or, ◌||◌, ◌&&◌}
use Rattle.std.specs.List.{AllByRecursion, list_all, list_any}
use Rattle.std.proofs.lemmas.Option.{slice_get-map}
use Rattle.std.proofs.lemmas.List.{length-map}
use Rattle.bw_analyse.specs.Abstracts as abstracts
use Rattle.bw_analyse.specs.declared.abstracts.Abstract.{Abstract}
use Rattle.bw_analyse.specs.declared.abstracts.Abstract.TheVariants as abstract
use Rattle.bw_analyse.specs.declared.facts.Facts.{Facts}
use Rattle.bw_analyse.specs.Facts.{AreFacts, rows_of, local_in, local_fact, shared_fact, shown_fact}
use Rattle.bw_analyse.specs.Fits.{Fits, AllFit, FitsCell, kinds_of}
use Rattle.bw_analyse.specs.Known.{local_names, shared_names, of_name, of_local, of_shared}
use Rattle.bw_flow.specs.Layout.{flow_of}
use Rattle.bw_analyse.specs.Least.{rows}
use Rattle.bw_sound.specs.Found.Seen.{seen}
use Rattle.bw_saved.proofs.Codecs.{some_is, bind_some, guarded}
use Rattle.bw_saved.specs.Fields.Reading.{◌>>=◌}
use Rattle.bw_cover.specs.Abstracts.{covers, CoversTree}
use Rattle.bw_eval.specs.declared.value.Value.{Value}
use Rattle.bw_eval.specs.declared.value.Value.TheVariants as values
use Rattle.bw_eval.specs.View as view
use Rattle.bw_flow.specs.declared.point.Local.{Local}
use Rattle.bw_flow.specs.Steps.{Step}
use Rattle.bw_run.specs.Follow.Kinds.{kinds_in}
use Rattle.bw_lang.specs.declared.service.Service.{Service}
use Rattle.bw_lang.specs.declared.service.Shared.{Shared}
use Rattle.bw_lang.specs.declared.stmt.Kind.{Kind}
use Rattle.bw_lang.specs.Table.Names.{beside, same}
use Rattle.bw_meaning.specs.Values as meaning
use Rattle.bw_load.specs.Cells.{is_cell_below, is_value_below}
use Rattle.bw_load.specs.SumLaws.{IsLawful}
use Rattle.bw_load.specs.Sums.{known}
use Rattle.bw_load.proofs.SumCovers.{below_is_covered}
use Rattle.bw_saved.specs.Values.Demands.{IsValue, IsVariable, AreVariables}
use Rattle.bw_lang.proofs.SameNames.{same_is}
use Rattle.bw_types.specs.Scopes.{is_among}

-- ---- one value

value_below : (service : Service) (v : Value) (a : Abstract) → is_value_below service v a ≡ abstracts.is_below (known service v) a
value_below service (values.Int n) abstract.Nothing = refl
value_below service (values.Int n) (abstract.Str s) = refl
value_below service (values.Int n) (abstract.Html s) = refl
value_below service (values.Bool n) abstract.Nothing = refl
value_below service (values.Bool n) (abstract.Str s) = refl
value_below service (values.Bool n) (abstract.Html s) = refl
value_below service (values.Strs n) abstract.Nothing = refl
value_below service (values.Strs n) (abstract.Str s) = refl
value_below service (values.Strs n) (abstract.Html s) = refl
value_below service (values.Str t) abstract.Nothing = refl
value_below service (values.Str t) (abstract.Str s) = refl
value_below service (values.Str t) (abstract.Html s) = refl
value_below service (values.Html d) abstract.Nothing = refl
value_below service (values.Html d) (abstract.Str s) = refl
value_below service (values.Html d) (abstract.Html s) = refl

cell_says : (service : Service) (v : Value) (o : Option Abstract) → is_cell_below service (Some v) o ≡ true → (a : Abstract) × (o ≡ Some a) ×
    (is_value_below service v a ≡ true)
cell_says service v None e = absurd cc
cell_says service v (Some a) e = (a, refl, e)

-- ---- variables and their cells, side by side

-- a variable with its kind
abbrev pub Kinds : Type 0
Kinds = List (List ℕ × Kind)

abbrev pub kinds_only : Kinds → List Kind
kinds_only ks = map (λ (k : List ℕ × Kind). k.1) ks

abbrev pub names_only : Kinds → List (List ℕ)
names_only ks = map (λ (k : List ℕ × Kind). k.0) ks

one_covered : (service : Service) → IsLawful service → (ks : Kinds) (xs : List (List ℕ × Value)) (row : List Abstract) → AreVariables service ks xs →
    AllFit (kinds_only ks) row → (w : List ℕ) (v : Value) (a : Abstract) → beside w xs ≡ Some v → of_name (names_only ks) row w ≡ Some a →
    is_value_below service v a ≡ true → covers service (seen service a) (view.value v)
one_covered service lawful [] [] row h fit w v a e f b = absurd cc
one_covered service lawful [] (x ∷ xs) row h fit w v a e f b = absurd h
one_covered service lawful (k ∷ ks) [] row h fit w v a e f b = absurd h
one_covered service lawful (k ∷ ks) (x ∷ xs) [] h fit w v a e f b = absurd fit
one_covered service lawful (k ∷ ks) (x ∷ xs) (r ∷ row) h fit w v a e f b =
    by (same w k.0) (subst (λ (n : List ℕ). option_map (λ (y : List ℕ × Value). y.1) (cond (same w n) (Some x) (find (λ y. same w y.0) xs)) ≡ Some v) h.0.0 e) f
    (λ e f. one_covered service lawful ks xs row h.1 fit.1 w v a e f b)
  where
    by : (c : Bool) → option_map (λ (y : List ℕ × Value). y.1) (cond c (Some x) (find (λ y. same w y.0) xs)) ≡ Some v →
        cond c (Some r) (of_name (names_only ks) row w) ≡ Some a →
        (beside w xs ≡ Some v → of_name (names_only ks) row w ≡ Some a → covers service (seen service a) (view.value v)) →
        covers service (seen service a) (view.value v)
    by true e f ih =
        let ve : x.1 ≡ v = some_is x.1 v e in
        let ae : r ≡ a = some_is r a f in
        below_is_covered service lawful k.1 v a (subst (IsValue service k.1) ve h.0.1) (subst (Fits k.1) ae fit.0) (sym (value_below service v a) ∙ b)
    by false e f ih = ih e f

-- the names are those of the kinds
names_among : (service : Service) (ks : Kinds) (xs : List (List ℕ × Value)) → AreVariables service ks xs → (w : List ℕ) →
    is_some (beside w xs) ≡ is_among w (names_only ks)
names_among service [] [] h w = refl
names_among service [] (x ∷ xs) h w = absurd h
names_among service (k ∷ ks) [] h w = absurd h
names_among service (k ∷ ks) (x ∷ xs) h w =
    ap (λ (n : List ℕ). is_some (option_map (λ (y : List ℕ × Value). y.1) (cond (same w n) (Some x) (find (λ y. same w y.0) xs)))) h.0.0
    ∙ by (same w k.0) (names_among service ks xs h.1 w)
  where
    by : (c : Bool) → is_some (beside w xs) ≡ is_among w (names_only ks) →
        is_some (option_map (λ (y : List ℕ × Value). y.1) (cond c (Some x) (find (λ y. same w y.0) xs))) ≡ (c || is_among w (names_only ks))
    by true ih = refl
    by false ih = ih

-- the values of the meaning
beside_values : (w : List ℕ) (xs : List (List ℕ × Value)) → beside w (view.values xs) ≡ option_map view.value (beside w xs)
beside_values w [] = refl
beside_values w (x ∷ xs) = by (same w x.0) (beside_values w xs)
  where
    by : (c : Bool) → beside w (view.values xs) ≡ option_map view.value (beside w xs) →
        option_map (λ (y : List ℕ × meaning.Value). y.1) (cond c (Some (view.named x)) (find (λ y. same w y.0) (view.values xs)))
        ≡ option_map view.value (option_map (λ (y : List ℕ × Value). y.1) (cond c (Some x) (find (λ y. same w y.0) xs)))
    by true ih = refl
    by false ih = ih

-- what a test over all names says of one of them
pub all_say : {X : Type 0} (name : X → List ℕ) (P : List ℕ → Bool) (xs : List X) (w : List ℕ) → list_all (λ x. P (name x)) xs ≡ true →
    is_among w (map name xs) ≡ true → P w ≡ true
all_say name P [] w h m = absurd cc
all_say name P (x ∷ xs) w h m = by (same w (name x)) refl m (all_say name P xs w (parts (P (name x)) (list_all (λ x. P (name x)) xs) h).1)
  where
    parts : (a b : Bool) → (a && b) ≡ true → (a ≡ true) × (b ≡ true)
    parts true b e = (refl, e)
    parts false b e = absurd cc

    by : (c : Bool) → same w (name x) ≡ c → (c || is_among w (map name xs)) ≡ true → (is_among w (map name xs) ≡ true → P w ≡ true) → P w ≡ true
    by true s m ih = ap P (same_is w (name x) s) ∙ (parts (P (name x)) (list_all (λ x. P (name x)) xs) h).0
    by false s m ih = ih m

-- a value that is there
some_value : (o : Option Value) (v : meaning.Value) → option_map view.value o ≡ Some v → (x : Value) × (o ≡ Some x) × (view.value x ≡ v)
some_value None v e = absurd cc
some_value (Some x) v e = (x, refl, some_is (view.value x) v e)

-- all of them: the tests pass, so each is covered by what is known of it
pub all_covered : (service : Service) → IsLawful service → (ks : Kinds) (xs : List (List ℕ × Value)) (row : List Abstract) → AreVariables service ks xs →
    AllFit (kinds_only ks) row →
    (test : (w : List ℕ) → is_among w (names_only ks) ≡ true → is_cell_below service (beside w xs) (of_name (names_only ks) row w) ≡ true) →
    (w : List ℕ) (v : meaning.Value) → beside w (view.values xs) ≡ Some v →
    (a : Abstract) × (of_name (names_only ks) row w ≡ Some a) × covers service (seen service a) v
all_covered service lawful ks xs row h fit test w v e =
    let x = some_value (beside w xs) v (sym (beside_values w xs) ∙ e) in
    let among : is_among w (names_only ks) ≡ true = sym (names_among service ks xs h w) ∙ ap is_some x.1 in
    let t = cell_says service x.0 (of_name (names_only ks) row w)
    (ap (λ (o : Option Value). is_cell_below service o (of_name (names_only ks) row w)) (sym x.1) ∙ test w among) in
    (t.0, t.1, subst (covers service (seen service t.0)) x.2 (one_covered service lawful ks xs row h fit w x.0 t.0 x.1 t.1 t.2))

pub all_named : (service : Service) (ks : Kinds) (xs : List (List ℕ × Value)) → AreVariables service ks xs → (w : List ℕ) →
    is_some (beside w (view.values xs)) ≡ is_among w (names_only ks)
all_named service ks xs h w = ap is_some (beside_values w xs) ∙ by (beside w xs) ∙ names_among service ks xs h w
  where
    by : (o : Option Value) → is_some (option_map view.value o) ≡ is_some o
    by None = refl
    by (Some x) = refl

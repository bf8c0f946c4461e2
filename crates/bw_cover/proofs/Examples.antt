use Rattle.std.proofs.Common.{◌≡◌, ℕ, zero, suc, Bool, true, false, List, [], ◌∷◌, Some, None, refl, sym, ap, ◌∙◌, subst, arith}
use Rattle.std.specs.Prelude.{◌≢◌, ◌||◌, ◌&&◌, ◌==◌, if◌then◌else◌, codes, option_map}
use Rattle.std.proofs.lemmas.Bool.{false≢true, eqb-true, eq-eqb}
use Rattle.std.specs.List.{AllPairs}
use Rattle.bw_lang.specs.Service.Term.{name}
use Rattle.bw_lang.specs.Table.Names.{same}
use Rattle.bw_sum.specs.Graph.{Graph, constant, plugged, plugged_text, IsBelow}
use Rattle.bw_sum.specs.Opening.{has_hole}
use Rattle.bw_sum.specs.Templates.{template_items}
use Rattle.bw_cover.specs.Abstracts.{Abstract, Nothing, Html, any, is_gap, Below, known}
use Rattle.bw_cover.specs.Facts.{keeps, takes, look, received_by, Leads}
use Rattle.bw_types.specs.Scopes.{is_among}
use Rattle.bw_cover.specs.Spots.{Spot, statement}
use Rattle.bw_cover.specs.Examples.{rows_service, rows_known, shown_of, cell, rows_facts, RowsAreAccepted}
use Rattle.bw_lang.proofs.Options.{some_is}
use Rattle.bw_lang.proofs.SameNames.{same_is, same_self}
use Rattle.bw_cover.proofs.Rising.{below_refl, below_nothing}

own_is : (w : List ℕ) (b : Bool) (a : Abstract) → (if b then Some (cell w) else None) ≡ Some a → Below a (cell w)
own_is w true a e = subst (λ x. Below x (cell w)) (some_is (cell w) a e) (below_refl (cell w))
own_is w false a e = cc

-- a point that keeps all
keep : (p q : Spot) → Leads rows_service rows_facts p keeps q
keep p q = record { locals = λ w a i e. own_is w (is_among w (rows_facts.scope p)) a e; adds = tt }

-- a point that leaves this in a local
set_by : (w v : List ℕ) (x a : Abstract) (s b : Bool) → same w v ≡ s → Below x (cell v) → (if s then Some x else (if b then Some (cell w) else None))
    ≡ Some a → Below a (cell w)
set_by w v x a true b t h e = subst (λ y. Below y (cell w)) (some_is x a e) (subst (λ y. Below x (cell y)) (sym (same_is w v t)) h)
set_by w v x a false b t h e = own_is w b a e

not_shared : {A : Type 0} → false ≡ true → A
not_shared e = absurd (false≢true e)

-- the fields of the first show
receive_c : Leads rows_service rows_facts (statement 2) (takes (record { target = codes "c"; field = codes "f" } ∷ [])) (statement 3)
receive_c = record { locals = λ w a i e. by_test w a (same w (codes "c")) refl e; adds = (λ i j. not_shared j, tt) }
  where
    by_test : (w : List ℕ) (a : Abstract) (b : Bool) → same w (codes "c") ≡ b → option_map (λ (x : Abstract). if b then received_by x else x)
        (if b || false then Some (cell w) else None) ≡ Some a → Below a (cell w)
    by_test w a true t e = subst (λ y. Below a (cell y)) (sym (same_is w (codes "c") t)) (below_nothing a)
    by_test w a false t e = cc

list_of_none : IsBelow (constant (template_items rows_service) (is_gap rows_service) 0) rows_known
list_of_none = record {
  roots = λ n h. h;
  edges = λ n g m h. absurd (false≢true h);
  labels = λ n g s h. refl;
  tracks = λ g n h. tracked (n == 0) (0 == g) h;
  lacks = λ g h. h;
}
  where
    tracked : (a b : Bool) → (a && ((b || false) || false)) ≡ true → b ≡ true
    tracked true true h = refl
    tracked true false h = h
    tracked false b h = absurd (false≢true h)

eq_back : (a b : ℕ) → (a == b) ≡ true → (b == a) ≡ true
eq_back a b h = eq-eqb b a (sym (eqb-true a b h))

-- what one row is known by
abbrev row : Graph
row = plugged_text (constant (template_items rows_service) (is_gap rows_service) 1) 1 (λ s. true)

one_more_row : IsBelow (plugged rows_known 0 row) rows_known
one_more_row = record {
  roots = λ n h. h;
  edges = λ n h m e. edge_of (0 == h) (m == 1) (h == 0) (eq_back h 0) e;
  labels = λ n h s e. refl;
  tracks = λ h n e. track_of (h == 0) (0 == h) (h == 1) (n == 1) (1 == h) (eq_back h 0) (eq_back 1 h) e;
  lacks = λ h e. lack_of h (h == 0) refl e;
}
  where
    edge_of : (z m y : Bool) → (y ≡ true → z ≡ true) → (((z && m) || false) || (y && (true && m))) ≡ true → (z && m) ≡ true
    edge_of true true y k e = refl
    edge_of true false true k e = e
    edge_of true false false k e = e
    edge_of false m true k e = absurd (false≢true (k refl))
    edge_of false m false k e = e

    track_of : (y z o m p : Bool) → (y ≡ true → z ≡ true) → (p ≡ true → o ≡ true)
        → (if y then (if o then false else (m && ((p || false) || (z || false)))) else (z || (if o then false else (m && ((p || false) || (z || false))))))
        ≡ true → z ≡ true
    track_of true z o m p k j e = k refl
    track_of false true o m p k j e = refl
    track_of false false true m p k j e = e
    track_of false false false true true k j e = j refl
    track_of false false false true false k j e = e
    track_of false false false false p k j e = e

    left_and : (a b : Bool) → (a && b) ≡ true → a ≡ true
    left_and true b e = refl
    left_and false b e = e

    lack_of : (h : ℕ) (b : Bool) → (h == 0) ≡ b → (if b then row.lack h else (rows_known.lack h && row.lack h)) ≡ true → rows_known.lack h ≡ true
    lack_of h true t e = absurd (false≢true (subst (λ x. row.lack x ≡ true) (eqb-true h 0 t) e))
    lack_of h false t e = left_and (rows_known.lack h) (row.lack h) e

no_hole : (n : ℕ) → has_hole 0 (template_items rows_service n) ≡ false
no_hole zero = refl
no_hole (suc zero) = refl
no_hole (suc (suc zero)) = refl
no_hole (suc (suc (suc zero))) = refl
no_hole (suc (suc (suc (suc zero)))) = refl
no_hole (suc (suc (suc (suc (suc n))))) = refl

apart : (v w : List ℕ) → same v w ≡ false → v ≢ w
apart v w h e = false≢true (sym h ∙ ap (same v) (sym e) ∙ same_self v)

names_differ : AllPairs (λ (v w : List ℕ). v ≢ w) (codes "c" ∷ codes "d" ∷ codes "x" ∷ [])
names_differ zero zero d lt l = absurd (omega arith)
names_differ zero (suc zero) d lt l = apart (codes "c") (codes "d") refl
names_differ zero (suc (suc zero)) d lt l = apart (codes "c") (codes "x") refl
names_differ zero (suc (suc (suc j))) d lt l = absurd (omega arith)
names_differ (suc zero) zero d lt l = absurd (omega arith)
names_differ (suc zero) (suc zero) d lt l = absurd (omega arith)
names_differ (suc zero) (suc (suc zero)) d lt l = apart (codes "d") (codes "x") refl
names_differ (suc zero) (suc (suc (suc j))) d lt l = absurd (omega arith)
names_differ (suc (suc i)) j d lt l = absurd (omega arith)

pub rows_are_accepted : RowsAreAccepted
rows_are_accepted = record {
  solves = record {
    scoped = (refl, (refl, (refl, (refl, (refl, tt), (refl, tt)))));
    pages = (below_refl (Html (shown_of (statement 2))), refl, (tt, (below_refl (Html rows_known), refl, tt)));
    leads = (
      record { locals = λ w a i e. set_by w (codes "c") Nothing a (same w (codes "c")) false refl tt e; adds = λ i j. not_shared j },
      (
        receive_c,
        (
          record {
            locals = λ w a i e. set_by w (codes "d") (known rows_service (look rows_service rows_facts (statement 3)) (name (codes "List"))) a
                (same w (codes "d")) (is_among w (codes "c" ∷ [])) refl list_of_none e;
            adds = λ i j. not_shared j;
          },
          (
            record {
              locals = λ w a i e. set_by w (codes "x") any a (same w (codes "x")) (is_among w (codes "c" ∷ codes "d" ∷ [])) refl (λ s h. h) e;
              adds = tt;
            },
            (
              keep (statement 4) (statement 6),
              (
                record {
                  locals = λ w a i e. set_by w (codes "d") (Html (plugged rows_known 0 row)) a (same w (codes "d"))
                      (is_among w (codes "c" ∷ codes "d" ∷ codes "x" ∷ [])) refl one_more_row e;
                  adds = λ i j. not_shared j;
                },
                tt,
              ),
            ),
          ),
        ),
      ),
    );
  };
  gaps = (tt, (tt, (tt, (tt, ((tt, (refl, (tt, (refl, tt, tt)), tt)), tt), (tt, tt)))));
  kinded = record {
    plugs = (tt, (tt, (tt, (tt, ((tt, ((refl, no_hole), (tt, (refl, tt, tt)), tt)), tt), (tt, tt)))));
    differ = names_differ;
  };
}

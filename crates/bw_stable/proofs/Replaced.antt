-- A new file comes into a journal's place.
use Rattle.std.proofs.Common.{◌≡◌, ◌⊎◌, ◌+◌, ℕ, List, [], ◌∷◌, ◌++◌, refl, sym, ap, ◌∙◌, subst, inl, inr, arith}
use Rattle.std.proofs.lemmas.List.{append-nil}
use Rattle.bw_stable.specs.Deeds.{Deed, Folder, cut, kept, moved, wrote, settled, renamed, named, alone, after_deed, after_deeds, MayStop}
use Rattle.bw_stable.specs.Replacing.{LeavesBy, ReplacesAll, ReplacesBetween, ReplacesWhole, pieces, replacing}
use Rattle.bw_stable.proofs.Deeds.{after_both, at_rest, pieces_both}

pub replaces_all : ReplacesAll
replaces_all bytes file = refl

-- ---- where some deeds end among others

-- lists that are the same one, parted at two places: the one part goes on in the other
data Seam {X : Type 0} (a b c d : List X) : Type 0 where
  ends_before : (more : List X) → c ≡ a ++ more → b ≡ more ++ d → Seam a b c d
  ends_behind : (more : List X) → a ≡ c ++ more → more ++ b ≡ d → Seam a b c d

seam_more : {X : Type 0} (x y : X) (a b c d : List X) → x ≡ y → Seam a b c d → Seam (x ∷ a) b (y ∷ c) d
seam_more x y a b c d same (ends_before more e f) = let all : y ∷ c ≡ (x ∷ a) ++ more = cc in ends_before more all f
seam_more x y a b c d same (ends_behind more e f) = let all : x ∷ a ≡ (y ∷ c) ++ more = cc in ends_behind more all f

seam : {X : Type 0} (a b c d : List X) → a ++ b ≡ c ++ d → Seam a b c d
seam [] b c d e = ends_before c refl e
seam (x ∷ a) b [] d e = ends_behind (x ∷ a) refl e
seam (x ∷ a) b (y ∷ c) d e =
    let heads : x ≡ y = cc in
    let tails : a ++ b ≡ c ++ d = cc in
    seam_more x y a b c d heads (seam a b c d tails)

-- what a crash leaves rests on the first deed that is to be done alone
stop_front : (deed : Deed) (more others : List Deed) (folder : Folder) (left : List ℕ) → MayStop (deed ∷ more) folder left → MayStop (deed ∷ others) folder left
stop_front (cut len) more others folder left stop = stop
stop_front (kept bytes returned held) more others folder left stop = stop
stop_front (moved move) more others folder left stop = stop

-- ---- a crash among the steps

-- the old file is found or the new one, or the steps are done and the crash came behind them
pub data Steps (bytes mid left : List ℕ) (behind passed undone : List Deed) : Type 0 where
  finds_old : left ≡ mid → pieces passed ≡ 0 → Steps bytes mid left behind passed undone
  finds_new : left ≡ bytes → pieces passed ≡ 0 → Steps bytes mid left behind passed undone
  is_over : (more : List Deed) → more ++ undone ≡ behind → MayStop undone (after_deeds more (alone bytes)) left → pieces passed ≡ pieces more
      → Steps bytes mid left behind passed undone

module _ (bytes mid left : List ℕ) (behind undone : List Deed) where
  none_done : undone ≡ replacing bytes ++ behind → MayStop undone (alone mid) left → Steps bytes mid left behind [] undone
  none_done e stop =
      elim (subst (λ (d : List Deed). MayStop d (alone mid) left) e stop) [ inl is ↦ finds_old is refl | inr is ↦ finds_old is refl ]

  one_done : undone ≡ moved settled ∷ (moved renamed ∷ (moved named ∷ behind)) → MayStop undone (after_deed (moved (wrote bytes)) (alone mid)) left
      → Steps bytes mid left behind (moved (wrote bytes) ∷ []) undone
  one_done e stop =
      elim (subst (λ (d : List Deed). MayStop d (after_deed (moved (wrote bytes)) (alone mid)) left) e stop) [
        | inl is ↦ finds_old is refl
        | inr is ↦ finds_old is refl
      ]

  abbrev settled_there : Folder
  settled_there = after_deeds (moved (wrote bytes) ∷ (moved settled ∷ [])) (alone mid)

  two_done : undone ≡ moved renamed ∷ (moved named ∷ behind) → MayStop undone settled_there left
      → Steps bytes mid left behind (moved (wrote bytes) ∷ (moved settled ∷ [])) undone
  two_done e stop =
      elim (subst (λ (d : List Deed). MayStop d settled_there left) e stop) [
        | inl is ↦ finds_old is refl
        | inr is ↦ elim is [ inl was ↦ finds_old was refl | inr now ↦ finds_new now refl ]
      ]

  abbrev renamed_there : Folder
  renamed_there = after_deeds (moved (wrote bytes) ∷ (moved settled ∷ (moved renamed ∷ []))) (alone mid)

  three_done : undone ≡ moved named ∷ behind → MayStop undone renamed_there left
      → Steps bytes mid left behind (moved (wrote bytes) ∷ (moved settled ∷ (moved renamed ∷ []))) undone
  three_done e stop =
      elim (subst (λ (d : List Deed). MayStop d renamed_there left) e stop) [
        | inl is ↦ elim is [ inl was ↦ finds_old was refl | inr now ↦ finds_new now refl ]
        | inr now ↦ finds_new now refl
      ]

  -- the deeds that were done are the first of the steps
  abbrev Done : List Deed → Type 0
  Done passed = passed ++ undone ≡ replacing bytes ++ behind → MayStop undone (after_deeds passed (alone mid)) left → Steps bytes mid left behind passed undone

  first_is : (a : Deed) → a ≡ moved (wrote bytes) → Done (moved (wrote bytes) ∷ []) → Done (a ∷ [])
  first_is a e d = subst (λ (x : Deed). Done (x ∷ [])) (sym e) d

  second_are : (a b : Deed) → a ≡ moved (wrote bytes) → b ≡ moved settled → Done (moved (wrote bytes) ∷ (moved settled ∷ [])) → Done (a ∷ (b ∷ []))
  second_are a b e f d = subst (λ (x : Deed). Done (x ∷ (b ∷ []))) (sym e) (subst (λ (y : Deed). Done (moved (wrote bytes) ∷ (y ∷ []))) (sym f) d)

  third_are : (a b c : Deed) → a ≡ moved (wrote bytes) → b ≡ moved settled → c ≡ moved renamed
      → Done (moved (wrote bytes) ∷ (moved settled ∷ (moved renamed ∷ []))) → Done (a ∷ (b ∷ (c ∷ [])))
  third_are a b c e f g d =
      subst (λ (x : Deed). Done (x ∷ (b ∷ (c ∷ [])))) (sym e)
      (subst (λ (y : Deed). Done (moved (wrote bytes) ∷ (y ∷ (c ∷ [])))) (sym f)
      (subst (λ (z : Deed). Done (moved (wrote bytes) ∷ (moved settled ∷ (z ∷ [])))) (sym g) d))

  abbrev AllDone : List Deed → Type 0
  AllDone more = Done (moved (wrote bytes) ∷ (moved settled ∷ (moved renamed ∷ (moved named ∷ more))))

  all_are : (a b c d : Deed) (more : List Deed) → a ≡ moved (wrote bytes) → b ≡ moved settled → c ≡ moved renamed → d ≡ moved named → AllDone more
      → Done (a ∷ (b ∷ (c ∷ (d ∷ more))))
  all_are a b c d more e f g h all =
      subst (λ (x : Deed). Done (x ∷ (b ∷ (c ∷ (d ∷ more))))) (sym e)
      (subst (λ (y : Deed). Done (moved (wrote bytes) ∷ (y ∷ (c ∷ (d ∷ more))))) (sym f)
      (subst (λ (z : Deed). Done (moved (wrote bytes) ∷ (moved settled ∷ (z ∷ (d ∷ more))))) (sym g)
      (subst (λ (w : Deed). Done (moved (wrote bytes) ∷ (moved settled ∷ (moved renamed ∷ (w ∷ more))))) (sym h) all)))

  pub steps_done : (passed : List Deed) → Done passed
  steps_done [] e stop = none_done e stop
  steps_done (a ∷ []) e stop =
      let one : a ≡ moved (wrote bytes) = cc in
      first_is a one (λ f s. let rest : undone ≡ moved settled ∷ (moved renamed ∷ (moved named ∷ behind)) = cc in one_done rest s) e stop
  steps_done (a ∷ (b ∷ [])) e stop =
      let one : a ≡ moved (wrote bytes) = cc in
      let two : b ≡ moved settled = cc in
      second_are a b one two (λ f s. let rest : undone ≡ moved renamed ∷ (moved named ∷ behind) = cc in two_done rest s) e stop
  steps_done (a ∷ (b ∷ (c ∷ []))) e stop =
      let one : a ≡ moved (wrote bytes) = cc in
      let two : b ≡ moved settled = cc in
      let three : c ≡ moved renamed = cc in
      third_are a b c one two three (λ f s. let rest : undone ≡ moved named ∷ behind = cc in three_done rest s) e stop
  steps_done (a ∷ (b ∷ (c ∷ (d ∷ more)))) e stop =
      let one : a ≡ moved (wrote bytes) = cc in
      let two : b ≡ moved settled = cc in
      let three : c ≡ moved renamed = cc in
      let four : d ≡ moved named = cc in
      all_are a b c d more one two three four (λ f s. let rest : more ++ undone ≡ behind = cc in is_over more rest s refl) e stop

-- ---- the laws

-- no deed is behind the steps
by_end : (bytes left : List ℕ) (more undone : List Deed) → more ++ undone ≡ [] → MayStop undone (after_deeds more (alone bytes)) left → left ≡ bytes
by_end bytes left [] [] e stop = stop
by_end bytes left [] (d ∷ undone) e stop = absurd cc
by_end bytes left (d ∷ more) undone e stop = absurd cc

pub replaces_whole : ReplacesWhole
replaces_whole bytes file left may =
    elim (steps_done bytes file left [] may.undone may.done (may.all ∙ sym (append-nil (replacing bytes))) may.stops) [
      | finds_old is count ↦ inl is
      | finds_new is count ↦ inr is
      | is_over more all stop count ↦ inr (by_end bytes left more may.undone all stop)
    ]

module _ (before behind : List Deed) (start bytes mid left : List ℕ) (count : ℕ) (there : after_deeds before (alone start) ≡ alone mid) where
  abbrev Parts : Type 0
  Parts = LeavesBy before start left count ⊎ ((more : ℕ) × (count ≡ pieces before + more) × LeavesBy behind bytes left more)

  -- the old file is found
  old_found : left ≡ mid → pieces before ≡ count → Parts
  old_found is counted =
      let stop : MayStop [] (after_deeds before (alone start)) left = subst (λ (f : Folder). MayStop [] f left) (sym there) is in
      inl (record { may = record { done = before; undone = []; all = append-nil before; stops = stop }; count_is = counted })

  -- or the new one, or the deeds behind were begun
  by_steps : (passed undone : List Deed) → pieces (before ++ passed) ≡ count → Steps bytes mid left behind passed undone → Parts
  by_steps passed undone counted (finds_old is none) = old_found is (omega (arith, counted, none, pieces_both before passed))
  by_steps passed undone counted (finds_new is none) =
      inr (
        0,
        omega (arith, counted, none, pieces_both before passed),
        record {
          may = record {
            done = [];
            undone = behind;
            all = refl;
            stops = subst (λ (l : List ℕ). MayStop behind (alone bytes) l) (sym is) (at_rest behind bytes);
          };
          count_is = refl;
        },
      )
  by_steps passed undone counted (is_over more all stop same) =
      inr (
        pieces more,
        omega (arith, counted, same, pieces_both before passed),
        record { may = record { done = more; undone = undone; all = all; stops = stop }; count_is = refl },
      )

  by_seam : (done undone : List Deed) → pieces done ≡ count → MayStop undone (after_deeds done (alone start)) left
      → Seam done undone before (replacing bytes ++ behind) → Parts
  by_seam done undone counted stop (ends_before [] e f) =
      let same : before ≡ done = e ∙ append-nil done in
      let at_mid : after_deeds done (alone start) ≡ alone mid = ap (λ (d : List Deed). after_deeds d (alone start)) (sym same) ∙ there in
      by_steps [] undone (ap pieces (append-nil before ∙ same) ∙ counted)
      (none_done bytes mid left behind undone f (subst (λ (s : Folder). MayStop undone s left) at_mid stop))
  by_seam done undone counted stop (ends_before (deed ∷ more) e f) =
      let here = subst (λ (d : List Deed). MayStop d (after_deeds done (alone start)) left) f stop in
      inl (record {
        may = record {
          done = done;
          undone = deed ∷ more;
          all = sym e;
          stops = stop_front deed (more ++ (replacing bytes ++ behind)) more (after_deeds done (alone start)) left here;
        };
        count_is = counted;
      })
  by_seam done undone counted stop (ends_behind more e f) =
      let at : after_deeds done (alone start) ≡ after_deeds more (alone mid) =
      ap (λ (d : List Deed). after_deeds d (alone start)) e ∙ after_both before more (alone start) ∙ ap (λ (s : Folder). after_deeds more s) there in
      by_steps more undone (ap pieces (sym e) ∙ counted)
      (steps_done bytes mid left behind undone more f (subst (λ (s : Folder). MayStop undone s left) at stop))

pub replaces_between : ReplacesBetween
replaces_between before behind start bytes mid left count there leaves =
    by_seam before behind start bytes mid left count there leaves.may.done leaves.may.undone leaves.count_is leaves.may.stops
    (seam leaves.may.done leaves.may.undone before (replacing bytes ++ behind) leaves.may.all)

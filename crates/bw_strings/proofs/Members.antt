-- The strings that sets have.
use Rattle.std.proofs.Common.{◌≡◌, ℕ, Bool, true, List, [], ◌∷◌, refl, sym, ap, ◌∙◌, inl, inr}
use Rattle.std.specs.List.{list_any, list_all}
use Rattle.std.specs.declared.cmp.Ordering.TheVariants.{Equal}
use Rattle.std.specs.Ordering.{nat_cmp}
use Rattle.std.proofs.lemmas.Bool.{false≢true, or_cases, and_parts}
use Rattle.std.proofs.lemmas.Cmp.{nat_cmp_total, ranked}
use Rattle.std.proofs.lemmas.Slice.Eq.{bytes_eq-Decides}
use Rattle.std.proofs.Math.Bool.{or-true}
use Rattle.bw_lang.specs.Table.Names.{same}
use Rattle.bw_solve.specs.Lawful.SetLaws.{merge_any, within_any}
use Rattle.bw_strings.specs.declared.strings.StrSet.TheVariants.{Any, Of}
use Rattle.bw_strings.specs.Asking.{text_of, has_string, is_among}
use Rattle.bw_lang.specs.Text.Bytes.{is_blank_text}
use Rattle.bw_strings.specs.Laws.{JoinByStrings, BelowByStrings, WithinByStrings, BlankByStrings}

-- equal numbers have one literal
congr : (literals : List (List ℕ)) (s : List ℕ) (x y : ℕ) → nat_cmp x y ≡ Equal → same (text_of literals x) s ≡ same (text_of literals y) s
congr literals s x y e = ap (λ n. same (text_of literals n) s) (ranked x y Equal (sym e))

pub joins_by_strings : JoinByStrings
joins_by_strings literals Any b s = refl
joins_by_strings literals (Of xs) Any s = sym (or-true (has_string literals (Of xs) s))
joins_by_strings literals (Of xs) (Of ys) s = merge_any nat_cmp_total (λ n. same (text_of literals n) s) (congr literals s) xs ys

pub below_by_strings : BelowByStrings
below_by_strings literals a Any s w h = refl
below_by_strings literals Any (Of ys) s w h = absurd (false≢true w)
below_by_strings literals (Of xs) (Of ys) s w h = within_any nat_cmp_total (λ n. same (text_of literals n) s) (congr literals s) xs ys w h

-- a test that each literal of a list of numbers passes is passed by each string that is one of them
each_passes : (literals : List (List ℕ)) (test : List ℕ → Bool) (xs : List ℕ) (s : List ℕ)
    → list_all (λ n. test (text_of literals n)) xs ≡ true → list_any (λ n. same (text_of literals n) s) xs ≡ true → test s ≡ true
each_passes literals test [] s all h = absurd (false≢true h)
each_passes literals test (x ∷ xs) s all h =
    let p = and_parts (test (text_of literals x)) (list_all (λ n. test (text_of literals n)) xs) all in
    elim (or_cases (same (text_of literals x) s) (list_any (λ n. same (text_of literals n) s) xs) h) [
      | inl here ↦ ap test (sym ((bytes_eq-Decides (text_of literals x) s).0 here)) ∙ p.0
      | inr later ↦ each_passes literals test xs s p.1 later
    ]

pub within_by_strings : WithinByStrings
within_by_strings literals words Any w s h = absurd (false≢true w)
within_by_strings literals words (Of xs) w s h = each_passes literals (is_among words) xs s w h

pub blank_by_strings : BlankByStrings
blank_by_strings literals Any w s h = absurd (false≢true w)
blank_by_strings literals (Of xs) w s h = each_passes literals is_blank_text xs s w h

-- Blocks of the same places and the same words.
use Rattle.std.proofs.Common.{◌≡◌, ◌∙◌, ℕ, List, Option, ap}
use Rattle.bw_excerpt.specs.declared.excerpt.Place.{Place}
use Rattle.bw_diagnose.specs.Blocks.{block}

pub same_block : (name text : List ℕ) (f g : Place) (s t : Option Place) (w v m n : List ℕ) → f ≡ g → s ≡ t → w ≡ v → m ≡ n
    → block name text f s w m ≡ block name text g t v n
same_block name text f g s t w v m n a b c d =
    ap (λ x. block name text x s w m) a ∙ ap (λ x. block name text g x w m) b ∙ ap (λ x. block name text g t x m) c
    ∙ ap (λ x. block name text g t v x) d

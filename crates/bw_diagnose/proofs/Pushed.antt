-- Names are pushed one after the other.
use Rattle.std.proofs.Common.{◌≡◌, ◌<◌, ℕ, ◌+◌, List, [], ◌∷◌, ◌++◌, length, get_or, drop, append_assoc, ap, sym, ◌∙◌}
use Rattle.std.proofs.lemmas.List.{at_drop_more}
use Rattle.bw_places.specs.Drafted.{draft_of, drafts_of}
use Rattle.bw_places.specs.declared.spelled.Spelled.{Spelled}
use Rattle.bw_diagnose.specs.Gaps.{part_behind, gap_there, gaps_in}
use Rattle.bw_diagnose.specs.Meant.{own_names, declared_names}
use Rattle.bw_diagnose.specs.declared.gaps.Part.{Part}
use Rattle.bw_diagnose.specs.declared.names.Sort.{Sort}
use Rattle.bw_diagnose.proofs.Nearer.{word_step}

-- some names, and then those that are left
pub names_more : (names next some rest left all : List (List ℕ)) → next ≡ names ++ some → left ≡ some ++ rest → names ++ left ≡ all → next ++ rest ≡ all
names_more names next some rest left all e f w =
    ap (λ l. l ++ rest) e ∙ append_assoc names some rest ∙ ap (λ l. names ++ l) (sym f) ∙ w

pub declared_more : (sort : Sort) (names next : List (List ℕ)) (xs : List Spelled) (i : ℕ) (x : Spelled) (all : List (List ℕ)) → x ≡ get_or xs i x
    → i < length xs → next ≡ names ++ own_names sort (draft_of x) → names ++ declared_names sort (drafts_of (drop i xs)) ≡ all
    → next ++ declared_names sort (drafts_of (drop (i + 1) xs)) ≡ all
declared_more sort names next xs i x all e h f w =
    let rest = declared_names sort (drafts_of (drop (i + 1) xs)) in
    names_more names next (own_names sort (draft_of x)) rest (declared_names sort (drafts_of (drop i xs))) all f
    (at_drop_more (λ l. declared_names sort (drafts_of l)) xs i x h ∙ ap (λ (y : Spelled). own_names sort (draft_of y) ++ rest) (sym e)) w

pub word_more : (names next : List (List ℕ)) (xs : List (List ℕ)) (i : ℕ) (x : List ℕ) (all : List (List ℕ)) → x ≡ get_or xs i x → i < length xs
    → next ≡ names ++ x ∷ [] → names ++ drop i xs ≡ all → next ++ drop (i + 1) xs ≡ all
word_more names next xs i x all e h f w =
    names_more names next (x ∷ []) (drop (i + 1) xs) (drop i xs) all f
    (word_step xs i x e h) w

pub gaps_more : (part : Part) (names next : List (List ℕ)) (xs : List ℕ) (i b : ℕ) (all : List (List ℕ)) → b ≡ get_or xs i b → i < length xs
    → next ≡ names ++ gap_there part b (drop (i + 1) xs) → names ++ gaps_in part (drop i xs) ≡ all
    → next ++ gaps_in (part_behind part b) (drop (i + 1) xs) ≡ all
gaps_more part names next xs i b all e h f w =
    let rest = gaps_in (part_behind part b) (drop (i + 1) xs) in
    names_more names next (gap_there part b (drop (i + 1) xs)) rest (gaps_in part (drop i xs)) all f
    (at_drop_more (gaps_in part) xs i b h ∙ ap (λ y. gap_there part y (drop (i + 1) xs) ++ gaps_in (part_behind part y) (drop (i + 1) xs)) (sym e)) w

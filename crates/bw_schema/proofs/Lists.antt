-- Lists of lists, and the words of a line.
use Rattle.std.proofs.Common.{◌≡◌, ℕ, ◌+◌, ◌<◌, ◌≤◌, Bool, true, false, cond, not, ◌||◌, List, [], ◌∷◌, ◌++◌, length, get_or, take, drop, map, refl, ap, sym}
use Rattle.std.proofs.Common.{◌∙◌, append_assoc, arith}
use Rattle.std.specs.Prelude.{flat_map, filter, ◌==◌, if◌then◌else◌}
use Rattle.std.specs.List.{slice_split, onto_first}
use Rattle.std.specs.Str.Lines.{lines}
use Rattle.std.proofs.Math.Dec.{eqb-suc-zero}
use Rattle.std.proofs.Math.Nat.{suc-ne-zero}
use Rattle.std.proofs.lemmas.Grind.{flat_map-append}
use Rattle.std.proofs.lemmas.List.{take_more, append-nil, length-drop, nil_from_length, take-append-drop}
use Rattle.std.proofs.lemmas.List.Elements.{filter-append}
use Rattle.bw_schema.specs.Words.{has_some, is_skipped, said, words_of}

-- ---- lists of lists

-- what one more gives comes behind
pub flat_grow : {A B : Type 0} (f : A → List B) (xs : List A) (i : ℕ) (x : A) → x ≡ get_or xs i x → i < length xs
    → flat_map f (take (i + 1) xs) ≡ flat_map f (take i xs) ++ f x
flat_grow f xs i x e h =
    ap (flat_map f) (take_more xs i x h) ∙ flat_map-append f (take i xs) (get_or xs i x ∷ [])
    ∙ ap (λ y. flat_map f (take i xs) ++ (f y ++ [])) (sym e) ∙ ap (λ r. flat_map f (take i xs) ++ r) (append-nil (f x))

-- the same behind others
pub flat_onto : {A B : Type 0} (f : A → List B) (old : List B) (xs : List A) (i : ℕ) (x : A) → x ≡ get_or xs i x → i < length xs
    → old ++ flat_map f (take (i + 1) xs) ≡ (old ++ flat_map f (take i xs)) ++ f x
flat_onto f old xs i x e h = ap (λ r. old ++ r) (flat_grow f xs i x e h) ∙ sym (append_assoc old (flat_map f (take i xs)) (f x))

pub flat_map-map : {A B C : Type 0} (f : B → List C) (g : A → B) (xs : List A) → flat_map (λ x. f (g x)) xs ≡ flat_map f (map g xs)
flat_map-map f g [] = refl
flat_map-map f g (x ∷ xs) = ap (λ r. f (g x) ++ r) (flat_map-map f g xs)

filter-flat_map : {A B : Type 0} (p : B → Bool) (f : A → List B) (xs : List A) → filter p (flat_map f xs) ≡ flat_map (λ x. filter p (f x)) xs
filter-flat_map p f [] = refl
filter-flat_map p f (x ∷ xs) = filter-append p (f x) (flat_map f xs) ∙ ap (λ r. filter p (f x) ++ r) (filter-flat_map p f xs)

-- ---- parts between marks

abbrev Some : List (List ℕ) → Type 0
Some [] = ⊥
Some (s ∷ ss) = Unit {0}

some_step : (b : Bool) (x : ℕ) (parts : List (List ℕ)) → Some (cond b ([] ∷ parts) (onto_first x parts))
some_step true x parts = tt
some_step false x [] = tt
some_step false x (s ∷ ss) = tt

some_part : (p : ℕ → Bool) (xs : List ℕ) → Some (slice_split p xs)
some_part p [] = tt
some_part p (x ∷ xs) = some_step (p x) x (slice_split p xs)

onto_append : (x : ℕ) (a b : List (List ℕ)) → Some a → onto_first x a ++ b ≡ onto_first x (a ++ b)
onto_append x [] b h = absurd h
onto_append x (s ∷ ss) b h = refl

split_step : (p q : ℕ → Bool) (x : ℕ) (b c : Bool) (parts all : List (List ℕ)) → q x ≡ c → Some parts → flat_map (slice_split q) parts ≡ all
    → flat_map (slice_split q) (cond b ([] ∷ parts) (onto_first x parts)) ≡ cond (b || c) ([] ∷ all) (onto_first x all)
split_step p q x true c parts all e m h = ap (λ r. [] ∷ r) h
split_step p q x false c [] all e m h = absurd m
split_step p q x false true (s ∷ ss) all e m h =
    ap (λ t. cond t ([] ∷ slice_split q s) (onto_first x (slice_split q s)) ++ flat_map (slice_split q) ss) e ∙ ap (λ r. [] ∷ r) h
split_step p q x false false (s ∷ ss) all e m h =
    ap (λ t. cond t ([] ∷ slice_split q s) (onto_first x (slice_split q s)) ++ flat_map (slice_split q) ss) e
    ∙ onto_append x (slice_split q s) (flat_map (slice_split q) ss) (some_part q s) ∙ ap (onto_first x) h

-- the parts between either of two marks are those between the one mark, parted by the other
split_both : (p q : ℕ → Bool) (xs : List ℕ) → flat_map (slice_split q) (slice_split p xs) ≡ slice_split (λ b. p b || q b) xs
split_both p q [] = refl
split_both p q (x ∷ xs) = split_step p q x (p x) (q x) (slice_split p xs) _ refl (some_part p xs) (split_both p q xs)

-- ---- words

abbrev pub is_tab : ℕ → Bool
is_tab b = b == 9

abbrev pub is_space : ℕ → Bool
is_space b = b == 32

-- the words between tabs
abbrev pub tab_words : List ℕ → List (List ℕ)
tab_words part = filter has_some (slice_split is_tab part)

-- the word, unless it is empty
abbrev pub kept : List ℕ → List (List ℕ)
kept w = if has_some w then w ∷ [] else []

pub kept_all : (ws : List (List ℕ)) → flat_map kept ws ≡ filter has_some ws
kept_all [] = refl
kept_all (w ∷ ws) = by_test (has_some w) (kept_all ws)
  where
    by_test : (b : Bool) → flat_map kept ws ≡ filter has_some ws → (if b then w ∷ [] else [])
        ++ flat_map kept ws ≡ cond b (w ∷ filter has_some ws) (filter has_some ws)
    by_test true h = ap (λ r. w ∷ r) h
    by_test false h = h

pub words_by_tabs : (line : List ℕ) → flat_map tab_words (slice_split is_space line) ≡ words_of line
words_by_tabs line = sym (filter-flat_map has_some (slice_split is_tab) (slice_split is_space line)) ∙ ap (filter has_some) (split_both is_space is_tab line)

-- what a line says, unless it is skipped
abbrev pub said_by : List ℕ → List (List (List ℕ))
said_by line = if not (is_skipped line) then words_of line ∷ [] else []

said_each : (ls : List (List ℕ)) → flat_map said_by ls ≡ map words_of (filter (λ line. not (is_skipped line)) ls)
said_each [] = refl
said_each (l ∷ ls) = by_test (not (is_skipped l)) (said_each ls)
  where
    by_test : (b : Bool) → flat_map said_by ls ≡ map words_of (filter (λ line. not (is_skipped line)) ls)
        → (if b then words_of l ∷ [] else []) ++ flat_map said_by ls ≡ map words_of
        (cond b (l ∷ filter (λ line. not (is_skipped line)) ls) (filter (λ line. not (is_skipped line)) ls))
    by_test true h = ap (λ r. words_of l ∷ r) h
    by_test false h = h

pub said_all : (text : List ℕ) → flat_map said_by (lines text) ≡ said text
said_all text = said_each (lines text)

-- ---- steps of loops

-- no word stands in nothing
pub no_words : (part : List ℕ) (old : List (List ℕ)) → length part ≡ 0 → old ≡ old ++ tab_words part
no_words [] old h = sym (append-nil old)
no_words (b ∷ part) old h = absurd (suc-ne-zero (length part) h)

pub kept_none : (w : List ℕ) → length w ≡ 0 → kept w ≡ []
kept_none [] h = refl
kept_none (b ∷ w) h = absurd (suc-ne-zero (length w) h)

pub kept_one : (w : List ℕ) → (length w ≡ 0 → ⊥) → kept w ≡ w ∷ []
kept_one [] h = absurd (h refl)
kept_one (b ∷ w) h = ap (λ c. if not c then (b ∷ w) ∷ [] else []) (eqb-suc-zero (length w))

pub said_none : (line : List ℕ) → is_skipped line ≡ true → said_by line ≡ []
said_none line h = ap (λ b. if not b then words_of line ∷ [] else []) h

pub said_one : (line : List ℕ) → is_skipped line ≡ false → said_by line ≡ words_of line ∷ []
said_one line h = ap (λ b. if not b then words_of line ∷ [] else []) h

pub ruleset word_steps = (flat_onto, flat_grow, kept_none, kept_one, said_none, said_one)

-- behind its end nothing is left of a list
pub drop_past : {A : Type 0} (xs : List A) (i : ℕ) → length xs ≤ i → drop i xs ≡ []
drop_past xs i h = nil_from_length (drop i xs) (omega (arith, length-drop i xs, h))

-- and all of it is in front
take_past : {A : Type 0} (xs : List A) (i : ℕ) → length xs ≤ i → take i xs ≡ xs
take_past xs i h = sym (append-nil (take i xs)) ∙ ap (λ t. take i xs ++ t) (sym (drop_past xs i h)) ∙ take-append-drop i xs

-- what a loop over parts comes to, where each gives what f gives
pub flat_end : {A B C : Type 0} (f : B → List C) (g : A → B) (items : List A) (i : ℕ) (all : List B) → length items ≤ i → map g items ≡ all
    → flat_map (λ x. f (g x)) (take i items) ≡ flat_map f all
flat_end f g items i all h e = ap (flat_map (λ x. f (g x))) (take_past items i h) ∙ flat_map-map f g items ∙ ap (flat_map f) e

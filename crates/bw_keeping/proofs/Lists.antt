-- What is kept of exchanges one after another.
use Rattle.std.proofs.Common.{◌≡◌, List, [], ◌∷◌, ◌++◌, refl, sym, ap, ◌∙◌, append_assoc}
use Rattle.bw_journal.specs.Layout.{Entry}
use Rattle.bw_keeping.specs.Answered.{Exchange, entries_of}

pub entries_then : (xs ys : List Exchange) → entries_of (xs ++ ys) ≡ entries_of xs ++ entries_of ys
entries_then [] ys = refl
entries_then (x ∷ xs) ys = ap (λ (es : List Entry). x.entries ++ es) (entries_then xs ys) ∙ sym (append_assoc x.entries (entries_of xs) (entries_of ys))

-- exchanges of which nothing is kept add nothing
pub none_then : (xs ys : List Exchange) → entries_of ys ≡ [] → entries_of xs ≡ [] → entries_of (xs ++ ys) ≡ []
none_then xs ys none first = entries_then xs ys ∙ ap (λ (es : List Entry). es ++ entries_of ys) first ∙ none

-- where nothing is kept of the first, what is kept is that of the others
pub after_none : (xs ys : List Exchange) → entries_of xs ≡ [] → entries_of (xs ++ ys) ≡ entries_of ys
after_none xs ys first = entries_then xs ys ∙ ap (λ (es : List Entry). es ++ entries_of ys) first

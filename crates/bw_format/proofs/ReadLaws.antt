-- What is read of a text is what it spells.
use Rattle.std.proofs.Common.{◌≡◌, ℕ, List, Some, None, Ok, Err, IfOk, MatchOption, sym, ◌∙◌, subst, chars}
use Rattle.std.specs.declared.option.Option.{Option}
use Rattle.std.specs.declared.result.Result.{Result}
use Rattle.bw_format.specs.declared.format.Format.{Format}
use Rattle.bw_format.specs.FormatFile.{AreParts}
use Rattle.bw_format.specs.Pattern.{Pattern}
use Rattle.bw_format.specs.Reading.{read}
use Rattle.bw_format.specs.Spelling.{Spells}
use Rattle.bw_format.proofs.Complete.{complete}
use Rattle.bw_format.proofs.Sound.{sound}

is_read : (o : Option Pattern) (text : List ℕ) → o ≡ read text → MatchOption o ((p : Pattern) → Spells text p → ⊥) (λ p. Spells text p)
is_read None text e = λ p s. (let k : None ≡ Some p = e ∙ complete text p s in cc)
is_read (Some p) text e = sound text p (sym e)

pub read_is : {E : Type 0} (r : Result (Option Pattern) E) (text : List ℕ) → IfOk r (λ o. o ≡ read text) → IfOk r (λ o. MatchOption o ((p : Pattern)
    → Spells text p → ⊥) (λ p. Spells text p))
read_is (Ok o) text e = is_read o text e
read_is (Err e) text h = tt

pub one_spelling : (text : List ℕ) (p q : Pattern) → Spells text p → Spells text q → p ≡ q
one_spelling text p q h k = (let e : Some p ≡ Some q = sym (complete text p h) ∙ complete text q k in cc)

pub none_read : (o : Option Pattern) (field rest : List ℕ) → o ≡ None
    → MatchOption o ((p : Pattern) → Spells (chars rest) p → ⊥) (λ p. Spells (chars rest) p) → (f : Format) → AreParts field rest f → ⊥
none_read o field rest e h f parts =
    let P : Option Pattern → Type 0 = λ o. MatchOption o ((p : Pattern) → Spells (chars rest) p → ⊥) (λ p. Spells (chars rest) p) in
    subst P e h f.pattern parts.3

pub some_read : (o : Option Pattern) (text : List ℕ) (p : Pattern) → o ≡ Some p
    → MatchOption o ((p : Pattern) → Spells text p → ⊥) (λ p. Spells text p) → Spells text p
some_read o text p e h =
    let P : Option Pattern → Type 0 = λ o. MatchOption o ((p : Pattern) → Spells text p → ⊥) (λ p. Spells text p) in
    subst P e h

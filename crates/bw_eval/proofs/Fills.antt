-- The pairs of a plug, one after the other.
use Rattle.std.proofs.Common.{◌≡◌, ℕ, zero, suc, ◌+◌, ◌<◌, List, [], ◌∷◌, length, get_or, drop, Ok, Err, refl, ap, sym, ◌∙◌, subst, arith}
use Rattle.std.specs.Prelude.{Result, IsErrAnd, IfOk}
use Rattle.bw_lang.specs.declared.expr.Pair.{Pair}
use Rattle.bw_lang.specs.declared.service.Service.{Service}
use Rattle.bw_lang.specs.declared.turn.TurnFault.{TurnFault}
use Rattle.bw_lang.specs.Table.Names as names
use Rattle.bw_lang.specs.Service.Term.{Term, Fillings, filling}
use Rattle.bw_lang.specs.Service.TermView.{term, fillings}
use Rattle.bw_meaning.specs.Expressions.{Evaluated, Gives, Faults, and_then, given, eval, fill}
use Rattle.bw_meaning.specs.Operators.{document_of, filled}
use Rattle.bw_meaning.specs.Values.{Value, Values}
use Rattle.bw_eval.specs.declared.value.Value as declared
use Rattle.bw_eval.specs.Bases.{IsDocument, GivesDocument}
use Rattle.bw_eval.specs.Evaluations.{evaluated, HasMemory}
use Rattle.bw_eval.specs.View.{value}

-- the pair at a place, and those behind it
pub fillings_at : (xs : List Pair) (i : ℕ) (x : Pair) → x ≡ get_or xs i x → i < length xs →
    fillings (drop i xs) ≡ filling x.gap (term x.value) (fillings (drop (i + 1) xs))
fillings_at [] i x e h = absurd (omega arith)
fillings_at (y ∷ xs) zero x e h = ap (λ (p : Pair). filling p.gap (term p.value) (fillings xs)) (sym e)
fillings_at (y ∷ xs) (suc i) x e h = let k : suc i + 1 ≡ suc (i + 1) = omega arith in fillings_at xs i x e (omega arith)
    ∙ ap (λ n. filling x.gap (term x.value) (fillings (drop n (y ∷ xs)))) (sym k)

-- what holds of these pairs holds of the pair at a place and those behind it
pub pairs_from : (Q : Fillings → Type 0) (xs : List Pair) (i : ℕ) (x : Pair) → x ≡ get_or xs i x → i < length xs → Q (fillings (drop i xs)) →
    Q (filling x.gap (term x.value) (fillings (drop (i + 1) xs)))
pairs_from Q xs i x e h q = subst Q (fillings_at xs i x e h) q

fill_next : (service : Service) (l s : Values) (g : List ℕ) (e : Term) (ps : Fillings) (d v d1 : Value) (u w : ℕ) →
    eval service l s e u ≡ Gives v w → filled (names.name_number service.gaps g) v (document_of d) ≡ Ok d1 →
    fill service l s (filling g e ps) d u ≡ fill service l s ps d1 w
fill_next service l s g e ps d v d1 u w ev fv = rw ev (ap (λ r. and_then (given r w) (λ x y. fill service l s ps x y)) fv)

fill_stops : (service : Service) (l s : Values) (g : List ℕ) (e : Term) (ps : Fillings) (d v : Value) (f : TurnFault) (u w : ℕ) →
    eval service l s e u ≡ Gives v w → filled (names.name_number service.gaps g) v (document_of d) ≡ Err f →
    fill service l s (filling g e ps) d u ≡ Faults f w
fill_stops service l s g e ps d v f u w ev fv = rw ev (ap (λ r. and_then (given r w) (λ x y. fill service l s ps x y)) fv)

fill_fails : (service : Service) (l s : Values) (g : List ℕ) (e : Term) (ps : Fillings) (d : Value) (f : TurnFault) (u w : ℕ) →
    eval service l s e u ≡ Faults f w → fill service l s (filling g e ps) d u ≡ Faults f w
fill_fails service l s g e ps d f u w ev = rw ev refl

pub next_at : (service : Service) (l s : Values) (xs : List Pair) (i : ℕ) (x : Pair) (d v d1 : Value) (u w n : ℕ) (o : Evaluated) →
    x ≡ get_or xs i x → i < length xs → o ≡ fill service l s (fillings (drop i xs)) d u →
    Gives v w ≡ eval service l s (term x.value) u → n ≡ names.name_number service.gaps x.gap → Ok d1 ≡ filled n v (document_of d) →
    o ≡ fill service l s (fillings (drop (i + 1) xs)) d1 w
next_at service l s xs i x d v d1 u w n o e h is ev nv fv =
    is ∙ ap (λ ps. fill service l s ps d u) (fillings_at xs i x e h)
    ∙ fill_next service l s x.gap (term x.value) (fillings (drop (i + 1) xs)) d v d1 u w (sym ev) (ap (λ k. filled k v (document_of d)) (sym nv) ∙ sym fv)

pub stops_at : (service : Service) (l s : Values) (xs : List Pair) (i : ℕ) (x : Pair) (d v : Value) (f : TurnFault) (u w n : ℕ) (o : Evaluated) →
    x ≡ get_or xs i x → i < length xs → o ≡ fill service l s (fillings (drop i xs)) d u →
    Gives v w ≡ eval service l s (term x.value) u → n ≡ names.name_number service.gaps x.gap → Err f ≡ filled n v (document_of d) → Faults f w ≡ o
stops_at service l s xs i x d v f u w n o e h is ev nv fv =
    sym (is ∙ ap (λ ps. fill service l s ps d u) (fillings_at xs i x e h)
    ∙ fill_stops service l s x.gap (term x.value) (fillings (drop (i + 1) xs)) d v f u w (sym ev) (ap (λ k. filled k v (document_of d)) (sym nv)
    ∙ sym fv))

pub fails_at : (service : Service) (l s : Values) (xs : List Pair) (i : ℕ) (x : Pair) (d : Value) (f : TurnFault) (u w : ℕ) (o : Evaluated) →
    x ≡ get_or xs i x → i < length xs → o ≡ fill service l s (fillings (drop i xs)) d u →
    Faults f w ≡ eval service l s (term x.value) u → Faults f w ≡ o
fails_at service l s xs i x d f u w o e h is ev =
    sym (is ∙ ap (λ ps. fill service l s ps d u) (fillings_at xs i x e h)
    ∙ fill_fails service l s x.gap (term x.value) (fillings (drop (i + 1) xs)) d f u w (sym ev))

-- an error that is handed on
pub stops_with : (r : Result declared.Value TurnFault) (f : TurnFault) (w : ℕ) (o : Evaluated) → IsErrAnd r (λ e. e ≡ f) →
    (HasMemory {A = declared.Value} (Err f) → Faults f w ≡ o) → HasMemory r → evaluated r w ≡ o
stops_with (Ok v) f w o p h m = absurd p
stops_with (Err e) f w o p h m = subst (λ x. HasMemory {A = declared.Value} (Err x) → Faults x w ≡ o) (sym p) h m

-- what an expression gives is a document, where its values are
pub document_given : (o : Evaluated) (v : Value) (u : ℕ) → Gives v u ≡ o → GivesDocument o → IsDocument v
document_given o v u e h = subst GivesDocument (sym e) h

pub ok_document : (r : Result declared.Value TurnFault) (u : ℕ) (o : Evaluated) → (HasMemory r → evaluated r u ≡ o) → GivesDocument o →
    IfOk r (λ v. IsDocument (value v))
ok_document (Ok v) u o e h = document_given o (value v) u (e tt) h
ok_document (Err f) u o e h = tt

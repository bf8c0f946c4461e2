-- What shared variables begin with, one after another.
use Rattle.std.proofs.Common.{◌≡◌, ℕ, zero, suc, ◌+◌, ◌<◌, List, [], ◌∷◌, ◌++◌, length, map, take, get_or, refl, sym, ap, ◌∙◌, subst, arith}
use Rattle.std.specs.List.{All}
use Rattle.std.specs.Prelude.{position, is_some, slice_get, Option, Some, None, Result, Ok, Err, IfOk, true}
use Rattle.std.specs.Option.{option_map}
use Rattle.bw_lang.specs.Table.Names.{same}
use Rattle.bw_doc.specs.Made as made
use Rattle.bw_doc.specs.Made.{Made}
use Rattle.bw_doc.specs.Operations.{items_in, items_at}
use Rattle.bw_eval.proofs.Templates.{found_at, get_within}
use Rattle.std.proofs.lemmas.List.{map-append}
use Rattle.std.proofs.lemmas.List.Elements.{All-append, All-cons, All-nil}
use Rattle.bw_lang.specs.declared.service.Service.{Service}
use Rattle.bw_lang.specs.declared.service.Shared.{Shared}
use Rattle.bw_lang.specs.declared.service.Template.{Template}
use Rattle.bw_lang.specs.declared.stmt.Kind.{Kind}
use Rattle.bw_meaning.specs.Values as meaning
use Rattle.bw_meaning.specs.Values.{literal_value}
use Rattle.bw_eval.specs.declared.value.Value.{Value}
use Rattle.bw_eval.specs.Sound.{IsSound, AreSound}
use Rattle.bw_eval.specs.View.{document, value, values, named}
use Rattle.bw_run.specs.Follow.Kinds.{kind_of, kinds_of}

take_at : {A : Type 0} (xs : List A) (i : ℕ) (x : A) → x ≡ get_or xs i x → i < length xs → take (i + 1) xs ≡ take i xs ++ x ∷ []
take_at [] i x e h = absurd (omega arith)
take_at (y ∷ xs) zero x e h = ap (λ z. z ∷ []) (sym e)
take_at (y ∷ xs) (suc i) x e h = let k : suc i + 1 ≡ suc (i + 1) = omega arith in ap (λ n. take n (y ∷ xs)) k
    ∙ ap (λ l. y ∷ l) (take_at xs i x e (omega arith))

abbrev pub first_of : Service → Shared → List ℕ × meaning.Value
first_of service v = (v.name, literal_value service v.init)

abbrev pub kind_pair : Shared → List ℕ × Kind
kind_pair v = (v.name, v.kind)

pub first_next : (service : Service) (xs : List Shared) (i : ℕ) (x : Shared) (f g : List (List ℕ × Value)) (w : List ℕ) (v : Value) →
    x ≡ get_or xs i x → i < length xs → w ≡ x.name → value v ≡ literal_value service x.init → g ≡ f ++ (w, v) ∷ [] →
    values f ≡ map (first_of service) (take i xs) → values g ≡ map (first_of service) (take (i + 1) xs)
first_next service xs i x f g w v e h ew ev eg is =
    ap values eg ∙ map-append named f ((w, v) ∷ []) ∙ (λ j. is j ++ (ew j, ev j) ∷ []) ∙ sym (map-append (first_of service) (take i xs) (x ∷ []))
    ∙ ap (map (first_of service)) (sym (take_at xs i x e h))

pub kind_next : (xs : List Shared) (i : ℕ) (x : Shared) (f g : List (List ℕ × Value)) (w : List ℕ) (v : Value) → x ≡ get_or xs i x → i < length xs →
    w ≡ x.name → kind_of (value v) ≡ x.kind → g ≡ f ++ (w, v) ∷ [] →
    kinds_of (values f) ≡ map kind_pair (take i xs) → kinds_of (values g) ≡ map kind_pair (take (i + 1) xs)
kind_next xs i x f g w v e h ew ev eg is =
    ap (λ l. kinds_of (values l)) eg ∙ ap kinds_of (map-append named f ((w, v) ∷ []))
    ∙ map-append (λ (p : List ℕ × meaning.Value). (p.0, kind_of p.1)) (values f) ((w, value v) ∷ [])
    ∙ (λ j. is j ++ (ew j, ev j) ∷ []) ∙ sym (map-append kind_pair (take i xs) (x ∷ [])) ∙ ap (map kind_pair) (sym (take_at xs i x e h))

pub sound_next : (ts : List Template) (f g : List (List ℕ × Value)) (w : List ℕ) (v : Value) → AreSound ts f → IsSound ts v → g ≡ f ++ (w, v) ∷ [] →
    AreSound ts g
sound_next ts f g w v a b e =
    let P : List ℕ × Value → Type 0 = λ x. IsSound ts x.1 in
    subst (AreSound ts) (sym e) (All-append P f ((w, v) ∷ []) a (All-cons P (w, v) [] b (All-nil P)))

-- ---- the template of a name

constant_some : (n : ℕ) (o : Option Template) → is_some o ≡ true →
    option_map (λ (t : Template). meaning.document (meaning.constant t.items)) o ≡ Some (meaning.document (document (made.constant n (items_in o))))
constant_some n None e = cc
constant_some n (Some t) e = refl

pub template_some : (service : Service) (w : List ℕ) (n : ℕ) (d : Made) →
    position (λ (t : Template). same w t.name) service.templates ≡ Some n → d ≡ made.constant n (items_at service.templates n) →
    meaning.template_value service w ≡ Some (meaning.document (document d))
template_some service w n d e ed =
    let h = found_at (λ (t : Template). same w t.name) service.templates n e in
    ap (option_map (λ (t : Template). meaning.document (meaning.constant t.items))) h.1
    ∙ constant_some n (slice_get service.templates n) (get_within service.templates n h.0) ∙ ap (λ x. Some (meaning.document (document x))) (sym ed)

pub template_ok : {E : Type 0} (service : Service) (w : List ℕ) (n : ℕ) (r : Result Made E) →
    position (λ (t : Template). same w t.name) service.templates ≡ Some n → IfOk r (λ d. d ≡ made.constant n (items_at service.templates n)) →
    IfOk r (λ d. meaning.template_value service w ≡ Some (meaning.document (document d)))
template_ok service w n (Ok d) e h = template_some service w n d e h
template_ok service w n (Err f) e h = h

-- ---- what holds of each shared variable

pub holds_at : (P : Shared → Type 0) (all xs : List Shared) (i : ℕ) (x : Shared) → xs ≡ all → All P all → x ≡ get_or xs i x → i < length xs → P x
holds_at P all xs i x e a is h = subst P (sym is) (subst (All P) (sym e) a i x h)

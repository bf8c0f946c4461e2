-- Values are read as they are spelled.
use Rattle.std.proofs.Common.{◌≡◌, ◌<◌, ◌≤◌, ℕ, zero, suc, ◌+◌, ◌^◌, Bool, true, false, cond, eqb, List, [], ◌∷◌, ◌++◌, length, Option, Some, None, refl}
use Rattle.std.proofs.Common.{sym, ap, subst, ◌∙◌, append_assoc, arith}
use Rattle.std.specs.Prelude.{ℤ, FitsSigned}
use Rattle.std.specs.List.{flat_map}
use Rattle.std.specs.Int.{w64}
use Rattle.std.proofs.lemmas.Bool.{eqb-true, eq-eqb}
use Rattle.bw_saved.specs.Codec.{IsBytes, Takes, IsCodec, EachFits}
use Rattle.bw_saved.specs.declared.fault.ReadError.{ReadError}
use Rattle.bw_saved.specs.declared.fault.ReadError.TheVariants as errors
use Rattle.bw_saved.specs.Fields.Reading.{◌>>=◌, Fails, integer_at, text_at, strings_at, each_at}
use Rattle.bw_saved.specs.Fields.Spelling.{integer, text, strings, IsText, AreTexts}
use Rattle.bw_saved.proofs.Codecs.{IsBytes-rest, bind_some, guarded, some_is, Takes-then, binds, is_codec}
use Rattle.bw_saved.proofs.FieldLaws.{integer_codec, text_codec, strings_codec}
use Rattle.bw_saved.proofs.Loop.{each_codec}
use Rattle.bw_doc.specs.Made.{Made}
use Rattle.bw_eval.specs.declared.value.Value.{Value}
use Rattle.bw_eval.specs.declared.value.Value.TheVariants.{Int, Bool as Truth, Str, Html, Strs}
use Rattle.bw_lang.specs.declared.service.Service.{Service}
use Rattle.bw_lang.specs.declared.stmt.Kind.{Kind}
use Rattle.bw_lang.specs.declared.stmt.Kind.TheVariants as kinds
use Rattle.bw_saved.specs.Documents.Demands.{IsDocument, IsSmall}
use Rattle.bw_saved.specs.Documents.Layout.{document}
use Rattle.bw_saved.specs.Documents.Reading.{document_at}
use Rattle.bw_saved.proofs.DocumentLaws.{document_codec}
use Rattle.bw_saved.specs.Values.Demands.{IsValue, IsVariable, AreVariables}
use Rattle.bw_saved.specs.Values.Layout.{bit, value, variables}
use Rattle.bw_saved.specs.Values.Reading.{tag_at, bit_at, value_at, variable_at, variables_at}

-- ---- behind a byte

tag_takes : (t : ℕ) (bytes rest : List ℕ) → tag_at t bytes ≡ Some rest → bytes ≡ t ∷ rest
tag_takes t [] rest e = absurd cc
tag_takes t (b ∷ bytes) rest e =
    let g = guarded (eqb b t) (Some bytes) rest e in
    ap (λ (x : ℕ). x ∷ bytes) (eqb-true _ _ g.0) ∙ ap (λ (x : List ℕ). t ∷ x) (some_is bytes rest g.1)

tag_again : (t : ℕ) (rest : List ℕ) → tag_at t (t ∷ rest) ≡ Some rest
tag_again t rest = rw (eq-eqb t t refl) refl

Takes-tag : (t : ℕ) (bytes front text rest : List ℕ) → bytes ≡ t ∷ front → Takes front text rest → Takes bytes (t ∷ text) rest
Takes-tag t bytes front text rest e p = record { parts = e ∙ ap (λ (x : List ℕ). t ∷ x) p.parts; rest_fits = p.rest_fits }

-- what is read behind a byte, and made into a value
pub tagged : {A B : Type 0} (t : ℕ) (s : A → List ℕ) (F : A → Type 0) (r : List ℕ → Option (A × List ℕ)) (f : A → B) (v : B → List ℕ) (G : B → Type 0) →
    IsCodec s F r → ((a : A) → v (f a) ≡ t ∷ s a) → ((a : A) → F a → G (f a)) → ((b : B) → G b → (a : A) × F a × (f a ≡ b)) →
    IsCodec v G (λ bytes. tag_at t bytes >>= λ rest. r rest >>= λ x. Some (f x.0, x.1))
tagged {A} {B} t s F r f v G c same to from = record {
  takes = λ bytes x fits e.
      let a = bind_some (tag_at t bytes) (λ rest. r rest >>= λ x. Some (f x.0, x.1)) x e in
      let front = tag_takes t bytes a.0 a.1 in
      let b = bind_some (r a.0) (λ x. Some (f x.0, x.1)) x a.2 in
      let p = c.takes a.0 b.0 (IsBytes-rest t a.0 (subst IsBytes front fits)) b.1 in
      subst (λ (y : B × List ℕ). Takes bytes (v y.0) y.1 × G y.0) (some_is (f b.0.0, b.0.1) x b.2)
      (subst (λ (w : List ℕ). Takes bytes w b.0.1) (sym (same b.0.0)) (Takes-tag t bytes a.0 (s b.0.0) b.0.1 front p.0), to b.0.0 p.1);
  again = λ z rest fits.
      let a = from z fits in
      let bytes : v z ++ rest ≡ t ∷ (s a.0 ++ rest) = ap (λ (y : B). v y ++ rest) (sym a.2) ∙ ap (λ (x : List ℕ). x ++ rest) (same a.0) in
      ap (λ (w : List ℕ). tag_at t w >>= λ rest. r rest >>= λ x. Some (f x.0, x.1)) bytes
      ∙ ap (λ (o : Option (List ℕ)). o >>= λ rest. r rest >>= λ x. Some (f x.0, x.1)) (tag_again t (s a.0 ++ rest))
      ∙ ap (λ (o : Option (A × List ℕ)). o >>= λ x. Some (f x.0, x.1)) (c.again a.0 rest a.1)
      ∙ ap (λ (y : B). Some (y, rest)) a.2;
}

bit_codec : IsCodec (λ b. bit b ∷ []) (λ b. Unit {0}) bit_at
unfolding bit_at
bit_codec = record { takes = λ bytes x fits e. bit_takes bytes x fits e; again = λ b rest fits. bit_again b rest }
  where
    bit_takes : (bytes : List ℕ) (x : Bool × List ℕ) → IsBytes bytes → bit_at bytes ≡ Some x → Takes bytes (bit x.0 ∷ []) x.1 × Unit {0}
    bit_takes [] x fits e = absurd cc
    bit_takes (zero ∷ bytes) x fits e =
        subst (λ (y : Bool × List ℕ). Takes (0 ∷ bytes) (bit y.0 ∷ []) y.1 × Unit {0}) (some_is (false, bytes) x e)
        (record { parts = refl; rest_fits = IsBytes-rest 0 bytes fits }, tt)
    bit_takes (suc zero ∷ bytes) x fits e =
        subst (λ (y : Bool × List ℕ). Takes (1 ∷ bytes) (bit y.0 ∷ []) y.1 × Unit {0}) (some_is (true, bytes) x e)
        (record { parts = refl; rest_fits = IsBytes-rest 1 bytes fits }, tt)
    bit_takes (suc (suc b) ∷ bytes) x fits e = absurd cc

    bit_again : (b : Bool) (rest : List ℕ) → bit_at ((bit b ∷ []) ++ rest) ≡ Some (b, rest)
    bit_again true rest = refl
    bit_again false rest = refl

-- ---- values

int_of : (service : Service) (v : Value) → IsValue service kinds.Int v → (n : ℤ) × FitsSigned w64 n × (Int n ≡ v)
int_of service (Int n) h = (n, h, refl)
int_of service (Truth b) h = absurd h
int_of service (Str s) h = absurd h
int_of service (Html d) h = absurd h
int_of service (Strs ss) h = absurd h

truth_of : (service : Service) (v : Value) → IsValue service kinds.Bool v → (b : Bool) × Unit {0} × (Truth b ≡ v)
truth_of service (Int n) h = absurd h
truth_of service (Truth b) h = (b, tt, refl)
truth_of service (Str s) h = absurd h
truth_of service (Html d) h = absurd h
truth_of service (Strs ss) h = absurd h

str_of : (service : Service) (v : Value) → IsValue service kinds.Str v → (s : List ℕ) × IsText s × (Str s ≡ v)
str_of service (Int n) h = absurd h
str_of service (Truth b) h = absurd h
str_of service (Str s) h = (s, h, refl)
str_of service (Html d) h = absurd h
str_of service (Strs ss) h = absurd h

html_of : (service : Service) (v : Value) → IsValue service kinds.Html v → (d : Made) × IsDocument service d × (Html d ≡ v)
html_of service (Int n) h = absurd h
html_of service (Truth b) h = absurd h
html_of service (Str s) h = absurd h
html_of service (Html d) h = (d, h, refl)
html_of service (Strs ss) h = absurd h

strs_of : (service : Service) (v : Value) → IsValue service kinds.Strs v → (ss : List (List ℕ)) × AreTexts ss × (Strs ss ≡ v)
strs_of service (Int n) h = absurd h
strs_of service (Truth b) h = absurd h
strs_of service (Str s) h = absurd h
strs_of service (Html d) h = absurd h
strs_of service (Strs ss) h = (ss, h, refl)

pub value_codec : (service : Service) → IsSmall service → (kind : Kind) → IsCodec value (IsValue service kind) (value_at service kind)
unfolding value_at
value_codec service small kinds.Int =
    tagged 0 integer (FitsSigned w64) integer_at (λ n. Int n) value (IsValue service kinds.Int) integer_codec (λ n. refl) (λ n h. h) (int_of service)
value_codec service small kinds.Bool =
    tagged 1 (λ b. bit b ∷ []) (λ b. Unit {0}) bit_at (λ b. Truth b) value (IsValue service kinds.Bool) bit_codec (λ b. refl) (λ b h. h) (truth_of service)
value_codec service small kinds.Str =
    tagged 2 text IsText text_at (λ s. Str s) value (IsValue service kinds.Str) text_codec (λ s. refl) (λ s h. h) (str_of service)
value_codec service small kinds.Html =
    tagged 3 document (IsDocument service) (document_at service) (λ d. Html d) value (IsValue service kinds.Html) (document_codec service small)
    (λ d. refl) (λ d h. h) (html_of service)
value_codec service small kinds.Strs =
    tagged 4 strings AreTexts strings_at (λ ss. Strs ss) value (IsValue service kinds.Strs) strings_codec (λ ss. refl) (λ ss h. h) (strs_of service)

pub variable_codec : (service : Service) → IsSmall service → (k : List ℕ × Kind) → IsCodec (λ x. value x.1) (IsVariable service k) (variable_at service k)
unfolding variable_at
variable_codec service small k = record {
  takes = λ bytes x fits e.
      let a = bind_some (value_at service k.1 bytes) (λ v. Some ((k.0, v.0), v.1)) x e in
      let p = (value_codec service small k.1).takes bytes a.0 fits a.1 in
      subst (λ (y : (List ℕ × Value) × List ℕ). Takes bytes (value y.0.1) y.1 × IsVariable service k y.0) (some_is ((k.0, a.0.0), a.0.1) x a.2)
      (p.0, (refl, p.1));
  again = λ x rest fits.
      ap (λ (o : Option (Value × List ℕ)). o >>= λ v. Some ((k.0, v.0), v.1)) ((value_codec service small k.1).again x.1 rest fits.1)
      ∙ ap (λ (w : List ℕ). Some ((w, x.1), rest)) (sym fits.0);
}

pub variables_codec : (service : Service) → IsSmall service → (ks : List (List ℕ × Kind)) → IsCodec variables (AreVariables service ks)
    (variables_at service ks)
variables_codec service small ks = each_codec (λ x. value x.1) (IsVariable service) (variable_at service) (variable_codec service small) ks

-- ---- as a loop reads them

pub variable_read : (service : Service) (w : List ℕ) (kind : Kind) (bytes : List ℕ) (v : Value) (after : List ℕ) →
    value_at service kind bytes ≡ Some (v, after) → variable_at service (w, kind) bytes ≡ Some ((w, v), after)
unfolding variable_at
variable_read service w kind bytes v after e = rw e refl

pub variable_fails : (service : Service) (w : List ℕ) (kind : Kind) (bytes : List ℕ) (e : ReadError) →
    Fails e (value_at service kind bytes) → Fails e (variable_at service (w, kind) bytes)
unfolding variable_at
variable_fails service w kind bytes errors.Memory h = tt
variable_fails service w kind bytes errors.Malformed h = rw h refl

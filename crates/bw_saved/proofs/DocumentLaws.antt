-- Documents are read as they are spelled.
use Rattle.std.proofs.Common.{◌≡◌, ◌<◌, ◌≤◌, ℕ, zero, suc, ◌+◌, ◌^◌, Bool, true, false, cond, List, [], ◌∷◌, ◌++◌, length, Option, Some, None, Result, Ok}
use Rattle.std.proofs.Common.{Err, refl, sym, ap, subst, ◌∙◌, ◌-◌, append_assoc, arith}
use Rattle.std.specs.Prelude.{◌==◌, ◌*◌, nat_lt, nat_le, nat_eq, ◌&&◌}
use Rattle.std.specs.List.{flat_map, AllByRecursion}
use Rattle.std.specs.Int.{w16, w32, to_be_bytes}
use Rattle.std.proofs.lemmas.Bool.{ltb-false, ltb-true, lt-ltb, le-ltb, leb-true, le-leb}
use Rattle.std.proofs.lemmas.List.{append-nil, length-append}
use Rattle.std.proofs.lemmas.List.Concat.{flat_map-cons}
use Rattle.std.proofs.lemmas.Grind.{flat_map-append}
use Rattle.bw_saved.specs.Codec.{IsBytes, Takes, IsCodec}
use Rattle.bw_saved.specs.Fields.Reading.{◌>>=◌, Fails, number_at, text_at}
use Rattle.bw_saved.specs.declared.fault.ReadError.{ReadError}
use Rattle.bw_saved.specs.declared.fault.ReadError.TheVariants as errors
use Rattle.bw_saved.specs.Fields.Spelling.{text, IsText}
use Rattle.bw_saved.proofs.Codecs.{IsBytes-rest, bind_some, guarded, some_is, Takes-then, binds, is_codec}
use Rattle.bw_saved.proofs.FieldLaws.{u16_codec, u32_codec, text_codec}
use Rattle.bw_doc.specs.Made.{Made, constant, plug, plug_text, tree, measure}
use Rattle.bw_doc.specs.Operations.{Operation, operations, items_at}
use Rattle.bw_doc.specs.Operations as ops
use Rattle.bw_lang.specs.declared.measure.Measure.{Measure}
use Rattle.bw_lang.specs.declared.measure.MeasureFault.{MeasureFault}
use Rattle.bw_lang.specs.declared.measure.MeasureFault.TheVariants.{Heavy, Deep, Nested}
use Rattle.bw_lang.specs.declared.measure.TheConstants.{MAX_WEIGHT, MAX_DEPTH, MAX_NEST}
use Rattle.bw_lang.specs.declared.service.Service.{Service}
use Rattle.bw_lang.specs.Document.Documents.{count}
use Rattle.bw_lang.specs.Document.Forest.{Forest}
use Rattle.bw_lang.specs.Document.Measures.{IsWithin, tested}
use Rattle.bw_types.specs.declared.fault.GapKind.{GapKind}
use Rattle.bw_types.specs.declared.fault.GapKind.TheVariants.{Content, Attribute}
use Rattle.bw_types.specs.Gaps.{kind_of_number}
use Rattle.bw_saved.specs.Documents.Demands.{IsPlug, IsBuilt, IsDocument, IsSmall}
use Rattle.bw_saved.specs.Documents.Layout.{operation, document}
use Rattle.bw_saved.specs.Documents.Reading.{is_content, kept, opens, stack_weight, constant_of, plug_of, text_of, on_top, put_constant, put_plug}
use Rattle.bw_saved.specs.Documents.Reading.{put_text, operation_at, only, operations_at, document_at}

-- ---- tests

pub both_true : (a b : Bool) → (a && b) ≡ true → (a ≡ true) × (b ≡ true)
both_true true b e = (refl, e)
both_true false b e = absurd cc

pub is_true : (a b : Bool) → a ≡ true → b ≡ true → (a && b) ≡ true
is_true true b e h = h
is_true false b e h = absurd cc

pub content_is : (k : Option GapKind) → is_content k ≡ true → k ≡ Some Content
content_is None e = absurd cc
content_is (Some Content) e = refl
content_is (Some Attribute) e = absurd cc

tests_pass : (m : Measure) (w d n : Bool) → w ≡ false → d ≡ false → n ≡ false →
    (cond w (Err (Heavy m.weight)) (cond d (Err (Deep m.depth)) (cond n (Err (Nested m.nest)) (Ok m)))) ≡ Ok m
tests_pass m true d n a b c = absurd cc
tests_pass m false true n a b c = absurd cc
tests_pass m false false true a b c = absurd cc
tests_pass m false false false a b c = refl

-- what is within the limits passes
pub passes : (m : Measure) → IsWithin m → tested m ≡ Ok m
passes m h = tests_pass m (nat_lt MAX_WEIGHT m.weight) (nat_lt MAX_DEPTH m.depth) (nat_lt MAX_NEST m.nest) (le-ltb _ _ h.weight) (le-ltb _ _ h.depth)
    (le-ltb _ _ h.nest)

tests_passed : (m x : Measure) (w d n : Bool) →
    (cond w (Err (Heavy m.weight)) (cond d (Err (Deep m.depth)) (cond n (Err (Nested m.nest)) (Ok m)))) ≡ Ok x → (w ≡ false) × (d ≡ false) × (n ≡ false)
tests_passed m x true d n e = absurd cc
tests_passed m x false true n e = absurd cc
tests_passed m x false false true e = absurd cc
tests_passed m x false false false e = (refl, refl, refl)

-- and what passes is within them
pub passed : (m x : Measure) → tested m ≡ Ok x → IsWithin m
passed m x e =
    let t = tests_passed m x (nat_lt MAX_WEIGHT m.weight) (nat_lt MAX_DEPTH m.depth) (nat_lt MAX_NEST m.nest) e in
    record { weight = ltb-false _ _ t.0; depth = ltb-false _ _ t.1; nest = ltb-false _ _ t.2 }

pub kept_is : (d x : Made) (r : Result Measure MeasureFault) → kept d r ≡ Some x → (m : Measure) × (r ≡ Ok m) × (d ≡ x)
kept_is d x (Ok m) e = (m, refl, some_is d x e)
kept_is d x (Err f) e = absurd cc

pub opens_is : (service : Service) (b : Made) (g : ℕ) → opens service b g ≡ true → (g < length service.gaps) × (1 ≤ count g (tree b))
opens_is service b g e =
    let p = both_true (nat_lt g (length service.gaps)) (nat_lt 0 (count g (tree b))) e in
    (ltb-true _ _ p.0, ltb-true _ _ p.1)

pub is_open : (service : Service) (b : Made) (g : ℕ) → g < length service.gaps → 1 ≤ count g (tree b) → opens service b g ≡ true
is_open service b g lt le = is_true (nat_lt g (length service.gaps)) (nat_lt 0 (count g (tree b))) (lt-ltb _ _ lt) (lt-ltb _ _ le)

-- ---- one plug

pub plug_built : (service : Service) (g : ℕ) (b a d : Made) → IsBuilt service b → IsBuilt service a → plug_of service g b a ≡ Some d →
    (d ≡ plug b g a) × IsBuilt service (plug b g a)
plug_built service g b a d hb ha e =
    let p = guarded (is_content (kind_of_number service g)) (cond (opens service b g) (kept (plug b g a) (tested (measure (plug b g a)))) None) d e in
    let q = guarded (opens service b g) (kept (plug b g a) (tested (measure (plug b g a)))) d p.1 in
    let k = kept_is (plug b g a) d (tested (measure (plug b g a))) q.1 in
    let o = opens_is service b g q.0 in
    (sym k.2, (hb, ha, content_is _ p.0, record { known = o.0; opens = o.1; within = passed (measure (plug b g a)) k.0 k.1 }))

pub text_built : (service : Service) (g : ℕ) (s : List ℕ) (b d : Made) → IsBuilt service b → IsText s → text_of service g s b ≡ Some d →
    (d ≡ plug_text b g s) × IsBuilt service (plug_text b g s)
text_built service g s b d hb hs e =
    let q = guarded (opens service b g) (kept (plug_text b g s) (tested (measure (plug_text b g s)))) d e in
    let k = kept_is (plug_text b g s) d (tested (measure (plug_text b g s))) q.1 in
    let o = opens_is service b g q.0 in
    (sym k.2, (hb, hs, record { known = o.0; opens = o.1; within = passed (measure (plug_text b g s)) k.0 k.1 }))

pub plug_again : (service : Service) (g : ℕ) (b a : Made) → kind_of_number service g ≡ Some Content → IsPlug service b g (plug b g a) →
    plug_of service g b a ≡ Some (plug b g a)
plug_again service g b a kind h =
    rw (kind, is_open service b g h.known h.opens, passes (measure (plug b g a)) h.within) refl

pub text_again : (service : Service) (g : ℕ) (s : List ℕ) (b : Made) → IsPlug service b g (plug_text b g s) → text_of service g s b ≡ Some (plug_text b g s)
text_again service g s b h =
    rw (is_open service b g h.known h.opens, passes (measure (plug_text b g s)) h.within) refl

-- ---- what was read

-- the operations of all documents on a stack, those below first
abbrev pub stack_ops : List Made → List Operation
stack_ops [] = []
stack_ops (d ∷ stack) = stack_ops stack ++ operations d

abbrev pub AreBuilt : Service → List Made → Type 0
AreBuilt service stack = AllByRecursion (IsBuilt service) stack

-- an operation stands in front, and it is done
pub record Does (service : Service) (stack : List Made) (bytes : List ℕ) (next : List Made) (rest : List ℕ) : Type 0 where
  pub op : Operation
  pub takes : Takes bytes (operation op) rest
  pub built : AreBuilt service next
  pub light : stack_weight next ≤ MAX_WEIGHT
  pub done : stack_ops next ≡ stack_ops stack ++ op ∷ []

on_top_is : (stack : List Made) (o : Option Made) (next : List Made) → on_top stack o ≡ Some next →
    (d : Made) × (o ≡ Some d) × (d ∷ stack ≡ next) × (stack_weight (d ∷ stack) ≤ MAX_WEIGHT)
on_top_is stack None next e = absurd cc
on_top_is stack (Some d) next e =
    let g = guarded (nat_le (stack_weight (d ∷ stack)) MAX_WEIGHT) (Some (d ∷ stack)) next e in
    (d, refl, some_is (d ∷ stack) next g.1, leb-true _ _ g.0)

-- the same document on top weighs as much
light_is : (stack : List Made) (d x : Made) → d ≡ x → stack_weight (d ∷ stack) ≤ MAX_WEIGHT → stack_weight (x ∷ stack) ≤ MAX_WEIGHT
light_is stack d x e h = subst (λ (y : Made). stack_weight (y ∷ stack) ≤ MAX_WEIGHT) e h

Takes-front : (b : ℕ) (bytes text rest : List ℕ) → Takes bytes text rest → Takes (b ∷ bytes) (b ∷ text) rest
Takes-front b bytes text rest t = record { parts = ap (λ (x : List ℕ). b ∷ x) t.parts; rest_fits = t.rest_fits }

-- what an operation makes of the stack, and the bytes behind it
abbrev pub with_rest : Option (List Made) → List ℕ → Option (List Made × List ℕ)
with_rest o rest = o >>= λ t. Some (t, rest)

pub constant_does : (service : Service) (stack : List Made) (bytes : List ℕ) (next : List Made) (rest : List ℕ) → IsBytes bytes → AreBuilt service stack →
    (number_at w16 bytes >>= λ n. with_rest (put_constant service n.0 stack) n.1) ≡ Some (next, rest) → Does service stack (0 ∷ bytes) next rest
constant_does service stack bytes next rest fits built e =
    let a = bind_some (number_at w16 bytes) (λ n. with_rest (put_constant service n.0 stack) n.1) (next, rest) e in
    let n = a.0 in
    let t = u16_codec.takes bytes n fits a.1 in
    let b = bind_some (put_constant service n.0 stack) (λ t. Some (t, n.1)) (next, rest) a.2 in
    let o = on_top_is stack (constant_of service n.0) b.0 b.1 in
    let g = guarded (nat_lt n.0 (length service.templates)) (Some (constant n.0 (items_at service.templates n.0))) o.0 o.1 in
    let d : constant n.0 (items_at service.templates n.0) ≡ o.0 = some_is _ _ g.1 in
    subst (λ (p : List Made × List ℕ). Does service stack (0 ∷ bytes) p.0 p.1) (some_is (b.0, n.1) (next, rest) b.2)
    (subst (λ (s : List Made). Does service stack (0 ∷ bytes) s n.1) o.2
    (subst (λ (x : Made). Does service stack (0 ∷ bytes) (x ∷ stack) n.1) d
    (record {
      op = ops.constant n.0;
      takes = Takes-front 0 bytes (to_be_bytes w16 n.0) n.1 t.0;
      built = ((ltb-true _ _ g.0, refl), built);
      light = light_is stack o.0 (constant n.0 (items_at service.templates n.0)) (sym d) o.3;
      done = refl;
    })))

pub plug_does : (service : Service) (stack : List Made) (bytes : List ℕ) (next : List Made) (rest : List ℕ) → IsBytes bytes → AreBuilt service stack →
    (number_at w16 bytes >>= λ n. with_rest (put_plug service n.0 stack) n.1) ≡ Some (next, rest) → Does service stack (1 ∷ bytes) next rest
plug_does service [] bytes next rest fits built e =
    let a = bind_some (number_at w16 bytes) (λ n. with_rest (put_plug service n.0 []) n.1) (next, rest) e in absurd (none_some _ a.2)
  where
    none_some : {A : Type 0} (y : A) → None ≡ Some y → ⊥
    none_some y e = cc
plug_does service (a ∷ []) bytes next rest fits built e =
    let x = bind_some (number_at w16 bytes) (λ n. with_rest (put_plug service n.0 (a ∷ [])) n.1) (next, rest) e in absurd (none_some _ x.2)
  where
    none_some : {A : Type 0} (y : A) → None ≡ Some y → ⊥
    none_some y e = cc
plug_does service (a ∷ b ∷ stack) bytes next rest fits built e =
    let x = bind_some (number_at w16 bytes) (λ n. with_rest (put_plug service n.0 (a ∷ b ∷ stack)) n.1) (next, rest) e in
    let n = x.0 in
    let t = u16_codec.takes bytes n fits x.1 in
    let y = bind_some (put_plug service n.0 (a ∷ b ∷ stack)) (λ t. Some (t, n.1)) (next, rest) x.2 in
    let o = on_top_is stack (plug_of service n.0 b a) y.0 y.1 in
    let p = plug_built service n.0 b a o.0 built.1.0 built.0 o.1 in
    subst (λ (p : List Made × List ℕ). Does service (a ∷ b ∷ stack) (1 ∷ bytes) p.0 p.1) (some_is (y.0, n.1) (next, rest) y.2)
    (subst (λ (s : List Made). Does service (a ∷ b ∷ stack) (1 ∷ bytes) s n.1) o.2
    (subst (λ (x : Made). Does service (a ∷ b ∷ stack) (1 ∷ bytes) (x ∷ stack) n.1) (sym p.0)
    (record {
      op = ops.plug n.0;
      takes = Takes-front 1 bytes (to_be_bytes w16 n.0) n.1 t.0;
      built = (p.1, built.1.1);
      light = light_is stack o.0 (plug b n.0 a) p.0 o.3;
      done = simp append_assoc;
    })))

pub text_does : (service : Service) (stack : List Made) (bytes : List ℕ) (next : List Made) (rest : List ℕ) → IsBytes bytes → AreBuilt service stack →
    (number_at w16 bytes >>= λ n. text_at n.1 >>= λ s. with_rest (put_text service n.0 s.0 stack) s.1) ≡ Some (next, rest) →
    Does service stack (2 ∷ bytes) next rest
text_does service [] bytes next rest fits built e =
    let a = bind_some (number_at w16 bytes) (λ n. text_at n.1 >>= λ s. with_rest (put_text service n.0 s.0 []) s.1) (next, rest) e in
    let b = bind_some (text_at a.0.1) (λ s. with_rest (put_text service a.0.0 s.0 []) s.1) (next, rest) a.2 in absurd (none_some _ b.2)
  where
    none_some : {A : Type 0} (y : A) → None ≡ Some y → ⊥
    none_some y e = cc
text_does service (b ∷ stack) bytes next rest fits built e =
    let x = bind_some (number_at w16 bytes) (λ n. text_at n.1 >>= λ s. with_rest (put_text service n.0 s.0 (b ∷ stack)) s.1) (next, rest) e in
    let n = x.0 in
    let t = u16_codec.takes bytes n fits x.1 in
    let z = bind_some (text_at n.1) (λ s. with_rest (put_text service n.0 s.0 (b ∷ stack)) s.1) (next, rest) x.2 in
    let s = z.0 in
    let u = text_codec.takes n.1 s t.0.rest_fits z.1 in
    let y = bind_some (put_text service n.0 s.0 (b ∷ stack)) (λ t. Some (t, s.1)) (next, rest) z.2 in
    let o = on_top_is stack (text_of service n.0 s.0 b) y.0 y.1 in
    let p = text_built service n.0 s.0 b o.0 built.0 u.1 o.1 in
    subst (λ (p : List Made × List ℕ). Does service (b ∷ stack) (2 ∷ bytes) p.0 p.1) (some_is (y.0, s.1) (next, rest) y.2)
    (subst (λ (q : List Made). Does service (b ∷ stack) (2 ∷ bytes) q s.1) o.2
    (subst (λ (x : Made). Does service (b ∷ stack) (2 ∷ bytes) (x ∷ stack) s.1) (sym p.0)
    (record {
      op = ops.plug_text n.0 s.0;
      takes = Takes-front 2 bytes (to_be_bytes w16 n.0 ++ text s.0) s.1 (Takes-then bytes (to_be_bytes w16 n.0) n.1 (text s.0) s.1 t.0 u.0);
      built = (p.1, built.1);
      light = light_is stack o.0 (plug_text b n.0 s.0) p.0 o.3;
      done = sym (append_assoc (stack_ops stack) (operations b) (ops.plug_text n.0 s.0 ∷ []));
    })))

pub operation_does : (service : Service) (stack : List Made) (bytes : List ℕ) (x : List Made × List ℕ) → IsBytes bytes → AreBuilt service stack →
    operation_at service stack bytes ≡ Some x → Does service stack bytes x.0 x.1
unfolding operation_at
operation_does service stack [] x fits built e = absurd cc
operation_does service stack (zero ∷ bytes) x fits built e = constant_does service stack bytes x.0 x.1 (IsBytes-rest 0 bytes fits) built e
operation_does service stack (suc zero ∷ bytes) x fits built e = plug_does service stack bytes x.0 x.1 (IsBytes-rest 1 bytes fits) built e
operation_does service stack (suc (suc zero) ∷ bytes) x fits built e = text_does service stack bytes x.0 x.1 (IsBytes-rest 2 bytes fits) built e
operation_does service stack (suc (suc (suc b)) ∷ bytes) x fits built e = absurd cc

-- so many operations stand in front, and a document is made by those of the stack and these
pub record Makes (service : Service) (n : ℕ) (stack : List Made) (bytes : List ℕ) (d : Made) (rest : List ℕ) : Type 0 where
  pub these : List Operation
  pub count : length these ≡ n
  pub takes : Takes bytes (flat_map operation these) rest
  pub built : IsBuilt service d
  pub light : (measure d).weight ≤ MAX_WEIGHT
  pub all : operations d ≡ stack_ops stack ++ these

only_makes : (service : Service) (stack : List Made) (bytes : List ℕ) (x : Made × List ℕ) → IsBytes bytes → AreBuilt service stack →
    stack_weight stack ≤ MAX_WEIGHT → only stack bytes ≡ Some x → Makes service 0 stack bytes x.0 x.1
only_makes service [] bytes x fits built light e = absurd cc
only_makes service (d ∷ []) bytes x fits built light e =
    subst (λ (p : Made × List ℕ). Makes service 0 (d ∷ []) bytes p.0 p.1) (some_is (d, bytes) x e)
    (record {
      these = [];
      count = refl;
      takes = record { parts = refl; rest_fits = fits };
      built = built.0;
      light = omega (arith, light);
      all = sym (append-nil (operations d));
    })
only_makes service (d ∷ f ∷ stack) bytes x fits built light e = absurd cc

pub operations_make : (service : Service) (n : ℕ) (stack : List Made) (bytes : List ℕ) (x : Made × List ℕ) → IsBytes bytes → AreBuilt service stack →
    stack_weight stack ≤ MAX_WEIGHT → operations_at service n stack bytes ≡ Some x → Makes service n stack bytes x.0 x.1
unfolding operations_at
operations_make service zero stack bytes x fits built light e = only_makes service stack bytes x fits built light e
operations_make service (suc n) stack bytes x fits built light e =
    let a = bind_some (operation_at service stack bytes) (λ y. operations_at service n y.0 y.1) x e in
    let one = operation_does service stack bytes a.0 fits built a.1 in
    let more = operations_make service n a.0.0 a.0.1 x one.takes.rest_fits one.built one.light a.2 in
    record {
      these = one.op ∷ more.these;
      count = ap suc more.count;
      takes = subst (λ (t : List ℕ). Takes bytes t x.1) (sym (flat_map-cons operation one.op more.these))
          (Takes-then bytes (operation one.op) a.0.1 (flat_map operation more.these) x.1 one.takes more.takes);
      built = more.built;
      light = more.light;
      all = more.all ∙ ap (λ (t : List Operation). t ++ more.these) one.done ∙ append_assoc (stack_ops stack) (one.op ∷ []) more.these;
    }

-- ---- what was spelled is read

step_again : (service : Service) (m : ℕ) (stack : List Made) (bytes : List ℕ) (next : List Made) (rest : List ℕ) →
    operation_at service stack bytes ≡ Some (next, rest) → operations_at service (suc m) stack bytes ≡ operations_at service m next rest
unfolding operations_at
step_again service m stack bytes next rest e = rw e refl

-- the stack with these documents on top weighs no more than a document may
abbrev pub IsLight : Made → List Made → Type 0
IsLight d stack = (measure d).weight + stack_weight stack ≤ MAX_WEIGHT

constant_step : (service : Service) (n : ℕ) (stack : List Made) (rest : List ℕ) → IsSmall service → n < length service.templates →
    IsLight (constant n (items_at service.templates n)) stack →
    operation_at service stack (operation (ops.constant n) ++ rest) ≡ Some (constant n (items_at service.templates n) ∷ stack, rest)
unfolding operation_at
constant_step service n stack rest small lt light =
    rw (u16_codec.again n rest (omega (arith, small.templates)), lt-ltb n (length service.templates) lt, le-leb _ _ light) refl

plug_step : (service : Service) (b a : Made) (g : ℕ) (stack : List Made) (rest : List ℕ) → IsSmall service → kind_of_number service g ≡ Some Content →
    IsPlug service b g (plug b g a) → IsLight (plug b g a) stack →
    operation_at service (a ∷ b ∷ stack) (operation (ops.plug g) ++ rest) ≡ Some (plug b g a ∷ stack, rest)
unfolding operation_at
plug_step service b a g stack rest small kind h light =
    rw (u16_codec.again g rest (omega (arith, small.gaps, h.known)), plug_again service g b a kind h, le-leb _ _ light) refl

text_step : (service : Service) (b : Made) (g : ℕ) (s : List ℕ) (stack : List Made) (rest : List ℕ) → IsSmall service → IsText s →
    IsPlug service b g (plug_text b g s) → IsLight (plug_text b g s) stack →
    operation_at service (b ∷ stack) (operation (ops.plug_text g s) ++ rest) ≡ Some (plug_text b g s ∷ stack, rest)
unfolding operation_at
text_step service b g s stack rest small fits h light =
    let regrouped : operation (ops.plug_text g s) ++ rest ≡ 2 ∷ (to_be_bytes w16 g ++ (text s ++ rest)) =
    ap (λ (x : List ℕ). 2 ∷ x) (append_assoc (to_be_bytes w16 g) (text s) rest) in
    ap (operation_at service (b ∷ stack)) regrouped
    ∙ rw (
      u16_codec.again g (text s ++ rest) (omega (arith, small.gaps, h.known)),
      text_codec.again s rest fits,
      text_again service g s b h,
      le-leb _ _ light,
    ) refl

-- what fills open gaps weighs no more there
pub grows : (a k : ℕ) → 1 ≤ k → a ≤ k * a
grows a zero h = absurd (omega (arith, h))
grows a (suc k) h = omega arith

-- So a plug weighs at least as much as both its parts: where it is light enough, each of them is, the base alone and the other on top of it.
parts_light : (b a p w m : ℕ) → a ≤ p → 64 + b + p + w ≤ m → (b + w ≤ m) × (a + (b + w) ≤ m)
parts_light b a p w m h l = (omega (arith, l), omega (arith, h, l))

plug_light : (b a : Made) (g : ℕ) (stack : List Made) → 1 ≤ count g (tree b) → IsLight (plug b g a) stack → IsLight b stack × IsLight a (b ∷ stack)
plug_light b a g stack opens light =
    parts_light (measure b).weight (measure a).weight (count g (tree b) * (measure a).weight) (stack_weight stack) MAX_WEIGHT
    (grows (measure a).weight (count g (tree b)) opens) light

text_light : (b : Made) (g : ℕ) (s : List ℕ) (stack : List Made) → IsLight (plug_text b g s) stack → IsLight b stack
text_light b g s stack light =
    (parts_light (measure b).weight 0 (count g (tree b) * (16 + length s)) (stack_weight stack) MAX_WEIGHT (omega arith) light).0

-- the operations of a document, whatever follows
pub operations_again : (service : Service) (d : Made) (m : ℕ) (stack : List Made) (rest : List ℕ) → IsSmall service → IsBuilt service d → IsLight d stack →
    operations_at service (length (operations d) + m) stack (flat_map operation (operations d) ++ rest) ≡ operations_at service m (d ∷ stack) rest
operations_again service (constant n items) m stack rest small built light =
    let one = constant_step service n stack rest small built.0
    (subst (λ (i : Forest). IsLight (constant n i) stack) built.1 light) in
    let bytes : flat_map operation (ops.constant n ∷ []) ++ rest ≡ operation (ops.constant n) ++ rest =
    ap (λ (x : List ℕ). x ++ rest) (flat_map-cons operation (ops.constant n) [] ∙ append-nil (operation (ops.constant n))) in
    let k : 1 + m ≡ suc m = omega arith in
    ap (λ (k : ℕ). operations_at service k stack (flat_map operation (ops.constant n ∷ []) ++ rest)) k
    ∙ ap (operations_at service (suc m) stack) bytes ∙ step_again service m stack (operation (ops.constant n) ++ rest)
    (constant n (items_at service.templates n) ∷ stack) rest one
    ∙ ap (λ (i : _). operations_at service m (constant n i ∷ stack) rest) (sym built.1)
operations_again service (plug b g a) m stack rest small built light =
    let parts = plug_light b a g stack built.3.opens light in
    let k : length (operations (plug b g a)) + m ≡ length (operations b) + (length (operations a) + suc m) =
    omega (arith, length-append (operations b) (operations a ++ ops.plug g ∷ []), length-append (operations a) (ops.plug g ∷ [])) in
    let last = operation (ops.plug g) ++ rest in
    let bytes : flat_map operation (operations (plug b g a)) ++ rest ≡ flat_map operation (operations b) ++ (flat_map operation (operations a) ++ last) =
    ap (λ (x : List ℕ). x ++ rest) (flat_map-append operation (operations b) (operations a ++ ops.plug g ∷ [])
    ∙ ap (λ (x : List ℕ). flat_map operation (operations b) ++ x) (flat_map-append operation (operations a) (ops.plug g ∷ [])
    ∙ ap (λ (x : List ℕ). flat_map operation (operations a) ++ x) (flat_map-cons operation (ops.plug g) [] ∙ append-nil (operation (ops.plug g)))))
    ∙ append_assoc (flat_map operation (operations b)) (flat_map operation (operations a) ++ operation (ops.plug g)) rest
    ∙ ap (λ (x : List ℕ). flat_map operation (operations b) ++ x) (append_assoc (flat_map operation (operations a)) (operation (ops.plug g)) rest) in
    ap (λ (k : ℕ). operations_at service k stack (flat_map operation (operations (plug b g a)) ++ rest)) k
    ∙ ap (operations_at service (length (operations b) + (length (operations a) + suc m)) stack) bytes
    ∙ operations_again service b (length (operations a) + suc m) stack (flat_map operation (operations a) ++ last) small built.0 parts.0
    ∙ operations_again service a (suc m) (b ∷ stack) last small built.1 parts.1
    ∙ step_again service m (a ∷ b ∷ stack) last (plug b g a ∷ stack) rest (plug_step service b a g stack rest small built.2 built.3 light)
operations_again service (plug_text b g s) m stack rest small built light =
    let o = ops.plug_text g s in
    let k : length (operations (plug_text b g s)) + m ≡ length (operations b) + suc m = omega (arith, length-append (operations b) (o ∷ [])) in
    let last = operation o ++ rest in
    let bytes : flat_map operation (operations (plug_text b g s)) ++ rest ≡ flat_map operation (operations b) ++ last =
    ap (λ (x : List ℕ). x ++ rest) (flat_map-append operation (operations b) (o ∷ [])
    ∙ ap (λ (x : List ℕ). flat_map operation (operations b) ++ x) (flat_map-cons operation o [] ∙ append-nil (operation o)))
    ∙ append_assoc (flat_map operation (operations b)) (operation o) rest in
    ap (λ (k : ℕ). operations_at service k stack (flat_map operation (operations (plug_text b g s)) ++ rest)) k
    ∙ ap (operations_at service (length (operations b) + suc m) stack) bytes
    ∙ operations_again service b (suc m) stack last small built.0 (text_light b g s stack light)
    ∙ step_again service m (b ∷ stack) last (plug_text b g s ∷ stack) rest (text_step service b g s stack rest small built.1 built.2 light)

-- ---- documents

only_this : (service : Service) (d : Made) (rest : List ℕ) → operations_at service 0 (d ∷ []) rest ≡ Some (d, rest)
unfolding operations_at
only_this service d rest = refl

pub document_codec : (service : Service) → IsSmall service → IsCodec document (IsDocument service) (document_at service)
unfolding document_at
document_codec service small = record {
  takes = λ bytes x fits e.
      let a = bind_some (number_at w32 bytes) (λ n. operations_at service n.0 [] n.1) x e in
      let t = u32_codec.takes bytes a.0 fits a.1 in
      let made = operations_make service a.0.0 [] a.0.1 x t.0.rest_fits tt (omega arith) a.2 in
      let all : made.these ≡ operations x.0 = sym made.all in
      let both = Takes-then bytes (to_be_bytes w32 a.0.0) a.0.1 (flat_map operation made.these) x.1 t.0 made.takes in
      let counted : a.0.0 ≡ length (operations x.0) = sym made.count ∙ ap (λ (o : List Operation). length o) all in (
        subst (λ (k : ℕ). Takes bytes (to_be_bytes w32 k ++ flat_map operation (operations x.0)) x.1) counted
            (subst (λ (o : List Operation). Takes bytes (to_be_bytes w32 a.0.0 ++ flat_map operation o) x.1) all both),
        record { built = made.built; weight = made.light; counted = subst (λ (k : ℕ). k < 2 ^ 32) counted t.1 },
      );
  again = λ d rest fits.
      let n = length (operations d) in
      let one : number_at w32 (document d ++ rest) ≡ Some (n, flat_map operation (operations d) ++ rest) =
      ap (number_at w32) (append_assoc (to_be_bytes w32 n) (flat_map operation (operations d)) rest)
      ∙ u32_codec.again n (flat_map operation (operations d) ++ rest) fits.counted in
      let k : n ≡ n + 0 = omega arith in
      rw one (ap (λ (k : ℕ). operations_at service k [] (flat_map operation (operations d) ++ rest)) k
      ∙ operations_again service d 0 [] rest small fits.built (omega (arith, fits.weight)) ∙ only_this service d rest);
}

-- ---- operations as a loop reads them

pub loop_ends : (service : Service) (e : ReadError) (count i : ℕ) (stack : List Made) (bytes : List ℕ) (total : Option (Made × List ℕ)) → i < count →
    Fails e (operation_at service stack bytes) → operations_at service (count - i) stack bytes ≡ total → Fails e total
unfolding operations_at
loop_ends service errors.Memory count i stack bytes total lt h so_far = tt
loop_ends service errors.Malformed count i stack bytes total lt h so_far =
    let k : count - i ≡ suc (count - (i + 1)) = omega arith in
    let one : operations_at service (count - i) stack bytes ≡ None = rw (k, h) refl in
    sym so_far ∙ one

pub loop_goes_on : (service : Service) (count i : ℕ) (stack : List Made) (bytes : List ℕ) (next : List Made) (after : List ℕ)
    (total : Option (Made × List ℕ)) → i < count → operation_at service stack bytes ≡ Some (next, after) →
    operations_at service (count - i) stack bytes ≡ total → operations_at service (count - (i + 1)) next after ≡ total
unfolding operations_at
loop_goes_on service count i stack bytes next after total lt h so_far =
    let k : count - i ≡ suc (count - (i + 1)) = omega arith in
    let one : operations_at service (count - i) stack bytes ≡ operations_at service (count - (i + 1)) next after = rw (k, h) refl in
    sym one ∙ so_far

pub loop_is_done : (service : Service) (count i : ℕ) (stack : List Made) (bytes : List ℕ) (total : Option (Made × List ℕ)) → count ≤ i →
    operations_at service (count - i) stack bytes ≡ total → total ≡ only stack bytes
unfolding operations_at
loop_is_done service count i stack bytes total le so_far =
    let k : count - i ≡ 0 = omega arith in
    let one : operations_at service (count - i) stack bytes ≡ only stack bytes = rw k refl in
    sym so_far ∙ one

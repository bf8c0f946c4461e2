-- Sessions are read as they are spelled.
use Rattle.std.proofs.Common.{◌≡◌, ◌<◌, ◌≤◌, ℕ, zero, suc, ◌+◌, ◌^◌, Bool, true, false, cond, List, [], ◌∷◌, ◌++◌, length, Option, Some, None, refl, sym}
use Rattle.std.proofs.Common.{ap, subst, ◌∙◌, append_assoc, arith}
use Rattle.std.specs.Prelude.{slice_get, position, nat_lt, nat_le, ◌&&◌}
use Rattle.std.specs.List.{flat_map, AllByRecursion}
use Rattle.std.specs.Int.{w16, w32, w64, to_be_bytes}
use Rattle.std.proofs.lemmas.Bool.{ltb-true, lt-ltb, leb-true, le-leb}
use Rattle.std.proofs.lemmas.List.{append-nil}
use Rattle.bw_saved.specs.Codec.{IsBytes, Takes, IsCodec}
use Rattle.bw_saved.specs.Fields.Reading.{◌>>=◌, number_at as number_read, strings_at, repeated}
use Rattle.bw_saved.specs.Fields.Spelling.{strings, AreTexts}
use Rattle.bw_saved.proofs.Codecs.{bind_some, guarded, some_is, binds, ends, is_codec}
use Rattle.bw_saved.proofs.FieldLaws.{u16_codec, u32_codec, u64_codec, strings_codec}
use Rattle.bw_saved.proofs.Loop.{repeated_codec}
use Rattle.bw_doc.specs.Made.{Made, tree}
use Rattle.bw_eval.specs.declared.value.Value.{Value}
use Rattle.bw_flow.specs.Flows.{is_statement}
use Rattle.bw_flow.specs.Layout.{plan_of}
use Rattle.bw_flow.specs.Steps.{Plan, Step}
use Rattle.bw_flow.proofs.Found.{finds_each}
use Rattle.bw_run.specs.Follow.Kinds.{kinds_in}
use Rattle.bw_flow.specs.Flows.{is_show}
use Rattle.bw_lang.specs.declared.service.Service.{Service}
use Rattle.bw_lang.specs.declared.turn.TheConstants.{MAX_DOCUMENT_BYTES, MAX_SESSION_WEIGHT}
use Rattle.bw_lang.specs.Document.Print.{print}
use Rattle.bw_run.specs.declared.turn.Frame.{Frame}
use Rattle.bw_run.specs.Walks.{number_of, number_at}
use Rattle.bw_saved.specs.declared.saved.Record.{Record}
use Rattle.bw_saved.specs.Sessions.Weights.{session_weight}
use Rattle.bw_saved.specs.Sessions.Layout.{session}
use Rattle.bw_saved.specs.Sessions.Demands.{IsSession, WaitsAt}
use Rattle.bw_saved.specs.Sessions.Reading.{is_own, if_shows, show_at, may_be, is_light, if_light, only_if, frame_of, frame_at, session_at}
use Rattle.bw_saved.specs.Documents.Demands.{IsDocument, IsSmall}
use Rattle.bw_saved.specs.Documents.Layout.{document}
use Rattle.bw_saved.specs.Documents.Reading.{document_at}
use Rattle.bw_saved.proofs.DocumentLaws.{document_codec}
use Rattle.bw_saved.specs.Values.Demands.{AreVariables}
use Rattle.bw_saved.specs.Values.Layout.{variables}
use Rattle.bw_saved.specs.Values.Reading.{variables_at}
use Rattle.bw_saved.proofs.ValueLaws.{variables_codec}

-- ---- frames

-- the locals and the rests at this point
abbrev pub HasPlace : Service → ℕ → Option Step → Frame → Type 0
HasPlace service place None f = ⊥
HasPlace service place (Some x) f =
    AreVariables service (kinds_in x.scope) f.locals × ((length f.rests ≡ x.inside) × AllByRecursion AreTexts f.rests)
    × (f ≡ record { point = place; locals = f.locals; rests = f.rests })

abbrev pub frame_bytes : Frame → List ℕ
frame_bytes f = variables f.locals ++ flat_map strings f.rests

none_is_none : {A : Type 0} (x : A) → None ≡ Some x → ⊥
none_is_none x e = cc

pub frame_codec : (service : Service) → IsSmall service → (place : ℕ) (o : Option Step) →
    IsCodec frame_bytes (HasPlace service place o) (frame_of service place o)
unfolding frame_of
frame_codec service small place None = record {
  takes = λ bytes x fits e. absurd (none_is_none x e);
  again = λ f rest fits. absurd fits;
}
frame_codec service small place (Some x) =
    let rests = λ (ls : List (List ℕ × Value)).
    binds (flat_map strings) (λ rs. (length rs ≡ x.inside) × AllByRecursion AreTexts rs) (repeated strings_at x.inside) (λ (f : Frame). f.rests)
    (λ rs (f : Frame). []) (λ rs (f : Frame). f ≡ record { point = place; locals = ls; rests = rs })
    (λ rs bytes. Some (record { point = place; locals = ls; rests = rs }, bytes))
    (repeated_codec strings AreTexts strings_at strings_codec x.inside) (λ rs h. ends (record { point = place; locals = ls; rests = rs }))
    (λ rs f e. ap (λ (g : Frame). g.rests) e) in
    is_codec (λ (f : Frame). variables f.locals ++ (flat_map strings f.rests ++ [])) frame_bytes
    (λ (f : Frame). AreVariables service (kinds_in x.scope) f.locals
    × (((length f.rests ≡ x.inside) × AllByRecursion AreTexts f.rests) × (f ≡ record { point = place; locals = f.locals; rests = f.rests })))
    (HasPlace service place (Some x)) (frame_of service place (Some x))
    (binds variables (AreVariables service (kinds_in x.scope)) (variables_at service (kinds_in x.scope)) (λ (f : Frame). f.locals)
    (λ ls (f : Frame). flat_map strings f.rests ++ [])
    (λ ls (f : Frame). ((length f.rests ≡ x.inside) × AllByRecursion AreTexts f.rests) × (f ≡ record { point = place; locals = ls; rests = f.rests }))
    (λ ls bytes. repeated strings_at x.inside bytes >>= λ rs. Some (record { point = place; locals = ls; rests = rs.0 }, rs.1))
    (variables_codec service small (kinds_in x.scope)) (λ ls h. rests ls) (λ ls f h. ap (λ (g : Frame). g.locals) h.1))
    (λ f h. ap (λ (t : List ℕ). variables f.locals ++ t) (sym (append-nil (flat_map strings f.rests))))
    (λ f h. (h.0, h.1.0, h.1.1)) (λ f h. (h.0, (h.1, h.2)))

-- ---- the show

-- the place that is found is that of the number
pub show_number : (service : Service) (s a p : ℕ) → show_at (plan_of service) s a ≡ Some p → number_at (plan_of service).steps p ≡ a
show_number service s a p e =
    let flow = plan_of service in
    let g = guarded (is_own flow s a) (position (is_statement a) flow.steps >>= λ q. if_shows q (slice_get flow.steps q)) p e in
    let b = bind_some (position (is_statement a) flow.steps) (λ q. if_shows q (slice_get flow.steps q)) p g.1 in
    let f = (finds_each service a).0 b.0 b.1 in
    let same : b.0 ≡ p = if_shows_is b.0 p (slice_get flow.steps b.0) b.2 in
    subst (λ (q : ℕ). number_at flow.steps q ≡ a) same (ap number_of f.1 ∙ f.2)
  where
    if_shows_is : (q p : ℕ) (o : Option Step) → if_shows q o ≡ Some p → q ≡ p
    if_shows_is q p None e = absurd (none_is_none p e)
    if_shows_is q p (Some x) e = some_is q p (guarded (is_show x.act) (Some q) p e).1

-- ---- sessions

abbrev pub made : ℕ → ℕ → ℕ → ℕ → Frame → Made → Record
made n k s t f d = record { number = n; key = k; session = s; turn = t; frame = f; page = d }

-- the record is that of these parts, and keeps the limits
abbrev pub Ends : ℕ → ℕ → ℕ → ℕ → ℕ → Frame → Made → Record → Type 0
Ends next n k s t f d r = (may_be next n t ≡ true) × ((is_light (made n k s t f d) ≡ true) × (r ≡ made n k s t f d))

light_is : (r z : Record) (bytes : List ℕ) (x : Record × List ℕ) → if_light r bytes ≡ Some x → (is_light r ≡ true) × ((r, bytes) ≡ x)
light_is r z bytes x e = let g = guarded (is_light r) (Some (r, bytes)) x e in (g.0, some_is (r, bytes) x g.1)

ends_codec : (next n k s t : ℕ) (f : Frame) (d : Made) →
    IsCodec (λ (r : Record). []) (Ends next n k s t f d) (λ bytes. only_if (may_be next n t) (if_light (made n k s t f d) bytes))
ends_codec next n k s t f d =
    let m = made n k s t f d in
    record {
      takes = λ bytes x fits e.
          let g = guarded (may_be next n t) (if_light m bytes) x e in
          let l = light_is m m bytes x g.1 in
          subst (λ (y : Record × List ℕ). Takes bytes [] y.1 × Ends next n k s t f d y.0) l.1
          (record { parts = refl; rest_fits = fits }, (g.0, (l.0, refl)));
      again = λ r rest h.
          ap (λ (b : Bool). only_if b (if_light m rest)) h.0 ∙ ap (λ (b : Bool). cond b (Some (m, rest)) None) h.1.0 ∙ ap (λ (y : Record). Some (y, rest))
          (sym h.1.1);
    }

-- the page
abbrev pub HasPage : Service → ℕ → ℕ → ℕ → ℕ → ℕ → Frame → Record → Type 0
HasPage service next n k s t f r = IsDocument service r.page × Ends next n k s t f r.page r

abbrev pub page_read : Service → ℕ → ℕ → ℕ → ℕ → ℕ → Frame → List ℕ → Option (Record × List ℕ)
page_read service next n k s t f bytes = document_at service bytes >>= λ d. only_if (may_be next n t) (if_light (made n k s t f d.0) d.1)

page_codec : (service : Service) → IsSmall service → (next n k s t : ℕ) (f : Frame) →
    IsCodec (λ (r : Record). document r.page ++ []) (HasPage service next n k s t f) (page_read service next n k s t f)
page_codec service small next n k s t f =
    binds document (IsDocument service) (document_at service) (λ (r : Record). r.page) (λ d r. []) (λ d r. Ends next n k s t f d r)
    (λ d bytes. only_if (may_be next n t) (if_light (made n k s t f d) bytes)) (document_codec service small) (λ d h. ends_codec next n k s t f d)
    (λ d r h. ap (λ (z : Record). z.page) h.1.1)

-- the frame, at a place
abbrev pub HasFrame : Service → List Step → ℕ → ℕ → ℕ → ℕ → ℕ → ℕ → Record → Type 0
HasFrame service steps next n k s t place r = HasPlace service place (slice_get steps place) r.frame × HasPage service next n k s t r.frame r

abbrev pub frame_read : Service → List Step → ℕ → ℕ → ℕ → ℕ → ℕ → ℕ → List ℕ → Option (Record × List ℕ)
frame_read service steps next n k s t place bytes = frame_at service steps place bytes >>= λ f. page_read service next n k s t f.0 f.1

frame_then : (service : Service) → IsSmall service → (steps : List Step) (next n k s t place : ℕ) →
    IsCodec (λ (r : Record). frame_bytes r.frame ++ (document r.page ++ [])) (HasFrame service steps next n k s t place)
    (frame_read service steps next n k s t place)
unfolding frame_at
frame_then service small steps next n k s t place =
    binds frame_bytes (HasPlace service place (slice_get steps place)) (frame_of service place (slice_get steps place)) (λ (r : Record). r.frame)
    (λ f r. document r.page ++ []) (λ f r. HasPage service next n k s t f r) (λ f bytes. page_read service next n k s t f bytes)
    (frame_codec service small place (slice_get steps place)) (λ f h. page_codec service small next n k s t f) (λ f r h. ap (λ (z : Record). z.frame) h.1.1.1)

-- the place that was found
abbrev pub HasShow : Service → ℕ → ℕ → ℕ → ℕ → ℕ → ℕ → Record → Type 0
HasShow service next n k s t a r =
    (p : ℕ) × (show_at (plan_of service) s a ≡ Some p) × HasFrame service (plan_of service).steps next n k s t p r

finds : {P C : Type 0} (o : Option P) (sp : C → List ℕ) (F : P → C → Type 0) (r : P → List ℕ → Option (C × List ℕ)) → ((p : P) → IsCodec sp (F p) (r p)) →
    IsCodec sp (λ z. (p : P) × (o ≡ Some p) × F p z) (λ bytes. o >>= λ p. r p bytes)
finds {P} {C} o sp F r c = record {
  takes = λ bytes z fits e.
      let b = bind_some o (λ p. r p bytes) z e in
      let t = (c b.0).takes bytes z fits b.2 in
      (t.0, (b.0, b.1, t.1));
  again = λ z rest h. ap (λ (q : Option P). q >>= λ p. r p (sp z ++ rest)) h.1 ∙ (c h.0).again z rest h.2;
}

abbrev pub show_read : Service → ℕ → ℕ → ℕ → ℕ → ℕ → ℕ → List ℕ → Option (Record × List ℕ)
show_read service next n k s t a bytes = show_at (plan_of service) s a >>= λ p. frame_read service (plan_of service).steps next n k s t p bytes

show_codec : (service : Service) → IsSmall service → (next n k s t a : ℕ) →
    IsCodec (λ (r : Record). frame_bytes r.frame ++ (document r.page ++ [])) (HasShow service next n k s t a) (show_read service next n k s t a)
show_codec service small next n k s t a =
    finds (show_at (plan_of service) s a) (λ (r : Record). frame_bytes r.frame ++ (document r.page ++ []))
    (λ p r. HasFrame service (plan_of service).steps next n k s t p r) (λ p bytes. frame_read service (plan_of service).steps next n k s t p bytes)
    (λ p. frame_then service small (plan_of service).steps next n k s t p)

-- the place of a frame that was read is the place that was found
frame_place : (service : Service) (p : ℕ) (o : Option Step) (f : Frame) → HasPlace service p o f → f.point ≡ p
frame_place service p None f h = absurd h
frame_place service p (Some x) f h = ap (λ (g : Frame). g.point) h.2

show_tells : (service : Service) (next n k s t a : ℕ) (r : Record) → HasShow service next n k s t a r → number_at (plan_of service).steps r.frame.point ≡ a
show_tells service next n k s t a r h =
    ap (number_at (plan_of service).steps) (frame_place service h.0 (slice_get (plan_of service).steps h.0) r.frame h.2.0)
    ∙ show_number service s a h.0 h.1

-- what all of it makes of a record
abbrev pub end_of : (service : Service) (next n k s t a : ℕ) (r : Record) → HasShow service next n k s t a r → r ≡ made n k s t r.frame r.page
end_of service next n k s t a r h = h.2.1.1.1.1

abbrev pub HasNumber : Service → ℕ → ℕ → ℕ → ℕ → ℕ → Record → Type 0
HasNumber service next n k s t r =
    (number_at (plan_of service).steps r.frame.point < 2 ^ 32) × HasShow service next n k s t (number_at (plan_of service).steps r.frame.point) r

abbrev pub number_bytes : Service → Record → List ℕ
number_bytes service r = to_be_bytes w32 (number_at (plan_of service).steps r.frame.point) ++ (frame_bytes r.frame ++ (document r.page ++ []))

abbrev pub number_then : Service → ℕ → ℕ → ℕ → ℕ → ℕ → List ℕ → Option (Record × List ℕ)
number_then service next n k s t bytes = number_read w32 bytes >>= λ a. show_read service next n k s t a.0 a.1

number_codec : (service : Service) → IsSmall service → (next n k s t : ℕ) →
    IsCodec (number_bytes service) (HasNumber service next n k s t) (number_then service next n k s t)
number_codec service small next n k s t =
    binds (to_be_bytes w32) (λ a. a < 2 ^ 32) (number_read w32) (λ (r : Record). number_at (plan_of service).steps r.frame.point)
    (λ a r. frame_bytes r.frame ++ (document r.page ++ [])) (λ a r. HasShow service next n k s t a r) (λ a bytes. show_read service next n k s t a bytes)
    u32_codec (λ a h. show_codec service small next n k s t a) (λ a r h. show_tells service next n k s t a r h)

turn_codec : (service : Service) → IsSmall service → (next n k s : ℕ) →
    IsCodec (λ (r : Record). to_be_bytes w32 r.turn ++ number_bytes service r) (λ r. (r.turn < 2 ^ 32) × HasNumber service next n k s r.turn r)
    (λ bytes. number_read w32 bytes >>= λ t. number_then service next n k s t.0 t.1)
turn_codec service small next n k s =
    binds (to_be_bytes w32) (λ a. a < 2 ^ 32) (number_read w32) (λ (r : Record). r.turn)
    (λ t r. number_bytes service r) (λ t r. HasNumber service next n k s t r) (λ t bytes. number_then service next n k s t bytes)
    u32_codec (λ t h. number_codec service small next n k s t)
    (λ t r h. ap (λ (z : Record). z.turn) (end_of service next n k s t (number_at (plan_of service).steps r.frame.point) r h.1))

session_number_codec : (service : Service) → IsSmall service → (next n k : ℕ) →
    IsCodec (λ (r : Record). to_be_bytes w16 r.session ++ (to_be_bytes w32 r.turn ++ number_bytes service r))
    (λ r. (r.session < 2 ^ 16) × ((r.turn < 2 ^ 32) × HasNumber service next n k r.session r.turn r))
    (λ bytes. number_read w16 bytes >>= λ s. number_read w32 s.1 >>= λ t. number_then service next n k s.0 t.0 t.1)
session_number_codec service small next n k =
    binds (to_be_bytes w16) (λ a. a < 2 ^ 16) (number_read w16) (λ (r : Record). r.session)
    (λ s r. to_be_bytes w32 r.turn ++ number_bytes service r) (λ s r. (r.turn < 2 ^ 32) × HasNumber service next n k s r.turn r)
    (λ s bytes. number_read w32 bytes >>= λ t. number_then service next n k s t.0 t.1)
    u16_codec (λ s h. turn_codec service small next n k s)
    (λ s r h. ap (λ (z : Record). z.session) (end_of service next n k s r.turn (number_at (plan_of service).steps r.frame.point) r h.1.1))

key_codec : (service : Service) → IsSmall service → (next n : ℕ) →
    IsCodec (λ (r : Record). to_be_bytes w64 r.key ++ (to_be_bytes w16 r.session ++ (to_be_bytes w32 r.turn ++ number_bytes service r)))
    (λ r. (r.key < 2 ^ 64) × ((r.session < 2 ^ 16) × ((r.turn < 2 ^ 32) × HasNumber service next n r.key r.session r.turn r)))
    (λ bytes. number_read w64 bytes >>= λ k. number_read w16 k.1 >>= λ s. number_read w32 s.1 >>= λ t. number_then service next n k.0 s.0 t.0 t.1)
key_codec service small next n =
    binds (to_be_bytes w64) (λ a. a < 2 ^ 64) (number_read w64) (λ (r : Record). r.key)
    (λ k r. to_be_bytes w16 r.session ++ (to_be_bytes w32 r.turn ++ number_bytes service r))
    (λ k r. (r.session < 2 ^ 16) × ((r.turn < 2 ^ 32) × HasNumber service next n k r.session r.turn r))
    (λ k bytes. number_read w16 bytes >>= λ s. number_read w32 s.1 >>= λ t. number_then service next n k s.0 t.0 t.1)
    u64_codec (λ k h. session_number_codec service small next n k)
    (λ k r h. ap (λ (z : Record). z.key) (end_of service next n k r.session r.turn (number_at (plan_of service).steps r.frame.point) r h.1.1.1))

-- what may stand as a session
abbrev pub HasAll : Service → ℕ → Record → Type 0
HasAll service next r =
    (r.number < 2 ^ 32) × ((r.key < 2 ^ 64) × ((r.session < 2 ^ 16) × ((r.turn < 2 ^ 32) × HasNumber service next r.number r.key r.session r.turn r)))

whole_codec : (service : Service) → IsSmall service → (next : ℕ) →
    IsCodec (λ (r : Record). to_be_bytes w32 r.number ++
    (to_be_bytes w64 r.key ++ (to_be_bytes w16 r.session ++ (to_be_bytes w32 r.turn ++ number_bytes service r))))
    (HasAll service next) (session_at service (plan_of service) next)
unfolding session_at
whole_codec service small next =
    binds (to_be_bytes w32) (λ a. a < 2 ^ 32) (number_read w32) (λ (r : Record). r.number)
    (λ n r. to_be_bytes w64 r.key ++ (to_be_bytes w16 r.session ++ (to_be_bytes w32 r.turn ++ number_bytes service r)))
    (λ n r. (r.key < 2 ^ 64) × ((r.session < 2 ^ 16) × ((r.turn < 2 ^ 32) × HasNumber service next n r.key r.session r.turn r)))
    (λ n bytes. number_read w64 bytes >>= λ k. number_read w16 k.1 >>= λ s. number_read w32 s.1 >>= λ t. number_then service next n k.0 s.0 t.0 t.1)
    u32_codec (λ n h. key_codec service small next n)
    (λ n r h. ap (λ (z : Record). z.number) (end_of service next n r.key r.session r.turn (number_at (plan_of service).steps r.frame.point) r h.1.1.1.1))

-- ---- in the words of the demands

test_parts : (a b c : Bool) → (a && (b && c)) ≡ true → (a ≡ true) × (b ≡ true) × (c ≡ true)
test_parts true true true e = (refl, refl, refl)
test_parts true true false e = absurd cc
test_parts true false c e = absurd cc
test_parts false b c e = absurd cc

both_parts : (a b : Bool) → (a && b) ≡ true → (a ≡ true) × (b ≡ true)
both_parts true b e = (refl, e)
both_parts false b e = absurd cc

-- what a place says, by its point
place_says : (service : Service) (p : ℕ) (o : Option Step) (f : Frame) → HasPlace service p o f →
    (x : Step) × (o ≡ Some x) × AreVariables service (kinds_in x.scope) f.locals × (length f.rests ≡ x.inside) × AllByRecursion AreTexts f.rests
place_says service p None f h = absurd h
place_says service p (Some x) f h = (x, refl, h.0, h.1.0, h.1.1)

is_session : (service : Service) (next : ℕ) (r : Record) → HasAll service next r → IsSession service next r
is_session service next r h =
    let show = h.1.1.1.1.1 in
    let p = show.0 in
    let steps = (plan_of service).steps in
    let same : r.frame.point ≡ p = frame_place service p (slice_get steps p) r.frame show.2.0 in
    let x = place_says service p (slice_get steps p) r.frame show.2.0 in
    let end = show.2.1.1 in
    let may = test_parts (nat_lt 0 r.number) (nat_lt r.number next) (nat_lt 0 r.turn) end.0 in
    let whole : made r.number r.key r.session r.turn r.frame r.page ≡ r = sym end.1.1 in
    let light = both_parts (nat_le (session_weight r) MAX_SESSION_WEIGHT) (nat_le (length (print (tree r.page))) MAX_DOCUMENT_BYTES)
    (subst (λ (z : Record). is_light z ≡ true) whole end.1.0) in
    record {
      number = ltb-true _ _ may.0;
      below = ltb-true _ _ may.1;
      few = h.0;
      key = h.1.0;
      session = h.1.1.0;
      turn = ltb-true _ _ may.2;
      last = h.1.1.1.0;
      show = h.1.1.1.1.0;
      step = x.0;
      waits = record {
        is = ap (slice_get steps) same ∙ x.1;
        shows = show.1 ∙ ap (λ (q : ℕ). Some q) (sym same);
        locals = x.2;
        rests = x.3;
        strings = x.4;
      };
      page = show.2.1.0;
      weight = leb-true _ _ light.0;
      prints = leb-true _ _ light.1;
    }

has_all : (service : Service) (next : ℕ) (r : Record) → IsSession service next r → HasAll service next r
has_all service next r h =
    let steps = (plan_of service).steps in
    let place : HasPlace service r.frame.point (slice_get steps r.frame.point) r.frame =
    subst (λ (o : Option Step). HasPlace service r.frame.point o r.frame) (sym h.waits.is) (h.waits.locals, (h.waits.rests, h.waits.strings), refl) in
    let may : may_be next r.number r.turn ≡ true =
    rw (lt-ltb 0 r.number h.number, lt-ltb r.number next h.below, lt-ltb 0 r.turn h.turn) refl in
    let light : is_light r ≡ true = rw
    (le-leb (session_weight r) MAX_SESSION_WEIGHT h.weight, le-leb (length (print (tree r.page))) MAX_DOCUMENT_BYTES h.prints) refl in
    (h.few, (h.key, (h.session, (h.last, (h.show, (r.frame.point, h.waits.shows, (place, (h.page, (may, (light, refl))))))))))

pub session_codec : (service : Service) → IsSmall service → (next : ℕ) →
    IsCodec (session (plan_of service).steps) (IsSession service next) (session_at service (plan_of service) next)
session_codec service small next =
    is_codec (λ (r : Record). to_be_bytes w32 r.number ++
    (to_be_bytes w64 r.key ++ (to_be_bytes w16 r.session ++ (to_be_bytes w32 r.turn ++ number_bytes service r))))
    (session (plan_of service).steps) (HasAll service next) (IsSession service next) (session_at service (plan_of service) next)
    (whole_codec service small next)
    (λ r h. ap (λ (x : List ℕ). to_be_bytes w32 r.number ++ (to_be_bytes w64 r.key ++ (to_be_bytes w16 r.session ++ (to_be_bytes w32 r.turn
    ++ (to_be_bytes w32 (number_at (plan_of service).steps r.frame.point) ++ x)))))
    (sym (append_assoc (variables r.frame.locals) (flat_map strings r.frame.rests) (document r.page ++ [])
    ∙ ap (λ (x : List ℕ). variables r.frame.locals ++ (flat_map strings r.frame.rests ++ x)) (append-nil (document r.page)))))
    (is_session service next) (has_all service next)

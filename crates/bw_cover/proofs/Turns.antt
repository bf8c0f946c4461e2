-- Each turn is covered, and its plugs are open: by induction on the statements, and on a loop's turns.
use Rattle.std.proofs.Common.{◌≡◌, ℕ, ◌+◌, List, [], ◌∷◌, ◌++◌, None, refl, ap, ◌∙◌, subst}
use Rattle.std.specs.Prelude.{◌==◌, nat_lt, if◌then◌else◌}
use Rattle.std.proofs.lemmas.Bool.{eqb-true}
use Rattle.bw_lang.specs.declared.service.Service.{Service}
use Rattle.bw_lang.specs.Service.Code.{Code, done, declare, assign, if_then, if_else, while_loop, block, for_each, show, exit, numbered}
use Rattle.bw_lang.specs.Table.Names.{beside}
use Rattle.bw_meaning.specs.GoOn.{with_rest, go_on_behind, body_of, turn, go_on}
use Rattle.bw_lang.specs.Service.Numbers.{first_number}
use Rattle.bw_meaning.specs.Operators.{truth_of, list_of, document_of}
use Rattle.bw_meaning.specs.Pages.{show_fault, exit_fault}
use Rattle.bw_meaning.specs.States.{Rests, Input, State, Outcome, Went, Shown, Exited, Failed, Answered, budget}
use Rattle.bw_meaning.specs.Statements.{declared, add_local, store, taken, with_value, begin, then_do}
use Rattle.bw_meaning.specs.Statements.{leave, room, turns, add_rest, each, wait, shows, exits, exec}
use Rattle.bw_meaning.specs.Values.{Value, Values, text, list_weight}
use Rattle.bw_cover.specs.Abstracts.{any, known, Html}
use Rattle.bw_cover.specs.Facts.{keeps, sets, brings, Facts, look, Leads, Apart, after, Laid}
use Rattle.bw_cover.specs.Plugs.{Plug, on_end, value_plugs, begin_plugs, turns_plugs, each_plugs, plugs, rest_plugs}
use Rattle.bw_cover.specs.Plugs.{plugs_behind, turn_plugs, go_on_plugs}
use Rattle.bw_cover.specs.Covered.{CoversLocals, CoversShared, CoversInputs, IsCovered, AreOpen}
use Rattle.bw_cover.proofs.Values.{covers_below}
use Rattle.bw_cover.proofs.Locals.{none_some}
use Rattle.bw_cover.proofs.States.{IsAt, Fine, Good, kept, added, stored, taken_good}
use Rattle.bw_cover.proofs.Outcomes.{good_value, good_begin, good_then, good_step, good_if, fine_kept, good_leave, good_inner, good_turns, good_each}
use Rattle.bw_cover.proofs.Outcomes.{fine_unless, page_is, fine_wait, fresh_name}

module _ {K : Type 0} (service : Service) (f : Facts K) where
  -- ---- statements

  pub exec_good : (c : Code) (n around : ℕ) (sc : List (List ℕ)) (p q : K) (st : State) → Laid service f c n sc p q → IsAt service f p sc st
      → Good service f q (after c sc) (exec service c n around st) (plugs service c n around st)
  exec_good done n around sc p q st h c = (subst (λ x. IsAt service f x sc st) h c, tt)
  exec_good (declare kind w e rest) n around sc p q st (r, pt, fresh, ld, h) c =
      good_step service f r q (sc ++ w ∷ []) (after rest (sc ++ w ∷ [])) (begin service e st (λ v st1. Went (add_local w v st1)))
      (begin_plugs service e st (λ v st1. []))
      (exec service rest (n + 1) around) (plugs service rest (n + 1) around)
      (good_begin service f p r sc (sc ++ w ∷ []) e st (λ v st1. Went (add_local w v st1)) (λ v st1. []) pt c
      (λ v st1 cv c1. (added service f p r sc st1 w (sets w e) (known service (look service f p) e) v pt.scope fresh cv refl ld c1, tt)))
      (λ st1 c1. exec_good rest (n + 1) around (sc ++ w ∷ []) r q st1 h c1)
  exec_good (assign w e rest) n around sc p q st (r, pt, ld, h) c =
      good_step service f r q sc (after rest sc) (begin service e st (λ v st1. Went (store w v st1))) (begin_plugs service e st (λ v st1. []))
      (exec service rest (n + 1) around) (plugs service rest (n + 1) around)
      (good_begin service f p r sc sc e st (λ v st1. Went (store w v st1)) (λ v st1. []) pt c
      (λ v st1 cv c1. (stored service f p r sc st1 w e v (beside w st1.locals) refl pt.scope cv ld c1, tt)))
      (λ st1 c1. exec_good rest (n + 1) around sc r q st1 h c1)
  exec_good (if_then t y rest) n around sc p q st (b, j, r, pt, sj, ay, lb, lj, lr, hy, h) c =
      let m = n + 1 + numbered y in
      let go = λ (v : Value) (st1 : State). if truth_of v then leave (declared y) (exec service y (n + 1) around st1) else Went st1 in
      let ps = λ (v : Value) (st1 : State). if truth_of v then plugs service y (n + 1) around st1 else [] in
      let one = good_begin service f p j sc sc t st go ps pt c
      (λ v st1 cv c1. good_if service f j sc (truth_of v) (leave (declared y) (exec service y (n + 1) around st1)) (Went st1)
      (plugs service y (n + 1) around st1) []
      (λ _. good_leave service f j sc y (exec service y (n + 1) around st1) (plugs service y (n + 1) around st1) ay
      (exec_good y (n + 1) around sc b j st1 hy (kept service f p b sc st1 pt.scope lb c1)))
      (λ _. (kept service f p j sc st1 pt.scope lj c1, tt))) in
      good_step service f r q sc (after rest sc) (begin service t st go) (begin_plugs service t st ps) (exec service rest m around)
      (plugs service rest m around)
      (fine_kept service f j r sc (begin service t st go) sj lr one.0, one.1)
      (λ st1 c1. exec_good rest m around sc r q st1 h c1)
  exec_good (if_else t y z rest) n around sc p q st (b, d, j, r, pt, sj, ay, az, lb, ld, lr, hy, hz, h) c =
      let k = n + 1 + numbered y in
      let m = k + numbered z in
      let go = λ (v : Value) (st1 : State). if truth_of v then leave (declared y) (exec service y (n + 1) around st1) else leave (declared z)
      (exec service z k around st1) in
      let ps = λ (v : Value) (st1 : State). if truth_of v then plugs service y (n + 1) around st1 else plugs service z k around st1 in
      let one = good_begin service f p j sc sc t st go ps pt c
      (λ v st1 cv c1. good_if service f j sc (truth_of v) (leave (declared y) (exec service y (n + 1) around st1))
      (leave (declared z) (exec service z k around st1))
      (plugs service y (n + 1) around st1) (plugs service z k around st1)
      (λ _. good_leave service f j sc y (exec service y (n + 1) around st1) (plugs service y (n + 1) around st1) ay
      (exec_good y (n + 1) around sc b j st1 hy (kept service f p b sc st1 pt.scope lb c1)))
      (λ _. good_leave service f j sc z (exec service z k around st1) (plugs service z k around st1) az
      (exec_good z k around sc d j st1 hz (kept service f p d sc st1 pt.scope ld c1)))) in
      good_step service f r q sc (after rest sc) (begin service t st go) (begin_plugs service t st ps) (exec service rest m around)
      (plugs service rest m around)
      (fine_kept service f j r sc (begin service t st go) sj lr one.0, one.1)
      (λ st1 c1. exec_good rest m around sc r q st1 h c1)
  exec_good (while_loop t b rest) n around sc p q st (y, r, pt, ab, ly, lr, hb, h) c =
      let m = n + 1 + numbered b in
      let body = λ (st1 : State). leave (declared b) (exec service b (n + 1) around st1) in
      good_step service f r q sc (after rest sc) (turns (room st) service t body st)
      (turns_plugs (room st) service t body (plugs service b (n + 1) around) st)
      (exec service rest m around) (plugs service rest m around)
      (good_turns service f (room st) p r sc t body (plugs service b (n + 1) around) st pt lr
      (λ st1 c1. good_leave service f p sc b (exec service b (n + 1) around st1) (plugs service b (n + 1) around st1) ab
      (exec_good b (n + 1) around sc y p st1 hb (kept service f p y sc st1 pt.scope ly c1))) c)
      (λ st1 c1. exec_good rest m around sc r q st1 h c1)
  exec_good (block b rest) n around sc p q st (r, ab, hb, h) c =
      let m = n + numbered b in
      good_step service f r q sc (after rest sc) (leave (declared b) (exec service b n around st)) (plugs service b n around st) (exec service rest m around)
      (plugs service rest m around)
      (good_leave service f r sc b (exec service b n around st) (plugs service b n around st) ab (exec_good b n around sc p r st hb c))
      (λ st1 c1. exec_good rest m around sc r q st1 h c1)
  exec_good (for_each w e b rest) n around sc p q st (y, r, pt, ab, ly, lr, hb, h) c =
      let m = n + 1 + numbered b in
      let body = λ (vs : List (List ℕ)) (st2 : State). exec service b (n + 1) (around + list_weight vs) st2 in
      let inside = λ (vs : List (List ℕ)) (st2 : State). plugs service b (n + 1) (around + list_weight vs) st2 in
      let go = λ (v : Value) (st1 : State). each (list_of v) w (w ∷ declared b) body st1 in
      let ps = λ (v : Value) (st1 : State). each_plugs (list_of v) w (w ∷ declared b) body inside st1 in
      good_step service f r q sc (after rest sc) (with_value service e st go) (value_plugs service e st ps) (exec service rest m around)
      (plugs service rest m around)
      (good_value service f p r sc sc e st go ps pt c
      (λ v st1 cv c1. good_each service f (list_of v) p r sc w (w ∷ declared b) body inside st1 pt.scope lr (λ vs x st2 c2.
      let st3 = add_local w (text x) st2 in
      good_inner service f p sc w b vs (body vs st3) (inside vs st3) ab
      (exec_good b (n + 1) (around + list_weight vs) (sc ++ w ∷ []) y p st3 hb
      (added service f p y sc st2 w (brings w) any (text x) pt.scope (fresh_name service f w b sc ab) refl refl ly c2))) c1))
      (λ st1 c1. exec_good rest m around sc r q st1 h c1)
  exec_good (show e rs rest) n around sc p q st (r, pt, k, pl, lr, h) c =
      let go = λ (v : Value). shows n around rs (document_of v) in
      good_step service f r q sc (after rest sc) (begin service e st go) (begin_plugs service e st (λ v st1. [])) (exec service rest (n + 1) around)
      (plugs service rest (n + 1) around)
      (good_begin service f p r sc sc e st go (λ v st1. []) pt c
      (λ v st1 cv c1. (
        fine_unless service f r sc (show_fault (document_of v) st1.locals around st1.shared) st1.units (wait n rs (document_of v) st1 st1.inputs)
            (fine_wait service f n p r sc rs e v st1 st1.inputs pt.scope pl k lr cv c1 c1.inputs),
        tt,
      )))
      (λ st1 c1. exec_good rest (n + 1) around sc r q st1 h c1)
  exec_good (exit e rest) n around sc p q st (r, pt, k, x, h) c =
      good_begin service f p q sc (after rest sc) e st (λ v. exits (document_of v)) (λ v st1. []) pt c
      (λ v st1 cv c1. (
        fine_unless service f q (after rest sc) (exit_fault (document_of v) st1.shared) st1.units (Exited (document_of v) st1.shared st1.units)
            (record {
              at = p;
              is_exit = x;
              last_is = page_is service f (f.shown p) v
                  (covers_below service (known service (look service f p) e) (Html (f.shown p)) v k cv);
              shared_are = c1.shared;
            }),
        tt,
      ))

  -- a foreach over these strings
  foreach_good : (vs : List (List ℕ)) (w : List ℕ) (b : Code) (n around : ℕ) (sc : List (List ℕ)) (p y r : K) (st : State) → f.scope p ≡ sc
      → Apart sc (w ∷ declared b) → Leads service f p (brings w) y → Leads service f p keeps r
      → Laid service f b (n + 1) (sc ++ w ∷ []) y p → IsAt service f p sc st
      → Good service f r sc (each vs w (w ∷ declared b) (λ more. exec service b (n + 1) (around + list_weight more)) st)
      (each_plugs vs w (w ∷ declared b) (λ more. exec service b (n + 1) (around + list_weight more))
      (λ more. plugs service b (n + 1) (around + list_weight more)) st)
  foreach_good vs w b n around sc p y r st s ab ly lr hb c =
      good_each service f vs p r sc w (w ∷ declared b) (λ more. exec service b (n + 1) (around + list_weight more))
      (λ more. plugs service b (n + 1) (around + list_weight more)) st s lr
      (λ ws x st2 c2.
      let st3 = add_local w (text x) st2 in
      good_inner service f p sc w b ws (exec service b (n + 1) (around + list_weight ws) st3) (plugs service b (n + 1) (around + list_weight ws) st3) ab
      (exec_good b (n + 1) (around + list_weight ws) (sc ++ w ∷ []) y p st3 hb
      (added service f p y sc st2 w (brings w) any (text x) s (fresh_name service f w b sc ab) refl refl ly c2))) c

  good_rests : (q : K) (sc : List (List ℕ)) (rests : Rests) (go : List (List ℕ) → Rests → Outcome) (ps : List (List ℕ) → Rests → List Plug)
      → ((vs : List (List ℕ)) (inner : Rests) → Good service f q sc (go vs inner) (ps vs inner))
      → Good service f q sc (with_rest rests go) (rest_plugs rests ps)
  good_rests q sc [] go ps h = (tt, tt)
  good_rests q sc (vs ∷ inner) go ps h = h vs inner

  -- ---- behind an answered show

  pub behind_good : (c : Code) (n around : ℕ) (sc : List (List ℕ)) (p q : K) (a : Answered) → CoversLocals service f (f.place a.at) a.locals
      → CoversShared service f a.input.shared → CoversInputs service f a.later
      → Laid service f c n sc p q → Good service f q (after c sc) (go_on_behind service c n around a) (plugs_behind service c n around a)
  behind_good done n around sc p q a cl cs ci h = (tt, tt)
  behind_good (declare kind w e rest) n around sc p q a cl cs ci (r, pt, fresh, ld, h) = behind_good rest (n + 1) around (sc ++ w ∷ []) r q a cl cs ci h
  behind_good (assign w e rest) n around sc p q a cl cs ci (r, pt, ld, h) = behind_good rest (n + 1) around sc r q a cl cs ci h
  behind_good (exit e rest) n around sc p q a cl cs ci (r, pt, k, x, h) = behind_good rest (n + 1) around sc r q a cl cs ci h
  behind_good (show e rs rest) n around sc p q a cl cs ci (r, pt, k, pl, lr, h) =
      let st = taken rs a.locals a.input a.later in
      good_if service f q (after rest sc) (a.at == n) (exec service rest (n + 1) around st) (go_on_behind service rest (n + 1) around a)
      (plugs service rest (n + 1) around st) (plugs_behind service rest (n + 1) around a)
      (λ e. exec_good rest (n + 1) around sc r q st h
      (taken_good service f p r sc rs a.locals a.input a.later pt.scope
      (subst (λ x. CoversLocals service f x a.locals) (ap f.place (eqb-true a.at n e) ∙ pl) cl) lr cs ci))
      (λ _. behind_good rest (n + 1) around sc r q a cl cs ci h)
  behind_good (block b rest) n around sc p q a cl cs ci (r, ab, hb, h) =
      let m = n + numbered b in
      let o = leave (declared b) (go_on_behind service b n around a) in
      let ps = plugs_behind service b n around a in
      good_if service f q (after rest sc) (nat_lt a.at m) (then_do o (exec service rest m around)) (go_on_behind service rest m around a)
      (ps ++ on_end o (plugs service rest m around)) (plugs_behind service rest m around a)
      (λ _. good_then service f r q sc (after rest sc) o ps (exec service rest m around) (plugs service rest m around)
      (good_leave service f r sc b (go_on_behind service b n around a) ps ab (behind_good b n around sc p r a cl cs ci hb))
      (λ st1 c1. exec_good rest m around sc r q st1 h c1))
      (λ _. behind_good rest m around sc r q a cl cs ci h)
  behind_good (if_then t y rest) n around sc p q a cl cs ci (b, j, r, pt, sj, ay, lb, lj, lr, hy, h) =
      let m = n + 1 + numbered y in
      let o = leave (declared y) (go_on_behind service y (n + 1) around a) in
      let ps = plugs_behind service y (n + 1) around a in
      good_if service f q (after rest sc) (nat_lt a.at m) (then_do o (exec service rest m around)) (go_on_behind service rest m around a)
      (ps ++ on_end o (plugs service rest m around)) (plugs_behind service rest m around a)
      (λ _.
      let g = good_leave service f j sc y (go_on_behind service y (n + 1) around a) ps ay (behind_good y (n + 1) around sc b j a cl cs ci hy) in
      good_then service f r q sc (after rest sc) o ps (exec service rest m around) (plugs service rest m around) (fine_kept service f j r sc o sj lr g.0, g.1)
      (λ st1 c1. exec_good rest m around sc r q st1 h c1))
      (λ _. behind_good rest m around sc r q a cl cs ci h)
  behind_good (if_else t y z rest) n around sc p q a cl cs ci (b, d, j, r, pt, sj, ay, az, lb, ld, lr, hy, hz, h) =
      let k = n + 1 + numbered y in
      let m = k + numbered z in
      let next = exec service rest m around in
      let more = plugs service rest m around in
      let one = leave (declared y) (go_on_behind service y (n + 1) around a) in
      let ps = plugs_behind service y (n + 1) around a in
      let other = leave (declared z) (go_on_behind service z k around a) in
      let qs = plugs_behind service z k around a in
      good_if service f q (after rest sc) (nat_lt a.at k) (then_do one next)
      (if nat_lt a.at m then then_do other next else go_on_behind service rest m around a)
      (ps ++ on_end one more) (if nat_lt a.at m then qs ++ on_end other more else plugs_behind service rest m around a)
      (λ _.
      let g = good_leave service f j sc y (go_on_behind service y (n + 1) around a) ps ay (behind_good y (n + 1) around sc b j a cl cs ci hy) in
      good_then service f r q sc (after rest sc) one ps next more (fine_kept service f j r sc one sj lr g.0, g.1)
      (λ st1 c1. exec_good rest m around sc r q st1 h c1))
      (λ _. good_if service f q (after rest sc) (nat_lt a.at m) (then_do other next) (go_on_behind service rest m around a) (qs ++ on_end other more)
      (plugs_behind service rest m around a)
      (λ _.
      let g = good_leave service f j sc z (go_on_behind service z k around a) qs az (behind_good z k around sc d j a cl cs ci hz) in
      good_then service f r q sc (after rest sc) other qs next more (fine_kept service f j r sc other sj lr g.0, g.1)
      (λ st1 c1. exec_good rest m around sc r q st1 h c1))
      (λ _. behind_good rest m around sc r q a cl cs ci h))
  behind_good (while_loop t b rest) n around sc p q a cl cs ci (y, r, pt, ab, ly, lr, hb, h) =
      let m = n + 1 + numbered b in
      let loop = exec service (while_loop t b rest) n around in
      let more = plugs service (while_loop t b rest) n around in
      let o = leave (declared b) (go_on_behind service b (n + 1) around a) in
      let ps = plugs_behind service b (n + 1) around a in
      good_if service f q (after rest sc) (nat_lt a.at m) (then_do o loop) (go_on_behind service rest m around a) (ps ++ on_end o more)
      (plugs_behind service rest m around a)
      (λ _. good_then service f p q sc (after rest sc) o ps loop more
      (good_leave service f p sc b (go_on_behind service b (n + 1) around a) ps ab (behind_good b (n + 1) around sc y p a cl cs ci hb))
      (λ st1 c1. exec_good (while_loop t b rest) n around sc p q st1 (y, r, pt, ab, ly, lr, hb, h) c1))
      (λ _. behind_good rest m around sc r q a cl cs ci h)
  behind_good (for_each w e b rest) n around sc p q a cl cs ci (y, r, pt, ab, ly, lr, hb, h) =
      let m = n + 1 + numbered b in
      let names = w ∷ declared b in
      let body = λ (vs : List (List ℕ)) (st : State). exec service b (n + 1) (around + list_weight vs) st in
      let inside = λ (vs : List (List ℕ)) (st : State). plugs service b (n + 1) (around + list_weight vs) st in
      let turn = λ (vs : List (List ℕ)) (inner : Rests). leave names
      (add_rest vs (go_on_behind service b (n + 1) (around + list_weight vs) (record a { rests = inner }))) in
      let made = λ (vs : List (List ℕ)) (inner : Rests). plugs_behind service b (n + 1) (around + list_weight vs) (record a { rests = inner }) in
      let go = λ (vs : List (List ℕ)) (inner : Rests). then_do (turn vs inner) (each vs w names body) in
      let ps = λ (vs : List (List ℕ)) (inner : Rests). made vs inner ++ on_end (turn vs inner) (each_plugs vs w names body inside) in
      good_if service f q (after rest sc) (nat_lt a.at m) (then_do (with_rest a.rests go) (exec service rest m around)) (go_on_behind service rest m around a)
      (rest_plugs a.rests ps ++ on_end (with_rest a.rests go) (plugs service rest m around)) (plugs_behind service rest m around a)
      (λ _. good_then service f r q sc (after rest sc) (with_rest a.rests go) (rest_plugs a.rests ps) (exec service rest m around)
      (plugs service rest m around)
      (good_rests r sc a.rests go ps (λ vs inner.
      good_then service f p r sc sc (turn vs inner) (made vs inner) (each vs w names body) (each_plugs vs w names body inside)
      (good_inner service f p sc w b vs (go_on_behind service b (n + 1) (around + list_weight vs) (record a { rests = inner })) (made vs inner) ab
      (behind_good b (n + 1) (around + list_weight vs) (sc ++ w ∷ []) y p (record a { rests = inner }) cl cs ci hb))
      (λ st2 c2. foreach_good vs w b n around sc p y r st2 pt.scope ab ly lr hb c2)))
      (λ st1 c1. exec_good rest m around sc r q st1 h c1))
      (λ _. behind_good rest m around sc r q a cl cs ci h)

  -- ---- turns

  is_covered : (q : K) (sc : List (List ℕ)) (o : Outcome) → Fine service f q sc o → IsCovered service f o
  is_covered q sc (Went st) c = c.shared
  is_covered q sc (Shown at locals rests shown shared units) c = c
  is_covered q sc (Exited last shared units) c = c
  is_covered q sc (Failed x units) c = tt

  -- no local is there in front of the first statement
  at_start : (p : K) (first : Values) (inputs : List Input) → CoversShared service f first → CoversInputs service f inputs
      → IsAt service f p [] (record { locals = []; shared = first; units = budget; inputs = inputs })
  at_start p first inputs c i = record { names = λ w. refl; locals = λ w v o e. absurd (none_some None v refl e); shared = c; inputs = i }

  pub laid_turn : (session : ℕ) (p q : K) (first : Values) (inputs : List Input)
      → Laid service f (body_of service session) (first_number service session) [] p q → CoversShared service f first → CoversInputs service f inputs
      → IsCovered service f (turn service session first inputs) × AreOpen (turn_plugs service session first inputs)
  laid_turn session p q first inputs h c i =
      let b = body_of service session in
      let r = exec_good b (first_number service session) 0 [] p q (record { locals = []; shared = first; units = budget; inputs = inputs }) h
      (at_start p first inputs c i) in
      (is_covered q (after b []) (turn service session first inputs) r.0, r.1)

  pub laid_go_on : (session : ℕ) (p q : K) (a : Answered) → Laid service f (body_of service session) (first_number service session) [] p q
      → CoversLocals service f (f.place a.at) a.locals → CoversShared service f a.input.shared → CoversInputs service f a.later
      → IsCovered service f (go_on service session a) × AreOpen (go_on_plugs service session a)
  laid_go_on session p q a h cl cs ci =
      let b = body_of service session in
      let r = behind_good b (first_number service session) 0 [] p q a cl cs ci h in
      (is_covered q (after b []) (go_on service session a) r.0, r.1)

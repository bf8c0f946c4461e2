-- From behind a show the flow does what is behind the show.
use Rattle.std.proofs.Common.{◌≡◌, ℕ, ◌+◌, ◌<◌, ◌≤◌, false, List, [], ◌∷◌, ◌++◌, length, map, refl, sym, ap}
use Rattle.std.proofs.Common.{◌∙◌, subst, arith, append_assoc, ⊎_elim}
use Rattle.std.specs.Prelude.{◌==◌, nat_lt, if◌then◌else◌}
use Rattle.std.proofs.lemmas.Bool.{cases_lt}
use Rattle.std.proofs.lemmas.List.{append-nil}
use Rattle.bw_lang.specs.declared.service.Service.{Service}
use Rattle.bw_lang.specs.declared.stmt.Kind.TheVariants as kinds
use Rattle.bw_lang.specs.Service.Code.{Code, done, declare, assign, if_then, if_else, while_loop, block, for_each, show, exit, numbered}
use Rattle.bw_lang.specs.Service.Term.{Term}
use Rattle.bw_flow.specs.declared.point.Local.{Local}
use Rattle.bw_flow.specs.declared.point.Received.{Received}
use Rattle.bw_flow.specs.Flows.{is_join, is_show, fields_of}
use Rattle.bw_flow.specs.Layout.{step, receives}
use Rattle.bw_flow.specs.Scopes.{with_local}
use Rattle.bw_flow.specs.Stands.{IsAt, Lowered}
use Rattle.bw_flow.specs.Numbers.{HasNumbers}
use Rattle.bw_flow.specs.Steps.{Step}
use Rattle.bw_flow.specs.Steps as acts
use Rattle.bw_meaning.specs.GoOn.{go_on_behind, with_rest}
use Rattle.bw_meaning.specs.States.{Input, State, Outcome, Rests, Answered, budget}
use Rattle.bw_meaning.specs.Statements.{declared, taken, then_do, leave, refills, add_rest, each, exec}
use Rattle.bw_meaning.specs.Values.{Values, list_weight}
use Rattle.bw_meaning.proofs.Good.{taken_room}
use Rattle.bw_meaning.proofs.OneMore.{if_below, if_above, if_at, if_past}
use Rattle.bw_run.specs.Follow.Laws.{Settles}
use Rattle.bw_meaning.specs.Values.{names_of}
use Rattle.bw_run.specs.Follow.Runs.{cut, plain, first_of, rests_weight, run}
use Rattle.bw_run.specs.Follow.Scoped.{names_in}
use Rattle.bw_flow.specs.Scoped.{IsScoped}
use Rattle.bw_run.proofs.Follow.Names.{names_with, names_taken, scoped_apart, unknown_apart, apart_with}
use Rattle.bw_run.proofs.Follow.Ends.{Ends, ends_to, ends_then, ends_leave, ends_rest, ends_each, exec_ends}
use Rattle.bw_run.proofs.Follow.Settling.{settles_to, on, on_then, on_rest, rest_leave, leave_as_cut, Means, plain_receives, length_more, weight_more}
use Rattle.bw_run.proofs.Follow.Points.{means_at, means_join}
use Rattle.bw_run.proofs.Follow.Sim.{sim, sim_again}
use Rattle.bw_run.proofs.Follow.Showing as showing

-- what a run from behind the show gives, and how it ends
pub record Backs (service : Service) (flow : List Step) (q : ℕ) (rests : Rests) (st : State) (d : ℕ) (ns : List (List ℕ)) (rs : Rests) (k : State →
    Outcome) (o : Outcome) : Type 0 where
  pub ends : Ends flow d ns o
  pub runs : Settles (λ g. run service flow g q rests st) (on rs k o)

module _ (service : Service) (flow : List Step) (num : HasNumbers flow) (pk : ℕ) (x : Step) (page : Term) (fields : List Received)
    (here : IsAt flow pk x) (is : x.act ≡ acts.shows page fields) (l : Values) (i : Input) (w : List Input) (fit : names_of l ≡ names_in x.scope) where
  same_point : (p : ℕ) (y : Step) → IsAt flow p y → is_join y.act ≡ false → y.number ≤ x.number → x.number < y.number + 1 → y ≡ x
  same_point = showing.same_point service flow num pk x page fields here is

  other_point : (p : ℕ) (y : Step) → IsAt flow p y → is_join y.act ≡ false → is_show y.act ≡ false → y.number ≤ x.number → x.number < y.number + 1 → ⊥
  other_point = showing.other_point service flow num pk x page fields here is

  -- the show, answered, where these are its rests
  abbrev to : Rests → Answered
  to inner = record { at = x.number; locals = l; rests = inner; input = i; later = w }

  -- the state behind it
  abbrev state : State
  state = taken (map plain fields) l i w

  abbrev Back : Rests → ℕ → List (List ℕ) → Rests → (State → Outcome) → Outcome → Type 0
  Back rests d ns rs k o = Backs service flow (first_of x.next) rests state d ns rs k o

  back_to : (rests : Rests) (d : ℕ) (ns : List (List ℕ)) (rs : Rests) (k : State → Outcome) (o o' : Outcome) → o ≡ o' → Back rests d ns rs k o →
      Back rests d ns rs k o'
  back_to rests d ns rs k o o' e h = subst (λ z. Back rests d ns rs k z) e h

  -- what is behind the show in a block, and then what follows the block
  back_inner : (b rest : Code) (n n2 d r around q : ℕ) (sc sc1 : List Local) (xs : List (List ℕ)) (rests rs : Rests) (k : State → Outcome) (o : Outcome) →
      Lowered service flow rest n2 sc d r q → IsScoped service rest sc → names_in sc1 ++ declared b ≡ names_in sc ++ declared b → IsScoped service b sc →
      Backs service flow (first_of x.next) rests state d (names_in sc ++ declared b) rs (λ st. on rs k (exec service rest n2 around (cut (length sc) st))) o →
      Back rests d (names_in sc ++ declared rest) rs k (then_do (leave (declared b) o) (exec service rest n2 around))
  back_inner b rest n n2 d r around q sc sc1 xs rests rs k o low s eq sb h =
      let next = exec service rest n2 around in
      let a = scoped_apart service b sc sb in
      let once = leave (declared b) o in
      record {
        ends = ends_then flow d (names_in sc) (names_in sc ++ declared rest) once next (ends_leave flow d (names_in sc) (declared b) o a h.ends)
            (λ st en. exec_ends flow service rest n2 sc d r q around st low s en);
        runs = settles_to (λ g. run service flow g (first_of x.next) rests state) (on rs (λ st. on rs k (next (cut (length sc) st))) o)
            (on rs k (then_do once next))
            (leave_as_cut flow d rs sc (declared b) o (λ st. on rs k (next st)) h.ends a ∙ on_then rs k once next) h.runs;
      }

  pub back : (c : Code) (n : ℕ) (sc : List Local) (d p q around : ℕ) (rs inner : Rests) (scq : List Local) (ys : List (List ℕ)) (r : ℕ) (k : State →
      Outcome) →
      Lowered service flow c n sc d p q → IsScoped service c sc → names_in sc ++ declared c ≡ names_in scq ++ ys → d ≡ length rs →
      around ≡ rests_weight rs → Means service flow q scq rs r k →
      n ≤ x.number → x.number < n + numbered c → budget + refills w ≤ r → length rs + length inner ≡ x.inside →
      Back (rs ++ inner) d (names_in sc ++ declared c) rs (λ st. k (cut (length scq) st)) (go_on_behind service c n around (to inner))
  back done n sc d p q around rs inner scq ys r k low s eq ed ea m a b c z = absurd (omega arith)
  back (declare kd v e rest) n sc d p q around rs inner scq ys r k low s eq ed ea m a b c z =
      let sc1 = with_local sc v kd in
      let e1 = ap (λ l. l ++ declared rest) (names_with sc v kd) ∙ append_assoc (names_in sc) (v ∷ []) (declared rest) in
      ⊎_elim (λ lt. absurd (other_point p (step n sc d (acts.sets v e) (low.0 ∷ [])) low.1 refl refl a lt))
      (λ le. subst (λ ns. Back (rs ++ inner) d ns rs (λ st. k (cut (length scq) st)) (go_on_behind service rest (n + 1) around (to inner))) e1
      (back rest (n + 1) sc1 d low.0 q around rs inner scq ys r k low.2 s.1 (e1 ∙ eq) ed ea m le (omega arith) c z)) (cases_lt x.number (n + 1))
  back (assign v e rest) n sc d p q around rs inner scq ys r k low s eq ed ea m a b c z =
      ⊎_elim (λ lt. absurd (other_point p (step n sc d (acts.sets v e) (low.0 ∷ [])) low.1 refl refl a lt))
      (λ le. back rest (n + 1) sc d low.0 q around rs inner scq ys r k low.2 s.1 eq ed ea m le (omega arith) c z) (cases_lt x.number (n + 1))
  back (exit e rest) n sc d p q around rs inner scq ys r k low s eq ed ea m a b c z =
      ⊎_elim (λ lt. absurd (other_point p (step n sc d (acts.exits e) []) low.1 refl refl a lt))
      (λ le. back rest (n + 1) sc d low.0 q around rs inner scq ys r k low.2 s eq ed ea m le (omega arith) c z) (cases_lt x.number (n + 1))
  back (show e fs rest) n sc d p q around rs inner scq ys r k low s eq ed ea m a b c z =
      let kq = λ (st1 : State). k (cut (length scq) st1) in
      let y = step n sc d (acts.shows e (receives service sc fs)) (low.0 ∷ []) in
      let now = exec service rest (n + 1) around (taken fs l i w) in
      let later = go_on_behind service rest (n + 1) around (to inner) in
      ⊎_elim
      (λ lt.
      let h = same_point p y low.1 refl a lt in
      let e1 : sc ≡ x.scope = ap (λ u. u.scope) h in
      let e2 : low.0 ≡ first_of x.next = ap (λ u. first_of u.next) h in
      let e3 : receives service sc fs ≡ fields = ap (λ u. fields_of u.act) h ∙ ap fields_of is in
      let e4 : d ≡ x.inside = ap (λ u. u.inside) h in
      let e5 : fs ≡ map plain fields = sym (plain_receives service sc fs) ∙ ap (map plain) e3 in
      let e6 : rs ≡ rs ++ inner = sym (append-nil rs) ∙ ap (λ u. rs ++ u) (sym (no_rest inner (omega arith))) in
      let en : names_of state.locals ≡ names_in sc = names_taken (map plain fields) l i w ∙ fit ∙ ap names_in (sym e1) in
      let ro = taken_room (map plain fields) l i w in
      let o = exec service rest (n + 1) around state in
      let to_now : o ≡ now = ap (λ u. exec service rest (n + 1) around (taken u l i w)) (sym e5) in
      let run1 = means_at service flow low.0 sc rs r (λ st. on rs kq (exec service rest (n + 1) around st)) state
      (sim service flow rest (n + 1) sc d low.0 q around rs scq ys r k low.2 s eq ed ea m) en (omega arith) in
      let run2 = subst (λ u. Settles (λ g. run service flow g u rs state) (on rs kq o)) e2 run1 in
      back_to (rs ++ inner) d (names_in sc ++ declared rest) rs kq o (if x.number == n then now else later) (to_now ∙ sym (if_at x.number n now later a lt))
      (record {
        ends = exec_ends flow service rest (n + 1) sc d low.0 q around state low.2 s en;
        runs = subst (λ u. Settles (λ g. run service flow g (first_of x.next) u state) (on rs kq o)) e6 run2;
      }))
      (λ le. back_to (rs ++ inner) d (names_in sc ++ declared rest) rs kq later (if x.number == n then now else later) (sym (if_past x.number n now later le))
      (back rest (n + 1) sc d low.0 q around rs inner scq ys r k low.2 s eq ed ea m le (omega arith) c z))
      (cases_lt x.number (n + 1))
    where
      no_rest : (u : Rests) → length u ≡ 0 → u ≡ []
      no_rest [] e = refl
      no_rest (v ∷ u) e = absurd (omega arith)
  back (block b rest) n sc d p q around rs inner scq ys r k low s eq ed ea m a lt c z =
      let kq = λ (st1 : State). k (cut (length scq) st1) in
      let n2 = n + numbered b in
      let next = exec service rest n2 around in
      let kr = λ (st1 : State). on rs kq (next st1) in
      let ns = names_in sc ++ declared rest in
      let o = go_on_behind service b n around (to inner) in
      let o1 = then_do (leave (declared b) o) next in
      let o2 = go_on_behind service rest n2 around (to inner) in
      ⊎_elim
      (λ inside. back_to (rs ++ inner) d ns rs kq o1 (if nat_lt x.number n2 then o1 else o2) (sym (if_below x.number n2 o1 o2 inside))
      (back_inner b rest n n2 d low.0 around q sc sc [] (rs ++ inner) rs kq o low.2 s.1 refl s.0
      (back b n sc d p low.0 around rs inner sc (declared b) r kr low.1 s.0 refl ed ea
      (sim service flow rest n2 sc d low.0 q around rs scq ys r k low.2 s.1 eq ed ea m) a inside c z)))
      (λ le. back_to (rs ++ inner) d ns rs kq o2 (if nat_lt x.number n2 then o1 else o2) (sym (if_above x.number n2 o1 o2 le))
      (back rest n2 sc d low.0 q around rs inner scq ys r k low.2 s.1 eq ed ea m le (omega arith) c z))
      (cases_lt x.number n2)
  back (if_then e y rest) n sc d p q around rs inner scq ys r k low s eq ed ea m a lt c z =
      let kq = λ (st1 : State). k (cut (length scq) st1) in
      let n2 = n + 1 + numbered y in
      let next = exec service rest n2 around in
      let kr = λ (st1 : State). on rs kq (next st1) in
      let ns = names_in sc ++ declared rest in
      let o = go_on_behind service y (n + 1) around (to inner) in
      let o1 = then_do (leave (declared y) o) next in
      let o2 = go_on_behind service rest n2 around (to inner) in
      ⊎_elim (λ at. absurd (other_point p (step n sc d (acts.tests e) (low.0 ∷ low.1 ∷ [])) low.3 refl refl a at))
      (λ past. ⊎_elim
      (λ inside. back_to (rs ++ inner) d ns rs kq o1 (if nat_lt x.number n2 then o1 else o2) (sym (if_below x.number n2 o1 o2 inside))
      (back_inner y rest (n + 1) n2 d low.2 around q sc sc [] (rs ++ inner) rs kq o low.6 s.1 refl s.0
      (back y (n + 1) sc d low.0 low.1 around rs inner sc (declared y) r kr low.5 s.0 refl ed ea
      (means_join service flow low.1 low.2 n d sc rs r kr low.4
      (sim service flow rest n2 sc d low.2 q around rs scq ys r k low.6 s.1 eq ed ea m)) past inside c z)))
      (λ le. back_to (rs ++ inner) d ns rs kq o2 (if nat_lt x.number n2 then o1 else o2) (sym (if_above x.number n2 o1 o2 le))
      (back rest n2 sc d low.2 q around rs inner scq ys r k low.6 s.1 eq ed ea m le (omega arith) c z))
      (cases_lt x.number n2))
      (cases_lt x.number (n + 1))
  back (if_else e y f rest) n sc d p q around rs inner scq ys r k low s eq ed ea m a lt c z =
      let kq = λ (st1 : State). k (cut (length scq) st1) in
      let n2 = n + 1 + numbered y in
      let n3 = n2 + numbered f in
      let next = exec service rest n3 around in
      let kr = λ (st1 : State). on rs kq (next st1) in
      let ns = names_in sc ++ declared rest in
      let oy = go_on_behind service y (n + 1) around (to inner) in
      let of = go_on_behind service f n2 around (to inner) in
      let o1 = then_do (leave (declared y) oy) next in
      let o2 = then_do (leave (declared f) of) next in
      let o3 = go_on_behind service rest n3 around (to inner) in
      let o23 = if nat_lt x.number n3 then o2 else o3 in
      let all = if nat_lt x.number n2 then o1 else o23 in
      let mj = means_join service flow low.2 low.3 n d sc rs r kr low.5 (sim service flow rest n3 sc d low.3 q around rs scq ys r k low.8 s.2 eq ed ea m) in
      ⊎_elim (λ at. absurd (other_point p (step n sc d (acts.tests e) (low.0 ∷ low.1 ∷ [])) low.4 refl refl a at))
      (λ past. ⊎_elim
      (λ inside. back_to (rs ++ inner) d ns rs kq o1 all (sym (if_below x.number n2 o1 o23 inside))
      (back_inner y rest (n + 1) n3 d low.3 around q sc sc [] (rs ++ inner) rs kq oy low.8 s.2 refl s.0
      (back y (n + 1) sc d low.0 low.2 around rs inner sc (declared y) r kr low.6 s.0 refl ed ea mj past inside c z)))
      (λ le. ⊎_elim
      (λ inside. back_to (rs ++ inner) d ns rs kq o2 all (sym (if_below x.number n3 o2 o3 inside) ∙ sym (if_above x.number n2 o1 o23 le))
      (back_inner f rest n2 n3 d low.3 around q sc sc [] (rs ++ inner) rs kq of low.8 s.2 refl s.1
      (back f n2 sc d low.1 low.2 around rs inner sc (declared f) r kr low.7 s.1 refl ed ea mj le inside c z)))
      (λ le3. back_to (rs ++ inner) d ns rs kq o3 all (sym (if_above x.number n3 o2 o3 le3) ∙ sym (if_above x.number n2 o1 o23 le))
      (back rest n3 sc d low.3 q around rs inner scq ys r k low.8 s.2 eq ed ea m le3 (omega arith) c z))
      (cases_lt x.number n3))
      (cases_lt x.number n2))
      (cases_lt x.number (n + 1))
  back (while_loop e b rest) n sc d p q around rs inner scq ys r k low s eq ed ea m a lt c z =
      let kq = λ (st1 : State). k (cut (length scq) st1) in
      let n2 = n + 1 + numbered b in
      let loop = exec service (while_loop e b rest) n around in
      let kw = λ (st1 : State). on rs kq (loop st1) in
      let ns = names_in sc ++ declared rest in
      let o = go_on_behind service b (n + 1) around (to inner) in
      let o1 = then_do (leave (declared b) o) loop in
      let o2 = go_on_behind service rest n2 around (to inner) in
      ⊎_elim (λ at. absurd (other_point p (step n sc d (acts.tests e) (low.0 ∷ low.1 ∷ [])) low.2 refl refl a at))
      (λ past. ⊎_elim
      (λ inside. back_to (rs ++ inner) d ns rs kq o1 (if nat_lt x.number n2 then o1 else o2) (sym (if_below x.number n2 o1 o2 inside))
      (back_inner b (while_loop e b rest) (n + 1) n d p around q sc sc [] (rs ++ inner) rs kq o low s refl s.0
      (back b (n + 1) sc d low.0 p around rs inner sc (declared b) r kw low.3 s.0 refl ed ea
      (sim service flow (while_loop e b rest) n sc d p q around rs scq ys r k low s eq ed ea m) past inside c z)))
      (λ le. back_to (rs ++ inner) d ns rs kq o2 (if nat_lt x.number n2 then o1 else o2) (sym (if_above x.number n2 o1 o2 le))
      (back rest n2 sc d low.1 q around rs inner scq ys r k low.4 s.1 eq ed ea m le (omega arith) c z))
      (cases_lt x.number n2))
      (cases_lt x.number (n + 1))
  back (for_each v e b rest) n sc d p q around rs [] scq ys r k low s eq ed ea m a lt c z =
      let kq = λ (st1 : State). k (cut (length scq) st1) in
      let n2 = n + 1 + numbered b in
      let next = exec service rest n2 around in
      let ns = names_in sc ++ declared rest in
      let names = v ∷ declared b in
      let body = λ (ws : List (List ℕ)). exec service b (n + 1) (around + list_weight ws) in
      let o1 = then_do (with_rest []
      (λ vs others. then_do (leave names (add_rest vs (go_on_behind service b (n + 1) (around + list_weight vs) (to others)))) (each vs v names body))) next in
      let o2 = go_on_behind service rest n2 around (to []) in
      ⊎_elim (λ at. absurd (other_point p (step n sc d (acts.goes_over v e) (low.0 ∷ low.1 ∷ [])) low.2 refl refl a at))
      (λ past. ⊎_elim
      (λ inside. let h = showing.deep service flow num pk x page fields here is b (n + 1) (with_local sc v kinds.Str) (d + 1) low.0 p low.3 past inside in
      absurd (omega arith))
      (λ le. back_to (rs ++ []) d ns rs kq o2 (if nat_lt x.number n2 then o1 else o2) (sym (if_above x.number n2 o1 o2 le))
      (back rest n2 sc d low.1 q around rs [] scq ys r k low.4 s.2 eq ed ea m le (omega arith) c z))
      (cases_lt x.number n2))
      (cases_lt x.number (n + 1))
  back (for_each v e b rest) n sc d p q around rs (vs ∷ inner) scq ys r k low s eq ed ea m a lt c z =
      let kq = λ (st1 : State). k (cut (length scq) st1) in
      let n2 = n + 1 + numbered b in
      let sc1 = with_local sc v kinds.Str in
      let rs1 = rs ++ vs ∷ [] in
      let next = exec service rest n2 around in
      let kr = λ (st1 : State). on rs kq (next st1) in
      let ns = names_in sc ++ declared rest in
      let names = v ∷ declared b in
      let body = λ (ws : List (List ℕ)). exec service b (n + 1) (around + list_weight ws) in
      let turn = each vs v names body in
      let k2 = λ (st1 : State). on rs kr (turn st1) in
      let o = go_on_behind service b (n + 1) (around + list_weight vs) (to inner) in
      let once = leave names (add_rest vs o) in
      let o1 = then_do (then_do once turn) next in
      let o2 = go_on_behind service rest n2 around (to (vs ∷ inner)) in
      let e1 = ap (λ l. l ++ declared b) (names_with sc v kinds.Str) ∙ append_assoc (names_in sc) (v ∷ []) (declared b) in
      let ap1 = unknown_apart service sc v (declared b) s.0 (apart_with sc v kinds.Str (declared b) (scoped_apart service b sc1 s.1)) in
      let lm = length_more rs vs in
      ⊎_elim (λ at. absurd (other_point p (step n sc d (acts.goes_over v e) (low.0 ∷ low.1 ∷ [])) low.2 refl refl a at))
      (λ past. ⊎_elim
      (λ inside.
      let h = back b (n + 1) sc1 (d + 1) low.0 p (around + list_weight vs) rs1 inner sc names r k2 low.3 s.1 e1 (ap (λ u. u + 1) ed
      ∙ sym lm) (weight_more rs vs around ea)
      (sim_again service flow v e b rest n sc d p q around rs scq ys r k low s eq ed ea m vs) past inside c (omega arith) in
      let he = ends_to flow (d + 1) (names_in sc1 ++ declared b) (names_in sc ++ names) o e1 h.ends in
      back_to (rs ++ vs ∷ inner) d ns rs kq o1 (if nat_lt x.number n2 then o1 else o2) (sym (if_below x.number n2 o1 o2 inside))
      (record {
        ends = ends_then flow d (names_in sc) ns (then_do once turn) next
            (ends_then flow d (names_in sc) (names_in sc) once turn
            (ends_leave flow d (names_in sc) names (add_rest vs o) ap1 (ends_rest flow d (names_in sc ++ names) vs o he))
            (λ st en. ends_each flow d (names_in sc) vs v (declared b) body st en ap1
            (λ ws st1 en1. ends_to flow (d + 1) (names_in sc1 ++ declared b) (names_in sc ++ names) (body ws st1) e1
            (exec_ends flow service b (n + 1) sc1 (d + 1) low.0 p (around + list_weight ws) st1 low.3 s.1 (en1 ∙ sym (names_with sc v kinds.Str))))))
            (λ st en. exec_ends flow service rest n2 sc d low.1 q around st low.4 s.2 en);
        runs = settles_to (λ g. run service flow g (first_of x.next) (rs ++ vs ∷ inner) state) (on rs1 (λ st1. k2 (cut (length sc) st1)) o) (on rs kq o1)
            (leave_as_cut flow (d + 1) rs1 sc names o k2 he ap1 ∙ on_rest rs vs k2 (leave names o) ∙ ap (on rs k2) (rest_leave vs names o)
            ∙ on_then rs kr once turn ∙ on_then rs kq (then_do once turn) next)
            (subst (λ u. Settles (λ g. run service flow g (first_of x.next) u state) (on rs1 (λ st1. k2 (cut (length sc) st1)) o))
            (append_assoc rs (vs ∷ []) inner) h.runs);
      }))
      (λ le. back_to (rs ++ vs ∷ inner) d ns rs kq o2 (if nat_lt x.number n2 then o1 else o2) (sym (if_above x.number n2 o1 o2 le))
      (back rest n2 sc d low.1 q around rs (vs ∷ inner) scq ys r k low.4 s.2 eq ed ea m le (omega arith) c z))
      (cases_lt x.number n2))
      (cases_lt x.number (n + 1))

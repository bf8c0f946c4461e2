-- The documents that a walk begins with, and those of elements.
use Rattle.std.proofs.Common.{◌≡◌, ℕ, ◌+◌, ◌≤◌, ◌==◌, Bool, true, false, if◌then◌else◌, List, length, refl, ap, sym, ◌∙◌, subst, arith}
use Rattle.std.proofs.lemmas.Bool.{false≢true}
use Rattle.bw_lang.specs.declared.items.Attr.{Attr}
use Rattle.bw_lang.specs.Document.Forest.{Forest, none}
use Rattle.bw_shape.specs.Nodes.Templates.{template_at}
use Rattle.bw_sum.specs.Graph.{Graph}
use Rattle.bw_sum.specs.Unfolding.{FillsAttrs, Fills}
use Rattle.bw_explain.specs.declared.sizes.TheConstants.{MAX_SIZE, NONE}
use Rattle.bw_explain.specs.declared.aim.Aim.{Aim as Sought}
use Rattle.bw_explain.specs.declared.aim.Aim.TheVariants.{Plain}
use Rattle.bw_explain.specs.declared.aim.Made.{Made}
use Rattle.bw_explain.specs.declared.page.Page.{Page}
use Rattle.bw_explain.specs.declared.reach.Reach.{Reach}
use Rattle.bw_explain.specs.declared.walk.Walk.{Walk as Going}
use Rattle.bw_explain.specs.Aims.{aim_of, cost_of, walk_of, known_of, table_of, Has, IsPlain, IsElement, IsMade, IsReady}
use Rattle.bw_explain.specs.Sizes.{size, plus, attrs_least}
use Rattle.bw_explain.specs.Tables.{Table, size_at, doc_at, Documents}
use Rattle.bw_explain.specs.Walks.{Aim, no_aim, Runs, nothing, plain_walk, from, at, flat_size, inside_size, walk, IsDraft, doc_of}
use Rattle.bw_explain.specs.Ways.{ways_at, graph}
use Rattle.bw_explain.proofs.Numbers.{right_of}
use Rattle.bw_explain.proofs.Runs.{runs_fill, fill_runs}
use Rattle.bw_explain.proofs.WalkLaws.{from_there}
use Rattle.bw_explain.proofs.MakingElements.{filled_size}

draft_none : (templates : ℕ → Forest) (G : Graph) (A : Aim) (n k x high : ℕ) → high ≤ 2
    → IsDraft templates G A n k x high none (from x) (doc_of none none none)
draft_none templates G A n k x high most y h l =
    let e = from_there x y (omega (arith, h, most)) (omega (arith, l)) in
    let d : doc_of none none none y ≡ none = same (y == 0) (y == 1) in (
      subst (λ z. Runs templates G A n k x none z (doc_of none none none y)) e (subst (Runs templates G A n k x none x) (sym d) nothing),
      let s = ap size d in omega (arith, s),
    )
  where
    same : (b c : Bool) → (if b then none else if c then none else none) ≡ none
    same true c = refl
    same false true = refl
    same false false = refl

pub draft_begun : (templates : ℕ → Forest) (G : Graph) (A : Aim) (n k x high : ℕ) (r : Reach) (a b c : Forest) → high ≤ 2 → r ≡ from x → a ≡ none → b ≡ none
    → c ≡ none → IsDraft templates G A n k x high none r (doc_of a b c)
draft_begun templates G A n k x high r a b c most is e f g =
    subst (λ (q : Reach). IsDraft templates G A n k x high none q (doc_of a b c)) (sym is)
    (subst (λ (z : Forest). IsDraft templates G A n k x high none (from x) (doc_of z b c)) (sym e)
    (subst (λ (z : Forest). IsDraft templates G A n k x high none (from x) (doc_of none z c)) (sym f)
    (subst (λ (z : Forest). IsDraft templates G A n k x high none (from x) (doc_of none none z)) (sym g) (draft_none templates G A n k x high most))))

-- the walk where nothing is looked for
pub flat_is : (w f : Going) → f.page ≡ w.page → f.aim ≡ Plain → f.plain.now ≡ w.plain.now → f.known.stay.now ≡ w.plain.now
    → f.known.first.now ≡ w.plain.now → f.known.second.now ≡ w.plain.now → f.known.whole.now ≡ w.plain.now
    → walk_of f ≡ plain_walk w.page.nodes.now (size_at w.plain.now)
flat_is w f p a q s t u v =
    ap (λ (x : Sought). record { aim = aim_of x; nodes = f.page.nodes.now; plain = size_at f.plain.now; known = known_of f.known; cost = cost_of x }) a
    ∙ ap (λ (x : Page). record { aim = no_aim; nodes = x.nodes.now; plain = size_at f.plain.now; known = known_of f.known; cost = NONE }) p
    ∙ ap (λ x. record { aim = no_aim; nodes = w.page.nodes.now; plain = size_at x; known = known_of f.known; cost = NONE }) q
    ∙ ap (λ x. record {
      aim = no_aim;
      nodes = w.page.nodes.now;
      plain = size_at w.plain.now;
      known = record {
        stay = size_at x;
        first = size_at f.known.first.now;
        second = size_at f.known.second.now;
        whole = size_at f.known.whole.now;
      };
      cost = NONE;
    }) s
    ∙ ap (λ x. record {
      aim = no_aim;
      nodes = w.page.nodes.now;
      plain = size_at w.plain.now;
      known = record {
        stay = size_at w.plain.now;
        first = size_at x;
        second = size_at f.known.second.now;
        whole = size_at f.known.whole.now;
      };
      cost = NONE;
    }) t
    ∙ ap (λ x. record {
      aim = no_aim;
      nodes = w.page.nodes.now;
      plain = size_at w.plain.now;
      known = record {
        stay = size_at w.plain.now;
        first = size_at w.plain.now;
        second = size_at x;
        whole = size_at f.known.whole.now;
      };
      cost = NONE;
    }) u
    ∙ ap (λ x. record {
      aim = no_aim;
      nodes = w.page.nodes.now;
      plain = size_at w.plain.now;
      known = record {
        stay = size_at w.plain.now;
        first = size_at w.plain.now;
        second = size_at w.plain.now;
        whole = size_at x;
      };
      cost = NONE;
    }) v

same_table : (b c d : Bool) (s t u v x : Table) → s ≡ x → t ≡ x → u ≡ x → v ≡ x → (if b then s else if c then t else if d then u else v) ≡ x
same_table true c d s t u v x e f g h = e
same_table false true d s t u v x e f g h = f
same_table false false true s t u v x e f g h = g
same_table false false false s t u v x e f g h = h

pub flat_ready : (w f : Going) → f.page ≡ w.page → f.aim ≡ Plain → f.known.stay.now ≡ w.plain.now
    → f.known.first.now ≡ w.plain.now → f.known.second.now ≡ w.plain.now → f.known.whole.now ≡ w.plain.now → (f.low ≡ 0) × (f.high ≡ 0)
    → Documents (IsPlain w.page) w.plain.now → IsReady f
flat_ready w f p a s t u v z docs = record {
  most = let h = z.1 in omega (arith, h);
  zero = λ o. z.0;
  plain = λ o. absurd (false≢true (sym o ∙ ap (λ (x : Sought). (aim_of x).deep) a));
  known = λ x y lo le hi. subst (λ (g : Sought). Documents (Has f.page g x y) (table_of f.known x y)) (sym a)
      (subst (λ (q : Page). Documents (Has q Plain x y) (table_of f.known x y)) (sym p)
      (subst (Documents (Has w.page Plain x y)) (sym (same_table (x == y) (y == 1) (x == 1) f.known.stay.now f.known.first.now f.known.second.now
      f.known.whole.now w.plain.now s t u v)) (λ n l. let d = docs n l in (
        let e : x ≡ y = let h = z.1 in omega (arith, le, hi, h) in
            subst (λ q. Has w.page Plain x q n (doc_at w.plain.now n)) e
            (fill_runs (template_at w.page.templates.now) (graph w.page.nodes.now) no_aim refl d.0 0 x),
        d.1,
      ))));
  made = subst (λ (g : Sought). IsMade f.page g) (sym a) tt;
}

-- an element that was made of its attributes and of the document of one state of a walk over its items
pub top_made : (w f : Going) (n : ℕ) (a : List Attr) (i : Forest) (m : Made) (doc : ℕ → Forest) → f.page ≡ w.page → f.aim ≡ Plain
    → walk_of f ≡ plain_walk w.page.nodes.now (size_at w.plain.now) → flat_size (walk_of w) n a i ≤ MAX_SIZE
    → FillsAttrs (graph w.page.nodes.now) n a m.attrs × (length m.attrs ≡ length a)
    → IsDraft (template_at f.page.templates.now) (graph f.page.nodes.now) (aim_of f.aim) n 0 0 f.high i (walk (walk_of f) n 0 (from 0) i) doc → m.items ≡ doc 0
    → IsElement (λ b j. FillsAttrs (graph w.page.nodes.now) n a b × Fills (template_at w.page.templates.now) (graph w.page.nodes.now) n i j)
    (flat_size (walk_of w) n a i) m
top_made w f n a i m doc p g is l q draft e =
    let T = template_at w.page.templates.now in
    let G = graph w.page.nodes.now in
    let ways = ways_at w.page.nodes.now n in
    let u = plain_walk w.page.nodes.now (size_at w.plain.now) in
    let v = (walk u n 0 (from 0) i).start in
    let d : IsDraft T G no_aim n 0 0 f.high i (walk u n 0 (from 0) i) doc =
    subst (λ z. IsDraft T G no_aim n 0 0 f.high i (walk z n 0 (from 0) i) doc) is
    (subst (λ (z : Sought). IsDraft T G (aim_of z) n 0 0 f.high i (walk (walk_of f) n 0 (from 0) i) doc) g
    (subst (λ (z : Page). IsDraft (template_at z.templates.now) (graph z.nodes.now) (aim_of f.aim) n 0 0 f.high i
    (walk (walk_of f) n 0 (from 0) i) doc) p draft)) in
    let k = d 0 (omega arith) (right_of (plus 1 (attrs_least ways a)) v MAX_SIZE (omega arith) l (omega arith)) in
    record {
      fit = (q.0, subst (Fills T G n i) (sym e) (runs_fill T G no_aim (λ b j. refl) k.0));
      most = filled_size ways a v m l q.1 (subst (λ z. size z ≤ v) (sym e) k.1);
    }

pub inside_made : (w : Going) (n k z : ℕ) (a : List Attr) (i : Forest) (m : Made) (doc : ℕ → Forest) → z ≤ w.high
    → inside_size (walk_of w) n k a i z ≤ MAX_SIZE → FillsAttrs (graph w.page.nodes.now) n a m.attrs × (length m.attrs ≡ length a)
    → IsDraft (template_at w.page.templates.now) (graph w.page.nodes.now) (aim_of w.aim) n (k + 1) 0 w.high i (walk (walk_of w) n (k + 1) (from 0) i) doc
    → m.items ≡ doc z
    → IsElement (λ b j. FillsAttrs (graph w.page.nodes.now) n a b
    × Runs (template_at w.page.templates.now) (graph w.page.nodes.now) (aim_of w.aim) n (k + 1) 0 i z j) (inside_size (walk_of w) n k a i z) m
inside_made w n k z a i m doc h l q draft e =
    let ways = ways_at w.page.nodes.now n in
    let v = at (walk (walk_of w) n (k + 1) (from 0) i) z in
    let d = draft z h (right_of (plus 1 (attrs_least ways a)) v MAX_SIZE (omega arith) l (omega arith)) in
    record {
      fit = (q.0, subst (Runs (template_at w.page.templates.now) (graph w.page.nodes.now) (aim_of w.aim) n (k + 1) 0 i z) (sym e) d.0);
      most = filled_size ways a v m l q.1 (subst (λ s. size s ≤ v) (sym e) d.1);
    }

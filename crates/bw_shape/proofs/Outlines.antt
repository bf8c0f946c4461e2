-- The tables that were made are the shape.
use Rattle.std.proofs.Common.{ℕ, ◌+◌, ◌≤◌, Bool, List, length, sym, ◌∙◌, subst}
use Rattle.std.specs.List.{All, Contains}
use Rattle.std.proofs.lemmas.List.{get_or_default}
use Rattle.std.proofs.lemmas.List.Elements.{All-contains}
use Rattle.bw_lang.specs.Document.Forest.{Forest}
use Rattle.bw_shape.specs.Rows.Rows.{at}
use Rattle.bw_shape.specs.Rows.Least.{Derivation, IsLeast, IsClosedAt}
use Rattle.bw_shape.specs.Nodes.Nodes.{Node}
use Rattle.bw_shape.specs.Nodes.Fits.{Fits}
use Rattle.bw_sum.specs.Graph.{Graph}
use Rattle.bw_shape.specs.Reach as reach
use Rattle.bw_shape.specs.Reach.{Walked, Reaches}
use Rattle.bw_shape.specs.Shape as shape
use Rattle.bw_shape.specs.Shape.{Reached, Top, tagged}
use Rattle.bw_shape.specs.Nodes.Templates.{template_at}
use Rattle.bw_shape.specs.Follows.{have_follows, lack_follows, twice_follows, top_follows, miss_follows, cross_follows}
use Rattle.bw_shape.specs.Columns.{AreKnown}
use Rattle.bw_shape.specs.Exact.{HoldFacts, AreTables}
use Rattle.bw_shape.specs.declared.tables.Tables.{Tables}
use Rattle.bw_shape.proofs.ExactFields.{have_sound, have_whole, lack_sound, lack_whole, twice_sound, twice_whole}
use Rattle.bw_shape.proofs.ExactTops.{tops_sound, tops_whole, miss_sound, miss_whole, cross_sound, cross_whole}

-- the tables are the least ones for the reached templates, in whatever order they were looked at
pub record Made (templates : List Forest) (nodes : List Node) (root : ℕ) (names : List (List ℕ)) (first : ℕ)
    (pairs : List (ℕ × ℕ)) (o : Tables) (back : List ℕ) : Type 0 where
  pub reaches : Reaches nodes root o.order.items
  pub covers : (n : ℕ) → Contains o.order.items n → Contains back n
  pub known : All (λ n. AreKnown o.tags (template_at templates n)) o.order.items
  pub few : first ≤ length o.tags
  pub tops : IsLeast (length o.tags + 1) (top_follows templates nodes o.tags) back o.tops
  pub have : IsLeast (length names) (have_follows templates nodes names) back o.have
  pub lack : IsLeast (length names) (lack_follows templates nodes names) back o.lack
  pub twice : IsLeast (length names) (twice_follows templates nodes names (at o.have)) back o.twice
  pub miss : IsLeast first (miss_follows templates nodes o.tags) back o.miss
  pub cross : IsLeast (length pairs) (cross_follows templates nodes o.tags (at o.tops) pairs) back o.cross

module _ {nodes : List Node} {G : Graph} (fits : Fits nodes G) (root : ℕ) where
  pub walked : {n : ℕ} → Reached G root n → Walked nodes root n
  walked shape.root_is = reach.root_is
  walked (shape.along {n = n} {g = g} {m = m} w e) = reach.along g (walked w) (fits.edges n g m ∙ e)

  pub unwalked : {n : ℕ} → Walked nodes root n → Reached G root n
  unwalked reach.root_is = shape.root_is
  unwalked (reach.along {n = n} {m = m} g w e) = shape.along {g = g} (unwalked w) (sym (fits.edges n g m) ∙ e)

  -- the tables are closed at each reached template
  closed_at : {width : ℕ} {follows : Derivation} (order back : List ℕ) (table : List (List Bool)) → Reaches nodes root order
      → ((n : ℕ) → Contains order n → Contains back n)
      → IsLeast width follows back table → (n : ℕ) → Reached G root n → IsClosedAt width follows table n
  closed_at {width = width} {follows = follows} order back table r e l n w =
      let c = e n (r.whole n (walked w)) in
      subst (IsClosedAt width follows table) (get_or_default back c.0 0 n c.1 ∙ c.2) (l.closed c.0 c.1)

pub hold_facts : (templates : List Forest) (nodes : List Node) (root : ℕ) (names : List (List ℕ)) (first : ℕ)
    (pairs : List (ℕ × ℕ)) (o : Tables) (back : List ℕ)
    → Made templates nodes root names first pairs o back → (G : Graph) → Fits nodes G → HoldFacts templates G root names first pairs o
hold_facts templates nodes root names first pairs o back m G fits =
    let known : (n : ℕ) → Reached G root n → AreKnown o.tags (template_at templates n) =
    λ n w. All-contains (λ n. AreKnown o.tags (template_at templates n)) o.order.items n m.known (m.reaches.whole n (walked fits root w)) in
    let tops_closed = closed_at fits root o.order.items back o.tops m.reaches m.covers m.tops in
    let have_closed = closed_at fits root o.order.items back o.have m.reaches m.covers m.have in
    record {
      reached = λ n. (
        λ c. unwalked fits root (All-contains (λ n. Walked nodes root n) o.order.items n m.reaches.sound c),
        λ w. m.reaches.whole n (walked fits root w),
      );
      has_tops = λ n x w. (
        tops_sound templates fits root o.tags o.tops m.tops.derived n x,
        λ h. tops_whole templates fits root o.tags known o.tops tops_closed n x w h,
      );
      may_have = λ n f w l. (
        have_sound templates fits root names o.have m.have.derived n f,
        λ h. have_whole templates fits root names o.have have_closed l w h,
      );
      may_lack = λ n f w l. (
        lack_sound templates fits root names o.lack m.lack.derived n f,
        λ h. lack_whole templates fits root names o.lack (closed_at fits root o.order.items back o.lack m.reaches m.covers m.lack) n f l w h,
      );
      has_twice = λ n f w l. (
        twice_sound templates fits root names o.have o.twice m.have.derived m.twice.derived n f,
        λ h. twice_whole templates fits root names o.have have_closed o.twice (closed_at fits root o.order.items back o.twice m.reaches m.covers m.twice) l w h,
      );
      may_miss = λ n x w l. (
        miss_sound templates fits root o.tags first o.miss m.miss.derived n x,
        λ h. miss_whole templates fits root o.tags first m.few o.miss (closed_at fits root o.order.items back o.miss m.reaches m.covers m.miss) n x l w h,
      );
      may_cross = λ n k x y w l e a b. (
        cross_sound templates fits root o.tags o.tops m.tops.derived pairs o.cross m.cross.derived n k x y a b e,
        λ h. cross_whole templates fits root o.tags o.tops m.tops.derived known tops_closed pairs o.cross
            (closed_at fits root o.order.items back o.cross m.reaches m.covers m.cross) n k x y l e w h,
      );
    }

pub are_tables : (templates : List Forest) (nodes : List Node) (root : ℕ) (names : List (List ℕ)) (first : ℕ)
    (pairs : List (ℕ × ℕ)) (o : Tables) (back : List ℕ)
    → Made templates nodes root names first pairs o back → (G : Graph) → Fits nodes G
    → AreTables templates nodes G root first pairs o.tags o.tops o.miss o.cross
are_tables templates nodes root names first pairs o back m G fits = record {
  fits = fits;
  few = m.few;
  known = λ n w. All-contains (λ n. AreKnown o.tags (template_at templates n)) o.order.items n m.known (m.reaches.whole n (walked fits root w));
  tops_derived = m.tops.derived;
  tops_closed = closed_at fits root o.order.items back o.tops m.reaches m.covers m.tops;
  miss_derived = m.miss.derived;
  miss_closed = closed_at fits root o.order.items back o.miss m.reaches m.covers m.miss;
  cross_derived = m.cross.derived;
  cross_closed = closed_at fits root o.order.items back o.cross m.reaches m.covers m.cross;
}

-- What is saved of a world, and the world of it.
use Rattle.std.proofs.Common.{◌≡◌, ℕ, List, [], ◌∷◌, map, Option, Some, None, Ok, refl, sym, ap, ◌∙◌}
use Rattle.bw_check.specs.declared.checked.Checked.{Checked}
use Rattle.bw_save.specs.Frozen.{record_of, suspended_of, saved_of, parts_of}
use Rattle.bw_save.specs.Thawed.{ThawedIsTheSame}
use Rattle.bw_lang.specs.declared.service.Service.{Service}
use Rattle.bw_load.proofs.Again.{saved_is_loaded}
use Rattle.bw_load.specs.Loads.{by_cells, uncovered}
use Rattle.bw_saved.specs.declared.saved.Record.{Record}
use Rattle.bw_saved.specs.declared.saved.Saved.{Saved}
use Rattle.bw_world.specs.declared.restoring.Parts.{Parts}
use Rattle.bw_world.specs.declared.suspended.Suspended.{Suspended}
use Rattle.bw_world.specs.Kept.{AreApart}
use Rattle.bw_world.specs.Restored.{by_number, seen_of}
use Rattle.bw_world.specs.Seen.{Seen}

-- ---- what is saved of the parts of a world

of_live : (live : List Suspended) → map (λ (x : ℕ × Suspended). record_of x.1) (by_number live) ≡ map record_of live
of_live [] = refl
of_live (s ∷ live) = ap (λ (rs : List Record). record_of s ∷ rs) (of_live live)

pub saved_of_parts : (p : Parts) (s : Saved) → s ≡ record { next = p.next; first = p.first; shared = p.shared; records = map record_of p.live } →
    s ≡ saved_of (seen_of p)
saved_of_parts p s is =
    is ∙ sym (ap (λ (rs : List Record). record { next = p.next; first = p.first; shared = p.shared; records = rs }) (of_live p.live))

-- ---- and of the world that goes on from what was saved: the same

of_records : (rs : List Record) → map (λ (x : ℕ × Suspended). record_of x.1) (by_number (map suspended_of rs)) ≡ rs
of_records [] = refl
of_records (r ∷ rs) = ap (λ (ss : List Record). r ∷ ss) (of_records rs)

pub saved_again : (checked : Checked) (s : Saved) → saved_of (seen_of (parts_of checked s)) ≡ s
saved_again checked s = ap (λ (rs : List Record). record { next = s.next; first = s.first; shared = s.shared; records = rs }) (of_records s.records)

-- the parts of a world, made again of what is saved of them
live_same : (live : List Suspended) → map suspended_of (map record_of live) ≡ live
live_same [] = refl
live_same (s ∷ live) = ap (λ (ss : List Suspended). s ∷ ss) (live_same live)

pub parts_again : (p : Parts) (s : Saved) → s ≡ record { next = p.next; first = p.first; shared = p.shared; records = map record_of p.live } →
    parts_of p.checked s ≡ p
parts_again p s is =
    ap (λ (x : Saved). parts_of p.checked x) is ∙ ap (λ (live : List Suspended). let q : Parts = record p { live = live } in q) (live_same p.live)

-- so it is in the world that is made of these parts
pub thawed_saved : (checked : Checked) (s : Saved) (p : Parts) (w : Seen) → p ≡ parts_of checked s → w ≡ seen_of p → saved_of w ≡ s
thawed_saved checked s p w is same = ap saved_of (same ∙ ap seen_of is) ∙ saved_again checked s

-- ---- two worlds of a service of which the same is saved are the same

-- the world of what is saved
world_again : Service → Saved → Seen
world_again service s = record {
  service = service;
  shared = s.shared;
  next = s.next;
  first = s.first;
  live = map (λ (r : Record). (r.number, suspended_of r)) s.records;
}

live_again : (next : ℕ) (live : List (ℕ × Suspended)) → AreApart next live →
    map (λ (r : Record). (r.number, suspended_of r)) (map (λ (x : ℕ × Suspended). record_of x.1) live) ≡ live
live_again next [] h = refl
live_again next (x ∷ live) h = λ i. (sym h.0 i, x.1) ∷ live_again next live h.3 i

is_again : (w : Seen) → AreApart w.next w.live → world_again w.service (saved_of w) ≡ w
unfolding world_again
is_again w h =
    ap (λ (live : List (ℕ × Suspended)). record { service = w.service; shared = w.shared; next = w.next; first = w.first; live = live })
    (live_again w.next w.live h)

-- ---- what is loaded, where it is what was saved unless a cell refuses it

loaded_is : (s v : Saved) (o : Option ℕ) → by_cells s o ≡ Ok v → v ≡ s
loaded_is s v None e = cc
loaded_is s v (Some k) e = absurd cc

pub thawed_is_the_same : ThawedIsTheSame
thawed_is_the_same t facts text frozen thawed kept also of_t is_t saved short light loads =
    let same : saved_of thawed ≡ saved_of frozen =
    loaded_is (saved_of frozen) (saved_of thawed) (uncovered t.service facts (saved_of frozen))
    (sym (saved_is_loaded t facts text (saved_of frozen) saved short light) ∙ loads) in
    sym (is_again thawed also.apart)
    ∙ ap (λ (s : Saved). world_again thawed.service s) same
    ∙ ap (λ (service : Service). world_again service (saved_of frozen)) (is_t ∙ sym of_t)
    ∙ is_again frozen kept.apart

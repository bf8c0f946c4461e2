-- A journal's requests are handled one after another.
use Rattle.std.proofs.Common.{◌≡◌, ◌+◌, ℕ, List, [], ◌∷◌, ◌++◌, length, Option}
use Rattle.std.proofs.Common.{Some, true, refl, sym, ap, ◌∙◌, subst, arith}
use Rattle.std.proofs.lemmas.List.{length-append}
use Rattle.bw_format.specs.declared.format.Format.{Format}
use Rattle.bw_http.specs.declared.request.Request.{Request}
use Rattle.bw_journal.specs.Journals.{Splits}
use Rattle.bw_journal.specs.Layout.{Entry, entry_bytes, entries_bytes, last_sum}
use Rattle.bw_journal.proofs.Readings.{bytes_then}
use Rattle.bw_journal.proofs.SoFar.{splits_more, sum_more}
use Rattle.bw_lang.specs.declared.service.Service.{Service}
use Rattle.bw_model.specs.Guards.{IsGuarded}
use Rattle.bw_world.specs.Seen.{Seen}
use Rattle.bw_bringing.specs.Bringing.{Brings, Sends}
use Rattle.bw_recall.specs.Recalling.{Advances, Brought, Handled, Recalls}
use Rattle.bw_recall.specs.Windows.{Hand}
use Rattle.bw_recall.specs.declared.recalling.Advance.TheVariants as advances
use Rattle.bw_recall.specs.declared.recalling.Recalled.TheVariants as recalled
use Rattle.bw_bringing.proofs.Bringing.{brings_then}

-- ---- the world

pub brought_none : (formats : List Format) (w : Seen) → Brought formats w w []
brought_none formats w m stood = (m, refl, stood)

brought_more : (formats : List Format) (before mid now : Seen) (es : List Entry) (e : Entry) (r : Request) → mid.service ≡ before.service
    → Brought formats before mid es → Sends e.message r → Handled formats mid now r e.key → Brought formats before now (es ++ e ∷ [])
brought_more formats before mid now es e r same b sends handled m stood =
    let first = b m stood in
    let one = handled first.0 first.2 in
    let guarded : IsGuarded formats before.service first.0 r e.key one.0 =
    subst (λ (s : Service). IsGuarded formats s first.0 r e.key one.0) same one.1 in
    let second : Brings formats before.service first.0 (e ∷ []) one.0.world = (r, one.0, sends, guarded, refl) in
    (one.0.world, brings_then formats before.service m first.0 one.0.world es (e ∷ []) first.1 second, one.2)

stays : (formats : List Format) (before mid now : Seen) (es : List Entry) → now ≡ mid → Brought formats before mid es → Brought formats before now es
stays formats before mid now es same b = subst (λ (w : Seen). Brought formats before w es) (sym same) b

-- ---- entry after entry

-- these entries were passed, and the world is theirs
pub record IsSoFar (formats : List Format) (before now : Seen) (from start : ℕ) (bytes : List ℕ) (hand : Hand) (left : Option (List ℕ))
    (len sum : ℕ) : Type 0 where
  pub passed : List Entry
  pub rest : List ℕ
  pub left_is : left ≡ Some rest
  pub ended : hand.ended ≡ true → rest ≡ []
  pub splits : Splits start bytes passed (hand.bytes ++ rest)
  pub len_is : len ≡ from + length (entries_bytes start passed)
  pub sum_is : sum ≡ last_sum start passed
  pub brought : Brought formats before now passed

-- so it is where the bytes were told when the first of them were read
abbrev pub SoFar : List Format → Seen → Seen → ℕ → ℕ → Hand → Option (List ℕ) → Hand → Option (List ℕ) → ℕ → ℕ → Type 0
SoFar formats before now from start first told hand left len sum =
    (unread : List ℕ) → told ≡ Some unread → (first.ended ≡ true → unread ≡ [])
    → IsSoFar formats before now from start (first.bytes ++ unread) hand left len sum

pub at_start : (formats : List Format) (w : Seen) (from start : ℕ) (first : Hand) (told : Option (List ℕ))
    → SoFar formats w w from start first told first told from start
at_start formats w from start first told unread is none = record {
  passed = [];
  rest = unread;
  left_is = is;
  ended = none;
  splits = record { fits = tt; parts = refl };
  len_is = omega arith;
  sum_is = refl;
  brought = brought_none formats w;
}

module _ (formats : List Format) (before mid now : Seen) (from start : ℕ) (first : Hand) (told : Option (List ℕ)) (old new : Hand)
    (left later : Option (List ℕ)) (len sum : ℕ)
    (so : SoFar formats before mid from start first told old left len sum) where
  -- one entry more was passed
  pub one_more : (more after : ℕ) → mid.service ≡ before.service → Advances formats mid now sum old new left later (advances.Entry more after)
      → SoFar formats before now from start first told new later (len + more) after
  one_more more after same advances unread is none =
      let s = so unread is none in
      let a = advances s.rest s.left_is s.ended in
      let e = a.advance_is.0 in
      let bytes = first.bytes ++ unread in
      let b = a.advance_is.2 in
      let size : length (entries_bytes start (s.passed ++ e ∷ [])) ≡ length (entries_bytes start s.passed) + (length (entry_bytes sum e) + 0) =
      ap (λ (x : List ℕ). length x) (bytes_then start s.passed (e ∷ []))
      ∙ length-append (entries_bytes start s.passed) (entries_bytes (last_sum start s.passed) (e ∷ []))
      ∙ ap (λ (k : ℕ). length (entries_bytes start s.passed) + length (entry_bytes k e ++ [])) (sym s.sum_is)
      ∙ ap (λ (k : ℕ). length (entries_bytes start s.passed) + k) (length-append (entry_bytes sum e) []) in
      record {
        passed = s.passed ++ e ∷ [];
        rest = a.rest;
        left_is = a.left;
        ended = a.ended;
        splits = splits_more start bytes (old.bytes ++ s.rest) (new.bytes ++ a.rest) s.passed sum after e s.splits s.sum_is b;
        len_is = omega (arith, s.len_is, a.advance_is.3, size);
        sum_is = sum_more start (old.bytes ++ s.rest) (new.bytes ++ a.rest) s.passed sum after e s.sum_is b;
        brought = brought_more formats before mid now s.passed e a.advance_is.1 same s.brought a.advance_is.4 a.advance_is.5;
      }

  pub done : Advances formats mid now sum old new left later advances.End → Recalls formats before now from start first told (recalled.Done len sum)
  done advances unread is none =
      let s = so unread is none in
      let a = advances s.rest s.left_is s.ended in (
        s.passed,
        old.bytes ++ s.rest,
        length (entries_bytes start s.passed),
        record {
          splits = s.splits;
          ends = record { len_is = refl; sum_is = s.sum_is };
          brought = stays formats before mid now s.passed a.advance_is.1 s.brought;
        },
        a.advance_is.0,
        s.len_is,
      )

  pub damaged : Advances formats mid now sum old new left later advances.Wrong → Recalls formats before now from start first told (recalled.Damaged len)
  damaged advances unread is none =
      let s = so unread is none in
      let a = advances s.rest s.left_is s.ended in (
        s.passed,
        old.bytes ++ s.rest,
        length (entries_bytes start s.passed),
        sum,
        record {
          splits = s.splits;
          ends = record { len_is = refl; sum_is = s.sum_is };
          brought = stays formats before mid now s.passed a.advance_is.1 s.brought;
        },
        a.advance_is.0,
        s.len_is,
      )

  pub broken : now ≡ mid → Recalls formats before now from start first told recalled.ReadFault
  broken same unread is none = let s = so unread is none in (s.passed, stays formats before mid now s.passed same s.brought)

  pub wanting : Advances formats mid now sum old new left later advances.Memory → Recalls formats before now from start first told recalled.Memory
  wanting advances unread is none =
      let s = so unread is none in
      let a = advances s.rest s.left_is s.ended in
      (s.passed, stays formats before mid now s.passed a.advance_is s.brought)

-- more entries than there are looked for
pub too_many : (formats : List Format) (before now : Seen) (from start : ℕ) (first : Hand) (told : Option (List ℕ)) (hand : Hand)
    (left : Option (List ℕ)) (len sum : ℕ)
    → SoFar formats before now from start first told hand left len sum → Recalls formats before now from start first told recalled.Memory
too_many formats before now from start first told hand left len sum so unread is none = let s = so unread is none in (s.passed, s.brought)

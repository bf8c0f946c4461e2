-- One entry more of a journal that is read by a window.
use Rattle.std.proofs.Common.{◌≡◌, ◌≤◌, ◌<◌, ◌+◌, ◌-◌, ℕ, List, [], ◌++◌, length, Option}
use Rattle.std.proofs.Common.{Some, None, true, refl, sym, ap, ◌∙◌, subst, inl, inr, arith, append_assoc}
use Rattle.std.proofs.lemmas.List.{append-nil, length-append}
use Rattle.std.specs.Io.KnownBytes.{Consumes, IsAtEnd}
use Rattle.bw_format.specs.declared.format.Format.{Format}
use Rattle.bw_http.specs.Taken.{IsFilled}
use Rattle.bw_journal.specs.Layout.{Entry, entry_bytes}
use Rattle.bw_journal.specs.Reading.{Begins, IsShort}
use Rattle.bw_journal.specs.declared.limits.TheConstants.{MAX_ENTRY_BYTES}
use Rattle.bw_journal.proofs.Parts.{length-entry}
use Rattle.bw_world.specs.Seen.{Seen}
use Rattle.bw_recall.specs.Recalling.{Advances, Advancing, IsAdvance, IsFew, IsShortEntry, IsWrong}
use Rattle.bw_recall.specs.Windows.{Hand, Holds, KnowsEnd}
use Rattle.bw_recall.specs.declared.recalling.Advance.{Advance}
use Rattle.bw_recall.specs.declared.recalling.Advance.TheVariants as advances

-- ---- bytes that the source has left

-- what is left behind bytes that were taken
pub record IsLeft (bytes taken : List ℕ) (later : Option (List ℕ)) : Type 0 where
  pub rest : List ℕ
  pub left : later ≡ Some rest
  pub parts : bytes ≡ taken ++ rest

left_behind : (bytes taken : List ℕ) (later : Option (List ℕ)) → Consumes (Some bytes) later taken → IsLeft bytes taken later
left_behind bytes taken None c = absurd c
left_behind bytes taken (Some rest) c = record { rest = rest; left = refl; parts = c }

pub filled_left : (bytes held now : List ℕ) (left later : Option (List ℕ)) → left ≡ Some bytes → (f : IsFilled left later held now) → IsLeft bytes f.0 later
filled_left bytes held now left later e f = left_behind bytes f.0 later (subst (λ (o : Option (List ℕ)). Consumes o later f.0) e f.1)

pub at_end : (rest : List ℕ) (later : Option (List ℕ)) → later ≡ Some rest → IsAtEnd later → rest ≡ []
at_end rest later e h = subst IsAtEnd e h

pub knows_end : (hand : Hand) (bytes : List ℕ) (left : Option (List ℕ)) → left ≡ Some bytes → (hand.ended ≡ true → bytes ≡ []) → KnowsEnd hand left
knows_end hand bytes left e h ended = subst IsAtEnd (sym e) (h ended)

-- the bytes at hand and those that are left are the same bytes as before
pub same_bytes : (held now bytes taken rest : List ℕ) → now ≡ held ++ taken → bytes ≡ taken ++ rest → held ++ bytes ≡ now ++ rest
same_bytes held now bytes taken rest e f =
    ap (λ (x : List ℕ). held ++ x) f ∙ sym (append_assoc held taken rest) ∙ ap (λ (x : List ℕ). x ++ rest) (sym e)

-- ---- more bytes behind those that were looked at

begins_more : (sum after : ℕ) (bytes rest more : List ℕ) (e : Entry) → Begins sum bytes e rest after → Begins sum (bytes ++ more) e (rest ++ more) after
begins_more sum after bytes rest more e b = record {
  fits = b.fits;
  parts = ap (λ (x : List ℕ). x ++ more) b.parts ∙ append_assoc (entry_bytes sum e) rest more;
  sum_is = b.sum_is;
}

wrong_more : (sum : ℕ) (bytes more : List ℕ) → IsWrong sum bytes → IsWrong sum (bytes ++ more)
wrong_more sum bytes more (inl unsound) = inl (λ e fits x y is. unsound e fits (more ++ x) y (sym (append_assoc bytes more x) ∙ is))
wrong_more sum bytes more (inr w) = inr (w.0, w.1 ++ more, w.2, begins_more sum w.2 bytes w.1 more w.0 w.3, w.4)

short_more : (sum : ℕ) (bytes more : List ℕ) → IsShort sum bytes → more ≡ [] → IsShort sum (bytes ++ more)
short_more sum bytes more s e = subst (IsShort sum) (sym (ap (λ (x : List ℕ). bytes ++ x) e ∙ append-nil bytes)) s

pub advance_more : (formats : List Format) (before now : Seen) (sum : ℕ) (bytes rest more : List ℕ) (advance : Advance)
    → (advance ≡ advances.End → more ≡ []) → IsAdvance formats before now sum bytes rest advance
    → IsAdvance formats before now sum (bytes ++ more) (rest ++ more) advance
advance_more formats before now sum bytes rest more (advances.Entry len after) none a =
    (a.0, a.1, begins_more sum after bytes rest more a.0 a.2, a.3, a.4, a.5)
advance_more formats before now sum bytes rest more advances.End none a = (short_more sum bytes more a.0 (none refl), a.1)
advance_more formats before now sum bytes rest more advances.Wrong none a = (wrong_more sum bytes more a.0, a.1)
advance_more formats before now sum bytes rest more advances.ReadFault none a = absurd a
advance_more formats before now sum bytes rest more advances.Memory none a = a

-- less than an entry is there only where the source has ended
pub ends_there : (hand : Hand) (rest : List ℕ) (advance : Advance) → Holds hand MAX_ENTRY_BYTES → (hand.ended ≡ true → rest ≡ []) → IsFew hand.bytes advance
    → advance ≡ advances.End → rest ≡ []
ends_there hand rest advance (inl ended) none few e = none ended
ends_there hand rest advance (inr enough) none few e =
    let less : length hand.bytes < MAX_ENTRY_BYTES = subst (IsFew hand.bytes) e few in absurd (omega (arith, less, enough))

-- what was found in the window, of all the bytes
pub advancing : (formats : List Format) (before now : Seen) (sum : ℕ) (old held new : Hand) (left later : Option (List ℕ)) (advance : Advance)
    → Holds held MAX_ENTRY_BYTES → IsFilled left later old.bytes held.bytes → (KnowsEnd old left → KnowsEnd held later) → new.ended ≡ held.ended
    → IsFew held.bytes advance → IsAdvance formats before now sum held.bytes new.bytes advance → (unread : List ℕ) → left ≡ Some unread
    → (old.ended ≡ true → unread ≡ []) → Advancing formats before now sum old new unread later advance
advancing formats before now sum old held new left later advance holds filled ends same few a unread is none =
    let l = filled_left unread old.bytes held.bytes left later is filled in
    let over : held.ended ≡ true → l.rest ≡ [] = λ e. at_end l.rest later l.left (ends (knows_end old unread left is none) e) in
    let all = advance_more formats before now sum held.bytes new.bytes l.rest advance (ends_there held l.rest advance holds over few) a in
    record {
      rest = l.rest;
      left = l.left;
      ended = λ e. over (sym same ∙ e);
      advance_is = subst (λ (x : List ℕ). IsAdvance formats before now sum x (new.bytes ++ l.rest) advance)
          (sym (same_bytes old.bytes held.bytes unread filled.0 l.rest filled.2 l.parts)) all;
    }

pub advances_by : (formats : List Format) (before now : Seen) (sum : ℕ) (old held new : Hand) (left later : Option (List ℕ)) (advance : Advance)
    → Holds held MAX_ENTRY_BYTES → IsFilled left later old.bytes held.bytes → (KnowsEnd old left → KnowsEnd held later) → new.ended ≡ held.ended
    → IsFew held.bytes advance → IsAdvance formats before now sum held.bytes new.bytes advance → Advances formats before now sum old new left later advance
advances_by formats before now sum old held new left later (advances.Entry len after) h f e s few a =
    advancing formats before now sum old held new left later (advances.Entry len after) h f e s few a
advances_by formats before now sum old held new left later advances.End h f e s few a =
    advancing formats before now sum old held new left later advances.End h f e s few a
advances_by formats before now sum old held new left later advances.Wrong h f e s few a =
    advancing formats before now sum old held new left later advances.Wrong h f e s few a
advances_by formats before now sum old held new left later advances.ReadFault h f e s few a = absurd a
advances_by formats before now sum old held new left later advances.Memory h f e s few a =
    advancing formats before now sum old held new left later advances.Memory h f e s few a

pub short_entry : (bytes : List ℕ) (advance : Advance) → IsFew bytes advance → IsShortEntry advance
short_entry bytes (advances.Entry len after) few = few
short_entry bytes advances.End few = tt
short_entry bytes advances.Wrong few = tt
short_entry bytes advances.ReadFault few = tt
short_entry bytes advances.Memory few = tt

-- no read failed where the bytes were looked at
pub no_fault : (formats : List Format) (before now : Seen) (sum : ℕ) (bytes rest : List ℕ) (advance : Advance)
    → IsAdvance formats before now sum bytes rest advance → advance ≡ advances.ReadFault → ⊥
no_fault formats before now sum bytes rest advance a e = subst (IsAdvance formats before now sum bytes rest) e a

-- an entry that was found is no longer than the limit
pub found_is_short : (sum after : ℕ) (bytes now rest : List ℕ) (e : Entry) → now ≡ bytes → Begins sum bytes e rest after
    → length now - length rest ≤ MAX_ENTRY_BYTES
found_is_short sum after bytes now rest e same b =
    let size : length now ≡ length (entry_bytes sum e) + length rest =
    ap (λ (x : List ℕ). length x) (same ∙ b.parts) ∙ length-append (entry_bytes sum e) rest in
    omega (arith, size, length-entry sum e, b.fits.message)

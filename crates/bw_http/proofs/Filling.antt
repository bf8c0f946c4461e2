-- Bytes that come behind others: what was taken, and where it is no use to look again.
use Rattle.std.proofs.Common.{◌≡◌, ℕ, ◌-◌, ◌<◌, ◌⊎◌, Bool, true, false, not, ◌||◌, ◌&&◌, List, ◌++◌, length, take, drop, refl, sym, ap, ◌∙◌, subst, arith, inl}
use Rattle.std.proofs.Common.{inr}
use Rattle.std.proofs.lemmas.List.{drop_at, take_all, length-append}
use Rattle.std.proofs.lemmas.List.Folds.{list_all-append}
use Rattle.std.proofs.lemmas.Bool.{false≢true}
use Rattle.std.specs.List.{count_by, list_all, list_any}
use Rattle.std.specs.Bool.{IsFalse}
use Rattle.httparse.specs.Pieces.{is_newline}
use Rattle.bw_http.specs.Heads.{HasNoHead, is_line_feed, line_count}
use Rattle.bw_http.proofs.Lines.{quiet_lines}
use Rattle.bw_http.proofs.LookingAgain.{no_line, blank_none, skip_all}

-- the bytes behind those that were held before
abbrev pub behind : List ℕ → List ℕ → List ℕ
behind held bytes = take (length bytes - length held) (drop (length held) bytes)

pub behind_is : (old taken held bytes : List ℕ) → held ≡ old → bytes ≡ old ++ taken → behind held bytes ≡ taken
behind_is old taken held bytes e f =
    let tail : drop (length held) bytes ≡ taken = ap (drop (length held)) f ∙ drop_at old taken (length held) (ap length (sym e)) in
    ap (take (length bytes - length held)) tail
    ∙ take_all (length bytes - length held) taken (omega (arith, ap length e, ap length f, length-append old taken))

-- no line has begun so far, and these are empty lines
still_blank : (begun blank : Bool) → begun || not blank ≡ false → (begun ≡ false) × (blank ≡ true)
still_blank true blank e = absurd (false≢true (sym e))
still_blank false true e = (refl, refl)
still_blank false false e = absurd (false≢true (sym e))

-- bytes in which no line has begun are empty lines
pub stays_blank : (begun blank : Bool) (old taken held bytes : List ℕ) → held ≡ old → bytes ≡ old ++ taken
    → (begun ≡ false → list_all is_newline old ≡ true) → blank ≡ list_all is_newline (behind held bytes)
    → begun || not blank ≡ false → list_all is_newline bytes ≡ true
stays_blank begun blank old taken held bytes e f before fresh none =
    let both = still_blank begun blank none in
    let tail : list_all is_newline taken ≡ true
    = ap (list_all is_newline) (sym (behind_is old taken held bytes e f)) ∙ sym fresh ∙ both.1 in
    ap (list_all is_newline) f ∙ list_all-append is_newline old taken
    ∙ ap (λ (b : Bool). b && list_all is_newline taken) (before both.0) ∙ tail

-- where no line has begun, or none has ended in what came, there is still no head
pub stays_none : (begun blank : Bool) (old taken held bytes : List ℕ) → held ≡ old → bytes ≡ old ++ taken
    → (begun ≡ false → list_all is_newline old ≡ true) → blank ≡ list_all is_newline (behind held bytes) → HasNoHead old
    → IsFalse (begun || not blank) ⊎ (list_any is_line_feed (behind held bytes) ≡ false) → HasNoHead bytes
stays_none begun blank old taken held bytes e f before fresh none worth =
    elim worth [
      | inl idle ↦ blank_none bytes (stays_blank begun blank old taken held bytes e f before fresh idle)
      | inr lacks ↦
          let quiet : list_any is_line_feed taken ≡ false = ap (list_any is_line_feed) (sym (behind_is old taken held bytes e f)) ∙ lacks in
          subst (λ (t : List ℕ). HasNoHead t) (sym f) (no_line old taken none quiet)
    ]

-- and no more lines
pub stays_few : (begun blank : Bool) (old taken held bytes : List ℕ) → held ≡ old → bytes ≡ old ++ taken
    → (begun ≡ false → list_all is_newline old ≡ true) → blank ≡ list_all is_newline (behind held bytes) → line_count old < 67
    → IsFalse (begun || not blank) ⊎ (list_any is_line_feed (behind held bytes) ≡ false) → line_count bytes < 67
stays_few begun blank old taken held bytes e f before fresh few worth =
    elim worth [
      | inl idle ↦
          let all = skip_all bytes (stays_blank begun blank old taken held bytes e f before fresh idle) in
          omega (arith, ap (count_by is_line_feed) all)
      | inr lacks ↦
          let quiet : list_any is_line_feed taken ≡ false = ap (list_any is_line_feed) (sym (behind_is old taken held bytes e f)) ∙ lacks in
          omega (arith, few, ap line_count f, quiet_lines old taken quiet)
    ]

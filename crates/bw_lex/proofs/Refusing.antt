-- A text is refused for the fault that the scan finds, and for no other.
use Rattle.std.proofs.Common.{◌≡◌, ℕ, zero, suc, ◌+◌, ◌<◌, ◌≤◌, Bool, true, false, List, [], ◌∷◌, ◌++◌, length, take, drop, refl, sym, ap, ◌∙◌, subst}
use Rattle.std.proofs.Common.{arith, Result, Ok, Err, ◌⊎◌, inl, inr, IfOk, IfErr, codes, if◌then◌else◌}
use Rattle.std.specs.Str.{IsUtf8, is_utf8, IsValidUpTo}
use Rattle.std.specs.Str.Lossy.{utf8_valid_len, valid_len_up_to}
use Rattle.std.proofs.lemmas.Bool.{cases_lt}
use Rattle.std.proofs.lemmas.List.{length-append, length-drop, length-take-le, take-append-drop, take_all}
use Rattle.std.proofs.lemmas.Str.{is_utf8-from_IsUtf8, utf8_valid_len-IsValidUpTo}
use Rattle.bw_lang.specs.declared.token.Token.{Token}
use Rattle.bw_lang.specs.declared.token.TokenKind.TheVariants as kinds
use Rattle.bw_lex.specs.declared.LexFault.{LexFault}
use Rattle.bw_lex.specs.declared.LexFault.TheVariants as lexical
use Rattle.bw_lex.specs.declared.pieces.FaultKind.{FaultKind}
use Rattle.bw_lex.specs.declared.pieces.FaultKind.TheVariants as faults
use Rattle.bw_lex.specs.declared.pieces.Piece.{Piece}
use Rattle.bw_lex.specs.declared.pieces.Piece.TheVariants as pieces
use Rattle.bw_lang.specs.Text.Cuts.{AreTokens}
use Rattle.bw_lang.specs.Text.TokenForms.{HasForm, IsHeld}
use Rattle.bw_lex.specs.Pieces.{piece}
use Rattle.bw_lex.specs.Refusals.{Stops, MeetsFault, IsTextRefused}
use Rattle.bw_lex.specs.Laws.{IsRefusedExactly, IsReadOrRefused}
use Rattle.bw_lex.specs.Refusals as refusals
use Rattle.bw_lex.specs.Tokens.{scan, onto, piece_len, Reading, fault_at, tokens_of}
use Rattle.bw_lex.proofs.Cutting.{gap_has_bytes, scanned, front_is_text, is_text, tokens-found}
use Rattle.bw_lex.proofs.Ends.{Ends, piece-ends}
use Rattle.bw_lex.proofs.Exact.{gap-exact, token-exact}
use Rattle.bw_lex.proofs.Longest.{longest}
use Rattle.bw_lex.proofs.Means.{piece-means}
use Rattle.bw_lex.proofs.Passes.{true_or_false}
use Rattle.bw_lex.proofs.Passing.{scan-piece, scan-fault, whole, cut_off}
use Rattle.bw_lex.proofs.Stopping.{StopsAt, piece-stops}
use Rattle.bw_lex.proofs.Unread.{string-cut, string-broken, string-no-escape, markup-cut, number-too-big, stray-byte}
use Rattle.bw_lex.proofs.Within.{form_has_bytes}

-- The fault that the scan finds
rest-fails : (tokens : List Token) (rest : Reading) (fault : LexFault) → onto tokens rest ≡ Err fault → rest ≡ Err fault
rest-fails tokens (Ok others) fault e = absurd (cc)
rest-fails tokens (Err other) fault e = e

step : (bad : Bool) (p : Piece) (at b : ℕ) (bs : List ℕ) (fault : LexFault) → piece bad (b ∷ bs) ≡ p → Ends p (length (b ∷ bs))
    → scan bad 0 at (b ∷ bs) ≡ Err fault →
    ((at n : ℕ) → 1 ≤ n → scan bad 0 at (drop n (b ∷ bs)) ≡ Err fault → MeetsFault bad at (drop n (b ∷ bs)) fault) → MeetsFault bad at (b ∷ bs) fault
step bad (pieces.Gap n) at b bs fault e ends read rest =
    let bytes = b ∷ bs in
    let own = take n bytes in
    let on = rest (at + n) n ends.0 (sym (scan-piece bad at n bytes (pieces.Gap n) e refl ends.0 ends.1) ∙ read) in
    subst (λ l. MeetsFault bad at l fault) (take-append-drop n bytes)
    (refusals.gap at own (drop n bytes) fault (piece-means bad bytes (pieces.Gap n) e) (longest bad bytes n (ap piece_len e) ends.0 ends.1)
    (subst (λ m. MeetsFault bad (at + m) (drop n bytes) fault) (sym (length-take-le n bytes ends.1)) on))
step bad (pieces.Token kind n) at b bs fault e ends read rest =
    let bytes = b ∷ bs in
    let own = take n bytes in
    let tokens : List Token = record { what = kind; start = at; end = at + n } ∷ [] in
    let on =
    rest (at + n) n ends.0 (rest-fails tokens (scan bad 0 (at + n) (drop n bytes)) fault
    (sym (scan-piece bad at n bytes (pieces.Token kind n) e refl ends.0 ends.1) ∙ read)) in
    let means : HasForm kind own × IsHeld kind = piece-means bad bytes (pieces.Token kind n) e in
    subst (λ l. MeetsFault bad at l fault) (take-append-drop n bytes)
    (refusals.token at kind own (drop n bytes) fault means.0 means.1 (longest bad bytes n (ap piece_len e) ends.0 ends.1)
    (subst (λ m. MeetsFault bad (at + m) (drop n bytes) fault) (sym (length-take-le n bytes ends.1)) on))
step bad (pieces.Fault kind n) at b bs fault e ends read rest =
    let found = sym (scan-fault bad at n (b ∷ bs) kind e (omega arith)) ∙ read in
    let is : fault_at kind (at + n) ≡ fault = cc in
    refusals.stop at (b ∷ bs) fault (subst (Stops bad at (b ∷ bs)) is (subst (StopsAt bad at (b ∷ bs)) e (piece-stops bad at b bs)))

refused : (bad : Bool) (most at : ℕ) (bytes : List ℕ) (fault : LexFault) → length bytes ≤ most → scan bad 0 at bytes ≡ Err fault → MeetsFault bad at bytes fault
unfolding scan
refused true most at [] fault h e =
    let is : lexical.BadByte at ≡ fault = cc in
    refusals.stop at [] fault (subst (Stops true at []) is (refusals.bad_byte refl))
refused false most at [] fault h e = absurd (cc)
refused bad zero at (b ∷ bs) fault h e = absurd (omega (arith, h))
refused bad (suc most) at (b ∷ bs) fault h e =
    step bad (piece bad (b ∷ bs)) at b bs fault refl (piece-ends bad (b ∷ bs)) e
    (λ at n some read. refused bad most at (drop n (b ∷ bs)) fault (omega (arith, h, some, length-drop n (b ∷ bs))) read)

-- and a fault that stands in the text is found
at_once : (bad : Bool) (at n : ℕ) (bytes : List ℕ) (kind : FaultKind) (fault : LexFault) → piece bad bytes ≡ pieces.Fault kind n → 0 < length bytes
    → fault_at kind (at + n) ≡ fault → scan bad 0 at bytes ≡ Err fault
at_once bad at n bytes kind fault e some is = scan-fault bad at n bytes kind e some ∙ ap (λ f. Err f) is

stopped : (bad : Bool) (at : ℕ) (bytes : List ℕ) (fault : LexFault) → Stops bad at bytes fault → scan bad 0 at bytes ≡ Err fault
unfolding scan
stopped bad at bytes fault (refusals.bad_byte e) = ap (λ t. scan t 0 at []) e
stopped bad at bytes fault (refusals.stray_byte b bs q h) =
    at_once bad at 0 (b ∷ bs) faults.BadByte _ (stray-byte bad b bs q h) (omega arith) (ap lexical.BadByte (omega arith))
stopped bad at bytes fault (refusals.bad_byte_in_string text inner e h) =
    at_once bad at (1 + length inner) (34 ∷ inner) faults.BadByte _
    (string-cut bad text inner h ∙ ap (λ t. if t then pieces.Fault faults.BadByte (1 + length inner) else pieces.Fault faults.OpenString 0) e)
    (omega arith) refl
stopped bad at bytes fault (refusals.no_escape text inner rest h g) =
    at_once bad at (1 + length inner) (34 ∷ (inner ++ 92 ∷ rest)) faults.BadByte _ (string-no-escape bad text inner rest h g) (omega arith) refl
stopped bad at bytes fault (refusals.broken_string text inner rest h) =
    at_once bad at 0 (34 ∷ (inner ++ 10 ∷ rest)) faults.OpenString _ (string-broken bad text inner rest h) (omega arith) (ap lexical.OpenString (omega arith))
stopped bad at bytes fault (refusals.open_string text inner e h) =
    at_once bad at 0 (34 ∷ inner) faults.OpenString _
    (string-cut bad text inner h ∙ ap (λ t. if t then pieces.Fault faults.BadByte (1 + length inner) else pieces.Fault faults.OpenString 0) e)
    (omega arith) (ap lexical.OpenString (omega arith))
stopped bad at bytes fault (refusals.bad_byte_in_template inner e h) =
    at_once bad at (6 + length inner) (codes "<html>" ++ inner) faults.BadByte _
    (markup-cut bad inner h ∙ ap (λ t. if t then pieces.Fault faults.BadByte (6 + length inner) else pieces.Fault faults.OpenTemplate 0) e) (omega arith) refl
stopped bad at bytes fault (refusals.open_template inner e h) =
    at_once bad at 0 (codes "<html>" ++ inner) faults.OpenTemplate _
    (markup-cut bad inner h ∙ ap (λ t. if t then pieces.Fault faults.BadByte (6 + length inner) else pieces.Fault faults.OpenTemplate 0) e)
    (omega arith) (ap lexical.OpenTemplate (omega arith))
stopped bad at bytes fault (refusals.big_number v own rest h g) =
    at_once bad at 0 (own ++ rest) faults.NumberTooBig _ (number-too-big bad v own rest h g)
    (omega (arith, form_has_bytes (kinds.Number v) own h, length-append own rest)) (ap lexical.NumberTooBig (omega arith))

found : (bad : Bool) (at : ℕ) (bytes : List ℕ) (fault : LexFault) → MeetsFault bad at bytes fault → scan bad 0 at bytes ≡ Err fault
found bad at bytes fault (refusals.stop n bs f h) = stopped bad n bs f h
found bad at bytes fault (refusals.gap n own rest f form long others) =
    scanned bad n own rest (pieces.Gap (length own)) (gap-exact bad own rest form long) refl (gap_has_bytes own form)
    ∙ found bad (n + length own) rest f others
found bad at bytes fault (refusals.token n kind own rest f form held long others) =
    scanned bad n own rest (pieces.Token kind (length own)) (token-exact bad kind own rest form held long) refl (form_has_bytes kind own form)
    ∙ ap (onto (record { what = kind; start = n; end = n + length own } ∷ [])) (found bad (n + length own) rest f others)

-- the longest front that is UTF-8
none_longer : (bs : List ℕ) (most m : ℕ) → valid_len_up_to bs most < m → m ≤ most → IsUtf8 (take m bs) → ⊥
none_longer bs zero m h g u = omega (arith, h, g)
none_longer bs (suc most) m h g u = elim (true_or_false (is_utf8 (take (suc most) bs))) [
  | inl e ↦ let at : valid_len_up_to bs (suc most) ≡ suc most = ap (λ t. if t then suc most else valid_len_up_to bs most) e in omega (arith, at, h, g)
  | inr e ↦
      let at : valid_len_up_to bs (suc most) ≡ valid_len_up_to bs most = ap (λ t. if t then suc most else valid_len_up_to bs most) e in
      elim (cases_lt m (suc most)) [
        | inl l ↦ none_longer bs most m (omega (arith, at, h)) (omega (arith, l)) u
        | inr l ↦
            let same : m ≡ suc most = omega (arith, l, g) in
            let is = is_utf8-from_IsUtf8 (take (suc most) bs) (subst (λ k. IsUtf8 (take k bs)) same u) in
            cc
      ]
]

valid_front : (bs : List ℕ) → utf8_valid_len bs < length bs → IsValidUpTo bs (utf8_valid_len bs)
unfolding utf8_valid_len
valid_front bs h = record {
  short = h;
  front = front_is_text bs (length bs);
  longest = λ m g u. elim (cases_lt m (length bs)) [
    | inl l ↦ none_longer bs (length bs) m g (omega (arith, l)) u
    | inr l ↦ none_longer bs (length bs) (length bs) h (omega arith) (subst IsUtf8 (take_all m bs l ∙ sym (take_all (length bs) bs (omega arith))) u)
  ];
}

pub refused_exactly : IsRefusedExactly
refused_exactly bytes fault = (to, from)
  where
    to : IsTextRefused bytes fault → tokens_of bytes ≡ Err fault
    to (inl h) = whole bytes h.0 ∙ found false 0 bytes fault h.1
    to (inr h) =
        let n = utf8_valid_len-IsValidUpTo bytes h.0 h.1 in
        sym (cut_off bytes h.0 (sym n) h.1.short) ∙ found true 0 (take h.0 bytes) fault h.2

    from : tokens_of bytes ≡ Err fault → IsTextRefused bytes fault
    from e = elim (cases_lt (utf8_valid_len bytes) (length bytes)) [
      | inl h ↦
          let n = utf8_valid_len bytes in
          inr (
            n,
            valid_front bytes h,
            refused true n 0 (take n bytes) fault (omega (arith, length-take-le n bytes (omega (arith, h)))) (cut_off bytes n refl h ∙ e),
          )
      | inr h ↦
          let text = is_text bytes h in
          inl (text, refused false (length bytes) 0 bytes fault (omega arith) (sym (whole bytes text) ∙ e))
    ]

pub read_or_refused : IsReadOrRefused
read_or_refused bytes = go (tokens_of bytes) refl
  where
    go : (answer : Reading) → tokens_of bytes ≡ answer → ((tokens : List Token) × AreTokens bytes tokens) ⊎ ((fault : LexFault) × IsTextRefused bytes fault)
    go (Ok tokens) e = inl (tokens, tokens-found bytes tokens e)
    go (Err fault) e = inr (fault, (refused_exactly bytes fault).1 e)

-- what that says of an answer
pub if_refused : {X : Type 0} (answer : Result X LexFault) (bytes : List ℕ)
    → IfErr answer (λ fault. (fault ≡ lexical.Memory) ⊎ (tokens_of bytes ≡ Err fault))
    → IfErr answer (λ fault. (fault ≡ lexical.Memory) ⊎ IsTextRefused bytes fault)
if_refused (Ok x) bytes h = h
if_refused (Err fault) bytes (inl h) = inl h
if_refused (Err fault) bytes (inr h) = inr ((refused_exactly bytes fault).1 h)

pub only_refused : (answer : Reading) (bytes : List ℕ) → IfOk answer (λ tokens. tokens_of bytes ≡ Ok tokens)
    → IfErr answer (λ fault. (fault ≡ lexical.Memory) ⊎ (tokens_of bytes ≡ Err fault)) → (fault : LexFault) → IsTextRefused bytes fault
    → (answer ≡ Err lexical.Memory) ⊎ (answer ≡ Err fault)
only_refused (Ok tokens) bytes h g fault is = let e = (refused_exactly bytes fault).0 is in absurd (cc)
only_refused (Err other) bytes h (inl g) fault is = inl (ap (λ f. Err f) g)
only_refused (Err other) bytes h (inr g) fault is = inr (sym g ∙ (refused_exactly bytes fault).0 is)

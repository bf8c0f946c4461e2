-- Numbers, texts and lists of texts are read as they are spelled.
use Rattle.std.proofs.Common.{◌≡◌, ℕ, zero, suc, ◌+◌, ◌^◌, ◌<◌, ◌≤◌, Bool, true, false, cond, ltb, List, [], ◌∷◌, ◌++◌, length, get_or, take, drop, Option}
use Rattle.std.proofs.Common.{Some, None, refl, sym, ap, subst, ◌∙◌, append_assoc, arith, inl, inr}
use Rattle.std.specs.Prelude.{ℤ, pos, negsuc, FitsSigned, ◌-◌}
use Rattle.std.specs.List.{flat_map, AllByRecursion}
use Rattle.std.specs.Int.{Width, w16, w32, w64, byte_len, from_be_bytes, to_be_bytes, cast_signed, cast_unsigned}
use Rattle.std.specs.Str.{is_utf8, IsUtf8}
use Rattle.std.proofs.lemmas.Bool.{cases_lt, ltb-false, ltb-true, le-ltb}
use Rattle.std.proofs.lemmas.List.{take_at, drop_at, take-append-drop, length-append, length-take, get_or-drop, get_or-take, get_or_past, append-nil}
use Rattle.std.proofs.lemmas.List.Concat.{flat_map-cons}
use Rattle.std.proofs.lemmas.Nat.{be_bytes_2, be_bytes_4, be_bytes_8, from_be_bytes-to_be_bytes_2, from_be_bytes-to_be_bytes_4, from_be_bytes-to_be_bytes_8}
use Rattle.std.proofs.lemmas.Str.{IsUtf8-from_is_utf8, is_utf8-from_IsUtf8}
use Rattle.std.proofs.lemmas.Int.{of_z-to_z, to_z-of_z}
use Rattle.bw_lang.specs.declared.limits.TheConstants.{MAX_STRING_BYTES}
use Rattle.bw_saved.specs.Codec.{IsBytes, Takes, IsCodec}
use Rattle.bw_saved.specs.Fields.Reading.{◌>>=◌, number_at, integer_at, text_at, repeated, strings_at}
use Rattle.bw_saved.specs.Fields.Spelling.{integer, text, strings, IsText, AreTexts}
use Rattle.bw_saved.proofs.Codecs.{IsBytes-rest, IsBytes-drop, bind_some, guarded, unless, some_is, Takes-then, binds, ends, tests, is_codec}
use Rattle.bw_saved.proofs.Loop.{repeated_codec}

IsBytes-take : (n : ℕ) (bytes : List ℕ) → IsBytes bytes → IsBytes (take n bytes)
IsBytes-take n bytes h i =
    elim (cases_lt i n) [
      | inl lt ↦ rw (get_or-take n bytes i 0 lt) (h i)
      | inr le ↦ rw (get_or_past (take n bytes) i 0 (omega (arith, length-take n bytes))) (omega arith)
    ]

-- ---- numbers

pub record IsWide (w : Width) (limit : ℕ) : Type 0 where
  pub len : (n : ℕ) → length (to_be_bytes w n) ≡ byte_len w
  pub back : (bytes : List ℕ) → length bytes ≡ byte_len w → IsBytes bytes → to_be_bytes w (from_be_bytes w bytes) ≡ bytes
  pub again : (n : ℕ) → n < limit → from_be_bytes w (to_be_bytes w n) ≡ n
  pub below : (bytes : List ℕ) → IsBytes bytes → from_be_bytes w bytes < limit

pub wide16 : IsWide w16 (2 ^ 16)
wide16 = record {
  len = λ n. refl;
  back = λ bytes len fits. be_bytes_2 bytes _ len fits refl;
  again = λ n lt. from_be_bytes-to_be_bytes_2 n lt;
  below = λ bytes fits. omega (arith, fits 0, fits 1);
}

pub wide32 : IsWide w32 (2 ^ 32)
wide32 = record {
  len = λ n. refl;
  back = λ bytes len fits. be_bytes_4 bytes _ len fits refl;
  again = λ n lt. from_be_bytes-to_be_bytes_4 n lt;
  below = λ bytes fits. omega (arith, fits 0, fits 1, fits 2, fits 3);
}

pub wide64 : IsWide w64 (2 ^ 64)
wide64 = record {
  len = λ n. refl;
  back = λ bytes len fits. be_bytes_8 bytes _ len fits refl;
  again = λ n lt. from_be_bytes-to_be_bytes_8 n lt;
  below = λ bytes fits. omega (arith, fits 0, fits 1, fits 2, fits 3, fits 4, fits 5, fits 6, fits 7);
}

pub number_codec : (w : Width) (limit : ℕ) → IsWide w limit → IsCodec (to_be_bytes w) (λ n. n < limit) (number_at w)
number_codec w limit wide = record {
  takes = λ bytes x fits e.
      let g = unless (ltb (length bytes) (byte_len w)) (Some (from_be_bytes w (take (byte_len w) bytes), drop (byte_len w) bytes)) x e in
      let long : byte_len w ≤ length bytes = ltb-false _ _ g.0 in
      let p = some_is (from_be_bytes w (take (byte_len w) bytes), drop (byte_len w) bytes) x g.1 in
      let front : to_be_bytes w (from_be_bytes w (take (byte_len w) bytes)) ≡ take (byte_len w) bytes =
      wide.back (take (byte_len w) bytes) (omega (arith, length-take (byte_len w) bytes)) (IsBytes-take (byte_len w) bytes fits) in
      subst (λ (y : ℕ × List ℕ). Takes bytes (to_be_bytes w y.0) y.1 × (y.0 < limit)) p (
        record { parts = rw front (sym (take-append-drop (byte_len w) bytes)); rest_fits = IsBytes-drop (byte_len w) bytes fits },
        wide.below (take (byte_len w) bytes) (IsBytes-take (byte_len w) bytes fits),
      );
  again = λ n rest lt.
      let len = wide.len n in
      let long : ltb (length (to_be_bytes w n ++ rest)) (byte_len w) ≡ false = le-ltb _ _ (omega (arith, length-append (to_be_bytes w n) rest)) in
      rw (long, take_at (to_be_bytes w n) rest (byte_len w) len, drop_at (to_be_bytes w n) rest (byte_len w) len, wide.again n lt) refl;
}

pub u16_codec : IsCodec (to_be_bytes w16) (λ n. n < 2 ^ 16) (number_at w16)
u16_codec = number_codec w16 (2 ^ 16) wide16

pub u32_codec : IsCodec (to_be_bytes w32) (λ n. n < 2 ^ 32) (number_at w32)
u32_codec = number_codec w32 (2 ^ 32) wide32

pub u64_codec : IsCodec (to_be_bytes w64) (λ n. n < 2 ^ 64) (number_at w64)
u64_codec = number_codec w64 (2 ^ 64) wide64

-- ---- integers

signed_of : (n : ℕ) (b : Bool) → ltb n (2 ^ 63) ≡ b → n < 2 ^ 64 → FitsSigned w64 (cond b (pos n) (negsuc (2 ^ 64 - suc n)))
signed_of n true e lt = record { sfits = ltb-true _ _ e }
signed_of n false e lt = let le = ltb-false _ _ e in record { sfits = omega (arith, le, lt) }

fits_signed : (n : ℕ) → n < 2 ^ 64 → FitsSigned w64 (cast_signed w64 n)
fits_signed n lt = signed_of n (ltb n (2 ^ 63)) refl lt

unsigned_fits : (z : ℤ) → FitsSigned w64 z → cast_unsigned w64 z < 2 ^ 64
unsigned_fits (pos n) f = let h : n < 2 ^ 63 = f.sfits in omega (arith, h)
unsigned_fits (negsuc n) f = omega arith

pub integer_codec : IsCodec integer (FitsSigned w64) integer_at
unfolding integer_at
integer_codec = record {
  takes = λ bytes x fits e.
      let b = bind_some (number_at w64 bytes) (λ n. Some (cast_signed w64 n.0, n.1)) x e in
      let t = u64_codec.takes bytes b.0 fits b.1 in
      subst (λ (y : ℤ × List ℕ). Takes bytes (integer y.0) y.1 × FitsSigned w64 y.0) (some_is (cast_signed w64 b.0.0, b.0.1) x b.2)
      (subst (λ (n : ℕ). Takes bytes (to_be_bytes w64 n) b.0.1) (sym (of_z-to_z w64 b.0.0 t.1)) t.0, fits_signed b.0.0 t.1);
  again = λ n rest fits.
      rw (u64_codec.again (cast_unsigned w64 n) rest (unsigned_fits n fits), to_z-of_z w64 n fits) refl;
}

-- ---- texts

pub text_codec : IsCodec text IsText text_at
unfolding text_at
text_codec = record {
  takes = λ bytes x fits e.
      let b = bind_some (number_at w32 bytes)
      (λ n. cond (ltb MAX_STRING_BYTES n.0) None
      (cond (ltb (length n.1) n.0) None (cond (is_utf8 (take n.0 n.1)) (Some (take n.0 n.1, drop n.0 n.1)) None))) x e in
      let n = b.0 in
      let t = u32_codec.takes bytes n fits b.1 in
      let g0 = unless (ltb MAX_STRING_BYTES n.0) (cond (ltb (length n.1) n.0) None (cond (is_utf8 (take n.0 n.1)) (Some (take n.0 n.1, drop n.0 n.1)) None)) x
      b.2 in
      let g1 = unless (ltb (length n.1) n.0) (cond (is_utf8 (take n.0 n.1)) (Some (take n.0 n.1, drop n.0 n.1)) None) x g0.1 in
      let g2 = guarded (is_utf8 (take n.0 n.1)) (Some (take n.0 n.1, drop n.0 n.1)) x g1.1 in
      let short : n.0 ≤ MAX_STRING_BYTES = ltb-false _ _ g0.0 in
      let long : n.0 ≤ length n.1 = ltb-false _ _ g1.0 in
      let len : length (take n.0 n.1) ≡ n.0 = omega (arith, length-take n.0 n.1) in
      let second : Takes n.1 (take n.0 n.1) (drop n.0 n.1) = record { parts = sym (take-append-drop n.0 n.1); rest_fits = IsBytes-drop n.0 n.1 t.0.rest_fits }
      in
      let both = Takes-then bytes (to_be_bytes w32 n.0) n.1 (take n.0 n.1) (drop n.0 n.1) t.0 second in
      let whole : Takes bytes (text (take n.0 n.1)) (drop n.0 n.1) = subst (λ (k : ℕ). Takes bytes (to_be_bytes w32 k ++ take n.0 n.1) (drop n.0 n.1))
      (sym len) both in
      subst (λ (p : List ℕ × List ℕ). Takes bytes (text p.0) p.1 × IsText p.0) (some_is (take n.0 n.1, drop n.0 n.1) x g2.1)
      (whole, record { short = omega (arith, len, short); utf8 = IsUtf8-from_is_utf8 (take n.0 n.1) g2.0 });
  again = λ s rest fits.
      let small : ltb MAX_STRING_BYTES (length s) ≡ false = le-ltb _ _ fits.short in
      let long : ltb (length (s ++ rest)) (length s) ≡ false = le-ltb _ _ (omega (arith, length-append s rest)) in
      let one : number_at w32 (text s ++ rest) ≡ Some (length s, s ++ rest) =
      ap (number_at w32) (append_assoc (to_be_bytes w32 (length s)) s rest) ∙ u32_codec.again (length s) (s ++ rest) (omega (arith, fits.short)) in
      rw (one, small, long, take_at s rest (length s) refl, drop_at s rest (length s) refl, is_utf8-from_IsUtf8 s fits.utf8) refl;
}

-- ---- lists of texts

pub strings_codec : IsCodec strings AreTexts strings_at
unfolding strings_at
strings_codec =
    is_codec (λ ss. to_be_bytes w32 (length ss) ++ flat_map text ss) strings
    (λ ss. (length ss < 2 ^ 32) × ((length ss ≡ length ss) × AllByRecursion IsText ss)) AreTexts strings_at
    (binds (to_be_bytes w32) (λ n. n < 2 ^ 32) (number_at w32) length (λ n ss. flat_map text ss) (λ n ss. (length ss ≡ n) × AllByRecursion IsText ss)
    (repeated text_at) u32_codec (λ n lt. repeated_codec text IsText text_at text_codec n) (λ n ss f. f.0))
    (λ ss f. refl) (λ ss f. record { few = f.0; each = f.1.1 }) (λ ss f. (f.few, (refl, f.each)))

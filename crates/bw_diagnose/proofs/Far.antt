-- No sign stands behind the last token.
use Rattle.std.proofs.Common.{◌≡◌, ◌≤◌, ℕ, ◌+◌, Bool, true, false, ◌&&◌, ◌||◌, List, length, codes, refl, ap, sym, ◌∙◌, arith}
use Rattle.std.specs.Prelude.{◌-◌, min, nat_le}
use Rattle.std.proofs.lemmas.Bool.{leb-true, leb-false}
use Rattle.std.proofs.lemmas.Option.{slice_get_past}
use Rattle.bw_lang.specs.declared.declaration.Draft.{Draft}
use Rattle.bw_lang.specs.declared.token.Lexeme.{Lexeme}
use Rattle.bw_diagnose.specs.Finding.{sign_at, says_sign}
use Rattle.bw_diagnose.specs.Meant.{is_plugged, names_at, values_there}

sign_far : (ls : List Lexeme) (n : ℕ) (s : List ℕ) → length ls ≤ n → sign_at ls n s ≡ false
sign_far ls n s h = ap (says_sign s) (slice_get_past ls n h)

plugged_far : (ls : List Lexeme) (n : ℕ) → length ls ≤ n → is_plugged ls n ≡ false
plugged_far ls n h = ap (λ b. b && (sign_at ls (n - 1) (codes "<[") || sign_at ls (n - 1) (codes ","))) (sign_far ls (n + 1) (codes "=") (omega arith))

names_far : (ls : List Lexeme) (ds : List Draft) (d n at : ℕ) → length ls ≤ n → names_at ls ds d n at ≡ values_there ds d at
names_far ls ds d n at h = let p = plugged_far ls n h in let s = sign_far ls (n + 1) (codes "=") (omega arith) in rw (p, s) refl

-- a token behind the last one stands for each of those
pub same_plugged : (ls : List Lexeme) (n m : ℕ) → m ≡ min n (length ls) → is_plugged ls m ≡ is_plugged ls n
same_plugged ls n m e = by_test (nat_le n (length ls)) refl
  where
    by_test : (b : Bool) → nat_le n (length ls) ≡ b → is_plugged ls m ≡ is_plugged ls n
    by_test true t = let h : n ≤ length ls = leb-true n (length ls) t in ap (is_plugged ls) (omega (arith, e, h))
    by_test false t =
        let h = leb-false n (length ls) t in plugged_far ls m (omega (arith, e, h)) ∙ sym (plugged_far ls n (omega (arith, h)))

pub same_names : (ls : List Lexeme) (ds : List Draft) (d n m at : ℕ) → m ≡ min n (length ls) → names_at ls ds d m at ≡ names_at ls ds d n at
same_names ls ds d n m at e = by_test (nat_le n (length ls)) refl
  where
    by_test : (b : Bool) → nat_le n (length ls) ≡ b → names_at ls ds d m at ≡ names_at ls ds d n at
    by_test true t = let h : n ≤ length ls = leb-true n (length ls) t in ap (λ k. names_at ls ds d k at) (omega (arith, e, h))
    by_test false t =
        let h = leb-false n (length ls) t in names_far ls ds d m at (omega (arith, e, h)) ∙ sym (names_far ls ds d n at (omega (arith, h)))

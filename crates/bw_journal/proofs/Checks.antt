-- Checks over parts, and an entry that was put behind bytes.
use Rattle.std.proofs.Common.{◌≡◌, ℕ, List, [], ◌∷◌, ◌++◌, length, refl, ap, ◌∙◌, append_assoc}
use Rattle.bw_journal.specs.Layout.{four, eight, front_bytes, stirred, sum_of, front_sum, sum_after, entry_bytes}
use Rattle.bw_journal.specs.Heads.{name_bytes, version_bytes, front_of}
use Rattle.bw_journal.specs.Reading.{entry}
use Rattle.bw_journal.proofs.HeadParts.{front_parts}

pub sum_of-append : (sum : ℕ) (a b : List ℕ) → sum_of (sum_of sum a) b ≡ sum_of sum (a ++ b)
unfolding sum_of
sum_of-append sum [] b = refl
sum_of-append sum (x ∷ a) b = sum_of-append (stirred sum x) a b

-- the check behind a front that was put in two parts
pub front_sum_is : (sum key s fs : ℕ) (m l k : List ℕ) → l ≡ four (length m) → k ≡ eight key → s ≡ sum_of sum l → fs ≡ sum_of s k
    → fs ≡ front_sum sum (entry key m)
front_sum_is sum key s fs m l k is ks a b =
    b ∙ ap (λ (n : ℕ). sum_of n k) a ∙ sum_of-append sum l k ∙ ap (λ (x : List ℕ). sum_of sum (x ++ k)) is
    ∙ ap (λ (x : List ℕ). sum_of sum (four (length m) ++ x)) ks

five : (o l k c m e : List ℕ) → (((((o ++ l) ++ k) ++ c) ++ m) ++ e) ≡ o ++ ((l ++ k) ++ (c ++ (m ++ e)))
five o l k c m e = simp append_assoc

pub put_is : (sum key fs after : ℕ) (m o o1 o2 o3 o4 o5 l k c e : List ℕ) → l ≡ four (length m) → k ≡ eight key → fs ≡ front_sum sum (entry key m)
    → after ≡ sum_after sum (entry key m) → c ≡ eight fs → e ≡ eight after → o1 ≡ o ++ l → o2 ≡ o1 ++ k → o3 ≡ o2 ++ c → o4 ≡ o3 ++ m → o5 ≡ o4 ++ e
    → o5 ≡ o ++ entry_bytes sum (entry key m)
put_is sum key fs after m o o1 o2 o3 o4 o5 l k c e li ki fi ai ci ei p1 p2 p3 p4 p5 =
    let cs = ci ∙ ap eight fi in
    let es = ei ∙ ap eight ai in
    p5 ∙ ap (λ (x : List ℕ). x ++ e) (p4 ∙ ap (λ (x : List ℕ). x ++ m) (p3 ∙ ap (λ (x : List ℕ). x ++ c) (p2 ∙ ap (λ (x : List ℕ). x ++ k) p1)))
    ∙ five o l k c m e
    ∙ ap (λ (x : List ℕ). o ++ ((x ++ k) ++ (c ++ (m ++ e)))) li ∙ ap (λ (x : List ℕ). o ++ ((four (length m) ++ x) ++ (c ++ (m ++ e)))) ki
    ∙ ap (λ (x : List ℕ). o ++ (front_bytes (length m) key ++ (x ++ (m ++ e)))) cs
    ∙ ap (λ (x : List ℕ). o ++ (front_bytes (length m) key ++ (eight (front_sum sum (entry key m)) ++ (m ++ x)))) es

-- the check over the parts of what stands in front of where a journal begins
pub start_is : (origin : ℕ) (text len : List ℕ) (a b c d : ℕ) → len ≡ four (length text) → a ≡ sum_of 0 (name_bytes ++ version_bytes) → b ≡ sum_of a len
    → c ≡ sum_of b text
    → d ≡ sum_of c (origin ∷ []) → d ≡ sum_of 0 (front_of origin text)
start_is origin text len a b c d is p q r s =
    let ab : b ≡ sum_of 0 ((name_bytes ++ version_bytes) ++ four (length text)) =
    q ∙ ap (λ (n : ℕ). sum_of n len) p ∙ sum_of-append 0 (name_bytes ++ version_bytes) len
    ∙ ap (λ (l : List ℕ). sum_of 0 ((name_bytes ++ version_bytes) ++ l)) is in
    let abc : c ≡ sum_of 0 (((name_bytes ++ version_bytes) ++ four (length text)) ++ text) =
    r ∙ ap (λ (n : ℕ). sum_of n text) ab ∙ sum_of-append 0 ((name_bytes ++ version_bytes) ++ four (length text)) text in
    s ∙ ap (λ (n : ℕ). sum_of n (origin ∷ [])) abc ∙ sum_of-append 0 (((name_bytes ++ version_bytes) ++ four (length text)) ++ text) (origin ∷ [])
    ∙ ap (λ (l : List ℕ). sum_of 0 l) (front_parts origin text)

-- the bytes over the parts of it
pub front_put : (origin : ℕ) (o o1 o2 o3 o4 text len : List ℕ) → len ≡ four (length text) → o1 ≡ o ++ (name_bytes ++ version_bytes) → o2 ≡ o1 ++ len
    → o3 ≡ o2 ++ text
    → o4 ≡ o3 ++ (origin ∷ []) → o4 ≡ o ++ front_of origin text
front_put origin o o1 o2 o3 o4 text len is p q r s =
    let l = four (length text) in
    let last : List ℕ = origin ∷ [] in
    s ∙ ap (λ (x : List ℕ). x ++ last)
    (r ∙ ap (λ (x : List ℕ). x ++ text) (q ∙ ap (λ (x : List ℕ). x ++ len) p ∙ ap (λ (x : List ℕ). (o ++ (name_bytes ++ version_bytes)) ++ x) is))
    ∙ ap (λ (x : List ℕ). x ++ last)
    (ap (λ (x : List ℕ). x ++ text) (append_assoc o (name_bytes ++ version_bytes) l) ∙ append_assoc o ((name_bytes ++ version_bytes) ++ l) text)
    ∙ append_assoc o (((name_bytes ++ version_bytes) ++ l) ++ text) last ∙ ap (λ (x : List ℕ). o ++ x) (front_parts origin text)

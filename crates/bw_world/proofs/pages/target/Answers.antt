use Rattle.std.proofs.Common.{◌≡◌, ◌++◌, ℕ, List, codes, ap, ◌∙◌, append_assoc}
use Rattle.bw_world.proofs.pages.target.Goals as goal

in_order : (a n b k c t : List ℕ) → ((((a ++ n) ++ b) ++ k) ++ c) ++ t ≡ a ++ (n ++ (b ++ (k ++ (c ++ t))))
in_order a n b k c t = simp append_assoc

-- the parts of a target, pushed one after another
parts : (s0 s1 s2 s3 s4 s5 n n1 k t t1 : List ℕ) → s0 ≡ codes "/s/" → s1 ≡ s0 ++ n1 → n1 ≡ n → s2 ≡ s1 ++ codes "-" → s3 ≡ s2 ++ k
    → s4 ≡ s3 ++ codes "/" → s5 ≡ s4 ++ t1 → t1 ≡ t → s5 ≡ codes "/s/" ++ (n ++ (codes "-" ++ (k ++ (codes "/" ++ t))))
parts s0 s1 s2 s3 s4 s5 n n1 k t t1 e0 e1 en e2 e3 e4 e5 et =
    e5 ∙ (λ i. e4 i ++ et i) ∙ ap (λ s. (s ++ codes "/") ++ t) (e3 ∙ ap (λ s. s ++ k) (e2 ∙ ap (λ s. s ++ codes "-") (e1 ∙ (λ i. e0 i ++ en i))))
    ∙ in_order (codes "/s/") n (codes "-") k (codes "/") t

pub returns : goal.returns
returns c =
    c.from_string.ensures
    ∙ parts _ _ _ _ _ _ _ _ _ _ _ c.in_ok-text.ensures.ok c.in_ok-push_str.ensures.bytes c.format.ensures.text c.in_ok-push_str-2.ensures.bytes
    c.in_ok-push_digits.ensures c.in_ok-push_str-3.ensures.bytes c.in_ok-push_str-4.ensures.bytes c.format-2.ensures.text

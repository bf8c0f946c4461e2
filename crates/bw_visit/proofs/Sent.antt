-- Messages, piece by piece.
use Rattle.std.proofs.Common.{◌≡◌, ℕ, List, ◌++◌, refl, ap, ◌∙◌, append_assoc}

pub three : (a b c d x y z : List ℕ) → x ≡ a ++ b → y ≡ x ++ c → z ≡ y ++ d → z ≡ a ++ (b ++ (c ++ d))
three a b c d x y z e f g =
    g ∙ ap (λ t. t ++ d) (f ∙ ap (λ t. t ++ c) e) ∙ append_assoc (a ++ b) c d ∙ append_assoc a b (c ++ d)

pub six : (a b c d e f g u v w x y z : List ℕ) → u ≡ a ++ b → v ≡ u ++ c → w ≡ v ++ d → x ≡ w ++ e → y ≡ x ++ f → z ≡ y ++ g
    → z ≡ a ++ (b ++ (c ++ (d ++ (e ++ (f ++ g)))))
six a b c d e f g u v w x y z h i j k l m =
    m ∙ ap (λ t. t ++ g) l ∙ append_assoc x f g ∙ ap (λ t. t ++ (f ++ g)) k ∙ append_assoc w e (f ++ g)
    ∙ ap (λ t. t ++ (e ++ (f ++ g))) j ∙ append_assoc v d (e ++ (f ++ g))
    ∙ three a b c (d ++ (e ++ (f ++ g))) u v (v ++ (d ++ (e ++ (f ++ g)))) h i refl

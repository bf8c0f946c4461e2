-- The first of several.
use Rattle.std.proofs.Common.{◌≡◌, Option, ap, ◌∙◌}
use Rattle.std.specs.Option.{option_or}
use Rattle.bw_lang.proofs.Options.{or_assoc}

pub four : {X : Type 0} (a b c d p q r : Option X) → p ≡ option_or a b → q ≡ option_or p c → r ≡ option_or q d → r ≡ option_or a (option_or b (option_or c d))
four a b c d p q r e f g =
    g ∙ ap (λ o. option_or o d) (f ∙ ap (λ o. option_or o c) e) ∙ or_assoc (option_or a b) c d ∙ or_assoc a b (option_or c d)

-- Writes, and what they leave to be sent.
use Rattle.std.proofs.Common.{ℕ, ◌+◌, ◌-◌, List, ◌++◌, length, take, drop, Option, None, Some, sym, ap, subst, ◌∙◌, append_assoc, take-append-drop, drop-drop}
use Rattle.std.proofs.Common.{length-drop}
use Rattle.std.proofs.Math.Seq.{take-length}
use Rattle.std.specs.Io.KnownBytes.{Appends, Keeps}
use Rattle.bw_door.specs.Flows.{sent_to}

-- what a write took is no longer left
keeps_taken : (a b : Option (List ℕ)) (from n : ℕ) (bs : List ℕ)
    → Appends a b (take n (drop from bs)) → Keeps (sent_to a from bs) (sent_to b (from + n) bs)
keeps_taken None b from n bs h = tt
keeps_taken (Some xs) None from n bs h = h
keeps_taken (Some xs) (Some ys) from n bs h =
    ap (λ l. l ++ drop (from + n) bs) h
    ∙ append_assoc xs (take n (drop from bs)) (drop (from + n) bs)
    ∙ ap (λ l. xs ++ l) (ap (λ l. take n (drop from bs) ++ l) (sym (drop-drop n from bs)) ∙ take-append-drop n (drop from bs))

-- the same of a write of all bytes from a place on
pub keeps_sent : (a b : Option (List ℕ)) (from n : ℕ) (bs : List ℕ)
    → Appends a b (take n (take (length bs - from) (drop from bs))) → Keeps (sent_to a from bs) (sent_to b (from + n) bs)
keeps_sent a b from n bs h =
    keeps_taken a b from n bs (subst (λ l. Appends a b (take n l))
    (ap (λ k. take k (drop from bs)) (sym (length-drop from bs)) ∙ take-length (drop from bs)) h)

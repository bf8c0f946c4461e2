-- The code asks one question after another.
use Rattle.std.proofs.Common.{◌≡◌, ℕ, List, Option, None, Some, IfSome, Result, Ok, Err, subst, inl, inr}
use Rattle.bw_out.specs.Told.{Disk}
use Rattle.bw_questions.specs.Questions.{Question, ◌>>=◌, IsStop, IsAnswer}
use Rattle.bw_questions.specs.declared.stop.Stop.{Stop}
use Rattle.bw_questions.specs.declared.stop.Stop.TheVariants as stop

-- the first of two questions stopped the code
pub stops_first : {A B : Type 0} (q : Question A) (next : A → Question B) (s : Stop) → IsStop q s → IsStop (q >>= next) s
stops_first q next (stop.Says refusal text) h = inl h
stops_first q next stop.ReadFault h = tt
stops_first q next stop.Memory h = tt

then_stop : {A B : Type 0} (q : Question A) (next : A → Question B) (a : A) (s : Stop) → q.gives a → IsStop (next a) s → IsStop (q >>= next) s
then_stop q next a (stop.Says refusal text) g h = inr (a, g, h)
then_stop q next a stop.ReadFault g h = tt
then_stop q next a stop.Memory g h = tt

-- the first question gave a value, and then the next was asked
pub asks_next : {A B C : Type 0} (seen : C → B) (q : Question A) (next : A → Question B) (a : A) (r : Result C Stop) → q.gives a
    → IsAnswer seen (next a) r → IsAnswer seen (q >>= next) r
asks_next seen q next a (Ok b) g h = (a, g, h)
asks_next seen q next a (Err s) g h = then_stop q next a s g h

-- the same where the files tell
pub told_first : {A B : Type 0} (told : Option Disk) (q : Disk → Question A) (next : Disk → A → Question B) (s : Stop)
    → IfSome told (λ disk. IsStop (q disk) s) → IfSome told (λ disk. IsStop (q disk >>= next disk) s)
told_first None q next s h = tt
told_first (Some disk) q next s h = stops_first (q disk) (next disk) s h

pub told_next : {A B C : Type 0} (seen : C → B) (told later : Option Disk) (q : Disk → Question A) (next : Disk → A → Question B) (a : A)
    (r : Result C Stop) → later ≡ told
    → IfSome told (λ disk. (q disk).gives a) → IfSome later (λ disk. IsAnswer seen (next disk a) r)
    → IfSome told (λ disk. IsAnswer seen (q disk >>= next disk) r)
told_next seen None later q next a r same g h = tt
told_next seen (Some disk) later q next a r same g h =
    asks_next seen (q disk) (next disk) a r g (subst (λ o. IfSome o (λ d. IsAnswer seen (next d a) r)) same h)

-- a file is asked for by the text of its name
pub by_name : (told : Option Disk) (P : Disk → List ℕ → Type 0) (name text : List ℕ) → text ≡ name → IfSome told (λ disk. P disk text)
    → IfSome told (λ disk. P disk name)
by_name told P name text e h = subst (λ n. IfSome told (λ disk. P disk n)) e h

-- Reading a text character by character, with a mark at each place of the pattern. A place is marked where it may have
-- taken the character that was read last.
use Rattle.std.specs.Prelude.{ℕ, Bool, true, false, List, [], ◌∷◌, ◌++◌, ◌&&◌, ◌||◌, cond, take, drop, replicate}
use Rattle.std.specs.List.{list_any}
use Rattle.bw_format.specs.declared.light.Light.{Light}
use Rattle.bw_format.specs.declared.light.Light.TheVariants.{Green, Yellow, Red}
use Rattle.bw_format.specs.Classes.{holds}
use Rattle.bw_format.specs.Pattern.{Pattern, nothing, one, sequence, either, star, plus, optional, group, places}

-- whether there is a mark
abbrev pub marked : List Bool → Bool
marked marks = list_any (λ mark. mark) marks

-- whether the pattern may end here, where it may begin here if `enter`, and else stands at its marks
abbrev pub ends : Pattern → Bool → List Bool → Bool
ends nothing enter marks = enter
ends (one class) enter marks = marked marks
ends (sequence p q) enter marks = ends q (ends p enter (take (places p) marks)) (drop (places p) marks)
ends (either p q) enter marks = ends p enter (take (places p) marks) || ends q enter (drop (places p) marks)
ends (star p) enter marks = enter || ends p false marks
ends (plus p) enter marks = ends p enter marks
ends (optional p) enter marks = enter || ends p enter marks
ends (group p) enter marks = ends p enter marks

-- whether it takes the empty text
abbrev pub skips : Pattern → Bool
skips nothing = true
skips (one class) = false
skips (sequence p q) = skips p && skips q
skips (either p q) = skips p || skips q
skips (star p) = true
skips (plus p) = skips p
skips (optional p) = true
skips (group p) = skips p

-- of each repetition, whether its inside may end at its marks, so that it may begin again
abbrev pub ended : Pattern → List Bool → List Bool
ended nothing marks = []
ended (one class) marks = []
ended (sequence p q) marks = ended p (take (places p) marks) ++ ended q (drop (places p) marks)
ended (either p q) marks = ended p (take (places p) marks) ++ ended q (drop (places p) marks)
ended (star p) marks = ends p false marks ∷ ended p marks
ended (plus p) marks = ends p false marks ∷ ended p marks
ended (optional p) marks = ended p marks
ended (group p) marks = ended p marks

-- the marks behind one character more
abbrev pub shifted : Pattern → Bool → ℕ → List Bool → List Bool
shifted nothing enter c marks = []
shifted (one class) enter c marks = (enter && holds class c) ∷ []
shifted (sequence p q) enter c marks =
    shifted p enter c (take (places p) marks)
    ++ shifted q (ends p enter (take (places p) marks)) c (drop (places p) marks)
shifted (either p q) enter c marks = shifted p enter c (take (places p) marks) ++ shifted q enter c (drop (places p) marks)
shifted (star p) enter c marks = shifted p (enter || ends p false marks) c marks
shifted (plus p) enter c marks = shifted p (enter || ends p false marks) c marks
shifted (optional p) enter c marks = shifted p enter c marks
shifted (group p) enter c marks = shifted p enter c marks

-- the light once these characters are read too
abbrev pub light_from : Pattern → Bool → List Bool → List ℕ → Light
light_from p enter marks [] = cond (ends p enter marks) Green (cond (enter || marked marks) Yellow Red)
light_from p enter marks (c ∷ cs) = light_from p false (shifted p enter c marks) cs

-- the light of a text: the pattern may begin in front of it, and no place has taken a character
abbrev pub light : Pattern → List ℕ → Light
light p text = light_from p true (replicate (places p) false) text

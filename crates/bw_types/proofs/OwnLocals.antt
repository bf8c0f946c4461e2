-- The locals of a session in which no test fails have names of their own.
use Rattle.std.proofs.Common.{◌≡◌, ℕ, List, [], ◌∷◌, ◌++◌, append_assoc, append-nil}
use Rattle.std.specs.Prelude.{flat_map}
use Rattle.std.specs.List.{All, Contains}
use Rattle.std.proofs.lemmas.List.Elements.{All-push}
use Rattle.bw_lang.specs.declared.service.Service.{Service}
use Rattle.bw_lang.specs.declared.stmt.Kind.TheVariants.{Bool as Truth, Str, Html, Strs}
use Rattle.bw_lang.specs.Service.Code.{Code, done, declare, assign, if_then, if_else, while_loop, block, for_each, show, exit}
use Rattle.bw_lang.specs.Service.CodeNames.{local_names}
use Rattle.bw_types.specs.ExpressionFaults.{faults_in, kind_of, name_unknown, demand_same, wanted}
use Rattle.bw_types.specs.Faults.{code_faults, local_repeated, local_faults, receive_fault}
use Rattle.bw_types.specs.Scopes.{Scope, is_among, declared_names, variable_kind, with_local, scope_behind, behind_each}
use Rattle.bw_types.proofs.Elements.{passes}
use Rattle.bw_types.proofs.Differing.{Differ, one_more, not_among}
use Rattle.bw_types.proofs.Parts.{nothing_first, nothing_behind}
use Rattle.bw_types.proofs.SoundKinds.{either_false}

-- the names differ, and no declaration has one
pub record Own (s : Service) (names : List (List ℕ)) : Type 0 where
  pub differ : Differ names
  pub apart : All (λ w. ¬ (Contains (declared_names s) w)) names

local_taken : (s : Service) (k : Scope) (w : List ℕ) → local_repeated s k w ≡ [] → Own s k.taken → Own s (k.taken ++ w ∷ [])
local_taken s k w h o =
    let e = either_false (is_among w (declared_names s)) (is_among w k.taken) (passes _ _ h) in
    record {
      differ = one_more k.taken w o.differ e.1;
      apart = All-push (λ w. ¬ (Contains (declared_names s) w)) k.taken w o.apart (not_among w (declared_names s) e.0);
    }

pub locals_own : (s : Service) (k : Scope) (a : Code) → code_faults s k a ≡ [] → Own s k.taken → Own s (k.taken ++ local_names a)
locals_own s k done h o = rw (append-nil k.taken) o
locals_own s k (declare t w e a) h o =
    let l = nothing_first (local_faults s k w t e) _ h in
    rw (← append_assoc k.taken (w ∷ []) (local_names a))
    (locals_own s (with_local k w t) a (nothing_behind (local_faults s k w t e) _ h) (local_taken s k w (nothing_first _ _ l) o))
locals_own s k (assign w e a) h o =
    locals_own s k a (nothing_behind (demand_same (variable_kind s k w) (kind_of s k e)) _
    (nothing_behind (faults_in s k e) _ (nothing_behind (name_unknown w (variable_kind s k w)) _ h))) o
locals_own s k (if_then e y a) h o =
    let b = nothing_behind (wanted s k Truth e) _ h in
    rw (← append_assoc k.taken (local_names y) (local_names a))
    (locals_own s (scope_behind k y) a (nothing_behind (code_faults s k y) _ b) (locals_own s k y (nothing_first _ _ b) o))
locals_own s k (if_else e y n a) h o =
    let b = nothing_behind (wanted s k Truth e) _ h in let c = nothing_behind (code_faults s k y) _ b in
    rw (← append_assoc k.taken (local_names y) (local_names n ++ local_names a), ← append_assoc (k.taken ++ local_names y) (local_names n) (local_names a))
    (locals_own s (scope_behind (scope_behind k y) n) a (nothing_behind (code_faults s (scope_behind k y) n) _ c)
    (locals_own s (scope_behind k y) n (nothing_first _ _ c) (locals_own s k y (nothing_first _ _ b) o)))
locals_own s k (while_loop e y a) h o =
    let b = nothing_behind (wanted s k Truth e) _ h in
    rw (← append_assoc k.taken (local_names y) (local_names a))
    (locals_own s (scope_behind k y) a (nothing_behind (code_faults s k y) _ b) (locals_own s k y (nothing_first _ _ b) o))
locals_own s k (block y a) h o = rw (← append_assoc k.taken (local_names y) (local_names a))
    (locals_own s (scope_behind k y) a (nothing_behind (code_faults s k y) _ h) (locals_own s k y (nothing_first _ _ h) o))
locals_own s k (for_each w e y a) h o =
    let l = nothing_first (local_faults s k w Strs e) _ h in let b = nothing_behind (local_faults s k w Strs e) _ h in
    let inside = locals_own s (with_local k w Str) y (nothing_first _ _ b) (local_taken s k w (nothing_first _ _ l) o) in
    rw (← append_assoc k.taken (w ∷ local_names y) (local_names a))
    (locals_own s (behind_each k w y) a (nothing_behind (code_faults s (with_local k w Str) y) _ b)
    (rw (← append_assoc k.taken (w ∷ []) (local_names y)) inside))
locals_own s k (show p rs a) h o = locals_own s k a (nothing_behind (flat_map (receive_fault s k) rs) _ (nothing_behind (wanted s k Html p) _ h)) o
locals_own s k (exit p a) h o = locals_own s k a (nothing_behind (wanted s k Html p) _ h) o

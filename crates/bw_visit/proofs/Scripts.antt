-- Bytes are one script at most.
use Rattle.std.proofs.Common.{◌≡◌, ◌<◌, ℕ, List, length, sym, ◌∙◌, subst, arith, IsUtf8}
use Rattle.bw_http.proofs.Spellings.{one_cut}
use Rattle.bw_http.specs.Paths.{HasNo, IsCutAt, IsForm}
use Rattle.bw_http.specs.declared.request.Path.TheVariants.{Start}
use Rattle.bw_visit.specs.Scripts.{AreLines, HasNoLines, IsNoScript, ScriptsAreOne}
use Rattle.bw_visit.specs.declared.limits.TheConstants.{MAX_SCRIPT_BYTES}

same_cut : (text name lines other others : List ℕ) → IsCutAt 10 text name lines → IsCutAt 10 text other others → (name ≡ other) × (lines ≡ others)
same_cut text name lines other others a b = one_cut 10 name lines other others a.1 b.1 (sym a.0 ∙ b.0)

pub scripts_are_one : ScriptsAreOne
scripts_are_one bytes name lines other others a b = same_cut bytes name lines other others a.lines_are.first b.lines_are.first

-- ---- why a text has no lines

pub no_first : (text : List ℕ) → HasNo 10 text → HasNoLines text
no_first text none name lines h = none name lines h.first.0

pub no_name : (text first rest : List ℕ) → IsCutAt 10 text first rest → (IsForm (Start first) → ⊥) → HasNoLines text
no_name text first rest cut not name lines h =
    not (subst (λ n. IsForm (Start n)) (same_cut text name lines first rest h.first cut).0 h.name_fits)

pub no_lines : (text first rest : List ℕ) → IsCutAt 10 text first rest → (AreLines rest → ⊥) → HasNoLines text
no_lines text first rest cut not name lines h = not (subst AreLines (same_cut text name lines first rest h.first cut).1 h.ended)

-- ---- from texts to bytes

pub long_is_none : (bytes : List ℕ) → MAX_SCRIPT_BYTES < length bytes → IsNoScript bytes
long_is_none bytes long name lines s = omega (arith, long, s.short)

pub other_is_none : (bytes : List ℕ) → (IsUtf8 bytes → ⊥) → IsNoScript bytes
other_is_none bytes not name lines s = not s.utf8

-- The built-in text reads as the rules of the built-in schema, by computation.
use Rattle.std.proofs.Common.{◌≡◌, ◌≤◌, ◌∙◌, ℕ, true, List, [], ◌∷◌, length, Ok, refl}
use Rattle.std.specs.Prelude.{nat_lt}
use Rattle.std.specs.List.{list_all}
use Rattle.std.specs.Str.{IsAscii, IsUtf8}
use Rattle.std.proofs.lemmas.Bool.{and_parts, ltb-true, leb-true}
use Rattle.std.proofs.lemmas.Str.{IsUtf8-from_ascii}
use Rattle.std.proofs.lemmas.Str.Ascii.{IsAscii-nil, IsAscii-cons}
use Rattle.bw_schema.proofs.SchemaLaws.{one_schema, not_both}
use Rattle.bw_schema.proofs.Schemas.{short_step, read_is}
use Rattle.bw_schema.specs.BuiltIn.{built_in_root, built_in_rules}
use Rattle.bw_schema.specs.Steps.Reading.{read_said, line_with, names_line, rare_line}
use Rattle.bw_schema.specs.Words.{said}
use Rattle.bw_schema.specs.declared.default_schema.TheConstants.{BUILT_IN}
use Rattle.bigwig.specs.Laws.{BuiltInReads, BuiltInIsMeant, BuiltInIsNotRefused}

short : length BUILT_IN.now ≤ 1048576
short = leb-true _ _ refl

ascii : (s : List ℕ) → list_all (λ c. nat_lt c 128) s ≡ true → IsAscii s
ascii [] h = IsAscii-nil
ascii (c ∷ s) h = let k = and_parts (nat_lt c 128) (list_all (λ b. nat_lt b 128) s) h in IsAscii-cons c s (ltb-true c 128 k.0) (ascii s k.1)

utf8 : IsUtf8 BUILT_IN.now
utf8 = IsUtf8-from_ascii BUILT_IN.now (ascii BUILT_IN.now refl)

-- the words of its lines are read
says : read_said (said BUILT_IN.now) ≡ Ok (built_in_root, built_in_rules)
unfolding line_with names_line rare_line
says = refl

pub built_in_reads : BuiltInReads
built_in_reads = read_is BUILT_IN.now built_in_root built_in_rules (short_step BUILT_IN.now short utf8 ∙ says)

pub built_in_is_meant : BuiltInIsMeant
built_in_is_meant disk s r = one_schema BUILT_IN.now s.root built_in_root s.elements built_in_rules r built_in_reads

pub built_in_is_not_refused : BuiltInIsNotRefused
built_in_is_not_refused disk x r = not_both BUILT_IN.now built_in_root built_in_rules r.0 built_in_reads r.2 r.1

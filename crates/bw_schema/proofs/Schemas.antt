-- What is read of a text is what reads as it, and what refuses it.
use Rattle.std.proofs.Common.{◌≡◌, ◌≢◌, ℕ, ◌<◌, Bool, true, false, ◌&&◌, ◌⊎◌, inl, inr, List, [], ◌∷◌, length, Option, Some, None, Result, Ok, Err, refl, ap}
use Rattle.std.proofs.Common.{sym, subst, ◌∙◌}
use Rattle.std.specs.Prelude.{codes, if◌then◌else◌, nat_lt}
use Rattle.std.specs.Str.{IsUtf8, is_utf8}
use Rattle.std.specs.Str.Parse.{digits_value}
use Rattle.std.proofs.lemmas.Bool.{and_parts, false≢true, le-ltb, ltb-false, lt-ltb, ltb-true}
use Rattle.std.proofs.lemmas.Str.{is_utf8-from_IsUtf8, IsUtf8-from_is_utf8}
use Rattle.bw_lang.proofs.SameNames.{same_is}
use Rattle.bw_lang.proofs.Options.{cond_some, none_some}
use Rattle.bw_lang.specs.Table.Names.{same}
use Rattle.bw_schema.proofs.LineLaws.{text_is, text_there, IsBehind}
use Rattle.bw_schema.specs.Forms.{is_number, is_read}
use Rattle.bw_schema.specs.Marks.{repeated, unknown}
use Rattle.bw_schema.specs.Steps.Reading.{judged, judged_repeated, judged_text, judged_unknown, read, read_said, read_version, text_of, version_of, with_root}
use Rattle.bw_schema.specs.Reads.{Reads, IsSchemaRefused, IsText, HasVersion, HasOtherVersion, Repeats, Misses, IsShort}
use Rattle.bw_schema.specs.Words.{said}
use Rattle.bw_schema.specs.declared.fault.SchemaFault.{SchemaFault}
use Rattle.bw_schema.specs.declared.fault.SchemaFault.TheVariants as fault
use Rattle.bw_schema.specs.declared.lines.Line.{Line}
use Rattle.bw_schema.specs.declared.rules.Rule.{Rule}

abbrev pub Answer : Type 0
Answer = Result (List ℕ × List Rule) SchemaFault

-- ---- the first line

record IsFirst (ws : List (List ℕ)) (v : ℕ) : Type 0 where
  number : List ℕ
  is_number : is_number number ≡ true
  value : digits_value 10 number ≡ v
  says : ws ≡ codes "schema" ∷ number ∷ []

version_is : (ws : List (List ℕ)) (v : ℕ) → version_of ws ≡ Some v → IsFirst ws v
version_is [] v h = absurd cc
version_is (key ∷ []) v h = absurd cc
version_is (key ∷ w ∷ []) v h =
    let c = cond_some (same key (codes "schema") && is_number w) (digits_value 10 w) v h in
    let b = and_parts (same key (codes "schema")) (is_number w) c.0 in
    record { number = w; is_number = b.1; value = c.1; says = λ i. same_is key (codes "schema") b.0 i ∷ w ∷ [] }
version_is (key ∷ w ∷ x ∷ ws) v h = absurd cc

version_there : (w : List ℕ) → is_number w ≡ true → version_of (codes "schema" ∷ w ∷ []) ≡ Some (digits_value 10 w)
version_there w h = ap (λ b. if b then Some (digits_value 10 w) else None) h

-- ---- each step of reading, where what it asks is there

pub short_step : (bytes : List ℕ) → IsShort bytes → IsUtf8 bytes → read bytes ≡ read_said (said bytes)
unfolding read
short_step bytes h u =
    ap (λ b. if b then Err fault.TooLong else (if is_utf8 bytes then read_said (said bytes) else Err fault.Malformed)) (le-ltb 1048576 (length bytes) h)
    ∙ ap (λ b. if b then read_said (said bytes) else Err fault.Malformed) (is_utf8-from_IsUtf8 bytes u)

version_step : (bytes : List ℕ) (v : ℕ) → IsShort bytes → (h : HasVersion bytes v) → read bytes ≡ read_version (Some v) h.behind
version_step bytes v short h =
    short_step bytes short h.utf8 ∙ ap read_said h.says
    ∙ ap (λ o. read_version o h.behind) (version_there h.number h.is_number ∙ ap Some h.value)

is_behind : (bytes root : List ℕ) (lines : List Line) (t : IsText bytes root lines) → IsBehind t.version t.has_version.behind root lines
is_behind bytes root lines t = record { spelled = t.behind; root_tag = t.root_tag; formed = t.formed; headed = t.headed }

text_step : (bytes root : List ℕ) (lines : List Line) → IsShort bytes → IsText bytes root lines → read bytes ≡ with_root root (judged root lines)
text_step bytes root lines short t =
    version_step bytes t.version short t.has_version
    ∙ ap (λ b. if b then judged_text (text_of t.version t.has_version.behind) else Err (fault.Version t.version)) t.read
    ∙ ap judged_text (text_there t.version t.has_version.behind root lines (is_behind bytes root lines t))

once_step : (root : List ℕ) (lines : List Line) → repeated lines ≡ None → judged root lines ≡ judged_unknown (unknown root lines) lines
once_step root lines h = ap (λ o. judged_repeated o root lines) h

-- ---- what reads as a schema is read, and what is refused is

pub reads_there : (bytes root : List ℕ) (rules : List Rule) → Reads bytes root rules → read bytes ≡ Ok (root, rules)
reads_there bytes root rules r =
    text_step bytes root r.lines r.short r.text
    ∙ ap (with_root root) (once_step root r.lines r.once ∙ ap (λ o. judged_unknown o r.lines) r.known)
    ∙ ap (λ (rs : List Rule). Ok (root, rs)) (sym r.give)

pub repeats_there : (bytes name : List ℕ) → Repeats bytes name → read bytes ≡ Err (fault.Repeated name)
repeats_there bytes name r =
    text_step bytes r.root r.lines r.short r.text ∙ ap (with_root r.root) (ap (λ o. judged_repeated o r.root r.lines) r.twice)

pub misses_there : (bytes name : List ℕ) → Misses bytes name → read bytes ≡ Err (fault.Unknown name)
misses_there bytes name r =
    text_step bytes r.root r.lines r.short r.text
    ∙ ap (with_root r.root) (once_step r.root r.lines r.once ∙ ap (λ o. judged_unknown o r.lines) r.missing)

pub other_there : (bytes : List ℕ) (v : ℕ) → HasOtherVersion bytes v → read bytes ≡ Err (fault.Version v)
other_there bytes v r =
    version_step bytes v r.short r.has_version
    ∙ ap (λ b. if b then judged_text (text_of v r.has_version.behind) else Err (fault.Version v)) r.other

pub long_there : (bytes : List ℕ) → 1048576 < length bytes → read bytes ≡ Err fault.TooLong
unfolding read
long_there bytes h = ap (λ b. if b then Err fault.TooLong else (if is_utf8 bytes then read_said (said bytes) else Err fault.Malformed))
    (lt-ltb 1048576 (length bytes) h)

-- ---- what is read

-- what an answer says of the bytes
abbrev pub Verdict : List ℕ → Answer → Type 0
Verdict bytes (Ok t) = Reads bytes t.0 t.1
Verdict bytes (Err e) = (e ≢ fault.Memory) × IsSchemaRefused bytes e

not_memory : SchemaFault → Bool
not_memory fault.Memory = false
not_memory fault.Malformed = true
not_memory (fault.Version v) = true
not_memory (fault.Repeated n) = true
not_memory (fault.Unknown n) = true
not_memory fault.TooLong = true

differs : (e : SchemaFault) → not_memory e ≡ true → e ≢ fault.Memory
unfolding not_memory
differs e h m = false≢true (ap not_memory (sym m) ∙ h)

malformed_is : fault.Malformed ≢ fault.Memory
unfolding not_memory
malformed_is = differs fault.Malformed refl

too_long_is : fault.TooLong ≢ fault.Memory
unfolding not_memory
too_long_is = differs fault.TooLong refl

other_is : (v : ℕ) → not_memory (fault.Version v) ≡ true
unfolding not_memory
other_is v = refl

cons_nil : {A : Type 0} {x : A} {xs : List A} → x ∷ xs ≡ [] → ⊥
cons_nil h = absurd cc

rules_verdict : (bytes root : List ℕ) (lines : List Line) → IsShort bytes → IsText bytes root lines → Verdict bytes (with_root root (judged root lines))
unfolding not_memory
rules_verdict bytes root lines short t = first (repeated lines) refl
  where
    second : (o : Option (List ℕ)) → repeated lines ≡ None → unknown root lines ≡ o → Verdict bytes (with_root root (judged_unknown o lines))
    second (Some name) once e =
        (differs (fault.Unknown name) refl, record { short = short; root = root; lines = lines; text = t; once = once; missing = e })
    second None once e = record { lines = lines; short = short; text = t; once = once; known = e; give = refl }

    first : (o : Option (List ℕ)) → repeated lines ≡ o → Verdict bytes (with_root root (judged_repeated o root lines))
    first (Some name) e = (differs (fault.Repeated name) refl, record { short = short; root = root; lines = lines; text = t; twice = e })
    first None e = second (unknown root lines) e refl

-- all that a text says, and its version
record Says (bytes : List ℕ) (ws : List (List ℕ)) (more : List (List (List ℕ))) (v : ℕ) : Type 0 where
  says : said bytes ≡ ws ∷ more
  version : version_of ws ≡ Some v

-- a version of the text is its version, and stands in front of the same
record Agrees (more : List (List (List ℕ))) (v : ℕ) (behind : List (List (List ℕ))) (w : ℕ) : Type 0 where
  version : w ≡ v
  rest : behind ≡ more

agree : (bytes : List ℕ) (ws : List (List ℕ)) (more : List (List (List ℕ))) (v w : ℕ) → Says bytes ws more v → (h : HasVersion bytes w)
    → Agrees more v h.behind w
agree bytes ws more v w s h =
    let e : ws ∷ more ≡ (codes "schema" ∷ h.number ∷ []) ∷ h.behind = sym s.says ∙ h.says in
    let first : ws ≡ codes "schema" ∷ h.number ∷ [] = cc in
    let rest : more ≡ h.behind = cc in
    let o : Some v ≡ Some w = sym s.version ∙ ap version_of first ∙ version_there h.number h.is_number ∙ ap Some h.value in
    let n : v ≡ w = cc in
    record { version = sym n; rest = sym rest }

text_verdict : (bytes : List ℕ) (ws : List (List ℕ)) (more : List (List (List ℕ))) (v : ℕ) → IsShort bytes → IsUtf8 bytes → Says bytes ws more v
    → is_read v ≡ true
    → (o : Option (List ℕ × List Line)) → text_of v more ≡ o → Verdict bytes (judged_text o)
text_verdict bytes ws more v short u s good (Some t) e =
    let f = version_is ws v s.version in
    let b = text_is v more t e in
    let h : HasVersion bytes v = record {
      utf8 = u;
      number = f.number;
      is_number = f.is_number;
      value = f.value;
      behind = more;
      says = s.says ∙ ap (λ (x : List (List ℕ)). x ∷ more) f.says;
    } in
    rules_verdict bytes t.0 t.1 short (record {
      version = v;
      has_version = h;
      read = good;
      behind = b.spelled;
      root_tag = b.root_tag;
      formed = b.formed;
      headed = b.headed;
    })
text_verdict bytes ws more v short u s good None e = (
  malformed_is,
  record {
    short = short;
    version = λ w h. ap is_read (agree bytes ws more v w s h).version ∙ good;
    text = λ root lines t.
        let a = agree bytes ws more v t.version s t.has_version in
        let there : text_of v more ≡ Some (root, lines) =
        sym (λ i. text_of (a.version i) (a.rest i)) ∙ text_there t.version t.has_version.behind root lines (is_behind bytes root lines t) in
        absurd (none_some (root, lines) (sym e ∙ there));
  },
)

no_version : (bytes : List ℕ) → IsShort bytes → ((v : ℕ) → HasVersion bytes v → ⊥) → Verdict bytes (Err fault.Malformed)
no_version bytes short h = (malformed_is, record { short = short; version = λ v k. absurd (h v k); text = λ root lines t. absurd (h t.version t.has_version) })

version_verdict : (bytes : List ℕ) (ws : List (List ℕ)) (more : List (List (List ℕ))) → IsShort bytes → IsUtf8 bytes → said bytes ≡ ws ∷ more
    → (o : Option ℕ) → version_of ws ≡ o → Verdict bytes (read_version o more)
version_verdict bytes ws more short u says None e = no_version bytes short (λ v h.
    let k : ws ∷ more ≡ (codes "schema" ∷ h.number ∷ []) ∷ h.behind = sym says ∙ h.says in
    let first : ws ≡ codes "schema" ∷ h.number ∷ [] = cc in
    none_some (digits_value 10 h.number) (sym e ∙ ap version_of first ∙ version_there h.number h.is_number))
version_verdict bytes ws more short u says (Some v) e = by_test (is_read v) refl
  where
    by_test : (b : Bool) → is_read v ≡ b → Verdict bytes (if b then judged_text (text_of v more) else Err (fault.Version v))
    by_test true good = text_verdict bytes ws more v short u (record { says = says; version = e }) good (text_of v more) refl
    by_test false other =
        let f = version_is ws v e in (
          differs (fault.Version v) (other_is v),
          record {
            short = short;
            has_version = record {
              utf8 = u;
              number = f.number;
              is_number = f.is_number;
              value = f.value;
              behind = more;
              says = says ∙ ap (λ (x : List (List ℕ)). x ∷ more) f.says;
            };
            other = other;
          },
        )

said_verdict : (bytes : List ℕ) → IsShort bytes → IsUtf8 bytes → (all : List (List (List ℕ))) → said bytes ≡ all → Verdict bytes (read_said all)
said_verdict bytes short u [] says = no_version bytes short (λ v h. absurd (cons_nil (sym h.says ∙ says)))
said_verdict bytes short u (ws ∷ more) says = version_verdict bytes ws more short u says (version_of ws) refl

pub decide : (bytes : List ℕ) → Verdict bytes (read bytes)
unfolding read
decide bytes = by_length (nat_lt 1048576 (length bytes)) refl
  where
    by_utf8 : (b : Bool) → IsShort bytes → is_utf8 bytes ≡ b → Verdict bytes (if b then read_said (said bytes) else Err fault.Malformed)
    by_utf8 true short e = said_verdict bytes short (IsUtf8-from_is_utf8 bytes e) (said bytes) refl
    by_utf8 false short e = no_version bytes short (λ v h. false≢true (sym e ∙ is_utf8-from_IsUtf8 bytes h.utf8))

    by_length : (b : Bool) → nat_lt 1048576 (length bytes) ≡ b
        → Verdict bytes (if b then Err fault.TooLong else (if is_utf8 bytes then read_said (said bytes) else Err fault.Malformed))
    by_length true e = (too_long_is, ltb-true 1048576 (length bytes) e)
    by_length false e = by_utf8 (is_utf8 bytes) (ltb-false 1048576 (length bytes) e) refl

pub read_is : (bytes root : List ℕ) (rules : List Rule) → read bytes ≡ Ok (root, rules) → Reads bytes root rules
read_is bytes root rules h = subst (Verdict bytes) h (decide bytes)

pub refused_is : (bytes : List ℕ) (e : SchemaFault) → read bytes ≡ Err e → IsSchemaRefused bytes e
refused_is bytes e h = let v : Verdict bytes (Err e) = subst (Verdict bytes) h (decide bytes) in v.1

-- what a call answers, want of memory aside
pub says_refused : (bytes : List ℕ) (e : SchemaFault) → (e ≡ fault.Memory) ⊎ (read bytes ≡ Err e) → IsSchemaRefused bytes e
says_refused bytes e (inl m) = subst (IsSchemaRefused bytes) (sym m) tt
says_refused bytes e (inr h) = refused_is bytes e h

pub not_utf8 : (bytes : List ℕ) → IsShort bytes → (IsUtf8 bytes → ⊥) → read bytes ≡ Err fault.Malformed
unfolding read
not_utf8 bytes h u =
    ap (λ b. if b then Err fault.TooLong else (if is_utf8 bytes then read_said (said bytes) else Err fault.Malformed)) (le-ltb 1048576 (length bytes) h)
    ∙ by_test (is_utf8 bytes) refl
  where
    by_test : (b : Bool) → is_utf8 bytes ≡ b → (if b then read_said (said bytes) else Err fault.Malformed) ≡ Err fault.Malformed
    by_test true e = absurd (u (IsUtf8-from_is_utf8 bytes e))
    by_test false e = refl

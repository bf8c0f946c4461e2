-- A text reads as one schema, or is refused for one reason.
use Rattle.std.proofs.Common.{◌≡◌, ◌≢◌, ℕ, ◌⊎◌, inl, inr, Bool, true, false, List, Ok, Err, refl, ap, sym, ◌∙◌, arith}
use Rattle.std.proofs.lemmas.Bool.{false≢true}
use Rattle.bw_schema.specs.Laws.{OneSchema, NotBoth, OneReason, ReadOrRefused}
use Rattle.bw_schema.specs.Steps.Reading.{read}
use Rattle.bw_schema.specs.Reads.{Reads, IsSchemaRefused, IsMalformed}
use Rattle.bw_schema.specs.declared.fault.SchemaFault.{SchemaFault}
use Rattle.bw_schema.specs.declared.fault.SchemaFault.TheVariants as fault
use Rattle.bw_schema.specs.declared.rules.Rule.{Rule}
use Rattle.bw_schema.proofs.Schemas.{Answer, reads_there, repeats_there, misses_there, other_there, long_there, Verdict, decide}

malformed_there : (bytes : List ℕ) → IsMalformed bytes → (r : Answer) → Verdict bytes r → r ≡ Err fault.Malformed
malformed_there bytes m (Ok t) v = absurd (m.text t.0 v.lines v.text)
malformed_there bytes m (Err fault.Malformed) v = refl
malformed_there bytes m (Err (fault.Version w)) v = absurd (false≢true (sym v.1.other ∙ m.version w v.1.has_version))
malformed_there bytes m (Err (fault.Repeated n)) v = absurd (m.text v.1.root v.1.lines v.1.text)
malformed_there bytes m (Err (fault.Unknown n)) v = absurd (m.text v.1.root v.1.lines v.1.text)
malformed_there bytes m (Err fault.TooLong) v = absurd (omega (arith, m.short, v.1))
malformed_there bytes m (Err fault.Memory) v = absurd (v.0 refl)

refused_there : (bytes : List ℕ) (e : SchemaFault) → e ≢ fault.Memory → IsSchemaRefused bytes e → read bytes ≡ Err e
refused_there bytes fault.Malformed n h = malformed_there bytes h (read bytes) (decide bytes)
refused_there bytes (fault.Version v) n h = other_there bytes v h
refused_there bytes (fault.Repeated name) n h = repeats_there bytes name h
refused_there bytes (fault.Unknown name) n h = misses_there bytes name h
refused_there bytes fault.TooLong n h = long_there bytes h
refused_there bytes fault.Memory n h = absurd (n refl)

pub one_schema : OneSchema
one_schema bytes r s q t h k =
    let e : Ok (r, q) ≡ Ok (s, t) = sym (reads_there bytes r q h) ∙ reads_there bytes s t k in
    let p : (r, q) ≡ (s, t) = cc in
    (ap (λ (x : List ℕ × List Rule). x.0) p, ap (λ (x : List ℕ × List Rule). x.1) p)

is_ok : Answer → Bool
is_ok (Ok t) = true
is_ok (Err e) = false

pub not_both : NotBoth
unfolding is_ok
not_both bytes r q e h n k = false≢true (sym (ap is_ok (sym (reads_there bytes r q h) ∙ refused_there bytes e n k)))

pub one_reason : OneReason
one_reason bytes d e m n h k = let c : Err d ≡ Err e = sym (refused_there bytes d m h) ∙ refused_there bytes e n k in cc

read_or_refused_of : (bytes : List ℕ) (r : Answer) → Verdict bytes r → ((root : List ℕ) × (rules : List Rule) × Reads bytes root rules)
    ⊎ ((e : SchemaFault) × (e ≢ fault.Memory) × IsSchemaRefused bytes e)
read_or_refused_of bytes (Ok t) v = inl (t.0, t.1, v)
read_or_refused_of bytes (Err e) v = inr (e, v.0, v.1)

pub read_or_refused : ReadOrRefused
read_or_refused bytes = read_or_refused_of bytes (read bytes) (decide bytes)

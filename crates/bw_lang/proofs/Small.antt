-- A service that some bytes read as is woven from its declarations, and is small.
use Rattle.std.proofs.Common.{◌≡◌, ℕ, ◌≤◌, Bool, true, false, cond, List, [], ◌∷◌, length, map, Option, Some, None, refl, ap, sym, subst, ◌∙◌, arith}
use Rattle.std.specs.Prelude.{nat_lt, option_map, find, flat_map}
use Rattle.std.specs.Coded.{le_prop, coded_list}
use base.Stored.{Coded-set}
use Rattle.std.specs.List.{All}
use Rattle.std.specs.Option.{option_or}
use Rattle.std.proofs.lemmas.Bool.Decides.{nat_tests}
use Rattle.std.proofs.lemmas.List.Elements.{All-cons, All-nil, All-head, All-tail}
use Rattle.std.proofs.Math.Logic.{∥∥₁_elim}
use Rattle.bw_lang.specs.contracts.service.Session as session
use Rattle.bw_lang.specs.contracts.service.Shared as shared
use Rattle.bw_lang.specs.contracts.service.Template as template
use Rattle.bw_lang.specs.declared.limits.Leaf.TheVariants as leaves
use Rattle.bw_lang.specs.declared.limits.Limit.{Limit}
use Rattle.bw_lang.specs.declared.limits.Limit.TheVariants as limits
use Rattle.bw_lang.specs.declared.declaration.Declaration.{Declaration}
use Rattle.bw_lang.specs.declared.service.Service.{Service}
use Rattle.bw_lang.specs.declared.service.Session.{Session}
use Rattle.bw_lang.specs.Text.Brackets.{passed}
use Rattle.bw_lang.specs.Service.CodeNames.{local_names}
use Rattle.bw_lang.specs.Service.Limits.{all_lengths, declared_fields, different, too_many}
use Rattle.bw_lang.specs.Document.Measures.{constant_weight}
use Rattle.bw_lang.specs.Service.Order.{declarations_of, IsWoven}
use Rattle.bw_lang.specs.Service.Readable.{IsSmall, ReadableIsWoven, ReadableIsSmall}
use Rattle.bw_lang.specs.Service.Reads.{Reads}
use Rattle.bw_lang.specs.Service.Sorted.{templates_of, shared_of, sessions_of}
use Rattle.bw_lang.proofs.Declarations.{weaves_back}

-- ---- limits that aren't passed

pub neither : {A : Type 0} (o p : Option A) → option_or o p ≡ None → (o ≡ None) × (p ≡ None)
neither None p h = (refl, h)
neither (Some x) p h = absurd (cc)

-- no number is over the limit
pub none_over : (limit : Limit) (most : ℕ) (ns : List ℕ) → passed limit most ns ≡ None → All (λ n. n ≤ most) ns
none_over limit most [] h = All-nil (λ n. n ≤ most)
none_over limit most (n ∷ ns) h = by_test (nat_lt most n) refl h (none_over limit most ns)
  where
    by_test : (b : Bool) → nat_lt most n ≡ b → option_map {U = Limit × ℕ} (λ (n : ℕ). (limit, n)) (cond b (Some n) (find (nat_lt most) ns)) ≡ None
        → (passed limit most ns ≡ None → All (λ m. m ≤ most) ns) → All (λ m. m ≤ most) (n ∷ ns)
    by_test true e h ih = absurd (cc)
    by_test false e h ih = All-cons (λ m. m ≤ most) n ns (grind (arith, nat_tests)) (ih h)

-- what holds of what is made of each element holds of each
pub of_each : {X Y : Type 0} (P : Y → Type 0) (f : X → Y) (xs : List X) → All P (map f xs) → All (λ x. P (f x)) xs
of_each P f [] a = All-nil (λ x. P (f x))
of_each P f (x ∷ xs) a = All-cons (λ x. P (f x)) x xs (All-head P (f x) (map f xs) a) (of_each P f xs (All-tail P (f x) (map f xs) a))

pub one_within : (limit : Limit) (most n : ℕ) → passed limit most (n ∷ []) ≡ None → n ≤ most
one_within limit most n h = none_over limit most (n ∷ []) h 0 0 (omega arith)

-- no limit is passed
pub record Within (name : List ℕ) (table : List (List ℕ)) (ds : List Declaration) : Type 0 where
  pub templates : length (templates_of ds) ≤ 256
  pub sessions : length (sessions_of ds) ≤ 64
  pub shared : length (shared_of ds) ≤ 64
  pub gaps : length table ≤ 128
  pub fields : different (flat_map declared_fields ds) ≤ 128
  pub locals : All (λ n. n ≤ 64) (map (λ s. length (local_names s.body)) (sessions_of ds))
  pub names : All (λ n. n ≤ 64) (all_lengths leaves.Name name table ds)
  pub strings : All (λ n. n ≤ 16384) (all_lengths leaves.Text name table ds)
  pub weights : All (λ n. n ≤ 262144) (map (λ t. constant_weight t.items) (templates_of ds))

pub all_within : (name : List ℕ) (gaps : List (List ℕ)) (ds : List Declaration) → too_many name gaps ds ≡ None → Within name gaps ds
all_within name gaps ds h =
    let a = neither (passed limits.Templates 256 (length (templates_of ds) ∷ [])) _ h in
    let b = neither (passed limits.Sessions 64 (length (sessions_of ds) ∷ [])) _ a.1 in
    let c = neither (passed limits.Shared 64 (length (shared_of ds) ∷ [])) _ b.1 in
    let d = neither (passed limits.Gaps 128 (length gaps ∷ [])) _ c.1 in
    let e = neither (passed limits.Fields 128 (different (flat_map declared_fields ds) ∷ [])) _ d.1 in
    let f = neither (passed limits.Locals 64 (map (λ s. length (local_names s.body)) (sessions_of ds))) _ e.1 in
    let g = neither (passed limits.NameBytes 64 (all_lengths leaves.Name name gaps ds)) _ f.1 in
    let i = neither (passed limits.StringBytes 16384 (all_lengths leaves.Text name gaps ds)) _ g.1 in
    record {
      templates = one_within limits.Templates 256 (length (templates_of ds)) a.0;
      sessions = one_within limits.Sessions 64 (length (sessions_of ds)) b.0;
      shared = one_within limits.Shared 64 (length (shared_of ds)) c.0;
      gaps = one_within limits.Gaps 128 (length gaps) d.0;
      fields = one_within limits.Fields 128 (different (flat_map declared_fields ds)) e.0;
      locals = none_over limits.Locals 64 (map (λ s. length (local_names s.body)) (sessions_of ds)) f.0;
      names = none_over limits.NameBytes 64 (all_lengths leaves.Name name gaps ds) g.0;
      strings = none_over limits.StringBytes 16384 (all_lengths leaves.Text name gaps ds) i.0;
      weights = none_over limits.Weight 262144 (map (λ t. constant_weight t.items) (templates_of ds)) i.1;
    }

-- ---- services

-- the declarations of a service that was read, in its order
pub declarations_are : (bytes : List ℕ) (s : Service) (r : Reads bytes s) → declarations_of s ≡ r.declarations
declarations_are bytes s r = ap declarations_of r.whole ∙ weaves_back r.declarations

woven_read : (bytes : List ℕ) (s : Service) → Reads bytes s → IsWoven s
woven_read bytes s r =
    let ds = declarations_are bytes s r in
    record {
      templates = ap templates_of ds ∙ sym (ap (λ (t : Service). t.templates) r.whole);
      shared = ap shared_of ds ∙ sym (ap (λ (t : Service). t.shared) r.whole);
      sessions = ap sessions_of ds ∙ sym (ap (λ (t : Service). t.sessions) r.whole);
    }

small_read : (bytes : List ℕ) (s : Service) → Reads bytes s → IsSmall s
small_read bytes s r =
    let w = all_within s.name s.gaps r.declarations r.within in
    let sessions = ap (λ (t : Service). t.sessions) r.whole in
    record {
      templates = omega (arith, ap (λ (t : Service). length t.templates) r.whole, w.templates);
      sessions = omega (arith, ap (λ (t : Service). length t.sessions) r.whole, w.sessions);
      shared = omega (arith, ap (λ (t : Service). length t.shared) r.whole, w.shared);
      gaps = w.gaps;
      fields = omega (arith, ap (λ ds. different (flat_map declared_fields ds)) (declarations_are bytes s r), w.fields);
      locals =
          subst (All (λ (x : Session). length (local_names x.body) ≤ 64)) (sym sessions)
          (of_each (λ n. n ≤ 64) (λ (x : Session). length (local_names x.body)) (sessions_of r.declarations) w.locals);
    }

pub readable_is_woven : ReadableIsWoven
readable_is_woven s h = record {
  templates = ∥∥₁_elim h (Coded-set (coded_list template.the_row.coded) _ _) (λ r. (woven_read r.0 s r.1).templates);
  shared = ∥∥₁_elim h (Coded-set (coded_list shared.the_row.coded) _ _) (λ r. (woven_read r.0 s r.1).shared);
  sessions = ∥∥₁_elim h (Coded-set (coded_list session.the_row.coded) _ _) (λ r. (woven_read r.0 s r.1).sessions);
}

pub readable_is_small : ReadableIsSmall
readable_is_small s h = record {
  templates = ∥∥₁_elim h le_prop (λ r. (small_read r.0 s r.1).templates);
  sessions = ∥∥₁_elim h le_prop (λ r. (small_read r.0 s r.1).sessions);
  shared = ∥∥₁_elim h le_prop (λ r. (small_read r.0 s r.1).shared);
  gaps = ∥∥₁_elim h le_prop (λ r. (small_read r.0 s r.1).gaps);
  fields = ∥∥₁_elim h le_prop (λ r. (small_read r.0 s r.1).fields);
  locals = λ i d l. ∥∥₁_elim h le_prop (λ r. (small_read r.0 s r.1).locals i d l);
}

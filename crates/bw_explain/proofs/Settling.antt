-- What is settled stays, and is the least.
use Rattle.std.proofs.Common.{◌≡◌, ◌≢◌, ◌⊎◌, inl, inr, ℕ, ◌+◌, ◌<◌, ◌≤◌, Bool, true, false, List, length, set, get_or, replicate, nat_lt, if◌then◌else◌}
use Rattle.std.proofs.Common.{ap, sym, ◌∙◌, subst, arith}
use Rattle.std.proofs.lemmas.List.{get_or_past, get_or-set_same, get_or-set_other, get_or-replicate, length-replicate}
use Rattle.std.proofs.lemmas.List.Sums.{sum_by-set}
use Rattle.std.proofs.lemmas.Bool.{false≢true}
use Rattle.std.proofs.lemmas.Bool.Decides.{nat_tests}
use Rattle.bw_explain.specs.declared.sizes.TheConstants.{MAX_SIZE, PAST, NONE}
use Rattle.bw_explain.specs.declared.next.Next.{Next}
use Rattle.std.specs.List.{sum_by}
use Rattle.bw_lang.specs.Document.Forest.{Forest, none}
use Rattle.bw_shape.proofs.Rows.Steps.{equal_or}
use Rattle.bw_explain.specs.Sizes.{size, capped, IsLeast}
use Rattle.bw_explain.specs.Tables.{Table, size_at, doc_at, Settled, Solved, IsNext, Bounds, Settles}

below_or : (m n : ℕ) → (m < n) ⊎ (n ≤ m)
below_or m n = grind arith

small_or : (k : ℕ) → (k ≤ PAST) ⊎ (PAST < k)
small_or k = grind arith

last : (m k : ℕ) → m < k + 1 → (m < k) ⊎ (m ≡ k)
last m k h = grind arith

pub is_above : (k v : ℕ) → PAST < k → (if nat_lt PAST k then v else NONE) ≡ v
is_above k v h = ap (λ b. if b then v else NONE) (test k h)
  where
    test : (k : ℕ) → PAST < k → nat_lt PAST k ≡ true
    test k h = grind (arith, nat_tests)

pub next_none : (known value : ℕ → ℕ) (at : ℕ) (least : ℕ) → least ≡ NONE → IsNext 0 known value at least
next_none known value at least e = record { low = λ m h. absurd (omega (arith, h)); here = λ h. absurd (omega (arith, h, e)); most = omega (arith, e) }

-- one template more: size is its least size, or NONE where it is settled
pub next_more : (k : ℕ) (known value : ℕ → ℕ) (at least size at2 least2 : ℕ) → IsNext k known value at least
    → size ≡ (if nat_lt PAST (known k) then value k else NONE) → size ≤ NONE
    → ((size < least) × (at2 ≡ k) × (least2 ≡ size)) ⊎ ((least ≤ size) × (at2 ≡ at) × (least2 ≡ least)) → IsNext (k + 1) known value at2 least2
next_more k known value at least size at2 least2 h e most (inl n) = record {
  low = λ m l. elim (last m k l) [
    | inl b ↦ elim (h.low m b) [ inl s ↦ inl s | inr v ↦ let a = n.0 in let b = n.2 in inr (omega (arith, v, a, b)) ]
    | inr is ↦ subst (λ j. (known j ≤ PAST) ⊎ (least2 ≤ value j)) (sym is)
        (elim (small_or (known k)) [
          | inl s ↦ inl s
          | inr b ↦ let f = e
              ∙ ap (λ t. if t then value k else NONE) (test (known k) b) in let g = n.2 in inr (omega (arith, f, g))
        ])
  ];
  here = λ l. elim (small_or (known k)) [
    | inl s ↦ let f = e ∙ ap (λ t. if t then value k else NONE) (test_not (known k) s) in let g = n.2 in absurd (omega (arith, f, g, l))
    | inr b ↦ let a = n.1 in (
      omega (arith, a),
      subst (λ j. PAST < known j) (sym n.1) b,
      n.2 ∙ e ∙ ap (λ t. if t then value k else NONE) (test (known k) b)
          ∙ ap value (sym n.1),
    )
  ];
  most = let a = n.2 in omega (arith, a, most);
}
  where
    test : (k : ℕ) → PAST < k → nat_lt PAST k ≡ true
    test k h = grind (arith, nat_tests)

    test_not : (k : ℕ) → k ≤ PAST → nat_lt PAST k ≡ false
    test_not k h = grind (arith, nat_tests)
next_more k known value at least size at2 least2 h e most (inr n) = record {
  low = λ m l. elim (last m k l) [
    | inl b ↦ elim (h.low m b) [ inl s ↦ inl s | inr v ↦ let b = n.2 in inr (omega (arith, v, b)) ]
    | inr is ↦ subst (λ j. (known j ≤ PAST) ⊎ (least2 ≤ value j)) (sym is)
        (elim (small_or (known k)) [
          | inl s ↦ inl s
          | inr b ↦ let f = e
              ∙ ap (λ t. if t then value k else NONE) (test (known k) b) in let g = n.2 in let a = n.0 in inr (omega (arith, f, g, a))
        ])
  ];
  here = λ l. let r = h.here (let g = n.2 in omega (arith, g, l)) in let a = n.1 in let b = r.0 in
      (omega (arith, a, b), subst (λ j. PAST < known j) (sym n.1) r.1, n.2 ∙ r.2 ∙ ap value (sym n.1));
  most = let a = n.2 in let b = h.most in omega (arith, a, b);
}
  where
    test : (k : ℕ) → PAST < k → nat_lt PAST k ≡ true
    test k h = grind (arith, nat_tests)

-- the sizes fall
pub sizes_fall : (sizes : List ℕ) (n s d : ℕ) → n < length sizes → s < get_or sizes n d → sum_by (λ k. k) (set sizes n s) < sum_by (λ k. k) sizes
sizes_fall sizes n s d l h = let k = sum_by-set (λ k. k) sizes n s d l in omega (arith, k, h)

pub replaced : {X : Type 0} (xs : List X) (n m : ℕ) (x d : X) → n < length xs → ((m ≡ n) × (get_or (set xs n x) m d ≡ x))
    ⊎ ((m ≢ n) × (get_or (set xs n x) m d ≡ get_or xs m d))
replaced xs n m x d l = elim (equal_or m n) [
  | inl e ↦ inl (e, ap (λ j. get_or (set xs n x) j d) e ∙ get_or-set_same xs n x d l)
  | inr e ↦ inr (e, get_or-set_other xs n m x d e)
]

both_at : (Has : Forest → Type 0) (d e : Forest) (k v : ℕ) → d ≡ e → k ≡ v → Has e × (size e ≤ v) → Has d × (size d ≤ k)
both_at Has d e k v f g h = (subst Has (sym f) h.0, let s = ap size f in let a = h.1 in omega (arith, s, a, g))

start_size : (count past n : ℕ) → ((n < count) × (get_or (replicate count NONE) n past ≡ NONE)) ⊎ ((count ≤ n) × (get_or (replicate count NONE) n past ≡ past))
start_size count past n = elim (below_or n count) [
  | inl l ↦ inl (l, get_or-replicate count n NONE past l)
  | inr o ↦ inr (o, get_or_past (replicate count NONE) n past (let e = length-replicate {A = ℕ} count NONE in omega (arith, e, o)))
]

start_doc : (count n : ℕ) → get_or (replicate count none) n none ≡ none
start_doc count n = elim (below_or n count) [
  | inl l ↦ get_or-replicate count n none none l
  | inr o ↦ get_or_past (replicate count none) n none (let e = length-replicate count none in omega (arith, e, o))
]

pub chosen_next : (n r : Next) (k s : ℕ) → r ≡ (if nat_lt s n.size then record { at = k; size = s } else n) → ((s < n.size) × (r.at ≡ k) × (r.size ≡ s))
    ⊎ ((n.size ≤ s) × (r.at ≡ n.at) × (r.size ≡ n.size))
chosen_next n r k s e = by (nat_lt s n.size) (tested s n.size) e
  where
    tested : (s m : ℕ) → ((nat_lt s m ≡ true) × (s < m)) ⊎ ((nat_lt s m ≡ false) × (m ≤ s))
    tested s m = grind (arith, nat_tests)

    by : (b : Bool) → ((b ≡ true) × (s < n.size)) ⊎ ((b ≡ false) × (n.size ≤ s)) → r ≡ (if b then record { at = k; size = s } else n)
        → ((s < n.size) × (r.at ≡ k) × (r.size ≡ s)) ⊎ ((n.size ≤ s) × (r.at ≡ n.at) × (r.size ≡ n.size))
    by true (inl h) e = inl (h.1, ap (λ x. x.at) e, ap (λ x. x.size) e)
    by true (inr h) e = absurd (false≢true (sym h.0))
    by false (inl h) e = absurd (false≢true h.0)
    by false (inr h) e = inr (h.1, ap (λ x. x.at) e, ap (λ x. x.size) e)

module _ (Has : ℕ → Forest → Type 0) (value : (ℕ → ℕ) → ℕ → ℕ) (count past : ℕ) (laws : Settles count past Has value) where
  bounds : (t : Table) (at b : ℕ) → length t.sizes ≡ count → t.past ≡ past → Settled Has t → IsNext count (size_at t) (value (size_at t)) at b
      → Bounds Has (size_at t) (value (size_at t)) b
  bounds t at b long p s n m = elim (small_or (size_at t m)) [
    | inl l ↦ inl (s.least m l).low
    | inr h ↦ elim (below_or m count) [
      | inl i ↦ elim (n.low m i) [ inl l ↦ inl (s.least m l).low | inr v ↦ inr v ]
      | inr o ↦ elim (laws.outside (size_at t) m o) [
        | inl l ↦ let e = get_or_past t.sizes m t.past (let f = long in omega (arith, f, o)) ∙ p in absurd (omega (arith, e, l, h))
        | inr v ↦ let k = n.most in inr (omega (arith, v, k))
      ]
    ]
  ]

  pub start : (t : Table) → t ≡ record { past = past; sizes = replicate count NONE; docs = replicate count none } → Settled Has t
  start t e = subst (Settled Has) (sym e) fresh
    where
      fresh : Settled Has (record { past = past; sizes = replicate count NONE; docs = replicate count none })
      fresh = record {
        least = λ n l. elim (start_size count past n) [
          | inl r ↦ absurd (let a = r.1 in omega (arith, a, l))
          | inr r ↦ subst (IsLeast (Has n)) (sym r.1) (laws.outside_least n r.0 (subst (λ k. k ≤ PAST) r.1 l)).0
        ];
        doc = λ n l. elim (start_size count past n) [
          | inl r ↦ absurd (let a = r.1 in omega (arith, a, l))
          | inr r ↦ let small : past ≤ PAST = (let a = r.1 in omega (arith, a, l)) in
              both_at (Has n) (get_or (replicate count none) n none) none (get_or (replicate count NONE) n past) past (start_doc count n) r.1
              ((laws.outside_least n r.0 small).1 (let a = r.1 in omega (arith, a, l)))
        ];
      }

  next_least : (t : Table) (at b : ℕ) → length t.sizes ≡ count → t.past ≡ past → Settled Has t → IsNext count (size_at t) (value (size_at t)) at b → b
      ≤ PAST → IsLeast (Has at) b
  next_least t at b long p s n small =
      let here = n.here small in
      record {
        low = λ d h. let k = laws.low (size_at t) b (bounds t at b long p s n) at d h in let e = here.2 in omega (arith, k, e);
        high = λ l. let r = laws.high (size_at t) (λ m i. (s.least m i).high i) at (let e = here.2 in omega (arith, e, l)) in
            (r.0, r.1, let k = r.2 in let e = here.2 in omega (arith, k, e));
      }

  pub put : (t new : Table) (at b : ℕ) (doc : Forest) → length t.sizes ≡ count → length t.docs ≡ length t.sizes → t.past ≡ past → Settled Has t
      → IsNext count (size_at t) (value (size_at t)) at b → b < NONE → (b ≤ MAX_SIZE → Has at doc × (size doc ≤ b))
      → new ≡ record { past = t.past; sizes = set t.sizes at b; docs = set t.docs at doc } → Settled Has new
  put t new at b doc long docs p s n l made e =
      let small : b ≤ PAST = omega (arith, l) in
      let here = n.here small in
      let in_sizes : at < length t.sizes = let k = here.0 in omega (arith, k, long) in
      let in_docs : at < length t.docs = let k = here.0 in omega (arith, k, docs, long) in
      subst (Settled Has) (sym e) (record {
        least = λ m l. elim (replaced t.sizes at m b t.past in_sizes) [
          | inl r ↦ subst (λ k. IsLeast (Has m) k) (sym r.1) (subst (λ j. IsLeast (Has j) b) (sym r.0) (next_least t at b long p s n small))
          | inr r ↦ subst (λ k. IsLeast (Has m) k) (sym r.1) (s.least m (subst (λ k. k ≤ PAST) r.1 l))
        ];
        doc = λ m l. elim (replaced t.sizes at m b t.past in_sizes) [
          | inl r ↦ both_at (Has m) (get_or (set t.docs at doc) m none) doc (get_or (set t.sizes at b) m t.past) b
              (ap (λ j. get_or (set t.docs at doc) j none) r.0 ∙ get_or-set_same t.docs at doc none in_docs) r.1
              (let k = made (let e = r.1 in omega (arith, e, l)) in (subst (λ j. Has j doc) (sym r.0) k.0, k.1))
          | inr r ↦ both_at (Has m) (get_or (set t.docs at doc) m none) (doc_at t m) (get_or (set t.sizes at b) m t.past) (size_at t m)
              (get_or-set_other t.docs at m doc none r.0) r.1 (s.doc m (subst (λ k. k ≤ MAX_SIZE) r.1 l))
        ];
      })

  pub all : (t : Table) (at b : ℕ) → length t.sizes ≡ count → t.past ≡ past → Settled Has t → IsNext count (size_at t) (value (size_at t)) at b
      → NONE ≤ b → Solved Has t
  all t at b long p s n big = record {
    least = λ m. elim (small_or (size_at t m)) [
      | inl l ↦ s.least m l
      | inr h ↦ record { low = λ d k. low m d k; high = λ l. absurd (omega (arith, h, l)) }
    ];
    doc = s.doc;
  }
    where
      low : (m : ℕ) (d : Forest) → Has m d → size_at t m ≤ capped (size d)
      low m d k = elim (bounds t at b long p s n m) [
        | inl l ↦ l d k
        | inr v ↦ let r = laws.low (size_at t) b (bounds t at b long p s n) m d k in absurd (omega (arith, v, r, big))
      ]

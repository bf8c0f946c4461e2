-- What the first test that fails is about.
use Rattle.std.proofs.Common.{◌≡◌, ℕ, ◌+◌, List, [], ◌∷◌, ◌++◌, refl, ap, sym, ◌∙◌, inl, inr, subst, Result, Ok, Err, Option, Some, None, append_assoc}
use Rattle.std.proofs.Common.{append-nil, length, get_or, drop, ◌<◌}
use Rattle.std.proofs.lemmas.List.{at_drop_more}
use Rattle.bw_lang.specs.declared.expr.Pair.{Pair}
use Rattle.bw_lang.specs.declared.service.Service.{Service}
use Rattle.std.specs.Result.{IsErrAnd, IfErr}
use Rattle.bw_lang.specs.declared.stmt.Kind.{Kind}
use Rattle.bw_lang.specs.Service.Term.{Term, filling, no_more}
use Rattle.bw_types.specs.declared.fault.GapKind.{GapKind}
use Rattle.bw_types.specs.ExpressionFaults.{kind_of, gap_demand}
use Rattle.bw_types.specs.Gaps.{kind_of_gap}
use Rattle.bw_lang.specs.Service.TermView.{term, fillings}
use Rattle.bw_places.specs.Counts.{term_tokens}
use Rattle.bw_types.specs.declared.fault.TypeFault.{TypeFault}
use Rattle.bw_types.specs.declared.fault.TypeFault.TheVariants as faults
use Rattle.bw_types.specs.Faults.{first_member}
use Rattle.bw_types.specs.First.{IsFirst as IsFirstFault}
use Rattle.bw_types.specs.Scopes.{Scope}
use Rattle.bw_blame.specs.Blames.{Blame, about, first_site, IsFirst, missed_at, these, blames_in, blames_in_pairs}
use Rattle.bw_blame.specs.declared.site.Site.TheVariants.{Tokens}
use Rattle.bw_blame.specs.declared.site.Missed.{Missed}
use Rattle.bw_blame.specs.declared.site.Missed.TheVariants.{At, Memory}
use Rattle.bw_blame.specs.declared.site.Site.{Site}

pub first_in : (a b : List Blame) (s : Site) → first_site a ≡ Some s → first_site (a ++ b) ≡ Some s
first_in [] b s h = absurd (cc)
first_in (x ∷ a) b s h = h

pub first_behind : (a b : List Blame) (s : Site) → a ≡ [] → first_site b ≡ Some s → first_site (a ++ b) ≡ Some s
first_behind a b s e h = ap (λ l. first_site (l ++ b)) e ∙ h

pub none_of_both : (a b : List Blame) → a ≡ [] → b ≡ [] → a ++ b ≡ []
none_of_both a b e f = ap (λ l. l ++ b) e ∙ f

pub about_first : (d : ℕ) (s : Site) (fs : List TypeFault) (f : TypeFault) → first_member fs ≡ Some f → first_site (about d s fs) ≡ Some s
about_first d s [] f h = absurd (cc)
about_first d s (x ∷ fs) f h = refl

pub about_none : (d : ℕ) (s : Site) (fs : List TypeFault) → fs ≡ [] → about d s fs ≡ []
about_none d s fs e = ap (about d s) e

-- the same where there may have been no memory
pub either_in : (a b : List Blame) (e : Missed) → IsFirst e a → IsFirst e (a ++ b)
either_in a b (At s) h = first_in a b s h
either_in a b Memory h = tt

pub either_behind : (a b : List Blame) (e : Missed) → a ≡ [] → IsFirst e b → IsFirst e (a ++ b)
either_behind a b (At s) f h = first_behind a b s f h
either_behind a b Memory f h = tt

pub ruleset site_steps = (append-nil, first_in, first_behind, none_of_both, about_first, about_none, either_in, either_behind)

-- the blames of one pair, and of the others
pub pairs_here : (service : Service) (scope : Scope) (d p : ℕ) (xs : List Pair) (i : ℕ) (x : Pair) → x ≡ get_or xs i x → i < length xs
    → blames_in_pairs service scope d p (fillings (drop i xs))
    ≡ blames_in_pairs service scope d p (filling x.gap (term x.value) no_more)
    ++ blames_in_pairs service scope d (p + 3 + term_tokens (term x.value)) (fillings (drop (i + 1) xs))
pairs_here service scope d p xs i x e h = at_drop_more (λ l. blames_in_pairs service scope d p (fillings l)) xs i x h
    ∙ ap (λ (y : Pair). blames_in_pairs service scope d p (fillings (y ∷ drop (i + 1) xs))) (sym e)
    ∙ simp (append_assoc, append-nil)

-- an exit that hands on what a part found
pub exits : {X : Type 0} (r : Result X Site) (s : Site) (bs : List Blame) → IsErrAnd r (λ y. y ≡ s) → first_site bs ≡ Some s
    → IfErr r (λ y. first_site bs ≡ Some y)
exits (Ok x) s bs q h = tt
exits (Err y) s bs q h = h ∙ ap Some (sym q)

pub exits_or : {X : Type 0} (r : Result X Missed) (e : Missed) (bs : List Blame) → IsErrAnd r (λ y. y ≡ e) → IsFirst e bs → IfErr r (λ y. IsFirst y bs)
exits_or (Ok x) e bs q h = tt
exits_or (Err y) e bs q h = subst (λ z. IsFirst z bs) (sym q) h

-- in a pair whose gap is known: in what fills it
pub pair_first : (service : Service) (scope : Scope) (d p : ℕ) (w : List ℕ) (e : Term) (g : GapKind) (s : Site) → kind_of_gap service w ≡ Some g
    → first_site (blames_in service scope d (p + 3) e) ≡ Some s → first_site (blames_in_pairs service scope d p (filling w e no_more)) ≡ Some s
pair_first service scope d p w e g s h f = rw h (first_in (blames_in service scope d (p + 3) e) _ s f)

-- and in its kind
pub pair_kind_first : (service : Service) (scope : Scope) (d p q : ℕ) (w : List ℕ) (e : Term) (g : GapKind) (k : Kind) (s : Site)
    → kind_of_gap service w ≡ Some g → kind_of service scope e ≡ Some k → blames_in service scope d (p + 3) e ≡ [] → q ≡ p + 3 + term_tokens e
    → first_site (about d (Tokens (p + 3) q) (gap_demand (Some g) (Some k))) ≡ Some s
    → first_site (blames_in_pairs service scope d p (filling w e no_more)) ≡ Some s
pair_kind_first service scope d p q w e g k s h i none same f =
    rw h (first_behind (blames_in service scope d (p + 3) e) _ s none (first_in _ [] s there))
  where
    there : first_site (about d (these (p + 3) (term_tokens e)) (gap_demand (Some g) (kind_of service scope e))) ≡ Some s
    there = rw i (subst (λ z. first_site (about d (Tokens (p + 3) z) (gap_demand (Some g) (Some k))) ≡ Some s) same f)

-- the first fault of a site's tests, or want of memory
pub about_either : (d : ℕ) (s : Site) (fs : List TypeFault) (f : TypeFault) → IsFirstFault f fs → IsFirst (missed_at f s) (about d s fs)
about_either d s fs f h = elim h.why [ inl m ↦ rw m tt | inr e ↦ found f e ]
  where
    found : (f : TypeFault) → first_member fs ≡ Some f → IsFirst (missed_at f s) (about d s fs)
    found faults.Memory e = tt
    found (faults.Repeated n) e = about_first d s fs _ e
    found (faults.Unknown n) e = about_first d s fs _ e
    found (faults.Kind a b) e = about_first d s fs _ e
    found (faults.GapKinds n) e = about_first d s fs _ e
    found (faults.FieldKinds n) e = about_first d s fs _ e
    found (faults.BadControl n) e = about_first d s fs _ e
    found (faults.ReservedTag n) e = about_first d s fs _ e
    found (faults.FileInput n) e = about_first d s fs _ e
    found (faults.NoExit n) e = about_first d s fs _ e

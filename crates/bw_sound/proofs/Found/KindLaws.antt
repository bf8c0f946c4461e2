-- Values by their kinds, and what plugs make of them.
use Rattle.std.specs.Prelude.{◌≡◌, ℕ, ◌+◌, ◌<◌, ◌≤◌, ◌^◌, not, List, length, Option, Some, None}
use Rattle.std.proofs.Common.{refl, subst, inl, inr, arith}
use Rattle.std.proofs.lemmas.List.Sums.{prefix_len-le-length}
use Rattle.bw_lang.specs.declared.service.Service.{Service}
use Rattle.bw_lang.specs.declared.stmt.Kind.{Kind}
use Rattle.bw_lang.specs.declared.stmt.Kind.TheVariants as kinds
use Rattle.bw_lang.specs.Table.Names.{name_number, same}
use Rattle.bw_strings.specs.Literals.{literals_of}
use Rattle.bw_sum.specs.Graph.{Graph, graph, IsBelow}
use Rattle.bw_types.specs.declared.fault.GapKind.{GapKind}
use Rattle.bw_types.specs.declared.fault.GapKind.TheVariants.{Content, Attribute}
use Rattle.bw_types.specs.Typing.{Fits as TakesKind}
use Rattle.bw_cover.specs.Abstracts as cover
use Rattle.bw_cover.specs.Kinds.{IsOf, summary_of}
use Rattle.bw_cover.proofs.Rising.{below_refl}
use Rattle.bw_analyse.specs.declared.abstracts.Abstract.{Abstract}
use Rattle.bw_analyse.specs.declared.abstracts.Abstract.TheVariants.{Nothing, Str, Html}
use Rattle.bw_analyse.specs.Abstracts.{plugged_by}
use Rattle.bw_analyse.specs.Facts as own
use Rattle.bw_analyse.specs.Fits.{Fits}
use Rattle.bw_analyse.specs.Lawful.KindLaws.{up_itself, up_fill, up_plug}
use Rattle.bw_analyse.specs.Lawful.StepLaws.{OptionUp}
use Rattle.bw_sound.specs.Found.Seen.{seen, seen_some}

-- ---- kinds

pub is_of : (service : Service) (k : Kind) (a : Abstract) → Fits k a → IsOf k (seen service a)
is_of service kinds.Int Nothing h = tt
is_of service kinds.Bool Nothing h = tt
is_of service kinds.Strs Nothing h = tt
is_of service kinds.Str (Str s) h = tt
is_of service kinds.Html (Html s) h = tt
is_of service k a h = absurd h

pub of_kind : (service : Service) (o : Option Kind) (a : Option Abstract) (kind : Kind) → o ≡ Some kind → OptionUp o a a → IsOf kind (seen_some service a)
of_kind service (Some k) (Some a) kind e h = subst (λ z. IsOf z (seen service a)) (let d : k ≡ kind = cc in d) (is_of service k a h.0)
of_kind service None a kind e h = absurd (cc)
of_kind service (Some k) None kind e h = absurd h

-- ---- pages

-- the summary of a document is what is known of it
pub summary_seen : (service : Service) (a : Abstract) → Fits kinds.Html a → summary_of (seen service a) ≡ graph (literals_of service) (own.summary_of a)
summary_seen service (Html s) h = refl
summary_seen service a h = absurd h

pub same_below : (G H : Graph) → G ≡ H → IsBelow G H
same_below G H e = subst (IsBelow G) e (below_refl (cover.Html G))

-- ---- plugs

few_names : (service : Service) → length service.gaps + 3 ≤ 2 ^ 32 → (w : List ℕ) → name_number service.gaps w < 2 ^ 32
few_names service few w = omega (arith, prefix_len-le-length (λ x. not (same w x)) service.gaps)

-- a document with one gap more filled
pub plug_fits : (service : Service) → length service.gaps + 3 ≤ 2 ^ 32 → (g : GapKind) (k : Kind) (v a : Abstract) (w : List ℕ) → TakesKind g k
    → Fits kinds.Html v → Fits k a → Fits kinds.Html (plugged_by v (name_number service.gaps w) a)
plug_fits service few Content k v a w (inl e) h i =
    (up_fill v v a a (name_number service.gaps w) (few_names service few w) (up_itself kinds.Html v h) (up_itself kinds.Str a (subst (λ z. Fits z a) e i))).0
plug_fits service few Content k v a w (inr e) h i =
    (up_plug v v a a (name_number service.gaps w) (few_names service few w) (up_itself kinds.Html v h) (up_itself kinds.Html a (subst (λ z. Fits z a) e i))).0
plug_fits service few Attribute k v a w e h i =
    (up_fill v v a a (name_number service.gaps w) (few_names service few w) (up_itself kinds.Html v h) (up_itself kinds.Str a (subst (λ z. Fits z a) e i))).0

-- Templates are read one after the other.
use Rattle.std.proofs.Common.{◌≡◌, inl, inr, ℕ, List, [], ◌∷◌, ◌++◌, refl, subst}
use Rattle.bw_lang.specs.declared.declaration.Declaration.{Declaration}
use Rattle.bw_lang.specs.declared.declaration.Draft.{Draft}
use Rattle.bw_lang.specs.declared.declaration.Draft.TheVariants as drafts
use Rattle.bw_lang.specs.declared.pieces.Piece.{Piece}
use Rattle.bw_lang.specs.Service.Drafts.{IsFormed, AreFormed}
use Rattle.bw_lang.specs.Document.Forest.{Forest}
use Rattle.bw_lang.specs.Table.Names.{with_names}
use Rattle.bw_lang.specs.Template.PieceGaps.{gap_names}
use Rattle.bw_lang.specs.Template.Pieces.{SpellsPieces}
use Rattle.bw_lang.specs.Service.Reads.{IsInside, IsRead, AreRead}
use Rattle.bw_lang.specs.Template.Templates.{IsTemplate}
use Rattle.bw_syntax.specs.declared.fault.SyntaxFault.{SyntaxFault}
use Rattle.bw_syntax.specs.declared.fault.SyntaxFault.TheVariants as faults
use Rattle.bw_syntax.specs.Refusals.{IsUnread, IsFirstUnread}

pub inside_read : (before after : List (List ℕ)) (inside : List ℕ) (items : Forest) → IsTemplate after 64 inside items
    → ((ps : List Piece) → SpellsPieces ps inside → after ≡ with_names before (gap_names ps)) → IsInside before inside items after
inside_read before after inside items r names = record { read = r; names = names r.pieces r.spelled }

-- one declaration more
pub one_more : (first middle last : List (List ℕ)) (ds : List Draft) (rs : List Declaration) (d : Draft) (r : Declaration)
    → AreRead first ds rs middle → IsRead middle d r last → AreRead first (ds ++ d ∷ []) (rs ++ r ∷ []) last
one_more first middle last [] [] d r p q = (last, subst (λ g. IsRead g d r last) p q, refl)
one_more first middle last (c ∷ ds) (s ∷ rs) d r p q = (p.0, p.1, one_more p.0 middle last ds rs d r p.2 q)
one_more first middle last ds rs d r p q = absurd p

-- one declaration that is refused
pub one_unread : (first middle : List (List ℕ)) (ds more : List Draft) (rs : List Declaration) (d : Draft) (fault : SyntaxFault)
    → AreRead first ds rs middle → IsUnread d fault → IsFirstUnread first (ds ++ d ∷ more) fault
one_unread first middle [] more [] d fault p q = inl q
one_unread first middle (c ∷ ds) more (s ∷ rs) d fault p q = inr (s, p.0, p.1, one_unread p.0 middle ds more rs d fault p.2 q)
one_unread first middle ds more rs d fault p q = absurd p

pub formed_at : (ds more : List Draft) (d : Draft) → AreFormed (ds ++ d ∷ more) → IsFormed d
formed_at [] more d v = v.0
formed_at (c ∷ ds) more d v = formed_at ds more d v.1

no_memory : (d : Draft) → IsUnread d faults.Memory
no_memory (drafts.Template name inside) = tt
no_memory (drafts.Shared kind name init) = tt
no_memory (drafts.Session s) = tt

-- want of memory may come anywhere
pub memory_unread : (gaps : List (List ℕ)) (ds : List Draft) → IsFirstUnread gaps ds faults.Memory
memory_unread gaps [] = refl
memory_unread gaps (d ∷ ds) = inl (no_memory d)

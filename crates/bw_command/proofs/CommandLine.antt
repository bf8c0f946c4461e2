-- The command line is one whose matches and refusals clap's contracts give.
use Rattle.std.proofs.Common.{◌≡◌, ℕ, true, List, [], ◌∷◌, Option, None, Err, IsErrOf, refl, sym, ap, ◌∙◌, subst, codes}
use Rattle.clap.specs.Words.{Row, fault_of, is_simple, is_simple_and_free}
use Rattle.clap.specs.Walk.{first_of}
use Rattle.clap.specs.Kinds.{Kinds, IsAmong}
use Rattle.clap.specs.declared.error.kind.ErrorKind.{ErrorKind}
use Rattle.clap.proofs.OnLiterals.{clap_on_literals}
use Rattle.bw_command.specs.Commands.{command_of, command_by, unless_fault}
use Rattle.bw_command.specs.Words.{bigwig, text_of, line_of, written_in, written_by, IsTaken}
use Rattle.bw_command.specs.declared.command.Command.{Command}
use Rattle.bw_command.specs.declared.words.Line.{Line}

pub simple : is_simple bigwig ≡ true
unfolding bigwig clap_on_literals
simple = refl

pub free : is_simple_and_free bigwig ≡ true
unfolding bigwig clap_on_literals
free = refl

-- an error has a kind
pub none_among : (k : ErrorKind) (kinds : Kinds) → IsAmong k kinds → kinds ≡ [] → ⊥
none_among k kinds among e = subst (λ (t : Kinds). IsAmong k t) e among

-- a line is known by its parts
pub same_line : (l : Line) (rows : List Row) → text_of l.command ≡ first_of (codes "command") rows → text_of l.first ≡ first_of (codes "first") rows
    → text_of l.second ≡ first_of (codes "second") rows
    → text_of l.schema ≡ first_of (codes "schema") rows → text_of l.workers ≡ first_of (codes "workers") rows
    → text_of l.limit ≡ first_of (codes "limit") rows → text_of l.port ≡ first_of (codes "port") rows
    → text_of l.formats ≡ first_of (codes "formats") rows → text_of l.journal ≡ first_of (codes "journal") rows
    → text_of l.load ≡ first_of (codes "load") rows → text_of l.rotate ≡ first_of (codes "rotate") rows
    → text_of l.source ≡ first_of (codes "show-source") rows → text_of l.explain ≡ first_of (codes "explain") rows → line_of l ≡ written_in rows
same_line l rows a b c d e f g h j m n k p =
    λ i. record {
      command = a i;
      first = b i;
      second = c i;
      schema = d i;
      workers = e i;
      limit = f i;
      port = g i;
      formats = h i;
      journal = j i;
      load = m i;
      rotate = n i;
      source = k i;
      explain = p i;
    }

-- the command of words that clap takes
pub command_taken : (words : List (List ℕ)) (l : Line) → IsTaken words → line_of l ≡ written_by words → command_of words ≡ command_by (line_of l)
unfolding command_of
command_taken words l taken same = ap (λ k. unless_fault k (command_by (written_by words))) taken ∙ ap command_by (sym same)

refuse : (kinds : Kinds) (command : Option Command) → (kinds ≡ [] → ⊥) → unless_fault kinds command ≡ None
refuse [] command some = absurd (some refl)
refuse (kind ∷ kinds) command some = refl

-- where clap refuses the words, there is none
pub command_refused : (words : List (List ℕ)) → (IsTaken words → ⊥) → command_of words ≡ None
unfolding command_of
command_refused words refused = refuse (fault_of bigwig words) (command_by (written_by words)) refused

-- an error says nothing of the type of a value
pub any_value : {A B E : Type 0} (e f : E) → IsErrOf {T = A} (Err e) f → IsErrOf {T = B} (Err e) f
any_value e f h = let same : e ≡ f = cc in ap Err same

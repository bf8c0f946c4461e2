-- What plugs go into.
use Rattle.std.specs.Prelude.{ℕ}
use Rattle.bw_lang.specs.declared.service.Service.{Service}
use Rattle.bw_lang.specs.Service.Term.{Term, int, truth, string, name, paren, not, neg, binary, call, plug, nothing, Fillings, no_more, filling}
use Rattle.bw_meaning.specs.Expressions.{Evaluated, Gives, Faults, eval}
use Rattle.bw_meaning.specs.Values.{Value, Values, number, truth_value, text, document, list}

-- the value is a document
abbrev pub IsDocument : Value → Type 0
IsDocument (number n) = ⊥
IsDocument (truth_value b) = ⊥
IsDocument (text s) = ⊥
IsDocument (document d) = Unit {0}
IsDocument (list strings) = ⊥

-- where a value is given, it is a document
abbrev pub GivesDocument : Evaluated → Type 0
GivesDocument (Gives v units) = IsDocument v
GivesDocument (Faults f units) = Unit {0}

-- the values of an expression are documents, whatever the units
abbrev pub GivesDocuments : Service → Values → Values → Term → Type 0
GivesDocuments service locals shared e = (units : ℕ) → GivesDocument (eval service locals shared e units)

abbrev mutual
  -- each plug in the expression goes into documents
  pub HasBases : Service → Values → Values → Term → Type 0
  HasBases service locals shared (int n) = Unit {0}
  HasBases service locals shared (truth b) = Unit {0}
  HasBases service locals shared (string s) = Unit {0}
  HasBases service locals shared nothing = Unit {0}
  HasBases service locals shared (name w) = Unit {0}
  HasBases service locals shared (paren e) = HasBases service locals shared e
  HasBases service locals shared (not e) = HasBases service locals shared e
  HasBases service locals shared (neg e) = HasBases service locals shared e
  HasBases service locals shared (call f e) = HasBases service locals shared e
  HasBases service locals shared (binary op l r) = HasBases service locals shared l × HasBases service locals shared r
  HasBases service locals shared (plug b ps) = GivesDocuments service locals shared b × HasBases service locals shared b × HaveBases service locals shared ps

  -- so does each plug in the values of these pairs
  pub HaveBases : Service → Values → Values → Fillings → Type 0
  HaveBases service locals shared no_more = Unit {0}
  HaveBases service locals shared (filling g e ps) = HasBases service locals shared e × HaveBases service locals shared ps

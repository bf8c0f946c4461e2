-- What may be saved is made of the service's templates and of strings in UTF-8.
use Rattle.std.proofs.Common.{◌≡◌, ◌<◌, ◌≤◌, ℕ, zero, suc, List, [], ◌∷◌, length, map, refl, sym, ap, subst, ◌∙◌, arith}
use Rattle.std.specs.Prelude.{IsUtf8}
use Rattle.std.specs.List.{AllByRecursion}
use Rattle.bw_doc.specs.Made.{Made, constant, plug, plug_text, tree, measure}
use Rattle.bw_doc.specs.Operations.{items_at}
use Rattle.bw_eval.specs.declared.value.Value.{Value}
use Rattle.bw_eval.specs.declared.value.Value.TheVariants as values
use Rattle.bw_eval.specs.View as view
use Rattle.bw_lang.specs.declared.service.Service.{Service}
use Rattle.bw_lang.specs.declared.service.Template.{Template}
use Rattle.bw_lang.specs.declared.stmt.Kind.{Kind}
use Rattle.bw_lang.specs.declared.stmt.Kind.TheVariants as kinds
use Rattle.bw_lang.specs.Document.Forest.{Forest}
use Rattle.bw_lang.specs.Document.Measures.{IsWithin, constant_measure}
use Rattle.bw_load.specs.Loaded.{live_of, world_of}
use Rattle.bw_made.specs.Made.{IsMadeOf, IsItemsOf, IsDocumentOf, IsText, AreTexts, AreTextRests, IsPageOf}
use Rattle.bw_made.specs.Made.{IsMadeOf as making}
use Rattle.bw_made.specs.Worlds.{IsTextTalk, IsTextWorld}
use Rattle.bw_made.proofs.Values.{IsOwn}
use Rattle.bw_made.proofs.Whole.{constants_of}
use Rattle.bw_model.specs.Sessions.{Live}
use Rattle.bw_saved.specs.declared.saved.Record.{Record}
use Rattle.bw_saved.specs.declared.saved.Saved.{Saved}
use Rattle.bw_saved.specs.Documents.Demands.{IsBuilt}
use Rattle.bw_saved.specs.Fields.Spelling as spelled
use Rattle.bw_saved.specs.Sessions.Demands.{IsSession, IsSaved}
use Rattle.bw_saved.specs.Values.Demands.{IsValue, AreVariables}
use Rattle.bw_types.specs.declared.typed.Typed.{Typed}
use Rattle.bw_types.specs.Scopes.{shared_kinds}

-- the items of the template of a number are a constant, and within the limits
constant_at : (Constant : Forest → Type 0) (ts : List Template) (n : ℕ) → n < length ts → AllByRecursion (IsOwn Constant) ts →
    Constant (items_at ts n) × IsWithin (constant_measure (items_at ts n))
constant_at Constant [] n lt h = absurd (omega (arith, lt))
constant_at Constant (t ∷ ts) zero lt h = h.0
constant_at Constant (t ∷ ts) (suc n) lt h = constant_at Constant ts n (omega (arith, lt)) h.1

texts_are_utf8 : (ss : List (List ℕ)) → AllByRecursion spelled.IsText ss → AllByRecursion IsUtf8 ss
texts_are_utf8 [] h = tt
texts_are_utf8 (s ∷ ss) h = (h.0.utf8, texts_are_utf8 ss h.1)

rests_are_utf8 : (rs : List (List (List ℕ))) → AllByRecursion spelled.AreTexts rs → AreTextRests rs
rests_are_utf8 [] h = tt
rests_are_utf8 (r ∷ rs) h = (texts_are_utf8 r h.0.each, rests_are_utf8 rs h.1)

module _ (service : Service) (own : AllByRecursion (IsOwn (IsItemsOf service)) service.templates) where
  abbrev Constant : Forest → Type 0
  Constant = IsItemsOf service

  built_is_made : (d : Made) → IsBuilt service d → IsDocumentOf Constant (view.document d)
  built_is_made (constant n items) h =
      let c = constant_at Constant service.templates n h.0 own in
      subst (λ (i : Forest). IsDocumentOf Constant (view.document (constant n i))) (sym h.1)
      (record { made = making.constant (items_at service.templates n) c.0; within = c.1 })
  built_is_made (plug b g a) h = record {
    made = making.plug (tree b) (tree a) (measure b) (measure a) g (built_is_made b h.0).made (built_is_made a h.1).made;
    within = h.3.within;
  }
  built_is_made (plug_text b g s) h = record {
    made = making.fill (tree b) (measure b) g s h.1.utf8 (built_is_made b h.0).made;
    within = h.2.within;
  }

  value_is_made : (kind : Kind) (v : Value) → IsValue service kind v → IsText Constant (view.value v)
  value_is_made kind (values.Int n) h = tt
  value_is_made kind (values.Bool b) h = tt
  value_is_made kinds.Str (values.Str s) h = h.utf8
  value_is_made kinds.Html (values.Html d) h = built_is_made d h.built
  value_is_made kinds.Strs (values.Strs ss) h = texts_are_utf8 ss h.each
  value_is_made kinds.Int (values.Str s) h = absurd h
  value_is_made kinds.Bool (values.Str s) h = absurd h
  value_is_made kinds.Html (values.Str s) h = absurd h
  value_is_made kinds.Strs (values.Str s) h = absurd h
  value_is_made kinds.Int (values.Html d) h = absurd h
  value_is_made kinds.Bool (values.Html d) h = absurd h
  value_is_made kinds.Str (values.Html d) h = absurd h
  value_is_made kinds.Strs (values.Html d) h = absurd h
  value_is_made kinds.Int (values.Strs ss) h = absurd h
  value_is_made kinds.Bool (values.Strs ss) h = absurd h
  value_is_made kinds.Str (values.Strs ss) h = absurd h
  value_is_made kinds.Html (values.Strs ss) h = absurd h

  variables_are_made : (ks : List (List ℕ × Kind)) (xs : List (List ℕ × Value)) → AreVariables service ks xs → AreTexts Constant (view.values xs)
  variables_are_made [] [] h = tt
  variables_are_made [] (x ∷ xs) h = absurd h
  variables_are_made (k ∷ ks) [] h = absurd h
  variables_are_made (k ∷ ks) (x ∷ xs) h = (value_is_made k.1 x.1 h.0.1, variables_are_made ks xs h.1)

  session_is_made : (next : ℕ) (r : Record) → IsSession service next r → IsTextTalk Constant (live_of service r).talk
  session_is_made next r h = record {
    origin = (
      variables_are_made _ r.frame.locals h.waits.locals,
      rests_are_utf8 r.frame.rests h.waits.strings,
      record { document = built_is_made r.page h.page.built; short = h.prints },
    );
    inputs = tt;
  }

  sessions_are_made : (next : ℕ) (rs : List Record) → AllByRecursion (IsSession service next) rs →
      AllByRecursion (λ (l : Live). IsTextTalk Constant l.talk) (map (live_of service) rs)
  sessions_are_made next [] h = tt
  sessions_are_made next (r ∷ rs) h = (session_is_made next r h.0, sessions_are_made next rs h.1)

pub world_made : (t : Typed) (s : Saved) → IsSaved t.service s → IsTextWorld (IsItemsOf t.service) (world_of t.service s)
world_made t s h =
    let own = (constants_of t.service t.readable).templates in
    record {
      shared = variables_are_made t.service own (shared_kinds t.service) s.shared h.shared;
      live = sessions_are_made t.service own s.next s.records h.sessions;
    }

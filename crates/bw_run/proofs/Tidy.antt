-- What is sound stays sound.
use Rattle.std.proofs.Common.{◌≡◌, ℕ, List, [], ◌∷◌, ◌++◌, sym, subst, take}
use Rattle.std.specs.List.{All}
use Rattle.std.proofs.lemmas.List.Elements.{All-take, All-append, All-cons, All-nil}
use Rattle.bw_lang.specs.declared.service.Template.{Template}
use Rattle.bw_meaning.specs.States.{Rests}
use Rattle.bw_eval.specs.declared.value.Value.{Value}
use Rattle.bw_eval.specs.Sound.{AreSound}
use Rattle.bw_eval.specs.Sound as values
use Rattle.bw_run.specs.declared.standing.Standing.{Standing}
use Rattle.bw_run.specs.Code.{IsSound, AreShort}

pub sound_local : (ts : List Template) (s : Standing) (l : List (List ℕ × Value)) → IsSound ts s → AreSound ts l → IsSound ts (record s { locals = l })
sound_local ts s l i h = record { locals = h; shared = i.shared; rests = i.rests }

pub sound_shared : (ts : List Template) (s : Standing) (l : List (List ℕ × Value)) → IsSound ts s → AreSound ts l → IsSound ts (record s { shared = l })
sound_shared ts s l i h = record { locals = i.locals; shared = h; rests = i.rests }

pub sound_added : (ts : List Template) (s : Standing) (w : List ℕ) (v : Value) (l : List (List ℕ × Value)) → IsSound ts s → values.IsSound ts v →
    l ≡ s.locals ++ (w, v) ∷ [] → IsSound ts (record s { locals = l })
sound_added ts s w v l i h e =
    let P : List ℕ × Value → Type 0 = λ x. values.IsSound ts x.1 in
    record {
      locals = subst (AreSound ts) (sym e) (All-append P s.locals ((w, v) ∷ []) i.locals (All-cons P (w, v) [] h (All-nil P)));
      shared = i.shared;
      rests = i.rests;
    }

pub sound_cut : (ts : List Template) (s : Standing) (n : ℕ) (l : List (List ℕ × Value)) → IsSound ts s → l ≡ take n s.locals →
    IsSound ts (record s { locals = l })
sound_cut ts s n l i e = record {
  locals = subst (AreSound ts) (sym e) (All-take (λ x. values.IsSound ts x.1) n s.locals i.locals);
  shared = i.shared;
  rests = i.rests;
}

pub sound_rest : (ts : List Template) (s : Standing) (vs : List (List ℕ)) (rs : Rests) → IsSound ts s → AreShort vs → rs ≡ s.rests ++ vs ∷ [] →
    IsSound ts (record s { rests = rs })
sound_rest ts s vs rs i h e = record {
  locals = i.locals;
  shared = i.shared;
  rests = subst (All AreShort) (sym e) (All-append AreShort s.rests (vs ∷ []) i.rests (All-cons AreShort vs [] h (All-nil AreShort)));
}

pub sound_outer : (ts : List Template) (s : Standing) (n : ℕ) (rs : Rests) → IsSound ts s → rs ≡ take n s.rests → IsSound ts (record s { rests = rs })
sound_outer ts s n rs i e = record { locals = i.locals; shared = i.shared; rests = subst (All AreShort) (sym e) (All-take AreShort n s.rests i.rests) }

-- the same with any units
pub sound_as : (ts : List Template) (s t : Standing) → IsSound ts s → t.locals ≡ s.locals → t.shared ≡ s.shared → t.rests ≡ s.rests → IsSound ts t
sound_as ts s t i a b c = record {
  locals = subst (AreSound ts) (sym a) i.locals;
  shared = subst (AreSound ts) (sym b) i.shared;
  rests = subst (All AreShort) (sym c) i.rests;
}

pub ruleset sound_rules = (sound_local, sound_shared, sound_added, sound_cut, sound_rest, sound_outer, sound_as)

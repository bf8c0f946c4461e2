-- Faults have their causes where a question stopped the work, and where requests were answered whose replies were let go.
use Rattle.std.proofs.Common.{◌≡◌, ◌≢◌, ◌⊎◌, ◌<◌, ℕ, Result, Ok, Err, refl, sym, ◌∙◌, subst, inl, inr, arith}
use Rattle.std.specs.Prelude.{IsErrOf}
use Rattle.bw_out.specs.Causes.{Rose, Shows}
use Rattle.bw_world.specs.declared.ends.StreamEnd.{StreamEnd}
use Rattle.bw_world.specs.declared.ends.StreamEnd.TheVariants as ends
use Rattle.bw_command.specs.declared.status.Status.{Status}
use Rattle.bw_command.specs.declared.status.Status.TheVariants as status
use Rattle.bw_questions.specs.declared.stop.Stop.{Stop}
use Rattle.bw_questions.specs.declared.stop.Stop.TheVariants as stop
use Rattle.bigwig.specs.Lent.{Faults, HasCauses}
use Rattle.bigwig.proofs.Beside.{open_fails}

same_stop : {T : Type 0} (asked : Result T Stop) (a b : Stop) → asked ≡ Err a → asked ≡ Err b → a ≡ b
same_stop asked a b is too = cc

-- it was said why the work stopped
pub reported_causes : {T : Type 0} (asked : Result T Stop) (s : Stop) (r : Status) (before after written told links kept : ℕ) → asked ≡ Err s
    → Shows (IsErrOf asked stop.ReadFault) before after → (r ≡ status.ReadFault → s ≡ stop.ReadFault) → (s ≡ stop.ReadFault → r ≡ status.ReadFault)
    → Shows (r ≡ status.WriteFault) written told → (r ≢ status.Usage) × (r ≢ status.DoorFault) → r ≢ status.JournalFault
    → HasCauses r (record { reads = before; writes = written; links = links; kept = kept })
    (record { reads = after; writes = told; links = links; kept = kept })
reported_causes asked s r before after written told links kept is shows read reads write others journal = record {
  read = record {
    only = λ e. shows.only (subst (λ x. asked ≡ Err x) (read e) is);
    other = λ n. shows.other (λ h. n (reads (same_stop asked s stop.ReadFault is h)));
  };
  write = write;
  door = record { only = λ e. absurd (others.1 e); other = λ n. refl };
  journal = record { only = λ e. absurd (journal e); other = λ n m. refl };
}

-- the same of the files that were read, where another was closed before
pub reported_read : {T : Type 0} (asked : Result T Stop) (s : Stop) (r : Status) (before mid after : ℕ) → asked ≡ Err s
    → Shows (IsErrOf asked stop.ReadFault) before mid → (r ≡ status.ReadFault → s ≡ stop.ReadFault) → (s ≡ stop.ReadFault → r ≡ status.ReadFault)
    → after ≡ mid → Shows (r ≡ status.ReadFault) before after
reported_read asked s r before mid after is shows read reads same = record {
  only = λ e. subst (λ n. Rose before n) (sym same) (shows.only (subst (λ x. asked ≡ Err x) (read e) is));
  other = λ n. same ∙ shows.other (λ h. n (reads (same_stop asked s stop.ReadFault is h)));
}

-- the journal couldn't be opened, and that was told
pub fault_causes : (r : Status) (before after written told links kept now : ℕ) → (r ≡ status.JournalFault) ⊎ (r ≡ status.WriteFault) → after ≡ before
    → Shows (r ≡ status.WriteFault) written told → Rose kept now
    → HasCauses r (record { reads = before; writes = written; links = links; kept = kept })
    (record { reads = after; writes = told; links = links; kept = now })
fault_causes r before after written told links kept now is same write rose = record {
  read = record {
    only = λ e. absurd (elim is [
      | inl j ↦ (let f : status.JournalFault ≡ status.ReadFault = sym j ∙ e in cc)
      | inr w ↦ (let f : status.WriteFault ≡ status.ReadFault = sym w ∙ e in cc)
    ]);
    other = λ n. same;
  };
  write = write;
  door = record {
    only = λ e. absurd (elim is [
      | inl j ↦ (let f : status.JournalFault ≡ status.DoorFault = sym j ∙ e in cc)
      | inr w ↦ (let f : status.WriteFault ≡ status.DoorFault = sym w ∙ e in cc)
    ]);
    other = λ n. refl;
  };
  journal = open_fails r kept now is rose;
}

-- a file couldn't be read, and nothing was told
pub unread_causes : (before after written links kept : ℕ) → Rose before after
    → HasCauses status.ReadFault (record { reads = before; writes = written; links = links; kept = kept })
    (record { reads = after; writes = written; links = links; kept = kept })
unread_causes before after written links kept rose = record {
  read = record { only = λ e. rose; other = λ n. absurd (n refl) };
  write = record { only = λ e. (let f : status.ReadFault ≡ status.WriteFault = e in cc); other = λ n. refl };
  door = record { only = λ e. (let f : status.ReadFault ≡ status.DoorFault = e in cc); other = λ n. refl };
  journal = record { only = λ e. (let f : status.ReadFault ≡ status.JournalFault = e in cc); other = λ n m. refl };
}

-- the questions went well, and it was told what came of them
pub preserved_causes : {T : Type 0} (asked : Result T Stop) (b : T) (r : Status) (before after written told links kept : ℕ) → asked ≡ Ok b
    → Shows (IsErrOf asked stop.ReadFault) before after → r ≢ status.ReadFault → Shows (r ≡ status.WriteFault) written told
    → (r ≢ status.Usage) × (r ≢ status.DoorFault) → r ≢ status.JournalFault
    → HasCauses r (record { reads = before; writes = written; links = links; kept = kept })
    (record { reads = after; writes = told; links = links; kept = kept })
preserved_causes asked b r before after written told links kept is shows read write others journal = record {
  read = record { only = λ e. absurd (read e); other = λ n. shows.other (λ h. cc) };
  write = write;
  door = record { only = λ e. absurd (others.1 e); other = λ n. refl };
  journal = record { only = λ e. absurd (journal e); other = λ n m. refl };
}

rose_some : (n : ℕ) → Rose 0 n → 0 < n
rose_some n h = omega (arith, h)

-- a file was read and closed
pub closed_shows : (fact : Type 0) (before mid after read now : ℕ) → mid ≡ before → read ≡ 0 → Shows fact read now → (0 < now → Rose mid after)
    → (now ≡ 0 → after ≡ mid) → Shows fact before after
closed_shows fact before mid after read now same fresh shows failed quiet = record {
  only = λ e. subst (λ n. Rose n after) same (failed (rose_some now (subst (λ n. Rose n now) fresh (shows.only e))));
  other = λ n. quiet (shows.other n ∙ fresh) ∙ same;
}

-- a file was read and closed, and then it was told what came of it
pub frozen_causes : (end : StreamEnd) (r : Status) (before mid after read now written told links kept : ℕ) → mid ≡ before → read ≡ 0
    → Shows (end ≡ ends.ReadFault) read now → (0 < now → Rose mid after) → (now ≡ 0 → after ≡ mid) → (r ≡ status.ReadFault → end ≡ ends.ReadFault)
    → (end ≡ ends.ReadFault → r ≡ status.ReadFault) → Shows (r ≡ status.WriteFault) written told → (r ≢ status.Usage) × (r ≢ status.DoorFault)
    → r ≢ status.JournalFault
    → HasCauses r (record { reads = before; writes = written; links = links; kept = kept })
    (record { reads = after; writes = told; links = links; kept = kept })
frozen_causes end r before mid after read now written told links kept same fresh shows failed quiet ends_so reads write others journal = record {
  read = record {
    only = λ e. subst (λ n. Rose n after) same (failed (rose_some now (subst (λ n. Rose n now) fresh (shows.only (ends_so e)))));
    other = λ n. quiet (shows.other (λ h. n (reads h)) ∙ fresh) ∙ same;
  };
  write = write;
  door = record { only = λ e. absurd (others.1 e); other = λ n. refl };
  journal = record { only = λ e. absurd (journal e); other = λ n m. refl };
}

-- What is left of a document that is taken apart, operation by operation.
use Rattle.std.specs.Prelude.{◌≡◌, ◌<◌, ◌+◌, ℕ, Bool, true, false, List, [], ◌∷◌, ◌++◌}
use Rattle.bw_doc.specs.Made.{Made, constant, plug, plug_text, parts}
use Rattle.bw_doc.specs.Operations as ops
use Rattle.bw_doc.specs.Operations.{operations}
use Rattle.bw_saved.specs.declared.operations.Task.{Task}

-- the last operation of a document
abbrev pub last_of : Made → ops.Operation
last_of (constant n items) = ops.constant n
last_of (plug b g a) = ops.plug g
last_of (plug_text b g s) = ops.plug_text g s

-- the operations that are left of a document: where its parts were taken, the last one alone
abbrev pub left_of : Made → Bool → List ops.Operation
left_of d true = last_of d ∷ []
left_of d false = operations d

-- those of all tasks, of which the last is done first
abbrev pub all_left : List Task → List ops.Operation
all_left [] = []
all_left (t ∷ later) = all_left later ++ left_of t.doc.now t.entered

-- how many steps are left of a document
abbrev pub steps_of : Made → Bool → ℕ
steps_of d true = 1
steps_of d false = parts d + parts d

-- and of all tasks
abbrev pub all_steps : List Task → ℕ
all_steps [] = 0
all_steps (t ∷ later) = all_steps later + steps_of t.doc.now t.entered

-- Either only the last operation of the task is left, and no task comes more; or those that come are what is left of it, in fewer steps.
abbrev pub IsLeftOf : Task → List Task → List Task → Bool → Type 0
IsLeftOf t old new true = (left_of t.doc.now t.entered ≡ last_of t.doc.now ∷ []) × (new ≡ old)
IsLeftOf t old new false = (all_left new ≡ left_of t.doc.now t.entered ++ all_left old) × (all_steps new < steps_of t.doc.now t.entered + all_steps old)

use Rattle.std.specs.Prelude.{Contains, length, ℕ, ◌≡◌, ◌<◌, ◌%◌, ◌^◌, List, [], ◌∷◌, ◌++◌, true, false, Some, None}
use Rattle.jm_model.specs.Bindings.{mask_of}
use Rattle.jm_model.specs.Meanings.{Meaning}
use Rattle.jm_model.specs.declared.binding.Binding.{Binding}
use Rattle.jm_model.specs.declared.firings.Firing.{Firing}
use Rattle.jm_model.specs.declared.step.Step.{Step}
use Rattle.jm_model.specs.declared.step.Step.TheVariants.{Event, Death, Pass}
use Rattle.jm_model.specs.declared.step.Outcome.{Outcome}
use Rattle.jm_model.specs.declared.step.Outcome.TheVariants.{Fired, Refused, Done, Kept, NoMemory}
use Rattle.jm_model.specs.declared.step.Entry.{Entry}
use Rattle.jm_semantics.specs.Histories.{trace_of, is_dead, first_dead}
use Rattle.jm_semantics.specs.Answers.{IsAnswer}
use Rattle.jm_semantics.specs.Disposal.{IsKeptCount}

-- After the history h the step may be answered so. An event that names no dead object may also meet want
-- of memory, and then leaves no trace.
abbrev pub IsReply : Meaning → List Entry → Step → Outcome → Type 0
IsReply m h (Event e b) (Fired firings) =
    (first_dead h b ≡ None) × IsAnswer m (trace_of h) (record { letter = e.0; binding = b }) firings
IsReply m h (Event e b) (Refused o) = first_dead h b ≡ Some o
IsReply m h (Event e b) NoMemory = first_dead h b ≡ None
IsReply m h (Death o) Done = is_dead h o ≡ false
IsReply m h (Death o) (Refused q) = (is_dead h o ≡ true) × (q ≡ o)
IsReply m h Pass (Kept n) = (kept : ℕ) × IsKeptCount m h kept × (n ≡ kept % 2 ^ 64)
IsReply m h _ _ = ⊥

-- the step is one of the specification: an event's binding is one of eight parameters, and binds exactly those
-- of its letter
abbrev pub IsStepOf : Meaning → Step → Type 0
IsStepOf m (Event e b) = (e.0 < m.letters) × (length b ≡ 8) × (mask_of b ≡ m.params e.0)
IsStepOf m _ = Unit {0}

-- the entries may follow the history, each with the reply to its step in what stands before it
abbrev pub IsLegalAfter : Meaning → List Entry → List Entry → Type 0
IsLegalAfter m h [] = Unit {0}
IsLegalAfter m h (x ∷ g) = IsStepOf m x.step × IsReply m h x.step x.outcome × IsLegalAfter m (h ++ x ∷ []) g

-- the history is legal
abbrev pub IsLegal : Meaning → List Entry → Type 0
IsLegal m h = IsLegalAfter m [] h

-- the outcome names t: a handler runs for it
abbrev pub Names : Outcome → Binding → Type 0
Names (Fired firings) t = (f : Firing) × Contains firings f × (f.instance ≡ t)
Names _ t = ⊥

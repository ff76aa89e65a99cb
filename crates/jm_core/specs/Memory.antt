-- What a step does to what the core keeps in memory.
use Rattle.jm_model.specs.declared.step.Step.{Step}
use Rattle.jm_model.specs.declared.step.Step.TheVariants.{Event, Death, Pass}
use Rattle.jm_model.specs.declared.step.Outcome.{Outcome}
use Rattle.jm_core.specs.Cores.{Core, KeepsMemory, KeepsMemoryUnlessFired}

-- it is as before, but for an event that is answered and a pass
abbrev pub StepKeepsMemory : {D : Type 0} → Step → Outcome → Core D → Core D → Type 0
StepKeepsMemory (Event letter binding) outcome before after = KeepsMemoryUnlessFired outcome before after
StepKeepsMemory (Death object) outcome before after = KeepsMemory before after
StepKeepsMemory Pass outcome before after = Unit {0}

use Rattle.std.proofs.Common.{◌≡◌, ℕ, List, sym, ◌∙◌}
use Rattle.jm_model.specs.declared.fault.SpecError.TheVariants.{Bad}
use Rattle.jm_model.specs.declared.fault.SpecFault.{SpecFault}
use Rattle.jm_text.specs.declared.token.Token.{Token}
use Rattle.jm_reading.proofs.FormulaLemmas.{never_refused}
use Rattle.jm_spec.specs.declared.frame.Frame.{Frame}
use Rattle.jm_spec.specs.declared.tree.SpecTree.{SpecTree}
use Rattle.jm_spec.specs.Spelling.{Spells}
use Rattle.jm_spec.specs.Faults.{frame_fault}
use Rattle.jm_spec.specs.Trees.{IsTreeOfTokens, IsFaultOfTokens}
use Rattle.jm_spec.proofs.RepeatLemmas.{same_some}
use Rattle.jm_spec.proofs.CompleteLemmas.{spelled_is_frame}
use Rattle.jm_spec.proofs.laws.one_reading.Goals as goal

one_frame : (bytes : List ℕ) (tokens : List Token) (frame other : Frame) → Spells bytes tokens frame → Spells bytes tokens other → frame ≡ other
one_frame bytes tokens frame other h k = same_some (sym (spelled_is_frame bytes tokens frame h) ∙ spelled_is_frame bytes tokens other k)

never : (bytes : List ℕ) (tokens : List Token) (tree : SpecTree) (fault : SpecFault) → IsTreeOfTokens bytes tokens tree → IsFaultOfTokens bytes tokens (Bad fault) → ⊥
never bytes tokens tree fault t f = never_refused (Spells bytes tokens) (frame_fault bytes) (one_frame bytes tokens) t.0 t.1 t.2 fault f

pub returns-clause-frame : goal.returns-clause-frame
returns-clause-frame c = one_frame

pub returns-clause-never_both : goal.returns-clause-never_both
returns-clause-never_both c = never

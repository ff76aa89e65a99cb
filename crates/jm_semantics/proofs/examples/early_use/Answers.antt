use Rattle.jm_semantics.proofs.UnsafeIterLemmas.{early_use-legal, early_use-only}
use Rattle.jm_semantics.proofs.examples.early_use.Goals as goal

pub returns : goal.returns
returns c = record { legal = early_use-legal; only = early_use-only }

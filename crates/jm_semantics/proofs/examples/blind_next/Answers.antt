use Rattle.jm_semantics.proofs.SmallExampleLemmas.{blind_next-legal, created_blind_next-legal}
use Rattle.jm_semantics.proofs.examples.blind_next.Goals as goal

pub returns : goal.returns
returns c = record { anyhow = blind_next-legal; created = created_blind_next-legal }

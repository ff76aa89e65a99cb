-- A command that words spell keeps within its limits.
use Rattle.std.proofs.Common.{◌≡◌, ℕ, List, Some}
use Rattle.jm_cli.specs.Words.{CommandWords, command_of}
use Rattle.jm_cli.specs.Words.CommandWords.{Replay, Run, Check, Coenable, Gen, Sweep, Audit}
use Rattle.jm_cli.specs.Spelling.{Spells}
use Rattle.jm_cli.proofs.Saying.{spelled}
use Rattle.jm_inputs.specs.Commands.{IsWithin}

within_spelled : (words : List (List ℕ)) (c : CommandWords) → Spells words c → IsWithin c
within_spelled words (Replay spec script) h = tt
within_spelled words (Run specs scripts) h = ((h.1.some, h.1.few), (h.2.some, h.2.few))
within_spelled words (Check specs) h = (h.1.some, h.1.few)
within_spelled words (Coenable specs) h = (h.1.some, h.1.few)
within_spelled words (Gen n) h = (h.1, h.2)
within_spelled words (Sweep spec recording) h = tt
within_spelled words (Audit history specs scripts) h = ((h.2.some, h.2.few), (h.3.some, h.3.few))

pub few_named : (words : List (List ℕ)) (c : CommandWords) → command_of words ≡ Some c → IsWithin c
few_named words c e = within_spelled words c (spelled words c e)

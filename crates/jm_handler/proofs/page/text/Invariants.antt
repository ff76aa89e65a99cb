use Rattle.std.proofs.Common.{◌≡◌, ◌++◌, take}
use Rattle.jm_handler.specs.Broken.{broken}
use Rattle.jm_handler.proofs.page.text.Given as goal

abbrev pub invariant-loop-byte : goal.invariant-loop-byte
invariant-loop-byte l = l.page.items ≡ l.initial.page.items ++ broken (take l.byte-index l.text)

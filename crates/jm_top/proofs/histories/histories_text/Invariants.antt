use Rattle.std.proofs.Common.{◌≡◌, take}
use Rattle.std.specs.Prelude.{map}
use Rattle.jm_print.specs.Told.{texts_of}
use Rattle.jm_top.specs.Histories.{lexicon}
use Rattle.jm_top.specs.Printing.{titled_by}
use Rattle.jm_top.proofs.TextLemmas.{rules_of}
use Rattle.jm_top.proofs.histories.histories_text.Given as goal

abbrev pub invariant-loop-spec : goal.invariant-loop-spec
invariant-loop-spec l = l.text.items ≡ texts_of (map (lexicon l.objects) (take l.spec (titled_by l.catalog l.headers (rules_of l.ended)))) (map (λ p. p.history) (take l.spec l.ended))

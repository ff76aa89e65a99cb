use Rattle.std.proofs.Common.{◌≡◌, ◌≢◌, ◌++◌, drop, true}
use Rattle.jm_model.specs.Bindings.{mask_of}
use Rattle.jm_print.specs.Texts.{binding_text, HasNamesFrom}
use Rattle.jm_print.proofs.PairLemmas.{rest_text}
use Rattle.jm_print.proofs.history.Printer.binding.Given as goal

abbrev pub invariant-loop-p : goal.invariant-loop-p
invariant-loop-p l = record {
  names : HasNamesFrom l.self l.p (drop l.p l.binding);
  some : l.first ≡ true → mask_of (drop l.p l.binding) ≢ 0;
  so_far : l.page ++ rest_text l.first l.self l.p (drop l.p l.binding) ≡ l.initial.page ++ binding_text l.self l.binding;
}

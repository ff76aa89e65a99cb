use Rattle.std.proofs.Common.{◌≡◌, [], take, drop}
use Rattle.jm_machine.specs.Handlers.{duplicate_fault, handler_names}
use Rattle.jm_machine.proofs.handlers.distinct.Given as goal

abbrev pub invariant-loop-handler : goal.invariant-loop-handler
invariant-loop-handler l = record {
  named : l.names ≡ handler_names l.bytes (take l.handler-index l.handlers);
  rest : duplicate_fault l.bytes l.names (drop l.handler-index l.handlers) ≡ duplicate_fault l.bytes [] l.handlers;
}

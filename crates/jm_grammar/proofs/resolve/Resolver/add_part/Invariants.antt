use Rattle.std.proofs.Common.{◌≡◌, drop, []}
use Rattle.jm_events.specs.Events.{event_names}
use Rattle.jm_reading.specs.Faults.{with_each}
use Rattle.jm_grammar.specs.Faults.{with_symbol, with_alternative}
use Rattle.jm_grammar.proofs.resolve.Resolver.add_part.Given as goal

abbrev pub invariant-loop-alternative : goal.invariant-loop-alternative
invariant-loop-alternative l = with_each (with_alternative l.self.bytes.now (event_names l.self.table.now) l.self.known.now l.left) l.productions (drop l.alternative-index l.alternative-items) ≡ with_each (with_alternative l.self.bytes.now (event_names l.self.table.now) l.self.known.now l.left) l.initial.productions l.alternative-items

abbrev pub invariant-loop-token : goal.invariant-loop-token
invariant-loop-token l = with_each (with_symbol l.self.bytes.now (event_names l.self.table.now) l.self.known.now) l.symbols (drop l.token-index l.token-items) ≡ with_each (with_symbol l.self.bytes.now (event_names l.self.table.now) l.self.known.now) [] l.token-items

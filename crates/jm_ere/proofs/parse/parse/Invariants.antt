use Rattle.std.proofs.Common.{◌≡◌, drop}
use Rattle.jm_ere.specs.Rules.{beginning, after_all}
use Rattle.jm_ere.proofs.NotLemmas.{FewNots}
use Rattle.jm_ere.proofs.parse.parse.Given as goal

abbrev pub invariant-loop-token : goal.invariant-loop-token
invariant-loop-token l = record {
  rest : after_all l.bytes l.parser (drop l.token-index l.tokens) ≡ after_all l.bytes beginning l.tokens;
  nots : FewNots l.token-index l.parser;
}

use Rattle.std.proofs.Common.{ap}
use Rattle.std.specs.Option.{option_to_list}
use Rattle.jm_spec.proofs.ScanLemmas.{closed_as}
use Rattle.jm_spec.proofs.brackets.Brackets.close.Goals as goal
use Rattle.jm_spec.proofs.brackets.Brackets.close.Goals.{then-not-is_curly, else-not-is_curly}

pub returns : goal.returns
returns c =
    elim c.if-not-is_curly.branch [
      | then-not-is_curly w ↦ closed_as c.args.kind c.in-Some.innermost c.args.self.now c.if-not-is_curly.self c.is_same.result c.is_same.ensures (cc (c.pop.ensures.items, ap option_to_list c.in-Some.is, c.self.view_is))
      | else-not-is_curly w ↦ closed_as c.args.kind c.in-Some.innermost c.args.self.now c.if-not-is_curly.self c.is_same.result c.is_same.ensures (cc (c.pop.ensures.items, ap option_to_list c.in-Some.is, c.self.view_is))
    ]

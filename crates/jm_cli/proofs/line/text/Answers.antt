use Rattle.std.proofs.Common.{◌∙◌, sym, ap, option_map}
use Rattle.clap.specs.Matches.{found_of}
use Rattle.clap.proofs.WalkLemmas.{first_value-rows}
use Rattle.jm_cli.proofs.Found.{some_not}
use Rattle.jm_cli.proofs.line.text.Goals as goal

pub unreachable-requires : goal.unreachable-requires
unreachable-requires c =
    some_not _ c.requires
    (sym (first_value-rows (found_of c.args.found.now) c.args.id.now) ∙ sym c.get_str.ensures ∙ ap (option_map (λ s. s.now)) c.in-None.is)

pub returns : goal.returns
returns c =
    sym (first_value-rows (found_of c.args.found.now) c.args.id.now) ∙ sym c.get_str.ensures ∙ ap (option_map (λ s. s.now)) c.in-Some.is

use Rattle.std.proofs.Common.{◌∙◌, sym, ap, option_map, map, Some, codes}
use Rattle.std.proofs.lemmas.Result.{IfOk-weaker}
use Rattle.clap.specs.Matches.{found_of}
use Rattle.clap.proofs.WalkLemmas.{raw_values-rows}
use Rattle.jm_cli.proofs.Found.{some_not}
use Rattle.jm_cli.proofs.line.names.Goals as goal

pub unreachable-requires : goal.unreachable-requires
unreachable-requires c =
    some_not _ c.requires
    (sym (raw_values-rows (found_of c.args.found.now) (codes "names")) ∙ sym c.get_strs.ensures ∙ ap (option_map (λ s. map (λ v. v.now) s.now)) c.in-None.is)

pub returns-clause-ok : goal.returns-clause-ok
returns-clause-ok c =
    IfOk-weaker c.copies.result _ _ (λ copies same.
    sym (raw_values-rows (found_of c.args.found.now) (codes "names")) ∙ sym c.get_strs.ensures ∙ ap (option_map (λ s. map (λ v. v.now) s.now)) c.in-Some.is
    ∙ ap Some (sym same)) c.copies.ensures.ok

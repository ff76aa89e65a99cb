use Rattle.std.proofs.Common.{◌≡◌, ◌∙◌, ap, ap₂, true, [], codes}
use Rattle.std.proofs.lemmas.Result.{IfOk-weaker}
use Rattle.clap.specs.declared.builder.command.Command.{Command}
use Rattle.clap.specs.declared.builder.command.Command.TheOpen.{Command-F}
use Rattle.clap.specs.Simple.{App, Shape, app_of, app_of_fields, new_shape, with_subcommand}
use Rattle.clap.specs.Built.{AddsSubcommand}
use Rattle.jm_cli.specs.Line.{Makes, names_shape, pair_shape, gen_shape}
use Rattle.jm_cli.proofs.line.line_command.Goals as goal

abbrev bare : App
bare = record {
  top = record (new_shape (codes "jmop")) {
    no_binary_name = true;
    disable_help_flag = true;
    disable_help_subcommand = true;
    subcommand_required = true;
  };
  subs = [];
}

-- one more command below the line
more : (line command grown : Command) (a : App) (s : Shape) → AddsSubcommand line command grown → app_of line ≡ a → Makes s command
    → app_of grown ≡ with_subcommand a s
more line command grown a s adds is makes =
    adds.shape makes.local ∙ ap₂ with_subcommand is (ap (λ (x : App). x.top) makes.app)

pub returns : goal.returns
returns c =
    let base : app_of c.subcommand_required-line.result ≡ bare =
    ap app_of_fields (c.subcommand_required-line.ensures
    ∙ ap (λ (f : Command-F Command). record f { subcommand_required = true }) (c.disable_help_subcommand.ensures
    ∙ ap (λ (f : Command-F Command). record f { disable_help_subcommand = true }) (c.disable_help_flag.ensures
    ∙ ap (λ (f : Command-F Command). record f { disable_help_flag = true }) c.no_binary_name.ensures)))
    ∙ ap (λ (a : App). record a { top = record a.top { no_binary_name = true; disable_help_flag = true; disable_help_subcommand = true; subcommand_required = true } }) c.new.ensures.app in
    let one = more _ _ _ bare (pair_shape (codes "replay")) c.in_ok-line.ensures base c.in_ok-pair_command.ensures in
    let two = more _ _ _ _ (names_shape (codes "run")) c.in_ok-line-2.ensures one c.in_ok-names_command.ensures in
    let three = more _ _ _ _ (names_shape (codes "check")) c.in_ok-line-3.ensures two c.in_ok-names_command-2.ensures in
    let four = more _ _ _ _ (names_shape (codes "coenable")) c.in_ok-line-4.ensures three c.in_ok-names_command-3.ensures in
    let five = more _ _ _ _ gen_shape c.in_ok-line-5.ensures four c.in_ok-gen_command.ensures in
    IfOk-weaker c.subcommand-6.result _ _ (λ r adds. more _ _ r _ (pair_shape (codes "sweep")) adds five c.in_ok-pair_command-2.ensures)
    c.subcommand-6.ensures

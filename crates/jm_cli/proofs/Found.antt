-- What is read of clap's findings.
use Rattle.std.proofs.Common.{◌≡◌, List, Option, Some, None, option_map, refl, sym, ap, ap₂}
use Rattle.std.specs.Prelude.{Box, IsSome}
use Rattle.std.specs.Box.{box_value}
use Rattle.std.proofs.lemmas.Bool.{false≢true}
use Rattle.std.proofs.lemmas.Option.{same_Some, none-some}
use Rattle.clap.specs.Walk.{Row, Text}
use Rattle.clap.specs.Matches.{subcommand_name_of}
use Rattle.clap.specs.Simple.{subcommand_rows, subcommand_rows_of}
use Rattle.clap.specs.declared.parser.matches.ArgMatches.{ArgMatches}
use Rattle.clap.specs.declared.parser.matches.ArgMatches.TheViews.{out-ArgMatches, out-SubCommand}
use Rattle.clap.specs.declared.parser.matches.SubCommand.{SubCommand}

pub some_is : {X : Type 0} (o : Option X) (x : X) → o ≡ Some x → IsSome o
some_is (Some y) x e = refl
some_is None x e = absurd (none-some x e)

pub some_not : {X : Type 0} (o : Option X) → IsSome o → o ≡ None → ⊥
some_not (Some y) some e = none-some y (sym e)
some_not None some e = absurd (false≢true some)

-- the subcommand, as its name and its findings are read
pub entered_is : (m : ArgMatches) (name : Text) (found : List Row) → Some name ≡ subcommand_name_of m
    → Some found ≡ option_map (λ q. q.1) (subcommand_rows (out-ArgMatches m).subcommand) → subcommand_rows_of m ≡ Some (name, found)
entered_is m name found n r = go (out-ArgMatches m).subcommand n r
  where
    go : {Z : Type 0} (sub : Option (Box SubCommand Z)) → Some name ≡ option_map (λ b. (out-SubCommand (box_value b)).name.now) sub
        → Some found ≡ option_map (λ q. q.1) (subcommand_rows sub) → subcommand_rows sub ≡ Some (name, found)
    go None n r = absurd (none-some name (sym n))
    go (Some b) n r = sym (ap₂ (λ x y. Some (x, y)) (same_Some _ _ n) (same_Some _ _ r))

-- where none was entered, none has a name
pub none_entered : (m : ArgMatches) → None ≡ subcommand_name_of m → subcommand_rows_of m ≡ None
none_entered m n = go (out-ArgMatches m).subcommand n
  where
    go : {Z : Type 0} (sub : Option (Box SubCommand Z)) → None ≡ option_map (λ b. (out-SubCommand (box_value b)).name.now) sub → subcommand_rows sub ≡ None
    go None n = refl
    go (Some b) n = absurd (none-some _ n)

pub name_is : (m : ArgMatches) (name : Text) (found : List Row) → subcommand_rows_of m ≡ Some (name, found) → subcommand_name_of m ≡ Some name
name_is m name found is = go (out-ArgMatches m).subcommand is
  where
    go : {Z : Type 0} (sub : Option (Box SubCommand Z)) → subcommand_rows sub ≡ Some (name, found) → option_map (λ b. (out-SubCommand (box_value b)).name.now) sub ≡ Some name
    go None is = absurd (none-some _ is)
    go (Some b) is = ap (λ p. Some p.0) (same_Some _ _ is)

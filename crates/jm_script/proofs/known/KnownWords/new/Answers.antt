use Rattle.std.proofs.Common.{Option, None}
use Rattle.std.specs.Prelude.{IfSome}
use Rattle.std.proofs.lemmas.List.Elements.{All-replicate}
use Rattle.jm_script.specs.Known.{IsSound}
use Rattle.jm_script.specs.declared.known.KnownWord.{KnownWord}
use Rattle.jm_script.proofs.known.KnownWords.new.Goals as goal

pub returns : goal.returns
returns c = λ catalog. All-replicate (λ (place : Option KnownWord). IfSome place (IsSound catalog)) 64 None tt

use Rattle.std.proofs.Common.{◌≡◌, drop, map}
use Rattle.std.specs.List.{list_all}
use Rattle.jm_lines.specs.Objects.{is_object}
use Rattle.jm_script.proofs.objects.are_objects.Given as goal

abbrev pub invariant-loop-word : goal.invariant-loop-word
invariant-loop-word l = list_all is_object (map (λ w. w.now) l.words) ≡ list_all is_object (drop l.word-index (map (λ w. w.now) l.words))

use Rattle.std.proofs.Common.{List, ◌≡◌, All, Some, slice_get, sym, subst, arith}
use Rattle.std.proofs.lemmas.List.Elements.{All-push}
use Rattle.jm_earley.specs.declared.letter_set.LetterSet.{LetterSet}
use Rattle.jm_earley.specs.LetterSets.{IsExact}
use Rattle.jm_earley.proofs.DeadLemmas.{slice_get_push}
use Rattle.jm_earley.proofs.dead.number_of.Goals as goal

pub returns-clause-exact : goal.returns-clause-exact
returns-clause-exact c = λ all.
    subst (λ (sets : List LetterSet). All (IsExact c.args.grammar.now.productions) sets) (sym c.in_ok-push.ensures.items)
    (All-push (IsExact c.args.grammar.now.productions) c.args.sets.now.items c.in_ok-set.set all c.in_ok-set.ensures.exact)

pub returns-clause-found : goal.returns-clause-found
returns-clause-found c = (
  c.in_ok-set.set,
  subst (λ (sets : List LetterSet). slice_get sets c.len-number.result ≡ Some c.in_ok-set.set) (sym c.in_ok-push.ensures.items)
      (slice_get_push c.args.sets.now.items c.in_ok-set.set c.len-number.result (omega arith)),
  c.in_ok-set.ensures.letters,
)

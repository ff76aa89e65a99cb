use Rattle.std.proofs.Common.{◌≡◌, ℕ, ◌/◌, ◌%◌, false, subst}
use Rattle.std.specs.Prelude.{slice_index, ◌==◌}
use Rattle.std.specs.Int.{bit_at}
use Rattle.jm_store.proofs.WalkLemmas.{dead_by_word}
use Rattle.jm_store.proofs.walk.is_dead_in.Goals as goal

pub returns-in-Some : goal.returns-in-Some
returns-in-Some c = λ off.
    let words = c.words.result.now in
    let object = c.args.object in
    let at : c.in-Some.word.now ≡ slice_index words (object / 64) = c.in-Some.ensures.lookup.3.1 0 in
    dead_by_word c.args.objects.now words object c.words.ensures.flags (subst (λ (n : ℕ). (bit_at n (object % 64) == 1) ≡ false) at off)

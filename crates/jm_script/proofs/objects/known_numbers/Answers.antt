use Rattle.std.proofs.Common.{◌≡◌, ◌<◌, ◌+◌, ℕ, List, Some, [], length, get_or, drop, sym, ap, ◌∙◌, arith}
use Rattle.std.proofs.Math.ListN.{length-set}
use Rattle.std.proofs.lemmas.List.{take_more_set}
use Rattle.jm_events.specs.Names.{number_of, with_name}
use Rattle.jm_script.specs.Objects.{mentioned}
use Rattle.jm_lines.proofs.WordLemmas.{object_utf8}
use Rattle.jm_script.proofs.NameLemmas.{with_name-known, number-known}
use Rattle.jm_script.proofs.ObjectLemmas.{texts, texts_more, object_at, numbered_more}
use Rattle.jm_script.proofs.objects.known_numbers.Goals as goal

pub text-requires : goal.text-requires
text-requires c = object_utf8 _ (object_at c.args.objects.now c.loop-i.i _ (omega arith) c.requires.objects)

pub loop-i-preserved : goal.loop-i-preserved
loop-i-preserved c =
    let names = c.args.names.now in
    let lt : c.loop-i.i < length c.args.objects.now = omega arith in
    let word : List ℕ = (get_or c.args.objects.now c.loop-i.i (record { ref_ptr = (0, 0); now = [] })).now in
    let rest = drop (c.loop-i.i + 1) (texts c.args.objects.now) in
    let more = texts_more c.args.objects.now c.loop-i.i (record { ref_ptr = (0, 0); now = [] }) lt in
    let found : number_of names word ≡ Some c.in_ok-numbers.field-0 = ap (number_of names) (sym c.text.ensures) ∙ sym c.find.ensures.value ∙ c.in_ok-numbers.was in
    let same : with_name names word ≡ names = with_name-known names word c.in_ok-numbers.field-0 found in
    let room : c.loop-i.i < length c.loop-i.numbers = omega arith in
    record {
      eight = omega (arith, length-set {A = ℕ});
      left = sym (ap (λ ns. mentioned ns rest) same) ∙ sym (ap (mentioned names) more) ∙ c.loop-i.invariant.left;
      numbered = rw (take_more_set c.loop-i.numbers c.loop-i.i _ room) (rw same at (numbered_more _ names word rest _ _ (number-known names word c.in_ok-numbers.field-0 found) (rw more at c.loop-i.invariant.numbered)));
    }

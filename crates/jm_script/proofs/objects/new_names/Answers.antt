use Rattle.std.proofs.Common.{◌+◌, ◌<◌, [], length, not, get_or, drop, sym, ap, ◌∙◌, arith}
use Rattle.jm_events.specs.Names.{number_of}
use Rattle.jm_script.specs.Objects.{mentioned}
use Rattle.jm_lines.proofs.WordLemmas.{object_utf8}
use Rattle.jm_script.proofs.ObjectLemmas.{texts, texts_more, object_at, length-with_name, left_new, left_known, none_is}
use Rattle.jm_script.proofs.objects.new_names.Goals as goal
use Rattle.jm_script.proofs.objects.new_names.Goals.{then-is_none+in_ok-add, else-is_none}

pub text-name-requires : goal.text-name-requires
text-name-requires c = object_utf8 _ (object_at c.args.objects.now c.loop-object.object-index _ (omega arith) c.requires.objects)

pub loop-object-preserved : goal.loop-object-preserved
loop-object-preserved c =
    let lt : c.loop-object.object-index < length c.args.objects.now = omega arith in
    let more = texts_more c.args.objects.now c.loop-object.object-index (record { ref_ptr = (0, 0); now = [] }) lt in
    let before = sym (ap (mentioned _) more) ∙ c.loop-object.invariant.left in
    let found = c.find.ensures.value ∙ ap (number_of c.args.names.now) c.text-name.ensures in
    elim c.if-is_none.branch [
      | then-is_none+in_ok-add w ↦
          let new = w.new-is ∙ w.in_ok-add.ensures.ok in
          let none = sym found ∙ none_is _ (c.is_none.ensures ∙ ap not w.if-is_none.true) in
          record {
            few = rw new (omega (arith, length-with_name));
            left = rw (new, c.text-name.ensures) (left_new c.args.names.now c.loop-object.new (get_or c.args.objects.now c.loop-object.object-index (record { ref_ptr = (0, 0); now = [] })).now (drop (c.loop-object.object-index + 1) (texts c.args.objects.now)) _ none before);
          }
      | else-is_none w ↦
          record {
            few = rw w.new-is (omega arith);
            left = rw w.new-is (left_known c.args.names.now c.loop-object.new (get_or c.args.objects.now c.loop-object.object-index (record { ref_ptr = (0, 0); now = [] })).now (drop (c.loop-object.object-index + 1) (texts c.args.objects.now)) _ _ found (c.is_none.ensures ∙ ap not w.if-is_none.false) before);
          }
    ]

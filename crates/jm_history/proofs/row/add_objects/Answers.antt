use Rattle.std.proofs.Common.{◌<◌, ◌++◌, length, sym, ap, ◌∙◌, arith}
use Rattle.jm_model.specs.Bindings.{objects_of}
use Rattle.jm_history.proofs.ObjectLemmas.{one_more, none_more, left_more, left_within, all_there}
use Rattle.jm_history.proofs.row.add_objects.Goals as goal
use Rattle.jm_history.proofs.row.add_objects.Goals.{in-Some, in_default}

pub loop-rest-preserved : goal.loop-rest-preserved
loop-rest-preserved c =
    let b = c.args.binding.now in
    let start = c.args.objects.now.items ++ objects_of b in
    let l = c.loop-rest in
    let before = l.invariant in
    let inside : l.p < length b = left_within b l.p l.rest before.left c.loop-rest-test.true in
    let left = left_more b l.p l.rest inside before.left in
    elim c.match-get.branch [
      | in-Some w ↦ record {
        so_far = one_more l.objects.items c.match-get.objects.items start b l.p w.in-Some.object (ap (λ v. v.items) w.objects-is ∙ w.push_reserved.ensures.items) (sym c.get.ensures ∙ w.in-Some.is) before.so_far;
        left = left;
        capacity = ap (λ v. v.cap) w.objects-is ∙ w.push_reserved.ensures.capacity ∙ before.capacity;
        room = omega (arith, ap (λ v. v.len) w.objects-is, w.push_reserved.ensures.len, before.room);
        within = omega (arith, inside, c.requires.eight);
      }
      | in_default w ↦ record {
        so_far = none_more l.objects.items c.match-get.objects.items start b l.p (ap (λ v. v.items) w.objects-is) (sym c.get.ensures ∙ w.in_default.is) before.so_far;
        left = left;
        capacity = ap (λ v. v.cap) w.objects-is ∙ before.capacity;
        room = omega (arith, ap (λ v. v.len) w.objects-is, before.room);
        within = omega (arith, inside, c.requires.eight);
      }
    ]

pub returns-clause-objects : goal.returns-clause-objects
returns-clause-objects c =
    let l = c.loop-rest in
    all_there l.objects.items (c.args.objects.now.items ++ objects_of c.args.binding.now) c.args.binding.now l.p l.rest l.invariant.left (omega (arith, c.loop-rest-test.false)) l.invariant.so_far

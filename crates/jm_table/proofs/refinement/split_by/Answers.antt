use Rattle.jm_table.specs.Partitions.{AreNumbered, IsKeyOf}
use Rattle.std.proofs.Common.{OnOk, ◌≡◌, ◌∷◌, [], length, ap, ◌∙◌, arith}
use Rattle.std.proofs.lemmas.List.{length-append}
use Rattle.jm_table.proofs.ClassLemmas.{holds_more}
use Rattle.jm_table.proofs.SplitLemmas.{AreKeys, on_split, split_is_finer, split_is_sound, split_is_stable, split_agrees}
use Rattle.jm_table.proofs.refinement.split_by.Goals as goal

pub loop-state-preserved : goal.loop-state-preserved
loop-state-preserved c =
    let before = c.loop-state.invariant in
    let keys = c.loop-state.keys.items in
    let partition = c.args.partition.now in
    let items = c.in_ok-push.ensures.items in
    record {
      count = ap length items ∙ omega (arith, before.count, length-append keys (c.key_of.result ∷ []));
      each = rw items (holds_more (λ p key. IsKeyOf c.args.test c.args.table.now partition.classes.items partition.firsts.items p key) keys c.key_of.result c.loop-state.state before.count before.each c.key_of.ensures);
    }

-- the keys of all states, where the loop has ended
made : (c : goal.After-drop-keys-2) → AreKeys c.args.test c.args.table.now c.args.partition.now.classes.items c.args.partition.now.firsts.items c.loop-state.keys.items
made c =
    let done = c.loop-state.invariant in
    let all : c.loop-state.state ≡ c.args.table.now.states = omega (arith, c.loop-state-test.false, c.loop-state.auto.state-end, c.len-state-end.ensures.value) in
    record { count = done.count ∙ all; each = λ p lt. done.each p (omega (arith, lt, all)) }

-- what follows from the new classes
by_split : (c : goal.After-drop-keys-2) (Q : Type 0)
    → (AreNumbered c.args.table.now.states c.loop-state.keys.items c.args.partition.now.firsts.items c.split.new.self.classes.items c.split.new.self.firsts.items → Q)
    → OnOk c.split.result Q
by_split c Q follows = on_split c.split.result c.args.table.now.states _ c.deref.result.now _ c.split.new.self.classes.items c.split.new.self.firsts.items Q c.deref.ensures.value (made c).count follows c.split.ensures

pub returns-clause-classes : goal.returns-clause-classes
returns-clause-classes c = by_split c _ (λ numbered. record {
  partition = numbered.partition;
  sound = split_is_sound c.args.table.now c.args.partition.now.classes.items c.args.test _ _ c.requires.classes.partition (made c) _ _ numbered c.requires.table c.requires.classes.sound;
})

pub returns-clause-finer : goal.returns-clause-finer
returns-clause-finer c =
    by_split c _ (λ numbered. split_is_finer c.args.table.now c.args.partition.now.classes.items c.args.test _ _ c.requires.classes.partition (made c) _ _ numbered)

pub returns-clause-agrees : goal.returns-clause-agrees
returns-clause-agrees c = λ group asked.
    by_split c _ (λ numbered. split_agrees c.args.table.now c.args.partition.now.classes.items c.args.test _ _ c.requires.classes.partition (made c) _ _ numbered group asked)

pub returns-clause-stable : goal.returns-clause-stable
returns-clause-stable c = λ letters.
    by_split c _ (λ numbered. split_is_stable c.args.table.now c.args.partition.now.classes.items c.args.test _ _ c.requires.classes.partition (made c) _ _ numbered letters c.requires.table)

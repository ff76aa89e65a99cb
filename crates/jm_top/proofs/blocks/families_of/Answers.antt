use Rattle.std.proofs.Common.{ℕ, List}
use Rattle.jm_semantics.specs.Families.{IsFamily}
use Rattle.jm_machine.specs.Meanings.{rules_meaning}
use Rattle.jm_top.proofs.TextLemmas.{families_push, families_many}
use Rattle.jm_top.proofs.blocks.families_of.Goals as goal

pub loop-letter-preserved : goal.loop-letter-preserved
loop-letter-preserved c = record {
  many = families_many c.loop-letter.families.items c.push.new.self.items c.in_ok-family.family c.loop-letter.letter c.loop-letter.invariant.many c.in_ok-push.ensures.items;
  each = families_push (λ f. f.items) (λ (k : ℕ) (masks : List ℕ). IsFamily (rules_meaning c.args.rules.now.definition) k masks) c.loop-letter.families.items c.push.new.self.items c.in_ok-family.family c.loop-letter.letter c.loop-letter.invariant.many
      c.loop-letter.invariant.each c.in_ok-family.ensures c.in_ok-push.ensures.items;
}

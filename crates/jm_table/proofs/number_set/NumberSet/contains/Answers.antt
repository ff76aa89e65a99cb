use Rattle.std.proofs.Common.{ℕ, ◌/◌, ◌%◌, List, get_or, Contains, subst, sym}
use Rattle.std.proofs.lemmas.Nat.Bits.{shr_and_one}
use Rattle.jm_table.proofs.NumberSetLemmas.{Contains-numbers_of}
use Rattle.jm_table.proofs.number_set.NumberSet.contains.Goals as goal

pub returns-clause-member : goal.returns-clause-member
returns-clause-member g c =
    let member = Contains-numbers_of c.self.inside.words c.args.number in
    rw (← c.self.view_is, shr_and_one (get_or c.self.inside.words (c.args.number / 64) 0) (c.args.number % 64))
    (λ set. member.1 (rw c.self.told c.requires, set), λ there. (member.0 there).1)

pub returns-clause-below : goal.returns-clause-below
returns-clause-below g c = λ other there. rw c.self.told at ((Contains-numbers_of c.self.inside.words other).0 (subst (λ (s : List ℕ). Contains s other) (sym c.self.view_is) there)).0

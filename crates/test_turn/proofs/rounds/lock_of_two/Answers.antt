use Rattle.std.proofs.Common.{arith}
use Rattle.test_turn.proofs.Pops.{popped, still}
use Rattle.test_turn.proofs.rounds.lock_of_two.Goals as goal

pub returns : goal.returns
returns c =
    let n = c.in-Ok.ensures.seats in let all = n.0 in
    let a = c.in_ok-second.ensures in let b = c.in_ok-first.ensures in
    let ok1 = c.pop.new.self.ok in let ok2 = c.pop-2.new.self.ok in
    let la = a.len in let lb = b.len in
    let one = popped _ _ c.in_ok-second.second 1 a.items (omega arith) in
    let zero = still _ _ c.in_ok-second.second c.in_ok-first.first 0 a.items (popped _ _ c.in_ok-first.first 0 b.items (omega arith)) in
    (n.1 0 c.in_ok-first.first zero, n.1 1 c.in_ok-second.second one, c.in-Ok.ensures.lock.0)

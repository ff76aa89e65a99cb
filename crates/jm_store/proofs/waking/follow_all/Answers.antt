use Rattle.std.proofs.Common.{◌≡◌, ℕ, ◌+◌, ◌-◌, ◌<◌, List, [], ◌∷◌, drop, length, refl, sym, ap, ◌∙◌, subst, arith}
use Rattle.jm_store.specs.declared.moves.Move.{Move}
use Rattle.jm_store.specs.Moves.{after_moves, AreApart}
use Rattle.jm_store.specs.Listed.{AreListed}
use Rattle.jm_store.proofs.PlanLemmas.{item_among, drop_next}
use Rattle.jm_store.proofs.ListedLemmas.{apart_drop, for_after}
use Rattle.jm_store.proofs.waking.follow_all.Goals as goal

pub loop-left-init : goal.loop-left-init
loop-left-init g c = record {
  low = omega arith;
  listed = λ rules dead monitors apart each listed.
      subst (λ (l : List (Move g.row.M-State.Denot)). AreListed (g.M.Monitor.meaning (g.M.Monitor.definition rules)) (g.M.Monitor.StandsFor rules) dead (after_moves l monitors) c.args.awake.now)
      (sym (drop_whole c.args.moves.now)) listed;
}
  where
    drop_whole : {X : Type 0} (xs : List X) → drop (length xs) xs ≡ []
    drop_whole [] = refl
    drop_whole (x ∷ xs) = drop_whole xs

pub loop-left-preserved : goal.loop-left-preserved
loop-left-preserved g c =
    let moves = c.args.moves.now in
    let i = c.loop-left.left - 1 in
    let step = c.index-moves-left.result in
    let low : i < length moves = omega (arith, c.loop-left.invariant.low, c.loop-left-test.true) in
    let next : i + 1 ≡ c.loop-left.left = omega (arith, c.loop-left-test.true) in
    let more : drop i moves ≡ step ∷ drop c.loop-left.left moves = drop_next moves i step low c.index-moves-left.is ∙ ap (λ (n : ℕ). step ∷ drop n moves) next in
    record {
      low = omega (arith, low);
      listed = λ rules dead monitors apart each listed.
          let rest = c.loop-left.invariant.listed rules dead monitors apart each listed in
          let split : AreApart (step ∷ drop c.loop-left.left moves) = subst (λ (l : List (Move g.row.M-State.Denot)). AreApart l) more (apart_drop moves i apart) in
          subst (λ (l : List (Move g.row.M-State.Denot)). AreListed (g.M.Monitor.meaning (g.M.Monitor.definition rules)) (g.M.Monitor.StandsFor rules) dead (after_moves l monitors) c.follow.new.awake) (sym more)
          (c.follow.ensures rules dead (after_moves (drop c.loop-left.left moves) monitors)
          (for_after step (drop c.loop-left.left moves) monitors split (each step (item_among moves i step low c.index-moves-left.is))) rest);
    }

pub returns : goal.returns
returns g c =
    let none : c.loop-left.left ≡ 0 = omega (arith, c.loop-left-test.false) in
    λ rules dead monitors apart each listed.
    subst (λ (n : ℕ). AreListed (g.M.Monitor.meaning (g.M.Monitor.definition rules)) (g.M.Monitor.StandsFor rules) dead (after_moves (drop n c.args.moves.now) monitors) c.loop-left.awake) none
    (c.loop-left.invariant.listed rules dead monitors apart each listed)

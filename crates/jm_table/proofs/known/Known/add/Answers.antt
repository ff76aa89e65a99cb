use Rattle.std.proofs.Common.{◌≡◌, ◌<◌, ◌%◌, [], ◌∷◌, ◌++◌, inl, inr, length, map, get_or, sym, ap, ◌∙◌, arith}
use Rattle.std.proofs.lemmas.Bool.{cases_eq}
use Rattle.std.proofs.lemmas.List.{get_or-map}
use Rattle.jm_table.proofs.BucketLemmas.{written_here, written_elsewhere}
use Rattle.jm_table.proofs.known.Known.add.Goals as goal

pub returns-clause-at_key : goal.returns-clause-at_key
returns-clause-at_key c =
    let buckets = c.self.inside.buckets.items in
    let at = c.args.key % 1024 in
    let lt : at < length buckets = omega (arith, c.self.invariant) in
    let old : get_or (map (λ b. b.items) buckets) at [] ≡ c.index_mut-bucket.result.now.items =
    get_or-map (λ b. b.items) buckets at c.index_mut-bucket.result.now [] lt ∙ ap (λ b. b.items) (sym c.index_mut-bucket.ensures.value) in
    rw (← c.self.view_is)
    (written_here (λ b. b.items) buckets at c.push.new.self lt ∙ c.in_ok-push.ensures.items ∙ ap (λ l. l ++ c.args.number ∷ []) (sym old))

pub returns-clause-others : goal.returns-clause-others
returns-clause-others c = λ q.
    let buckets = c.self.inside.buckets.items in
    let at = c.args.key % 1024 in
    let lt : at < length buckets = omega (arith, c.self.invariant) in
    let old : get_or (map (λ b. b.items) buckets) at [] ≡ c.index_mut-bucket.result.now.items =
    get_or-map (λ b. b.items) buckets at c.index_mut-bucket.result.now [] lt ∙ ap (λ b. b.items) (sym c.index_mut-bucket.ensures.value) in
    elim (cases_eq (q % 1024) at) [
      | inl same ↦ inr (rw (← c.self.view_is, same) (written_here (λ b. b.items) buckets at c.push.new.self lt ∙ c.in_ok-push.ensures.items ∙ ap (λ l. l ++ c.args.number ∷ []) (sym old)))
      | inr other ↦ inl (rw (← c.self.view_is) (written_elsewhere (λ b. b.items) buckets at c.push.new.self (q % 1024) other))
    ]

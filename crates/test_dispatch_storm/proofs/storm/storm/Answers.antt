use Rattle.std.proofs.Common.{ap}
use Rattle.std.proofs.lemmas.Option.{slice_get-get_or}
use Rattle.test_dispatch_storm.proofs.storm.storm.Goals as goal

pub all_rounds-requires-clause-seats : goal.all_rounds-requires-clause-seats
all_rounds-requires-clause-seats g c κs within =
    λ k d lt. ap (λ s. s.lock) (c.in_ok-watch.ensures.seats k _ (slice_get-get_or c.in_ok-watch.seats.items k d lt))

use Rattle.std.proofs.Common.{List, inl, subst, sym}
use Rattle.std.specs.Prelude.{Contains}
use Rattle.jm_index.specs.Index.{Pair, IsKeyed}
use Rattle.jm_index.proofs.IndexLemmas.{IsFitting-by, IsFitting-added}
use Rattle.jm_index.proofs.index.Index.add.Goals as goal

pub returns-in_err-make_room-clause-fits : goal.returns-in_err-make_room-clause-fits
returns-in_err-make_room-clause-fits c =
    λ dead fits below. IsFitting-by c.args.self.now c.make_room.new.self dead fits (λ pair there. inl (subst (λ (v : List Pair). Contains v pair) c.in_err-make_room.ensures.list there)) c.in_err-make_room.ensures.dropped
    (subst IsKeyed (sym c.in_err-make_room.ensures.unchanged) fits.keyed)

pub append-requires : goal.append-requires
append-requires c = λ pair there. c.requires pair (subst (λ (v : List Pair). Contains v pair) c.in_ok-make_room.ensures.list there)

pub returns-clause-fits : goal.returns-clause-fits
returns-clause-fits c =
    λ dead fits below. IsFitting-added c.append.result c.args.self.now c.make_room.new.self c.append.new.self dead c.args.binding c.args.slot c.in_ok-make_room.ensures.list c.in_ok-make_room.ensures.dropped c.append.ensures.added
    c.append.ensures.unchanged c.append.ensures.dropped c.append.ensures.keyed fits below

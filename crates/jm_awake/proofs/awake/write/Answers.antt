use Rattle.std.proofs.Common.{ℕ, List, ◌<◌, length, arith, subst}
use Rattle.std.proofs.lemmas.List.{length-map}
use Rattle.jm_awake.proofs.AwakeLemmas.{room_low, row_was, written_here, written_others}
use Rattle.jm_awake.proofs.awake.write.Goals as goal

pub returns-clause-at_key : goal.returns-clause-at_key
returns-clause-at_key c =
    let low : c.args.letter < length c.args.rows.now.items = omega (arith, room_low _ c.args.letter c.args.path c.requires, length-map c.args.rows.now.items (λ r. r.items)) in
    written_here (λ r. r.items) c.args.rows.now.items c.args.letter c.index_mut.result.now c.write_in.new.row low c.index_mut.ensures.value c.args.path c.args.number
    (subst (λ (l : List ℕ). c.args.path < length l) (row_was (λ r. r.items) c.args.rows.now.items c.args.letter c.index_mut.result.now c.write_in.new.row low c.index_mut.ensures.value) c.requires)
    c.write_in.ensures

pub returns-clause-others : goal.returns-clause-others
returns-clause-others c =
    let low : c.args.letter < length c.args.rows.now.items = omega (arith, room_low _ c.args.letter c.args.path c.requires, length-map c.args.rows.now.items (λ r. r.items)) in
    λ e p other. written_others (λ r. r.items) c.args.rows.now.items c.args.letter c.index_mut.result.now c.write_in.new.row low c.index_mut.ensures.value c.args.path c.args.number c.write_in.ensures e p other

use Rattle.std.proofs.Common.{◌≡◌, ◌+◌, length, map, refl, ◌∙◌, arith}
use Rattle.jm_awake.specs.Awake.{number_at}
use Rattle.jm_awake.proofs.AwakeLemmas.{place_made}
use Rattle.jm_awake.proofs.awake.Awake.make_place.Goals as goal

pub returns : goal.returns
returns c = rw (← c.self.view_is)
    (let none = rw (← c.self.view_is) at c.in_default.ensures.none in
    let own = c.self.inside in
    let size : length own.lists.items ≡ c.len-place.result = omega (arith, c.len-place.ensures) in
    let number : number_at (map (λ r. r.items) c.write.new.rows.items) c.args.letter c.args.path ≡ length own.lists.items + 1 = omega (arith, c.write.ensures.at_key, size, c.in-Ok.ensures) in
    rw (← size, c.in_ok-push.ensures.items)
    (place_made c.args.letter c.args.path own.lists.items (map (λ r. r.items) own.rows.items) (map (λ r. r.items) c.write.new.rows.items) own.cards.items own.letters own.masks c.new.result c.new.ensures (none refl) number
    (λ other q differs. c.write.ensures.others other q differs ∙ c.make_room.ensures.unchanged other q)))

use Rattle.std.proofs.Common.{◌≡◌, ◌<◌, length, arith}
use Rattle.std.proofs.lemmas.List.{length-map}
use Rattle.jm_events.specs.declared.chains.Link.{Link}
use Rattle.jm_events.proofs.ChainLemmas.{AreChains-push}
use Rattle.jm_events.proofs.chains.Chains.push_reserved.Goals as goal

pub invariant_of-self : goal.invariant_of-self
invariant_of-self c =
    let links = c.self.inside.links.items in
    let heads = c.self.inside.heads.items in
    let n : c.len-number.result ≡ length c.self.inside.links.items = omega arith in
    let room = rw (← c.self.view_is) at c.requires.room in
    let some : c.len-number.result < length c.self.inside.heads.items = omega (arith, length-map c.self.inside.links.items (λ (link : Link). link.hash), room) in
    rw (c.push_reserved.ensures.items, c.enter-before.ensures.heads)
    (AreChains-push links heads c.args.hash c.enter-before.result c.len-number.result n some c.enter-before.ensures.within c.enter-before.ensures.before c.self.invariant)

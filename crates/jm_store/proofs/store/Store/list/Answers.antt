use Rattle.jm_store.proofs.ListedLemmas.{listed_made}
use Rattle.jm_store.proofs.store.Store.list.Goals as goal

pub returns : goal.returns
returns g c =
    let m = g.M.Monitor.meaning (g.M.Monitor.definition c.args.call.now.rules.now) in
    let Stands = g.M.Monitor.StandsFor c.args.call.now.rules.now in
    let made = rw c.as_slice.ensures.value at c.list_all.ensures in
    let above = c.in-Ok.ensures in
    listed_made m Stands c.args.call.now.objects.now c.args.self.now.monitors c.args.awake.now c.list_all.new.self c.args.call.now.letter.0 c.args.call.now.binding.now c.add_above.new.above.items above.visit above.above made.sound made.on made.present made.lists

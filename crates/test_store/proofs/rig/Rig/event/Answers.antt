use Rattle.std.proofs.Common.{◌≡◌, ◌<◌, Bool, false, List, length, sym, ap, ◌∙◌, subst}
use Rattle.jm_monitors.proofs.DeathLemmas.{object-placed}
use Rattle.jm_monitors.specs.Steps.{IsLiveEvent}
use Rattle.jm_store.specs.Contents.{Contents}
use Rattle.test_store.proofs.rig.Rig.event.Goals as goal

pub fire-requires-clause-event : goal.fire-requires-clause-event
fire-requires-clause-event g c =
    let Seen = g.row.M-Definition.Denot × List Bool × Contents g.row.M-State.Denot in
    let rules : g.M.Monitor.definition c.self.inside.rules.now ≡ c.args.self.now.0 = ap (λ (v : Seen). v.0) c.self.view_is in
    let objects : c.self.inside.objects ≡ c.args.self.now.1 = ap (λ (v : Seen). v.1) c.self.view_is in
    let m = g.M.Monitor.meaning (g.M.Monitor.definition c.self.inside.rules.now) in
    let live : IsLiveEvent m c.self.inside.objects c.args.letter.0 c.args.binding.now = record {
      letter_there = subst (λ n. c.args.letter.0 < n) c.letters.ensures.value c.if-letter-letters.false;
      eight = c.mask.ensures.eight;
      params = sym c.mask.ensures.value ∙ sym c.if-params-mask.false ∙ c.params.ensures;
      live = λ o there.
          let at = object-placed c.args.binding.now o there in
          (c.all_live.ensures c.if-not-all_live.false at.0 o at.1).1;
    } in
    subst (λ (d : g.row.M-Definition.Denot). IsLiveEvent (g.M.Monitor.meaning d) c.args.self.now.1 c.args.letter.0 c.args.binding.now) rules
    (subst (λ (dead : List Bool). IsLiveEvent m dead c.args.letter.0 c.args.binding.now) objects live)

pub fire-requires-clause-in_range : goal.fire-requires-clause-in_range
fire-requires-clause-in_range g c =
    let Seen = g.row.M-Definition.Denot × List Bool × Contents g.row.M-State.Denot in
    let objects : c.self.inside.objects ≡ c.args.self.now.1 = ap (λ (v : Seen). v.1) c.self.view_is in
    λ o at. subst (λ (dead : List Bool). o < length dead) objects (c.all_live.ensures c.if-not-all_live.false at.0 o at.1).0

use Rattle.std.proofs.Common.{List, ℕ, ◌++◌, length, refl, ◌∙◌, ap, subst, arith}
use Rattle.std.specs.Prelude.{option_map}
use Rattle.jm_audit.specs.Places.{IsLeftBehind}
use Rattle.jm_audit.specs.Pending.{IsChoice}
use Rattle.jm_audit.specs.Sheets.{lexicon, IsFit}
use Rattle.jm_audit.specs.declared.pending.Pending.{Pending}
use Rattle.jm_audit.proofs.ProgressLemmas.{at_place, has_room, can_print, ready_next, picked_next, under_next}
use Rattle.jm_audit.proofs.progress.Progress.write_next.Goals as goal

pub next_entry-requires : goal.next_entry-requires
next_entry-requires g c =
    let m = g.M.Monitor.meaning (g.M.Monitor.definition c.args.sheet.now.rules.now) in
    let l = lexicon c.args.objects.now c.args.sheet.now in
    let fit : IsFit m l c.remove-next.result.step =
    at_place (λ (p : Pending). IsFit m l p.step) c.args.self.now.pending.items c.choose-place.result c.remove-next.result (omega (arith, c.choose-place.ensures.in_range)) c.remove-next.ensures.value c.requires.ready.fit in
    record {
      own = fit.0;
      room = has_room l (length c.args.self.now.account.dead.items) c.remove-next.result.step c.requires.ready.room fit.1;
      letters = c.requires.ready.account.instances.letters;
    }

pub render_entry-requires : goal.render_entry-requires
render_entry-requires g c =
    let m = g.M.Monitor.meaning (g.M.Monitor.definition c.args.sheet.now.rules.now) in
    let l = lexicon c.args.objects.now c.args.sheet.now in
    let rest = option_map (λ r. r.now) c.args.rest in
    let choice : IsChoice c.args.self.now.pending.items rest c.choose-place.result = subst (λ (ps : List Pending). IsChoice ps rest c.choose-place.result) c.as_slice.ensures.value c.choose-place.ensures.choice in
    can_print m l c.args.self.now c.requires.ready rest c.choose-place.result choice c.remove-next.result c.remove-next.ensures.value c.in_ok-entry.entry c.in_ok-entry.ensures.source c.next_entry.new.account
    (c.in_ok-entry.ensures.replied c.args.self.now.history.items c.requires.ready.account)

pub returns-clause-ready : goal.returns-clause-ready
returns-clause-ready g c =
    let m = g.M.Monitor.meaning (g.M.Monitor.definition c.args.sheet.now.rules.now) in
    let l = lexicon c.args.objects.now c.args.sheet.now in
    let rest = option_map (λ r. r.now) c.args.rest in
    let choice : IsChoice c.args.self.now.pending.items rest c.choose-place.result = subst (λ (ps : List Pending). IsChoice ps rest c.choose-place.result) c.as_slice.ensures.value c.choose-place.ensures.choice in
    ready_next m l c.args.self.now c.requires.ready rest c.choose-place.result choice c.remove-next.result c.remove-next.ensures.value c.in_ok-entry.entry c.in_ok-entry.ensures.source c.next_entry.new.account
    (c.in_ok-entry.ensures.replied c.args.self.now.history.items c.requires.ready.account) _ c.in_ok-push.ensures.items c.remove-next.ensures.by_index.2 refl c.in_ok-entry.ensures.room

pub returns-clause-written : goal.returns-clause-written
returns-clause-written g c =
    let m = g.M.Monitor.meaning (g.M.Monitor.definition c.args.sheet.now.rules.now) in
    let l = lexicon c.args.objects.now c.args.sheet.now in
    let rest = option_map (λ r. r.now) c.args.rest in
    let choice : IsChoice c.args.self.now.pending.items rest c.choose-place.result = subst (λ (ps : List Pending). IsChoice ps rest c.choose-place.result) c.as_slice.ensures.value c.choose-place.ensures.choice in
    let replied = c.in_ok-entry.ensures.replied c.args.self.now.history.items c.requires.ready.account in
    let block = c.as_slice-2.ensures.value ∙ c.in_ok-block.ensures in
    record {
      entry = c.in_ok-entry.entry;
      history = c.in_ok-push.ensures.items;
      written = c.in_ok-left.ensures.written ∙ ap (λ (t : List ℕ). c.args.written.now.items ++ t) block;
      behind = subst (λ (t : List ℕ). IsLeftBehind t rest (option_map (λ r. r.now) c.in_ok-left.left)) block c.in_ok-left.ensures.left;
      picked = picked_next m l c.args.self.now c.requires.ready rest c.choose-place.result choice c.remove-next.result c.remove-next.ensures.value c.in_ok-entry.entry c.in_ok-entry.ensures.source c.next_entry.new.account replied;
      under = under_next m l c.args.self.now c.requires.ready rest c.choose-place.result choice c.remove-next.result c.remove-next.ensures.value c.in_ok-entry.entry c.in_ok-entry.ensures.source c.next_entry.new.account replied _ _ c.in_ok-push.ensures.items c.remove-next.ensures.by_index.2;
    }

use Rattle.std.proofs.Common.{◌≡◌, ◌<◌, [], ℕ, Some, slice_get, length, sym, ap, ◌∙◌, subst, refl, arith}
use Rattle.std.specs.Prelude.{map}
use Rattle.std.proofs.lemmas.Option.{slice_get_read, slice_get_within}
use Rattle.jm_sync.proofs.CheckLemmas.{length-sync_of, script_at}
use Rattle.jm_runner.specs.Notes.{KnowPosts}
use Rattle.jm_runner.specs.Work.{HaveDone}
use Rattle.jm_runner.proofs.RunLemmas.{first_number, part_of, names_below, some_seat, worked_named}
use Rattle.jm_runner.proofs.WorkLemmas.{both_ok}
use Rattle.jm_runner.proofs.workers.work_one.Goals as goal

pub bounds-cuts-caller : goal.bounds-cuts-caller
bounds-cuts-caller g c =
    let can = c.requires.can in
    let named = c.requires.named in
    let js = g.J.Naming.scripts in
    let jc = g.J.Naming.cuts in
    let jw = g.J.Naming.watches in
    let watches = c.args.watches.now in
    let seats = c.args.hand.seats.items in
    let n = c.number-caller.result in
    let first = slice_get_read seats (length seats) 0 c.index.result.now refl (some_seat can.caller [] watches seats can.some can.idle) c.index.ensures in
    let same : n ≡ can.caller = c.number-caller.ensures ∙ first_number can.caller [] watches seats c.index.result.now can.some can.idle first in
    let there : slice_get js n ≡ Some c.args.hand.lines = ap (λ k. slice_get js k) same ∙ can.script in
    let within : n < length js = slice_get_within js n c.args.hand.lines there in
    omega (arith, within, named.count, length-sync_of c.args.cuts.now)

pub work-requires-clause-seats : goal.work-requires-clause-seats
work-requires-clause-seats g c κs within =
    let can = c.requires.can in
    let named = c.requires.named in
    let js = g.J.Naming.scripts in
    let jc = g.J.Naming.cuts in
    let jw = g.J.Naming.watches in
    let watches = c.args.watches.now in
    let seats = c.args.hand.seats.items in
    let n = c.number-caller.result in
    let first = slice_get_read seats (length seats) 0 c.index.result.now refl (some_seat can.caller [] watches seats can.some can.idle) c.index.ensures in
    let same : n ≡ can.caller = c.number-caller.ensures ∙ first_number can.caller [] watches seats c.index.result.now can.some can.idle first in
    let there : slice_get js n ≡ Some c.args.hand.lines = ap (λ k. slice_get js k) same ∙ can.script in
    let below : n < length js = slice_get_within js n c.args.hand.lines there in
    subst (λ (n : ℕ). HaveDone n [] watches seats) (sym same) can.idle

pub work-requires-clause-part : goal.work-requires-clause-part
work-requires-clause-part g c κs within =
    let can = c.requires.can in
    let named = c.requires.named in
    let js = g.J.Naming.scripts in
    let jc = g.J.Naming.cuts in
    let jw = g.J.Naming.watches in
    let watches = c.args.watches.now in
    let seats = c.args.hand.seats.items in
    let n = c.number-caller.result in
    let first = slice_get_read seats (length seats) 0 c.index.result.now refl (some_seat can.caller [] watches seats can.some can.idle) c.index.ensures in
    let same : n ≡ can.caller = c.number-caller.ensures ∙ first_number can.caller [] watches seats c.index.result.now can.some can.idle first in
    let there : slice_get js n ≡ Some c.args.hand.lines = ap (λ k. slice_get js k) same ∙ can.script in
    let below : n < length js = slice_get_within js n c.args.hand.lines there in
    let cuts = c.args.cuts.now in
    let cut = c.index-cuts-caller.result in
    let lines = script_at cuts n cut (omega (arith, below, named.count, length-sync_of cuts)) c.index-cuts-caller.is in
    part_of js jc (map (λ x. x.lines.items) cuts) jw watches c.args.notices.now named n c.args.hand.lines cut.lines.items there lines

pub work-requires-clause-names : goal.work-requires-clause-names
work-requires-clause-names g c κs within =
    let can = c.requires.can in
    let named = c.requires.named in
    let js = g.J.Naming.scripts in
    let jc = g.J.Naming.cuts in
    let jw = g.J.Naming.watches in
    let watches = c.args.watches.now in
    let seats = c.args.hand.seats.items in
    let n = c.number-caller.result in
    let first = slice_get_read seats (length seats) 0 c.index.result.now refl (some_seat can.caller [] watches seats can.some can.idle) c.index.ensures in
    let same : n ≡ can.caller = c.number-caller.ensures ∙ first_number can.caller [] watches seats c.index.result.now can.some can.idle first in
    let there : slice_get js n ≡ Some c.args.hand.lines = ap (λ k. slice_get js k) same ∙ can.script in
    let below : n < length js = slice_get_within js n c.args.hand.lines there in
    let cuts = c.args.cuts.now in
    let cut = c.index-cuts-caller.result in
    let lines = script_at cuts n cut (omega (arith, below, named.count, length-sync_of cuts)) c.index-cuts-caller.is in
    names_below js jc (map (λ x. x.lines.items) cuts) jw watches c.args.notices.now named n c.args.hand.lines cut.lines.items there lines

pub returns : goal.returns
returns g c =
    let can = c.requires.can in
    let named = c.requires.named in
    let js = g.J.Naming.scripts in
    let jc = g.J.Naming.cuts in
    let jw = g.J.Naming.watches in
    let watches = c.args.watches.now in
    let seats = c.args.hand.seats.items in
    let n = c.number-caller.result in
    let first = slice_get_read seats (length seats) 0 c.index.result.now refl (some_seat can.caller [] watches seats can.some can.idle) c.index.ensures in
    let same : n ≡ can.caller = c.number-caller.ensures ∙ first_number can.caller [] watches seats c.index.result.now can.some can.idle first in
    let there : slice_get js n ≡ Some c.args.hand.lines = ap (λ k. slice_get js k) same ∙ can.script in
    let within : n < length js = slice_get_within js n c.args.hand.lines there in
    let cuts = c.args.cuts.now in
    let cut = c.index-cuts-caller.result in
    let lines = script_at cuts n cut (omega (arith, within, named.count, length-sync_of cuts)) c.index-cuts-caller.is in
    both_ok {P = λ back. HaveDone n c.args.hand.lines watches back.seats.items} {Q = λ back. KnowPosts js jc cut.lines.items back.seats.items} c.work.result
    (λ back done know. worked_named js jc (map (λ x. x.lines.items) cuts) jw watches c.args.notices.now named n c.args.hand.lines cut.lines.items there lines
    seats back.seats.items c.index.result.now can.some first c.number-caller.ensures done know)
    c.work.ensures.done c.work.ensures.know

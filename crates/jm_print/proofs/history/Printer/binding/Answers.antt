use Rattle.std.proofs.Common.{◌≡◌, ◌<◌, ◌++◌, ◌+◌, List, ℕ, false, length, drop, sym, ◌∙◌, ap, subst, arith}
use Rattle.std.specs.Prelude.{OnOk, codes, if◌then◌else◌, []}
use mathlib.Core.Bool.{true≢false}
use Rattle.jm_print.specs.Lexicons.{Lexicon}
use Rattle.jm_print.specs.Texts.{binding_text, pair_text}
use Rattle.jm_print.proofs.PairLemmas.{rest_text, rest_text-none, rest_text-some, names-next, names-here, unbound_text, mask-none, written_pair, at_end}
use Rattle.jm_print.proofs.history.Printer.binding.Goals as goal
use Rattle.jm_print.proofs.history.Printer.binding.Goals.{in-Some+in_ok-pair, in_default}

pub returns-then-mask-eq0 : goal.returns-then-mask-eq0
returns-then-mask-eq0 c =
    let l = c.args.self.now in
    let b = c.args.binding.now in
    subst (λ (t : List ℕ). OnOk c.byte.result (c.byte.new.self ≡ c.args.page.now ++ t)) (sym (unbound_text l 0 b (sym c.mask.ensures.value ∙ c.if-mask-eq0.true))) c.byte.ensures

pub pair-requires : goal.pair-requires
pair-requires c =
    let b = c.args.binding.now in
    names-here c.args.self.now c.loop-p.p c.in-Some.object b (omega (arith, c.mask.ensures.eight, c.params-p-end.ensures.bounded)) (sym c.get.ensures ∙ c.in-Some.is) c.loop-p.invariant.names

pub loop-p-preserved : goal.loop-p-preserved
loop-p-preserved c =
    let l = c.args.self.now in
    let b = c.args.binding.now in
    let p = c.loop-p.p in
    let all = c.args.page.now ++ binding_text l b in
    let within : p < length b = omega (arith, c.mask.ensures.eight, c.params-p-end.ensures.bounded) in
    let later = drop (p + 1) b in
    elim c.match-get.branch [
      | in-Some+in_ok-pair w ↦
          let bound = sym c.get.ensures ∙ w.in-Some.is in
          let lead : List ℕ = if c.loop-p.first then [] else codes "," in
          let pair = pair_text l p w.in-Some.object in
          let rest = rest_text false l (p + 1) later in
          let before : c.loop-p.page ++ (lead ++ pair ++ rest) ≡ all = ap (λ t. c.loop-p.page ++ t) (sym (rest_text-some c.loop-p.first l p w.in-Some.object b within bound)) ∙ c.loop-p.invariant.so_far in
          record {
            names = names-next l p b within c.loop-p.invariant.names;
            some = λ is. absurd (true≢false (sym is ∙ w.first-is));
            so_far = (λ j. (w.page-is ∙ w.in_ok-pair.ensures) j ++ rest_text (w.first-is j) l (p + 1) later) ∙ written_pair lead pair c.loop-p.page rest all before;
          }
      | in_default w ↦
          let unbound = sym c.get.ensures ∙ w.in_default.is in
          record {
            names = names-next l p b within c.loop-p.invariant.names;
            some = λ is. mask-none p b within unbound (c.loop-p.invariant.some (sym w.first-is ∙ is));
            so_far =
                (λ j. w.page-is j ++ rest_text (w.first-is j) l (p + 1) later)
                ∙ ap (λ t. c.loop-p.page ++ t) (sym (rest_text-none c.loop-p.first l p b within unbound)) ∙ c.loop-p.invariant.so_far;
          }
    ]

pub returns : goal.returns
returns c =
    let many : length c.self.inside.table.now.parameters ≡ length c.args.self.now.parameters = ap (λ (l : Lexicon). length l.parameters) c.self.view_is in
    at_end c.loop-p.first c.args.self.now c.loop-p.p c.args.binding.now c.loop-p.page (c.args.page.now ++ binding_text c.args.self.now c.args.binding.now)
    (omega (arith, many, c.params-p-end.ensures.value, c.loop-p-test.false)) c.loop-p.invariant.names c.loop-p.invariant.some c.loop-p.invariant.so_far

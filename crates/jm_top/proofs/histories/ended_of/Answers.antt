use Rattle.std.proofs.Common.{◌≡◌, sym, ap, ◌∙◌}
use Rattle.std.specs.Prelude.{map}
use Rattle.std.proofs.lemmas.List.{map-append}
use Rattle.std.proofs.lemmas.Iterator.Adapters.{YieldsList-from_vec}
use Rattle.std.proofs.lemmas.Iterator.Consumers.{YieldsList-end}
use Rattle.jm_top.proofs.HistoryLemmas.{map_same}
use Rattle.jm_top.proofs.TextLemmas.{mapped_more}
use Rattle.jm_top.proofs.histories.ended_of.Goals as goal

pub loop-prop-preserved : goal.loop-prop-preserved
loop-prop-preserved c =
    let inv = c.loop-prop.invariant in
    record {
      rules = mapped_more (λ e. e.rules) (λ p. p.definition) _ _ _ _ _ inv.rules c.in_ok-push.ensures.items c.into_parts-rules.ensures.rules;
      histories = mapped_more (λ e. e.history) (λ p. p.entries) _ _ _ _ _ inv.histories c.in_ok-push.ensures.items c.into_parts-rules.ensures.history;
    }

pub returns-clause-rules : goal.returns-clause-rules
returns-clause-rules c =
    let props = c.args.props.items in
    let b = c.into_iter-prop-iterator.ensures.into_iter_gives in
    let t = YieldsList-end (YieldsList-from_vec {s = c.into_iter-prop-iterator.result} props b.0 (b.1 ∙ c.args.props.ok.0)) c.loop-prop.yielded c.loop-prop.prop-iterator c.loop-prop.yielded_by c.next.result c.next.new.self c.in-None.is c.next.ensures.steps in
    let all : c.loop-prop.yielded ≡ props = sym (map_same c.loop-prop.yielded) ∙ t.0 in
    c.loop-prop.invariant.rules ∙ ap (map (λ p. p.definition)) all

pub returns-clause-histories : goal.returns-clause-histories
returns-clause-histories c =
    let props = c.args.props.items in
    let b = c.into_iter-prop-iterator.ensures.into_iter_gives in
    let t = YieldsList-end (YieldsList-from_vec {s = c.into_iter-prop-iterator.result} props b.0 (b.1 ∙ c.args.props.ok.0)) c.loop-prop.yielded c.loop-prop.prop-iterator c.loop-prop.yielded_by c.next.result c.next.new.self c.in-None.is c.next.ensures.steps in
    let all : c.loop-prop.yielded ≡ props = sym (map_same c.loop-prop.yielded) ∙ t.0 in
    c.loop-prop.invariant.histories ∙ ap (map (λ p. p.entries)) all

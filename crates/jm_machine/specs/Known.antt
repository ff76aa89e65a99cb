-- What compiled rules know beside their property: what may still follow.
use Rattle.std.specs.Prelude.{◌≡◌, ◌<◌, Bool, [], All, map}
use Rattle.jm_events.specs.Events.{EventDefinitions}
use Rattle.jm_goal.specs.Goals.{GoalDefinition}
use Rattle.jm_earley.specs.Charts.{IsChartOf}
use Rattle.jm_machine.specs.declared.engine.Engine.{Engine}
use Rattle.jm_machine.specs.declared.engine.Engine.TheVariants.{States, Parses}
use Rattle.jm_machine.specs.declared.prepared_engine.PreparedEngine.{PreparedEngine}
use Rattle.jm_machine.specs.declared.prepared_engine.PreparedEngine.TheVariants.{Table, Grammar}
use Rattle.jm_machine.specs.Formulas.{is_grammar}
use Rattle.jm_machine.specs.PropertyMeanings.{PropertyRules, is_failing_grammar}
use Rattle.jm_machine.specs.Engines.{is_parsing, HasParams}
use Rattle.jm_machine.specs.Liveness.{AreFactsOf, AreFirstCharts}

-- what runs the formula, without what may still follow
abbrev pub engine_of : PreparedEngine → Engine
engine_of (Table t facts) = States t
engine_of (Grammar c facts) = Parses c

-- what may still follow is that of the table, or of the charts
abbrev pub IsPrepared : GoalDefinition → EventDefinitions → Bool → PreparedEngine → Type 0
IsPrepared goal events coarse (Table t facts) = AreFactsOf t goal events facts
IsPrepared goal events coarse (Grammar c facts) =
    IsChartOf c [] facts.begin × AreFirstCharts c facts.firsts × (facts.coarse ≡ coarse)

-- what the rules keep: events of these masks, charts for a grammar alone, and what may still follow
pub record IsKnown (d : PropertyRules) (goal : GoalDefinition) (engine : PreparedEngine) : Type 0 where
  pub events : EventDefinitions
  pub masks : d.masks ≡ map (λ e. e.mask) events.events
  pub few : All (λ mask. mask < 256) d.masks
  pub kind : is_parsing (engine_of engine) ≡ is_grammar d.formula
  pub bound : HasParams d.masks (engine_of engine)
  pub told : IsPrepared goal events (is_failing_grammar d) engine

-- Rules may be moved to another thread, and threads may share them. Each part is shown by itself, and then cited where
-- it stands in the next: a search for all of it at once ends at its limit.
use Rattle.std.proofs.Crossing.{crosses}
use Rattle.std.proofs.MapsCrossing.{crosses as maps}
use Rattle.jm_ere.proofs.tree.Tree.TheLaws.TheKnot.{crosses as tree}
use Rattle.jm_machine.specs.contracts.rules.Rules as Rules
use Rattle.jm_machine.specs.contracts.property.Property as Property
use Rattle.jm_machine.specs.contracts.formula.Formula as Formula
use Rattle.jm_machine.specs.contracts.prepared_engine.PreparedEngine as PreparedEngine
use Rattle.jm_events.specs.contracts.names.Names as Names
use Rattle.jm_goal.specs.contracts.goal.Goal as Goal
use Rattle.jm_machine.specs.contracts.table_liveness.TableLiveness as TableLiveness
use Rattle.jm_machine.specs.contracts.grammar_liveness.GrammarLiveness as GrammarLiveness
use Rattle.jm_table.specs.contracts.table.Table as Table
use Rattle.jm_earley.specs.contracts.chart.Charts as Charts
use Rattle.jm_earley.specs.contracts.chart.Chart as Chart
use denote.Param.Send.{IsSend, IsSync, sendable}

-- ---- they may be moved

names_crosses : IsSend Names.the_field.row
names_crosses = search (crosses, maps, sendable) depth 100 fits 20000

goal_crosses : IsSend Goal.the_field.row
goal_crosses = search (crosses, maps, sendable) depth 100 fits 20000

formula_crosses : IsSend Formula.the_field.row
formula_crosses = search (tree, crosses, maps, sendable) depth 100 fits 20000

table_crosses : IsSend Table.the_field.row
table_crosses = search (crosses, maps, sendable) depth 100 fits 20000

charts_crosses : IsSend Charts.the_field.row
charts_crosses = search (crosses, maps, sendable) depth 100 fits 20000

table_liveness_crosses : IsSend TableLiveness.the_row
table_liveness_crosses = search (crosses, maps, sendable) depth 100 fits 20000

chart_crosses : IsSend Chart.the_row
chart_crosses = search (crosses, maps, sendable) depth 100 fits 20000

grammar_liveness_crosses : IsSend GrammarLiveness.the_row
grammar_liveness_crosses = search (chart_crosses, crosses, maps, sendable) depth 100 fits 20000

engine_crosses : IsSend PreparedEngine.the_field.row
engine_crosses =
    search (table_crosses, charts_crosses, table_liveness_crosses, grammar_liveness_crosses, crosses, maps, sendable)
    depth 100 fits 20000

property_crosses : IsSend Property.the_row
property_crosses =
    search (formula_crosses, engine_crosses, names_crosses, goal_crosses, crosses, maps, sendable)
    depth 100 fits 20000

pub rules_cross : IsSend Rules.the_row
rules_cross = search (property_crosses, names_crosses, crosses, maps, sendable) depth 100 fits 20000

-- ---- threads may share them

names_shared : IsSync Names.the_field.row
names_shared = search (crosses, maps, sendable) depth 100 fits 20000

goal_shared : IsSync Goal.the_field.row
goal_shared = search (crosses, maps, sendable) depth 100 fits 20000

formula_shared : IsSync Formula.the_field.row
formula_shared = search (tree, crosses, maps, sendable) depth 100 fits 20000

table_shared : IsSync Table.the_field.row
table_shared = search (crosses, maps, sendable) depth 100 fits 20000

charts_shared : IsSync Charts.the_field.row
charts_shared = search (crosses, maps, sendable) depth 100 fits 20000

table_liveness_shared : IsSync TableLiveness.the_row
table_liveness_shared = search (crosses, maps, sendable) depth 100 fits 20000

chart_shared : IsSync Chart.the_row
chart_shared = search (crosses, maps, sendable) depth 100 fits 20000

grammar_liveness_shared : IsSync GrammarLiveness.the_row
grammar_liveness_shared = search (chart_shared, crosses, maps, sendable) depth 100 fits 20000

engine_shared : IsSync PreparedEngine.the_field.row
engine_shared =
    search (table_shared, charts_shared, table_liveness_shared, grammar_liveness_shared, crosses, maps, sendable)
    depth 100 fits 20000

property_shared : IsSync Property.the_row
property_shared =
    search (formula_shared, engine_shared, names_shared, goal_shared, crosses, maps, sendable)
    depth 100 fits 20000

pub rules_shared : IsSync Rules.the_row
rules_shared = search (property_shared, names_shared, crosses, maps, sendable) depth 100 fits 20000

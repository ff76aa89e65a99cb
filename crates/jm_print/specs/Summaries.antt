-- The summary of a history: one line of counts, each modulo 2^64.
use Rattle.std.specs.Prelude.{ℕ, ◌%◌, ◌^◌, List, ◌++◌, length, codes, decimal, sum_by}
use Rattle.jm_model.specs.Words.{Text}
use Rattle.jm_model.specs.declared.step.Step.{Step}
use Rattle.jm_model.specs.declared.step.Step.TheVariants.{Event, Death, Pass}
use Rattle.jm_model.specs.declared.step.Outcome.{Outcome}
use Rattle.jm_model.specs.declared.step.Outcome.TheVariants.{Fired, Refused}
use Rattle.jm_model.specs.declared.step.Entry.{Entry}
use Rattle.jm_print.specs.declared.summary.Measure.{Measure}
use Rattle.jm_print.specs.declared.summary.Measure.TheVariants.{Events, Firings, Refusals, Deaths, Passes}

-- what a step and its outcome add to a count
abbrev pub weight_of : Measure → Step → Outcome → ℕ
weight_of Events (Event e b) o = 1
weight_of Deaths (Death q) o = 1
weight_of Passes Pass o = 1
weight_of Refusals s (Refused q) = 1
weight_of Firings s (Fired firings) = length firings
weight_of _ _ _ = 0

-- a count of a history
abbrev pub count_of : Measure → List Entry → ℕ
count_of what h = sum_by (λ x. weight_of what x.step x.outcome) h % 2 ^ 64

-- the summary of a history of the specification of this name
abbrev pub summary_text : Text → List Entry → Text
summary_text name h =
    codes "spec " ++ name ++ codes " events " ++ decimal (count_of Events h) ++ codes " fired "
    ++ decimal (count_of Firings h)
    ++ codes " refused " ++ decimal (count_of Refusals h) ++ codes " deaths " ++ decimal (count_of Deaths h)
    ++ codes " passes " ++ decimal (count_of Passes h) ++ codes "\n"

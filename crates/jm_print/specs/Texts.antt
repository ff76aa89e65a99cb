-- The printed text of a history.
use Rattle.std.specs.Prelude.{ℕ, ◌+◌, ◌<◌, List, [], ◌∷◌, ◌++◌, length, codes, decimal, Some, None, All}
use Rattle.std.specs.List.{flat_map}
use Rattle.jm_model.specs.Words.{Text}
use Rattle.jm_model.specs.declared.binding.Binding.{Binding}
use Rattle.jm_model.specs.declared.firings.Firing.{Firing}
use Rattle.jm_model.specs.declared.step.Step.{Step}
use Rattle.jm_model.specs.declared.step.Step.TheVariants.{Event, Death, Pass}
use Rattle.jm_model.specs.declared.step.Outcome.{Outcome}
use Rattle.jm_model.specs.declared.step.Outcome.TheVariants.{Fired, Refused, Done, Kept}
use Rattle.jm_model.specs.declared.step.Entry.{Entry}
use Rattle.jm_handler.specs.Renderings.{occasion, handler_text}
use Rattle.jm_print.specs.Lexicons.{Lexicon, name_of, statements_of}

-- a parameter with its object
abbrev pub pair_text : Lexicon → ℕ → ℕ → Text
pair_text l p o = name_of l.parameters p ++ codes "=" ++ name_of l.objects o

-- the pairs of the parameters from p on, each after a comma
abbrev pub later_pairs_text : Lexicon → ℕ → Binding → Text
later_pairs_text l p [] = []
later_pairs_text l p (None ∷ b) = later_pairs_text l (p + 1) b
later_pairs_text l p (Some o ∷ b) = codes "," ++ pair_text l p o ++ later_pairs_text l (p + 1) b

-- the pairs of the parameters from p on, with commas between, or a dash where there is none
abbrev pub pairs_text : Lexicon → ℕ → Binding → Text
pairs_text l p [] = codes "-"
pairs_text l p (None ∷ b) = pairs_text l (p + 1) b
pairs_text l p (Some o ∷ b) = pair_text l p o ++ later_pairs_text l (p + 1) b

-- a binding
abbrev pub binding_text : Lexicon → Binding → Text
binding_text l b = pairs_text l 0 b

-- ---- the lines of the entries
-- the line of a handler that ran
abbrev pub firing_text : Lexicon → Firing → Text
firing_text l f = codes "  @" ++ name_of l.handlers f.handler ++ codes " " ++ binding_text l f.instance ++ codes "\n"

-- what is said of a step and its outcome, with the lines that follow, where this is the text of a handler that ran
abbrev pub outcome_text : (Firing → Text) → Lexicon → Step → Outcome → Text
outcome_text run l (Event e b) (Fired firings) =
    name_of l.events e.0 ++ codes " " ++ binding_text l b ++ codes " fired " ++ decimal (length firings) ++ codes "\n"
    ++ flat_map run firings
outcome_text run l (Event e b) (Refused o) =
    name_of l.events e.0 ++ codes " " ++ binding_text l b ++ codes " refused " ++ name_of l.objects o ++ codes "\n"
outcome_text run l (Death o) Done = codes "death " ++ name_of l.objects o ++ codes " done\n"
outcome_text run l (Death o) (Refused q) =
    codes "death " ++ name_of l.objects o ++ codes " refused " ++ name_of l.objects q ++ codes "\n"
outcome_text run l Pass (Kept n) = codes "pass kept " ++ decimal n ++ codes "\n"
outcome_text run l _ _ = []

-- the same without the handlers' own lines
abbrev pub step_text : Lexicon → Step → Outcome → Text
step_text l s o = outcome_text (firing_text l) l s o

-- an entry, without the handlers' own lines
abbrev pub entry_text : Lexicon → Entry → Text
entry_text l x = decimal x.caller ++ codes ":" ++ decimal x.line ++ codes " " ++ step_text l x.step x.outcome

-- the lines of a history without the handlers' own
abbrev pub bare_text : Lexicon → List Entry → Text
bare_text l h =
    codes "spec " ++ l.specification ++ codes "\n" ++ flat_map (entry_text l) h
    ++ codes "end " ++ decimal (length h) ++ codes "\n"

-- ---- with the handlers' own lines
-- a handler that ran at an event on a line of a caller: its line, and what it prints
abbrev pub run_text_at : Lexicon → ℕ → ℕ → Firing → Text
run_text_at l caller line f =
    firing_text l f
    ++ handler_text (occasion f.instance l.objects caller line) (statements_of l.statements f.handler)

-- a handler that ran at an entry
abbrev pub run_text : Lexicon → Entry → Firing → Text
run_text l x f = run_text_at l x.caller x.line f

-- an entry
abbrev pub full_entry_text : Lexicon → Entry → Text
full_entry_text l x =
    decimal x.caller ++ codes ":" ++ decimal x.line ++ codes " " ++ outcome_text (run_text l x) l x.step x.outcome

-- a history
abbrev pub history_text : Lexicon → List Entry → Text
history_text l h =
    codes "spec " ++ l.specification ++ codes "\n" ++ flat_map (full_entry_text l) h
    ++ codes "end " ++ decimal (length h) ++ codes "\n"

-- ---- what can be printed
-- each parameter from p on that is bound has a name, and so has its object
abbrev pub HasNamesFrom : Lexicon → ℕ → Binding → Type 0
HasNamesFrom l p [] = Unit {0}
HasNamesFrom l p (None ∷ b) = HasNamesFrom l (p + 1) b
HasNamesFrom l p (Some o ∷ b) = (p < length l.parameters) × (o < length l.objects) × HasNamesFrom l (p + 1) b

-- the handler and its instance have names
abbrev pub IsPrintableFiring : Lexicon → Firing → Type 0
IsPrintableFiring l f = (f.handler < length l.handlers) × HasNamesFrom l 0 f.instance

-- a step and its outcome have names, and aren't out of memory
abbrev pub IsPrintableStep : Lexicon → Step → Outcome → Type 0
IsPrintableStep l (Event e b) (Fired firings) =
    (e.0 < length l.events) × HasNamesFrom l 0 b × All (IsPrintableFiring l) firings
IsPrintableStep l (Event e b) (Refused o) = (e.0 < length l.events) × HasNamesFrom l 0 b × (o < length l.objects)
IsPrintableStep l (Death o) Done = o < length l.objects
IsPrintableStep l (Death o) (Refused q) = (o < length l.objects) × (q < length l.objects)
IsPrintableStep l Pass (Kept n) = Unit {0}
IsPrintableStep l _ _ = ⊥

-- an entry can be printed
abbrev pub IsPrintable : Lexicon → Entry → Type 0
IsPrintable l x = IsPrintableStep l x.step x.outcome

-- What the program says of a command that wasn't done.
use Rattle.std.specs.Prelude.{ℕ, ◌+◌, [], ◌∷◌, ◌++◌, codes, Option, Some, None}
use Rattle.std.specs.Fmt.{decimal}
use Rattle.jm_model.specs.Words.{Text}
use Rattle.jm_model.specs.declared.fault.Counted.{Counted}
use Rattle.jm_model.specs.declared.fault.Counted.TheVariants.{Parameters, Events, Handlers, Aliases, Nodes, Nesting, Term, Subformulas, Nonterminals, Productions, Symbols, Properties}
use Rattle.jm_model.specs.declared.fault.SpecFault.{SpecFault}
use Rattle.jm_model.specs.declared.fault.SpecFault.TheVariants as spec
use Rattle.jm_model.specs.declared.fault.ScriptFault.{ScriptFault}
use Rattle.jm_model.specs.declared.fault.ScriptFault.TheVariants as script
use Rattle.jm_inputs.specs.declared.status.Status.{Status}
use Rattle.jm_inputs.specs.declared.status.Status.TheVariants.{Done, Usage, BadSpec, BadScript, ReadFailed, WriteFailed, NoMemory, BadHistory}

-- what too many things of a kind are called
abbrev pub counted_words : Counted → Text
counted_words Parameters = codes "too many parameters"
counted_words Events = codes "too many events"
counted_words Handlers = codes "too many handlers"
counted_words Aliases = codes "too many aliases"
counted_words Nodes = codes "too many nodes"
counted_words Nesting = codes "too many nesting"
counted_words Term = codes "too many term"
counted_words Subformulas = codes "too many subformulas"
counted_words Nonterminals = codes "too many nonterminals"
counted_words Productions = codes "too many productions"
counted_words Symbols = codes "too many symbols"
counted_words Properties = codes "too many properties"

-- what a fault of a specification is called
abbrev pub spec_words : SpecFault → Text
spec_words spec.TooLong = codes "too long"
spec_words spec.NotUtf8 = codes "not UTF-8"
spec_words (spec.OpenText line) = codes "open text"
spec_words (spec.Syntax line) = codes "syntax"
spec_words (spec.UnsupportedModifier line) = codes "unsupported modifier"
spec_words (spec.UnsupportedAdvice line) = codes "unsupported advice"
spec_words spec.NoProperty = codes "no property"
spec_words (spec.UnsupportedLogic line) = codes "unsupported logic"
spec_words (spec.DuplicateParameter line) = codes "duplicate parameter"
spec_words (spec.DuplicateEvent line) = codes "duplicate event"
spec_words (spec.DuplicateState line) = codes "duplicate state"
spec_words (spec.DuplicateTransition line) = codes "duplicate transition"
spec_words (spec.DuplicateHandler line) = codes "duplicate handler"
spec_words (spec.UnknownName line) = codes "unknown name"
spec_words (spec.UnknownCategory line) = codes "unknown category"
spec_words (spec.NameClash line) = codes "name clash"
spec_words (spec.ReservedName line) = codes "reserved name"
spec_words (spec.ResetWithFullBinding line) = codes "reset with full binding"
spec_words (spec.UnsupportedSuffix line) = codes "unsupported suffix"
spec_words (spec.TooMany what) = counted_words what
spec_words spec.TooManyStates = codes "too many states"
spec_words spec.DuplicateSpec = codes "duplicate specification"

-- its line, where it has one
abbrev pub spec_line : SpecFault → Option ℕ
spec_line (spec.OpenText line) = Some line
spec_line (spec.Syntax line) = Some line
spec_line (spec.UnsupportedModifier line) = Some line
spec_line (spec.UnsupportedAdvice line) = Some line
spec_line (spec.UnsupportedLogic line) = Some line
spec_line (spec.DuplicateParameter line) = Some line
spec_line (spec.DuplicateEvent line) = Some line
spec_line (spec.DuplicateState line) = Some line
spec_line (spec.DuplicateTransition line) = Some line
spec_line (spec.DuplicateHandler line) = Some line
spec_line (spec.UnknownName line) = Some line
spec_line (spec.UnknownCategory line) = Some line
spec_line (spec.NameClash line) = Some line
spec_line (spec.ReservedName line) = Some line
spec_line (spec.ResetWithFullBinding line) = Some line
spec_line (spec.UnsupportedSuffix line) = Some line
spec_line _ = None

-- what a fault of a script is called
abbrev pub script_words : ScriptFault → Text
script_words script.TooLong = codes "too long"
script_words (script.BadLine line) = codes "bad line"
script_words (script.UnknownSpec line) = codes "unknown specification"
script_words (script.UnknownEvent line) = codes "unknown event"
script_words (script.WrongCount line) = codes "wrong count"
script_words (script.TooManyObjects line) = codes "too many objects"
script_words (script.TooManyLines line) = codes "too many lines"
script_words (script.TooManyNotes line) = codes "too many notes"
script_words (script.DuplicatePost line) = codes "duplicate post"
script_words (script.Stuck line) = codes "stuck"

-- its line, where it has one
abbrev pub script_line : ScriptFault → Option ℕ
script_line (script.BadLine line) = Some line
script_line (script.UnknownSpec line) = Some line
script_line (script.UnknownEvent line) = Some line
script_line (script.WrongCount line) = Some line
script_line (script.TooManyObjects line) = Some line
script_line (script.TooManyLines line) = Some line
script_line (script.TooManyNotes line) = Some line
script_line (script.DuplicatePost line) = Some line
script_line (script.Stuck line) = Some line
script_line _ = None

abbrev pub line_part : Option ℕ → Text
line_part None = []
line_part (Some line) = codes ", line " ++ decimal line

-- the line on a fault of a specification or a script, which are counted from 1 here
abbrev pub fault_line : Text → ℕ → Option ℕ → Text → Text
fault_line kind number line words =
    codes "jmop: " ++ kind ++ codes " " ++ decimal (number + 1) ++ line_part line ++ codes ": " ++ words ++ 10 ∷ []

-- the line on a file that couldn't be read
abbrev pub unreadable_line : ℕ → Text
unreadable_line file = codes "jmop: file " ++ decimal (file + 1) ++ (codes " cannot be read" ++ 10 ∷ [])

-- how the program is called, a line for each command
abbrev pub usage_text : Text
usage_text =
    codes "usage: jmop replay SPEC SCRIPT" ++ 10 ∷ []
    ++ codes "       jmop run SPEC.. -- SCRIPT.." ++ 10 ∷ []
    ++ codes "       jmop check SPEC.." ++ 10 ∷ []
    ++ codes "       jmop coenable SPEC.." ++ 10 ∷ []
    ++ codes "       jmop gen N" ++ 10 ∷ []
    ++ codes "       jmop sweep SPEC RECORDING" ++ 10 ∷ []
    ++ codes "       jmop audit HISTORY SPEC.. -- SCRIPT.." ++ 10 ∷ []

-- what the error sink is given
abbrev pub fault_text_of : Status → Text
fault_text_of Done = []
fault_text_of Usage = usage_text
fault_text_of (BadSpec file fault) = fault_line (codes "specification") file (spec_line fault) (spec_words fault)
fault_text_of (BadScript number fault) = fault_line (codes "script") number (script_line fault) (script_words fault)
fault_text_of (ReadFailed file) = unreadable_line file
fault_text_of WriteFailed = codes "jmop: the output cannot be written" ++ 10 ∷ []
fault_text_of NoMemory = codes "jmop: no memory" ++ 10 ∷ []
fault_text_of BadHistory = codes "jmop: the history is too long" ++ 10 ∷ []

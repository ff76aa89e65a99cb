-- Short texts that are kept ready: that of a caller and a line, and what stands in front of the object of an event.
use Rattle.std.specs.Prelude.{ℕ, ◌≡◌, ◌≢◌, ◌<◌, ◌≤◌, ◌^◌, List, ◌++◌, codes, decimal, length, take, slice_get, Some}
use Rattle.jm_model.specs.Words.{Text}
use Rattle.jm_events.specs.Events.{EventDefinitions, event_names}
use Rattle.jm_print.specs.Lexicons.{Lexicon, name_of}
use Rattle.jm_print.specs.declared.short.ShortText.{ShortText}
use Rattle.jm_print.specs.declared.head.Head.{Head}

-- the text that a row of bytes begins with
abbrev pub short_text : ShortText → Text
short_text t = take t.len t.bytes

abbrev pub IsShort : ShortText → Type 0
IsShort t = (t.len ≤ 32) × (length t.bytes ≡ 32)

-- a caller and a line of its script, with what stands after each
abbrev pub place_text : ℕ → ℕ → Text
place_text caller line = decimal caller ++ codes ":" ++ decimal line ++ codes " "

-- an event of one parameter, up to the object
abbrev pub head_text : Lexicon → ℕ → ℕ → Text
head_text l letter p = name_of l.events letter ++ codes " " ++ name_of l.parameters p ++ codes "="

-- what stands in front of the object of an event with this letter, which binds the parameter of this mask
abbrev pub IsHeadText : Lexicon → ℕ → ℕ → ShortText → Type 0
IsHeadText l letter mask text =
    (p : ℕ) × (p < 8) × (mask ≡ 2 ^ p) × IsShort text × (short_text text ≡ head_text l letter p)

-- a head of events with this letter, unless its mask is 0
abbrev pub IsHeadOf : Lexicon → ℕ → Head → Type 0
IsHeadOf l letter head = head.mask ≢ 0 → IsHeadText l letter head.mask head.text

-- the lexicon names the events and the parameters as a table does
abbrev pub IsNamedBy : Lexicon → EventDefinitions → Type 0
IsNamedBy l table = (l.events ≡ event_names table) × (l.parameters ≡ table.parameters)

-- each is the head of its letter
abbrev pub AreHeads : Lexicon → List Head → Type 0
AreHeads l heads = (letter : ℕ) (head : Head) → slice_get heads letter ≡ Some head → IsHeadOf l letter head

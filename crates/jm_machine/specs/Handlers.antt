-- What is wrong with the handlers of a specification, step by step, and which of them reset their property.
use Rattle.std.specs.Prelude.{ℕ, ◌+◌, ◌≡◌, Bool, true, false, not, ◌||◌, List, [], ◌∷◌, ◌++◌, length, map, filter, slice_get, All, Option, Some, None, codes, nat_le, slice_range, if◌then◌else◌}
use Rattle.std.specs.List.{range_with_len, list_any}
use Rattle.std.specs.Option.{option_map_or}
use Rattle.std.specs.Str.{bytes_eq}
use Rattle.jm_model.specs.Words.{Text}
use Rattle.jm_model.specs.declared.fault.Counted.TheVariants.{Handlers}
use Rattle.jm_model.specs.declared.fault.SpecFault.{SpecFault}
use Rattle.jm_model.specs.declared.fault.SpecFault.TheVariants.{TooMany, DuplicateHandler, UnknownCategory, ResetWithFullBinding, UnsupportedSuffix}
use Rattle.jm_text.specs.declared.token.Token.{Token}
use Rattle.jm_text.specs.Texts.{is_word}
use Rattle.jm_reading.specs.Tokens.{name_of}
use Rattle.jm_reading.specs.Faults.{or_else}
use Rattle.jm_goal.specs.Goals.{most_handlers}
use Rattle.jm_spec.specs.declared.property.HandlerText.{HandlerText}
use Rattle.jm_spec.specs.declared.tree.Logic.{Logic}
use Rattle.jm_spec.specs.declared.tree.Logic.TheVariants.{Fsm, Ere, Cfg, Ptltl}
use Rattle.jm_spec.specs.Trees.{PropertyFacts}
use Rattle.jm_machine.specs.declared.formula.Formula.{Formula}
use Rattle.jm_machine.specs.Formulas.{category_names}

-- each of these names is one of the categories
abbrev pub AreCategories : List Text → List Text → Type 0
AreCategories categories names = All (λ name. list_any (bytes_eq name) categories ≡ true) names

-- how many handlers the properties have together, and whether there are more than 16
abbrev pub handlers_in : List PropertyFacts → ℕ
handlers_in [] = 0
handlers_in (p ∷ ps) = length p.handlers + handlers_in ps

abbrev pub count_fault : List PropertyFacts → Option SpecFault
count_fault ps = if nat_le (handlers_in ps) most_handlers then None else Some (TooMany Handlers)

-- the fault of the first property that has one
abbrev pub first_fault : (PropertyFacts → Option SpecFault) → List PropertyFacts → Option SpecFault
first_fault f [] = None
first_fault f (p ∷ ps) = or_else (f p) (first_fault f ps)

-- the logic says a language, of which `match` is the category
abbrev pub has_language : Logic → Bool
has_language Ere = true
has_language Cfg = true
has_language Fsm = false
has_language Ptltl = false

module _ (bytes : Text) where
  -- the names of the categories that are handled
  abbrev pub handler_names : List HandlerText → List Text
  handler_names handlers = map (λ h. name_of bytes h.category) handlers

  -- the first one for a category that is among these or that one before it is for
  abbrev pub duplicate_fault : List Text → List HandlerText → Option SpecFault
  duplicate_fault earlier [] = None
  duplicate_fault earlier (h ∷ hs) =
      if list_any (bytes_eq (name_of bytes h.category)) earlier then Some (DuplicateHandler h.category.line)
      else duplicate_fault (earlier ++ name_of bytes h.category ∷ []) hs

  -- the first one for no category of these
  abbrev pub category_fault : List Text → List HandlerText → Option SpecFault
  category_fault categories [] = None
  category_fault categories (h ∷ hs) =
      if list_any (bytes_eq (name_of bytes h.category)) categories then category_fault categories hs
      else Some (UnknownCategory h.category.line)

  -- the first word `__RESET` of a block, and of all blocks
  abbrev pub reset_in : List Token → Option SpecFault
  reset_in [] = None
  reset_in (t ∷ ts) =
      if is_word bytes t (codes "__RESET") then Some (ResetWithFullBinding t.line) else reset_in ts

  abbrev pub reset_fault : List Token → List HandlerText → Option SpecFault
  reset_fault tokens [] = None
  reset_fault tokens (h ∷ hs) = or_else (reset_in (slice_range tokens h.first h.last)) (reset_fault tokens hs)

  -- where the specification is for full bindings alone, no block has it
  abbrev pub binding_fault : Bool → List Token → List HandlerText → Option SpecFault
  binding_fault full_binding tokens handlers = if full_binding then reset_fault tokens handlers else None

  -- the first handler of a property for one that an earlier handler of the same property is for
  abbrev pub duplicates_fault : List PropertyFacts → Option SpecFault
  duplicates_fault ps = first_fault (λ p. duplicate_fault [] p.handlers) ps

  -- the first handler for no category of its own property, where the properties have these formulas
  abbrev pub categories_fault : List PropertyFacts → List Formula → Option SpecFault
  categories_fault (p ∷ ps) (f ∷ fs) =
      or_else (category_fault (category_names f) p.handlers) (categories_fault ps fs)
  categories_fault _ _ = None

  -- where the specification is for full bindings alone, the first word `__RESET` of all blocks
  abbrev pub bindings_fault : Bool → List Token → List PropertyFacts → Option SpecFault
  bindings_fault full_binding tokens ps = first_fault (λ p. binding_fault full_binding tokens p.handlers) ps

  -- The fault of the first step that has one, where the properties have these formulas. Each step is done for all
  -- properties before the next.
  unfoldable pub handlers_fault : Bool → List Token → List PropertyFacts → List Formula → Option SpecFault
  handlers_fault full_binding tokens ps fs =
      or_else (count_fault ps)
      (or_else (duplicates_fault ps) (or_else (categories_fault ps fs) (bindings_fault full_binding tokens ps)))

  -- ---- where rules may begin anywhere

  -- some handler is for `fail`
  abbrev pub handles_fail : List HandlerText → Bool
  handles_fail handlers = list_any (λ h. bytes_eq (name_of bytes h.category) (codes "fail")) handlers

  -- the property has no language, or a handler for `fail`
  abbrev pub refuses_suffix : PropertyFacts → Bool
  refuses_suffix p = not (has_language p.logic) || handles_fail p.handlers

  -- where the modifier `suffix` stands, on this line, no property is such a one
  abbrev pub suffix_fault : Option ℕ → List PropertyFacts → Option SpecFault
  suffix_fault None ps = None
  suffix_fault (Some line) ps = if list_any refuses_suffix ps then Some (UnsupportedSuffix line) else None

  -- a block has the word `__RESET`, so its handler resets the property
  abbrev pub has_reset : List Token → Bool
  has_reset block = list_any (λ t. is_word bytes t (codes "__RESET")) block

  abbrev pub is_resetting : List Token → List HandlerText → ℕ → Bool
  is_resetting tokens handlers k =
      option_map_or (λ h. has_reset (slice_range tokens h.first h.last)) (slice_get handlers k) false

  -- the handlers that reset their property, by their numbers
  abbrev pub resetting_handlers : List Token → List HandlerText → List ℕ
  resetting_handlers tokens handlers = filter (is_resetting tokens handlers) (range_with_len 0 (length handlers))

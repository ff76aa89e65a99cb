use Rattle.std.proofs.Common.{ℕ, ◌≡◌, ◌+◌, ◌<◌, true, false, ◌∷◌, List, Option, Some, length, drop, get_or, refl, sym, ap, ◌∙◌}
use Rattle.std.proofs.lemmas.List.{drop_more}
use Rattle.jm_model.specs.declared.fault.SpecFault.{SpecFault}
use Rattle.jm_model.specs.declared.fault.SpecFault.TheVariants.{DuplicateState}
use Rattle.jm_text.specs.declared.token.Token.{Token}
use Rattle.jm_events.specs.Names.{with_name}
use Rattle.jm_reading.specs.Names.{is_among}
use Rattle.jm_reading.specs.Tokens.{name_of}
use Rattle.jm_fsm.specs.declared.formula.Part.{Part}
use Rattle.jm_fsm.specs.Faults.{name_token, duplicate_state_fault}
use Rattle.jm_fsm.proofs.MadeLemmas.{found_among}
use Rattle.jm_fsm.proofs.check.check_duplicate_states.Goals as goal

module _ (bytes : List ℕ) (names : List (List ℕ)) (parts : List Part) (i : ℕ) (part : Part) (token : Token) (name : List ℕ) (whole : Option SpecFault)
    (lt : i < length parts) (read : part ≡ get_or parts i part) (at : token ≡ name_token part) (named : name ≡ name_of bytes token)
    (so_far : duplicate_state_fault bytes names (drop i parts) ≡ whole) where
  here : duplicate_state_fault bytes names (part ∷ drop (i + 1) parts) ≡ whole
  here = ap (λ (p : Part). duplicate_state_fault bytes names (p ∷ drop (i + 1) parts)) read ∙ ap (λ (l : List Part). duplicate_state_fault bytes names l) (sym (drop_more parts i part lt)) ∙ so_far

  is_named : name ≡ name_of bytes (name_token part)
  is_named = named ∙ ap (λ (t : Token). name_of bytes t) at

  -- the name is among those before
  duplicated : is_among names name ≡ true → whole ≡ Some (DuplicateState token.line)
  duplicated h =
      let k : is_among names (name_of bytes (name_token part)) ≡ true = ap (is_among names) (sym is_named) ∙ h in
      let now : duplicate_state_fault bytes names (part ∷ drop (i + 1) parts) ≡ Some (DuplicateState token.line) = rw (k, at) refl in
      sym here ∙ now

  -- it is not, and is one more
  goes_on : is_among names name ≡ false → (after : List (List ℕ)) → after ≡ with_name names name → duplicate_state_fault bytes after (drop (i + 1) parts) ≡ whole
  goes_on h after is =
      let k : is_among names (name_of bytes (name_token part)) ≡ false = ap (is_among names) (sym is_named) ∙ h in
      let step : duplicate_state_fault bytes names (part ∷ drop (i + 1) parts) ≡ duplicate_state_fault bytes (with_name names (name_of bytes (name_token part))) (drop (i + 1) parts) = rw k refl in
      ap (λ (ns : List (List ℕ)). duplicate_state_fault bytes ns (drop (i + 1) parts)) (is ∙ ap (with_name names) is_named) ∙ sym step ∙ here

pub returns-then-is_some : goal.returns-then-is_some
returns-then-is_some c =
    rw c.into.ensures (duplicated c.args.bytes.now c.loop-part.names c.args.parts.now c.loop-part.part-index c.part-item.result c.name_token-token.result c.name_of-name.result.now _ c.loop-part-test.true c.part-item.is
    c.name_token-token.ensures c.name_of-name.ensures c.loop-part.invariant (found_among c.loop-part.names c.name_of-name.result.now c.find.result c.is_some.result c.is_some.ensures c.find.ensures.value ∙ c.if-is_some.true))

pub loop-part-preserved : goal.loop-part-preserved
loop-part-preserved c =
    goes_on c.args.bytes.now c.loop-part.names c.args.parts.now c.loop-part.part-index c.part-item.result c.name_token-token.result c.name_of-name.result.now _ c.loop-part-test.true c.part-item.is
    c.name_token-token.ensures c.name_of-name.ensures c.loop-part.invariant (found_among c.loop-part.names c.name_of-name.result.now c.find.result c.is_some.result c.is_some.ensures c.find.ensures.value ∙ c.if-is_some.false) c.add_name.new.names c.in_ok-add_name.ensures.ok

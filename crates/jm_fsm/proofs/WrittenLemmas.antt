-- The states and the aliases of a machine are as they are written.
use Rattle.std.proofs.Common.{ℕ, ◌≡◌, ◌==◌, Bool, true, false, cond, List, [], ◌∷◌, ◌++◌, map, Option, Some, None, Ok, MatchOption, option_map, unwrap_or, find, refl, sym, ap, subst, ◌∙◌, append_assoc, append-nil}
use Rattle.std.specs.Option.{ok_or, option_or}
use Rattle.std.proofs.lemmas.List.Folds.{find-append}
use Rattle.jm_model.specs.declared.step.Letter.{Letter}
use Rattle.jm_model.specs.declared.fault.SpecFault.{SpecFault}
use Rattle.jm_text.specs.declared.token.Token.{Token}
use Rattle.jm_events.specs.Names.{number_of}
use Rattle.jm_events.specs.Events.{EventDefinitions, event_names}
use Rattle.jm_reading.specs.Tokens.{name_of}
use Rattle.jm_reading.specs.Events.{letter_said}
use Rattle.jm_reading.proofs.ReadLemmas.{then_ok, said_is}
use Rattle.jm_fsm.specs.declared.machine.Destination.{Destination}
use Rattle.jm_fsm.specs.declared.machine.Destination.TheVariants.{Fail}
use Rattle.jm_fsm.specs.declared.machine.Transition.{Transition}
use Rattle.jm_fsm.specs.declared.formula.TransitionText.{TransitionText}
use Rattle.jm_fsm.specs.declared.formula.TransitionText.TheVariants.{On, Fallback}
use Rattle.jm_fsm.specs.declared.formula.Part.{Part}
use Rattle.jm_fsm.specs.declared.formula.Part.TheVariants.{Declaration, Alias}
use Rattle.jm_fsm.specs.Machines.{StateDefinition, AliasDefinition, StateMachine}
use Rattle.jm_reading.specs.Faults.{with_each}
use Rattle.jm_fsm.specs.Faults.{destination_named, destination_said, with_listed, with_transition, state_said, with_member, alias_said, with_part, state_names, machine_of}
use Rattle.jm_fsm.specs.Written.{arrow_of, default_of, IsAsWritten, AreAsWritten, IsAliasAsWritten, AreAliasesAsWritten}

module _ {X : Type 0} where
  or_none : (o : Option X) → option_or o None ≡ o
  or_none None = refl
  or_none (Some x) = refl

  or_some : (o p : Option X) (x : X) → option_or (option_or o (Some x)) p ≡ option_or o (Some x)
  or_some None p x = refl
  or_some (Some y) p x = refl

  or_one : (hit : Bool) (o p : Option X) (x : X) → option_or (option_or o (cond hit (Some x) None)) p ≡ option_or o (cond hit (Some x) p)
  or_one true None p x = refl
  or_one true (Some y) p x = refl
  or_one false None p x = refl
  or_one false (Some y) p x = refl

letter_is : (o : Option ℕ) (e : SpecFault) (x : Letter) → ok_or (option_map (λ (k : ℕ). let l : Letter = record { 0 = k } in l) o) e ≡ Ok x → o ≡ Some x.0
letter_is None e x h = absurd (cc)
letter_is (Some k) e x h = let l : Letter = record { 0 = k } in let same : l ≡ x = cc in ap (λ (y : Letter). Some y.0) same

module _ (bytes : List ℕ) (events states : List (List ℕ)) where
  -- what is written is this
  abbrev Tells : {X : Type 0} → (X → Destination) → Option Token → Option X → Type 0
  Tells {X} destination None x = x ≡ None
  Tells {X} destination (Some name) x = (y : X) × (x ≡ Some y) × (destination_named states (name_of bytes name) ≡ Some (destination y))

  tells_one : (hit : Bool) (name : Token) (others : Option Token) (t : Transition) (x : Option Transition) → destination_named states (name_of bytes name) ≡ Some t.destination → Tells (λ (y : Transition). y.destination) others x → Tells (λ (y : Transition). y.destination) (cond hit (Some name) others) (cond hit (Some t) x)
  tells_one true name others t x named rest = (t, refl, named)
  tells_one false name others t x named rest = rest

  tells_last : (others : Option Token) (name : Token) (to : Destination) (x : Option Destination) → destination_named states (name_of bytes name) ≡ Some to → Tells (λ (y : Destination). y) others x → Tells (λ (y : Destination). y) (option_or others (Some name)) (option_or x (Some to))
  tells_last None name to x named rest = (to, ap (λ (o : Option Destination). option_or o (Some to)) rest, named)
  tells_last (Some other) name to x named rest = (rest.0, ap (λ (o : Option Destination). option_or o (Some to)) rest.1, rest.2)

  -- what transitions add to a state
  record Goes (letter : ℕ) (s made : StateDefinition) (ts : List TransitionText) : Type 0 where
    listed : Option Transition
    listed_is : find (λ (t : Transition). t.letter.0 == letter) made.transitions ≡ option_or (find (λ (t : Transition). t.letter.0 == letter) s.transitions) listed
    listed_tells : Tells (λ (y : Transition). y.destination) (arrow_of bytes events ts letter) listed
    fallen : Option Destination
    fallen_is : made.fallback ≡ option_or fallen s.fallback
    fallen_tells : Tells (λ (y : Destination). y) (default_of ts) fallen
    named : made.name ≡ s.name

  goes : (letter : ℕ) (ts : List TransitionText) (s made : StateDefinition) → with_each (with_transition bytes events states) s ts ≡ Ok made → Goes letter s made ts
  goes letter [] s made h =
      let same : made ≡ s = cc in record {
        listed = None;
        listed_is = ap (λ (x : StateDefinition). find (λ (t : Transition). t.letter.0 == letter) x.transitions) same ∙ sym (or_none _);
        listed_tells = refl;
        fallen = None;
        fallen_is = ap (λ (x : StateDefinition). x.fallback) same;
        fallen_tells = refl;
        named = ap (λ (x : StateDefinition). x.name) same;
      }
  goes letter (On event destination ∷ ts) s made h =
      let a = then_ok (with_transition bytes events states s (On event destination)) _ made h in
      let b = then_ok (letter_said bytes events event) _ a.0 a.1 in
      let c = then_ok (destination_said bytes states destination) _ a.0 b.2 in
      let t : Transition = record { letter = b.0; destination = c.0 } in
      let same : a.0 ≡ with_listed s b.0 c.0 = cc (c.2) in
      let rest = goes letter ts a.0 made a.2 in
      let number : number_of events (name_of bytes event) ≡ Some b.0.0 = letter_is (number_of events (name_of bytes event)) _ b.0 b.1 in
      let here : find (λ (x : Transition). x.letter.0 == letter) a.0.transitions ≡ option_or (find (λ (x : Transition). x.letter.0 == letter) s.transitions) (cond (b.0.0 == letter) (Some t) None) =
      ap (λ (x : StateDefinition). find (λ (y : Transition). y.letter.0 == letter) x.transitions) same ∙ find-append (λ (x : Transition). x.letter.0 == letter) s.transitions (t ∷ []) in record {
        listed = cond (b.0.0 == letter) (Some t) rest.listed;
        listed_is = rest.listed_is ∙ ap (λ (o : Option Transition). option_or o rest.listed) here ∙ or_one (b.0.0 == letter) _ rest.listed t;
        listed_tells = subst (λ (o : Option ℕ). Tells (λ (y : Transition). y.destination) (cond (unwrap_or (option_map (λ (k : ℕ). k == letter) o) false) (Some destination) (arrow_of bytes events ts letter)) (cond (b.0.0 == letter) (Some t) rest.listed)) (sym number)
            (tells_one (b.0.0 == letter) destination (arrow_of bytes events ts letter) t rest.listed (said_is (destination_named states (name_of bytes destination)) _ c.0 c.1) rest.listed_tells);
        fallen = rest.fallen;
        fallen_is = rest.fallen_is ∙ ap (λ (x : StateDefinition). option_or rest.fallen x.fallback) same;
        fallen_tells = rest.fallen_tells;
        named = rest.named ∙ ap (λ (x : StateDefinition). x.name) same;
      }
  goes letter (Fallback word destination ∷ ts) s made h =
      let a = then_ok (with_transition bytes events states s (Fallback word destination)) _ made h in
      let c = then_ok (destination_said bytes states destination) _ a.0 a.1 in
      let next : StateDefinition = record s { fallback = Some c.0 } in
      let same : a.0 ≡ next = cc (c.2) in
      let rest = goes letter ts a.0 made a.2 in record {
        listed = rest.listed;
        listed_is = rest.listed_is ∙ ap (λ (x : StateDefinition). option_or (find (λ (y : Transition). y.letter.0 == letter) x.transitions) rest.listed) same;
        listed_tells = rest.listed_tells;
        fallen = option_or rest.fallen (Some c.0);
        fallen_is = rest.fallen_is ∙ ap (λ (x : StateDefinition). option_or rest.fallen x.fallback) same ∙ sym (or_some rest.fallen s.fallback c.0);
        fallen_tells = tells_last (default_of ts) destination c.0 rest.fallen (said_is (destination_named states (name_of bytes destination)) _ c.0 c.1) rest.fallen_tells;
        named = rest.named ∙ ap (λ (x : StateDefinition). x.name) same;
      }

  abbrev led : Option Transition → Option Destination → Destination
  led f g = unwrap_or (option_map (λ (t : Transition). t.destination) f) (unwrap_or g Fail)

  leads_so : (arrow fallback : Option Token) (x f : Option Transition) (y g : Option Destination) → f ≡ x → g ≡ y → Tells (λ (z : Transition). z.destination) arrow x → Tells (λ (z : Destination). z) fallback y
      → MatchOption arrow (MatchOption fallback (led f g ≡ Fail) (λ name. destination_named states (name_of bytes name) ≡ Some (led f g))) (λ name. destination_named states (name_of bytes name) ≡ Some (led f g))
  leads_so (Some name) fallback x f y g ef eg h k = h.2 ∙ ap (λ (o : Option Transition). Some (led o g)) (sym (ef ∙ h.1))
  leads_so None (Some name) x f y g ef eg h k = k.2 ∙ ap (λ (o : Option Destination). Some (led None o)) (sym (eg ∙ k.1)) ∙ ap (λ (o : Option Transition). Some (led o g)) (sym (ef ∙ h))
  leads_so None None x f y g ef eg h k = ap (λ (o : Option Transition). led o g) (ef ∙ h) ∙ ap (λ (o : Option Destination). led None o) (eg ∙ k)

  state_written : (name : Token) (ts : List TransitionText) (made : StateDefinition) → state_said bytes events states name ts ≡ Ok made → IsAsWritten bytes events states name ts made
  state_written name ts made h = record {
    named = (goes 0 ts (record { name = name_of bytes name; transitions = []; fallback = None }) made h).named;
    leads = λ letter.
        let all = goes letter ts (record { name = name_of bytes name; transitions = []; fallback = None }) made h in
        leads_so (arrow_of bytes events ts letter) (default_of ts) all.listed _ all.fallen _ all.listed_is (all.fallen_is ∙ or_none all.fallen) all.listed_tells all.fallen_tells;
  }

  parts_written : (parts : List Part) (m made : StateMachine) → with_each (with_part bytes events states) m parts ≡ Ok made → (ss : List StateDefinition) × (made.states ≡ m.states ++ ss) × AreAsWritten bytes events states parts ss
  parts_written [] m made h = let same : made ≡ m = cc in ([], ap (λ (x : StateMachine). x.states) same ∙ sym (append-nil m.states), refl)
  parts_written (Declaration name ts ∷ ps) m made h =
      let a = then_ok (with_part bytes events states m (Declaration name ts)) _ made h in
      let b = then_ok (state_said bytes events states name ts) _ a.0 a.1 in
      let next : StateMachine = record m { states = m.states ++ b.0 ∷ [] } in
      let same : a.0 ≡ next = cc (b.2) in
      let rest = parts_written ps a.0 made a.2 in
      (b.0 ∷ rest.0, rest.1 ∙ ap (λ (x : StateMachine). x.states ++ rest.0) same ∙ append_assoc m.states (b.0 ∷ []) rest.0, (state_written name ts b.0 b.1, rest.2))
  parts_written (Alias name ms ∷ ps) m made h =
      let a = then_ok (with_part bytes events states m (Alias name ms)) _ made h in
      let b = then_ok (alias_said bytes states name ms) _ a.0 a.1 in
      let next : StateMachine = record m { aliases = m.aliases ++ b.0 ∷ [] } in
      let same : a.0 ≡ next = cc (b.2) in
      let rest = parts_written ps a.0 made a.2 in
      (rest.0, rest.1 ∙ ap (λ (x : StateMachine). x.states ++ rest.0) same, rest.2)

  -- the states of the machine that a formula says
  states_written : (parts : List Part) (made : StateMachine) → with_each (with_part bytes events states) (record { states = []; aliases = [] }) parts ≡ Ok made → AreAsWritten bytes events states parts made.states
  states_written parts made h =
      let all = parts_written parts (record { states = []; aliases = [] }) made h in
      subst (λ (ss : List StateDefinition). AreAsWritten bytes events states parts ss) (sym all.1) all.2

-- and of one that was read
pub machine_written : (bytes : List ℕ) (table : EventDefinitions) (parts : List Part) (m : StateMachine) → machine_of bytes table parts ≡ Ok m → AreAsWritten bytes (event_names table) (state_names bytes parts) parts m.states
unfolding machine_of
machine_written bytes table parts m h = states_written bytes (event_names table) (state_names bytes parts) parts m h

-- ---- aliases

module _ (bytes : List ℕ) (events states : List (List ℕ)) where
  abbrev named_by : Token → Option Destination
  named_by member = destination_named states (name_of bytes member)

  -- what members add to an alias
  record Lists (a made : AliasDefinition) (ms : List Token) : Type 0 where
    more : List Destination
    members_is : made.members ≡ a.members ++ more
    tells : map named_by ms ≡ map Some more
    named : made.name ≡ a.name

  lists : (ms : List Token) (a made : AliasDefinition) → with_each (with_member bytes states) a ms ≡ Ok made → Lists a made ms
  lists [] a made h =
      let same : made ≡ a = cc in
      record { more = []; members_is = ap (λ (x : AliasDefinition). x.members) same ∙ sym (append-nil a.members); tells = refl; named = ap (λ (x : AliasDefinition). x.name) same }
  lists (m ∷ ms) a made h =
      let first = then_ok (with_member bytes states a m) _ made h in
      let said = then_ok (destination_said bytes states m) _ first.0 first.1 in
      let next : AliasDefinition = record a { members = a.members ++ said.0 ∷ [] } in
      let same : first.0 ≡ next = cc (said.2) in
      let rest = lists ms first.0 made first.2 in
      record {
        more = said.0 ∷ rest.more;
        members_is = rest.members_is ∙ ap (λ (x : AliasDefinition). x.members ++ rest.more) same ∙ append_assoc a.members (said.0 ∷ []) rest.more;
        tells = (λ i. said_is (named_by m) _ said.0 said.1 i ∷ rest.tells i);
        named = rest.named ∙ ap (λ (x : AliasDefinition). x.name) same;
      }

  alias_written : (name : Token) (ms : List Token) (made : AliasDefinition) → alias_said bytes states name ms ≡ Ok made → IsAliasAsWritten bytes states name ms made
  alias_written name ms made h =
      let all = lists ms (record { name = name_of bytes name; members = [] }) made h in
      record { named = all.named; listed = all.tells ∙ ap (map Some) (sym all.members_is) }

  aliases_added : (parts : List Part) (m made : StateMachine) → with_each (with_part bytes events states) m parts ≡ Ok made → (aliases : List AliasDefinition) × (made.aliases ≡ m.aliases ++ aliases) × AreAliasesAsWritten bytes states parts aliases
  aliases_added [] m made h = let same : made ≡ m = cc in ([], ap (λ (x : StateMachine). x.aliases) same ∙ sym (append-nil m.aliases), refl)
  aliases_added (Declaration name ts ∷ ps) m made h =
      let a = then_ok (with_part bytes events states m (Declaration name ts)) _ made h in
      let b = then_ok (state_said bytes events states name ts) _ a.0 a.1 in
      let next : StateMachine = record m { states = m.states ++ b.0 ∷ [] } in
      let same : a.0 ≡ next = cc (b.2) in
      let rest = aliases_added ps a.0 made a.2 in
      (rest.0, rest.1 ∙ ap (λ (x : StateMachine). x.aliases ++ rest.0) same, rest.2)
  aliases_added (Alias name ms ∷ ps) m made h =
      let a = then_ok (with_part bytes events states m (Alias name ms)) _ made h in
      let b = then_ok (alias_said bytes states name ms) _ a.0 a.1 in
      let next : StateMachine = record m { aliases = m.aliases ++ b.0 ∷ [] } in
      let same : a.0 ≡ next = cc (b.2) in
      let rest = aliases_added ps a.0 made a.2 in
      (b.0 ∷ rest.0, rest.1 ∙ ap (λ (x : StateMachine). x.aliases ++ rest.0) same ∙ append_assoc m.aliases (b.0 ∷ []) rest.0, (alias_written name ms b.0 b.1, rest.2))

  aliases_written : (parts : List Part) (made : StateMachine) → with_each (with_part bytes events states) (record { states = []; aliases = [] }) parts ≡ Ok made → AreAliasesAsWritten bytes states parts made.aliases
  aliases_written parts made h =
      let all = aliases_added parts (record { states = []; aliases = [] }) made h in
      subst (λ (aliases : List AliasDefinition). AreAliasesAsWritten bytes states parts aliases) (sym all.1) all.2

-- and of one that was read
pub machine_aliases_written : (bytes : List ℕ) (table : EventDefinitions) (parts : List Part) (m : StateMachine) → machine_of bytes table parts ≡ Ok m → AreAliasesAsWritten bytes (state_names bytes parts) parts m.aliases
unfolding machine_of
machine_aliases_written bytes table parts m h = aliases_written bytes (event_names table) (state_names bytes parts) parts m h

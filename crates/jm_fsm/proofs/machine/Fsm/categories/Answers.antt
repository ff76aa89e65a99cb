use Rattle.std.proofs.Common.{List, ℕ, ◌≡◌, ◌≤◌, [], ◌∷◌, ◌++◌, map, drop, length, sym, ap, subst, ◌∙◌, arith, append_assoc, append-nil, length-append, add-one}
use Rattle.std.specs.Prelude.{codes}
use Rattle.std.proofs.lemmas.List.{length-map, at_drop_all}
use Rattle.jm_fsm.specs.Machines.{StateDefinition, AliasDefinition}
use Rattle.jm_fsm.specs.Categories.{AreDistinct}
use Rattle.jm_fsm.proofs.MadeLemmas.{new_name, distinct_front, added_here, room_here}
use Rattle.jm_fsm.proofs.machine.Fsm.categories.Goals as goal

-- the names of the states and of the aliases, without `fail`
front : (states aliases last : List (List ℕ)) → AreDistinct (states ++ (aliases ++ last)) → AreDistinct ((states ++ aliases) ++ last)
front states aliases last distinct = subst AreDistinct (sym (append_assoc states aliases last)) distinct

-- all names were added
all_names : {X : Type 0} (name : X → List ℕ) (names whole : List (List ℕ)) (xs : List X) (i : ℕ) → length xs ≤ i → names ++ map name (drop i xs) ≡ whole → names ≡ whole
all_names {X} name names whole xs i le is = sym (append-nil names) ∙ sym (at_drop_all (λ (l : List X). names ++ map name l) xs i le) ∙ is

pub loop-state-preserved : goal.loop-state-preserved
loop-state-preserved c =
    let name = λ (x : StateDefinition). x.name in
    let items = c.deref-state-items.result.now in
    let aliases = map (λ (x : AliasDefinition). x.name) c.self.inside.aliases.items in
    let distinct : AreDistinct (map name items) = rw c.deref-state-items.ensures.value (distinct_front (map name c.self.inside.states.items) (aliases ++ codes "fail" ∷ []) c.self.invariant.distinct) in
    let named : c.as_str.result.now ≡ c.state-item.result.name = c.as_str.ensures.value ∙ ap (λ (x : StateDefinition). x.name) c.state.view_is in
    rw (add-one, c.in_ok-add.ensures.ok, named)
    (added_here name c.loop-state.names (map name items) items c.loop-state.state-index c.state-item.result c.loop-state-test.true c.state-item.is c.loop-state.invariant distinct)

pub add-requires-in-loop-alias : goal.add-requires-in-loop-alias
add-requires-in-loop-alias c =
    let name = λ (x : StateDefinition). x.name in
    let called = λ (x : AliasDefinition). x.name in
    let states = c.deref-state-items.result.now in
    let aliases = c.deref-alias-items.result.now in
    omega (
      arith,
      room_here called c.loop-alias.names (c.loop-state.names ++ map called aliases) aliases c.loop-alias.alias-index c.alias-item.result c.loop-alias-test.true c.alias-item.is c.loop-alias.invariant,
      length-append c.loop-state.names (map called aliases),
      length-map aliases called,
      ap (λ (l : List (List ℕ)). length l) (all_names name c.loop-state.names (map name states) states c.loop-state.state-index c.loop-state-test.false c.loop-state.invariant),
      length-map states name,
      ap (λ (l : List StateDefinition). length l) c.deref-state-items.ensures.value,
      ap (λ (l : List AliasDefinition). length l) c.deref-alias-items.ensures.value,
      c.self.invariant.few_states,
      c.self.invariant.few_aliases,
    )

pub loop-alias-preserved : goal.loop-alias-preserved
loop-alias-preserved c =
    let name = λ (x : StateDefinition). x.name in
    let called = λ (x : AliasDefinition). x.name in
    let items = c.deref-alias-items.result.now in
    let states = map name c.self.inside.states.items in
    let aliases = map called c.self.inside.aliases.items in
    let before : c.loop-state.names ≡ states = all_names name c.loop-state.names (map name c.deref-state-items.result.now) c.deref-state-items.result.now c.loop-state.state-index c.loop-state-test.false c.loop-state.invariant ∙ ap (λ (l : List StateDefinition). map name l) c.deref-state-items.ensures.value in
    let distinct : AreDistinct (c.loop-state.names ++ map called items) = rw (before, c.deref-alias-items.ensures.value) (distinct_front (states ++ aliases) (codes "fail" ∷ []) (front states aliases (codes "fail" ∷ []) c.self.invariant.distinct)) in
    let named : c.as_str-in-loop-alias.result.now ≡ c.alias-item.result.name = c.as_str-in-loop-alias.ensures.value ∙ ap (λ (x : AliasDefinition). x.name) c.alias.view_is in
    rw (add-one, c.in_ok-add-2.ensures.ok, named)
    (added_here called c.loop-alias.names (c.loop-state.names ++ map called items) items c.loop-alias.alias-index c.alias-item.result c.loop-alias-test.true c.alias-item.is c.loop-alias.invariant distinct)

pub returns-clause-value : goal.returns-clause-value
returns-clause-value c =
    let name = λ (x : StateDefinition). x.name in
    let called = λ (x : AliasDefinition). x.name in
    let items = c.deref-alias-items.result.now in
    let states = map name c.self.inside.states.items in
    let aliases = map called c.self.inside.aliases.items in
    let before : c.loop-state.names ≡ states = all_names name c.loop-state.names (map name c.deref-state-items.result.now) c.deref-state-items.result.now c.loop-state.state-index c.loop-state-test.false c.loop-state.invariant ∙ ap (λ (l : List StateDefinition). map name l) c.deref-state-items.ensures.value in
    let all : c.loop-alias.names ≡ states ++ aliases =
    all_names called c.loop-alias.names (c.loop-state.names ++ map called items) items c.loop-alias.alias-index c.loop-alias-test.false c.loop-alias.invariant
    ∙ ap (λ (l : List (List ℕ)). l ++ map called items) before ∙ ap (λ (l : List AliasDefinition). states ++ map called l) c.deref-alias-items.ensures.value in
    rw (c.in_ok-add-3.ensures.ok, all, ← c.self.view_is)
    (new_name (states ++ aliases) (codes "fail") [] (front states aliases (codes "fail" ∷ []) c.self.invariant.distinct) ∙ append_assoc states aliases (codes "fail" ∷ []))

pub returns-clause-count : goal.returns-clause-count
returns-clause-count c =
    let m = c.args.self.now in
    omega (
      arith,
      ap (λ (l : List (List ℕ)). length l) (returns-clause-value c),
      length-append (map (λ (x : StateDefinition). x.name) m.states) (map (λ (x : AliasDefinition). x.name) m.aliases ++ codes "fail" ∷ []),
      length-append (map (λ (x : AliasDefinition). x.name) m.aliases) (codes "fail" ∷ []),
      length-map m.states (λ (x : StateDefinition). x.name),
      length-map m.aliases (λ (x : AliasDefinition). x.name),
    )

use Rattle.std.proofs.Common.{ℕ, ◌≡◌, List, [], ◌∷◌, ◌++◌, Ok, refl}
use Rattle.std.specs.Prelude.{string_bytes}
use Rattle.std.proofs.lemmas.Result.{err_from_is_err_and}
use Rattle.jm_text.specs.declared.token.Token.{Token}
use Rattle.jm_fsm.specs.declared.machine.Destination.{Destination}
use Rattle.jm_fsm.specs.Machines.{AliasDefinition}
use Rattle.jm_fsm.specs.Faults.{destination_said, with_member}
use Rattle.jm_fsm.proofs.LoopLemmas.{each_ends, each_goes_on, each_refuses, first_refused}
use Rattle.jm_fsm.proofs.resolve.Resolver.alias.Goals as goal

one_more : (bytes : List ℕ) (states : List (List ℕ)) (a : AliasDefinition) (t : Token) (to : Destination) (after : List Destination) → destination_said bytes states t ≡ Ok to → after ≡ a.members ++ to ∷ [] → with_member bytes states a t ≡ Ok (record { name = a.name; members = after })
one_more bytes states a t to after said more = rw (said, more) refl

pub loop-member-init : goal.loop-member-init
loop-member-init c = rw (c.in_ok-from_str.ensures.ok, c.new.ensures.items, c.name_of.ensures) refl

pub returns-in_err-destination : goal.returns-in_err-destination
returns-in_err-destination c =
    let bytes = c.args.self.now.bytes.now in
    let states = c.args.self.now.states.now in
    let alias : AliasDefinition = record { name = string_bytes c.loop-member.alias-inside.name; members = c.loop-member.alias-inside.members.items } in
    let e = c.in_err-destination.field-0.0 in
    let p = err_from_is_err_and c.from_residual-in_err-destination.result c.from_residual-in_err-destination.ensures.1 in
    rw (p.1, p.2)
    (each_refuses (with_member bytes states) alias c.args.members.now c.loop-member.member-index _ c.loop-member.invariant _ _ c.loop-member-test.true refl e (first_refused (destination_said bytes states _) _ e c.in_err-destination.ensures))

pub loop-member-preserved : goal.loop-member-preserved
loop-member-preserved c =
    let bytes = c.args.self.now.bytes.now in
    let states = c.args.self.now.states.now in
    let alias : AliasDefinition = record { name = string_bytes c.loop-member.alias-inside.name; members = c.loop-member.alias-inside.members.items } in
    each_goes_on (with_member bytes states) alias c.args.members.now c.loop-member.member-index _ c.loop-member.invariant _ _ c.loop-member-test.true refl (record { name = string_bytes c.loop-member.alias-inside.name; members = c.push.new.self.items }) (one_more bytes states alias _ c.in_ok-destination.destination c.push.new.self.items c.in_ok-destination.ensures c.in_ok-push.ensures.items)

pub returns : goal.returns
returns c =
    let alias : AliasDefinition = record { name = string_bytes c.loop-member.alias-inside.name; members = c.loop-member.alias-inside.members.items } in
    each_ends (with_member c.args.self.now.bytes.now c.args.self.now.states.now) alias c.args.members.now c.loop-member.member-index _ c.loop-member.invariant c.loop-member-test.false

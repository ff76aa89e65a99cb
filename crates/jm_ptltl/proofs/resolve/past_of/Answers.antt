use Rattle.std.proofs.Common.{◌≡◌, ◌≤◌, List, [], Ok, Err, length, sym, ap, subst, ◌∙◌, arith}
use Rattle.std.proofs.lemmas.Result.{err_from_is_err_and}
use Rattle.jm_model.specs.declared.step.Letter.{Letter}
use Rattle.jm_text.specs.declared.token.Token.{Token}
use Rattle.jm_events.specs.Events.{event_names}
use Rattle.jm_reading.specs.Faults.{Answers, with_each}
use Rattle.jm_ptltl.specs.declared.formula.Node.{Node}
use Rattle.jm_ptltl.specs.Formulas.{Formula, postfix, formula_of}
use Rattle.jm_ptltl.specs.Faults.{with_node}
use Rattle.jm_ptltl.specs.Codes.{formula_of-postfix}
use Rattle.jm_ptltl.proofs.FaultLemmas.{said_formula, said_refused, same_size, well_formed, too_many, event_refused, name_refused, no_fault}
use Rattle.jm_ptltl.proofs.resolve.past_of.Goals as goal

few_nodes : (nodes : List (Node Token)) (f : Formula Token) → nodes ≡ postfix f → length nodes ≤ 64 → length (postfix f) ≤ 64
few_nodes nodes f e few = omega (arith, ap (λ l. length l) e, few)

pub returns-then-nodes-gt-MAX_SUBFORMULAS-clause-checked : goal.returns-then-nodes-gt-MAX_SUBFORMULAS-clause-checked
returns-then-nodes-gt-MAX_SUBFORMULAS-clause-checked c = λ f e. rw c.into.ensures (too_many c.args.bytes.now c.args.table.now f (omega (arith, ap (λ (l : List (Node Token)). length l) e, c.if-nodes-gt-MAX_SUBFORMULAS.true)))

pub returns-in_err-check_event_names-clause-checked : goal.returns-in_err-check_event_names-clause-checked
returns-in_err-check_event_names-clause-checked c = λ f e.
    let p = err_from_is_err_and c.from_residual.result c.from_residual.ensures.1 in
    rw (p.1, p.2) (event_refused c.args.bytes.now c.args.table.now f c.in_err-check_event_names.field-0.0 (few_nodes c.args.nodes.now f e c.if-nodes-gt-MAX_SUBFORMULAS.false) c.in_err-check_event_names.ensures.checked)

pub returns-in_err-said-clause-checked : goal.returns-in_err-said-clause-checked
returns-in_err-said-clause-checked c = λ f e.
    let bytes = c.args.bytes.now in
    let events = event_names c.args.table.now in
    let error = c.in_err-said.field-0.0 in
    let p = err_from_is_err_and c.from_residual-in_err-said.result c.from_residual-in_err-said.ensures.1 in
    let said = subst (λ (l : List (Node Token)). Answers {Y = List (Node Letter)} (Err error) (with_each (with_node bytes events) [] l)) e c.in_err-said.ensures in
    rw (p.1, p.2) (name_refused bytes c.args.table.now f error (few_nodes c.args.nodes.now f e c.if-nodes-gt-MAX_SUBFORMULAS.false) c.in_ok-check_event_names.ensures.checked (said_refused bytes events f error said))

pub invariant_of-result : goal.invariant_of-result
invariant_of-result c =
    let bytes = c.args.bytes.now in
    let events = event_names c.args.table.now in
    let f = c.requires.0 in
    let said = said_formula bytes events f c.in_ok-said.said (sym (ap (λ (l : List (Node Token)). with_each (with_node bytes events) [] l) c.requires.1) ∙ c.in_ok-said.ensures) in
    let size = same_size bytes events f said.0 said.1 in (
      well_formed c.into_vec.result.items said.0 (c.into_vec.ensures ∙ said.2),
      omega (arith, ap (λ (l : List (Node Letter)). length l) (c.into_vec.ensures ∙ said.2), size, few_nodes c.args.nodes.now f c.requires.1 c.if-nodes-gt-MAX_SUBFORMULAS.false),
    )

pub returns-clause-said : goal.returns-clause-said
returns-clause-said c = λ f e.
    let bytes = c.args.bytes.now in
    let events = event_names c.args.table.now in
    let said = said_formula bytes events f c.in_ok-said.said (sym (ap (λ (l : List (Node Token)). with_each (with_node bytes events) [] l) e) ∙ c.in_ok-said.ensures) in
    let same : formula_of c.into_vec.result.items ≡ said.0 = ap (λ (l : List (Node Letter)). formula_of l) (c.into_vec.ensures ∙ said.2) ∙ formula_of-postfix said.0 in
    said.1 ∙ ap (λ (x : Formula Letter). Ok x) (sym same)

pub returns-clause-checked : goal.returns-clause-checked
returns-clause-checked c = λ f e.
    let bytes = c.args.bytes.now in
    let events = event_names c.args.table.now in
    let said = said_formula bytes events f c.in_ok-said.said (sym (ap (λ (l : List (Node Token)). with_each (with_node bytes events) [] l) e) ∙ c.in_ok-said.ensures) in
    no_fault bytes c.args.table.now f said.0 (few_nodes c.args.nodes.now f e c.if-nodes-gt-MAX_SUBFORMULAS.false) c.in_ok-check_event_names.ensures.checked said.1

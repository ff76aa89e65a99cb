use Rattle.std.proofs.Common.{length, sym, ◌∙◌, subst, arith}
use Rattle.std.proofs.lemmas.Result.{err_from_is_err_and}
use Rattle.jm_text.specs.Tokens.{IsFaultOf}
use Rattle.jm_inputs.specs.Specifications.{no_tokens, in_frame}
use Rattle.jm_machine.specs.Compiling.{IsNotCompiled}
use Rattle.jm_spec.specs.Trees.{IsFaultOfTokens}
use Rattle.jm_inputs.proofs.OneReadingLemmas.{same_err}
use Rattle.jm_inputs.proofs.TreeLemmas.{tree_fault_of, read_of, tokens_few}
use Rattle.jm_inputs.proofs.specification.read_specification.Goals as goal

pub returns-in_err-tokens-clause-err : goal.returns-in_err-tokens-clause-err
returns-in_err-tokens-clause-err c = λ fault is.
    let p = err_from_is_err_and c.from_residual.result c.from_residual.ensures.1 in
    let same = same_err (sym p.1 ∙ is) in
    no_tokens fault c.requires (subst (IsFaultOf c.args.bytes.now) (sym p.2 ∙ same) c.in_err-tokens.ensures.err)

pub read_spec-requires-clause-bounded : goal.read_spec-requires-clause-bounded
read_spec-requires-clause-bounded c =
    let few = tokens_few 0 (length c.args.bytes.now) c.in_ok-tokens.tokens.items c.in_ok-tokens.ensures.in_order in
    rw c.as_slice.ensures.value (omega (arith, few, c.requires))

pub returns-in_err-tree-clause-err : goal.returns-in_err-tree-clause-err
returns-in_err-tree-clause-err c = λ fault is.
    let p = err_from_is_err_and c.from_residual-in_err-tree.result c.from_residual-in_err-tree.ensures.1 in
    let same = same_err (sym p.1 ∙ is) in
    let err = rw c.as_slice.ensures.value at c.in_err-tree.ensures.err in
    in_frame c.in_ok-tokens.tokens.items fault c.requires c.in_ok-tokens.ensures.ok (subst (IsFaultOfTokens c.args.bytes.now c.in_ok-tokens.tokens.items) (sym p.2 ∙ same) err)

pub returns-in_err-rules-clause-err : goal.returns-in_err-rules-clause-err
returns-in_err-rules-clause-err c = λ fault is.
    let p = err_from_is_err_and c.from_residual-in_err-rules.result c.from_residual-in_err-rules.ensures.1 in
    let same = same_err (sym p.1 ∙ is) in
    let told = rw c.as_slice.ensures.value at c.in_ok-tree.ensures.ok in
    let err = rw c.as_slice-2.ensures.value at c.in_err-rules.ensures.err in
    tree_fault_of c.args.bytes.now c.in_ok-tokens.tokens.items c.requires c.in_ok-tokens.ensures.ok c.in_ok-tree.tree fault told
    (subst (IsNotCompiled c.args.bytes.now c.in_ok-tokens.tokens.items c.in_ok-tree.tree) (sym p.2 ∙ same) err)

pub returns-clause-ok : goal.returns-clause-ok
returns-clause-ok c =
    let told = rw c.as_slice.ensures.value at c.in_ok-tree.ensures.ok in
    let say = rw c.as_slice-3.ensures.value at c.in_ok-header.ensures.texts in
    let compiled = rw c.as_slice-2.ensures.value at c.in_ok-rules.ensures.ok in
    read_of c.args.bytes.now c.in_ok-tokens.tokens.items c.requires c.in_ok-tokens.ensures.ok c.in_ok-tree.tree c.put_together.result c.in_ok-rules.rules c.in_ok-header.header told compiled
    c.in_ok-rules.ensures.fit c.in_ok-rules.ensures.bounded c.in_ok-header.ensures.logics c.in_ok-header.ensures.grammar_line c.in_ok-header.ensures.full_binding c.in_ok-header.ensures.suffix say
    c.put_together.ensures.rules c.put_together.ensures.header (c.put_together.ensures.name ∙ c.name_of-name.ensures) c.put_together.ensures.table

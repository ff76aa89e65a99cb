use Rattle.std.proofs.Common.{List, ℕ, Result, Ok, Err, IfOk, IfErr}
use Rattle.std.proofs.lemmas.Result.{err_from_is_err_and}
use Rattle.jm_model.specs.declared.fault.SpecError.{SpecError}
use Rattle.jm_model.specs.declared.fault.SpecError.TheVariants.{Bad, NoMemory}
use Rattle.jm_model.specs.declared.fault.SpecFault.TheVariants.{Syntax}
use Rattle.jm_text.specs.declared.token.Token.{Token}
use Rattle.jm_spec.specs.declared.frame.Frame.{Frame}
use Rattle.jm_spec.specs.declared.tree.SpecTree.{SpecTree}
use Rattle.jm_spec.specs.Faults.{frame_fault}
use Rattle.jm_spec.specs.Spelling.{Spells}
use Rattle.jm_reading.specs.Faults.{Checks}
use Rattle.jm_spec.specs.Trees.{IsTreeOf, IsTreeOfTokens, IsFaultOfTokens, IsUnspelled}
use Rattle.jm_spec.proofs.FaultLemmas.{refused_as}
use Rattle.jm_spec.proofs.spec.read_spec.Goals as goal

refused_where : {X : Type 0} (bytes : List ℕ) (tokens : List Token) (frame : Frame) (r : Result X SpecError) → Spells bytes tokens frame → Checks r (frame_fault bytes frame) → IfErr r (IsFaultOfTokens bytes tokens)
refused_where bytes tokens frame (Ok x) said checked = tt
refused_where bytes tokens frame (Err e) said checked = refused_as bytes tokens frame e said checked

told_where : (bytes : List ℕ) (tokens : List Token) (frame : Frame) (r : Result SpecTree SpecError) → Spells bytes tokens frame → Checks r (frame_fault bytes frame) → IfOk r (IsTreeOf bytes frame) → IfOk r (IsTreeOfTokens bytes tokens)
told_where bytes tokens frame (Err e) said checked told = tt
told_where bytes tokens frame (Ok tree) said checked told = (frame, said, checked, told)

unspelled : (bytes : List ℕ) (tokens : List Token) (e : SpecError) → IsUnspelled bytes tokens e → IsFaultOfTokens bytes tokens e
unspelled bytes tokens NoMemory h = tt
unspelled bytes tokens (Bad (Syntax line)) h = h
unspelled bytes tokens (Bad _) h = absurd h

pub returns-in_err-frame-clause-err : goal.returns-in_err-frame-clause-err
returns-in_err-frame-clause-err c =
    let p = err_from_is_err_and c.from_residual.result c.from_residual.ensures.1 in
    rw (p.1, p.2) (unspelled c.args.bytes.now c.args.tokens.now _ c.in_err-frame.ensures.err)

pub returns-clause-ok : goal.returns-clause-ok
returns-clause-ok c = told_where _ _ c.in_ok-frame.frame _ c.in_ok-frame.ensures.ok c.tree_of.ensures.checked c.tree_of.ensures.ok

pub returns-clause-err : goal.returns-clause-err
returns-clause-err c = refused_where _ _ c.in_ok-frame.frame _ c.in_ok-frame.ensures.ok c.tree_of.ensures.checked

use Rattle.std.proofs.Common.{refl, sym}
use Rattle.std.proofs.lemmas.List.{append-nil}
use Rattle.jm_sync.proofs.CutLemmas.{request_is, pushed}
use Rattle.jm_sync.proofs.cutting.cut_line.Goals as goal

pub mention-requires-clause-bounded : goal.mention-requires-clause-bounded
mention-requires-clause-bounded c =
    let asked = request_is c.args.line.now _ _ c.requires.words c.in-Some.ensures.value in
    rw asked at c.requires.bounded

pub returns-in_ok-push-in-Some-clause-rest : goal.returns-in_ok-push-in-Some-clause-rest
returns-in_ok-push-in-Some-clause-rest c =
    let asked = request_is c.args.line.now _ _ c.requires.words c.in-Some.ensures.value in
    rw asked (sym (append-nil c.args.cut.now.rest.items))

pub returns-in_ok-push-in-Some-clause-lines : goal.returns-in_ok-push-in-Some-clause-lines
returns-in_ok-push-in-Some-clause-lines c =
    let asked = request_is c.args.line.now _ _ c.requires.words c.in-Some.ensures.value in
    rw asked (pushed _ _ _ _ _ _ c.in_ok-push-in-Some.ensures.items c.in_ok-name-in-Some.ensures.number)

pub returns-in_ok-push-in-Some-clause-ok : goal.returns-in_ok-push-in-Some-clause-ok
returns-in_ok-push-in-Some-clause-ok c =
    let asked = request_is c.args.line.now _ _ c.requires.words c.in-Some.ensures.value in
    rw asked c.in_ok-name-in-Some.ensures.ok

pub returns-in_ok-extend_from_slice-in-None-clause-rest : goal.returns-in_ok-extend_from_slice-in-None-clause-rest
returns-in_ok-extend_from_slice-in-None-clause-rest c =
    let asked = request_is c.args.line.now _ _ c.requires.words c.in-None.ensures.value in
    rw asked c.in_ok-extend_from_slice-in-None.ensures.items

pub returns-in_ok-extend_from_slice-in-None-clause-lines : goal.returns-in_ok-extend_from_slice-in-None-clause-lines
returns-in_ok-extend_from_slice-in-None-clause-lines c =
    let asked = request_is c.args.line.now _ _ c.requires.words c.in-None.ensures.value in
    rw asked (sym (append-nil c.args.cut.now.lines.items))

pub returns-in_ok-extend_from_slice-in-None-clause-ok : goal.returns-in_ok-extend_from_slice-in-None-clause-ok
returns-in_ok-extend_from_slice-in-None-clause-ok c =
    let asked = request_is c.args.line.now _ _ c.requires.words c.in-None.ensures.value in
    rw asked refl

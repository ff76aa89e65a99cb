use Rattle.std.proofs.Common.{arith, sym, ◌∙◌, inl, inr}
use Rattle.std.proofs.lemmas.Bool.{cases_lt}
use Rattle.std.proofs.lemmas.Option.{none-some}
use Rattle.jm_index.proofs.TreeLemmas.{AreFiled-one, AreFiled-trans, AllFiled-filed, all_paths, each_step}
use Rattle.jm_index.proofs.trees.Trees.file_all.Goals as goal

pub returns-in_err-file-clause-filed : goal.returns-in_err-file-clause-filed
returns-in_err-file-clause-filed c =
    AreFiled-one _ _ _ _ _ _ c.in_err-file.ensures.filed c.in_err-file.ensures.others c.in_err-file.ensures.other_trees (λ o same. absurd (omega (arith, same)))

pub loop-bound-init : goal.loop-bound-init
loop-bound-init c =
    record {
      within = omega arith;
      filed = AreFiled-one _ _ _ _ _ _ c.in_ok-file.ensures.filed c.in_ok-file.ensures.others c.in_ok-file.ensures.other_trees (λ o same. absurd (omega (arith, same)));
      whole = c.in_ok-file.ensures.present;
      each = λ p o h. absurd (omega (arith, h));
    }

pub file_object-requires : goal.file_object-requires
file_object-requires c =
    record { last = AllFiled-filed _ _ _ _ c.requires.last c.loop-bound.invariant.filed; flagged = c.requires.flagged _ (_, c.in-Some.ensures.object) }

pub returns-in_err-file_object-clause-filed : goal.returns-in_err-file_object-clause-filed
returns-in_err-file_object-clause-filed c = AreFiled-trans _ _ _ _ _ c.loop-bound.invariant.filed c.in_err-file_object.ensures.filed

pub loop-bound-preserved : goal.loop-bound-preserved
loop-bound-preserved c =
    let filed = c.in_ok-file_object.ensures.filed in
    let bound = c.in-Some.ensures in
    record {
      within = omega (arith, bound.within);
      filed = AreFiled-trans _ _ _ _ _ c.loop-bound.invariant.filed filed;
      whole = filed.kept _ _ _ c.loop-bound.invariant.whole;
      each = each_step _ _ _ _ _ _ _ c.loop-bound.invariant.each (λ o there. filed.kept _ _ _ there) bound.between bound.object (λ live. c.in_ok-file_object.ensures.present live);
    }

pub returns-clause-present : goal.returns-clause-present
returns-clause-present c =
    let none = c.in_default.ensures.none in
    rw (← c.mask-mask.ensures.value) (all_paths _ _ _ _ c.loop-bound.invariant.whole
    (λ p o at live. elim (cases_lt p c.loop-bound.from) [ inl below ↦ c.loop-bound.invariant.each p o below at live | inr past ↦ absurd (none-some o (sym (none p past) ∙ at)) ]))

pub file-requires-clause-last : goal.file-requires-clause-last
file-requires-clause-last c = λ x there. c.requires.last c.mask-mask.result 0 x there

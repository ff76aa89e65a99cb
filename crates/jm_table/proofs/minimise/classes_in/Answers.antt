use Rattle.std.proofs.Common.{ℕ, ◌≡◌, ◌<◌, ◌++◌, ◌∷◌, [], length, get_or, ap, subst, sym, ◌∙◌, arith}
use Rattle.std.proofs.lemmas.Bool.{false≢true}
use Rattle.std.proofs.lemmas.List.{get_or_default}
use Rattle.jm_table.specs.Tables.{IsInGroup}
use Rattle.jm_table.proofs.ClassLemmas.{member_more, no_member}
use Rattle.jm_table.proofs.minimise.classes_in.Goals as goal
use Rattle.jm_table.proofs.minimise.classes_in.Goals.{then-in_group+in_ok-push, else-in_group}

pub loop-class-preserved : goal.loop-class-preserved
loop-class-preserved c =
    let t = c.args.table.now in
    let firsts = c.args.partition.now.firsts.items in
    let before = c.loop-class.members.items in
    let class = c.loop-class.class in
    let P = λ (k : ℕ). IsInGroup t (get_or firsts k 0) c.args.group in
    let within : class < length firsts = omega (arith, c.loop-class-test.true, c.len-class-end.ensures, c.args.partition.now.firsts.ok.0) in
    let first : c.index-first.result.now ≡ get_or firsts class 0 = c.index-first.ensures ∙ get_or_default firsts class c.index-first.result.now 0 within in
    elim c.if-in_group.branch [
      | then-in_group+in_ok-push w ↦
          let items : c.if-in_group.members.items ≡ before ++ class ∷ [] = ap (λ v. v.items) w.members-is ∙ w.in_ok-push.ensures.items in
          let both = member_more before class P c.loop-class.invariant.within c.loop-class.invariant.exact
          (subst (λ s. IsInGroup t s c.args.group) first (c.in_group.ensures.0 w.if-in_group.true)) in
          rw items (record { within = both.0; exact = both.1 })
      | else-in_group w ↦
          let items : c.if-in_group.members.items ≡ before = ap (λ v. v.items) w.members-is in
          let both = no_member before class P c.loop-class.invariant.within c.loop-class.invariant.exact
          (λ there. false≢true (sym w.if-in_group.false ∙ c.in_group.ensures.1 (subst (λ s. IsInGroup t s c.args.group) (sym first) there))) in
          rw items (record { within = both.0; exact = both.1 })
    ]

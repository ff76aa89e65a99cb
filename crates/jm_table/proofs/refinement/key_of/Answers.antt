use Rattle.std.proofs.Common.{rules, ◌≡◌, ◌<◌, ◌↔◌, inl, length, get_or, sym, ap, subst, ◌∙◌, arith}
use Rattle.std.proofs.lemmas.List.{get_or_default}
use Rattle.jm_table.specs.Tables.{IsInGroup}
use Rattle.jm_table.specs.Partitions.{first_of}
use Rattle.jm_table.proofs.SplitLemmas.{equal_tests}
use Rattle.jm_table.proofs.refinement.key_of.Goals as goal
use Rattle.jm_table.proofs.refinement.key_of.Goals.{in-Group, in-Letters}

pub returns-else-is_told : goal.returns-else-is_told
returns-else-is_told c =
    let t = c.args.table.now in
    let classes = c.args.partition.now.classes.items in
    let firsts = c.args.partition.now.firsts.items in
    let class : c.index-class.result.now ≡ get_or classes c.args.state 0 =
    c.index-class.ensures ∙ get_or_default classes c.args.state c.index-class.result.now 0 (omega (arith, c.requires.state, c.requires.partition.count)) in
    let within : c.index-class.result.now < length firsts = rw class (c.requires.partition.within c.args.state c.requires.state) in
    let first : c.index-first.result.now ≡ first_of classes firsts c.args.state =
    c.index-first.ensures ∙ get_or_default firsts c.index-class.result.now c.index-first.result.now 0 within ∙ ap (λ k. get_or firsts k 0) class in
    elim c.match-test.branch [
      | in-Group w ↦
          let group = w.in-Group.group in
          let alike : IsInGroup t c.args.state group ↔ IsInGroup t c.index-first.result.now group =
          rw (sym w.is_told-is ∙ c.if-is_told.false) at (equal_tests w.in_group.result w.in_group-in-Group.result _ _ w.in_group.ensures w.in_group-in-Group.ensures) in
          rw w.in-Group.is (inl (class, subst (λ q. IsInGroup t c.args.state group ↔ IsInGroup t q group) first alike))
      | in-Letters w ↦
          let alike = rw (sym w.is_told-is ∙ c.if-is_told.false) at w.letter_tells-is_told.ensures.alike in
          rw w.in-Letters.is (search rules)
    ]

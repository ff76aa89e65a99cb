use Rattle.std.proofs.Common.{ℕ, ◌≡◌, ◌↔◌, ◌++◌, ◌∷◌, [], List, Contains, length, get_or, subst, sym, ap, ◌∙◌, arith}
use Rattle.std.proofs.lemmas.List.{length-append}
use Rattle.jm_table.specs.Tables.{Transitions, IsInGroup}
use Rattle.jm_table.proofs.QuotientLemmas.{groups_more, next_are_classes, is_quotient, same_groups, is_reduced, is_reachable}
use Rattle.jm_table.proofs.table.Table.minimise.Goals as goal

pub new-minimal-requires : goal.new-minimal-requires
new-minimal-requires c =
    let t = c.args.self in
    let classes = c.in_ok-partition.partition.classes.items in
    let firsts = c.in_ok-partition.partition.firsts in
    let next = c.in_ok-next.next.items in
    let table = c.letters.ensures.table in
    let letters : c.letters.result ≡ t.letters = c.letters.ensures.value in
    let states : c.len-states.result ≡ length firsts.items = omega (arith, c.len-states.ensures, firsts.ok.0) in
    rw (letters, states) (record {
      some_states = c.in_ok-partition.ensures.classes.partition.some_class;
      few_states = omega (arith, c.in_ok-partition.ensures.classes.partition.few, table.few_states);
      few_letters = table.few_letters;
      whole = c.in_ok-next.ensures.count;
      within = next_are_classes t classes firsts.items next c.in_ok-next.ensures.count c.in_ok-next.ensures.each table c.in_ok-partition.ensures.classes.partition;
      few_groups = omega arith;
    })

pub loop-group-preserved : goal.loop-group-preserved
loop-group-preserved c =
    let t = c.args.self in
    let firsts = c.in_ok-partition.partition.firsts.items in
    let before = c.loop-group.invariant in
    let old = c.loop-group.minimal in
    let new = c.add_group.new.self in
    let group = c.loop-group.group in
    let added = c.in_ok-add_group.ensures.ok.0 in
    let grown : new ≡ record old { groups = old.groups ++ added ∷ [] } = c.in_ok-add_group.ensures.ok.1 in
    let P = λ (k g : ℕ). IsInGroup t (get_or firsts k 0) g in
    let same = λ (k : ℕ). subst (λ (l : List ℕ). Contains added k ↔ Contains l k) c.deref.ensures.value (c.in_ok-add_group.ensures.ok.2 k) in
    let more = groups_more old.groups group added c.in_ok-members.members.items P (length firsts) before.groups before.each same c.in_ok-members.ensures.exact in
    record {
      states = ap (λ (u : Transitions). u.states) grown ∙ before.states;
      letters = ap (λ (u : Transitions). u.letters) grown ∙ before.letters;
      next = ap (λ (u : Transitions). u.next) grown ∙ before.next;
      groups = ap (λ (u : Transitions). length u.groups) grown ∙ omega (arith, before.groups, length-append old.groups (added ∷ []));
      each = λ k g lt within. subst (λ (u : Transitions). IsInGroup u k g ↔ P k g) (sym grown) (more k g lt within);
    }

pub returns-clause-groups : goal.returns-clause-groups
returns-clause-groups c =
    let made = c.in_ok-partition.ensures in
    let done = c.loop-group.invariant in
    let all : c.loop-group.group ≡ length c.args.self.groups = omega (arith, c.loop-group-test.false, c.loop-group.auto.group-end, c.group_count-group-end.ensures) in
    let quotient = is_quotient c.args.self _ _ _ c.in_ok-next.ensures.count c.in_ok-next.ensures.each _ _ done.states done.letters (done.next ∙ ap (λ (u : Transitions). u.next) c.new-minimal.ensures) all done.groups done.each in
    same_groups c.args.self _ _ _ made.table made.classes.partition quotient made.agrees made.stable

pub returns-clause-reduced : goal.returns-clause-reduced
returns-clause-reduced c =
    let made = c.in_ok-partition.ensures in
    let done = c.loop-group.invariant in
    let all : c.loop-group.group ≡ length c.args.self.groups = omega (arith, c.loop-group-test.false, c.loop-group.auto.group-end, c.group_count-group-end.ensures) in
    let quotient = is_quotient c.args.self _ _ _ c.in_ok-next.ensures.count c.in_ok-next.ensures.each _ _ done.states done.letters (done.next ∙ ap (λ (u : Transitions). u.next) c.new-minimal.ensures) all done.groups done.each in
    is_reduced c.args.self _ _ _ made.table made.classes.partition quotient made.agrees made.stable made.classes.sound

pub returns-clause-reachable : goal.returns-clause-reachable
returns-clause-reachable c =
    let made = c.in_ok-partition.ensures in
    let done = c.loop-group.invariant in
    let all : c.loop-group.group ≡ length c.args.self.groups = omega (arith, c.loop-group-test.false, c.loop-group.auto.group-end, c.group_count-group-end.ensures) in
    let quotient = is_quotient c.args.self _ _ _ c.in_ok-next.ensures.count c.in_ok-next.ensures.each _ _ done.states done.letters (done.next ∙ ap (λ (u : Transitions). u.next) c.new-minimal.ensures) all done.groups done.each in
    is_reachable c.args.self _ _ _ made.table made.classes.partition quotient made.agrees made.stable

use Rattle.std.proofs.Common.{◌≡◌, ℕ, List, sym, ◌∙◌, subst, ap}
use Rattle.std.specs.Prelude.{Contains, OnOk}
use Rattle.jm_index.specs.Postings.{Paths, IsOwned}
use Rattle.jm_index.specs.Layout.{posting_of}
use Rattle.jm_index.proofs.PathLemmas.{owner_now, posting_now, posting_written, filed_as}
use Rattle.jm_index.proofs.tree.Tree.file_further.Goals as goal

pub file-requires : goal.file-requires
file-requires c =
    let t : Paths = record { leaves = c.self.inside.leaves.items; postings = c.self.inside.postings.items } in
    let owned : IsOwned t c.args.path c.args.number = subst (λ (v : Paths). IsOwned v c.args.path c.args.number) (sym c.self.view_is) c.requires.owned in
    let is : posting_of c.args.self.now c.args.path ≡ c.index_mut-posting.result.now.positions =
    ap (λ (v : Paths). posting_of v c.args.path) (sym c.self.view_is) ∙ posting_now t c.args.path c.args.number _ owned c.index_mut-posting.ensures.value
    in
    λ x there. c.requires.last x (subst (λ (v : List ℕ). Contains v x) (sym is) there)

pub returns-clause-filed : goal.returns-clause-filed
returns-clause-filed c =
    let t : Paths = record { leaves = c.self.inside.leaves.items; postings = c.self.inside.postings.items } in
    let owned : IsOwned t c.args.path c.args.number = subst (λ (v : Paths). IsOwned v c.args.path c.args.number) (sym c.self.view_is) c.requires.owned in
    let is : posting_of c.args.self.now c.args.path ≡ c.index_mut-posting.result.now.positions =
    ap (λ (v : Paths). posting_of v c.args.path) (sym c.self.view_is) ∙ posting_now t c.args.path c.args.number _ owned c.index_mut-posting.ensures.value
    in
    let mine : c.file.new.self.owner ≡ c.args.path = c.file.ensures.owner ∙ owner_now t c.args.path c.args.number _ owned c.index_mut-posting.ensures.value in
    filed_as _ _ _ _ _ is (posting_written t c.args.path c.args.number c.file.new.self owned mine) c.file.ensures.filed

pub returns-clause-present : goal.returns-clause-present
returns-clause-present c =
    let t : Paths = record { leaves = c.self.inside.leaves.items; postings = c.self.inside.postings.items } in
    let owned : IsOwned t c.args.path c.args.number = subst (λ (v : Paths). IsOwned v c.args.path c.args.number) (sym c.self.view_is) c.requires.owned in
    let mine : c.file.new.self.owner ≡ c.args.path = c.file.ensures.owner ∙ owner_now t c.args.path c.args.number _ owned c.index_mut-posting.ensures.value in
    subst (λ (v : List ℕ). OnOk c.file.result (Contains v c.args.position)) (sym (posting_written t c.args.path c.args.number c.file.new.self owned mine)) c.file.ensures.present

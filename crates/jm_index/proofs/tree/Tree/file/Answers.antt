use Rattle.std.proofs.Common.{◌≡◌, ℕ, List, [], ◌∷◌, refl, sym, ◌∙◌, subst, arith}
use Rattle.std.specs.Prelude.{Contains}
use Rattle.jm_index.specs.Layout.{posting_of}
use Rattle.jm_index.proofs.PathLemmas.{posting_same, posting_one, filed_as}
use Rattle.jm_index.proofs.tree.Tree.file.Goals as goal

pub file_further-requires-clause-last : goal.file_further-requires-clause-last
file_further-requires-clause-last c =
    let same : posting_of c.cover.new.self c.args.path ≡ posting_of c.args.self.now c.args.path = posting_same c.args.self.now c.cover.new.self c.args.path (c.in_ok-cover.ensures.unchanged c.args.path) c.in_ok-cover.ensures.postings in
    λ x there. c.requires.last x (subst (λ (v : List ℕ). Contains v x) same there)

pub returns-in-Some-clause-filed : goal.returns-in-Some-clause-filed
returns-in-Some-clause-filed c =
    let same : posting_of c.cover.new.self c.args.path ≡ posting_of c.args.self.now c.args.path = posting_same c.args.self.now c.cover.new.self c.args.path (c.in_ok-cover.ensures.unchanged c.args.path) c.in_ok-cover.ensures.postings in
    filed_as c.args.position _ _ _ _ (sym same) refl c.file_further.ensures.filed

pub file_second-requires-clause-last : goal.file_second-requires-clause-last
file_second-requires-clause-last c =
    let same : posting_of c.cover.new.self c.args.path ≡ posting_of c.args.self.now c.args.path = posting_same c.args.self.now c.cover.new.self c.args.path (c.in_ok-cover.ensures.unchanged c.args.path) c.in_ok-cover.ensures.postings in
    let one : posting_of c.cover.new.self c.args.path ≡ c.in-Some-one.first ∷ [] = posting_one c.cover.new.self c.args.path c.in-Some-one.first c.in-Some-one.ensures.value in
    c.requires.last c.in-Some-one.first (subst (λ (v : List ℕ). Contains v c.in-Some-one.first) (sym one ∙ same) (0, (omega arith), refl))

pub returns-in-Some-one-clause-filed : goal.returns-in-Some-one-clause-filed
returns-in-Some-one-clause-filed c =
    let same : posting_of c.cover.new.self c.args.path ≡ posting_of c.args.self.now c.args.path = posting_same c.args.self.now c.cover.new.self c.args.path (c.in_ok-cover.ensures.unchanged c.args.path) c.in_ok-cover.ensures.postings in
    filed_as c.args.position _ _ _ _ (sym same) refl c.file_second.ensures.filed

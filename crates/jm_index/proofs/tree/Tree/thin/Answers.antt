use Rattle.std.proofs.Common.{◌≡◌, ℕ, ◌<◌, List, [], ◌∷◌, true, length, sym, ◌∙◌, subst, ap}
use Rattle.std.specs.Prelude.{Contains}
use Rattle.jm_index.specs.declared.tree.Leaf.TheVariants.{Nothing}
use Rattle.jm_index.specs.Postings.{Paths, IsOwned}
use Rattle.jm_index.specs.Layout.{posting_of, is_live_at}
use Rattle.jm_index.proofs.ReadLemmas.{Contains-none}
use Rattle.jm_index.proofs.PathLemmas.{written, written_each, led, led_each, posting_one, one_gone}
use Rattle.jm_index.proofs.tree.Tree.thin.Goals as goal

pub returns-in-Some-clause-within : goal.returns-in-Some-clause-within
returns-in-Some-clause-within c =
    let t : Paths = record { leaves = c.self.inside.leaves.items; postings = c.self.inside.postings.items } in
    let owned : IsOwned t c.args.path c.in-Some.number = subst (λ (v : Paths). IsOwned v c.args.path c.in-Some.number) (sym c.self.view_is) c.in-Some.ensures.some in
    let each : (q x : ℕ) → Contains (posting_of (written t c.in-Some.number c.thin.new.self) q) x → Contains (posting_of t q) x =
    λ q. written_each (λ (a b : List ℕ). (x : ℕ) → Contains b x → Contains a x) t c.args.path c.in-Some.number _ c.thin.new.self owned c.index_mut-posting.ensures.value c.thin.ensures.owner c.thin.ensures.within (λ v x h. h) q
    in
    λ q x there. subst (λ (v : Paths). Contains (posting_of v q) x) c.self.view_is (each q x there)

pub returns-in-Some-clause-live : goal.returns-in-Some-clause-live
returns-in-Some-clause-live c =
    let t : Paths = record { leaves = c.self.inside.leaves.items; postings = c.self.inside.postings.items } in
    let owned : IsOwned t c.args.path c.in-Some.number = subst (λ (v : Paths). IsOwned v c.args.path c.in-Some.number) (sym c.self.view_is) c.in-Some.ensures.some in
    let each : (q x : ℕ) → is_live_at c.args.entries.now x ≡ true → Contains (posting_of t q) x → Contains (posting_of (written t c.in-Some.number c.thin.new.self) q) x =
    λ q. written_each (λ (a b : List ℕ). (x : ℕ) → is_live_at c.args.entries.now x ≡ true → Contains a x → Contains b x) t c.args.path c.in-Some.number _ c.thin.new.self owned c.index_mut-posting.ensures.value c.thin.ensures.owner c.thin.ensures.live (λ v x l h. h) q
    in
    λ q x lives there. each q x lives (subst (λ (v : Paths). Contains (posting_of v q) x) (sym c.self.view_is) there)

pub returns-then-not-is_live_at-clause-within : goal.returns-then-not-is_live_at-clause-within
returns-then-not-is_live_at-clause-within c =
    let t : Paths = record { leaves = c.self.inside.leaves.items; postings = c.self.inside.postings.items } in
    let inside : c.args.path < length t.leaves = subst (λ (v : Paths). c.args.path < length v.leaves) (sym c.self.view_is) c.in-Some-one.ensures.within in
    let each : (q x : ℕ) → Contains (posting_of (led t c.args.path Nothing) q) x → Contains (posting_of t q) x =
    λ q. led_each (λ (a b : List ℕ). (x : ℕ) → Contains b x → Contains a x) t c.args.path Nothing inside (λ x h. absurd (Contains-none x h)) (λ v x h. h) q
    in
    λ q x there. subst (λ (v : Paths). Contains (posting_of v q) x) c.self.view_is (each q x there)

pub returns-then-not-is_live_at-clause-live : goal.returns-then-not-is_live_at-clause-live
returns-then-not-is_live_at-clause-live c =
    let t : Paths = record { leaves = c.self.inside.leaves.items; postings = c.self.inside.postings.items } in
    let inside : c.args.path < length t.leaves = subst (λ (v : Paths). c.args.path < length v.leaves) (sym c.self.view_is) c.in-Some-one.ensures.within in
    let one : posting_of t c.args.path ≡ c.in-Some-one.position ∷ [] =
    ap (λ (v : Paths). posting_of v c.args.path) c.self.view_is ∙ posting_one c.args.self.now c.args.path c.in-Some-one.position c.in-Some-one.ensures.value
    in
    let each : (q x : ℕ) → is_live_at c.args.entries.now x ≡ true → Contains (posting_of t q) x → Contains (posting_of (led t c.args.path Nothing) q) x =
    λ q. led_each (λ (a b : List ℕ). (x : ℕ) → is_live_at c.args.entries.now x ≡ true → Contains a x → Contains b x) t c.args.path Nothing inside
    (λ x lives there. one_gone c.args.entries.now (posting_of t c.args.path) c.in-Some-one.position x one (sym c.if-not-is_live_at.ensures) lives there) (λ v x l h. h) q
    in
    λ q x lives there. each q x lives (subst (λ (v : Paths). Contains (posting_of v q) x) (sym c.self.view_is) there)

use borrow.Author.Count.{below_more}
use Rattle.std.proofs.Common.{ℕ, List, Contains, sym, subst, ◌∙◌, arith}
use Rattle.std.proofs.lemmas.Bool.{false≢true}
use Rattle.jm_coenable.specs.Needs.{set_at}
use Rattle.jm_coenable.proofs.FillLemmas.{read_is}
use Rattle.jm_coenable.proofs.searches.is_in_family.Goals as goal

pub loop-state-preserved : goal.loop-state-preserved
loop-state-preserved c =
    let a = read_is c.args.arrivals.now c.index-arrivals-state.result c.loop-state.state c.index-arrivals-state.is (omega (arith, c.requires)) in
    let n = read_is c.args.needed.now c.index-needed-state.result c.loop-state.state c.index-needed-state.is (omega arith) in
    below_more (λ (state : ℕ). Contains (set_at c.args.arrivals.now state) c.args.letter.0 → Contains (set_at c.args.needed.now state) c.args.mask → ⊥) c.loop-state.state
    c.loop-state.invariant
    (λ arrives needs. false≢true (sym c.if-has_both.false
    ∙ c.has_both.ensures.1 (subst (λ (s : List ℕ). Contains s c.args.letter.0) (sym a) arrives, subst (λ (s : List ℕ). Contains s c.args.mask) (sym n) needs)))

pub returns : goal.returns
returns c = (λ h. absurd (false≢true h), λ h. absurd (c.loop-state.invariant h.0 (omega (arith, h.1)) h.2 h.3))

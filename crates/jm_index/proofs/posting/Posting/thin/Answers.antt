use Rattle.std.proofs.Common.{ap}
use Rattle.jm_index.specs.Layout.{is_live_at}
use Rattle.jm_index.specs.Postings.{Owned}
use Rattle.jm_index.proofs.PostingLemmas.{IsThinned-rises, IsThinned-within, IsThinned-live}
use Rattle.jm_index.proofs.posting.Posting.thin.Goals as goal

pub invariant_of-self : goal.invariant_of-self
invariant_of-self c = IsThinned-rises (is_live_at c.args.entries.now) _ _ c.retain_live.ensures c.self.invariant

pub returns-then-self-len-clause-within : goal.returns-then-self-len-clause-within
returns-then-self-len-clause-within c = IsThinned-within (is_live_at c.args.entries.now) _ _ _ (ap (λ (p : Owned). p.positions) c.self.view_is) c.retain_live.ensures

pub returns-then-self-len-clause-live : goal.returns-then-self-len-clause-live
returns-then-self-len-clause-live c = IsThinned-live (is_live_at c.args.entries.now) _ _ _ (ap (λ (p : Owned). p.positions) c.self.view_is) c.retain_live.ensures

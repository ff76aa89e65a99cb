use Rattle.std.proofs.Common.{◌≡◌, ◌+◌, ◌++◌, ℕ, List, [], ◌∷◌, true, take, sym, ap, subst}
use Rattle.std.specs.Prelude.{bit_and}
use Rattle.jm_model.specs.Bindings.{is_below, mask_of}
use Rattle.jm_model.specs.declared.binding.Binding.{Binding}
use Rattle.jm_model.specs.declared.firings.Firing.{Firing}
use Rattle.jm_audit.specs.Slices.{Sliced}
use Rattle.jm_audit.specs.Accounts.{AreHits, IsPushed}
use Rattle.jm_audit.proofs.HitLemmas.{taken, hits_skip, hits_more, not_both}
use Rattle.jm_audit.proofs.report.list_hits.Goals as goal
use Rattle.jm_audit.proofs.report.list_hits.Goals.{then-is_asked+in_ok-hits+in_ok-push_hits, else-is_asked}

pub hits-requires : goal.hits-requires
hits-requires g c = c.requires c.instance-item.result (c.loop-instance.instance-index, c.loop-instance-test.true, sym c.instance-item.is)

pub loop-instance-preserved : goal.loop-instance-preserved
loop-instance-preserved g c =
    let m = g.M.Monitor.meaning (g.M.Monitor.definition c.args.rules.now) in
    let b = c.args.binding.now in
    let i = c.loop-instance.instance-index in
    let xs = c.args.instances.now in
    let x = c.instance-item.result in
    let before = take i xs in
    let old = c.loop-instance.list.items in
    let after : take (i + 1) xs ≡ before ++ x ∷ [] = taken xs i x c.loop-instance-test.true c.instance-item.is in
    let mine : c.binding.result.now ≡ x.binding = c.binding.ensures in
    let must : c.must_bind-must_bind.result ≡ m.must_bind = c.must_bind-must_bind.ensures in
    elim c.if-is_asked.branch [
      | then-is_asked+in_ok-hits+in_ok-push_hits w ↦
          let asked = c.is_asked.ensures.0 w.if-is_asked.true in
          let pushed : IsPushed x.binding w.in_ok-hits.hits 16 old w.push_hits.new.list.items =
          subst (λ (t : Binding). IsPushed t w.in_ok-hits.hits 16 old w.push_hits.new.list.items) w.binding-then-is_asked.ensures w.in_ok-push_hits.ensures in
          subst (λ (ys : List Sliced). AreHits m b ys c.if-is_asked.list.items) (sym after)
          (subst (λ (fs : List Firing). AreHits m b (before ++ x ∷ []) fs) (sym (ap (λ v. v.items) w.list-is))
          (hits_more m b before x old w.push_hits.new.list.items w.in_ok-hits.hits
          (subst (λ (t : Binding). is_below b t ≡ true) mine asked.0)
          (subst (λ (n : ℕ). bit_and n (mask_of x.binding) ≡ n) must (subst (λ (t : Binding). bit_and c.must_bind-must_bind.result (mask_of t) ≡ c.must_bind-must_bind.result) mine asked.1))
          w.in_ok-hits.ensures.small w.in_ok-hits.ensures.hit pushed c.loop-instance.invariant))
      | else-is_asked w ↦
          subst (λ (ys : List Sliced). AreHits m b ys c.if-is_asked.list.items) (sym after)
          (subst (λ (fs : List Firing). AreHits m b (before ++ x ∷ []) fs) (sym (ap (λ v. v.items) w.list-is))
          (hits_skip m b before x old
          (λ above full. not_both c.is_asked.result (c.is_asked.ensures.1 (
            subst (λ (t : Binding). is_below b t ≡ true) (sym mine) above,
            subst (λ (t : Binding). bit_and c.must_bind-must_bind.result (mask_of t) ≡ c.must_bind-must_bind.result) (sym mine) (subst (λ (n : ℕ). bit_and n (mask_of x.binding) ≡ n) (sym must) full),
          )) w.if-is_asked.false)
          c.loop-instance.invariant))
    ]

use Rattle.std.proofs.Common.{ℕ, ◌≡◌, ◌<◌, ◌↔◌, List, Contains, length, subst, ◌∙◌}
use Rattle.jm_coenable.specs.Needs.{set_at}
use Rattle.jm_coenable.specs.Searches.{AreDeadSets, IsFamilySet, IsStart}
use Rattle.jm_coenable.proofs.MadeLemmas.{needs_made}
use Rattle.jm_coenable.proofs.needs.Needs.new.Goals as goal

pub returns : goal.returns
returns c =
    let needed = c.in_ok-needed.needed.items in
    let arrivals = c.in_ok-arrivals.arrivals.items in
    let alive = c.in_ok-alive.alive.items in
    let families = c.in_ok-families.families.items in
    needs_made c.args.table.now c.args.goal.now c.args.events.now arrivals needed alive families c.start_masks-first.result c.alive_set-start.result c.letters.ensures.table c.in_ok-needed.ensures.count c.in_ok-needed.ensures.exact
    c.in_ok-arrivals.ensures.exact (subst (λ (n : List (List ℕ)). length alive ≡ length n) c.deref.ensures.value c.in_ok-alive.ensures.count)
    (subst (λ (n : List (List ℕ)). (place : ℕ) → place < length alive → AreDeadSets (set_at n place) (set_at alive place)) c.deref.ensures.value c.in_ok-alive.ensures.exact)
    (c.in_ok-families.ensures.count ∙ c.letters.ensures.value)
    (subst (λ (n : List (List ℕ)). (letter : ℕ) → letter < length families → IsFamilySet arrivals n letter (set_at families letter)) c.deref-3.ensures.value
    (subst (λ (a : List (List ℕ)). (letter : ℕ) → letter < length families → IsFamilySet a c.deref-3.result.now letter (set_at families letter)) c.deref-2.ensures.value
    c.in_ok-families.ensures.exact))
    (subst (λ (n : List (List ℕ)). (mask : ℕ) → Contains c.start_masks-first.result mask ↔ IsStart c.args.table.now c.args.goal.now c.args.events.now n c.args.table.now.letters mask) c.deref-4.ensures.value
    c.start_masks-first.ensures)
    c.alive_set-start.ensures

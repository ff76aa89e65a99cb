use Rattle.std.proofs.Common.{◌≡◌, ℕ, zero, suc, Bool, true, false, List, [], ◌∷◌, ◌++◌, refl, subst, lit<}
use Rattle.std.specs.Prelude.{◌&&◌, None, Some}
use Rattle.std.proofs.lemmas.Bool.{false≢true, and_parts, and_from}
use Rattle.jm_model.specs.declared.firings.Firing.{Firing}
use Rattle.jm_semantics.specs.Legality.{IsLegal}
use Rattle.jm_semantics.specs.ChainExamples.{chain, chain_params, is_chain, d, kept_base, before_larger, disposed_base, no_trace}
use Rattle.jm_semantics.proofs.ReplyLemmas.{outcome_is_pinned-lem}
use Rattle.jm_semantics.proofs.DecidingAnswers.{Tests}
use Rattle.jm_semantics.proofs.DecidingHistories.{CutTests, legal-tested}
use Rattle.jm_semantics.proofs.ExampleLemmas.{is_free, free-apart, apart-free, append≢nil, one_handler_tests, one_handler_cuts, AreAvailable, Leads}

-- ---- when an instance is cut
-- whether an available word leads from w to `a d`
abbrev is_alive : List ℕ → ℕ → Bool
is_alive [] dead = is_free 1 dead && is_free 6 dead
is_alive (zero ∷ []) dead = is_free 6 dead
is_alive _ dead = false

-- the one word that matches
chain-word : (u : List ℕ) → is_chain u ≡ true → u ≡ 0 ∷ 2 ∷ []
chain-word [] h = absurd (false≢true h)
chain-word (suc x ∷ u) h = absurd (false≢true h)
chain-word (zero ∷ []) h = absurd (false≢true h)
chain-word (zero ∷ zero ∷ u) h = absurd (false≢true h)
chain-word (zero ∷ suc zero ∷ u) h = absurd (false≢true h)
chain-word (zero ∷ suc (suc zero) ∷ []) h = refl
chain-word (zero ∷ suc (suc zero) ∷ x ∷ u) h = absurd (false≢true h)
chain-word (zero ∷ suc (suc (suc y)) ∷ u) h = absurd (false≢true h)

abbrev AllFree : ℕ → List ℕ → Type 0
AllFree dead u = AreAvailable 3 chain_params is_chain dead u

can : (w : List ℕ) (dead e : ℕ) (u : List ℕ) → AllFree dead (e ∷ u) → is_chain (w ++ e ∷ u) ≡ true → is_alive w dead ≡ true
can [] dead e u a h =
    let b = subst (AllFree dead) (chain-word (e ∷ u) h) a in
    and_from (is_free 1 dead) (is_free 6 dead) (apart-free 1 dead b.0.1) (apart-free 6 dead b.1.0.1)
can (zero ∷ []) dead e u a h =
    let is : 0 ∷ e ∷ u ≡ 0 ∷ 2 ∷ [] = chain-word (0 ∷ e ∷ u) h in
    let rest : e ∷ u ≡ 2 ∷ [] = cc in
    apart-free 6 dead (subst (AllFree dead) rest a).0.1
can (suc x ∷ w) dead e u a h = absurd (false≢true h)
can (zero ∷ y ∷ w) dead e u a h =
    let is : 0 ∷ y ∷ (w ++ e ∷ u) ≡ 0 ∷ 2 ∷ [] = chain-word (0 ∷ y ∷ (w ++ e ∷ u)) h in
    let rest : w ++ e ∷ u ≡ [] = cc in
    absurd (append≢nil w e u rest)

leads : (w : List ℕ) (dead : ℕ) → is_alive w dead ≡ true → Leads 3 chain_params is_chain w dead
leads [] dead h =
    let hs = and_parts (is_free 1 dead) (is_free 6 dead) h in
    (0, 2 ∷ [], ((lit< tt, free-apart 1 dead hs.0), ((lit< tt, free-apart 6 dead hs.1), tt)), refl)
leads (zero ∷ []) dead h = (2, [], ((lit< tt, free-apart 6 dead h), tt), refl)
leads (suc x ∷ w) dead h = absurd (false≢true h)
leads (zero ∷ y ∷ w) dead h = absurd (false≢true h)

abbrev chain_tests : Tests chain
chain_tests = one_handler_tests 3 chain_params is_chain

abbrev chain_cuts : CutTests chain
chain_cuts = one_handler_cuts 3 chain_params is_chain is_alive can leads

-- ---- the histories
pub kept_base-legal : IsLegal chain kept_base
kept_base-legal = legal-tested chain chain_tests (Some chain_cuts) kept_base refl

pub disposed_base-legal : IsLegal chain (disposed_base [])
disposed_base-legal = legal-tested chain chain_tests (Some chain_cuts) (disposed_base []) refl

pub disposed_base-only : (answer : List Firing) → IsLegal chain (disposed_base answer) → answer ≡ []
disposed_base-only answer l =
    let same = outcome_is_pinned-lem chain before_larger (d 5 1 2 answer) (d 5 1 2 []) [] [] l disposed_base-legal refl (λ e. cc) (λ e. cc) in
    cc

pub no_trace-legal : IsLegal chain no_trace
no_trace-legal = legal-tested chain chain_tests None no_trace refl

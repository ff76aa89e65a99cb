-- The next move gets its slot.
use Rattle.std.proofs.Common.{◌≡◌, ◌≢◌, ℕ, inl, inr, List, [], ◌∷◌, ◌++◌, length, get_or, refl, sym, ap, ◌∙◌, subst, append_assoc, arith}
use Rattle.std.specs.Prelude.{Option, Some, None, Contains, AllPairs}
use Rattle.std.proofs.lemmas.Option.{same_Some, none-some}
use Rattle.std.proofs.lemmas.List.Elements.{Contains-append_left, Contains-append_right, Contains-push, Contains-push_cases, Contains-get_or}
use Rattle.std.proofs.lemmas.List.Quantifiers.{all_pairs_push}
use Rattle.jm_semantics.proofs.ListLemmas.{Contains-cons_cases, Contains-head}
use Rattle.jm_index.specs.Index.{Pair}
use Rattle.jm_index.proofs.ReadLemmas.{Contains-none, Contains-cons}
use Rattle.jm_monitors.specs.declared.stored.Stored.{Stored}
use Rattle.jm_monitors.specs.Stores.{HasInstance}
use Rattle.jm_store.specs.declared.moves.Move.{Move}
use Rattle.jm_store.specs.Slots.{monitor_at, stored_in}
use Rattle.jm_store.specs.Moves.{AreApart}
use Rattle.jm_store.specs.Contents.{Contents, stored_of, IsFilled, IsPlannedBy, IsPlaced, ArePlaced, IsSlotted, IsPlacedNext, IsPlacedFrom, AreDistinct, ArePlacedOf}
use Rattle.jm_store.proofs.SlotLemmas.{stored_at}
use Rattle.jm_store.proofs.GivenLemmas.{pairs_head, pairs_tail}

-- of a list in two parts the first of the second and those after it
pub pairs_split : {X : Type 0} (Q : X → X → Type 0) (xs : List X) (x : X) (ys : List X) → AllPairs Q (xs ++ x ∷ ys) → (y : X) → Contains ys y → Q x y
pairs_split Q [] x ys h y there = pairs_head Q x ys h y there
pairs_split Q (z ∷ xs) x ys h y there = pairs_split Q xs x ys (pairs_tail Q z (xs ++ x ∷ ys) h) y there

module _ {S : Type 0} where
  abbrev with_slot : Move S → Option ℕ → Move S
  with_slot move slot = record { slot = slot; monitor = move.monitor; stays = move.stays }

  -- none is placed yet
  pub placed_none : (old new : Contents S) (moves : List (Move S)) → new.index.list ≡ old.index.list → ((k : ℕ) → monitor_at new.monitors k ≡ monitor_at old.monitors k)
      → ((pair : Pair) → Contains old.index.list pair → IsFilled old pair) → ArePlacedOf old new moves [] []
  placed_none old new moves same monitors settled = record {
    apart = λ i j d lt within. absurd (omega (arith, lt, within));
    leads = λ move k there slot. absurd (Contains-none move there);
    filled = λ pair there. let (s, at, is) = settled pair (subst (λ (l : List Pair). Contains l pair) same there) in inl (s, monitors pair.slot ∙ at, is);
    each = λ move there. absurd (Contains-none move there);
    all = λ first there. absurd (Contains-none first there);
    kept = λ pair there. subst (λ (l : List Pair). Contains l pair) (sym same) there;
  }

  module _ (old mid new : Contents S) (moves rest done placed : List (Move S)) (step : Move S)
      (settled : (pair : Pair) → Contains old.index.list pair → IsFilled old pair) (apart : AreApart moves) (leads : ArePlaced old moves) (split : moves ≡ rest ++ step ∷ done)
      (monitors : (k : ℕ) → monitor_at mid.monitors k ≡ monitor_at old.monitors k) (later : (k : ℕ) → monitor_at new.monitors k ≡ monitor_at mid.monitors k)
      (h : ArePlacedOf old mid moves done placed) where
    step_among : Contains moves step
    step_among = subst (λ (l : List (Move S)). Contains l step) (sym split) (Contains-append_right rest (step ∷ done) step (Contains-head step done))

    full_later : (pair : Pair) → IsFilled mid pair → IsFilled new pair
    full_later pair (s, at, is) = (s, later pair.slot ∙ at, is)

    planned_more : (pair : Pair) (move : Move S) → IsPlannedBy placed pair → IsPlannedBy (placed ++ move ∷ []) pair
    planned_more pair move (other, there, slot, binding) = (other, Contains-append_left placed (move ∷ []) other there, slot, binding)

    each_more : (move : Move S) → IsPlacedFrom old step move → (AreDistinct moves → move.slot ≡ None → HasInstance (stored_of old) step.monitor.instance)
        → (other : Move S) → Contains (placed ++ move ∷ []) other
        → (first : Move S) × Contains (step ∷ done) first × IsPlacedFrom old first other × (AreDistinct moves → other.slot ≡ None → HasInstance (stored_of old) first.monitor.instance)
    each_more move from missed other there =
        elim (Contains-push_cases placed move other there) [
          | inl before ↦ let (first, among, is, rest') = h.each other before in (first, Contains-cons step first done among, is, rest')
          | inr same ↦
              subst (λ (x : Move S). (first : Move S) × Contains (step ∷ done) first × IsPlacedFrom old first x × (AreDistinct moves → x.slot ≡ None → HasInstance (stored_of old) first.monitor.instance)) same
              (step, Contains-head step done, from, missed)
        ]

    all_more : (move : Move S) → IsPlacedFrom old step move → (AreDistinct moves → move.slot ≡ None → HasInstance (stored_of old) step.monitor.instance)
        → (first : Move S) → Contains (step ∷ done) first
        → (other : Move S) × Contains (placed ++ move ∷ []) other × IsPlacedFrom old first other × (AreDistinct moves → other.slot ≡ None → HasInstance (stored_of old) first.monitor.instance)
    all_more move from missed first there =
        elim (Contains-cons_cases step done first there) [
          | inl same ↦
              subst (λ (x : Move S). (other : Move S) × Contains (placed ++ move ∷ []) other × IsPlacedFrom old x other × (AreDistinct moves → other.slot ≡ None → HasInstance (stored_of old) x.monitor.instance)) same
              (move, Contains-push placed move, from, missed)
          | inr among ↦ let (other, within, is, rest') = h.all first among in (other, Contains-append_left placed (move ∷ []) other within, is, rest')
        ]

    -- a move that had a slot
    placed_had : (k : ℕ) → step.slot ≡ Some k → new.index.list ≡ mid.index.list → ArePlacedOf old new moves (step ∷ done) (placed ++ with_slot step (Some k) ∷ [])
    placed_had k had same =
        let move = with_slot step (Some k) in
        let from : IsPlacedFrom old step move = record {
          monitor = refl;
          stays = refl;
          kept = λ n slot. sym had ∙ slot;
          got = λ n none slot. absurd (none-some k (sym none ∙ had));
        } in
        let back : (pair : Pair) → Contains new.index.list pair → Contains mid.index.list pair = λ pair. subst (λ (l : List Pair). Contains l pair) same in
        let on : (pair : Pair) → Contains mid.index.list pair → Contains new.index.list pair = λ pair. subst (λ (l : List Pair). Contains l pair) (sym same) in
        let mine = leads step k step_among had in
        record {
          apart = all_pairs_push (λ x y. (n : ℕ) → x.slot ≡ Some n → y.slot ≡ Some n → ⊥) placed move h.apart
              (λ i d lt n its slot. clash k had mine (get_or placed i d) (Contains-get_or placed i d lt) (its ∙ sym slot));
          leads = λ other n there slot. elim (Contains-push_cases placed move other there) [
            | inl before ↦ on _ (h.leads other n before slot)
            | inr is ↦
                let at : k ≡ n = same_Some k n (ap (λ (x : Move S). x.slot) is ∙ slot) in
                subst (λ (x : Move S). Contains new.index.list (record { binding = x.monitor.instance; slot = n })) is
                (subst (λ (j : ℕ). Contains new.index.list (record { binding = step.monitor.instance; slot = j })) at (on _ (h.kept _ mine)))
          ];
          filled = λ pair there. elim (h.filled pair (back pair there)) [ inl full ↦ inl (full_later pair full) | inr planned ↦ inr (planned_more pair move planned) ];
          each = each_more move from (λ distinct none. absurd (none-some k (sym none)));
          all = all_more move from (λ distinct none. absurd (none-some k (sym none)));
          kept = λ pair there. on pair (h.kept pair there);
        }
      where
        clash : (k : ℕ) → step.slot ≡ Some k → Contains old.index.list (record { binding = step.monitor.instance; slot = k }) → (other : Move S) → Contains placed other → other.slot ≡ Some k → ⊥
        clash k had mine other there slot =
            let (first, among, is, missed) = h.each other there in
            from_slot first.slot first among is refl
          where
            from_slot : (o : Option ℕ) → (first : Move S) → Contains done first → IsPlacedFrom old first other → first.slot ≡ o → ⊥
            from_slot None first among is e =
                let full = settled (record { binding = step.monitor.instance; slot = k }) mine in
                none-some full.0 (sym (is.got k e slot) ∙ full.1)
            from_slot (Some n) first among is e =
                let at : n ≡ k = same_Some n k (sym (is.kept n e) ∙ slot) in
                pairs_split (λ x y. (j : ℕ) → x.slot ≡ Some j → y.slot ≡ Some j → ⊥) rest step done (subst AreApart split apart) first among k had (e ∙ ap (λ (j : ℕ). Some j) at)

    -- a new instance that has a pair
    placed_missed : step.slot ≡ None → new.index.list ≡ mid.index.list → ((pair : Pair) × Contains mid.index.list pair × (pair.binding ≡ step.monitor.instance))
        → ArePlacedOf old new moves (step ∷ done) (placed ++ with_slot step None ∷ [])
    placed_missed none same (pair, within, is) =
        let move = with_slot step None in
        let missed : AreDistinct moves → move.slot ≡ None → HasInstance (stored_of old) step.monitor.instance = λ distinct e. elim (h.filled pair within) [
          | inl full ↦ (full.0, stored_at old.monitors pair.slot full.0 (sym (monitors pair.slot) ∙ full.1), full.2 ∙ is)
          | inr planned ↦
              let (first, among, from', missed') = h.each planned.0 planned.1 in
              absurd (pairs_split (λ x y. x.monitor.instance ≢ y.monitor.instance) rest step done (subst AreDistinct split distinct) first among
              (sym is ∙ sym planned.3 ∙ ap (λ (s : Stored S). s.instance) from'.monitor))
        ] in
        let from : IsPlacedFrom old step move = record { monitor = refl; stays = refl; kept = λ n slot. absurd (none-some n (sym none ∙ slot)); got = λ n e slot. absurd (none-some n slot) } in
        let back : (p : Pair) → Contains new.index.list p → Contains mid.index.list p = λ p. subst (λ (l : List Pair). Contains l p) same in
        let on : (p : Pair) → Contains mid.index.list p → Contains new.index.list p = λ p. subst (λ (l : List Pair). Contains l p) (sym same) in
        record {
          apart = all_pairs_push (λ x y. (n : ℕ) → x.slot ≡ Some n → y.slot ≡ Some n → ⊥) placed move h.apart (λ i d lt n its slot. none-some n slot);
          leads = λ other n there slot. elim (Contains-push_cases placed move other there) [
            | inl before ↦ on _ (h.leads other n before slot)
            | inr e ↦ absurd (none-some n (ap (λ (x : Move S). x.slot) e ∙ slot))
          ];
          filled = λ p there. elim (h.filled p (back p there)) [ inl full ↦ inl (full_later p full) | inr planned ↦ inr (planned_more p move planned) ];
          each = each_more move from missed;
          all = all_more move from missed;
          kept = λ p there. on p (h.kept p there);
        }

    -- a new instance that gets a pair
    placed_got : (k : ℕ) → step.slot ≡ None → new.index.list ≡ mid.index.list ++ record { binding = step.monitor.instance; slot = k } ∷ []
        → ((pair : Pair) → Contains mid.index.list pair → pair.slot ≡ k → ⊥) → monitor_at mid.monitors k ≡ None → ArePlacedOf old new moves (step ∷ done) (placed ++ with_slot step (Some k) ∷ [])
    placed_got k none grown unused empty =
        let move = with_slot step (Some k) in
        let pair : Pair = record { binding = step.monitor.instance; slot = k } in
        let from : IsPlacedFrom old step move = record {
          monitor = refl;
          stays = refl;
          kept = λ n slot. absurd (none-some n (sym none ∙ slot));
          got = λ n e slot. subst (λ (j : ℕ). monitor_at old.monitors j ≡ None) (same_Some k n slot) (sym (monitors k) ∙ empty);
        } in
        let on : (p : Pair) → Contains mid.index.list p → Contains new.index.list p = λ p there. subst (λ (l : List Pair). Contains l p) (sym grown) (Contains-append_left mid.index.list (pair ∷ []) p there) in
        record {
          apart = all_pairs_push (λ x y. (n : ℕ) → x.slot ≡ Some n → y.slot ≡ Some n → ⊥) placed move h.apart
              (λ i d lt n its slot. unused _ (h.leads (get_or placed i d) n (Contains-get_or placed i d lt) its) (sym (same_Some k n slot)));
          leads = λ other n there slot. elim (Contains-push_cases placed move other there) [
            | inl before ↦ on _ (h.leads other n before slot)
            | inr is ↦
                let at : k ≡ n = same_Some k n (ap (λ (x : Move S). x.slot) is ∙ slot) in
                subst (λ (x : Move S). Contains new.index.list (record { binding = x.monitor.instance; slot = n })) is
                (subst (λ (j : ℕ). Contains new.index.list (record { binding = step.monitor.instance; slot = j })) at
                (subst (λ (l : List Pair). Contains l pair) (sym grown) (Contains-push mid.index.list pair)))
          ];
          filled = λ p there. elim (Contains-push_cases mid.index.list pair p (subst (λ (l : List Pair). Contains l p) grown there)) [
            | inl before ↦ elim (h.filled p before) [ inl full ↦ inl (full_later p full) | inr planned ↦ inr (planned_more p move planned) ]
            | inr is ↦ inr (move, Contains-push placed move, ap (λ (x : Pair). Some x.slot) is, ap (λ (x : Pair). x.binding) is)
          ];
          each = each_more move from (λ distinct e. absurd (none-some k (sym e)));
          all = all_more move from (λ distinct e. absurd (none-some k (sym e)));
          kept = λ p there. on p (h.kept p there);
        }

    pub placed_next : (after : List (Move S)) → IsPlacedNext mid new step placed after → ArePlacedOf old new moves (step ∷ done) after
    placed_next after next = rw next.grown (by_slot next.slot next.slotted)
      where
        fresh : (slot : Option ℕ) → step.slot ≡ None → IsPlaced mid new step.monitor.instance slot → ArePlacedOf old new moves (step ∷ done) (placed ++ with_slot step slot ∷ [])
        fresh None none (same, has) = placed_missed none same has
        fresh (Some k) none (grown, unused, empty) = placed_got k none grown unused empty

        by_slot : (slot : Option ℕ) → IsSlotted mid new step slot → ArePlacedOf old new moves (step ∷ done) (placed ++ with_slot step slot ∷ [])
        by_slot slot (inl (same, (k, had, is))) = subst (λ (o : Option ℕ). ArePlacedOf old new moves (step ∷ done) (placed ++ with_slot step o ∷ [])) (sym is) (placed_had k had same)
        by_slot slot (inr (none, is)) = fresh slot none is

pub step_split : {X : Type 0} (all before rest done : List X) (step : X) → all ≡ before ++ done → before ≡ rest ++ step ∷ [] → all ≡ rest ++ step ∷ done
step_split {X} all before rest done step is last = is ∙ ap (λ (l : List X). l ++ done) last ∙ append_assoc rest (step ∷ []) done

pub split_among : {X : Type 0} (all rest done : List X) (step : X) → all ≡ rest ++ step ∷ done → Contains all step
split_among {X} all rest done step is = subst (λ (l : List X). Contains l step) (sym is) (Contains-append_right rest (step ∷ done) step (Contains-head step done))

module _ {S : Type 0} where
  from_same : (old other : Contents S) (first move : Move S) → other.monitors ≡ old.monitors → IsPlacedFrom old first move → IsPlacedFrom other first move
  from_same old other first move same h = record {
    monitor = h.monitor;
    stays = h.stays;
    kept = h.kept;
    got = λ k none slot. ap (λ (l : List (Option (Stored S))). monitor_at l k) same ∙ h.got k none slot;
  }

  -- only the monitors and the pairs of a store count
  pub placed_same : (old other new : Contents S) (moves done placed : List (Move S)) → other.monitors ≡ old.monitors → other.index.list ≡ old.index.list → ArePlacedOf old new moves done placed
      → ArePlacedOf other new moves done placed
  placed_same old other new moves done placed same pairs h = record {
    apart = h.apart;
    leads = h.leads;
    filled = h.filled;
    each = λ move there.
        let (first, among, is, missed) = h.each move there in
        (first, among, from_same old other first move same is, λ distinct none. subst (λ (l : List (Option (Stored S))). HasInstance (stored_in l) first.monitor.instance) (sym same) (missed distinct none));
    all = λ first there.
        let (move, among, is, missed) = h.all first there in
        (move, among, from_same old other first move same is, λ distinct none. subst (λ (l : List (Option (Stored S))). HasInstance (stored_in l) first.monitor.instance) (sym same) (missed distinct none));
    kept = λ pair there. h.kept pair (subst (λ (l : List Pair). Contains l pair) pairs there);
  }

  pub all_placed : (old new : Contents S) (moves rest done placed : List (Move S)) → moves ≡ rest ++ done → length rest ≡ 0 → ArePlacedOf old new moves done placed → ArePlacedOf old new moves moves placed
  all_placed old new moves [] done placed split none h = subst (λ (l : List (Move S)). ArePlacedOf old new moves l placed) (sym split) h
  all_placed old new moves (x ∷ rest) done placed split none h = absurd (omega (arith, none))

  -- moves that all have slots are placed as they are
  pub placed_already : (store : Contents S) (moves : List (Move S)) → AreApart moves → ArePlaced store moves → ((pair : Pair) → Contains store.index.list pair → IsFilled store pair)
      → ((move : Move S) → Contains moves move → move.slot ≡ None → ⊥) → ArePlacedOf store store moves moves moves
  placed_already store moves apart leads settled slotted = record {
    apart = apart;
    leads = leads;
    filled = λ pair there. inl (settled pair there);
    each = λ move there. (move, there, itself move there, λ distinct none. absurd (slotted move there none));
    all = λ move there. (move, there, itself move there, λ distinct none. absurd (slotted move there none));
    kept = λ pair there. there;
  }
    where
      itself : (move : Move S) → Contains moves move → IsPlacedFrom store move move
      itself move there = record { monitor = refl; stays = refl; kept = λ k slot. slot; got = λ k none slot. absurd (slotted move there none) }

-- The steps of one turn keep the rule.
use Rattle.std.proofs.Common.{◌≡◌, ℕ, ◌+◌, ◌%◌, ◌^◌, ◌<◌, ◌≤◌, ◌≢◌, ◌⊎◌, true, false, List, [], ◌∷◌, ◌++◌, length, get_or, set, Option, Some, None, sym, refl, ap, ◌∙◌, subst, inl, inr, ⊎_elim, arith, le_refl, length-append}
use Rattle.std.proofs.Math.Nat.{add-mod}
use mathlib.Core.Logic.{dite}
use mathlib.Core.Option.{some, none, some-injective}
use lib.Seq.{set-get_or}
use mathlib.Core.List.{IsPrefix}
use native.Mathlib.Decide.{ℕ_discrete}
use lib.ListN.{get_elem?}
use Rattle.atomic_table.specs.Table.{State, Me, step, keeps, takes, gives, Allows}
use Rattle.atomic_table.proofs.Lists.{at_set, one_turn, set_again}
use Rattle.jm_turn.specs.declared.rule.View.{View}
use Rattle.jm_turn.specs.Lists.{total, times, entries_by, once_within}
use Rattle.jm_turn.specs.Views.{idle_seat, joined_numbers, ticket_at, tickets_of, holders_of, number_at, numbers_of, unnumbered_of, reserved_at, with_ticket, waiting_seat, holding_seat}
use Rattle.jm_turn.specs.Rule.{Knows, Fits, Homes, IsInSlot, IsHeld, RuleHolds}
use Rattle.jm_turn.specs.Steps.{Draws, Looks, PassesOn}
use Rattle.std.specs.Option.{option_to_list}
use Rattle.jm_turn.proofs.Sums.{times-append, total_set, total_same, total_one, total_two, total_some, total_le, ticket_drawn, ticket_back, once_within_most, once_within_in, once_below_most, once_below_in, times_self, one_if_true}
use Rattle.jm_turn.proofs.Prefixes.{prefix_self, knows_more, all_know_more, all_below_snoc}

abbrev some_or : {V : Type 0} → V → Option V → V
some_or d None = d
some_or d (Some y) = y

abbrev pub first_value : {V : Type 0} → V → List (ℕ × Option V) → V
first_value d [] = d
first_value d (x ∷ xs) = some_or d x.1

module _ {A : Type 0} where
  -- what holds of the new one and of each other holds of all
  pub others_stay : (P : A → Type 0) (views : List A) (id : ℕ) (w : A) → P w → ((j : ℕ) (v : A) → j ≢ id → get_elem? views j ≡ some v → P v) → (j : ℕ) (v : A) → get_elem? (set views id w) j ≡ some v → P v
  others_stay P views id w mine others j v e = ⊎_elim (λ (t : (j ≡ id) × (w ≡ v)). subst P t.1 mine) (λ (t : (j ≢ id) × (get_elem? views j ≡ some v)). others j v t.0 t.1) (at_set views id j w v e)

module _ {V E F : Type 0} (entries : V → List E) (caller : E → ℕ) (part : V → F) (f : F) (most : ℕ) where
  abbrev pub Rule : State (Option V) (View E F) → Type 0
  Rule = RuleHolds entries caller part f most

  pub home_same : (history : List E) (homes : Homes V) (m n : ℕ) → n ≡ m → IsInSlot entries part f history homes m ⊎ IsHeld homes m → IsInSlot entries part f history homes n ⊎ IsHeld homes n
  home_same history homes m n same h = subst (λ (k : ℕ). IsInSlot entries part f history homes k ⊎ IsHeld homes k) (sym same) h

  -- a step after which the sums, but that of the turns, are as before
  pub keep : (s : State (Option V) (View E F)) (r : RuleHolds entries caller part f most s) (id : ℕ) (v w : View E F) → get_elem? s.views id ≡ some v → (homes : Homes V)
      → Fits caller f r.history r.count w → ((t : ℕ) → ticket_at t w ≡ ticket_at t v) → tickets_of w ≡ tickets_of v → ((m : ℕ) → number_at m w ≡ number_at m v) → numbers_of w ≡ numbers_of v → unnumbered_of w ≡ unnumbered_of v → w.next_number ≡ v.next_number
      → IsInSlot entries part f r.history homes (total holders_of (set s.views id w)) ⊎ IsHeld homes (total holders_of (set s.views id w)) → RuleHolds entries caller part f most record { words = s.words; homes = homes; views = set s.views id w }
  keep s r id v w at homes fits a b c d e due home = record {
    history = r.history;
    next = r.next;
    count = r.count;
    words = r.words;
    each = others_stay (Fits caller f r.history r.count) s.views id w fits (λ j x _ e. r.each j x e);
    tickets = λ t. total_same (ticket_at t) s.views id v w at (a t) ∙ r.tickets t;
    waiting = let t = total_same tickets_of s.views id v w at b in let k = r.waiting in omega arith;
    numbers = λ m. total_same (number_at m) s.views id v w at (c m) ∙ r.numbers m;
    seated = let t = total_same numbers_of s.views id v w at d in let k = r.seated in omega arith;
    reserved = λ n. total_same (reserved_at n) s.views id v w at (λ i. once_within (due i) (due i + e i) n) ∙ r.reserved n;
    room = let t = total_same unnumbered_of s.views id v w at e in let k = r.room in omega arith;
    few = r.few;
    callers = r.callers;
    home = home;
  }

  -- no seat has the first ticket but the one whose turn has with_turn
  two_turns : {s : State (Option V) (View E F)} (r : RuleHolds entries caller part f most s) (id n t : ℕ) (h : List E) → get_elem? s.views id ≡ some (waiting_seat n t h f) → length r.history ≡ t
      → (j : ℕ) (u : View E F) → get_elem? s.views j ≡ some u → holders_of u ≡ 1 → ⊥
  two_turns {s} r id n t h at mine j u there turn =
      let on : u.holder ≡ true = one_if_true u.holder turn in
      let theirs : u.ticket ≡ Some t = (r.each j u there).served on ∙ ap Some mine in
      let same : ticket_at t u ≡ times t (t ∷ []) = ap (λ (o : Option ℕ). times t (option_to_list o)) theirs in
      dite (ℕ_discrete id j)
      (λ e. let is : waiting_seat n t h f ≡ u = some-injective (waiting_seat n t h f) u (sym at ∙ (ap (get_elem? s.views) e ∙ there)) in
      let off : false ≡ true = ap (λ (x : View E F). x.holder) is ∙ on in absurd (cc (off)))
      (λ apart.
      let two = total_two (ticket_at t) s.views id j (waiting_seat n t h f) u at there apart in
      let one = once_within_most (length r.history) r.next t in
      let is = r.tickets t in let own = times_self t in
      omega arith)

  pub draws : (slots id n : ℕ) (h : List E) (cs : List (ℕ × Option V))
      → Allows Rule slots id (idle_seat n h f, cs) 0 (λ x. (x + 1) % 2 ^ 64) (Draws (step slots 0 1 0 none) (idle_seat n h f, cs))
  draws slots id n h cs s r _ at small =
      let v : View E F = idle_seat n h f in let w : View E F = with_ticket r.next v in let o = r.each id v at in let out = r.waiting in (
        w,
        keeps,
        tt,
        record {
          history = r.history;
          next = r.next + 1;
          count = r.count;
          words = subst (λ (ws : List ℕ). set ws 0 ((get_or ws 0 0 + 1) % 2 ^ 64) ≡ ((r.next + 1) % 2 ^ 64) ∷ (length r.history % 2 ^ 64) ∷ r.count ∷ []) (sym r.words)
              (ap (λ (x : ℕ). x ∷ (length r.history % 2 ^ 64) ∷ r.count ∷ []) (sym (add-mod r.next 1 (2 ^ 64))));
          each = others_stay (Fits caller f r.history r.count) s.views id w
              (record { knows = o.knows; joined = o.joined; ticketed = le_refl 1; makes = o.makes; told = o.told; whole = o.whole; served = λ e. absurd cc; fixed = inl refl })
              (λ j x _ e. r.each j x e);
          tickets = λ t. ticket_drawn (length r.history) r.next t (total (ticket_at t) s.views) (total (ticket_at t) (set s.views id w)) (omega arith) (r.tickets t) (total_set (ticket_at t) s.views id v w at);
          waiting = let t = total_set (tickets_of {E = E} {F = F}) s.views id v w at in omega arith;
          numbers = λ m. total_same (number_at m) s.views id v w at refl ∙ r.numbers m;
          seated = let t = total_same (numbers_of {E = E} {F = F}) s.views id v w at refl in let k = r.seated in omega arith;
          reserved = λ m. total_same (reserved_at m) s.views id v w at refl ∙ r.reserved m;
          room = let t = total_same (unnumbered_of {E = E} {F = F}) s.views id v w at refl in let k = r.room in omega arith;
          few = r.few;
          callers = r.callers;
          home = home_same r.history s.homes (total holders_of s.views) (total holders_of (set s.views id w)) (total_same holders_of s.views id v w at refl) r.home;
        },
        (r.next, sym (ap (λ (ws : List ℕ). get_or ws 0 0) r.words), refl),
      )

  -- the same at the word and by the amount that the code names
  pub draws_at : (slots id n i k : ℕ) (h : List E) (me : Me (Option V) (View E F)) → i ≡ 0 → k ≡ 1 → me ≡ (idle_seat n h f, []) → Allows Rule slots id me i (λ x. (x + k) % 2 ^ 64) (Draws (step slots i k 0 none) me)
  draws_at slots id n i k h me word amount is =
      subst (λ (w : ℕ). Allows Rule slots id me w (λ x. (x + k) % 2 ^ 64) (Draws (step slots w k 0 none) me)) (sym word)
      (subst (λ (a : ℕ). Allows Rule slots id me 0 (λ x. (x + a) % 2 ^ 64) (Draws (step slots 0 a 0 none) me)) (sym amount)
      (subst (λ (m : Me (Option V) (View E F)). Allows Rule slots id m 0 (λ x. (x + 1) % 2 ^ 64) (Draws (step slots 0 1 0 none) m)) (sym is) (draws slots id n h [])))

  pub looks : (slots id n t : ℕ) (h : List E) (cs : List (ℕ × Option V))
      → Allows Rule slots id (waiting_seat n t h f, cs) 1 (λ x. x) (Looks entries caller part (step slots 1 0 0 none) (waiting_seat n t h f, cs))
  looks slots id n t h cs s r _ at small =
      let v : View E F = waiting_seat n t h f in let o = r.each id v at in
      let serving : get_or s.words 1 0 ≡ length r.history % 2 ^ 64 = ap (λ (ws : List ℕ). get_or ws 1 0) r.words in
      let own : times t (t ∷ []) ≡ 1 = times_self t in
      let here : times t (t ∷ []) ≤ total (ticket_at t) s.views = total_one (ticket_at t) s.views id v at in
      let is = r.tickets t in
      let within = once_within_in (length r.history) r.next t (omega arith) in
      let few_tickets = total_le tickets_of numbers_of s.views (λ j x e. (r.each j x e).ticketed) in
      let out = r.waiting in let room = r.room in let few = r.few in let numbered = r.seated in
      dite (ℕ_discrete (get_or s.words 1 0) (t % 2 ^ 64))
      (λ hit.
      let low = within.0 in let high = within.1 in
      let mine : length r.history ≡ t = one_turn (length r.history) t (2 ^ 64) low (omega arith) (sym serving ∙ hit) in
      ⊎_elim
      (λ (home : IsInSlot entries part f r.history s.homes (total holders_of s.views)).
      let y : V = home.0 in let w : View E F = holding_seat n t (entries y) f in (
        w,
        takes 0 (Some y),
        subst (λ (hs : Homes V). get_elem? hs 0 ≡ some (some (Some y))) (sym home.1) refl,
        subst (λ (ws : List ℕ). Rule record { words = ws; homes = set s.homes 0 none; views = set s.views id w }) (sym (set-get_or s.words 1 0))
            (keep s r id v w at (set s.homes 0 none)
            (record {
              knows = subst (λ (l : List E). Knows caller l (Some n) (entries y)) home.2 (prefix_self (entries y), λ _ _. refl);
              joined = tt;
              ticketed = o.ticketed;
              makes = o.makes;
              told = o.told;
              whole = λ _. home.2;
              served = λ _. ap Some (sym mine);
              fixed = inl refl;
            })
            (λ _. refl) refl (λ _. refl) refl refl refl
            (inr (ap (λ (hs : Homes V). set hs 0 none) home.1, (let k = total_set holders_of s.views id v w at in let z = home.4 in omega arith)))),
        λ t' same.
            let e : t ≡ t' = cc in (
              (λ miss. absurd (miss (hit ∙ ap (λ (x : ℕ). x % 2 ^ 64) e))),
              (λ _. (
                y,
                refl,
                subst (λ (l : List E). IsPrefix h l) (sym home.2) o.knows.0,
                (λ g is. home.3 ∙ cc),
                (λ m is. o.knows.1 m is ∙ ap (entries_by caller m) (sym home.2)),
              )),
            ),
      ))
      (λ (busy : IsHeld s.homes (total holders_of s.views)).
      let holder = total_some holders_of s.views busy.1 in
      absurd (two_turns r id n t h at mine holder.0 holder.1 holder.2 holder.3))
      r.home)
      (λ miss. (
        v,
        keeps,
        tt,
        subst (λ (z : List ℕ × List (View E F)). Rule record { words = z.0; homes = s.homes; views = z.1 }) (λ i. (sym (set-get_or s.words 1 0) i, sym (set_again s.views id v at) i)) r,
        λ t' same. ((λ _. refl), (λ hit. absurd (miss (hit ∙ ap (λ (x : ℕ). x % 2 ^ 64) (cc (same)))))),
      ))

  pub looks_at : (slots id n t i : ℕ) (h : List E) (me : Me (Option V) (View E F)) → i ≡ 1 → me ≡ (waiting_seat n t h f, []) → Allows Rule slots id me i (λ x. x) (Looks entries caller part (step slots i 0 0 none) me)
  looks_at slots id n t i h me word is =
      subst (λ (w : ℕ). Allows Rule slots id me w (λ x. x) (Looks entries caller part (step slots w 0 0 none) me)) (sym word)
      (subst (λ (m : Me (Option V) (View E F)). Allows Rule slots id m 1 (λ x. x) (Looks entries caller part (step slots 1 0 0 none) m)) (sym is) (looks slots id n t h []))

  -- what another seat knows stays so after the holder's entry
  others_fit : {s : State (Option V) (View E F)} (r : RuleHolds entries caller part f most s) (id n t : ℕ) (h : List E) → get_elem? s.views id ≡ some (holding_seat n t h f) → length r.history ≡ t → (e : E) → caller e ≡ n
      → (j : ℕ) (x : View E F) → j ≢ id → get_elem? s.views j ≡ some x → Fits caller f (r.history ++ e ∷ []) r.count x
  others_fit {s} r id n t h at mine e own j x other there =
      let o = r.each j x there in
      let v : View E F = holding_seat n t h f in
      let apart : id ≢ j = λ q. other (sym q) in
      let two : times n (n ∷ []) + times n (option_to_list x.number ++ joined_numbers x.joined) ≤ total (number_at n) s.views = total_two (number_at n) s.views id j v x at there apart in
      let one = once_below_most n r.count in
      let is = r.numbers n in
      let self : times n (n ∷ []) ≡ 1 = times_self n in
      let both = times-append n (option_to_list x.number) (joined_numbers x.joined) in
      let a : times (caller e) (option_to_list x.number) ≡ 0 = ap (λ (m : ℕ). times m (option_to_list x.number)) own ∙ omega arith in
      let b : times (caller e) (joined_numbers x.joined) ≡ 0 = ap (λ (m : ℕ). times m (joined_numbers x.joined)) own ∙ omega arith in
      let off : x.holder ≡ true → ⊥ = λ (on : x.holder ≡ true).
      let theirs : x.ticket ≡ Some t = o.served on ∙ ap Some mine in
      let same : times t (option_to_list x.ticket) ≡ times t (t ∷ []) = ap (λ (o : Option ℕ). times t (option_to_list o)) theirs in
      let two : times t (t ∷ []) + times t (option_to_list x.ticket) ≤ total (ticket_at t) s.views = total_two (ticket_at t) s.views id j v x at there apart in
      let one = once_within_most (length r.history) r.next t in
      let is = r.tickets t in let own = times_self t in
      omega arith in
      record {
        knows = knows_more caller x.number r.history x.seen e a o.knows;
        joined = all_know_more caller r.history e x.joined b o.joined;
        ticketed = o.ticketed;
        makes = o.makes;
        told = o.told;
        whole = λ on. absurd (off on);
        served = λ on. absurd (off on);
        fixed = o.fixed;
      }

  pub passes : (slots id n t : ℕ) (h : List E) (e : E) (y : V) → entries y ≡ h ++ e ∷ [] → caller e ≡ n → part y ≡ f
      → Allows Rule slots id (holding_seat n t h f, (0, Some y) ∷ []) 1 (λ x. (x + 1) % 2 ^ 64) (PassesOn entries (step slots 1 1 0 none) (holding_seat n t h f, (0, Some y) ∷ []))
  passes slots id n t h e y longer own fixed s r _ at small =
      let v : View E F = holding_seat n t h f in let o = r.each id v at in
      let w : View E F = idle_seat n (entries y) f in
      let whole : h ≡ r.history = o.whole refl in
      let firsts : Some t ≡ Some (length r.history) = o.served refl in
      let mine : length r.history ≡ t = sym (cc (firsts)) in
      let history' : List E = r.history ++ e ∷ [] in
      let all : entries y ≡ history' = longer ∙ ap (λ (l : List E). l ++ e ∷ []) whole in
      let more : length history' ≡ length r.history + 1 = length-append r.history (e ∷ []) in
      let self = times_self t in
      let here : times t (t ∷ []) ≤ total (ticket_at t) s.views = total_one (ticket_at t) s.views id v at in
      let is = r.tickets t in
      let within = once_within_in (length r.history) r.next t (omega arith) in
      let low = within.0 in let high = within.1 in
      let turns = total_set holders_of s.views id v w at in
      let out = r.waiting in
      let self_n = times_self n in
      let here_n : times n (n ∷ []) ≤ total (number_at n) s.views = total_one (number_at n) s.views id v at in
      let is_n = r.numbers n in
      let below : n < r.count = once_below_in n r.count (omega arith) in
      let one_turn_out : total holders_of s.views ≡ 1 = ⊎_elim
      (λ (home : IsInSlot entries part f r.history s.homes (total holders_of s.views)). let z = home.4 in let k = total_one holders_of s.views id v at in absurd (omega arith))
      (λ (busy : IsHeld s.homes (total holders_of s.views)). busy.1) r.home in
      let home' : set s.homes 0 (some (Some y)) ≡ some (Some y) ∷ [] = ⊎_elim
      (λ (home : IsInSlot entries part f r.history s.homes (total holders_of s.views)). ap (λ (hs : Homes V). set hs 0 (some (Some y))) home.1)
      (λ (busy : IsHeld s.homes (total holders_of s.views)). ap (λ (hs : Homes V). set hs 0 (some (Some y))) busy.0) r.home in (
        w,
        gives,
        tt,
        record {
          history = history';
          next = r.next;
          count = r.count;
          words = subst (λ (ws : List ℕ). set ws 1 ((get_or ws 1 0 + 1) % 2 ^ 64) ≡ (r.next % 2 ^ 64) ∷ (length history' % 2 ^ 64) ∷ r.count ∷ []) (sym r.words)
              (ap (λ (x : ℕ). (r.next % 2 ^ 64) ∷ x ∷ r.count ∷ []) (sym (add-mod (length r.history) 1 (2 ^ 64)) ∙ ap (λ (x : ℕ). x % 2 ^ 64) (sym more)));
          each = others_stay (Fits caller f history' r.count) s.views id w
              (record {
                knows = subst (λ (l : List E). Knows caller l (Some n) (entries y)) all (prefix_self (entries y), λ _ _. refl);
                joined = tt;
                ticketed = omega arith;
                makes = λ l. absurd (omega arith);
                told = o.told;
                whole = λ x. absurd cc;
                served = λ x. absurd cc;
                fixed = inl refl;
              })
              (others_fit r id n t h at mine e own);
          tickets = λ t'. ap (λ (x : ℕ). x) (ticket_back (length r.history) r.next t' (total (ticket_at t') s.views) (total (ticket_at t') (set s.views id w)) (omega arith) (r.tickets t')
              (ap (λ (x : ℕ). total (ticket_at t') (set s.views id w) + times t' (x ∷ [])) mine ∙ total_set (ticket_at t') s.views id v w at))
              ∙ ap (λ (x : ℕ). once_within x r.next t') (sym more);
          waiting = let k = total_set (tickets_of {E = E} {F = F}) s.views id v w at in omega arith;
          numbers = λ m. total_same (number_at m) s.views id v w at refl ∙ r.numbers m;
          seated = let k = total_same (numbers_of {E = E} {F = F}) s.views id v w at refl in let z = r.seated in omega arith;
          reserved = λ m. total_same (reserved_at m) s.views id v w at refl ∙ r.reserved m;
          room = let k = total_same (unnumbered_of {E = E} {F = F}) s.views id v w at refl in let z = r.room in omega arith;
          few = r.few;
          callers = all_below_snoc caller r.count r.history e r.callers (omega arith);
          home = inl (y, home', all, fixed, omega arith);
        },
        λ y' same. let e : y ≡ y' = ap (first_value y) same in ap (λ (z : V). (idle_seat n (entries z) f, [])) e,
      )

  pub passes_at : (slots id n t i k : ℕ) (h : List E) (e : E) (y : V) (me : Me (Option V) (View E F)) → i ≡ 1 → k ≡ 1 → me ≡ (holding_seat n t h f, (0, Some y) ∷ []) → entries y ≡ h ++ e ∷ [] → caller e ≡ n → part y ≡ f
      → Allows Rule slots id me i (λ x. (x + k) % 2 ^ 64) (PassesOn entries (step slots i k 0 none) me)
  passes_at slots id n t i k h e y me word amount is longer own fixed =
      subst (λ (w : ℕ). Allows Rule slots id me w (λ x. (x + k) % 2 ^ 64) (PassesOn entries (step slots w k 0 none) me)) (sym word)
      (subst (λ (a : ℕ). Allows Rule slots id me 1 (λ x. (x + a) % 2 ^ 64) (PassesOn entries (step slots 1 a 0 none) me)) (sym amount)
      (subst (λ (m : Me (Option V) (View E F)). Allows Rule slots id m 1 (λ x. (x + 1) % 2 ^ 64) (PassesOn entries (step slots 1 1 0 none) m)) (sym is) (passes slots id n t h e y longer own fixed)))

-- The steps that make seats and notes, number them and join them keep the rule.
use Rattle.std.proofs.Common.{◌≡◌, ℕ, zero, suc, ◌+◌, ◌-◌, ◌%◌, ◌^◌, ◌<◌, ◌≤◌, ◌≢◌, Bool, true, false, List, [], ◌∷◌, ◌++◌, length, get_or, set, Option, Some, None, sym, refl, ap, ◌∙◌, subst, inl, inr, ⊎_elim, arith, le_refl}
use Rattle.std.proofs.Math.Nat.{mod-eq_of_lt}
use Rattle.std.proofs.lemmas.Bool.Decides.{nat_tests}
use mathlib.Core.Logic.{dite}
use mathlib.Core.Option.{some, none, some-ne-none}
use mathlib.Core.List.{IsPrefix}
use native.Mathlib.Decide.{ℕ_discrete}
use lib.ListN.{get_elem?}
use lib.Seq.{set-get_or}
use Rattle.atomic_table.specs.Table.{State, Me, step, keeps, Allows, Splits, Joins, opening}
use Rattle.atomic_table.proofs.Lists.{at_snoc, set_else}
use Rattle.jm_turn.specs.declared.rule.View.{View}
use Rattle.jm_turn.specs.Lists.{total, one_if, times, entries_by, once_within, longer_of}
use Rattle.jm_turn.specs.Views.{maker, idle_seat, plain_note, spent_view, with_one_fewer, new_maker, note_view_of, without_news, news, news_of, with_news, with_joined, joined_of, joined_numbers, ticket_at, tickets_of, holders_of, number_at, numbers_of, unnumbered_of, reserved_at, with_number, with_longer}
use Rattle.jm_turn.specs.Rule.{Knows, Fits, RuleHolds}
use Rattle.jm_turn.specs.Steps.{IsOneHistory, TakesNumber, Compares}
use Rattle.std.specs.Option.{option_to_list}
use Rattle.jm_turn.proofs.Sums.{times-append, total_set, total_same, total_one, total_two, total_fork, total_join, number_given, right_used, right_cut, no_right, no_parts, first_right, once_within_most}
use Rattle.jm_turn.proofs.Prefixes.{all_know_append, all_below_more, entries_by_none, knows_longer, joined_numbers-append}
use Rattle.jm_turn.proofs.TurnSteps.{others_stay, home_same, keep}

no_turns : (b : Bool) → b ≡ false → one_if b ≡ 0
no_turns true e = absurd (cc (e))
no_turns false e = refl

module _ {A : Type 0} where
  alone : (a b : A) (i : ℕ) → i ≢ 0 → get_elem? (a ∷ []) i ≡ some b → ⊥
  alone a b zero ne e = ne refl
  alone a b (suc i) ne e = some-ne-none b (sym e)

first_rights : (most n : ℕ) → once_within 0 (0 + most) n + 0 ≡ once_within 0 most n
first_rights most n = grind (arith, nat_tests)

module _ {V E F : Type 0} (entries : V → List E) (caller : E → ℕ) (part : V → F) (f : F) (most : ℕ) where
  abbrev pub Rule : State (Option V) (View E F) → Type 0
  Rule = RuleHolds entries caller part f most

  -- a number is given: it is the next one
  pub counts : (slots id d : ℕ) (cs : List (ℕ × Option V)) → Allows Rule slots id (maker 1 d f, cs) 2 (λ x. (x + 1) % 2 ^ 64) (TakesNumber (step slots 2 1 0 none) (maker 1 d f, cs))
  counts slots id d cs s r _ at small =
      let v : View E F = maker 1 d f in let o = r.each id v at in
      let w : View E F = with_number r.count v in
      let low : r.count ≤ d = (o.makes (omega arith)).1 in let high : d ≤ r.count = o.told in
      let next : r.count ≡ d = omega arith in
      let found : get_or s.words 2 0 ≡ r.count = ap (λ (ws : List ℕ). get_or ws 2 0) r.words in
      let part_here : 1 ≤ total unnumbered_of s.views = total_one (unnumbered_of {E = E} {F = F}) s.views id v at in
      let room = r.room in let few = r.few in
      let less : r.count < most = omega arith in (
        w,
        keeps,
        tt,
        record {
          history = r.history;
          next = r.next;
          count = r.count + 1;
          words = subst (λ (ws : List ℕ). set ws 2 ((get_or ws 2 0 + 1) % 2 ^ 64) ≡ (r.next % 2 ^ 64) ∷ (length r.history % 2 ^ 64) ∷ (r.count + 1) ∷ []) (sym r.words)
              (ap (λ (x : ℕ). (r.next % 2 ^ 64) ∷ (length r.history % 2 ^ 64) ∷ x ∷ []) (mod-eq_of_lt (omega arith)));
          each = others_stay (Fits caller f r.history (r.count + 1)) s.views id w
              (record {
                knows = ((r.history, refl), (λ m is. let e : r.count ≡ m = cc in sym (entries_by_none caller r.count m r.history (omega arith) r.callers)));
                joined = tt;
                ticketed = omega arith;
                makes = λ l. absurd (omega arith);
                told = le_refl (r.count + 1);
                whole = o.whole;
                served = o.served;
                fixed = inl refl;
              })
              (λ j x other there.
              let p = r.each j x there in
              record {
                knows = p.knows;
                joined = p.joined;
                ticketed = p.ticketed;
                makes = λ l. (
                  (p.makes l).0,
                  dite (ℕ_discrete r.count x.next_number)
                      (λ e.
                      let two : once_within d (d + 1) r.count + once_within x.next_number (x.next_number + x.unnumbered) r.count ≤ total (reserved_at r.count) s.views = total_two (reserved_at r.count) s.views id j v x at there (λ q. other (sym q)) in
                      let a = first_right d 1 r.count (omega arith) next in
                      let b = first_right x.next_number x.unnumbered r.count l e in
                      let one = once_within_most r.count most r.count in
                      let is = r.reserved r.count in
                      absurd (omega arith))
                      (λ ne. let k = (p.makes l).1 in omega arith),
                );
                told = (let k = p.told in omega arith);
                whole = p.whole;
                served = p.served;
                fixed = p.fixed;
              });
          tickets = λ t. total_same (ticket_at t) s.views id v w at refl ∙ r.tickets t;
          waiting = let t = total_same (tickets_of {E = E} {F = F}) s.views id v w at refl in let k = r.waiting in omega arith;
          numbers = λ m. number_given r.count m (total (number_at m) s.views) (total (number_at m) (set s.views id w)) (r.numbers m) (total_set (number_at m) s.views id v w at);
          seated = let t = total_set (numbers_of {E = E} {F = F}) s.views id v w at in let k = r.seated in omega arith;
          reserved = λ m. right_used r.count most m (total (reserved_at m) s.views) (total (reserved_at m) (set s.views id w)) less (r.reserved m)
              (ap (λ (x : ℕ). total (reserved_at m) (set s.views id w) + once_within x (x + 1) m) next ∙ total_set (reserved_at m) s.views id v w at);
          room = let t = total_set (unnumbered_of {E = E} {F = F}) s.views id v w at in omega arith;
          few = r.few;
          callers = all_below_more caller r.count (r.count + 1) r.history (omega arith) r.callers;
          home = home_same entries caller part f most r.history s.homes (total holders_of s.views) (total holders_of (set s.views id w)) (total_same holders_of s.views id v w at refl) r.home;
        },
        (omega arith, found ∙ next, ap (λ (x : ℕ). (with_number x v, cs)) (sym found)),
      )

  -- the same at the word and by the amount that the code names
  pub counts_at : (slots id d i k : ℕ) (me : Me (Option V) (View E F)) → i ≡ 2 → k ≡ 1 → me ≡ (maker 1 d f, []) → Allows Rule slots id me i (λ x. (x + k) % 2 ^ 64) (TakesNumber (step slots i k 0 none) me)
  counts_at slots id d i k me word amount is =
      subst (λ (w : ℕ). Allows Rule slots id me w (λ x. (x + k) % 2 ^ 64) (TakesNumber (step slots w k 0 none) me)) (sym word)
      (subst (λ (a : ℕ). Allows Rule slots id me 2 (λ x. (x + a) % 2 ^ 64) (TakesNumber (step slots 2 a 0 none) me)) (sym amount)
      (subst (λ (m : Me (Option V) (View E F)). Allows Rule slots id m 2 (λ x. (x + 1) % 2 ^ 64) (TakesNumber (step slots 2 1 0 none) m)) (sym is) (counts slots id d [])))

  forks : (s : State (Option V) (View E F)) (r : RuleHolds entries caller part f most s) (id : ℕ) (v left right : View E F) → get_elem? s.views id ≡ some v → Fits caller f r.history r.count left → Fits caller f r.history r.count right
      → ((t : ℕ) → ticket_at t left + ticket_at t right ≡ ticket_at t v) → tickets_of left + tickets_of right ≡ tickets_of v → holders_of left + holders_of right ≡ holders_of v
      → ((m : ℕ) → number_at m left + number_at m right ≡ number_at m v) → numbers_of left + numbers_of right ≡ numbers_of v → ((m : ℕ) → reserved_at m left + reserved_at m right ≡ reserved_at m v) → unnumbered_of left + unnumbered_of right ≡ unnumbered_of v
      → RuleHolds entries caller part f most record { words = s.words; homes = s.homes; views = set s.views id left ++ right ∷ [] }
  forks s r id v left right at fit_left fit_right a b c d e g h = record {
    history = r.history;
    next = r.next;
    count = r.count;
    words = r.words;
    each = λ j x there. ⊎_elim (others_stay (Fits caller f r.history r.count) s.views id left fit_left (λ j x _ e. r.each j x e) j x) (λ (q : right ≡ x). subst (Fits caller f r.history r.count) q fit_right) (at_snoc (set s.views id left) right x j there);
    tickets = λ t. total_fork (ticket_at t) s.views id v left right at (a t) ∙ r.tickets t;
    waiting = let t = total_fork tickets_of s.views id v left right at b in let k = r.waiting in omega arith;
    numbers = λ m. total_fork (number_at m) s.views id v left right at (d m) ∙ r.numbers m;
    seated = let t = total_fork numbers_of s.views id v left right at e in let k = r.seated in omega arith;
    reserved = λ m. total_fork (reserved_at m) s.views id v left right at (g m) ∙ r.reserved m;
    room = let t = total_fork unnumbered_of s.views id v left right at h in let k = r.room in omega arith;
    few = r.few;
    callers = r.callers;
    home = home_same entries caller part f most r.history s.homes (total holders_of s.views) (total holders_of (set s.views id left ++ right ∷ [])) (total_fork holders_of s.views id v left right at c) r.home;
  }

  -- a seat with no number, that knows how many numbers_in are given, makes another
  pub makes_seat : (id p d : ℕ) → 0 < p → Splits Rule id (maker p d f) (with_one_fewer (maker p d f)) (new_maker (maker p d f))
  makes_seat id p d some_left s r at =
      let v : View E F = maker p d f in let o = r.each id v at in
      let low : r.count ≤ d = (o.makes some_left).1 in
      forks s r id v (with_one_fewer v) (new_maker v) at
      (record { knows = o.knows; joined = o.joined; ticketed = o.ticketed; makes = λ l. (refl, omega arith); told = o.told; whole = o.whole; served = o.served; fixed = inl refl })
      (record { knows = o.knows; joined = o.joined; ticketed = o.ticketed; makes = λ l. (refl, low); told = o.told; whole = o.whole; served = o.served; fixed = inl refl })
      (λ _. refl) refl refl (λ _. refl) refl (λ m. right_cut p d m some_left) (omega arith)

  -- a note is made
  pub makes_note : (id n : ℕ) (h : List E) → Splits Rule id (idle_seat n h f) (idle_seat n h f) (note_view_of (idle_seat n h f))
  makes_note id n h s r at =
      let v : View E F = idle_seat n h f in let o = r.each id v at in
      forks s r id v v (note_view_of v) at o
      (record { knows = (o.knows.0, λ m is. absurd cc); joined = tt; ticketed = omega arith; makes = λ l. absurd (omega arith); told = o.told; whole = o.whole; served = λ e. absurd cc; fixed = inl refl })
      (λ t. omega arith) (omega arith) (omega arith) (λ m. omega arith) (omega arith) (λ m. let k = no_right m in omega arith) (omega arith)

  -- a seat that has just got its number tells so
  pub tells : (id d n : ℕ) → Splits Rule id (with_number n (maker 1 d f)) (without_news (with_number n (maker 1 d f))) (news_of (with_number n (maker 1 d f)))
  tells id d n s r at =
      let v : View E F = with_number n (maker 1 d f) in let o = r.each id v at in
      forks s r id v (without_news v) (news_of v) at
      (record { knows = o.knows; joined = tt; ticketed = o.ticketed; makes = λ l. absurd (omega arith); told = omega arith; whole = λ e. absurd cc; served = λ e. absurd cc; fixed = inl refl })
      (record { knows = (o.knows.0, λ m is. absurd cc); joined = tt; ticketed = omega arith; makes = λ l. absurd (omega arith); told = o.told; whole = λ e. absurd cc; served = λ e. absurd cc; fixed = inl refl })
      (λ t. omega arith) (omega arith) (omega arith) (λ m. omega arith) (omega arith) (λ m. let k = no_right m in omega arith) (omega arith)

  tells_of : (id d n : ℕ) (me : Me (Option V) (View E F)) → me ≡ (with_number n (maker 1 d f), []) → Splits Rule id me.0 (without_news me.0) (news_of me.0)
  tells_of id d n me is = subst (λ (m : Me (Option V) (View E F)). Splits Rule id m.0 (without_news m.0) (news_of m.0)) (sym is) (tells id d n)

  pub tells_at : (id d n : ℕ) (me me1 : Me (Option V) (View E F)) → me ≡ (maker 1 d f, []) → me1 ≡ (with_number n me.0, me.1) → Splits Rule id me1.0 (without_news me1.0) (news_of me1.0)
  tells_at id d n me me1 is next = tells_of id d n me1 (next ∙ ap (λ (m : Me (Option V) (View E F)). (with_number n m.0, m.1)) is)

  pub makes_seat_at : (id p d : ℕ) (me : Me (Option V) (View E F)) → me ≡ (maker p d f, []) → 0 < p → Splits Rule id me.0 (with_one_fewer me.0) (new_maker me.0)
  makes_seat_at id p d me is left = subst (λ (m : Me (Option V) (View E F)). Splits Rule id m.0 (with_one_fewer m.0) (new_maker m.0)) (sym is) (makes_seat id p d left)

  pub makes_note_at : (id n : ℕ) (h : List E) (me : Me (Option V) (View E F)) → me ≡ (idle_seat n h f, []) → Splits Rule id me.0 me.0 (note_view_of me.0)
  makes_note_at id n h me is = subst (λ (m : Me (Option V) (View E F)). Splits Rule id m.0 m.0 (note_view_of m.0)) (sym is) (makes_note id n h)

  spent_view_fits : (history : List E) (count : ℕ) → Fits {F = F} caller f history count spent_view
  spent_view_fits history count = record { knows = ((history, refl), λ m is. absurd cc); joined = tt; ticketed = omega arith; makes = λ l. absurd (omega arith); told = omega arith; whole = λ e. absurd cc; served = λ e. absurd cc; fixed = inr refl }

  merges : (s : State (Option V) (View E F)) (r : RuleHolds entries caller part f most s) (id other : ℕ) (v w both : View E F) → get_elem? s.views id ≡ some v → get_elem? (set s.views id both) other ≡ some w → Fits caller f r.history r.count both
      → ((t : ℕ) → ticket_at t both + 0 ≡ ticket_at t v + ticket_at t w) → tickets_of both + 0 ≡ tickets_of v + tickets_of w → holders_of both + 0 ≡ holders_of v + holders_of w
      → ((m : ℕ) → number_at m both + 0 ≡ number_at m v + number_at m w) → numbers_of both + 0 ≤ numbers_of v + numbers_of w → ((m : ℕ) → reserved_at m both + once_within 0 (0 + 0) m ≡ reserved_at m v + reserved_at m w) → unnumbered_of both + 0 ≡ unnumbered_of v + unnumbered_of w
      → RuleHolds entries caller part f most record { words = s.words; homes = s.homes; views = set (set s.views id both) other spent_view }
  merges s r id other v w both at there fit a b c d e g h = record {
    history = r.history;
    next = r.next;
    count = r.count;
    words = r.words;
    each = others_stay (Fits caller f r.history r.count) (set s.views id both) other spent_view (spent_view_fits r.history r.count) (λ j x _ k. others_stay (Fits caller f r.history r.count) s.views id both fit (λ j x _ e. r.each j x e) j x k);
    tickets = λ t. total_join (ticket_at t) s.views id other v w both spent_view at there (a t) ∙ r.tickets t;
    waiting = let t = total_join tickets_of s.views id other v w both spent_view at there b in let k = r.waiting in omega arith;
    numbers = λ m. total_join (number_at m) s.views id other v w both spent_view at there (d m) ∙ r.numbers m;
    seated = let t = total_set numbers_of (set s.views id both) other w spent_view there in let q = total_set numbers_of s.views id v both at in let k = r.seated in omega arith;
    reserved = λ m. total_join (reserved_at m) s.views id other v w both spent_view at there (g m) ∙ r.reserved m;
    room = let t = total_join unnumbered_of s.views id other v w both spent_view at there h in let k = r.room in omega arith;
    few = r.few;
    callers = r.callers;
    home = home_same entries caller part f most r.history s.homes (total holders_of s.views) (total holders_of (set (set s.views id both) other spent_view)) (total_join holders_of s.views id other v w both spent_view at there c) r.home;
  }

  -- the seat that makes seats hears that one has got its number
  pub hears_news : (id other p d g n : ℕ) → Joins Rule id (record (maker p d f) { numbered = g }) other (news n f) (with_news (record (maker p d f) { numbered = g }) (news n f)) spent_view
  hears_news id other p d g n s r at apart there =
      let v : View E F = record (maker p d f) { numbered = g } in let w : View E F = news n f in let both : View E F = with_news v w in
      let o = r.each id v at in
      let q = r.each other w (sym (set_else s.views id other both apart) ∙ there) in
      merges s r id other v w both at there
      (record { knows = o.knows; joined = o.joined; ticketed = o.ticketed; makes = o.makes; told = q.told; whole = o.whole; served = o.served; fixed = inl refl })
      (λ t. omega arith) (omega arith) (omega arith) (λ m. omega arith) (omega arith) (λ m. omega arith) (omega arith)

  pub hears_news_at : (id other p d n : ℕ) (me me1 me2 : Me (Option V) (View E F)) → me ≡ (maker p d f, []) → me1 ≡ (with_one_fewer me.0, me.1) → me2 ≡ (news n f, []) → Joins Rule id me1.0 other me2.0 (with_news me1.0 me2.0) spent_view
  hears_news_at id other p d n me me1 me2 is cut news =
      let one : me1 ≡ (with_one_fewer (maker p d f), []) = cut ∙ ap (λ (m : Me (Option V) (View E F)). (with_one_fewer m.0, m.1)) is in
      subst (λ (m : Me (Option V) (View E F)). Joins Rule id m.0 other me2.0 (with_news m.0 me2.0) spent_view) (sym one)
      (subst (λ (m : Me (Option V) (View E F)). Joins Rule id (with_one_fewer (maker p d f)) other m.0 (with_news (with_one_fewer (maker p d f)) m.0) spent_view) (sym news) (hears_news id other (p - 1) (d + 1) d n))

  -- the number of a note is none
  pub compares : (slots id n : ℕ) (h k : List E) → Allows Rule slots id (with_joined (idle_seat n h f) (plain_note k f), []) 0 (λ x. x) (Compares caller (step slots 0 0 0 none) (with_joined (idle_seat n h f) (plain_note k f), []))
  compares slots id n h k s r _ at small =
      let v : View E F = with_joined (idle_seat n h f) (plain_note k f) in let w : View E F = idle_seat n (longer_of h k) f in let o = r.each id v at in
      let knows : Knows caller r.history (Some n) (longer_of h k) = knows_longer caller n r.history h k o.knows o.joined.0.0 in (
        w,
        keeps,
        tt,
        subst (λ (ws : List ℕ). Rule record { words = ws; homes = s.homes; views = set s.views id w }) (sym (set-get_or s.words 0 0))
            (keep entries caller part f most s r id v w at s.homes
            (record { knows = knows; joined = tt; ticketed = o.ticketed; makes = λ l. absurd (omega arith); told = o.told; whole = λ e. absurd cc; served = λ e. absurd cc; fixed = inl refl })
            (λ _. refl) refl (λ _. refl) refl refl refl
            (home_same entries caller part f most r.history s.homes (total holders_of s.views) (total holders_of (set s.views id w)) (total_same holders_of s.views id v w at refl) r.home)),
        (refl, (r.history, o.knows.0, o.joined.0.0, λ m is. knows.1 m is ∙ sym (o.knows.1 m is))),
      )

  -- a seat takes in what another that does nothing just now knows
  pub takes_in : (id other : ℕ) (v w : View E F) → v.fixed ≡ Some f → w.ticket ≡ None → w.holder ≡ false → w.unnumbered ≡ 0 → Joins Rule id v other w (with_joined v w) spent_view
  takes_in id other v w has_fixed no_ticket no_turn none_left s r at apart there =
      let both : View E F = with_joined v w in
      let o = r.each id v at in
      let q = r.each other w (sym (set_else s.views id other both apart) ∙ there) in
      merges s r id other v w both at there
      (record {
        knows = o.knows;
        joined = (q.knows, all_know_append caller r.history w.joined v.joined q.joined o.joined);
        ticketed = o.ticketed;
        makes = o.makes;
        told = o.told;
        whole = o.whole;
        served = o.served;
        fixed = inl has_fixed;
      })
      (λ t. let z : ticket_at t w ≡ 0 = ap (λ (x : Option ℕ). times t (option_to_list x)) no_ticket in omega arith)
      (let z : tickets_of w ≡ 0 = ap (λ (x : Option ℕ). length (option_to_list x)) no_ticket in omega arith)
      (let z : holders_of w ≡ 0 = no_turns w.holder no_turn in omega arith)
      (λ m.
      let a = times-append m (option_to_list v.number) (joined_numbers v.joined) in
      let b = times-append m (option_to_list w.number) (joined_numbers w.joined) in
      let c = times-append m (option_to_list v.number) (option_to_list w.number ++ joined_numbers (w.joined ++ v.joined)) in
      let d = times-append m (option_to_list w.number) (joined_numbers (w.joined ++ v.joined)) in
      let e : times m (joined_numbers (w.joined ++ v.joined)) ≡ times m (joined_numbers w.joined ++ joined_numbers v.joined) = ap (times m) (joined_numbers-append w.joined v.joined) in
      let g = times-append m (joined_numbers w.joined) (joined_numbers v.joined) in
      omega arith)
      (omega arith)
      (λ m. let z : reserved_at m w ≡ 0 = no_parts w.next_number w.unnumbered m none_left in let y = no_right m in omega arith)
      (omega arith)

  pub takes_in_at : (id other n m : ℕ) (me me' : Me (Option V) (View E F)) → me.0.fixed ≡ Some f → me' ≡ (plain_note me'.0.seen f, []) → Joins Rule id me.0 other me'.0 (with_joined me.0 me'.0) spent_view
  takes_in_at id other n m me me' has is = takes_in id other me.0 me'.0 has (ap (λ (x : Me (Option V) (View E F)). x.0.ticket) is) (ap (λ (x : Me (Option V) (View E F)). x.0.holder) is) (ap (λ (x : Me (Option V) (View E F)). x.0.unnumbered) is)

  pub takes_in_seat_at : (id other n : ℕ) (me me' : Me (Option V) (View E F)) → me.0.fixed ≡ Some f → me' ≡ (idle_seat n me'.0.seen f, []) → Joins Rule id me.0 other me'.0 (with_joined me.0 me'.0) spent_view
  takes_in_seat_at id other n me me' has is = takes_in id other me.0 me'.0 has (ap (λ (x : Me (Option V) (View E F)). x.0.ticket) is) (ap (λ (x : Me (Option V) (View E F)). x.0.holder) is) (ap (λ (x : Me (Option V) (View E F)). x.0.unnumbered) is)

  -- the table at the start
  pub begins : (value : V) → entries value ≡ [] → part value ≡ f → 1 ≤ most → most ≤ 65536 → Rule (opening (0 ∷ 0 ∷ 0 ∷ []) (Some value ∷ []) (maker most 0 f))
  begins value empty fixed some_seats few = record {
    history = [];
    next = 0;
    count = 0;
    words = refl;
    each = λ j x there. others_stay (Fits caller f [] 0) (maker most 0 f ∷ []) 0 (maker most 0 f)
        (record { knows = (([], refl), λ m is. absurd cc); joined = tt; ticketed = omega arith; makes = λ l. (refl, omega arith); told = omega arith; whole = λ e. absurd cc; served = λ e. absurd cc; fixed = inl refl })
        (λ i v other at. absurd (alone (maker most 0 f) v i other at)) j x there;
    tickets = λ t. grind (arith, nat_tests);
    waiting = omega arith;
    numbers = λ n. grind (arith, nat_tests);
    seated = omega arith;
    reserved = λ n. first_rights most n;
    room = omega arith;
    few = few;
    callers = tt;
    home = inl (value, refl, empty, fixed, omega arith);
  }

  glued : (n : ℕ) (me me' me1 : Me (Option V) (View E F)) → me ≡ (idle_seat n me.0.seen f, []) → me' ≡ (plain_note me'.0.seen f, []) → me1 ≡ (with_joined me.0 me'.0, me.1) → me1 ≡ (with_joined (idle_seat n me.0.seen f) (plain_note me'.0.seen f), [])
  glued n me me' me1 seat note both = both ∙ (ap (λ (m : Me (Option V) (View E F)). (with_joined m.0 me'.0, m.1)) seat ∙ ap (λ (m : Me (Option V) (View E F)). (with_joined (idle_seat n me.0.seen f) m.0, [])) note)

  pub compares_at : (slots id n : ℕ) (me me' me1 : Me (Option V) (View E F)) → me ≡ (idle_seat n me.0.seen f, []) → me' ≡ (plain_note me'.0.seen f, []) → me1 ≡ (with_joined me.0 me'.0, me.1)
      → Allows Rule slots id me1 0 (λ x. x) (Compares caller (step slots 0 0 0 none) me1)
  compares_at slots id n me me' me1 seat note both = subst (λ (m : Me (Option V) (View E F)). Allows Rule slots id m 0 (λ x. x) (Compares caller (step slots 0 0 0 none) m)) (sym (glued n me me' me1 seat note both)) (compares slots id n me.0.seen me'.0.seen)

  module _ (n : ℕ) (me me' me1 me2 : Me (Option V) (View E F)) (seat : me ≡ (idle_seat n me.0.seen f, [])) (note : me' ≡ (plain_note me'.0.seen f, [])) (both : me1 ≡ (with_joined me.0 me'.0, me.1))
      (next : me2 ≡ (with_longer me1.0.joined me1.0, me1.1)) where
    heard : me2 ≡ (idle_seat n (longer_of me.0.seen me'.0.seen) f, [])
    heard = next ∙ ap (λ (m : Me (Option V) (View E F)). (with_longer m.0.joined m.0, m.1)) (glued n me me' me1 seat note both)

    pub heard_seen : me2.0.seen ≡ longer_of me.0.seen me'.0.seen
    heard_seen = ap (λ (m : Me (Option V) (View E F)). m.0.seen) heard

    pub heard_seat : me2 ≡ (idle_seat n me2.0.seen f, [])
    heard_seat = heard ∙ ap (λ (l : List E). (idle_seat n l f, [])) (sym heard_seen)

    heard_told : IsOneHistory caller me1.0 me1.0.joined → IsOneHistory caller (with_joined (idle_seat n me.0.seen f) (plain_note {E = E} me'.0.seen f)) (joined_of (plain_note me'.0.seen f) ∷ [])
    heard_told t = subst (λ (m : Me (Option V) (View E F)). IsOneHistory caller m.0 m.0.joined) (glued n me me' me1 seat note both) t

    pub heard_one : IsOneHistory caller me1.0 me1.0.joined → (all : List E) × IsPrefix me.0.seen all × IsPrefix me'.0.seen all
    heard_one t = let k = heard_told t in (k.0, k.1, k.2)

    pub heard_own : IsOneHistory caller me1.0 me1.0.joined → entries_by caller n me2.0.seen ≡ entries_by caller n me.0.seen
    heard_own t = let k = heard_told t in ap (entries_by caller n) heard_seen ∙ k.3 n refl

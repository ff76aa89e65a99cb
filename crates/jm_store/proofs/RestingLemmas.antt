-- Monitors that are at rest: with a move for each that leaves it as it is, the moves of an event are those of all slots.
use Rattle.std.proofs.Common.{◌≡◌, ◌≢◌, ℕ, zero, suc, ◌⊎◌, inl, inr, Bool, true, cond, List, [], ◌∷◌, ◌++◌, refl, sym, ap, ◌∙◌, subst}
use Rattle.std.specs.Prelude.{Option, Some, None, Contains, AllPairs, slice_set}
use Rattle.std.specs.List.{cons_option}
use Rattle.std.proofs.lemmas.Bool.{false≢true}
use Rattle.std.proofs.lemmas.Option.{same_Some, none-some}
use Rattle.std.proofs.lemmas.List.Elements.{Contains-append_left, Contains-append_right, Contains-append_cases}
use Rattle.jm_model.specs.Bindings.{mask_of}
use Rattle.jm_model.specs.Meanings.{Meaning, IsHit}
use Rattle.jm_model.specs.declared.binding.Binding.{Binding}
use Rattle.jm_model.specs.declared.firings.Firing.{Firing}
use Rattle.jm_index.proofs.ReadLemmas.{Contains-none, Contains-cons}
use Rattle.jm_index.specs.Index.{Pair}
use Rattle.jm_semantics.proofs.ListLemmas.{Contains-cons_cases, Contains-head, Contains-map}
use Rattle.jm_monitors.specs.declared.stored.Stored.{Stored}
use Rattle.jm_monitors.specs.Steps.{IsReport}
use Rattle.jm_store.specs.declared.moves.Move.{Move}
use Rattle.jm_store.specs.Slots.{monitor_at, stored_in}
use Rattle.jm_store.specs.Moves.{IsAtRest, IsMoved, IsOutcomeIn, IsOutcomeAt, IsReadIn, IsReadAt, AreGiven, AreMovesOf, AreMovesRead, AreApart, AreEnding, EndsFewer, moved_at, after_move, after_moves, reached_by}
use Rattle.jm_store.specs.Contents.{Contents, stored_of, ArePaired, IsPlacedFrom, AreDistinct, ArePlacedOf}
use Rattle.jm_store.proofs.SlotLemmas.{stored_at}
use Rattle.jm_store.proofs.EventLemmas.{moved_above}
use Rattle.jm_store.proofs.MoveLemmas.{join_above, compatible_above}
use Rattle.jm_store.proofs.GivenLemmas.{cons-append, pairs_head, pairs_tail, pairs_none, pairs_cons, pairs_append, Contains-from_map}

-- ---- lists in a row
module _ {X : Type 0} (Q : X → X → Type 0) where
  pub pairs_left : (xs ys : List X) → AllPairs Q (xs ++ ys) → AllPairs Q xs
  pairs_left [] ys h = pairs_none Q
  pairs_left (x ∷ xs) ys h =
      pairs_cons Q x xs (λ y c. pairs_head Q x (xs ++ ys) h y (Contains-append_left xs ys y c)) (pairs_left xs ys (pairs_tail Q x (xs ++ ys) h))

  pub pairs_right : (xs ys : List X) → AllPairs Q (xs ++ ys) → AllPairs Q ys
  pairs_right [] ys h = h
  pairs_right (x ∷ xs) ys h = pairs_right xs ys (pairs_tail Q x (xs ++ ys) h)

  pub pairs_across : (xs ys : List X) → AllPairs Q (xs ++ ys) → (x y : X) → Contains xs x → Contains ys y → Q x y
  pairs_across [] ys h x y cx cy = absurd (Contains-none x cx)
  pairs_across (z ∷ xs) ys h x y cx cy =
      elim (Contains-cons_cases z xs x cx) [
        | inl same ↦ subst (λ (v : X). Q v y) same (pairs_head Q z (xs ++ ys) h y (Contains-append_right xs ys y cy))
        | inr later ↦ pairs_across xs ys (pairs_tail Q z (xs ++ ys) h) x y later cy
      ]

pub apart_left : {S : Type 0} (xs ys : List (Move S)) → AreApart (xs ++ ys) → AreApart xs
apart_left xs ys h = pairs_left (λ x y. (n : ℕ) → x.slot ≡ Some n → y.slot ≡ Some n → ⊥) xs ys h

pub distinct_left : {S : Type 0} (xs ys : List (Move S)) → AreDistinct (xs ++ ys) → AreDistinct xs
distinct_left xs ys h = pairs_left (λ x y. x.monitor.instance ≢ y.monitor.instance) xs ys h

pub given_append : {X Y : Type 0} (R : X → Option Y → Type 0) (xs us : List X) (ys vs : List Y) → AreGiven R xs ys → AreGiven R us vs → AreGiven R (xs ++ us) (ys ++ vs)
given_append {X} {Y} R [] us ys vs is more = subst (λ (l : List Y). AreGiven R us (l ++ vs)) (sym is) more
given_append {X} {Y} R (x ∷ xs) us ys vs (o, gives, (rest, given, is)) more =
    (o, gives, (rest ++ vs, given_append R xs us rest vs given more, ap (λ (l : List Y). l ++ vs) is ∙ cons-append R o rest vs))

-- monitors beside those of a report that hit nothing
pub report_beside : (m : Meaning) {S : Type 0} (Stands : S → List ℕ → Type 0) (moves quiet : List (Move S)) (firings : List Firing)
    → ((move : Move S) → Contains quiet move → (w : List ℕ) → Stands move.monitor.state w → (h : ℕ) → IsHit m w h → ⊥)
    → IsReport m Stands (reached_by moves) firings → IsReport m Stands (reached_by (moves ++ quiet)) firings
report_beside m {S} Stands moves quiet firings none h = record {
  increasing = h.increasing;
  each = λ f c.
      let r = h.each f c in
      let (move, among, is) = Contains-from_map (λ (x : Move S). x.monitor) moves r.monitor r.among in
      record {
        monitor = r.monitor;
        among = subst (λ (x : Stored S). Contains (reached_by (moves ++ quiet)) x) is (Contains-map (λ (x : Move S). x.monitor) (moves ++ quiet) move (Contains-append_left moves quiet move among));
        instance = r.instance;
        full = r.full;
        hit = r.hit;
      };
  all = λ s w k c full stands hit.
      let (move, among, is) = Contains-from_map (λ (x : Move S). x.monitor) (moves ++ quiet) s c in
      elim (Contains-append_cases moves quiet move among) [
        | inl one ↦ h.all s w k (subst (λ (x : Stored S). Contains (reached_by moves) x) is (Contains-map (λ (x : Move S). x.monitor) moves move one)) full stands hit
        | inr other ↦ absurd (none move other w (subst (λ (x : Stored S). Stands x.state w) (sym is) stands) k hit)
      ];
}

set_same : {S : Type 0} (monitors : List (Option (Stored S))) (k : ℕ) (s : Stored S) → monitor_at monitors k ≡ Some s → slice_set monitors k (Some s) ≡ monitors
set_same [] k s at = refl
set_same {S} (x ∷ monitors) zero s at = ap (λ (v : Option (Stored S)). v ∷ monitors) (sym at)
set_same {S} (x ∷ monitors) (suc k) s at = ap (λ (l : List (Option (Stored S))). x ∷ l) (set_same monitors k s at)

after_append : {S : Type 0} (xs ys : List (Move S)) (monitors : List (Option (Stored S))) → after_moves (xs ++ ys) monitors ≡ after_moves xs (after_moves ys monitors)
after_append [] ys monitors = refl
after_append (x ∷ xs) ys monitors = ap (after_move x) (after_append xs ys monitors)

module _ (m : Meaning) {S : Type 0} (Stands : S → List ℕ → Type 0) (letter : ℕ) (b : Binding) (dead : List Bool) (monitors : List (Option (Stored S))) where
  -- the move leaves the monitor of a slot as it is, which is at rest
  pub record IsStill (move : Move S) : Type 0 where
    pub slot : ℕ
    pub is : move.slot ≡ Some slot
    pub at : monitor_at monitors slot ≡ Some move.monitor
    pub stays : move.stays ≡ true
    pub rest : IsAtRest m Stands letter b dead move.monitor

  abbrev still : ℕ → Stored S → Move S
  still k s = record { slot = Some k; monitor = s; stays = true }

  abbrev pub AreStill : List (Move S) → Type 0
  AreStill moves = (move : Move S) → Contains moves move → IsStill move

  -- such moves change nothing
  pub after_still : (moves : List (Move S)) → AreStill moves → after_moves moves monitors ≡ monitors
  after_still [] each = refl
  after_still (x ∷ moves) each =
      let one = each x (Contains-head x moves) in
      ap (after_move x) (after_still moves (λ y c. each y (Contains-cons x y moves c)))
      ∙ ap (λ (o : Option ℕ). moved_at o (cond x.stays (Some x.monitor) None) monitors) one.is
      ∙ ap (λ (t : Bool). slice_set monitors one.slot (cond t (Some x.monitor) None)) one.stays
      ∙ set_same monitors one.slot x.monitor one.at

  module _ (marks : List Binding) where
    still_moved : (k : ℕ) (s : Stored S) → IsAtRest m Stands letter b dead s → IsMoved m Stands letter b dead marks k s (still k s)
    still_moved k s rest =
        let compatible = compatible_above b s.instance rest.0 in
        moved_above m Stands letter b dead marks k s s.instance (still k s) (sym (join_above b s.instance compatible rest.0)) compatible rest.0
        (record { slot = refl; instance = refl; next = rest.1.stays; alive = λ t. rest.2; cut = λ f. absurd (false≢true (sym f)) })

    abbrev IsPassedOver : ℕ → Option (Move S) → Type 0
    IsPassedOver k o = (s : Stored S) × (monitor_at monitors k ≡ Some s) × (o ≡ None) × IsAtRest m Stands letter b dead s

    -- what a slot gives that is read is its outcome, or its monitor is at rest
    read_cases : (k : ℕ) (o : Option (Move S)) → IsReadAt m Stands letter b dead marks monitors k o → IsOutcomeAt m Stands letter b dead marks monitors k o ⊎ IsPassedOver k o
    read_cases k o is = by (monitor_at monitors k) refl o is
      where
        by : (x : Option (Stored S)) → monitor_at monitors k ≡ x → (p : Option (Move S)) → IsReadIn m Stands letter b dead marks k x p → IsOutcomeIn m Stands letter b dead marks k x p ⊎ IsPassedOver k p
        by None at p none = inl none
        by (Some s) at None (inl left) = inl left
        by (Some s) at None (inr rest) = inr (s, at, refl, rest)
        by (Some s) at (Some move) moved = inl moved

    -- the slots that are read, parted
    record IsParted (slots : List ℕ) (moves : List (Move S)) : Type 0 where
      others : List ℕ
      idle : List ℕ
      resting : List (Move S)
      given : AreGiven (IsOutcomeAt m Stands letter b dead marks monitors) others moves
      kept : AreGiven (IsOutcomeAt m Stands letter b dead marks monitors) idle resting
      each : AreStill resting
      from_others : (k : ℕ) → Contains others k → Contains slots k
      from_idle : (k : ℕ) → Contains idle k → Contains slots k
      to : (k : ℕ) → Contains slots k → Contains others k ⊎ Contains idle k
      apart_others : AllPairs (λ j k. j ≢ k) slots → AllPairs (λ j k. j ≢ k) others
      apart_idle : AllPairs (λ j k. j ≢ k) slots → AllPairs (λ j k. j ≢ k) idle
      cross : AllPairs (λ j k. j ≢ k) slots → (j k : ℕ) → Contains others j → Contains idle k → j ≢ k

    within : (k : ℕ) (part slots : List ℕ) → ((j : ℕ) → Contains part j → Contains slots j) → (j : ℕ) → Contains (k ∷ part) j → Contains (k ∷ slots) j
    within k part slots from j c =
        elim (Contains-cons_cases k part j c) [
          | inl same ↦ subst (λ (n : ℕ). Contains (k ∷ slots) n) same (Contains-head k slots)
          | inr later ↦ Contains-cons k j slots (from j later)
        ]

    apart_more : (k : ℕ) (part slots : List ℕ) → ((j : ℕ) → Contains part j → Contains slots j) → (AllPairs (λ j n. j ≢ n) slots → AllPairs (λ j n. j ≢ n) part) → AllPairs (λ j n. j ≢ n) (k ∷ slots) → AllPairs (λ j n. j ≢ n) (k ∷ part)
    apart_more k part slots from apart h =
        pairs_cons (λ j n. j ≢ n) k part (λ y c. pairs_head (λ j n. j ≢ n) k slots h y (from y c)) (apart (pairs_tail (λ j n. j ≢ n) k slots h))

    part : (slots : List ℕ) (moves : List (Move S)) → AreGiven (IsReadAt m Stands letter b dead marks monitors) slots moves → IsParted slots moves
    part [] moves is = record {
      others = [];
      idle = [];
      resting = [];
      given = is;
      kept = refl;
      each = λ move none. absurd (Contains-none move none);
      from_others = λ k c. c;
      from_idle = λ k c. c;
      to = λ k c. inl c;
      apart_others = λ h. h;
      apart_idle = λ h. h;
      cross = λ h j k none c. absurd (Contains-none j none);
    }
    part (k ∷ slots) moves (o, read, (rest, more, is)) = by (part slots rest more) (read_cases k o read)
      where
        by : IsParted slots rest → IsOutcomeAt m Stands letter b dead marks monitors k o ⊎ IsPassedOver k o → IsParted (k ∷ slots) moves
        by p (inl outcome) = record {
          others = k ∷ p.others;
          idle = p.idle;
          resting = p.resting;
          given = (o, outcome, (rest, p.given, is));
          kept = p.kept;
          each = p.each;
          from_others = within k p.others slots p.from_others;
          from_idle = λ j c. Contains-cons k j slots (p.from_idle j c);
          to = λ j c. elim (Contains-cons_cases k slots j c) [
            | inl same ↦ inl (subst (λ (n : ℕ). Contains (k ∷ p.others) n) same (Contains-head k p.others))
            | inr later ↦ elim (p.to j later) [ inl one ↦ inl (Contains-cons k j p.others one) | inr other ↦ inr other ]
          ];
          apart_others = apart_more k p.others slots p.from_others p.apart_others;
          apart_idle = λ h. p.apart_idle (pairs_tail (λ i n. i ≢ n) k slots h);
          cross = λ h j n cj cn. elim (Contains-cons_cases k p.others j cj) [
            | inl same ↦ (λ e. pairs_head (λ i n. i ≢ n) k slots h n (p.from_idle n cn) (same ∙ e))
            | inr later ↦ p.cross (pairs_tail (λ i n. i ≢ n) k slots h) j n later cn
          ];
        }
        by p (inr (s, at, none, rests)) = record {
          others = p.others;
          idle = k ∷ p.idle;
          resting = still k s ∷ p.resting;
          given = subst (λ (l : List (Move S)). AreGiven (IsOutcomeAt m Stands letter b dead marks monitors) p.others l) (sym (is ∙ ap (λ (q : Option (Move S)). cons_option q rest) none)) p.given;
          kept = (Some (still k s), subst (λ (x : Option (Stored S)). IsOutcomeIn m Stands letter b dead marks k x (Some (still k s))) (sym at) (still_moved k s rests), (p.resting, p.kept, refl));
          each = λ move c. elim (Contains-cons_cases (still k s) p.resting move c) [
            | inl same ↦ subst (λ (x : Move S). IsStill x) same (record { slot = k; is = refl; at = at; stays = refl; rest = rests })
            | inr later ↦ p.each move later
          ];
          from_others = λ j c. Contains-cons k j slots (p.from_others j c);
          from_idle = within k p.idle slots p.from_idle;
          to = λ j c. elim (Contains-cons_cases k slots j c) [
            | inl same ↦ inr (subst (λ (n : ℕ). Contains (k ∷ p.idle) n) same (Contains-head k p.idle))
            | inr later ↦ elim (p.to j later) [ inl one ↦ inl one | inr other ↦ inr (Contains-cons k j p.idle other) ]
          ];
          apart_others = λ h. p.apart_others (pairs_tail (λ i n. i ≢ n) k slots h);
          apart_idle = apart_more k p.idle slots p.from_idle p.apart_idle;
          cross = λ h j n cj cn. elim (Contains-cons_cases k p.idle n cn) [
            | inl same ↦ (λ e. pairs_head (λ i v. i ≢ v) k slots h j (p.from_others j cj) (same ∙ sym e))
            | inr later ↦ p.cross (pairs_tail (λ i v. i ≢ v) k slots h) j n cj later
          ];
        }

    -- with the moves of the monitors at rest they are those of all slots
    pub record AreCompleted (asks : ℕ → Bool) (moves : List (Move S)) : Type 0 where
      pub resting : List (Move S)
      pub each : AreStill resting
      pub all : AreMovesOf m Stands letter b dead marks asks monitors (moves ++ resting)

    pub completed : (asks : ℕ → Bool) (moves : List (Move S)) → AreMovesRead m Stands letter b dead marks asks monitors moves → AreCompleted asks moves
    completed asks moves read =
        let p = part read.slots moves read.given in
        record {
          resting = p.resting;
          each = p.each;
          all = record {
            slots = p.others ++ p.idle;
            visit = record {
              apart = pairs_append (λ j k. j ≢ k) p.others p.idle (p.apart_others read.visit.apart) (p.apart_idle read.visit.apart) (p.cross read.visit.apart);
              each = λ k c. elim (Contains-append_cases p.others p.idle k c) [ inl one ↦ read.visit.each k (p.from_others k one) | inr other ↦ read.visit.each k (p.from_idle k other) ];
              all = λ k s at compatible ask. elim (p.to k (read.visit.all k s at compatible ask)) [
                | inl one ↦ Contains-append_left p.others p.idle k one
                | inr other ↦ Contains-append_right p.others p.idle k other
              ];
            };
            given = given_append (IsOutcomeAt m Stands letter b dead marks monitors) p.others p.idle moves p.resting p.given p.kept;
          };
        }

  -- ---- the answer
  pub report_still : (moves resting : List (Move S)) (firings : List Firing) → AreStill resting → IsReport m Stands (reached_by moves) firings → IsReport m Stands (reached_by (moves ++ resting)) firings
  report_still moves resting firings each h = report_beside m Stands moves resting firings (λ move among w stands k hit. (each move among).rest.1.quiet w stands k hit) h

  -- ---- the letters that end the monitors
  pub ending_still : (placed resting : List (Move S)) (old new : List ℕ) → AreStill resting → EndsFewer old new → AreEnding m Stands old (stored_in monitors) → AreEnding m Stands new (reached_by placed)
      → AreEnding m Stands new (reached_by (placed ++ resting))
  ending_still placed resting old new each fewer before moved s there =
      let (move, among, is) = Contains-from_map (λ (x : Move S). x.monitor) (placed ++ resting) s there in
      elim (Contains-append_cases placed resting move among) [
        | inl one ↦ moved s (subst (λ (x : Stored S). Contains (reached_by placed) x) is (Contains-map (λ (x : Move S). x.monitor) placed move one))
        | inr other ↦
            let r = each move other in
            λ e ends. before s (subst (λ (x : Stored S). Contains (stored_in monitors) x) is (stored_at monitors r.slot move.monitor r.at)) e (fewer e (mask_of s.instance) ends)
      ]

-- ---- the moves with their slots
module _ (m : Meaning) {S : Type 0} (Stands : S → List ℕ → Type 0) (letter : ℕ) (b : Binding) (dead : List Bool) (old new : Contents S) (moves placed resting : List (Move S)) (each : AreStill m Stands letter b dead old.monitors resting)
    (same : (k : ℕ) → monitor_at new.monitors k ≡ monitor_at old.monitors k) where
  pub still_new : AreStill m Stands letter b dead new.monitors resting
  still_new move c = let r = each move c in record { slot = r.slot; is = r.is; at = same r.slot ∙ r.at; stays = r.stays; rest = r.rest }

  pub after_resting : after_moves placed new.monitors ≡ after_moves (placed ++ resting) new.monitors
  after_resting = sym (after_append placed resting new.monitors ∙ ap (after_moves placed) (after_still m Stands letter b dead new.monitors resting still_new))

  -- each move is one that was placed, or of a stored monitor that is at rest
  pub placed_or_resting : (move : Move S) → Contains (placed ++ resting) move → Contains placed move ⊎ (Contains (stored_of new) move.monitor × IsAtRest m Stands letter b dead move.monitor)
  placed_or_resting move c =
      elim (Contains-append_cases placed resting move c) [
        | inl one ↦ inl one
        | inr other ↦ let r = still_new move other in inr (stored_at new.monitors r.slot move.monitor r.at, r.rest)
      ]

  module _ (p : ArePlacedOf old new moves moves placed) (apart : AreApart (moves ++ resting)) (paired : ArePaired new) where
    slot_or_none : (o : Option ℕ) → ((k : ℕ) × (o ≡ Some k)) ⊎ (o ≡ None)
    slot_or_none None = inr refl
    slot_or_none (Some k) = inl (k, refl)

    placed_self : (move : Move S) → IsPlacedFrom old move move
    placed_self move = record { monitor = refl; stays = refl; kept = λ k e. e; got = λ k none some. absurd (none-some k (sym none ∙ some)) }

    has_slot : (move : Move S) → Contains resting move → move.slot ≡ None → ⊥
    has_slot move c none = none-some (each move c).slot (sym none ∙ (each move c).is)

    other_slot : (x y : Move S) → Contains placed x → Contains resting y → (n : ℕ) → x.slot ≡ Some n → y.slot ≡ Some n → ⊥
    other_slot x y cx cy n at is =
        let (first, among, from, missed) = p.each x cx in
        let r = each y cy in
        elim (slot_or_none first.slot) [
          | inl had ↦
              let k : had.0 ≡ n = same_Some had.0 n (sym (from.kept had.0 had.1) ∙ at) in
              pairs_across (λ u v. (i : ℕ) → u.slot ≡ Some i → v.slot ≡ Some i → ⊥) moves resting apart first y among cy n (had.1 ∙ ap Some k) is
          | inr without ↦
              let k : r.slot ≡ n = same_Some r.slot n (sym r.is ∙ is) in
              none-some y.monitor (sym (from.got n without at) ∙ ap (monitor_at old.monitors) (sym k) ∙ r.at)
        ]

    pub placed_resting : ArePlacedOf old new (moves ++ resting) (moves ++ resting) (placed ++ resting)
    placed_resting = record {
      apart = pairs_append (λ u v. (i : ℕ) → u.slot ≡ Some i → v.slot ≡ Some i → ⊥) placed resting p.apart (pairs_right (λ u v. (i : ℕ) → u.slot ≡ Some i → v.slot ≡ Some i → ⊥) moves resting apart) other_slot;
      leads = λ move k c slot. elim (Contains-append_cases placed resting move c) [
        | inl one ↦ p.leads move k one slot
        | inr other ↦
            let r = each move other in
            let is : r.slot ≡ k = same_Some r.slot k (sym r.is ∙ slot) in
            subst (λ (n : ℕ). Contains {X = Pair} new.index.list (record { binding = move.monitor.instance; slot = n })) is (paired.paired r.slot move.monitor (same r.slot ∙ r.at))
      ];
      filled = λ pair there. elim (p.filled pair there) [
        | inl full ↦ inl full
        | inr planned ↦ inr (planned.0, Contains-append_left placed resting planned.0 planned.1, planned.2, planned.3)
      ];
      each = λ move c. elim (Contains-append_cases placed resting move c) [
        | inl one ↦
            let (first, among, from, missed) = p.each move one in
            (first, Contains-append_left moves resting first among, from, λ d none. missed (pairs_left (λ x y. x.monitor.instance ≢ y.monitor.instance) moves resting d) none)
        | inr other ↦ (move, Contains-append_right moves resting move other, placed_self move, λ d none. absurd (has_slot move other none))
      ];
      all = λ first c. elim (Contains-append_cases moves resting first c) [
        | inl one ↦
            let (move, among, from, missed) = p.all first one in
            (move, Contains-append_left placed resting move among, from, λ d none. missed (pairs_left (λ x y. x.monitor.instance ≢ y.monitor.instance) moves resting d) none)
        | inr other ↦ (first, Contains-append_right placed resting first other, placed_self first, λ d none. absurd (has_slot first other none))
      ];
      kept = p.kept;
    }

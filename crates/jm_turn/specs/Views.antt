-- What a seat or a note knows: the forms that it takes, and how the steps change it.
use Rattle.std.specs.Prelude.{ℕ, ◌+◌, ◌-◌, true, false, List, [], ◌∷◌, ◌++◌, length, Option, Some, None, option_to_list}
use Rattle.jm_turn.specs.declared.rule.View.{View}
use Rattle.jm_turn.specs.declared.rule.Joined.{Joined}
use Rattle.jm_turn.specs.declared.rule.Given.{Given}
use Rattle.jm_turn.specs.Lists.{times, one_if, once_within, longer_of}

-- the fixed part of the value that the lock was given
abbrev pub given_part : {V F : Type 0} → (V → F) → Given V → F
given_part part given = part given.value.value

-- the numbers of the seats that were joined in
abbrev pub joined_numbers : {E : Type 0} → List (Joined E) → List ℕ
joined_numbers [] = []
joined_numbers (j ∷ js) = option_to_list j.number ++ joined_numbers js

module _ {E F : Type 0} where
  -- a note: what was seen, and the fixed part
  abbrev pub note_view : List E → Option F → View E F
  note_view seen fixed = record {
    number = None;
    ticket = None;
    holder = false;
    unnumbered = 0;
    next_number = 0;
    numbered = 0;
    seen = seen;
    joined = [];
    fixed = fixed;
  }

  -- a seat with its number, that does nothing just now
  abbrev pub seat_view : ℕ → List E → Option F → View E F
  seat_view n seen fixed = record (note_view seen fixed) { number = Some n }

  -- the same with a fixed part that is there
  abbrev pub plain_note : List E → F → View E F
  plain_note seen f = note_view seen (Some f)

  abbrev pub idle_seat : ℕ → List E → F → View E F
  idle_seat n seen f = seat_view n seen (Some f)

  -- a seat that has drawn the ticket t
  abbrev pub waiting_seat : ℕ → ℕ → List E → F → View E F
  waiting_seat n t seen f = record (idle_seat n seen f) { ticket = Some t }

  -- a seat whose turn has come: the holder
  abbrev pub holding_seat : ℕ → ℕ → List E → F → View E F
  holding_seat n t seen f = record (idle_seat n seen f) { ticket = Some t; holder = true }

  -- a seat without a number: so many seats are still to be numbered, itself among them, from `next` on
  abbrev pub maker : ℕ → ℕ → F → View E F
  maker unnumbered next f = record (plain_note [] f) { unnumbered = unnumbered; next_number = next; numbered = next }

  -- news of how many seats have a number
  abbrev pub news : ℕ → F → View E F
  news n f = record (plain_note [] f) { numbered = n }

  -- what a join leaves of what was ended
  abbrev pub spent_view : View E F
  spent_view = note_view [] None

  -- the seat draws a ticket; its turn comes, and it sees the history; it passes the turn on
  abbrev pub with_ticket : ℕ → View E F → View E F
  with_ticket t v = record v { ticket = Some t }

  abbrev pub with_turn : List E → View E F → View E F
  with_turn history v = record v { holder = true; seen = history }

  abbrev pub without_turn : List E → View E F → View E F
  without_turn history v = record v { ticket = None; holder = false; seen = history }

  -- the seat gets its number, and knows that so many seats and itself have one
  abbrev pub with_number : ℕ → View E F → View E F
  with_number n v = record v { number = Some n; unnumbered = 0; next_number = 0; numbered = n + 1 }

  -- a seat without a number makes one more: what is left of it, and the new seat
  abbrev pub with_one_fewer : View E F → View E F
  with_one_fewer v = record v { unnumbered = v.unnumbered - 1; next_number = v.next_number + 1 }

  abbrev pub new_maker : View E F → View E F
  new_maker v = record (note_view [] v.fixed) { unnumbered = 1; next_number = v.next_number; numbered = v.numbered }

  -- a seat tells its news: what is left of it, and the news; and who hears them
  abbrev pub without_news : View E F → View E F
  without_news v = record v { numbered = 0 }

  abbrev pub news_of : View E F → View E F
  news_of v = record (note_view [] v.fixed) { numbered = v.numbered }

  abbrev pub with_news : View E F → View E F → View E F
  with_news v w = record v { numbered = w.numbered }

  -- a note of what a seat has seen
  abbrev pub note_view_of : View E F → View E F
  note_view_of v = note_view v.seen v.fixed

  -- what is kept of a seat or a note that is joined in, and who joins it in
  abbrev pub joined_of : View E F → Joined E
  joined_of v = record { number = v.number; seen = v.seen }

  abbrev pub with_joined : View E F → View E F → View E F
  with_joined v w = record v { joined = joined_of w ∷ (w.joined ++ v.joined) }

  -- what was joined in last is taken over where it is longer
  abbrev pub with_longer : List (Joined E) → View E F → View E F
  with_longer [] v = v
  with_longer (j ∷ js) v = record v { seen = longer_of v.seen j.seen; joined = js }

  -- its number, and those of the seats that were joined in
  abbrev pub numbers_in : View E F → List ℕ
  numbers_in v = option_to_list v.number ++ joined_numbers v.joined

  -- what the rule adds up over all views: how often t is its ticket, and how many tickets it has
  abbrev pub ticket_at : ℕ → View E F → ℕ
  ticket_at t v = times t (option_to_list v.ticket)

  abbrev pub tickets_of : View E F → ℕ
  tickets_of v = length (option_to_list v.ticket)

  -- whether it is the holder
  abbrev pub holders_of : View E F → ℕ
  holders_of v = one_if v.holder

  -- how often n is its number or that of a seat that was joined in, and how many numbers it has of its own
  abbrev pub number_at : ℕ → View E F → ℕ
  number_at n v = times n (numbers_in v)

  abbrev pub numbers_of : View E F → ℕ
  numbers_of v = length (option_to_list v.number)

  -- whether n is reserved for it, and how many numbers are
  abbrev pub reserved_at : ℕ → View E F → ℕ
  reserved_at n v = once_within v.next_number (v.next_number + v.unnumbered) n

  abbrev pub unnumbered_of : View E F → ℕ
  unnumbered_of v = v.unnumbered

-- A walk over one and two names, at commands of so many.
use Rattle.std.proofs.Common.{◌≡◌, true, false, List, [], ◌∷◌, Some, None, codes, refl}
use Rattle.std.specs.List.{list_all}
use Rattle.clap.specs.Walk.{Row, Text, Walk, idle, walked, walk_from, nothing_held}
use Rattle.clap.specs.Values.{reading_of}
use Rattle.clap.specs.Facts.{parser_of_value}
use Rattle.clap.specs.declared.parser.matches.ValueSource.TheVariants.{CommandLine}
use Rattle.clap.specs.Faults.{defaults_fault, turn_fault, walk_fault}
use Rattle.jm_cli.specs.Words.{is_name}
use Rattle.jm_cli.specs.Line.{pair_shape, gen_shape}
use Rattle.jm_cli.proofs.Saying.{both}
use Rattle.jm_cli.proofs.Walking.{no_hyphen}
use Rattle.jm_cli.proofs.Levels.{leaf, level, rows, IsFault, no_fault, first_fault}

abbrev pub row : Text → Text → Row
row id w = record { id = id; values = w ∷ []; count = None; source = Some CommandLine; reading = reading_of (parser_of_value None) }

-- after the value of the first positional, and of the second
abbrev after_one : Text → Text → Walk
after_one id w = record {
  held = record { rows = []; pending = Some (id, w ∷ []); skip = 0 };
  waiting = idle;
  position = 2;
  is_trailing = false;
  stopped = None;
}

abbrev after_two : Text → Text → Walk
after_two a b = record {
  held = record { rows = row (codes "first") a ∷ []; pending = Some (codes "second", b ∷ []); skip = 0 };
  waiting = idle;
  position = 3;
  is_trailing = false;
  stopped = None;
}

-- ---- two names
module _ (name : Text) where
  first_step : (w : Text) → is_name w ≡ true → walked (leaf (pair_shape name)).rules [] (walk_from nothing_held) w ≡ after_one (codes "first") w
  unfolding walked
  first_step [] n = refl
  first_step (x ∷ xs) n = rw (no_hyphen x xs n) (rw (no_hyphen x xs n) refl)

  first_free : (w : Text) → is_name w ≡ true → turn_fault (leaf (pair_shape name)) [] (walk_from nothing_held) w ≡ []
  first_free [] n = refl
  first_free (x ∷ xs) n = rw (no_hyphen x xs n) (rw (no_hyphen x xs n) refl)

  second_step : (a w : Text) → is_name w ≡ true → walked (leaf (pair_shape name)).rules [] (after_one (codes "first") a) w ≡ after_two a w
  unfolding walked
  second_step a [] n = refl
  second_step a (x ∷ xs) n = rw (no_hyphen x xs n) (rw (no_hyphen x xs n) refl)

  second_free : (a w : Text) → is_name w ≡ true → turn_fault (leaf (pair_shape name)) [] (after_one (codes "first") a) w ≡ []
  second_free a [] n = refl
  second_free a (x ∷ xs) n = rw (no_hyphen x xs n) (rw (no_hyphen x xs n) refl)

  third_stray : (a b w : Text) → is_name w ≡ true → IsFault (turn_fault (leaf (pair_shape name)) [] (after_two a b) w)
  third_stray a b [] n = tt
  third_stray a b (x ∷ xs) n = rw (no_hyphen x xs n) (rw (no_hyphen x xs n) tt)

  pub pair_free : (a b : Text) → is_name a ≡ true → is_name b ≡ true → level (pair_shape name) (a ∷ b ∷ []) ≡ []
  unfolding walk_fault defaults_fault
  pair_free a b m n = rw (first_free a m, first_step a m) (rw (second_free a b n, second_step a b n) refl)

  pub pair_rows : (a b : Text) → is_name a ≡ true → is_name b ≡ true
      → rows (pair_shape name) (a ∷ b ∷ []) ≡ row (codes "first") a ∷ row (codes "second") b ∷ []
  pair_rows a b m n = rw (first_step a m) (rw (second_step a b n) refl)

  no_pair : IsFault (level (pair_shape name) [])
  unfolding walk_fault defaults_fault walked
  no_pair = tt

  half_pair : (a : Text) → is_name a ≡ true → IsFault (level (pair_shape name) (a ∷ []))
  unfolding walk_fault defaults_fault
  half_pair a m = rw (first_free a m, first_step a m) tt

  more_than_pair : (a b w : Text) (ws : List Text) → is_name a ≡ true → is_name b ≡ true → is_name w ≡ true
      → IsFault (level (pair_shape name) (a ∷ b ∷ w ∷ ws))
  unfolding walk_fault
  more_than_pair a b w ws m n o =
      let stray = third_stray a b w o in
      rw (first_free a m, first_step a m) (rw (second_free a b n, second_step a b n) (first_fault _ _ (first_fault _ _ stray)))

  -- clap takes exactly two names
  pub takes_pair : (ws : List Text) → list_all is_name ws ≡ true → level (pair_shape name) ws ≡ []
      → (a : Text) × (b : Text) × (ws ≡ a ∷ b ∷ []) × (is_name a ≡ true) × (is_name b ≡ true)
  takes_pair [] names none = absurd (no_fault (level (pair_shape name) []) no_pair none)
  takes_pair (a ∷ []) names none = absurd (no_fault (level (pair_shape name) (a ∷ [])) (half_pair a (both (is_name a) true names).0) none)
  takes_pair (a ∷ b ∷ []) names none =
      let m = both (is_name a) (list_all is_name (b ∷ [])) names in
      let n = both (is_name b) true m.1 in
      (a, b, refl, m.0, n.0)
  takes_pair (a ∷ b ∷ w ∷ ws) names none =
      let m = both (is_name a) (list_all is_name (b ∷ w ∷ ws)) names in
      let n = both (is_name b) (list_all is_name (w ∷ ws)) m.1 in
      let o = both (is_name w) (list_all is_name ws) n.1 in
      absurd (no_fault (level (pair_shape name) (a ∷ b ∷ w ∷ ws)) (more_than_pair a b w ws m.0 n.0 o.0) none)

-- ---- `gen`
only_step : (w : Text) → is_name w ≡ true → walked (leaf gen_shape).rules [] (walk_from nothing_held) w ≡ after_one (codes "n") w
unfolding walked
only_step [] n = refl
only_step (x ∷ xs) n = rw (no_hyphen x xs n) (rw (no_hyphen x xs n) refl)

only_free : (w : Text) → is_name w ≡ true → turn_fault (leaf gen_shape) [] (walk_from nothing_held) w ≡ []
only_free [] n = refl
only_free (x ∷ xs) n = rw (no_hyphen x xs n) (rw (no_hyphen x xs n) refl)

next_stray : (a w : Text) → is_name w ≡ true → IsFault (turn_fault (leaf gen_shape) [] (after_one (codes "n") a) w)
next_stray a [] n = tt
next_stray a (x ∷ xs) n = rw (no_hyphen x xs n) (rw (no_hyphen x xs n) tt)

pub one_free : (a : Text) → is_name a ≡ true → level gen_shape (a ∷ []) ≡ []
unfolding walk_fault defaults_fault
one_free a m = rw (only_free a m, only_step a m) refl

pub one_rows : (a : Text) → is_name a ≡ true → rows gen_shape (a ∷ []) ≡ row (codes "n") a ∷ []
one_rows a m = rw (only_step a m) refl

no_one : IsFault (level gen_shape [])
unfolding walk_fault defaults_fault walked
no_one = tt

more_than_one : (a w : Text) (ws : List Text) → is_name a ≡ true → is_name w ≡ true → IsFault (level gen_shape (a ∷ w ∷ ws))
unfolding walk_fault
more_than_one a w ws m n =
    let stray = next_stray a w n in
    rw (only_free a m, only_step a m) (first_fault _ _ (first_fault _ _ stray))

-- clap takes exactly one word
pub takes_one : (ws : List Text) → list_all is_name ws ≡ true → level gen_shape ws ≡ []
    → (a : Text) × (ws ≡ a ∷ []) × (is_name a ≡ true)
takes_one [] names none = absurd (no_fault (level gen_shape []) no_one none)
takes_one (a ∷ []) names none = (a, refl, (both (is_name a) true names).0)
takes_one (a ∷ w ∷ ws) names none =
    let m = both (is_name a) (list_all is_name (w ∷ ws)) names in
    let n = both (is_name w) (list_all is_name ws) m.1 in
    absurd (no_fault (level gen_shape (a ∷ w ∷ ws)) (more_than_one a w ws m.0 n.0) none)

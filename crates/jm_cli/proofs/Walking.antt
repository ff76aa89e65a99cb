-- A walk over names, at a command of 1 to 16.
use Rattle.std.proofs.Common.{ℕ, suc, ◌≡◌, ◌==◌, Bool, true, false, List, [], ◌∷◌, ◌++◌, length, Some, None, codes, refl, sym, ◌∙◌, ap, subst, nat_lt, if◌then◌else◌, rules, append_assoc, append-nil, inl, inr}
use Rattle.std.specs.List.{list_all, fold}
use Rattle.std.proofs.lemmas.Bool.{false≢true}
use Rattle.std.proofs.lemmas.Bool.Decides.{eqb_tells}
use Rattle.clap.specs.Walk.{Text, Walk, walked, walk, walk_from, nothing_held, positional, all_of}
use Rattle.clap.specs.Simple.{Shape}
use Rattle.clap.specs.Faults.{defaults_fault, turn_fault, walk_fault}
use Rattle.clap.specs.Kinds.{Kinds, or_else, range_kinds, values_kinds}
use Rattle.clap.specs.declared.error.kind.ErrorKind.TheVariants as kind
use Rattle.clap.specs.declared.builder.value_parser.ValueParser.TheVariants as vp
use Rattle.jm_cli.specs.Words.{is_name, are_names}
use Rattle.jm_cli.specs.Line.{names_shape}
use Rattle.jm_cli.proofs.Saying.{both}
use Rattle.jm_cli.proofs.Levels.{leaf, level, rows, IsFault, no_fault}

-- a name begins with no hyphen
pub no_hyphen : (x : ℕ) (xs : List ℕ) → is_name (x ∷ xs) ≡ true → (x == 45) ≡ false
no_hyphen x xs n = elim (eqb_tells x 45) [
  | inl same ↦ let bad : is_name (45 ∷ xs) ≡ true = subst (λ y. is_name (y ∷ xs) ≡ true) same.1 n in absurd (false≢true bad)
  | inr other ↦ other.0
]

-- each text passes
values_free : (vs : List Text) → values_kinds false vp.String vs ≡ []
values_free [] = refl
values_free (v ∷ vs) = values_free vs

-- so many names are too many, or no fault
abbrev crowd : Bool → Kinds
crowd true = kind.TooManyValues ∷ []
crowd false = []

range_is : (n : ℕ) → range_kinds 1 16 (suc n) ≡ crowd (nat_lt 16 (suc n))
range_is n =
    let some : nat_lt (suc n) 1 ≡ false = search rules in
    let more : (suc n == 0) ≡ false = search rules in
    rw (some, more) (crowds (nat_lt 16 (suc n)))
  where
    crowds : (b : Bool) → (if b then kind.TooManyValues ∷ [] else []) ≡ crowd b
    crowds true = refl
    crowds false = refl

last_crowd : (b : Bool) → or_else (or_else (crowd b) []) [] ≡ crowd b
last_crowd true = refl
last_crowd false = refl

no_crowd : (b : Bool) → crowd b ≡ [] → b ≡ false
no_crowd false e = refl
no_crowd true e = absurd (no_fault (crowd true) tt e)

module _ (name : Text) where
  abbrev top : Shape
  top = leaf (names_shape name)

  -- after these names
  abbrev behind : List Text → Walk
  behind front = record {
    held = record { rows = []; pending = Some (codes "names", front); skip = 0 };
    waiting = positional;
    position = 1;
    is_trailing = false;
    stopped = None;
  }

  first_word : (w : Text) → is_name w ≡ true → walked top.rules [] (walk_from nothing_held) w ≡ behind (w ∷ [])
  unfolding walked
  first_word [] n = refl
  first_word (x ∷ xs) n = rw (no_hyphen x xs n) (rw (no_hyphen x xs n) refl)

  next_word : (front : List Text) (w : Text) → is_name w ≡ true → walked top.rules [] (behind front) w ≡ behind (front ++ w ∷ [])
  unfolding walked
  next_word front [] n = refl
  next_word front (x ∷ xs) n = rw (no_hyphen x xs n) (rw (no_hyphen x xs n) refl)

  goes_on : (front ws : List Text) → list_all is_name ws ≡ true → fold (walked top.rules []) (behind front) ws ≡ behind (front ++ ws)
  goes_on front [] names = ap behind (sym (append-nil front))
  goes_on front (w ∷ ws) names =
      let b = both (is_name w) (list_all is_name ws) names in
      rw (next_word front w b.0) (goes_on (front ++ w ∷ []) ws b.1 ∙ ap behind (append_assoc front (w ∷ []) ws))

  walk_names : (w : Text) (ws : List Text) → list_all is_name (w ∷ ws) ≡ true → walk top.rules [] nothing_held (w ∷ ws) ≡ behind (w ∷ ws)
  walk_names w ws names =
      let b = both (is_name w) (list_all is_name ws) names in
      rw (first_word w b.0) (goes_on (w ∷ []) ws b.1)

  -- no word of the walk is a fault
  first_free : (w : Text) → is_name w ≡ true → turn_fault top [] (walk_from nothing_held) w ≡ []
  first_free [] n = refl
  first_free (x ∷ xs) n = rw (no_hyphen x xs n) (rw (no_hyphen x xs n) refl)

  next_free : (front : List Text) (w : Text) → is_name w ≡ true → turn_fault top [] (behind front) w ≡ []
  next_free front [] n = refl
  next_free front (x ∷ xs) n = rw (no_hyphen x xs n) (rw (no_hyphen x xs n) refl)

  free_from : (front ws : List Text) → list_all is_name ws ≡ true → walk_fault top [] (behind front) ws ≡ []
  unfolding walk_fault
  free_from front [] names = refl
  free_from front (w ∷ ws) names =
      let b = both (is_name w) (list_all is_name ws) names in
      rw (next_free front w b.0, next_word front w b.0) (free_from (front ++ w ∷ []) ws b.1)

  walk_free : (w : Text) (ws : List Text) → list_all is_name (w ∷ ws) ≡ true → walk_fault top [] (walk_from nothing_held) (w ∷ ws) ≡ []
  unfolding walk_fault
  walk_free w ws names =
      let b = both (is_name w) (list_all is_name ws) names in
      rw (first_free w b.0, first_word w b.0) (free_from (w ∷ []) ws b.1)

  -- the count of the names is all that may be wrong
  names_level : (w : Text) (ws : List Text) → list_all is_name (w ∷ ws) ≡ true → level (names_shape name) (w ∷ ws) ≡ crowd (nat_lt 16 (length (w ∷ ws)))
  unfolding defaults_fault
  names_level w ws names =
      rw (walk_names w ws names, walk_free w ws names, values_free ws, range_is (length ws)) (last_crowd (nat_lt 16 (length (w ∷ ws))))

  none_missing : IsFault (level (names_shape name) [])
  unfolding defaults_fault walk_fault walked
  none_missing = tt

  -- of names clap takes exactly 1 to 16, and finds them all
  pub takes_names : (ws : List Text) → list_all is_name ws ≡ true → level (names_shape name) ws ≡ [] → are_names ws ≡ true
  takes_names [] names none = absurd (no_fault (level (names_shape name) []) none_missing none)
  takes_names (w ∷ ws) names none =
      let few : nat_lt 16 (length (w ∷ ws)) ≡ false = no_crowd (nat_lt 16 (length (w ∷ ws))) (sym (names_level w ws names) ∙ none) in
      search (rules, few, names)

  pub names_free : (ws : List Text) → are_names ws ≡ true → level (names_shape name) ws ≡ []
  names_free [] names = absurd (false≢true names)
  names_free (w ∷ ws) names =
      let all : list_all is_name (w ∷ ws) ≡ true = search rules in
      let few : nat_lt 16 (length (w ∷ ws)) ≡ false = search rules in
      names_level w ws all ∙ ap crowd few

  pub names_found : (ws : List Text) → are_names ws ≡ true → all_of (codes "names") (rows (names_shape name) ws) ≡ Some ws
  names_found [] names = absurd (false≢true names)
  names_found (w ∷ ws) names =
      let all : list_all is_name (w ∷ ws) ≡ true = search rules in
      rw (walk_names w ws all) refl

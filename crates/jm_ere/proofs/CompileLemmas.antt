use Rattle.std.proofs.Common.{ℕ, zero, suc, ◌≡◌, ◌<◌, ◌↔◌, Bool, true, false, inl, inr, ◌⊎◌, List, [], ◌∷◌, ◌++◌, Option, Some, None, IsSomeAnd, Result, Ok, All, Contains, map, length, slice_get, refl, sym, ap, subst, ◌∙◌, append-nil, arith}
use Rattle.std.proofs.lemmas.List.{length-map}
use Rattle.std.proofs.lemmas.Option.{slice_get_within}
use Rattle.std.proofs.lemmas.List.Elements.{All-append, All-nil}
use Rattle.std.proofs.lemmas.List.Sums.{fold-append}
use Rattle.jm_model.specs.declared.fault.SpecFault.{SpecFault}
use Rattle.jm_table.specs.Graphs.{reached_by}
use Rattle.jm_table.specs.Members.{ArePlaces}
use Rattle.jm_table.specs.Tables.{Transitions, IsWord, Follows, next_of, state_from, state_after_of}
use Rattle.jm_table.proofs.MemberLemmas.{members_are}
use Rattle.jm_ere.specs.Expressions.{Expression}
use Rattle.jm_ere.specs.Meanings.{InLanguage, IsFailed}
use Rattle.jm_ere.specs.NormalForms.{is_nullable, forms_of}
use Rattle.jm_ere.specs.Groups.{IsCompiled, HasGroups, IsMatching, LeadsToMatch, AreLive, DeadStaysDead}
use Rattle.jm_ere.proofs.LanguageLemmas.{Decided, Same, nullable_tells}
use Rattle.jm_ere.proofs.FormLemmas.{Gives, reached_gives}

decided_true : (b : Bool) (P : Type 0) → Decided b P → (b ≡ true) ↔ P
decided_true true P h = (λ e. h, λ p. refl)
decided_true false P h = (λ e. cc, λ p. absurd (h p))

reached_has : (e d : Expression) (word : List ℕ) (r : Result Expression SpecFault) → r ≡ Ok d → Gives r (λ w. InLanguage e (word ++ w)) → Same (InLanguage d) (λ w. InLanguage e (word ++ w))
reached_has e d word r is gives = subst (λ (f : Result Expression SpecFault). Gives f (λ w. InLanguage e (word ++ w))) is gives

some_holds : (o : Option Expression) (d : Expression) → o ≡ Some d → IsSomeAnd o (λ r. is_nullable r ≡ true) ↔ (is_nullable d ≡ true)
some_holds o d e = (λ h. rw e at h, λ h. rw e h)

module _ (e : Expression) (t : Transitions) (forms : List Expression) (follows : Follows (forms_of e) t forms) where
  -- after a word the state is a matching one exactly where the word is in the language
  matches : (word : List ℕ) → IsWord t word → IsMatching forms (state_after_of t word) ↔ InLanguage e word
  matches word below =
      let stands = follows.stands word below in
      let holds = some_holds (slice_get forms (state_after_of t word)) stands.0 stands.2 in
      let tells = decided_true (is_nullable stands.0) (InLanguage stands.0 []) (nullable_tells stands.0) in
      let same = reached_has e stands.0 word (reached_by (forms_of e) word) stands.1 (reached_gives e word) [] in
      let whole = append-nil word in (
        λ h. subst (InLanguage e) whole (same.0 (tells.0 (holds.0 h))),
        λ h. holds.1 (tells.1 (same.1 (subst (InLanguage e) (sym whole) h))),
      )

  -- no word leads from the state after a word to a matching one exactly where no extension is in the language
  fails : (word : List ℕ) → IsWord t word → (LeadsToMatch t forms (state_after_of t word) → ⊥) ↔ IsFailed e t.letters word
  fails word below = (
    λ h more all member.
        let path : state_after_of t (word ++ more) ≡ state_from t (state_after_of t word) more = fold-append (next_of t) 0 word more in
        h (more, all, subst (IsMatching forms) path ((matches (word ++ more) (All-append (λ letter. letter < t.letters) word more below all)).1 member)),
    λ h leads.
        let path : state_after_of t (word ++ leads.0) ≡ state_from t (state_after_of t word) leads.0 = fold-append (next_of t) 0 word leads.0 in
        h leads.0 leads.1 ((matches (word ++ leads.0) (All-append (λ letter. letter < t.letters) word leads.0 below leads.1)).0 (subst (IsMatching forms) (sym path) leads.2)),
  )

  within : (word : List ℕ) → IsWord t word → state_after_of t word < length forms
  within word below = let stands = follows.stands word below in slice_get_within forms (state_after_of t word) stands.0 stands.2

  pub is_compiled : (after : Transitions) → HasGroups forms t after → IsCompiled e after
  is_compiled after groups = record {
    matched = λ word below.
        let word_below = subst (λ (n : ℕ). All (λ letter. letter < n) word) groups.letters below in
        let same = same_state after groups word in
        let m = matches word word_below in
        let g = groups.matched (state_after_of after word) in
        (λ h. m.0 (subst (IsMatching forms) same (g.0 h)), λ h. g.1 (subst (IsMatching forms) (sym same) (m.1 h)));
    failed = λ word below.
        let word_below = subst (λ (n : ℕ). All (λ letter. letter < n) word) groups.letters below in
        let same = same_state after groups word in
        let f = fails word word_below in
        let lt = subst (λ (s : ℕ). s < length forms) (sym same) (within word word_below) in
        let g = groups.failed (state_after_of after word) lt in (
          λ h. subst (λ (n : ℕ). IsFailed e n word) (sym groups.letters) (f.0 (λ leads. g.0 h (subst (LeadsToMatch t forms) (sym same) leads))),
          λ h. g.1 (λ leads. f.1 (subst (λ (n : ℕ). IsFailed e n word) groups.letters h) (subst (LeadsToMatch t forms) same leads)),
        );
  }
    where
      same_state : (after : Transitions) → HasGroups forms t after → (word : List ℕ) → state_after_of after word ≡ state_after_of t word
      same_state after groups word = rw (groups.letters, groups.next) refl

-- ---- the groups

both_flags : (live : List Bool) (state : ℕ) → slice_get live state ≡ Some true → slice_get live state ≡ Some false → ⊥
both_flags live state set unset = let e : ◌≡◌ {A = Option Bool} (Some true) (Some false) = sym set ∙ unset in cc

flag_at : (live : List Bool) (state : ℕ) → state < length live → (slice_get live state ≡ Some true) ⊎ (slice_get live state ≡ Some false)
flag_at [] state lt = absurd (omega arith)
flag_at (true ∷ live) zero lt = inl refl
flag_at (false ∷ live) zero lt = inr refl
flag_at (b ∷ live) (suc state) lt = flag_at live state (omega arith)

first_below : (n x : ℕ) (word : List ℕ) → All (λ letter. letter < n) (x ∷ word) → x < n
first_below n x word all = all 0 0 (omega arith)

rest_below : (n x : ℕ) (word : List ℕ) → All (λ letter. letter < n) (x ∷ word) → All (λ letter. letter < n) word
rest_below n x word all k d lt = all (suc k) d (omega arith)

module _ (t : Transitions) (forms : List Expression) (live : List Bool) (sound : AreLive t forms live) (closed : DeadStaysDead t live) where
  dead_stays : (word : List ℕ) (state : ℕ) → IsWord t word → slice_get live state ≡ Some false → slice_get live (state_from t state word) ≡ Some false
  dead_stays [] state below dead = dead
  dead_stays (x ∷ word) state below dead = dead_stays word (next_of t state x) (rest_below t.letters x word below) (closed state dead x (first_below t.letters x word below))

  flag_cases : (state : ℕ) → state < length live → (slice_get live state ≡ Some true) ⊎ (slice_get live state ≡ Some false)
  flag_cases state lt = flag_at live state lt

  -- the flags that aren't set are those of states from which no word leads to a matching one
  pub dead_are : (state : ℕ) → state < length forms → (slice_get live state ≡ Some false) ↔ (LeadsToMatch t forms state → ⊥)
  dead_are state lt = (
    λ dead leads. both_flags live (state_from t state leads.0) (sound.all (state_from t state leads.0) leads.2) (dead_stays leads.0 state leads.1 dead),
    λ none. elim (flag_cases state (omega (arith, lt, sound.many))) [ inl alive ↦ absurd (none (sound.only state alive)) | inr dead ↦ dead ],
  )

-- ---- the groups of a table

-- the members that were found are those that were asked for
list_group : (groups : List (List ℕ)) (members : List ℕ) (state : ℕ) (P : Type 0) (k : ℕ) → slice_get groups k ≡ Some members → (Contains members state ↔ P) → IsSomeAnd (slice_get groups k) (λ states. Contains states state) ↔ P
list_group groups members state P k at same = (λ h. same.0 (rw at at h), λ p. rw at (same.1 p))

some_is : (o : Option Bool) (value : Bool) → IsSomeAnd o (λ b. b ≡ value) ↔ (o ≡ Some value)
some_is None value = (λ h. absurd h, λ h. absurd cc)
some_is (Some b) value = (λ h. ap (λ x. Some x) h, λ h. cc)

-- the places that were found are those at which the flag has this value
pub flagged : (Answers : Bool → Bool → Type 0) (flags : List Bool) (value : Bool) (places : List ℕ) → ((b : Bool) → Answers b true → b ≡ value) → ((b : Bool) → Answers b false → b ≡ value → ⊥)
    → ArePlaces Answers flags (length flags) places → (place : ℕ) → Contains places place ↔ (slice_get flags place ≡ Some value)
flagged Answers flags value places holds fails are place =
    let members = members_are Answers flags (λ b. b ≡ value) places holds fails are place in
    let is = some_is (slice_get flags place) value in
    (λ h. is.0 (members.0 h), λ h. members.1 (is.1 h))

map_flag : (forms : List Expression) (state : ℕ) → (slice_get (map is_nullable forms) state ≡ Some true) ↔ IsMatching forms state
map_flag [] state = (λ h. let e : ◌≡◌ {A = Option Bool} None (Some true) = h in cc, λ h. absurd h)
map_flag (r ∷ forms) zero = (λ h. cc, λ h. ap (λ b. Some b) h)
map_flag (r ∷ forms) (suc state) = map_flag forms state

-- at first the flags of the matching states alone are set
pub first_live : (t : Transitions) (forms : List Expression) → AreLive t forms (map is_nullable forms)
first_live t forms = record {
  many = length-map forms is_nullable;
  all = λ state. (map_flag forms state).1;
  only = λ state set. ([], All-nil (λ letter. letter < t.letters), (map_flag forms state).0 set);
}

pub has_groups : (forms : List Expression) (before one after : Transitions) (flags live : List Bool) (first second matched failed : List ℕ)
    → before.states ≡ length forms → before.groups ≡ [] → flags ≡ map is_nullable forms
    → ((s : ℕ) → Contains matched s ↔ (slice_get flags s ≡ Some true)) → ((s : ℕ) → Contains failed s ↔ (slice_get live s ≡ Some false))
    → AreLive before forms live → DeadStaysDead before live
    → one ≡ record before { groups = before.groups ++ first ∷ [] } → ((s : ℕ) → Contains first s ↔ Contains matched s)
    → after ≡ record one { groups = one.groups ++ second ∷ [] } → ((s : ℕ) → Contains second s ↔ Contains failed s)
    → HasGroups forms before after
has_groups forms before one after flags live first second matched failed states none are matching failing sound closed add_first is_first add_second is_second =
    let groups_one : one.groups ≡ first ∷ [] = ap (λ (x : Transitions). x.groups) add_first ∙ ap (λ g. g ++ first ∷ []) none in
    let groups : after.groups ≡ first ∷ second ∷ [] = ap (λ (x : Transitions). x.groups) add_second ∙ ap (λ g. g ++ second ∷ []) groups_one in record {
      states = ap (λ (x : Transitions). x.states) add_second ∙ ap (λ (x : Transitions). x.states) add_first;
      letters = ap (λ (x : Transitions). x.letters) add_second ∙ ap (λ (x : Transitions). x.letters) add_first;
      next = ap (λ (x : Transitions). x.next) add_second ∙ ap (λ (x : Transitions). x.next) add_first;
      many = ap length groups;
      matched = λ state. list_group after.groups first state (IsMatching forms state) 0 (ap (λ g. slice_get g 0) groups) (
        λ h. (map_flag forms state).0 (subst (λ (f : List Bool). slice_get f state ≡ Some true) are ((matching state).0 ((is_first state).0 h))),
        λ h. (is_first state).1 ((matching state).1 (subst (λ (f : List Bool). slice_get f state ≡ Some true) (sym are) ((map_flag forms state).1 h))),
      );
      failed = λ state lt. list_group after.groups second state (LeadsToMatch before forms state → ⊥) 1 (ap (λ g. slice_get g 1) groups) (
        λ h. (dead_are before forms live sound closed state lt).0 ((failing state).0 ((is_second state).0 h)),
        λ h. (is_second state).1 ((failing state).1 ((dead_are before forms live sound closed state lt).1 h)),
      );
    }

pub map_same : {X : Type 0} (xs : List X) → map (λ x. x) xs ≡ xs
map_same [] = refl
map_same (x ∷ xs) = ap (λ l. x ∷ l) (map_same xs)

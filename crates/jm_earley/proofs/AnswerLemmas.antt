-- What a place keeps, for each set of letters.
use Rattle.std.proofs.Common.{◌≡◌, ◌↔◌, ℕ, ◌<◌, ◌+◌, List, [], ◌∷◌, ◌++◌, length, All, Some, None, Option, slice_get, sym, ap, subst, ◌∙◌, inl, inr, arith}
use Rattle.std.specs.Prelude.{IsBitSet, IsTrue, unwrap_or}
use Rattle.std.specs.Option.{option_and_then}
use Rattle.std.proofs.lemmas.Bool.{cases_eq}
use Rattle.std.proofs.lemmas.Option.{slice_get-get_or, slice_get_within}
use Rattle.std.proofs.lemmas.List.Elements.{All-weaker}
use Rattle.jm_grammar.specs.Grammars.{GrammarDefinition}
use Rattle.jm_earley.specs.declared.item.Item.{Item}
use Rattle.jm_earley.specs.declared.letter_set.LetterSet.{LetterSet}
use Rattle.jm_earley.specs.declared.dead.DeadSets.{DeadSets}
use Rattle.jm_earley.specs.declared.continuation.Continuation.{Continuation}
use Rattle.jm_earley.specs.declared.continuation.Continuations.{Continuations}
use Rattle.jm_earley.specs.declared.earley_set.EarleySet.{EarleySet}
use Rattle.jm_earley.specs.Items.{IsItemSet}
use Rattle.jm_earley.specs.Continuations.{CanBeContinued}
use Rattle.jm_earley.specs.LetterSets.{IsExact}
use Rattle.jm_earley.specs.DeadSets.{IsAvailable, IsLeft, AreDeadSets}
use Rattle.jm_earley.specs.EarleySets.{IsFuture, AreFutures, AreEarlier, AreEarlierOf, IsFutureOf, IsAliveFor}
use Rattle.jm_earley.proofs.DeadLemmas.{slice_get_push, slice_get_kept}

-- the first of the sets have their futures
abbrev pub AreFuturesOf : GrammarDefinition → List LetterSet → List Item → List EarleySet → List Continuation → ℕ → Type 0
AreFuturesOf g sets items earlier futures n =
    (number : ℕ) (set : LetterSet) → number < n → slice_get sets number ≡ Some set → (f : Continuation) × (slice_get futures number ≡ Some f) × IsFutureOf g set number items earlier f

same_some : {X : Type 0} (x y : X) (o : Option X) → o ≡ Some x → o ≡ Some y → x ≡ y
same_some x y o e f = ap (λ (p : Option _). unwrap_or p x) (sym e ∙ f)

module _ (g : GrammarDefinition) (sets : List LetterSet) (items : List Item) (earlier : List EarleySet) where
  pub one_more_future : (futures : List Continuation) (n : ℕ) (set : LetterSet) (f : Continuation) → length futures ≡ n → AreFuturesOf g sets items earlier futures n → slice_get sets n ≡ Some set
      → IsFutureOf g set n items earlier f → AreFuturesOf g sets items earlier (futures ++ f ∷ []) (n + 1)
  one_more_future futures n set f count each here there number other lt at = elim (cases_eq number n) [
    | inl e ↦
        let same : set ≡ other = same_some set other (slice_get sets n) here (ap (λ (k : ℕ). slice_get sets k) (sym e) ∙ at) in (
          f,
          slice_get_push futures f number (omega (arith, count, e)),
          subst (λ (k : ℕ). IsFutureOf g other k items earlier f) (sym e) (subst (λ (s : LetterSet). IsFutureOf g s n items earlier f) same there),
        )
    | inr differs ↦
        let old = each number other (omega (arith, lt, differs)) at in
        (old.0, slice_get_kept futures (f ∷ []) number old.0 old.1, old.2)
  ]

  earlier_of : (word : List ℕ) → AreEarlier g sets word earlier → (number : ℕ) (set : LetterSet) → slice_get sets number ≡ Some set → AreEarlierOf g set.letters number word earlier
  earlier_of word are number set at = record {
    none = are.none;
    each = λ x item lt.
        let p = are.each x item lt in
        let f = p.2 number set at in
        (f.0, ap (λ (o : Option EarleySet). option_and_then (λ (q : EarleySet). slice_get q.futures.futures.items number) o) p.1 ∙ f.1, f.2);
    past = are.past;
  }

  set_exact_at : (number : ℕ) (set : LetterSet) → All (IsExact g.productions) sets → slice_get sets number ≡ Some set → IsExact g.productions set
  set_exact_at number set exact at =
      let lt = slice_get_within sets number set at in
      let is : _ ≡ set = same_some _ set (slice_get sets number) (slice_get-get_or sets number set lt) at in
      subst (λ (s : LetterSet). IsExact g.productions s) is (exact number set lt)

  -- the futures of all the sets
  pub all_futures : (futures : Continuations) → AreFuturesOf g sets items earlier futures.futures.items (length sets) → All (IsExact g.productions) sets
      → (word : List ℕ) → IsItemSet g word items → AreEarlier g sets word earlier → AreFutures g sets word futures
  all_futures futures each exact word all are number set at =
      let one = each number set (slice_get_within sets number set at) at in
      (one.0, one.1, one.2 (set_exact_at number set exact at) word all (earlier_of word are number set at))

-- ---- the answer for a set of dead parameters

module _ (g : GrammarDefinition) (params word : List ℕ) (sets : DeadSets) (futures : Continuations) (dead : ℕ) (small : dead < 256)
    (are_sets : AreDeadSets g.productions params sets) (are : AreFutures g sets.sets.items word futures) where
  abbrev number_is : (number : ℕ) × (slice_get sets.numbers.items dead ≡ Some number) × IsLeft params sets.sets.items dead number
  number_is = are_sets.each dead small

  abbrev future_is : (f : Continuation) × (slice_get futures.futures.items number_is.0 ≡ Some f) × IsFuture g number_is.2.set.letters word f
  future_is = are number_is.0 number_is.2.set number_is.2.found

  pub number_there : slice_get sets.numbers.items dead ≡ None → ⊥
  number_there e = let there = number_is.1 in cc

  pub future_there : (number : ℕ) → slice_get sets.numbers.items dead ≡ Some number → slice_get futures.futures.items number ≡ None → ⊥
  future_there number at e =
      let same : number_is.0 ≡ number = same_some number_is.0 number (slice_get sets.numbers.items dead) number_is.1 at in
      let there : slice_get futures.futures.items number ≡ Some future_is.0 = ap (λ (k : ℕ). slice_get futures.futures.items k) (sym same) ∙ future_is.1 in
      cc

  letters_same : (more : List ℕ) → All (IsBitSet number_is.2.set.letters) more ↔ All (IsAvailable params dead) more
  letters_same more = (
    All-weaker (IsBitSet number_is.2.set.letters) (IsAvailable params dead) (λ letter. (number_is.2.letters letter).0) more,
    All-weaker (IsAvailable params dead) (IsBitSet number_is.2.set.letters) (λ letter. (number_is.2.letters letter).1) more,
  )

  pub alive_for : (number : ℕ) (f : Continuation) → slice_get sets.numbers.items dead ≡ Some number → slice_get futures.futures.items number ≡ Some f → IsTrue f.alive ↔ IsAliveFor g params dead word
  alive_for number f at e =
      let same : number_is.0 ≡ number = same_some number_is.0 number (slice_get sets.numbers.items dead) number_is.1 at in
      let there : future_is.0 ≡ f = same_some future_is.0 f (slice_get futures.futures.items number) (ap (λ (k : ℕ). slice_get futures.futures.items k) (sym same) ∙ future_is.1) e in
      let alive : IsTrue f.alive ↔ CanBeContinued g number_is.2.set.letters word = subst (λ (x : Continuation). IsTrue x.alive ↔ CanBeContinued g number_is.2.set.letters word) there future_is.2.alive in (
        λ h. let a = alive.0 h in (a.0, (letters_same a.0).0 a.1, a.2, a.3),
        λ h. alive.1 (h.0, (letters_same h.0).1 h.1, h.2, h.3),
      )

-- What a place keeps of what may follow there.
use Rattle.std.specs.Prelude.{ℕ, ◌≡◌, ◌≢◌, ◌<◌, ◌≤◌, ◌↔◌, List, [], ◌++◌, All, Some, None, IsBitSet, IsTrue, length, take, slice_get}
use Rattle.jm_model.specs.Words.{Word, Mask}
use Rattle.jm_grammar.specs.Grammars.{GrammarDefinition}
use Rattle.jm_grammar.specs.Meanings.{IsWord}
use Rattle.jm_earley.specs.declared.item.Item.{Item}
use Rattle.jm_earley.specs.declared.letter_set.LetterSet.{LetterSet}
use Rattle.jm_earley.specs.declared.continuation.Continuation.{Continuation}
use Rattle.jm_earley.specs.declared.continuation.Continuations.{Continuations}
use Rattle.jm_earley.specs.declared.earley_set.EarleySet.{EarleySet}
use Rattle.jm_earley.specs.Items.{IsItem, IsItemSet}
use Rattle.jm_earley.specs.Kept.{place_at}
use Rattle.jm_earley.specs.Continuations.{CanEnd, CanGoOn, CanBeContinued}
use Rattle.jm_earley.specs.LetterSets.{IsExact}
use Rattle.jm_earley.specs.DeadSets.{IsAvailable}
use Rattle.jm_earley.specs.Links.{future_at}

module _ (g : GrammarDefinition) where
  -- what may follow the word, of these letters
  pub record IsFuture (letters : ℕ) (word : Word) (f : Continuation) : Type 0 where
    pub ends : (n : ℕ) → IsBitSet f.ends n ↔ CanEnd g letters word n
    pub more : (n : ℕ) → IsBitSet f.more n ↔ CanGoOn g letters word n
    pub alive : IsTrue f.alive ↔ CanBeContinued g letters word

  -- what may follow the word, of the letters of each set
  abbrev pub AreFutures : List LetterSet → Word → Continuations → Type 0
  AreFutures sets word futures =
      (number : ℕ) (set : LetterSet) → slice_get sets number ≡ Some set → (f : Continuation)
      × (slice_get futures.futures.items number ≡ Some f) × IsFuture set.letters word f

  -- what may follow at each earlier place where an item of the word began; the first place has none before it, and each
  -- other has
  pub record AreEarlier (sets : List LetterSet) (word : Word) (earlier : List EarleySet) : Type 0 where
    pub none : (length earlier ≡ 0) ↔ (length word ≡ 0)
    pub each : (x : Item) → IsItem g word x → x.origin < length word → (p : EarleySet)
        × (place_at earlier x.origin ≡ Some p) × AreFutures sets (take x.origin word) p.futures
    pub past : (position : ℕ) → length word ≤ position → place_at earlier position ≡ None

  -- the same, for one set of letters
  pub record AreEarlierOf (letters : ℕ) (number : ℕ) (word : Word) (earlier : List EarleySet) : Type 0 where
    pub none : (length earlier ≡ 0) ↔ (length word ≡ 0)
    pub each : (x : Item) → IsItem g word x → x.origin < length word → (f : Continuation)
        × (future_at earlier number x.origin ≡ Some f) × IsFuture letters (take x.origin word) f
    pub past : (position : ℕ) → length word ≤ position → place_at earlier position ≡ None

  -- it is what may follow each word that has these items, and what may follow at the earlier places
  abbrev pub IsFutureOf : LetterSet → ℕ → List Item → List EarleySet → Continuation → Type 0
  IsFutureOf set number items earlier f =
      IsExact g.productions set → (word : Word) → IsItemSet g word items
      → AreEarlierOf set.letters number word earlier → IsFuture set.letters word f

  -- some word of one or more letters without a dead parameter, put after the word, gives a word of the grammar
  abbrev pub IsAliveFor : List Mask → ℕ → Word → Type 0
  IsAliveFor params dead word =
      (more : Word) × All (IsAvailable params dead) more × IsWord g (word ++ more) × (more ≢ [])

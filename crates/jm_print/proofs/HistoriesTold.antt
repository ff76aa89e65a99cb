-- The text of a history tells the history.
use Rattle.std.proofs.Common.{◌≡◌, ◌≢◌, ℕ, suc, ◌<◌, ◌≤◌, ◌^◌, false, List, [], ◌∷◌, ◌++◌, length, refl, sym, ◌∙◌, ap, subst, inl, inr, arith, append_assoc}
use Rattle.std.specs.Prelude.{codes, decimal, ◌⊎◌, ◌==◌, All}
use Rattle.std.specs.List.{flat_map}
use mathlib.Core.Bool.{true≢false}
use Rattle.std.proofs.lemmas.Bool.{eq-eqb}
use Rattle.std.proofs.lemmas.Fmt.{decimal_injective}
use Rattle.jm_model.specs.declared.binding.Binding.{Binding}
use Rattle.jm_model.specs.declared.firings.Firing.{Firing}
use Rattle.jm_model.specs.declared.step.Letter.{Letter}
use Rattle.jm_model.specs.declared.step.Step.{Step}
use Rattle.jm_model.specs.declared.step.Step.TheVariants.{Event, Death, Pass}
use Rattle.jm_model.specs.declared.step.Outcome.{Outcome}
use Rattle.jm_model.specs.declared.step.Outcome.TheVariants.{Fired, Refused, Done, Kept, NoMemory}
use Rattle.jm_model.specs.declared.step.Entry.{Entry}
use Rattle.jm_print.specs.Lexicons.{Lexicon, name_of}
use Rattle.jm_print.specs.Texts.{binding_text, firing_text, step_text, entry_text, HasNamesFrom, IsPrintableFiring, IsPrintableStep}
use Rattle.jm_print.specs.Told.{IsName, AreNames, HasNames, BindsSome, HaveEight, FitsStep, IsTold, AreTold}
use Rattle.jm_print.proofs.Cutting.{Lacks, cut, name-lacks_line_feed, name-lacks_space, name-lacks_equals, AreDigits, decimal-digits, digits-lack}
use Rattle.jm_print.proofs.BindingsTold.{name-plain, name-same, pairs-same, pairs_cases, lacks_pairs, no_name}

-- two numbers that a test tells apart
pub apart : (m n : ℕ) → (m == n) ≡ false → m ≡ n → ⊥
apart m n other same = true≢false (sym (eq-eqb m n same) ∙ other)

-- the same front
pub same_front : (a b c : List ℕ) → a ++ b ≡ a ++ c → b ≡ c
same_front [] b c e = e
same_front (x ∷ a) b c e = same_front a b c (let i : a ++ b ≡ a ++ c = cc in i)

-- a byte that is no digit doesn't begin a number
no_digit : (d mark : ℕ) (ds rest behind : List ℕ) → 58 ≤ d → d ≢ mark → AreDigits ds → d ∷ rest ≡ ds ++ mark ∷ behind → ⊥
no_digit d mark [] rest behind high other digits e = other (let i : d ≡ mark = cc in i)
no_digit d mark (c ∷ cs) rest behind high other digits e = let i : d ≡ c = cc in absurd (omega (arith, i, high, digits.1))

-- the digits of two numbers up to a mark that is no digit
number-cut : (mark m n : ℕ) (s t : List ℕ) → (mark < 48) ⊎ (58 ≤ mark) → decimal m ++ mark ∷ s ≡ decimal n ++ mark ∷ t → (decimal m ≡ decimal n) × (s ≡ t)
number-cut mark m n s t other e = cut mark (decimal m) (decimal n) s t (digits-lack (decimal m) mark other (decimal-digits m)) (digits-lack (decimal n) mark other (decimal-digits n)) e

-- the numbers too, where they are small
number-same : (mark m n : ℕ) (s t : List ℕ) → (mark < 48) ⊎ (58 ≤ mark) → m < 2 ^ 64 → n < 2 ^ 64 → decimal m ++ mark ∷ s ≡ decimal n ++ mark ∷ t → (m ≡ n) × (s ≡ t)
number-same mark m n s t other here there e =
    let parts = number-cut mark m n s t other e in
    (decimal_injective m n here there parts.0, parts.1)

-- names up to the end of a line
name-line : (names : List (List ℕ)) (j k : ℕ) (s t : List ℕ) → AreNames names → j < length names → k < length names → name_of names j ++ 10 ∷ s ≡ name_of names k ++ 10 ∷ t → (j ≡ k) × (s ≡ t)
name-line names j k s t h here there e =
    let parts = cut 10 (name_of names j) (name_of names k) s t (name-lacks_line_feed (name_of names j) (name-plain names j h here)) (name-lacks_line_feed (name_of names k) (name-plain names k h there)) e in
    (name-same names j k h here there parts.0, parts.1)

-- ---- firings
pub firing_text-cons : (l : Lexicon) (f : Firing) (rest : List ℕ) → firing_text l f ++ rest ≡ 32 ∷ 32 ∷ 64 ∷ (name_of l.handlers f.handler ++ 32 ∷ (binding_text l f.instance ++ 10 ∷ rest))
firing_text-cons l f rest = simp append_assoc

firing-same : (l : Lexicon) (f g : Firing) (s t : List ℕ) → HasNames l → IsPrintableFiring l f → IsPrintableFiring l g → length f.instance ≡ 8 → length g.instance ≡ 8
    → firing_text l f ++ s ≡ firing_text l g ++ t → (f ≡ g) × (s ≡ t)
firing-same l f g s t h m n eight other e =
    let F = name_of l.handlers f.handler in
    let G = name_of l.handlers g.handler in
    let B = binding_text l f.instance in
    let C = binding_text l g.instance in
    let whole : 32 ∷ 32 ∷ 64 ∷ (F ++ 32 ∷ (B ++ 10 ∷ s)) ≡ 32 ∷ 32 ∷ 64 ∷ (G ++ 32 ∷ (C ++ 10 ∷ t)) = sym (firing_text-cons l f s) ∙ e ∙ firing_text-cons l g t in
    let inner : F ++ 32 ∷ (B ++ 10 ∷ s) ≡ G ++ 32 ∷ (C ++ 10 ∷ t) = cc in
    let handlers = cut 32 F G (B ++ 10 ∷ s) (C ++ 10 ∷ t) (name-lacks_space F (name-plain l.handlers f.handler h.handlers m.0)) (name-lacks_space G (name-plain l.handlers g.handler h.handlers n.0)) inner in
    let instances = cut 10 B C s t
    (lacks_pairs 10 l 0 f.instance (apart 61 10 refl) (apart 44 10 refl) (apart 45 10 refl) name-lacks_line_feed h m.1)
    (lacks_pairs 10 l 0 g.instance (apart 61 10 refl) (apart 44 10 refl) (apart 45 10 refl) name-lacks_line_feed h n.1) handlers.1 in
    let handler = name-same l.handlers f.handler g.handler h.handlers m.0 n.0 handlers.0 in
    let instance = pairs-same l 0 f.instance g.instance h m.1 n.1 (eight ∙ sym other) instances.0 in
    ((λ j. record { instance = instance j; handler = handler j }), instances.1)

-- the firings by recursion
abbrev pub ArePrintable : Lexicon → List Firing → Type 0
ArePrintable l [] = Unit {0}
ArePrintable l (f ∷ fs) = IsPrintableFiring l f × ArePrintable l fs

pub printable_firings : (l : Lexicon) (fs : List Firing) → All (IsPrintableFiring l) fs → ArePrintable l fs
printable_firings l [] all = tt
printable_firings l (f ∷ fs) all = (all 0 f (omega arith), printable_firings l fs (λ k d within. all (suc k) d (omega arith)))

-- what may stand after the lines of firings: a text that begins with no space, as each of them does
abbrev IsBehindFirings : List ℕ → Type 0
IsBehindFirings [] = ⊥
IsBehindFirings (c ∷ cs) = c ≢ 32

no_firing : (l : Lexicon) (f : Firing) (s rest : List ℕ) → IsBehindFirings s → s ≡ firing_text l f ++ rest → ⊥
no_firing l f s rest last e = subst IsBehindFirings (e ∙ firing_text-cons l f rest) last refl

firings-same : (l : Lexicon) (fs gs : List Firing) (s t : List ℕ) → HasNames l → ArePrintable l fs → ArePrintable l gs → HaveEight fs → HaveEight gs → IsBehindFirings s → IsBehindFirings t
    → flat_map (firing_text l) fs ++ s ≡ flat_map (firing_text l) gs ++ t → (fs ≡ gs) × (s ≡ t)
firings-same l [] [] s t h m n i j here there e = (refl, e)
firings-same l [] (g ∷ gs) s t h m n i j here there e = absurd (no_firing l g s _ here (e ∙ append_assoc (firing_text l g) (flat_map (firing_text l) gs) t))
firings-same l (f ∷ fs) [] s t h m n i j here there e = absurd (no_firing l f t _ there (sym e ∙ append_assoc (firing_text l f) (flat_map (firing_text l) fs) s))
firings-same l (f ∷ fs) (g ∷ gs) s t h m n i j here there e =
    let A = flat_map (firing_text l) fs in
    let B = flat_map (firing_text l) gs in
    let whole : firing_text l f ++ (A ++ s) ≡ firing_text l g ++ (B ++ t) = sym (append_assoc (firing_text l f) A s) ∙ e ∙ append_assoc (firing_text l g) B t in
    let first = firing-same l f g (A ++ s) (B ++ t) h m.0 n.0 i.0 j.0 whole in
    let rest = firings-same l fs gs s t h m.1 n.1 i.1 j.1 here there first.1 in
    ((λ k. first.0 k ∷ rest.0 k), rest.1)

-- ---- the kinds of rows
pub data Row : Type 0 where
  fired : Letter → Binding → List Firing → Row
  unfired : Letter → Binding → ℕ → Row
  died : ℕ → Row
  dead : ℕ → ℕ → Row
  passed : ℕ → Row

abbrev pub step_of : Row → Step
step_of (fired e b fs) = Event e b
step_of (unfired e b o) = Event e b
step_of (died o) = Death o
step_of (dead o q) = Death o
step_of (passed n) = Pass

abbrev pub outcome_of : Row → Outcome
outcome_of (fired e b fs) = Fired fs
outcome_of (unfired e b o) = Refused o
outcome_of (died o) = Done
outcome_of (dead o q) = Refused q
outcome_of (passed n) = Kept n

-- a row has its names, and fits
abbrev pub IsRow : Lexicon → Row → Type 0
IsRow l r = IsPrintableStep l (step_of r) (outcome_of r) × FitsStep (step_of r) (outcome_of r)

-- what is printed is one of the rows
pub row_of : (l : Lexicon) (s : Step) (o : Outcome) → IsPrintableStep l s o → (r : Row) × (s ≡ step_of r) × (o ≡ outcome_of r)
row_of l (Event e b) (Fired fs) h = (fired e b fs, refl, refl)
row_of l (Event e b) (Refused o) h = (unfired e b o, refl, refl)
row_of l (Death o) Done h = (died o, refl, refl)
row_of l (Death o) (Refused q) h = (dead o q, refl, refl)
row_of l Pass (Kept n) h = (passed n, refl, refl)
row_of l (Event e b) Done h = absurd h
row_of l (Event e b) (Kept n) h = absurd h
row_of l (Event e b) NoMemory h = absurd h
row_of l (Death o) (Fired fs) h = absurd h
row_of l (Death o) (Kept n) h = absurd h
row_of l (Death o) NoMemory h = absurd h
row_of l Pass (Fired fs) h = absurd h
row_of l Pass (Refused o) h = absurd h
row_of l Pass Done h = absurd h
row_of l Pass NoMemory h = absurd h

-- the first word of a row, the second, and what stands after
abbrev first_word : Lexicon → Row → List ℕ
first_word l (fired e b fs) = name_of l.events e.0
first_word l (unfired e b o) = name_of l.events e.0
first_word l (died o) = codes "death"
first_word l (dead o q) = codes "death"
first_word l (passed n) = codes "pass"

abbrev second_word : Lexicon → Row → List ℕ
second_word l (fired e b fs) = binding_text l b
second_word l (unfired e b o) = binding_text l b
second_word l (died o) = name_of l.objects o
second_word l (dead o q) = name_of l.objects o
second_word l (passed n) = codes "kept"

abbrev last_words : Lexicon → Row → List ℕ → List ℕ
last_words l (fired e b fs) s = codes "fired " ++ (decimal (length fs) ++ 10 ∷ (flat_map (firing_text l) fs ++ s))
last_words l (unfired e b o) s = codes "refused " ++ (name_of l.objects o ++ 10 ∷ s)
last_words l (died o) s = codes "done\n" ++ s
last_words l (dead o q) s = codes "refused " ++ (name_of l.objects q ++ 10 ∷ s)
last_words l (passed n) s = decimal n ++ 10 ∷ s

row_text : (l : Lexicon) (r : Row) (s : List ℕ) → step_text l (step_of r) (outcome_of r) ++ s ≡ first_word l r ++ 32 ∷ (second_word l r ++ 32 ∷ last_words l r s)
row_text l (fired e b fs) s = simp append_assoc
row_text l (unfired e b o) s = simp append_assoc
row_text l (died o) s = simp append_assoc
row_text l (dead o q) s = simp append_assoc
row_text l (passed n) s = simp append_assoc

binding-spaceless : (l : Lexicon) (b : Binding) → HasNames l → HasNamesFrom l 0 b → Lacks 32 (binding_text l b)
binding-spaceless l b h names = lacks_pairs 32 l 0 b (apart 61 32 refl) (apart 44 32 refl) (apart 45 32 refl) name-lacks_space h names

first_word-spaceless : (l : Lexicon) (r : Row) → HasNames l → IsRow l r → Lacks 32 (first_word l r)
first_word-spaceless l (fired e b fs) h m = name-lacks_space (name_of l.events e.0) (name-plain l.events e.0 h.events m.0.0)
first_word-spaceless l (unfired e b o) h m = name-lacks_space (name_of l.events e.0) (name-plain l.events e.0 h.events m.0.0)
first_word-spaceless l (died o) h m = (apart 100 32 refl, (apart 101 32 refl, (apart 97 32 refl, (apart 116 32 refl, (apart 104 32 refl, tt)))))
first_word-spaceless l (dead o q) h m = (apart 100 32 refl, (apart 101 32 refl, (apart 97 32 refl, (apart 116 32 refl, (apart 104 32 refl, tt)))))
first_word-spaceless l (passed n) h m = (apart 112 32 refl, (apart 97 32 refl, (apart 115 32 refl, (apart 115 32 refl, tt))))

second_word-spaceless : (l : Lexicon) (r : Row) → HasNames l → IsRow l r → Lacks 32 (second_word l r)
second_word-spaceless l (fired e b fs) h m = binding-spaceless l b h m.0.1
second_word-spaceless l (unfired e b o) h m = binding-spaceless l b h m.0.1
second_word-spaceless l (died o) h m = name-lacks_space (name_of l.objects o) (name-plain l.objects o h.objects m.0)
second_word-spaceless l (dead o q) h m = name-lacks_space (name_of l.objects o) (name-plain l.objects o h.objects m.0.0)
second_word-spaceless l (passed n) h m = (apart 107 32 refl, (apart 101 32 refl, (apart 112 32 refl, (apart 116 32 refl, tt))))

-- a binding with an object is no name
bound-no_name : (l : Lexicon) (b : Binding) (name : List ℕ) → HasNamesFrom l 0 b → BindsSome b → IsName name → binding_text l b ≡ name → ⊥
bound-no_name l b name names some plain e =
    elim (pairs_cases l 0 b names) [
      | inl none ↦ none.1 some
      | inr begins ↦ no_name (name_of l.parameters begins.parameter) begins.rest name (name-lacks_equals name plain) (sym begins.text_is ∙ e)
    ]

letter-same : (e f : Letter) → e.0 ≡ f.0 → e ≡ f
letter-same e f same = λ j. record { 0 = same j }

-- ---- two rows that read alike
-- the parts of two rows agree
record Alike (l : Lexicon) (r q : Row) (s t : List ℕ) : Type 0 where
  first : first_word l r ≡ first_word l q
  second : second_word l r ≡ second_word l q
  last : last_words l r s ≡ last_words l q t

opposite : (l : Lexicon) (r q : Row) (s t : List ℕ) → Alike l r q s t → Alike l q r t s
opposite l r q s t a = record { first = sym a.first; second = sym a.second; last = sym a.last }

-- the same row, with the same text after
abbrev IsSame : Row → Row → List ℕ → List ℕ → Type 0
IsSame r q s t = (r ≡ q) × (s ≡ t)

event-same : (l : Lexicon) (e f : Letter) (b c : Binding) → HasNames l → e.0 < length l.events → f.0 < length l.events → HasNamesFrom l 0 b → HasNamesFrom l 0 c → length b ≡ 8 → length c ≡ 8
    → name_of l.events e.0 ≡ name_of l.events f.0 → binding_text l b ≡ binding_text l c → (e ≡ f) × (b ≡ c)
event-same l e f b c h here there m n eight other first second =
    (letter-same e f (name-same l.events e.0 f.0 h.events here there first), pairs-same l 0 b c h m n (eight ∙ sym other) second)

fired-fired : (l : Lexicon) (e f : Letter) (b c : Binding) (fs gs : List Firing) (s t : List ℕ) → HasNames l → IsRow l (fired e b fs) → IsRow l (fired f c gs) → IsBehindFirings s → IsBehindFirings t → Alike l (fired e b fs) (fired f c gs) s t → IsSame (fired e b fs) (fired f c gs) s t
fired-fired l e f b c fs gs s t h m n here there a =
    let A = flat_map (firing_text l) fs ++ s in
    let B = flat_map (firing_text l) gs ++ t in
    let lasts : codes "fired " ++ (decimal (length fs) ++ 10 ∷ A) ≡ codes "fired " ++ (decimal (length gs) ++ 10 ∷ B) = a.last in
    let events = event-same l e f b c h m.0.0 n.0.0 m.0.1 n.0.1 m.1.0 n.1.0 a.first a.second in
    let lines = number-cut 10 (length fs) (length gs) A B (inl (omega arith)) (same_front (codes "fired ") (decimal (length fs) ++ 10 ∷ A) (decimal (length gs) ++ 10 ∷ B) lasts) in
    let rest = firings-same l fs gs s t h (printable_firings l fs m.0.2) (printable_firings l gs n.0.2) m.1.1 n.1.1 here there lines.1 in
    ((λ j. fired (events.0 j) (events.1 j) (rest.0 j)), rest.1)

unfired-unfired : (l : Lexicon) (e f : Letter) (b c : Binding) (o p : ℕ) (s t : List ℕ) → HasNames l → IsRow l (unfired e b o) → IsRow l (unfired f c p) → Alike l (unfired e b o) (unfired f c p) s t → IsSame (unfired e b o) (unfired f c p) s t
unfired-unfired l e f b c o p s t h m n a =
    let A = name_of l.objects o ++ 10 ∷ s in
    let B = name_of l.objects p ++ 10 ∷ t in
    let events = event-same l e f b c h m.0.0 n.0.0 m.0.1 n.0.1 m.1.0 n.1.0 a.first a.second in
    let rest = name-line l.objects o p s t h.objects m.0.2 n.0.2 (same_front (codes "refused ") A B a.last) in
    ((λ j. unfired (events.0 j) (events.1 j) (rest.0 j)), rest.1)

died-died : (l : Lexicon) (o p : ℕ) (s t : List ℕ) → HasNames l → IsRow l (died o) → IsRow l (died p) → Alike l (died o) (died p) s t → IsSame (died o) (died p) s t
died-died l o p s t h m n a = ((λ j. died (name-same l.objects o p h.objects m.0 n.0 a.second j)), same_front (codes "done\n") s t a.last)

dead-dead : (l : Lexicon) (o p q r : ℕ) (s t : List ℕ) → HasNames l → IsRow l (dead o q) → IsRow l (dead p r) → Alike l (dead o q) (dead p r) s t → IsSame (dead o q) (dead p r) s t
dead-dead l o p q r s t h m n a =
    let A = name_of l.objects q ++ 10 ∷ s in
    let B = name_of l.objects r ++ 10 ∷ t in
    let one = name-same l.objects o p h.objects m.0.0 n.0.0 a.second in
    let rest = name-line l.objects q r s t h.objects m.0.1 n.0.1 (same_front (codes "refused ") A B a.last) in
    ((λ j. dead (one j) (rest.0 j)), rest.1)

passed-passed : (l : Lexicon) (m n : ℕ) (s t : List ℕ) → IsRow l (passed m) → IsRow l (passed n) → Alike l (passed m) (passed n) s t → IsSame (passed m) (passed n) s t
passed-passed l m n s t here there a =
    let rest = number-same 10 m n s t (inl (omega arith)) here.1 there.1 a.last in
    ((λ j. passed (rest.0 j)), rest.1)

-- ---- rows of two kinds never read alike
heads : (c d : ℕ) (s t : List ℕ) → c ∷ s ≡ d ∷ t → c ≡ d
heads c d s t e = cc

fired-other : (l : Lexicon) (e : Letter) (b : Binding) (fs : List Firing) (c : ℕ) (s t : List ℕ) → (102 == c) ≡ false → last_words l (fired e b fs) s ≡ c ∷ t → ⊥
fired-other l e b fs c s t other same = apart 102 c other (heads 102 c _ t same)

-- a number begins with a digit
passed-other : (l : Lexicon) (n c : ℕ) (s t : List ℕ) → 58 ≤ c → c ∷ t ≡ last_words l (passed n) s → ⊥
passed-other l n c s t high same = no_digit c 10 (decimal n) t s high (λ e. absurd (omega (arith, e, high))) (decimal-digits n) same

-- a refused event has an object, and so is no death
unfired-dead : (l : Lexicon) (e : Letter) (b : Binding) (o p q : ℕ) (s t : List ℕ) → HasNames l → IsRow l (unfired e b o) → IsRow l (dead p q) → Alike l (unfired e b o) (dead p q) s t → ⊥
unfired-dead l e b o p q s t h m n a = bound-no_name l b (name_of l.objects p) m.0.1 m.1.1 (name-plain l.objects p h.objects n.0.0) a.second

row-same : (l : Lexicon) (r q : Row) (s t : List ℕ) → HasNames l → IsRow l r → IsRow l q → IsBehindFirings s → IsBehindFirings t → Alike l r q s t → IsSame r q s t
row-same l (fired e b fs) (fired f c gs) s t h m n here there a = fired-fired l e f b c fs gs s t h m n here there a
row-same l (fired e b fs) (unfired f c o) s t h m n here there a = absurd (fired-other l e b fs 114 s _ refl a.last)
row-same l (fired e b fs) (died o) s t h m n here there a = absurd (fired-other l e b fs 100 s _ refl a.last)
row-same l (fired e b fs) (dead o q) s t h m n here there a = absurd (fired-other l e b fs 114 s _ refl a.last)
row-same l (fired e b fs) (passed k) s t h m n here there a = absurd (passed-other l k 102 t _ (omega arith) a.last)
row-same l (unfired e b o) (fired f c gs) s t h m n here there a = absurd (fired-other l f c gs 114 t _ refl (sym a.last))
row-same l (unfired e b o) (unfired f c p) s t h m n here there a = unfired-unfired l e f b c o p s t h m n a
row-same l (unfired e b o) (died p) s t h m n here there a = absurd (apart 114 100 refl (heads 114 100 _ _ a.last))
row-same l (unfired e b o) (dead p q) s t h m n here there a = absurd (unfired-dead l e b o p q s t h m n a)
row-same l (unfired e b o) (passed k) s t h m n here there a = absurd (passed-other l k 114 t _ (omega arith) a.last)
row-same l (died o) (fired f c gs) s t h m n here there a = absurd (fired-other l f c gs 100 t _ refl (sym a.last))
row-same l (died o) (unfired f c p) s t h m n here there a = absurd (apart 100 114 refl (heads 100 114 _ _ a.last))
row-same l (died o) (died p) s t h m n here there a = died-died l o p s t h m n a
row-same l (died o) (dead p q) s t h m n here there a = absurd (apart 100 114 refl (heads 100 114 _ _ a.last))
row-same l (died o) (passed k) s t h m n here there a = absurd (passed-other l k 100 t _ (omega arith) a.last)
row-same l (dead o p) (fired f c gs) s t h m n here there a = absurd (fired-other l f c gs 114 t _ refl (sym a.last))
row-same l (dead o p) (unfired f c q) s t h m n here there a = absurd (unfired-dead l f c q o p t s h n m (opposite l (dead o p) (unfired f c q) s t a))
row-same l (dead o p) (died q) s t h m n here there a = absurd (apart 114 100 refl (heads 114 100 _ _ a.last))
row-same l (dead o p) (dead q r) s t h m n here there a = dead-dead l o q p r s t h m n a
row-same l (dead o p) (passed k) s t h m n here there a = absurd (passed-other l k 114 t _ (omega arith) a.last)
row-same l (passed k) (fired f c gs) s t h m n here there a = absurd (passed-other l k 102 s _ (omega arith) (sym a.last))
row-same l (passed k) (unfired f c p) s t h m n here there a = absurd (passed-other l k 114 s _ (omega arith) (sym a.last))
row-same l (passed k) (died p) s t h m n here there a = absurd (passed-other l k 100 s _ (omega arith) (sym a.last))
row-same l (passed k) (dead p q) s t h m n here there a = absurd (passed-other l k 114 s _ (omega arith) (sym a.last))
row-same l (passed k) (passed i) s t h m n here there a = passed-passed l k i s t m n a

-- ---- entries
entry_text-cons : (l : Lexicon) (x : Entry) (s : List ℕ) → entry_text l x ++ s ≡ decimal x.caller ++ 58 ∷ (decimal x.line ++ 32 ∷ (step_text l x.step x.outcome ++ s))
entry_text-cons l x s = simp append_assoc

rows_alike : (l : Lexicon) (r q : Row) (s t : List ℕ) → HasNames l → IsRow l r → IsRow l q → step_text l (step_of r) (outcome_of r) ++ s ≡ step_text l (step_of q) (outcome_of q) ++ t → Alike l r q s t
rows_alike l r q s t h m n e =
    let whole = sym (row_text l r s) ∙ e ∙ row_text l q t in
    let firsts = cut 32 (first_word l r) (first_word l q) (second_word l r ++ 32 ∷ last_words l r s) (second_word l q ++ 32 ∷ last_words l q t) (first_word-spaceless l r h m) (first_word-spaceless l q h n) whole in
    let seconds = cut 32 (second_word l r) (second_word l q) (last_words l r s) (last_words l q t) (second_word-spaceless l r h m) (second_word-spaceless l q h n) firsts.1 in
    record { first = firsts.0; second = seconds.0; last = seconds.1 }

step-same : (l : Lexicon) (x y : Entry) (s t : List ℕ) → HasNames l → IsTold l x → IsTold l y → IsBehindFirings s → IsBehindFirings t → step_text l x.step x.outcome ++ s ≡ step_text l y.step y.outcome ++ t → (x.step ≡ y.step) × (x.outcome ≡ y.outcome) × (s ≡ t)
step-same l x y s t h m n here there e =
    let r = row_of l x.step x.outcome m.printable in
    let q = row_of l y.step y.outcome n.printable in
    let at_row : (z : Entry) (w : Row) → z.step ≡ step_of w → z.outcome ≡ outcome_of w → IsTold l z → IsRow l w =
    λ z w i j told. ((subst (λ (p : Step × Outcome). IsPrintableStep l p.0 p.1) (λ k. (i k, j k)) told.printable), (subst (λ (p : Step × Outcome). FitsStep p.0 p.1) (λ k. (i k, j k)) told.fits)) in
    let one = at_row x r.0 r.1 r.2 m in
    let two = at_row y q.0 q.1 q.2 n in
    let rows : step_text l (step_of r.0) (outcome_of r.0) ++ s ≡ step_text l (step_of q.0) (outcome_of q.0) ++ t =
    (λ k. step_text l (sym r.1 k) (sym r.2 k) ++ s) ∙ e ∙ (λ k. step_text l (q.1 k) (q.2 k) ++ t) in
    let same = row-same l r.0 q.0 s t h one two here there (rows_alike l r.0 q.0 s t h one two rows) in
    (r.1 ∙ ap step_of same.0 ∙ sym q.1, r.2 ∙ ap outcome_of same.0 ∙ sym q.2, same.1)

entry-same : (l : Lexicon) (x y : Entry) (s t : List ℕ) → HasNames l → IsTold l x → IsTold l y → IsBehindFirings s → IsBehindFirings t → entry_text l x ++ s ≡ entry_text l y ++ t → (x ≡ y) × (s ≡ t)
entry-same l x y s t h m n here there e =
    let S = step_text l x.step x.outcome ++ s in
    let T = step_text l y.step y.outcome ++ t in
    let whole = sym (entry_text-cons l x s) ∙ e ∙ entry_text-cons l y t in
    let callers = number-same 58 x.caller y.caller (decimal x.line ++ 32 ∷ S) (decimal y.line ++ 32 ∷ T) (inr (omega arith)) m.caller n.caller whole in
    let lines = number-same 32 x.line y.line S T (inl (omega arith)) m.line n.line callers.1 in
    let steps = step-same l x y s t h m n here there lines.1 in
    ((λ j. record { caller = callers.0 j; line = lines.0 j; step = steps.0 j; outcome = steps.1 j }), steps.2)

-- the last line begins with a letter, and so isn't an entry
end_no_entry : (l : Lexicon) (x : Entry) (s t : List ℕ) → 101 ∷ s ≡ entry_text l x ++ t → ⊥
end_no_entry l x s t e =
    no_digit 101 58 (decimal x.caller) s (decimal x.line ++ 32 ∷ (step_text l x.step x.outcome ++ t)) (omega arith) (apart 101 58 refl) (decimal-digits x.caller) (e ∙ entry_text-cons l x t)

number-behind : (ds rest : List ℕ) → AreDigits ds → IsBehindFirings (ds ++ 58 ∷ rest)
number-behind [] rest h = apart 58 32 refl
number-behind (c ∷ cs) rest h = λ same. absurd (omega (arith, same, h.0))

-- after an entry's lines stands another entry or the last line
entries-behind : (l : Lexicon) (h : List Entry) (s : List ℕ) → IsBehindFirings (flat_map (entry_text l) h ++ 101 ∷ s)
entries-behind l [] s = apart 101 32 refl
entries-behind l (x ∷ h) s =
    let A = flat_map (entry_text l) h ++ 101 ∷ s in
    let whole = append_assoc (entry_text l x) (flat_map (entry_text l) h) (101 ∷ s) ∙ entry_text-cons l x A in
    subst IsBehindFirings (sym whole) (number-behind (decimal x.caller) (decimal x.line ++ 32 ∷ (step_text l x.step x.outcome ++ A)) (decimal-digits x.caller))

pub entries-same : (l : Lexicon) (h g : List Entry) (s t : List ℕ) → HasNames l → AreTold l h → AreTold l g → flat_map (entry_text l) h ++ 101 ∷ s ≡ flat_map (entry_text l) g ++ 101 ∷ t → (h ≡ g) × (s ≡ t)
entries-same l [] [] s t names m n e = (refl, same_front (101 ∷ []) s t e)
entries-same l [] (y ∷ g) s t names m n e = absurd (end_no_entry l y s (flat_map (entry_text l) g ++ 101 ∷ t) (e ∙ append_assoc (entry_text l y) (flat_map (entry_text l) g) (101 ∷ t)))
entries-same l (x ∷ h) [] s t names m n e = absurd (end_no_entry l x t (flat_map (entry_text l) h ++ 101 ∷ s) (sym e ∙ append_assoc (entry_text l x) (flat_map (entry_text l) h) (101 ∷ s)))
entries-same l (x ∷ h) (y ∷ g) s t names m n e =
    let A = flat_map (entry_text l) h ++ 101 ∷ s in
    let B = flat_map (entry_text l) g ++ 101 ∷ t in
    let whole : entry_text l x ++ A ≡ entry_text l y ++ B = sym (append_assoc (entry_text l x) (flat_map (entry_text l) h) (101 ∷ s)) ∙ e ∙ append_assoc (entry_text l y) (flat_map (entry_text l) g) (101 ∷ t) in
    let first = entry-same l x y A B names m.0 n.0 (entries-behind l h s) (entries-behind l g t) whole in
    let rest = entries-same l h g s t names m.1 n.1 first.1 in
    ((λ j. first.0 j ∷ rest.0 j), rest.1)

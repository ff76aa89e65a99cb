-- How far the runs go, and what they spell.
use Rattle.std.proofs.Common.{◌≡◌, ℕ, zero, suc, ◌+◌, ◌<◌, ◌≤◌, Bool, true, false, cond, List, [], ◌∷◌, ◌++◌, length, take, Option, Some, None, ◌⊎◌, inl, inr, refl, sym, ap, ◌∙◌, subst, arith, length-append}
use Rattle.std.proofs.Math.Seq.{take-append_seam, drop-append_seam}
use Rattle.std.proofs.lemmas.List.{take-append-drop, take-append-le, take-take, length-take}
use Rattle.std.specs.Prelude.{not, ◌||◌, codes, option_and_then, option_map}
use Rattle.std.specs.List.{list_any}
use Rattle.jm_text.specs.declared.token.Token.{Token}
use Rattle.jm_text.specs.Texts.{is_mark}
use Rattle.jm_spec.specs.declared.brackets.Bracket.{Bracket}
use Rattle.jm_spec.specs.declared.brackets.Bracket.TheVariants.{Round, Square, Curly, Angle}
use Rattle.jm_spec.specs.declared.brackets.Sign.{Sign}
use Rattle.jm_spec.specs.declared.brackets.Sign.TheVariants.{Open, Close, Comma, Semicolon, Plain}
use Rattle.jm_spec.specs.Brackets.{sign_of_byte, sign_of, closed, after_sign, hold_commas, without_angles, is_same}
use Rattle.jm_spec.specs.Runs.{one_more, may_end, clause_length, member_length, is_none_open, parts, parameter_rest, begins_property, ends_formula, formula_length}
use Rattle.jm_spec.specs.Reading.{passed}
use Rattle.jm_spec.specs.Balance.{member_sign, open_after, may_end_after, EndsFrom, EndsMember}
use Rattle.jm_reading.specs.Tokens.{IsMark}
use Rattle.jm_spec.specs.Spelling.{RunsToEnd, IsFormula, open_in_list, AllowsComma}
use Rattle.jm_reading.proofs.TokenLemmas.{step_of}
use Rattle.jm_spec.proofs.BalanceLemmas.{member_found, member_none, nothing_ends, longer_end, behind}
use Rattle.jm_spec.proofs.TokenLemmas.{never_both, mark_sign, curly_mark}
use Rattle.jm_spec.proofs.RepeatLemmas.{never_some, same_some, both_give}

pub passed_sound : (tokens : List Token) (o : Option ℕ) (rest : List Token) → passed tokens o ≡ Some rest → (n : ℕ) × (o ≡ Some n) × (tokens ≡ take n tokens ++ rest)
passed_sound tokens None rest h = absurd (never_some h)
passed_sound tokens (Some n) rest h = (n, refl, sym (take-append-drop n tokens) ∙ ap (λ r. take n tokens ++ r) (same_some h))

pub passed_complete : (front rest : List Token) (o : Option ℕ) → o ≡ Some (length front) → passed (front ++ rest) o ≡ Some rest
passed_complete front rest o h = ap (passed (front ++ rest)) h ∙ ap (λ (r : List Token). Some r) (drop-append_seam front rest)

one_more_sound : (o : Option ℕ) (n : ℕ) → one_more o ≡ Some n → (m : ℕ) × (o ≡ Some m) × (n ≡ suc m)
one_more_sound None n h = absurd (never_some h)
one_more_sound (Some m) n h = let e : m + 1 ≡ n = same_some h in (m, refl, omega arith)

one_more_of : (o : Option ℕ) (m : ℕ) → o ≡ Some m → one_more o ≡ Some (suc m)
one_more_of o m h = let e : m + 1 ≡ suc m = omega arith in ap one_more h ∙ ap (λ (x : ℕ). Some x) e

-- a clause

pub record TakesClause (bytes : List ℕ) (tokens : List Token) : Type 0 where
  pub run : List Token
  pub semicolon : Token
  pub split : tokens ≡ run ++ semicolon ∷ []
  pub none : list_any (λ t. is_mark bytes t (codes ";")) run ≡ false
  pub ends : IsMark bytes (codes ";") semicolon

clause_turn : (bytes : List ℕ) (t : Token) (ts : List Token) (g : Bool) (n : ℕ) → ((m : ℕ) → clause_length bytes ts ≡ Some m → TakesClause bytes (take m ts)) → is_mark bytes t (codes ";") ≡ g → cond g (Some 1) (one_more (clause_length bytes ts)) ≡ Some n → TakesClause bytes (take n (t ∷ ts))
clause_turn bytes t ts true n more g h = subst (λ k. TakesClause bytes (take k (t ∷ ts))) (same_some h) (record { run = []; semicolon = t; split = refl; none = refl; ends = g })
clause_turn bytes t ts false n more g h =
    let p = one_more_sound (clause_length bytes ts) n h in
    let r = more p.0 p.1 in
    subst (λ k. TakesClause bytes (take k (t ∷ ts))) (sym p.2) (record { run = t ∷ r.run; semicolon = r.semicolon; split = ap (λ xs. t ∷ xs) r.split; none = ap (λ b. b || list_any (λ t. is_mark bytes t (codes ";")) r.run) g ∙ r.none; ends = r.ends })

pub clause_sound : (bytes : List ℕ) (tokens : List Token) (n : ℕ) → clause_length bytes tokens ≡ Some n → TakesClause bytes (take n tokens)
clause_sound bytes [] n h = absurd (never_some h)
clause_sound bytes (t ∷ ts) n h = clause_turn bytes t ts (is_mark bytes t (codes ";")) n (λ m. clause_sound bytes ts m) refl h

or_left_false : (a b : Bool) → a || b ≡ false → a ≡ false
or_left_false true b h = h
or_left_false false b h = refl

or_right_false : (a b : Bool) → a || b ≡ false → b ≡ false
or_right_false true b h = absurd (never_both true refl h)
or_right_false false b h = h

pub clause_complete : (bytes : List ℕ) (run : List Token) (semicolon : Token) (rest : List Token) → list_any (λ t. is_mark bytes t (codes ";")) run ≡ false → IsMark bytes (codes ";") semicolon → clause_length bytes (run ++ semicolon ∷ rest) ≡ Some (length (run ++ semicolon ∷ []))
clause_complete bytes [] semicolon rest none ends = rw ends refl
clause_complete bytes (t ∷ ts) semicolon rest none ends =
    let here = or_left_false (is_mark bytes t (codes ";")) _ none in
    let more = clause_complete bytes ts semicolon rest (or_right_false (is_mark bytes t (codes ";")) _ none) ends in
    ap (λ g. cond g (Some 1) (one_more (clause_length bytes (ts ++ semicolon ∷ rest)))) here ∙ one_more_of _ _ more

pub clause_goes_on : (bytes : List ℕ) (t : Token) (ts : List Token) (m : ℕ) → is_mark bytes t (codes ";") ≡ false → clause_length bytes ts ≡ Some m → clause_length bytes (t ∷ ts) ≡ Some (suc m)
clause_goes_on bytes t ts m here more = ap (λ g. cond g (Some 1) (one_more (clause_length bytes ts))) here ∙ one_more_of _ _ more

pub clause_word_sound : (bytes : List ℕ) (t : Token) (ts : List Token) (n : ℕ) → is_mark bytes t (codes ";") ≡ false → clause_length bytes (t ∷ ts) ≡ Some n → (m : ℕ) × (clause_length bytes ts ≡ Some m) × (n ≡ suc m)
clause_word_sound bytes t ts n here h = one_more_sound (clause_length bytes ts) n (sym (ap (λ g. cond g (Some 1) (one_more (clause_length bytes ts))) here) ∙ h)

-- a member

pub member_sound : (bytes : List ℕ) (tokens : List Token) (n : ℕ) → member_length bytes tokens ≡ Some n → RunsToEnd bytes (take n tokens)
member_sound bytes tokens n h = record { ends = found.0; first = earlier }
  where
    found : EndsFrom bytes [] (take n tokens) × ((k : ℕ) → k < n → EndsFrom bytes [] (take k tokens) → ⊥)
    found = member_found bytes tokens n h

    earlier : (k : ℕ) → k < length (take n tokens) → EndsMember bytes (take k (take n tokens)) → ⊥
    earlier k less e =
        let within : k < n = omega (arith, length-take n tokens) in
        found.1 k within (subst (λ ts. EndsMember bytes ts) (take-take k n tokens (omega arith)) e)

cases_of : (a b : ℕ) → (a < b) ⊎ ((a ≡ b) ⊎ (b < a))
cases_of a b = grind arith

member_cases : (bytes : List ℕ) (run rest : List Token) (o : Option ℕ) → RunsToEnd bytes run → member_length bytes (run ++ rest) ≡ o → o ≡ Some (length run)
member_cases bytes run rest None r is = absurd (member_none bytes (run ++ rest) is (length run) (subst (λ ts. EndsMember bytes ts) (sym (take-append_seam run rest)) r.ends))
member_cases bytes run rest (Some n) r is = decide (cases_of n (length run))
  where
    found : EndsFrom bytes [] (take n (run ++ rest)) × ((k : ℕ) → k < n → EndsFrom bytes [] (take k (run ++ rest)) → ⊥)
    found = member_found bytes (run ++ rest) n is

    decide : (n < length run) ⊎ ((n ≡ length run) ⊎ (length run < n)) → Some n ≡ Some (length run)
    decide (inl less) = absurd (r.first n less (subst (λ ts. EndsMember bytes ts) (take-append-le n run rest (omega arith)) found.0))
    decide (inr (inl same)) = ap (λ (x : ℕ). Some x) same
    decide (inr (inr more)) = absurd (found.1 (length run) more (subst (λ ts. EndsMember bytes ts) (sym (take-append_seam run rest)) r.ends))

pub member_complete : (bytes : List ℕ) (run rest : List Token) → RunsToEnd bytes run → member_length bytes (run ++ rest) ≡ Some (length run)
member_complete bytes run rest r = member_cases bytes run rest (member_length bytes (run ++ rest)) r refl

-- a formula

-- a formula ends before these tokens, and none of its words with them
pub record StopsFormula (bytes : List ℕ) (rest : List Token) : Type 0 where
  pub ends : ends_formula bytes rest ≡ true
  pub no_colon : (t : Token) → begins_property bytes (t ∷ rest) ≡ false

alone : (bytes : List ℕ) (t : Token) (ts : List Token) → ends_formula bytes (t ∷ ts) ≡ false → ends_formula bytes (t ∷ []) ≡ false
alone bytes t ts h = or_of _ (or_left_false (is_mark bytes t (codes "@") || is_mark bytes t (codes "}")) _ h)
  where
    or_of : (a : Bool) → a ≡ false → a || false ≡ false
    or_of a h = rw h refl

-- the front of a formula that goes on so far
formula_turn : (bytes : List ℕ) (t : Token) (ts : List Token) (g : Bool) (n : ℕ) → ((m : ℕ) → formula_length bytes ts ≡ Some m → IsFormula bytes (take m ts)) → ends_formula bytes (t ∷ ts) ≡ g → cond g (Some 0) (one_more (formula_length bytes ts)) ≡ Some n → IsFormula bytes (take n (t ∷ ts))
formula_turn bytes t ts true n more g h = subst (λ k. IsFormula bytes (take k (t ∷ ts))) (same_some h) tt
formula_turn bytes t ts false n more g h =
    let p = one_more_sound (formula_length bytes ts) n h in
    subst (λ k. IsFormula bytes (take k (t ∷ ts))) (sym p.2) (shortened ts p.0 g (more p.0 p.1))
  where
    shortened : (us : List Token) (m : ℕ) → ends_formula bytes (t ∷ us) ≡ false → IsFormula bytes (take m us) → IsFormula bytes (t ∷ take m us)
    shortened us zero g f = (alone bytes t us g, tt)
    shortened [] (suc m) g f = (g, tt)
    shortened (u ∷ us) (suc m) g f = (g, f)

pub formula_sound : (bytes : List ℕ) (tokens : List Token) (n : ℕ) → formula_length bytes tokens ≡ Some n → IsFormula bytes (take n tokens)
formula_sound bytes [] n h = absurd (never_some h)
formula_sound bytes (t ∷ ts) n h = formula_turn bytes t ts (ends_formula bytes (t ∷ ts)) n (λ m. formula_sound bytes ts m) refl h

followed : (bytes : List ℕ) (t : Token) (ts rest : List Token) → StopsFormula bytes rest → ends_formula bytes (t ∷ ts) ≡ false → ends_formula bytes (t ∷ ts ++ rest) ≡ false
followed bytes t [] rest stop h = ap (λ b. is_mark bytes t (codes "@") || is_mark bytes t (codes "}") || b) (stop.no_colon t) ∙ h
followed bytes t (u ∷ ts) rest stop h = h

stopped : (bytes : List ℕ) (rest : List Token) → ends_formula bytes rest ≡ true → formula_length bytes rest ≡ Some 0
stopped bytes [] h = absurd (never_both false h refl)
stopped bytes (t ∷ ts) h = rw h refl

pub formula_complete : (bytes : List ℕ) (formula rest : List Token) → IsFormula bytes formula → StopsFormula bytes rest → formula_length bytes (formula ++ rest) ≡ Some (length formula)
formula_complete bytes [] rest f stop = stopped bytes rest stop.ends
formula_complete bytes (t ∷ ts) rest f stop =
    ap (λ g. cond g (Some 0) (one_more (formula_length bytes (ts ++ rest)))) (followed bytes t ts rest stop f.0) ∙ one_more_of _ _ (formula_complete bytes ts rest f.1 stop)

-- a parameter

-- the commas of a run are held, where these brackets are open before it
abbrev pub IsHeld : List ℕ → List Bracket → List Token → Type 0
IsHeld bytes stack run = (front behind : List Token) (comma : Token) → run ≡ front ++ comma ∷ behind → sign_of bytes comma ≡ Comma → AllowsComma (open_in_list bytes stack front)

pub record TakesParameter (bytes : List ℕ) (stack : List Bracket) (tokens : List Token) (n : ℕ) : Type 0 where
  pub front : List Token
  pub behind : Token
  pub rest : List Token
  pub split : tokens ≡ front ++ behind ∷ rest
  pub count : n ≡ length front
  pub balanced : open_in_list bytes stack front ≡ Some []
  pub held : IsHeld bytes stack front
  pub parts_here : parts [] (sign_of bytes behind) ≡ true

none_open : (stack : List Bracket) → is_none_open stack ≡ true → stack ≡ []
none_open [] h = refl
none_open (b ∷ bs) h = absurd (never_both false h refl)

-- a comma that doesn't part is held
not_parting : (stack : List Bracket) (sign : Sign) → parts stack sign ≡ false → sign ≡ Comma → hold_commas stack ≡ true
not_parting stack sign stays is = held_of (hold_commas stack) (sym (ap (parts stack) is) ∙ stays)
  where
    held_of : (b : Bool) → not b ≡ false → b ≡ true
    held_of true h = refl
    held_of false h = absurd (never_both true refl h)

no_tokens : {A : Type 0} (front behind : List Token) (comma : Token) → [] ≡ front ++ comma ∷ behind → A
no_tokens [] behind comma e = absurd (let h : [] ≡ comma ∷ behind = e in cc)
no_tokens (f ∷ front) behind comma e = absurd (let h : [] ≡ f ∷ (front ++ comma ∷ behind) = e in cc)

opened : (bytes : List ℕ) (stack inner : List Bracket) (t : Token) (ts : List Token) → after_sign stack (sign_of bytes t) ≡ Some inner → open_in_list bytes stack (t ∷ ts) ≡ open_in_list bytes inner ts
opened bytes stack inner t ts is = ap (option_and_then (λ next. open_in_list bytes next ts)) is

held_more : (bytes : List ℕ) (stack inner : List Bracket) (t : Token) (ts : List Token) → parts stack (sign_of bytes t) ≡ false → after_sign stack (sign_of bytes t) ≡ Some inner → IsHeld bytes inner ts → IsHeld bytes stack (t ∷ ts)
held_more bytes stack inner t ts stays is held [] behind comma e sign =
    let h : t ∷ ts ≡ comma ∷ behind = e in
    let same : t ≡ comma = cc in
    not_parting stack (sign_of bytes t) stays (ap (sign_of bytes) same ∙ sign)
held_more bytes stack inner t ts stays is held (f ∷ front) behind comma e sign =
    let h : t ∷ ts ≡ f ∷ (front ++ comma ∷ behind) = e in
    let same : t ≡ f = cc in
    let tail : ts ≡ front ++ comma ∷ behind = cc in
    subst AllowsComma (sym (opened bytes stack inner t front is) ∙ ap (λ x. open_in_list bytes stack (x ∷ front)) same) (held front behind comma tail sign)

parameter_more : (bytes : List ℕ) (stack inner : List Bracket) (t : Token) (ts : List Token) (m n : ℕ) → n ≡ suc m → parts stack (sign_of bytes t) ≡ false → after_sign stack (sign_of bytes t) ≡ Some inner → TakesParameter bytes inner ts m → TakesParameter bytes stack (t ∷ ts) n
parameter_more bytes stack inner t ts m n count stays is r = record {
  front = t ∷ r.front;
  behind = r.behind;
  rest = r.rest;
  split = ap (λ xs. t ∷ xs) r.split;
  count = count ∙ ap (λ (x : ℕ). suc x) r.count;
  balanced = opened bytes stack inner t r.front is ∙ r.balanced;
  held = held_more bytes stack inner t r.front stays is r.held;
  parts_here = r.parts_here;
}

parameter_opened : (bytes : List ℕ) (stack : List Bracket) (t : Token) (ts : List Token) (after : Option (List Bracket)) (n : ℕ) → ((inner : List Bracket) (m : ℕ) → parameter_rest bytes inner ts ≡ Some m → TakesParameter bytes inner ts m) → parts stack (sign_of bytes t) ≡ false → after_sign stack (sign_of bytes t) ≡ after → option_and_then (λ inner. one_more (parameter_rest bytes inner ts)) after ≡ Some n → TakesParameter bytes stack (t ∷ ts) n
parameter_opened bytes stack t ts None n more stays is h = absurd (never_some h)
parameter_opened bytes stack t ts (Some inner) n more stays is h =
    let p = one_more_sound (parameter_rest bytes inner ts) n h in
    parameter_more bytes stack inner t ts p.0 n p.2 stays is (more inner p.0 p.1)

parameter_ends : (bytes : List ℕ) (stack : List Bracket) (t : Token) (ts : List Token) (b : Bool) (n : ℕ) → parts stack (sign_of bytes t) ≡ true → is_none_open stack ≡ b → cond b (Some 0) None ≡ Some n → TakesParameter bytes stack (t ∷ ts) n
parameter_ends bytes stack t ts false n parting is h = absurd (never_some h)
parameter_ends bytes stack t ts true n parting is h =
    let e = none_open stack is in record {
      front = [];
      behind = t;
      rest = ts;
      split = refl;
      count = sym (same_some h);
      balanced = ap (λ (s : List Bracket). Some s) e;
      held = λ front behind comma. no_tokens front behind comma;
      parts_here = sym (ap (λ s. parts s (sign_of bytes t)) e) ∙ parting;
    }

parameter_turn : (bytes : List ℕ) (stack : List Bracket) (t : Token) (ts : List Token) (g : Bool) (n : ℕ) → ((inner : List Bracket) (m : ℕ) → parameter_rest bytes inner ts ≡ Some m → TakesParameter bytes inner ts m) → parts stack (sign_of bytes t) ≡ g → cond g (cond (is_none_open stack) (Some 0) None) (option_and_then (λ inner. one_more (parameter_rest bytes inner ts)) (after_sign stack (sign_of bytes t))) ≡ Some n → TakesParameter bytes stack (t ∷ ts) n
parameter_turn bytes stack t ts true n more g h = parameter_ends bytes stack t ts (is_none_open stack) n g refl h
parameter_turn bytes stack t ts false n more g h = parameter_opened bytes stack t ts (after_sign stack (sign_of bytes t)) n more g refl h

pub parameter_sound : (bytes : List ℕ) (tokens : List Token) (stack : List Bracket) (n : ℕ) → parameter_rest bytes stack tokens ≡ Some n → TakesParameter bytes stack tokens n
parameter_sound bytes [] stack n h = absurd (never_some h)
parameter_sound bytes (t ∷ ts) stack n h = parameter_turn bytes stack t ts (parts stack (sign_of bytes t)) n (λ inner m. parameter_sound bytes ts inner m) refl h

-- a token of a run doesn't part it, if the run is held and the brackets match
goes_on : (stack : List Bracket) (sign : Sign) (inner : List Bracket) → after_sign stack sign ≡ Some inner → (sign ≡ Comma → hold_commas stack ≡ true) → parts stack sign ≡ false
goes_on stack Comma inner is held = rw (held refl) refl
goes_on [] (Close Round) inner is held = absurd (never_some is)
goes_on (b ∷ bs) (Close Round) inner is held = refl
goes_on stack (Close Square) inner is held = refl
goes_on stack (Close Curly) inner is held = refl
goes_on stack (Close Angle) inner is held = refl
goes_on stack (Open b) inner is held = refl
goes_on stack Semicolon inner is held = refl
goes_on stack Plain inner is held = refl

held_behind : (bytes : List ℕ) (stack inner : List Bracket) (t : Token) (ts : List Token) → after_sign stack (sign_of bytes t) ≡ Some inner → IsHeld bytes stack (t ∷ ts) → IsHeld bytes inner ts
held_behind bytes stack inner t ts is held front behind comma e sign =
    subst AllowsComma (opened bytes stack inner t front is) (held (t ∷ front) behind comma (ap (λ xs. t ∷ xs) e) sign)

parameter_step : (bytes : List ℕ) (stack : List Bracket) (t : Token) (ts rest : List Token) (after : Option (List Bracket)) → ((inner : List Bracket) → open_in_list bytes inner ts ≡ Some [] → IsHeld bytes inner ts → parameter_rest bytes inner (ts ++ rest) ≡ Some (length ts)) → after_sign stack (sign_of bytes t) ≡ after → option_and_then (λ inner. open_in_list bytes inner ts) after ≡ Some [] → IsHeld bytes stack (t ∷ ts) → parameter_rest bytes stack (t ∷ ts ++ rest) ≡ Some (suc (length ts))
parameter_step bytes stack t ts rest None more is balanced held = absurd (never_some balanced)
parameter_step bytes stack t ts rest (Some inner) more is balanced held =
    let stays = goes_on stack (sign_of bytes t) inner is (λ comma. held [] ts t refl comma) in
    let r = more inner balanced (held_behind bytes stack inner t ts is held) in
    rw (stays, is) (one_more_of _ _ r)

pub parameter_complete : (bytes : List ℕ) (run : List Token) (stack : List Bracket) (t : Token) (rest : List Token) → open_in_list bytes stack run ≡ Some [] → IsHeld bytes stack run → parts [] (sign_of bytes t) ≡ true → parameter_rest bytes stack (run ++ t ∷ rest) ≡ Some (length run)
parameter_complete bytes [] stack t rest balanced held parting =
    let e : stack ≡ [] = same_some balanced in
    subst (λ s. parameter_rest bytes s (t ∷ rest) ≡ Some 0) (sym e) (rw parting refl)
parameter_complete bytes (r ∷ rs) stack t rest balanced held parting =
    parameter_step bytes stack r rs (t ∷ rest) (after_sign stack (sign_of bytes r)) (λ inner b h. parameter_complete bytes rs inner t rest b h parting) refl balanced held

-- a block

-- under a bracket everything is as without it
abbrev pub deeper : Bracket → Option (List Bracket) → Option (List Bracket)
deeper o stack = option_map (λ s. o ∷ s) stack

after_sign-deeper : (o : Bracket) (stack inner : List Bracket) (sign : Sign) → after_sign stack sign ≡ Some inner → after_sign (o ∷ stack) sign ≡ Some (o ∷ inner)
after_sign-deeper o stack inner (Open b) h = ap (deeper o) h
after_sign-deeper o [] inner (Close b) h = absurd (never_some h)
after_sign-deeper o (p ∷ ps) inner (Close b) h = ap (deeper o) h
after_sign-deeper o stack inner Comma h = ap (deeper o) h
after_sign-deeper o stack inner Semicolon h = ap (deeper o) h
after_sign-deeper o stack inner Plain h = ap (deeper o) h

pub open_after-deeper : (bytes : List ℕ) (o : Bracket) (run : List Token) (stack inner : List Bracket) → open_after bytes stack run ≡ Some inner → open_after bytes (o ∷ stack) run ≡ Some (o ∷ inner)
open_after-deeper bytes o [] stack inner h = ap (deeper o) h
open_after-deeper bytes o (t ∷ ts) stack inner h =
    let p = step_of (after_sign stack (member_sign bytes t)) (λ next. open_after bytes next ts) inner h in
    both_give (after_sign (o ∷ stack) (member_sign bytes t)) (λ next. open_after bytes next ts) (o ∷ p.0) _ (after_sign-deeper o stack p.0 (member_sign bytes t) p.1) (open_after-deeper bytes o ts p.0 inner p.2)

open_after-append : (bytes : List ℕ) (a b : List Token) (stack inner : List Bracket) → open_after bytes stack a ≡ Some inner → open_after bytes stack (a ++ b) ≡ open_after bytes inner b
open_after-append bytes [] b stack inner h = ap (λ s. open_after bytes s b) (same_some h)
open_after-append bytes (t ∷ ts) b stack inner h =
    let p = step_of (after_sign stack (member_sign bytes t)) (λ next. open_after bytes next ts) inner h in
    both_give (after_sign stack (member_sign bytes t)) (λ next. open_after bytes next (ts ++ b)) p.0 _ p.1 (open_after-append bytes ts b p.0 inner p.2)

-- brackets that match match over each front
open_front : (bytes : List ℕ) (run : List Token) (stack inner : List Bracket) (k : ℕ) → open_after bytes stack run ≡ Some inner → (s : List Bracket) × (open_after bytes stack (take k run) ≡ Some s)
open_front bytes run stack inner zero h = (stack, refl)
open_front bytes [] stack inner (suc k) h = (stack, refl)
open_front bytes (t ∷ ts) stack inner (suc k) h =
    let p = step_of (after_sign stack (member_sign bytes t)) (λ next. open_after bytes next ts) inner h in
    let r = open_front bytes ts p.0 inner k p.2 in
    (r.0, both_give (after_sign stack (member_sign bytes t)) (λ next. open_after bytes next (take k ts)) p.0 _ p.1 r.1)

may_end-last : (bytes : List ℕ) (run : List Token) (t : Token) → may_end_after bytes (run ++ t ∷ []) ≡ may_end (member_sign bytes t)
may_end-last bytes [] t = refl
may_end-last bytes (r ∷ []) t = refl
may_end-last bytes (r ∷ s ∷ rs) t = may_end-last bytes (s ∷ rs) t

member_of_mark : (bytes : List ℕ) (t : Token) (b : ℕ) → is_mark bytes t (b ∷ []) ≡ true → member_sign bytes t ≡ without_angles (sign_of_byte b)
member_of_mark bytes t b h = ap without_angles (mark_sign bytes t b h)

pub block_complete : (bytes : List ℕ) (opening : Token) (inside : List Token) (closing : Token) → IsMark bytes (codes "{") opening → open_after bytes [] inside ≡ Some [] → IsMark bytes (codes "}") closing → RunsToEnd bytes (opening ∷ inside ++ closing ∷ [])
block_complete bytes opening inside closing opens balanced closes = record { ends = record { closed = whole; ended = last }; first = earlier }
  where
    opened : after_sign [] (member_sign bytes opening) ≡ Some (Curly ∷ [])
    opened = ap (after_sign []) (member_of_mark bytes opening 123 opens)

    under : open_after bytes (Curly ∷ []) inside ≡ Some (Curly ∷ [])
    under = open_after-deeper bytes Curly inside [] [] balanced

    shut : open_after bytes (Curly ∷ []) (closing ∷ []) ≡ Some []
    shut = ap (λ sign. option_and_then (λ next. open_after bytes next []) (after_sign (Curly ∷ []) sign)) (member_of_mark bytes closing 125 closes)

    whole : open_after bytes [] (opening ∷ inside ++ closing ∷ []) ≡ Some []
    whole = both_give (after_sign [] (member_sign bytes opening)) (λ next. open_after bytes next (inside ++ closing ∷ [])) (Curly ∷ []) _ opened (open_after-append bytes inside (closing ∷ []) (Curly ∷ []) (Curly ∷ []) under ∙ shut)

    last : may_end_after bytes (opening ∷ inside ++ closing ∷ []) ≡ true
    last = may_end-last bytes (opening ∷ inside) closing ∙ ap may_end (member_of_mark bytes closing 125 closes)

    earlier : (k : ℕ) → k < length (opening ∷ inside ++ closing ∷ []) → EndsMember bytes (take k (opening ∷ inside ++ closing ∷ [])) → ⊥
    earlier zero less e = nothing_ends bytes [] e
    earlier (suc j) less e =
        let within : j ≤ length inside = omega (arith, length-append inside (closing ∷ [])) in
        let p = open_front bytes inside [] [] j balanced in
        let front : open_after bytes (Curly ∷ []) (take j inside) ≡ Some (Curly ∷ p.0) = open_after-deeper bytes Curly (take j inside) [] p.0 p.1 in
        let same : open_after bytes [] (opening ∷ take j (inside ++ closing ∷ [])) ≡ Some (Curly ∷ p.0) = both_give (after_sign [] (member_sign bytes opening)) (λ next. open_after bytes next (take j (inside ++ closing ∷ []))) (Curly ∷ []) _ opened (ap (open_after bytes (Curly ∷ [])) (take-append-le j inside (closing ∷ []) within) ∙ front) in
        let bad : Some (Curly ∷ p.0) ≡ Some [] = sym same ∙ e.closed in
        cc

-- a token below a curly bracket closes it, or leaves it open
abbrev Below : List Bracket → Sign → List Bracket → Type 0
Below stack sign inner = ((left : List Bracket) × (inner ≡ Curly ∷ left) × (after_sign stack sign ≡ Some left)) ⊎ ((stack ≡ []) × (inner ≡ []) × (sign ≡ Close Curly))

closes_curly : (b : Bracket) (inner : List Bracket) → cond (is_same Curly b) (Some []) None ≡ Some inner → Below [] (Close b) inner
closes_curly Curly inner h = inr (refl, sym (same_some h), refl)
closes_curly _ inner h = absurd (never_some h)

closes_inner : (stack : Option (List Bracket)) (inner : List Bracket) → deeper Curly stack ≡ Some inner → (left : List Bracket) × (inner ≡ Curly ∷ left) × (stack ≡ Some left)
closes_inner None inner h = absurd (never_some h)
closes_inner (Some left) inner h = (left, sym (same_some h), refl)

below : (stack : List Bracket) (sign : Sign) (inner : List Bracket) → after_sign (Curly ∷ stack) sign ≡ Some inner → Below stack sign inner
below stack (Open b) inner h = inl (stack ++ b ∷ [], sym (same_some h), refl)
below [] (Close b) inner h = closes_curly b inner h
below (p ∷ ps) (Close b) inner h = inl (closes_inner (closed b (p ∷ ps)) inner h)
below stack Comma inner h = inl (stack, sym (same_some h), refl)
below stack Semicolon inner h = inl (stack, sym (same_some h), refl)
below stack Plain inner h = inl (stack, sym (same_some h), refl)

pub record TakesBlock (bytes : List ℕ) (stack : List Bracket) (tokens : List Token) : Type 0 where
  pub inside : List Token
  pub closing : Token
  pub split : tokens ≡ inside ++ closing ∷ []
  pub balanced : open_after bytes stack inside ≡ Some []
  pub closes : member_sign bytes closing ≡ Close Curly

abbrev EndsFirst : List ℕ → List Bracket → List Token → Type 0
EndsFirst bytes stack tokens = (k : ℕ) → k < length tokens → EndsFrom bytes stack (take k tokens) → ⊥

block_closed : (bytes : List ℕ) (stack : List Bracket) (t : Token) (ts : List Token) → after_sign (Curly ∷ stack) (member_sign bytes t) ≡ Some [] → stack ≡ [] → member_sign bytes t ≡ Close Curly → EndsFirst bytes (Curly ∷ stack) (t ∷ ts) → TakesBlock bytes stack (t ∷ ts)
block_closed bytes stack t [] is none closes first = record { inside = []; closing = t; split = refl; balanced = ap (λ (s : List Bracket). Some s) none; closes = closes }
block_closed bytes stack t (u ∷ us) is none closes first =
    let e : EndsFrom bytes (Curly ∷ stack) (t ∷ []) = record { closed = behind bytes (Curly ∷ stack) [] t [] is; ended = ap may_end closes } in
    absurd (first 1 (omega arith) e)

block_goes : (bytes : List ℕ) (stack left : List Bracket) (t : Token) (ts : List Token) → after_sign stack (member_sign bytes t) ≡ Some left → TakesBlock bytes left ts → TakesBlock bytes stack (t ∷ ts)
block_goes bytes stack left t ts is r = record {
  inside = t ∷ r.inside;
  closing = r.closing;
  split = ap (λ xs. t ∷ xs) r.split;
  balanced = behind bytes stack left t r.inside is ∙ r.balanced;
  closes = r.closes;
}

first_behind : (bytes : List ℕ) (stack inner : List Bracket) (t : Token) (ts : List Token) → after_sign stack (member_sign bytes t) ≡ Some inner → EndsFirst bytes stack (t ∷ ts) → EndsFirst bytes inner ts
first_behind bytes stack inner t ts is first k less e =
    first (suc k) (omega arith) (record { closed = behind bytes stack inner t (take k ts) is ∙ e.closed; ended = longer_end bytes t (take k ts) e.ended })

block_decide : (bytes : List ℕ) (ts : List Token) (t : Token) (stack inner : List Bracket) → ((left : List Bracket) → open_after bytes (Curly ∷ left) ts ≡ Some [] → EndsFirst bytes (Curly ∷ left) ts → TakesBlock bytes left ts) → after_sign (Curly ∷ stack) (member_sign bytes t) ≡ Some inner → open_after bytes inner ts ≡ Some [] → EndsFirst bytes (Curly ∷ stack) (t ∷ ts) → Below stack (member_sign bytes t) inner → TakesBlock bytes stack (t ∷ ts)
block_decide bytes ts t stack inner more is h first (inl b) =
    let under : after_sign (Curly ∷ stack) (member_sign bytes t) ≡ Some (Curly ∷ b.0) = is ∙ ap (λ (s : List Bracket). Some s) b.1 in
    block_goes bytes stack b.0 t ts b.2 (more b.0 (ap (λ s. open_after bytes s ts) (sym b.1) ∙ h) (first_behind bytes (Curly ∷ stack) (Curly ∷ b.0) t ts under first))
block_decide bytes ts t stack inner more is h first (inr b) = block_closed bytes stack t ts (is ∙ ap (λ (s : List Bracket). Some s) b.1) b.0 b.2 first

block_inside : (bytes : List ℕ) (ts : List Token) (stack : List Bracket) → open_after bytes (Curly ∷ stack) ts ≡ Some [] → EndsFirst bytes (Curly ∷ stack) ts → TakesBlock bytes stack ts
block_inside bytes [] stack h first = absurd (let e : Some (Curly ∷ stack) ≡ Some [] = h in cc)
block_inside bytes (t ∷ ts) stack h first =
    let p = step_of (after_sign (Curly ∷ stack) (member_sign bytes t)) (λ next. open_after bytes next ts) [] h in
    block_decide bytes ts t stack p.0 (λ left. block_inside bytes ts left) p.1 p.2 first (below stack (member_sign bytes t) p.0 p.1)

curly_sign : (sign : Sign) → without_angles sign ≡ Close Curly → sign ≡ Close Curly
curly_sign (Open Angle) h = absurd (let e : Plain ≡ Close Curly = h in cc)
curly_sign (Close Angle) h = absurd (let e : Plain ≡ Close Curly = h in cc)
curly_sign _ h = h

-- what a run that begins with a block spells
pub record IsBlock (bytes : List ℕ) (more : List Token) : Type 0 where
  pub inside : List Token
  pub closing : Token
  pub split : more ≡ inside ++ closing ∷ []
  pub balanced : open_after bytes [] inside ≡ Some []
  pub closes : IsMark bytes (codes "}") closing

pub block_sound : (bytes : List ℕ) (opening : Token) (more : List Token) → IsMark bytes (codes "{") opening → RunsToEnd bytes (opening ∷ more) → IsBlock bytes more
block_sound bytes opening more opens r = record { inside = b.inside; closing = b.closing; split = b.split; balanced = b.balanced; closes = curly_mark bytes b.closing (curly_sign (sign_of bytes b.closing) b.closes) }
  where
    opened : after_sign [] (member_sign bytes opening) ≡ Some (Curly ∷ [])
    opened = ap (after_sign []) (member_of_mark bytes opening 123 opens)

    b : TakesBlock bytes [] more
    b = block_inside bytes more [] (sym (behind bytes [] (Curly ∷ []) opening more opened) ∙ r.ends.closed) (first_behind bytes [] (Curly ∷ []) opening more opened r.first)

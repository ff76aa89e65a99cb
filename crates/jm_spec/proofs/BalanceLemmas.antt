-- A member is the shortest front that is balanced and ends as a member does.
use Rattle.std.proofs.Common.{◌≡◌, ℕ, zero, suc, ◌+◌, ◌<◌, Bool, true, false, cond, List, [], ◌∷◌, take, Option, Some, None, refl, sym, ap, ◌∙◌, subst, arith}
use Rattle.std.specs.Prelude.{option_and_then}
use Rattle.jm_text.specs.declared.token.Token.{Token}
use Rattle.jm_spec.specs.declared.brackets.Bracket.{Bracket}
use Rattle.jm_spec.specs.declared.brackets.Sign.{Sign}
use Rattle.jm_spec.specs.Brackets.{after_sign}
use Rattle.jm_spec.specs.Runs.{one_more, may_end, ends_member, member_behind, member_rest}
use Rattle.jm_spec.specs.Balance.{member_sign, open_after, may_end_after, EndsFrom}

not_both : (b : Bool) → b ≡ true → b ≡ false → ⊥
not_both b h k = cc

pub nothing_ends : (bytes : List ℕ) (stack : List Bracket) → EndsFrom bytes stack [] → ⊥
nothing_ends bytes stack e = let h : false ≡ true = e.ended in cc

-- what ends a member leaves no bracket open
none_open : (stack : List Bracket) (sign : Sign) → ends_member stack sign ≡ true → (stack ≡ []) × (may_end sign ≡ true)
none_open [] sign h = (refl, h)
none_open (b ∷ bs) sign h = absurd (not_both false h refl)

pub longer_end : (bytes : List ℕ) (t : Token) (ts : List Token) → may_end_after bytes ts ≡ true → may_end_after bytes (t ∷ ts) ≡ true
longer_end bytes t [] h = absurd (not_both false h refl)
longer_end bytes t (u ∷ ts) h = h

-- the run after the first token ends too, unless the first token ends it
shorter : (bytes : List ℕ) (inner : List Bracket) (t : Token) (run : List Token) → ends_member inner (member_sign bytes t) ≡ false → open_after bytes inner run ≡ Some [] → may_end_after bytes (t ∷ run) ≡ true → EndsFrom bytes inner run
shorter bytes [] t [] goes_on closed ended = absurd (not_both _ ended goes_on)
shorter bytes (b ∷ bs) t [] goes_on closed ended = absurd (let h : Some (b ∷ bs) ≡ Some [] = closed in cc)
shorter bytes inner t (u ∷ run) goes_on closed ended = record { closed = closed; ended = ended }

-- the brackets after the first token
pub behind : (bytes : List ℕ) (stack inner : List Bracket) (t : Token) (run : List Token) → after_sign stack (member_sign bytes t) ≡ Some inner → open_after bytes stack (t ∷ run) ≡ open_after bytes inner run
behind bytes stack inner t run is = ap (option_and_then (λ next. open_after bytes next run)) is

unmatched : (bytes : List ℕ) (stack : List Bracket) (t : Token) (run : List Token) → after_sign stack (member_sign bytes t) ≡ None → EndsFrom bytes stack (t ∷ run) → ⊥
unmatched bytes stack t run is e = let h : None ≡ Some [] = sym (ap (option_and_then (λ next. open_after bytes next run)) is) ∙ e.closed in cc

-- a front of so many tokens ends, and no shorter one does
abbrev IsFirstEnd : List ℕ → List Bracket → List Token → ℕ → Type 0
IsFirstEnd bytes stack tokens n = EndsFrom bytes stack (take n tokens) × ((k : ℕ) → k < n → EndsFrom bytes stack (take k tokens) → ⊥)

abbrev NeverEnds : List ℕ → List Bracket → List Token → Type 0
NeverEnds bytes stack tokens = (k : ℕ) → EndsFrom bytes stack (take k tokens) → ⊥

-- what a scan says
abbrev Says : List ℕ → List Bracket → List Token → Option ℕ → Type 0
Says bytes stack tokens (Some n) = IsFirstEnd bytes stack tokens n
Says bytes stack tokens None = NeverEnds bytes stack tokens

first_ends : (bytes : List ℕ) (stack inner : List Bracket) (t : Token) (ts : List Token) → after_sign stack (member_sign bytes t) ≡ Some inner → (inner ≡ []) × (may_end (member_sign bytes t) ≡ true) → IsFirstEnd bytes stack (t ∷ ts) 1
first_ends bytes stack inner t ts is ends =
    (record { closed = behind bytes stack inner t [] is ∙ ap Some ends.0; ended = ends.1 }, only_one)
  where
    only_one : (k : ℕ) → k < 1 → EndsFrom bytes stack (take k (t ∷ ts)) → ⊥
    only_one zero less e = nothing_ends bytes stack e
    only_one (suc k) less e = absurd (omega arith)

earlier : (bytes : List ℕ) (stack inner : List Bracket) (t : Token) (ts : List Token) → after_sign stack (member_sign bytes t) ≡ Some inner → ends_member inner (member_sign bytes t) ≡ false → (j : ℕ) → EndsFrom bytes stack (t ∷ take j ts) → EndsFrom bytes inner (take j ts)
earlier bytes stack inner t ts is goes_on j e = shorter bytes inner t (take j ts) goes_on (sym (behind bytes stack inner t (take j ts) is) ∙ e.closed) e.ended

later_says : (bytes : List ℕ) (stack inner : List Bracket) (t : Token) (ts : List Token) (n : Option ℕ) → after_sign stack (member_sign bytes t) ≡ Some inner → ends_member inner (member_sign bytes t) ≡ false → Says bytes inner ts n → Says bytes stack (t ∷ ts) (one_more n)
later_says bytes stack inner t ts None is goes_on says = never
  where
    never : (k : ℕ) → EndsFrom bytes stack (take k (t ∷ ts)) → ⊥
    never zero e = nothing_ends bytes stack e
    never (suc j) e = says j (earlier bytes stack inner t ts is goes_on j e)
later_says bytes stack inner t ts (Some m) is goes_on says =
    let same : suc m ≡ m + 1 = omega arith in
    subst (λ n. IsFirstEnd bytes stack (t ∷ ts) n) same
    (record { closed = behind bytes stack inner t (take m ts) is ∙ says.0.closed; ended = longer_end bytes t (take m ts) says.0.ended }, never)
  where
    never : (k : ℕ) → k < suc m → EndsFrom bytes stack (take k (t ∷ ts)) → ⊥
    never zero less e = nothing_ends bytes stack e
    never (suc j) less e = says.1 j (omega arith) (earlier bytes stack inner t ts is goes_on j e)

turn_says : (bytes : List ℕ) (stack inner : List Bracket) (t : Token) (ts : List Token) (ends : Bool) (n : Option ℕ) → after_sign stack (member_sign bytes t) ≡ Some inner → ends_member inner (member_sign bytes t) ≡ ends → Says bytes inner ts n → Says bytes stack (t ∷ ts) (cond ends (Some 1) (one_more n))
turn_says bytes stack inner t ts true n is ends says = first_ends bytes stack inner t ts is (none_open inner (member_sign bytes t) ends)
turn_says bytes stack inner t ts false n is ends says = later_says bytes stack inner t ts n is ends says

step_says : (bytes : List ℕ) (stack : List Bracket) (t : Token) (ts : List Token) (after : Option (List Bracket)) → after_sign stack (member_sign bytes t) ≡ after → ((inner : List Bracket) → Says bytes inner ts (member_rest bytes inner ts)) → Says bytes stack (t ∷ ts) (member_behind (member_sign bytes t) after (λ inner. member_rest bytes inner ts))
step_says bytes stack t ts None is says = never
  where
    never : (k : ℕ) → EndsFrom bytes stack (take k (t ∷ ts)) → ⊥
    never zero e = nothing_ends bytes stack e
    never (suc j) e = unmatched bytes stack t (take j ts) is e
step_says bytes stack t ts (Some inner) is says = turn_says bytes stack inner t ts (ends_member inner (member_sign bytes t)) (member_rest bytes inner ts) is refl (says inner)

rest_says : (bytes : List ℕ) (tokens : List Token) (stack : List Bracket) → Says bytes stack tokens (member_rest bytes stack tokens)
rest_says bytes [] stack = never
  where
    never : (k : ℕ) → EndsFrom bytes stack (take k []) → ⊥
    never zero e = nothing_ends bytes stack e
    never (suc j) e = nothing_ends bytes stack e
rest_says bytes (t ∷ ts) stack = step_says bytes stack t ts (after_sign stack (member_sign bytes t)) refl (λ inner. rest_says bytes ts inner)

says_some : (bytes : List ℕ) (tokens : List Token) (read : Option ℕ) (n : ℕ) → Says bytes [] tokens read → read ≡ Some n → IsFirstEnd bytes [] tokens n
says_some bytes tokens read n says is = subst (Says bytes [] tokens) is says

says_none : (bytes : List ℕ) (tokens : List Token) (read : Option ℕ) → Says bytes [] tokens read → read ≡ None → NeverEnds bytes [] tokens
says_none bytes tokens read says is = subst (Says bytes [] tokens) is says

pub member_found : (bytes : List ℕ) (tokens : List Token) (n : ℕ) → member_rest bytes [] tokens ≡ Some n → EndsFrom bytes [] (take n tokens) × ((k : ℕ) → k < n → EndsFrom bytes [] (take k tokens) → ⊥)
member_found bytes tokens n is = says_some bytes tokens _ n (rest_says bytes tokens []) is

pub member_none : (bytes : List ℕ) (tokens : List Token) → member_rest bytes [] tokens ≡ None → (k : ℕ) → EndsFrom bytes [] (take k tokens) → ⊥
member_none bytes tokens is = says_none bytes tokens _ (rest_says bytes tokens []) is

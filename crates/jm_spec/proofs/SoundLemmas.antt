-- What the rules read is spelled so.
use Rattle.std.proofs.Common.{◌≡◌, ◌≢◌, ℕ, suc, ◌+◌, ◌-◌, ◌≤◌, Bool, true, false, cond, List, [], ◌∷◌, ◌++◌, length, take, drop, Option, Some, None, ◌⊎◌, inl, inr, refl, sym, ap, ◌∙◌, subst, arith, append_assoc, append-nil, length-append}
use Rattle.std.proofs.Math.Seq.{take-append_seam, drop-append_seam}
use Rattle.std.specs.Prelude.{not, ◌&&◌, ◌||◌, nat_lt, codes, slice_get, option_and_then}
use Rattle.jm_text.specs.declared.token.Token.{Token}
use Rattle.jm_text.specs.Texts.{is_mark, is_word, is_name, is_word_kind}
use Rattle.std.specs.Option.{option_map_or}
use Rattle.std.proofs.lemmas.Bool.Decides.{nat_tests}
use Rattle.jm_spec.specs.declared.brackets.Bracket.{Bracket}
use Rattle.jm_spec.specs.Brackets.{sign_of, after_sign}
use Rattle.jm_spec.specs.declared.head.Modifier.{Modifier}
use Rattle.jm_spec.specs.declared.events.Advice.{Advice}
use Rattle.jm_spec.specs.declared.events.Advice.TheVariants.{Known, Other}
use Rattle.jm_spec.specs.declared.events.Mention.{Mention}
use Rattle.jm_spec.specs.declared.property.HandlerText.{HandlerText}
use Rattle.jm_spec.specs.declared.property.Property.{Property}
use Rattle.jm_spec.specs.declared.frame.Frame.{Frame}
use Rattle.jm_spec.specs.Runs.{clause_length, member_length, parameter_length, begins_property, formula_length}
use Rattle.jm_reading.specs.Reading.{◌>>=◌, is_mark_at, is_word_at, is_name_at, mark_at, name_at}
use Rattle.jm_reading.specs.Taking.{folded_at}
use Rattle.jm_spec.specs.Reading.{place, any_word_at, passed}
use Rattle.jm_spec.specs.Rules.{begins_clause, clause_at, clauses_at, more_word_at, begins_more_word, more_words_at, modifier_of, modifier_at, begins_modifier, modifiers_at, named_at, param_at, more_param_at, begins_more_param, more_params_at, params_at, list_at, run_at, pointcut_at, before_at, optional_list_at, outcome_at, after_at, other_at, advice_at, creation_at, begins_event, event_at, member_at, begins_member, members_at, block_at, handler_at, begins_handler, handlers_at, property_at, goes_on, properties_at, at_end, frame_at, frame_of}
use Rattle.jm_spec.specs.Balance.{open_after}
use Rattle.jm_reading.specs.Tokens.{IsMark, IsWord, IsName}
use Rattle.jm_spec.specs.Spelling.{IsAnyWord, Repeats, Spelled, SpelledAnywhere, BeginsClause, SpellsClause, clause, SpellsMoreWord, more_word, SpellsModifier, modifier, open_in_list, IsType, SpellsParam, param, SpellsMoreParam, more_param, SpellsParams, no_params, some_params, SpellsList, list, RunsToEnd, SpellsOutcome, missing, alone, with_list, BeginsOther, SpellsAdvice, before, after, other, SpellsEvent, event, creation_event, SpellsMember, declaration, an_event, SpellsHandler, handler, SpellsProperty, property, BeginsNoClause, SpellsHead, head, SpellsBody, body, Spells, file}
use Rattle.jm_reading.proofs.TokenLemmas.{mark_read, name_read, step_of}
use Rattle.jm_spec.proofs.TokenLemmas.{never_both, and_left, and_right, no_mark, no_other_word, word_kind, name_kind, word_sign}
use Rattle.jm_spec.proofs.RepeatLemmas.{never_some, same_some, both_give, Fronts, Adds, steps_sound, items_sound}
use Rattle.jm_spec.proofs.BalanceLemmas.{nothing_ends}
use Rattle.jm_spec.proofs.EndLemmas.{passed_sound, clause_sound, clause_word_sound, member_sound, formula_sound, IsHeld, TakesParameter, parameter_sound, block_sound}

-- one token and the rest
pub word_sound : (tokens rest : List Token) → any_word_at tokens ≡ Some rest → (t : Token) × (tokens ≡ t ∷ rest) × IsAnyWord t
unfolding any_word_at
word_sound [] rest h = absurd (never_some h)
word_sound (t ∷ ts) rest h = found (is_word_kind t.kind) refl h
  where
    found : (g : Bool) → is_word_kind t.kind ≡ g → cond g (Some ts) None ≡ Some rest → (u : Token) × (t ∷ ts ≡ u ∷ rest) × IsAnyWord u
    found true g h = (t, ap (λ r. t ∷ r) (same_some h), g)
    found false g h = absurd (never_some h)

either : (a b : Bool) → a || b ≡ true → (a ≡ true) ⊎ (b ≡ true)
either true b h = inl refl
either false b h = inr h

-- the clauses
clause_begins : (bytes : List ℕ) (t : Token) → BeginsClause bytes t → is_mark bytes t (codes ";") ≡ false
clause_begins bytes t (inl h) = no_mark bytes t (codes ";") (word_kind bytes t (codes "package") h)
clause_begins bytes t (inr h) = no_mark bytes t (codes ";") (word_kind bytes t (codes "import") h)

clause_is : (bytes : List ℕ) (tokens rest : List Token) → begins_clause bytes tokens ≡ true → clause_at bytes tokens ≡ Some rest → Fronts (SpellsClause bytes) tokens rest
unfolding clause_at
clause_is bytes [] rest begins h = absurd (never_both false begins refl)
clause_is bytes (t ∷ ts) rest begins h =
    let b = either (is_word bytes t (codes "package")) _ begins in
    let p = passed_sound (t ∷ ts) (clause_length bytes (t ∷ ts)) rest h in
    let q = clause_word_sound bytes t ts p.0 (clause_begins bytes t b) p.1 in
    let c = clause_sound bytes ts q.0 q.1 in
    let whole : take p.0 (t ∷ ts) ≡ t ∷ c.run ++ c.semicolon ∷ [] = ap (λ k. take k (t ∷ ts)) q.2 ∙ ap (λ xs. t ∷ xs) c.split in
    record { front = t ∷ c.run ++ c.semicolon ∷ []; split = p.2 ∙ ap (λ xs. xs ++ rest) whole; said = clause t c.run c.semicolon b c.none c.ends }

clauses_are : (bytes : List ℕ) (tokens rest : List Token) (u : Unit {0}) → clauses_at bytes tokens ≡ Some (u, rest) → Fronts (Repeats (SpellsClause bytes)) tokens rest × (begins_clause bytes rest ≡ false)
unfolding folded_at
clauses_are bytes tokens rest u h = steps_sound (SpellsClause bytes) (begins_clause bytes) (clause_at bytes) (λ ts r. clause_is bytes ts r) (length tokens) tokens rest tt u h

-- the modifiers
more_word_is : (bytes : List ℕ) (tokens rest : List Token) → more_word_at bytes tokens ≡ Some rest → Fronts (SpellsMoreWord bytes) tokens rest
unfolding more_word_at
more_word_is bytes tokens rest h =
    let p = step_of (mark_at bytes (codes "-") tokens) any_word_at rest h in
    let m = mark_read bytes (codes "-") tokens p.0 p.1 in
    let w = word_sound p.0 rest p.2 in
    record { front = m.token ∷ w.0 ∷ []; split = m.cut ∙ ap (λ r. m.token ∷ r) w.1; said = more_word m.token w.0 m.is w.2 }

more_words_are : (bytes : List ℕ) (tokens rest : List Token) (u : Unit {0}) → more_words_at bytes tokens ≡ Some (u, rest) → Fronts (Repeats (SpellsMoreWord bytes)) tokens rest
unfolding folded_at
more_words_are bytes tokens rest u h = (steps_sound (SpellsMoreWord bytes) (begins_more_word bytes) (more_word_at bytes) (λ ts r _. more_word_is bytes ts r) (length tokens) tokens rest tt u h).0

regrouped : (a b c d rest : List Token) → (a ++ b ++ c ++ d) ++ rest ≡ a ++ (b ++ (c ++ (d ++ rest)))
regrouped a b c d rest = simp append_assoc

front_of : (tokens front rest : List Token) → tokens ≡ front ++ rest → take (length tokens - length rest) tokens ≡ front
front_of tokens front rest split =
    let n : length tokens - length rest ≡ length front = omega (arith, ap length split, length-append front rest) in
    (λ i. take (n i) (split i)) ∙ take-append_seam front rest

modifier_is : (bytes : List ℕ) (ms : List Modifier) (tokens : List Token) (out : List Modifier) (rest : List Token) → modifier_at ms bytes tokens ≡ Some (out, rest) → Adds (SpellsModifier bytes) tokens ms out rest
unfolding modifier_at
modifier_is bytes ms tokens out rest h =
    let p = step_of (any_word_at tokens) _ (out, rest) h in
    let q = step_of (more_words_at bytes p.0) _ (out, rest) p.2 in
    let w = word_sound tokens p.0 p.1 in
    let m = more_words_are bytes p.0 q.0.1 q.0.0 q.1 in
    let e = same_some q.2 in
    let split : tokens ≡ (w.0 ∷ m.front) ++ q.0.1 = w.1 ∙ ap (λ r. w.0 ∷ r) m.split in
    record {
      front = w.0 ∷ m.front;
      values = modifier_of bytes (w.0 ∷ m.front) ∷ [];
      split = split ∙ ap (λ x. (w.0 ∷ m.front) ++ x.1) e;
      all = sym (ap (λ x. x.0) e) ∙ ap (λ ts. ms ++ modifier_of bytes ts ∷ []) (front_of tokens (w.0 ∷ m.front) q.0.1 split);
      said = modifier w.0 m.front w.2 m.said;
    }

modifiers_are : (bytes : List ℕ) (tokens : List Token) (out : List Modifier) (rest : List Token) → modifiers_at bytes tokens ≡ Some (out, rest) → Adds (SpelledAnywhere (SpellsModifier bytes)) tokens [] out rest
unfolding folded_at
modifiers_are bytes tokens out rest h =
    (items_sound (length tokens) (λ _. SpellsModifier bytes) (begins_modifier bytes) (λ x. modifier_at x bytes) (λ at xs ts ys r _ _. modifier_is bytes xs ts ys r) (length tokens) 0 [] tokens out rest (omega arith) h).0

-- lists of parameters
record HasLast (front : List Token) : Type 0 where
  before : List Token
  last : Token
  split : front ≡ before ++ last ∷ []

last_of : (t : Token) (ts : List Token) → HasLast (t ∷ ts)
last_of t [] = record { before = []; last = t; split = refl }
last_of t (u ∷ us) = let r = last_of u us in record { before = t ∷ r.before; last = r.last; split = ap (λ xs. t ∷ xs) r.split }

got : (a : List Token) (t : Token) (b : List Token) → slice_get (a ++ t ∷ b) (length a) ≡ Some t
got [] t b = refl
got (x ∷ a) t b = got a t b

open_parts : (bytes : List ℕ) (a b : List Token) (stack : List Bracket) (inner : List Bracket) → open_in_list bytes stack (a ++ b) ≡ Some inner → (s : List Bracket) × (open_in_list bytes stack a ≡ Some s) × (open_in_list bytes s b ≡ Some inner)
open_parts bytes [] b stack inner h = (stack, refl, h)
open_parts bytes (t ∷ a) b stack inner h =
    let p = step_of (after_sign stack (sign_of bytes t)) (λ next. open_in_list bytes next (a ++ b)) inner h in
    let r = open_parts bytes a b p.0 inner p.2 in
    (r.0, both_give (after_sign stack (sign_of bytes t)) (λ next. open_in_list bytes next a) p.0 _ p.1 r.1, r.2)

type_of : (bytes : List ℕ) (type : List Token) (name : Token) → IsName bytes name → type ≢ [] → open_in_list bytes [] (type ++ name ∷ []) ≡ Some [] → IsHeld bytes [] (type ++ name ∷ []) → IsType bytes type
type_of bytes type name is_name filled balanced held =
    let p = open_parts bytes type (name ∷ []) [] [] balanced in
    let plain = word_sign bytes name (name_kind bytes name is_name) in
    let same : Some p.0 ≡ Some [] = sym (ap (λ sign. option_and_then (λ next. open_in_list bytes next []) (after_sign p.0 sign)) plain) ∙ p.2 in
    record {
      filled = filled;
      balanced = p.1 ∙ same;
      held = λ front behind comma split sign. held front (behind ++ name ∷ []) comma (ap (λ xs. xs ++ name ∷ []) split ∙ append_assoc front (comma ∷ behind) (name ∷ [])) sign;
    }

named_if : (short unnamed : Bool) (o out : Option (List Token × List Token)) → cond {A = Option (List Token × List Token)} (short || not unnamed) None o ≡ out → (r : List Token × List Token) → out ≡ Some r → (short ≡ false) × (unnamed ≡ true) × (o ≡ Some r)
named_if true unnamed o out h r is = absurd (never_some (h ∙ is))
named_if false false o out h r is = absurd (never_some (h ∙ is))
named_if false true o out h r is = (refl, refl, h ∙ is)

not_less : (n : ℕ) → nat_lt n 2 ≡ false → 2 ≤ n
not_less n h = grind (arith, nat_tests)

param_named : (bytes : List ℕ) (names front : List Token) (behind : Token) (rest' out rest : List Token) → 2 ≤ length front → open_in_list bytes [] front ≡ Some [] → IsHeld bytes [] front → is_name_at bytes (front ++ behind ∷ rest') (length front - 1) ≡ true → option_and_then {U = List Token × List Token} (λ t. Some (names ++ t ∷ [], drop (length front) (front ++ behind ∷ rest'))) (slice_get (front ++ behind ∷ rest') (length front - 1)) ≡ Some (out, rest) → Adds (SpellsParam bytes) (front ++ behind ∷ rest') names out rest
param_named bytes names [] behind rest' out rest enough balanced held named h = absurd (omega arith)
param_named bytes names (t ∷ ts) behind rest' out rest enough balanced held named h = given (last_of t ts)
  where
    given : HasLast (t ∷ ts) → Adds (SpellsParam bytes) (t ∷ ts ++ behind ∷ rest') names out rest
    given l =
        let whole : t ∷ ts ++ behind ∷ rest' ≡ l.before ++ l.last ∷ behind ∷ rest' = ap (λ xs. xs ++ behind ∷ rest') l.split ∙ append_assoc l.before (l.last ∷ []) (behind ∷ rest') in
        let count : length (t ∷ ts) - 1 ≡ length l.before = omega (arith, ap length l.split, length-append l.before (l.last ∷ [])) in
        let here : slice_get (t ∷ ts ++ behind ∷ rest') (length (t ∷ ts) - 1) ≡ Some l.last = (λ i. slice_get (whole i) (count i)) ∙ got l.before l.last (behind ∷ rest') in
        let is_name : IsName bytes l.last = sym (ap (λ o. option_map_or (λ t. is_name bytes t) o false) here) ∙ named in
        let filled : l.before ≢ [] = λ none. (let e : length l.before ≡ 0 = ap length none in absurd (omega arith)) in
        let e = same_some (sym (ap (option_and_then {U = List Token × List Token} (λ t. Some (names ++ t ∷ [], drop (length (t ∷ ts)) (t ∷ ts ++ behind ∷ rest')))) here) ∙ h) in
        record {
          front = t ∷ ts;
          values = l.last ∷ [];
          split = ap (λ r. t ∷ ts ++ r) (sym (drop-append_seam (t ∷ ts) (behind ∷ rest')) ∙ ap (λ x. x.1) e);
          all = sym (ap (λ x. x.0) e);
          said = subst (λ xs. SpellsParam bytes xs (l.last ∷ [])) (sym l.split) (param l.before l.last (type_of bytes l.before l.last is_name filled (ap (open_in_list bytes []) (sym l.split) ∙ balanced) (subst (IsHeld bytes []) l.split held)) is_name);
        }

param_is : (bytes : List ℕ) (names tokens out rest : List Token) → param_at names bytes tokens ≡ Some (out, rest) → Adds (SpellsParam bytes) tokens names out rest
unfolding param_at
param_is bytes names tokens out rest h = given (parameter_sound bytes tokens [] p.0 p.1)
  where
    p : (n : ℕ) × (parameter_length bytes tokens ≡ Some n) × (named_at names bytes tokens n ≡ Some (out, rest))
    p = step_of (parameter_length bytes tokens) (named_at names bytes tokens) (out, rest) h

    given : TakesParameter bytes [] tokens p.0 → Adds (SpellsParam bytes) tokens names out rest
    given r =
        let read : named_at names bytes (r.front ++ r.behind ∷ r.rest) (length r.front) ≡ Some (out, rest) = (λ i. named_at names bytes (sym r.split i) (sym r.count i)) ∙ p.2 in
        let q = named_if (nat_lt (length r.front) 2) (is_name_at bytes (r.front ++ r.behind ∷ r.rest) (length r.front - 1)) _ _ read (out, rest) refl in
        subst (λ ts. Adds (SpellsParam bytes) ts names out rest) (sym r.split) (param_named bytes names r.front r.behind r.rest out rest (not_less (length r.front) q.0) r.balanced r.held q.1 q.2)

more_param_is : (bytes : List ℕ) (names tokens out rest : List Token) → more_param_at names bytes tokens ≡ Some (out, rest) → Adds (SpellsMoreParam bytes) tokens names out rest
unfolding more_param_at
more_param_is bytes names tokens out rest h =
    let p = step_of (mark_at bytes (codes ",") tokens) (param_at names bytes) (out, rest) h in
    let m = mark_read bytes (codes ",") tokens p.0 p.1 in
    let r = param_is bytes names p.0 out rest p.2 in
    record { front = m.token ∷ r.front; values = r.values; split = m.cut ∙ ap (λ xs. m.token ∷ xs) r.split; all = r.all; said = more_param m.token r.front r.values m.is r.said }

more_params_are : (bytes : List ℕ) (names tokens out rest : List Token) → more_params_at names bytes tokens ≡ Some (out, rest) → Adds (SpelledAnywhere (SpellsMoreParam bytes)) tokens names out rest
unfolding folded_at
more_params_are bytes names tokens out rest h =
    (items_sound (length tokens) (λ _. SpellsMoreParam bytes) (begins_more_param bytes) (λ x. more_param_at x bytes) (λ at xs ts ys r _ _. more_param_is bytes xs ts ys r) (length tokens) 0 names tokens out rest (omega arith) h).0

some_are : (bytes : List ℕ) (names tokens out rest : List Token) → (param_at names bytes tokens >>= λ first. more_params_at first.0 bytes first.1) ≡ Some (out, rest) → Adds (SpellsParams bytes) tokens names out rest
some_are bytes names tokens out rest h =
    let p = step_of (param_at names bytes tokens) (λ first. more_params_at first.0 bytes first.1) (out, rest) h in
    let a = param_is bytes names tokens p.0.0 p.0.1 p.1 in
    let b = more_params_are bytes p.0.0 p.0.1 out rest p.2 in
    record {
      front = a.front ++ b.front;
      values = a.values ++ b.values;
      split = a.split ∙ ap (λ r. a.front ++ r) b.split ∙ sym (append_assoc a.front b.front rest);
      all = b.all ∙ ap (λ r. r ++ b.values) a.all ∙ append_assoc names a.values b.values;
      said = some_params a.front b.front a.values b.values a.said b.said;
    }

params_are : (bytes : List ℕ) (names tokens out rest : List Token) → params_at names bytes tokens ≡ Some (out, rest) → Adds (SpellsParams bytes) tokens names out rest
unfolding params_at
params_are bytes names tokens out rest h = given (is_mark_at bytes tokens 0 (codes ")")) h
  where
    given : (g : Bool) → cond {A = Option (List Token × List Token)} g (Some (names, tokens)) (param_at names bytes tokens >>= λ first. more_params_at first.0 bytes first.1) ≡ Some (out, rest) → Adds (SpellsParams bytes) tokens names out rest
    given true h = let e = same_some h in record { front = []; values = []; split = ap (λ x. x.1) e; all = sym (ap (λ x. x.0) e) ∙ sym (append-nil names); said = no_params }
    given false h = some_are bytes names tokens out rest h

list_is : (bytes : List ℕ) (names tokens out rest : List Token) → list_at names bytes tokens ≡ Some (out, rest) → Adds (SpellsList bytes) tokens names out rest
unfolding list_at
list_is bytes names tokens out rest h =
    let p = step_of (mark_at bytes (codes "(") tokens) _ (out, rest) h in
    let q = step_of (params_at names bytes p.0) _ (out, rest) p.2 in
    let r = step_of (mark_at bytes (codes ")") q.0.1) _ (out, rest) q.2 in
    let m = mark_read bytes (codes "(") tokens p.0 p.1 in
    let a = params_are bytes names p.0 q.0.0 q.0.1 q.1 in
    let c = mark_read bytes (codes ")") q.0.1 r.0 r.1 in
    let e = same_some r.2 in
    record {
      front = m.token ∷ a.front ++ c.token ∷ [];
      values = a.values;
      split = m.cut ∙ ap (λ xs. m.token ∷ xs) (a.split ∙ ap (λ xs. a.front ++ xs) (c.cut ∙ ap (λ x. c.token ∷ x.1) e) ∙ sym (append_assoc a.front (c.token ∷ []) rest));
      all = sym (ap (λ x. x.0) e) ∙ a.all;
      said = list m.token a.front c.token a.values m.is a.said c.is;
    }

-- advice

run_is : (bytes : List ℕ) (tokens rest : List Token) → run_at bytes tokens ≡ Some rest → Fronts (RunsToEnd bytes) tokens rest
unfolding run_at
run_is bytes tokens rest h =
    let p = passed_sound tokens (member_length bytes tokens) rest h in
    record { front = take p.0 tokens; split = p.2; said = member_sound bytes tokens p.0 p.1 }

record HasPointcut (bytes : List ℕ) (tokens rest : List Token) : Type 0 where
  colon : Token
  run : List Token
  split : tokens ≡ colon ∷ run ++ rest
  is_colon : IsMark bytes (codes ":") colon
  ends : RunsToEnd bytes run

pointcut_is : (bytes : List ℕ) (tokens rest : List Token) → pointcut_at bytes tokens ≡ Some rest → HasPointcut bytes tokens rest
unfolding pointcut_at
pointcut_is bytes tokens rest h =
    let p = step_of (mark_at bytes (codes ":") tokens) (run_at bytes) rest h in
    let m = mark_read bytes (codes ":") tokens p.0 p.1 in
    let r = run_is bytes p.0 rest p.2 in
    record { colon = m.token; run = r.front; split = m.cut ∙ ap (λ xs. m.token ∷ xs) r.split; is_colon = m.is; ends = r.said }

-- a rule spells a front of the tokens, which says this
record Says {V : Type 0} (X : List Token → V → Type 0) (tokens : List Token) (value : V) (rest : List Token) : Type 0 where
  front : List Token
  split : tokens ≡ front ++ rest
  said : X front value

-- the word that a test has seen
seen : (bytes : List ℕ) (word : List ℕ) (tokens : List Token) (t : Token) (rest : List Token) → is_word_at bytes tokens 0 word ≡ true → tokens ≡ t ∷ rest → IsWord bytes word t
seen bytes word tokens t rest h split = sym (ap (λ ts. is_word_at bytes ts 0 word) split) ∙ h

before_is : (bytes : List ℕ) (tokens : List Token) (a : Advice) (rest : List Token) → is_word_at bytes tokens 0 (codes "before") ≡ true → before_at bytes tokens ≡ Some (a, rest) → Says (SpellsAdvice bytes) tokens a rest
unfolding before_at
before_is bytes tokens a rest begins h =
    let p = step_of (any_word_at tokens) _ (a, rest) h in
    let q = step_of (list_at [] bytes p.0) _ (a, rest) p.2 in
    let r = step_of (pointcut_at bytes q.0.1) _ (a, rest) q.2 in
    let w = word_sound tokens p.0 p.1 in
    let l = list_is bytes [] p.0 q.0.0 q.0.1 q.1 in
    let c = pointcut_is bytes q.0.1 r.0 r.1 in
    let e = same_some r.2 in
    let value : Known l.values ≡ a = ap Known (sym l.all) ∙ ap (λ x. x.0) e in
    record {
      front = w.0 ∷ l.front ++ c.colon ∷ c.run;
      split = w.1 ∙ ap (λ xs. w.0 ∷ xs) (l.split ∙ ap (λ xs. l.front ++ xs) (c.split ∙ ap (λ x. c.colon ∷ c.run ++ x.1) e) ∙ sym (append_assoc l.front (c.colon ∷ c.run) rest));
      said = subst (SpellsAdvice bytes (w.0 ∷ l.front ++ c.colon ∷ c.run)) value (before w.0 l.front l.values c.colon c.run (seen bytes (codes "before") tokens w.0 p.0 begins w.1) l.said c.is_colon c.ends);
    }

outcome_is : (bytes word : List ℕ) (names tokens out rest : List Token) → outcome_at word names bytes tokens ≡ Some (out, rest) → Adds (SpellsOutcome bytes word) tokens names out rest
unfolding outcome_at optional_list_at
outcome_is bytes word names tokens out rest h = given (is_word_at bytes tokens 0 word) refl h
  where
    optional : (t : Token) (mid : List Token) (g : Bool) → IsWord bytes word t → cond {A = Option (List Token × List Token)} g (list_at names bytes mid) (Some (names, mid)) ≡ Some (out, rest) → Adds (SpellsOutcome bytes word) (t ∷ mid) names out rest
    optional t mid true is h = let l = list_is bytes names mid out rest h in record { front = t ∷ l.front; values = l.values; split = ap (λ xs. t ∷ xs) l.split; all = l.all; said = with_list t l.front l.values is l.said }
    optional t mid false is h = let e = same_some h in record { front = t ∷ []; values = []; split = ap (λ x. t ∷ x.1) e; all = sym (ap (λ x. x.0) e) ∙ sym (append-nil names); said = alone t is }

    given : (g : Bool) → is_word_at bytes tokens 0 word ≡ g → cond {A = Option (List Token × List Token)} g (any_word_at tokens >>= optional_list_at names bytes) (Some (names, tokens)) ≡ Some (out, rest) → Adds (SpellsOutcome bytes word) tokens names out rest
    given false g h = let e = same_some h in record { front = []; values = []; split = ap (λ x. x.1) e; all = sym (ap (λ x. x.0) e) ∙ sym (append-nil names); said = missing }
    given true g h =
        let p = step_of (any_word_at tokens) (optional_list_at names bytes) (out, rest) h in
        let w = word_sound tokens p.0 p.1 in
        subst (λ ts. Adds (SpellsOutcome bytes word) ts names out rest) (sym w.1) (optional w.0 p.0 (is_mark_at bytes p.0 0 (codes "(")) (seen bytes word tokens w.0 p.0 g w.1) p.2)

after_is : (bytes : List ℕ) (tokens : List Token) (a : Advice) (rest : List Token) → is_word_at bytes tokens 0 (codes "after") ≡ true → after_at bytes tokens ≡ Some (a, rest) → Says (SpellsAdvice bytes) tokens a rest
unfolding after_at
after_is bytes tokens a rest begins h =
    let p = step_of (any_word_at tokens) _ (a, rest) h in
    let q = step_of (list_at [] bytes p.0) _ (a, rest) p.2 in
    let u = step_of (outcome_at (codes "returning") q.0.0 bytes q.0.1) _ (a, rest) q.2 in
    let v = step_of (outcome_at (codes "throwing") u.0.0 bytes u.0.1) _ (a, rest) u.2 in
    let r = step_of (pointcut_at bytes v.0.1) _ (a, rest) v.2 in
    let w = word_sound tokens p.0 p.1 in
    let l = list_is bytes [] p.0 q.0.0 q.0.1 q.1 in
    let m = outcome_is bytes (codes "returning") q.0.0 q.0.1 u.0.0 u.0.1 u.1 in
    let n = outcome_is bytes (codes "throwing") u.0.0 u.0.1 v.0.0 v.0.1 v.1 in
    let c = pointcut_is bytes v.0.1 r.0 r.1 in
    let e = same_some r.2 in
    let names : l.values ++ m.values ++ n.values ≡ v.0.0 = ap (λ xs. xs ++ m.values ++ n.values) (sym l.all) ∙ ap (λ xs. xs ++ n.values) (sym m.all) ∙ sym n.all in
    let value : Known (l.values ++ m.values ++ n.values) ≡ a = ap Known names ∙ ap (λ x. x.0) e in
    let tail : v.0.1 ≡ (c.colon ∷ c.run) ++ rest = c.split ∙ ap (λ x. c.colon ∷ c.run ++ x.1) e in
    let behind : p.0 ≡ l.front ++ (m.front ++ (n.front ++ ((c.colon ∷ c.run) ++ rest))) = l.split ∙ ap (λ xs. l.front ++ xs) (m.split ∙ ap (λ xs. m.front ++ xs) (n.split ∙ ap (λ xs. n.front ++ xs) tail)) in
    record {
      front = w.0 ∷ l.front ++ m.front ++ n.front ++ c.colon ∷ c.run;
      split = w.1 ∙ ap (λ xs. w.0 ∷ xs) (behind ∙ sym (regrouped l.front m.front n.front (c.colon ∷ c.run) rest));
      said = subst (SpellsAdvice bytes (w.0 ∷ l.front ++ m.front ++ n.front ++ c.colon ∷ c.run)) value (after w.0 l.front l.values m.front m.values n.front n.values c.colon c.run (seen bytes (codes "after") tokens w.0 p.0 begins w.1) l.said m.said n.said c.is_colon c.ends);
    }

other_is : (bytes : List ℕ) (tokens : List Token) (a : Advice) (rest : List Token) → is_word_at bytes tokens 0 (codes "before") ≡ false → is_word_at bytes tokens 0 (codes "after") ≡ false → other_at bytes tokens ≡ Some (a, rest) → Says (SpellsAdvice bytes) tokens a rest
unfolding other_at
other_is bytes [] a rest not_before not_after h = absurd (never_some h)
other_is bytes (t ∷ ts) a rest not_before not_after h = given (is_mark bytes t (codes ";")) (is_mark bytes t (codes "{")) refl refl h
  where
    first : (front : List Token) (is : Bool) → t ∷ ts ≡ front ++ rest → BeginsOther bytes t → RunsToEnd bytes front → Says (SpellsAdvice bytes) (t ∷ ts) (Other t.line) rest
    first [] is split b ends = absurd (nothing_ends bytes [] ends.ends)
    first (f ∷ front) is split b ends =
        let same : t ≡ f = cc in
        record { front = f ∷ front; split = split; said = subst (λ x. SpellsAdvice bytes (f ∷ front) (Other x.line)) (sym same) (other f front (subst (BeginsOther bytes) same b) ends) }

    given : (g k : Bool) → is_mark bytes t (codes ";") ≡ g → is_mark bytes t (codes "{") ≡ k → cond {A = Option (Advice × List Token)} (g || k) None (run_at bytes (t ∷ ts) >>= λ rest. Some (Other t.line, rest)) ≡ Some (a, rest) → Says (SpellsAdvice bytes) (t ∷ ts) a rest
    given true k g e h = absurd (never_some h)
    given false true g e h = absurd (never_some h)
    given false false g e h =
        let p = step_of (run_at bytes (t ∷ ts)) _ (a, rest) h in
        let r = run_is bytes (t ∷ ts) p.0 p.1 in
        let s = same_some p.2 in
        subst (λ x. Says (SpellsAdvice bytes) (t ∷ ts) x rest) (ap (λ x. x.0) s) (first r.front true (r.split ∙ ap (λ x. r.front ++ x.1) s) (record { not_before = not_before; not_after = not_after; no_end = g; no_block = e }) r.said)

advice_is : (bytes : List ℕ) (tokens : List Token) (a : Advice) (rest : List Token) → advice_at bytes tokens ≡ Some (a, rest) → Says (SpellsAdvice bytes) tokens a rest
unfolding advice_at
advice_is bytes tokens a rest h = given (is_word_at bytes tokens 0 (codes "before")) (is_word_at bytes tokens 0 (codes "after")) refl refl h
  where
    given : (g k : Bool) → is_word_at bytes tokens 0 (codes "before") ≡ g → is_word_at bytes tokens 0 (codes "after") ≡ k → cond {A = Option (Advice × List Token)} g (before_at bytes tokens) (cond {A = Option (Advice × List Token)} k (after_at bytes tokens) (other_at bytes tokens)) ≡ Some (a, rest) → Says (SpellsAdvice bytes) tokens a rest
    given true k g e h = before_is bytes tokens a rest g h
    given false true g e h = after_is bytes tokens a rest e h
    given false false g e h = other_is bytes tokens a rest g e h

-- events and declarations

-- after the words that begin an event
abbrev event_tail : List ℕ → List Mention → Bool → List Token → Option (List Mention × List Token)
event_tail bytes events creation mid = name_at bytes mid >>= λ name. advice_at bytes name.1 >>= λ advice. Some (events ++ record { creation = creation; name = name.0; advice = advice.0 } ∷ [], advice.1)

event_is : (bytes : List ℕ) (events : List Mention) (tokens : List Token) (out : List Mention) (rest : List Token) → begins_event bytes tokens ≡ true → event_at events bytes tokens ≡ Some (out, rest) → Adds (SpellsMember bytes) tokens events out rest
unfolding event_at creation_at
event_is bytes events tokens out rest begins h = given (is_word_at bytes tokens 0 (codes "creation")) refl h
  where
    tail : (creation : Bool) (fronts : List Token) (mid : List Token) → tokens ≡ fronts ++ mid → ((name : Token) (said : List Token) (a : Advice) → IsName bytes name → SpellsAdvice bytes said a → SpellsEvent bytes (fronts ++ name ∷ said) (record { creation = creation; name = name; advice = a })) → event_tail bytes events creation mid ≡ Some (out, rest) → Adds (SpellsMember bytes) tokens events out rest
    tail creation fronts mid split said h =
        let q = step_of (name_at bytes mid) _ (out, rest) h in
        let r = step_of (advice_at bytes q.0.1) _ (out, rest) q.2 in
        let n = name_read bytes mid q.0.1 q.0.0 q.1 in
        let a = advice_is bytes q.0.1 r.0.0 r.0.1 r.1 in
        let e = same_some r.2 in
        record {
          front = fronts ++ q.0.0 ∷ a.front;
          values = record { creation = creation; name = q.0.0; advice = r.0.0 } ∷ [];
          split = split ∙ ap (λ xs. fronts ++ xs) (n.0 ∙ ap (λ xs. q.0.0 ∷ xs) (a.split ∙ ap (λ x. a.front ++ x.1) e)) ∙ sym (append_assoc fronts (q.0.0 ∷ a.front) rest);
          all = sym (ap (λ x. x.0) e);
          said = an_event (fronts ++ q.0.0 ∷ a.front) (record { creation = creation; name = q.0.0; advice = r.0.0 }) (said q.0.0 a.front r.0.0 n.1 a.said);
        }

    plain_word : (ts : List Token) → begins_event bytes ts ≡ true → is_word_at bytes ts 0 (codes "creation") ≡ false → is_word_at bytes ts 0 (codes "event") ≡ true
    plain_word ts b no_creation = and_left (is_word_at bytes ts 0 (codes "event")) _ (only _ _ no_creation b)
      where
        only : (x y : Bool) → is_word_at bytes ts 0 (codes "creation") ≡ false → x || is_word_at bytes ts 0 (codes "creation") && y && is_name_at bytes ts 2 ≡ true → x ≡ true
        only true y g h = refl
        only false y g h = absurd (never_both _ (and_left _ _ (and_left _ _ h)) g)

    word_behind : (ts us : List Token) (t : Token) → begins_event bytes ts ≡ true → ts ≡ t ∷ us → is_word bytes t (codes "creation") ≡ true → is_word_at bytes us 0 (codes "event") ≡ true
    word_behind ts us t b split is = second (is_word bytes t (codes "event")) _ _ _ (no_other_word bytes t (codes "creation") (codes "event") is refl) (sym (ap (begins_event bytes) split) ∙ b)
      where
        second : (v n w m : Bool) → v ≡ false → v && n || is_word bytes t (codes "creation") && w && m ≡ true → w ≡ true
        second true n w m g h = absurd (never_both true refl g)
        second false n w m g h = and_right _ _ (and_left _ _ h)

    given : (g : Bool) → is_word_at bytes tokens 0 (codes "creation") ≡ g → ((cond {A = Option (Bool × List Token)} g (any_word_at tokens >>= λ rest. Some (true, rest)) (Some (false, tokens))) >>= λ creation. any_word_at creation.1 >>= λ mid. event_tail bytes events creation.0 mid) ≡ Some (out, rest) → Adds (SpellsMember bytes) tokens events out rest
    given false g h =
        let p = step_of (any_word_at tokens) _ (out, rest) h in
        let w = word_sound tokens p.0 p.1 in
        tail false (w.0 ∷ []) p.0 w.1 (λ name said a. event w.0 name said a (seen bytes (codes "event") tokens w.0 p.0 (plain_word tokens begins g) w.1)) p.2
    given true g h =
        let o = step_of (any_word_at tokens >>= λ rest. Some (true, rest)) _ (out, rest) h in
        let k = step_of (any_word_at tokens) _ o.0 o.1 in
        let c = word_sound tokens k.0 k.1 in
        let same = same_some k.2 in
        let p = step_of (any_word_at o.0.1) _ (out, rest) o.2 in
        let w = word_sound o.0.1 p.0 p.1 in
        let is = seen bytes (codes "creation") tokens c.0 k.0 g c.1 in
        let second : k.0 ≡ w.0 ∷ p.0 = ap (λ x. x.1) same ∙ w.1 in
        let is_event : IsWord bytes (codes "event") w.0 = seen bytes (codes "event") k.0 w.0 p.0 (word_behind tokens k.0 c.0 begins c.1 is) second in
        tail true (c.0 ∷ w.0 ∷ []) p.0 (c.1 ∙ ap (λ xs. c.0 ∷ xs) second) (λ name said a. creation_event c.0 w.0 name said a is is_event) (ap (λ b. event_tail bytes events b p.0) (ap (λ x. x.0) same) ∙ p.2)

-- a front begins no event and no property where the whole doesn't
event_front : (bytes : List ℕ) (run rest : List Token) → begins_event bytes (run ++ rest) ≡ false → begins_event bytes run ≡ false
event_front bytes [] rest h = refl
event_front bytes (a ∷ []) rest h = none (is_word bytes a (codes "event")) (is_word bytes a (codes "creation"))
  where
    none : (x y : Bool) → x && false || y && false && false ≡ false
    none true true = refl
    none true false = refl
    none false true = refl
    none false false = refl
event_front bytes (a ∷ b ∷ []) rest h = less (is_word bytes a (codes "event") && is_name bytes b) (is_word bytes a (codes "creation") && is_word bytes b (codes "event")) _ h
  where
    less : (x y z : Bool) → x || y && z ≡ false → x || y && false ≡ false
    less true y z h = h
    less false true z h = refl
    less false false z h = refl
event_front bytes (a ∷ b ∷ c ∷ more) rest h = h

property_front : (bytes : List ℕ) (run rest : List Token) → begins_property bytes (run ++ rest) ≡ false → begins_property bytes run ≡ false
property_front bytes [] rest h = refl
property_front bytes (a ∷ []) rest h = refl
property_front bytes (a ∷ b ∷ more) rest h = h

member_is : (bytes : List ℕ) (events : List Mention) (tokens : List Token) (out : List Mention) (rest : List Token) → begins_member bytes tokens ≡ true → member_at events bytes tokens ≡ Some (out, rest) → Adds (SpellsMember bytes) tokens events out rest
unfolding member_at
member_is bytes events tokens out rest begins h = given (begins_event bytes tokens) refl h
  where
    no_property : (x y : Bool) → not (x || y) ≡ true → y ≡ false
    no_property true y h = absurd (never_both false h refl)
    no_property false true h = absurd (never_both false h refl)
    no_property false false h = refl

    given : (g : Bool) → begins_event bytes tokens ≡ g → cond {A = Option (List Mention × List Token)} g (event_at events bytes tokens) (run_at bytes tokens >>= λ rest. Some (events, rest)) ≡ Some (out, rest) → Adds (SpellsMember bytes) tokens events out rest
    given true g h = event_is bytes events tokens out rest g h
    given false g h =
        let p = step_of (run_at bytes tokens) _ (out, rest) h in
        let r = run_is bytes tokens p.0 p.1 in
        let e = same_some p.2 in
        record {
          front = r.front;
          values = [];
          split = r.split ∙ ap (λ x. r.front ++ x.1) e;
          all = sym (ap (λ x. x.0) e) ∙ sym (append-nil events);
          said = declaration r.front r.said (event_front bytes r.front p.0 (ap (begins_event bytes) (sym r.split) ∙ g)) (property_front bytes r.front p.0 (ap (begins_property bytes) (sym r.split) ∙ no_property (is_mark_at bytes tokens 0 (codes "}")) _ begins));
        }

members_are : (bytes : List ℕ) (tokens : List Token) (out : List Mention) (rest : List Token) → members_at bytes tokens ≡ Some (out, rest) → Adds (SpelledAnywhere (SpellsMember bytes)) tokens [] out rest
unfolding folded_at
members_are bytes tokens out rest h =
    (items_sound (length tokens) (λ _. SpellsMember bytes) (begins_member bytes) (λ x. member_at x bytes) (λ at xs ts ys r _ begins. member_is bytes xs ts ys r begins) (length tokens) 0 [] tokens out rest (omega arith) h).0

-- properties

record HasBlock (bytes : List ℕ) (total : ℕ) (tokens : List Token) (range : ℕ × ℕ) (rest : List Token) : Type 0 where
  opening : Token
  inside : List Token
  closing : Token
  split : tokens ≡ (opening ∷ inside ++ closing ∷ []) ++ rest
  opens : IsMark bytes (codes "{") opening
  balanced : open_after bytes [] inside ≡ Some []
  closes : IsMark bytes (codes "}") closing
  first : range.0 ≡ place total tokens + 1
  last : range.1 ≡ place total rest - 1

block_is : (bytes : List ℕ) (total : ℕ) (tokens : List Token) (range : ℕ × ℕ) (rest : List Token) → block_at total bytes tokens ≡ Some (range, rest) → HasBlock bytes total tokens range rest
unfolding block_at
block_is bytes total tokens range rest h = given (is_mark_at bytes tokens 0 (codes "{")) refl h
  where
    begun : (front : List Token) (mid : List Token) → is_mark_at bytes tokens 0 (codes "{") ≡ true → tokens ≡ front ++ mid → RunsToEnd bytes front → ◌≡◌ {A = (ℕ × ℕ) × List Token} ((place total tokens + 1, place total mid - 1), mid) (range, rest) → HasBlock bytes total tokens range rest
    begun [] mid opens split ends e = absurd (nothing_ends bytes [] ends.ends)
    begun (t ∷ more) mid opens split ends e =
        let is : IsMark bytes (codes "{") t = sym (ap (λ ts. is_mark_at bytes ts 0 (codes "{")) split) ∙ opens in
        let b = block_sound bytes t more is ends in
        record {
          opening = t;
          inside = b.inside;
          closing = b.closing;
          split = split ∙ ap (λ xs. t ∷ xs ++ mid) b.split ∙ ap (λ x. t ∷ b.inside ++ b.closing ∷ [] ++ x.1) e;
          opens = is;
          balanced = b.balanced;
          closes = b.closes;
          first = sym (ap (λ x. x.0.0) e);
          last = sym (ap (λ x. x.0.1) e) ∙ ap (λ x. place total x.1 - 1) e;
        }

    given : (g : Bool) → is_mark_at bytes tokens 0 (codes "{") ≡ g → cond {A = Option ((ℕ × ℕ) × List Token)} g (run_at bytes tokens >>= λ rest. Some ((place total tokens + 1, place total rest - 1), rest)) None ≡ Some (range, rest) → HasBlock bytes total tokens range rest
    given false g h = absurd (never_some h)
    given true g h =
        let p = step_of (run_at bytes tokens) _ (range, rest) h in
        let r = run_is bytes tokens p.0 p.1 in
        begun r.front p.0 g r.split r.said (same_some p.2)

handler_is : (bytes : List ℕ) (total at : ℕ) (handlers : List HandlerText) (tokens : List Token) (out : List HandlerText) (rest : List Token) → at + length tokens ≡ total → handler_at total handlers bytes tokens ≡ Some (out, rest) → Adds (SpellsHandler bytes at) tokens handlers out rest
unfolding handler_at
handler_is bytes total at handlers tokens out rest same h =
    let p = step_of (mark_at bytes (codes "@") tokens) _ (out, rest) h in
    let q = step_of (name_at bytes p.0) _ (out, rest) p.2 in
    let r = step_of (block_at total bytes q.0.1) _ (out, rest) q.2 in
    let m = mark_read bytes (codes "@") tokens p.0 p.1 in
    let n = name_read bytes p.0 q.0.1 q.0.0 q.1 in
    let b = block_is bytes total q.0.1 r.0.0 r.0.1 r.1 in
    let e = same_some r.2 in
    let behind : tokens ≡ m.token ∷ q.0.0 ∷ q.0.1 = m.cut ∙ ap (λ xs. m.token ∷ xs) n.0 in
    let whole : tokens ≡ (m.token ∷ q.0.0 ∷ b.opening ∷ b.inside ++ b.closing ∷ []) ++ r.0.1 = behind ∙ ap (λ xs. m.token ∷ q.0.0 ∷ xs) b.split in
    let counted : length tokens ≡ length b.inside + 4 + length r.0.1 = omega (arith, ap length whole, length-append (m.token ∷ q.0.0 ∷ b.opening ∷ b.inside ++ b.closing ∷ []) r.0.1, length-append b.inside (b.closing ∷ [])) in
    let two : length tokens ≡ length q.0.1 + 2 = omega (arith, ap length behind) in
    let first : r.0.0.0 ≡ at + 3 = b.first ∙ omega arith in
    let last : r.0.0.1 ≡ at + 3 + length b.inside = b.last ∙ omega arith in
    record {
      front = m.token ∷ q.0.0 ∷ b.opening ∷ b.inside ++ b.closing ∷ [];
      values = record { category = q.0.0; first = at + 3; last = at + 3 + length b.inside } ∷ [];
      split = whole ∙ ap (λ x. (m.token ∷ q.0.0 ∷ b.opening ∷ b.inside ++ b.closing ∷ []) ++ x.1) e;
      all = sym (ap (λ x. x.0) e) ∙ (λ i. handlers ++ record { category = q.0.0; first = first i; last = last i } ∷ []);
      said = handler m.token q.0.0 b.opening b.inside b.closing m.is n.1 b.opens b.balanced b.closes;
    }

handlers_are : (bytes : List ℕ) (total at : ℕ) (tokens : List Token) (out : List HandlerText) (rest : List Token) → at + length tokens ≡ total → handlers_at total bytes tokens ≡ Some (out, rest) → Adds (Spelled (SpellsHandler bytes) at) tokens [] out rest
unfolding folded_at
handlers_are bytes total at tokens out rest same h =
    (items_sound total (SpellsHandler bytes) (begins_handler bytes) (λ x. handler_at total x bytes) (λ there xs ts ys r s _. handler_is bytes total there xs ts ys r s) (length tokens) at [] tokens out rest same h).0

property_is : (bytes : List ℕ) (total at : ℕ) (properties : List Property) (tokens : List Token) (out : List Property) (rest : List Token) → at + length tokens ≡ total → property_at total properties bytes tokens ≡ Some (out, rest) → Adds (SpellsProperty bytes at) tokens properties out rest
unfolding property_at
property_is bytes total at properties tokens out rest same h =
    let p = step_of (name_at bytes tokens) _ (out, rest) h in
    let q = step_of (mark_at bytes (codes ":") p.0.1) _ (out, rest) p.2 in
    let r = step_of (passed q.0 (formula_length bytes q.0)) _ (out, rest) q.2 in
    let s = step_of (handlers_at total bytes r.0) _ (out, rest) r.2 in
    let n = name_read bytes tokens p.0.1 p.0.0 p.1 in
    let m = mark_read bytes (codes ":") p.0.1 q.0 q.1 in
    let k = passed_sound q.0 (formula_length bytes q.0) r.0 r.1 in
    let formula : List Token = take k.0 q.0 in
    let behind : tokens ≡ p.0.0 ∷ m.token ∷ q.0 = n.0 ∙ ap (λ xs. p.0.0 ∷ xs) m.cut in
    let two : length tokens ≡ length q.0 + 2 = omega (arith, ap length behind) in
    let counted : length q.0 ≡ length (take k.0 q.0) + length r.0 = ap length k.2 ∙ length-append (take k.0 q.0) r.0 in
    let there : at + 2 + length (take k.0 q.0) + length r.0 ≡ total = omega arith in
    let hs = handlers_are bytes total (at + 2 + length (take k.0 q.0)) r.0 s.0.0 s.0.1 there s.1 in
    let e = same_some s.2 in
    let first : place total q.0 ≡ at + 2 = omega arith in
    let last : place total r.0 ≡ at + 2 + length (take k.0 q.0) = omega arith in
    record {
      front = p.0.0 ∷ m.token ∷ take k.0 q.0 ++ hs.front;
      values = record { logic = p.0.0; first = at + 2; last = at + 2 + length (take k.0 q.0); handlers = hs.values } ∷ [];
      split = behind ∙ ap (λ xs. p.0.0 ∷ m.token ∷ xs) (k.2 ∙ ap (λ xs. take k.0 q.0 ++ xs) (hs.split ∙ ap (λ x. hs.front ++ x.1) e) ∙ sym (append_assoc (take k.0 q.0) hs.front rest));
      all = sym (ap (λ x. x.0) e) ∙ (λ i. properties ++ record { logic = p.0.0; first = first i; last = last i; handlers = hs.all i } ∷ []);
      said = property p.0.0 m.token (take k.0 q.0) hs.front hs.values n.1 m.is (formula_sound bytes q.0 k.0 k.1) hs.said;
    }

properties_are : (bytes : List ℕ) (total at : ℕ) (tokens : List Token) (out : List Property) (rest : List Token) → at + length tokens ≡ total → properties_at total bytes tokens ≡ Some (out, rest) → Adds (Spelled (SpellsProperty bytes) at) tokens [] out rest
unfolding folded_at
properties_are bytes total at tokens out rest same h =
    (items_sound total (SpellsProperty bytes) (goes_on bytes) (λ x. property_at total x bytes) (λ there xs ts ys r s _. property_is bytes total there xs ts ys r s) (length tokens) at [] tokens out rest same h).0

-- the file

begins_none : (bytes : List ℕ) (front : List Token) (name : Token) (more : List Token) → begins_clause bytes (front ++ name ∷ more) ≡ false → BeginsNoClause bytes (front ++ name ∷ [])
begins_none bytes front name more h = first front h
  where
    not_this : (t : Token) → is_word bytes t (codes "package") || is_word bytes t (codes "import") ≡ false → BeginsClause bytes t → ⊥
    not_this t h (inl is) = never_both true refl (sym (ap (λ b. b || is_word bytes t (codes "import")) is) ∙ h)
    not_this t h (inr is) = never_both _ (or_second (is_word bytes t (codes "package")) _ is) h
      where
        or_second : (a b : Bool) → b ≡ true → a || b ≡ true
        or_second true b h = refl
        or_second false b h = h

    first : (xs : List Token) → begins_clause bytes (xs ++ name ∷ more) ≡ false → BeginsNoClause bytes (xs ++ name ∷ [])
    first [] h = not_this name h
    first (x ∷ xs) h = not_this x h

at_end_sound : {X : Type 0} (x y : X) (tokens : List Token) → at_end x tokens ≡ Some y → (tokens ≡ []) × (x ≡ y)
at_end_sound x y [] h = (refl, same_some h)
at_end_sound x y (t ∷ ts) h = absurd (never_some h)

record HasHead (bytes : List ℕ) (tokens : List Token) (modifiers : List Modifier) (name : Token) (params : List Token) (rest : List Token) : Type 0 where
  front : List Token
  split : tokens ≡ front ++ rest
  said : SpellsHead bytes front modifiers name params

head_of : (bytes : List ℕ) (tokens : List Token) (modifiers : List Modifier) (b : List Token) (name : Token) (c names d : List Token) → begins_clause bytes tokens ≡ false → Adds (SpelledAnywhere (SpellsModifier bytes)) tokens [] modifiers b → b ≡ name ∷ c → IsName bytes name → Adds (SpellsList bytes) c [] names d → HasHead bytes tokens modifiers name names d
head_of bytes tokens modifiers b name c names d no_clause ms n is_name ps = record {
  front = ms.front ++ name ∷ ps.front;
  split = ms.split ∙ ap (λ xs. ms.front ++ xs) (n ∙ ap (λ xs. name ∷ xs) ps.split) ∙ sym (append_assoc ms.front (name ∷ ps.front) d);
  said = subst (λ x. SpellsHead bytes (ms.front ++ name ∷ ps.front) x name names) (sym ms.all) (subst (λ x. SpellsHead bytes (ms.front ++ name ∷ ps.front) ms.values name x) (sym ps.all) (head ms.front ms.values name ps.front ps.values ms.said is_name ps.said (begins_none bytes ms.front name c (sym (ap (begins_clause bytes) (ms.split ∙ ap (λ xs. ms.front ++ xs) n)) ∙ no_clause))));
}

body_of : (bytes : List ℕ) (at : ℕ) (tokens f : List Token) (opening : Token) (events : List Mention) (g : List Token) (k : List Token) (closing : Token) (ps : List Property) (es : Adds (SpelledAnywhere (SpellsMember bytes)) f [] events g) → tokens ≡ opening ∷ f → IsMark bytes (codes "{") opening → Adds (Spelled (SpellsProperty bytes) (at + 1 + length es.front)) g [] ps k → k ≡ closing ∷ [] → IsMark bytes (codes "}") closing → SpellsBody bytes at tokens events ps
body_of bytes at tokens f opening events g k closing ps es o opens ss c closes =
    let split : tokens ≡ opening ∷ es.front ++ ss.front ++ closing ∷ [] = o ∙ ap (λ xs. opening ∷ xs) (es.split ∙ ap (λ xs. es.front ++ xs) (ss.split ∙ ap (λ xs. ss.front ++ xs) c) ∙ sym (append_assoc es.front ss.front (closing ∷ []))) in
    let said = body opening es.front es.values ss.front ss.values closing opens es.said ss.said closes in
    subst (λ ts. SpellsBody bytes at ts events ps) (sym split) (subst (λ x. SpellsBody bytes at (opening ∷ es.front ++ ss.front ++ closing ∷ []) x ps) (sym es.all) (subst (λ x. SpellsBody bytes at (opening ∷ es.front ++ ss.front ++ closing ∷ []) es.values x) (sym ss.all) said))

joins : (bytes : List ℕ) (tokens a d : List Token) (ms : List Modifier) (name : Token) (ps : List Token) (es : List Mention) (qs : List Property) (cs : Fronts (Repeats (SpellsClause bytes)) tokens a) (h : HasHead bytes a ms name ps d) → SpellsBody bytes (length cs.front + length h.front) d es qs → Spells bytes tokens (record { modifiers = ms; name = name; params = ps; events = es; properties = qs })
joins bytes tokens a d ms name ps es qs cs h b =
    let split : tokens ≡ cs.front ++ h.front ++ d = cs.split ∙ ap (λ xs. cs.front ++ xs) h.split ∙ sym (append_assoc cs.front h.front d) in
    subst (λ ts. Spells bytes ts (record { modifiers = ms; name = name; params = ps; events = es; properties = qs })) (sym split) (file cs.front h.front ms name ps d es qs cs.said h.said b)

-- how many tokens stand before the properties
counted : (bytes : List ℕ) (tokens a d f g : List Token) (ms : List Modifier) (name : Token) (ps : List Token) (es : List Mention) (opening : Token) (cs : Fronts (Repeats (SpellsClause bytes)) tokens a) (h : HasHead bytes a ms name ps d) → d ≡ opening ∷ f → (m : Adds (SpelledAnywhere (SpellsMember bytes)) f [] es g) → length cs.front + length h.front + 1 + length m.front + length g ≡ length tokens
counted bytes tokens a d f g ms name ps es opening cs h o m =
    let one : length tokens ≡ length cs.front + length a = ap length cs.split ∙ length-append cs.front a in
    let two : length a ≡ length h.front + length d = ap length h.split ∙ length-append h.front d in
    let three : length d ≡ suc (length f) = ap length o in
    let four : length f ≡ length m.front + length g = ap length m.split ∙ length-append m.front g in
    omega arith

frame_body : (bytes : List ℕ) (tokens a d f g : List Token) (ms : List Modifier) (name : Token) (ps : List Token) (es : List Mention) (opening : Token) (qs : List Property) (k : List Token) (closing : Token) → Fronts (Repeats (SpellsClause bytes)) tokens a → HasHead bytes a ms name ps d → d ≡ opening ∷ f → IsMark bytes (codes "{") opening → Adds (SpelledAnywhere (SpellsMember bytes)) f [] es g → properties_at (length tokens) bytes g ≡ Some (qs, k) → k ≡ closing ∷ [] → IsMark bytes (codes "}") closing → Spells bytes tokens (record { modifiers = ms; name = name; params = ps; events = es; properties = qs })
frame_body bytes tokens a d f g ms name ps es opening qs k closing cs h o opens m q c closes =
    joins bytes tokens a d ms name ps es qs cs h
    (body_of bytes (length cs.front + length h.front) d f opening es g k closing qs m o opens
    (properties_are bytes (length tokens) (length cs.front + length h.front + 1 + length m.front) g qs k (counted bytes tokens a d f g ms name ps es opening cs h o m) q)
    c closes)

-- the rule of the file, step by step
abbrev pub file_tail : List ℕ → ℕ → List Modifier → Token → List Token → List Token → Option Frame
file_tail bytes total ms name ps d =
    mark_at bytes (codes "{") d >>= λ body. members_at bytes body >>= λ events. properties_at total bytes events.1 >>= λ properties. mark_at bytes (codes "}") properties.1 >>= λ behind. at_end (record { modifiers = ms; name = name; params = ps; events = events.0; properties = properties.0 }) behind

tail_is_spelled : (bytes : List ℕ) (tokens a d : List Token) (ms : List Modifier) (name : Token) (ps : List Token) (frame : Frame) → Fronts (Repeats (SpellsClause bytes)) tokens a → HasHead bytes a ms name ps d → file_tail bytes (length tokens) ms name ps d ≡ Some frame → Spells bytes tokens frame
tail_is_spelled bytes tokens a d ms name ps frame cs h is =
    let f = step_of (mark_at bytes (codes "{") d) _ frame is in
    let g = step_of (members_at bytes f.0) _ frame f.2 in
    let k = step_of (properties_at (length tokens) bytes g.0.1) _ frame g.2 in
    let l = step_of (mark_at bytes (codes "}") k.0.1) _ frame k.2 in
    let z = at_end_sound _ frame l.0 l.2 in
    let o = mark_read bytes (codes "{") d f.0 f.1 in
    let c = mark_read bytes (codes "}") k.0.1 l.0 l.1 in
    subst (λ x. Spells bytes tokens x) z.1
    (frame_body bytes tokens a d f.0 g.0.1 ms name ps g.0.0 o.token k.0.0 k.0.1 c.token cs h o.cut o.is (members_are bytes f.0 g.0.0 g.0.1 g.1) k.1 (c.cut ∙ ap (λ xs. c.token ∷ xs) z.0) c.is)

pub frame_is_spelled : (bytes : List ℕ) (tokens : List Token) (frame : Frame) → frame_of bytes tokens ≡ Some frame → Spells bytes tokens frame
unfolding frame_at
frame_is_spelled bytes tokens frame is =
    let a = step_of (clauses_at bytes tokens) _ frame is in
    let b = step_of (modifiers_at bytes a.0.1) _ frame a.2 in
    let c = step_of (name_at bytes b.0.1) _ frame b.2 in
    let d = step_of (list_at [] bytes c.0.1) _ frame c.2 in
    let cs = clauses_are bytes tokens a.0.1 a.0.0 a.1 in
    let n = name_read bytes b.0.1 c.0.1 c.0.0 c.1 in
    tail_is_spelled bytes tokens a.0.1 d.0.1 b.0.0 c.0.0 d.0.0 frame cs.0
    (head_of bytes a.0.1 b.0.0 b.0.1 c.0.0 c.0.1 d.0.0 d.0.1 cs.1 (modifiers_are bytes a.0.1 b.0.0 b.0.1 b.1) n.0 n.1 (list_is bytes [] c.0.1 d.0.0 d.0.1 d.1))
    d.2

-- What is spelled is read so.
use Rattle.std.proofs.Common.{◌≡◌, ◌≢◌, ℕ, ◌+◌, ◌-◌, ◌<◌, ◌≤◌, Bool, true, false, cond, List, [], ◌∷◌, ◌++◌, length, take, drop, Option, Some, None, ◌⊎◌, inl, inr, refl, sym, ap, ◌∙◌, arith, append_assoc, append-nil, length-append}
use Rattle.std.proofs.Math.Seq.{take-append_seam, drop-append_seam}
use Rattle.std.proofs.lemmas.Bool.Decides.{nat_tests}
use Rattle.std.specs.Prelude.{not, ◌&&◌, ◌||◌, nat_lt, codes, slice_get, option_and_then}
use Rattle.std.specs.Option.{option_map_or}
use Rattle.std.specs.Str.{bytes_eq}
use Rattle.jm_text.specs.declared.token.Token.{Token}
use Rattle.jm_text.specs.Spans.{text_of}
use Rattle.jm_text.specs.Texts.{is_mark, is_word, is_name, is_name_text, is_word_kind}
use Rattle.jm_spec.specs.declared.brackets.Bracket.{Bracket}
use Rattle.jm_spec.specs.declared.brackets.Sign.TheVariants.{Comma, Plain}
use Rattle.jm_spec.specs.declared.head.Modifier.{Modifier}
use Rattle.jm_spec.specs.declared.events.Advice.{Advice}
use Rattle.jm_spec.specs.declared.events.Advice.TheVariants.{Known, Other}
use Rattle.jm_spec.specs.declared.events.Mention.{Mention}
use Rattle.jm_spec.specs.declared.property.HandlerText.{HandlerText}
use Rattle.jm_spec.specs.declared.property.Property.{Property}
use Rattle.jm_spec.specs.declared.frame.Frame.{Frame}
use Rattle.jm_spec.specs.Brackets.{sign_of, after_sign, without_angles}
use Rattle.jm_spec.specs.Runs.{may_end, parts, clause_length, parameter_length, begins_property, formula_length}
use Rattle.jm_reading.specs.Reading.{◌>>=◌, is_mark_at, is_word_at, is_name_at, mark_at, name_at}
use Rattle.jm_reading.specs.Taking.{folded_at}
use Rattle.jm_spec.specs.Reading.{place, any_word_at, passed}
use Rattle.jm_spec.specs.Rules.{begins_clause, clause_at, clauses_at, more_word_at, begins_more_word, more_words_at, modifier_of, modifier_at, begins_modifier, modifiers_at, named_at, param_at, more_param_at, begins_more_param, more_params_at, params_at, list_at, run_at, pointcut_at, before_at, optional_list_at, outcome_at, after_at, other_at, advice_at, creation_at, begins_event, event_at, member_at, begins_member, members_at, block_at, handler_at, begins_handler, handlers_at, property_at, goes_on, properties_at, frame_at, frame_of}
use Rattle.jm_spec.specs.Balance.{member_sign, open_after}
use Rattle.jm_reading.specs.Tokens.{IsMark, IsWord, IsName}
use Rattle.jm_spec.specs.Spelling.{IsAnyWord, Repeats, nothing, one_more as another, Spelled, SpelledAnywhere, BeginsClause, SpellsClause, clause, SpellsMoreWord, more_word, SpellsModifier, modifier, open_in_list, AllowsComma, IsType, SpellsParam, param, SpellsMoreParam, more_param, SpellsParams, no_params, some_params, SpellsList, list, RunsToEnd, SpellsOutcome, missing, alone, with_list, BeginsOther, SpellsAdvice, before, after, other, SpellsEvent, event, creation_event, SpellsMember, declaration, an_event, SpellsHandler, handler, SpellsProperty, property, BeginsNoClause, SpellsHead, head, SpellsBody, body, Spells, file}
use Rattle.jm_reading.proofs.TokenLemmas.{mark_is, name_is, step_of}
use Rattle.jm_spec.proofs.TokenLemmas.{never_both, no_mark, no_word, no_other_word, no_other_mark, word_kind, name_kind, word_sign, mark_sign}
use Rattle.jm_spec.proofs.RepeatLemmas.{never_some, same_some, both_give, steps_complete, items_complete}
use Rattle.jm_spec.proofs.BalanceLemmas.{nothing_ends}
use Rattle.jm_spec.proofs.SoundLemmas.{file_tail}
use Rattle.jm_spec.proofs.EndLemmas.{passed_complete, clause_complete, clause_goes_on, member_complete, formula_complete, StopsFormula, IsHeld, parameter_complete, block_complete}

word_read : (t : Token) (rest : List Token) → IsAnyWord t → any_word_at (t ∷ rest) ≡ Some rest
unfolding any_word_at
word_read t rest h = rw h refl

-- the clauses

clause_filled : (bytes : List ℕ) (front : List Token) → SpellsClause bytes front → 0 < length front
clause_filled bytes front (clause word run semicolon begins none ends) = omega arith

clause_begun : (bytes : List ℕ) (t : Token) → BeginsClause bytes t → (is_word bytes t (codes "package") || is_word bytes t (codes "import") ≡ true) × (is_word_kind t.kind ≡ true)
clause_begun bytes t (inl h) = (rw h refl, word_kind bytes t (codes "package") h)
clause_begun bytes t (inr h) = (or_second (is_word bytes t (codes "package")) _ h, word_kind bytes t (codes "import") h)
  where
    or_second : (a b : Bool) → b ≡ true → a || b ≡ true
    or_second true b h = refl
    or_second false b h = h

clause_read : (bytes : List ℕ) (front behind : List Token) → SpellsClause bytes front → Unit {0} → (begins_clause bytes (front ++ behind) ≡ true) × (clause_at bytes (front ++ behind) ≡ Some behind) × Unit {0}
unfolding clause_at
clause_read bytes front behind (clause word run semicolon begins none ends) u =
    let b = clause_begun bytes word begins in
    let tail : clause_length bytes ((run ++ semicolon ∷ []) ++ behind) ≡ Some (length (run ++ semicolon ∷ [])) = ap (clause_length bytes) (append_assoc run (semicolon ∷ []) behind) ∙ clause_complete bytes run semicolon behind none ends in
    (b.0, passed_complete (word ∷ run ++ semicolon ∷ []) behind _ (clause_goes_on bytes word ((run ++ semicolon ∷ []) ++ behind) _ (no_mark bytes word (codes ";") b.1) tail), tt)

clauses_read : (bytes : List ℕ) (front behind : List Token) → Repeats (SpellsClause bytes) front → begins_clause bytes behind ≡ false → clauses_at bytes (front ++ behind) ≡ Some (tt, behind)
unfolding folded_at
clauses_read bytes front behind r stop =
    (steps_complete (SpellsClause bytes) (begins_clause bytes) (clause_at bytes) (λ _. Unit {0}) (clause_filled bytes) (clause_read bytes) (length (front ++ behind)) tt front behind r tt stop (omega arith)).0

-- the modifiers

abbrev BeginsWord : List Token → Type 0
BeginsWord [] = ⊥
BeginsWord (t ∷ ts) = IsAnyWord t

more_word_filled : (bytes : List ℕ) (front : List Token) → SpellsMoreWord bytes front → 0 < length front
more_word_filled bytes front (more_word dash word d w) = omega arith

more_word_read : (bytes : List ℕ) (front behind : List Token) → SpellsMoreWord bytes front → Unit {0} → (begins_more_word bytes (front ++ behind) ≡ true) × (more_word_at bytes (front ++ behind) ≡ Some behind) × Unit {0}
unfolding more_word_at
more_word_read bytes front behind (more_word dash word d w) u =
    (d, both_give (mark_at bytes (codes "-") (dash ∷ word ∷ behind)) any_word_at (word ∷ behind) _ (mark_is bytes (codes "-") dash (word ∷ behind) d) (word_read word behind w), tt)

word_is_no_dash : (bytes : List ℕ) (rest : List Token) → BeginsWord rest → begins_more_word bytes rest ≡ false
word_is_no_dash bytes [] b = absurd b
word_is_no_dash bytes (t ∷ ts) b = no_mark bytes t (codes "-") b

more_words_read : (bytes : List ℕ) (front behind : List Token) → Repeats (SpellsMoreWord bytes) front → BeginsWord behind → more_words_at bytes (front ++ behind) ≡ Some (tt, behind)
unfolding folded_at
more_words_read bytes front behind r b =
    (steps_complete (SpellsMoreWord bytes) (begins_more_word bytes) (more_word_at bytes) (λ _. Unit {0}) (more_word_filled bytes) (more_word_read bytes) (length (front ++ behind)) tt front behind r tt (word_is_no_dash bytes behind b) (omega arith)).0

modifier_filled : (bytes : List ℕ) (at : ℕ) (front : List Token) (xs : List Modifier) → SpellsModifier bytes front xs → 0 < length front
modifier_filled bytes at front xs (modifier word more w r) = omega arith

-- after the first word of a modifier no list begins
no_list_behind : (bytes : List ℕ) (more behind : List Token) → Repeats (SpellsMoreWord bytes) more → BeginsWord behind → is_mark_at bytes (more ++ behind) 0 (codes "(") ≡ false
no_list_behind bytes more [] nothing b = absurd b
no_list_behind bytes more (t ∷ ts) nothing b = no_mark bytes t (codes "(") b
no_list_behind bytes more behind (another front later x r) b = dashed front x
  where
    dashed : (xs : List Token) → SpellsMoreWord bytes xs → is_mark_at bytes (xs ++ later ++ behind) 0 (codes "(") ≡ false
    dashed xs (more_word dash word d w) = no_other_mark bytes dash (codes "-") (codes "(") d refl

front_of : (front rest : List Token) → take (length (front ++ rest) - length rest) (front ++ rest) ≡ front
front_of front rest =
    let n : length (front ++ rest) - length rest ≡ length front = omega (arith, length-append front rest) in
    ap (λ k. take k (front ++ rest)) n ∙ take-append_seam front rest

modifier_read : (bytes : List ℕ) (front : List Token) (xs had : List Modifier) (behind : List Token) → SpellsModifier bytes front xs → BeginsWord behind → (begins_modifier bytes (front ++ behind) ≡ true) × (modifier_at had bytes (front ++ behind) ≡ Some (had ++ xs, behind)) × BeginsWord (front ++ behind)
unfolding modifier_at
modifier_read bytes front xs had behind (modifier word more w r) b = (
  ap (λ g. not g) (no_list_behind bytes more behind r b),
  both_give (any_word_at (word ∷ more ++ behind)) _ (more ++ behind) _ (word_read word (more ++ behind) w)
      (both_give (more_words_at bytes (more ++ behind)) _ (tt, behind) _ (more_words_read bytes more behind r b)
      (ap (λ ts. Some (had ++ modifier_of bytes ts ∷ [], behind)) (front_of (word ∷ more) behind))),
  w,
)

modifiers_read : (bytes : List ℕ) (front : List Token) (xs : List Modifier) (behind : List Token) → SpelledAnywhere (SpellsModifier bytes) front xs → BeginsWord behind → begins_modifier bytes behind ≡ false → (modifiers_at bytes (front ++ behind) ≡ Some (xs, behind)) × BeginsWord (front ++ behind)
unfolding folded_at
modifiers_read bytes front xs behind r b stop =
    items_complete (length (front ++ behind)) (λ _. SpellsModifier bytes) (begins_modifier bytes) (λ x. modifier_at x bytes) BeginsWord (modifier_filled bytes) (λ at ts ys zs us x p _. modifier_read bytes ts ys zs us x p) (length (front ++ behind)) 0 front xs [] behind r b stop (omega arith) (omega arith)

-- lists of parameters

abbrev BeginsPart : List ℕ → List Token → Type 0
BeginsPart bytes [] = ⊥
BeginsPart bytes (t ∷ ts) = parts [] (sign_of bytes t) ≡ true

comma_parts : (bytes : List ℕ) (t : Token) → IsMark bytes (codes ",") t → parts [] (sign_of bytes t) ≡ true
comma_parts bytes t h = ap (parts []) (mark_sign bytes t 44 h)

round_parts : (bytes : List ℕ) (t : Token) → IsMark bytes (codes ")") t → parts [] (sign_of bytes t) ≡ true
round_parts bytes t h = ap (parts []) (mark_sign bytes t 41 h)

open_joined : (bytes : List ℕ) (a b : List Token) (stack s : List Bracket) → open_in_list bytes stack a ≡ Some s → open_in_list bytes stack (a ++ b) ≡ open_in_list bytes s b
open_joined bytes [] b stack s h = ap (λ x. open_in_list bytes x b) (same_some h)
open_joined bytes (t ∷ a) b stack s h =
    let p = step_of (after_sign stack (sign_of bytes t)) (λ next. open_in_list bytes next a) s h in
    both_give (after_sign stack (sign_of bytes t)) (λ next. open_in_list bytes next (a ++ b)) p.0 _ p.1 (open_joined bytes a b p.0 s p.2)

-- where a run of a type and a name is parted, the name is passed or after
split_last : (type : List Token) (name : Token) (front behind : List Token) (comma : Token) → type ++ name ∷ [] ≡ front ++ comma ∷ behind → (name ≡ comma) ⊎ ((left : List Token) × (type ≡ front ++ comma ∷ left))
split_last [] name [] behind comma e = inl (let h : name ∷ [] ≡ comma ∷ behind = e in cc)
split_last [] name (f ∷ []) behind comma e = absurd (let h : name ∷ [] ≡ f ∷ comma ∷ behind = e in cc)
split_last [] name (f ∷ g ∷ front) behind comma e = absurd (let h : name ∷ [] ≡ f ∷ g ∷ (front ++ comma ∷ behind) = e in cc)
split_last (t ∷ ts) name [] behind comma e = let h : t ∷ (ts ++ name ∷ []) ≡ comma ∷ behind = e in let same : t ≡ comma = cc in inr (ts, ap (λ x. x ∷ ts) same)
split_last (t ∷ ts) name (f ∷ front) behind comma e =
    let h : t ∷ (ts ++ name ∷ []) ≡ f ∷ (front ++ comma ∷ behind) = e in
    let same : t ≡ f = cc in
    let tail : ts ++ name ∷ [] ≡ front ++ comma ∷ behind = cc in
    later same (split_last ts name front behind comma tail)
  where
    later : t ≡ f → (name ≡ comma) ⊎ ((left : List Token) × (ts ≡ front ++ comma ∷ left)) → (name ≡ comma) ⊎ ((left : List Token) × (t ∷ ts ≡ f ∷ front ++ comma ∷ left))
    later same (inl h) = inl h
    later same (inr h) = inr (h.0, λ i. same i ∷ h.1 i)

held_with_name : (bytes : List ℕ) (type : List Token) (name : Token) → IsType bytes type → IsName bytes name → IsHeld bytes [] (type ++ name ∷ [])
held_with_name bytes type name t is_name front behind comma split sign = given (split_last type name front behind comma split)
  where
    given : (name ≡ comma) ⊎ ((left : List Token) × (type ≡ front ++ comma ∷ left)) → AllowsComma (open_in_list bytes [] front)
    given (inl same) = absurd (let e : Plain ≡ Comma = sym (word_sign bytes name (name_kind bytes name is_name)) ∙ ap (sign_of bytes) same ∙ sign in cc)
    given (inr r) = t.held front r.0 comma r.1 sign

balanced_with_name : (bytes : List ℕ) (type : List Token) (name : Token) → IsType bytes type → IsName bytes name → open_in_list bytes [] (type ++ name ∷ []) ≡ Some []
balanced_with_name bytes type name t is_name =
    open_joined bytes type (name ∷ []) [] [] t.balanced ∙ ap (λ sign. option_and_then (λ next. open_in_list bytes next []) (after_sign [] sign)) (word_sign bytes name (name_kind bytes name is_name))

got : (a : List Token) (t : Token) (b : List Token) → slice_get (a ++ t ∷ b) (length a) ≡ Some t
got [] t b = refl
got (x ∷ a) t b = got a t b

enough : (n : ℕ) → 2 ≤ n → nat_lt n 2 ≡ false
enough n h = grind (arith, nat_tests)

filled_length : (ts : List Token) → ts ≢ [] → 1 ≤ length ts
filled_length [] h = absurd (h refl)
filled_length (t ∷ ts) h = omega arith

named_read : (bytes : List ℕ) (names type : List Token) (name : Token) (rest : List Token) → type ≢ [] → IsName bytes name → named_at names bytes ((type ++ name ∷ []) ++ rest) (length (type ++ name ∷ [])) ≡ Some (names ++ name ∷ [], rest)
named_read bytes names type name rest filled n = passes (nat_lt (length (type ++ name ∷ [])) 2) (is_name_at bytes ((type ++ name ∷ []) ++ rest) (length (type ++ name ∷ []) - 1)) (enough _ two) named
  where
    two : 2 ≤ length (type ++ name ∷ [])
    two = let h = filled_length type filled in omega (arith, length-append type (name ∷ []))

    here : slice_get ((type ++ name ∷ []) ++ rest) (length (type ++ name ∷ []) - 1) ≡ Some name
    here =
        let count : length (type ++ name ∷ []) - 1 ≡ length type = omega (arith, length-append type (name ∷ [])) in
        (λ i. slice_get (append_assoc type (name ∷ []) rest i) (count i)) ∙ got type name rest

    named : is_name_at bytes ((type ++ name ∷ []) ++ rest) (length (type ++ name ∷ []) - 1) ≡ true
    named = ap (λ o. option_map_or (λ t. is_name bytes t) o false) here ∙ n

    passes : (short unnamed : Bool) → short ≡ false → unnamed ≡ true → cond {A = Option (List Token × List Token)} (short || not unnamed) None (option_and_then {U = List Token × List Token} (λ t. Some (names ++ t ∷ [], drop (length (type ++ name ∷ [])) ((type ++ name ∷ []) ++ rest))) (slice_get ((type ++ name ∷ []) ++ rest) (length (type ++ name ∷ []) - 1))) ≡ Some (names ++ name ∷ [], rest)
    passes true unnamed h k = absurd (never_both true refl h)
    passes false false h k = absurd (never_both false k refl)
    passes false true h k =
        ap (option_and_then {U = List Token × List Token} (λ t. Some (names ++ t ∷ [], drop (length (type ++ name ∷ [])) ((type ++ name ∷ []) ++ rest)))) here ∙ ap (λ r. Some (names ++ name ∷ [], r)) (drop-append_seam (type ++ name ∷ []) rest)

param_read : (bytes : List ℕ) (names front added behind : List Token) → SpellsParam bytes front added → BeginsPart bytes behind → param_at names bytes (front ++ behind) ≡ Some (names ++ added, behind)
unfolding param_at
param_read bytes names front added [] x b = absurd b
param_read bytes names front added (t ∷ rest) (param type name is_type is_name) b =
    both_give (parameter_length bytes ((type ++ name ∷ []) ++ t ∷ rest)) (named_at names bytes ((type ++ name ∷ []) ++ t ∷ rest)) (length (type ++ name ∷ [])) _
    (parameter_complete bytes (type ++ name ∷ []) [] t rest (balanced_with_name bytes type name is_type is_name) (held_with_name bytes type name is_type is_name) b)
    (named_read bytes names type name (t ∷ rest) is_type.filled is_name)

more_param_filled : (bytes : List ℕ) (at : ℕ) (front xs : List Token) → SpellsMoreParam bytes front xs → 0 < length front
more_param_filled bytes at front xs (more_param comma run names c p) = omega arith

more_param_read : (bytes : List ℕ) (front xs had behind : List Token) → SpellsMoreParam bytes front xs → BeginsPart bytes behind → (begins_more_param bytes (front ++ behind) ≡ true) × (more_param_at had bytes (front ++ behind) ≡ Some (had ++ xs, behind)) × BeginsPart bytes (front ++ behind)
unfolding more_param_at
more_param_read bytes front xs had behind (more_param comma run names c p) b =
    (c, both_give (mark_at bytes (codes ",") (comma ∷ run ++ behind)) (param_at had bytes) (run ++ behind) _ (mark_is bytes (codes ",") comma (run ++ behind) c) (param_read bytes had run names behind p b), comma_parts bytes comma c)

more_params_read : (bytes : List ℕ) (had front xs behind : List Token) → SpelledAnywhere (SpellsMoreParam bytes) front xs → BeginsPart bytes behind → begins_more_param bytes behind ≡ false → (more_params_at had bytes (front ++ behind) ≡ Some (had ++ xs, behind)) × BeginsPart bytes (front ++ behind)
unfolding folded_at
more_params_read bytes had front xs behind r b stop =
    items_complete (length (front ++ behind)) (λ _. SpellsMoreParam bytes) (begins_more_param bytes) (λ x. more_param_at x bytes) (BeginsPart bytes) (more_param_filled bytes) (λ at ts ys zs us x p _. more_param_read bytes ts ys zs us x p) (length (front ++ behind)) 0 front xs had behind r b stop (omega arith) (omega arith)

-- no parameter begins with a `)`
no_round : (bytes : List ℕ) (front added behind : List Token) → SpellsParam bytes front added → is_mark_at bytes (front ++ behind) 0 (codes ")") ≡ false
no_round bytes front added behind (param type name is_type is_name) = first type is_type
  where
    unbalanced : (t : Token) (ts : List Token) (g : Bool) → is_mark bytes t (codes ")") ≡ g → open_in_list bytes [] (t ∷ ts) ≡ Some [] → g ≡ false
    unbalanced t ts false h balanced = refl
    unbalanced t ts true h balanced = absurd (never_some (sym (ap (λ sign. option_and_then (λ next. open_in_list bytes next ts) (after_sign [] sign)) (mark_sign bytes t 41 h)) ∙ balanced))

    first : (xs : List Token) → IsType bytes xs → is_mark_at bytes (xs ++ name ∷ [] ++ behind) 0 (codes ")") ≡ false
    first [] is = absurd (is.filled refl)
    first (t ∷ ts) is = unbalanced t ts (is_mark bytes t (codes ")")) refl is.balanced

params_read : (bytes : List ℕ) (had front xs : List Token) (closing : Token) (rest : List Token) → SpellsParams bytes front xs → IsMark bytes (codes ")") closing → params_at had bytes (front ++ closing ∷ rest) ≡ Some (had ++ xs, closing ∷ rest)
unfolding params_at
params_read bytes had front xs closing rest no_params c = ap (λ g. cond {A = Option (List Token × List Token)} g (Some (had, closing ∷ rest)) (param_at had bytes (closing ∷ rest) >>= λ first. more_params_at first.0 bytes first.1)) c ∙ ap (λ ys. Some (ys, closing ∷ rest)) (sym (append-nil had))
params_read bytes had front xs closing rest (some_params first more names others p q) c =
    let m = more_params_read bytes (had ++ names) more others (closing ∷ rest) q (round_parts bytes closing c) (no_other_mark bytes closing (codes ")") (codes ",") c refl) in
    let e = append_assoc first more (closing ∷ rest) in
    ap (λ g. cond {A = Option (List Token × List Token)} g (Some (had, (first ++ more) ++ closing ∷ rest)) (param_at had bytes ((first ++ more) ++ closing ∷ rest) >>= λ first. more_params_at first.0 bytes first.1)) (ap (λ ts. is_mark_at bytes ts 0 (codes ")")) e ∙ no_round bytes first names (more ++ closing ∷ rest) p)
    ∙ ap (λ ts. param_at had bytes ts >>= λ first. more_params_at first.0 bytes first.1) e
    ∙ both_give (param_at had bytes (first ++ (more ++ closing ∷ rest))) _ (had ++ names, more ++ closing ∷ rest) _ (param_read bytes had first names (more ++ closing ∷ rest) p m.1) (m.0 ∙ ap (λ ys. Some (ys, closing ∷ rest)) (append_assoc had names others))

list_read : (bytes : List ℕ) (had front xs rest : List Token) → SpellsList bytes front xs → list_at had bytes (front ++ rest) ≡ Some (had ++ xs, rest)
unfolding list_at
list_read bytes had front xs rest (list opening params closing names o p c) =
    both_give (mark_at bytes (codes "(") (opening ∷ (params ++ closing ∷ []) ++ rest)) _ ((params ++ closing ∷ []) ++ rest) _ (mark_is bytes (codes "(") opening ((params ++ closing ∷ []) ++ rest) o)
    (both_give (params_at had bytes ((params ++ closing ∷ []) ++ rest)) _ (had ++ names, closing ∷ rest) _ (ap (params_at had bytes) (append_assoc params (closing ∷ []) rest) ∙ params_read bytes had params names closing rest p c)
    (both_give (mark_at bytes (codes ")") (closing ∷ rest)) _ rest _ (mark_is bytes (codes ")") closing rest c) refl))

list_begins : (bytes : List ℕ) (front xs rest : List Token) → SpellsList bytes front xs → is_mark_at bytes (front ++ rest) 0 (codes "(") ≡ true
list_begins bytes front xs rest (list opening params closing names o p c) = o

-- advice

run_read : (bytes : List ℕ) (run rest : List Token) → RunsToEnd bytes run → run_at bytes (run ++ rest) ≡ Some rest
unfolding run_at
run_read bytes run rest r = passed_complete run rest _ (member_complete bytes run rest r)

pointcut_read : (bytes : List ℕ) (colon : Token) (run rest : List Token) → IsMark bytes (codes ":") colon → RunsToEnd bytes run → pointcut_at bytes (colon ∷ run ++ rest) ≡ Some rest
unfolding pointcut_at
pointcut_read bytes colon run rest c r = both_give (mark_at bytes (codes ":") (colon ∷ run ++ rest)) (run_at bytes) (run ++ rest) _ (mark_is bytes (codes ":") colon (run ++ rest) c) (run_read bytes run rest r)

outcome_read : (bytes word : List ℕ) (had front xs rest : List Token) → SpellsOutcome bytes word front xs → is_word_at bytes rest 0 word ≡ false → is_mark_at bytes rest 0 (codes "(") ≡ false → outcome_at word had bytes (front ++ rest) ≡ Some (had ++ xs, rest)
unfolding outcome_at optional_list_at
outcome_read bytes word had front xs rest missing no_word no_list =
    ap (λ g. cond {A = Option (List Token × List Token)} g (any_word_at rest >>= optional_list_at had bytes) (Some (had, rest))) no_word ∙ ap (λ ys. Some (ys, rest)) (sym (append-nil had))
outcome_read bytes word had front xs rest (alone t w) no_word no_list =
    ap (λ g. cond {A = Option (List Token × List Token)} g (any_word_at (t ∷ rest) >>= optional_list_at had bytes) (Some (had, t ∷ rest))) w
    ∙ both_give (any_word_at (t ∷ rest)) (optional_list_at had bytes) rest _ (word_read t rest (word_kind bytes t word w))
    (ap (λ g. cond {A = Option (List Token × List Token)} g (list_at had bytes rest) (Some (had, rest))) no_list ∙ ap (λ ys. Some (ys, rest)) (sym (append-nil had)))
outcome_read bytes word had front xs rest (with_list t params names w l) no_word no_list =
    ap (λ g. cond {A = Option (List Token × List Token)} g (any_word_at (t ∷ params ++ rest) >>= optional_list_at had bytes) (Some (had, t ∷ params ++ rest))) w
    ∙ both_give (any_word_at (t ∷ params ++ rest)) (optional_list_at had bytes) (params ++ rest) _ (word_read t (params ++ rest) (word_kind bytes t word w))
    (ap (λ g. cond {A = Option (List Token × List Token)} g (list_at had bytes (params ++ rest)) (Some (had, params ++ rest))) (list_begins bytes params names rest l) ∙ list_read bytes had params names rest l)

-- what stands after the names of an advice begins no list and no `returning`
errors_begin : (bytes : List ℕ) (thrown errors : List Token) (colon : Token) (rest : List Token) → SpellsOutcome bytes (codes "throwing") thrown errors → IsMark bytes (codes ":") colon → (is_word_at bytes (thrown ++ colon ∷ rest) 0 (codes "returning") ≡ false) × (is_mark_at bytes (thrown ++ colon ∷ rest) 0 (codes "(") ≡ false)
errors_begin bytes thrown errors colon rest missing c = (no_word bytes colon (codes ":") (codes "returning") c, no_other_mark bytes colon (codes ":") (codes "(") c refl)
errors_begin bytes thrown errors colon rest (alone t w) c = (no_other_word bytes t (codes "throwing") (codes "returning") w refl, no_mark bytes t (codes "(") (word_kind bytes t (codes "throwing") w))
errors_begin bytes thrown errors colon rest (with_list t params names w l) c = (no_other_word bytes t (codes "throwing") (codes "returning") w refl, no_mark bytes t (codes "(") (word_kind bytes t (codes "throwing") w))

before_read : (bytes : List ℕ) (word : Token) (params names : List Token) (colon : Token) (run rest : List Token) → IsWord bytes (codes "before") word → SpellsList bytes params names → IsMark bytes (codes ":") colon → RunsToEnd bytes run → before_at bytes (word ∷ params ++ colon ∷ run ++ rest) ≡ Some (Known names, rest)
unfolding before_at
before_read bytes word params names colon run rest w l c r =
    let e = append_assoc params (colon ∷ run) rest in
    ap (λ ts. before_at bytes (word ∷ ts)) e
    ∙ both_give (any_word_at (word ∷ (params ++ (colon ∷ run ++ rest)))) _ (params ++ (colon ∷ run ++ rest)) _ (word_read word _ (word_kind bytes word (codes "before") w))
    (both_give (list_at [] bytes (params ++ (colon ∷ run ++ rest))) _ (names, colon ∷ run ++ rest) _ (list_read bytes [] params names (colon ∷ run ++ rest) l)
    (both_give (pointcut_at bytes (colon ∷ run ++ rest)) _ rest _ (pointcut_read bytes colon run rest c r) refl))

-- where an `after` goes on after its list
after_tail : (bytes : List ℕ) (names returned results thrown errors : List Token) (colon : Token) (run rest : List Token) → SpellsOutcome bytes (codes "returning") returned results → SpellsOutcome bytes (codes "throwing") thrown errors → IsMark bytes (codes ":") colon → RunsToEnd bytes run → (outcome_at (codes "returning") names bytes (returned ++ (thrown ++ (colon ∷ run ++ rest))) ≡ Some (names ++ results, thrown ++ (colon ∷ run ++ rest))) × (outcome_at (codes "throwing") (names ++ results) bytes (thrown ++ (colon ∷ run ++ rest)) ≡ Some (names ++ results ++ errors, colon ∷ run ++ rest)) × (pointcut_at bytes (colon ∷ run ++ rest) ≡ Some rest)
after_tail bytes names returned results thrown errors colon run rest u v c r =
    let b = errors_begin bytes thrown errors colon (run ++ rest) v c in (
      outcome_read bytes (codes "returning") names returned results (thrown ++ (colon ∷ run ++ rest)) u b.0 b.1,
      outcome_read bytes (codes "throwing") (names ++ results) thrown errors (colon ∷ run ++ rest) v (no_word bytes colon (codes ":") (codes "throwing") c) (no_other_mark bytes colon (codes ":") (codes "(") c refl),
      pointcut_read bytes colon run rest c r,
    )

regrouped : (a b c d rest : List Token) → (a ++ b ++ c ++ d) ++ rest ≡ a ++ (b ++ (c ++ (d ++ rest)))
regrouped a b c d rest = simp append_assoc

after_read : (bytes : List ℕ) (word : Token) (params names returned results thrown errors : List Token) (colon : Token) (run rest : List Token) → IsWord bytes (codes "after") word → SpellsList bytes params names → SpellsOutcome bytes (codes "returning") returned results → SpellsOutcome bytes (codes "throwing") thrown errors → IsMark bytes (codes ":") colon → RunsToEnd bytes run → after_at bytes ((word ∷ params ++ returned ++ thrown ++ colon ∷ run) ++ rest) ≡ Some (Known (names ++ results ++ errors), rest)
unfolding after_at
after_read bytes word params names returned results thrown errors colon run rest w l u v c r =
    let tail : List Token = returned ++ (thrown ++ (colon ∷ run ++ rest)) in
    let t = after_tail bytes names returned results thrown errors colon run rest u v c r in
    ap (λ ts. after_at bytes (word ∷ ts)) (regrouped params returned thrown (colon ∷ run) rest)
    ∙ both_give (any_word_at (word ∷ (params ++ (returned ++ (thrown ++ (colon ∷ run ++ rest)))))) _ (params ++ (returned ++ (thrown ++ (colon ∷ run ++ rest)))) _ (word_read word _ (word_kind bytes word (codes "after") w))
    (both_give (list_at [] bytes (params ++ (returned ++ (thrown ++ (colon ∷ run ++ rest))))) _ (names, returned ++ (thrown ++ (colon ∷ run ++ rest))) _ (list_read bytes [] params names (returned ++ (thrown ++ (colon ∷ run ++ rest))) l)
    (both_give (outcome_at (codes "returning") names bytes (returned ++ (thrown ++ (colon ∷ run ++ rest)))) _ (names ++ results, thrown ++ (colon ∷ run ++ rest)) _ t.0
    (both_give (outcome_at (codes "throwing") (names ++ results) bytes (thrown ++ (colon ∷ run ++ rest))) _ (names ++ results ++ errors, colon ∷ run ++ rest) _ t.1
    (both_give (pointcut_at bytes (colon ∷ run ++ rest)) _ rest _ t.2 refl))))

advice_choice : (bytes : List ℕ) (tokens : List Token) (g k : Bool) → is_word_at bytes tokens 0 (codes "before") ≡ g → is_word_at bytes tokens 0 (codes "after") ≡ k → advice_at bytes tokens ≡ cond {A = Option (Advice × List Token)} g (before_at bytes tokens) (cond {A = Option (Advice × List Token)} k (after_at bytes tokens) (other_at bytes tokens))
unfolding advice_at
advice_choice bytes tokens g k h e = λ i. cond {A = Option (Advice × List Token)} (h i) (before_at bytes tokens) (cond {A = Option (Advice × List Token)} (e i) (after_at bytes tokens) (other_at bytes tokens))

other_read : (bytes : List ℕ) (t : Token) (more rest : List Token) → BeginsOther bytes t → RunsToEnd bytes (t ∷ more) → other_at bytes (t ∷ more ++ rest) ≡ Some (Other t.line, rest)
unfolding other_at
other_read bytes t more rest b r =
    (λ i. cond {A = Option (Advice × List Token)} (b.no_end i || b.no_block i) None (run_at bytes (t ∷ more ++ rest) >>= λ behind. Some (Other t.line, behind)))
    ∙ both_give (run_at bytes (t ∷ more ++ rest)) _ rest _ (run_read bytes (t ∷ more) rest r) refl

advice_read : (bytes : List ℕ) (front : List Token) (a : Advice) (rest : List Token) → SpellsAdvice bytes front a → advice_at bytes (front ++ rest) ≡ Some (a, rest)
advice_read bytes front a rest (before word params names colon run w l c r) =
    advice_choice bytes ((word ∷ params ++ colon ∷ run) ++ rest) true false w (no_other_word bytes word (codes "before") (codes "after") w refl) ∙ before_read bytes word params names colon run rest w l c r
advice_read bytes front a rest (after word params names returned results thrown errors colon run w l u v c r) =
    advice_choice bytes ((word ∷ params ++ returned ++ thrown ++ colon ∷ run) ++ rest) false true (no_other_word bytes word (codes "after") (codes "before") w refl) w ∙ after_read bytes word params names returned results thrown errors colon run rest w l u v c r
advice_read bytes front a rest (other first more b r) =
    advice_choice bytes (first ∷ more ++ rest) false false b.not_before b.not_after ∙ other_read bytes first more rest b r

-- events and declarations

event_read : (bytes : List ℕ) (had : List Mention) (front : List Token) (e : Mention) (rest : List Token) → SpellsEvent bytes front e → event_at had bytes (front ++ rest) ≡ Some (had ++ e ∷ [], rest)
unfolding event_at creation_at
event_read bytes had front e rest (event word name said a w n s) =
    both_give (cond {A = Option (Bool × List Token)} (is_word bytes word (codes "creation")) _ (Some (false, word ∷ name ∷ said ++ rest))) _ (false, word ∷ name ∷ said ++ rest) _ (ap (λ g. cond {A = Option (Bool × List Token)} g (any_word_at (word ∷ name ∷ said ++ rest) >>= λ behind. Some (true, behind)) (Some (false, word ∷ name ∷ said ++ rest))) (no_other_word bytes word (codes "event") (codes "creation") w refl))
    (both_give (any_word_at (word ∷ name ∷ said ++ rest)) _ (name ∷ said ++ rest) _ (word_read word (name ∷ said ++ rest) (word_kind bytes word (codes "event") w))
    (both_give (name_at bytes (name ∷ said ++ rest)) _ (name, said ++ rest) _ (name_is bytes name (said ++ rest) n)
    (both_give (advice_at bytes (said ++ rest)) _ (a, rest) _ (advice_read bytes said a rest s) refl)))
event_read bytes had front e rest (creation_event creates word name said a k w n s) =
    both_give (cond {A = Option (Bool × List Token)} (is_word bytes creates (codes "creation")) (any_word_at (creates ∷ word ∷ name ∷ said ++ rest) >>= λ behind. Some (true, behind)) (Some (false, creates ∷ word ∷ name ∷ said ++ rest))) _ (true, word ∷ name ∷ said ++ rest) _ (ap (λ g. cond {A = Option (Bool × List Token)} g (any_word_at (creates ∷ word ∷ name ∷ said ++ rest) >>= λ behind. Some (true, behind)) (Some (false, creates ∷ word ∷ name ∷ said ++ rest))) k ∙ both_give (any_word_at (creates ∷ word ∷ name ∷ said ++ rest)) _ (word ∷ name ∷ said ++ rest) _ (word_read creates (word ∷ name ∷ said ++ rest) (word_kind bytes creates (codes "creation") k)) refl)
    (both_give (any_word_at (word ∷ name ∷ said ++ rest)) _ (name ∷ said ++ rest) _ (word_read word (name ∷ said ++ rest) (word_kind bytes word (codes "event") w))
    (both_give (name_at bytes (name ∷ said ++ rest)) _ (name, said ++ rest) _ (name_is bytes name (said ++ rest) n)
    (both_give (advice_at bytes (said ++ rest)) _ (a, rest) _ (advice_read bytes said a rest s) refl)))

-- the last token of a member is no word
last_no_word : (bytes : List ℕ) (t : Token) (g : Bool) → is_word_kind t.kind ≡ g → may_end (member_sign bytes t) ≡ true → g ≡ false
last_no_word bytes t false h ends = refl
last_no_word bytes t true h ends = absurd (never_both _ ends (ap (λ s. may_end (without_angles s)) (word_sign bytes t h)))

no_such_word : (bytes : List ℕ) (t : Token) (w : List ℕ) → is_word_kind t.kind ≡ false → is_word bytes t w ≡ false
no_such_word bytes t w h = ap (λ k. k && bytes_eq (text_of bytes t) w) h

no_such_name : (bytes : List ℕ) (t : Token) → is_word_kind t.kind ≡ false → is_name bytes t ≡ false
no_such_name bytes t h = ap (λ k. k && is_name_text (text_of bytes t)) h

-- what begins no event and no property doesn't with what follows
no_event_whole : (bytes : List ℕ) (run rest : List Token) → RunsToEnd bytes run → begins_event bytes run ≡ false → begins_event bytes (run ++ rest) ≡ false
no_event_whole bytes [] rest r h = absurd (nothing_ends bytes [] r.ends)
no_event_whole bytes (a ∷ []) rest r h =
    let k = last_no_word bytes a (is_word_kind a.kind) refl r.ends.ended in
    λ i. no_such_word bytes a (codes "event") k i && is_name_at bytes rest 0 || no_such_word bytes a (codes "creation") k i && is_word_at bytes rest 0 (codes "event") && is_name_at bytes rest 1
no_event_whole bytes (a ∷ b ∷ []) rest r h =
    let k = last_no_word bytes b (is_word_kind b.kind) refl r.ends.ended in
    (λ i. is_word bytes a (codes "event") && no_such_name bytes b k i || is_word bytes a (codes "creation") && no_such_word bytes b (codes "event") k i && is_name_at bytes rest 0)
    ∙ none (is_word bytes a (codes "event")) (is_word bytes a (codes "creation")) (is_name_at bytes rest 0)
  where
    none : (x y z : Bool) → x && false || y && false && z ≡ false
    none true true z = refl
    none true false z = refl
    none false true z = refl
    none false false z = refl
no_event_whole bytes (a ∷ b ∷ c ∷ more) rest r h = h

no_property_whole : (bytes : List ℕ) (run rest : List Token) → RunsToEnd bytes run → begins_property bytes run ≡ false → begins_property bytes (run ++ rest) ≡ false
no_property_whole bytes [] rest r h = absurd (nothing_ends bytes [] r.ends)
no_property_whole bytes (a ∷ []) [] r h = refl
no_property_whole bytes (a ∷ []) (b ∷ rest) r h = ap (λ g. g && is_mark bytes b (codes ":")) (no_such_name bytes a (last_no_word bytes a (is_word_kind a.kind) refl r.ends.ended))
no_property_whole bytes (a ∷ b ∷ more) rest r h = h

-- a member doesn't begin with what closes the body
no_closing : (bytes : List ℕ) (run rest : List Token) → RunsToEnd bytes run → is_mark_at bytes (run ++ rest) 0 (codes "}") ≡ false
no_closing bytes [] rest r = absurd (nothing_ends bytes [] r.ends)
no_closing bytes (t ∷ ts) rest r = given (is_mark bytes t (codes "}")) refl
  where
    given : (g : Bool) → is_mark bytes t (codes "}") ≡ g → g ≡ false
    given false h = refl
    given true h = absurd (never_some (sym (ap (λ s. option_and_then (λ next. open_after bytes next ts) (after_sign [] (without_angles s))) (mark_sign bytes t 125 h)) ∙ r.ends.closed))

event_begins : (bytes : List ℕ) (front : List Token) (e : Mention) (rest : List Token) → SpellsEvent bytes front e → (begins_event bytes (front ++ rest) ≡ true) × (begins_member bytes (front ++ rest) ≡ true)
event_begins bytes front e rest (event word name said a w n s) =
    let k = word_kind bytes word (codes "event") w in (
      (λ i. w i && n i || is_word bytes word (codes "creation") && is_word bytes name (codes "event") && is_name_at bytes (said ++ rest) 0),
      (λ i. not (no_mark bytes word (codes "}") k i || is_name bytes word && no_mark bytes name (codes ":") (name_kind bytes name n) i)) ∙ ap (λ g. not g) (and_none (is_name bytes word)),
    )
  where
    and_none : (g : Bool) → g && false ≡ false
    and_none true = refl
    and_none false = refl
event_begins bytes front e rest (creation_event creates word name said a k w n s) = (
  (λ i. is_word bytes creates (codes "event") && is_name bytes word || k i && w i && n i) ∙ or_true _,
  (λ i. not (no_mark bytes creates (codes "}") (word_kind bytes creates (codes "creation") k) i || is_name bytes creates && no_mark bytes word (codes ":") (word_kind bytes word (codes "event") w) i)) ∙ ap (λ g. not g) (and_none (is_name bytes creates)),
)
  where
    and_none : (g : Bool) → g && false ≡ false
    and_none true = refl
    and_none false = refl

    or_true : (g : Bool) → g || true ≡ true
    or_true true = refl
    or_true false = refl

member_filled : (bytes : List ℕ) (at : ℕ) (front : List Token) (xs : List Mention) → SpellsMember bytes front xs → 0 < length front
member_filled bytes at front xs (declaration run r e p) = run_filled run r
  where
    run_filled : (ts : List Token) → RunsToEnd bytes ts → 0 < length ts
    run_filled [] r = absurd (nothing_ends bytes [] r.ends)
    run_filled (t ∷ ts) r = omega arith
member_filled bytes at front xs (an_event tokens e s) = event_filled tokens e s
  where
    event_filled : (ts : List Token) (m : Mention) → SpellsEvent bytes ts m → 0 < length ts
    event_filled ts m (event word name said a w n s) = omega arith
    event_filled ts m (creation_event creates word name said a k w n s) = omega arith

member_read : (bytes : List ℕ) (front : List Token) (xs had : List Mention) (rest : List Token) → SpellsMember bytes front xs → Unit {0} → (begins_member bytes (front ++ rest) ≡ true) × (member_at had bytes (front ++ rest) ≡ Some (had ++ xs, rest)) × Unit {0}
unfolding member_at
member_read bytes front xs had rest (declaration run r e p) u = (
  (λ i. not (no_closing bytes run rest r i || no_property_whole bytes run rest r p i)),
  ap (λ g. cond {A = Option (List Mention × List Token)} g (event_at had bytes (run ++ rest)) (run_at bytes (run ++ rest) >>= λ behind. Some (had, behind))) (no_event_whole bytes run rest r e)
      ∙ both_give (run_at bytes (run ++ rest)) _ rest _ (run_read bytes run rest r) (ap (λ ys. Some (ys, rest)) (sym (append-nil had))),
  tt,
)
member_read bytes front xs had rest (an_event tokens e s) u =
    let b = event_begins bytes tokens e rest s in
    (b.1, ap (λ g. cond {A = Option (List Mention × List Token)} g (event_at had bytes (tokens ++ rest)) (run_at bytes (tokens ++ rest) >>= λ behind. Some (had, behind))) b.0 ∙ event_read bytes had tokens e rest s, tt)

members_read : (bytes : List ℕ) (front : List Token) (xs : List Mention) (rest : List Token) → SpelledAnywhere (SpellsMember bytes) front xs → begins_member bytes rest ≡ false → members_at bytes (front ++ rest) ≡ Some (xs, rest)
unfolding folded_at
members_read bytes front xs rest r stop =
    (items_complete (length (front ++ rest)) (λ _. SpellsMember bytes) (begins_member bytes) (λ x. member_at x bytes) (λ _. Unit {0}) (member_filled bytes) (λ at ts ys zs us x p _. member_read bytes ts ys zs us x p) (length (front ++ rest)) 0 front xs [] rest r tt stop (omega arith) (omega arith)).0

-- properties

block_read : (bytes : List ℕ) (total at : ℕ) (opening : Token) (inside : List Token) (closing : Token) (rest : List Token) → IsMark bytes (codes "{") opening → open_after bytes [] inside ≡ Some [] → IsMark bytes (codes "}") closing → at + length ((opening ∷ inside ++ closing ∷ []) ++ rest) ≡ total → block_at total bytes ((opening ∷ inside ++ closing ∷ []) ++ rest) ≡ Some ((at + 1, at + 1 + length inside), rest)
unfolding block_at
block_read bytes total at opening inside closing rest o b c same =
    let counted = length-append (opening ∷ inside ++ closing ∷ []) rest in
    let inner = length-append inside (closing ∷ []) in
    let first : place total ((opening ∷ inside ++ closing ∷ []) ++ rest) + 1 ≡ at + 1 = omega arith in
    let last : place total rest - 1 ≡ at + 1 + length inside = omega arith in
    ap (λ g. cond {A = Option ((ℕ × ℕ) × List Token)} g (run_at bytes ((opening ∷ inside ++ closing ∷ []) ++ rest) >>= λ behind. Some ((place total ((opening ∷ inside ++ closing ∷ []) ++ rest) + 1, place total behind - 1), behind)) None) o
    ∙ both_give (run_at bytes ((opening ∷ inside ++ closing ∷ []) ++ rest)) _ rest _ (run_read bytes (opening ∷ inside ++ closing ∷ []) rest (block_complete bytes opening inside closing o b c)) (λ i. Some ((first i, last i), rest))

handler_filled : (bytes : List ℕ) (at : ℕ) (front : List Token) (xs : List HandlerText) → SpellsHandler bytes at front xs → 0 < length front
handler_filled bytes at front xs (handler sign category opening inside closing s n o b c) = omega arith

sign_stops : (bytes : List ℕ) (sign : Token) (rest : List Token) → IsMark bytes (codes "@") sign → StopsFormula bytes (sign ∷ rest)
sign_stops bytes sign rest s = record {
  ends = λ i. s i || is_mark bytes sign (codes "}") || begins_property bytes (sign ∷ rest);
  no_colon = λ t. ap (λ g. is_name bytes t && g) (no_other_mark bytes sign (codes "@") (codes ":") s refl) ∙ and_none (is_name bytes t);
}
  where
    and_none : (g : Bool) → g && false ≡ false
    and_none true = refl
    and_none false = refl

handler_read : (bytes : List ℕ) (total at : ℕ) (front : List Token) (xs had : List HandlerText) (rest : List Token) → SpellsHandler bytes at front xs → StopsFormula bytes rest → at + length (front ++ rest) ≡ total → (begins_handler bytes (front ++ rest) ≡ true) × (handler_at total had bytes (front ++ rest) ≡ Some (had ++ xs, rest)) × StopsFormula bytes (front ++ rest)
unfolding handler_at
handler_read bytes total at front xs had rest (handler sign category opening inside closing s n o b c) p same =
    let there : at + 2 + length ((opening ∷ inside ++ closing ∷ []) ++ rest) ≡ total = omega arith in
    let first : at + 2 + 1 ≡ at + 3 = omega arith in
    let last : at + 2 + 1 + length inside ≡ at + 3 + length inside = omega arith in (
      s,
      both_give (mark_at bytes (codes "@") (sign ∷ category ∷ (opening ∷ inside ++ closing ∷ []) ++ rest)) _ (category ∷ (opening ∷ inside ++ closing ∷ []) ++ rest) _ (mark_is bytes (codes "@") sign _ s)
          (both_give (name_at bytes (category ∷ (opening ∷ inside ++ closing ∷ []) ++ rest)) _ (category, (opening ∷ inside ++ closing ∷ []) ++ rest) _ (name_is bytes category _ n)
          (both_give (block_at total bytes ((opening ∷ inside ++ closing ∷ []) ++ rest)) _ ((at + 2 + 1, at + 2 + 1 + length inside), rest) _ (block_read bytes total (at + 2) opening inside closing rest o b c there)
          (λ i. Some (had ++ record { category = category; first = first i; last = last i } ∷ [], rest)))),
      sign_stops bytes sign (category ∷ (opening ∷ inside ++ closing ∷ []) ++ rest) s,
    )

handlers_read : (bytes : List ℕ) (total at : ℕ) (front : List Token) (xs : List HandlerText) (rest : List Token) → Spelled (SpellsHandler bytes) at front xs → StopsFormula bytes rest → begins_handler bytes rest ≡ false → at + length (front ++ rest) ≡ total → (handlers_at total bytes (front ++ rest) ≡ Some (xs, rest)) × StopsFormula bytes (front ++ rest)
unfolding folded_at
handlers_read bytes total at front xs rest r p stop same =
    items_complete total (SpellsHandler bytes) (begins_handler bytes) (λ x. handler_at total x bytes) (StopsFormula bytes) (handler_filled bytes) (handler_read bytes total) (length (front ++ rest)) at front xs [] rest r p stop same (omega arith)

-- a property ends before these tokens
record StopsProperty (bytes : List ℕ) (rest : List Token) : Type 0 where
  formula : StopsFormula bytes rest
  no_handler : begins_handler bytes rest ≡ false

property_filled : (bytes : List ℕ) (at : ℕ) (front : List Token) (xs : List Property) → SpellsProperty bytes at front xs → 0 < length front
property_filled bytes at front xs (property logic colon formula handling handlers n c f hs) = omega arith

property_stops : (bytes : List ℕ) (logic colon : Token) (rest : List Token) → IsName bytes logic → IsMark bytes (codes ":") colon → StopsProperty bytes (logic ∷ colon ∷ rest)
property_stops bytes logic colon rest n c = record {
  formula = record {
    ends = (λ i. is_mark bytes logic (codes "@") || is_mark bytes logic (codes "}") || n i && c i) ∙ or_true (is_mark bytes logic (codes "@") || is_mark bytes logic (codes "}"));
    no_colon = λ t. ap (λ g. is_name bytes t && g) (no_mark bytes logic (codes ":") (name_kind bytes logic n)) ∙ and_none (is_name bytes t);
  };
  no_handler = no_mark bytes logic (codes "@") (name_kind bytes logic n);
}
  where
    and_none : (g : Bool) → g && false ≡ false
    and_none true = refl
    and_none false = refl

    or_true : (g : Bool) → g || true ≡ true
    or_true true = refl
    or_true false = refl

closing_stops : (bytes : List ℕ) (closing : Token) (rest : List Token) → IsMark bytes (codes "}") closing → StopsProperty bytes (closing ∷ rest)
closing_stops bytes closing rest c = record {
  formula = record {
    ends = (λ i. is_mark bytes closing (codes "@") || c i || begins_property bytes (closing ∷ rest)) ∙ or_true (is_mark bytes closing (codes "@")) (begins_property bytes (closing ∷ rest));
    no_colon = λ t. ap (λ g. is_name bytes t && g) (no_other_mark bytes closing (codes "}") (codes ":") c refl) ∙ and_none (is_name bytes t);
  };
  no_handler = no_other_mark bytes closing (codes "}") (codes "@") c refl;
}
  where
    and_none : (g : Bool) → g && false ≡ false
    and_none true = refl
    and_none false = refl

    or_true : (g k : Bool) → g || true || k ≡ true
    or_true true k = refl
    or_true false k = refl

property_read : (bytes : List ℕ) (total at : ℕ) (front : List Token) (xs had : List Property) (rest : List Token) → SpellsProperty bytes at front xs → StopsProperty bytes rest → at + length (front ++ rest) ≡ total → (goes_on bytes (front ++ rest) ≡ true) × (property_at total had bytes (front ++ rest) ≡ Some (had ++ xs, rest)) × StopsProperty bytes (front ++ rest)
unfolding property_at
property_read bytes total at front xs had rest (property logic colon formula handling handlers n c f hs) p same =
    let counted = length-append (formula ++ handling) rest in
    let both = length-append formula handling in
    let behind = length-append handling rest in
    let there : at + 2 + length formula + length (handling ++ rest) ≡ total = omega arith in
    let h = handlers_read bytes total (at + 2 + length formula) handling handlers rest hs p.formula p.no_handler there in
    let e = append_assoc formula handling rest in
    let first : place total ((formula ++ handling) ++ rest) ≡ at + 2 = omega arith in
    let last : place total (handling ++ rest) ≡ at + 2 + length formula = omega arith in (
      ap (λ g. not g) (no_mark bytes logic (codes "}") (name_kind bytes logic n)),
      both_give (name_at bytes (logic ∷ colon ∷ (formula ++ handling) ++ rest)) _ (logic, colon ∷ (formula ++ handling) ++ rest) _ (name_is bytes logic _ n)
          (both_give (mark_at bytes (codes ":") (colon ∷ (formula ++ handling) ++ rest)) _ ((formula ++ handling) ++ rest) _ (mark_is bytes (codes ":") colon _ c)
          (both_give (passed ((formula ++ handling) ++ rest) (formula_length bytes ((formula ++ handling) ++ rest))) _ (handling ++ rest) _
          (ap (λ ts. passed ts (formula_length bytes ts)) e ∙ passed_complete formula (handling ++ rest) _ (formula_complete bytes formula (handling ++ rest) f h.1))
          (both_give (handlers_at total bytes (handling ++ rest)) _ (handlers, rest) _ h.0
          (λ i. Some (had ++ record { logic = logic; first = first i; last = last i; handlers = handlers } ∷ [], rest))))),
      property_stops bytes logic colon ((formula ++ handling) ++ rest) n c,
    )

properties_read : (bytes : List ℕ) (total at : ℕ) (front : List Token) (xs : List Property) (closing : Token) → Spelled (SpellsProperty bytes) at front xs → IsMark bytes (codes "}") closing → at + length (front ++ closing ∷ []) ≡ total → (properties_at total bytes (front ++ closing ∷ []) ≡ Some (xs, closing ∷ [])) × StopsProperty bytes (front ++ closing ∷ [])
unfolding folded_at
properties_read bytes total at front xs closing r c same =
    items_complete total (SpellsProperty bytes) (goes_on bytes) (λ x. property_at total x bytes) (StopsProperty bytes) (property_filled bytes) (property_read bytes total) (length (front ++ closing ∷ [])) at front xs [] (closing ∷ []) r (closing_stops bytes closing [] c) (ap (λ g. not g) c) same (omega arith)

-- the file

stops_members : (bytes : List ℕ) (rest : List Token) → StopsProperty bytes rest → begins_member bytes rest ≡ false
stops_members bytes [] p = absurd (never_both false p.formula.ends refl)
stops_members bytes (t ∷ ts) p = stopped (is_mark bytes t (codes "@")) (is_mark bytes t (codes "}")) _ p.no_handler p.formula.ends
  where
    stopped : (x y z : Bool) → x ≡ false → x || y || z ≡ true → not (y || z) ≡ false
    stopped true y z h k = absurd (never_both true refl h)
    stopped false y z h k = ap (λ g. not g) k

body_read : (bytes : List ℕ) (total at : ℕ) (ms : List Modifier) (name : Token) (names within : List Token) (es : List Mention) (ps : List Property) → SpellsBody bytes at within es ps → at + length within ≡ total → file_tail bytes total ms name names within ≡ Some (record { modifiers = ms; name = name; params = names; events = es; properties = ps })
body_read bytes total at ms name names within es ps (body opening members events stating properties closing o m p c) same =
    let e = append_assoc members stating (closing ∷ []) in
    let counted = length-append (members ++ stating) (closing ∷ []) in
    let both = length-append members stating in
    let behind = length-append stating (closing ∷ []) in
    let there : at + 1 + length members + length (stating ++ closing ∷ []) ≡ total = omega arith in
    let r = properties_read bytes total (at + 1 + length members) stating properties closing p c there in
    both_give (mark_at bytes (codes "{") (opening ∷ members ++ stating ++ closing ∷ [])) _ (members ++ stating ++ closing ∷ []) _ (mark_is bytes (codes "{") opening _ o)
    (both_give (members_at bytes (members ++ stating ++ closing ∷ [])) _ (events, stating ++ closing ∷ []) _ (ap (members_at bytes) e ∙ members_read bytes members events (stating ++ closing ∷ []) m (stops_members bytes (stating ++ closing ∷ []) r.1))
    (both_give (properties_at total bytes (stating ++ closing ∷ [])) _ (properties, closing ∷ []) _ r.0
    (both_give (mark_at bytes (codes "}") (closing ∷ [])) _ [] _ (mark_is bytes (codes "}") closing [] c) refl)))

no_clause_begins : (bytes : List ℕ) (front : List Token) (name : Token) (more : List Token) → BeginsNoClause bytes (front ++ name ∷ []) → begins_clause bytes (front ++ name ∷ more) ≡ false
no_clause_begins bytes front name more h = first front h
  where
    neither : (t : Token) (x y : Bool) → is_word bytes t (codes "package") ≡ x → is_word bytes t (codes "import") ≡ y → (BeginsClause bytes t → ⊥) → x || y ≡ false
    neither t true y g k h = absurd (h (inl g))
    neither t false true g k h = absurd (h (inr k))
    neither t false false g k h = refl

    first : (xs : List Token) → BeginsNoClause bytes (xs ++ name ∷ []) → begins_clause bytes (xs ++ name ∷ more) ≡ false
    first [] h = neither name (is_word bytes name (codes "package")) (is_word bytes name (codes "import")) refl refl h
    first (x ∷ xs) h = neither x (is_word bytes x (codes "package")) (is_word bytes x (codes "import")) refl refl h

head_read : (bytes : List ℕ) (total : ℕ) (clauses heading : List Token) (ms : List Modifier) (name : Token) (names d : List Token) → Repeats (SpellsClause bytes) clauses → SpellsHead bytes heading ms name names → frame_at total bytes (clauses ++ (heading ++ d)) ≡ file_tail bytes total ms name names d
unfolding frame_at
head_read bytes total clauses heading ms name names d cs (head modifying modifiers title params titles m n l no_clause) =
    let e = append_assoc modifying (title ∷ params) d in
    let r = modifiers_read bytes modifying modifiers (title ∷ params ++ d) m (name_kind bytes title n) (ap (λ g. not g) (list_begins bytes params titles d l)) in
    both_give (clauses_at bytes (clauses ++ ((modifying ++ title ∷ params) ++ d))) _ (tt, (modifying ++ title ∷ params) ++ d) _ (clauses_read bytes clauses ((modifying ++ title ∷ params) ++ d) cs (ap (begins_clause bytes) e ∙ no_clause_begins bytes modifying title (params ++ d) no_clause))
    (both_give (modifiers_at bytes ((modifying ++ title ∷ params) ++ d)) _ (modifiers, title ∷ params ++ d) _ (ap (modifiers_at bytes) e ∙ r.0)
    (both_give (name_at bytes (title ∷ params ++ d)) _ (title, params ++ d) _ (name_is bytes title (params ++ d) n)
    (both_give (list_at [] bytes (params ++ d)) _ (titles, d) _ (list_read bytes [] params titles d l) refl)))

pub spelled_is_frame : (bytes : List ℕ) (tokens : List Token) (frame : Frame) → Spells bytes tokens frame → frame_of bytes tokens ≡ Some frame
spelled_is_frame bytes tokens frame (file clauses heading modifiers name params within events properties cs h b) =
    let e = append_assoc clauses heading within in
    let counted = length-append (clauses ++ heading) within in
    let both = length-append clauses heading in
    ap (frame_at (length (clauses ++ heading ++ within)) bytes) e
    ∙ head_read bytes (length (clauses ++ heading ++ within)) clauses heading modifiers name params within cs h
    ∙ body_read bytes (length (clauses ++ heading ++ within)) (length clauses + length heading) modifiers name params within events properties b (omega arith)

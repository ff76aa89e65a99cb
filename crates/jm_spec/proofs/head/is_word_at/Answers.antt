use Rattle.std.proofs.Common.{ℕ, ◌≡◌, ◌<◌, true, false, ltb, List, length, get_or, sym, ap, subst, ◌∙◌, arith}
use Rattle.std.specs.Option.{option_map_or}
use Rattle.std.proofs.lemmas.Bool.Decides.{nat_tests}
use Rattle.std.proofs.lemmas.Option.{slice_get-get_or}
use Rattle.jm_text.specs.declared.token.Token.{Token}
use Rattle.jm_text.specs.Spans.{LiesWithin}
use Rattle.jm_text.specs.Texts.{is_word}
use Rattle.jm_reading.specs.Reading.{is_word_at}
use Rattle.jm_spec.proofs.head.is_word_at.Goals as goal

below : (k n : ℕ) → true ≡ ltb k n → k < n
below k n h = grind (arith, nat_tests)

looked_up : (bytes : List ℕ) (tokens : List Token) (k : ℕ) (t : Token) (word : List ℕ) → k < length tokens → t ≡ get_or tokens k t → is_word bytes t word ≡ is_word_at bytes tokens k word
looked_up bytes tokens k t word lt read =
    ap (λ (u : Token). is_word bytes u word) read ∙ sym (ap (λ o. option_map_or (λ (u : Token). is_word bytes u word) o false) (slice_get-get_or tokens k t lt))

pub is_word-requires : goal.is_word-requires
is_word-requires c =
    let found = c.in-Some.ensures.lookup in
    let t = c.in-Some.token.now in
    subst (λ (u : Token). LiesWithin c.args.bytes.now u) (sym found.1) (c.requires c.args.k t (below c.args.k (length c.args.tokens.now) found.0))

pub returns-in-Some : goal.returns-in-Some
returns-in-Some c =
    let found = c.in-Some.ensures.lookup in
    c.is_word.ensures ∙ looked_up c.args.bytes.now c.args.tokens.now c.args.k c.in-Some.token.now c.args.word.now (below c.args.k (length c.args.tokens.now) found.0) found.1

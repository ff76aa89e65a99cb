-- What the loop of `cut` keeps, and what one piece adds.
use Rattle.std.proofs.Common.{◌≡◌, ℕ, zero, suc, ◌+◌, ◌-◌, ◌<◌, ◌≤◌, Bool, true, false, cond, List, [], ◌∷◌, ◌++◌, length, take, drop, Result, Ok, Err, refl, sym, ap, ◌∙◌, subst, append_assoc, length-drop, length-take-le, arith}
use Rattle.std.specs.Prelude.{count_by, ◌==◌}
use Rattle.std.proofs.lemmas.List.Sums.{sum_by-cons, count_by-le-length}
use Rattle.std.proofs.lemmas.List.{drop-drop}
use Rattle.jm_text.specs.declared.token.Token.{Token}
use Rattle.jm_text.specs.declared.token.TokenKind.{TokenKind}
use Rattle.jm_text.specs.declared.piece.Piece.TheVariants.{Gap, Cut, Open}
use Rattle.jm_text.specs.Pieces.{line_feed, piece_of}
use Rattle.jm_text.specs.Tokens.{piece_length, line_after, led_by, tokens_behind, token_list}
use Rattle.jm_text.specs.Spans.{LieInOrder}

-- how many lines end in the bytes
abbrev pub line_feeds : List ℕ → ℕ
line_feeds bytes = count_by (λ b. b == line_feed) bytes

-- the tokens so far, and those of the rest
abbrev pub with_front : List Token → Result (List Token) ℕ → Result (List Token) ℕ
with_front front (Ok tokens) = Ok (front ++ tokens)
with_front front (Err opening) = Err opening

-- the loop's invariant: the tokens so far, and those of the bytes from `start` on, are the tokens of the bytes
pub record TokensBefore (bytes : List ℕ) (tokens : List Token) (start line : ℕ) : Type 0 where
  pub in_range : start ≤ length bytes
  pub few_lines : line ≤ start + 1
  pub in_order : LieInOrder 0 tokens start
  pub whole : with_front tokens (tokens_behind 0 (drop start bytes) start line) ≡ token_list bytes

counted : (ends : Bool) (line more : ℕ) → cond ends (line + 1) line + more ≡ line + (cond ends 1 0 + more)
counted true line more = omega arith
counted false line more = omega arith

-- the line after some bytes, the first of them passed over first
counted_line : (b : ℕ) (bytes : List ℕ) (line : ℕ) → line_after b line + line_feeds bytes ≡ line + line_feeds (b ∷ bytes)
counted_line b bytes line = counted (b == line_feed) line (line_feeds bytes) ∙ ap (λ n. line + n) (sym (sum_by-cons (λ x. cond (x == line_feed) 1 0) b bytes))

-- the bytes of a piece are passed over
passed : (n : ℕ) (bytes : List ℕ) (start line : ℕ) → n ≤ length bytes → tokens_behind n bytes start line ≡ tokens_behind 0 (drop n bytes) (start + n) (line + line_feeds (take n bytes))
passed zero bytes start line h =
    let same : start ≡ start + 0 = omega arith in
    let same_line : line ≡ line + 0 = omega arith in
    λ i. tokens_behind 0 bytes (same i) (same_line i)
passed (suc n) [] start line h = absurd (omega arith)
passed (suc n) (b ∷ bytes) start line h =
    let further : start + 1 + n ≡ start + suc n = omega arith in
    let shorter : n ≤ length bytes = omega arith in
    passed n bytes (start + 1) (line_after b line) shorter ∙ (λ i. tokens_behind 0 (drop n bytes) (further i) (counted_line b (take n bytes) line i))

-- the piece at the front, and the tokens after it
pub front : (bytes : List ℕ) (start line n : ℕ) → 0 < n → n ≤ length bytes → piece_length (piece_of bytes) ≡ n → tokens_behind 0 bytes start line ≡ led_by (piece_of bytes) start line (tokens_behind 0 (drop n bytes) (start + n) (line + line_feeds (take n bytes)))
front [] start line n some fits is_length = absurd (omega arith)
front (b ∷ bytes) start line zero some fits is_length = absurd (omega arith)
front (b ∷ bytes) start line (suc n) some fits is_length =
    let less : suc n - 1 ≡ n = omega arith in
    let taken = ap (λ k. k - 1) is_length ∙ less in
    ap (λ k. led_by (piece_of (b ∷ bytes)) start line (tokens_behind k bytes (start + 1) (line_after b line))) taken
    ∙ ap (led_by (piece_of (b ∷ bytes)) start line) (passed (suc n) (b ∷ bytes) start line fits)

pub front_open : (bytes : List ℕ) (start line : ℕ) → 0 < length bytes → piece_of bytes ≡ Open → tokens_behind 0 bytes start line ≡ Err line
front_open [] start line some is_open = absurd (omega arith)
front_open (b ∷ bytes) start line some is_open = ap (λ p. led_by p start line (tokens_behind (piece_length (piece_of (b ∷ bytes)) - 1) bytes (start + 1) (line_after b line))) is_open

pub with_front-nothing : (r : Result (List Token) ℕ) → with_front [] r ≡ r
with_front-nothing (Ok tokens) = refl
with_front-nothing (Err opening) = refl

with_front-push : (before : List Token) (kind : TokenKind) (n start line : ℕ) (r : Result (List Token) ℕ) → with_front before (led_by (Cut kind n) start line r) ≡ with_front (before ++ record { kind = kind; start = start; end = start + n; line = line } ∷ []) r
with_front-push before kind n start line (Ok tokens) = ap Ok (sym (append_assoc before _ tokens))
with_front-push before kind n start line (Err opening) = refl

-- one token more
LieInOrder-push : (from : ℕ) (tokens : List Token) (to : ℕ) (token : Token) → LieInOrder from tokens to → to ≤ token.start → token.start < token.end → LieInOrder from (tokens ++ token ∷ []) token.end
LieInOrder-push from [] to token order behind some = (omega arith, some, omega arith)
LieInOrder-push from (t ∷ tokens) to token order behind some = (order.0, order.1, LieInOrder-push t.end tokens to token order.2 behind some)

-- the limit may be further on
pub LieInOrder-further : (from : ℕ) (tokens : List Token) (to limit : ℕ) → LieInOrder from tokens to → to ≤ limit → LieInOrder from tokens limit
LieInOrder-further from [] to limit order further = omega arith
LieInOrder-further from (t ∷ tokens) to limit order further = (order.0, order.1, LieInOrder-further t.end tokens to limit order.2 further)

-- nothing is cut yet
pub nothing_before : (bytes : List ℕ) (tokens : List Token) → tokens ≡ [] → TokensBefore bytes tokens 0 1
unfolding token_list
nothing_before bytes tokens none =
    let start : TokensBefore bytes [] 0 1 = record { in_range = omega arith; few_lines = omega arith; in_order = omega arith; whole = with_front-nothing _ } in
    subst (λ ts. TokensBefore bytes ts 0 1) (sym none) start

-- one piece more, of so many bytes
module _ {bytes : List ℕ} {tokens : List Token} {start line : ℕ} (before : TokensBefore bytes tokens start line) (n : ℕ) (some : 0 < n) (fits : n ≤ length (drop start bytes)) where
  behind : Result (List Token) ℕ
  behind = tokens_behind 0 (drop (start + n) bytes) (start + n) (line + line_feeds (take n (drop start bytes)))

  follows : piece_length (piece_of (drop start bytes)) ≡ n → with_front tokens (led_by (piece_of (drop start bytes)) start line behind) ≡ token_list bytes
  unfolding behind
  follows is_length =
      ap (λ bs. with_front tokens (led_by (piece_of (drop start bytes)) start line (tokens_behind 0 bs (start + n) (line + line_feeds (take n (drop start bytes)))))) (sym (drop-drop n start bytes))
      ∙ sym (ap (with_front tokens) (front (drop start bytes) start line n some fits is_length))
      ∙ before.whole

  lines : line_feeds (take n (drop start bytes)) ≤ n
  lines = omega (arith, count_by-le-length (λ b. b == line_feed) (take n (drop start bytes)), length-take-le n (drop start bytes) fits)

  inside : start + n ≤ length bytes
  inside = omega (arith, length-drop start bytes, before.in_range)

  pub gap_more : piece_of (drop start bytes) ≡ Gap n → TokensBefore bytes tokens (start + n) (line + line_feeds (take n (drop start bytes)))
  unfolding behind
  gap_more is_gap = record {
    in_range = inside;
    few_lines = omega (arith, lines, before.few_lines);
    in_order = LieInOrder-further 0 tokens start (start + n) before.in_order (omega arith);
    whole = ap (λ p. with_front tokens (led_by p start line behind)) (sym is_gap) ∙ follows (ap piece_length is_gap);
  }

  pub token_more : (kind : TokenKind) → piece_of (drop start bytes) ≡ Cut kind n → TokensBefore bytes (tokens ++ record { kind = kind; start = start; end = start + n; line = line } ∷ []) (start + n) (line + line_feeds (take n (drop start bytes)))
  unfolding behind
  token_more kind is_token = record {
    in_range = inside;
    few_lines = omega (arith, lines, before.few_lines);
    in_order = LieInOrder-push 0 tokens start _ before.in_order (omega arith) (omega arith);
    whole = sym (with_front-push tokens kind n start line behind) ∙ ap (λ p. with_front tokens (led_by p start line behind)) (sym is_token) ∙ follows (ap piece_length is_token);
  }

-- the same, as the loop names the values
pub arrived : (bytes : List ℕ) (tokens so_far : List Token) (start n line end feeds : ℕ) → TokensBefore bytes tokens (start + n) (line + line_feeds (take n (drop start bytes))) → so_far ≡ tokens → end ≡ start + n → feeds ≡ line_feeds (take (end - start) (drop start bytes)) → TokensBefore bytes so_far end (line + feeds)
arrived bytes tokens so_far start n line end feeds more same_tokens end_is counts =
    let length_is : end - start ≡ n = omega arith in
    let same_feeds = counts ∙ ap (λ k. line_feeds (take k (drop start bytes))) length_is in
    subst (λ ts. TokensBefore bytes ts end (line + feeds)) (sym same_tokens)
    (subst (λ e. TokensBefore bytes tokens e (line + feeds)) (sym end_is)
    (subst (λ k. TokensBefore bytes tokens (start + n) (line + k)) (sym same_feeds) more))

use Rattle.std.proofs.Common.{◌≡◌, List, ℕ, Result, Ok, Err, IfOk, IfErr, refl, sym, ◌∙◌, subst, length}
use Rattle.std.specs.Prelude.{All}
use Rattle.jm_model.specs.declared.fault.SpecError.{SpecError}
use Rattle.jm_model.specs.declared.fault.SpecError.TheVariants.{Bad, NoMemory}
use Rattle.jm_model.specs.declared.fault.SpecFault.TheVariants.{Syntax}
use Rattle.jm_text.specs.declared.token.Token.{Token}
use Rattle.jm_spec.specs.declared.frame.Frame.{Frame}
use Rattle.jm_reading.specs.Answers.{FailsAt, Gives}
use Rattle.jm_spec.specs.Rules.{frame_at, frame_of}
use Rattle.jm_spec.specs.Spelling.{Spells}
use Rattle.jm_spec.specs.Trees.{IsUnspelled, HasRange}
use Rattle.jm_spec.proofs.SoundLemmas.{frame_is_spelled}
use Rattle.jm_spec.proofs.CompleteLemmas.{spelled_is_frame}
use Rattle.jm_spec.proofs.RangeLemmas.{formulas_lie_within}
use Rattle.jm_spec.proofs.RepeatLemmas.{never_some}
use Rattle.jm_spec.proofs.spec.read_frame.Goals as goal

fails_where : (bytes : List ℕ) (tokens : List Token) (e : SpecError) → FailsAt e (frame_of bytes tokens) → IsUnspelled bytes tokens e
fails_where bytes tokens NoMemory h = tt
fails_where bytes tokens (Bad (Syntax line)) h = λ frame said. never_some (sym h ∙ spelled_is_frame bytes tokens frame said)
fails_where bytes tokens (Bad _) h = absurd h

-- what the reader answers, as it names the values
given_as : (bytes here : List ℕ) (tokens rest : List Token) (total : ℕ) (r : Result Frame SpecError) → here ≡ bytes → rest ≡ tokens → total ≡ length tokens → Gives r (frame_at total here rest) → Gives r (frame_of bytes tokens)
given_as bytes here tokens rest total r same all count h = subst (Gives r) (λ i. frame_at (count i) (same i) (all i)) h

spelled : (bytes : List ℕ) (tokens : List Token) (r : Result Frame SpecError) → Gives r (frame_of bytes tokens) → IfOk r (Spells bytes tokens)
spelled bytes tokens (Ok frame) h = frame_is_spelled bytes tokens frame h
spelled bytes tokens (Err e) h = tt

ranged : (bytes : List ℕ) (tokens : List Token) (r : Result Frame SpecError) → Gives r (frame_of bytes tokens) → IfOk r (λ frame. All (HasRange (length tokens)) frame.properties)
ranged bytes tokens (Ok frame) h = formulas_lie_within bytes tokens frame (frame_is_spelled bytes tokens frame h)
ranged bytes tokens (Err e) h = tt

unspelled : (bytes : List ℕ) (tokens : List Token) (r : Result Frame SpecError) → Gives r (frame_of bytes tokens) → IfErr r (IsUnspelled bytes tokens)
unspelled bytes tokens (Ok frame) h = tt
unspelled bytes tokens (Err e) h = fails_where bytes tokens e h

pub returns-clause-ok : goal.returns-clause-ok
returns-clause-ok c = spelled _ _ _ (given_as c.args.bytes.now _ c.args.tokens.now _ _ _ c.new-cursor.ensures.bytes c.new-cursor.ensures.rest refl c.file.ensures)

pub returns-clause-ranges : goal.returns-clause-ranges
returns-clause-ranges c = ranged _ _ _ (given_as c.args.bytes.now _ c.args.tokens.now _ _ _ c.new-cursor.ensures.bytes c.new-cursor.ensures.rest refl c.file.ensures)

pub returns-clause-err : goal.returns-clause-err
returns-clause-err c = unspelled _ _ _ (given_as c.args.bytes.now _ c.args.tokens.now _ _ _ c.new-cursor.ensures.bytes c.new-cursor.ensures.rest refl c.file.ensures)

-- What a call takes and leaves, by the calls that it makes.
use Rattle.std.proofs.Common.{◌≡◌, ◌∙◌, ℕ, true, false, List, [], ◌∷◌, Ok, Err, refl, sym, ap, subst}
use Rattle.std.proofs.lemmas.Bool.{false≢true}
use Rattle.std.specs.Prelude.{Option, Some, None, Result}
use Rattle.jm_model.specs.declared.fault.SpecError.{SpecError}
use Rattle.jm_model.specs.declared.fault.SpecError.TheVariants.{Bad, NoMemory}
use Rattle.jm_model.specs.declared.fault.SpecFault.TheVariants.{Syntax}
use Rattle.jm_text.specs.declared.token.Token.{Token}
use Rattle.jm_reading.specs.declared.cursor.Cursor.{Cursor}
use Rattle.jm_reading.specs.Answers.{FailsAt, IsSyntax, Leaves}
use Rattle.jm_reading.specs.Reading.{◌>>=◌, is_left}
use Rattle.jm_reading.specs.Taking.{Rule, Takes}
use Rattle.jm_reading.proofs.LoopLemmas.{fails_too}
use Rattle.jm_spec.specs.Rules.{at_end}

-- a call takes what another takes, whose rule reads the same from where that one begins
pub takes_same : {X : Type 0} (old mid new : Cursor) (r : Result X SpecError) (f g : Rule X) → mid.bytes.now ≡ old.bytes.now → f mid.bytes.now mid.rest.now ≡ g old.bytes.now old.rest.now → Takes mid r new f → Takes old r new g
takes_same {X} old mid new (Ok x) f g bytes same h = (h.0 ∙ bytes, sym same ∙ h.1)
takes_same {X} old mid new (Err e) f g bytes same h = subst (λ (o : Option (X × List Token)). FailsAt e o) same h

-- and likewise what it leaves
pub leaves_same : {X : Type 0} (r : Result X SpecError) (left : List Token) (f g : Option (List Token)) → f ≡ g → Leaves r left f → Leaves r left g
leaves_same r left f g same h = subst (λ o. Leaves r left o) same h

-- where the first part of a rule reads nothing, the rule reads nothing
pub fails_first : {X Y : Type 0} (e : SpecError) (read : Option X) (rest : X → Option Y) → FailsAt e read → FailsAt e (read >>= rest)
fails_first {X} {Y} e read rest fails = fails_too e read (read >>= rest) fails (λ is. ap (λ o. o >>= rest) is)

-- a call that answers the fault of the grammar fails where the rule reads nothing
pub fails_at_none : {X : Type 0} (e : SpecError) (read : Option X) → IsSyntax e → read ≡ None → FailsAt e read
fails_at_none NoMemory read h none = tt
fails_at_none (Bad (Syntax line)) read h none = none
fails_at_none (Bad _) read h none = h

-- nothing stands after, or something does
pub none_behind : {X : Type 0} (x : X) (bytes : List ℕ) (rest : List Token) → is_left bytes rest ≡ false → at_end x rest ≡ Some x
none_behind x bytes [] h = refl
none_behind x bytes (t ∷ ts) h = absurd (false≢true (sym h))

pub some_behind : {X : Type 0} (x : X) (bytes : List ℕ) (rest : List Token) → is_left bytes rest ≡ true → at_end x rest ≡ None
some_behind x bytes [] h = absurd (false≢true h)
some_behind x bytes (t ∷ ts) h = refl

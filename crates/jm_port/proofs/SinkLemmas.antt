use Rattle.std.proofs.Common.{ℕ, ◌≡◌, ◌+◌, List, ◌++◌, Option, Some, None, ◌-◌, length, take, drop, refl, ap, arith, append_assoc}
use Rattle.std.proofs.Math.Seq.{take-add}
use Rattle.std.proofs.lemmas.List.{take-append-drop, length-drop, take_all}
use Rattle.jm_port.specs.Sinks.{appended, AppendsPrefix}

-- two pieces appended, one after the other
pub appended-appended : (written : Option (List ℕ)) (a b : List ℕ) → appended (appended written a) b ≡ appended written (a ++ b)
appended-appended None a b = refl
appended-appended (Some text) a b = ap Some (append_assoc text a b)

-- a slice from a place on is all that is left
rest_whole : (done : ℕ) (text : List ℕ) → take (length text - done) (drop done text) ≡ drop done text
rest_whole done text = rw (← length-drop done text) (take_all _ (drop done text) (omega arith))

-- the first bytes of the text, and then the first of the rest
pub appended-take : (before middle after : Option (List ℕ)) (done n : ℕ) (text : List ℕ) → middle ≡ appended before (take done text) → after ≡ appended middle (take n (take (length text - done) (drop done text))) → after ≡ appended before (take (done + n) text)
appended-take before middle after done n text e f =
    rw (take-add, ← appended-appended before (take done text) (take n (drop done text)), ← e, ← rest_whole done text) f

-- the first bytes of a text are a prefix of it
pub appends_prefix : (before after : Option (List ℕ)) (done : ℕ) (text : List ℕ) → after ≡ appended before (take done text) → AppendsPrefix before after text
appends_prefix before after done text e = record { piece = take done text; is_prefix = (drop done text, take-append-drop done text); written = e }

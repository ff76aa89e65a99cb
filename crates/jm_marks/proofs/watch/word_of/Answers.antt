use Rattle.jm_marks.proofs.FlagLemmas.{alive_by_bit}
use Rattle.jm_marks.proofs.watch.word_of.Goals as goal

pub returns-then-index-div_ceil : goal.returns-then-index-div_ceil
returns-then-index-div_ceil c = λ o at bit. alive_by_bit _ o _ (λ here. c.word.ensures o here at) bit

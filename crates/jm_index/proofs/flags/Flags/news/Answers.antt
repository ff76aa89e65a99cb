use Rattle.std.proofs.Common.{◌≡◌, get_or, sym, rules}
use Rattle.std.proofs.lemmas.Grind.{get_or_default_zero}
use Rattle.jm_index.proofs.FlagLemmas.{news_bit, news_all}
use Rattle.jm_index.proofs.flags.Flags.news.Goals as goal

pub returns-then-place-known : goal.returns-then-place-known
returns-then-place-known c = λ o at dead kept.
    let read = c.as_slice-known.result.now in
    let i = c.args.index in
    let known = get_or read i 0 in
    let self_default : known ≡ get_or read i known = sym (get_or_default_zero read i known c.if-place-known.true) in
    news_bit _ read _ _ _ known i o c.self.view_is c.as_slice-known.ensures.value c.word-word.ensures c.if-place-known.true self_default (search rules) at dead kept

pub returns : goal.returns
returns c = λ o at dead kept. news_all _ _ _ o c.word-word.ensures at dead

use Rattle.jm_coenable.proofs.SetLemmas.{put_same, put_back, put_more}
use Rattle.jm_coenable.proofs.sets.put.Goals as goal

pub returns-then-not-wanted : goal.returns-then-not-wanted
returns-then-not-wanted c = put_same c.args.sets.now.items c.args.wanted c.args.place c.args.member (λ e. cc)

pub returns-then-contains : goal.returns-then-contains
returns-then-contains c =
    put_back c.args.sets.now.items c.args.wanted c.args.place c.args.member c.index_mut-set.result.now c.index_mut-set.ensures.value c.requires (c.contains.ensures.member.0 c.if-contains.true)

pub returns : goal.returns
returns c =
    put_more c.args.sets.now.items c.args.wanted c.args.place c.args.member c.index_mut-set.result.now c.insert.new.self c.index_mut-set.ensures.value c.requires c.if-not-wanted.false
    c.insert.ensures.member (c.insert.ensures.longer (λ there. absurd (cc (c.contains.ensures.member.1 there, c.if-contains.false)))) c.insert.ensures.bounded

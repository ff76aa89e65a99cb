use Rattle.std.proofs.Common.{◌≡◌, ◌≤◌, ◌+◌, ◌-◌, false, Some, length, sym, ap, ◌∙◌, arith}
use Rattle.std.specs.Str.{bytes_eq}
use Rattle.std.proofs.lemmas.List.{length-map}
use Rattle.jm_events.specs.Hash.{hash_of}
use Rattle.jm_events.specs.Texts.{texts_from}
use Rattle.jm_events.proofs.NameLemmas.{same_name, number_from_place}
use Rattle.jm_events.proofs.TextLemmas.{length-texts_from, hash_at, IsWalk-first, IsWalk-more, IsWalk-none}
use Rattle.jm_events.proofs.names.search.Goals as goal

pub loop-at-init : goal.loop-at-init
loop-at-init c =
    IsWalk-first (texts_from 0 c.args.bytes.now c.args.ends.now) c.args.chains.now.hashes c.args.chains.now.chains c.args.hash c.args.name.now c.first-at.result c.requires.texts.hashed c.requires.hash c.first-at.ensures

pub text_at-text-requires-clause-within : goal.text_at-text-requires-clause-within
text_at-text-requires-clause-within c =
    let texts = texts_from 0 c.args.bytes.now c.args.ends.now in
    let len : length c.args.chains.now.hashes ≡ length c.args.ends.now =
    ap length c.requires.texts.hashed ∙ length-map texts hash_of ∙ length-texts_from 0 c.args.bytes.now c.args.ends.now in
    omega (arith, len, c.loop-at.invariant.within, c.loop-at-test.true)

pub is_same-requires-clause-seen : goal.is_same-requires-clause-seen
is_same-requires-clause-seen c =
    c.hash.ensures ∙ hash_at (texts_from 0 c.args.bytes.now c.args.ends.now) c.args.chains.now.hashes (c.loop-at.at - 1) c.text_at-text.result.now c.requires.texts.hashed c.text_at-text.ensures

pub returns-then-is_same : goal.returns-then-is_same
returns-then-is_same c =
    let same : c.args.name.now ≡ c.text_at-text.result.now = same_name _ _ (sym c.is_same.ensures ∙ c.if-is_same.true) in
    sym (number_from_place (texts_from 0 c.args.bytes.now c.args.ends.now) c.args.name.now (c.loop-at.at - 1) c.requires.texts.distinct (c.text_at-text.ensures ∙ ap Some (sym same)))

pub loop-at-preserved : goal.loop-at-preserved
loop-at-preserved c =
    let from : c.loop-at.at ≡ c.loop-at.at - 1 + 1 = omega (arith, c.loop-at-test.true) in
    let other : bytes_eq c.args.name.now c.text_at-text.result.now ≡ false = sym c.is_same.ensures ∙ c.if-is_same.false in
    IsWalk-more (texts_from 0 c.args.bytes.now c.args.ends.now) c.args.chains.now.hashes c.args.chains.now.chains c.args.hash c.args.name.now c.text_at-text.result.now c.loop-at.at (c.loop-at.at - 1) c.before-at.result c.requires.texts.hashed c.requires.hash from c.text_at-text.ensures other c.before-at.ensures c.loop-at.invariant

pub returns : goal.returns
returns c =
    let none : c.loop-at.at ≤ 0 = omega (arith, c.loop-at-test.false) in
    sym (IsWalk-none (texts_from 0 c.args.bytes.now c.args.ends.now) c.args.chains.now.hashes c.args.chains.now.chains c.args.hash c.args.name.now c.loop-at.at none c.requires.texts.hashed c.loop-at.invariant)

use Rattle.std.proofs.Common.{◌≡◌, ◌<◌, ◌+◌, [], ◌∷◌, ◌++◌, length, sym, ap, ◌∙◌, arith}
use Rattle.jm_events.proofs.TextLemmas.{length-texts_from, texts_from-push, AreTexts-push}
use Rattle.jm_events.proofs.names.Names.append_hashed.Goals as goal

pub invariant_of-self-2 : goal.invariant_of-self-2
invariant_of-self-2 c =
    let bytes = c.self.inside.bytes.items in
    let ends = c.self.inside.ends.items in
    let bytes_are : c.extend_from_slice.new.self.items ≡ c.self.inside.bytes.items ++ c.args.name.now =
    c.in_ok-extend_from_slice.ensures.items ∙ ap (λ name. c.self.inside.bytes.items ++ name) c.as_bytes.ensures.value in
    let end : c.len.result ≡ length c.self.inside.bytes.items + length c.args.name.now = omega (arith, c.in_ok-extend_from_slice.ensures.len) in
    let ends_are : c.push_reserved.new.self.items ≡ c.self.inside.ends.items ++ (length c.self.inside.bytes.items + length c.args.name.now) ∷ [] =
    c.push_reserved.ensures.items ∙ ap (λ ends. ends ++ c.len.result ∷ []) c.reserve-2.ensures.items ∙ ap (λ end. c.self.inside.ends.items ++ end ∷ []) end in
    let hashes_are : c.push_reserved-2.new.self.hashes ≡ c.self.inside.chains.hashes ++ c.args.hash ∷ [] =
    c.push_reserved-2.ensures ∙ ap (λ hashes. hashes ++ c.args.hash ∷ []) c.reserve.ensures.unchanged in
    let new = rw (← c.self.view_is) at c.requires.absent in
    let room = rw (← c.self.view_is) at c.requires.room in
    let few : length c.self.inside.ends.items < 4294967295 = omega (arith, room, length-texts_from 0 c.self.inside.bytes.items c.self.inside.ends.items) in
    rw (bytes_are, ends_are, hashes_are)
    (AreTexts-push bytes ends c.self.inside.chains.hashes c.args.name.now c.args.hash c.self.invariant c.utf8.name new c.requires.hash few)

pub returns-clause-ok : goal.returns-clause-ok
returns-clause-ok c =
    let bytes_are : c.extend_from_slice.new.self.items ≡ c.self.inside.bytes.items ++ c.args.name.now =
    c.in_ok-extend_from_slice.ensures.items ∙ ap (λ name. c.self.inside.bytes.items ++ name) c.as_bytes.ensures.value in
    let end : c.len.result ≡ length c.self.inside.bytes.items + length c.args.name.now = omega (arith, c.in_ok-extend_from_slice.ensures.len) in
    let ends_are : c.push_reserved.new.self.items ≡ c.self.inside.ends.items ++ (length c.self.inside.bytes.items + length c.args.name.now) ∷ [] =
    c.push_reserved.ensures.items ∙ ap (λ ends. ends ++ c.len.result ∷ []) c.reserve-2.ensures.items ∙ ap (λ end. c.self.inside.ends.items ++ end ∷ []) end in
    rw (bytes_are, ends_are, ← c.self.view_is)
    (texts_from-push 0 c.self.inside.bytes.items c.self.inside.ends.items c.args.name.now c.self.invariant.rise)

pub returns-clause-number : goal.returns-clause-number
returns-clause-number c =
    let n : c.len-number.result ≡ length c.self.inside.ends.items = omega arith in
    rw (← c.self.view_is) (n ∙ sym (length-texts_from 0 c.self.inside.bytes.items c.self.inside.ends.items))

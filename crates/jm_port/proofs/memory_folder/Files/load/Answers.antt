use Rattle.std.proofs.Common.{◌≡◌, true, false, Some, ap, sym, ◌∙◌, arith, rules}
use Rattle.std.specs.Str.{bytes_eq}
use Rattle.std.specs.String.{string_bytes}
use Rattle.jm_port.proofs.FileLemmas.{held_by-drop, held_at}
use Rattle.jm_port.proofs.memory_folder.Files.load.Goals as goal

pub returns-then-len-limit-clause-too_long : goal.returns-then-len-limit-clause-too_long
returns-then-len-limit-clause-too_long c =
    let is_name : bytes_eq (string_bytes c.file-item.result.0) c.args.name.now ≡ true = rw (← c.as_str.ensures.value) (sym c.eq.ensures ∙ c.if-eq.true) in
    let held = held_at _ _ _ c.loop-file.file-index c.file-item.result c.args.name.now c.self.view_is (grind arith) (grind arith) is_name c.loop-file.invariant in
    rw held (λ e. grind arith)

pub returns-then-len-limit-clause-some : goal.returns-then-len-limit-clause-some
returns-then-len-limit-clause-some c =
    let is_name : bytes_eq (string_bytes c.file-item.result.0) c.args.name.now ≡ true = rw (← c.as_str.ensures.value) (sym c.eq.ensures ∙ c.if-eq.true) in
    let held = held_at _ _ _ c.loop-file.file-index c.file-item.result c.args.name.now c.self.view_is (grind arith) (grind arith) is_name c.loop-file.invariant in
    rw held (λ e. cc)

pub returns-in_err-to_vec-clause-some : goal.returns-in_err-to_vec-clause-some
returns-in_err-to_vec-clause-some c =
    let is_name : bytes_eq (string_bytes c.file-item.result.0) c.args.name.now ≡ true = rw (← c.as_str.ensures.value) (sym c.eq.ensures ∙ c.if-eq.true) in
    let held = held_at _ _ _ c.loop-file.file-index c.file-item.result c.args.name.now c.self.view_is (grind arith) (grind arith) is_name c.loop-file.invariant in
    rw held (λ e. cc)

pub returns-then-eq-clause-whole : goal.returns-then-eq-clause-whole
returns-then-eq-clause-whole c =
    let is_name : bytes_eq (string_bytes c.file-item.result.0) c.args.name.now ≡ true = rw (← c.as_str.ensures.value) (sym c.eq.ensures ∙ c.if-eq.true) in
    let held = held_at _ _ _ c.loop-file.file-index c.file-item.result c.args.name.now c.self.view_is (grind arith) (grind arith) is_name c.loop-file.invariant in
    let same : c.in_ok-to_vec.field-0.items ≡ c.file-item.result.1.items = search rules in
    held ∙ ap Some (sym same)

pub returns-then-eq-clause-some : goal.returns-then-eq-clause-some
returns-then-eq-clause-some c =
    let is_name : bytes_eq (string_bytes c.file-item.result.0) c.args.name.now ≡ true = rw (← c.as_str.ensures.value) (sym c.eq.ensures ∙ c.if-eq.true) in
    let held = held_at _ _ _ c.loop-file.file-index c.file-item.result c.args.name.now c.self.view_is (grind arith) (grind arith) is_name c.loop-file.invariant in
    rw held (λ e. cc)

pub loop-file-preserved : goal.loop-file-preserved
loop-file-preserved c =
    let is_other : bytes_eq (string_bytes c.file-item.result.0) c.args.name.now ≡ false = rw (← c.as_str.ensures.value) (sym c.eq.ensures ∙ c.if-eq.false) in
    let step = held_by-drop _ _ _ c.loop-file.file-index c.file-item.result c.args.name.now c.self.view_is (grind arith) (grind arith) in
    sym (rw is_other at step) ∙ c.loop-file.invariant

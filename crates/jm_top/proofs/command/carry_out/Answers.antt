use Rattle.std.proofs.Common.{◌≡◌, None, Err, ap}
use Rattle.std.specs.Prelude.{map, string_bytes}
use Rattle.jm_cli.specs.Words.{command_of}
use Rattle.jm_cli.specs.Views.{command_words}
use Rattle.jm_inputs.proofs.JobLemmas.{words_caused, stopped_caused, stopped_before}
use Rattle.jm_top.proofs.EndingLemmas.{writes_text, ends_before, writing_caused, writing_reads_none, unread_before, unread_none}
use Rattle.jm_top.proofs.CommandLemmas.{text_made}
use Rattle.jm_top.proofs.command.carry_out.Goals as goal

pub returns-in-Err-clause-ends : goal.returns-in-Err-clause-ends
returns-in-Err-clause-ends g c =
    let words = map string_bytes c.args.words.now in
    let status = c.in-Err.status in
    let err = c.in-Err.ensures.err in
    ends_before words (g.F.Folder.holds c.args.files.now) status (unread_before (command_of words ≡ None) status err) (words_caused words (g.F.Folder.holds c.args.files.now) status err) _ _ _
    (λ file is. absurd (unread_none (command_of words ≡ None) status err file is))

pub returns-in-Ok-make_text-clause-ends : goal.returns-in-Ok-make_text-clause-ends
returns-in-Ok-make_text-clause-ends g c =
    let words = map string_bytes c.args.words.now in
    let contents = g.F.Folder.holds c.args.files.now in
    let written = rw c.as_slice.ensures.value at c.write.ensures.written in
    record {
      written = writes_text words contents c.write.result _ _ c.in-Ok-make_text.text.items
          (text_made words contents (command_words c.in-Ok.command) c.in-Ok.ensures.spelled c.in-Ok-make_text.text.items c.in-Ok-make_text.ensures.carried_out) written;
      caused = writing_caused words contents c.write.result _ _ _ written;
      read_failed = λ file is. absurd (writing_reads_none c.write.result _ _ _ written file is);
      write_failed = c.write.ensures.write_failed;
    }

pub returns-clause-ends : goal.returns-clause-ends
returns-clause-ends g c =
    let words = map string_bytes c.args.words.now in
    let contents = g.F.Folder.holds c.args.files.now in
    let status = c.in-Err-make_text.status in
    let stopped = c.in-Err-make_text.ensures.carried_out in
    ends_before words contents status (stopped_before contents (command_words c.in-Ok.command) status stopped) (stopped_caused words contents (command_words c.in-Ok.command) c.in-Ok.ensures.spelled _ stopped) _ _ _
    (λ file is. c.in-Err-make_text.ensures.read_failed file (ap (λ s. Err s) is))

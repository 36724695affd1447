use Rattle.std.proofs.Common.{rules, ◌≡◌, ℤ, to_z, of_z, ℕ, true, List, refl, sym, ap, subst, ◌∙◌}
use Rattle.std.specs.Int.{w32}
use Rattle.std.specs.Str.{chars}
use Rattle.py_flat.specs.Calls.{Name}
use Rattle.py_plain.specs.Names.{encoding_name, handler_name}
use Rattle.py_plain_text.specs.TextCalls.{SeekText}
use Rattle.py_read_text.specs.Answers.{Answers, cookie_reply}
use Rattle.py_calls.specs.declared.reply.Reply.{Reply}
use Rattle.py_calls.specs.Calls.{said}
use Rattle.py_open.proofs.Detaching.{answers_call}
use Rattle.py_open.specs.Session.{SaysOrStarves}
use Rattle.py_open.proofs.Names.{encoding_spelled, handler_spelled, other_kind}
use Rattle.py_open.proofs.text_calls.made.Goals as goal

pub returns-in-Read : goal.returns-in-Read
returns-in-Read g c = rw c.in-Read.is (rw c.text_reply.ensures (answers_call _ _ _ _ refl c.read.ensures))

pub returns-in-ReadLine : goal.returns-in-ReadLine
returns-in-ReadLine g c = rw c.in-ReadLine.is (rw c.text_reply-in-ReadLine.ensures (answers_call _ _ _ _ refl c.readline.ensures))

pub returns-in-WriteText : goal.returns-in-WriteText
returns-in-WriteText g c = rw c.in-WriteText.is (rw c.count_reply.ensures (answers_call _ _ _ _ refl (rw (sym c.as_str.ensures) c.write.ensures)))

pub returns-in-SeekText : goal.returns-in-SeekText
returns-in-SeekText g c =
    let is : to_z w32 (of_z w32 c.in-SeekText.whence) ≡ c.in-SeekText.whence = search rules in
    let answers = subst (λ (whence : ℤ). Answers c.args.text.now (SeekText c.as_slice.result.now whence) (cookie_reply c.seek.result) c.seek.new.self) is c.seek.ensures.answers in
    rw c.in-SeekText.is (rw c.cookie_reply.ensures (answers_call _ _ _ _ refl (rw (sym c.as_slice.ensures) answers)))

pub returns-in-Tell : goal.returns-in-Tell
returns-in-Tell g c = rw c.in-Tell.is (rw c.cookie_reply-in-Tell.ensures (answers_call _ _ _ _ refl c.tell.ensures.answers))

pub returns-in-SetChunkSize : goal.returns-in-SetChunkSize
returns-in-SetChunkSize g c = rw c.in-SetChunkSize.is (rw c.done_reply.ensures (answers_call _ _ _ _ refl c.set_chunksize.ensures))

pub returns-in-Reconfigure : goal.returns-in-Reconfigure
returns-in-Reconfigure g c = rw c.in-Reconfigure.is (rw c.done_reply-in-Reconfigure.ensures (answers_call _ _ _ _ refl c.reconfigure.ensures))

pub returns-in-Flush : goal.returns-in-Flush
returns-in-Flush g c = rw c.in-Flush.is (rw c.done_reply-in-Flush.ensures (answers_call _ _ _ _ refl c.flush.ensures))

pub returns-in-Close : goal.returns-in-Close
returns-in-Close g c = rw c.in-Close.is (rw c.done_reply-in-Close.ensures (answers_call _ _ _ _ refl c.close.ensures))

pub returns-in-Detach : goal.returns-in-Detach
returns-in-Detach g c = rw c.in-Detach.is (rw c.unwritten_reply.ensures c.detach.ensures)

pub returns-in-Encoding : goal.returns-in-Encoding
returns-in-Encoding g c = rw c.in-Encoding.is (record {
  says = subst (λ (reply : Reply). SaysOrStarves true (Name (encoding_name c.args.text.now.text.settings.encoding)) (said reply)) (sym c.told-in-Encoding.ensures.reply)
      (subst (λ (name : List ℕ). SaysOrStarves true (Name name) (said c.name_reply.result)) (ap chars c.name.ensures ∙ encoding_spelled c.encoding-encoding.result ∙ ap encoding_name c.encoding-encoding.ensures) c.name_reply.ensures);
  same = c.told-in-Encoding.ensures.whole;
})

pub returns-in-Errors : goal.returns-in-Errors
returns-in-Errors g c = rw c.in-Errors.is (record {
  says = subst (λ (reply : Reply). SaysOrStarves true (Name (handler_name c.args.text.now.text.settings.handler)) (said reply)) (sym c.told-in-Errors.ensures.reply)
      (subst (λ (name : List ℕ). SaysOrStarves true (Name name) (said c.name_reply-in-Errors.result)) (ap chars c.name-in-Errors.ensures ∙ handler_spelled c.errors-errors.result ∙ ap handler_name c.errors-errors.ensures) c.name_reply-in-Errors.ensures);
  same = c.told-in-Errors.ensures.whole;
})

pub returns-in_default : goal.returns-in_default
returns-in_default g c =
    let d = c.in_default in
    rw (other_kind c.args.call.now d.not-Read d.not-ReadLine d.not-WriteText d.not-SetChunkSize d.not-Flush d.not-Close d.not-ChunkSize d.not-Readable d.not-Writable d.not-Seekable d.not-Closed d.not-Encoding d.not-Errors d.not-Reconfigure d.not-Detach d.not-Tell d.not-SeekText) (answers_call _ _ _ _ refl c.refuse.ensures)

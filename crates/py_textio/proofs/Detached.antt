-- A detached text refuses every call but the getters, and stays as it is.
use Rattle.std.proofs.Common.{◌≡◌, inl, false, [], Some, None, refl, arith}
use Rattle.py_flat.specs.declared.fault.IoFault.TheVariants as fault
use Rattle.py_flat.specs.declared.life.Life.TheVariants as life
use Rattle.py_flat.specs.FlatFile.{Abilities}
use Rattle.py_flat.specs.Calls.{Refused}
use Rattle.py_plain_text.specs.TextFile.{TextFile, TextSettings}
use Rattle.py_plain_text.specs.TextCalls.{TextFileCall, SeekText, Close, is_getter}
use Rattle.py_plain_text.specs.TextRefusals.{refusal}
use Rattle.py_stream.specs.Stream.{detached_stream}
use Rattle.py_stream.specs.Buffer.{buffer_of}
use Rattle.py_read_text.specs.Owing.{IsJoined}
use Rattle.py_read_text.specs.Knowing.{from_place}
use Rattle.py_read_text.specs.Answers.{refused_here, closes_again, Answers}
use Rattle.py_textio.specs.Written.{WrittenView, over_of, file_now}
use Rattle.py_textio.specs.Handing.{detached_text}
use Rattle.py_textio.proofs.Refusing.{refused}

-- a text that would be seen so
abbrev gone : Abilities → TextSettings → WrittenView
gone can settings = record {
  text = record { buffer = buffer_of (detached_stream can None) 0; held = from_place settings 0; front = None; at = 0; taken = 0; dirty = false; settings = settings };
  pending = [];
  room = 0;
  life = life.Detached;
}

gone_joined : (can : Abilities) (settings : TextSettings) → IsJoined (over_of (gone can settings))
gone_joined can settings = record { below = inl refl; stands = inl (refl, refl); behind = omega arith; far = omega arith; few = omega arith; lives = λ live. absurd (cc) }

pub gone_refuses : (file : TextFile) (call : TextFileCall) → file.life ≡ life.Detached → is_getter call ≡ false → refusal file call ≡ Some fault.Detached
gone_refuses file call is asks = rw asks (rw is refl)

pub refused_gone : (file : TextFile) (call : TextFileCall) → file.life ≡ life.Detached → is_getter call ≡ false → refused_here file call ≡ Some fault.Detached
refused_gone file (SeekText sought whence) is asks = gone_refuses (record file { bytes = [] }) (SeekText sought whence) is asks
refused_gone file call is asks = gone_refuses file call is asks

never_closes : (call : TextFileCall) → closes_again life.Detached call ≡ false
never_closes Close = refl
never_closes call = refl

pub detached_answers : (can : Abilities) (settings : TextSettings) (call : TextFileCall) → is_getter call ≡ false → Answers (detached_text can settings) call (Refused fault.Detached) (detached_text can settings)
detached_answers can settings call asks = refused (gone can settings) false call fault.Detached (refused_gone (file_now (gone can settings)) call refl asks) refl (never_closes call) (gone_joined can settings)

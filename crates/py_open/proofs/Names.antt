-- Names are spelled by their own characters, and which calls texts don't have.
use Rattle.std.proofs.Common.{◌≡◌, ℕ, ℤ, List, Option, refl}
use Rattle.std.specs.Str.{chars}
use Rattle.py_plain.specs.declared.encoding.Encoding.{Encoding}
use Rattle.py_plain.specs.declared.encoding.Encoding.TheVariants as encoding
use Rattle.py_plain.specs.declared.handler.Handler.{Handler}
use Rattle.py_plain.specs.declared.handler.Handler.TheVariants as handler
use Rattle.py_plain.specs.Names.{encoding_name, handler_name}
use Rattle.py_plain_text.specs.TextCalls as text
use Rattle.py_text.specs.declared.reconfigure.Reconfigure.{Reconfigure}
use Rattle.py_calls.specs.declared.call.Call.{Call}
use Rattle.py_calls.specs.declared.call.Call.TheVariants as call
use Rattle.py_calls.specs.Calls.{text_call}

pub encoding_spelled : (named : Encoding) → chars (encoding_name named) ≡ encoding_name named
unfolding chars
encoding_spelled encoding.Utf8 = refl
encoding_spelled encoding.Latin1 = refl
encoding_spelled encoding.Ascii = refl
encoding_spelled encoding.Utf16Le = refl
encoding_spelled encoding.Utf16Be = refl

pub handler_spelled : (named : Handler) → chars (handler_name named) ≡ handler_name named
unfolding chars
handler_spelled handler.Strict = refl
handler_spelled handler.Ignore = refl
handler_spelled handler.Replace = refl
handler_spelled handler.XmlCharRefReplace = refl
handler_spelled handler.BackslashReplace = refl
handler_spelled handler.SurrogatePass = refl
handler_spelled handler.SurrogateEscape = refl

-- a call that is none of those that a text has is of another kind
pub other_kind : (made : Call) → ((size : Option ℕ) → made ≡ call.Read size → ⊥) → ((limit : Option ℕ) → made ≡ call.ReadLine limit → ⊥) → ((written : List ℕ) → made ≡ call.WriteText written → ⊥) → ((size : ℕ) → made ≡ call.SetChunkSize size → ⊥) → (made ≡ call.Flush → ⊥) → (made ≡ call.Close → ⊥) → (made ≡ call.ChunkSize → ⊥) → (made ≡ call.Readable → ⊥) → (made ≡ call.Writable → ⊥) → (made ≡ call.Seekable → ⊥) → (made ≡ call.Closed → ⊥) → (made ≡ call.Encoding → ⊥) → (made ≡ call.Errors → ⊥) → ((changes : Reconfigure) → made ≡ call.Reconfigure changes → ⊥) → (made ≡ call.Detach → ⊥) → (made ≡ call.Tell → ⊥) → ((cookie : List ℕ) (whence : ℤ) → made ≡ call.SeekText cookie whence → ⊥) → text_call made ≡ text.OtherKind
other_kind (call.Read size) a b c d e f g h i j k l m n o p q = absurd (a size refl)
other_kind (call.ReadLine limit) a b c d e f g h i j k l m n o p q = absurd (b limit refl)
other_kind (call.WriteText written) a b c d e f g h i j k l m n o p q = absurd (c written refl)
other_kind (call.SetChunkSize size) a b c d e f g h i j k l m n o p q = absurd (d size refl)
other_kind call.Flush a b c d e f g h i j k l m n o p q = absurd (e refl)
other_kind call.Close a b c d e f g h i j k l m n o p q = absurd (f refl)
other_kind call.ChunkSize a b c d e f g h i j k l m n o p q = absurd (g refl)
other_kind call.Readable a b c d e f g h i j k l m n o p q = absurd (h refl)
other_kind call.Writable a b c d e f g h i j k l m n o p q = absurd (i refl)
other_kind call.Seekable a b c d e f g h i j k l m n o p q = absurd (j refl)
other_kind call.Closed a b c d e f g h i j k l m n o p q = absurd (k refl)
other_kind call.Encoding a b c d e f g h i j k l m n o p q = absurd (l refl)
other_kind call.Errors a b c d e f g h i j k l m n o p q = absurd (m refl)
other_kind (call.Reconfigure changes) a b c d e f g h i j k l m n o p q = absurd (n changes refl)
other_kind call.Detach a b c d e f g h i j k l m n o p q = absurd (o refl)
other_kind call.Tell a b c d e f g h i j k l m n o p q = absurd (p refl)
other_kind (call.SeekText cookie whence) a b c d e f g h i j k l m n o p q = absurd (q cookie whence refl)
other_kind made a b c d e f g h i j k l m n o p q = refl

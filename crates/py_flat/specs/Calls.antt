-- The calls of a binary stream and the replies of every stream, as the models see them.
use Rattle.std.specs.Prelude.{ℕ, ℤ, Bool, List, Option}
use Rattle.py_flat.specs.declared.fault.IoFault.{IoFault}

-- a call of a binary stream. A size of None is the one that the stream takes where none is given
pub data FileCall : Type 0 where
  Read : (size : Option ℕ) → FileCall
  Read1 : (size : Option ℕ) → FileCall
  ReadLine : (limit : Option ℕ) → FileCall
  ReadLines : (hint : Option ℕ) → FileCall
  Peek : FileCall
  ReadInto : (size : ℕ) → FileCall
  ReadInto1 : (size : ℕ) → FileCall
  Write : (bytes : List ℕ) → FileCall
  WriteLines : (lines : List (List ℕ)) → FileCall
  Seek : (offset : ℤ) (whence : ℤ) → FileCall
  Tell : FileCall
  Truncate : (size : Option ℕ) → FileCall
  Flush : FileCall
  Close : FileCall
  Detach : FileCall
  Readable : FileCall
  Writable : FileCall
  Seekable : FileCall
  Closed : FileCall
  -- a call, or a getter, that streams of this kind don't have
  OtherKind : FileCall
  OtherGetter : FileCall

-- what a call of a stream answers
pub data FileReply : Type 0 where
  Bytes : (bytes : List ℕ) → FileReply
  Text : (characters : List ℕ) → FileReply
  Lines : (lines : List (List ℕ)) → FileReply
  Count : (count : ℕ) → FileReply
  Place : (place : ℕ) → FileReply
  Cookie : (bytes : List ℕ) → FileReply
  Done : FileReply
  NotReady : FileReply
  Flag : (value : Bool) → FileReply
  Name : (characters : List ℕ) → FileReply
  Unwritten : (bytes : List ℕ) (place : Option ℕ) → FileReply
  Refused : (fault : IoFault) → FileReply

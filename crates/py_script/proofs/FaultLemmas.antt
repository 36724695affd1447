-- A fault is told by its name and its numbers.
use Rattle.std.proofs.Common.{◌≡◌, ℕ, true, List, [], ◌∷◌, get_or, codes, map, refl, sym, ap, ◌∙◌}
use Rattle.std.specs.Prelude.{if◌then◌else◌}
use Rattle.std.specs.Fmt.{decimal}
use Rattle.std.specs.Str.{bytes_eq}
use Rattle.std.proofs.lemmas.Fmt.{decimal_injective}
use Rattle.py_flat.specs.declared.fault.IoFault.{IoFault}
use Rattle.py_flat.specs.declared.fault.IoFault.TheVariants.{Closed, Detached, Failed, Unsupported, BadWhence, NegativeSeek, TooFar, BadArgument, RawFault, WouldBlock, NoMemory, UnicodeDecodeError, UnicodeEncodeError, SeekFirst, InvalidCookie, CannotRestore, UnknownEncoding, UnknownHandler, ParseMode, BufferError, BadRestart, EndOfFile, ModeText, IndexError}
use Rattle.py_flat.specs.declared.mode_error.ModeError.TheVariants.{Invalid, BadRwa}
use Rattle.py_flat.specs.declared.mode_error.ParseModeError.TheVariants.{InvalidMode, MultipleFile, MultipleEncode, NoFile}
use Rattle.py_script.specs.Faults.{fault_name, fault_numbers}
use Rattle.py_script.specs.ReplyRange.{AreSmall}
use Rattle.py_script.proofs.WordLemmas.{is_word, AreWords, decimal_word}

-- the fault of a name and numbers
fault_of : List ℕ → List ℕ → IoFault
fault_of name numbers =
    if bytes_eq name (codes "Detached") then Detached
    else if bytes_eq name (codes "Failed") then Failed
    else if bytes_eq name (codes "Unsupported") then Unsupported
    else if bytes_eq name (codes "BadWhence") then BadWhence
    else if bytes_eq name (codes "NegativeSeek") then NegativeSeek
    else if bytes_eq name (codes "TooFar") then TooFar
    else if bytes_eq name (codes "BadArgument") then BadArgument
    else if bytes_eq name (codes "RawFault") then RawFault
    else if bytes_eq name (codes "WouldBlock") then WouldBlock (get_or numbers 0 0)
    else if bytes_eq name (codes "NoMemory") then NoMemory
    else if bytes_eq name (codes "UnicodeDecodeError") then UnicodeDecodeError (get_or numbers 0 0) (get_or numbers 1 0)
    else if bytes_eq name (codes "UnicodeEncodeError") then UnicodeEncodeError (get_or numbers 0 0) (get_or numbers 1 0)
    else if bytes_eq name (codes "SeekFirst") then SeekFirst
    else if bytes_eq name (codes "InvalidCookie") then InvalidCookie
    else if bytes_eq name (codes "CannotRestore") then CannotRestore
    else if bytes_eq name (codes "UnknownEncoding") then UnknownEncoding
    else if bytes_eq name (codes "UnknownHandler") then UnknownHandler
    else if bytes_eq name (codes "InvalidMode") then ParseMode InvalidMode
    else if bytes_eq name (codes "MultipleFile") then ParseMode MultipleFile
    else if bytes_eq name (codes "MultipleEncode") then ParseMode MultipleEncode
    else if bytes_eq name (codes "NoFile") then ParseMode NoFile
    else if bytes_eq name (codes "BufferError") then BufferError
    else if bytes_eq name (codes "BadRestart") then BadRestart
    else if bytes_eq name (codes "EndOfFile") then EndOfFile
    else if bytes_eq name (codes "Invalid") then ModeText Invalid
    else if bytes_eq name (codes "BadRwa") then ModeText BadRwa
    else if bytes_eq name (codes "IndexError") then IndexError (get_or numbers 0 0)
    else Closed

-- a fault is that of its name and its numbers
fault_of_own : (fault : IoFault) → fault_of (fault_name fault) (fault_numbers fault) ≡ fault
unfolding fault_of
fault_of_own Closed = refl
fault_of_own Detached = refl
fault_of_own Failed = refl
fault_of_own Unsupported = refl
fault_of_own BadWhence = refl
fault_of_own NegativeSeek = refl
fault_of_own TooFar = refl
fault_of_own BadArgument = refl
fault_of_own RawFault = refl
fault_of_own (WouldBlock taken) = refl
fault_of_own NoMemory = refl
fault_of_own (UnicodeDecodeError start end) = refl
fault_of_own (UnicodeEncodeError start end) = refl
fault_of_own SeekFirst = refl
fault_of_own InvalidCookie = refl
fault_of_own CannotRestore = refl
fault_of_own UnknownEncoding = refl
fault_of_own UnknownHandler = refl
fault_of_own (ParseMode InvalidMode) = refl
fault_of_own (ParseMode MultipleFile) = refl
fault_of_own (ParseMode MultipleEncode) = refl
fault_of_own (ParseMode NoFile) = refl
fault_of_own BufferError = refl
fault_of_own BadRestart = refl
fault_of_own EndOfFile = refl
fault_of_own (ModeText Invalid) = refl
fault_of_own (ModeText BadRwa) = refl
fault_of_own (IndexError dimension) = refl

-- a name is a word
fault_name_word : (fault : IoFault) → is_word (fault_name fault) ≡ true
fault_name_word Closed = refl
fault_name_word Detached = refl
fault_name_word Failed = refl
fault_name_word Unsupported = refl
fault_name_word BadWhence = refl
fault_name_word NegativeSeek = refl
fault_name_word TooFar = refl
fault_name_word BadArgument = refl
fault_name_word RawFault = refl
fault_name_word (WouldBlock taken) = refl
fault_name_word NoMemory = refl
fault_name_word (UnicodeDecodeError start end) = refl
fault_name_word (UnicodeEncodeError start end) = refl
fault_name_word SeekFirst = refl
fault_name_word InvalidCookie = refl
fault_name_word CannotRestore = refl
fault_name_word UnknownEncoding = refl
fault_name_word UnknownHandler = refl
fault_name_word (ParseMode InvalidMode) = refl
fault_name_word (ParseMode MultipleFile) = refl
fault_name_word (ParseMode MultipleEncode) = refl
fault_name_word (ParseMode NoFile) = refl
fault_name_word BufferError = refl
fault_name_word BadRestart = refl
fault_name_word EndOfFile = refl
fault_name_word (ModeText Invalid) = refl
fault_name_word (ModeText BadRwa) = refl
fault_name_word (IndexError dimension) = refl

-- decimals are words
decimals_words : (numbers : List ℕ) → AreSmall numbers → AreWords (map decimal numbers)
decimals_words [] small = tt
decimals_words (number ∷ numbers) small = (decimal_word number small.0, decimals_words numbers small.1)

-- the words of a fault
pub fault_words : (fault : IoFault) → AreSmall (fault_numbers fault) → AreWords (fault_name fault ∷ map decimal (fault_numbers fault))
fault_words fault small = (fault_name_word fault, decimals_words (fault_numbers fault) small)

-- decimals tell their numbers
decimals_same : (ms ns : List ℕ) → AreSmall ms → AreSmall ns → map decimal ms ≡ map decimal ns → ms ≡ ns
decimals_same [] [] small_m small_n same = refl
decimals_same [] (n ∷ ns) small_m small_n same = cc
decimals_same (m ∷ ms) [] small_m small_n same = cc
decimals_same (m ∷ ms) (n ∷ ns) small_m small_n same =
    let heads : decimal m ≡ decimal n = cc in
    let tails : map decimal ms ≡ map decimal ns = cc in
    let first : m ≡ n = decimal_injective m n small_m.0 small_n.0 heads in
    let more : ms ≡ ns = decimals_same ms ns small_m.1 small_n.1 tails in
    cc

-- a fault's words tell it
pub fault_same : (f g : IoFault) → AreSmall (fault_numbers f) → AreSmall (fault_numbers g) → fault_name f ∷ map decimal (fault_numbers f) ≡ fault_name g ∷ map decimal (fault_numbers g) → f ≡ g
fault_same f g small_f small_g same =
    let names : fault_name f ≡ fault_name g = cc in
    let decimals : map decimal (fault_numbers f) ≡ map decimal (fault_numbers g) = cc in
    let numbers : fault_numbers f ≡ fault_numbers g = decimals_same (fault_numbers f) (fault_numbers g) small_f small_g decimals in
    sym (fault_of_own f) ∙ ap (λ name. fault_of name (fault_numbers f)) names ∙ ap (fault_of (fault_name g)) numbers ∙ fault_of_own g

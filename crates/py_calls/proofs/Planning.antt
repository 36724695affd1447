-- Texts that are compared by their characters, and what is known of an accepted plan.
use Rattle.std.proofs.Common.{◌≡◌, ℕ, zero, suc, ◌<◌, ℤ, pos, negsuc, Bool, true, false, ◌&&◌, ◌||◌, if◌then◌else◌, nat_eq, Option, Some, None, is_some, List, Result, Ok, Err, codes, inl, inr, refl, sym, ap, subst, ◌∙◌, bytes_eq, arith}
use Rattle.std.specs.Str.{chars as characters, IsUtf8}
use Rattle.std.proofs.lemmas.Str.{encodes-chars}
use Rattle.std.proofs.lemmas.Slice.Eq.{bytes_eq-Decides}
use Rattle.std.proofs.lemmas.Bool.Decides.{same_from_decides, nat_tests}
use lib.Utf8.{encode, encodes}
use Rattle.py_flat.specs.declared.mode_error.ParseModeError.{ParseModeError}
use Rattle.py_flat.specs.declared.fault.IoFault.{IoFault}
use Rattle.py_flat.specs.declared.fault.IoFault.TheVariants.{Unsupported, BadArgument}
use Rattle.py_plain.specs.declared.encoding.Encoding.{Encoding}
use Rattle.py_plain.specs.declared.handler.Handler.{Handler}
use Rattle.py_plain.specs.declared.newlines.Newlines.{Newlines}
use Rattle.py_plain.specs.declared.newlines.Newlines.TheVariants as newlines
use Rattle.py_plain.specs.NewlineArgument.{rule_of}
use Rattle.py_codec.specs.declared.handler_ref.HandlerRef.{HandlerRef}
use Rattle.py_codec.specs.declared.handler_ref.HandlerRef.TheVariants as given
use Rattle.py_registry.specs.declared.codec.PyCodec.{PyCodec}
use Rattle.py_registry.specs.declared.codec.PyCodec.TheVariants as codec
use Rattle.py_registry.specs.Machine.{Machine, found, handler_of, looked_up}
use Rattle.py_registry.specs.Answers.{name_or_strict}
use Rattle.py_text.specs.declared.coder.Coder.{Coder}
use Rattle.py_text.specs.Coders.{is_of_stream, coder_if, coder_with, coder_of}
use Rattle.py_calls.specs.declared.mode.EncodeMode.{EncodeMode}
use Rattle.py_calls.specs.declared.mode.EncodeMode.TheVariants.{Text, Bytes}
use Rattle.py_calls.specs.declared.mode.Mode.{Mode}
use Rattle.py_calls.specs.declared.open_args.OpenArgs.{OpenArgs}
use Rattle.py_calls.specs.declared.plan.OpenPlan.{OpenPlan}
use Rattle.py_calls.specs.declared.plan.PlanKind.{PlanKind}
use Rattle.py_calls.specs.declared.plan.PlanKind.TheVariants as kind
use Rattle.py_calls.specs.declared.plan.TextPlan.{TextPlan}
use Rattle.py_calls.specs.Mode.{is_append, mode_of, reads, writes}
use Rattle.py_calls.specs.Names.{encoding_name}
use Rattle.py_calls.specs.Plan.{buffer_size_of, bytes_kind, buffer_of, gives_text_argument, misfits, has_bad_argument, reads_at_end, refused_early, planned_coder, settings_by, plan_with, text_by, kind_by, plan_unless, plan_by, plan_of, PlansText, IsTextPlan, IsPlannedAs, IsPlanned, registry_left, RefusesPlan, Accepts}
use Rattle.py_calls.specs.Planned.{text_of, TextOutcome}

-- two texts are the same by their bytes just where they are by their characters
pub same_by_bytes : (bytes others : List ℕ) → IsUtf8 bytes → IsUtf8 others → bytes_eq bytes others ≡ bytes_eq (characters bytes) (characters others)
same_by_bytes bytes others utf8 utf8_too =
    let by_bytes = bytes_eq-Decides bytes others in
    let by_characters = bytes_eq-Decides (characters bytes) (characters others) in
    same_from_decides _ _ by_bytes (λ yes. sym (encodes-chars bytes utf8) ∙ (ap encodes (by_characters.0 yes) ∙ encodes-chars others utf8_too), λ is. by_characters.1 (ap characters is))

-- the names that are compared, and the newline texts, are spelled by their own characters

pub locale_spelled : characters (codes "locale") ≡ codes "locale"
unfolding characters
locale_spelled = refl

pub utf8_spelled : characters (codes "utf-8") ≡ codes "utf-8"
unfolding characters
utf8_spelled = refl

pub strict_spelled : characters (codes "strict") ≡ codes "strict"
unfolding characters
strict_spelled = refl

empty_spelled : characters (codes "") ≡ codes ""
unfolding characters
empty_spelled = refl

line_feed_spelled : characters (codes "\n") ≡ codes "\n"
unfolding characters
line_feed_spelled = refl

return_spelled : characters (codes "\r") ≡ codes "\r"
unfolding characters
return_spelled = refl

both_spelled : characters (codes "\r\n") ≡ codes "\r\n"
unfolding characters
both_spelled = refl

-- the newline texts are UTF-8

empty_utf8 : IsUtf8 (codes "")
unfolding encode
empty_utf8 = (codes "", (refl, refl))

line_feed_utf8 : IsUtf8 (codes "\n")
unfolding encode
line_feed_utf8 = (codes "\n", (refl, refl))

return_utf8 : IsUtf8 (codes "\r")
unfolding encode
return_utf8 = (codes "\r", (refl, refl))

both_utf8 : IsUtf8 (codes "\r\n")
unfolding encode
both_utf8 = (codes "\r\n", (refl, refl))

locale_utf8 : IsUtf8 (codes "locale")
unfolding encode
locale_utf8 = (codes "locale", (refl, refl))

-- a text is one that is spelled by its own characters just where its characters are
spelled_same : (bytes name : List ℕ) → IsUtf8 bytes → IsUtf8 name → characters name ≡ name → bytes_eq bytes name ≡ bytes_eq (characters bytes) name
spelled_same bytes name utf8 spelled is = same_by_bytes bytes name utf8 spelled ∙ ap (λ (other : List ℕ). bytes_eq (characters bytes) other) is

-- a name is that of the locale just where its characters are
pub is_locale : (bytes : List ℕ) → IsUtf8 bytes → bytes_eq bytes (codes "locale") ≡ bytes_eq (characters bytes) (codes "locale")
is_locale bytes utf8 = spelled_same bytes (codes "locale") utf8 locale_utf8 locale_spelled

-- the name of the locale stands for utf-8
pub named_locale : (name : List ℕ) → bytes_eq name (codes "locale") ≡ true → encoding_name (Some name) ≡ codes "utf-8"
named_locale name is = rw is refl

-- the rule of a newline text, by which of the four it is
rule_by : (empty feed return both : Bool) → Option Newlines
rule_by empty feed return both =
    if empty then Some newlines.Passthrough
    else if feed then Some newlines.Lf
    else if return then Some newlines.Cr
    else if both then Some newlines.Crlf
    else None

-- a newline text has its rule by its characters too
pub rule_spelled : (bytes : List ℕ) → IsUtf8 bytes → rule_of (Some bytes) ≡ rule_of (Some (characters bytes))
unfolding rule_by characters
rule_spelled bytes utf8 =
    ap (λ (is : Bool). rule_by is (bytes_eq bytes (codes "\n")) (bytes_eq bytes (codes "\r")) (bytes_eq bytes (codes "\r\n"))) (spelled_same bytes (codes "") utf8 empty_utf8 empty_spelled)
    ∙ ap (λ (is : Bool). rule_by (bytes_eq (characters bytes) (codes "")) is (bytes_eq bytes (codes "\r")) (bytes_eq bytes (codes "\r\n"))) (spelled_same bytes (codes "\n") utf8 line_feed_utf8 line_feed_spelled)
    ∙ ap (λ (is : Bool). rule_by (bytes_eq (characters bytes) (codes "")) (bytes_eq (characters bytes) (codes "\n")) is (bytes_eq bytes (codes "\r\n"))) (spelled_same bytes (codes "\r") utf8 return_utf8 return_spelled)
    ∙ ap (λ (is : Bool). rule_by (bytes_eq (characters bytes) (codes "")) (bytes_eq (characters bytes) (codes "\n")) (bytes_eq (characters bytes) (codes "\r")) is) (spelled_same bytes (codes "\r\n") utf8 both_utf8 both_spelled)

-- What an accepted plan is made of, by what its names come to.

early_by : (bad ends : Bool) → (let refused : Option IoFault = if bad then Some BadArgument else if ends then Some Unsupported else None in refused ≡ None) → (bad ≡ false) × (ends ≡ false)
early_by true ends is = cc
early_by false true is = cc
early_by false false is = (refl, refl)

-- nothing refuses a mode early: its arguments can be had, and it doesn't read what it appends to
fits_early : (mode : Mode) (args : OpenArgs) → refused_early mode args ≡ None → (has_bad_argument mode args ≡ false) × (reads_at_end mode ≡ false)
fits_early mode args early = early_by (has_bad_argument mode args) (reads_at_end mode) early

record Accepted (mode : Result Mode ParseModeError) (args : OpenArgs) (coders : Mode → Result Coder IoFault) (plan : OpenPlan) : Type 0 where
  named : mode ≡ Ok plan.mode
  early : refused_early plan.mode args ≡ None
  kind_is : kind_by plan.mode.encode args (coders plan.mode) ≡ Ok plan.kind

with_kind : (mode : Mode) (made : Result PlanKind IoFault) (plan : OpenPlan) → plan_with mode made ≡ Ok plan → (mode ≡ plan.mode) × (made ≡ Ok plan.kind)
with_kind mode (Err why) plan is = cc
with_kind mode (Ok made) plan is =
    let same : record { mode = mode; kind = made } ≡ plan = cc in
    (ap (λ (by : OpenPlan). by.mode) same, ap (λ (by : OpenPlan). Ok by.kind) same)

unless_early : (early : Option IoFault) (mode : Mode) (args : OpenArgs) (coder : Result Coder IoFault) (plan : OpenPlan) → plan_unless early mode args coder ≡ Ok plan → (early ≡ None) × (mode ≡ plan.mode) × (kind_by mode.encode args coder ≡ Ok plan.kind)
unless_early (Some why) mode args coder plan is = cc
unless_early None mode args coder plan is = let by = with_kind mode (kind_by mode.encode args coder) plan is in (refl, by.0, by.1)

accepted_by : (mode : Result Mode ParseModeError) (args : OpenArgs) (coders : Mode → Result Coder IoFault) (plan : OpenPlan) → plan_by mode args coders ≡ Ok plan → Accepted mode args coders plan
accepted_by (Err why) args coders plan is = cc
accepted_by (Ok mode) args coders plan is =
    let by = unless_early (refused_early mode args) mode args (coders mode) plan is in
    record {
      named = ap (λ (said : Mode). Ok said) by.1;
      early = ap (λ (said : Mode). refused_early said args) (sym by.1) ∙ by.0;
      kind_is = ap (λ (said : Mode). kind_by said.encode args (coders said)) (sym by.1) ∙ by.2;
    }

-- what the plan of a text is made of
record TextBy (buffer : Option ℕ) (rule : Option Newlines) (args : OpenArgs) (coder : Result Coder IoFault) (made : PlanKind) : Type 0 where
  text : TextPlan
  kind_is : made ≡ kind.Text text
  buffer_is : buffer ≡ Some text.buffer_size
  coder_is : coder ≡ Ok text.coder
  found_rule : Newlines
  rule_is : rule ≡ Some found_rule
  settings : text.settings ≡ settings_by args found_rule

text_is : (buffer : Option ℕ) (rule : Option Newlines) (args : OpenArgs) (coder : Result Coder IoFault) (made : PlanKind) → text_by buffer rule args coder ≡ Ok made → TextBy buffer rule args coder made
text_is None rule args coder made is = cc
text_is (Some size) None args coder made is = cc
text_is (Some size) (Some rule) args (Err why) made is = cc
text_is (Some size) (Some rule) args (Ok coder) made is =
    record { text = record { buffer_size = size; coder = coder; settings = settings_by args rule }; kind_is = cc; buffer_is = refl; coder_is = refl; found_rule = rule; rule_is = refl; settings = refl }

-- A coder that is found has a handler of its directions.

fits_if : (fits : Bool) (encoding : Encoding) (handler : Handler) (coder : Coder) → coder_if fits encoding handler ≡ Ok coder → (fits ≡ true) × (handler ≡ coder.errors)
fits_if true encoding handler coder is = let same : record { encoding = encoding; errors = handler } ≡ coder = cc in (refl, ap (λ (by : Coder). by.errors) same)
fits_if false encoding handler coder is = cc

fits_with : {H : Type 0} (readable writable : Bool) (encoding : Encoding) (errors : Option (HandlerRef H)) (coder : Coder) → coder_with readable writable encoding errors ≡ Ok coder → is_of_stream readable writable coder.errors ≡ true
fits_with readable writable encoding (Some (given.Builtin handler)) coder is =
    let by = fits_if (is_of_stream readable writable handler) encoding handler coder is in
    ap (is_of_stream readable writable) (sym by.1) ∙ by.0
fits_with readable writable encoding _ coder is = cc

fits_of : {S H : Type 0} (readable writable : Bool) (named : Option (PyCodec S)) (errors : Option (HandlerRef H)) (coder : Coder) → coder_of readable writable named errors ≡ Ok coder → is_of_stream readable writable coder.errors ≡ true
fits_of readable writable (Some (codec.Builtin encoding)) errors coder is = fits_with readable writable encoding errors coder is
fits_of readable writable _ errors coder is = cc

coder_fits : {S H : Type 0} (finds : S → List ℕ → Option (PyCodec S)) (machine : Machine S H) (mode : Mode) (args : OpenArgs) (coder : Coder) → planned_coder finds machine mode args ≡ Ok coder → is_of_stream (reads mode) (writes mode) coder.errors ≡ true
coder_fits finds machine mode args coder is = fits_of (reads mode) (writes mode) (found finds machine (encoding_name args.encoding)) (handler_of machine (name_or_strict args.errors)) coder is

-- The tests, one by one.

not_both : (plus appends : Bool) → (plus && appends) ≡ false → plus ≡ true → appends ≡ false
not_both true appends is plus = is
not_both false appends is plus = cc

neither_holds : (first second : Bool) → (first || second) ≡ false → (first ≡ false) × (second ≡ false)
neither_holds false second is = (refl, is)
neither_holds true second is = cc

none_of : {T : Type 0} (argument : Option T) → is_some argument ≡ false → argument ≡ None
none_of None is = refl
none_of (Some given) is = cc

bytes_fit : (encode : EncodeMode) (args : OpenArgs) → misfits encode args ≡ false → encode ≡ Bytes → gives_text_argument args ≡ false
bytes_fit Bytes args is bytes = is
bytes_fit Text args is bytes = cc

some_chunk : (chunk : ℕ) → nat_eq chunk 0 ≡ false → 0 < chunk
some_chunk zero is = cc
some_chunk (suc more) is = omega arith

-- a buffer that is asked for is never one of no bytes
some_buffer : (buffering : ℤ) (size : ℕ) → buffer_size_of buffering ≡ Some size → 0 < size
some_buffer (pos asked) size is = grind (arith, nat_tests)
some_buffer (negsuc more) size is = let same : 8192 ≡ size = cc in rw (sym same) omega arith

chunk_fits : (mode : Mode) (args : OpenArgs) → refused_early mode args ≡ None → 0 < args.chunk_size
chunk_fits mode args early = some_chunk args.chunk_size (neither_holds _ _ (fits_early mode args early).0).0

-- What is planned can be opened, through the buffer that was asked for.

text_may_open : (mode : Mode) (args : OpenArgs) (coder : Result Coder IoFault) (made : PlanKind) → ((by : Coder) → coder ≡ Ok by → is_of_stream (reads mode) (writes mode) by.errors ≡ true) → 0 < args.chunk_size → TextBy (buffer_size_of args.buffering) (rule_of args.newline) args coder made → IsPlannedAs mode made
text_may_open mode args coder made fits chunk by =
    let is : IsTextPlan mode by.text = record {
      buffer = some_buffer args.buffering by.text.buffer_size by.buffer_is;
      chunk = subst (λ (size : ℕ). 0 < size) (sym (ap (λ (settings : _). settings.chunk_size) by.settings)) chunk;
      handler = fits by.text.coder by.coder_is;
    } in
    subst (λ (planned : PlanKind). IsPlannedAs mode planned) (sym by.kind_is) is

bytes_may_open : (mode : Mode) (buffering : ℤ) (size : Option ℕ) → buffer_size_of buffering ≡ size → IsPlannedAs mode (bytes_kind size)
bytes_may_open mode buffering None is = tt
bytes_may_open mode buffering (Some size) is = some_buffer buffering size is

kind_may_open : (encode : EncodeMode) (mode : Mode) (args : OpenArgs) (coder : Result Coder IoFault) (made : PlanKind) → ((by : Coder) → coder ≡ Ok by → is_of_stream (reads mode) (writes mode) by.errors ≡ true) → 0 < args.chunk_size → kind_by encode args coder ≡ Ok made → IsPlannedAs mode made
kind_may_open Text mode args coder made fits chunk is = text_may_open mode args coder made fits chunk (text_is (buffer_size_of args.buffering) (rule_of args.newline) args coder made is)
kind_may_open Bytes mode args coder made fits chunk is =
    let same : bytes_kind (buffer_size_of args.buffering) ≡ made = cc in
    subst (λ (planned : PlanKind). IsPlannedAs mode planned) same (bytes_may_open mode args.buffering (buffer_size_of args.buffering) refl)

buffer_of_bytes : (size : Option ℕ) → buffer_of (bytes_kind size) ≡ size
buffer_of_bytes None = refl
buffer_of_bytes (Some size) = refl

kind_buffer : (encode : EncodeMode) (args : OpenArgs) (coder : Result Coder IoFault) (made : PlanKind) → kind_by encode args coder ≡ Ok made → buffer_of made ≡ buffer_size_of args.buffering
kind_buffer Text args coder made is =
    let by = text_is (buffer_size_of args.buffering) (rule_of args.newline) args coder made is in
    ap buffer_of by.kind_is ∙ sym by.buffer_is
kind_buffer Bytes args coder made is =
    let same : bytes_kind (buffer_size_of args.buffering) ≡ made = cc in
    ap buffer_of (sym same) ∙ buffer_of_bytes (buffer_size_of args.buffering)

-- What is known of an accepted plan.

accepted : {S H : Type 0} (finds : S → List ℕ → Option (PyCodec S)) (machine : Machine S H) (mode : List ℕ) (args : OpenArgs) (plan : OpenPlan) → plan_of finds machine mode args ≡ Ok plan → Accepted (mode_of mode) args (λ said. planned_coder finds machine said args) plan
accepted finds machine mode args plan planned = accepted_by (mode_of mode) args (λ said. planned_coder finds machine said args) plan planned

-- the mode of an accepted plan is the one that the text names
pub planned_mode : {S H : Type 0} (finds : S → List ℕ → Option (PyCodec S)) (machine : Machine S H) (mode : List ℕ) (args : OpenArgs) (plan : OpenPlan) → plan_of finds machine mode args ≡ Ok plan → mode_of mode ≡ Ok plan.mode
planned_mode finds machine mode args plan planned = (accepted finds machine mode args plan planned).named

-- an accepted plan with a plus isn't one that appends
pub planned_plus : {S H : Type 0} (finds : S → List ℕ → Option (PyCodec S)) (machine : Machine S H) (mode : List ℕ) (args : OpenArgs) (plan : OpenPlan) → plan_of finds machine mode args ≡ Ok plan → plan.mode.plus ≡ true → is_append plan.mode.file ≡ false
planned_plus finds machine mode args plan planned plus = not_both plan.mode.plus (is_append plan.mode.file) (fits_early plan.mode args (accepted finds machine mode args plan planned).early).1 plus

-- the buffer of an accepted plan is the one that is asked for
pub planned_buffer : {S H : Type 0} (finds : S → List ℕ → Option (PyCodec S)) (machine : Machine S H) (mode : List ℕ) (args : OpenArgs) (plan : OpenPlan) → plan_of finds machine mode args ≡ Ok plan → buffer_of plan.kind ≡ buffer_size_of args.buffering
planned_buffer finds machine mode args plan planned =
    kind_buffer plan.mode.encode args (planned_coder finds machine plan.mode args) plan.kind (accepted finds machine mode args plan planned).kind_is

-- the arguments of an accepted plan ask for chunks of at least one byte
pub planned_chunk : {S H : Type 0} (finds : S → List ℕ → Option (PyCodec S)) (machine : Machine S H) (mode : List ℕ) (args : OpenArgs) (plan : OpenPlan) → plan_of finds machine mode args ≡ Ok plan → 0 < args.chunk_size
planned_chunk finds machine mode args plan planned = chunk_fits plan.mode args (accepted finds machine mode args plan planned).early

-- an accepted plan can be opened
pub planned_may_open : {S H : Type 0} (finds : S → List ℕ → Option (PyCodec S)) (machine : Machine S H) (mode : List ℕ) (args : OpenArgs) (plan : OpenPlan) → plan_of finds machine mode args ≡ Ok plan → IsPlanned plan
planned_may_open finds machine mode args plan planned =
    kind_may_open plan.mode.encode plan.mode args (planned_coder finds machine plan.mode args) plan.kind (λ coder is. coder_fits finds machine plan.mode args coder is) (planned_chunk finds machine mode args plan planned) (accepted finds machine mode args plan planned).kind_is

-- the plan of an accepted text
pub planned_text : {S H : Type 0} (finds : S → List ℕ → Option (PyCodec S)) (machine : Machine S H) (mode : List ℕ) (args : OpenArgs) (plan : OpenPlan) → plan_of finds machine mode args ≡ Ok plan → plan.mode.encode ≡ Text → PlansText finds machine args plan
planned_text finds machine mode args plan planned text =
    let coder : Result Coder IoFault = planned_coder finds machine plan.mode args in
    let by = text_is (buffer_size_of args.buffering) (rule_of args.newline) args coder plan.kind (sym (ap (λ (encode : EncodeMode). kind_by encode args coder) text) ∙ (accepted finds machine mode args plan planned).kind_is) in
    record { text = by.text; kind_is = by.kind_is; buffer = by.buffer_is; coder = by.coder_is; rule = by.found_rule; newline = by.rule_is; settings = by.settings }

-- a binary mode has no argument of a text
planned_bytes : {S H : Type 0} (finds : S → List ℕ → Option (PyCodec S)) (machine : Machine S H) (mode : List ℕ) (args : OpenArgs) (plan : OpenPlan) → plan_of finds machine mode args ≡ Ok plan → plan.mode.encode ≡ Bytes → gives_text_argument args ≡ false
planned_bytes finds machine mode args plan planned bytes = bytes_fit plan.mode.encode args (neither_holds _ _ (fits_early plan.mode args (accepted finds machine mode args plan planned).early).0).1 bytes

pub planned_bytes_encoding : {S H : Type 0} (finds : S → List ℕ → Option (PyCodec S)) (machine : Machine S H) (mode : List ℕ) (args : OpenArgs) (plan : OpenPlan) → plan_of finds machine mode args ≡ Ok plan → plan.mode.encode ≡ Bytes → args.encoding ≡ None
planned_bytes_encoding finds machine mode args plan planned bytes = none_of args.encoding (neither_holds _ _ (planned_bytes finds machine mode args plan planned bytes)).0

pub planned_bytes_errors : {S H : Type 0} (finds : S → List ℕ → Option (PyCodec S)) (machine : Machine S H) (mode : List ℕ) (args : OpenArgs) (plan : OpenPlan) → plan_of finds machine mode args ≡ Ok plan → plan.mode.encode ≡ Bytes → args.errors ≡ None
planned_bytes_errors finds machine mode args plan planned bytes = none_of args.errors (neither_holds _ _ (neither_holds _ _ (planned_bytes finds machine mode args plan planned bytes)).1).0

pub planned_bytes_newline : {S H : Type 0} (finds : S → List ℕ → Option (PyCodec S)) (machine : Machine S H) (mode : List ℕ) (args : OpenArgs) (plan : OpenPlan) → plan_of finds machine mode args ≡ Ok plan → plan.mode.encode ≡ Bytes → args.newline ≡ None
planned_bytes_newline finds machine mode args plan planned bytes = none_of args.newline (neither_holds _ _ (neither_holds _ _ (planned_bytes finds machine mode args plan planned bytes)).1).1

-- its plan is one of bytes
pub planned_bytes_kind : {S H : Type 0} (finds : S → List ℕ → Option (PyCodec S)) (machine : Machine S H) (mode : List ℕ) (args : OpenArgs) (plan : OpenPlan) → plan_of finds machine mode args ≡ Ok plan → plan.mode.encode ≡ Bytes → plan.kind ≡ bytes_kind (buffer_size_of args.buffering)
planned_bytes_kind finds machine mode args plan planned bytes =
    let is : kind_by Bytes args (planned_coder finds machine plan.mode args) ≡ Ok plan.kind = sym (ap (λ (encode : EncodeMode). kind_by encode args (planned_coder finds machine plan.mode args)) bytes) ∙ (accepted finds machine mode args plan planned).kind_is in
    let same : bytes_kind (buffer_size_of args.buffering) ≡ plan.kind = cc in
    sym same

-- What planning comes to.

-- the plan of a mode that isn't refused early
plans_on : {S H : Type 0} (finds : S → List ℕ → Option (PyCodec S)) (machine : Machine S H) (mode : List ℕ) (args : OpenArgs) (said : Mode) → mode_of mode ≡ Ok said → refused_early said args ≡ None → plan_of finds machine mode args ≡ plan_with said (kind_by said.encode args (planned_coder finds machine said args))
plans_on finds machine mode args said named early =
    ap (λ (by : Result Mode ParseModeError). plan_by by args (λ other. planned_coder finds machine other args)) named
    ∙ ap (λ (refused : Option IoFault). plan_unless refused said args (planned_coder finds machine said args)) early

-- a mode that is refused early
pub refuses_early : {S H : Type 0} (finds : S → List ℕ → Option (PyCodec S)) (machine : Machine S H) (mode : List ℕ) (args : OpenArgs) (said : Mode) (why : IoFault) → mode_of mode ≡ Ok said → refused_early said args ≡ Some why → plan_of finds machine mode args ≡ Err why
refuses_early finds machine mode args said why named early =
    ap (λ (by : Result Mode ParseModeError). plan_by by args (λ other. planned_coder finds machine other args)) named
    ∙ ap (λ (refused : Option IoFault). plan_unless refused said args (planned_coder finds machine said args)) early

accepts : {S H : Type 0} (finds : S → List ℕ → Option (PyCodec S)) (before new : Machine S H) (mode : List ℕ) (args : OpenArgs) (plan : OpenPlan) → plan_of finds before mode args ≡ Ok plan → new ≡ registry_left finds before args plan.kind → Accepts finds before mode args plan new
accepts finds before new mode args plan planned left = record { planned = planned; may_open = planned_may_open finds before mode args plan planned; left = left }

left_by_text : {S H : Type 0} (finds : S → List ℕ → Option (PyCodec S)) (before : Machine S H) (args : OpenArgs) (coder : Result Coder IoFault) (made : PlanKind) → TextBy (buffer_size_of args.buffering) (rule_of args.newline) args coder made → looked_up finds before (encoding_name args.encoding) ≡ registry_left finds before args made
left_by_text finds before args coder made by = ap (registry_left finds before args) (sym by.kind_is)

left_by_bytes : {S H : Type 0} (finds : S → List ℕ → Option (PyCodec S)) (before : Machine S H) (args : OpenArgs) (size : Option ℕ) → before ≡ registry_left finds before args (bytes_kind size)
left_by_bytes finds before args None = refl
left_by_bytes finds before args (Some size) = refl

kind_of_text : {S H : Type 0} (finds : S → List ℕ → Option (PyCodec S)) (machine : Machine S H) (said : Mode) (args : OpenArgs) → said.encode ≡ Text → kind_by said.encode args (planned_coder finds machine said args) ≡ text_of finds machine said args
kind_of_text finds machine said args text = ap (λ (encode : EncodeMode). kind_by encode args (planned_coder finds machine said args)) text

-- a text is planned
pub plans_text : {S H : Type 0} (finds : S → List ℕ → Option (PyCodec S)) (before new : Machine S H) (mode : List ℕ) (args : OpenArgs) (said : Mode) (made : PlanKind) → mode_of mode ≡ Ok said → refused_early said args ≡ None → said.encode ≡ Text → TextOutcome finds before said args (Ok made) new → Accepts finds before mode args (record { mode = said; kind = made }) new
plans_text finds before new mode args said made named early text did =
    accepts finds before new mode args (record { mode = said; kind = made })
    (plans_on finds before mode args said named early ∙ ap (plan_with said) (kind_of_text finds before said args text ∙ did.0))
    (did.1 ∙ left_by_text finds before args (planned_coder finds before said args) made (text_is (buffer_size_of args.buffering) (rule_of args.newline) args (planned_coder finds before said args) made did.0))

-- a text is refused
pub refuses_text : {S H : Type 0} (finds : S → List ℕ → Option (PyCodec S)) (before new : Machine S H) (mode : List ℕ) (args : OpenArgs) (said : Mode) (why : IoFault) → mode_of mode ≡ Ok said → refused_early said args ≡ None → said.encode ≡ Text → TextOutcome finds before said args (Err why) new → RefusesPlan finds before mode args why × (new ≡ before)
refuses_text finds before new mode args said why named early text (inl is, same) =
    (inl (plans_on finds before mode args said named early ∙ ap (plan_with said) (kind_of_text finds before said args text ∙ is)), same)
refuses_text finds before new mode args said why named early text (inr lacks, same) =
    (inr (lacks.is, record { names = record { said = said; named = named; is_text = text; early = early; rule = lacks.rule }; asks = lacks.asks }), same)

-- a stream of bytes is planned
pub plans_bytes : {S H : Type 0} (finds : S → List ℕ → Option (PyCodec S)) (before : Machine S H) (mode : List ℕ) (args : OpenArgs) (said : Mode) → mode_of mode ≡ Ok said → refused_early said args ≡ None → said.encode ≡ Bytes → Accepts finds before mode args (record { mode = said; kind = bytes_kind (buffer_size_of args.buffering) }) before
plans_bytes finds before mode args said named early bytes =
    accepts finds before before mode args (record { mode = said; kind = bytes_kind (buffer_size_of args.buffering) })
    (plans_on finds before mode args said named early ∙ ap (λ (encode : EncodeMode). plan_with said (kind_by encode args (planned_coder finds before said args))) bytes)
    (left_by_bytes finds before args (buffer_size_of args.buffering))

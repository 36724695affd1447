-- A text that a session wrote is read back, by that session or by another.
use Rattle.std.proofs.Common.{◌≡◌, inr, ℕ, zero, ◌+◌, ◌≤◌, pos, not, nat_lt, Bool, true, false, IsTrue, List, [], ◌∷◌, length as len, Option, Some, None, refl, sym, ap, ◌∙◌, subst, arith}
use Rattle.std.proofs.lemmas.Bool.{le-ltb}
use Rattle.py_flat.specs.declared.fault.IoFault.{IoFault}
use Rattle.py_flat.specs.declared.fault.IoFault.TheVariants as fault
use Rattle.py_flat.specs.declared.life.Life.{Life}
use Rattle.py_flat.specs.declared.life.Life.TheVariants as life
use Rattle.py_flat.specs.Bytes.{lay}
use Rattle.py_flat.specs.Calls.{FileReply, Text, Count, Cookie, Done}
use Rattle.py_flat.specs.Limits.{greatest_place}
use Rattle.py_flat.specs.Refusals.{or_else, refused_if, too_far}
use Rattle.py_plain.specs.declared.encoding.Encoding.{Encoding}
use Rattle.py_plain.specs.Encode.{text_bytes}
use Rattle.py_plain.specs.Units.{Unknown}
use Rattle.py_plain_text.specs.TextFile.{TextSettings, TextFile, clean_at}
use Rattle.py_plain_text.specs.Cookie as cookie
use Rattle.py_plain_text.specs.Cookie.{cookie_bytes}
use Rattle.py_plain_text.specs.CookieLaws.{StandsInText, FrontStands, LiesInReach}
use Rattle.py_plain_text.specs.Telling.{placed, told}
use Rattle.py_plain_text.specs.TextCalls as text
use Rattle.py_plain_text.specs.TextCalls.{TextFileCall}
use Rattle.py_plain_text.specs.TextWriting.{written_bytes, written_refusal}
use Rattle.py_plain_text.specs.TextRefusals.{life_refusal, encode_error, refusal}
use Rattle.py_plain_text.specs.TextExact.{in_life, answered, exact}
use Rattle.py_text_laws.specs.Written.{NeedsNoHandler, is_kept}
use Rattle.py_text_laws.proofs.ReadBack.{own_bytes_written, after, exact_written, read_there}
use Rattle.py_text_laws.proofs.SoughtBack.{told_by_byte, exact_told, answered_free, exact_sought}
use Rattle.py_text_laws.proofs.BroughtBack.{sought_from}
use Rattle.py_text_laws.proofs.Unasked.{none_refused}
use Rattle.py_raw.specs.RawStream.{Raw, tells}
use Rattle.py_raw.proofs.Telling.{tells_its_bytes}
use Rattle.py_stream.specs.declared.access.Access.{Access}
use Rattle.py_calls.specs.declared.call.Call.{Call}
use Rattle.py_calls.specs.declared.call.Call.TheVariants as call
use Rattle.py_calls.specs.declared.reply.Reply.{Reply}
use Rattle.py_calls.specs.Calls.{text_call, said}
use Rattle.py_calls.specs.declared.plan.OpenPlan.{OpenPlan}
use Rattle.py_calls.specs.declared.plan.PlanKind.{PlanKind}
use Rattle.py_calls.specs.declared.plan.PlanKind.TheVariants as kind
use Rattle.py_calls.specs.Plan.{IsPlanned}
use Rattle.py_read_text.specs.TextState as state
use Rattle.py_read_text.specs.TextState.{TextState}
use Rattle.py_open.specs.Session.{OfText, SessionView, TextSession, BinarySession, file_seen, bytes_in, life_in, life_of, raw_of, IsInStep}
use Rattle.py_open.specs.Opening.{access_of, OpensBy, OpensSession}
use Rattle.py_open.specs.Run.{IsRun, all_said}
use Rattle.py_open.specs.Laws.{left_exactly, session_left, session_exact, exact_replies, exact_after, detaches, NoneIs, IsExact, PassesAll, IsSmoothRun, IsReached, MayWrite, MayReadFrom, cookie_told, passes_on, IsReadBack}
use Rattle.py_open.proofs.Reached.{opened_reached}
use Rattle.py_open.proofs.Runs.{run_keeps_raw, run_in_step, opened_in_step, smooth_up_to, smooth_settles, settled_is_exact}
use Rattle.py_open.proofs.Ending.{step_passes}
use Rattle.py_open.proofs.InRaw.{owed_none}
use Rattle.py_open.proofs.Sizes.{life_seen}
use Rattle.py_open.proofs.Back.{left_whole, put_elsewhere, reached_stands, reached_reach, reached_order}

-- The steps of a text that stays live.

-- a session answers as its text does
session_on : (file next : TextFile) (made : Call) (says : FileReply) → exact file (text_call made) ≡ (says, next) → file.life ≡ life.Live → next.life ≡ life.Live → session_exact file made ≡ (says, next)
session_on file next made says is lives lived =
    ap (session_left file.life) is ∙ ap (λ (left : TextFile). (says, left)) (left_whole file.life next.life next lives lived)

-- replies to calls, the first of which is known, and what is left after them
says_on : (file next : TextFile) (made : Call) (says : FileReply) (calls : List Call) (replies : List FileReply) → session_exact file made ≡ (says, next) → exact_replies next calls ≡ replies → exact_replies file (made ∷ calls) ≡ says ∷ replies
says_on file next made says calls replies is behind =
    ap (λ (step : FileReply × TextFile). step.0 ∷ exact_replies step.1 calls) is ∙ ap (λ (more : List FileReply). says ∷ more) behind

leaves_on : (file next : TextFile) (made : Call) (says : FileReply) (calls : List Call) → session_exact file made ≡ (says, next) → exact_after file (made ∷ calls) ≡ exact_after next calls
leaves_on file next made says calls is = ap (λ (step : FileReply × TextFile). exact_after step.1 calls) is

-- a smooth run of a text is the exact one
smooth_exact : (now : TextState) (calls : List Call) (replies : List Reply) (left : SessionView) → NoneIs detaches calls → IsSmoothRun (TextSession now) calls replies left → IsExact (state.file_of now) calls (all_said replies) (file_seen left)
smooth_exact now calls replies left none run =
    settled_is_exact (state.file_of now) calls (all_said replies) (file_seen left) (inr none) (smooth_settles (TextSession now) calls replies left run.run run.told run.smooth run.memory)

-- What a session may write.

-- a write that nothing refuses
accepted_by : (was : Life) (writable dirty : Bool) (run : Option (ℕ × ℕ)) (end : ℕ) (written : List ℕ) → was ≡ life.Live → writable ≡ true → dirty ≡ false → run ≡ None → end ≤ greatest_place → or_else (life_refusal was (text.WriteText written)) (or_else (refused_if (not writable) fault.Unsupported) (or_else (refused_if dirty fault.SeekFirst) (or_else (encode_error run) (too_far end)))) ≡ None
accepted_by was writable dirty run end written lives writes clean none near =
    let within : nat_lt greatest_place end ≡ false = le-ltb greatest_place end near in
    rw (lives, writes, clean, none) (ap (λ (past : Bool). refused_if past fault.TooFar) within)

-- a text takes another, where it stands in its place
record Takes (file : TextFile) (written : List ℕ) : Type 0 where
  stands : StandsInText file
  none : file.place.order ≡ Unknown
  lives : file.life ≡ life.Live
  moves : file.can.seekable ≡ true
  clean : file.place.dirty ≡ false
  free : refusal file (text.WriteText written) ≡ None
  reach : LiesInReach file

takes_there : (now : TextState) (written : List ℕ) → IsReached (TextSession now) → MayWrite now written → Takes (state.file_of now) written
takes_there now written reached may = record {
  stands = reached_stands now reached may.live;
  none = reached_order now reached may.live;
  lives = may.live;
  moves = may.moves;
  clean = may.clean;
  free = accepted_by now.text.life now.text.buffer.can.writable now.text.place.dirty (written_refusal now.text.settings written) (now.text.place.at + len (written_bytes now.text.settings written)) written may.live may.writes may.clean (none_refused (state.file_of now) written may.had) may.near;
  reach = record { bytes = reached_reach now reached; place = omega (arith, may.near) };
}

tell_step : (file : TextFile) (written : List ℕ) → Takes file written → session_exact file call.Tell ≡ (Cookie (cookie_bytes (told file)), file)
tell_step file written takes = session_on file file call.Tell (Cookie (cookie_bytes (told file))) (exact_told file takes.lives takes.moves) takes.lives takes.lives

write_step : (file : TextFile) (written : List ℕ) → Takes file written → session_exact file (call.WriteText written) ≡ (Count (len written), after file written)
write_step file written takes = session_on file (after file written) (call.WriteText written) (Count (len written)) (exact_written file written takes.free) takes.lives takes.lives

-- One session.

pub reads_own : (now : TextState) (written : List ℕ) (replies : List Reply) (left : SessionView) → IsReached (TextSession now) → MayWrite now written → now.text.buffer.can.readable ≡ true → now.text.buffer.can.appending ≡ false → IsSmoothRun (TextSession now) (call.Tell ∷ call.WriteText written ∷ call.SeekText (cookie_told now) (pos zero) ∷ call.Read (Some (len written)) ∷ []) replies left → all_said replies ≡ Cookie (cookie_told now) ∷ Count (len written) ∷ Cookie (cookie_told now) ∷ Text written ∷ []
reads_own now written replies left reached may readable forward run =
    let file : TextFile = state.file_of now in
    let takes = takes_there now written reached may in
    let goal : List ℕ = cookie_told now in
    let wrote : TextFile = after file written in
    let back : TextFile = placed wrote (clean_at file.place.at Unknown) in
    let last : List Call = call.Read (Some (len written)) ∷ [] in
    let read : exact_replies back last ≡ Text written ∷ [] = ap (λ (says : FileReply). says ∷ []) (read_there file written may.had may.kept takes.lives readable Unknown) in
    let sought = session_on wrote back (call.SeekText goal (pos zero)) (Cookie goal) (exact_sought file written takes.stands takes.reach takes.none takes.clean takes.lives takes.moves forward) takes.lives takes.lives in
    let seek = says_on wrote back (call.SeekText goal (pos zero)) (Cookie goal) last (Text written ∷ []) sought read in
    let write = says_on file wrote (call.WriteText written) (Count (len written)) (call.SeekText goal (pos zero) ∷ last) (Cookie goal ∷ Text written ∷ []) (write_step file written takes) seek in
    let all = says_on file file call.Tell (Cookie goal) (call.WriteText written ∷ call.SeekText goal (pos zero) ∷ last) (Count (len written) ∷ Cookie goal ∷ Text written ∷ []) (tell_step file written takes) write in
    (smooth_exact now (call.Tell ∷ call.WriteText written ∷ call.SeekText goal (pos zero) ∷ last) replies left (refl, (refl, (refl, (refl, tt)))) run).says ∙ all

-- The session that wrote.

-- a call that passes on what is owed is done, and leaves the bytes
record PassesOn (file : TextFile) (made : Call) : Type 0 where
  says : (session_exact file made).0 ≡ Done
  bytes : (session_exact file made).1.bytes ≡ file.bytes

free_flush : (was : Life) → was ≡ life.Live → or_else (life_refusal was text.Flush) (or_else (refused_if false fault.Unsupported) None) ≡ None
free_flush was lives = rw lives refl

free_close : (was : Life) → was ≡ life.Live → or_else (life_refusal was text.Close) (or_else (refused_if false fault.Unsupported) None) ≡ None
free_close was lives = rw lives refl

left_closed : (was : Life) (file : TextFile) → left_exactly was life.Closed file ≡ file
left_closed life.Detached file = refl
left_closed was file = refl

passed_on : (file : TextFile) (made : Call) → passes_on made ≡ true → file.life ≡ life.Live → PassesOn file made
passed_on file call.Flush passes lives =
    let is : session_exact file call.Flush ≡ (Done, file) = session_on file file call.Flush Done (ap (answered file text.Flush) (free_flush file.life lives)) lives lives in
    record { says = ap (λ (step : FileReply × TextFile). step.0) is; bytes = ap (λ (step : FileReply × TextFile). step.1.bytes) is }
passed_on file call.Close passes lives =
    let is : session_exact file call.Close ≡ session_left file.life (Done, in_life file life.Closed) = ap (λ (why : Option IoFault). session_left file.life (answered file text.Close why)) (free_close file.life lives) in
    record {
      says = ap (λ (step : FileReply × TextFile). step.0) is;
      bytes = ap (λ (step : FileReply × TextFile). step.1.bytes) is ∙ ap (λ (left : TextFile). left.bytes) (left_closed file.life (in_life file life.Closed));
    }
passed_on file made passes lives = absurd (cc)

passes_all : (mid : SessionView) (made : Call) → passes_on made ≡ true → PassesAll mid made Done
passes_all (TextSession mid) call.Flush passes = tt
passes_all (TextSession mid) call.Close passes = tt
passes_all (BinarySession mid) call.Flush passes = tt
passes_all (BinarySession mid) call.Close passes = tt
passes_all mid made passes = absurd (cc)

stays_attached : (made : Call) → passes_on made ≡ true → detaches made ≡ false
stays_attached call.Detach passes = absurd (cc)
stays_attached made passes = refl

third_of : (one two three first second third : FileReply) → one ∷ two ∷ three ∷ [] ≡ first ∷ second ∷ third ∷ [] → three ≡ third
third_of one two three first second third is = cc

reached_in_step : (session : SessionView) → IsReached session → IsInStep session
reached_in_step session is = run_in_step is.opened is.calls is.replies session is.run (opened_in_step is.raw is.plan is.opened is.opens)

-- it said so, and its raw has the bytes that were written
record Wrote (was : TextState) (written : List ℕ) (replies : List Reply) (left : SessionView) : Type 0 where
  says : all_said replies ≡ Cookie (cookie_told was) ∷ Count (len written) ∷ Done ∷ []
  bytes : (raw_of left).bytes ≡ (after (state.file_of was) written).bytes

wrote_there : (was : TextState) (written : List ℕ) (made : Call) (replies : List Reply) (left : SessionView) → IsReached (TextSession was) → MayWrite was written → passes_on made ≡ true → IsSmoothRun (TextSession was) (call.Tell ∷ call.WriteText written ∷ made ∷ []) replies left → Wrote was written replies left
wrote_there was written made (one ∷ (two ∷ (three ∷ []))) left reached may passes run =
    let file : TextFile = state.file_of was in
    let takes = takes_there was written reached may in
    let wrote : TextFile = after file written in
    let front : List Call = call.Tell ∷ call.WriteText written ∷ [] in
    let steps = run.run in
    let mid : SessionView = steps.2.0 in
    let first : IsRun (TextSession was) front (one ∷ two ∷ []) mid = (steps.0, steps.1, (mid, steps.2.1, refl)) in
    let smooth = smooth_up_to (raw_of (TextSession was)) (raw_of mid) (raw_of left) (run_keeps_raw mid (made ∷ []) (three ∷ []) left steps.2.2) run.smooth in
    let up_to : IsSmoothRun (TextSession was) front (one ∷ two ∷ []) mid = record { run = first; told = run.told; smooth = smooth; memory = (run.memory.0, (run.memory.1.0, tt)) } in
    let last = passed_on wrote made passes takes.lives in
    let pass : exact_replies wrote (made ∷ []) ≡ Done ∷ [] = ap (λ (says : FileReply). says ∷ []) last.says in
    let write = says_on file wrote (call.WriteText written) (Count (len written)) (made ∷ []) (Done ∷ []) (write_step file written takes) pass in
    let tell = says_on file file call.Tell (Cookie (cookie_told was)) (call.WriteText written ∷ made ∷ []) (Count (len written) ∷ Done ∷ []) (tell_step file written takes) write in
    let whole = smooth_exact was (call.Tell ∷ call.WriteText written ∷ made ∷ []) (one ∷ two ∷ three ∷ []) left (refl, (refl, (stays_attached made passes, tt))) run in
    let says : said one ∷ said two ∷ said three ∷ [] ≡ Cookie (cookie_told was) ∷ Count (len written) ∷ Done ∷ [] = whole.says ∙ tell in
    let done : said three ≡ Done = third_of (said one) (said two) (said three) (Cookie (cookie_told was)) (Count (len written)) Done says in
    let came : file_seen mid ≡ OfText wrote =
    (smooth_exact was front (one ∷ two ∷ []) mid (refl, (refl, tt)) up_to).leaves
    ∙ ap OfText (leaves_on file file call.Tell (Cookie (cookie_told was)) (call.WriteText written ∷ []) (tell_step file written takes) ∙ leaves_on file wrote (call.WriteText written) (Count (len written)) [] (write_step file written takes)) in
    let live : life_of mid ≡ life.Live = sym (life_seen mid) ∙ (ap life_in came ∙ takes.lives) in
    let in_step : IsInStep mid = run_in_step (TextSession was) front (one ∷ two ∷ []) mid first (reached_in_step (TextSession was) reached) in
    let passing : PassesAll mid made (said three) = subst (PassesAll mid made) (sym done) (passes_all mid made passes) in
    let end : SessionView = steps.2.2.0 in
    let none = (step_passes mid made three end steps.2.2.1 in_step live passing).none in
    let held : bytes_in (file_seen left) ≡ (raw_of left).bytes = subst (λ (view : SessionView). bytes_in (file_seen view) ≡ (raw_of view).bytes) (sym steps.2.2.2) (owed_none end none) in
    let exactly : exact_after file (call.Tell ∷ call.WriteText written ∷ made ∷ []) ≡ exact_after wrote (made ∷ []) =
    leaves_on file file call.Tell (Cookie (cookie_told was)) (call.WriteText written ∷ made ∷ []) (tell_step file written takes) ∙ leaves_on file wrote (call.WriteText written) (Count (len written)) (made ∷ []) (write_step file written takes) in
    record {
      says = says;
      bytes = sym held ∙ (ap bytes_in whole.leaves ∙ (ap (λ (f : TextFile). f.bytes) exactly ∙ last.bytes));
    }
wrote_there was written made [] left reached may passes run = absurd run.run
wrote_there was written made (one ∷ []) left reached may passes run = absurd run.run.2
wrote_there was written made (one ∷ (two ∷ [])) left reached may passes run = absurd run.run.2.2
wrote_there was written made (one ∷ (two ∷ (three ∷ (four ∷ replies)))) left reached may passes run = absurd run.run.2.2.2

-- The session that reads.

-- the text that wrote, as it is read with the other's abilities, and settings but for the encoding
abbrev had_in : TextState → TextState → TextFile
had_in was now = record (state.file_of was) { can = now.text.buffer.can; settings = record now.text.settings { encoding = was.text.settings.encoding } }

some_same : (one other : List ℕ) → Some one ≡ Some other → one ≡ other
some_same one other is = cc

-- a text that needs no handler is written as the same bytes by all settings of its encoding that keep it
same_bytes : (one other : TextFile) (written : List ℕ) → other.settings.encoding ≡ one.settings.encoding → NeedsNoHandler one.settings.encoding written → is_kept one.settings.newline written ≡ true → is_kept other.settings.newline written ≡ true → written_bytes other.settings written ≡ written_bytes one.settings written
same_bytes one other written same none kept kept_there =
    some_same (written_bytes other.settings written) (written_bytes one.settings written)
    (sym (own_bytes_written other written (subst (λ (encoding : Encoding). NeedsNoHandler encoding written) (sym same) none) kept_there)
    ∙ (ap (λ (encoding : Encoding). text_bytes encoding written) same
    ∙ own_bytes_written one written none kept))

-- a text stands so too as it is had in another that stands in its place
stands_in : (was now : TextState) → was.text.place.dirty ≡ false → StandsInText (state.file_of was) → StandsInText (state.file_of now) → StandsInText (had_in was now)
stands_in was now clean one other = record {
  reads = other.reads;
  front = subst (FrontStands (had_in was now)) (sym (one.clean clean).0) tt;
  clean = one.clean;
  still = λ unread. clean;
}

-- a seek to a cookie that is answered so goes there from wherever a text stands
sought_as : (wrote now back : TextFile) (goal : List ℕ) → now ≡ placed wrote now.place → exact wrote (text.SeekText goal (pos zero)) ≡ (Cookie goal, back) → exact now (text.SeekText goal (pos zero)) ≡ (Cookie goal, back)
sought_as wrote now back goal elsewhere is =
    let free : refusal wrote (text.SeekText goal (pos zero)) ≡ None = answered_free wrote (text.SeekText goal (pos zero)) (refusal wrote (text.SeekText goal (pos zero))) goal (ap (λ (step : FileReply × TextFile). step.0) is) in
    ap (λ (file : TextFile). exact file (text.SeekText goal (pos zero))) elsewhere ∙ (sought_from wrote now.place goal free ∙ is)

read_by_other : (was now : TextState) (written : List ℕ) (others : List Reply) (last : SessionView) → IsReached (TextSession was) → MayWrite was written → IsReached (TextSession now) → now.text.life ≡ life.Live → MayReadFrom was now written → (state.file_of now).bytes ≡ (after (state.file_of was) written).bytes → IsSmoothRun (TextSession now) (call.SeekText (cookie_told was) (pos zero) ∷ call.Read (Some (len written)) ∷ []) others last → all_said others ≡ Cookie (cookie_told was) ∷ Text written ∷ []
read_by_other was now written others last reached may later live reads are run =
    let takes = takes_there was written reached may in
    let file : TextFile = had_in was now in
    let wrote : TextFile = after file written in
    let goal : List ℕ = cookie_told was in
    let stands = stands_in was now may.clean takes.stands (reached_stands now later live) in
    let reach : LiesInReach file = record { bytes = takes.reach.bytes; place = takes.reach.place } in
    let same_told : told file ≡ told (state.file_of was) = told_by_byte file stands may.clean takes.none ∙ sym (told_by_byte (state.file_of was) takes.stands may.clean takes.none) in
    let back : TextFile = placed wrote (clean_at file.place.at Unknown) in
    let sought : exact wrote (text.SeekText goal (pos zero)) ≡ (Cookie goal, back) =
    subst (λ (c : cookie.Cookie). exact wrote (text.SeekText (cookie_bytes c) (pos zero)) ≡ (Cookie (cookie_bytes c), back)) same_told
    (exact_sought file written stands reach takes.none may.clean may.live reads.moves reads.forward) in
    let laid : (state.file_of now).bytes ≡ wrote.bytes =
    are ∙ ap (λ (bytes : List ℕ). lay (state.file_of was).bytes was.text.place.at bytes) (sym (same_bytes (state.file_of was) file written refl may.had may.kept reads.kept)) in
    let settings : now.text.settings ≡ file.settings = ap (λ (encoding : Encoding). let own : TextSettings = record now.text.settings { encoding = encoding } in own) reads.encoding in
    let elsewhere : state.file_of now ≡ placed wrote now.text.place = put_elsewhere wrote (state.file_of now) laid refl settings (live ∙ sym may.live) in
    let behind : List Call = call.Read (Some (len written)) ∷ [] in
    let read : exact_replies back behind ≡ Text written ∷ [] = ap (λ (says : FileReply). says ∷ []) (read_there file written may.had reads.kept may.live reads.reads Unknown) in
    let goes = session_on (state.file_of now) back (call.SeekText goal (pos zero)) (Cookie goal) (sought_as wrote (state.file_of now) back goal elsewhere sought) live may.live in
    (smooth_exact now (call.SeekText goal (pos zero) ∷ behind) others last (refl, (refl, tt)) run).says
    ∙ says_on (state.file_of now) back (call.SeekText goal (pos zero)) (Cookie goal) behind (Text written ∷ []) goes read

-- Two sessions.

pub reads_other : (was now : TextState) (written : List ℕ) (made : Call) (replies others : List Reply) (left last : SessionView) → IsReached (TextSession was) → MayWrite was written → passes_on made ≡ true → IsSmoothRun (TextSession was) (call.Tell ∷ call.WriteText written ∷ made ∷ []) replies left → IsReached (TextSession now) → now.text.life ≡ life.Live → MayReadFrom was now written → (state.file_of now).bytes ≡ (raw_of left).bytes → IsSmoothRun (TextSession now) (call.SeekText (cookie_told was) (pos zero) ∷ call.Read (Some (len written)) ∷ []) others last → IsReadBack was written replies others
reads_other was now written made replies others left last reached may passes run later live reads are more =
    let wrote = wrote_there was written made replies left reached may passes run in
    record { writes = wrote.says; reads = read_by_other was now written others last reached may later live reads (are ∙ wrote.bytes) more }

-- a text that is opened is live, and has the bytes of its raw
record OpensLive (raw : Raw) (now : TextState) : Type 0 where
  live : now.text.life ≡ life.Live
  bytes : (state.file_of now).bytes ≡ raw.bytes

opens_live : (planned : PlanKind) (opened : Access) (raw : Raw) (now : TextState) → IsTrue (tells raw) → OpensBy planned opened raw (TextSession now) → OpensLive raw now
opens_live (kind.Text plan) opened raw now tell opens = record {
  live = ap (λ (file : TextFile). file.life) opens.file;
  bytes = ap (λ (file : TextFile). file.bytes) opens.file ∙ opens.untouched.bytes (tells_its_bytes raw tell);
}
opens_live (kind.Buffered size) opened raw now tell opens = absurd opens
opens_live kind.Bare opened raw now tell opens = absurd opens

pub opened_reads_other : (was now : TextState) (written : List ℕ) (made : Call) (replies others : List Reply) (left last : SessionView) (raw : Raw) (plan : OpenPlan) → IsReached (TextSession was) → MayWrite was written → passes_on made ≡ true → IsSmoothRun (TextSession was) (call.Tell ∷ call.WriteText written ∷ made ∷ []) replies left → IsTrue (tells raw) → raw.bytes ≡ (raw_of left).bytes → IsPlanned plan → OpensSession raw plan (TextSession now) → MayReadFrom was now written → IsSmoothRun (TextSession now) (call.SeekText (cookie_told was) (pos zero) ∷ call.Read (Some (len written)) ∷ []) others last → IsReadBack was written replies others
opened_reads_other was now written made replies others left last raw plan reached may passes run tell are planned opens reads more =
    let here = opens_live plan.kind (access_of plan.mode) raw now tell opens in
    reads_other was now written made replies others left last reached may passes run (opened_reached raw plan (TextSession now) tell planned opens) here.live reads (here.bytes ∙ are) more

use Rattle.std.proofs.Common.{◌≡◌, ◌≢◌, ℤ, pos, false, None, sym, ap, ◌∙◌, subst, option_map, rules}
use Rattle.std.specs.Int.{w32, w64}
use Rattle.std.proofs.lemmas.Int.{to_z-of_z}
use Rattle.py_plain_text.specs.CookieView.{cookie_shown}
use Rattle.py_plain_text.specs.TextCalls.{SeekText}
use Rattle.py_stream.specs.Kinds.{says_wait}
use Rattle.py_read_text.specs.Answers.{refused_here, Answers, cookie_reply}
use Rattle.py_textio.specs.Written.{WrittenView, state_of, file_now}
use Rattle.py_textio.specs.Seeking.{AnswersSeeks}
use Rattle.py_textio.proofs.Seeking.{asks_so, unsought_so, seeks_here, seeks_by_cookie, parsed_so, sound_so, builds_so, none_parsed, builds_by}
use Rattle.py_textio.proofs.written_text.WrittenText.seek.Goals as goal

pub returns-in-Some-clause-answers : goal.returns-in-Some-clause-answers
returns-in-Some-clause-answers g c =
    let asks = asks_so c.args.self.now c.args.cookie.now c.args.whence _ c.seek_fault.result c.requires.moves (to_z-of_z w64 c.from.result (record { sfits = c.from.type_inv }) ∙ (c.from.ensures ∙ to_z-of_z w32 c.args.whence c.ranges.whence)) c.seek_fault.ensures in
    unsought_so c.args.self.now c.args.cookie.now c.args.whence c.in-Some.fault (asks.here ∙ c.in-Some.is) c.life.ensures.joined

pub seek_end-requires-clause-accepted : goal.seek_end-requires-clause-accepted
seek_end-requires-clause-accepted g c =
    let second : c.args.whence ≡ pos 2 = search rules in
    let asks = asks_so c.args.self.now c.args.cookie.now c.args.whence _ c.seek_fault.result c.requires.moves (to_z-of_z w64 c.from.result (record { sfits = c.from.type_inv }) ∙ (c.from.ensures ∙ to_z-of_z w32 c.args.whence c.ranges.whence)) c.seek_fault.ensures in
    subst (λ (whence : ℤ). refused_here (file_now c.args.self.now) (SeekText c.args.cookie.now whence) ≡ None) second (asks.here ∙ c.in_default.is)

pub seek_to-requires-in-Some-parse-clause-sound : goal.seek_to-requires-in-Some-parse-clause-sound
seek_to-requires-in-Some-parse-clause-sound g c =
    let asks = asks_so c.args.self.now c.args.cookie.now c.args.whence _ c.seek_fault.result c.requires.moves (to_z-of_z w64 c.from.result (record { sfits = c.from.type_inv }) ∙ (c.from.ensures ∙ to_z-of_z w32 c.args.whence c.ranges.whence)) c.seek_fault.ensures in
    let is = parsed_so c.in-Some-parse.goal c.args.cookie.now (ap (option_map cookie_shown) (sym c.in-Some-parse.is) ∙ c.parse.ensures) in
    sound_so c.args.self.now c.args.cookie.now c.args.whence c.in-Some-parse.goal (sym asks.asked ∙ c.in_default.is) is (search rules)

pub returns-in-1-clause-answers : goal.returns-in-1-clause-answers
returns-in-1-clause-answers g c =
    let first : c.args.whence ≡ pos 1 = search rules in
    let asks = asks_so c.args.self.now c.args.cookie.now c.args.whence _ c.seek_fault.result c.requires.moves (to_z-of_z w64 c.from.result (record { sfits = c.from.type_inv }) ∙ (c.from.ensures ∙ to_z-of_z w32 c.args.whence c.ranges.whence)) c.seek_fault.ensures in
    let none = subst (λ (whence : ℤ). refused_here (file_now c.args.self.now) (SeekText c.args.cookie.now whence) ≡ None) first (asks.here ∙ c.in_default.is) in
    let answers = subst (λ (view : WrittenView). AnswersSeeks (state_of view false) (cookie_shown c.tell-here.result) (cookie_reply c.seek_to.result) (state_of c.seek_to.new.self (says_wait (cookie_reply c.seek_to.result)))) c.tell-here.ensures.same c.seek_to.ensures.answers in
    subst (λ (whence : ℤ). Answers (state_of c.args.self.now false) (SeekText c.args.cookie.now whence) (cookie_reply c.seek_to.result) (state_of c.seek_to.new.self (says_wait (cookie_reply c.seek_to.result)))) (sym first) (answers c.args.cookie.now (pos 1) (seeks_here c.args.self.now c.args.cookie.now c.tell-here.result none c.tell-here.ensures.tells))

pub returns-in-1-clause-builds : goal.returns-in-1-clause-builds
returns-in-1-clause-builds g c = builds_by c.seek_to.result _ c.seek_to.ensures.goal c.tell-here.ensures.tells.builds

pub returns-in-2-clause-answers : goal.returns-in-2-clause-answers
returns-in-2-clause-answers g c =
    let second : c.args.whence ≡ pos 2 = search rules in
    subst (λ (whence : ℤ). Answers (state_of c.args.self.now false) (SeekText c.args.cookie.now whence) (cookie_reply c.seek_end.result) (state_of c.seek_end.new.self (says_wait (cookie_reply c.seek_end.result)))) (sym second) c.seek_end.ensures.answers

pub returns-in-Some-parse-clause-answers : goal.returns-in-Some-parse-clause-answers
returns-in-Some-parse-clause-answers g c =
    let other : c.args.whence ≢ pos 1 = search rules in
    let later : c.args.whence ≢ pos 2 = search rules in
    let asks = asks_so c.args.self.now c.args.cookie.now c.args.whence _ c.seek_fault.result c.requires.moves (to_z-of_z w64 c.from.result (record { sfits = c.from.type_inv }) ∙ (c.from.ensures ∙ to_z-of_z w32 c.args.whence c.ranges.whence)) c.seek_fault.ensures in
    let is = parsed_so c.in-Some-parse.goal c.args.cookie.now (ap (option_map cookie_shown) (sym c.in-Some-parse.is) ∙ c.parse.ensures) in
    c.seek_to-in-Some-parse.ensures.answers c.args.cookie.now c.args.whence (seeks_by_cookie c.args.self.now c.args.cookie.now c.args.whence (cookie_shown c.in-Some-parse.goal) other later (asks.here ∙ c.in_default.is) is)

pub returns-in-Some-parse-clause-builds : goal.returns-in-Some-parse-clause-builds
returns-in-Some-parse-clause-builds g c =
    let asks = asks_so c.args.self.now c.args.cookie.now c.args.whence _ c.seek_fault.result c.requires.moves (to_z-of_z w64 c.from.result (record { sfits = c.from.type_inv }) ∙ (c.from.ensures ∙ to_z-of_z w32 c.args.whence c.ranges.whence)) c.seek_fault.ensures in
    let is = parsed_so c.in-Some-parse.goal c.args.cookie.now (ap (option_map cookie_shown) (sym c.in-Some-parse.is) ∙ c.parse.ensures) in
    builds_by c.seek_to-in-Some-parse.result _ c.seek_to-in-Some-parse.ensures.goal (builds_so c.args.self.now c.args.cookie.now c.args.whence c.in-Some-parse.goal (sym asks.asked ∙ c.in_default.is) is)

pub returns-in-None-clause-answers : goal.returns-in-None-clause-answers
returns-in-None-clause-answers g c =
    let asks = asks_so c.args.self.now c.args.cookie.now c.args.whence _ c.seek_fault.result c.requires.moves (to_z-of_z w64 c.from.result (record { sfits = c.from.type_inv }) ∙ (c.from.ensures ∙ to_z-of_z w32 c.args.whence c.ranges.whence)) c.seek_fault.ensures in
    absurd (none_parsed c.args.self.now c.args.cookie.now c.args.whence (sym asks.asked ∙ c.in_default.is) (ap (option_map cookie_shown) (sym c.in-None.is) ∙ c.parse.ensures))

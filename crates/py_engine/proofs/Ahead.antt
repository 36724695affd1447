-- What an engine holds from its place on: lent, and passed over.
use Rattle.std.proofs.Common.{◌≡◌, ◌≢◌, ℕ, ◌<◌, min, Bool, true, false, List, [], length, take, Result, Ok, Err, IfOk, refl, sym, ap, ◌∙◌, arith}
use Rattle.std.proofs.lemmas.List.{length-drop, length-take}
use Rattle.py_flat.specs.declared.fault.IoFault.{IoFault}
use Rattle.py_flat.specs.declared.life.Life.{Life}
use Rattle.py_flat.specs.declared.life.Life.TheVariants as life
use Rattle.py_flat.specs.Calls.{ReadInto1}
use Rattle.py_stream.specs.Access.{is_read}
use Rattle.py_stream.specs.Answers.{ahead}
use Rattle.py_window.specs.Window.{ahead_of, advanced, flat_over}
use Rattle.py_engine.specs.Engine.{EngineView, stream_of, Stands, BeginOutcome}
use Rattle.py_engine.specs.Random.{SomeOutcome}
use Rattle.py_engine.specs.Ahead.{while_live, lent_by, LendsAhead, PassesOver}
use Rattle.py_engine.proofs.Transfers.{bytes_ahead}
use Rattle.py_engine.proofs.Random.{holds_flat, none_asked, once_given}

-- a live stream lends as many bytes as its window holds from the cursor on
lent_many : (engine : EngineView) → engine.life ≡ life.Live → length (ahead_of engine.window) ≡ lent_by (stream_of engine)
lent_many engine live =
    let held : length (ahead_of engine.window) ≡ ahead (stream_of engine) = omega (arith, length-drop engine.window.cursor engine.window.held) in
    held ∙ sym (ap (λ (current : Life). while_live current (ahead (stream_of engine))) live)

-- which come next, where they are told
pub lends_ahead : (engine : EngineView) → Stands engine → is_read engine.access ≡ true → engine.life ≡ life.Live → LendsAhead (stream_of engine) (ahead_of engine.window)
lends_ahead engine is reads live = record {
  many = lent_many engine live;
  told = λ tells. bytes_ahead (flat_over engine.raw.bytes engine.window) engine.window is.window_is.cursor (holds_flat engine.access engine.raw.bytes engine.raw_place engine.window reads is.shape (is.told tells live));
}

-- so does one that looked ahead, and has some bytes held, or met the end
pub look_lends : (old begun new : EngineView) (result : Result Bool IoFault) → Stands new → BeginOutcome old (Ok tt) begun → SomeOutcome begun begun.window.size result new → IfOk result (λ shown. shown ≡ true → LendsAhead (stream_of new) (ahead_of new.window))
look_lends old begun new (Ok true) is began some = λ shown. lends_ahead new is some.reads ((some.look refl).moves.life_is ∙ (ap (λ (engine : EngineView). engine.life) began.1 ∙ began.0))
look_lends old begun new (Ok false) is began some = λ shown. absurd (cc)
look_lends old begun new (Err why) is began some = tt

module _ (old begun : EngineView) (is : Stands old) (reads : is_read old.access ≡ true) (began : BeginOutcome old (Ok tt) begun) where
  -- as many are passed over as are asked for, of those held
  passed_many : (amount count : ℕ) → count ≡ min amount (length (ahead_of begun.window)) → count ≡ min amount (lent_by (stream_of old))
  passed_many amount count least = least ∙ ap (min amount) (ap (λ (engine : EngineView). length (ahead_of engine.window)) began.1 ∙ lent_many old began.0)

  -- none are passed over
  pub passes_none : (amount : ℕ) → 0 ≡ min amount (length (ahead_of begun.window)) → PassesOver (stream_of old) amount (Ok 0) (stream_of begun)
  passes_none amount least = (passed_many amount 0 least, ([], refl, none_asked old begun is reads began (ReadInto1 0) refl))

  -- some are
  pub passes_some : (new : EngineView) (amount count : ℕ) → count ≡ min amount (length (ahead_of begun.window)) → count ≢ 0 → new ≡ record begun { window = advanced count begun.window } → PassesOver (stream_of old) amount (Ok count) (stream_of new)
  passes_some new amount count least some same =
      let part : List ℕ = take count (ahead_of begun.window) in
      let many : length part ≡ count = omega (arith, length-take count (ahead_of begun.window), least) in
      let held : 0 < length (ahead_of begun.window) = omega (arith, least, some) in
      let moved : new ≡ record begun { window = advanced (length part) begun.window } = same ∙ ap (λ (n : ℕ). record begun { window = advanced n begun.window }) (sym many) in
      (passed_many amount count least, (part, many, once_given old begun is reads began new (ReadInto1 count) count part refl refl refl some (held, λ none. absurd (omega (arith, none, held, length-drop begun.window.cursor begun.window.held))) refl moved))

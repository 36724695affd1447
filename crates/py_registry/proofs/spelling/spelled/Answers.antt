use Rattle.std.proofs.Common.{List, ℕ, [], ◌∷◌, ◌++◌, chars, string_bytes, sym, ap, ◌∙◌}
use Rattle.std.proofs.lemmas.Str.{IsUtf8-string_bytes, chars_from_encodes}
use Rattle.py_codec.specs.Answers.{text_of}
use Rattle.py_blocks.proofs.Appended.{text_of-push}
use Rattle.py_registry.specs.Names.{normal_name}
use Rattle.py_registry.proofs.Spelled.{spelled-next}
use Rattle.py_registry.proofs.spelling.spelled.Goals as goal

pub loop-character-init : goal.loop-character-init
loop-character-init c = record {
  is_text = c.utf8.name;
  made = ap (λ (front : List ℕ). front ++ normal_name (chars c.args.name.now)) (sym (chars_from_encodes [] (string_bytes c.in_ok-made.made) (IsUtf8-string_bytes c.in_ok-made.made) (sym c.in_ok-made.ensures.bytes)));
}

pub loop-character-preserved : goal.loop-character-preserved
loop-character-preserved c =
    let pushed = text_of-push c.loop-character.made c.push.new.self c.normal_character.result c.in_ok-push.ensures.bytes in
    record {
      is_text = c.in-Some.ensures.utf8;
      made = spelled-next c.in-Some.character (text_of c.loop-character.made) (text_of c.push.new.self) (chars c.loop-character.left.now) (chars c.in-Some.behind.now) c.in-Some.ensures.parts (pushed ∙ ap (λ (d : ℕ). text_of c.loop-character.made ++ d ∷ []) c.normal_character.ensures) ∙ c.loop-character.invariant.made;
    }

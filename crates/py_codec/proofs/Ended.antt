-- What a decoding that was answered, or refused, says of how its walk ended.
use Rattle.std.proofs.Common.{◌≡◌, ℕ, List, Ok, Err, sym, ap, ◌∙◌}
use Rattle.py_flat.specs.declared.fault.IoFault.{IoFault}
use Rattle.py_flat.specs.declared.fault.IoFault.TheVariants.{UnicodeDecodeError}
use Rattle.py_plain.specs.Items.{Ending, AtEnd, AtRange, AtCut}
use Rattle.py_codec.specs.Answers.{Expected}
use Rattle.py_codec.specs.Decoding.{ended}

-- how many bytes were used
abbrev pub CameTo : (total : ℕ) → Ending → (used : ℕ) → Type 0
CameTo total AtEnd used = used ≡ total
CameTo total (AtCut start) used = used ≡ start
CameTo total (AtRange start end) used = ⊥

-- an answered decoding has the characters of its walk, and used the bytes that the walk came to
pub record IsAnswered (characters : List ℕ) (total : ℕ) (ending : Ending) (text : List ℕ) (used : ℕ) : Type 0 where
  pub text_is : characters ≡ text
  pub came : CameTo total ending used

ok_parts : (characters text : List ℕ) (total used : ℕ) → ◌≡◌ {A = Expected} (Ok (characters, total)) (Ok (text, used)) → (characters ≡ text) × (used ≡ total)
ok_parts characters text total used is =
    let same : ◌≡◌ {A = List ℕ × ℕ} (characters, total) (text, used) = cc in
    (ap (λ (pair : List ℕ × ℕ). pair.0) same, sym (ap (λ (pair : List ℕ × ℕ). pair.1) same))

-- a walk whose decoding is answered was not refused: the text is its characters, the bytes used those that it came to
pub answered : (characters : List ℕ) (total : ℕ) (refusal : ℕ → ℕ → IoFault) (ending : Ending) (text : List ℕ) (used : ℕ) → ended characters total refusal ending ≡ Ok (text, used) → IsAnswered characters total ending text used
answered characters total refusal AtEnd text used is =
    let parts = ok_parts characters text total used is in
    record { text_is = parts.0; came = parts.1 }
answered characters total refusal (AtCut start) text used is =
    let parts = ok_parts characters text start used is in
    record { text_is = parts.0; came = parts.1 }
answered characters total refusal (AtRange start end) text used is = absurd (cc)

-- a walk whose decoding is refused with a range ended at that range
pub refused_at : (characters : List ℕ) (total : ℕ) (ending : Ending) (start end : ℕ) → ended characters total UnicodeDecodeError ending ≡ Err (UnicodeDecodeError start end) → ending ≡ AtRange start end
refused_at characters total AtEnd start end is = absurd (cc)
refused_at characters total (AtCut from) start end is = absurd (cc)
refused_at characters total (AtRange from to) start end is =
    let starts : from ≡ start = cc in
    let ends : to ≡ end = cc in
    ap (λ (s : ℕ). AtRange s to) starts ∙ ap (AtRange start) ends

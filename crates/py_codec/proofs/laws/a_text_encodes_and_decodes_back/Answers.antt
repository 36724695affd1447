use Rattle.py_codec.proofs.Texts.{written, read, strict}
use Rattle.py_codec.proofs.Strictly.{back}
use Rattle.py_codec.proofs.laws.a_text_encodes_and_decodes_back.Goals as goal

pub returns : goal.returns
returns g c = record {
  written = written g.H.ErrorHandler.encodes;
  read = read g.H.ErrorHandler.decodes;
  strict = strict g.H.ErrorHandler.encodes;
  back = back g.H.ErrorHandler.decodes;
}

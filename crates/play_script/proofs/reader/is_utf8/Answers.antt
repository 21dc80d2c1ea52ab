use Rattle.play_script.proofs.Utf8.{decides_utf8}
use Rattle.play_script.proofs.reader.is_utf8.Goals as goal

pub returns : goal.returns
returns c = decides_utf8 c.is_read_as_text.result c.args.line.now c.is_read_as_text.ensures

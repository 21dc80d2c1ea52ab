use Rattle.std.proofs.Common.{rules}
use Rattle.std.proofs.lemmas.List.{take_rest}
use Rattle.file_names.proofs.Escapes.{encoded_ends, encoded_on}
use Rattle.file_names.proofs.file_name.encoded.Goals as goal

pub loop-i-preserved : goal.loop-i-preserved
loop-i-preserved c =
    encoded_on c.args.path.now c.loop-i.text.items c.put_encoded.new.text.items c.loop-i.i (search rules) c.loop-i.invariant (rw take_rest at c.in_ok-put_encoded.ensures)

pub returns : goal.returns
returns c = encoded_ends c.args.path.now c.loop-i.text.items c.loop-i.i (search rules) c.loop-i.invariant

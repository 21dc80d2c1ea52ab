use Rattle.std.proofs.Common.{◌∙◌}
use Rattle.folder_edits.proofs.Serving.{wrote_line}
use Rattle.folder_edits.proofs.ending.write_last.Goals as goal

pub returns-clause-last : goal.returns-clause-last
returns-clause-last g c =
    wrote_line c.args.ended c.write_all.result _ _ _ _ _ (c.as_bytes.ensures.value ∙ c.last_line.ensures) c.write_all.ensures.front c.write_all.ensures.done c.write_all.ensures.failed

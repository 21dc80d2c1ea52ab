use Rattle.std.proofs.Common.{ap, sym, ◌∙◌}
use Rattle.std.specs.Prelude.{List, Result, Ok}
use Rattle.hmr_types.specs.declared.limits.TheConstants.{MESSAGE_BYTES}
use Rattle.hub_editor.specs.Edits.{edits_in}
use Rattle.play_script.specs.Edits.{Edit}
use Rattle.play_script.specs.declared.fault.ScriptFault.{ScriptFault}
use Rattle.edit_input.proofs.Shortness.{read_short}
use Rattle.edit_input.proofs.script.edits_of.Goals as goal

pub returns-in_ok-script-in-Ok-clause-short : goal.returns-in_ok-script-in-Ok-clause-short
returns-in_ok-script-in-Ok-clause-short c =
    let script = edits_in c.in_ok-script-in-Ok.script.items in
    read_short c.args.bytes.now script MESSAGE_BYTES
    (c.in-Ok.ensures
    ∙ ap (λ edits. let r : Result (List Edit) ScriptFault = Ok edits in r) (sym c.in_ok-script-in-Ok.ensures))
    c.requires.short

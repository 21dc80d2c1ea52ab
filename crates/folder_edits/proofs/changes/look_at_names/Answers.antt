use Rattle.std.proofs.Common.{◌≡◌, true, subst}
use Rattle.std.proofs.lemmas.List.Elements.{All-more}
use Rattle.hmr_types.specs.ModName.{is_name}
use Rattle.folder_edits.proofs.Shortness.{all_taken}
use Rattle.folder_edits.proofs.changes.look_at_names.Goals as goal

pub loop-name-preserved : goal.loop-name-preserved
loop-name-preserved c =
    All-more (λ e. is_name e.0 ≡ true) c.args.edits.now c.loop-name.name-index c.loop-name-item.result c.loop-name-test.true c.loop-name.invariant
    (subst (λ e. is_name e.0 ≡ true) c.loop-name-item.is c.as_bytes.ensures.name)

pub returns : goal.returns
returns c = all_taken (λ e. is_name e.0 ≡ true) c.args.edits.now c.loop-name.name-index c.loop-name-test.false c.loop-name.invariant

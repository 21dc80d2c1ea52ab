use Rattle.std.proofs.Common.{◌≡◌, true, subst}
use Rattle.std.specs.Prelude.{All}
use Rattle.hmr_types.specs.ModName.{is_name}
use Rattle.folder_edits.proofs.Shortness.{rising_in, short_edits}
use Rattle.folder_edits.proofs.changes.changes_between.Goals as goal

pub returns-clause-rising : goal.returns-clause-rising
returns-clause-rising c = rising_in c.in_ok-edits.edits.items c.in_ok-edits.ensures.rising

pub returns-clause-short : goal.returns-clause-short
returns-clause-short c =
    short_edits c.args.old.now c.args.new.now c.in_ok-edits.edits.items c.requires.short c.in_ok-edits.ensures.rising c.in_ok-edits.ensures.exact
    (subst (λ es. All (λ e. is_name e.0 ≡ true) es) c.deref.ensures.value c.look_at_names.ensures)

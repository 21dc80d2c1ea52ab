use Rattle.std.proofs.Common.{◌≡◌, true, sym, subst, ◌∙◌}
use Rattle.std.specs.Prelude.{not, ◌&&◌}
use Rattle.hmr_types.specs.ModName.{is_name}
use Rattle.folder_watch.specs.Watched.{is_passed}
use Rattle.folder_watch.proofs.Watching.{kept_open, kept_short}
use Rattle.folder_watch.proofs.walk.take_folder.Goals as goal

pub add_folder-requires-clause-open : goal.add_folder-requires-clause-open
add_folder-requires-clause-open g c =
    kept_open c.args.folder.now c.args.name.now c.args.path.items c.requires.place c.requires.open c.requires.plain
    (subst (λ p. (not (is_passed c.args.name.now) && is_name p) ≡ true) c.deref.ensures.value (sym c.is_kept.ensures ∙ c.if-is_kept.true))

pub add_folder-requires-clause-short : goal.add_folder-requires-clause-short
add_folder-requires-clause-short g c =
    kept_short c.args.name.now c.args.path.items
    (subst (λ p. (not (is_passed c.args.name.now) && is_name p) ≡ true) c.deref.ensures.value (sym c.is_kept.ensures ∙ c.if-is_kept.true))

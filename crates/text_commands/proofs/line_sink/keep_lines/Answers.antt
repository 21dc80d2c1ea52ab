use Rattle.std.proofs.Common.{[], ◌∷◌, ◌++◌, ap, append_assoc, sym, ◌∙◌}
use Rattle.text_commands.specs.Showing.{shown}
use Rattle.text_commands.proofs.Shown.{shown_both}
use Rattle.text_commands.proofs.line_sink.keep_lines.Goals as goal

pub loop-line-preserved : goal.loop-line-preserved
loop-line-preserved c =
    let before = c.args.kept.now.items in
    let line = c.in-Some.line ∷ [] in
    let shows = shown c.args.quiet in
    c.in_ok-keep_line.ensures
    ∙ (ap (λ kept. kept ++ shows line) c.loop-line.invariant
    ∙ (append_assoc before (shows c.loop-line.yielded) (shows line)
    ∙ ap (λ more. before ++ more) (sym (shown_both c.args.quiet c.loop-line.yielded line))))

-- Of two lists of lines, those are shown that are shown of each.
use Rattle.std.proofs.Common.{◌≡◌, ◌+◌, Bool, true, false, List, ◌++◌, refl}
use Rattle.std.specs.Prelude.{not}
use Rattle.std.proofs.lemmas.List.Elements.{filter-append}
use Rattle.output_lines.specs.declared.out_line.OutLine.{OutLine}
use Rattle.world_model.specs.Playing.{went_well}
use Rattle.text_commands.specs.Showing.{shown}

-- what is shown of both
pub shown_both : (quiet : Bool) (xs ys : List OutLine) → shown quiet (xs ++ ys) ≡ shown quiet xs ++ shown quiet ys
shown_both false xs ys = refl
shown_both true xs ys = filter-append (λ l. not (went_well l)) xs ys

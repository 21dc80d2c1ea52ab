-- Which lines of a step are shown.
use Rattle.std.specs.Prelude.{Bool, true, false, not, List, filter}
use Rattle.output_lines.specs.declared.out_line.OutLine.{OutLine}
use Rattle.world_model.specs.Playing.{went_well}

-- the lines that are shown: where the script is quiet, those of edits, results and openings that went well
-- aren't
abbrev pub shown : Bool → List OutLine → List OutLine
shown false lines = lines
shown true lines = filter (λ l. not (went_well l)) lines

-- A front of the lines that a script makes is a front of the whole output.
use Rattle.std.proofs.Common.{◌≡◌, ℕ, Bool, true, false, List, [], ◌++◌, sym, refl}
use Rattle.std.specs.Prelude.{Option, Result, Ok}
use Rattle.std.proofs.KnownBytes.{Appends-nil}
use Rattle.std.proofs.Math.Path.{subst}
use Rattle.hmr_base.specs.Fronts.{WritesFront}
use Rattle.hmr_base.proofs.Fronts.{front_more}
use Rattle.core_model.specs.Sources.{Text}
use Rattle.play_script.specs.declared.fault.ScriptFault.{ScriptFault}
use Rattle.play_script.specs.Script.{Contents}
use Rattle.command_ends.specs.Ends.{limit_line}
use Rattle.command_ends.specs.declared.limit.Limit.TheVariants.{Instances}
use Rattle.script_runs.specs.Outputs.{ended, output_of_script}
use Rattle.text_commands.specs.Outputs.{lines_text, whole}
use Rattle.script_runs.specs.Playing.{script_played}

-- a front of the lines is a front of the whole output
run_front : (a b : Option (List ℕ)) (text : List ℕ) (over : Bool)
    → WritesFront a b text → WritesFront a b (whole (ended over text))
run_front a b text true w =
    let last = limit_line Instances in
    front_more a a b [] text last (text ++ last) (Appends-nil a) w refl
run_front a b text false w = front_more a a b [] text [] (text ++ []) (Appends-nil a) w refl

-- the same of the output of bytes that mean this script
pub script_front : (shelves : List (List (Text × ℕ))) (meant : Result Contents ScriptFault) (script : Contents)
    (a b : Option (List ℕ)) → meant ≡ Ok script → WritesFront a b (lines_text (script_played shelves script).lines)
    → WritesFront a b (whole (output_of_script shelves meant))
script_front shelves meant script a b is w =
    let played = script_played shelves script in
    let IsFront : Result Contents ScriptFault → Type 0 = λ m. WritesFront a b (whole (output_of_script shelves m)) in
    subst IsFront (sym is) (run_front a b (lines_text played.lines) played.over w)

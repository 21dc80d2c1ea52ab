-- The canonical spelling of a script is read as that script.
use Rattle.std.proofs.Common.{List, [], true, map, ◌≡◌, ap, ◌∙◌, Ok}
use Rattle.std.specs.List.{flat_map, list_all}
use Rattle.std.specs.Prelude.{ℕ, ◌++◌, codes}
use Rattle.std.proofs.lemmas.Bool.{and_from}
use Rattle.std.proofs.lemmas.List.Folds.{list_all-append}
use Rattle.hmr_types.specs.Results.{◌>>=◌}
use Rattle.play_script.specs.declared.form.Form.TheVariants as forms
use Rattle.play_script.specs.Texts.{spaced}
use Rattle.play_script.specs.Script.{Contents, Line, beginning, checked, commands, finished, script_of}
use Rattle.play_script.specs.Spelling.{HasSpelling, command_lines, script_lines, spelling}
use Rattle.play_script.proofs.SpelledChecks.{spelling_passes}
use Rattle.play_script.proofs.SpelledCommands.{spelling_says}
use Rattle.play_script.proofs.SpelledLfs.{commands_no_lf, roots_no_lf}
use Rattle.play_script.proofs.SpelledNames.{has_no_lf}
use Rattle.play_script.proofs.SpelledTexts.{ended, lines-ended_by_lf}

same_script : (s : Contents) (roots : List (List ℕ)) (ls : List Line) → roots ≡ s.roots → commands ls ≡ s.lines → let x : Contents = record { roots = roots; lines = commands ls } in x ≡ s
same_script s roots ls rs cs = ap (λ r. let x : Contents = record { roots = r; lines = commands ls } in x) rs ∙ ap (λ c. let x : Contents = record { roots = s.roots; lines = c } in x) cs

-- the canonical spelling of a script is read as that script
pub spelling_is_read : (s : Contents) → HasSpelling s → script_of (spelling s) ≡ Ok s
spelling_is_read s h =
    let whole : list_all has_no_lf (script_lines s) ≡ true = list_all-append has_no_lf (map (λ name. codes "root" ++ spaced name) s.roots) (flat_map command_lines s.lines) ∙ and_from _ _ (roots_no_lf s.roots [] h.roots) (commands_no_lf s.lines h.lines) in
    let ls = map ended (script_lines s) in
    let passes = spelling_passes s h in
    ap (λ l. checked (beginning forms.Page) 1 l >>= λ draft. Ok (finished l draft)) (lines-ended_by_lf (script_lines s) whole)
    ∙ (ap (λ r. r >>= λ draft. Ok (finished ls draft)) passes.1 ∙ ap Ok (same_script s (passes.0).roots ls passes.2 (spelling_says s h)))

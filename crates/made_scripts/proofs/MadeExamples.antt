-- Worked examples of made scripts and of summaries. What is written of the script of 6 modules and the seed 7
-- was made by a program of its own.
use Rattle.std.proofs.Common.{◌≡◌, ◌++◌, ◌∷◌, [], List, ℕ, refl}
use Rattle.std.specs.Prelude.{codes}
use Rattle.std.specs.Fmt.{digits}
use Rattle.hmr_types.specs.declared.words.PlanKind.TheVariants as plans
use Rattle.output_lines.specs.declared.out_line.OutLine.{OutLine}
use Rattle.output_lines.specs.declared.out_line.OutLine.TheVariants as told
use Rattle.output_lines.specs.declared.words.ClientState.{ClientState}
use Rattle.output_lines.specs.declared.words.ClientState.TheVariants as states
use Rattle.play_script.specs.declared.script_line.ScriptLine.TheVariants as lines
use Rattle.made_scripts.specs.Making.{drawn, edit_of, generated, made, module_name, module_text, next, round, rounds, state_after}
use Rattle.made_scripts.specs.Summary.{is_fresh, is_module, is_reload, is_up, is_update, reloads_text, summary, updates_text}

-- the text of the root
abbrev the_root : List ℕ → List ℕ
the_root value =
    codes "import { v as v1 } from \"./m1.js\";\nimport { v as v2 } from \"./m2.js\";\n"
    ++ codes "import { v as v3 } from \"./m3.js\";\nimport { v as v4 } from \"./m4.js\";\n" ++ value

six_of_seven : generated 6 7 ≡ record {
  roots = codes "/m0.js" ∷ [];
  lines =
      lines.Quiet
      ∷ lines.Edit (codes "/m0.js") (the_root (codes "export const v = 0;\n"))
      ∷ lines.Edit (codes "/m1.js") (codes "import { v as v5 } from \"./m5.js\";\nexport const v = 0;\n")
      ∷ lines.Edit (codes "/m2.js") (codes "export const v = 0;\n")
      ∷ lines.Edit (codes "/m3.js") (codes "export const v = 0;\nimport.meta.hot.accept();\n")
      ∷ lines.Edit (codes "/m4.js") (codes "export const v = 0;\n")
      ∷ lines.Edit (codes "/m5.js") (codes "export const v = 0;\n")
      ∷ lines.SettleAll
      ∷ lines.Open 1 []
      ∷ lines.Turns 1 10
      ∷ lines.Edit (codes "/m0.js") (the_root (codes "export const v = 1;\n"))
      ∷ lines.SettleAll
      ∷ lines.Turns 1 28
      ∷ lines.Edit (codes "/m5.js") (codes "export const v = 2;\n")
      ∷ lines.SettleAll
      ∷ lines.Turns 1 28
      ∷ lines.Edit (codes "/m5.js") (codes "export const v = 3;\n")
      ∷ lines.SettleAll
      ∷ lines.Turns 1 28
      ∷ lines.Edit (codes "/m2.js") (codes "export const v = 4;\n")
      ∷ lines.SettleAll
      ∷ lines.Turns 1 28
      ∷ lines.Edit (codes "/m5.js") (codes "export const v = 5;\n")
      ∷ lines.SettleAll
      ∷ lines.Turns 1 28
      ∷ lines.Edit (codes "/m1.js") (codes "import { v as v5 } from \"./m5.js\";\nexport const v = 6;\n")
      ∷ lines.SettleAll
      ∷ lines.Turns 1 28
      ∷ lines.Edit (codes "/m4.js") (codes "export const v = 7;\n")
      ∷ lines.SettleAll
      ∷ lines.Turns 1 28
      ∷ lines.Edit (codes "/m0.js") (the_root (codes "export const v = 8;\n"))
      ∷ lines.SettleAll
      ∷ lines.Turns 1 28
      ∷ lines.Show 1
      ∷ lines.Fresh ∷ [];
}
unfolding drawn edit_of made module_name module_text next round rounds state_after digits
six_of_seven = refl

-- the lines of a run with four updates, three reloads, this state of the client at its end, and a module of
-- this version where the fresh load has version 2
abbrev run_of : ClientState → ℕ → List OutLine
run_of state version =
    told.Applied 1 plans.Load
    ∷ told.Applied 1 plans.Update ∷ told.Applied 1 plans.Update ∷ told.Applied 1 plans.Update ∷ told.Applied 1 plans.Update
    ∷ told.Applied 1 plans.Reload ∷ told.Applied 1 plans.Reload ∷ told.Applied 1 plans.Reload
    ∷ told.Client 1 state ∷ told.Module (codes "/m0.js") version ∷ told.Fresh ∷ told.Module (codes "/m0.js") 2 ∷ []

-- a client is as a fresh load only where it is up and shows the versions of one
summed_up :
    (summary 1 9 (run_of states.Up 2) ≡ codes "modules 1 updates 4 reloads 3 instances 9 equal yes\n")
    × (summary 400 20000 (run_of states.Behind 2) ≡ codes "modules 400 updates 4 reloads 3 instances 20000 equal no\n")
    × (summary 2 3 (run_of states.Up 1) ≡ codes "modules 2 updates 4 reloads 3 instances 3 equal no\n")
unfolding is_fresh is_module is_reload is_up is_update reloads_text updates_text digits
summed_up = (refl, refl, refl)

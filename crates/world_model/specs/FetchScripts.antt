-- Scripts in which sources change while a client fetches, or can't be had.
use Rattle.std.specs.Prelude.{ℕ, true, false, List, [], ◌∷◌, Some, None, codes}
use Rattle.module_tree.specs.Syntax.{num, text, name, member, log, ItemTree, declare, own, deps}
use Rattle.core_model.specs.Sources.{Text}
use Rattle.world_model.specs.World.{edits, settles, opens, turn, show, fresh}
use Rattle.world_model.specs.Playing.{Command, step, settle_all, turns, Stage}
use Rattle.world_model.specs.SmallPages.{m, a, x, importing, exporting, accepting, self_accepting, binding}
use Rattle.world_model.specs.SmallPages.{module_of, page_of, callback, edited}

-- Late results, an equal text, and a version that was settled before.

abbrev pub one_text : Text
one_text = codes "export const n = 1;"

abbrev pub two_text : Text
two_text = codes "export const n = 2;"

abbrev pub n : List ℕ
n = codes "n"

abbrev pub late : Stage
late = page_of (
    (one_text, module_of (exporting (n ∷ []) (importing [])) [] (declare true false n (num 1) ∷ [])) ∷
    (two_text, module_of (exporting (n ∷ []) (importing [])) [] (declare true false n (num 2) ∷ [])) ∷ [])

abbrev pub late_script : List Command
late_script =
    edited m one_text ∷ edited m two_text ∷ step (settles m 2) ∷ step (settles m 1) ∷ step (settles m 2) ∷
    edited m two_text ∷ step fresh ∷ []

-- A text that can't be read, then its mend.

abbrev pub faulty_text : Text
faulty_text = codes "export const = 2;"

abbrev pub faulty_script : List Command
faulty_script =
    edited m one_text ∷ settle_all ∷ step (opens 1 []) ∷ turns 1 9 ∷
    edited m faulty_text ∷ settle_all ∷ turns 1 9 ∷ step (show 1) ∷
    edited m two_text ∷ settle_all ∷ turns 1 9 ∷ step (show 1) ∷ []

-- An edit between the plan and its fetch: the newest text no longer accepts itself.

abbrev pub moving_1 : Text
moving_1 = codes "export const a = 1;\nimport.meta.hot.accept();"

abbrev pub moving_2 : Text
moving_2 = codes "export const a = 2;\nimport.meta.hot.accept();"

abbrev pub moving_3 : Text
moving_3 = codes "export const a = 3;"

abbrev pub moving_4 : Text
moving_4 = codes "export const a = 4;"

abbrev pub moving_m : Text
moving_m = codes "import { a } from \"./a.js\";"

abbrev pub export_a : ℕ → ItemTree
export_a k = declare true false (codes "a") (num k)

abbrev pub moving : Stage
moving = page_of (
    (moving_m, module_of (importing (a ∷ [])) (binding a (codes "a") (codes "a") ∷ []) []) ∷ (
      moving_1,
      module_of (self_accepting (exporting (codes "a" ∷ []) (importing []))) [] (export_a 1 ∷ own None ∷ []),
    ) ∷ (
      moving_2,
      module_of (self_accepting (exporting (codes "a" ∷ []) (importing []))) [] (export_a 2 ∷ own None ∷ []),
    ) ∷
    (moving_3, module_of (exporting (codes "a" ∷ []) (importing [])) [] (export_a 3 ∷ [])) ∷
    (moving_4, module_of (exporting (codes "a" ∷ []) (importing [])) [] (export_a 4 ∷ [])) ∷ [])

abbrev pub moving_script : List Command
moving_script =
    edited m moving_m ∷ edited a moving_1 ∷ settle_all ∷ step (opens 1 []) ∷ turns 1 9 ∷
    edited a moving_2 ∷ settle_all ∷ step (turn 1) ∷
    edited a moving_3 ∷ settle_all ∷ turns 1 9 ∷ step (show 1) ∷
    edited a moving_4 ∷ settle_all ∷ turns 1 9 ∷ step (show 1) ∷ []

-- Mixed versions: a was fetched before x changed, and doesn't fit what x became.

abbrev pub mixed_m : Text
mixed_m = codes "import \"./a.js\"; import.meta.hot.accept(\"./a.js\");"

abbrev pub mixed_a : Text
mixed_a = codes "import { x } from \"./x.js\"; export const a = x;"

abbrev pub mixed_a_new : Text
mixed_a_new = codes "import { y } from \"./x.js\"; export const a = y;"

abbrev pub mixed_x_1 : Text
mixed_x_1 = codes "export const x = 1;"

abbrev pub mixed_x_2 : Text
mixed_x_2 = codes "export const x = 2;"

abbrev pub mixed_x_3 : Text
mixed_x_3 = codes "export const y = 3;"

abbrev pub mixed : Stage
mixed = page_of (
    (mixed_m, module_of (accepting (a ∷ []) (importing (a ∷ []))) [] (deps false (a ∷ []) None ∷ [])) ∷ (
      mixed_a,
      module_of (exporting (codes "a" ∷ []) (importing (x ∷ []))) (binding x (codes "x") (codes "x") ∷ [])
          (declare true false (codes "a") (name (codes "x")) ∷ []),
    ) ∷ (
      mixed_a_new,
      module_of (exporting (codes "a" ∷ []) (importing (x ∷ []))) (binding x (codes "y") (codes "y") ∷ [])
          (declare true false (codes "a") (name (codes "y")) ∷ []),
    ) ∷ (
      mixed_x_1,
      module_of (exporting (codes "x" ∷ []) (importing [])) [] (declare true false (codes "x") (num 1) ∷ []),
    ) ∷ (
      mixed_x_2,
      module_of (exporting (codes "x" ∷ []) (importing [])) [] (declare true false (codes "x") (num 2) ∷ []),
    ) ∷ (
      mixed_x_3,
      module_of (exporting (codes "y" ∷ []) (importing [])) [] (declare true false (codes "y") (num 3) ∷ []),
    ) ∷ [])

abbrev pub mixed_script : List Command
mixed_script =
    edited m mixed_m ∷ edited a mixed_a ∷ edited x mixed_x_1 ∷ settle_all ∷ step (opens 1 []) ∷ turns 1 9 ∷
    edited x mixed_x_2 ∷ settle_all ∷ step (turn 1) ∷ step (turn 1) ∷
    edited a mixed_a_new ∷ edited x mixed_x_3 ∷ settle_all ∷ turns 1 9 ∷ step (show 1) ∷ []

-- A dependency that is removed under an importer that accepts it, and comes again.

abbrev pub needing_m : Text
needing_m =
    codes "import { x } from \"./x.js\";\nimport.meta.hot.accept(\"./x.js\", (n) => { console.log(\"x is\", n?.x); });"

abbrev pub needed_1 : Text
needed_1 = codes "export const x = 1;"

abbrev pub needed_5 : Text
needed_5 = codes "export const x = 5;"

abbrev pub needing : Stage
needing = page_of ((
  needing_m,
  module_of (accepting (x ∷ []) (importing (x ∷ []))) (binding x (codes "x") (codes "x") ∷ []) (
      deps false (x ∷ [])
      (Some (callback (codes "n" ∷ []) (log (text (codes "x is") ∷ (member 0 true (codes "x") ∷ [])))))
      ∷ []),
) ∷ (
  needed_1,
  module_of (exporting (codes "x" ∷ []) (importing [])) [] (declare true false (codes "x") (num 1) ∷ []),
) ∷ (
  needed_5,
  module_of (exporting (codes "x" ∷ []) (importing [])) [] (declare true false (codes "x") (num 5) ∷ []),
) ∷ [])

abbrev pub needing_script : List Command
needing_script =
    edited m needing_m ∷ edited x needed_1 ∷ settle_all ∷ step (opens 1 []) ∷ turns 1 9 ∷
    step (edits x None) ∷ turns 1 5 ∷ step (show 1) ∷ step fresh ∷
    edited x needed_5 ∷ settle_all ∷ turns 1 9 ∷ step (show 1) ∷ []

-- A change after the fetch and before the plan is applied.

abbrev pub after_m : Text
after_m = codes "import \"./a.js\"; import.meta.hot.accept(\"./a.js\");"

abbrev pub after_fetch : Stage
after_fetch = page_of (
    (after_m, module_of (accepting (a ∷ []) (importing (a ∷ []))) [] (deps false (a ∷ []) None ∷ [])) ∷
    ([], module_of (importing []) [] []) ∷
    (one_text, module_of (exporting (n ∷ []) (importing [])) [] (declare true false n (num 1) ∷ [])) ∷
    (two_text, module_of (exporting (n ∷ []) (importing [])) [] (declare true false n (num 2) ∷ [])) ∷ [])

abbrev pub after_fetch_script : List Command
after_fetch_script =
    edited m after_m ∷ edited a [] ∷ settle_all ∷ step (opens 1 []) ∷ turns 1 9 ∷
    edited a one_text ∷ settle_all ∷ step (turn 1) ∷ step (turn 1) ∷
    edited a two_text ∷ settle_all ∷ step (turn 1) ∷ step (show 1) ∷ turns 1 9 ∷ step (show 1) ∷ []

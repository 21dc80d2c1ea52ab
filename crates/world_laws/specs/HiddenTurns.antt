-- Steps that bring a client to a page whose counter no longer exports its count; the newest first.
use Rattle.std.specs.Prelude.{true, false, List, [], ◌∷◌, Some, None, codes}
use Rattle.module_tree.specs.Syntax.{num, declare, deps}
use Rattle.core_model.specs.Sources.{Text}
use Rattle.world_model.specs.World.{Step, edits, settles, opens, turn}
use Rattle.world_model.specs.Playing.{Stage}
use Rattle.world_model.specs.SmallPages.{m, c, importing, exporting, accepting, binding, module_of, page_of}
use Rattle.world_model.specs.UpdateScripts.{count}

-- main imports the counter's count, and accepts the counter
abbrev pub main_text : Text
main_text = codes "import { count } from \"./counter.js\"\nimport.meta.hot.accept(\"./counter.js\")\n"

-- the counter with its export, and without
abbrev pub shown_text : Text
shown_text = codes "export const count = 1\n"

abbrev pub hidden_text : Text
hidden_text = codes "const count = 1\n"

-- the page of these
abbrev pub hiding : Stage
hiding = page_of ((
  main_text,
  module_of (accepting (c ∷ []) (importing (c ∷ []))) (binding c count count ∷ [])
      (deps false (c ∷ []) None ∷ []),
) ∷ (
  shown_text,
  module_of (exporting (count ∷ []) (importing [])) [] (declare true false count (num 1) ∷ []),
) ∷
    (hidden_text, module_of (importing []) [] (declare false false count (num 1) ∷ [])) ∷ [])

-- it loads the page, the counter hides its count, and it updates the counter
abbrev pub hidden : List Step
hidden =
    turn 1 ∷ turn 1 ∷ turn 1 ∷ settles c 3 ∷ edits c (Some hidden_text) ∷
    turn 1 ∷ turn 1 ∷ turn 1 ∷ opens 1 [] ∷ settles c 2 ∷ settles m 1 ∷ edits c (Some shown_text) ∷
    edits m (Some main_text) ∷ []

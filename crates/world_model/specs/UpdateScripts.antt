-- Scripts of a page load, an update and a reload.
use Rattle.std.specs.Prelude.{ℕ, true, false, List, [], ◌∷◌, Some, None, codes}
use Rattle.module_tree.specs.Syntax.{ExprTree, num, text, name, bag, member, binary, log, assign, bag_set}
use Rattle.module_tree.specs.Syntax.{code, declare, act, own, deps, dispose}
use Rattle.module_tree.specs.declared.tree.Op.TheVariants.{Null, Add}
use Rattle.core_model.specs.Sources.{Text}
use Rattle.world_model.specs.World.{opens, show, values, fates, fresh}
use Rattle.world_model.specs.Playing.{Command, step, settle_all, turns, Stage}
use Rattle.world_model.specs.SmallPages.{m, a, b, x, c, importing, exporting, accepting, self_accepting}
use Rattle.world_model.specs.SmallPages.{binding, module_of, page_of, callback, callback_of_two, log_text}
use Rattle.world_model.specs.SmallPages.{edited}

-- A counter: main accepts counter, which keeps its count.

abbrev pub main_text : Text
main_text =
    codes "import { count as c } from \"./counter.js\"\nexport let count = c\nimport.meta.hot.accept(\"./counter.js\", (newCounter) => {\n  count = newCounter?.count\n  console.log(\"count is now\", count)\n})\n"

abbrev pub counter_text : Text
counter_text =
    codes "export const count = (import.meta.hot.data.count ?? 0) + 1\nconsole.log(\"counter\", count)\nimport.meta.hot.dispose((data) => {\n  data.count = count\n})\n"

abbrev pub counter_by_ten : Text
counter_by_ten =
    codes "export const count = (import.meta.hot.data.count ?? 0) + 10\nconsole.log(\"counter\", count)\n"

abbrev pub count : List ℕ
count = codes "count"

abbrev pub kept_count_plus : ℕ → ExprTree
kept_count_plus n = binary Add (binary Null (bag count) (num 0)) (num n)

abbrev pub counter : Stage
counter = page_of ((
  main_text,
  module_of (accepting (c ∷ []) (exporting (count ∷ []) (importing (c ∷ []))))
      (binding c count (codes "c") ∷ []) (
      declare true true count (name (codes "c")) ∷
      deps false (c ∷ []) (Some (callback_of_two (codes "newCounter" ∷ [])
      (assign count (member 0 true count)) (log (text (codes "count is now") ∷ (name count ∷ []))))) ∷ []),
) ∷ (
  counter_text,
  module_of (exporting (count ∷ []) (importing [])) [] (
      declare true false count (kept_count_plus 1) ∷
      act (log (text (codes "counter") ∷ (name count ∷ []))) ∷
      dispose (code (callback [] (bag_set count (name count)))) ∷ []),
) ∷ (
  counter_by_ten,
  module_of (exporting (count ∷ []) (importing [])) [] (
      declare true false count (kept_count_plus 10) ∷
      act (log (text (codes "counter") ∷ (name count ∷ []))) ∷ []),
) ∷ [])

abbrev pub counter_script : List Command
counter_script =
    edited m main_text ∷ edited c counter_text ∷ settle_all ∷ step (opens 1 []) ∷ turns 1 9 ∷
    edited c counter_by_ten ∷ settle_all ∷ turns 1 9 ∷
    step (show 1) ∷ step (values 1) ∷ step (fates 1) ∷ step fresh ∷ []

-- A chain: m imports a, which imports b and has a disposer; nothing accepts.

abbrev pub chain_m : Text
chain_m = codes "import \"./a.js\";"

abbrev pub chain_a : Text
chain_a = codes "import \"./b.js\";\nimport.meta.hot.dispose(() => { console.log(\"never\"); });"

abbrev pub chain_b : Text
chain_b = []

abbrev pub chain_b_new : Text
chain_b_new = codes "export const n = 1;"

abbrev pub chain : Stage
chain = page_of (
    (chain_m, module_of (importing (a ∷ [])) [] []) ∷ (
      chain_a,
      module_of (importing (b ∷ [])) [] (dispose (code (callback [] (log_text (codes "never")))) ∷ []),
    ) ∷
    (chain_b, module_of (importing []) [] []) ∷ (
      chain_b_new,
      module_of (exporting (codes "n" ∷ []) (importing [])) [] (declare true false (codes "n") (num 1) ∷ []),
    ) ∷ [])

abbrev pub chain_script : List Command
chain_script =
    edited m chain_m ∷ edited a chain_a ∷ edited b chain_b ∷ settle_all ∷ step (opens 1 []) ∷ turns 1 9 ∷
    edited b chain_b_new ∷ settle_all ∷ turns 1 9 ∷ step (fates 1) ∷ []

-- A cycle: m accepts a; a and b import each other, b accepts itself, a imports x.

abbrev pub cycle_m : Text
cycle_m = codes "import \"./a.js\"; import.meta.hot.accept(\"./a.js\");"

abbrev pub cycle_a : Text
cycle_a =
    codes "import \"./b.js\"; import \"./x.js\"; console.log(\"a\");\nimport.meta.hot.dispose(() => console.log(\"bye a\"));"

abbrev pub cycle_b : Text
cycle_b =
    codes "import \"./a.js\"; import.meta.hot.accept(); console.log(\"b\");\nimport.meta.hot.dispose(() => console.log(\"bye b\"));"

abbrev pub cycle_x : Text
cycle_x = codes "console.log(\"x\");"

abbrev pub cycle_x_new : Text
cycle_x_new = codes "console.log(\"x2\");"

abbrev pub cycle : Stage
cycle = page_of (
    (cycle_m, module_of (accepting (a ∷ []) (importing (a ∷ []))) [] (deps false (a ∷ []) None ∷ [])) ∷ (
      cycle_a,
      module_of (importing (b ∷ (x ∷ []))) []
          (act (log_text (codes "a")) ∷ dispose (code (callback [] (log_text (codes "bye a")))) ∷ []),
    ) ∷ (
      cycle_b,
      module_of (self_accepting (importing (a ∷ []))) [] (own None ∷ act (log_text (codes "b")) ∷
          dispose (code (callback [] (log_text (codes "bye b")))) ∷ []),
    ) ∷
    (cycle_x, module_of (importing []) [] (act (log_text (codes "x")) ∷ [])) ∷
    (cycle_x_new, module_of (importing []) [] (act (log_text (codes "x2")) ∷ [])) ∷ [])

abbrev pub cycle_script : List Command
cycle_script =
    edited m cycle_m ∷ edited a cycle_a ∷ edited b cycle_b ∷ edited x cycle_x ∷ settle_all ∷
    step (opens 1 []) ∷ turns 1 9 ∷
    edited x cycle_x_new ∷ settle_all ∷ turns 1 9 ∷ step (show 1) ∷ []

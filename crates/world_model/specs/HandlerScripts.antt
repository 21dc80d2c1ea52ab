-- Scripts of handlers: prune, data, closures of the embedding program, and invalidations.
use Rattle.std.specs.Prelude.{ℕ, true, false, List, [], ◌∷◌, Some, None, codes}
use Rattle.module_tree.specs.Syntax.{num, text, name, bag, member, binary, log, bag_set, throw, invalidate}
use Rattle.module_tree.specs.Syntax.{code, host, ItemTree, declare, act, own, deps, dispose, prune}
use Rattle.module_tree.specs.declared.tree.Op.TheVariants.{Add}
use Rattle.hmr_types.specs.declared.value.Value.TheVariants.{Str}
use Rattle.core_model.specs.Names.{Name}
use Rattle.core_model.specs.Sources.{Text}
use Rattle.world_model.specs.World.{opens, turn, fires, show, values, fates}
use Rattle.world_model.specs.Playing.{Command, step, settle_all, turns, Stage}
use Rattle.world_model.specs.SmallPages.{m, a, x, importing, exporting, accepting, self_accepting, binding}
use Rattle.world_model.specs.SmallPages.{module_of, page_of, callback, log_text, edited}

-- An import that goes and comes again.

abbrev pub with_x : Text
with_x = codes "import \"./x.js\"; import.meta.hot.accept();"

abbrev pub without_x : Text
without_x = codes "import.meta.hot.accept();"

abbrev pub seeing_x : Text
seeing_x =
    codes "console.log(\"seen\", import.meta.hot.data.seen);\nimport.meta.hot.data.seen = 1;\nimport.meta.hot.dispose(() => console.log(\"dispose\"));\nimport.meta.hot.prune(() => console.log(\"prune\"));"

abbrev pub seen : List ℕ
seen = codes "seen"

abbrev pub seeing : Stage
seeing = page_of (
    (with_x, module_of (self_accepting (importing (x ∷ []))) [] (own None ∷ [])) ∷
    (without_x, module_of (self_accepting (importing [])) [] (own None ∷ [])) ∷ (
      seeing_x,
      module_of (importing []) [] (
          act (log (text (codes "seen") ∷ (bag seen ∷ []))) ∷
          act (bag_set seen (num 1)) ∷
          dispose (code (callback [] (log_text (codes "dispose")))) ∷
          prune (code (callback [] (log_text (codes "prune")))) ∷ []),
    ) ∷ [])

abbrev pub seeing_script : List Command
seeing_script =
    edited m with_x ∷ edited x seeing_x ∷ settle_all ∷ step (opens 1 []) ∷ turns 1 9 ∷
    edited m without_x ∷ settle_all ∷ turns 1 9 ∷ step (show 1) ∷
    edited m with_x ∷ settle_all ∷ turns 1 9 ∷ step (fates 1) ∷ []

-- Two disposers, and closures of the embedding program.

abbrev pub hosting_1 : Text
hosting_1 =
    codes "import.meta.hot.dispose(host(\"H\"));\nimport.meta.hot.dispose(() => console.log(\"second\"));\nimport.meta.hot.prune(host(\"H\"));\nimport.meta.hot.accept();"

abbrev pub hosting_2 : Text
hosting_2 = codes "import.meta.hot.accept(); import.meta.hot.dispose(host(\"H\"));"

abbrev pub hosting_3 : Text
hosting_3 = codes "import.meta.hot.accept(); console.log(import.meta.hot.data.host);"

abbrev pub label : Text
label = codes "H"

abbrev pub hosting : Stage
hosting = record (page_of ((
  hosting_1,
  module_of (self_accepting (importing [])) [] (dispose (host label) ∷
      dispose (code (callback [] (log_text (codes "second")))) ∷ prune (host label) ∷ own None ∷ []),
) ∷
    (hosting_2, module_of (self_accepting (importing [])) [] (own None ∷ dispose (host label) ∷ [])) ∷ (
      hosting_3,
      module_of (self_accepting (importing [])) [] (own None ∷ act (log (bag (codes "host") ∷ [])) ∷ []),
    ) ∷ [])) {
      shelves = ((label, 1) ∷ (label, 2) ∷ (label, 3) ∷ []) ∷ [];
    }

abbrev pub hosting_script : List Command
hosting_script =
    edited m hosting_1 ∷ settle_all ∷ step (opens 1 []) ∷ turns 1 9 ∷
    edited m hosting_2 ∷ settle_all ∷ turns 1 9 ∷
    edited m hosting_3 ∷ settle_all ∷ turns 1 9 ∷ step (fates 1) ∷ []

-- An invalidation: m and a accept themselves, and a's callback invalidates a.

abbrev pub invalid_m : Text
invalid_m = codes "import { a } from \"./a.js\"; console.log(\"m\", a);\nimport.meta.hot.accept();"

abbrev pub invalid_a : Text
invalid_a =
    codes "export const a = 1;\nimport.meta.hot.accept((n) => { import.meta.hot.invalidate(\"changed \" + n?.a); });"

abbrev pub valid_a : Text
valid_a = codes "export const a = 2; import.meta.hot.accept();"

abbrev pub invalidating : Stage
invalidating = page_of ((
  invalid_m,
  module_of (self_accepting (importing (a ∷ []))) (binding a (codes "a") (codes "a") ∷ [])
      (act (log (text (codes "m") ∷ (name (codes "a") ∷ []))) ∷ own None ∷ []),
) ∷ (
  invalid_a,
  module_of (self_accepting (exporting (codes "a" ∷ []) (importing []))) [] (
      declare true false (codes "a") (num 1) ∷
      own (Some (code (callback (codes "n" ∷ [])
      (invalidate (Some (binary Add (text (codes "changed ")) (member 0 true (codes "a")))))))) ∷ []),
) ∷ (
  valid_a,
  module_of (self_accepting (exporting (codes "a" ∷ []) (importing []))) []
      (declare true false (codes "a") (num 2) ∷ own None ∷ []),
) ∷ [])

abbrev pub invalidating_script : List Command
invalidating_script =
    edited m invalid_m ∷ edited a invalid_a ∷ settle_all ∷ step (opens 1 []) ∷
    step (opens 1 []) ∷ turns 1 9 ∷ turns 2 9 ∷
    edited a valid_a ∷ settle_all ∷ turns 1 20 ∷ step (show 1) ∷ step (show 2) ∷ []

-- The same where the second client opens after the edit: it has the version that the first invalidates.

abbrev pub second_client_script : List Command
second_client_script =
    edited m invalid_m ∷ edited a invalid_a ∷ settle_all ∷ step (opens 1 []) ∷ turns 1 9 ∷
    edited a valid_a ∷ settle_all ∷ step (opens 1 []) ∷ turns 2 9 ∷ turns 1 20 ∷
    step (show 1) ∷ step (show 2) ∷ []

-- A root that invalidates itself.

abbrev pub invalid_root : Text
invalid_root = codes "import.meta.hot.accept(() => import.meta.hot.invalidate());"

abbrev pub invalid_root_page : Stage
invalid_root_page = page_of ((
  invalid_root,
  module_of (self_accepting (importing [])) [] (own (Some (code (callback [] (invalidate None)))) ∷ []),
) ∷
    (without_x, module_of (self_accepting (importing [])) [] (own None ∷ [])) ∷ [])

abbrev pub invalid_root_script : List Command
invalid_root_script =
    edited m invalid_root ∷ settle_all ∷ step (opens 1 []) ∷ turns 1 9 ∷ edited m without_x ∷
    settle_all ∷ turns 1 9 ∷ []

-- A dependency that faults: its importer isn't run, and a callback gets undefined for it.

abbrev pub faulting_m : Text
faulting_m = codes "import { n } from \"./x.js\"; console.log(\"no\");"

abbrev pub faulting_x : Text
faulting_x = codes "throw \"bad\"; export const n = 1;"

abbrev pub watching_m : Text
watching_m =
    codes "import \"./x.js\"; import.meta.hot.accept(\"./x.js\", (x) => { console.log(\"x has\", x?.n); });"

abbrev pub sound_x : Text
sound_x = codes "export const n = 1;"

abbrev pub export_n : ItemTree
export_n = declare true false (codes "n") (num 1)

abbrev pub faulting : Stage
faulting = page_of ((
  faulting_m,
  module_of (importing (x ∷ [])) (binding x (codes "n") (codes "n") ∷ [])
      (act (log_text (codes "no")) ∷ []),
) ∷ (
  watching_m,
  module_of (accepting (x ∷ []) (importing (x ∷ []))) [] (deps false (x ∷ []) (Some
      (callback (codes "x" ∷ []) (log (text (codes "x has") ∷ (member 0 true (codes "n") ∷ []))))) ∷ []),
) ∷ (
  faulting_x,
  module_of (exporting (codes "n" ∷ []) (importing [])) []
      (act (throw (text (codes "bad"))) ∷ export_n ∷ []),
) ∷
    (sound_x, module_of (exporting (codes "n" ∷ []) (importing [])) [] (export_n ∷ [])) ∷ [])

abbrev pub faulting_script : List Command
faulting_script =
    edited m faulting_m ∷ edited x faulting_x ∷ settle_all ∷ step (opens 1 []) ∷ turns 1 9 ∷
    step (show 1) ∷ step (values 1) ∷ []

abbrev pub watching_script : List Command
watching_script =
    edited m watching_m ∷ edited x sound_x ∷ settle_all ∷ step (opens 1 []) ∷ turns 1 9 ∷
    edited x faulting_x ∷ settle_all ∷ turns 1 9 ∷ []

-- A closure that isn't there.

abbrev pub asking_m : Text
asking_m = codes "import.meta.hot.dispose(host(\"Z\"));"

abbrev pub asking : Stage
asking = page_of ((asking_m, module_of (importing []) [] (dispose (host (codes "Z")) ∷ [])) ∷ [])

abbrev pub asking_script : List Command
asking_script = edited m asking_m ∷ settle_all ∷ step (opens 1 []) ∷ turns 1 9 ∷ step (fates 1) ∷ []

-- An event that is fired at a page: before its load is done, at rest, and with a change that waits.

abbrev pub ping : Name
ping = codes "/event/my/ping"

abbrev pub e : Name
e = codes "e"

abbrev pub hearing_m : Text
hearing_m = codes
    "import.meta.hot.on(\"my:ping\", (e) => { console.log(\"got\", e.data); });\nimport.meta.hot.accept();"

abbrev pub hearing : Stage
hearing = page_of ((
  hearing_m,
  module_of (self_accepting (importing [])) [] (
      deps false (ping ∷ [])
      (Some (callback (e ∷ []) (log (text (codes "got") ∷ (member 0 false (codes "data") ∷ []))))) ∷
      own None ∷ []),
) ∷ ([], module_of (self_accepting (importing [])) [] (own None ∷ [])) ∷ [])

abbrev pub hearing_script : List Command
hearing_script =
    edited m hearing_m ∷ settle_all ∷ step (opens 1 []) ∷
    step (fires 1 ping (Str (codes "early"))) ∷ turns 1 9 ∷
    step (fires 1 ping (Str (codes "one"))) ∷ step (fires 1 x (Str (codes "other"))) ∷
    step (fires 2 ping (Str (codes "one"))) ∷
    edited m [] ∷ settle_all ∷ step (turn 1) ∷ step (fires 1 ping (Str (codes "two"))) ∷ turns 1 9 ∷
    step (fires 1 ping (Str (codes "three"))) ∷ []

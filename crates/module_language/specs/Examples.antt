-- Texts for worked examples, and the trees that they read as.
use Rattle.std.specs.Prelude.{false, true, [], ◌∷◌, codes, Some, None, pos}
use Rattle.module_tree.specs.Syntax as tree
use Rattle.module_tree.specs.Syntax.{HandlerTree, ModuleTree}
use Rattle.module_tree.specs.declared.tree.Op.TheVariants as ops
use Rattle.hmr_types.specs.declared.value.Value.TheVariants.{Num}
use Rattle.hmr_types.specs.declared.value.Slot.TheVariants.{Unset, Val}
use Rattle.hmr_types.specs.declared.analysis.FaultWord.TheVariants.{Unexpected}
use Rattle.hmr_types.specs.declared.analysis.TextFault.{TextFault}
use Rattle.core_model.specs.Names.{Name}
use Rattle.core_model.specs.Sources.{Text}
use Rattle.client_model.specs.Language.{Bag, Slots}

-- a module that is given one of these texts
abbrev pub m : Name
m = codes "/d/m.js"

-- the module that `importer` imports
abbrev pub x : Name
x = codes "/d/x.js"

-- imports two names, and hears of new modules of that name
abbrev pub importer : Text
importer =
    codes "import {b as c,a} from './x.js'\nexport let n = 1+(2*c)\nimport.meta.hot.accept('./x.js', m => { n = m?.b })\n"

-- the callback of `importer`
abbrev pub hears : HandlerTree
hears = record {
  params = codes "m" ∷ [];
  body = tree.one_stmt (tree.assign (codes "n") (tree.member 0 true (codes "b"))) tree.no_stmts;
}

-- what `importer` reads as
abbrev pub importer_tree : ModuleTree
importer_tree =
    tree.import (codes "./x.js") (record { exported = codes "b"; local = codes "c" }
    ∷ record { exported = codes "a"; local = codes "a" } ∷ [])
    ∷ tree.declare true true (codes "n")
    (tree.binary ops.Add (tree.num 1) (tree.binary ops.Mul (tree.num 2) (tree.name (codes "c"))))
    ∷ tree.deps false (codes "./x.js" ∷ []) (Some hears) ∷ []

-- keeps its number from instance to instance
abbrev pub keeper : Text
keeper =
    codes "export let n = import.meta.hot.data.n ?? 1\nimport.meta.hot.dispose(d => { d.n = n })\nimport.meta.hot.accept()\n"

-- the disposer of `keeper`
abbrev pub keeps : HandlerTree
keeps = record {
  params = [];
  body = tree.one_stmt (tree.bag_set (codes "n") (tree.name (codes "n"))) tree.no_stmts;
}

-- what `keeper` reads as
abbrev pub keeper_tree : ModuleTree
keeper_tree =
    tree.declare true true (codes "n") (tree.binary ops.Null (tree.bag (codes "n")) (tree.num 1))
    ∷ tree.dispose (tree.code keeps)
    ∷ tree.own None ∷ []

-- imports by a specifier that means no module
abbrev pub astray : Text
astray = codes "import {a} from 'x'"

-- what `astray` reads as
abbrev pub astray_tree : ModuleTree
astray_tree = tree.import (codes "x") (record { exported = codes "a"; local = codes "a" } ∷ []) ∷ []

-- no module
abbrev pub nameless : Text
nameless = codes "export const = 2;"

-- where `nameless` is no module
abbrev pub nowhere : TextFault
nowhere = record { line = 1; col = 14; word = Unexpected }

-- what the imports of `importer` hold
abbrev pub importer_slots : Slots
importer_slots = (codes "c", Val (Num (pos 3))) ∷ (codes "a", Unset) ∷ []

-- a bag with a number
abbrev pub kept_five : Bag
kept_five = (codes "n", Num (pos 5)) ∷ []

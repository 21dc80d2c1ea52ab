-- The words of small pages: names, analyses, modules and callbacks, for scripts to be computed.
use Rattle.std.specs.Prelude.{true, false, List, [], ◌∷◌, Some, codes}
use Rattle.module_tree.specs.Syntax.{text, StmtTree, no_stmts, one_stmt, log, HandlerTree, ItemTree}
use Rattle.hmr_types.specs.declared.analysis.Analysis.{Analysis}
use Rattle.core_model.specs.Names.{Name}
use Rattle.core_model.specs.Sources.{Text}
use Rattle.client_model.specs.Language.{Binding}
use Rattle.world_model.specs.World.{edits}
use Rattle.world_model.specs.Playing.{Command, step, Stage}
use Rattle.world_model.specs.SmallLanguage.{Module, Texts, small_language}

abbrev pub m : Name
m = codes "/m.js"

abbrev pub a : Name
a = codes "/a.js"

abbrev pub b : Name
b = codes "/b.js"

abbrev pub x : Name
x = codes "/x.js"

abbrev pub c : Name
c = codes "/counter.js"

-- a module that imports these modules
abbrev pub importing : List Name → Analysis
importing imports = record {
  imports = imports;
  exports = [];
  self_accepts = false;
  accepted = [];
  declined = false;
}

-- the same with these exports
abbrev pub exporting : List Name → Analysis → Analysis
exporting exports a = record a { exports = exports }

-- the same, accepting these modules
abbrev pub accepting : List Name → Analysis → Analysis
accepting names a = record a { accepted = names }

-- the same, accepting itself
abbrev pub self_accepting : Analysis → Analysis
self_accepting a = record a { self_accepts = true }

-- the local name stands for this export
abbrev pub binding : Name → Name → Name → Binding
binding dependency exported local = record { dependency = dependency; exported = exported; local = local }

-- a module of its analysis, its imports and its items
abbrev pub module_of : Analysis → List Binding → List ItemTree → Module
module_of analysis bindings items = record { analysis = analysis; bindings = bindings; items = items }

-- a page with the root m
abbrev pub page_of : Texts → Stage
page_of texts = record { language = small_language texts; roots = m ∷ []; shelves = [] }

-- callbacks with these parameters
abbrev pub callback : List Name → StmtTree → HandlerTree
callback params stmt = record { params = params; body = one_stmt stmt no_stmts }

-- a callback of two statements
abbrev pub callback_of_two : List Name → StmtTree → StmtTree → HandlerTree
callback_of_two params first second = record {
  params = params;
  body = one_stmt first (one_stmt second no_stmts);
}

-- a console line of one text
abbrev pub log_text : Text → StmtTree
log_text t = log (text t ∷ [])

-- a name gets a text
abbrev pub edited : Name → Text → Command
edited n t = step (edits n (Some t))

-- The modules of a page: the version of each, and what analysis told of its text.
use Rattle.std.specs.Prelude.{ℕ, ◌==◌, Bool, true, false, not, List, [], map, filter, flat_map, Option, Some}
use Rattle.std.specs.Prelude.{None, is_some, Contains}
use Prim.{⊥}
use Rattle.hmr_types.specs.declared.analysis.Analysis.{Analysis}
use Rattle.core_model.specs.Names.{Name, has, at, names_of, sorted}
use Rattle.core_model.specs.Paths.{Reaches}
use Rattle.core_model.specs.Rounds.{reached_of}
use Rattle.core_model.specs.Sources.{Serving}
use Rattle.core_model.specs.FreshLoad.{Served}

-- a module of a page
pub record Entry : Type 0 where
  pub version : ℕ
  pub analysis : Analysis

-- the modules of a page by name
abbrev pub View : Type 0
View = List (Name × Entry)

-- the view has a module of this name
abbrev pub is_in : View → Name → Bool
is_in view n = is_some (at view n)

-- what a module imports
abbrev pub imports_of : Option Entry → List Name
imports_of None = []
imports_of (Some e) = e.analysis.imports

-- what a module accepts by name
abbrev pub accepted_of : Option Entry → List Name
accepted_of None = []
accepted_of (Some e) = e.analysis.accepted

-- whether a module accepts itself
abbrev pub accepts_itself : Option Entry → Bool
accepts_itself None = false
accepts_itself (Some e) = e.analysis.self_accepts

-- whether a module declines
abbrev pub is_declining : Option Entry → Bool
is_declining None = false
is_declining (Some e) = e.analysis.declined

-- n imports m
abbrev pub imports : View → Name → Name → Bool
imports view n m = has (imports_of (at view n)) m

-- m accepts n by name
abbrev pub accepts : View → Name → Name → Bool
accepts view m n = has (accepted_of (at view m)) n

-- n accepts itself
abbrev pub self_accepts : View → Name → Bool
self_accepts view n = accepts_itself (at view n)

-- n declines every change
abbrev pub declines : View → Name → Bool
declines view n = is_declining (at view n)

-- all names that modules of the view import
abbrev pub imported_of : View → List Name
imported_of view = flat_map (λ row. row.1.analysis.imports) view

-- the version that stands isn't the served one
abbrev pub differs : Option Entry → Option Serving → Bool
differs None s = false
differs (Some e) None = true
differs (Some e) (Some s) = not (e.version == s.version)

-- the names whose version isn't the served one, or that aren't served
abbrev pub changed_of : Served → View → List Name
changed_of served view = filter (λ n. differs (at view n) (at served n)) (names_of view)

-- the names that lists of imports reach from the roots
abbrev pub reached_in : View → List Name → List Name
reached_in view roots = reached_of (imports view) (imported_of view) roots

-- n is in the view, and no list of imports from a root reaches it
pub record IsDropped (view : View) (roots : List Name) (n : Name) : Type 0 where
  pub listed : Contains (names_of view) n
  pub unreached : Reaches (imports view) roots n → ⊥

-- the dropped names, rising by bytes
abbrev pub dropped_of : View → List Name → List Name
dropped_of view roots = sorted (filter (λ n. not (has (reached_in view roots) n)) (names_of view))

-- the modules with their versions
abbrev pub table_of : View → List (Name × ℕ)
table_of view = map (λ row. (row.0, row.1.version)) view

-- Small pages, to be computed.
use Rattle.std.specs.Prelude.{ℕ, true, false, List, [], ◌∷◌, Some, None, codes}
use Rattle.hmr_types.specs.declared.analysis.Analysis.{Analysis}
use Rattle.hmr_types.specs.declared.analysis.Outcome.{Outcome}
use Rattle.hmr_types.specs.declared.analysis.Outcome.TheVariants.{Good}
use Rattle.core_model.specs.Names.{Name}
use Rattle.core_model.specs.Sources.{Text, edit, result}
use Rattle.core_model.specs.Requests.{ask, fetch, applied_as, invalidate}
use Rattle.core_model.specs.Core.{Core, Event, change, connect, request, replay}
use Rattle.core_model.specs.View.{View, Entry}

-- a module that imports these, and accepts those of them
abbrev pub plain : List Name → List Name → Analysis
plain imports accepted = record {
  imports = imports;
  exports = [];
  self_accepts = false;
  accepted = accepted;
  declined = false;
}

abbrev pub self_accepting : Analysis → Analysis
self_accepting a = record a { self_accepts = true }

abbrev pub declining : Analysis → Analysis
declining a = record a { declined = true }

abbrev pub at_version : ℕ → Analysis → Entry
at_version v a = record { version = v; analysis = a }

abbrev pub m : Name
m = codes "/m.js"

abbrev pub a : Name
a = codes "/a.js"

abbrev pub b : Name
b = codes "/b.js"

abbrev pub c : Name
c = codes "/c.js"

abbrev pub d : Name
d = codes "/d.js"

abbrev pub e : Name
e = codes "/e.js"

abbrev pub x : Name
x = codes "/x.js"

-- m imports a, which imports b
abbrev pub chain : View
chain =
    (m, at_version 1 (plain (a ∷ []) [])) ∷ (a, at_version 2 (plain (b ∷ []) []))
    ∷ (b, at_version 3 (plain [] [])) ∷ []

-- m imports a and b; both import c, and a accepts it
abbrev pub diamond : View
diamond =
    (m, at_version 1 (plain (a ∷ b ∷ []) [])) ∷ (a, at_version 2 (plain (c ∷ []) (c ∷ [])))
    ∷ (b, at_version 3 (plain (c ∷ []) [])) ∷ (c, at_version 4 (plain [] [])) ∷ []

-- m accepts a; a and b import each other, b accepts itself, and a imports x
abbrev pub cycle : View
cycle =
    (m, at_version 1 (plain (a ∷ []) (a ∷ []))) ∷ (a, at_version 2 (plain (b ∷ x ∷ []) []))
    ∷ (b, at_version 3 (self_accepting (plain (a ∷ []) []))) ∷ (x, at_version 4 (plain [] [])) ∷ []

-- m accepts a, which imports d, which imports e and declines
abbrev pub decliner : View
decliner =
    (m, at_version 1 (plain (a ∷ []) (a ∷ []))) ∷ (a, at_version 2 (plain (d ∷ []) []))
    ∷ (d, at_version 3 (declining (plain (e ∷ []) []))) ∷ (e, at_version 4 (plain [] [])) ∷ []

-- m imports a, which accepts itself
abbrev pub leaf : View
leaf = (m, at_version 1 (plain (a ∷ []) [])) ∷ (a, at_version 2 (self_accepting (plain [] []))) ∷ []

-- m imports a and b, and accepts a
abbrev pub half_accepting : View
half_accepting =
    (m, at_version 1 (plain (a ∷ b ∷ []) (a ∷ []))) ∷ (a, at_version 2 (plain [] []))
    ∷ (b, at_version 3 (plain [] [])) ∷ []

-- m imports nothing; a and b import each other
abbrev pub rootless_cycle : View
rootless_cycle =
    (m, at_version 1 (plain [] [])) ∷ (a, at_version 2 (plain (b ∷ []) []))
    ∷ (b, at_version 3 (plain (a ∷ []) [])) ∷ []

-- m imports c and b, which both import a
abbrev pub two_ways : View
two_ways =
    (m, at_version 1 (plain (c ∷ b ∷ []) [])) ∷ (b, at_version 2 (plain (a ∷ []) []))
    ∷ (c, at_version 3 (plain (a ∷ []) [])) ∷ (a, at_version 4 (plain [] [])) ∷ []

-- a module that exports n
abbrev pub one_text : Text
one_text = codes "export const n = 1;\n"

abbrev pub one : Analysis
one =
    record { imports = []; exports = codes "n" ∷ []; self_accepts = false; accepted = []; declined = false }

-- a core that serves m, which exports n, at version 1
abbrev pub serving_one : Core
serving_one =
    replay (m ∷ []) (change (edit m (Some one_text)) ∷ change (result m one_text (Good one) 1) ∷ [])

-- a client asks out of turn, tells tables that aren't its plan's, and invalidates what doesn't accept itself
abbrev pub lies : List Event
lies =
    connect [] ∷ request 1 ask ∷ request 1 (applied_as [])
    ∷ request 1 (fetch m) ∷ request 1 (applied_as ((m, 2) ∷ [])) ∷ request 1 (applied_as ((m, 1) ∷ []))
    ∷ request 1 (invalidate m 1) ∷ request 2 ask ∷ []

-- A transcript: m is saved and its text is good, a client loads the page, and m is removed.

abbrev pub saved_text : Text
saved_text = codes "let x = 1;"

-- each text is good, and imports nothing
abbrev pub transforming : Name → Text → Outcome
transforming n t = Good (plain [] [])

abbrev pub transcript : List (ℕ × Event)
transcript =
    (1, change (edit m (Some saved_text)))
    ∷ (1, change (result m saved_text (Good (plain [] [])) 1))
    ∷ (2, connect [])
    ∷ (3, request 1 (fetch m))
    ∷ (4, request 1 (applied_as ((m, 1) ∷ [])))
    ∷ (5, change (edit m None))
    ∷ []

-- The modules of a page as a list of entries, in order of entering.
use Rattle.std.specs.Prelude.{[], ◌∷◌, ◌&&◌, if◌then◌else◌, Bool, false, Option, Some, None}
use Rattle.std.specs.Cmp.Lexicographic.{pointwise}
use Rattle.hmr_types.specs.declared.analysis.Analysis.{Analysis}
use Rattle.core_model.specs.Names.{Name, same_name}
use Rattle.core_model.specs.View.{View, Entry}

-- the view with this entry in place of the name's own, or else at the end
abbrev pub put_entry : Name → Entry → View → View
put_entry n e [] = (n, e) ∷ []
put_entry n e (row ∷ rows) = if same_name row.0 n then (n, e) ∷ rows else row ∷ put_entry n e rows

-- the module is there, and imports and accepts by name what the analysis says, in the same order
abbrev pub lists_alike : Option Entry → Analysis → Bool
lists_alike None a = false
lists_alike (Some e) a =
    pointwise same_name e.analysis.imports a.imports && pointwise same_name e.analysis.accepted a.accepted

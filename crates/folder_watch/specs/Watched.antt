-- Which files of a folder are modules, by their paths.
use Rattle.std.specs.Prelude.{[], ◌∷◌, ◌&&◌, ◌||◌, ◌==◌}
use Rattle.std.specs.Prelude.{ℕ, List, Bool, true, false, not, nat_eq, cond, codes, Option, None}
use Rattle.std.specs.List.{ends_with, list_any}
use Rattle.hmr_types.specs.ModName.{is_name, is_text, parts}
use Rattle.folders.specs.Files.{below, text_at}

-- whether a name begins with a dot
abbrev pub begins_with_dot : List ℕ → Bool
begins_with_dot [] = false
begins_with_dot (b ∷ name) = b == 46

-- whether no module is looked for in folders of this name
abbrev pub is_passed : List ℕ → Bool
is_passed name = begins_with_dot name || is_text name (codes "node_modules")

-- whether all folders that a path leads through are looked into: all its parts but the last
abbrev pub are_looked_into : List (List ℕ) → Bool
are_looked_into [] = true
are_looked_into (file ∷ []) = true
are_looked_into (folder ∷ part ∷ more) = not (is_passed folder) && are_looked_into (part ∷ more)

-- whether a path ends as that of a module does
abbrev pub ends_in_js : List ℕ → Bool
ends_in_js path = ends_with nat_eq path (codes ".js")

-- whether a path is that of a module
abbrev pub is_watched : List ℕ → Bool
is_watched path = is_name path && ends_in_js path && are_looked_into (parts path)

-- whether a folder is one that is looked into
abbrev pub is_open : List ℕ → Bool
is_open folder = not (list_any is_passed (parts folder))

-- whether a folder in such a folder is one too, and its path is a name
abbrev pub is_kept : List ℕ → List ℕ → Bool
is_kept folder name = not (is_passed name) && is_name (below folder name)

-- the text of a module among some files
abbrev pub watched_text : List (List ℕ × List ℕ) → List ℕ → Option (List ℕ)
watched_text files path = cond (is_watched path) (text_at files path) None

-- Which module of a folder a specifier leads to, as browsers read URLs. A relative one is a path from the module that has
-- it: its escapes are bytes, `.` and `..` are the folder and the one above, and above the top there is the top again.
use Rattle.std.specs.Prelude.{ℕ, List, [], ◌∷◌, ◌++◌, drop, Bool, not, ◌&&◌, ◌||◌, ◌==◌, nat_eq, nat_le}
use Rattle.std.specs.Prelude.{codes, if◌then◌else◌, Option, Some, None}
use Rattle.std.specs.List.{ends_with, list_all, starts_with}
use Rattle.percent_encoding.specs.Percent.{percent_decode}
use Rattle.hmr_types.specs.ModName.{above, here, is_name, is_text, parts}
use Rattle.hmr_types.specs.Specifier.{segments, spelled, without_last}
use Rattle.file_names.specs.FileNames.{encoded}

abbrev pub begins : List ℕ → List ℕ → Bool
begins front text = starts_with nat_eq text front

abbrev pub ends : List ℕ → List ℕ → Bool
ends end text = ends_with nat_eq text end

-- it begins with `/`, but not with two, or with `./` or `../`; any other is a bare one, or a URL of its own
abbrev pub is_relative : List ℕ → Bool
is_relative specifier = (begins (codes "/") specifier && not (begins (codes "//") specifier))
    || begins (codes "./") specifier || begins (codes "../") specifier

-- no control character, and none of `#`, `?` and `\`
abbrev pub is_path_byte : ℕ → Bool
is_path_byte b = nat_le 32 b && not (b == 35) && not (b == 63) && not (b == 92)

-- it is relative, and all of it is its path: it has no query and no fragment, and nothing that URLs leave out
abbrev pub is_path : List ℕ → Bool
is_path specifier = is_relative specifier && list_all is_path_byte specifier && not (ends (codes " ") specifier)

-- it names a folder
abbrev pub is_folder : List ℕ → Bool
is_folder path = ends (codes "/.") path || ends (codes "/..") path

-- one part: `.` changes nothing, `..` takes the last away, where there is one, and another is added
abbrev pub step : List (List ℕ) → List ℕ → List (List ℕ)
step from part =
    if is_text here part then from else if is_text above part then without_last from else from ++ part ∷ []

-- the parts, from left to right
abbrev pub walk : List (List ℕ) → List (List ℕ) → List (List ℕ)
walk from [] = from
walk from (part ∷ more) = walk (step from part) more

-- a text, where it is the name of a module
abbrev pub named : List ℕ → Option (List ℕ)
named text = if is_name text then Some text else None

-- the module at a path, to the module base
abbrev pub module_at : List ℕ → List ℕ → Option (List ℕ)
module_at base text =
    if begins (codes "/") text then named (spelled (walk [] (parts (drop 1 text))))
    else named (spelled (walk (without_last (segments base)) (parts text)))

-- the module at the path that a specifier is, once its escapes are read
abbrev pub module_by : List ℕ → List ℕ → Option (List ℕ)
module_by base path = if is_folder path then None else module_at base (encoded path)

-- the module of the folder that a specifier leads to from the module base
unfoldable pub resolved : List ℕ → List ℕ → Option (List ℕ)
resolved base specifier = if is_path specifier then module_by base (percent_decode specifier) else None

-- Which paths are served: those that are left once the escapes of a target are read.
use Rattle.std.specs.Prelude.{ℕ, ◌-◌, Bool, true, false, not, ◌&&◌, ◌||◌, ◌==◌, if◌then◌else◌}
use Rattle.std.specs.Prelude.{List, [], ◌∷◌, ◌++◌, get_or, length, take, codes, Option, Some, None}
use Rattle.percent_encoding.specs.Percent.{percent_decode}
use Rattle.http_heads.specs.Head.{same_letters}

-- an escape stands for a slash
abbrev pub hides_slash : List ℕ → Bool
hides_slash [] = false
hides_slash (b ∷ bytes) = same_letters (take 3 (b ∷ bytes)) (codes "%2f") || hides_slash bytes

-- no part may have this byte there: it begins a hidden or empty part, or is 0
abbrev pub is_closed : Bool → ℕ → Bool
is_closed starts b = starts && (b == 46 || b == 47) || b == 0

-- From here on no part of the path is empty, begins with a dot or has a byte 0; the first flag says whether a
-- part begins here. Nothing behind the last slash is a part too, of no bytes: the page of a folder.
abbrev pub are_open : Bool → List ℕ → Bool
are_open starts [] = true
are_open starts (b ∷ bytes) =
    if is_closed starts b then false else are_open (b == 47) bytes

-- a slash, and parts of which none is hidden
abbrev pub is_open_path : List ℕ → Bool
is_open_path [] = false
is_open_path (b ∷ bytes) = b == 47 && are_open true bytes

-- the target, whose escapes are to be read, names a path that is served
abbrev pub is_open_target : List ℕ → Bool
is_open_target target = not (hides_slash target) && is_open_path (percent_decode target)

-- the last byte is a slash
abbrev pub ends_with_slash : List ℕ → Bool
ends_with_slash path = get_or path (length path - 1) 0 == 47

-- the file of a path: at a slash the page of the folder
abbrev pub file_at : List ℕ → List ℕ
file_at path = if ends_with_slash path then path ++ codes "index.html" else path

-- the path at a target; None where it isn't served
abbrev pub open_path : List ℕ → Option (List ℕ)
open_path target = if is_open_target target then Some (file_at (percent_decode target)) else None

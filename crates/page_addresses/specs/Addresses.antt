-- Which module of a folder an address of a page or a stylesheet leads to.
use Rattle.std.specs.Prelude.{ℕ, ◌-◌, List, [], ◌∷◌, ◌++◌, length, take, drop, codes, Bool, ◌||◌, ◌==◌, if◌then◌else◌, Option, None}
use Rattle.std.specs.Char.{is_ascii_whitespace}
use Rattle.std.specs.List.{prefix_len, suffix_len}
use Rattle.file_names.specs.Specifiers.{begins, resolved}

-- without the blanks before it
abbrev pub front_trimmed : List ℕ → List ℕ
front_trimmed address = drop (prefix_len is_ascii_whitespace address) address

-- without the blanks around it
abbrev pub trimmed : List ℕ → List ℕ
trimmed address =
    take (length (front_trimmed address) - suffix_len is_ascii_whitespace (front_trimmed address)) (front_trimmed address)

-- a colon, a slash, a question mark or a hash
abbrev pub is_mark : ℕ → Bool
is_mark b = (b == 58) || (b == 47) || (b == 63) || (b == 35)

-- the first of them, 0 where there is none
abbrev pub first_mark : List ℕ → ℕ
first_mark [] = 0
first_mark (b ∷ bs) = if is_mark b then b else first_mark bs

-- it is a URL of its own, as `https://x.org/a.css`
abbrev pub has_scheme : List ℕ → Bool
has_scheme address = first_mark address == 58

-- it says where it begins: at the top, or at the folder of what has it, or above
abbrev pub is_path : List ℕ → Bool
is_path address = begins (codes "/") address || begins (codes "./") address || begins (codes "../") address

-- it begins at the folder of what has it
abbrev pub near : List ℕ → List ℕ
near address = codes "./" ++ address

-- where an address without blanks around it leads
abbrev pub led : List ℕ → List ℕ → Option (List ℕ)
led base address =
    if (length address == 0) || has_scheme address then None
    else if is_path address then resolved base address else resolved base (near address)

-- the module of the folder to which an address leads
abbrev pub addressed : List ℕ → List ℕ → Option (List ℕ)
addressed base address = led base (trimmed address)

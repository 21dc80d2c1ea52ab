-- Where the lines of a text begin.
use Rattle.std.specs.Prelude.{ℕ, suc, List, [], ◌∷◌, if◌then◌else◌}
use Rattle.byte_lanes.specs.Classes.{is_newline}

-- the place after each LF of bytes of which the first stands at a place
unfoldable pub starts_after : ℕ → List ℕ → List ℕ
starts_after at [] = []
starts_after at (b ∷ bs) =
    if is_newline b then suc at ∷ starts_after (suc at) bs else starts_after (suc at) bs

-- where each line of a text begins: at 0, and after each LF
abbrev pub starts_of : List ℕ → List ℕ
starts_of text = 0 ∷ starts_after 0 text

-- Names and texts as they stand in a line.
use Rattle.std.specs.Prelude.{ℕ, List, [], ◌∷◌, ◌++◌, codes, decimal, ◌==◌, if◌then◌else◌}
use Rattle.std.specs.List.{flat_map}

-- the number of a client and a word
abbrev pub of_client : ℕ → List ℕ → List ℕ
of_client client word = decimal client ++ word

-- a byte of a text on one line: the backslash, LF and CR as escapes
abbrev pub escaped : ℕ → List ℕ
escaped b = if b == 92 then codes "\\\\"
    else (if b == 10 then codes "\\n" else (if b == 13 then codes "\\r" else b ∷ []))

-- a byte of a text in quotes
abbrev pub quoted_byte : ℕ → List ℕ
quoted_byte b = if b == 92 then codes "\\\\"
    else (if b == 34 then codes "\\\""
    else (if b == 10 then codes "\\n"
    else (if b == 9 then codes "\\t" else (if b == 13 then codes "\\r" else b ∷ []))))

-- a text in quotes
abbrev pub quoted : List ℕ → List ℕ
quoted text = codes "\"" ++ flat_map quoted_byte text ++ codes "\""

-- a text behind a space, where there is one
abbrev pub after_space : List ℕ → List ℕ
after_space [] = []
after_space (b ∷ text) = codes " " ++ flat_map escaped (b ∷ text)

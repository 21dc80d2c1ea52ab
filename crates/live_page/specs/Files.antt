-- The path of the client's file.
use Rattle.std.specs.Prelude.{ℕ, Bool, List, codes, bytes_eq}

abbrev pub is_file : List ℕ → Bool
is_file path = bytes_eq path (codes "/@hmr/client.js")

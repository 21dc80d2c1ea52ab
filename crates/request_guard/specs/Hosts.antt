-- The hosts and origins of a server at a port of this machine.
use Rattle.std.specs.Prelude.{ℕ, Bool, ◌&&◌, ◌||◌, ◌==◌, List, [], ◌∷◌, length, take, drop, codes, bytes_eq, decimal}
use Rattle.http_heads.specs.Head.{same_letters}

-- what stands behind a host's name: the port, which may be left out where it is 80
abbrev pub is_port : ℕ → List ℕ → Bool
is_port port [] = port == 80
is_port port (b ∷ digits) = b == 58 && bytes_eq digits (decimal port)

-- a name, in any case of its letters, and the port
abbrev pub is_at : List ℕ → ℕ → List ℕ → Bool
is_at name port text = same_letters (take (length name) text) name && is_port port (drop (length name) text)

-- a loopback name with the port
abbrev pub is_own_host : ℕ → List ℕ → Bool
is_own_host port text =
    is_at (codes "localhost") port text || (is_at (codes "127.0.0.1") port text || is_at (codes "[::1]") port text)

-- the origin of a page that such a server gave
abbrev pub is_own_origin : ℕ → List ℕ → Bool
is_own_origin port text = same_letters (take 7 text) (codes "http://") && is_own_host port (drop 7 text)

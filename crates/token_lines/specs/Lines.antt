-- Tokens of a text, each with whether it begins a line.
use Rattle.std.specs.Prelude.{ℕ, List, nat_lt}
use Rattle.module_semantics.specs.Lines.{line_of}
use Rattle.module_semantics.specs.Token.{Lexeme, LineToken}

-- a token, where the one before it ends at this place
abbrev pub line_token_of : List ℕ → ℕ → Lexeme → LineToken
line_token_of text end t =
    record { token = t.token; at = t.at; later = nat_lt (line_of text end) (line_of text t.at) }

-- Lines and columns of a text, and which tokens begin a line.
use Rattle.std.specs.Prelude.{ℕ, suc, ◌+◌, List, [], ◌∷◌, take, nat_lt, ◌==◌, if◌then◌else◌}
use Rattle.module_semantics.specs.Token.{Lexeme, LineToken}

-- how many line feeds stand in the bytes
unfoldable pub line_feeds : List ℕ → ℕ
line_feeds [] = 0
line_feeds (b ∷ bs) = if b == 10 then suc (line_feeds bs) else line_feeds bs

-- how many bytes stand after the last line feed, where n stand before these since one
unfoldable pub since_line_feed : ℕ → List ℕ → ℕ
since_line_feed n [] = n
since_line_feed n (b ∷ bs) = if b == 10 then since_line_feed 0 bs else since_line_feed (suc n) bs

-- the line of a place of a text, from 1
abbrev pub line_of : List ℕ → ℕ → ℕ
line_of text place = suc (line_feeds (take place text))

-- the column of a place of a text, from 1
abbrev pub column_of : List ℕ → ℕ → ℕ
column_of text place = suc (since_line_feed 0 (take place text))

-- the tokens of a text after a place at which the token before them ends
unfoldable pub line_tokens_from : List ℕ → ℕ → List Lexeme → List LineToken
line_tokens_from text end [] = []
line_tokens_from text end (t ∷ ts) =
    record { token = t.token; at = t.at; later = nat_lt (line_of text end) (line_of text t.at) }
    ∷ line_tokens_from text (t.at + t.len) ts

-- the tokens of a text, each with whether it begins a line; for the first, which follows none, the text's
-- begin is taken as the end of one
unfoldable pub line_tokens : List ℕ → List Lexeme → List LineToken
line_tokens text ts = line_tokens_from text 0 ts

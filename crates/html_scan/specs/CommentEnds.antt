-- Where a comment of the HTML standard ends, byte by byte.
use Rattle.std.specs.Prelude.{ℕ, suc, List, [], ◌∷◌, Bool, ◌==◌, ◌&&◌, true, false, if◌then◌else◌, drop}
use Rattle.html_scan.specs.declared.comments.Reading.{Reading}
use Rattle.html_scan.specs.declared.comments.Reading.TheVariants.{Start, StartDash, Text, Dash, Dashes, Bang}

-- a `>` ends the comment
abbrev pub may_end : Reading → Bool
may_end Start = true
may_end StartDash = true
may_end Text = false
may_end Dash = false
may_end Dashes = true
may_end Bang = true

-- a byte ends the comment
abbrev pub ends : Reading → ℕ → Bool
ends r b = (b == 62) && may_end r

-- how far the reading is behind a `-`
abbrev pub behind_dash : Reading → Reading
behind_dash Start = StartDash
behind_dash StartDash = Dashes
behind_dash Text = Dash
behind_dash Dash = Dashes
behind_dash Dashes = Dashes
behind_dash Bang = Dash

-- how far it is behind a `!`
abbrev pub behind_bang : Reading → Reading
behind_bang Start = Text
behind_bang StartDash = Text
behind_bang Text = Text
behind_bang Dash = Text
behind_bang Dashes = Bang
behind_bang Bang = Text

-- how far it is behind a byte
abbrev pub behind : Reading → ℕ → Reading
behind r b = if b == 45 then behind_dash r else if b == 33 then behind_bang r else Text

-- where a comment ends whose next byte stands at a place: behind its `>`, or with the text
unfoldable pub end_from : ℕ → Reading → List ℕ → ℕ
end_from at r [] = at
end_from at r (b ∷ bs) = if ends r b then suc at else end_from (suc at) (behind r b) bs

-- where a comment of the text ends whose `<!--` ends at a place
unfoldable pub comment_end : List ℕ → ℕ → ℕ
comment_end text from = end_from from Start (drop from text)

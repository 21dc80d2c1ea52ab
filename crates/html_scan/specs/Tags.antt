-- What holds of the tokens of a page.
use Rattle.std.specs.Prelude.{◌≡◌, ◌<◌, ◌≤◌, ℕ, ◌+◌, ◌-◌, List, length, slice_index}
use Rattle.html_scan.specs.declared.tokens.Tag.{Tag}
use Rattle.html_scan.specs.declared.tokens.Token.{Token}
use Rattle.html_scan.specs.declared.tokens.Token.TheVariants.{Start, End, Doctype, Other}
use Rattle.html_scan.specs.Pages.{IsTag}

-- a tag with its name, which begins at a place of the text
pub record IsTagAt (text : List ℕ) (at : ℕ) (t : Tag) : Type 0 where
  pub tag : IsTag text t.span
  pub start : t.span.start ≡ at
  pub after : t.span.start < t.name.start
  pub some : t.name.start < t.name.end
  pub before : t.name.end < t.span.end

-- a place behind another
pub record IsEnd (text : List ℕ) (at : ℕ) (end : ℕ) : Type 0 where
  pub behind : at < end
  pub within : end ≤ length text

-- the end of a doctype
pub record IsDoctypeEnd (text : List ℕ) (at : ℕ) (end : ℕ) : Type 0 where
  pub place : IsEnd text at end
  pub closed : slice_index text (end - 1) ≡ 62

-- a token that begins at a place of the text
abbrev pub IsTokenAt : List ℕ → ℕ → Token → Type 0
IsTokenAt text at (Start t) = IsTagAt text at t
IsTokenAt text at (End t) = IsTagAt text at t
IsTokenAt text at (Doctype end) = IsDoctypeEnd text at end
IsTokenAt text at (Other end) = IsEnd text at end

-- a place at or behind another at which an end tag of a script begins
pub record IsContentEnd (text : List ℕ) (from : ℕ) (end : ℕ) : Type 0 where
  pub rises : from ≤ end
  pub opened : slice_index text end ≡ 60
  pub closed : slice_index text (end + 1) ≡ 47
  pub within : end + 8 < length text

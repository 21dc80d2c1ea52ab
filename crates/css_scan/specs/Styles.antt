-- What holds of each outline of a stylesheet: its addresses are what stands at their places, and they rise.
use Rattle.std.specs.Prelude.{◌≡◌, ◌≢◌, ◌<◌, ◌≤◌, ℕ, ◌-◌, List, [], ◌∷◌, Bool, ◌==◌, ◌||◌, true, false, length, Some, slice_index}
use Rattle.css_scan.specs.declared.outline.Quoting.{Quoting}
use Rattle.css_scan.specs.declared.outline.Quoting.TheVariants.{Double, Single, Bare}
use Rattle.css_scan.specs.declared.outline.StyleImport.{StyleImport}
use Rattle.css_scan.specs.declared.outline.StyleOutline.{StyleOutline}
use Rattle.css_scan.specs.Addresses.{address_end, is_blank}

-- stands before an address: its quote; without quotes the parenthesis, or a blank behind it
abbrev pub begins : Quoting → ℕ → Bool
begins Double b = b == 34
begins Single b = b == 39
begins Bare b = b == 40 || is_blank b

-- an address without quotes may stand at a place
abbrev pub IsOpened : List ℕ → ℕ → Type 0
IsOpened text at = begins Bare (slice_index text (at - 1)) ≡ true

-- an `@import` rule of the text
pub record IsImport (text : List ℕ) (i : StyleImport) : Type 0 where
  pub rule : slice_index text i.rule ≡ 64
  pub before : i.rule < i.address.start
  pub opened : begins i.quoting (slice_index text (i.address.start - 1)) ≡ true
  pub whole : address_end text i.address.start i.quoting ≡ Some i.address.end
  pub some : i.address.start ≤ i.address.end
  pub within : i.address.end ≤ length text
  pub plain : i.has_escapes ≡ false → (k : ℕ) → i.address.start ≤ k → k < i.address.end → slice_index text k ≢ 92

-- imports of the text whose addresses rise from a place on
abbrev pub AreInOrder : List ℕ → ℕ → List StyleImport → Type 0
AreInOrder text low [] = Unit {0}
AreInOrder text low (i ∷ is') = (low ≤ i.rule) × IsImport text i × AreInOrder text i.address.end is'

-- where the last address ends
abbrev pub end_of : ℕ → List StyleImport → ℕ
end_of low [] = low
end_of low (i ∷ is') = end_of i.address.end is'

-- an outline of a text
pub record IsStyleOf (text : List ℕ) (style : StyleOutline) : Type 0 where
  pub imports : AreInOrder text 0 style.imports.items

-- how far into the text its addresses reach
unfoldable pub reach : StyleOutline → ℕ
reach style = end_of 0 style.imports.items

-- What holds of each outline of a page: tags, values and contents are what stands at their places, and they rise.
use Rattle.std.specs.Prelude.{◌≡◌, ◌≢◌, ◌<◌, ◌≤◌, ℕ, ◌+◌, ◌-◌, List, [], ◌∷◌, Bool, ◌==◌, ◌||◌, true, false, length, slice_index}
use Rattle.html_scan.specs.declared.outline.Attribute.{Attribute}
use Rattle.html_scan.specs.declared.outline.PageItem.{PageItem}
use Rattle.html_scan.specs.declared.outline.PageOutline.{PageOutline}
use Rattle.html_scan.specs.declared.outline.PagePart.{PagePart}
use Rattle.html_scan.specs.declared.outline.PagePart.TheVariants.{ModuleScript, InlineModule, ClassicScript, ImportMap, Stylesheet}
use Rattle.html_scan.specs.declared.outline.Quoting.{Quoting}
use Rattle.html_scan.specs.declared.outline.Quoting.TheVariants.{Double, Single, Bare}
use Rattle.html_scan.specs.declared.outline.Span.{Span}

-- a space, a tab, an LF, a form feed or a CR
abbrev pub is_space : ℕ → Bool
is_space b = b == 32 || b == 9 || b == 10 || b == 12 || b == 13

-- stands before a value: its quote; without quotes the `=`, or a space behind it
abbrev pub begins : Quoting → ℕ → Bool
begins Double b = b == 34
begins Single b = b == 39
begins Bare b = b == 61 || is_space b

-- ends a value: its quote; without quotes a space or the end of the tag
abbrev pub ends : Quoting → ℕ → Bool
ends Double b = b == 34
ends Single b = b == 39
ends Bare b = b == 62 || is_space b

-- a value without quotes may stand at a place
abbrev pub IsOpened : List ℕ → ℕ → Type 0
IsOpened text at = begins Bare (slice_index text (at - 1)) ≡ true

-- a tag of the text, from its `<` to behind its `>`
pub record IsTag (text : List ℕ) (t : Span) : Type 0 where
  pub opened : slice_index text t.start ≡ 60
  pub closed : slice_index text (t.end - 1) ≡ 62
  pub rises : t.start < t.end
  pub within : t.end ≤ length text

-- the value of an attribute of the text, perhaps empty: all that stands between its ends
pub record IsValue (text : List ℕ) (a : Attribute) : Type 0 where
  pub opened : begins a.quoting (slice_index text (a.value.start - 1)) ≡ true
  pub inside : (k : ℕ) → a.value.start ≤ k → k < a.value.end → ends a.quoting (slice_index text k) ≡ false
  pub ended : ends a.quoting (slice_index text a.value.end) ≡ true
  pub rises : a.value.start ≤ a.value.end
  pub within : a.value.end < length text
  pub plain : a.has_references ≡ false → (k : ℕ) → a.value.start ≤ k → k < a.value.end → slice_index text k ≢ 38

-- a value of an attribute of a tag, not empty
pub record IsAddress (text : List ℕ) (t : Span) (a : Attribute) : Type 0 where
  pub value : IsValue text a
  pub after : t.start < a.value.start
  pub some : a.value.start < a.value.end
  pub before : a.value.end < t.end

-- what stands between a tag and the `</` of an end tag
pub record IsContent (text : List ℕ) (t : Span) (s : Span) : Type 0 where
  pub start : s.start ≡ t.end
  pub rises : s.start ≤ s.end
  pub opened : slice_index text s.end ≡ 60
  pub closed : slice_index text (s.end + 1) ≡ 47
  pub within : s.end < length text

abbrev pub IsPart : List ℕ → Span → PagePart → Type 0
IsPart text t (ModuleScript a) = IsAddress text t a
IsPart text t (InlineModule s) = IsContent text t s
IsPart text t (ClassicScript a) = IsAddress text t a
IsPart text t (ImportMap s) = IsContent text t s
IsPart text t (Stylesheet a) = IsAddress text t a

-- a tag of the text that loads or holds something
pub record IsItem (text : List ℕ) (i : PageItem) : Type 0 where
  pub tag : IsTag text i.tag
  pub part : IsPart text i.tag i.part

-- where a part ends: its tag, or its content
abbrev pub end_of_part : Span → PagePart → ℕ
end_of_part t (ModuleScript a) = t.end
end_of_part t (InlineModule s) = s.end
end_of_part t (ClassicScript a) = t.end
end_of_part t (ImportMap s) = s.end
end_of_part t (Stylesheet a) = t.end

abbrev pub end_of_item : PageItem → ℕ
end_of_item i = end_of_part i.tag i.part

-- items of the text that rise from a place on
abbrev pub AreInOrder : List ℕ → ℕ → List PageItem → Type 0
AreInOrder text low [] = Unit {0}
AreInOrder text low (i ∷ is') = (low ≤ i.tag.start) × IsItem text i × AreInOrder text (end_of_item i) is'

-- where the last item ends
abbrev pub end_of : ℕ → List PageItem → ℕ
end_of low [] = low
end_of low (i ∷ is') = end_of (end_of_item i) is'

-- a place of the text that stands at its start, behind a byte order mark, or behind a `>`
pub record IsHead (text : List ℕ) (head : ℕ) : Type 0 where
  pub within : head ≤ length text
  pub behind : 3 < head → slice_index text (head - 1) ≡ 62

-- an outline of a text
pub record IsPageOf (text : List ℕ) (page : PageOutline) : Type 0 where
  pub head : IsHead text page.head
  pub items : AreInOrder text page.head page.items.items

-- how far into the text its items reach
unfoldable pub reach : PageOutline → ℕ
reach page = end_of page.head page.items.items

-- What holds of each outline: its parts lie in the text, module specifiers are string literals there, the
-- lists rise, and rows are rows of their lists.
use Rattle.std.specs.Prelude.{◌≡◌, ◌<◌, ◌≤◌, ℕ, max, List, [], ◌∷◌, true, length, All, Option, Some, None}
use Rattle.std.specs.Prelude.{slice_index}
use Rattle.es_scan.specs.declared.outline.Accept.{Accept}
use Rattle.es_scan.specs.declared.outline.Purpose.{Purpose}
use Rattle.es_scan.specs.declared.outline.Purpose.TheVariants as purposes
use Rattle.es_scan.specs.declared.outline.Rows.{Rows}
use Rattle.es_scan.specs.declared.outline.Span.{Span}
use Rattle.es_scan.specs.declared.outline.ModuleSpecifier.{ModuleSpecifier}
use Rattle.es_scan.specs.declared.outline.Imported.{Imported}
use Rattle.es_scan.specs.declared.outline.Imported.TheVariants as forms
use Rattle.es_scan.specs.declared.outline.ImportBinding.{ImportBinding}
use Rattle.es_scan.specs.declared.outline.ExportedName.{ExportedName}
use Rattle.es_scan.specs.declared.outline.Outline.{Outline}
use Rattle.es_scan.specs.StringLiteral.{is_quote, literal_at}

-- some bytes of the text
pub record IsPart (text : List ℕ) (s : Span) : Type 0 where
  pub some : s.start < s.end
  pub within : s.end ≤ length text

-- a string literal of the text, with its quotes
pub record IsLiteral (text : List ℕ) (s : Span) : Type 0 where
  pub quote : is_quote (slice_index text s.start) ≡ true
  pub whole : literal_at text s.start ≡ Some s.end
  pub part : IsPart text s

-- each has the property, and its span begins where the one before it ended, or later
abbrev pub AreInOrder : {A : Type 0} → (A → Type 0) → (A → Span) → ℕ → List A → Type 0
AreInOrder P span low [] = Unit {0}
AreInOrder P span low (x ∷ xs) = (low ≤ (span x).start) × P x × AreInOrder P span (span x).end xs

-- where the last one ends
abbrev pub end_of : {A : Type 0} → (A → Span) → ℕ → List A → ℕ
end_of span low [] = low
end_of span low (x ∷ xs) = end_of span (span x).end xs

-- what the export is called that an import takes
abbrev pub IsImported : List ℕ → Imported → Type 0
IsImported text forms.Namespace = Unit {0}
IsImported text forms.Default = Unit {0}
IsImported text (forms.Name s) = IsPart text s

-- what stands for an exported name
abbrev pub IsLocal : List ℕ → Option Span → Type 0
IsLocal text None = Unit {0}
IsLocal text (Some s) = IsPart text s

-- the literal of an attribute behind a place
abbrev pub IsTypeAttribute : List ℕ → ℕ → Option Span → Type 0
IsTypeAttribute text low None = Unit {0}
IsTypeAttribute text low (Some s) = IsLiteral text s × (low ≤ s.start)

abbrev pub literal_of : ModuleSpecifier → Span
literal_of s = s.literal

abbrev pub local_of : ImportBinding → Span
local_of n = n.local

abbrev pub name_of : ExportedName → Span
name_of e = e.name

pub record IsImport (text : List ℕ) (n : ImportBinding) : Type 0 where
  pub local : IsPart text n.local
  pub imported : IsImported text n.imported

pub record IsExport (text : List ℕ) (e : ExportedName) : Type 0 where
  pub name : IsPart text e.name
  pub local : IsLocal text e.local

pub record IsSpecifier (text : List ℕ) (s : ModuleSpecifier) : Type 0 where
  pub literal : IsLiteral text s.literal
  pub behind : s.statement < s.literal.start
  pub attribute : IsTypeAttribute text s.literal.end s.type_attribute

-- rows of a list of so many
pub record AreRows (count : ℕ) (r : Rows) : Type 0 where
  pub rise : r.from ≤ r.to
  pub within : r.to ≤ count

-- of so many imports and exports those that a purpose has rows of
abbrev pub rows_of : Purpose → ℕ → ℕ → ℕ
rows_of purposes.Import imports exports = imports
rows_of purposes.Export imports exports = exports
rows_of purposes.ExportAll imports exports = 0
rows_of purposes.ImportCall imports exports = 0
rows_of purposes.Accept imports exports = 0

-- rows of those of an outline that a purpose has rows of
abbrev pub AreNamesIn : Outline → Purpose → Rows → Type 0
AreNamesIn o p r = AreRows (rows_of p (length o.imports.items) (length o.exports.items)) r

abbrev pub HasNames : ℕ → ℕ → ModuleSpecifier → Type 0
HasNames imports exports s = AreRows (rows_of s.purpose imports exports) s.names

abbrev pub HaveNames : ℕ → ℕ → List ModuleSpecifier → Type 0
HaveNames imports exports [] = Unit {0}
HaveNames imports exports (s ∷ ss) = HasNames imports exports s × HaveNames imports exports ss

-- a call of `accept` in a text, and its rows of so many specifiers
pub record IsAccept (text : List ℕ) (count : ℕ) (a : Accept) : Type 0 where
  pub call : a.call < length text
  pub rows : AreRows count a.specifiers

abbrev pub AreAccepts : List ℕ → ℕ → List Accept → Type 0
AreAccepts text count [] = Unit {0}
AreAccepts text count (a ∷ as') = IsAccept text count a × AreAccepts text count as'

abbrev pub IsHashbang : List ℕ → Option Span → Type 0
IsHashbang text None = Unit {0}
IsHashbang text (Some s) = IsPart text s

abbrev pub IsPlace : List ℕ → Option ℕ → Type 0
IsPlace text None = Unit {0}
IsPlace text (Some at) = at < length text

-- single places of an outline lie in the text
pub record ArePlaces (text : List ℕ) (d c u : List ℕ) (m : Option ℕ) (h : Option Span) (f : ℕ) : Type 0 where
  pub declines : All (λ at. at < length text) d
  pub computed : All (λ at. at < length text) c
  pub unclear : All (λ at. at ≤ length text) u
  pub first_meta : IsPlace text m
  pub hashbang : IsHashbang text h
  pub first_statement : f ≤ length text

-- an outline of a text
pub record IsOutlineOf (text : List ℕ) (o : Outline) : Type 0 where
  pub specifiers : AreInOrder (IsSpecifier text) literal_of 0 o.specifiers.items
  pub imports : AreInOrder (IsImport text) local_of 0 o.imports.items
  pub exports : AreInOrder (IsExport text) name_of 0 o.exports.items
  pub names : HaveNames (length o.imports.items) (length o.exports.items) o.specifiers.items
  pub accepts : AreAccepts text (length o.specifiers.items) o.accepts.items
  pub places : ArePlaces text o.declines.items o.computed.items o.unclear.items o.first_meta o.hashbang
      o.first_statement

-- how far into the text its specifiers and names reach
unfoldable pub reach : Outline → ℕ
reach o = max (end_of literal_of 0 o.specifiers.items)
    (max (end_of local_of 0 o.imports.items) (end_of name_of 0 o.exports.items))

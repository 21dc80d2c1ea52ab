-- What the code keeps, as the definitions see it, and what holds of it always.
use Rattle.std.specs.Prelude.{◌≡◌, ℕ, ◌+◌, ◌≤◌, List, length, sum_by, IfSome, IsUtf8}
use Rattle.std.specs.BTreeMap.{IsOrdered}
use Rattle.std.specs.Cmp.Lexicographic.{slice_cmp}
use Rattle.std.specs.Ordering.{nat_cmp}
use Rattle.hmr_types.specs.declared.limits.TheConstants.{SOURCE_BYTES, LARGEST_NUMBER, TEXT_BYTES}
use Rattle.core_model.specs.Names.{Name}
use Rattle.core_model.specs.Sources.{Text, Source, Sources, total_of}
use Rattle.version_map.specs.Entries.{current_rows, entry_at, served_in, served_rows, source_in, waiting}
use Rattle.version_map.specs.declared.version_map.VersionMap.TheInside.{Inside}

-- what the edits and results so far give, each list in the order of the names
abbrev pub sources_of : Inside → Sources
sources_of a =
    record {
      counted = a.counted;
      current = current_rows a.entries.entries;
      served = served_rows a.entries.entries;
      served_no = a.served_no;
    }

-- how many results are awaited
abbrev pub awaited : List (Name × Source) → ℕ
awaited rows = sum_by (λ row. waiting row.1) rows

-- a version that an edit gave, and a text that an edit may give
abbrev pub Fits : ℕ → Text → Type 0
Fits v t = (1 ≤ v) × (v ≤ LARGEST_NUMBER) × (length t ≤ TEXT_BYTES)

-- The bytes are counted. Each counted edit leads to one serving or to one removal at most, so all
-- numbers fit. What is served is UTF-8, since it reads as a module.
pub record IsCounted (a : Inside) : Type 0 where
  pub ordered : IsOrdered (slice_cmp nat_cmp) a.entries
  pub total : a.total ≡ total_of (sources_of a)
  pub total_fits : a.total ≤ SOURCE_BYTES
  pub counted_fits : a.counted ≤ LARGEST_NUMBER
  pub sources_fit : (n : Name)
      → IfSome (source_in (entry_at a.entries.entries n)) (λ s. Fits s.version s.text)
  pub servings_fit : (n : Name)
      → IfSome (served_in (entry_at a.entries.entries n)) (λ s. Fits s.version s.text)
  pub servings_read : (n : Name) → IfSome (served_in (entry_at a.entries.entries n)) (λ s. IsUtf8 s.text)
  pub enough : a.served_no + awaited (current_rows a.entries.entries) ≤ a.counted

-- What a browser is sent of a script: its text, but for these ranges.
use Rattle.std.specs.Prelude.{ℕ, ◌+◌, ◌-◌, List, [], ◌∷◌, ◌++◌, length, drop, filter, codes, Bool, true, false, not, ◌&&◌, ◌||◌, ◌==◌, nat_le, nat_lt, if◌then◌else◌}
use Rattle.std.specs.Prelude.{Option, Some, None, is_some}
use Rattle.std.specs.List.{list_any, slice_range}
use Rattle.es_scan.specs.declared.outline.ModuleSpecifier.{ModuleSpecifier}
use Rattle.es_scan.specs.declared.outline.Outline.{Outline}
use Rattle.es_scan.specs.declared.outline.Phase.{Phase}
use Rattle.es_scan.specs.declared.outline.Phase.TheVariants as phases
use Rattle.es_scan.specs.declared.outline.Purpose.{Purpose}
use Rattle.es_scan.specs.declared.outline.Purpose.TheVariants as purposes
use Rattle.es_scan.specs.declared.outline.Span.{Span}
use Rattle.file_names.specs.Specifiers.{resolved}
use Rattle.instance_urls.specs.Urls.{url_of}
use Rattle.instance_urls.specs.declared.plan_id.PlanId.{PlanId}
use Rattle.text_splices.specs.Places.{ends_line}
use Rattle.text_splices.specs.Splices.{splice_of}
use Rattle.text_splices.specs.declared.splice.Splice.{Splice}
use Rattle.browser_texts.specs.Words.{first_visible, word_splices}

-- the statement by which the module is made known to the page's client
abbrev pub hook : List ℕ
hook = codes "globalThis.__hmr?.enter(import.meta);"

-- the function that a call of `import` calls: the client's, or the browser's own where the client isn't there
abbrev pub import_function : Bool → List ℕ
import_function true = codes "new(import.meta.hotImport??function(s,o){return import(s,o)})"
import_function false = codes "new(import.meta.hotImport??function(s){return import(s)})"

-- that function in the place of the word `import` of a call
abbrev pub call_splices : List ℕ → ℕ → Bool → List Splice
call_splices text at options = word_splices text at (codes "import") (import_function options)

-- a call whose argument is a string literal alone may have options behind a comma
abbrev pub literal_call : List ℕ → ModuleSpecifier → Phase → List Splice
literal_call text s phases.Evaluation = call_splices text s.statement (first_visible (drop s.literal.end text) == 44)
literal_call text s phases.Defer = []
literal_call text s phases.Source = []

-- any other call may have options; `import.defer(..)` and `import.source(..)` stay
abbrev pub other_call : List ℕ → ℕ → List Splice
other_call text at = if first_visible (drop (at + 6) text) == 46 then [] else call_splices text at true

-- what stands between the quotes of a literal
abbrev pub inside : List ℕ → Span → List ℕ
inside text s =
    if nat_le (s.start + 1) (s.end - 1) && nat_le (s.end - 1) (length text) then slice_range text (s.start + 1) (s.end - 1)
    else []

-- the bytes of a range
abbrev pub range_of : List ℕ → Span → List ℕ
range_of text s = if nat_le s.start s.end && nat_le s.end (length text) then slice_range text s.start s.end else []

-- its line feeds
abbrev pub line_feeds : List ℕ → Span → List ℕ
line_feeds text s = filter ends_line (range_of text s)

-- the URL of an instance as a string literal, and the line feeds of the literal in whose place it stands
abbrev pub literal_by : List ℕ → Span → List ℕ → PlanId → List ℕ
literal_by text s name plan = 34 ∷ (url_of name (Some plan) ++ (34 ∷ line_feeds text s))

-- the literal of a module that has an instance of a plan
abbrev pub linked : List ℕ → Span → List ℕ → Option PlanId → List Splice
linked text s name None = []
linked text s name (Some plan) = (record { start = s.start; end = s.end; by = literal_by text s name plan }) ∷ []

abbrev pub linked_to : (List ℕ → Option PlanId) → List ℕ → Span → Option (List ℕ) → List Splice
linked_to instance text s None = []
linked_to instance text s (Some name) = linked text s name (instance name)

-- the specifier of a declaration leads to an instance, that of a call is imported by a function
abbrev pub specifier_splices : (List ℕ → Option PlanId) → List ℕ → List ℕ → ModuleSpecifier → Purpose → List Splice
specifier_splices instance name text s purposes.Import = linked_to instance text s.literal (resolved name (inside text s.literal))
specifier_splices instance name text s purposes.Export = linked_to instance text s.literal (resolved name (inside text s.literal))
specifier_splices instance name text s purposes.ExportAll = linked_to instance text s.literal (resolved name (inside text s.literal))
specifier_splices instance name text s purposes.ImportCall = literal_call text s s.phase
specifier_splices instance name text s purposes.Accept = []

-- the other calls before a place, and those that are left
abbrev pub calls_before : List ℕ → ℕ → List ℕ → List Splice
calls_before text limit [] = []
calls_before text limit (c ∷ cs) = if nat_lt c limit then other_call text c ++ calls_before text limit cs else []

abbrev pub calls_left : ℕ → List ℕ → List ℕ
calls_left limit [] = []
calls_left limit (c ∷ cs) = if nat_lt c limit then calls_left limit cs else c ∷ cs

-- those of specifiers and of other calls, in the order of the text
abbrev pub import_splices : (List ℕ → Option PlanId) → List ℕ → List ℕ → List ℕ → List ModuleSpecifier → List Splice
import_splices instance name text calls [] = calls_before text (length text) calls
import_splices instance name text calls (s ∷ ss) =
    calls_before text s.literal.start calls
    ++ (specifier_splices instance name text s s.purpose ++ import_splices instance name text (calls_left s.literal.start calls) ss)

abbrev pub is_call : Purpose → Bool
is_call purposes.Import = false
is_call purposes.Export = false
is_call purposes.ExportAll = false
is_call purposes.ImportCall = true
is_call purposes.Accept = false

-- it uses `import.meta` or calls `import`
abbrev pub is_hooked : Outline → Bool
is_hooked o = is_some o.first_meta || not (length o.computed.items == 0) || list_any (λ s. is_call s.purpose) o.specifiers.items

-- the hook, before the first statement
abbrev pub hook_splices : Outline → List Splice
hook_splices o = if is_hooked o then (record { start = o.first_statement; end = o.first_statement; by = hook }) ∷ [] else []

-- `//` in the place of `#!`
abbrev pub hashbang_splices : List ℕ → Option Span → List Splice
hashbang_splices text None = []
hashbang_splices text (Some s) = word_splices text s.start (codes "#!") (codes "//")

-- all of them
abbrev pub splices_of : (List ℕ → Option PlanId) → List ℕ → List ℕ → Outline → List Splice
splices_of instance name text o =
    hashbang_splices text o.hashbang
    ++ (hook_splices o ++ import_splices instance name text o.computed.items o.specifiers.items)

-- what a browser is sent of the text of a module
abbrev pub script_of : (List ℕ → Option PlanId) → List ℕ → List ℕ → Outline → List ℕ
script_of instance name text o = splice_of text (splices_of instance name text o)

-- it has no `#!`, doesn't use `import.meta` and calls no `import`
abbrev pub is_plain : Outline → Bool
is_plain o = not (is_hooked o) && not (is_some o.hashbang)

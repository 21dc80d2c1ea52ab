-- What an entry says of its name: the current source, and what is served.
use Rattle.std.specs.Prelude.{ℕ, List, [], ◌∷◌, map, Option, Some, None, if◌then◌else◌, ⊤}
use Rattle.std.specs.Option.{option_map}
use Rattle.std.specs.Cmp.Lexicographic.{slice_cmp}
use Rattle.std.specs.Ordering.{nat_cmp}
use Rattle.std.specs.BTreeMap.{is_at}
use Rattle.std.specs.Map.{lookup}
use Rattle.hmr_types.specs.declared.analysis.Outcome.{Outcome}
use Rattle.hmr_types.specs.declared.analysis.Outcome.TheVariants.{Good, Bad}
use Rattle.hmr_types.specs.declared.analysis.TextFault.{TextFault}
use Rattle.core_model.specs.Names.{Name, with_entry}
use Rattle.core_model.specs.Sources.{Text, Verdict, outstanding, good, bad, Source, Serving, is_outstanding}
use Rattle.core_model.specs.Sources.{is_awaited, ResultAnswer, serve, refuse, late, answer_of}
use Rattle.version_map.specs.declared.entry.Served.{Served}
use Rattle.version_map.specs.declared.entry.Unserved.{Unserved}
use Rattle.version_map.specs.declared.entry.Entry.{Entry}
use Rattle.version_map.specs.declared.entry.Entry.TheVariants as entry

abbrev pub serving_of : Served → Serving
serving_of s = record { version = s.ver; text = s.text; analysis = s.analysis }

-- a source that isn't served has no result yet, or a bad one
abbrev pub verdict_of : Option TextFault → Verdict
verdict_of None = outstanding
verdict_of (Some f) = bad f

-- the fault of a bad source
abbrev pub fault_of : Verdict → Option TextFault
fault_of outstanding = None
fault_of good = None
fault_of (bad f) = Some f

abbrev pub unserved_source : Unserved → Source
unserved_source u = record { version = u.ver; text = u.text; verdict = verdict_of u.fault }

-- the current source
abbrev pub source_of : Entry → Source
source_of (entry.Served s) = record { version = s.ver; text = s.text; verdict = good }
source_of (entry.Unserved u served) = unserved_source u

-- what is served
abbrev pub served_of : Entry → Option Serving
served_of (entry.Served s) = Some (serving_of s)
served_of (entry.Unserved u served) = option_map serving_of served

abbrev pub source_in : Option Entry → Option Source
source_in o = option_map source_of o

abbrev pub served_in : Option Entry → Option Serving
served_in None = None
served_in (Some e) = served_of e

-- the entry of a name
abbrev pub entry_at : List (Name × Entry) → Name → Option Entry
entry_at es n = lookup (is_at (slice_cmp nat_cmp n)) es

-- the current sources, by name
abbrev pub current_rows : List (Name × Entry) → List (Name × Source)
current_rows es = map (λ e. (e.0, source_of e.1)) es

-- what is served, by name
abbrev pub served_rows : List (Name × Entry) → List (Name × Serving)
served_rows [] = []
served_rows (e ∷ es) = with_entry e.0 (served_of e.1) (served_rows es)

-- the text is a module
abbrev pub IsGood : Outcome → Type 0
IsGood (Good a) = ⊤
IsGood (Bad f) = ⊥

-- what a result answers, by the current source
abbrev pub answer_at : Option Source → Text → Outcome → ℕ → ResultAnswer
answer_at old t o v = if is_awaited old t v then answer_of o else late

-- the source after a result
abbrev pub settled_source : ResultAnswer → Text → ℕ → Source → Source
settled_source (serve a) t v s = record { version = v; text = t; verdict = good }
settled_source (refuse f) t v s = record { version = v; text = t; verdict = bad f }
settled_source late t v s = s

-- what is served after a result
abbrev pub settled_serving : ResultAnswer → Text → ℕ → Option Serving → Option Serving
settled_serving (serve a) t v o = Some (record { version = v; text = t; analysis = a })
settled_serving (refuse f) t v o = o
settled_serving late t v o = o

-- 1 for a source whose result hasn't come
abbrev pub waiting : Source → ℕ
waiting s = if is_outstanding s.verdict then 1 else 0

-- The new instances of a plan: which ones, in which order, with which numbers, and linked to what.
use Rattle.std.specs.Prelude.{ℕ, zero, suc, ◌+◌, Bool, false, not, List, [], ◌∷◌, length, map, filter}
use Rattle.std.specs.Prelude.{flat_map, filter_map, Option, Some, None, is_some, is_none, option_map}
use Rattle.std.specs.Prelude.{if◌then◌else◌}
use Rattle.hmr_types.specs.declared.words.PlanKind.{PlanKind}
use Rattle.hmr_types.specs.declared.words.PlanKind.TheVariants.{Load, Reload, Update}
use Rattle.core_model.specs.Names.{Name, same_name, has, at, first_of}
use Rattle.core_model.specs.Sources.{Text}
use Rattle.core_model.specs.View.{View, Entry}
use Rattle.core_model.specs.Page.{Plan, entry_at}
use Rattle.client_model.specs.Language.{Language, Binding}
use Rattle.client_model.specs.Instance.{Instance, live_at}
use Rattle.client_model.specs.Runtime.{Runtime, Cause, unlinked}
use Rattle.client_model.specs.Order.{fetch_order, evaluation_order}

-- an update keeps what it doesn't replace; a load and a reload keep nothing
abbrev pub is_kept_kind : PlanKind → Bool → Option Entry → Bool
is_kept_kind Load is_replaced old = false
is_kept_kind Reload is_replaced old = false
is_kept_kind Update is_replaced old = if is_replaced then false else is_some old

-- an update keeps the page's module of this name
abbrev pub is_kept : Plan → View → Name → Bool
is_kept p view n = is_kept_kind p.kind (has p.replaced n) (at view n)

-- the first name of the walk that isn't kept and isn't staged
abbrev pub next_needed : Plan → Runtime → Option Name
next_needed p r =
    first_of (filter (λ n. is_none (entry_at p r.page.view n)) (fetch_order r.roots p r.page.view))

-- the names that get a new instance, in the order of their evaluation
abbrev pub new_names : Plan → Runtime → List Name
new_names p r = filter (λ n. not (is_kept p r.page.view n)) (evaluation_order r.roots p r.page.view)

-- the place of a name in a list
abbrev pub place_of : List Name → Name → ℕ
place_of [] n = zero
place_of (m ∷ names) n = if same_name m n then zero else suc (place_of names n)

-- the number of an instance that is there
abbrev pub number_in : Option Instance → Option ℕ
number_in None = None
number_in (Some i) = Some i.number

-- the number of the instance of a name that is live once the plan is applied
abbrev pub number_after : Plan → Runtime → Name → Option ℕ
number_after p r n =
    if has (new_names p r) n then Some (suc (length r.instances) + place_of (new_names p r) n)
    else number_in (live_at r.instances n)

-- an import with its number, where it has one
abbrev pub link_to : Name → Option ℕ → Option (Name × ℕ)
link_to m number = option_map (λ k. (m, k)) number

-- the imports of a new instance, each with the number that is live after the plan
abbrev pub links_after : Plan → Runtime → List Name → List (Name × ℕ)
links_after p r imports = filter_map (λ m. link_to m (number_after p r m)) imports

-- the exports of a module
abbrev pub exports_of : Option Entry → List Name
exports_of None = []
exports_of (Some e) = e.analysis.exports

-- the dependency doesn't export what the binding imports from it
abbrev pub is_unlinked : Plan → View → Binding → Bool
is_unlinked p view b = not (has (exports_of (entry_at p view b.dependency)) b.exported)

-- the imports of a text that was fetched
abbrev pub bindings_of : Language → Name → Option Text → List Binding
bindings_of language n None = []
bindings_of language n (Some t) = language.bindings n t

-- the imports of the new instances that aren't exported, in the order of evaluation and then of the text
abbrev pub unlinked_in : Language → Plan → Runtime → List Cause
unlinked_in language p r = flat_map (λ n. map (λ b. unlinked n b.dependency b.exported)
    (filter (is_unlinked p r.page.view) (bindings_of language n (at r.texts n)))) (new_names p r)

-- the first import of a new instance that isn't exported
abbrev pub link_cause : Language → Plan → Runtime → Option Cause
link_cause language p r = first_of (unlinked_in language p r)

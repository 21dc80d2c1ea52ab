-- What the server and a client both know of the client's page: whether it is loaded, its modules, the
-- forced names, and the plan under way. Each answer of the server changes both in the same way.
use Rattle.std.specs.Prelude.{Bool, true, false, not, List, [], ◌++◌, filter, Option, Some, None, is_some}
use Rattle.std.specs.Prelude.{if◌then◌else◌}
use Rattle.std.specs.Option.{option_or}
use Rattle.hmr_types.specs.declared.words.PlanKind.{PlanKind}
use Rattle.hmr_types.specs.declared.words.PlanKind.TheVariants.{Load, Reload, Update}
use Rattle.core_model.specs.Names.{Name, has, at, with_row, without_all, names_of, collect, put_name, sorted}
use Rattle.core_model.specs.Rounds.{reached_of}
use Rattle.core_model.specs.View.{View, Entry, imports_of, imported_of}

-- a load, a reload or an update that is being fetched
pub record Plan : Type 0 where
  pub kind : PlanKind
  pub replaced : List Name  -- what an update replaces
  pub staged : View  -- what was fetched for it

-- what both sides know of a page
pub record Page : Type 0 where
  pub loaded : Bool
  pub view : View
  pub forced : List Name  -- the names that were invalidated, rising by bytes
  pub plan : Option Plan  -- the plan under way

-- nothing is loaded, and the page is to be loaded
abbrev pub new_plan : PlanKind → List Name → Plan
new_plan kind replaced = record { kind = kind; replaced = replaced; staged = [] }

-- nothing is loaded, and the page is to be loaded
abbrev pub new_page : Page
new_page = record { loaded = false; view = []; forced = []; plan = Some (new_plan Load []) }

-- the entry that a module has in a plan of this kind: kept or staged
abbrev pub kept_or_staged : PlanKind → Bool → Option Entry → Option Entry → Option Entry
kept_or_staged Load is_replaced kept staged = staged
kept_or_staged Reload is_replaced kept staged = staged
kept_or_staged Update is_replaced kept staged = if is_replaced then staged else option_or kept staged

-- the entry that a module has in the plan
abbrev pub entry_at : Plan → View → Name → Option Entry
entry_at p view n = kept_or_staged p.kind (has p.replaced n) (at view n) (at p.staged n)

-- in the plan n has an entry, and it imports m
abbrev pub plan_imports : Plan → View → Name → Name → Bool
plan_imports p view n m = has (imports_of (entry_at p view n)) m

-- the names that the plan's walk meets
abbrev pub met_of : List Name → Plan → View → List Name
met_of roots p view = reached_of (plan_imports p view) (imported_of view ++ imported_of p.staged) roots

-- the met names without an entry, rising by bytes
abbrev pub unfetched_of : List Name → Plan → View → List Name
unfetched_of roots p view = sorted (filter (λ n. not (is_some (entry_at p view n))) (met_of roots p view))

-- what becomes of a module that the walk doesn't meet
abbrev pub unmet_entry : PlanKind → Option Entry → Option Entry
unmet_entry Load old = None
unmet_entry Reload old = None
unmet_entry Update old = old

-- the entry of a module once the plan is applied
abbrev pub new_entry : Bool → Plan → View → Name → Option Entry
new_entry met p view n = if met then entry_at p view n else unmet_entry p.kind (at view n)

-- the view that the plan makes: the entries of the met names, and in an update also the old entries
-- of names that aren't met
abbrev pub new_view : List Name → Plan → View → View
new_view roots p view = collect (λ n. new_entry (has (met_of roots p view) n) p view n)
    (sorted (met_of roots p view ++ names_of view))

-- a plan begins
abbrev pub begun : PlanKind → List Name → Page → Page
begun kind replaced page = record page { plan = Some (new_plan kind replaced) }

-- a module was fetched for the plan, in place of an earlier fetch of its name
abbrev pub staged : Plan → Name → Entry → Page → Page
staged p n e page = record page { plan = Some (record p { staged = with_row n e p.staged }) }

-- the plan was applied
abbrev pub applied : List Name → Plan → Page → Page
applied roots p page = record page {
  loaded = true;
  view = new_view roots p page.view;
  forced = [];
  plan = None;
}

-- the plan was given up
abbrev pub given_up : Page → Page
given_up page = record page { plan = None }

-- modules left the page
abbrev pub pruned : List Name → Page → Page
pruned names page = record page {
  view = without_all names page.view;
  forced = filter (λ n. not (has names n)) page.forced;
}

-- a module was invalidated
abbrev pub forced_too : Name → Page → Page
forced_too n page = record page { forced = put_name n page.forced }

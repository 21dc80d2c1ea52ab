-- What a plan makes new instances from and what it does with the old ones, against the plan of the
-- definitions, and what it makes of a page.
use Rattle.std.specs.Prelude.{◌≡◌, ◌+◌, ◌&&◌, ◌++◌, ℕ, suc, true, false, ⊤, List, filter_map}
use Rattle.std.specs.Prelude.{length, map, Option, Some, None, is_some, if◌then◌else◌}
use Rattle.std.specs.List.{All}
use Rattle.std.specs.Option.{option_or}
use Rattle.hmr_types.specs.declared.words.PlanKind.{PlanKind}
use Rattle.hmr_types.specs.declared.words.PlanKind.TheVariants as plan_kind
use Rattle.module_tree.specs.declared.tree.Module.{Module}
use Rattle.output_lines.specs.declared.out_line.OutLine.{OutLine}
use Rattle.update_msgs.specs.Writable.{IsVersion}
use Rattle.core_model.specs.Names.{Name, at, has}
use Rattle.core_model.specs.Page.{Plan, entry_at, new_view}
use Rattle.core_model.specs.View.{Entry, View}
use Rattle.client_model.specs.Applying as client
use Rattle.client_model.specs.Applying.{end_old, set_aside, tell_all, tell_boundary}
use Rattle.client_model.specs.Instance.{is_held}
use Rattle.client_model.specs.Journal.{lines_of_all}
use Rattle.client_model.specs.Linking.{link_to, new_names, place_of}
use Rattle.client_model.specs.Making.{make}
use Rattle.client_model.specs.Running.{drop_each}
use Rattle.client_model.specs.Runtime.{Runtime, Did, and_then, for_each}
use Rattle.module_language.specs.ModuleLanguage.{module_language}
use Rattle.live_instances.specs.Counted.{AreCountedIn}
use Rattle.page_plan.specs.Numbers.{NewNumbers, new_number}
use Rattle.page_births.specs.declared.birth.Birth.{Birth}
use Rattle.page_state.specs.declared.page.Page.{Page}
use Rattle.page_births.specs.EachBirth.{AreBirths}
use Rattle.page_state.specs.Live as now_live
use Rattle.page_state.specs.Live.{number_of}
use Rattle.page_state.specs.Standing.{StandsFor, StaysElsewhere}
use Rattle.page_ends.specs.Tellings.{is_within, told}
use Rattle.plan_changes.specs.declared.changing.Change.{Change}
use Rattle.plan_changes.specs.declared.changing.Change.TheVariants as change
use Rattle.plan_changes.specs.declared.changing.Update.{Update}

-- the number that is live under a name once a plan is applied
abbrev pub number_then : NewNumbers → now_live.Numbers → Name → Option ℕ
number_then numbers now n = option_or (new_number numbers n) (number_of now n)

-- imports, each with that number, where it has one
abbrev pub links_by : NewNumbers → now_live.Numbers → List Name → List (Name × ℕ)
links_by numbers now imports = filter_map (λ m. link_to m (number_then numbers now m)) imports

-- what a new instance of a name is made from: its entry in the plan, its links and its tree
pub record IsMadeOf (p : Plan) (view : View) (numbers : NewNumbers) (now : now_live.Numbers)
    (trees : List (Name × Module)) (n : Name) (birth : Birth) : Type 0 where
  pub entry : Entry
  pub there : entry_at p view n ≡ Some entry
  pub name : birth.name ≡ n
  pub version : birth.version ≡ entry.version
  pub exports : birth.exports ≡ entry.analysis.exports
  pub links : birth.links ≡ links_by numbers now entry.analysis.imports
  pub tree : at trees n ≡ Some birth.tree

-- the numbers are those of the plan's new instances
abbrev pub AreNumbers : Runtime → Plan → NewNumbers → Type 0
AreNumbers r p numbers = (n : Name)
    → new_number numbers n
    ≡ (if has (new_names p r) n then Some (suc (length r.instances) + place_of (new_names p r) n) else None)

-- what makes it possible to update a page: what is replaced gets a number, and callbacks that are called
-- are those of instances that are there
pub record CanUpdate {F : Type 0} (page : Page F) (u : Update) : Type 0 where
  pub numbers : (n : Name) → has u.replaced n ≡ true → is_some (new_number u.numbers n) ≡ true
  pub within : All (λ t. is_within t.telling (length page.instances.items)) u.rows.items

-- what makes it possible to change a page
abbrev pub CanChange : {F : Type 0} → Page F → Change → Type 0
CanChange page change.Load = ⊤
CanChange page change.Reload = ⊤
CanChange page (change.Update u) = CanUpdate page u

-- an update is that of the plan: it replaces what that does, by the same numbers, and tells whom that tells
pub record IsUpdate (r : Runtime) (p : Plan) (u : Update) : Type 0 where
  pub kind : p.kind ≡ plan_kind.Update
  pub replaced : (n : Name) → has u.replaced n ≡ (has p.replaced n && has (new_names p r) n)
  pub numbers : AreNumbers r p u.numbers
  pub rows : (now : Runtime)
      → for_each told u.rows.items now ≡ for_each (tell_boundary module_language p r) r.pairs now

-- the change is that of the plan
abbrev pub IsChange : Runtime → Plan → Change → Type 0
IsChange r p change.Load = p.kind ≡ plan_kind.Load
IsChange r p change.Reload = p.kind ≡ plan_kind.Reload
IsChange r p (change.Update u) = IsUpdate r p u

-- the new instances are those of the plan; what is live is on the page, and before a load nothing is live
pub record AreMade {F : Type 0} (r : Runtime) (p : Plan) (page : Page F) (made : List Birth) : Type 0 where
  pub births : AreBirths F (length page.instances.items) (client.births (new_names p r) p r) made
  pub names : map (λ b. b.name) made ≡ new_names p r
  pub named : map (λ b. b.name) (client.births (new_names p r) p r) ≡ new_names p r
  pub on_page : (n : Name) → at r.page.view n ≡ None → number_of page.live n ≡ None
  pub loads : p.kind ≡ plan_kind.Load → (n : Name) → number_of page.live n ≡ None

-- what a plan of this kind does, up to the moment at which the page is the plan's
abbrev pub page_done : PlanKind → Plan → Runtime → Did
page_done kind p r =
    and_then (and_then (and_then (end_old kind module_language p r)
    (for_each (make module_language) (client.births (new_names p r) p r)))
    (tell_all kind module_language p r))
    (for_each (λ i s. drop_each is_held i.number s) (set_aside kind p r))

-- each instance and each invalidation of a page has the version of a counted edit
pub record IsCountedPage {F : Type 0} (page : Page F) : Type 0 where
  pub versions : All (λ c. IsVersion c.version) page.instances.items
  pub unsent : All (λ i. IsVersion i.version) page.unsent.items

-- What was done to a page, and what the model's client became meanwhile: the page stands for that, and the
-- lines are those of what happened. Versions stay counted, and what is live and not new is on the new page.
pub record HasChanged {F : Type 0} (did : Did) (r : Runtime) (p : Plan) (before after : Page F)
    (began tells : List OutLine) : Type 0 where
  pub client : after.client ≡ before.client
  pub stands : StandsFor did.0 after
  pub elsewhere : StaysElsewhere r did.0
  pub lines : tells ≡ began ++ lines_of_all before.client did.1
  pub counted : AreCountedIn p r.page.view → IsCountedPage before → IsCountedPage after
  pub live : (n : Name) → has (new_names p r) n ≡ false → at (new_view r.roots p r.page.view) n ≡ None
      → number_of after.live n ≡ None

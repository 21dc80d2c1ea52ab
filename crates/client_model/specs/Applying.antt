-- A plan is applied: old instances end, new ones are made, and callbacks are called. Modules that left
-- the page are pruned.
use Rattle.std.specs.Prelude.{ℕ, Bool, true, not, ◌&&◌, List, [], ◌∷◌, ◌++◌, filter, Option, Some, None}
use Rattle.std.specs.Prelude.{if◌then◌else◌}
use Rattle.hmr_types.specs.declared.words.PlanKind.{PlanKind}
use Rattle.hmr_types.specs.declared.words.PlanKind.TheVariants.{Load, Reload, Update}
use Rattle.output_lines.specs.declared.words.FaultPlace.TheVariants as place
use Rattle.output_lines.specs.declared.words.InstanceFate.{InstanceFate}
use Rattle.output_lines.specs.declared.words.InstanceFate.TheVariants.{Live, Replaced, Pruned, Reloaded}
use Rattle.output_lines.specs.declared.out_line.OutLine.TheVariants as line
use Rattle.core_model.specs.Names.{Name, same_name, has, at}
use Rattle.core_model.specs.Sources.{Text}
use Rattle.core_model.specs.View.{Entry}
use Rattle.core_model.specs.Page.{Plan, entry_at, applied, pruned}
use Rattle.client_model.specs.Language.{Language, Slots}
use Rattle.client_model.specs.Instance.{Instance, Handler, is_live, live_at, is_held, disposes, prunes}
use Rattle.client_model.specs.Instance.{accepts_own, accepts_dep, is_own}
use Rattle.client_model.specs.Journal.{gave_up_all}
use Rattle.client_model.specs.Runtime.{Runtime, Did, nothing, and_then, for_each, write}
use Rattle.client_model.specs.Linking.{new_names, number_after, number_in, links_after}
use Rattle.client_model.specs.Running.{run_each, no_arguments, arguments_of, module_at, drop_each}
use Rattle.client_model.specs.Running.{end_instance, give_up_bag}
use Rattle.client_model.specs.Making.{Birth, make}

-- the live instances of names that pass the test, in falling number
abbrev pub live_of : (Name → Bool) → Runtime → List Instance
live_of test r = filter (λ i. is_live i && test i.name) r.instances

-- a page reload ends an instance: no handler is run
abbrev pub reload_instance : Instance → Runtime → Did
reload_instance i r = and_then (drop_each is_held i.number r) (end_instance Reloaded i.number i.name)

-- every bag is given up
abbrev pub give_up_all_bags : Runtime → Did
give_up_all_bags r = (record r { bags = [] }, gave_up_all ∷ [])

-- a page reload ends all live instances, and gives up their data
abbrev pub reload_all : Runtime → Did
reload_all r = and_then (for_each reload_instance (live_of (λ n. true) r) r) give_up_all_bags

-- all handlers but the callbacks on the module itself, which are set aside
abbrev pub is_left_behind : Handler → Bool
is_left_behind h = is_held h && not (is_own h.kind)

-- replaced by the instance of this number
abbrev pub fate_by : Option ℕ → InstanceFate
fate_by None = Live
fate_by (Some k) = Replaced k

-- a replaced instance: its disposer is run, its other handlers but those set aside are dropped
abbrev pub replace_instance : Language → (Name → Option ℕ) → Instance → Runtime → Did
replace_instance language number i r =
    and_then (and_then (run_each language place.Dispose no_arguments disposes i.number r)
    (drop_each is_left_behind i.number))
    (end_instance (fate_by (number i.name)) i.number i.name)

-- the live instances that the plan replaces, in falling number
abbrev pub replaced_instances : Plan → Runtime → List Instance
replaced_instances p r = live_of (λ n. has p.replaced n && has (new_names p r) n) r

-- what becomes of the old instances
abbrev pub end_old : PlanKind → Language → Plan → Runtime → Did
end_old Load language p r = nothing r
end_old Reload language p r = reload_all r
end_old Update language p r =
    for_each (replace_instance language (number_after p r)) (replaced_instances p r) r

-- the instance to be made, of the entry, the text and the number that are there
abbrev pub birth_of : Option Entry → Option Text → Option ℕ →
    (List Name → List (Name × ℕ)) → Name → List Birth
birth_of (Some e) (Some t) (Some k) links n =
    record { number = k; name = n; entry = e; text = t; links = links e.analysis.imports } ∷ []
birth_of e t k links n = []

-- the new instances of the plan, in the order of their evaluation
abbrev pub births : List Name → Plan → Runtime → List Birth
births [] p r = []
births (n ∷ names) p r =
    birth_of (entry_at p r.page.view n) (at r.texts n) (number_after p r n) (links_after p r) n
    ++ births names p r

-- a callback of n on itself gets the new module
abbrev pub itself_in : Name → Runtime → Handler → List (Option Slots)
itself_in n r h = module_at r n ∷ []

-- a dependency callback gets the module at the places where it is listed
abbrev pub listed_in : Name → Runtime → Handler → List (Option Slots)
listed_in n r h = arguments_of r n h.deps

-- the callbacks of an instance on itself are run
abbrev pub run_own : Language → Option ℕ → Name → Runtime → Did
run_own language None n r = nothing r
run_own language (Some k) n r = run_each language place.Own (itself_in n) accepts_own k r

-- the callbacks of an instance that list n are run
abbrev pub run_dep : Language → Option ℕ → Name → Runtime → Did
run_dep language None n r = nothing r
run_dep language (Some k) n r = run_each language place.Dep (listed_in n) (accepts_dep n) k r

-- the boundary m is told of n, by what was live before the plan: callbacks on itself are those of the
-- old instance, callbacks on a dependency those of m's live instance
abbrev pub tell_boundary : Language → Plan → Runtime → Name × Name → Runtime → Did
tell_boundary language p before pair r =
    if has (new_names p before) pair.1
    then (if same_name pair.0 pair.1
    then run_own language (number_in (live_at before.instances pair.1)) pair.1 r
    else run_dep language (number_in (live_at r.instances pair.0)) pair.1 r)
    else (if has before.page.forced pair.1
    then run_dep language (number_in (live_at r.instances pair.0)) pair.1 r
    else nothing r)

-- who is told: an update's boundaries, in order
abbrev pub tell_all : PlanKind → Language → Plan → Runtime → Runtime → Did
tell_all Load language p before r = nothing r
tell_all Reload language p before r = nothing r
tell_all Update language p before r = for_each (tell_boundary language p before) before.pairs r

-- the old instances whose callbacks were set aside
abbrev pub set_aside : PlanKind → Plan → Runtime → List Instance
set_aside Load p before = []
set_aside Reload p before = []
set_aside Update p before = replaced_instances p before

-- callbacks that were set aside and not run are dropped
abbrev pub drop_set_aside : Plan → Runtime → Runtime → Did
drop_set_aside p before r = for_each (λ i r. drop_each is_held i.number r) (set_aside p.kind p before) r

-- the page is the plan's
abbrev pub finish : Plan → Runtime → Did
finish p r = and_then (write (line.Applied r.client p.kind) r)
    (λ r. nothing (record r { page = applied r.roots p r.page; texts = []; pairs = []; cause = None }))

-- the plan is applied
abbrev pub apply : Language → Plan → Runtime → Did
apply language p r =
    and_then (and_then (and_then (and_then (end_old p.kind language p r)
    (for_each (make language) (births (new_names p r) p r)))
    (tell_all p.kind language p r))
    (drop_set_aside p r))
    (finish p)

-- a module left the page: its disposer and its prune handler are run, its other handlers dropped, and
-- its data given up
abbrev pub prune_instance : Language → Instance → Runtime → Did
prune_instance language i r =
    and_then (and_then (and_then (and_then (run_each language place.Dispose no_arguments disposes i.number r)
    (run_each language place.Prune no_arguments prunes i.number))
    (drop_each is_held i.number))
    (give_up_bag i.name))
    (end_instance Pruned i.number i.name)

-- modules leave the page
abbrev pub leave_page : List Name → Runtime → Did
leave_page names r = nothing (record r { page = pruned names r.page })

-- modules that no root reaches any more are pruned, in falling number of their instances
abbrev pub prune : Language → List Name → Runtime → Did
prune language names r =
    and_then (for_each (prune_instance language) (live_of (has names) r) r) (leave_page names)

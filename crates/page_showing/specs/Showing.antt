-- What a page shows of its instances.
use Rattle.std.specs.Prelude.{ℕ, zero, suc, not, List, [], ◌++◌, map, filter}
use Rattle.std.specs.Prelude.{flat_map, slice_get, Option, Some, None}
use Rattle.output_lines.specs.declared.out_line.OutLine.{OutLine}
use Rattle.core_model.specs.Names.{Name, at}
use Rattle.client_model.specs.Instance.{live_at}
use Rattle.client_model.specs.Printing.{value_lines_in}
use Rattle.client_model.specs.Runtime.{Runtime}
use Rattle.client_model.specs.Stale.{link_of, live_number, same_link}
use Rattle.page_instances.specs.declared.instance.Instance.{Instance}
use Rattle.page_instances.specs.Showing.{export_lines, lines_in}
use Rattle.page_state.specs.Live.{Numbers, number_of}
use Rattle.page_state.specs.Settling.{live_in}
use Rattle.page_state.specs.declared.page.Page.{Page}

-- what the exports of the live modules among these hold
abbrev pub values_among : Runtime → List Name → List OutLine
values_among r names = flat_map (λ n. value_lines_in n (live_at r.instances n)) names

-- b with each of these names that it isn't linked to as it is live
abbrev pub stale_among : Runtime → Name → List Name → List (Name × Name)
stale_among r b names =
    map (λ x. (b, x)) (filter (λ x. not (same_link (link_of r b x) (live_number r x))) names)

-- what the exports of an instance hold, if there is one
abbrev pub values_under : {F : Type 0} → Name → Option (Instance F) → List OutLine
values_under n None = []
values_under n (Some c) = export_lines n c.values.items c.exports

-- what the exports of the live modules among these hold, as the code keeps them
abbrev pub values_kept : {F : Type 0} → Page F → List Name → List OutLine
values_kept p names = flat_map (λ n. values_under n (live_in p n)) names

-- the number that an instance holds for a name, if there is one
abbrev pub link_by : {F : Type 0} → Option (Instance F) → Name → Option ℕ
link_by None x = None
link_by (Some c) x = at c.links x

-- the name with each of these that it has another number for in the one map than in the other
abbrev pub apart : Numbers → Numbers → Name → List Name → List (Name × Name)
apart links live b names =
    map (λ x. (b, x)) (filter (λ x. not (same_link (number_of links x) (number_of live x))) names)

-- an instance and its handlers, if there is one
abbrev pub lines_of : {F : Type 0} → ℕ → Option (Instance F) → List OutLine
lines_of k None = []
lines_of k (Some c) = lines_in k c

-- the first instances, so many, and their handlers
abbrev pub lines_upto : {F : Type 0} → List (Instance F) → ℕ → List OutLine
lines_upto instances zero = []
lines_upto instances (suc place) =
    lines_upto instances place ++ lines_of (suc place) (slice_get instances place)

-- What a client shows of itself: its modules, the values of their exports, and the fates of its instances
-- and their handlers.
use Rattle.std.specs.Prelude.{ℕ, Bool, true, false, not, ◌&&◌, List, [], ◌∷◌, ◌++◌, map, flat_map, reverse}
use Rattle.std.specs.Prelude.{Option, Some, None, is_none}
use Rattle.output_lines.specs.declared.words.Handled.{Handled}
use Rattle.output_lines.specs.declared.words.Handled.TheVariants as handled
use Rattle.output_lines.specs.declared.words.ClientState.{ClientState}
use Rattle.output_lines.specs.declared.out_line.OutLine.{OutLine}
use Rattle.output_lines.specs.declared.out_line.OutLine.TheVariants as line
use Rattle.core_model.specs.Names.{Name, names_of, sorted}
use Rattle.core_model.specs.View.{table_of}
use Rattle.client_model.specs.Language.{slot_at}
use Rattle.client_model.specs.Instance.{Instance, Handler, Deed, code, host, live_at}
use Rattle.client_model.specs.Runtime.{Runtime, Invalidation}
use Rattle.client_model.specs.Stale.{stale_of}

-- the live modules with their versions
abbrev pub table : Runtime → List (Name × ℕ)
table r = table_of r.page.view

-- no invalidation is unsent
abbrev pub is_none_left : List Invalidation → Bool
is_none_left [] = true
is_none_left (i ∷ more) = false

-- the client has nothing under way and nothing to tell
abbrev pub is_at_rest : Runtime → Bool
is_at_rest r = r.page.loaded && is_none r.page.plan && is_none_left r.unsent && not r.stopped

-- a live module with its version
abbrev pub module_line : Name × ℕ → OutLine
module_line row = line.Module row.0 row.1

-- a stale edge
abbrev pub stale_line : Name × Name → OutLine
stale_line edge = line.Stale edge.0 edge.1

-- whether it is caught up, its modules, and its stale edges
abbrev pub show_lines : ClientState → Runtime → List OutLine
show_lines state r = line.Client r.client state ∷ (map module_line (table r) ++ map stale_line (stale_of r))

-- the exports of an instance with what they hold
abbrev pub value_lines_in : Name → Option Instance → List OutLine
value_lines_in n None = []
value_lines_in n (Some i) = map (λ x. line.Value n x (slot_at i.values x)) i.exports

-- the exports of each live module with what they hold
abbrev pub value_lines : Runtime → List OutLine
value_lines r =
    line.Values r.client
    ∷ flat_map (λ n. value_lines_in n (live_at r.instances n)) (sorted (names_of r.page.view))

-- whether a handler is code or a closure
abbrev pub handled_by : Deed → Handled
handled_by (code tree) = handled.Code
handled_by (host label number) = handled.Host label number

-- a handler with its end
abbrev pub handler_line : Handler → OutLine
handler_line h = line.Handler h.kind (handled_by h.deed) h.end

-- an instance and its handlers
abbrev pub instance_lines : Instance → List OutLine
instance_lines i = line.Instance i.number i.name i.version i.status i.fate ∷ map handler_line i.handlers

-- each instance that was made, with its handlers
abbrev pub fate_lines : Runtime → List OutLine
fate_lines r = line.Fates r.client ∷ flat_map instance_lines (reverse r.instances)

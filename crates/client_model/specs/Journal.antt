-- All that happens in a client: to its instances, their handlers and the bags of their names. The lines
-- that a client writes are read off it.
use Rattle.std.specs.Prelude.{ℕ, List, [], ◌∷◌, ◌++◌, map, flat_map, fold, Option, Some, None, if◌then◌else◌}
use Rattle.hmr_types.specs.declared.value.EvalFault.{EvalFault}
use Rattle.output_lines.specs.declared.words.FaultPlace.{FaultPlace}
use Rattle.output_lines.specs.declared.words.FaultPlace.TheVariants as place
use Rattle.output_lines.specs.declared.words.InstanceFate.{InstanceFate}
use Rattle.output_lines.specs.declared.words.InstanceFate.TheVariants.{Live, Replaced, Pruned, Reloaded}
use Rattle.output_lines.specs.declared.out_line.OutLine.{OutLine}
use Rattle.output_lines.specs.declared.out_line.OutLine.TheVariants as line
use Rattle.core_model.specs.Names.{Name, same_name}
use Rattle.core_model.specs.Sources.{Text}
use Rattle.client_model.specs.Language.{Bag, Evaluated, Ran}
use Rattle.client_model.specs.Instance.{Instance, Handler}

-- one thing that happened
pub data Happening : Type 0 where
  made : Instance → Happening  -- an instance, as its evaluation left it
  evaluated : ℕ → Name → Bag → Evaluated → Happening  -- its number and name, the bag before, what was left
  not_run : ℕ → Name → Happening  -- it is linked to an instance that faulted or wasn't run
  registered : ℕ → Handler → Happening  -- of the instance of this number
  no_host : ℕ → Name → Text → Happening  -- no closure of this label is left
  ran : ℕ → ℕ → Name → FaultPlace → Bag → Ran → Happening
      -- the handler at a place of an instance, the bag before, what was left
  dropped : ℕ → ℕ → Happening  -- the handler at a place of an instance, unrun
  ended : ℕ → Name → InstanceFate → Happening
  gave_up : Name → Happening  -- the bag of the name
  gave_up_all : Happening  -- all bags
  told : OutLine → Happening  -- a line that no instance gives

-- all that happened, in order
abbrev pub Journal : Type 0
Journal = List Happening

-- a console line each
abbrev pub log_lines : ℕ → Name → List Text → List OutLine
log_lines client n texts = map (λ t. line.Log client n t) texts

-- the line of a fault, where there is one
abbrev pub fault_lines : ℕ → Name → FaultPlace → Option EvalFault → List OutLine
fault_lines client n at None = []
fault_lines client n at (Some fault) = line.Fault client n at fault ∷ []

-- only a prune gives a line
abbrev pub fate_lines : ℕ → Name → InstanceFate → List OutLine
fate_lines client n Live = []
fate_lines client n (Replaced k) = []
fate_lines client n Pruned = line.Pruned client n ∷ []
fate_lines client n Reloaded = []

-- the lines that something that happened gives
abbrev pub lines_of : ℕ → Happening → List OutLine
lines_of client (made i) = []
lines_of client (evaluated k n bag e) =
    log_lines client n e.lines ++ fault_lines client n place.Module e.fault
lines_of client (not_run k n) = line.Unrun client n ∷ []
lines_of client (registered k h) = []
lines_of client (no_host k n label) = line.NoHost client n label ∷ []
lines_of client (ran k h n at bag r) = log_lines client n r.lines ++ fault_lines client n at r.fault
lines_of client (dropped k h) = []
lines_of client (ended k n fate) = fate_lines client n fate
lines_of client (gave_up n) = []
lines_of client gave_up_all = []
lines_of client (told l) = l ∷ []

-- the lines of all that happened
abbrev pub lines_of_all : ℕ → Journal → List OutLine
lines_of_all client journal = flat_map (lines_of client) journal

-- The bag of n after one thing more happened: an evaluation or the run of a handler of n leaves it,
-- giving it up empties it, and nothing else touches it.
abbrev pub bag_after : Name → Bag → Happening → Bag
bag_after n bag (made i) = bag
bag_after n bag (evaluated k m before e) = if same_name m n then e.bag else bag
bag_after n bag (not_run k m) = bag
bag_after n bag (registered k h) = bag
bag_after n bag (no_host k m label) = bag
bag_after n bag (ran k h m at before r) = if same_name m n then r.bag else bag
bag_after n bag (dropped k h) = bag
bag_after n bag (ended k m fate) = bag
bag_after n bag (gave_up m) = if same_name m n then [] else bag
bag_after n bag gave_up_all = []
bag_after n bag (told l) = bag

-- the bag of n after all that happened
abbrev pub bag_left : Journal → Name → Bag
bag_left journal n = fold (bag_after n) [] journal

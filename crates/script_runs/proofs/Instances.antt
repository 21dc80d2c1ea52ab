-- The fates of a client tell each instance that it made, once.
use Rattle.std.proofs.Common.{◌≡◌, ℕ, suc, true, List, [], ◌∷◌, ◌++◌, length, map, reverse, filter, ap, sym, refl, ◌∙◌}
use Rattle.std.specs.Prelude.{count_by, flat_map, Option, Some, None, Err}
use Prim.{⊥}
use Rattle.std.proofs.Math.Path.{subst}
use Rattle.std.proofs.lemmas.Bool.{false≢true}
use Rattle.std.proofs.lemmas.List.{length-reverse}
use Rattle.std.proofs.lemmas.List.Elements.{filter-append}
use Rattle.std.proofs.lemmas.List.Sums.{length-filter}
use Rattle.std.specs.Option.{is_some}
use Rattle.output_lines.specs.declared.out_line.OutLine.{OutLine}
use Rattle.output_lines.specs.declared.out_line.OutLine.TheVariants as line
use Rattle.core_model.specs.Core.{client_at}
use Rattle.client_model.specs.Instance.{Instance, Handler}
use Rattle.client_model.specs.Printing.{fate_lines, handler_line, instance_lines}
use Rattle.client_model.specs.Runtime.{Runtime}
use Rattle.world_model.specs.World.{World}
use Rattle.world_model.specs.Turning.{shown}
use Rattle.world_parts.specs.Stops.{AreLines}
use Rattle.world_parts.specs.declared.stop.WorldStop.{WorldStop}
use Rattle.world_parts.specs.declared.stop.WorldStop.TheVariants.{InstancesFull}
use Rattle.script_runs.specs.Instances.{instances_made, made_by}
use Rattle.made_scripts.specs.Summary.{is_instance}

-- of the lines of a handler none is that of an instance
handlers_tell : (handlers : List Handler) → filter is_instance (map handler_line handlers) ≡ []
unfolding is_instance
handlers_tell [] = refl
handlers_tell (h ∷ handlers) = handlers_tell handlers

instance_tells : (i : Instance) (told : List OutLine) →
    length (filter is_instance (instance_lines i ++ told)) ≡ suc (length (filter is_instance told))
unfolding is_instance
instance_tells i told =
    ap length (filter-append is_instance (instance_lines i) told
    ∙ ap (λ l. (line.Instance i.number i.name i.version i.status i.fate ∷ l) ++ filter is_instance told)
    (handlers_tell i.handlers))

instances_tell : (instances : List Instance) →
    length (filter is_instance (flat_map instance_lines instances)) ≡ length instances
instances_tell [] = refl
instances_tell (i ∷ instances) =
    instance_tells i (flat_map instance_lines instances) ∙ ap suc (instances_tell instances)

fates_tell : (r : Runtime) → length (filter is_instance (fate_lines r)) ≡ length r.instances
unfolding is_instance
fates_tell r = instances_tell (reverse r.instances) ∙ length-reverse r.instances

count_told : Option (List OutLine) → ℕ
count_told None = 0
count_told (Some told) = length (filter is_instance told)

told_by : (i : ℕ) (w : World) (r : Option Runtime) → count_told (shown i w fate_lines r).lines ≡ made_by r
unfolding is_instance count_told
told_by i w None = refl
told_by i w (Some r) = fates_tell r

-- the count of what a client's fates tell
pub fates_count : (i : ℕ) (w : World) (lines : List OutLine) →
    (shown i w fate_lines (client_at w.clients i)).lines ≡ Some lines →
    count_by is_instance lines ≡ instances_made w i
unfolding count_told
fates_count i w lines e =
    sym (length-filter is_instance lines) ∙ (sym (ap count_told e) ∙ told_by i w (client_at w.clients i))

shows_some : (i : ℕ) (w : World) (r : Option Runtime) → is_some (shown i w fate_lines r).lines ≡ true
shows_some i w None = refl
shows_some i w (Some r) = refl

fates_shown : (i : ℕ) (w : World) → (shown i w fate_lines (client_at w.clients i)).lines ≡ None → ⊥
fates_shown i w e = false≢true (sym (ap is_some e) ∙ shows_some i w (client_at w.clients i))

-- fates are told, so the run goes on
pub fates_go_on : (i : ℕ) (w : World) (e : WorldStop) →
    AreLines (shown i w fate_lines (client_at w.clients i)).lines (Err e) → e ≡ InstancesFull → ⊥
fates_go_on i w e are is =
    fates_shown i w (subst (λ x. AreLines (shown i w fate_lines (client_at w.clients i)).lines (Err x)) is are)

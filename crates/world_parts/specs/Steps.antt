-- The steps of the world, as the definitions have them.
use Rattle.std.specs.Prelude.{⊤}
use Rattle.std.specs.Option.{option_map}
use Rattle.update_msgs.specs.Writable.{IsFormat}
use Rattle.world_model.specs.World as model
use Rattle.world_parts.specs.declared.step.Step.{Step}
use Rattle.world_parts.specs.declared.step.Step.TheVariants as steps

-- a step, as the definitions have it
abbrev pub step_of : Step → model.Step
step_of (steps.Edit n t) = model.edits n (option_map (λ v. v.items) t)
step_of (steps.Settle n v) = model.settles n v
step_of (steps.Open format names) = model.opens format names.items
step_of (steps.Turn i) = model.turn i
step_of (steps.Close i) = model.closes i
step_of (steps.Show i) = model.show i
step_of (steps.Values i) = model.values i
step_of (steps.Fates i) = model.fates i
step_of steps.Fresh = model.fresh
step_of (steps.FreshOf i) = model.fresh_of i

-- a client is opened in format 1 or 2
abbrev pub HasFormat : Step → Type 0
HasFormat (steps.Edit n t) = ⊤
HasFormat (steps.Settle n v) = ⊤
HasFormat (steps.Open format names) = IsFormat format
HasFormat (steps.Turn i) = ⊤
HasFormat (steps.Close i) = ⊤
HasFormat (steps.Show i) = ⊤
HasFormat (steps.Values i) = ⊤
HasFormat (steps.Fates i) = ⊤
HasFormat steps.Fresh = ⊤
HasFormat (steps.FreshOf i) = ⊤

-- The lines that show what is kept of an instance.
use Rattle.std.specs.Prelude.{ℕ, List, ◌∷◌, map}
use Rattle.output_lines.specs.declared.out_line.OutLine.{OutLine}
use Rattle.output_lines.specs.declared.out_line.OutLine.TheVariants as line
use Rattle.core_model.specs.Names.{Name}
use Rattle.client_model.specs.Language.{Slots, slot_at}
use Rattle.page_instances.specs.declared.instance.Instance.{Instance}
use Rattle.page_instances.specs.declared.marks.Mark.{Mark}

-- what each of these exports of a module holds
abbrev pub export_lines : Name → Slots → List Name → List OutLine
export_lines n values exports = map (λ x. line.Value n x (slot_at values x)) exports

-- a handler with its end
abbrev pub mark_line : Mark → OutLine
mark_line m = line.Handler m.kind m.handled m.end

-- the instance of this number and its handlers
abbrev pub lines_in : {F : Type 0} → ℕ → Instance F → List OutLine
lines_in k c = line.Instance k c.name c.version c.status c.fate ∷ map mark_line c.marks.items

use Rattle.std.proofs.Common.{sym, ◌∷◌, []}
use Rattle.std.proofs.Math.Path.{subst}
use Rattle.module_semantics.specs.Analysis.{meant}
use Rattle.module_tree.specs.Tree.{once_of}
use Rattle.page_births.specs.Births.{Registers}
use Rattle.page_births.proofs.register.register.Goals as goal

pub returns-in_ok-register_code-in-Code-clause-registers : goal.returns-in_ok-register_code-in-Code-clause-registers
returns-in_ok-register_code-in-Code-clause-registers g c =
    subst (λ w. Registers c.args.name.now (record { kind = c.args.entry.kind; deps = meant c.args.name.now c.args.entry.deps; what = once_of w } ∷ []) c.args.place c.args.page.now c.register_code.new.page c.args.lines.now.items c.args.lines.now.items) (sym c.in-Code.is)
    (c.in_ok-register_code-in-Code.ensures.registers c.args.lines.now.items)

pub returns-in_ok-register_host-in-Host-clause-registers : goal.returns-in_ok-register_host-in-Host-clause-registers
returns-in_ok-register_host-in-Host-clause-registers g c =
    subst (λ w. Registers c.args.name.now (record { kind = c.args.entry.kind; deps = meant c.args.name.now c.args.entry.deps; what = once_of w } ∷ []) c.args.place c.args.page.now c.register_host.new.page c.args.lines.now.items c.register_host.new.lines.items) (sym c.in-Host.is)
    (c.in_ok-register_host-in-Host.ensures.registers (meant c.args.name.now c.args.entry.deps))

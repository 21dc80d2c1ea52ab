use Rattle.std.proofs.Common.{[], ◌∷◌, refl, ◌∙◌, ap}
use Rattle.output_lines.specs.declared.out_line.OutLine.TheVariants as line
use Rattle.hmr_world.proofs.Settling.{settled_none, settled_text, short_text}
use Rattle.hmr_world.proofs.world.World.settle.Goals as goal

pub settled-requires : goal.settled-requires
settled-requires g c = record { short = short_text c.args.self.now c.requires.running c.args.name c.args.version c.in-Some.text.items c.in-Some.ensures.text }

pub returns-in_default-clause-step : goal.returns-in_default-clause-step
returns-in_default-clause-step g c = λ run h.
    settled_none run c.args.name c.args.self.now (record c.args.self.now { jobs = c.take.new.self }) h refl refl refl c.args.version
    c.in_ok-settle_line.field-0 c.take.ensures.left refl c.in_default.ensures.text c.in_ok-settle_line.ensures

pub returns-clause-step : goal.returns-clause-step
returns-clause-step g c = λ run h.
    settled_text run c.args.name c.args.self.now (record c.args.self.now { core = c.settled.new.core; jobs = c.take.new.self }) h c.settled.ensures.roots refl refl c.args.version
    c.in_ok-settle_line-2.field-0 c.take.ensures.left c.in-Some.text.items c.in-Some.ensures.text c.in_ok-outcome.ensures.core
    (λ k is. c.in_ok-settle_line-2.ensures ∙ ap (λ w. line.Settle c.args.name c.args.version w ∷ []) (c.in_ok-outcome.ensures.word k is))

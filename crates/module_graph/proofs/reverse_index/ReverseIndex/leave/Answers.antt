use Rattle.std.proofs.Common.{false, ap, sym, ◌∙◌}
use Rattle.std.specs.Prelude.{if◌then◌else◌}
use Rattle.std.proofs.Math.Path.{subst}
use Rattle.core_model.specs.Names.{has, same_name}
use Rattle.module_graph.specs.ReverseIndex.{Places, is_under}
use Rattle.module_graph.proofs.Turning.{leaves_more, leaves_kept}
use Rattle.module_graph.proofs.reverse_index.ReverseIndex.leave.Goals as goal
use Rattle.module_graph.proofs.reverse_index.ReverseIndex.leave.Goals.{then-not-has_name, else-not-has_name}

pub loop-name-preserved : goal.loop-name-preserved
loop-name-preserved c =
    let lister = c.args.lister.now in
    let xs = c.args.names.now in
    let kept = c.args.kept.now in
    let i = c.loop-name.name-index in
    let x = c.name-item.result in
    let old = c.args.self.now.sets.entries in
    let cur = c.loop-name.self.sets.entries in
    elim c.if-not-has_name.branch [
      | then-not-has_name w ↦ subst (Places lister _ old) (sym (ap (λ s. s.sets.entries) w.self-is))
          (leaves_more lister xs kept i x old cur w.take_away.new.sets.entries c.loop-name-test.true
          (ap (has kept) (sym c.name-item.is) ∙ sym c.has_name.ensures ∙ w.if-not-has_name.true) c.loop-name.invariant
          (subst (λ y. Places lister (λ n. if same_name y n then false else is_under cur n lister) cur w.take_away.new.sets.entries) c.name-item.is w.take_away.ensures))
      | else-not-has_name w ↦ subst (Places lister _ old) (sym (ap (λ s. s.sets.entries) w.self-is))
          (leaves_kept lister xs kept i x old cur c.loop-name-test.true
          (ap (has kept) (sym c.name-item.is) ∙ sym c.has_name.ensures ∙ w.if-not-has_name.false) c.loop-name.invariant)
    ]

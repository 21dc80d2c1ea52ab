use Rattle.std.proofs.Common.{◌≡◌, None, ap, sym, refl, ◌∙◌, ◌-◌}
use Rattle.std.proofs.Math.Path.{subst}
use Rattle.core_model.specs.Names.{at}
use Rattle.core_model.specs.Sources.{edit_answer, removed, text_length}
use Rattle.version_map.specs.Standing.{StandsFor}
use Rattle.version_map.proofs.Counting.{removed_counted, taken, text_within}
use Rattle.version_map.proofs.version_map.VersionMap.remove.Goals as goal

pub overflow_sub-self : goal.overflow_sub-self
overflow_sub-self c = rw (c.text_len-replaced.ensures, ← c.self.view_is) (text_within c.self.inside c.self.invariant c.args.name.now)

pub invariant_of-self : goal.invariant_of-self
invariant_of-self c =
    let n = c.args.name.now in
    removed_counted c.self.inside c.self.invariant n c.args.ver _ _ c.remove.new.entries (subst (λ s. edit_answer s n None ≡ removed c.args.ver) (sym c.self.view_is) c.requires) c.remove.ensures
    (ap (λ r. c.self.inside.total - r) (c.text_len-replaced.ensures ∙ ap (λ s. text_length (at s.current n)) (sym c.self.view_is))) refl

pub returns : goal.returns
returns c = λ past h.
    let n = c.args.name.now in
    taken c.self.inside c.self.invariant n c.args.ver c.remove.new.entries (subst (λ s. edit_answer s n None ≡ removed c.args.ver) (sym c.self.view_is) c.requires) c.remove.ensures past (subst (StandsFor past) (sym c.self.view_is) h)

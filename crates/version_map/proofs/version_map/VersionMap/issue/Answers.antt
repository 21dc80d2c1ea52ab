use Rattle.std.proofs.Common.{◌≡◌, Some, ap, sym, ◌∙◌, length, ◌+◌, ◌-◌}
use Rattle.std.proofs.Math.Path.{subst}
use Rattle.core_model.specs.Names.{at}
use Rattle.core_model.specs.Sources.{edit_answer, job, text_length}
use Rattle.version_map.specs.Inside.{sources_of}
use Rattle.version_map.specs.Standing.{StandsFor}
use Rattle.version_map.proofs.Counting.{issued, job_counted, text_within}
use Rattle.version_map.proofs.version_map.VersionMap.issue.Goals as goal

pub overflow_sub-self : goal.overflow_sub-self
overflow_sub-self c = rw (c.text_len-replaced.ensures, ← c.self.view_is) (text_within c.self.inside c.self.invariant c.args.name)

pub invariant_of-self-2 : goal.invariant_of-self-2
invariant_of-self-2 c =
    let n = c.args.name in
    let t = c.args.text in
    job_counted c.self.inside c.self.invariant n t c.args.ver _ c.put.new.entries (subst (λ s. edit_answer s n (Some t) ≡ job c.args.ver) (sym c.self.view_is) c.requires) c.in_ok-put.ensures.ok
    (ap (λ r. c.self.inside.total - r + length c.as_slice-len.result.now) (c.text_len-replaced.ensures ∙ ap (λ s. text_length (at s.current n)) (sym c.self.view_is))
    ∙ ap (λ l. c.self.inside.total - text_length (at (sources_of c.self.inside).current n) + length l) c.as_slice-len.ensures)

pub returns-clause-stands : goal.returns-clause-stands
returns-clause-stands c = λ past h.
    let n = c.args.name in
    let t = c.args.text in
    issued c.self.inside c.self.invariant n t c.args.ver c.put.new.entries (subst (λ s. edit_answer s n (Some t) ≡ job c.args.ver) (sym c.self.view_is) c.requires) c.in_ok-put.ensures.ok past (subst (StandsFor past) (sym c.self.view_is) h)

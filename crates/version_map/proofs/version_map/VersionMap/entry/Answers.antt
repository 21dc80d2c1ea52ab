use Rattle.std.proofs.Common.{sym, ◌∙◌, ap}
use Rattle.std.specs.Prelude.{IfSome, IsUtf8}
use Rattle.std.proofs.Math.Path.{subst}
use Rattle.version_map.specs.Inside.{Fits}
use Rattle.version_map.specs.Entries.{served_in, source_in}
use Rattle.version_map.proofs.Rows.{at_current, at_served}
use Rattle.version_map.proofs.version_map.VersionMap.entry.Goals as goal

pub returns-clause-source : goal.returns-clause-source
returns-clause-source c = rw (← c.self.view_is) (ap source_in c.get.ensures.value ∙ sym (at_current c.self.inside.entries.entries c.args.name.now))

pub returns-clause-serving : goal.returns-clause-serving
returns-clause-serving c = rw (← c.self.view_is) (ap served_in c.get.ensures.value ∙ sym (at_served c.self.inside.entries.entries c.args.name.now c.self.invariant.ordered))

pub returns-clause-fits : goal.returns-clause-fits
returns-clause-fits c = subst (λ o. IfSome (served_in o) (λ s. Fits s.version s.text)) (sym c.get.ensures.value) (c.self.invariant.servings_fit c.args.name.now)

pub returns-clause-utf8 : goal.returns-clause-utf8
returns-clause-utf8 c = subst (λ o. IfSome (served_in o) (λ s. IsUtf8 s.text)) (sym c.get.ensures.value) (c.self.invariant.servings_read c.args.name.now)

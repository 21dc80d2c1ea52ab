use Rattle.std.proofs.Common.{◌≡◌, ◌≤◌, ap, sym, ◌∙◌, length, arith}
use Rattle.std.specs.Option.{option_copied}
use Rattle.std.proofs.Math.Path.{subst}
use Rattle.core_model.specs.Names.{at}
use Rattle.core_model.specs.Sources.{text_length}
use Rattle.version_map.specs.Entries.{source_in, source_of}
use Rattle.version_map.proofs.Counting.{text_within}
use Rattle.version_map.proofs.version_map.VersionMap.answer.Goals as goal
use Rattle.version_map.proofs.version_map.VersionMap.answer.Goals.{in-Some-2, in-None-2}

pub overflow_sub-self-inside : goal.overflow_sub-self-inside
overflow_sub-self-inside c =
    let within : text_length (at c.args.self.now.current c.args.name.now) ≤ c.self.inside.total = subst (λ s. text_length (at s.current c.args.name.now) ≤ c.self.inside.total) c.self.view_is (text_within c.self.inside c.self.invariant c.args.name.now) in
    elim c.match-entry.branch [
      | in-Some-2 w ↦ (
          let len : text_length (at c.args.self.now.current c.args.name.now) ≡ length (source_of w.in-Some.entry.now).text = ap text_length (sym c.entry.ensures.source ∙ ap (λ r. source_in (option_copied r)) w.in-Some.is) in
          omega (arith, within, len, w.replaced-is, ap length w.text-in-Some-2.ensures))
      | in-None-2 w ↦ omega (arith, w.replaced-is)
    ]

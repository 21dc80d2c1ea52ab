use Rattle.std.proofs.Common.{◌<◌, ◌≤◌, length, arith, rules}
use Rattle.hmr_types.specs.declared.limits.TheConstants.{ROOTS}
use Rattle.transcript_check.proofs.Rooting.{root_beyond, root_more}
use Rattle.transcript_check.proofs.course.add_root.Goals as goal

pub returns-then-len-gt-ROOTS : goal.returns-then-len-gt-ROOTS
returns-then-len-gt-ROOTS c = λ told h.
    let many : ROOTS < length c.args.roots.items = search (rules, arith) in
    root_beyond told c.args.name c.args.roots.items h many

pub returns : goal.returns
returns c = λ told h.
    let few : length c.args.roots.items ≤ ROOTS = search (rules, arith) in
    root_more told c.args.name c.args.roots.items c.push.new.self.items h few c.in_ok-push.ensures.items

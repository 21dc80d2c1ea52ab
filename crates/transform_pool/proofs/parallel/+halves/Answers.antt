use Rattle.std.proofs.Common.{◌≡◌, ◌/◌, map}
use Rattle.std.proofs.lemmas.Result.{IfOk-at_ok}
use Rattle.transform_pool.specs.Results.{result_of}
use Rattle.transform_pool.proofs.Halves.{mapped}
use Rattle.transform_pool.proofs.parallel.+halves.Goals as goal

pub returns : goal.returns
returns g t c =
    let cut = c.in_ok-rest.ensures in
    let first = IfOk-at_ok (λ v. v.items ≡ map result_of c.split_off.new.self.items)
    c.in_ok-done.was c.join-first.ensures.first in
    let second = IfOk-at_ok (λ v. v.items ≡ map result_of c.in_ok-rest.rest.items)
    c.in_ok-more.was c.join-first.ensures.second in
    mapped result_of c.args.jobs.items c.split_off.new.self.items c.in_ok-rest.rest.items (c.len-2.result / 2)
    c.in_ok-done.done.items c.in_ok-more.more.items c.append.new.self.items
    cut.items cut.tail c.in_ok-append.ensures.items first second

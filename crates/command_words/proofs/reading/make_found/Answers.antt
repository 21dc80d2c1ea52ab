-- Each number that was found lies in its range.
use Rattle.std.proofs.Common.{arith}
use Rattle.std.proofs.lemmas.Option.{IfSome_then}
use Rattle.command_words.proofs.reading.make_found.Goals as goal

pub making-requires-clause-low : goal.making-requires-clause-low
making-requires-clause-low c =
    IfSome_then c.number_in-count.result (c.number_in-count.ensures.within 1 4096 (omega arith) c.requires.count) (λ n h. h.0)

pub making-requires-clause-high : goal.making-requires-clause-high
making-requires-clause-high c =
    IfSome_then c.number_in-count.result (c.number_in-count.ensures.within 1 4096 (omega arith) c.requires.count) (λ n h. h.1)

pub making-requires-clause-seed : goal.making-requires-clause-seed
making-requires-clause-seed c =
    IfSome_then c.number_in-seed.result (c.number_in-seed.ensures.within 0 2147483647 (omega arith) c.requires.seed) (λ n h. h.1)

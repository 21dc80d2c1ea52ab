use Rattle.std.proofs.Common.{None, Some, arith, subst, take}
use Rattle.memchr.specs.Find.{FindsNeedle}
use Rattle.http_heads.specs.Cutting.{blank}
use Rattle.http_heads.specs.Cutting.{NoEndWithin}
use Rattle.http_heads.proofs.Ends.{cut_found, none_found, to_the_end}
use Rattle.http_heads.proofs.cutting.find_head.Goals as goal

pub returns-in-Some : goal.returns-in-Some
returns-in-Some c =
    cut_found c.args.bytes.now c.args.searched c.min-from.result c.min-limit.result c.in-Some.at
    (omega (arith, c.min-limit.ensures)) (omega (arith, c.min-limit.ensures)) (omega (arith, c.min-from.ensures))
    (omega (arith, c.min-from.ensures, c.saturating_sub.ensures)) c.requires.searched
    (subst (λ hay. FindsNeedle hay blank 0 (Some c.in-Some.at)) (to_the_end c.min-from.result (take c.min-limit.result c.args.bytes.now)) c.in-Some.ensures)

pub returns-in-None : goal.returns-in-None
returns-in-None c = (
  omega (arith, c.min-limit.ensures, c.if-limit-eq-HEAD_BYTES.true),
  subst (NoEndWithin c.args.bytes.now) c.if-limit-eq-HEAD_BYTES.true
      (none_found c.args.bytes.now c.args.searched c.min-from.result c.min-limit.result
      (omega (arith, c.min-limit.ensures)) (omega (arith, c.min-from.ensures))
      (omega (arith, c.min-from.ensures, c.saturating_sub.ensures)) c.requires.searched
      (subst (λ hay. FindsNeedle hay blank 0 None) (to_the_end c.min-from.result (take c.min-limit.result c.args.bytes.now)) c.in-None.ensures)),
)

pub returns-in-None-2 : goal.returns-in-None-2
returns-in-None-2 c = (
  omega (arith, c.min-limit.ensures, c.if-limit-eq-HEAD_BYTES.false),
  subst (NoEndWithin c.args.bytes.now) (omega (arith, c.min-limit.ensures, c.if-limit-eq-HEAD_BYTES.false))
      (none_found c.args.bytes.now c.args.searched c.min-from.result c.min-limit.result
      (omega (arith, c.min-limit.ensures)) (omega (arith, c.min-from.ensures))
      (omega (arith, c.min-from.ensures, c.saturating_sub.ensures)) c.requires.searched
      (subst (λ hay. FindsNeedle hay blank 0 None) (to_the_end c.min-from.result (take c.min-limit.result c.args.bytes.now)) c.in-None-2.ensures)),
)

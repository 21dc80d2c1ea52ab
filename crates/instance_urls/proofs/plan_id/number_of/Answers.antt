use Rattle.instance_urls.proofs.Numbers.{number_is}
use Rattle.instance_urls.proofs.plan_id.number_of.Goals as goal

pub returns-clause-value : goal.returns-clause-value
returns-clause-value c = number_is c.args.text.now c.parsed-number.result c.parsed-number.ensures.written c.parsed-number.ensures.each

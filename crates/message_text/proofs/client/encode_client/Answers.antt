use Rattle.std.proofs.Common.{◌≡◌, [], ◌++◌, ap, ◌∙◌, rules}
use Rattle.update_msgs.specs.Writable.{IsSayable}
use Rattle.message_text.specs.Values.{tokens_of}
use Rattle.message_text.specs.ClientText.{say}
use Rattle.message_text.proofs.Written.{put_reads, put_text}
use Rattle.message_text.proofs.client.encode_client.Goals as goal

pub returns-clause-text : goal.returns-clause-text
returns-clause-text c =
    let none : c.put.new.out.before ≡ [] = c.in_ok-put.ensures.before ∙ c.new-out.ensures.before ∙ c.in_ok-with_capacity.ensures.items in
    let same : c.put.new.out.tokens ≡ tokens_of (say c.args.msg.now) = c.in_ok-put.ensures.tokens ∙ ap (λ ts. ts ++ tokens_of (say c.args.msg.now)) c.new-out.ensures.tokens in
    put_text c.args.msg.now c.put.new.out c.into_inner.result.items c.into_inner.ensures.items none same

pub returns-clause-reads : goal.returns-clause-reads
returns-clause-reads c =
    let none : c.put.new.out.before ≡ [] = c.in_ok-put.ensures.before ∙ c.new-out.ensures.before ∙ c.in_ok-with_capacity.ensures.items in
    let same : c.put.new.out.tokens ≡ tokens_of (say c.args.msg.now) = c.in_ok-put.ensures.tokens ∙ ap (λ ts. ts ++ tokens_of (say c.args.msg.now)) c.new-out.ensures.tokens in
    let fits : IsSayable c.args.msg.now = search rules in
    put_reads c.args.msg.now c.put.new.out c.into_inner.result.items fits c.in_ok-put.ensures.table c.into_inner.ensures.items none same c.into_inner.ensures.reads_back c.into_inner.ensures.utf8

use Rattle.std.proofs.Common.{sym, ◌∙◌, ap, Some}
use Rattle.module_semantics.specs.Analysis.{transformed}
use Rattle.module_semantics.specs.ModuleText.{parsing}
use Rattle.core_model.specs.Sources.{result_answer}
use Rattle.transforms.specs.Transform.{Transform}
use Rattle.version_map.specs.Standing.{settled_as}
use Rattle.world_parts.specs.Replies.{settled_word, word_in}
use Rattle.world_parts.proofs.settles.settled.Goals as goal

pub returns-clause-word : goal.returns-clause-word
returns-clause-word c = λ k is.
    let t = c.args.text.items in
    let v = c.args.version in
    c.settle_word.ensures (settled_word (settled_as (result_answer k.sources c.args.name.now t (transformed parsing c.args.name.now t) v)))
    (ap word_in (sym (c.in_ok-reply.ensures.reply k is))
    ∙ ap (λ (x : Transform). Some (settled_word (settled_as (result_answer k.sources x.name x.text x.outcome v)))) (c.in_ok-transformed.ensures ∙ ap (λ m. record { name = m; text = t; outcome = transformed parsing m t }) c.in_ok-copy_name.ensures))

use Rattle.std.proofs.Common.{refl, ap}
use Rattle.client_model.specs.Applying.{is_left_behind}
use Rattle.std.proofs.lemmas.Option.{slice_get_read}
use Rattle.page_state.proofs.Standing.{drops_follow}
use Rattle.page_state.proofs.Words.{word_at, words_set}
use Rattle.page_ends.proofs.steps.drop_left_behind.Goals as goal

pub returns-clause-follows : goal.returns-clause-follows
returns-clause-follows g c = λ lines. drops_follow is_left_behind c.args.place c.args.page.now _ c.index_mut.result.now c.drop_left_behind.new.self lines
    (record { client = refl; unsent = refl; shelf = refl; there = slice_get_read _ _ _ _ refl c.requires c.index_mut.ensures.value; set = refl; name = ap (λ x. x.name) c.drop_left_behind.ensures.rest })
    refl refl c.drop_left_behind.ensures.sees

pub returns-clause-words : goal.returns-clause-words
returns-clause-words g c = λ words. words_set (goal.F-post g) c.args.page.now _ c.args.place c.drop_left_behind.new.self refl refl
    (c.drop_left_behind.ensures.word (word_at (goal.F-post g) c.args.page.now c.args.place c.index_mut.result.now c.requires c.index_mut.ensures.value words)) words

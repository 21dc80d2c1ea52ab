use Rattle.std.proofs.Common.{Some, ap, map, ◌∙◌}
use Rattle.std.specs.Prelude.{string_bytes}
use Rattle.handler_table.specs.Shelf.{marks_of}
use Rattle.command_words.specs.Words.{command_of}
use Rattle.script_runs.proofs.Headline.{shows_at}
use Rattle.script_runs.specs.Outputs.{output_of}
use Rattle.top_call.proofs.Apart.{join_gives_none, join_not_two, join_reads, nothing_complete, nothing_written, serve_gives_none, serve_not_two, serve_reads, words_answered}
use Rattle.top_call.proofs.Paged.{page_gives_none, page_not_two, page_reads}
use Rattle.top_call.proofs.top.run.Goals as goal

pub returns-in-Ok-Serve-clause-words : goal.returns-in-Ok-Serve-clause-words
returns-in-Ok-Serve-clause-words g c =
    words_answered (command_of (map string_bytes c.args.words.now)) _ _ _ _ _ c.serve_folder.result c.in-Ok-Serve.ensures.exact
    (serve_not_two c.serve_folder.result c.serve_folder.ensures.known)

pub returns-in-Ok-Serve-clause-output : goal.returns-in-Ok-Serve-clause-output
returns-in-Ok-Serve-clause-output g c =
    nothing_written (output_of (map marks_of c.args.embedding.shelves.items) (map string_bytes c.args.words.now)
    (g.S.Source.left c.args.input.now)) _ _ _ _ c.serve_folder.result
    (serve_gives_none (map marks_of c.args.embedding.shelves.items) (command_of (map string_bytes c.args.words.now)) c.in-Ok-Serve.plan
    (g.S.Source.left c.args.input.now) (c.in-Ok-Serve.ensures.exact ∙ ap Some c.in-Ok-Serve.field-0-is))

pub returns-in-Ok-Serve-clause-complete : goal.returns-in-Ok-Serve-clause-complete
returns-in-Ok-Serve-clause-complete g c =
    nothing_complete (output_of (map marks_of c.args.embedding.shelves.items) (map string_bytes c.args.words.now)
    (g.S.Source.left c.args.input.now)) c.serve_folder.result
    (serve_gives_none (map marks_of c.args.embedding.shelves.items) (command_of (map string_bytes c.args.words.now)) c.in-Ok-Serve.plan
    (g.S.Source.left c.args.input.now) (c.in-Ok-Serve.ensures.exact ∙ ap Some c.in-Ok-Serve.field-0-is))

pub returns-in-Ok-Serve-clause-fresh_load : goal.returns-in-Ok-Serve-clause-fresh_load
returns-in-Ok-Serve-clause-fresh_load g c =
    shows_at (map marks_of c.args.embedding.shelves.items) (g.S.Source.left c.args.input.now)

pub returns-in-Ok-Serve-clause-input : goal.returns-in-Ok-Serve-clause-input
returns-in-Ok-Serve-clause-input g c =
    serve_reads (command_of (map string_bytes c.args.words.now)) c.in-Ok-Serve.plan _ _ _ _ _ c.serve_folder.result
    (c.in-Ok-Serve.ensures.exact ∙ ap Some c.in-Ok-Serve.field-0-is) c.serve_folder.ensures.end c.serve_folder.ensures.unread c.serve_folder.ensures.unread_silent

pub returns-in-Ok-Join-clause-words : goal.returns-in-Ok-Join-clause-words
returns-in-Ok-Join-clause-words g c =
    words_answered (command_of (map string_bytes c.args.words.now)) _ _ _ _ _ c.join_server.result c.in-Ok-Join.ensures.exact
    (join_not_two c.join_server.result c.join_server.ensures.known)

pub returns-in-Ok-Join-clause-output : goal.returns-in-Ok-Join-clause-output
returns-in-Ok-Join-clause-output g c =
    nothing_written (output_of (map marks_of c.args.embedding.shelves.items) (map string_bytes c.args.words.now)
    (g.S.Source.left c.args.input.now)) _ _ _ _ c.join_server.result
    (join_gives_none (map marks_of c.args.embedding.shelves.items) (command_of (map string_bytes c.args.words.now)) c.in-Ok-Join.port c.in-Ok-Join.roots c.in-Ok-Join.turns
    (g.S.Source.left c.args.input.now) (c.in-Ok-Join.ensures.exact ∙ ap Some c.in-Ok-Join.field-0-is))

pub returns-in-Ok-Join-clause-complete : goal.returns-in-Ok-Join-clause-complete
returns-in-Ok-Join-clause-complete g c =
    nothing_complete (output_of (map marks_of c.args.embedding.shelves.items) (map string_bytes c.args.words.now)
    (g.S.Source.left c.args.input.now)) c.join_server.result
    (join_gives_none (map marks_of c.args.embedding.shelves.items) (command_of (map string_bytes c.args.words.now)) c.in-Ok-Join.port c.in-Ok-Join.roots c.in-Ok-Join.turns
    (g.S.Source.left c.args.input.now) (c.in-Ok-Join.ensures.exact ∙ ap Some c.in-Ok-Join.field-0-is))

pub returns-in-Ok-Join-clause-fresh_load : goal.returns-in-Ok-Join-clause-fresh_load
returns-in-Ok-Join-clause-fresh_load g c =
    shows_at (map marks_of c.args.embedding.shelves.items) (g.S.Source.left c.args.input.now)

pub returns-in_default-clause-fresh_load : goal.returns-in_default-clause-fresh_load
returns-in_default-clause-fresh_load g c =
    shows_at (map marks_of c.args.embedding.shelves.items) (g.S.Source.left c.args.input.now)

pub returns-in-Ok-Join-clause-input : goal.returns-in-Ok-Join-clause-input
returns-in-Ok-Join-clause-input g c =
    join_reads (command_of (map string_bytes c.args.words.now)) c.in-Ok-Join.port c.in-Ok-Join.roots c.in-Ok-Join.turns _ _ _ _ _ c.join_server.result
    (c.in-Ok-Join.ensures.exact ∙ ap Some c.in-Ok-Join.field-0-is) c.join_server.ensures.known

pub returns-in-Ok-Page-clause-words : goal.returns-in-Ok-Page-clause-words
returns-in-Ok-Page-clause-words g c =
    words_answered (command_of (map string_bytes c.args.words.now)) _ _ _ _ _ c.page_folder.result c.in-Ok-Page.ensures.exact
    (page_not_two c.page_folder.result c.page_folder.ensures.known)

pub returns-in-Ok-Page-clause-output : goal.returns-in-Ok-Page-clause-output
returns-in-Ok-Page-clause-output g c =
    nothing_written (output_of (map marks_of c.args.embedding.shelves.items) (map string_bytes c.args.words.now)
    (g.S.Source.left c.args.input.now)) _ _ _ _ c.page_folder.result
    (page_gives_none (map marks_of c.args.embedding.shelves.items) (command_of (map string_bytes c.args.words.now)) c.in-Ok-Page.folder
    (g.S.Source.left c.args.input.now) (c.in-Ok-Page.ensures.exact ∙ ap Some c.in-Ok-Page.field-0-is))

pub returns-in-Ok-Page-clause-complete : goal.returns-in-Ok-Page-clause-complete
returns-in-Ok-Page-clause-complete g c =
    nothing_complete (output_of (map marks_of c.args.embedding.shelves.items) (map string_bytes c.args.words.now)
    (g.S.Source.left c.args.input.now)) c.page_folder.result
    (page_gives_none (map marks_of c.args.embedding.shelves.items) (command_of (map string_bytes c.args.words.now)) c.in-Ok-Page.folder
    (g.S.Source.left c.args.input.now) (c.in-Ok-Page.ensures.exact ∙ ap Some c.in-Ok-Page.field-0-is))

pub returns-in-Ok-Page-clause-fresh_load : goal.returns-in-Ok-Page-clause-fresh_load
returns-in-Ok-Page-clause-fresh_load g c =
    shows_at (map marks_of c.args.embedding.shelves.items) (g.S.Source.left c.args.input.now)

pub returns-in-Ok-Page-clause-input : goal.returns-in-Ok-Page-clause-input
returns-in-Ok-Page-clause-input g c =
    page_reads (command_of (map string_bytes c.args.words.now)) c.in-Ok-Page.folder _ _ _ _ _ c.page_folder.result
    (c.in-Ok-Page.ensures.exact ∙ ap Some c.in-Ok-Page.field-0-is) c.page_folder.ensures.unread

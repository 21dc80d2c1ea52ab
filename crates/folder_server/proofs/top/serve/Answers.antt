use Rattle.folder_edits.proofs.Serving.{serve_wrote}
use Rattle.folder_server.proofs.top.serve.Goals as goal

pub returns-clause-wrote : goal.returns-clause-wrote
returns-clause-wrote g c =
    serve_wrote _ _ _ _ _ c.serve_folder-ended.result _ _ _ _ _ _ _ c.serve_folder-ended.ensures.wrote c.write_last.ensures.last c.serve_folder-ended.ensures.later c.write_last.ensures.later

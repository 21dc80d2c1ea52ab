use Rattle.hub_editor.specs.Edits.{edits_in}
use Rattle.top_call.specs.Outside.{begun}
use Rattle.top_call.proofs.serve.serve_folder.Goals as goal

pub returns-clause-served : goal.returns-clause-served
returns-clause-served g c =
    let told = c.serve-ended.ensures.wrote in
    begun (record {
      script = edits_in c.in-Ok.script.items;
      read = c.in-Ok.ensures.script;
      ended = c.serve-ended.result;
      status_is = c.status_of.ensures.is;
      served = rw c.into_vec.ensures at told;
    })

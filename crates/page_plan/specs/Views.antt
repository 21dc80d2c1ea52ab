-- What is put into a view.
use Rattle.std.specs.Prelude.{Option, Some, None}
use Rattle.core_model.specs.Names.{Name}
use Rattle.core_model.specs.View.{View, Entry}
use Rattle.module_graph.specs.Entries.{put_entry}

-- the view with this entry, where there is one
abbrev pub put_found : Name → Option Entry → View → View
put_found n None view = view
put_found n (Some e) view = put_entry n e view

-- What a client is told of a waiting notice.
use Rattle.hmr_types.specs.declared.analysis.TextFault.{TextFault}
use Rattle.update_msgs.specs.declared.message.ServerMsg.TheVariants as msg
use Rattle.core_model.specs.Names.{Name}
use Rattle.core_model.specs.Requests.{Reply, to_client}

-- the fault of a module
abbrev pub notice_reply : Name × TextFault → Reply
notice_reply notice = to_client (msg.Error notice.0 notice.1.line notice.1.col notice.1.word)

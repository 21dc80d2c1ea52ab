use Rattle.std.proofs.Common.{◌≡◌, arith, length, sym}
use Rattle.std.proofs.Math.Path.{subst}
use Rattle.handler_table.specs.Shelf.{marks_of}
use Rattle.world_parts.specs.Shelves.{AreHosts, AreShelves}
use Rattle.hmr_world.proofs.Opening.{admitted_open, more_words, same_words}
use Rattle.world_parts.proofs.Shelving.{kept_over}
use Rattle.hmr_world.proofs.world.World.admit.Goals as goal

pub take_shelf-shelf-requires : goal.take_shelf-shelf-requires
take_shelf-shelf-requires g c = c.requires.number.least

pub welcome-requires-clause-hosts : goal.welcome-requires-clause-hosts
welcome-requires-clause-hosts g c =
    let hosts = subst (AreHosts (goal.F-post g)) (sym c.deref_mut.ensures.value) c.requires.words.shelves in
    c.take_shelf-shelf.ensures.host hosts

-- the client is open with its runtime
pub returns-clause-clients : goal.returns-clause-clients
returns-clause-clients g c = λ rows marks given number are none shelves.
    let there = subst (AreShelves given marks) (sym c.deref_mut.ensures.value) shelves in
    admitted_open c.args.format c.args.names.items c.args.client c.args.roots c.in_ok-runtime.runtime
    rows marks c.args.self.now.clients.items c.push.new.self.items (marks_of c.take_shelf-shelf.result) are none
    (c.take_shelf-shelf.ensures.taken given marks number there)
    c.in_ok-runtime.ensures.runtime c.in_ok-push.ensures.items

pub returns-clause-shelves : goal.returns-clause-shelves
returns-clause-shelves g c = λ marks given number shelves.
    let old = c.args.self.now.shelves in
    let kept : length c.take_shelf-shelf.new.shelves ≡ old.len = omega arith in
    kept_over (AreShelves given marks) (AreShelves c.args.client marks) old
    c.deref_mut.result.now c.take_shelf-shelf.new.shelves c.deref_mut.ensures.value kept
    (c.take_shelf-shelf.ensures.left given marks number) shelves

-- each client and each closure answers what is stated for it, also where memory runs out
pub returns-in_err-push-clause-words : goal.returns-in_err-push-clause-words
returns-in_err-push-clause-words g c =
    let answers = goal.F-post g in
    let old = c.args.self.now in
    let kept : length c.take_shelf-shelf.new.shelves ≡ old.shelves.len = omega arith in
    record {
      clients =
          same_words answers old.clients.items c.push.new.self.items c.requires.words.clients
          c.in_err-push.ensures.items;
      shelves =
          kept_over (AreHosts answers) (AreHosts answers) old.shelves
          c.deref_mut.result.now c.take_shelf-shelf.new.shelves c.deref_mut.ensures.value kept
          c.take_shelf-shelf.ensures.hosts c.requires.words.shelves;
    }

pub returns-in_err-one_line-clause-words : goal.returns-in_err-one_line-clause-words
returns-in_err-one_line-clause-words g c =
    let answers = goal.F-post g in
    let old = c.args.self.now in
    let kept : length c.take_shelf-shelf.new.shelves ≡ old.shelves.len = omega arith in
    record {
      clients =
          more_words answers old.clients.items c.push.new.self.items c.requires.words.clients
          c.args.client c.in_ok-runtime.runtime c.in_ok-push.ensures.items c.in_ok-runtime.ensures.words;
      shelves =
          kept_over (AreHosts answers) (AreHosts answers) old.shelves
          c.deref_mut.result.now c.take_shelf-shelf.new.shelves c.deref_mut.ensures.value kept
          c.take_shelf-shelf.ensures.hosts c.requires.words.shelves;
    }

pub returns-clause-words : goal.returns-clause-words
returns-clause-words g c =
    let answers = goal.F-post g in
    let old = c.args.self.now in
    let kept : length c.take_shelf-shelf.new.shelves ≡ old.shelves.len = omega arith in
    record {
      clients =
          more_words answers old.clients.items c.push.new.self.items c.requires.words.clients
          c.args.client c.in_ok-runtime.runtime c.in_ok-push.ensures.items c.in_ok-runtime.ensures.words;
      shelves =
          kept_over (AreHosts answers) (AreHosts answers) old.shelves
          c.deref_mut.result.now c.take_shelf-shelf.new.shelves c.deref_mut.ensures.value kept
          c.take_shelf-shelf.ensures.hosts c.requires.words.shelves;
    }

use Rattle.std.proofs.Common.{rules}
use Rattle.anb_host.specs.Hosts.{plays_of}
use Rattle.anb_host_recording.proofs.Keeping.{kept_behind}
use Rattle.anb_host_recording.proofs.recording.record_sessions.Goals as goal

pub returns-clause-recorded : goal.returns-clause-recorded
returns-clause-recorded g c = λ past stands some.
    let f = c.serve-end.ensures.followed some in
    let new = c.serve-end.new.host in
    let on = f.followed.2 in
    record {
      some = f.some;
      followed =
          kept_behind g.J.Store.state (plays_of c.args.host.now) c.args.folder.now past f.some (g.J.Store.state c.args.journal.now) _ new.journal.now _ new.noted.now
          _ new.journal.ghost_name on.0 (search rules) _ new.noted.ghost_name f.followed.1 (search rules) (on.3 past stands).1;
      are = f.are;
    }

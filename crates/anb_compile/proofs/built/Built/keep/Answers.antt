use Rattle.anb_compile.proofs.Keys.{inserted}
use Rattle.anb_compile.proofs.built.Built.keep.Goals as goal

pub returns : goal.returns
returns c =
    let h = inserted (λ x. x.items) c.args.self.now.registers.entries c.insert.new.self.entries c.args.key c.args.register c.in_ok-insert.ensures.entries c.requires in
    record { here = h.0; stays = h.1; only = h.2 }

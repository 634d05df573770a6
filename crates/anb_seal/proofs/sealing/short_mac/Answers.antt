use Rattle.std.proofs.Common.{◌++◌, length, ap, arith}
use Rattle.anb_seal.proofs.sealing.short_mac.Goals as goal
use Rattle.anb_seal.proofs.Macs.{mac_of-long}

pub front-requires : goal.front-requires
front-requires g c = omega (arith, mac_of-long g.H.SuiteHash.suite c.args.key.now (c.args.head.now ++ c.args.m.now), ap length c.mac_with.ensures, ap length c.as_slice.ensures)

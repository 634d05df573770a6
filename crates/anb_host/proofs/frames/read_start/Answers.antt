use Rattle.std.proofs.Common.{inl, inr, refl}
use Rattle.anb_host.proofs.frames.read_start.Goals as goal

pub returns-in_default-clause-reads : goal.returns-in_default-clause-reads
returns-in_default-clause-reads g c = let t = c.in_default.ensures.failed in (t.0, (t.2, t.3), inr (5, inl (t.0, refl, t.1, refl)))

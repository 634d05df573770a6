use Rattle.std.proofs.Common.{◌≡◌, ◌≤◌, ◌+◌, ◌++◌, drop}
use Rattle.anb_probe_commands.specs.Frames.{frames_from, frames_text}
use Rattle.anb_probe_commands.proofs.frames.put_frames.Given as goal

abbrev pub invariant-loop-i : goal.invariant-loop-i
invariant-loop-i l = record {
  text : l.out.items ++ frames_from l.p l.role l.scene (l.i + 1) l.heard l.said (drop l.i l.lines) ≡ l.initial.out.items ++ frames_text l.p l.role l.scene l.lines;
  heard : l.heard ≤ l.i;
  said : l.said ≤ l.i;
}

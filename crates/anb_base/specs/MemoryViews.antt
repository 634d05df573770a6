-- What the fields of a wire in memory stand for.
use Rattle.std.specs.Prelude.{◌≡◌, ◌≤◌, ◌<◌, length, take, drop}
use Rattle.anb_base.specs.Memory.{MemoryWire}
use Rattle.anb_base.specs.declared.memory.wire.MemWire.TheInside.{Inside}

abbrev pub wire_of : Inside → MemoryWire
wire_of wire = record {
  left = drop wire.read wire.input;
  written = wire.written.bytes.items;
  reached = wire.reached.bytes.items;
  taken_at = take wire.read wire.stamps.items;
  piece = wire.piece;
  room = wire.written.limit;
  calls = wire.calls.count;
  fails = wire.calls.fails.items;
  read_faults = wire.read_faults;
  write_faults = wire.write_faults;
  reach_faults = wire.reach_faults;
}

pub record IsWithin (wire : Inside) : Type 0 where
  pub read : wire.read ≤ length wire.input
  pub stamps : length wire.stamps.items ≡ length wire.input
  pub moves : 0 < wire.piece
  pub one_room : wire.reached.limit ≡ wire.written.limit

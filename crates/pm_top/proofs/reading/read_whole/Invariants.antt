use Rattle.std.proofs.Common.{◌≡◌, ◌≤◌, ◌-◌, ◌+◌, vec_len}
use Rattle.std.specs.Io.KnownBytes.{Consumes}
use Rattle.pm_top.proofs.reading.read_whole.Given as goal

abbrev pub invariant-pieces : goal.invariant-pieces
invariant-pieces g l = record {
  taken : Consumes (g.S.Source.held l.fn.input) (g.S.Source.held l.input) l.bytes.items;
  faults : g.S.Source.faults l.fn.input ≤ g.S.Source.faults l.input;
  buffer : vec_len l.buffer ≡ 65536;
  few : vec_len l.bytes ≤ l.limit + 65536;
}

abbrev pub decreases-pieces : goal.decreases-pieces
decreases-pieces g l = l.limit + 1 - vec_len l.bytes

use Rattle.std.proofs.Common.{◌≡◌, ◌≤◌, ◌+◌, ◌++◌, length, map, take, drop}
use Rattle.std.specs.Vec.{vec_capacity, vec_len}
use Rattle.pm_core.specs.Commits.{alp_at, handed_by}
use Rattle.pm_core.proofs.commits.commit_alps.Given as goal

abbrev pub invariant-loop-alp : goal.invariant-loop-alp
invariant-loop-alp l = record {
  processes : l.alp-items
      ≡ map (alp_at l.line) (take l.alp-index l.initial.alp-items) ++ drop l.alp-index l.initial.alp-items;
  entries : l.entries.items
      ≡ l.initial.entries.items ++ handed_by l.line (take l.alp-index l.initial.alp-items);
  room : vec_len l.entries + length (handed_by l.line (drop l.alp-index l.initial.alp-items))
      ≤ vec_capacity l.entries;
}

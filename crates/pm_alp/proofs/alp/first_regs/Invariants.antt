use Rattle.std.proofs.Common.{◌≡◌, map, take}
use Rattle.pm_base.specs.declared.program.RegRow.{RegRow}
use Rattle.pm_alp.proofs.alp.first_regs.Given as goal

abbrev pub invariant-loop-row : goal.invariant-loop-row
invariant-loop-row l = l.all ≡ map (λ (r : RegRow). r.start) (take l.row-index l.rows)

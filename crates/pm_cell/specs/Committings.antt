-- What a Commit makes of cells as they are held.
use Rattle.std.specs.Prelude.{List, []}
use Rattle.std.specs.List.{flat_map}
use Rattle.pm_base.specs.declared.rows.Entry.{Entry}
use Rattle.pm_base.specs.declared.stamp.Line.{Line}
use Rattle.pm_core.specs.Commits.{alp_at, clp_at}
use Rattle.pm_core.specs.declared.process.Process.{Process}
use Rattle.pm_core.specs.declared.process.Process.TheVariants as process
use Rattle.pm_saved.specs.Steps.{hand_out}
use Rattle.pm_cell.specs.Helds.{Held}

-- a process after a Commit
abbrev pub process_at : Line → Process → Process
process_at l (process.Clp v) = process.Clp (clp_at l v)
process_at l (process.Alp v) = process.Alp (alp_at l v)

-- what a Commit hands out of it
abbrev pub handed_at : Line → Process → List Entry
handed_at l (process.Clp v) = []
handed_at l (process.Alp v) = hand_out l v.agent.steps

-- a cell after a Commit
abbrev pub held_at : Line → Held → Held
held_at l h = record h { process = process_at l h.process; story = [] }

-- what a Commit hands out of these cells, one cell after another
abbrev pub ready_in : Line → List Held → List Entry
ready_in l hs = flat_map (λ (h : Held). handed_at l h.process) hs

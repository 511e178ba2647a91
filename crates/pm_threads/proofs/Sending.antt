-- A cell may be sent to another thread.
--     plan_sync      what a `&` to a plan holds says the same to every thread
--     alp_send, process_send, cell_send      so does what an agent's process, a process and a cell own
use denote.RattleType.{RattleType}
use denote.Ref.{NamedLft}
use denote.Hole.{as_row}
use denote.Param.Send.{IsSend, IsSync, sendable}
use denote.Param.SendFields.{as_row_send, as_row_sync, declared_send}
use denote.Struct.Field.{bool-field, i64-field, shr_ref_field, u32-field, u64-field}
use denote.Struct.Record as record_of
use Rattle.std.proofs.Crossing as crossing
use Rattle.std.proofs.MapsCrossing as maps
use Rattle.std.proofs.MapsCrossingOver as over
use Rattle.std.specs.contracts.alloc.Global as heap
use Rattle.std.specs.contracts.boxed.Box as box
use Rattle.std.specs.contracts.impls.GlobalAllocator.TheImpl as global
use Rattle.std.specs.contracts.option.Option as option
use Rattle.pm_base.proofs.program.Expr.TheLaws.TheKnot as expr_knot
use Rattle.pm_base.proofs.program.Stmt.TheLaws.TheKnot as stmt_knot
use Rattle.pm_base.specs.contracts.boxed.Boxed as boxed
use Rattle.pm_base.specs.contracts.layout.Layout as layout
use Rattle.pm_base.specs.contracts.list.List as list
use Rattle.pm_base.specs.contracts.name.Name as name
use Rattle.pm_base.specs.contracts.program.Expr as expr
use Rattle.pm_base.specs.contracts.program.Field as field
use Rattle.pm_base.specs.contracts.program.Op as op
use Rattle.pm_base.specs.contracts.program.Place as place
use Rattle.pm_base.specs.contracts.program.Program as program
use Rattle.pm_base.specs.contracts.program.RegRow as reg_row
use Rattle.pm_base.specs.contracts.program.Sense as sense
use Rattle.pm_base.specs.contracts.program.SenseRow as sense_row
use Rattle.pm_base.specs.contracts.program.Stmt as stmt
use Rattle.pm_base.specs.contracts.stamp.Line as line
use Rattle.pm_plan.specs.contracts.plan.AgentRow as agent_row
use Rattle.pm_plan.specs.contracts.plan.ClpRow as clp_row
use Rattle.pm_plan.specs.contracts.plan.Plan as plan
use Rattle.pm_plan.specs.contracts.plan.VarRow as var_row
use Rattle.pm_saved.proofs.saved.Saved.TheSendSync as saved_crosses
use Rattle.pm_alp.specs.contracts.alp.Alp as alp
use Rattle.pm_alp.specs.contracts.parts.AlpParts as alp_parts
use Rattle.pm_alp.specs.contracts.state.State as state
use Rattle.pm_clp.proofs.clp.Clp.TheSendSync as clp_crosses
use Rattle.pm_core.specs.contracts.process.Process as process
use Rattle.pm_ends.proofs.in_ends.InEnds.TheSendSync as in_crosses
use Rattle.pm_ends.proofs.out_ends.OutEnds.TheSendSync as out_crosses
use Rattle.pm_ends.specs.contracts.in_ends.InEnds as in_ends
use Rattle.pm_ends.specs.contracts.out_ends.OutEnds as out_ends
use Rattle.pm_history.proofs.histories.History.TheSendSync as story_crosses
use Rattle.pm_history.specs.contracts.histories.History as history
use Rattle.pm_cell.specs.contracts.cell.Cell as cell
use Rattle.pm_cell.specs.contracts.cell.Cell.TheInside as inside

-- the laws of the language's types and of std's
ruleset crosses = (sendable, crossing.crosses, maps.crosses, over.crosses)

-- ---- what a `&` to a plan holds. The laws of the two recursive types are made beside them, from those of their parts
-- of a list
list_sync : (T : RattleType) → IsSync T → IsSync (list.the_row T)
list_sync T s = search crosses depth 20

-- of a box
boxed_sync : (T : RattleType) → IsSync T → IsSync (boxed.the_row T)
boxed_sync T s = search crosses depth 20

-- of a name
name_sync : IsSync name.the_row
name_sync = search crosses depth 20

-- of a layout
layout_sync : IsSync layout.the_row
layout_sync = search (crosses, list_sync) depth 20

-- of a number of 64 bits
i64-sync : IsSync i64-field.row
i64-sync = search crosses depth 20

-- of a number of 32 bits
u32-sync : IsSync u32-field.row
u32-sync = search crosses depth 20

-- of an operator
op_sync : IsSync op.the_field.row
op_sync = search crosses depth 20

-- of what is taken of an answer
field_sync : IsSync field.the_field.row
field_sync = search crosses depth 20

-- of an expression, as a field
expr_sync : IsSync expr.the_field.row
expr_sync = expr_knot.sync-Expr i64-sync u32-sync field_sync op_sync boxed_sync

-- of a place, as a field
place_sync : IsSync place.the_field.row
place_sync = search (crosses, expr_sync) depth 20

-- of a statement, as a field
stmt_sync : IsSync stmt.the_field.row
stmt_sync = stmt_knot.sync-Stmt u32-sync expr_sync list_sync place_sync

-- of a statement
stmt_row_sync : IsSync stmt.the_row
stmt_row_sync = as_row_sync stmt.the_field stmt_sync

-- of a sense, as a field
sense_sync : IsSync sense.the_field.row
sense_sync = search (crosses, expr_sync, place_sync) depth 20

-- of a sense with its name
sense_row_sync : IsSync sense_row.the_row
sense_row_sync = search (crosses, name_sync, sense_sync) depth 20

-- of a register's row
reg_row_sync : IsSync reg_row.the_row
reg_row_sync = search (crosses, name_sync) depth 20

-- of a program, as a field
program_sync : IsSync program.the_field.row
program_sync = search (crosses, list_sync, stmt_row_sync, sense_row_sync, reg_row_sync) depth 20

-- of a program
program_row_sync : IsSync program.the_row
program_row_sync = as_row_sync program.the_field program_sync

-- of a variable's row
var_row_sync : IsSync var_row.the_row
var_row_sync = search (crosses, name_sync) depth 20

-- of a communication process's row
clp_row_sync : IsSync clp_row.the_row
clp_row_sync = search (crosses, name_sync) depth 20

-- of an agent's row
agent_row_sync : IsSync agent_row.the_row
agent_row_sync = search (crosses, name_sync, program_sync) depth 20

-- of a plan
pub plan_sync : IsSync plan.the_row
plan_sync = search (crosses, list_sync, var_row_sync, clp_row_sync, agent_row_sync) depth 20

-- ---- what a cell owns
-- a list, of what may be sent
list_send : (T : RattleType) → IsSend T → IsSend (list.the_row T)
list_send T s = search crosses depth 20

-- the parts of an agent's process, as a field
parts_send : (κ : NamedLft) → IsSend (alp_parts.the_field κ).row
parts_send κ = search (crosses, layout_sync, program_row_sync) depth 20

-- an agent between two messages, as a field
state_send : IsSend state.the_field.row
state_send = search (crosses, list_send, saved_crosses.the_send) depth 20

-- an agent's process
pub alp_send : (κ : NamedLft) → IsSend (alp.the_row κ)
alp_send κ = search (crosses, parts_send, state_send) depth 20

-- a process, as a field
process_field_send : (κ : NamedLft) → IsSend (process.the_field κ).row
process_field_send κ = search (crosses, alp_send, clp_crosses.the_send) depth 20

-- a process
pub process_send : (κ : NamedLft) → IsSend (process.the_row κ)
process_send κ = as_row_send (process.the_field κ) (process_field_send κ)

-- a cell's plan
plan_send : (κ : NamedLft) → IsSend (as_row (shr_ref_field κ plan.the_row tt))
plan_send κ = search (crosses, plan_sync) depth 20

-- a cell's number
number_send : IsSend (as_row u32-field)
number_send = search crosses depth 20

-- its process, in a box
process_box_send : (κ : NamedLft)
    → IsSend (as_row (box.the_field (process.the_row κ) heap.the_row global.ghosts))
process_box_send κ = crossing.Box-send (process.the_row κ) (process_send κ)

-- its out-ends, in a box
outs_box_send : IsSend (as_row (box.the_field out_ends.the_row heap.the_row global.ghosts))
outs_box_send = crossing.Box-send out_ends.the_row out_crosses.the_send

-- a cell's in-ends
inns_send : IsSend (as_row in_ends.the_field)
inns_send = in_crosses.the_send

-- a cell's story
story_send : IsSend (as_row history.the_field)
story_send = story_crosses.the_send

-- a cell's clock
clock_send : IsSend (as_row u64-field)
clock_send = search crosses depth 20

-- whether a cell is spoilt
spoilt_send : IsSend (as_row bool-field)
spoilt_send = search crosses depth 20

-- a cell's window
window_send : IsSend (as_row (option.the_field line.the_row))
window_send = search crosses depth 20

-- how many writes it withdrew
withdrawn_send : IsSend (as_row u64-field)
withdrawn_send = search crosses depth 20

-- a cell's fields
inside_send : (κ : NamedLft) → IsSend (inside.the_row κ)
inside_send κ = declared_send (record_of.declared (inside.struct κ) inside.the_propositions) (
  plan_send κ,
  (
    number_send,
    (
      process_box_send κ,
      (
        outs_box_send,
        (
          inns_send,
          (story_send, (clock_send, (spoilt_send, (window_send, (withdrawn_send, tt))))),
        ),
      ),
    ),
  ),
)

-- a cell
pub cell_send : (κ : NamedLft) → IsSend (cell.the_row κ)
cell_send κ = search (sendable, inside_send)

-- A turn from its parts.
use Rattle.std.proofs.Common.{◌≡◌, ℤ, List, Some, None, option_map, ap, ◌∙◌}
use Rattle.std.specs.Prelude.{slice_get, option_and_then}
use Rattle.pm_base.specs.declared.layout.ClassRow.{ClassRow}
use Rattle.pm_base.specs.declared.program.Program.{Program}
use Rattle.pm_base.specs.declared.stamp.Stamp.{Stamp}
use Rattle.pm_base.specs.declared.value.Value.{Value}
use Rattle.pm_plan.specs.declared.plan.AgentRow.{AgentRow}
use Rattle.pm_plan.specs.declared.plan.Plan.{Plan}
use Rattle.pm_model.specs.declared.AgentState.{AgentState}
use Rattle.pm_model.specs.declared.Deed.{Deed}
use Rattle.pm_model.specs.declared.State.{State}
use Rattle.pm_model.specs.Runs.{Scene, sequential_turn, turn_at, least_stamp, moved, deed, scene_of}

-- what a step sees, by its parts
abbrev pub scene : Program → List ClassRow → List Value → Stamp → List ℤ → Scene
scene program classes values stamp regs =
    record { program = program; classes = classes; values = values; stamp = stamp; regs = regs }

pub turn-is : (plan : Plan) (s : State) (stamp : Stamp) (row : AgentRow) (agent : AgentState) (d : Deed)
    → least_stamp 0 s.agents ≡ Some stamp → slice_get plan.agents stamp.agent ≡ Some row → slice_get s.agents stamp.agent ≡ Some agent
    → deed (scene_of plan s stamp row agent) ≡ Some d → sequential_turn plan s ≡ Some (moved plan s stamp d)
turn-is plan s stamp row agent d a b c e =
    ap (option_and_then (turn_at plan s)) a
    ∙ ap (option_and_then (λ (r : AgentRow). option_and_then (λ (g : AgentState). option_map (moved plan s stamp) (deed (scene_of plan s stamp r g))) (slice_get s.agents stamp.agent))) b
    ∙ ap (option_and_then (λ (g : AgentState). option_map (moved plan s stamp) (deed (scene_of plan s stamp row g)))) c
    ∙ ap (option_map (moved plan s stamp)) e

-- no least stamp: no turn
pub turn-none-left : (plan : Plan) (s : State) → least_stamp 0 s.agents ≡ None → sequential_turn plan s ≡ None
turn-none-left plan s e = ap (option_and_then (turn_at plan s)) e

-- no row: no turn
pub turn-no-row : (plan : Plan) (s : State) (stamp : Stamp) → least_stamp 0 s.agents ≡ Some stamp → slice_get plan.agents stamp.agent ≡ None → sequential_turn plan s ≡ None
turn-no-row plan s stamp a b =
    ap (option_and_then (turn_at plan s)) a
    ∙ ap (option_and_then (λ (r : AgentRow). option_and_then (λ (g : AgentState). option_map (moved plan s stamp) (deed (scene_of plan s stamp r g))) (slice_get s.agents stamp.agent))) b

-- no agent: no turn
pub turn-no-agent : (plan : Plan) (s : State) (stamp : Stamp) (row : AgentRow) → least_stamp 0 s.agents ≡ Some stamp
    → slice_get plan.agents stamp.agent ≡ Some row → slice_get s.agents stamp.agent ≡ None → sequential_turn plan s ≡ None
turn-no-agent plan s stamp row a b c =
    ap (option_and_then (turn_at plan s)) a
    ∙ ap (option_and_then (λ (r : AgentRow). option_and_then (λ (g : AgentState). option_map (moved plan s stamp) (deed (scene_of plan s stamp r g))) (slice_get s.agents stamp.agent))) b
    ∙ ap (option_and_then (λ (g : AgentState). option_map (moved plan s stamp) (deed (scene_of plan s stamp row g)))) c

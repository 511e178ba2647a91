-- The plan of parts, or why there is none.
use Rattle.std.specs.Prelude.{◌≡◌, ℕ, suc, ◌+◌, ◌^◌, ◌<◌, Bool, true, false, ◌||◌, ◌&&◌}
use Rattle.std.specs.Prelude.{if◌then◌else◌, nat_lt, nat_le, List, [], ◌∷◌, length, take, get_or, map}
use Rattle.std.specs.Prelude.{Option, Some, None, is_none, option_map, unwrap_or, Result, Ok, Err, drop}
use Rattle.std.specs.List.{AllByRecursion, flat_map, list_all, list_any}
use Rattle.pm_base.specs.Fits.{fits}
use Rattle.pm_base.specs.Windows.{IsPair}
use Rattle.pm_base.specs.declared.layout.ClassRow.{ClassRow}
use Rattle.pm_plan.specs.Numbers.{least, number_of, name_at, first_wrong, first_repeat}
use Rattle.pm_plan.specs.Trees.{parent, ups}
use Rattle.pm_plan.specs.declared.fault.PlanFault.{PlanFault}
use Rattle.pm_plan.specs.declared.fault.PlanFault.TheVariants as fault
use Rattle.pm_plan.specs.declared.parts.AgentPart.{AgentPart}
use Rattle.pm_plan.specs.declared.parts.ClassPart.{ClassPart}
use Rattle.pm_plan.specs.declared.parts.ClpPart.{ClpPart}
use Rattle.pm_plan.specs.declared.parts.PlanParts.{PlanParts}
use Rattle.pm_plan.specs.declared.parts.VarPart.{VarPart}
use Rattle.pm_plan.specs.declared.plan.AgentRow.{AgentRow}
use Rattle.pm_plan.specs.declared.plan.ClpRow.{ClpRow}
use Rattle.pm_plan.specs.declared.plan.Kind.{Kind}
use Rattle.pm_plan.specs.declared.plan.Kind.TheVariants as kind
use Rattle.pm_plan.specs.declared.plan.Plan.{Plan}
use Rattle.pm_plan.specs.declared.plan.VarRow.{VarRow}

-- the number of the CLP of that name; the number past the last one where there is none
abbrev pub clp_of : List (List ℕ) → List ℕ → ℕ
clp_of names name = unwrap_or (number_of names name) (length names)

-- a communication process with its parent as a number
abbrev pub clp_row : List (List ℕ) → ClpPart → ClpRow
clp_row names part = record { name = part.name; parent = option_map (clp_of names) part.parent }

-- a variable with its place as a number
abbrev pub var_row : List (List ℕ) → VarPart → VarRow
var_row names part = record { name = part.name; at = clp_of names part.at; value = part.value }

-- an agent with its home as a number
abbrev pub agent_row : List (List ℕ) → AgentPart → AgentRow
agent_row names part =
    record { name = part.name; home = clp_of names part.home; start = part.start; program = part.program }

-- the classes, the first of them from that variable on
abbrev pub class_rows : ℕ → List ClassPart → List ClassRow
class_rows first [] = []
class_rows first (c ∷ cs) =
    (record { first = first; count = length c.vars }) ∷ class_rows (first + length c.vars) cs

-- the variables of all classes, class by class
abbrev pub all_vars : List ClassPart → List VarPart
all_vars classes = flat_map (λ c. c.vars) classes

-- the parts with their names numbered
unfoldable pub numbered : PlanParts → Plan
numbered parts =
    let names = map (λ (c : ClpPart). c.name) parts.clps in
    record {
      horizon = parts.horizon;
      move_after = parts.move_after;
      clps = map (clp_row names) parts.clps;
      layout = record { classes = class_rows 0 parts.classes };
      classes = map (λ c. c.name) parts.classes;
      vars = map (var_row names) (all_vars parts.classes);
      agents = map (agent_row names) parts.agents;
    }

-- the parents of these communication processes
abbrev pub parents : List ClpRow → List (Option ℕ)
parents clps = map (λ c. c.parent) clps

-- the first of two refusals
abbrev pub or_else : Option PlanFault → Option PlanFault → Option PlanFault
or_else (Some f) later = Some f
or_else None later = later

-- this refusal where the test holds, else none
abbrev pub refused_if : Bool → PlanFault → Option PlanFault
refused_if test f = if test then Some f else None

-- whether the time is past the last one that a plan may name
abbrev pub is_past : ℕ → Bool
is_past time = nat_lt 1000000000000 time

-- the agent starts past the last time
abbrev pub starts_late : AgentRow → Bool
starts_late a = is_past a.start

-- too few or too many of a kind
abbrev pub count_refusal : ℕ → ℕ → ℕ → ℕ → Option PlanFault
count_refusal clps classes vars agents =
    or_else (refused_if (nat_lt clps 1 || nat_lt 64 clps) (fault.Limit kind.Clp))
    (or_else (refused_if (nat_lt 64 classes) (fault.Limit kind.Class))
    (or_else (refused_if (nat_lt 4096 vars) (fault.Limit kind.Var))
    (refused_if (nat_lt 1024 agents) (fault.Limit kind.Agent))))

-- whether the horizon or a start is past the last time
abbrev pub is_late : Plan → Bool
is_late p = is_past p.horizon || list_any starts_late p.agents

-- the first refusal of the names of a kind, in the order of the kinds
abbrev pub of_names : (Kind → ℕ → PlanFault) → (List (List ℕ) → Option ℕ) → Plan → Option PlanFault
of_names refusal index p =
    or_else (option_map (refusal kind.Clp) (index (map (λ c. c.name) p.clps)))
    (or_else (option_map (refusal kind.Class) (index p.classes))
    (or_else (option_map (refusal kind.Var) (index (map (λ v. v.name) p.vars)))
    (option_map (refusal kind.Agent) (index (map (λ a. a.name) p.agents)))))

-- whether there is a parent that is none of that many communication processes
abbrev pub is_lost : ℕ → Option ℕ → Bool
is_lost clps None = false
is_lost clps (Some d) = nat_le clps d

-- whether c and a lower CLP have no parent
abbrev pub is_second_root : List (Option ℕ) → ℕ → Bool
is_second_root ps c = is_none (parent ps c) && list_any is_none (take c ps)

-- whether the chain of parents never ends: one that ends has each CLP once at most, and the number past the last one
abbrev pub is_endless : List (Option ℕ) → ℕ → Bool
is_endless ps c = nat_lt (suc (length ps)) (length (ups (suc (suc (length ps))) ps (Some c)))

-- a communication process is off the tree: its parent isn't there, or it is a second root, or no root is above it
abbrev pub is_off_tree : List (Option ℕ) → ℕ → Bool
is_off_tree ps c = (is_lost (length ps) (parent ps c) || is_second_root ps c) || is_endless ps c

-- the least CLP that is off the tree
unfoldable pub first_off_tree : List (Option ℕ) → Option ℕ
first_off_tree ps = least (is_off_tree ps) (length ps)

-- the least of these places that is none of that many CLPs
unfoldable pub first_nowhere : ℕ → List ℕ → Option ℕ
first_nowhere clps places = least (λ i. nat_le clps (get_or places i 0)) (length places)

-- the first variable, or else the first agent, whose communication process is not there
abbrev pub place_refusal : Plan → Option PlanFault
place_refusal p =
    or_else (option_map (fault.Place kind.Var) (first_nowhere (length p.clps) (map (λ v. v.at) p.vars)))
    (option_map (fault.Place kind.Agent) (first_nowhere (length p.clps) (map (λ a. a.home) p.agents)))

-- the first refusal of a plan that has enough and not too many of each kind
unfoldable pub later_refusal : Plan → Option PlanFault
later_refusal p =
    or_else (refused_if (is_late p) (fault.Limit kind.Time))
    (or_else (of_names fault.Name first_wrong p)
    (or_else (of_names fault.Twice first_repeat p)
    (or_else (option_map fault.Tree (first_off_tree (parents p.clps)))
    (place_refusal p))))

-- the first refusal
unfoldable pub refusal : Plan → Option PlanFault
refusal p =
    or_else (count_refusal (length p.clps) (length p.classes) (length p.vars) (length p.agents)) (later_refusal p)

-- the plan, or its refusal where it has one
abbrev pub unless_refused : Option PlanFault → Plan → Result Plan PlanFault
unless_refused None p = Ok p
unless_refused (Some f) p = Err f

-- the plan of parts, or their first refusal
unfoldable pub plan_of : PlanParts → Result Plan PlanFault
plan_of parts = unless_refused (refusal (numbered parts)) (numbered parts)

-- whether a check passes
abbrev pub passed : Option PlanFault → Result (Unit {0}) PlanFault
passed None = Ok tt
passed (Some f) = Err f

-- numbers of 32 bits can count each kind
pub record IsFew (p : Plan) : Type 0 where
  pub clps : length p.clps < 2 ^ 32
  pub classes : length p.classes < 2 ^ 32
  pub vars : length p.vars < 2 ^ 32
  pub agents : length p.agents < 2 ^ 32

-- whether each agent's rule fits these classes
abbrev pub rules_fit : List ClassPart → List AgentPart → Bool
rules_fit classes agents =
    list_all (λ (a : AgentPart). fits a.program (record { classes = class_rows 0 classes })) agents

-- each of these variables begins with a pair of numbers of 64 bits
abbrev pub HavePairs : List VarRow → Type 0
HavePairs rows = AllByRecursion (λ (r : VarRow). IsPair r.value) rows

-- a plan is valid where it is the plan of some parts whose rules fit, and its values are pairs of numbers of 64 bits
pub record IsValid (plan : Plan) : Type 0 where
  pub parts : PlanParts
  pub made : plan_of parts ≡ Ok plan
  pub rules : rules_fit parts.classes parts.agents ≡ true
  pub pairs : HavePairs plan.vars

-- a communication process with the name of its parent in place of the number
abbrev pub own_clp : List (List ℕ) → ClpRow → ClpPart
own_clp names row = record { name = row.name; parent = option_map (name_at names) row.parent }

-- a variable with the name of its place in place of the number
abbrev pub own_var : List (List ℕ) → VarRow → VarPart
own_var names row = record { name = row.name; at = name_at names row.at; value = row.value }

-- an agent with the name of its home in place of the number
abbrev pub own_agent : List (List ℕ) → AgentRow → AgentPart
own_agent names row =
    record { name = row.name; home = name_at names row.home; start = row.start; program = row.program }

-- each class with its name and with those of the variables that the layout gives it
abbrev pub own_classes : List (List ℕ) → List ClassRow → List VarPart → List ClassPart
own_classes [] rows vars = []
own_classes (n ∷ ns) [] vars = []
own_classes (n ∷ ns) (c ∷ cs) vars =
    (record { name = n; vars = take c.count (drop c.first vars) }) ∷ own_classes ns cs vars

-- a plan's own parts: each parent and place is the name of the CLP of that number
unfoldable pub own_parts : Plan → PlanParts
own_parts plan =
    let names = map (λ (c : ClpRow). c.name) plan.clps in
    record {
      horizon = plan.horizon;
      move_after = plan.move_after;
      clps = map (own_clp names) plan.clps;
      classes = own_classes plan.classes plan.layout.classes (map (own_var names) plan.vars);
      agents = map (own_agent names) plan.agents;
    }

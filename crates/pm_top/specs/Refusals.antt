-- What is said of a scenario that is refused.
use Rattle.std.specs.Prelude.{ℕ, ◌==◌, ◌||◌, nat_lt, if◌then◌else◌, List, ◌++◌, codes, decimal, map}
use Rattle.pm_plan.specs.declared.fault.PlanFault.{PlanFault}
use Rattle.pm_plan.specs.declared.fault.PlanFault.TheVariants as plan
use Rattle.pm_plan.specs.declared.plan.Kind.{Kind}
use Rattle.pm_plan.specs.declared.plan.Kind.TheVariants as kind
use Rattle.pm_rules.specs.declared.fault.RuleFault.{RuleFault}
use Rattle.pm_rules.specs.declared.fault.RuleFault.TheVariants as rule
use Rattle.pm_scenario.specs.declared.fault.ScenarioFault.{ScenarioFault}
use Rattle.pm_scenario.specs.declared.fault.ScenarioFault.TheVariants as fault

-- a byte of a key; a control character shows as `?`
abbrev pub shown_byte : ℕ → ℕ
shown_byte b = if nat_lt b 32 || b == 127 then 63 else b

-- a key as a line tells it, with no control character in it
abbrev pub shown : List ℕ → List ℕ
shown key = map shown_byte key

-- the word for a kind of part; `time` is the limit of an agent's times
abbrev pub kind_word : Kind → List ℕ
kind_word kind.Clp = codes "clp"
kind_word kind.Class = codes "class"
kind_word kind.Var = codes "var"
kind_word kind.Agent = codes "agent"
kind_word kind.Time = codes "time"

-- `rule of agent A: line L: REASON`
abbrev pub rule_text : ℕ → ℕ → List ℕ → List ℕ
rule_text agent line reason =
    (codes "rule of agent " ++ decimal agent) ++ ((codes ": line " ++ decimal line) ++ (codes ": " ++ reason))

-- what is said of the agent with this number, whose rule has this fault
abbrev pub rule_reason : ℕ → RuleFault → List ℕ
rule_reason agent (rule.Word line) = rule_text agent line (codes "not a statement\n")
rule_reason agent (rule.Order line) = rule_text agent line (codes "out of order\n")
rule_reason agent (rule.Nesting line) = rule_text agent line (codes "if, else and end do not match\n")
rule_reason agent (rule.TooLong line) = rule_text agent line (codes "too long\n")
rule_reason agent (rule.Twice line) = rule_text agent line (codes "a name is declared twice\n")
rule_reason agent (rule.Unknown line) = rule_text agent line (codes "an unknown name\n")
rule_reason agent rule.Memory = codes "out of memory\n"

-- `KIND I: REASON`
abbrev pub part_text : Kind → ℕ → List ℕ → List ℕ
part_text k i reason = (kind_word k ++ codes " ") ++ (decimal i ++ (codes ": " ++ reason))

-- what is said of parts that make no plan
abbrev pub plan_reason : PlanFault → List ℕ
plan_reason (plan.Limit k) = codes "limit of " ++ (kind_word k ++ codes "\n")
plan_reason (plan.Name k i) = part_text k i (codes "not a name\n")
plan_reason (plan.Twice k i) = part_text k i (codes "the name stands twice\n")
plan_reason (plan.Tree i) = part_text kind.Clp i (codes "not in the tree\n")
plan_reason (plan.Place k i) = part_text k i (codes "its place is not a clp\n")
plan_reason plan.Memory = codes "out of memory\n"

-- a refusal, and a line feed
abbrev pub refusal : ScenarioFault → List ℕ
refusal fault.NotToml = codes "not a TOML document\n"
refusal fault.Version = codes "the version is not known\n"
refusal (fault.Missing key) = shown key ++ codes " is missing\n"
refusal (fault.Kind key) = shown key ++ codes " is of the wrong kind\n"
refusal (fault.Strange key) = shown key ++ codes " is not a key\n"
refusal (fault.Rule agent f) = rule_reason agent f
refusal (fault.Plan f) = plan_reason f
refusal fault.Memory = codes "out of memory\n"

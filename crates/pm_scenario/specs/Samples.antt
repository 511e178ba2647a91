-- Worked scenarios.
use Rattle.std.specs.Prelude.{ℕ, pos, List, [], ◌∷◌, ◌++◌, None, codes}
use Rattle.pm_plan.specs.declared.plan.Plan.{Plan}
use Rattle.pm_rules.specs.Samples.{worked_program, worked_text}

-- one process, one variable and one agent; what may be absent is absent
abbrev pub worked_scenario : List ℕ
worked_scenario =
    codes "version = 1\nhorizon = 2\n[[clp]]\nname = 'root'\n" ++
    codes "[[class]]\nname = 'cell'\n[[class.var]]\nname = 'c0'\nat = 'root'\n" ++
    codes "[[agent]]\nname = 'ant'\nhome = 'root'\nrule = '''\n" ++ worked_text ++ codes "'''\n"

-- the plan of that scenario, whose agent starts at 0 and whose variable is 0, 0 at first
abbrev pub worked_plan : Plan
worked_plan = record {
  horizon = 2;
  move_after = 0;
  clps = record { name = codes "root"; parent = None } ∷ [];
  layout = record { classes = record { first = 0; count = 1 } ∷ [] };
  classes = codes "cell" ∷ [];
  vars = record { name = codes "c0"; at = 0; value = record { x = pos 0; y = pos 0 } } ∷ [];
  agents = record { name = codes "ant"; home = 0; start = 0; program = worked_program } ∷ [];
}

-- the version comes first
abbrev pub later_version : List ℕ
later_version = codes "odd = 0\nversion = 3"

-- then the least key that isn't listed
abbrev pub two_strange_keys : List ℕ
two_strange_keys = codes "version = 1\nzeal = 0\nbest = 0"

-- an element that is no table comes before the others are walked
abbrev pub table_and_number : List ℕ
table_and_number = codes "version = 1\nhorizon = 0\nclp = [{}, 3]"

-- an element is walked before the next listed key
abbrev pub empty_table_and_number : List ℕ
empty_table_and_number = codes "version = 1\nhorizon = 0\nclass = 3\nclp = [{}]"

-- a key inside of two arrays
abbrev pub number_as_text : List ℕ
number_as_text = codes "version = 1\nhorizon = 0\nclass = [{ name = 'c', var = [{ name = 'v', at = 'p', x = '1' }] }]"

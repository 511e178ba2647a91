-- The text of a trace.
use Rattle.std.specs.Prelude.{ℕ, List, [], ◌∷◌, ◌++◌, length, codes, decimal, slice_get, Some, None}
use Rattle.std.specs.Fmt.{signed_decimal}
use Rattle.std.specs.List.{flat_map}
use Rattle.pm_base.specs.declared.rows.Entry.{Entry}
use Rattle.pm_base.specs.declared.value.Change.{Change}
use Rattle.pm_base.specs.declared.value.Change.TheVariants as change
use Rattle.pm_base.specs.declared.value.Hit.{Hit}
use Rattle.pm_base.specs.declared.value.Value.{Value}
use Rattle.pm_base.specs.declared.value.Write.{Write}
use Rattle.pm_plan.specs.declared.plan.Plan.{Plan}
use Rattle.pm_model.specs.Runs.{sequential_run}

-- the name of that variable
abbrev pub var_name : Plan → ℕ → List ℕ
var_name plan var = elim (slice_get plan.vars var) as (λ _. List ℕ) [ None ↦ [] | Some row ↦ row.name ]

-- the name of that agent
abbrev pub agent_name : Plan → ℕ → List ℕ
agent_name plan agent = elim (slice_get plan.agents agent) as (λ _. List ℕ) [ None ↦ [] | Some row ↦ row.name ]

-- `X,Y`
abbrev pub value_text : Value → List ℕ
value_text v = signed_decimal v.x ++ codes "," ++ signed_decimal v.y

-- `NAME=X,Y`
abbrev pub hit_text : Plan → Hit → List ℕ
hit_text plan hit = var_name plan hit.var ++ codes "=" ++ value_text hit.value

-- the hits of an answer, joined by `;`
abbrev pub hits_text : Plan → List Hit → List ℕ
hits_text plan [] = []
hits_text plan (hit ∷ hits) = hit_text plan hit ++ flat_map (λ h. codes ";" ++ hit_text plan h) hits

-- ` [HITS]`
abbrev pub answer_text : Plan → List Hit → List ℕ
answer_text plan hits = codes " [" ++ hits_text plan hits ++ codes "]"

-- `:=X,Y` for a set, `+=X,Y` for an add
abbrev pub change_text : Change → List ℕ
change_text (change.Set v) = codes ":=" ++ value_text v
change_text (change.Add v) = codes "+=" ++ value_text v

-- ` NAME:=X,Y`
abbrev pub write_text : Plan → Write → List ℕ
write_text plan w = codes " " ++ var_name plan w.var ++ change_text w.change

-- the line of an entry
abbrev pub line : Plan → Entry → List ℕ
line plan entry =
    decimal entry.stamp.time ++ codes " " ++ agent_name plan entry.stamp.agent
    ++ flat_map (answer_text plan) entry.answers ++ flat_map (write_text plan) entry.writes ++ codes "\n"

-- the lines of these entries, one after another
abbrev pub trace_text : Plan → List Entry → List ℕ
trace_text plan entries = flat_map (line plan) entries

-- `end N`
abbrev pub end_line : ℕ → List ℕ
end_line steps = codes "end " ++ decimal steps ++ codes "\n"

-- the trace of a plan: the lines of its sequential run, and the end line with the number of its steps
abbrev pub trace : Plan → List ℕ
trace plan = trace_text plan (sequential_run plan) ++ end_line (length (sequential_run plan))

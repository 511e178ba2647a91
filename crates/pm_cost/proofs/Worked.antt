-- Worked sums, by computing.
use Rattle.std.proofs.Common.{◌≡◌, ℕ, zero, suc, refl, ap, ◌∙◌, List, [], ◌∷◌, ℤ, pos}
use Rattle.std.specs.Int.{saturate_signed, w64}
use Rattle.std.specs.Prelude.{◌+ℤ◌}
use Rattle.pm_base.specs.declared.layout.ClassRow.{ClassRow}
use Rattle.pm_base.specs.declared.program.Field.TheVariants as field
use Rattle.pm_base.specs.declared.stamp.Stamp.{Stamp}
use Rattle.pm_base.specs.declared.value.Change.TheVariants as change
use Rattle.pm_base.specs.declared.value.Hit.{Hit}
use Rattle.pm_base.specs.declared.value.Query.TheVariants as query
use Rattle.pm_base.specs.declared.value.Write.{Write}
use Rattle.pm_model.specs.Hits.{hits}
use Rattle.pm_step.proofs.ExpressionLaws.{value-Bin, value-Num, value-Part}
use Rattle.pm_step.proofs.StatementLaws.{does-Set}
use Rattle.pm_step.specs.Expressions.{part, sight}
use Rattle.pm_step.specs.Steps.{step, written}
use Rattle.pm_alp.specs.Agents.{Actor}
use Rattle.pm_sim.proofs.FastTurns.{run_same}
use Rattle.pm_sim.proofs.Rows.{idle, nothing, pruned_window_run_is, then_act}
use Rattle.pm_sim.specs.Samples.{pruned_window, read, rule}
use Rattle.pm_sim.specs.Worlds.{actor_of}
use Rattle.pm_calm.specs.Samples.{counting, one_more}
use Rattle.pm_cost.specs.Costs.{bound_of, cost_sum}

-- the agent that counts: it reads, and writes one more
abbrev counts : List Hit → List Write
counts a = record {
  var = 0;
  change = change.Set (record {
    x = saturate_signed w64 (saturate_signed w64 (part [] field.X a +ℤ pos 1));
    y =
        saturate_signed w64 (pos 0);
  });
} ∷ []

counts_up : (cs : List ClassRow) (s : Stamp) (regs : List ℤ) (answers : List (List Hit))
    → step (rule (read 0 ∷ []) one_more) (sight cs s regs answers) ≡ then_act (query.One 0) counts s regs answers
unfolding step written
counts_up cs s regs [] = refl
counts_up cs s regs (a ∷ []) = simp (does-Set, value-Num, value-Part, value-Bin)
counts_up cs s regs (a ∷ (z ∷ more)) = simp (does-Set, value-Num, value-Part, value-Bin)

abbrev counting_acts : ℕ → Actor
counting_acts zero = record { agent = 0; horizon = 2; acts = then_act (query.One 0) counts }
counting_acts (suc a) = record { agent = suc a; horizon = 2; acts = nothing }

counting_actors : (a : ℕ) → actor_of counting a ≡ counting_acts a
counting_actors zero =
    λ i. record { agent = 0; horizon = 2; acts = λ s regs answers. counts_up counting.layout.classes s regs answers i }
counting_actors (suc a) =
    λ i. record { agent = suc a; horizon = 2; acts = λ s regs answers. idle counting.layout.classes s regs answers i }

pub counting_sum : bound_of counting ≡ 27
unfolding hits
counting_sum = ap (cost_sum counting) (run_same counting counting_acts counting_actors) ∙ refl

pub pruned_window_sum : bound_of pruned_window ≡ 17
pruned_window_sum = ap (cost_sum pruned_window) pruned_window_run_is ∙ refl

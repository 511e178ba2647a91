use Rattle.std.proofs.Common.{◌≡◌, ◌∙◌, List, ap, true}
use Rattle.pm_base.specs.declared.rows.Entry.{Entry}
use Rattle.pm_base.specs.declared.run.Event.{Event}
use Rattle.pm_plan.specs.declared.plan.Plan.{Plan}
use Rattle.pm_sim.specs.Played.{Played}
use Rattle.pm_sim.specs.Samples.{adders, adders_entries, adders_run, late_write, late_write_entries, late_write_run, moving_query, moving_query_entries, moving_query_run, overtaken_cut, overtaken_cut_run, pruned_window, pruned_window_entries, pruned_window_run, withdrawn_write, withdrawn_write_entries, withdrawn_write_run}
use Rattle.pm_sim.specs.Worlds.{committed, first_world, is_legal_run}
use Rattle.pm_sim.proofs.KernelRows.{broken_hands, broken_stops}
use Rattle.pm_sim.proofs.Plays.{play_legal}
use Rattle.pm_sim.proofs.Rows.{adders_committed, adders_legal, late_write_committed, late_write_legal, moving_query_committed, moving_query_legal, overtaken_cut_committed, overtaken_cut_legal, pruned_window_committed, pruned_window_legal, withdrawn_write_committed, withdrawn_write_legal}
use Rattle.pm_core.specs.Rows.{PlaysTo}
use Rattle.pm_core.proofs.laws.rows_of_play.Goals as goal

plays : (p : Plan) (es : List Event) (entries : List Entry) → is_legal_run p (first_world p) es ≡ true
    → committed p es ≡ entries → PlaysTo p es entries
plays p es entries legal is = (let e = play_legal p (first_world p) es legal in record {
  whole = ap (λ (r : Played). r.stopped) e;
  handed = ap (λ (r : Played). r.entries) e ∙ is;
})

pub returns : goal.returns
returns c = record {
  late_write = plays late_write late_write_run late_write_entries late_write_legal late_write_committed;
  withdrawn_write = plays withdrawn_write withdrawn_write_run withdrawn_write_entries withdrawn_write_legal withdrawn_write_committed;
  overtaken_cut = plays overtaken_cut overtaken_cut_run withdrawn_write_entries overtaken_cut_legal overtaken_cut_committed;
  moving_query = plays moving_query moving_query_run moving_query_entries moving_query_legal moving_query_committed;
  pruned_window = plays pruned_window pruned_window_run pruned_window_entries pruned_window_legal pruned_window_committed;
  writes_that_add = plays adders adders_run adders_entries adders_legal adders_committed;
  stops = broken_stops;
  nothing = broken_hands;
}

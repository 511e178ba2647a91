-- Why the tables are as they are: for each of eight faults a list of events that is legal with it, and that commits
-- other entries than the sequential run's.
use Rattle.pm_queries.specs.Queries.{has_reg}
use Rattle.pm_saved.specs.declared.kept.KeptSense.{KeptSense}
use Rattle.pm_alp.specs.declared.agent.Agent.{Agent}
use Rattle.pm_saved.specs.Steps.{withdrawn}
use Rattle.pm_saved.specs.Senses.{add_kept, answer, hits_eq, kept_turn}
use Rattle.pm_saved.specs.Spots.{Spot, find}
use Rattle.std.proofs.Common.{◌≡◌, refl, sym, ap, arith, ℤ, pos, negsuc, ◌∙◌, List, [], ◌∷◌, ◌++◌, map, filter, true, false, Bool, ℕ, zero, suc, ◌+◌, Option, Some, None}
use Rattle.std.specs.Prelude.{if◌then◌else◌, nat_le, codes}
use Rattle.pm_base.specs.Windows.{overlap}
use Rattle.pm_base.specs.Layouts.{class_row}
use Rattle.pm_base.specs.declared.run.Event.{Event}
use Rattle.pm_base.specs.declared.run.Event.TheVariants as event
use Rattle.pm_base.specs.declared.rows.CutRow.{CutRow}
use Rattle.pm_base.specs.declared.rows.Entry.{Entry}
use Rattle.pm_base.specs.declared.rows.GiveRow.{GiveRow}
use Rattle.pm_base.specs.declared.rows.Parts.{Parts}
use Rattle.pm_base.specs.declared.rows.PutRow.{PutRow}
use Rattle.pm_base.specs.declared.stamp.Line.{Line}
use Rattle.pm_base.specs.declared.stamp.Line.TheVariants as line
use Rattle.pm_base.specs.declared.stamp.Stamp.{Stamp}
use Rattle.pm_base.specs.declared.value.Hit.{Hit}
use Rattle.pm_base.specs.declared.value.Query.TheVariants as query
use Rattle.pm_message.specs.declared.Message.{Message}
use Rattle.pm_message.specs.declared.Message.TheVariants as message
use Rattle.pm_model.specs.Hits.{hits}
use Rattle.pm_model.specs.Runs.{sequential_run}
use Rattle.pm_periods.specs.Records.{after_put, settled, cut_row}
use Rattle.pm_periods.specs.Records as records
use Rattle.pm_plan.specs.declared.plan.Plan.{Plan}
use Rattle.pm_alp.specs.Agents.{Actor, Sends, agent_after, at_open, first_sends, go_on, kept_in, no_sends}
use Rattle.pm_clp.specs.Clps.{Answered, ClpSends, ClpState, Hub, and_then, at_record, clp_after, clp_committed, installed, no_clp_sends, on_way, registered_at, sent_on, take_cut, telling, watch_all, way_of}
use Rattle.pm_sim.specs.Worlds.{World, actor_of, first_world, line_le}
use Rattle.pm_sim.specs.Sims.{has_put}
use Rattle.pm_sim.specs.Samples.{agent, all_then_commit, choosing, deliveries, entry, hit, late_write, moving_query, overtaken_cut, plan, read, root, root_and_left, scan, set_to, var, withdrawn_write, write}
use Rattle.pm_sim.proofs.FastTurns.{run_same}
use Rattle.pm_sim.proofs.Machines.{Tables, committed_by, committed_same, legal_run_by, legal_run_same, right}
use Rattle.pm_sim.proofs.Rows.{late_write_run_is, withdrawn_write_run_is, overtaken_cut_run_is, moving_query_run_is, Acts, at_once, box, by_acts, choice_acts, chosen, chooses, clamped, does_as, idle, late_actors, late_acts, moving_query_actors, nothing, overtaken_cut_actors, query_acts, reads, scans, sets, then_act, withdrawn_write_actors}

-- the first coordinates of all hits in these entries, added up
abbrev up : ℤ → ℕ
up (pos n) = n
up (negsuc n) = 0

abbrev of_hits : List Hit → ℕ
of_hits [] = 0
of_hits (h ∷ hs) = up h.value.x + of_hits hs

abbrev of_answers : List (List Hit) → ℕ
of_answers [] = 0
of_answers (a ∷ as') = of_hits a + of_answers as'

abbrev seen : List Entry → ℕ
seen [] = 0
seen (e ∷ es) = of_answers e.answers + seen es

-- what a plan's runs commit with other tables, and whether they are legal with them
module _ (p : Plan) (t : Tables) where
  abbrev commits : List Event → List Entry
  commits es = committed_by p t (actor_of p) (first_world p) es

  abbrev is_legal : List Event → Bool
  is_legal es = legal_run_by p t (actor_of p) (first_world p) es

-- and by agents that act as the plan's
module _ (p : Plan) (t : Tables) (f : ℕ → Acts) (same : (a : ℕ) → actor_of p a ≡ by_acts f a) where
  commits_by : (es : List Event) → commits p t es ≡ committed_by p t (by_acts f) (first_world p) es
  commits_by es = committed_same p (by_acts f) same t (first_world p) es

  legal_by : (es : List Event) → is_legal p t es ≡ legal_run_by p t (by_acts f) (first_world p) es
  legal_by es = legal_run_same p (by_acts f) same t (first_world p) es

-- ---- a late write is stored, and reads that were answered keep their hit
abbrev stored : PutRow → Parts → Answered
stored r parts = record { rec = record (after_put r parts) { reads = parts.reads }; gives = [] }

abbrev keeping_hits : Hub → ℕ → Message → ClpState → ClpSends
keeping_hits h from (message.Put n t v c) s =
    on_way h (way_of v s) (message.Put n t v c) s (at_record h v (stored (record { num = n; stamp = t; change = c })))
keeping_hits h from m s = clp_after h from m s

abbrev late_write_keeps_hits : Tables
late_write_keeps_hits = record right { clp = keeping_hits }

abbrev unseen_write_run : List Event
unseen_write_run = all_then_commit ((2, 2) ∷ (0, 2) ∷ (2, 0) ∷ (1, 1) ∷ (0, 1) ∷ [])

pub late_write_keeps_hits_legal : is_legal late_write late_write_keeps_hits unseen_write_run ≡ true
late_write_keeps_hits_legal = legal_by late_write late_write_keeps_hits late_acts late_actors unseen_write_run ∙ refl

-- r has the value from before the write
pub late_write_keeps_hits_commits : commits late_write late_write_keeps_hits unseen_write_run
    ≡ entry 0 [] (write 0 5 ∷ []) ∷ entry 1 ((hit 0 0 ∷ []) ∷ []) [] ∷ []
late_write_keeps_hits_commits =
    commits_by late_write late_write_keeps_hits late_acts late_actors unseen_write_run ∙ refl

pub late_write_keeps_hits_differs : commits late_write late_write_keeps_hits unseen_write_run
    ≡ sequential_run late_write → ⊥
late_write_keeps_hits_differs e =
    (let d : 0 ≡ 5 = ap seen (sym late_write_keeps_hits_commits ∙ (e ∙ late_write_run_is)) in omega (arith, d))

-- ---- a rollback withdraws no write
abbrev is_no_cut : Message → Bool
is_no_cut (message.Cut n t v) = false
is_no_cut m = true

abbrev without_cuts : Actor → Agent → Message → Sends
without_cuts p a m = record (agent_after p a m) { sent = filter is_no_cut (agent_after p a m).sent }

abbrev rollback_without_cuts : Tables
rollback_without_cuts = record right { agent = without_cuts }

abbrev uncut_run : List Event
uncut_run = all_then_commit ((2, 2) ∷ (0, 2) ∷ (2, 0) ∷ (0, 2) ∷ (3, 3) ∷ (0, 3) ∷ (3, 0) ∷ (1, 1) ∷ (0, 1) ∷ (2, 0)
    ∷ (0, 2) ∷ [])

pub rollback_without_cuts_legal : is_legal withdrawn_write rollback_without_cuts uncut_run ≡ true
rollback_without_cuts_legal =
    legal_by withdrawn_write rollback_without_cuts choice_acts withdrawn_write_actors uncut_run ∙ refl

-- r has the write that no step of the run does
pub rollback_without_cuts_commits : commits withdrawn_write rollback_without_cuts uncut_run
    ≡ entry 0 [] (write 0 1 ∷ []) ∷ entry 1 ((hit 0 1 ∷ []) ∷ []) (write 2 7 ∷ [])
    ∷ entry 2 ((hit 1 7 ∷ []) ∷ []) [] ∷ []
rollback_without_cuts_commits =
    commits_by withdrawn_write rollback_without_cuts choice_acts withdrawn_write_actors uncut_run ∙ refl

pub rollback_without_cuts_differs : commits withdrawn_write rollback_without_cuts uncut_run
    ≡ sequential_run withdrawn_write → ⊥
rollback_without_cuts_differs e =
    (let d : 8 ≡ 1 = ap seen (sym rollback_without_cuts_commits ∙ (e ∙ withdrawn_write_run_is)) in omega (arith, d))

-- ---- a rollback numbers from the sense on again
abbrev renumbered : Actor → Agent → Spot → KeptSense → Sends
renumbered p a spot x = first_sends (withdrawn (spot.here ∷ spot.rest))
    (go_on p a.base spot.front spot.here.stamp (spot.before ++ x ∷ []) (x.num.seq + 1))

abbrev with_hit_again : Actor → Agent → Spot → KeptSense → Sends
with_hit_again p a spot x =
    if spot.sense.complete
    then (if hits_eq (answer x.hits) (answer spot.sense.hits)
    then no_sends (kept_in a spot x) else renumbered p a spot x)
    else at_open p a spot spot.sense.query x

abbrev on_give_again : Actor → Agent → GiveRow → Option Spot → Sends
on_give_again p a r None = no_sends a
on_give_again p a r (Some spot) =
    if nat_le r.turn (kept_turn r.var spot.sense.hits) then no_sends a
    else with_hit_again p a spot
    (record spot.sense { hits = add_kept (record { var = r.var; turn = r.turn; hit = r.hit }) spot.sense.hits })

abbrev numbering_again : Actor → Agent → Message → Sends
numbering_again p a (message.Give r) = on_give_again p a r (find r.num a.steps)
numbering_again p a m = agent_after p a m

abbrev numbers_used_again : Tables
numbers_used_again = record right { agent = numbering_again }

-- m writes c1 in both cases
abbrev rewriting : Plan
rewriting = plan 0 root 2 (var (codes "c0") 0 0 ∷ var (codes "c1") 0 0 ∷ [])
    (agent (codes "w") 0 [] (set_to 0 1) ∷ agent (codes "m") 0 (read 0 ∷ []) (choosing 1 8 1 7)
    ∷ agent (codes "r") 0 (read 1 ∷ []) [] ∷ [])

abbrev rewriting_acts : ℕ → Acts
rewriting_acts zero = at_once (clamped 0 1)
rewriting_acts (suc zero) = then_act (query.One 0) (chosen 1 8 1 7)
rewriting_acts (suc (suc zero)) = then_act (query.One 1) (λ _. [])
rewriting_acts (suc (suc (suc n))) = nothing

rewriting_actors : (a : ℕ) → actor_of rewriting a ≡ by_acts rewriting_acts a
rewriting_actors zero = does_as 0 _ _ (λ s regs answers. sets _ s regs 0 1 answers)
rewriting_actors (suc zero) = does_as 1 _ _ (λ s regs answers. chooses _ s regs 1 8 1 7 answers)
rewriting_actors (suc (suc zero)) = does_as 2 _ _ (λ s regs answers. reads _ s regs 1 answers)
rewriting_actors (suc (suc (suc n))) = does_as (suc (suc (suc n))) _ _ (λ s regs answers. idle _ s regs answers)

abbrev rewriting_run : List Event
rewriting_run = all_then_commit ((2, 2) ∷ (0, 2) ∷ (2, 0) ∷ (0, 2) ∷ (3, 3) ∷ (0, 3) ∷ (3, 0) ∷ (1, 1) ∷ (0, 1)
    ∷ (2, 0) ∷ (0, 2) ∷ (0, 2) ∷ (3, 0) ∷ [])

pub numbers_used_again_legal : is_legal rewriting numbers_used_again rewriting_run ≡ true
numbers_used_again_legal = legal_by rewriting numbers_used_again rewriting_acts rewriting_actors rewriting_run ∙ refl

-- m's second write of c1 has the number of the first, and is taken for it
pub numbers_used_again_commits : commits rewriting numbers_used_again rewriting_run
    ≡ entry 0 [] (write 0 1 ∷ []) ∷ entry 1 ((hit 0 1 ∷ []) ∷ []) (write 1 8 ∷ [])
    ∷ entry 2 ((hit 1 0 ∷ []) ∷ []) [] ∷ []
numbers_used_again_commits =
    commits_by rewriting numbers_used_again rewriting_acts rewriting_actors rewriting_run ∙ refl

pub rewriting_run_is : sequential_run rewriting
    ≡ entry 0 [] (write 0 1 ∷ []) ∷ entry 1 ((hit 0 1 ∷ []) ∷ []) (write 1 8 ∷ [])
    ∷ entry 2 ((hit 1 8 ∷ []) ∷ []) [] ∷ []
unfolding hits
rewriting_run_is = run_same rewriting (by_acts rewriting_acts) rewriting_actors ∙ refl

pub numbers_used_again_differs : commits rewriting numbers_used_again rewriting_run ≡ sequential_run rewriting → ⊥
numbers_used_again_differs e =
    (let d : 1 ≡ 9 = ap seen (sym numbers_used_again_commits ∙ (e ∙ rewriting_run_is)) in omega (arith, d))

-- ---- a Cut that comes before its Put is dropped
abbrev cut_if : Bool → ℕ → CutRow → Parts → Answered
cut_if true v c r = take_cut v c r
cut_if false v c r = record { rec = r; gives = [] }

abbrev dropping_cuts : Hub → ℕ → Message → ClpState → ClpSends
dropping_cuts h from (message.Cut n t v) s = on_way h (way_of v s) (message.Cut n t v) s (λ z.
    and_then (at_record h v (λ r. cut_if (has_put n r.puts) v (cut_row n t) r) z) (telling h v t))
dropping_cuts h from m s = clp_after h from m s

abbrev early_cut_is_dropped : Tables
early_cut_is_dropped = record right { clp = dropping_cuts }

abbrev dropped_cut_run : List Event
dropped_cut_run = all_then_commit ((3, 3) ∷ (1, 3) ∷ (3, 1) ∷ (4, 4) ∷ (1, 4) ∷ (1, 3) ∷ (0, 1) ∷ (1, 0) ∷ (1, 0)
    ∷ (2, 2) ∷ (1, 2) ∷ (3, 1) ∷ (1, 3) ∷ (0, 1) ∷ (1, 0) ∷ (1, 3) ∷ (4, 1) ∷ (4, 1) ∷ (0, 1) ∷ [])

pub early_cut_is_dropped_legal : is_legal overtaken_cut early_cut_is_dropped dropped_cut_run ≡ true
unfolding overlap
early_cut_is_dropped_legal =
    legal_by overtaken_cut early_cut_is_dropped choice_acts overtaken_cut_actors dropped_cut_run ∙ refl

-- k has the write that was withdrawn
pub early_cut_is_dropped_commits : commits overtaken_cut early_cut_is_dropped dropped_cut_run
    ≡ entry 0 [] (write 0 1 ∷ []) ∷ entry 1 ((hit 0 1 ∷ []) ∷ []) (write 2 7 ∷ [])
    ∷ entry 2 ((hit 1 7 ∷ []) ∷ []) [] ∷ []
unfolding overlap
early_cut_is_dropped_commits =
    commits_by overtaken_cut early_cut_is_dropped choice_acts overtaken_cut_actors dropped_cut_run ∙ refl

pub early_cut_is_dropped_differs : commits overtaken_cut early_cut_is_dropped dropped_cut_run
    ≡ sequential_run overtaken_cut → ⊥
early_cut_is_dropped_differs e =
    (let d : 8 ≡ 1 = ap seen (sym early_cut_is_dropped_commits ∙ (e ∙ overtaken_cut_run_is)) in omega (arith, d))

-- ---- a record that comes isn't watched by the queries that are registered
abbrev skipping_queries : Hub → ℕ → Message → ClpState → ClpSends
skipping_queries h from (message.Move v t r) s = no_clp_sends (installed h from v (settled r) s)
skipping_queries h from m s = clp_after h from m s

abbrev move_skips_registered_queries : Tables
move_skips_registered_queries = record right { clp = skipping_queries }

abbrev skipped_query_run : List Event
skipped_query_run = all_then_commit ((3, 3) ∷ (1, 3) ∷ (0, 1) ∷ (2, 2) ∷ (1, 2) ∷ (0, 1) ∷ (1, 0) ∷ (1, 0) ∷ (1, 0)
    ∷ (2, 1) ∷ (3, 1) ∷ [])

pub move_skips_registered_queries_legal : is_legal moving_query move_skips_registered_queries skipped_query_run ≡ true
unfolding overlap
move_skips_registered_queries_legal =
    legal_by moving_query move_skips_registered_queries query_acts moving_query_actors skipped_query_run ∙ refl

-- a's query missed c0 on both sides
pub move_skips_registered_queries_commits : commits moving_query move_skips_registered_queries skipped_query_run
    ≡ entry 0 ([] ∷ []) [] ∷ entry 1 ((hit 0 1 ∷ []) ∷ []) [] ∷ []
unfolding overlap
move_skips_registered_queries_commits =
    commits_by moving_query move_skips_registered_queries query_acts moving_query_actors skipped_query_run ∙ refl

pub move_skips_registered_queries_differs : commits moving_query move_skips_registered_queries skipped_query_run
    ≡ sequential_run moving_query → ⊥
move_skips_registered_queries_differs e = (let d : 1 ≡ 2 =
    ap seen (sym move_skips_registered_queries_commits ∙ (e ∙ moving_query_run_is)) in omega (arith, d))

-- ---- a port prunes a query by its bound at the latest stamp
abbrev latest : Stamp
latest = record { time = 1; agent = 0 }

abbrev pruning_late : Hub → ℕ → Message → ClpState → ClpSends
pruning_late h from (message.Ask n t (query.Class k w)) s =
    if has_reg n s.queries then no_clp_sends s
    else and_then (watch_all h n t w (class_row h.classes k).first (class_row h.classes k).count s)
    (λ z. registered_at h from n t k w (filter (sent_on h z.bound from k latest w) h.ports) z)
pruning_late h from m s = clp_after h from m s

abbrev prunes_by_the_latest_bound : Tables
prunes_by_the_latest_bound = record right { clp = pruning_late }

-- u writes what r asks for, and w takes it back later
abbrev taken_back : Plan
taken_back = plan 0 root_and_left 1 (var (codes "c0") 0 0 ∷ [])
    (agent (codes "u") 0 [] (set_to 0 50) ∷ agent (codes "r") 1 (scan 40 60 0 0 ∷ []) []
    ∷ agent (codes "w") 0 [] (set_to 0 0) ∷ [])

abbrev taken_back_acts : ℕ → Acts
taken_back_acts zero = at_once (clamped 0 50)
taken_back_acts (suc zero) = then_act (query.Class 0 (box 40 60 0 0)) (λ _. [])
taken_back_acts (suc (suc zero)) = at_once (clamped 0 0)
taken_back_acts (suc (suc (suc n))) = nothing

taken_back_actors : (a : ℕ) → actor_of taken_back a ≡ by_acts taken_back_acts a
taken_back_actors zero = does_as 0 _ _ (λ s regs answers. sets _ s regs 0 50 answers)
taken_back_actors (suc zero) = does_as 1 _ _ (λ s regs answers. scans _ s regs 40 60 0 0 answers)
taken_back_actors (suc (suc zero)) = does_as 2 _ _ (λ s regs answers. sets _ s regs 0 0 answers)
taken_back_actors (suc (suc (suc n))) = does_as (suc (suc (suc n))) _ _ (λ s regs answers. idle _ s regs answers)

abbrev taken_back_run : List Event
taken_back_run = all_then_commit ((4, 4) ∷ (0, 4) ∷ (2, 2) ∷ (0, 2) ∷ (1, 0) ∷ (3, 3) ∷ (1, 3) ∷ (3, 1) ∷ [])

pub prunes_by_the_latest_bound_legal : is_legal taken_back prunes_by_the_latest_bound taken_back_run ≡ true
unfolding overlap
prunes_by_the_latest_bound_legal =
    legal_by taken_back prunes_by_the_latest_bound taken_back_acts taken_back_actors taken_back_run ∙ refl

-- r's query isn't sent to where its value stood
pub prunes_by_the_latest_bound_commits : commits taken_back prunes_by_the_latest_bound taken_back_run
    ≡ entry 0 [] (write 0 50 ∷ []) ∷ entry 1 ([] ∷ []) [] ∷ entry 2 [] (write 0 0 ∷ []) ∷ []
unfolding overlap
prunes_by_the_latest_bound_commits =
    commits_by taken_back prunes_by_the_latest_bound taken_back_acts taken_back_actors taken_back_run ∙ refl

pub taken_back_run_is : sequential_run taken_back
    ≡ entry 0 [] (write 0 50 ∷ []) ∷ entry 1 ((hit 0 50 ∷ []) ∷ []) [] ∷ entry 2 [] (write 0 0 ∷ []) ∷ []
unfolding hits
taken_back_run_is = run_same taken_back (by_acts taken_back_acts) taken_back_actors ∙ refl

pub prunes_by_the_latest_bound_differs : commits taken_back prunes_by_the_latest_bound taken_back_run
    ≡ sequential_run taken_back → ⊥
prunes_by_the_latest_bound_differs e =
    (let d : 0 ≡ 50 = ap seen (sym prunes_by_the_latest_bound_commits ∙ (e ∙ taken_back_run_is)) in omega (arith, d))

-- ---- a Commit drops the writes below its line and keeps the base from before them
abbrev old_base : Line → Option Parts → Option Parts
old_base l None = None
old_base l (Some r) = Some (record (records.trimmed l r) { base = r.base })

abbrev keeping_base : Line → ClpState → ClpState
keeping_base l s = record (clp_committed l s) { records = map (old_base l) s.records }

abbrev trim_keeps_the_old_base : Tables
trim_keeps_the_old_base = record right { trim = keeping_base }

abbrev lost_write_run : List Event
lost_write_run = deliveries ((1, 1) ∷ (0, 1) ∷ []) ++ event.Commit (line.At (record { time = 0; agent = 1 }))
    ∷ all_then_commit ((2, 2) ∷ (0, 2) ∷ (2, 0) ∷ [])

pub trim_keeps_the_old_base_legal : is_legal late_write trim_keeps_the_old_base lost_write_run ≡ true
trim_keeps_the_old_base_legal = legal_by late_write trim_keeps_the_old_base late_acts late_actors lost_write_run ∙ refl

-- r has the value from before the write that was committed
pub trim_keeps_the_old_base_commits : commits late_write trim_keeps_the_old_base lost_write_run
    ≡ entry 0 [] (write 0 5 ∷ []) ∷ entry 1 ((hit 0 0 ∷ []) ∷ []) [] ∷ []
trim_keeps_the_old_base_commits =
    commits_by late_write trim_keeps_the_old_base late_acts late_actors lost_write_run ∙ refl

pub trim_keeps_the_old_base_differs : commits late_write trim_keeps_the_old_base lost_write_run
    ≡ sequential_run late_write → ⊥
trim_keeps_the_old_base_differs e =
    (let d : 0 ≡ 5 = ap seen (sym trim_keeps_the_old_base_commits ∙ (e ∙ late_write_run_is)) in omega (arith, d))

-- ---- a Commit may stand above messages that are on their way
abbrev at_any_line : World → Line → Bool
at_any_line w l = line_le w.line l

abbrev commit_line_ignores_messages : Tables
commit_line_ignores_messages = record right { may = at_any_line }

abbrev hasty_run : List Event
hasty_run = all_then_commit ((2, 2) ∷ (0, 2) ∷ (2, 0) ∷ [])

pub commit_line_ignores_messages_legal : is_legal late_write commit_line_ignores_messages hasty_run ≡ true
commit_line_ignores_messages_legal =
    legal_by late_write commit_line_ignores_messages late_acts late_actors hasty_run ∙ refl

-- r's step is committed before w's, with the value from before it
pub commit_line_ignores_messages_commits : commits late_write commit_line_ignores_messages hasty_run
    ≡ entry 1 ((hit 0 0 ∷ []) ∷ []) [] ∷ []
commit_line_ignores_messages_commits =
    commits_by late_write commit_line_ignores_messages late_acts late_actors hasty_run ∙ refl

pub commit_line_ignores_messages_differs : commits late_write commit_line_ignores_messages hasty_run
    ≡ sequential_run late_write → ⊥
commit_line_ignores_messages_differs e =
    (let d : 0 ≡ 5 = ap seen (sym commit_line_ignores_messages_commits ∙ (e ∙ late_write_run_is)) in omega (arith, d))

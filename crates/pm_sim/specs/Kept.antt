-- What the processes keep, and that nothing of it is below the line.
use Rattle.pm_queries.specs.declared.registered.Registered.{Registered}
use Rattle.std.specs.Prelude.{List, None, Option, Some, [], length, true, ℕ, ◌+◌, ◌∷◌, ◌≡◌}
use Rattle.pm_base.specs.declared.rows.CutRow.{CutRow}
use Rattle.pm_base.specs.declared.rows.Parts.{Parts}
use Rattle.pm_base.specs.declared.rows.PutRow.{PutRow}
use Rattle.pm_base.specs.declared.rows.ReadRow.{ReadRow}
use Rattle.pm_base.specs.declared.run.Event.{Event}
use Rattle.pm_base.specs.declared.stamp.Line.{Line}
use Rattle.pm_plan.specs.declared.plan.Plan.{Plan}
use Rattle.pm_saved.specs.declared.kept.KeptStep.{KeptStep}
use Rattle.pm_alp.specs.declared.agent.Agent.{Agent}
use Rattle.pm_clp.specs.Clps.{ClpState, rec_at}
use Rattle.pm_sim.specs.Looks.{agent_of, clp_of}
use Rattle.pm_sim.specs.Sims.{In, NotPast}
use Rattle.pm_sim.specs.Worlds.{World, after_events, first_world, is_legal_run}
use Rattle.pm_base.specs.declared.stamp.Line.TheVariants as line

-- the rows of a record that is here
abbrev pub kept_rec : Option Parts → ℕ
kept_rec None = 0
kept_rec (Some r) = length r.puts + (length r.cuts + length r.reads)

-- the rows of these records
abbrev pub kept_recs : List (Option Parts) → ℕ
kept_recs [] = 0
kept_recs (r ∷ rs) = kept_rec r + kept_recs rs

-- the rows and registered queries of these CLPs
abbrev pub kept_clps : List ClpState → ℕ
kept_clps [] = 0
kept_clps (c ∷ cs) = (kept_recs c.records + length c.queries) + kept_clps cs

-- the steps of these agents
abbrev pub kept_agents : List Agent → ℕ
kept_agents [] = 0
kept_agents (a ∷ as') = length a.steps + kept_agents as'

-- kept steps, received puts and cuts, reads and registered queries; not those of a Move on its way
abbrev pub kept : World → ℕ
kept w = kept_clps w.clps + kept_agents w.agents

-- no row, step or registered query that is kept is below the line
pub record Kept (k : Line) (w : World) : Type 0 where
  pub steps : (a : ℕ) (s : KeptStep) → In s (agent_of w a).steps → NotPast k s.stamp
  pub puts : (c v : ℕ) (r : Parts)
      → rec_at (clp_of w c).records v ≡ Some r → (x : PutRow) → In x r.puts → NotPast k x.stamp
  pub cuts : (c v : ℕ) (r : Parts)
      → rec_at (clp_of w c).records v ≡ Some r → (x : CutRow) → In x r.cuts → NotPast k x.stamp
  pub reads : (c v : ℕ) (r : Parts)
      → rec_at (clp_of w c).records v ≡ Some r → (x : ReadRow) → In x r.reads → NotPast k x.stamp
  pub queries : (c : ℕ) (r : Registered) → In r (clp_of w c).queries → NotPast k r.stamp

-- in each world of a legal run nothing that is kept is below the line, and at End nothing is kept
pub record KeptAbove (p : Plan) (w : World) : Type 0 where
  pub above : Kept w.line w
  pub none : w.line ≡ line.End → kept w ≡ 0

-- so it is behind each Commit, whatever was delivered
abbrev pub NothingBelowIsKept : Plan → List Event → Type 0
NothingBelowIsKept p es = is_legal_run p (first_world p) es ≡ true → KeptAbove p (after_events p (first_world p) es)

-- The links of a world: which there are, and that each message stands in one of them.
use Rattle.std.specs.Prelude.{List, length, map, true, ◌≡◌}
use Rattle.pm_base.specs.declared.run.Event.{Event}
use Rattle.pm_plan.specs.declared.plan.Plan.{Plan}
use Rattle.pm_sim.specs.Bounds.{between}
use Rattle.pm_sim.specs.Sims.{In}
use Rattle.pm_sim.specs.Worlds.{Link, Mail, Process, World, after_events, clps_of, first_world, is_legal_run, mail}

-- the two processes of each link, the receiver first
abbrev pub link_keys : List Link → List (Process × Process)
link_keys ls = map (λ (l : Link). (l.to, l.from)) ls

-- the links are those of the first world, and each message on its way stands between its two processes
pub record LinksAre (p : Plan) (w : World) : Type 0 where
  pub keys : link_keys w.links ≡ link_keys (first_world p).links
  pub between : (x : Mail) → In x (mail w.links) → In x.message (between x.to x.from w.links)
  pub agents : length w.agents ≡ length p.agents
  pub clps : length w.clps ≡ clps_of p

-- so it is in each world of a legal run
abbrev pub LinksStay : Plan → List Event → Type 0
LinksStay p es = is_legal_run p (first_world p) es ≡ true → LinksAre p (after_events p (first_world p) es)

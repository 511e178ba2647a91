-- The worked plans: what each rule does, as a function that computes; then their runs, by computing.
use Rattle.std.proofs.Common.{◌≡◌, refl, ◌∙◌, inl, inr, List, [], ◌∷◌, ◌++◌, true, ℤ, ℕ, zero, suc, pos, negsuc}
use Rattle.std.specs.Prelude.{if◌then◌else◌, ◌-ℤ◌}
use Rattle.std.proofs.lemmas.Bool.{cases_Bool}
use Rattle.pm_base.specs.Windows.{overlap}
use Rattle.pm_base.specs.declared.layout.ClassRow.{ClassRow}
use Rattle.pm_base.specs.declared.program.Field.TheVariants as field
use Rattle.pm_base.specs.declared.run.Event.{Event}
use Rattle.pm_base.specs.declared.stamp.Stamp.{Stamp}
use Rattle.std.specs.Int.{w64, saturate_signed}
use Rattle.pm_base.specs.declared.value.Change.TheVariants as change
use Rattle.pm_base.specs.declared.value.Hit.{Hit}
use Rattle.pm_base.specs.declared.value.Query.{Query}
use Rattle.pm_base.specs.declared.value.Query.TheVariants as query
use Rattle.pm_base.specs.declared.value.Window.{Window}
use Rattle.pm_base.specs.declared.value.Write.{Write}
use Rattle.pm_step.specs.Arithmetic.{is_zero, truth_of}
use Rattle.pm_step.specs.Expressions.{part, sight}
use Rattle.pm_step.specs.Steps.{step, written}
use Rattle.pm_step.specs.declared.Next.{Next}
use Rattle.pm_step.specs.declared.Next.TheVariants as next
use Rattle.pm_step.proofs.ExpressionLaws.{value-Num, value-Part, value-Bin}
use Rattle.pm_step.proofs.StatementLaws.{does-Add, does-Set, does-If}
use Rattle.pm_plan.specs.declared.plan.Plan.{Plan}
use Rattle.pm_alp.specs.Agents.{Actor, Rule, step_of}
use Rattle.pm_sim.specs.Worlds.{actor_of, committed, first_world, is_legal_run}
use Rattle.pm_sim.specs.Samples.{add_to, choosing, read, rule, scan, set_to, write}
use Rattle.pm_sim.specs.Samples.{late_write, late_write_run, late_write_entries, first_commit_run, second_commit, withdrawn_write, withdrawn_write_run, withdrawn_write_entries, overtaken_cut, overtaken_cut_run, moving_query, moving_query_run, moving_query_entries, pruned_window, pruned_window_run, pruned_window_entries, early_query, early_query_run, early_query_entries, adders, adders_run, adders_entries, entry}
use Rattle.pm_model.specs.Hits.{hits}
use Rattle.pm_model.specs.Runs.{sequential_run}
use Rattle.pm_sim.proofs.FastTurns.{run_same}
use Rattle.pm_sim.proofs.Machines.{committed_by, from_same, legal_run_by, legal_same, right}

-- what a rule does, as a function of the stamp, the registers and the answers so far
abbrev pub Acts : Type 0
Acts = Stamp → List ℤ → List (List Hit) → Next

-- acting with these writes
abbrev pub act : List ℤ → List Write → Next
act regs ws = next.Act (record { writes = ws; regs = regs; wait = 1 })

-- the write of a number, brought back to 64 bits
abbrev pub clamped : ℕ → ℕ → Write
clamped v x =
    record {
      var = v;
      change = change.Set (record { x = saturate_signed w64 (pos x); y = saturate_signed w64 (pos 0) });
    }

-- a write that adds these numbers, brought back to 64 bits
abbrev pub added : ℕ → ℤ → ℤ → Write
added v x y = record { var = v; change = change.Add (record { x = saturate_signed w64 x; y = saturate_signed w64 y }) }

-- a rule without senses
abbrev pub at_once : Write → Acts
at_once w s regs answers = act regs (w ∷ [])

-- a rule of one sense
abbrev pub then_act : Query → (List Hit → List Write) → Acts
then_act q f s regs [] = next.Ask q
then_act q f s regs (a ∷ more) = act regs (f a)

abbrev pub nothing : Acts
nothing s regs answers = act regs []

-- what these rules do
module _ (cs : List ClassRow) (s : Stamp) (regs : List ℤ) where
  pub sets : (v x : ℕ) (answers : List (List Hit))
      → step (rule [] (set_to v x)) (sight cs s regs answers) ≡ at_once (clamped v x) s regs answers
  unfolding step written
  sets v x answers = simp (does-Set, value-Num)

  pub adds : (v : ℕ) (x y : ℤ) (answers : List (List Hit))
      → step (rule [] (add_to v x y)) (sight cs s regs answers) ≡ at_once (added v x y) s regs answers
  unfolding step written
  adds v x y answers = simp (does-Add, value-Num)

  pub idle : (answers : List (List Hit))
      → step (record { regs = []; senses = []; body = [] }) (sight cs s regs answers) ≡ nothing s regs answers
  unfolding step
  idle answers = refl

  pub reads : (v : ℕ) (answers : List (List Hit))
      → step (rule (read v ∷ []) []) (sight cs s regs answers) ≡ then_act (query.One v) (λ _. []) s regs answers
  unfolding step
  reads v [] = refl
  reads v (a ∷ []) = refl
  reads v (a ∷ (x ∷ more)) = refl

-- the writes of a body that chooses
abbrev pub chosen : ℕ → ℕ → ℕ → ℕ → List Hit → List Write
chosen v x w y a =
    if is_zero (truth_of (is_zero (part [] field.X a -ℤ pos 1))) then clamped w y ∷ [] else clamped v x ∷ []

pub chooses : (cs : List ClassRow) (s : Stamp) (regs : List ℤ) (v x w y : ℕ) (answers : List (List Hit))
    → step (rule (read 0 ∷ []) (choosing v x w y)) (sight cs s regs answers)
    ≡ then_act (query.One 0) (chosen v x w y) s regs answers
unfolding step written
chooses cs s regs v x w y [] = refl
chooses cs s regs v x w y (a ∷ []) = elim (cases_Bool (is_zero (truth_of (is_zero (part [] field.X a -ℤ pos 1))))) [
  | inl e ↦ simp (does-If, does-Set, value-Num, value-Part, value-Bin, e)
  | inr e ↦ simp (does-If, does-Set, value-Num, value-Part, value-Bin, e)
]
chooses cs s regs v x w y (a ∷ (z ∷ more)) =
    elim (cases_Bool (is_zero (truth_of (is_zero (part [] field.X a -ℤ pos 1))))) [
      | inl e ↦ simp (does-If, does-Set, value-Num, value-Part, value-Bin, e)
      | inr e ↦ simp (does-If, does-Set, value-Num, value-Part, value-Bin, e)
    ]

-- a window from (x0, y0) to (x1, y1)
abbrev pub box : ℕ → ℕ → ℕ → ℕ → Window
box x0 x1 y0 y1 = record { x0 = pos x0; x1 = pos x1; y0 = pos y0; y1 = pos y1 }

pub scans : (cs : List ClassRow) (s : Stamp) (regs : List ℤ) (x0 x1 y0 y1 : ℕ) (answers : List (List Hit))
    → step (rule (scan x0 x1 y0 y1 ∷ []) []) (sight cs s regs answers)
    ≡ then_act (query.Class 0 (box x0 x1 y0 y1)) (λ _. []) s regs answers
unfolding step
scans cs s regs x0 x1 y0 y1 [] = simp (value-Num)
scans cs s regs x0 x1 y0 y1 (a ∷ []) = refl
scans cs s regs x0 x1 y0 y1 (a ∷ (x ∷ more)) = refl

-- an agent that acts so
abbrev pub acting : ℕ → Acts → Actor
acting a f = record { agent = a; horizon = 0; acts = f }

-- agents by what they do
abbrev pub by_acts : (ℕ → Acts) → ℕ → Actor
by_acts f a = acting a (f a)

-- an agent acts as its rule does
pub does_as : (a : ℕ) (r : Rule) (f : Acts)
    → ((s : Stamp) (regs : List ℤ) (answers : List (List Hit)) → step_of r s regs answers ≡ f s regs answers)
    → acting a (step_of r) ≡ acting a f
does_as a r f e = λ i. acting a (λ s regs answers. e s regs answers i)

-- the runs of a plan whose agents act as these functions say
module _ (p : Plan) (f : ℕ → Acts) (same : (a : ℕ) → actor_of p a ≡ by_acts f a) where
  pub commits : (es : List Event) → committed p es ≡ committed_by p right (by_acts f) (first_world p) es
  commits es = from_same p (by_acts f) same (first_world p) es

  pub legal : (es : List Event)
      → is_legal_run p (first_world p) es ≡ legal_run_by p right (by_acts f) (first_world p) es
  legal es = legal_same p (by_acts f) same (first_world p) es

-- w writes, r reads
abbrev pub late_acts : ℕ → Acts
late_acts zero = at_once (clamped 0 5)
late_acts (suc zero) = then_act (query.One 0) (λ _. [])
late_acts (suc (suc n)) = nothing

pub late_actors : (a : ℕ) → actor_of late_write a ≡ by_acts late_acts a
late_actors zero = does_as 0 _ _ (λ s regs answers. sets _ s regs 0 5 answers)
late_actors (suc zero) = does_as 1 _ _ (λ s regs answers. reads _ s regs 0 answers)
late_actors (suc (suc n)) = does_as (suc (suc n)) _ _ (λ s regs answers. idle _ s regs answers)

pub late_write_legal : is_legal_run late_write (first_world late_write) late_write_run ≡ true
late_write_legal = legal late_write late_acts late_actors late_write_run ∙ refl

pub late_write_committed : committed late_write late_write_run ≡ late_write_entries
late_write_committed = commits late_write late_acts late_actors late_write_run ∙ refl

pub late_write_run_is : sequential_run late_write ≡ late_write_entries
unfolding hits
late_write_run_is = run_same late_write (by_acts late_acts) late_actors ∙ refl

-- with two Commits
pub two_commits_legal : is_legal_run late_write (first_world late_write) (first_commit_run ++ second_commit) ≡ true
two_commits_legal = legal late_write late_acts late_actors (first_commit_run ++ second_commit) ∙ refl

pub first_commit_is : committed late_write first_commit_run ≡ entry 0 [] (write 0 5 ∷ []) ∷ []
first_commit_is = commits late_write late_acts late_actors first_commit_run ∙ refl

pub two_commits_are : committed late_write (first_commit_run ++ second_commit) ≡ late_write_entries
two_commits_are = commits late_write late_acts late_actors (first_commit_run ++ second_commit) ∙ refl

-- w writes, m reads and writes one of two, r reads
abbrev pub choice_acts : ℕ → Acts
choice_acts zero = at_once (clamped 0 1)
choice_acts (suc zero) = then_act (query.One 0) (chosen 2 7 1 7)
choice_acts (suc (suc zero)) = then_act (query.One 1) (λ _. [])
choice_acts (suc (suc (suc n))) = nothing

pub withdrawn_write_actors : (a : ℕ) → actor_of withdrawn_write a ≡ by_acts choice_acts a
withdrawn_write_actors zero = does_as 0 _ _ (λ s regs answers. sets _ s regs 0 1 answers)
withdrawn_write_actors (suc zero) = does_as 1 _ _ (λ s regs answers. chooses _ s regs 2 7 1 7 answers)
withdrawn_write_actors (suc (suc zero)) = does_as 2 _ _ (λ s regs answers. reads _ s regs 1 answers)
withdrawn_write_actors (suc (suc (suc n))) = does_as (suc (suc (suc n))) _ _ (λ s regs answers. idle _ s regs answers)

pub withdrawn_write_legal : is_legal_run withdrawn_write (first_world withdrawn_write) withdrawn_write_run ≡ true
withdrawn_write_legal = legal withdrawn_write choice_acts withdrawn_write_actors withdrawn_write_run ∙ refl

pub withdrawn_write_committed : committed withdrawn_write withdrawn_write_run ≡ withdrawn_write_entries
withdrawn_write_committed = commits withdrawn_write choice_acts withdrawn_write_actors withdrawn_write_run ∙ refl

pub withdrawn_write_run_is : sequential_run withdrawn_write ≡ withdrawn_write_entries
unfolding hits
withdrawn_write_run_is = run_same withdrawn_write (by_acts choice_acts) withdrawn_write_actors ∙ refl

-- the same where variables move
pub overtaken_cut_actors : (a : ℕ) → actor_of overtaken_cut a ≡ by_acts choice_acts a
overtaken_cut_actors zero = does_as 0 _ _ (λ s regs answers. sets _ s regs 0 1 answers)
overtaken_cut_actors (suc zero) = does_as 1 _ _ (λ s regs answers. chooses _ s regs 2 7 1 7 answers)
overtaken_cut_actors (suc (suc zero)) = does_as 2 _ _ (λ s regs answers. reads _ s regs 1 answers)
overtaken_cut_actors (suc (suc (suc n))) = does_as (suc (suc (suc n))) _ _ (λ s regs answers. idle _ s regs answers)

pub overtaken_cut_legal : is_legal_run overtaken_cut (first_world overtaken_cut) overtaken_cut_run ≡ true
unfolding overlap
overtaken_cut_legal = legal overtaken_cut choice_acts overtaken_cut_actors overtaken_cut_run ∙ refl

pub overtaken_cut_committed : committed overtaken_cut overtaken_cut_run ≡ withdrawn_write_entries
unfolding overlap
overtaken_cut_committed = commits overtaken_cut choice_acts overtaken_cut_actors overtaken_cut_run ∙ refl

pub overtaken_cut_run_is : sequential_run overtaken_cut ≡ withdrawn_write_entries
unfolding hits
overtaken_cut_run_is = run_same overtaken_cut (by_acts choice_acts) overtaken_cut_actors ∙ refl

-- a asks the class, b reads
abbrev pub query_acts : ℕ → Acts
query_acts zero = then_act (query.Class 0 (box 0 5 0 5)) (λ _. [])
query_acts (suc zero) = then_act (query.One 0) (λ _. [])
query_acts (suc (suc n)) = nothing

pub moving_query_actors : (a : ℕ) → actor_of moving_query a ≡ by_acts query_acts a
moving_query_actors zero = does_as 0 _ _ (λ s regs answers. scans _ s regs 0 5 0 5 answers)
moving_query_actors (suc zero) = does_as 1 _ _ (λ s regs answers. reads _ s regs 0 answers)
moving_query_actors (suc (suc n)) = does_as (suc (suc n)) _ _ (λ s regs answers. idle _ s regs answers)

pub moving_query_legal : is_legal_run moving_query (first_world moving_query) moving_query_run ≡ true
unfolding overlap
moving_query_legal = legal moving_query query_acts moving_query_actors moving_query_run ∙ refl

pub moving_query_committed : committed moving_query moving_query_run ≡ moving_query_entries
unfolding overlap
moving_query_committed = commits moving_query query_acts moving_query_actors moving_query_run ∙ refl

pub moving_query_run_is : sequential_run moving_query ≡ moving_query_entries
unfolding hits
moving_query_run_is = run_same moving_query (by_acts query_acts) moving_query_actors ∙ refl

-- w writes what r asks for
abbrev pub pruned_acts : ℕ → Acts
pruned_acts zero = at_once (clamped 0 50)
pruned_acts (suc zero) = then_act (query.Class 0 (box 40 60 0 0)) (λ _. [])
pruned_acts (suc (suc n)) = nothing

pub pruned_window_actors : (a : ℕ) → actor_of pruned_window a ≡ by_acts pruned_acts a
pruned_window_actors zero = does_as 0 _ _ (λ s regs answers. sets _ s regs 0 50 answers)
pruned_window_actors (suc zero) = does_as 1 _ _ (λ s regs answers. scans _ s regs 40 60 0 0 answers)
pruned_window_actors (suc (suc n)) = does_as (suc (suc n)) _ _ (λ s regs answers. idle _ s regs answers)

pub pruned_window_legal : is_legal_run pruned_window (first_world pruned_window) pruned_window_run ≡ true
unfolding overlap
pruned_window_legal = legal pruned_window pruned_acts pruned_window_actors pruned_window_run ∙ refl

pub pruned_window_committed : committed pruned_window pruned_window_run ≡ pruned_window_entries
unfolding overlap
pruned_window_committed = commits pruned_window pruned_acts pruned_window_actors pruned_window_run ∙ refl

pub pruned_window_run_is : sequential_run pruned_window ≡ pruned_window_entries
unfolding hits
pruned_window_run_is = run_same pruned_window (by_acts pruned_acts) pruned_window_actors ∙ refl

-- r asks for what w writes later
abbrev pub early_acts : ℕ → Acts
early_acts zero = then_act (query.Class 0 (box 40 60 0 0)) (λ _. [])
early_acts (suc zero) = at_once (clamped 0 50)
early_acts (suc (suc n)) = nothing

pub early_query_actors : (a : ℕ) → actor_of early_query a ≡ by_acts early_acts a
early_query_actors zero = does_as 0 _ _ (λ s regs answers. scans _ s regs 40 60 0 0 answers)
early_query_actors (suc zero) = does_as 1 _ _ (λ s regs answers. sets _ s regs 0 50 answers)
early_query_actors (suc (suc n)) = does_as (suc (suc n)) _ _ (λ s regs answers. idle _ s regs answers)

pub early_query_legal : is_legal_run early_query (first_world early_query) early_query_run ≡ true
unfolding overlap
early_query_legal = legal early_query early_acts early_query_actors early_query_run ∙ refl

pub early_query_committed : committed early_query early_query_run ≡ early_query_entries
unfolding overlap
early_query_committed = commits early_query early_acts early_query_actors early_query_run ∙ refl

pub early_query_run_is : sequential_run early_query ≡ early_query_entries
unfolding hits
early_query_run_is = run_same early_query (by_acts early_acts) early_query_actors ∙ refl

-- u and v add, r reads
abbrev pub adder_acts : ℕ → Acts
adder_acts zero = at_once (added 0 (pos 3) (pos 0))
adder_acts (suc zero) = at_once (added 0 (pos 4) (negsuc 0))
adder_acts (suc (suc zero)) = then_act (query.One 0) (λ _. [])
adder_acts (suc (suc (suc n))) = nothing

pub adders_actors : (a : ℕ) → actor_of adders a ≡ by_acts adder_acts a
adders_actors zero = does_as 0 _ _ (λ s regs answers. adds _ s regs 0 (pos 3) (pos 0) answers)
adders_actors (suc zero) = does_as 1 _ _ (λ s regs answers. adds _ s regs 0 (pos 4) (negsuc 0) answers)
adders_actors (suc (suc zero)) = does_as 2 _ _ (λ s regs answers. reads _ s regs 0 answers)
adders_actors (suc (suc (suc n))) = does_as (suc (suc (suc n))) _ _ (λ s regs answers. idle _ s regs answers)

pub adders_legal : is_legal_run adders (first_world adders) adders_run ≡ true
adders_legal = legal adders adder_acts adders_actors adders_run ∙ refl

pub adders_committed : committed adders adders_run ≡ adders_entries
adders_committed = commits adders adder_acts adders_actors adders_run ∙ refl

pub adders_run_is : sequential_run adders ≡ adders_entries
unfolding hits
adders_run_is = run_same adders (by_acts adder_acts) adders_actors ∙ refl

-- Which endings come of an input, where the devices do not fail.
use Rattle.std.proofs.Common.{◌≡◌, ◌≢◌, ◌⊎◌, inl, inr, ℕ, ◌≤◌, List, length, Option, Some, None, IfSome, Result, Ok, Err, refl, sym, ap, ◌∙◌, arith, Bool, true, false}
use Rattle.pm_plan.specs.declared.plan.Plan.{Plan}
use Rattle.pm_base.specs.declared.run.Event.{Event}
use Rattle.pm_kernel.specs.Runs.{left_by}
use Rattle.pm_sim.specs.Worlds.{mail}
use Rattle.pm_top.specs.Endings.{Accepts}
use Rattle.pm_top.specs.Headline.{Completes, HasBudget, IsEnough, IsWithin, given_where}
use Rattle.pm_top.specs.Printed.{PrintedIn, PrintedWhere}
use Rattle.pm_top.specs.Readings.{IsAccepted, IsLongInput, IsLongScenario, IsRefused, IsShort}
use Rattle.pm_resume.specs.declared.CutFault.{CutFault}
use Rattle.pm_scenario.specs.declared.fault.ScenarioFault.{ScenarioFault}
use Rattle.pm_words.specs.declared.settings.Mode.{Mode}
use Rattle.pm_words.specs.declared.settings.Mode.TheVariants as mode
use Rattle.pm_words.specs.declared.settings.Settings.{Settings}
use Rattle.pm_top.specs.declared.outcome.Ending.{Ending}
use Rattle.pm_top.specs.declared.outcome.Ending.TheVariants as ending

-- what a mode's work says of its ending
pub record Told (m : Mode) (e : Ending) (held : Option (List ℕ)) : Type 0 where
  pub words : e ≢ ending.Words
  pub refused : (f : ScenarioFault) → e ≡ ending.Refused f → IfSome held (IsRefused m f)
  pub too_long : e ≡ ending.TooLong → IfSome held (IsLongScenario m)
  pub long_input : e ≡ ending.InputTooLong → IfSome held (IsLongInput m)
  pub accepted : Accepts e → IfSome held (IsAccepted m)

pub ok-err : (p : Plan) (f : ScenarioFault) → Path (Result Plan ScenarioFault) (Ok p) (Err f) → ⊥
ok-err p f e = cc

same-fault : (f g : ScenarioFault) → Path (Result Plan ScenarioFault) (Err f) (Err g) → f ≡ g
same-fault f g e = cc

module _ (m : Mode) where
  not-both : (b : List ℕ) (f : ScenarioFault) → IsAccepted m b → IsRefused m f b → ⊥
  not-both b f a r = ok-err a.plan f (sym a.is ∙ r.no_plan)

  pub not-long : (b : List ℕ) → IsShort m b → IsLongScenario m b → ⊥
  not-long b short long = omega (arith, short.scenario, long)

  pub not-long-input : (b : List ℕ) → IsShort m b → IsLongInput m b → ⊥
  not-long-input b short long = omega (arith, short.input, long.long)

  one-length : {A : Type 0} (b : List ℕ) → IsLongScenario m b → IsLongInput m b → A
  one-length b long input = absurd (omega (arith, long, input.scenario))

  pub refuses : (e : Ending) (held : Option (List ℕ)) → Told m e held → e ≢ ending.ReadFault → e ≢ ending.Memory
      → IfSome held (λ b. (f : ScenarioFault) → IsRefused m f b → e ≡ ending.Refused f)
  refuses e None t read memory = tt
  refuses ending.Done (Some b) t read memory = λ f r. absurd (not-both b f (t.accepted tt) r)
  refuses ending.Words (Some b) t read memory = absurd (t.words refl)
  refuses (ending.Refused g) (Some b) t read memory = λ f r. ap (λ (h : ScenarioFault). ending.Refused h) (same-fault g f (sym (t.refused g refl).no_plan ∙ r.no_plan))
  refuses ending.TooLong (Some b) t read memory = λ f r. absurd (not-long b r.short (t.too_long refl))
  refuses ending.InputTooLong (Some b) t read memory = λ f r. absurd (not-long-input b r.short (t.long_input refl))
  refuses ending.BudgetSpent (Some b) t read memory = λ f r. absurd (not-both b f (t.accepted tt) r)
  refuses ending.ReadFault (Some b) t read memory = absurd (read refl)
  refuses ending.WriteFault (Some b) t read memory = λ f r. absurd (not-both b f (t.accepted tt) r)
  refuses ending.Memory (Some b) t read memory = absurd (memory refl)
  refuses (ending.Illegal n) (Some b) t read memory = λ f r. absurd (not-both b f (t.accepted tt) r)
  refuses (ending.Retired a) (Some b) t read memory = λ f r. absurd (not-both b f (t.accepted tt) r)

  pub limits : (e : Ending) (held : Option (List ℕ)) → Told m e held → e ≢ ending.ReadFault → e ≢ ending.Memory
      → IfSome held (λ b. IsLongScenario m b → e ≡ ending.TooLong)
  limits e None t read memory = tt
  limits ending.Done (Some b) t read memory = λ long. absurd (not-long b (t.accepted tt).short long)
  limits ending.Words (Some b) t read memory = absurd (t.words refl)
  limits (ending.Refused f) (Some b) t read memory = λ long. absurd (not-long b (t.refused f refl).short long)
  limits ending.TooLong (Some b) t read memory = λ long. refl
  limits ending.InputTooLong (Some b) t read memory = λ long. one-length b long (t.long_input refl)
  limits ending.BudgetSpent (Some b) t read memory = λ long. absurd (not-long b (t.accepted tt).short long)
  limits ending.ReadFault (Some b) t read memory = absurd (read refl)
  limits ending.WriteFault (Some b) t read memory = λ long. absurd (not-long b (t.accepted tt).short long)
  limits ending.Memory (Some b) t read memory = absurd (memory refl)
  limits (ending.Illegal n) (Some b) t read memory = λ long. absurd (not-long b (t.accepted tt).short long)
  limits (ending.Retired a) (Some b) t read memory = λ long. absurd (not-long b (t.accepted tt).short long)

  pub input-limits : (e : Ending) (held : Option (List ℕ)) → Told m e held → e ≢ ending.ReadFault → e ≢ ending.Memory
      → IfSome held (λ b. IsLongInput m b → e ≡ ending.InputTooLong)
  input-limits e None t read memory = tt
  input-limits ending.Done (Some b) t read memory = λ long. absurd (not-long-input b (t.accepted tt).short long)
  input-limits ending.Words (Some b) t read memory = absurd (t.words refl)
  input-limits (ending.Refused f) (Some b) t read memory = λ long. absurd (not-long-input b (t.refused f refl).short long)
  input-limits ending.TooLong (Some b) t read memory = λ long. one-length b (t.too_long refl) long
  input-limits ending.InputTooLong (Some b) t read memory = λ long. refl
  input-limits ending.BudgetSpent (Some b) t read memory = λ long. absurd (not-long-input b (t.accepted tt).short long)
  input-limits ending.ReadFault (Some b) t read memory = absurd (read refl)
  input-limits ending.WriteFault (Some b) t read memory = λ long. absurd (not-long-input b (t.accepted tt).short long)
  input-limits ending.Memory (Some b) t read memory = absurd (memory refl)
  input-limits (ending.Illegal n) (Some b) t read memory = λ long. absurd (not-long-input b (t.accepted tt).short long)
  input-limits (ending.Retired a) (Some b) t read memory = λ long. absurd (not-long-input b (t.accepted tt).short long)

  pub completes : (e : Ending) (held : Option (List ℕ)) → Told m e held → e ≢ ending.ReadFault → e ≢ ending.WriteFault
      → IfSome held (λ b. IsAccepted m b → Completes e)
  completes e None t read write = tt
  completes ending.Done (Some b) t read write = λ a. tt
  completes ending.Words (Some b) t read write = absurd (t.words refl)
  completes (ending.Refused f) (Some b) t read write = λ a. absurd (not-both b f a (t.refused f refl))
  completes ending.TooLong (Some b) t read write = λ a. absurd (not-long b a.short (t.too_long refl))
  completes ending.InputTooLong (Some b) t read write = λ a. absurd (not-long-input b a.short (t.long_input refl))
  completes ending.BudgetSpent (Some b) t read write = λ a. tt
  completes ending.ReadFault (Some b) t read write = absurd (read refl)
  completes ending.WriteFault (Some b) t read write = absurd (write refl)
  completes ending.Memory (Some b) t read write = λ a. tt
  completes (ending.Illegal n) (Some b) t read write = λ a. tt
  completes (ending.Retired a) (Some b) t read write = λ _. tt

ok-cut : (p : Plan) (f : CutFault) → Path (Result Plan CutFault) (Ok p) (Err f) → ⊥
ok-cut p f e = cc

-- a budget that is enough isn't spent
spent-in : (m : Mode) (s : Settings) (b : List ℕ) (p : Plan) (j : List Event) (old new : Option (List ℕ)) → HasBudget m
    → PrintedIn m s b p ending.BudgetSpent j old new → IsEnough m s p → ⊥
spent-in mode.Seq s b p j old new budget a enough = omega (arith, a.more refl, enough)
spent-in mode.Check s b p j old new budget a enough = budget
spent-in mode.Run s b p j old new budget a enough = enough
spent-in mode.Demo s b p j old new budget a enough = enough
spent-in mode.Upgrade s b p j old new budget a enough = budget
spent-in mode.Place s b p j old new budget a enough = omega (arith, a.more refl, enough)
spent-in mode.Cut s b p j old new budget a enough = ok-cut enough.0 _ (sym enough.1 ∙ a.spent refl)
spent-in mode.Replay s b p j old new budget a enough = budget
spent-in mode.Lowest s b p j old new budget a enough =
    (a.spent refl).more (ap (λ k. mail (left_by p k).links) (a.lowest (inr refl)) ∙ enough)

-- nor is an agent retired
retired-in : (m : Mode) (s : Settings) (b : List ℕ) (p : Plan) (j : List Event) (old new : Option (List ℕ)) (agent : ℕ) → m ≡ mode.Cut
    → PrintedIn m s b p (ending.Retired agent) j old new → IsEnough m s p → ⊥
retired-in mode.Seq s b p j old new agent h a enough = cc h
retired-in mode.Check s b p j old new agent h a enough = cc h
retired-in mode.Run s b p j old new agent h a enough = enough
retired-in mode.Demo s b p j old new agent h a enough = enough
retired-in mode.Upgrade s b p j old new agent h a enough = cc h
retired-in mode.Place s b p j old new agent h a enough = cc h
retired-in mode.Cut s b p j old new agent h a enough = ok-cut enough.0 _ (sym enough.1 ∙ a.retired agent refl)
retired-in mode.Replay s b p j old new agent h a enough = enough
retired-in mode.Lowest s b p j old new agent h a enough = cc h

-- nor is a journal's line illegal
illegal-in : (m : Mode) (s : Settings) (p : Plan) → m ≡ mode.Replay → IsEnough m s p → ⊥
illegal-in mode.Seq s p h enough = cc h
illegal-in mode.Check s p h enough = cc h
illegal-in mode.Run s p h enough = enough
illegal-in mode.Demo s p h enough = enough
illegal-in mode.Upgrade s p h enough = cc h
illegal-in mode.Place s p h enough = cc h
illegal-in mode.Cut s p h enough = cc h
illegal-in mode.Replay s p h enough = enough
illegal-in mode.Lowest s p h enough = cc h

-- what is known of the endings that not every mode has
pub record Kinds (m : Mode) (e : Ending) : Type 0 where
  pub budget : e ≡ ending.BudgetSpent → HasBudget m
  pub retired : (agent : ℕ) → e ≡ ending.Retired agent → m ≡ mode.Cut
  pub illegal : (line : ℕ) → e ≡ ending.Illegal line → m ≡ mode.Replay

or-done : (e : Ending) (s : Settings) (b : List ℕ) (j : List Event) (old new : Option (List ℕ)) → Kinds s.mode e → PrintedWhere true s (Some b) e j old new
    → IsWithin s b → Completes e → (e ≡ ending.Done) ⊎ (e ≡ ending.Memory)
or-done ending.Done s b j old new k a w c = inl refl
or-done ending.Words s b j old new k a w c = absurd c
or-done (ending.Refused f) s b j old new k a w c = absurd c
or-done ending.TooLong s b j old new k a w c = absurd c
or-done ending.InputTooLong s b j old new k a w c = absurd c
or-done ending.BudgetSpent s b j old new k a w c =
    let printed : PrintedIn s.mode s b w.scenario.plan ending.BudgetSpent j old new = rw w.scenario.is at a in
    absurd (spent-in s.mode s b w.scenario.plan j old new (k.budget refl) printed w.enough)
or-done ending.ReadFault s b j old new k a w c = absurd c
or-done ending.WriteFault s b j old new k a w c = absurd c
or-done ending.Memory s b j old new k a w c = inr refl
or-done (ending.Illegal n) s b j old new k a w c = absurd (illegal-in s.mode s w.scenario.plan (k.illegal n refl) w.enough)
or-done (ending.Retired agent) s b j old new k a w c =
    let printed : PrintedIn s.mode s b w.scenario.plan (ending.Retired agent) j old new = rw w.scenario.is at a in
    absurd (retired-in s.mode s b w.scenario.plan j old new agent (k.retired agent refl) printed w.enough)

within : (e : Ending) (s : Settings) (held : Option (List ℕ)) (j : List Event) (old new : Option (List ℕ)) → Told s.mode e held → e ≢ ending.ReadFault
    → e ≢ ending.WriteFault → Kinds s.mode e → PrintedWhere true s held e j old new
    → IfSome held (λ b. IsWithin s b → (e ≡ ending.Done) ⊎ (e ≡ ending.Memory))
within e s None j old new t read write kinds a = tt
within e s (Some b) j old new t read write kinds a =
    λ w. or-done e s b j old new kinds a w (completes s.mode e (Some b) t read write w.scenario)

-- the same of a call, whether or not its mode reads the input
pub within-given : (r : Bool) (e : Ending) (s : Settings) (held : Option (List ℕ)) (j : List Event) (old new : Option (List ℕ)) → Told s.mode e (given_where r held)
    → e ≢ ending.ReadFault → e ≢ ending.WriteFault → Kinds s.mode e → PrintedWhere r s held e j old new
    → IfSome (given_where r held) (λ b. IsWithin s b → (e ≡ ending.Done) ⊎ (e ≡ ending.Memory))
within-given true e s held j old new t read write kinds a = within e s held j old new t read write kinds a
within-given false e s held j old new t read write kinds a = tt

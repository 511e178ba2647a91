-- What is printed of a scenario that the input held.
use Rattle.std.proofs.Common.{◌≡◌, ◌≢◌, ◌⊎◌, refl, inl, inr, Bool, true, ℕ, ◌≤◌, List, [], ◌∷◌, length, if◌then◌else◌, Option, Some, None, IfSome, Result, Ok, Err, IfOk, sym, ap, subst, ◌∙◌, false, arith, length-append}
use Rattle.std.proofs.lemmas.Bool.Decides.{nat_tests}
use Rattle.std.specs.List.{filter}
use Rattle.pm_base.specs.Stamps.{is_below}
use Rattle.pm_base.specs.declared.rows.Entry.{Entry}
use Rattle.pm_base.specs.declared.run.Event.{Event}
use Rattle.pm_base.specs.declared.stamp.Stamp.{Stamp}
use Rattle.pm_base.specs.declared.run.RunSettings.{RunSettings}
use Rattle.pm_calm.specs.Lowest.{lowest}
use Rattle.pm_io.proofs.Known.{prefix-none, consumes-all}
use Rattle.pm_kernel.specs.Runs.{BeginsClosed, IsJournal, text_of}
use Rattle.pm_model.specs.Entries.{run_below}
use Rattle.pm_model.specs.Runs.{sequential_run}
use Rattle.pm_model.specs.Traces.{trace}
use Rattle.pm_plan.specs.declared.plan.Plan.{Plan}
use Rattle.pm_scenario.specs.Scenarios.{plan_of}
use Rattle.pm_scenario.specs.declared.fault.ScenarioFault.{ScenarioFault}
use Rattle.pm_sim.specs.Ready.{InWindow}
use Rattle.pm_sim.specs.Worlds.{first_world, zero_line}
use Rattle.pm_top.specs.Demo.{demo_line, generated_plan}
use Rattle.pm_top.specs.Endings.{Accepts}
use Rattle.pm_top.specs.Outputs.{check_line, run_output}
use Rattle.pm_top.specs.Printed.{IsPlacingText, IsRestText, IsTextOf, IsTextPrinted, PrintedIn, PrintedWhere, StaysCommitted}
use Rattle.pm_top.specs.Readings.{IsAccepted, IsLongInput, IsLongScenario, IsReadPast, IsReadWhole, IsRefused, IsShort, IsTakenAtMost, IsUnfit, longest, scenario_in}
use Rattle.pm_top.proofs.Parts.{longer-scenario, shorter-scenario}
use Rattle.pm_top.specs.declared.outcome.Ending.{Ending}
use Rattle.pm_top.specs.declared.outcome.Ending.TheVariants as ending
use Rattle.pm_words.specs.declared.settings.Mode.{Mode}
use Rattle.pm_words.specs.declared.settings.Mode.TheVariants as mode
use Rattle.pm_words.specs.declared.settings.Settings.{Settings}
use Rattle.pm_top.proofs.Written.{check-some, told-some, part-none, run-some, trace-some}

-- an ending that comes before anything is written
pub record Quits (e : Ending) : Type 0 where
  pub done : e ≢ ending.Done
  pub spent : e ≢ ending.BudgetSpent
  pub fault : e ≢ ending.WriteFault
  pub retired : (agent : ℕ) → e ≢ ending.Retired agent
  pub illegal : (line : ℕ) → e ≢ ending.Illegal line
  pub accepts : Accepts e → ⊥

pub quits-refused : (f : ScenarioFault) → Quits (ending.Refused f)
quits-refused f = record { done = λ h. cc h; spent = λ h. cc h; fault = λ h. cc h; retired = λ _ h. cc h; illegal = λ _ h. cc h; accepts = λ h. h }

pub quits-long : Quits ending.TooLong
quits-long = record { done = λ h. cc h; spent = λ h. cc h; fault = λ h. cc h; retired = λ _ h. cc h; illegal = λ _ h. cc h; accepts = λ h. h }

pub quits-long-input : Quits ending.InputTooLong
quits-long-input = record { done = λ h. cc h; spent = λ h. cc h; fault = λ h. cc h; retired = λ _ h. cc h; illegal = λ _ h. cc h; accepts = λ h. h }

pub quits-read : Quits ending.ReadFault
quits-read = record { done = λ h. cc h; spent = λ h. cc h; fault = λ h. cc h; retired = λ _ h. cc h; illegal = λ _ h. cc h; accepts = λ h. h }

pub quits-memory : Quits ending.Memory
quits-memory = record { done = λ h. cc h; spent = λ h. cc h; fault = λ h. cc h; retired = λ _ h. cc h; illegal = λ _ h. cc h; accepts = λ h. h }

-- the empty journal keeps to any settings
in-any-window : (p : Plan) (w : Option ℕ) → IfSome w (λ width. BeginsClosed [] × InWindow width p (first_world p) [])
in-any-window p None = tt
in-any-window p (Some width) = (tt, tt)

journal-none : (p : Plan) (s : RunSettings) → IsJournal p s []
journal-none p s = record {
  few = omega arith;
  journal = record { legal = refl; least = tt; made = refl; spans = tt; closed = tt };
  window = in-any-window p s.window;
}

-- it commits what is below the first line: nothing
none-first : (s : Stamp) → is_below s zero_line ≡ false
none-first s = grind (arith, nat_tests)

below-first : (es : List Entry) → filter (λ (e : Entry). is_below e.stamp zero_line) es ≡ []
below-first [] = refl
below-first (e ∷ es) = ap (λ b. if b then e ∷ filter (λ (x : Entry). is_below x.stamp zero_line) es else filter (λ (x : Entry). is_below x.stamp zero_line) es) (none-first e.stamp) ∙ below-first es

run-below-first : (p : Plan) → [] ≡ run_below p (first_world p).line
unfolding run_below
run-below-first p = sym (below-first (sequential_run p))

stays-none : (p : Plan) → StaysCommitted p []
stays-none p [] rest e = ([], refl)
stays-none p (x ∷ k) rest e = absurd (cc e)

never-told : (e : Ending) → Quits e → (e ≡ ending.Done) ⊎ (e ≡ ending.WriteFault) → ⊥
never-told e q (inl h) = q.done h
never-told e q (inr h) = q.fault h

never-alone : (e : Ending) → Quits e → (e ≡ ending.Done) ⊎ (e ≡ ending.BudgetSpent) → ⊥
never-alone e q (inl h) = q.done h
never-alone e q (inr h) = q.spent h

pub text-none : (IsText : List ℕ → Type 0) (e : Ending) (old : Option (List ℕ)) → Quits e → IsTextPrinted IsText e old old
text-none IsText e old q = record {
  done = λ h. absurd (q.done h);
  fault = λ h. absurd (q.fault h);
  nothing = λ _ _. refl;
}

none-in : (m : Mode) (s : Settings) (b : List ℕ) (p : Plan) (e : Ending) (old : Option (List ℕ)) → Quits e → PrintedIn m s b p e [] old old
none-in mode.Seq s b p e old q = record {
  done = λ h. absurd (q.done h);
  within = λ h. absurd (q.done h);
  spent = λ h. absurd (q.spent h);
  more = λ h. absurd (q.spent h);
  part = prefix-none old (trace p);
  unfinished = λ _. part-none old (trace p) (trace-some p);
  lacks = λ h. absurd (q.fault h);
}
none-in mode.Check s b p e old q = record {
  done = λ h. absurd (q.done h);
  part = prefix-none old (check_line p);
  unfinished = λ _. part-none old (check_line p) (check-some p);
}
none-in mode.Run s b p e old q = record {
  journal = journal-none p s.run;
  sequential = run-below-first p;
  stays = stays-none p;
  done = λ h. absurd (q.done h);
  whole = λ h. absurd (q.done h);
  spent = λ h. absurd (q.spent h);
  lines = λ h. absurd (q.spent h);
  part = inl (prefix-none old (text_of p []));
  unfinished = λ _. part-none old (run_output s.journal p []) (run-some s.journal p []);
  lacks = λ h. absurd (q.fault h);
}
none-in mode.Demo s b p e old q = record {
  journal = journal-none p s.run;
  sequential = run-below-first p;
  stays = stays-none p;
  done = λ h. absurd (never-told e q h);
  whole = λ h. absurd (q.done h);
  spent = λ h. absurd (q.spent h);
  nothing = λ h. absurd (q.spent h);
  unfinished = λ _. part-none old (demo_line s.seed p) (told-some s.seed _ _ _ _);
}
none-in mode.Upgrade s b p e old q = text-none (IsTextOf p) e old q
none-in mode.Place s b p e old q = record {
  printed = text-none (IsPlacingText p) e old q;
  within = λ h. absurd (q.done h);
  more = λ h. absurd (q.spent h);
}
none-in mode.Cut s b p e old q = record {
  printed = text-none (IsRestText p s.from s.run.budget) e old q;
  spent = λ h. absurd (q.spent h);
  retired = λ agent h. absurd (q.retired agent h);
}
none-in mode.Replay s b p e old q = record {
  legal = λ h. absurd (q.done h);
  sequential = λ h. absurd (q.done h);
  whole = λ h. absurd (q.done h);
  illegal = λ line h. absurd (q.illegal line h);
  refuses = λ line h a. absurd (q.accepts a);
  nothing = λ line h. absurd (q.illegal line h);
  fault = λ h. absurd (q.fault h);
  memory = λ _. inl refl;
}
none-in mode.Lowest s b p e old q = record {
  journal = (lowest s.run.budget p, refl);
  lowest = λ h. absurd (never-alone e q h);
  legal = refl;
  few = omega arith;
  calm = λ h. absurd (h refl);
  sequential = run-below-first p;
  stays = stays-none p;
  done = λ h. absurd (q.done h);
  whole = λ h. absurd (q.done h);
  spent = λ h. absurd (q.spent h);
  lines = λ h. absurd (q.spent h);
  part = inl (prefix-none old (text_of p []));
  unfinished = λ _. part-none old (run_output s.journal p []) (run-some s.journal p []);
  lacks = λ h. absurd (q.fault h);
}

none-of : {F : Type 0} (s : Settings) (b : List ℕ) (o : Result Plan F) (e : Ending) (old : Option (List ℕ)) → Quits e → IfOk o (λ p. PrintedIn s.mode s b p e [] old old)
none-of s b (Err f) e old q = tt
none-of s b (Ok p) e old q = none-in s.mode s b p e old q

-- of nothing that was written, whatever the input held
pub printed-none : (s : Settings) (held : Option (List ℕ)) (e : Ending) (old : Option (List ℕ)) → Quits e → PrintedWhere true s held e [] old old
printed-none s None e old q = tt
printed-none s (Some b) e old q = none-of s b (plan_of (scenario_in s.mode b)) e old q

-- the same where there is no input
pub generated-none : (s : Settings) (held : Option (List ℕ)) (e : Ending) (old : Option (List ℕ)) → Quits e → PrintedWhere false s held e [] old old
generated-none s held e old q = none-of s [] (generated_plan s.seed) e old q

pub none-where : (b : Bool) (s : Settings) (held : Option (List ℕ)) (e : Ending) (old : Option (List ℕ)) → Quits e → PrintedWhere b s held e [] old old
none-where true s held e old q = printed-none s held e old q
none-where false s held e old q = generated-none s held e old q

pub printed-plan : (s : Settings) (b : List ℕ) (p : Plan) (e : Ending) (j : List Event) (old new : Option (List ℕ)) → plan_of (scenario_in s.mode b) ≡ Ok p
    → PrintedIn s.mode s b p e j old new → PrintedWhere true s (Some b) e j old new
printed-plan s b p e j old new is a = rw is a

pub generated-plan : (s : Settings) (held : Option (List ℕ)) (p : Plan) (e : Ending) (j : List Event) (old new : Option (List ℕ)) → generated_plan s.seed ≡ Ok p
    → PrintedIn s.mode s [] p e j old new → PrintedWhere false s held e j old new
generated-plan s held p e j old new is a = rw is a

-- a fact of the bytes that were read is a fact of those that the input held
pub of-held : {n : ℕ} (P : List ℕ → Type 0) (held rest : Option (List ℕ)) (xs : List ℕ) → IsReadWhole n held rest xs → P xs → IfSome held P
of-held P None rest xs r p = tt
of-held P (Some b) rest xs r p = subst P (sym (consumes-all (Some b) rest xs r.taken r.end)) p

-- what was taken, as the contract tells
pub whole-taken : (n : ℕ) (held rest : Option (List ℕ)) (xs : List ℕ) → IsReadWhole n held rest xs → IsTakenAtMost n held rest
whole-taken n held rest xs r = (xs, r.taken, omega (arith, r.few))

pub past-taken : (n : ℕ) (held rest : Option (List ℕ)) (xs : List ℕ) → IsReadPast n held rest xs → IsTakenAtMost n held rest
past-taken n held rest xs r = (xs, r.taken, r.few)

-- of an input of which more than the limit was taken, the scenario is as long as it was found
pub held-scenario : (m : Mode) (held rest : Option (List ℕ)) (xs : List ℕ) → IsReadPast (longest m) held rest xs
    → IsLongScenario m xs → IfSome held (IsLongScenario m)
held-scenario m None rest xs r long = tt
held-scenario m (Some b) None xs r long = absurd r.taken
held-scenario m (Some b) (Some more) xs r long = subst (IsLongScenario m) (sym r.taken) (longer-scenario m xs more r.many long)

pub held-input : (m : Mode) (held rest : Option (List ℕ)) (xs : List ℕ) → IsReadPast (longest m) held rest xs
    → length (scenario_in m xs) ≤ 4194304 → IfSome held (IsLongInput m)
held-input m None rest xs r few = tt
held-input m (Some b) None xs r few = absurd r.taken
held-input m (Some b) (Some more) xs r few = subst (IsLongInput m) (sym r.taken) (record {
  scenario = shorter-scenario m xs more r.many few;
  long = omega (arith, r.many, length-append xs more);
})

pub short-is : (m : Mode) (xs : List ℕ) → length (scenario_in m xs) ≤ 4194304 → length xs ≤ longest m → IsShort m xs
short-is m xs few input = record { scenario = few; input = input }

pub refused-is : (m : Mode) (f : ScenarioFault) (xs : List ℕ) → IsShort m xs → plan_of (scenario_in m xs) ≡ Err f → IsRefused m f xs
refused-is m f xs short none = record { short = short; no_plan = none }

pub accepted-is : (m : Mode) (xs : List ℕ) (p : Plan) → IsShort m xs → plan_of (scenario_in m xs) ≡ Ok p → IsAccepted m xs
accepted-is m xs p short is = record { short = short; plan = p; is = is }

-- a scenario that was found too long is too long in the whole input
pub taken-long : (m : Mode) (n : ℕ) (held rest : Option (List ℕ)) (past : Bool) (xs : List ℕ) → n ≡ longest m
    → (past ≡ false → IsReadWhole n held rest xs) → (past ≡ true → IsReadPast n held rest xs) → IsLongScenario m xs
    → IfSome held (IsLongScenario m) × IsTakenAtMost (longest m) held rest
taken-long m n held rest false xs e w p long =
    let whole : IsReadWhole (longest m) held rest xs = subst (λ k. IsReadWhole k held rest xs) e (w refl) in
    (of-held (IsLongScenario m) held rest xs whole long, whole-taken (longest m) held rest xs whole)
taken-long m n held rest true xs e w p long =
    let past : IsReadPast (longest m) held rest xs = subst (λ k. IsReadPast k held rest xs) e (p refl) in
    (held-scenario m held rest xs past long, past-taken (longest m) held rest xs past)

-- and an input of which more than the limit was taken is too long, where its scenario isn't
pub taken-input : (m : Mode) (n : ℕ) (held rest : Option (List ℕ)) (past : Bool) (xs : List ℕ) → n ≡ longest m → past ≡ true
    → (past ≡ true → IsReadPast n held rest xs) → length (scenario_in m xs) ≤ 4194304
    → IfSome held (IsLongInput m) × IsTakenAtMost (longest m) held rest
taken-input m n held rest past xs e is p few =
    let more : IsReadPast (longest m) held rest xs = subst (λ k. IsReadPast k held rest xs) e (p is) in
    (held-input m held rest xs more few, past-taken (longest m) held rest xs more)

-- what is unfit, though short, is refused
pub unfit-refused : (m : Mode) (b : List ℕ) → IsShort m b → IsUnfit m b → (f : ScenarioFault) × IsRefused m f b
unfit-refused m b short (inl long) = absurd (omega (arith, short.scenario, long))
unfit-refused m b short (inr (inl input)) = absurd (omega (arith, short.input, input.long))
unfit-refused m b short (inr (inr r)) = r

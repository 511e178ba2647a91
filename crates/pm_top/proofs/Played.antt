-- What was written of a journal that was played again.
use Rattle.std.proofs.Common.{◌≡◌, ◌≢◌, ◌⊎◌, ◌∙◌, ap, sym, subst, refl, inl, inr, ℕ, if◌then◌else◌, List, [], ◌++◌, length, Option, Result, Ok, Err}
use Rattle.std.specs.Io.KnownBytes.{Appends}
use Rattle.pm_base.specs.declared.run.Event.{Event}
use Rattle.pm_io.specs.Causes.{AppendsPart}
use Rattle.pm_model.specs.Traces.{end_line, trace_text}
use Rattle.pm_plan.specs.Plans.{IsValid}
use Rattle.pm_plan.specs.declared.plan.Plan.{Plan}
use Rattle.pm_replay.specs.Replays.{IsFirstIllegal, IsLegalText, replayed}
use Rattle.pm_replay.specs.declared.fault.ReplayFault.{ReplayFault}
use Rattle.pm_replay.specs.declared.fault.ReplayFault.TheVariants as fault
use Rattle.pm_replay.specs.declared.replayed.Replayed.{Replayed}
use Rattle.pm_sim.proofs.Wholes.{simulation}
use Rattle.pm_sim.proofs.Promised.{plan_fits}
use Rattle.pm_sim.proofs.Shapes.{timely}
use Rattle.pm_top.specs.Printed.{IsReplayPrinted, replay_text}
use Rattle.pm_top.specs.declared.outcome.Ending.TheVariants as ending

same-line : (n m : ℕ) → Path (Result Replayed ReplayFault) (Err (fault.Line n)) (Err (fault.Line m)) → n ≡ m
same-line n m e = cc

ok-line : (r : Replayed) (n : ℕ) → Path (Result Replayed ReplayFault) (Ok r) (Err (fault.Line n)) → ⊥
ok-line r n e = cc

module _ (p : Plan) (t : List ℕ) (old : Option (List ℕ)) where
  -- a line was refused
  pub played-illegal : (n : ℕ) → IsFirstIllegal p n t → ((m : ℕ) → IsFirstIllegal p m t → Path (Result Replayed ReplayFault) (Err (fault.Line n)) (Err (fault.Line m)))
      → IsReplayPrinted p t (ending.Illegal n) [] old old
  played-illegal n is one = record {
    legal = λ h. absurd (cc h);
    sequential = λ h. absurd (cc h);
    whole = λ h. absurd (cc h);
    illegal = λ line h. subst (λ k. IsFirstIllegal p k t) (cc h) is;
    refuses = λ line found a. ap ending.Illegal (same-line n line (one line found));
    nothing = λ line h. refl;
    fault = λ h. absurd (cc h);
    memory = λ h. absurd (cc h);
  }

  module _ (valid : IsValid p) (r : Replayed) (legal : IsLegalText p r.journal t) (is : r ≡ replayed p r.journal)
      (refuses : (m : ℕ) → IsFirstIllegal p m t → Path (Result Replayed ReplayFault) (Ok r) (Err (fault.Line m))) where
    text-is : trace_text p r.entries ++ (if r.ended then end_line (length r.entries) else []) ≡ replay_text p r.journal
    text-is = ap (λ (x : Replayed). trace_text p x.entries ++ (if x.ended then end_line (length x.entries) else [])) is

    pub played-done : (new : Option (List ℕ)) → Appends old new (trace_text p r.entries ++ (if r.ended then end_line (length r.entries) else []))
        → IsReplayPrinted p t ending.Done r.journal old new
    played-done new a = record {
      legal = λ _. legal;
      sequential = λ _. simulation p (plan_fits p valid) (timely p valid) r.journal legal.legal;
      whole = λ _. rw text-is at a;
      illegal = λ line h. absurd (cc h);
      refuses = λ line found a. absurd (ok-line r line (refuses line found));
      nothing = λ line h. absurd (cc h);
      fault = λ h. absurd (cc h);
      memory = λ h. absurd (cc h);
    }

    pub played-fault : (new : Option (List ℕ)) → AppendsPart old new (trace_text p r.entries ++ (if r.ended then end_line (length r.entries) else []))
        → IsReplayPrinted p t ending.WriteFault [] old new
    played-fault new a = record {
      legal = λ h. absurd (cc h);
      sequential = λ h. absurd (cc h);
      whole = λ h. absurd (cc h);
      illegal = λ line h. absurd (cc h);
      refuses = λ line found a. absurd (ok-line r line (refuses line found));
      nothing = λ line h. absurd (cc h);
      fault = λ _. (r.journal, legal, rw text-is at a);
      memory = λ h. absurd (cc h);
    }

    pub played-memory : (new : Option (List ℕ)) → AppendsPart old new (trace_text p r.entries ++ (if r.ended then end_line (length r.entries) else []))
        → IsReplayPrinted p t ending.Memory [] old new
    played-memory new a = record {
      legal = λ h. absurd (cc h);
      sequential = λ h. absurd (cc h);
      whole = λ h. absurd (cc h);
      illegal = λ line h. absurd (cc h);
      refuses = λ line found a. absurd a;
      nothing = λ line h. absurd (cc h);
      fault = λ h. absurd (cc h);
      memory = λ _. inr (r.journal, legal, rw text-is at a);
    }

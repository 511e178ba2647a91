-- A call that ends at its words.
use Rattle.std.proofs.Common.{◌≡◌, ◌≢◌, inl, inr, ℕ, List, [], Option, Some, None, IfSome, refl}
use Rattle.pm_base.specs.declared.run.Event.{Event}
use Rattle.pm_top.specs.Headline.{Call, HasRun, IsCausedIn, IsComplete, IsServed, IsTold, SourceSight, given}
use Rattle.pm_top.specs.Printed.{PrintedOf}
use Rattle.pm_top.specs.Readings.{IsUnfit}
use Rattle.pm_top.specs.Speech.{SinkSight}
use Rattle.pm_top.specs.declared.outcome.Ending.{Ending}
use Rattle.pm_top.specs.declared.outcome.Ending.TheVariants as ending
use Rattle.pm_words.specs.declared.settings.Settings.{Settings}
use Rattle.pm_top.proofs.Prints.{none-where, quits-memory}
use Rattle.pm_words.specs.Words.{reads}

-- what holds is not changed by what the input held
pub kept : {P : List ℕ → Type 0} (held : Option (List ℕ)) → ((b : List ℕ) → P b) → IfSome held P
kept None h = tt
kept (Some b) h = h b

-- the first and the second of two facts
pub firsts : (P : List ℕ → Type 0) (A B : Type 0) (held : Option (List ℕ)) → IfSome held (λ b. P b → A × B) → IfSome held (λ b. P b → A)
firsts P A B None h = tt
firsts P A B (Some b) h = λ x. (h x).0

pub seconds : (P : List ℕ → Type 0) (A B : Type 0) (held : Option (List ℕ)) → IfSome held (λ b. P b → A × B) → IfSome held (λ b. P b → B)
seconds P A B None h = tt
seconds P A B (Some b) h = λ x. (h x).1

-- a call that touches neither input nor out
abbrev pub stopped : Option Settings → Ending → SourceSight → SinkSight → SinkSight → SinkSight → Call
stopped s e i o before after = record {
  settings = s;
  ending = e;
  journal = [];
  input = i;
  input_after = i;
  out = o;
  out_after = o;
  err = before;
  err_after = after;
}

pub each : (P : Settings → Type 0) (s : Option Settings) → ((t : Settings) → P t) → IfSome s P
each P None h = tt
each P (Some t) h = h t

module _ (i : SourceSight) (o before after : SinkSight) where
  pub words-served : IsTold (stopped None ending.Words i o before after) → IsServed (stopped None ending.Words i o before after)
  words-served told = record {
    printed = tt;
    journal = record { runs = tt; nothing = λ _. refl; unfit = tt };
    caused = record {
      words = λ h. refl;
      no_words = λ h. record { ended = inl refl; input = refl; out = refl; journal = refl };
      by_mode = tt;
      read_fault = λ h. absurd (cc h);
      write_fault = λ h. absurd (cc h);
    };
    told = told;
    complete = tt;
  }

  some-caused : (s : Option Settings) (t : Settings) → IsCausedIn t.mode (stopped s ending.Memory i o before after)
  some-caused s t = record {
    refused = λ f h. absurd (cc h);
    too_long = λ h. absurd (cc h);
    long_input = λ h. absurd (cc h);
    budget = λ h. absurd (cc h);
    retired = λ agent h. absurd (cc h);
    illegal = λ line h. absurd (cc h);
    accepted = λ h. absurd h;
    read = λ _ h. absurd h;
    unread = λ _. (refl, inr refl);
  }

  some-complete : (s : Option Settings) (t : Settings) → IsComplete (stopped s ending.Memory i o before after) t
  some-complete s t = record {
    refuses = λ read memory. absurd (memory refl);
    limits = λ read memory. absurd (memory refl);
    input_limits = λ read memory. absurd (memory refl);
    completes = λ good well. kept (given t.mode i.held) (λ b a. tt);
    within = λ good well. kept (given t.mode i.held) (λ b a. inr refl);
  }

  pub memory-served : (s : Option Settings) → IsTold (stopped s ending.Memory i o before after) → IsServed (stopped s ending.Memory i o before after)
  memory-served s told = record {
    printed = each (λ t. PrintedOf t i.held ending.Memory [] o.holds o.holds) s (λ t. none-where (reads t.mode) t i.held ending.Memory o.holds quits-memory);
    journal = record { runs = each (λ t. (HasRun t.mode → ⊥) → Path (List Event) [] []) s (λ t h. refl); nothing = λ _. refl; unfit = each (λ t. IfSome (given t.mode i.held) (λ b. IsUnfit t.mode b → Path (List Event) [] [])) s (λ t. kept (given t.mode i.held) (λ b unfit. refl)) };
    caused = record {
      words = λ h. absurd (cc h);
      no_words = λ h. record { ended = inr refl; input = refl; out = refl; journal = refl };
      by_mode = each (λ t. IsCausedIn t.mode (stopped s ending.Memory i o before after)) s (some-caused s);
      read_fault = λ h. absurd (cc h);
      write_fault = λ h. absurd (cc h);
    };
    told = told;
    complete = each (IsComplete (stopped s ending.Memory i o before after)) s (some-complete s);
  }

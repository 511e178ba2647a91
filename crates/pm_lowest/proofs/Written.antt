-- What was written of what was committed.
use Rattle.std.proofs.Common.{◌≡◌, ◌≢◌, ◌∙◌, ◌⊎◌, inl, inr, ℕ, List, [], ◌∷◌, ◌++◌, Option, Some, None, ap, append-nil, append_assoc, refl, subst, sym}
use Rattle.std.proofs.lemmas.Grind.{flat_map-append}
use Rattle.std.specs.Io.KnownBytes.{Appends}
use Rattle.pm_base.specs.declared.rows.Entry.{Entry}
use Rattle.pm_base.specs.declared.run.Event.{Event}
use Rattle.pm_base.specs.declared.run.Event.TheVariants as event
use Rattle.pm_io.proofs.Known.{appends-append, appends-none, prefix-after, prefix-all, prefix-none, prefix-part}
use Rattle.pm_io.specs.Causes.{AppendsPart, AppendsPrefix}
use Rattle.pm_kernel.proofs.Growing.{part-within}
use Rattle.pm_kernel.proofs.Running.{counts_append}
use Rattle.pm_kernel.specs.Counts.{counted_on, no_counts}
use Rattle.pm_kernel.specs.Runs.{left_by, text_of}
use Rattle.pm_kernel.specs.declared.ran.Outcome.{Outcome}
use Rattle.pm_kernel.specs.declared.ran.Outcome.TheVariants as outcome
use Rattle.pm_kernel.specs.declared.writing.Counts.{Counts}
use Rattle.pm_kernel.specs.declared.writing.Wrote.{Wrote}
use Rattle.pm_kernel.specs.declared.writing.Wrote.TheVariants as wrote
use Rattle.pm_lowest.specs.Courses.{CountsAll, HasClosed, HasWritten, IsUnderway, WentWell}
use Rattle.pm_lowest.specs.declared.course.Course.{Course}
use Rattle.pm_model.specs.Traces.{line, trace_text}
use Rattle.pm_plan.specs.declared.plan.Plan.{Plan}
use Rattle.pm_sim.proofs.Promised.{committed-stays}
use Rattle.pm_sim.specs.Worlds.{World, committed, first_world, handed, least_line}

-- a delivery commits nothing
pub deliver_commits : (p : Plan) (j k : List Event) (to from : ℕ) → k ≡ j ++ event.Deliver to from ∷ []
    → committed p k ≡ committed p j
deliver_commits p j k to from e =
    ap (committed p) e ∙ (committed-stays p j (event.Deliver to from ∷ []) ∙ append-nil (committed p j))

-- a Commit commits what it hands out
pub close_commits : (p : Plan) (b : ℕ) (old new : Course) (es : List Entry) → IsUnderway p b old → HasClosed old new
    → es ≡ handed old.world.world (least_line old.world.world)
    → committed p new.journal.items ≡ committed p old.journal.items ++ es
close_commits p b old new es u closed is =
    ap (committed p) closed.journal
    ∙ (committed-stays p old.journal.items (event.Commit (least_line old.world.world) ∷ [])
    ∙ ap (λ z. committed p old.journal.items ++ z)
    (append-nil (handed (left_by p old.journal.items) (least_line old.world.world))
    ∙ (ap (λ w. handed w (least_line old.world.world)) (sym u.going.world) ∙ sym is)))

-- nothing was committed and nothing written
pub written_none : (p : Plan) (x : Counts) (a : Option (List ℕ)) (old new : List Event) (o : Option Outcome)
    → committed p new ≡ committed p old → (o ≡ Some outcome.WriteFault → ⊥) → HasWritten p x x a a old new o
written_none p x a old new o e unfailed = record {
  entries = [];
  more = e ∙ sym (append-nil (committed p old));
  whole = λ h. appends-none a;
  counts = λ h well. h ∙ ap (counted_on no_counts) (sym e);
  part = prefix-none a (trace_text p []);
  lacks = λ h. absurd (unfailed h);
}

none_fault : Path (Option Outcome) None (Some outcome.WriteFault) → ⊥
none_fault e = cc

-- nothing yet
pub written_begun : (p : Plan) (x : Counts) (a : Option (List ℕ)) (j : List Event) → HasWritten p x x a a j j None
written_begun p x a j = written_none p x a j j None refl none_fault

-- these entries were committed, and their lines written or not
pub written_closed : (p : Plan) (x y : Counts) (a b : Option (List ℕ)) (old new : List Event) (o : Option Outcome)
    (wr : Wrote) (es : List Entry) → committed p new ≡ committed p old ++ es
    → (WentWell o → wr ≡ wrote.All) → (o ≡ Some outcome.WriteFault → wr ≡ wrote.WriteFault)
    → (wr ≡ wrote.All → y ≡ counted_on x es) → (wr ≡ wrote.All → Appends a b (trace_text p es))
    → (wr ≢ wrote.All → AppendsPart a b (trace_text p es)) → HasWritten p x y a b old new o
written_closed p x y a b old new o wr es more well fault counts all lacks = record {
  entries = es;
  more = more;
  whole = λ h. all (well h);
  counts = λ h g. counts (well g) ∙ (ap (λ z. counted_on z es) h
      ∙ (counts_append no_counts (committed p old) es ∙ ap (counted_on no_counts) (sym more)));
  part = part_of wr all lacks;
  lacks = λ h. lacks (λ g. failed (sym (fault h) ∙ g));
}
  where
    failed : wrote.WriteFault ≡ wrote.All → ⊥
    failed e = cc

    part_of : (z : Wrote) → (z ≡ wrote.All → Appends a b (trace_text p es))
        → (z ≢ wrote.All → AppendsPart a b (trace_text p es)) → AppendsPrefix a b (trace_text p es)
    part_of wrote.All f g = prefix-all a b (trace_text p es) (f refl)
    part_of wrote.WriteFault f g = prefix-part a b (trace_text p es) (g (λ e. cc))
    part_of wrote.Memory f g = prefix-part a b (trace_text p es) (g (λ e. cc))

-- the same, where the events have committed as much and the run ended no better
pub written_still : (p : Plan) (x y : Counts) (a b : Option (List ℕ)) (old mid new : List Event) (o q : Option Outcome)
    → HasWritten p x y a b old mid o → committed p new ≡ committed p mid → (WentWell q → WentWell o)
    → (q ≡ Some outcome.WriteFault → o ≡ Some outcome.WriteFault) → HasWritten p x y a b old new q
written_still p x y a b old mid new o q f e well fault = record {
  entries = f.entries;
  more = e ∙ f.more;
  whole = λ h. f.whole (well h);
  counts = λ h g. f.counts h (well g) ∙ ap (counted_on no_counts) (sym e);
  part = f.part;
  lacks = λ h. f.lacks (fault h);
}

-- one after the other
pub written_on : (p : Plan) (x y z : Counts) (a m b : Option (List ℕ)) (old mid new : List Event) (o : Option Outcome)
    → HasWritten p x y a m old mid None → HasWritten p y z m b mid new o → HasWritten p x z a b old new o
written_on p x y z a m b old mid new o f s = record {
  entries = f.entries ++ s.entries;
  more = s.more ∙ (ap (λ es. es ++ s.entries) f.more ∙ append_assoc (committed p old) f.entries s.entries);
  whole = λ h. subst (Appends a b) (sym text)
      (appends-append a m b (trace_text p f.entries) (trace_text p s.entries) (f.whole tt) (s.whole h));
  counts = λ h g. s.counts (f.counts h tt) g;
  part = subst (AppendsPrefix a b) (sym text)
      (prefix-after a m b (trace_text p f.entries) (trace_text p s.entries) (f.whole tt) s.part);
  lacks = λ h. subst (AppendsPart a b) (sym text)
      (subst (λ r. AppendsPart a b (trace_text p f.entries ++ r)) (append-nil (trace_text p s.entries))
      (part-within a m b (trace_text p f.entries) (trace_text p s.entries) [] (f.whole tt) (s.lacks h)));
}
  where
    text : trace_text p (f.entries ++ s.entries) ≡ trace_text p f.entries ++ trace_text p s.entries
    text = flat_map-append (line p) f.entries s.entries

-- a run from its begin has written the text of what its events commit
pub written_text : (p : Plan) (x y : Counts) (a b : Option (List ℕ)) (new : List Event) (o : Option Outcome)
    → (f : HasWritten p x y a b [] new o) → trace_text p f.entries ≡ text_of p new
written_text p x y a b new o f = ap (trace_text p) (sym f.more)

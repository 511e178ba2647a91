-- Stages one after another, and what a run came to.
use Rattle.std.proofs.Common.{◌≡◌, ◌∙◌, ◌+◌, ◌⊎◌, List, Option, [], ◌++◌, ◌∷◌, append-nil, append_assoc, ap, arith, inl, inr, length, length-append, refl, subst, sym, ℕ}
use Rattle.std.proofs.lemmas.Grind.{flat_map-append}
use Rattle.std.specs.Io.KnownBytes.{Appends}
use Rattle.std.specs.List.{flat_map}
use Rattle.pm_base.specs.declared.rows.Entry.{Entry}
use Rattle.pm_base.specs.declared.run.Event.{Event}
use Rattle.pm_base.specs.declared.run.RunSettings.{RunSettings}
use Rattle.pm_io.proofs.Known.{appends-append, prefix-after, prefix-all}
use Rattle.pm_io.specs.Causes.{AppendsPart, AppendsPrefix}
use Rattle.pm_model.specs.Traces.{line, trace_text}
use Rattle.pm_plan.specs.Plans.{IsValid}
use Rattle.pm_plan.specs.declared.plan.Plan.{Plan}
use Rattle.pm_kernel.proofs.Counting.{counts-eq}
use Rattle.pm_kernel.proofs.Growing.{part-within}
use Rattle.pm_kernel.specs.Counts.{counted, counted_on, hits_in, writes_in}
use Rattle.pm_kernel.proofs.Staging.{world_is}
use Rattle.pm_kernel.specs.Engines.{HasCommitted, RunView, StandsAt, world_of}
use Rattle.pm_kernel.specs.Runs.{HasRun, IsDone}
use Rattle.pm_kernel.specs.declared.ran.Outcome.{Outcome}
use Rattle.pm_kernel.specs.declared.ran.Outcome.TheVariants as outcome
use Rattle.pm_kernel.specs.declared.writing.Counts.{Counts}
use Rattle.pm_sim.proofs.Kernel.{journal_law, least_law}
use Rattle.pm_sim.specs.Journals.{LeastLine, made}
use Rattle.pm_sim.specs.Worlds.{World, committed, least_line, mail}
use Rattle.pm_base.specs.declared.stamp.Line.TheVariants as the_line

text_append : (p : Plan) (xs ys : List Entry) → trace_text p (xs ++ ys) ≡ trace_text p xs ++ trace_text p ys
text_append p xs ys = flat_map-append (line p) xs ys

one_count : {B : Type 0} (n : ℕ) (f : Entry → List B) (xs ys : List Entry)
    → counted (counted (n + length (flat_map f xs)) + length (flat_map f ys))
    ≡ counted (n + length (flat_map f (xs ++ ys)))
one_count n f xs ys =
    let e = ap length (flat_map-append f xs ys) in
    let d = length-append (flat_map f xs) (flat_map f ys) in
    omega (arith, e, d)

pub counts_append : (c : Counts) (xs ys : List Entry) → counted_on (counted_on c xs) ys ≡ counted_on c (xs ++ ys)
counts_append c xs ys =
    counts-eq _ _ _ _ _ _ (let e = length-append xs ys in omega (arith, e))
    (one_count c.hits (λ (e : Entry). flat_map (λ a. a) e.answers) xs ys)
    (one_count c.writes (λ (e : Entry). e.writes) xs ys)

-- what the stages so far have committed and written, and one more
pub so_far_more : (p : Plan) (s : RunSettings) (first mid new : RunView) (a m b : Option (List ℕ)) (es : List Entry)
    → ((xs : List Entry) × (committed p mid.journal ≡ committed p first.journal ++ xs)
    × Appends a m (trace_text p xs))
    → HasCommitted p s mid new es → Appends m b (trace_text p es)
    → (xs : List Entry) × (committed p new.journal ≡ committed p first.journal ++ xs)
    × Appends a b (trace_text p xs)
so_far_more p s first mid new a m b es before c w = (
  before.0 ++ es,
  c.entries ∙ (ap (λ z. z ++ es) before.1 ∙ append_assoc (committed p first.journal) before.0 es),
  subst (Appends a b) (sym (text_append p before.0 es))
      (appends-append a m b (trace_text p before.0) (trace_text p es) before.2 w),
)

-- the run that ends with a stage that failed
pub ran_short : (p : Plan) (s : RunSettings) (first mid new : RunView) (a m b : Option (List ℕ)) (es : List Entry)
    (o : Outcome) → (o ≡ outcome.WriteFault) ⊎ (o ≡ outcome.Memory)
    → ((xs : List Entry) × (committed p mid.journal ≡ committed p first.journal ++ xs)
    × Appends a m (trace_text p xs))
    → HasCommitted p s mid new es → AppendsPrefix m b (trace_text p es)
    → (o ≡ outcome.WriteFault → AppendsPart m b (trace_text p es))
    → HasRun p a b first.journal new.journal o
ran_short p s first mid new a m b es o short before c part lacks = record {
  entries = before.0 ++ es;
  more = c.entries ∙ (ap (λ z. z ++ es) before.1 ∙ append_assoc (committed p first.journal) before.0 es);
  whole = λ e. absurd (both short e);
  part = subst (AppendsPrefix a b) (sym (text_append p before.0 es))
      (prefix-after a m b (trace_text p before.0) (trace_text p es) before.2 part);
  lacks = λ e. subst (AppendsPart a b) (sym (text_append p before.0 es))
      (subst (λ z. AppendsPart a b (trace_text p before.0 ++ z)) (append-nil (trace_text p es))
      (part-within a m b (trace_text p before.0) (trace_text p es) [] before.2 (lacks e)));
}
  where
    both : (o ≡ outcome.WriteFault) ⊎ (o ≡ outcome.Memory)
        → (o ≡ outcome.Done) ⊎ (o ≡ outcome.BudgetSpent) → ⊥
    both (inl e) (inl f) = (let z = sym e ∙ f in cc)
    both (inl e) (inr f) = (let z = sym e ∙ f in cc)
    both (inr e) (inl f) = (let z = sym e ∙ f in cc)
    both (inr e) (inr f) = (let z = sym e ∙ f in cc)

-- nothing is left to be delivered where the least line is the end
pub over_none : (p : Plan) (s : RunSettings) (c : RunView) → IsValid p → StandsAt p s c
    → least_line (world_of c) ≡ the_line.End → mail (world_of c).links ≡ []
over_none p s c ok stands e =
    (subst LeastLine (sym (world_is p c stands.plan)) (least_law p c.journal ok stands.journal.journal.legal)).at_end e

pub over_done : (p : Plan) (s : RunSettings) (c : RunView) → IsValid p → StandsAt p s c
    → (c.journal ≡ [] → ⊥) → least_line (world_of c) ≡ the_line.End → IsDone p c.journal
over_done p s c ok stands ne e =
    let none = subst (λ (w : World). mail w.links ≡ []) (world_is p c stands.plan) (over_none p s c ok stands e) in
    record {
      none = none;
      line = (journal_law p s.epoch (made c.journal) c.journal ok stands.journal.journal).done_line ne none;
    }

-- a first Commit, and what the run came to behind it
pub ran_on : (p : Plan) (s : RunSettings) (first mid : RunView) (new : List Event) (a m b : Option (List ℕ))
    (es : List Entry) (o : Outcome) → first.journal ≡ [] → HasCommitted p s first mid es
    → Appends a m (trace_text p es) → HasRun p m b mid.journal new o → HasRun p a b [] new o
ran_on p s first mid new a m b es o none c w r = record {
  entries = es ++ r.entries;
  more = r.more ∙ ap (λ z. z ++ r.entries) (c.entries ∙ ap (λ j. committed p j ++ es) none);
  whole = λ e. subst (Appends a b) (sym (text_append p es r.entries))
      (appends-append a m b (trace_text p es) (trace_text p r.entries) w (r.whole e));
  part = subst (AppendsPrefix a b) (sym (text_append p es r.entries))
      (prefix-after a m b (trace_text p es) (trace_text p r.entries) w r.part);
  lacks = λ e. subst (AppendsPart a b) (sym (text_append p es r.entries))
      (subst (λ z. AppendsPart a b (trace_text p es ++ z)) (append-nil (trace_text p r.entries))
      (part-within a m b (trace_text p es) (trace_text p r.entries) [] w (r.lacks e)));
}

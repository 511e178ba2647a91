use Rattle.std.proofs.Common.{◌∙◌, ◌∷◌, [], ◌+◌, ap, sym, subst, refl, arith, take, drop}
use Rattle.pm_io.specs.Causes.{AppendsPart}
use Rattle.pm_io.proofs.Known.{appends-append}
use Rattle.pm_model.specs.Traces.{line, trace_text}
use Rattle.std.specs.Io.KnownBytes.{Appends}
use Rattle.pm_kernel.specs.Counts.{counted_on}
use Rattle.pm_kernel.proofs.Counting.{counts-more}
use Rattle.pm_kernel.proofs.Growing.{part-within}
use Rattle.pm_kernel.proofs.Lists.{flat-more, flat-parts}
use Rattle.pm_kernel.proofs.writing.write_entries.Goals as goal

pub returns-in_default-clause-lacks : goal.returns-in_default-clause-lacks
returns-in_default-clause-lacks g c = λ ne.
    let p = c.args.plan.now in
    let es = c.args.entries.now in
    let i = c.loop-entry.entry-index in
    let x = c.entry-item.result in
    let old = g.K.Sink.holds c.args.out.now in
    let new = g.K.Sink.holds c.write_entry.new.out in
    subst (AppendsPart old new) (sym (flat-parts (line p) es i x c.loop-entry-test.true c.entry-item.is))
    (part-within old (g.K.Sink.holds c.loop-entry.out) new (trace_text p (take i es)) (line p x)
    (trace_text p (drop (i + 1) es)) c.loop-entry.invariant.text (c.write_entry.ensures.lacks ne))

pub loop-entry-preserved : goal.loop-entry-preserved
loop-entry-preserved g c =
    let p = c.args.plan.now in
    let es = c.args.entries.now in
    let i = c.loop-entry.entry-index in
    let x = c.entry-item.result in
    let old = g.K.Sink.holds c.args.out.now in
    let new = g.K.Sink.holds c.write_entry.new.out in
    record {
      text = subst (Appends old new) (sym (flat-more (line p) es i x c.loop-entry-test.true c.entry-item.is))
          (appends-append old (g.K.Sink.holds c.loop-entry.out) new (trace_text p (take i es)) (line p x)
          c.loop-entry.invariant.text (c.in-All.ensures.all refl));
      counts = c.add.ensures ∙ (ap (λ k. counted_on k (x ∷ [])) c.loop-entry.invariant.counts
          ∙ counts-more c.args.counts.now es i x c.loop-entry-test.true c.entry-item.is);
      faults = omega (arith, c.loop-entry.invariant.faults, c.write_entry.ensures.faults);
      stalls = omega (arith, c.loop-entry.invariant.stalls, c.write_entry.ensures.stalls);
    }

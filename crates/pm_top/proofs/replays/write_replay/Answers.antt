use Rattle.std.proofs.Common.{◌∙◌, ap, sym, refl, Err}
use Rattle.pm_top.proofs.Played.{played-done, played-fault, played-illegal, played-memory}
use Rattle.pm_top.proofs.replays.write_replay.Goals as goal

pub returns-in-Err-Line-clause-printed : goal.returns-in-Err-Line-clause-printed
returns-in-Err-Line-clause-printed g c =
    let r = c.in-Err-Line in
    rw (c.still.ensures.ending, c.still.ensures.journal)
    (played-illegal c.args.plan.now c.args.text.now (g.K.Sink.holds c.args.out.now) r.number (r.ensures.fault r.number r.field-0-is)
    (λ m found. ap Err (sym r.field-0-is) ∙ r.ensures.refuses m found (λ h. cc (h, r.field-0-is))))

pub returns-in-Done-clause-printed : goal.returns-in-Done-clause-printed
returns-in-Done-clause-printed g c =
    let r = c.in-Ok.ensures in
    played-done c.args.plan.now c.args.text.now (g.K.Sink.holds c.args.out.now) c.requires.valid c.in-Ok.replayed r.text r.replayed
    (λ m found. r.refuses m found (λ h. cc h)) (g.K.Sink.holds c.write_committed.new.out)
    (rw c.as_slice-entries.ensures at (c.in-Done.ensures.done refl))

pub returns-in-WriteFault-clause-printed : goal.returns-in-WriteFault-clause-printed
returns-in-WriteFault-clause-printed g c =
    let r = c.in-Ok.ensures in
    rw (c.still-in-WriteFault.ensures.ending, c.still-in-WriteFault.ensures.journal)
    (played-fault c.args.plan.now c.args.text.now (g.K.Sink.holds c.args.out.now) c.requires.valid c.in-Ok.replayed r.text r.replayed
    (λ m found. r.refuses m found (λ h. cc h)) (g.K.Sink.holds c.write_committed.new.out)
    (rw c.as_slice-entries.ensures at (c.in-WriteFault.ensures.unfinished (λ h. cc h))))

use Rattle.std.proofs.Common.{◌∙◌}
use Rattle.pm_lowest.proofs.Going.{underway_may}
use Rattle.pm_lowest.proofs.Written.{close_commits, written_closed}
use Rattle.pm_lowest.proofs.run.close.Goals as goal

pub commit-requires : goal.commit-requires
commit-requires g c = record {
  may = underway_may c.args.plan.now c.args.course.now.budget c.requires.valid c.args.course.now c.requires.underway;
}

pub returns-in-Ok-clause-written : goal.returns-in-Ok-clause-written
returns-in-Ok-clause-written g c =
    written_closed c.args.plan.now c.args.counts.now c.write_entries.new.counts _ _ _ _ _ c.write_entries.result
    c.as_slice.result.now
    (close_commits c.args.plan.now c.args.course.now.budget c.args.course.now c.commit.new.self c.as_slice.result.now
    c.requires.underway c.in-Ok.ensures.closed (c.as_slice.ensures ∙ c.in-Ok.ensures.entries))
    c.unless_failed.ensures.well c.unless_failed.ensures.fault c.write_entries.ensures.counts
    c.write_entries.ensures.all c.write_entries.ensures.lacks

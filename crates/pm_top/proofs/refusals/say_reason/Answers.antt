use Rattle.pm_top.proofs.refusals.say_reason.Goals as goal

pub returns-in-Missing : goal.returns-in-Missing
returns-in-Missing g c = rw c.in-Missing.is c.say_of_key.ensures

pub returns-in-Strange : goal.returns-in-Strange
returns-in-Strange g c = rw c.in-Strange.is c.say_of_key-in-Strange.ensures

use Rattle.pm_top.proofs.refusals.say_plan.Goals as goal

pub returns-in-Name : goal.returns-in-Name
returns-in-Name g c = rw c.in-Name.is c.say_part.ensures

pub returns-in-Tree : goal.returns-in-Tree
returns-in-Tree g c = rw c.in-Tree.is c.say_part-in-Tree.ensures

pub returns-in-Place : goal.returns-in-Place
returns-in-Place g c = rw c.in-Place.is c.say_part-in-Place.ensures

-- The classes that the rules of a valid plan ask for, and those of its variables, are its own.
use Rattle.std.proofs.Common.{List, arith, length, nat_lt, subst, sym, true, ◌&&◌, ◌<◌, ◌≡◌}
use Rattle.std.proofs.lemmas.Bool.{and_parts}
use Rattle.std.proofs.lemmas.Bool.Decides.{nat_tests}
use Rattle.std.proofs.lemmas.List.{length-map}
use Rattle.pm_base.specs.Fits.{is_known, known_before, sense_known}
use Rattle.pm_base.specs.declared.fits.Known.{Known}
use Rattle.pm_base.specs.declared.layout.ClassRow.{ClassRow}
use Rattle.pm_base.specs.declared.program.Program.{Program}
use Rattle.pm_base.specs.declared.program.Sense.{Sense}
use Rattle.pm_base.specs.declared.program.Sense.TheVariants.{Read, Scan}
use Rattle.pm_plan.proofs.Valid.{valid_rules}
use Rattle.pm_plan.specs.Plans.{IsValid}
use Rattle.pm_plan.specs.declared.plan.Plan.{Plan}
use Rattle.pm_plan.specs.declared.plan.VarRow.{VarRow}
use Rattle.pm_step.specs.Expressions.{Sight, sight}
use Rattle.pm_step.specs.Steps.{query_of}
use Rattle.pm_model.specs.Runs.{sequential_start}
use Rattle.pm_sim.proofs.Acts.{class_low}
use Rattle.pm_sim.proofs.ClassesIn.{InKinds}
use Rattle.pm_sim.proofs.Edges.{KindIn}
use Rattle.pm_sim.proofs.Firsts.{place}
use Rattle.pm_sim.proofs.Rules.{all_fit, asks_found, sense_in, tree_parts}
use Rattle.pm_sim.proofs.Shapes.{plan_shape}
use Rattle.pm_sim.specs.Worlds.{agent_at}

-- a sense that is known asks for a class that exists
sense_kind : (classes : List ClassRow) (k : Known) (s : Sight) (sense : Sense)
    → sense_known classes k sense ≡ true → KindIn (λ j. j < length classes) (query_of s sense)
sense_kind classes k s (Read place) h = tt
sense_kind classes k s (Scan class x0 x1 y0 y1) h = (let b = (and_parts
    (nat_lt class (length classes) && (is_known k x0 && is_known k x1)) (is_known k y0 && is_known k y1) h).0 in let a =
    (and_parts (nat_lt class (length classes)) (is_known k x0 && is_known k x1) b).0 in grind (arith, nat_tests, a))

pub rule_classes : (p : Plan) → IsValid p → InKinds (length p.layout.classes) p
rule_classes p valid = record {
  vars = λ v lt. class_low p (length (sequential_start p).values)
      (plan_shape p valid) v (let e = length-map p.vars (λ (x : VarRow). x.value) in omega arith);
  asks = λ i s regs done q lt e.
      let program : Program = (agent_at p i).program in
      let parts = tree_parts program p.layout (all_fit p.layout p.agents i (valid_rules p valid) lt) in
      let sg : Sight = sight p.layout.classes s regs done in
      let r = asks_found program sg q e in
      let k = sense_in p.layout.classes
      (known_before p.layout.classes program 0) program.senses (length sg.answers) r.0 parts.0 r.1 in
      subst (KindIn (λ j. j < length p.layout.classes)) (sym r.2) (sense_kind p.layout.classes k.0 sg r.0.sense k.2);
}

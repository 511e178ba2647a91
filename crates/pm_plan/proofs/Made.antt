-- The parts' plan and its refusals.
use Rattle.std.proofs.Common.{◌≡◌, ℕ, ◌≤◌, ap, sym, ◌∙◌, arith, Bool, true, false, length, map, Option, Some, None, Result, Ok, Err, subst, refl}
use Rattle.std.specs.Prelude.{nat_lt, IfErr, ◌||◌}
use Rattle.std.specs.Result.{IsErrAnd}
use Rattle.std.proofs.lemmas.Bool.Decides.{nat_tests}
use Rattle.std.proofs.lemmas.List.{length-map}
use Rattle.pm_plan.specs.Plans.{numbered, clp_row, var_row, agent_row, count_refusal, later_refusal, refusal, refused_if, or_else, plan_of, unless_refused, passed, all_vars, IsFew}
use Rattle.pm_plan.specs.declared.fault.PlanFault.{PlanFault}
use Rattle.pm_plan.specs.declared.parts.PlanParts.{PlanParts}
use Rattle.pm_plan.specs.declared.plan.Plan.{Plan}

pub passed_ok : (o : Option PlanFault) (u : Unit {0}) → passed o ≡ Ok u → o ≡ None
passed_ok None u e = refl
passed_ok (Some f) u e = absurd (cc)

pub passed_err : (o : Option PlanFault) (f : PlanFault) → passed o ≡ Err f → o ≡ Some f
passed_err None f e = absurd (cc)
passed_err (Some g) f e = (let h : g ≡ f = cc in ap Some h)

-- an error that is passed on
pub passed_on : (P : PlanFault → Type 0) (r : Result Plan PlanFault) (f : PlanFault) → IsErrAnd r (λ g. g ≡ f) → P f → IfErr r P
passed_on P (Ok x) f e p = tt
passed_on P (Err g) f e p = subst P (sym e) p

abbrev of_plan : Plan → Option PlanFault
of_plan p = count_refusal (length p.clps) (length p.classes) (length p.vars) (length p.agents)

-- how many there are of each kind
abbrev pub of_parts : PlanParts → Option PlanFault
of_parts parts = count_refusal (length parts.clps) (length parts.classes) (length (all_vars parts.classes)) (length parts.agents)

-- how many a plan has of each kind
pub record Lengths (parts : PlanParts) (p : Plan) : Type 0 where
  pub clps : length p.clps ≡ length parts.clps
  pub classes : length p.classes ≡ length parts.classes
  pub vars : length p.vars ≡ length (all_vars parts.classes)
  pub agents : length p.agents ≡ length parts.agents

pub lengths : (parts : PlanParts) → Lengths parts (numbered parts)
unfolding numbered
lengths parts =
    let names = map (λ c. c.name) parts.clps in
    record {
      clps = length-map parts.clps (clp_row names);
      classes = length-map parts.classes (λ c. c.name);
      vars = length-map (all_vars parts.classes) (var_row names);
      agents = length-map parts.agents (agent_row names);
    }

pub same_counts : (a b c d a' b' c' d' : ℕ) → a ≡ a' → b ≡ b' → c ≡ c' → d ≡ d' → count_refusal a b c d ≡ count_refusal a' b' c' d'
same_counts a b c d a' b' c' d' e f g h = cc

counts_same : (parts : PlanParts) → of_plan (numbered parts) ≡ of_parts parts
counts_same parts = (let l = lengths parts in same_counts _ _ _ _ _ _ _ _ l.clps l.classes l.vars l.agents)

refused : (parts : PlanParts) → refusal (numbered parts) ≡ or_else (of_parts parts) (later_refusal (numbered parts))
unfolding refusal
refused parts = ap (λ o. or_else o (later_refusal (numbered parts))) (counts_same parts)

pub count_refused : (parts : PlanParts) (f : PlanFault) → of_parts parts ≡ Some f → plan_of parts ≡ Err f
unfolding plan_of
count_refused parts f e = ap (λ o. unless_refused o (numbered parts)) (refused parts ∙ ap (λ o. or_else o (later_refusal (numbered parts))) e)

pub later_refused : (parts : PlanParts) (p : Plan) (f : PlanFault) → p ≡ numbered parts → of_parts parts ≡ None → later_refusal p ≡ Some f → plan_of parts ≡ Err f
unfolding plan_of
later_refused parts p f same counted e = ap (λ o. unless_refused o (numbered parts)) (refused parts ∙ (ap (λ o. or_else o (later_refusal (numbered parts))) counted ∙ (ap later_refusal (sym same) ∙ e)))

pub plan_made : (parts : PlanParts) (p : Plan) → p ≡ numbered parts → of_parts parts ≡ None → later_refusal p ≡ None → plan_of parts ≡ Ok p
unfolding plan_of
plan_made parts p same counted e = ap (λ o. unless_refused o (numbered parts)) (refused parts ∙ (ap (λ o. or_else o (later_refusal (numbered parts))) counted ∙ (ap later_refusal (sym same) ∙ e))) ∙ ap Ok (sym same)

-- what the counts of a plan are, where they are not refused
pub record Kept (a b c d : ℕ) : Type 0 where
  pub some : 1 ≤ a
  pub clps : a ≤ 64
  pub classes : b ≤ 64
  pub vars : c ≤ 4096
  pub agents : d ≤ 1024

first_none : (b : Bool) (f : PlanFault) (o : Option PlanFault) → or_else (refused_if b f) o ≡ None → (b ≡ false) × (o ≡ None)
first_none true f o e = absurd (cc)
first_none false f o e = (refl, e)

last_none : (b : Bool) (f : PlanFault) → refused_if b f ≡ None → b ≡ false
last_none true f e = absurd (cc)
last_none false f e = refl

pub kept : (a b c d : ℕ) → count_refusal a b c d ≡ None → Kept a b c d
kept a b c d e =
    let w = first_none (nat_lt a 1 || nat_lt 64 a) _ _ e in
    let x = first_none (nat_lt 64 b) _ _ w.1 in
    let y = first_none (nat_lt 4096 c) _ _ x.1 in
    let z = last_none (nat_lt 1024 d) _ y.1 in
    let k = w.0 in
    let m = x.0 in
    let n = y.0 in
    record {
      some = grind (arith, nat_tests, k);
      clps = grind (arith, nat_tests, k);
      classes = grind (arith, nat_tests, m);
      vars = grind (arith, nat_tests, n);
      agents = grind (arith, nat_tests, z);
    }

pub few_parts : (parts : PlanParts) (p : Plan) → p ≡ numbered parts → of_parts parts ≡ None → IsFew p
few_parts parts p same e =
    let l = lengths parts in
    let k = kept (length parts.clps) (length parts.classes) (length (all_vars parts.classes)) (length parts.agents) e in
    subst IsFew (sym same) (record {
      clps = omega (arith, l.clps, k.clps);
      classes = omega (arith, l.classes, k.classes);
      vars = omega (arith, l.vars, k.vars);
      agents = omega (arith, l.agents, k.agents);
    })

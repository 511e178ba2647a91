use Rattle.std.proofs.Common.{◌≡◌, ◌+◌, ◌≤◌, ◌∙◌, ap, sym, arith, [], ◌∷◌, ◌++◌, length, get_or, take, map}
use Rattle.std.proofs.lemmas.List.{map_push, map-append, map-id}
use Rattle.std.proofs.lemmas.List.Folds.{length-flat_map-take}
use Rattle.std.proofs.lemmas.Iterator.Adapters.{YieldsList-from_vec}
use Rattle.std.proofs.lemmas.Iterator.Consumers.{YieldsList-turn, YieldsList-so_far}
use Rattle.pm_plan.specs.Plans.{var_row, all_vars}
use Rattle.pm_plan.proofs.ClassRows.{class_rows-push, all_vars-push, all_vars-count}
use Rattle.pm_plan.proofs.rows.all_classes.Goals as goal

pub loop-class-preserved : goal.loop-class-preserved
loop-class-preserved c =
    let xs = c.loop-class.yielded in
    let x = c.in-Some.class in
    let old = c.loop-class.all in
    record {
      rows = c.in_ok-push.ensures.rows ∙ (ap (λ rs. rs ++ (record { first = length old.vars; count = length x.vars }) ∷ []) c.loop-class.invariant.rows ∙ sym (class_rows-push (length old.vars) xs x c.loop-class.invariant.count));
      names = c.in_ok-push.ensures.names ∙ (ap (λ ns. ns ++ x.name ∷ []) c.loop-class.invariant.names ∙ sym (map_push (λ p. p.name) xs x));
      vars = λ names k. c.in_ok-push.ensures.vars names k ∙ (ap (λ vs. vs ++ map (var_row names) x.vars) (c.loop-class.invariant.vars names k)
          ∙ (sym (map-append (var_row names) (all_vars xs) x.vars) ∙ ap (map (var_row names)) (sym (all_vars-push xs x))));
      count = (let e = all_vars-count xs x in c.in_ok-push.ensures.count ∙ omega (arith, e, c.loop-class.invariant.count));
      pairs = c.in_ok-push.ensures.pairs c.loop-class.invariant.pairs;
    }

pub push-requires : goal.push-requires
push-requires c =
    let xs = c.loop-class.yielded in
    let x = c.in-Some.class in
    let all = c.args.parts in
    let gives = c.into_iter-class-iterator.ensures.into_iter_gives in
    let road = YieldsList-from_vec all (gives.0 ∙ c.into_vec-class-items.ensures) (let e = ap length c.into_vec-class-items.ensures in let ok = c.into_vec-class-items.result.ok in omega (arith, gives.1, ok, e)) in
    let turn = YieldsList-turn road xs c.loop-class.class-iterator c.loop-class.yielded_by c.next.result c.next.new.self x c.in-Some.is c.next.ensures.steps in
    let so_far : xs ≡ take (length xs) all = sym (map-id xs) ∙ YieldsList-so_far road xs c.loop-class.class-iterator c.loop-class.yielded_by in
    let most : length (all_vars (take (length xs) all)) + length (get_or all (length xs) x).vars ≤ length (all_vars all) = length-flat_map-take (λ p. p.vars) all (length xs) x turn.0 in
    let same : length x.vars ≡ length (get_or all (length xs) x).vars = ap (λ p. length p.vars) turn.1 in
    let before : length (all_vars xs) ≡ length (all_vars (take (length xs) all)) = ap (λ ys. length (all_vars ys)) so_far in
    omega (arith, most, same, before, c.loop-class.invariant.count, c.requires)

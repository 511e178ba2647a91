-- A worked plan is valid, and so the theorem speaks of it: its premises can be met.
use Rattle.std.proofs.Common.{◌≡◌, rules, refl, arith, List, [], ◌∷◌, map, true, ℕ, ◌+◌, ◌<◌, ℤ, nat_lt, codes, Some, None, Ok}
use Rattle.std.proofs.lemmas.Int.{ints}
use Rattle.pm_base.specs.Windows.{IsPair}
use Rattle.std.specs.Prelude.{◌&&◌, max}
use Rattle.pm_base.specs.Fits.{all_true, change_known, change_tokens, depth_of, else_lines, fits, greatest, in_line, is_known, lines_of, stmt_fits, tokens_of, total, tree_fits}
use Rattle.pm_base.specs.Names.{is_name, is_reserved}
use Rattle.pm_base.specs.declared.fits.Known.{Known}
use Rattle.pm_base.specs.declared.layout.ClassRow.{ClassRow}
use Rattle.pm_base.specs.declared.program.Expr.{Expr, the_lemmas}
use Rattle.pm_base.specs.declared.program.Expr.TheVariants.{Num, Part, Bin}
use Rattle.pm_base.specs.declared.program.Field.{Field}
use Rattle.pm_base.specs.declared.program.Op.{Op}
use Rattle.pm_base.specs.declared.program.Place.{Place}
use Rattle.pm_base.specs.declared.program.Stmt.{Stmt, the_lemmas as stmt_lemmas}
use Rattle.pm_base.specs.declared.program.Stmt.TheVariants.{If, Set}
use Rattle.pm_base.specs.declared.run.Event.{Event}
use Rattle.pm_plan.specs.Numbers.{first_wrong, first_repeat, number_of}
use Rattle.pm_plan.specs.Plans.{IsValid, first_nowhere, first_off_tree, later_refusal, numbered, plan_of, refusal, rules_fit}
use Rattle.pm_plan.specs.declared.parts.PlanParts.{PlanParts}
use Rattle.pm_sim.specs.Promises.{CommittedIsSequential}
use Rattle.pm_sim.specs.Samples.{choosing, overtaken_cut, read, rule, set_to, val}
use Rattle.pm_sim.proofs.Promised.{committed-sequential}

known-Num : (k : Known) (z : ℤ) → is_known k (Num z) ≡ true
known-Num k z = search (rules, the_lemmas)

known-Part : (k : Known) (s : ℕ) (f : Field) → is_known k (Part s f) ≡ nat_lt s k.senses
known-Part k s f = search (rules, the_lemmas)

known-Bin : (k : Known) (o : Op) (a b : Expr) → is_known k (Bin o a b) ≡ (is_known k a && is_known k b)
known-Bin k o a b = search (rules, the_lemmas)

tokens-Num : (z : ℤ) → tokens_of (Num z) ≡ 1
tokens-Num z = search (rules, the_lemmas)

tokens-Part : (k : ℕ) (f : Field) → tokens_of (Part k f) ≡ 3
tokens-Part k f = search (rules, the_lemmas)

tokens-Bin : (o : Op) (a b : Expr) → tokens_of (Bin o a b) ≡ 3 + tokens_of a + tokens_of b
tokens-Bin o a b = search (rules, the_lemmas)

fits-Set : (cs : List ClassRow) (k : Known) (place : Place) (x y : Expr)
    → stmt_fits cs k (Set place x y) ≡ (in_line (change_tokens place x y) && change_known cs k place x y)
fits-Set cs k place x y = search (rules, stmt_lemmas)

fits-If : (cs : List ClassRow) (k : Known) (test : Expr) (first second : List Stmt)
    → stmt_fits cs k (If test first second)
    ≡ (in_line (1 + tokens_of test) && is_known k test
    && (all_true (map (stmt_fits cs k) first) && all_true (map (stmt_fits cs k) second)))
fits-If cs k test first second = search (rules, stmt_lemmas)

lines-Set : (place : Place) (x y : Expr) → lines_of (Set place x y) ≡ 1
lines-Set place x y = search (rules, stmt_lemmas)

lines-If : (test : Expr) (first second : List Stmt)
    → lines_of (If test first second) ≡ 2 + total (map lines_of first) + else_lines (map lines_of second)
lines-If test first second = search (rules, stmt_lemmas)

depth-Set : (place : Place) (x y : Expr) → depth_of (Set place x y) ≡ 0
depth-Set place x y = search (rules, stmt_lemmas)

depth-If : (test : Expr) (first second : List Stmt)
    → depth_of (If test first second) ≡ 1 + max (greatest (map depth_of first)) (greatest (map depth_of second))
depth-If test first second = search (rules, stmt_lemmas)

-- the plan by its names
abbrev parts : PlanParts
parts = record {
  horizon = 0;
  move_after = 1;
  clps =
      record { name = codes "root"; parent = None } ∷ record { name = codes "left"; parent = Some (codes "root") } ∷ [];
  classes = record {
    name = codes "cell";
    vars = record { name = codes "c0"; at = codes "left"; value = val 0 }
        ∷ record { name = codes "c1"; at = codes "root"; value = val 0 }
        ∷ record { name = codes "c2"; at = codes "left"; value = val 0 }
        ∷ record { name = codes "hi"; at = codes "left"; value = val 9 } ∷ [];
  } ∷ [];
  agents = record { name = codes "w"; home = codes "left"; start = 0; program = rule [] (set_to 0 1) }
      ∷ record { name = codes "m"; home = codes "left"; start = 0; program = rule (read 0 ∷ []) (choosing 2 7 1 7) }
      ∷ record { name = codes "k"; home = codes "left"; start = 0; program = rule (read 1 ∷ []) [] } ∷ [];
}

made : plan_of parts ≡ Ok overtaken_cut
unfolding plan_of refusal later_refusal numbered first_off_tree first_nowhere first_wrong first_repeat number_of is_name
made = refl

rules_ok : rules_fit parts.classes parts.agents ≡ true
unfolding fits tree_fits is_name is_reserved
rules_ok = simp (
  fits-Set,
  fits-If,
  lines-Set,
  lines-If,
  depth-Set,
  depth-If,
  known-Num,
  known-Part,
  known-Bin,
  tokens-Num,
  tokens-Part,
  tokens-Bin,
) refl

small : (n : ℕ) → n < 100 → IsPair (val n)
small n lt = record { x = omega (arith, ints, lt); y = omega (arith, ints) }

pub overtaken_cut_valid : IsValid overtaken_cut
overtaken_cut_valid = record {
  parts = parts;
  made = made;
  rules = rules_ok;
  pairs = (small 0 (omega arith), (small 0 (omega arith), (small 0 (omega arith), (small 9 (omega arith), tt))));
}

-- what the theorem says of it, whatever is delivered and committed
pub overtaken_cut_simulates : (es : List Event) → CommittedIsSequential overtaken_cut es
overtaken_cut_simulates es = committed-sequential overtaken_cut es overtaken_cut_valid

-- The lines of statements are fine where the statements fit.
use Rattle.std.proofs.Common.{◌≡◌, ◌∙◌, ap, refl, sym, subst, arith, rules, ℕ, ◌+◌, ◌≤◌, Bool, true, false, List, [], ◌∷◌, ◌++◌, Option, Some, None, length, nat_lt, append_assoc, inl, inr, ◌⊎◌}
use Rattle.std.specs.List.{AllByRecursion}
use Rattle.std.specs.Prelude.{codes, map, max, nat_le, ◌&&◌, ◌==◌}
use Rattle.std.proofs.lemmas.Bool.Decides.{nat_tests}
use Rattle.std.proofs.lemmas.List.{append-nil, length-append}
use Rattle.pm_base.specs.Fits.{all_true, change_known, change_tokens, depth_of, greatest, in_line, is_known, stmt_fits, tokens_of}
use Rattle.pm_base.specs.declared.fits.Known.{Known}
use Rattle.pm_base.specs.declared.layout.ClassRow.{ClassRow}
use Rattle.pm_base.specs.declared.program.Expr.{Expr}
use Rattle.pm_base.specs.declared.program.Place.{Place}
use Rattle.pm_base.specs.declared.program.Stmt.{Stmt, the_lemmas}
use Rattle.pm_base.specs.declared.program.Stmt.TheVariants.{Let, If, Set, Add, Wait}
use Rattle.pm_rules.specs.Grammar.{is_plain}
use Rattle.pm_rules.specs.Nesting.{AreFine, IsFine, IsGood, is_taken}
use Rattle.pm_rules.specs.Reading.{Scope, Table, class_rows}
use Rattle.pm_rules.specs.Rules.{is_empty, scope_of, with_said}
use Rattle.pm_rules.specs.Sayable.{does_sayable, known_in}
use Rattle.pm_rules.specs.Spelling.{else_said, says, says_all, spell_does}
use Rattle.pm_tokens.specs.Tokens.{Tok}
use Rattle.pm_rules.specs.declared.draft.Draft.{Draft}
use Rattle.pm_rules.specs.declared.draft.Frame.{Frame}
use Rattle.pm_rules.specs.declared.said.Said.{Said}
use Rattle.pm_rules.specs.declared.said.Said.TheVariants as said
use Rattle.pm_rules.proofs.BackwardLaws.{both}
use Rattle.pm_rules.proofs.IdleLaws.{taken_parts}
use Rattle.pm_rules.proofs.Variants.{Holding, every_statement, those}
use Rattle.pm_rules.proofs.NestingLaws.{else_first, end_first, end_second, if_open, inside, last_frame-append, says-Add, says-If, says-Let, says-Set, says-Wait, with_body}
use Rattle.pm_rules.proofs.SpellingCounts.{change_counted, expression_counted}
use Rattle.pm_rules.proofs.SpellingEquations.{does-Add, does-Let, does-Set, does-Wait, sayable-Add, sayable-Let, sayable-Set, sayable-Wait}

fits-Let : (cs : List ClassRow) (k : Known) (reg : ℕ) (e : Expr) → stmt_fits cs k (Let reg e) ≡ (in_line (3 + tokens_of e) && (nat_lt reg k.regs && is_known k e))
fits-Let cs k reg e = search (rules, the_lemmas)

fits-If : (cs : List ClassRow) (k : Known) (test : Expr) (first second : List Stmt) → stmt_fits cs k (If test first second) ≡
    (in_line (1 + tokens_of test) && is_known k test && (all_true (map (stmt_fits cs k) first) && all_true (map (stmt_fits cs k) second)))
fits-If cs k test first second = search (rules, the_lemmas)

fits-Set : (cs : List ClassRow) (k : Known) (place : Place) (x y : Expr) → stmt_fits cs k (Set place x y) ≡ (in_line (change_tokens place x y) && change_known cs k place x y)
fits-Set cs k place x y = search (rules, the_lemmas)

fits-Add : (cs : List ClassRow) (k : Known) (place : Place) (x y : Expr) → stmt_fits cs k (Add place x y) ≡ (in_line (change_tokens place x y) && change_known cs k place x y)
fits-Add cs k place x y = search (rules, the_lemmas)

fits-Wait : (cs : List ClassRow) (k : Known) (e : Expr) → stmt_fits cs k (Wait e) ≡ (in_line (1 + tokens_of e) && is_known k e)
fits-Wait cs k e = search (rules, the_lemmas)

depth-Let : (reg : ℕ) (e : Expr) → depth_of (Let reg e) ≡ 0
depth-Let reg e = search (rules, the_lemmas)

depth-If : (test : Expr) (first second : List Stmt) → depth_of (If test first second) ≡ 1 + max (greatest (map depth_of first)) (greatest (map depth_of second))
depth-If test first second = search (rules, the_lemmas)

depth-Set : (place : Place) (x y : Expr) → depth_of (Set place x y) ≡ 0
depth-Set place x y = search (rules, the_lemmas)

depth-Add : (place : Place) (x y : Expr) → depth_of (Add place x y) ≡ 0
depth-Add place x y = search (rules, the_lemmas)

depth-Wait : (e : Expr) → depth_of (Wait e) ≡ 0
depth-Wait e = search (rules, the_lemmas)

plain-Let : (reg : ℕ) (e : Expr) → is_plain (Let reg e) ≡ true
plain-Let reg e = search (rules, the_lemmas)

plain-If : (test : Expr) (first second : List Stmt) → is_plain (If test first second) ≡ (all_true (map is_plain first) && all_true (map is_plain second))
plain-If test first second = search (rules, the_lemmas)

plain-Set : (place : Place) (x y : Expr) → is_plain (Set place x y) ≡ true
plain-Set place x y = search (rules, the_lemmas)

plain-Add : (place : Place) (x y : Expr) → is_plain (Add place x y) ≡ false
plain-Add place x y = search (rules, the_lemmas)

plain-Wait : (e : Expr) → is_plain (Wait e) ≡ true
plain-Wait e = search (rules, the_lemmas)

pub and_true : (x y : Bool) → x ≡ true → y ≡ true → (x && y) ≡ true
and_true true y a b = b
and_true false y a b = cc

pub line_test : (n : ℕ) → n ≤ 64 → in_line n ≡ true
line_test n h = grind (arith, nat_tests)

pub line_is : (n : ℕ) → in_line n ≡ true → n ≤ 64
line_is n h = grind (arith, nat_tests)

two_not_one : (version : ℕ) → (version == 2) ≡ true → version ≡ 1 → ⊥
two_not_one version e is = cc_one (subst (λ (v : ℕ). (v == 2) ≡ true) is e)
  where
    cc_one : (1 == 2) ≡ true → ⊥
    cc_one e = cc

-- what one line gives: it is fine where the statement fits
pub record OneLine (t : Table) (version : ℕ) (sc : Scope) (c : Stmt) : Type 0 where
  pub from : does_sayable sc version c ≡ true → length (spell_does sc c) ≤ 64 →
      (stmt_fits (class_rows sc.table) (known_in sc) c ≡ true) × (depth_of c ≡ 0) × (version ≡ 1 → is_plain c ≡ true)
  pub to : (version ≡ 1) ⊎ (version ≡ 2) → stmt_fits (class_rows sc.table) (known_in sc) c ≡ true → (version ≡ 1 → is_plain c ≡ true) →
      (does_sayable sc version c ≡ true) × (length (spell_does sc c) ≤ 64)

let_line : (t : Table) (version : ℕ) (sc : Scope) (reg : ℕ) (e : Expr) → OneLine t version sc (Let reg e)
let_line t version sc reg e = record {
  from = λ known low. (
    rw (fits-Let (class_rows sc.table) (known_in sc) reg e)
        (and_true _ _ (line_test (3 + tokens_of e) (omega (arith, ap (λ (ts : List Tok). length ts) (does-Let sc reg e), expression_counted sc e)))
        (sym (sayable-Let sc version reg e) ∙ known)),
    depth-Let reg e,
    λ one. plain-Let reg e,
  );
  to = λ which fits plain.
      let parts = both _ _ (sym (fits-Let (class_rows sc.table) (known_in sc) reg e) ∙ fits) in (
        sayable-Let sc version reg e ∙ parts.1,
        (let low = line_is (3 + tokens_of e) parts.0 in omega (arith, low, ap (λ (ts : List Tok). length ts) (does-Let sc reg e), expression_counted sc e)),
      );
}

set_line : (t : Table) (version : ℕ) (sc : Scope) (place : Place) (x y : Expr) → OneLine t version sc (Set place x y)
set_line t version sc place x y = record {
  from = λ known low. (
    rw (fits-Set (class_rows sc.table) (known_in sc) place x y)
        (and_true _ _ (line_test (change_tokens place x y) (omega (arith, low, ap (λ (ts : List Tok). length ts) (does-Set sc place x y), change_counted sc (codes "set") place x y)))
        (sym (sayable-Set sc version place x y) ∙ known)),
    depth-Set place x y,
    λ one. plain-Set place x y,
  );
  to = λ which fits plain.
      let parts = both _ _ (sym (fits-Set (class_rows sc.table) (known_in sc) place x y) ∙ fits) in (
        sayable-Set sc version place x y ∙ parts.1,
        (let low = line_is (change_tokens place x y) parts.0 in omega (arith, low, ap (λ (ts : List Tok). length ts) (does-Set sc place x y), change_counted sc (codes "set") place x y)),
      );
}

-- version 2 has `add`
is_two : (version : ℕ) → (version ≡ 1) ⊎ (version ≡ 2) → (version ≡ 1 → false ≡ true) → (version == 2) ≡ true
is_two version (inl one) never = absurd (let e = never one in is_not e)
  where
    is_not : false ≡ true → ⊥
    is_not e = cc
is_two version (inr two) never = rw two refl

add_line : (t : Table) (version : ℕ) (sc : Scope) (place : Place) (x y : Expr) → OneLine t version sc (Add place x y)
add_line t version sc place x y = record {
  from = λ known low.
      let parts = both (version == 2) (change_known (class_rows sc.table) (known_in sc) place x y) (sym (sayable-Add sc version place x y) ∙ known) in (
        rw (fits-Add (class_rows sc.table) (known_in sc) place x y)
            (and_true _ _ (line_test (change_tokens place x y) (omega (arith, low, ap (λ (ts : List Tok). length ts) (does-Add sc place x y), change_counted sc (codes "add") place x y)))
            parts.1),
        depth-Add place x y,
        λ one. absurd (two_not_one version parts.0 one),
      );
  to = λ which fits plain.
      let parts = both _ _ (sym (fits-Add (class_rows sc.table) (known_in sc) place x y) ∙ fits) in (
        sayable-Add sc version place x y ∙ and_true (version == 2) _ (is_two version which (λ one. sym (plain-Add place x y) ∙ plain one)) parts.1,
        (let low = line_is (change_tokens place x y) parts.0 in omega (arith, low, ap (λ (ts : List Tok). length ts) (does-Add sc place x y), change_counted sc (codes "add") place x y)),
      );
}

wait_line : (t : Table) (version : ℕ) (sc : Scope) (e : Expr) → OneLine t version sc (Wait e)
wait_line t version sc e = record {
  from = λ known low. (
    rw (fits-Wait (class_rows sc.table) (known_in sc) e)
        (and_true _ _ (line_test (1 + tokens_of e) (omega (arith, low, ap (λ (ts : List Tok). length ts) (does-Wait sc e), expression_counted sc e)))
        (sym (sayable-Wait sc version e) ∙ known)),
    depth-Wait e,
    λ one. plain-Wait e,
  );
  to = λ which fits plain.
      let parts = both _ _ (sym (fits-Wait (class_rows sc.table) (known_in sc) e) ∙ fits) in (
        sayable-Wait sc version e ∙ parts.1,
        (let low = line_is (1 + tokens_of e) parts.0 in omega (arith, low, ap (λ (ts : List Tok). length ts) (does-Wait sc e), expression_counted sc e)),
      );
}

-- so many `if`s are open
abbrev pub depth : Draft → ℕ
depth d = length d.frames

abbrev pub Good : Table → ℕ → Draft → Stmt → Type 0
Good t version d c = IsGood t version (known_in (scope_of t d)) (depth d) c

-- fine lines are of a statement that fits, and of what follows it
abbrev pub FromLines : Table → ℕ → Stmt → Type 0
FromLines t version c = (d : Draft) (rest : List Said) → depth d ≤ 8 → AreFine t version d (says c ++ rest) →
    Good t version d c × AreFine t version (with_body (c ∷ []) d) rest

-- the lines of a statement that fits are fine where those that follow it are
abbrev pub ToLines : Table → ℕ → Stmt → Type 0
ToLines t version c = (d : Draft) (rest : List Said) → Good t version d c → AreFine t version (with_body (c ∷ []) d) rest →
    AreFine t version d (says c ++ rest)

one_from : (t : Table) (version : ℕ) (c : Stmt) → says c ≡ said.Does c ∷ [] → ((sc : Scope) → OneLine t version sc c) → FromLines t version c
unfolding with_said
one_from t version c e line d rest few fine =
    let all : AreFine t version d (said.Does c ∷ rest) = subst (λ (ss : List Said). AreFine t version d (ss ++ rest)) e fine in
    let good = (line (scope_of t d)).from all.0.sayable all.0.short in
    (record { fits = good.0; depth = omega (arith, good.1, few); plain = good.2 }, all.1)

one_to : (t : Table) (version : ℕ) → (version ≡ 1) ⊎ (version ≡ 2) → (c : Stmt) → says c ≡ said.Does c ∷ [] → ((sc : Scope) → OneLine t version sc c) →
    ToLines t version c
unfolding with_said
one_to t version which c e line d rest good more =
    let fine = (line (scope_of t d)).to which good.fits good.plain in
    subst (λ (ss : List Said). AreFine t version d (ss ++ rest)) (sym e) (record { taken = refl; sayable = fine.0; short = fine.1 }, more)

abbrev AllGood : Table → ℕ → Draft → List Stmt → Type 0
AllGood t version d cs = AllByRecursion (Good t version d) cs

pub with_none : (d : Draft) → with_body [] d ≡ d
with_none d = ap (λ (b : List Stmt). record d { body = b }) (append-nil d.body)

pub with_more : (c : Stmt) (cs : List Stmt) (d : Draft) → with_body cs (with_body (c ∷ []) d) ≡ with_body (c ∷ cs) d
with_more c cs d = ap (λ (b : List Stmt). record d { body = b }) (append_assoc d.body (c ∷ []) cs)

list_from : (t : Table) (version : ℕ) (cs : List (Holding (FromLines t version))) (d : Draft) (rest : List Said) → depth d ≤ 8 →
    AreFine t version d (says_all (those (FromLines t version) cs) ++ rest) →
    AllGood t version d (those (FromLines t version) cs) × AreFine t version (with_body (those (FromLines t version) cs) d) rest
list_from t version [] d rest few fine = (tt, subst (λ (e : Draft). AreFine t version e rest) (sym (with_none d)) fine)
list_from t version (c ∷ cs) d rest few fine =
    let more = says_all (those (FromLines t version) cs) in
    let first = c.1 d (more ++ rest) few (subst (AreFine t version d) (append_assoc (says c.0) more rest) fine) in
    let others = list_from t version cs (with_body (c.0 ∷ []) d) rest few first.1 in
    ((first.0, others.0), subst (λ (e : Draft). AreFine t version e rest) (with_more c.0 (those (FromLines t version) cs) d) others.1)

list_to : (t : Table) (version : ℕ) (cs : List (Holding (ToLines t version))) (d : Draft) (rest : List Said) → AllGood t version d (those (ToLines t version) cs) →
    AreFine t version (with_body (those (ToLines t version) cs) d) rest → AreFine t version d (says_all (those (ToLines t version) cs) ++ rest)
list_to t version [] d rest good more = subst (λ (e : Draft). AreFine t version e rest) (with_none d) more
list_to t version (c ∷ cs) d rest good more =
    let lines = says_all (those (ToLines t version) cs) in
    let others = list_to t version cs (with_body (c.0 ∷ []) d) rest good.1
    (subst (λ (e : Draft). AreFine t version e rest) (sym (with_more c.0 (those (ToLines t version) cs) d)) more) in
    subst (AreFine t version d) (sym (append_assoc (says c.0) lines rest)) (c.1 d (lines ++ rest) good.0 others)

-- statements that fit, one by one and together
abbrev pub AreGood : Table → ℕ → Known → ℕ → List Stmt → Type 0
AreGood t version k n cs = AllByRecursion (IsGood t version k n) cs

pub record Together (t : Table) (version : ℕ) (k : Known) (n : ℕ) (cs : List Stmt) : Type 0 where
  pub fits : all_true (map (stmt_fits (class_rows t) k) cs) ≡ true
  pub depth : greatest (map depth_of cs) + n ≤ 8
  pub plain : version ≡ 1 → all_true (map is_plain cs) ≡ true

pub together : (t : Table) (version : ℕ) (k : Known) (n : ℕ) (cs : List Stmt) → n ≤ 8 → AreGood t version k n cs → Together t version k n cs
together t version k n [] low good = record { fits = refl; depth = omega (arith, low); plain = λ one. refl }
together t version k n (c ∷ cs) low good =
    let more = together t version k n cs low good.1 in
    record {
      fits = and_true _ _ good.0.fits more.fits;
      depth = omega (arith, good.0.depth, more.depth);
      plain = λ one. and_true _ _ (good.0.plain one) (more.plain one);
    }

pub apart : (t : Table) (version : ℕ) (k : Known) (n : ℕ) (cs : List Stmt) → Together t version k n cs → AreGood t version k n cs
apart t version k n [] all = tt
apart t version k n (c ∷ cs) all =
    let fits = both (stmt_fits (class_rows t) k c) (all_true (map (stmt_fits (class_rows t) k) cs)) all.fits in
    let plain = λ (one : version ≡ 1). both (is_plain c) (all_true (map is_plain cs)) (all.plain one) in (
      record { fits = fits.0; depth = omega (arith, all.depth); plain = λ one. (plain one).0 },
      apart t version k n cs (record { fits = fits.1; depth = omega (arith, all.depth); plain = λ one. (plain one).1 }),
    )

if_good : (t : Table) (version : ℕ) (k : Known) (n : ℕ) (test : Expr) (a b : List Stmt) → is_known k test ≡ true → 1 + tokens_of test ≤ 64 → n + 1 ≤ 8 →
    AreGood t version k (n + 1) a → AreGood t version k (n + 1) b → IsGood t version k n (If test a b)
if_good t version k n test a b known low few ga gb =
    let ta = together t version k (n + 1) a few ga in
    let tb = together t version k (n + 1) b few gb in
    record {
      fits = rw (fits-If (class_rows t) k test a b, known, line_test (1 + tokens_of test) low, ta.fits, tb.fits) refl;
      depth = omega (arith, depth-If test a b, ta.depth, tb.depth);
      plain = λ one. plain-If test a b ∙ and_true _ _ (ta.plain one) (tb.plain one);
    }

-- what an `if` that fits gives
record IfParts (t : Table) (version : ℕ) (k : Known) (n : ℕ) (test : Expr) (a b : List Stmt) : Type 0 where
  known : is_known k test ≡ true
  low : 1 + tokens_of test ≤ 64
  few : n + 1 ≤ 8
  first : AreGood t version k (n + 1) a
  second : AreGood t version k (n + 1) b

three : (x y z : Bool) → (x && y && z) ≡ true → (x ≡ true) × (y ≡ true) × (z ≡ true)
three true true true e = (refl, refl, refl)
three true true false e = cc
three true false z e = cc
three false y z e = cc

if_parts : (t : Table) (version : ℕ) (k : Known) (n : ℕ) (test : Expr) (a b : List Stmt) → IsGood t version k n (If test a b) → IfParts t version k n test a b
if_parts t version k n test a b good =
    let parts = three _ _ _ (sym (fits-If (class_rows t) k test a b) ∙ good.fits) in
    let lists = both (all_true (map (stmt_fits (class_rows t) k) a)) (all_true (map (stmt_fits (class_rows t) k) b)) parts.2 in
    let plain = λ (one : version ≡ 1). both (all_true (map is_plain a)) (all_true (map is_plain b)) (sym (plain-If test a b) ∙ good.plain one) in
    record {
      known = parts.1;
      low = line_is (1 + tokens_of test) parts.0;
      few = omega (arith, good.depth, depth-If test a b);
      first = apart t version k (n + 1) a (record { fits = lists.0; depth = omega (arith, good.depth, depth-If test a b); plain = λ one. (plain one).0 });
      second = apart t version k (n + 1) b (record { fits = lists.1; depth = omega (arith, good.depth, depth-If test a b); plain = λ one. (plain one).1 });
    }

deeper : (d : Draft) (f : Frame) → length (d.frames ++ f ∷ []) ≡ depth d + 1
deeper d f = length-append d.frames (f ∷ [])

few_open : (d : Draft) (test : Expr) → is_taken d (said.If test) ≡ true → depth d + 1 ≤ 8
few_open d test t = omega (arith, not_many (length d.frames) (taken_parts d (said.If test) t).1)
  where
    not_many : (n : ℕ) → nat_le 8 n ≡ false → n + 1 ≤ 8
    not_many n e = grind (arith, nat_tests)

can_open : (d : Draft) (test : Expr) → depth d + 1 ≤ 8 → is_taken d (said.If test) ≡ true
can_open d test low = rw (few (length d.frames) low) refl
  where
    few : (n : ℕ) → n + 1 ≤ 8 → nat_le 8 n ≡ false
    few n h = grind (arith, nat_tests)

if_lines : (a b rest : List Said) (test : Expr) →
    (said.If test ∷ (a ++ (b ++ said.End ∷ []))) ++ rest ≡ said.If test ∷ (a ++ (b ++ (said.End ∷ rest)))
if_lines a b rest test =
    ap (λ (ss : List Said). said.If test ∷ ss) (append_assoc a (b ++ said.End ∷ []) rest ∙ ap (λ (ss : List Said). a ++ ss) (append_assoc b (said.End ∷ []) rest))

some_open : (fs : List Frame) (f : Frame) → is_empty (fs ++ f ∷ []) ≡ false
some_open [] f = refl
some_open (g ∷ fs) f = refl

-- within an `if` its `end` can stand, and its `else` where none came
end_fine : (t : Table) (version : ℕ) (test : Expr) (first : Option (List Stmt)) (body : List Stmt) (d : Draft) → IsFine t version (inside test first body d) said.End
end_fine t version test first body d = record {
  taken = rw (some_open d.frames (record { test = test; first = first; outer = d.body })) refl;
  sayable = refl;
  short = omega arith;
}

else_fine : (t : Table) (version : ℕ) (test : Expr) (body : List Stmt) (d : Draft) → IsFine t version (inside test None body d) said.Else
else_fine t version test body d = record {
  taken = rw (last_frame-append d.frames (record { test = test; first = None; outer = d.body })) refl;
  sayable = refl;
  short = omega arith;
}

-- the lines behind the first list of an `if`
tail_from : (t : Table) (version : ℕ) (test : Expr) (a : List Stmt) (second : List (Holding (FromLines t version))) (d : Draft) (rest : List Said) → depth d + 1 ≤ 8 →
    AreFine t version (inside test None a d) (else_said (map says (those (FromLines t version) second)) ++ (said.End ∷ rest)) →
    AreGood t version (known_in (scope_of t d)) (depth d + 1) (those (FromLines t version) second)
    × AreFine t version (with_body (If test a (those (FromLines t version) second) ∷ []) d) rest
tail_from t version test a [] d rest few fine = (tt, subst (λ (e : Draft). AreFine t version e rest) (end_first test a d) fine.1)
tail_from t version test a (c ∷ cs) d rest few fine =
    let frame : Frame = record { test = test; first = Some a; outer = d.body } in
    let b = those (FromLines t version) (c ∷ cs) in
    let lists = list_from t version (c ∷ cs) (inside test (Some a) [] d) (said.End ∷ rest) (omega (arith, few, deeper d frame))
    (subst (λ (e : Draft). AreFine t version e (says_all b ++ (said.End ∷ rest))) (else_first test a d) fine.1) in (
      subst (λ (n : ℕ). AreGood t version (known_in (scope_of t d)) n b) (deeper d frame) lists.0,
      subst (λ (e : Draft). AreFine t version e rest) (end_second test a b d) lists.1.1,
    )

tail_to : (t : Table) (version : ℕ) (test : Expr) (a : List Stmt) (second : List (Holding (ToLines t version))) (d : Draft) (rest : List Said) →
    AreGood t version (known_in (scope_of t d)) (depth d + 1) (those (ToLines t version) second) →
    AreFine t version (with_body (If test a (those (ToLines t version) second) ∷ []) d) rest →
    AreFine t version (inside test None a d) (else_said (map says (those (ToLines t version) second)) ++ (said.End ∷ rest))
tail_to t version test a [] d rest good more =
    (end_fine t version test None a d, subst (λ (e : Draft). AreFine t version e rest) (sym (end_first test a d)) more)
tail_to t version test a (c ∷ cs) d rest good more =
    let frame : Frame = record { test = test; first = Some a; outer = d.body } in
    let b = those (ToLines t version) (c ∷ cs) in (
      else_fine t version test a d,
      subst (λ (e : Draft). AreFine t version e (says_all b ++ (said.End ∷ rest))) (sym (else_first test a d))
          (list_to t version (c ∷ cs) (inside test (Some a) [] d) (said.End ∷ rest)
          (subst (λ (n : ℕ). AreGood t version (known_in (scope_of t d)) n b) (sym (deeper d frame)) good)
          (end_fine t version test (Some a) b d, subst (λ (e : Draft). AreFine t version e rest) (sym (end_second test a b d)) more)),
    )

if_from : (t : Table) (version : ℕ) (test : Expr) (first second : List (Holding (FromLines t version))) →
    FromLines t version (If test (those (FromLines t version) first) (those (FromLines t version) second))
if_from t version test first second d rest few fine =
    let a = those (FromLines t version) first in
    let b = those (FromLines t version) second in
    let frame : Frame = record { test = test; first = None; outer = d.body } in
    let lines = says-If test a b in
    let all : AreFine t version d (said.If test ∷ (says_all a ++ (else_said (map says b) ++ (said.End ∷ rest)))) =
    subst (AreFine t version d) (ap (λ (ss : List Said). ss ++ rest) lines ∙ if_lines (says_all a) (else_said (map says b)) rest test) fine in
    let room = few_open d test all.0.taken in
    let lists = list_from t version first (inside test None [] d) (else_said (map says b) ++ (said.End ∷ rest)) (omega (arith, room, deeper d frame))
    (subst (λ (e : Draft). AreFine t version e (says_all a ++ (else_said (map says b) ++ (said.End ∷ rest)))) (if_open test d) all.1) in
    let tail = tail_from t version test a second d rest room lists.1 in (
      if_good t version (known_in (scope_of t d)) (depth d) test a b all.0.sayable (omega (arith, all.0.short, expression_counted (scope_of t d) test)) room
          (subst (λ (n : ℕ). AreGood t version (known_in (scope_of t d)) n a) (deeper d frame) lists.0) tail.0,
      tail.1,
    )

if_to : (t : Table) (version : ℕ) (test : Expr) (first second : List (Holding (ToLines t version))) →
    ToLines t version (If test (those (ToLines t version) first) (those (ToLines t version) second))
if_to t version test first second d rest good more =
    let a = those (ToLines t version) first in
    let b = those (ToLines t version) second in
    let frame : Frame = record { test = test; first = None; outer = d.body } in
    let parts = if_parts t version (known_in (scope_of t d)) (depth d) test a b good in
    let lines = tail_to t version test a second d rest parts.second more in
    let all = list_to t version first (inside test None [] d) (else_said (map says b) ++ (said.End ∷ rest))
    (subst (λ (n : ℕ). AreGood t version (known_in (scope_of t d)) n a) (sym (deeper d frame)) parts.first) lines in
    subst (AreFine t version d) (sym (ap (λ (ss : List Said). ss ++ rest) (says-If test a b) ∙ if_lines (says_all a) (else_said (map says b)) rest test)) (
      record { taken = can_open d test parts.few; sayable = parts.known; short = omega (arith, parts.low, expression_counted (scope_of t d) test) },
      subst (λ (e : Draft). AreFine t version e (says_all a ++ (else_said (map says b) ++ (said.End ∷ rest)))) (sym (if_open test d)) all,
    )

pub from_lines : (t : Table) (version : ℕ) (c : Stmt) → FromLines t version c
from_lines t version = every_statement (FromLines t version) (record {
  let_ = λ reg e. one_from t version (Let reg e) (says-Let reg e) (λ sc. let_line t version sc reg e);
  if_ = if_from t version;
  set = λ place x y. one_from t version (Set place x y) (says-Set place x y) (λ sc. set_line t version sc place x y);
  add = λ place x y. one_from t version (Add place x y) (says-Add place x y) (λ sc. add_line t version sc place x y);
  wait = λ e. one_from t version (Wait e) (says-Wait e) (λ sc. wait_line t version sc e);
})

pub to_lines : (t : Table) (version : ℕ) → (version ≡ 1) ⊎ (version ≡ 2) → (c : Stmt) → ToLines t version c
to_lines t version which = every_statement (ToLines t version) (record {
  let_ = λ reg e. one_to t version which (Let reg e) (says-Let reg e) (λ sc. let_line t version sc reg e);
  if_ = if_to t version;
  set = λ place x y. one_to t version which (Set place x y) (says-Set place x y) (λ sc. set_line t version sc place x y);
  add = λ place x y. one_to t version which (Add place x y) (says-Add place x y) (λ sc. add_line t version sc place x y);
  wait = λ e. one_to t version which (Wait e) (says-Wait e) (λ sc. wait_line t version sc e);
})

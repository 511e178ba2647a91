-- Rules that fit name variables that exist, and write pairs of 64 bits.
use Rattle.std.proofs.Common.{◌≡◌, ◌∙◌, ap, subst, sym, refl, arith, ℕ, zero, suc, ◌+◌, ◌<◌, Bool, true, false, List, [], ◌∷◌, ◌++◌, length, slice_get, get_or, Option, Some, None, ℤ, pos, negsuc, ◌&&◌, ◌+ℤ◌}
use Rattle.std.specs.Prelude.{if◌then◌else◌, map, filter, nat_lt, FitsSigned}
use Rattle.std.specs.Int.{w64, saturate_signed}
use Rattle.std.specs.List.{list_all}
use Rattle.std.proofs.lemmas.Bool.{and_parts}
use Rattle.std.proofs.lemmas.Bool.Decides.{nat_tests}
use Rattle.std.proofs.lemmas.Int.{ints}
use Rattle.pm_base.proofs.Classes.{member_of-member, member_is_variable}
use Rattle.pm_base.specs.Fits.{are_few, is_short, names_fit, reg_names, sense_names, all_true, fits, known_before, place_known, sense_known, senses_fit, stmt_fits, stmt_fits_step, stmts_fit, tree_fits}
use Rattle.pm_base.specs.Layouts.{IsLayout, class_row, member_of, var_count}
use Rattle.pm_base.specs.declared.fits.Known.{Known}
use Rattle.pm_base.specs.declared.layout.ClassRow.{ClassRow}
use Rattle.pm_base.specs.declared.layout.Layout.{Layout}
use Rattle.pm_base.specs.declared.program.Expr.{Expr}
use Rattle.pm_base.specs.declared.program.Place.{Place}
use Rattle.pm_base.specs.declared.program.Place.TheVariants.{Var, Member}
use Rattle.pm_base.specs.declared.program.Program.{Program}
use Rattle.pm_base.specs.declared.program.Sense.{Sense}
use Rattle.pm_base.specs.declared.program.Sense.TheVariants.{Read, Scan}
use Rattle.pm_base.specs.declared.program.SenseRow.{SenseRow}
use Rattle.pm_base.specs.declared.program.Stmt.{Stmt}
use Rattle.pm_base.specs.declared.program.Stmt.TheFolds.{fold-roll-Stmt, ind-Stmt, map-Stmt}
use Rattle.pm_base.specs.declared.program.Stmt.TheOpen.{Stmt-F}
use Rattle.pm_base.specs.declared.program.Stmt.TheViews.{roll-Stmt}
use Rattle.pm_base.specs.declared.rows.Act.{Act}
use Rattle.pm_base.specs.declared.value.Change.TheVariants as change
use Rattle.pm_base.specs.declared.value.Query.{Query}
use Rattle.pm_base.specs.declared.value.Value.{Value}
use Rattle.pm_base.specs.declared.value.Write.{Write}
use Rattle.pm_plan.proofs.Valid.{valid_horizon, valid_limits, valid_rules}
use Rattle.pm_plan.specs.Plans.{IsValid}
use Rattle.pm_plan.specs.declared.plan.AgentRow.{AgentRow}
use Rattle.pm_plan.specs.declared.plan.Plan.{Plan}
use Rattle.pm_model.specs.Runs.{sequential_start}
use Rattle.pm_step.specs.Arithmetic.{is_zero}
use Rattle.pm_step.specs.Expressions.{Sight, sight, value}
use Rattle.pm_step.specs.Steps.{act_of, ask_or_act, does, does_all, does_step, no_deeds, pair, query_of, sight_at, step, variable, written}
use Rattle.pm_step.specs.declared.Deeds.{Deeds}
use Rattle.pm_step.specs.declared.Next.TheVariants as outcome
use Rattle.pm_sim.specs.Worlds.{agent_at, no_row}
use Rattle.pm_sim.specs.Sims.{Each, IsWide}
use Rattle.pm_sim.proofs.Goes.{PlanOk, QueryIn}
use Rattle.pm_sim.proofs.Lists.{each_append, each_in}
use Rattle.pm_sim.proofs.Shapes.{vars_counted}
use Rattle.pm_sim.proofs.Trims.{each_filter}

saturated : (z : ℤ) → FitsSigned w64 (saturate_signed w64 z)
saturated (pos n) = omega (arith, ints)
saturated (negsuc n) = omega (arith, ints)

set_wide : (s : Sight) (x y : Expr) → IsWide (change.Set (pair s x y))
set_wide s x y v h = record { x = saturated (value s x); y = saturated (value s y) }

add_wide : (c : Value) → IsWide (change.Add c)
add_wide c v h = record { x = saturated (v.x +ℤ c.x); y = saturated (v.y +ℤ c.y) }

module _ (layout : Layout) (lay : IsLayout layout) (k : Known) (kv : k.vars ≡ var_count layout.classes) where
  abbrev n : ℕ
  n = var_count layout.classes

  abbrev Fine : Write → Type 0
  Fine w = (w.var < n) × IsWide w.change

  var_in : (s : Sight) (place : Place)
      → s.classes ≡ layout.classes → place_known layout.classes k place ≡ true → variable s place < n
  var_in s (Var v) e h = (let g : v < k.vars = grind (arith, nat_tests, h) in omega (arith, g, kv))
  var_in s (Member class at) e h =
      let a = (and_parts (nat_lt 0 (class_row layout.classes class).count) _ h).0 in
      let some : 0 < (class_row layout.classes class).count = grind (arith, nat_tests, a) in
      subst (λ cs. member_of (class_row cs class) (value s at) < n) (sym e)
      (member_is_variable layout class (member_of (class_row layout.classes class) (value s at))
      lay (member_of-member (class_row layout.classes class) (value s at) some))

  written_fine : (ws : List Write) (w : Write) → Each Fine ws → Fine w → Each Fine (written ws w)
  unfolding written
  written_fine ws w a f =
      each_append Fine (filter (λ v. nat_lt v.var w.var) ws) (w ∷ filter (λ v. nat_lt w.var v.var) ws)
      (each_filter Fine (λ v. nat_lt v.var w.var) ws a) (f, each_filter Fine (λ v. nat_lt w.var v.var) ws a)

  abbrev KeepsFine : Stmt → Type 0
  KeepsFine c = stmt_fits layout.classes k c ≡ true
      → (s : Sight) → s.classes ≡ layout.classes → (d : Deeds) → Each Fine d.writes → Each Fine (does s c d).writes

  level : (s : Sight) (x : Stmt-F Stmt) (d : Deeds) (e : Deeds)
      → does s (roll-Stmt x) d ≡ e → Each Fine e.writes → Each Fine (does s (roll-Stmt x) d).writes
  level s x d e same up = subst (λ (d : Deeds). Each Fine d.writes) (sym same) up

  list_fine : (cs : List ((c : Stmt) × KeepsFine c))
      → all_true (map (stmt_fits layout.classes k) (map (λ c. c.0) cs)) ≡ true → (s : Sight) → s.classes
      ≡ layout.classes → (d : Deeds) → Each Fine d.writes → Each Fine (does_all s (map (λ c. c.0) cs) d).writes
  list_fine [] h s e d up = up
  list_fine (c ∷ cs) h s e d up =
      let a = and_parts
      (stmt_fits layout.classes k c.0) (all_true (map (stmt_fits layout.classes k) (map (λ c. c.0) cs))) h in
      list_fine cs a.1 s e (does s c.0 d) (c.1 a.0 s e d up)

  either : (b : Bool) (d e : Deeds) → Each Fine d.writes → Each Fine e.writes → Each Fine (if b then d else e).writes
  either true d e h j = h
  either false d e h j = j

  fits_of : (x : Stmt-F Stmt) → stmt_fits layout.classes k (roll-Stmt x) ≡ true
      → stmt_fits_step layout.classes k (map-Stmt Stmt Bool (stmt_fits layout.classes k) x) ≡ true
  fits_of x h = sym (fold-roll-Stmt Bool (stmt_fits_step layout.classes k) x) ∙ h

  keeps : (y : Stmt-F ((c : Stmt) × KeepsFine c))
      → KeepsFine (roll-Stmt (map-Stmt ((c : Stmt) × KeepsFine c) Stmt (λ c. c.0) y))
  keeps (Stmt-F.Let reg e) h s cl d up = level s (Stmt-F.Let reg e)
      d _ (ap (λ (f : Deeds → Deeds). f d) (fold-roll-Stmt (Deeds → Deeds) (does_step s) (Stmt-F.Let reg e))) up
  keeps (Stmt-F.If test first second) h s cl d up =
      let a = fits_of (Stmt-F.If test (map (λ c. c.0) first) (map (λ c. c.0) second)) h in
      let b = (and_parts _ (all_true (map (stmt_fits layout.classes k) (map (λ c. c.0) first))
      && all_true (map (stmt_fits layout.classes k) (map (λ c. c.0) second))) a).1 in
      let c = and_parts (all_true (map (stmt_fits layout.classes k) (map (λ c. c.0) first)))
      (all_true (map (stmt_fits layout.classes k) (map (λ c. c.0) second))) b in
      level s (Stmt-F.If test (map (λ c. c.0) first) (map (λ c. c.0) second))
      d _ (ap (λ (f : Deeds → Deeds). f d) (fold-roll-Stmt
      (Deeds → Deeds) (does_step s) (Stmt-F.If test (map (λ c. c.0) first) (map (λ c. c.0) second))))
      (either
      (is_zero (value (sight_at s d) test)) _ _ (list_fine second c.1 s cl d up) (list_fine first c.0 s cl d up))
  keeps (Stmt-F.Set place x y) h s cl d up =
      let a = (and_parts _ (place_known layout.classes k place && _) (fits_of (Stmt-F.Set place x y) h)).1 in
      let b = (and_parts (place_known layout.classes k place) _ a).0 in
      level s (Stmt-F.Set place x y)
      d _ (ap (λ (f : Deeds → Deeds). f d) (fold-roll-Stmt (Deeds → Deeds) (does_step s) (Stmt-F.Set place x y)))
      (written_fine d.writes _ up (var_in (sight_at s d) place cl b, set_wide (sight_at s d) x y))
  keeps (Stmt-F.Add place x y) h s cl d up =
      let a = (and_parts _ (place_known layout.classes k place && _) (fits_of (Stmt-F.Add place x y) h)).1 in
      let b = (and_parts (place_known layout.classes k place) _ a).0 in
      level s (Stmt-F.Add place x y)
      d _ (ap (λ (f : Deeds → Deeds). f d) (fold-roll-Stmt (Deeds → Deeds) (does_step s) (Stmt-F.Add place x y)))
      (written_fine d.writes _ up (var_in (sight_at s d) place cl b, add_wide (pair (sight_at s d) x y)))
  keeps (Stmt-F.Wait e) h s cl d up = level s (Stmt-F.Wait e)
      d _ (ap (λ (f : Deeds → Deeds). f d) (fold-roll-Stmt (Deeds → Deeds) (does_step s) (Stmt-F.Wait e))) up

  does_fine : (c : Stmt) → KeepsFine c
  does_fine = ind-Stmt KeepsFine (λ x y is. subst (λ (z : Stmt-F Stmt). KeepsFine (roll-Stmt z)) is (keeps y))

  pub body_fine : (cs : List Stmt) → stmts_fit layout.classes k cs ≡ true
      → (s : Sight) → s.classes ≡ layout.classes → (d : Deeds) → Each Fine d.writes → Each Fine (does_all s cs d).writes
  body_fine [] h s e d up = up
  body_fine (c ∷ cs) h s e d up =
      let a = and_parts (stmt_fits layout.classes k c) (stmts_fit layout.classes k cs) h in
      body_fine cs a.1 s e (does s c d) (does_fine c a.0 s e d up)

-- each sense names what exists
pub sense_in : (classes : List ClassRow) (k : Known) (rows : List SenseRow) (i : ℕ) (row : SenseRow)
    → senses_fit classes k rows ≡ true
    → slice_get rows i ≡ Some row → (j : Known) × (j.vars ≡ k.vars) × (sense_known classes j row.sense ≡ true)
sense_in classes k [] i row h e = absurd (cc)
sense_in classes k (r ∷ rows) zero row h e =
    let a = (and_parts _ (senses_fit classes (record k { senses = k.senses + 1 }) rows) h).0 in
    let b = (and_parts _ (sense_known classes k r.sense) a).1 in
    let same : r ≡ row = some_row r row e in
    (k, refl, subst (λ (z : SenseRow). sense_known classes k z.sense ≡ true) same b)
  where
    some_row : (a b : SenseRow) → Some a ≡ Some b → a ≡ b
    some_row a b e = cc
sense_in classes k (r ∷ rows) (suc i) row h e =
    let a = (and_parts _ (senses_fit classes (record k { senses = k.senses + 1 }) rows) h).1 in
    sense_in classes (record k { senses = k.senses + 1 }) rows i row a e

query_in : (layout : Layout) (lay : IsLayout layout) (j : Known)
    → j.vars ≡ var_count layout.classes → (s : Sight) → s.classes ≡ layout.classes → (sense : Sense)
    → sense_known layout.classes j sense ≡ true → QueryIn (var_count layout.classes) (query_of s sense)
query_in layout lay j e s cl (Read place) h = var_in layout lay j e s place cl h
query_in layout lay j e s cl (Scan class x0 x1 y0 y1) h = tt

pub found_asks : (program : Program) (s : Sight) (o : Option SenseRow) (q : Query)
    → ask_or_act s program o ≡ outcome.Ask q → (row : SenseRow) × (o ≡ Some row) × (q ≡ query_of s row.sense)
found_asks program s None q e = absurd (cc)
found_asks program s (Some row) q e = (row, refl, same _ _ e)
  where
    same : (a b : Query) → outcome.Ask a ≡ outcome.Ask b → b ≡ a
    same a b e = cc

found_acts : (program : Program) (s : Sight) (o : Option SenseRow) (d : Act)
    → ask_or_act s program o ≡ outcome.Act d → d ≡ act_of (does_all s program.body (no_deeds s.regs))
found_acts program s (Some row) d e = absurd (cc)
found_acts program s None d e = same _ _ e
  where
    same : (a b : Act) → outcome.Act a ≡ outcome.Act b → b ≡ a
    same a b e = cc

pub asks_found : (program : Program) (s : Sight) (q : Query) → step program s ≡ outcome.Ask q
    → (row : SenseRow) × (slice_get program.senses (length s.answers) ≡ Some row) × (q ≡ query_of s row.sense)
unfolding step
asks_found program s q e = found_asks program s (slice_get program.senses (length s.answers)) q e

acts_found : (program : Program) (s : Sight) (d : Act)
    → step program s ≡ outcome.Act d → d ≡ act_of (does_all s program.body (no_deeds s.regs))
unfolding step
acts_found program s d e = found_acts program s (slice_get program.senses (length s.answers)) d e

pub all_fit : (layout : Layout) (rows : List AgentRow) (i : ℕ) → list_all (λ (r : AgentRow). fits r.program layout) rows
    ≡ true → i < length rows → fits (get_or rows i no_row).program layout ≡ true
all_fit layout [] i h lt = absurd (omega arith)
all_fit layout (r ∷ rows) zero h lt =
    (and_parts (fits r.program layout) (list_all (λ (r : AgentRow). fits r.program layout) rows) h).0
all_fit layout (r ∷ rows) (suc i) h lt = all_fit layout rows
    i (and_parts (fits r.program layout) (list_all (λ (r : AgentRow). fits r.program layout) rows) h).1 (omega arith)

pub tree_parts : (program : Program) (layout : Layout) → fits program layout ≡ true
    → (senses_fit layout.classes (known_before layout.classes program 0) program.senses ≡ true)
    × (stmts_fit layout.classes (known_before layout.classes program (length program.senses)) program.body ≡ true)
unfolding fits tree_fits
tree_parts program layout h =
    let senses = senses_fit layout.classes (known_before layout.classes program 0) program.senses in
    let body = stmts_fit layout.classes (known_before layout.classes program (length program.senses)) program.body in
    let a = (and_parts (are_few program) (names_fit (reg_names program.regs ++ sense_names program.senses)
    && (is_short program && (senses && body))) h).1 in
    let b = (and_parts (names_fit (reg_names program.regs ++ sense_names program.senses))
    (is_short program && (senses && body)) a).1 in
    let c = (and_parts (is_short program) (senses && body) b).1 in
    and_parts (senses_fit layout.classes (known_before layout.classes program 0) program.senses)
    (stmts_fit layout.classes (known_before layout.classes program (length program.senses)) program.body) c

-- the rules of a valid plan name variables that exist
pub rules_ok : (p : Plan) → IsValid p → (i : ℕ) → i < length p.agents → PlanOk p (length (sequential_start p).values) i
rules_ok p valid i lt = record {
  small = (let h = valid_horizon p valid in omega (arith, h));
  asks = λ s regs done q e. subst (λ n. QueryIn n q) counted (asked (sight p.layout.classes s regs done) refl q e);
  acts = λ s regs done d w e j. (let f = acted (sight p.layout.classes s regs done) refl d e in let g =
      (each_in (Fine p.layout layout (known_before p.layout.classes program (length program.senses)) refl)
      d.writes w f j).0 in omega (arith, g, counted));
  wide = λ s regs done d w e j. (let f = acted (sight p.layout.classes s regs done) refl d e in (each_in
      (Fine p.layout layout (known_before p.layout.classes program (length program.senses)) refl) d.writes w f j).1);
}
  where
    program : Program
    program = (agent_at p i).program

    layout : IsLayout p.layout
    layout = (valid_limits p valid).layout

    counted : var_count p.layout.classes ≡ length (sequential_start p).values
    counted = vars_counted p valid

    parts : (senses_fit p.layout.classes (known_before p.layout.classes program 0) program.senses ≡ true) × (stmts_fit
        p.layout.classes (known_before p.layout.classes program (length program.senses)) program.body ≡ true)
    parts = tree_parts program p.layout (all_fit p.layout p.agents i (valid_rules p valid) lt)

    asked : (s : Sight) → s.classes ≡ p.layout.classes
        → (q : Query) → step program s ≡ outcome.Ask q → QueryIn (var_count p.layout.classes) q
    asked s cl q e =
        let r = asks_found program s q e in
        let k = sense_in p.layout.classes
        (known_before p.layout.classes program 0) program.senses (length s.answers) r.0 parts.0 r.1 in
        subst (QueryIn (var_count p.layout.classes)) (sym r.2) (query_in p.layout layout k.0 k.1 s cl r.0.sense k.2)

    acted : (s : Sight) → s.classes ≡ p.layout.classes → (d : Act) → step program s ≡ outcome.Act d
        → Each (Fine p.layout layout (known_before p.layout.classes program (length program.senses)) refl) d.writes
    acted s cl d e =
        subst (λ (a : Act). Each (Fine p.layout layout (known_before p.layout.classes program (length program.senses))
        refl) a.writes) (sym (acts_found program s d e))
        (body_fine p.layout layout (known_before p.layout.classes program (length program.senses))
        refl program.body parts.1 s cl (no_deeds s.regs) tt)

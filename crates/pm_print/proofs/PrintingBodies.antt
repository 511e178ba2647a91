-- The lines of a program that fits have tokens, and all of them are writable.
use Rattle.std.proofs.Common.{◌≡◌, refl, sym, subst, ◌∙◌, arith, ℕ, ◌+◌, ◌≤◌, nat_lt}
use Rattle.std.proofs.Common.{Bool, true, not, ◌&&◌, List, [], ◌∷◌, ◌++◌, length, map}
use Rattle.std.specs.Prelude.{codes}
use Rattle.std.specs.List.{AllByRecursion}
use Rattle.std.proofs.lemmas.List.{length-map}
use Rattle.pm_base.specs.Fits.{are_few, change_known, change_tokens, fits, has_name, in_line, is_known}
use Rattle.pm_base.specs.Fits.{is_short, known_before, names_fit, reg_names, sense_known, sense_names, sense_tokens}
use Rattle.pm_base.specs.Fits.{senses_fit, stmt_fits, stmt_fits_step, stmts_fit, tokens_of, tree_fits}
use Rattle.pm_base.specs.Layouts.{var_count}
use Rattle.pm_base.specs.Names.{is_name, is_reserved}
use Rattle.pm_base.specs.declared.fits.Known.{Known}
use Rattle.pm_base.specs.declared.layout.ClassRow.{ClassRow}
use Rattle.pm_base.specs.declared.program.Program.{Program}
use Rattle.pm_base.specs.declared.program.RegRow.{RegRow}
use Rattle.pm_base.specs.declared.program.Sense.{Sense}
use Rattle.pm_base.specs.declared.program.Sense.TheVariants as sense
use Rattle.pm_base.specs.declared.program.SenseRow.{SenseRow}
use Rattle.pm_base.specs.declared.program.Stmt.{Stmt}
use Rattle.pm_base.specs.declared.program.Stmt.TheFolds.{fold-roll-Stmt, ind-Stmt, map-Stmt}
use Rattle.pm_base.specs.declared.program.Stmt.TheOpen.{Stmt-F}
use Rattle.pm_base.specs.declared.program.Stmt.TheViews.{roll-Stmt}
use Rattle.pm_base.specs.declared.program.Stmt.TheVariants as stmt
use Rattle.pm_print.specs.Printing.{AreNames, AreWritable, AreWritten, IsNamed, IsWritten, in_i64, is_sized}
use Rattle.pm_print.specs.Printing.{program_sized, regs_sized, sense_sized, senses_sized, stmt_sized}
use Rattle.pm_print.specs.Printing.{stmt_sized_step, stmts_sized}
use Rattle.pm_rules.specs.Reading.{Scope, Table, class_rows}
use Rattle.pm_rules.specs.Spelling.{concat, else_said, program_scope, reg_said, says, says_all, says_step, sense_said}
use Rattle.pm_rules.specs.Spelling.{spell_does, spell_does_step, spell_said, spell_sense}
use Rattle.pm_tokens.specs.Tokens.{Tok}
use Rattle.pm_rules.specs.declared.said.Said.{Said}
use Rattle.pm_rules.specs.declared.said.Said.TheVariants as said
use Rattle.pm_print.proofs.PrintingTrees.{Covers, all_both, both, change_writable, expr_writable, fits_i64}
use Rattle.pm_print.proofs.PrintingTrees.{reg_at, sense_writable}

-- the first words of lines
record AreWords : Type 0 where
  reg : is_name (codes "reg") ≡ true
  lets : is_name (codes "let") ≡ true
  sets : is_name (codes "set") ≡ true
  adds : is_name (codes "add") ≡ true
  wait : is_name (codes "wait") ≡ true
  ifs : is_name (codes "if") ≡ true
  elses : is_name (codes "else") ≡ true
  ends : is_name (codes "end") ≡ true

words : AreWords
unfolding is_name
words = record {
  reg = refl;
  lets = refl;
  sets = refl;
  adds = refl;
  wait = refl;
  ifs = refl;
  elses = refl;
  ends = refl;
}

-- a line of a first token and others
written : (k : Tok) (ts : List Tok) → AreWritable (k ∷ ts) → IsWritten (k ∷ ts)
written k ts all = record { tokens = all; some = omega arith }

sense_written : (sc : Scope) (w : List ℕ) (s : Sense) → AreWritable (spell_sense sc w s) →
    IsWritten (spell_sense sc w s)
sense_written sc w (sense.Read place) all = written _ _ all
sense_written sc w (sense.Scan class x0 x1 y0 y1) all = written _ _ all

abbrev AreSaid : Scope → List Said → Type 0
AreSaid sc ss = AllByRecursion (λ (s : Said). IsWritten (spell_said sc s)) ss

join : (sc : Scope) (a b : List Said) → AreSaid sc a → AreSaid sc b → AreSaid sc (a ++ b)
join sc a b h k = all_both (λ (s : Said). IsWritten (spell_said sc s)) a b h k

abbrev IsSaid : Scope → List ClassRow → Known → Stmt → Type 0
IsSaid sc classes k s = stmt_fits classes k s ≡ true → stmt_sized s ≡ true → AreSaid sc (says s)

-- one level of a statement
level : (sc : Scope) (classes : List ClassRow) (k : Known) (x : Stmt-F Stmt) →
    (stmt_fits_step classes k (map-Stmt Stmt Bool (stmt_fits classes k) x) ≡ true →
    stmt_sized_step (map-Stmt Stmt Bool stmt_sized x) ≡ true →
    AreSaid sc (says_step (map-Stmt Stmt (List Said) says x))) →
    IsSaid sc classes k (roll-Stmt x)
level sc classes k x f known sized = subst (AreSaid sc) (sym (fold-roll-Stmt (List Said) says_step x))
    (f (sym (fold-roll-Stmt Bool (stmt_fits_step classes k) x) ∙ known)
    (sym (fold-roll-Stmt Bool stmt_sized_step x) ∙ sized))

-- a statement that is a line of its own
alone : (sc : Scope) (x : Stmt-F Stmt) (s : Stmt) → roll-Stmt x ≡ s →
    IsWritten (spell_does_step sc (map-Stmt Stmt (List Tok) (spell_does sc) x)) → AreSaid sc (said.Does s ∷ [])
alone sc x s is h =
    let line = subst IsWritten (sym (fold-roll-Stmt (List Tok) (spell_does_step sc) x)) h in
    (subst (λ (s : Stmt). IsWritten (spell_does sc s)) is line, tt)

list_said : (sc : Scope) (classes : List ClassRow) (k : Known) (cs : List ((s : Stmt) × IsSaid sc classes k s)) →
    stmts_fit classes k (map (λ c. c.0) cs) ≡ true → stmts_sized (map (λ c. c.0) cs) ≡ true →
    AreSaid sc (says_all (map (λ c. c.0) cs))
list_said sc classes k [] known sized = tt
list_said sc classes k (c ∷ cs) known sized =
    let more : List Stmt = map (λ (c : (s : Stmt) × IsSaid sc classes k s). c.0) cs in
    let knowns = both (stmt_fits classes k c.0) (stmts_fit classes k more) known in
    let sizes = both (stmt_sized c.0) (stmts_sized more) sized in
    join sc (says c.0) (says_all more) (c.1 knowns.0 sizes.0) (list_said sc classes k cs knowns.1 sizes.1)

else_list : (sc : Scope) (cs : List Stmt) → AreSaid sc (says_all cs) → AreSaid sc (else_said (map says cs))
else_list sc [] all = tt
else_list sc (c ∷ cs) all = (written _ _ (words.elses, tt), all)

if_said : (sc : Scope) (test : Said) (first second : List Stmt) → IsWritten (spell_said sc test) →
    AreSaid sc (says_all first) → AreSaid sc (says_all second) →
    AreSaid sc (test ∷ (concat (map says first) ++ (else_said (map says second) ++ said.End ∷ [])))
if_said sc test first second line h k = (
  line,
  join sc (says_all first) _ h
      (join sc (else_said (map says second)) _ (else_list sc second k) (written _ _ (words.ends, tt), tt)),
)

stmt_case : {sc : Scope} {classes : List ClassRow} {k : Known} → Covers sc classes k →
    (y : Stmt-F ((s : Stmt) × IsSaid sc classes k s)) →
    IsSaid sc classes k (roll-Stmt (map-Stmt ((s : Stmt) × IsSaid sc classes k s) Stmt (λ c. c.0) y))
stmt_case {sc} {classes} {k} c (Stmt-F.Let reg e) = level sc classes k (Stmt-F.Let reg e) (λ known sized.
    let line = both (in_line (3 + tokens_of e)) (nat_lt reg k.regs && is_known k e) known in
    let parts = both (nat_lt reg k.regs) (is_known k e) line.1 in
    alone sc (Stmt-F.Let reg e) (stmt.Let reg e) (stmt.rolls-Let reg e)
    (written _ _ (words.lets, (reg_at c reg parts.0, (tt, expr_writable c e parts.1 sized)))))
stmt_case {sc} {classes} {k} c (Stmt-F.If test first second) =
    let one : List Stmt = map (λ (c : (s : Stmt) × IsSaid sc classes k s). c.0) first in
    let two : List Stmt = map (λ (c : (s : Stmt) × IsSaid sc classes k s). c.0) second in
    level sc classes k (Stmt-F.If test one two) (λ known sized.
    let lists = stmts_fit classes k one && stmts_fit classes k two in
    let outer = both (in_line (1 + tokens_of test) && is_known k test) lists known in
    let head = both (in_line (1 + tokens_of test)) (is_known k test) outer.0 in
    let inner = both (stmts_fit classes k one) (stmts_fit classes k two) outer.1 in
    let sizes = both (is_sized test) (stmts_sized one && stmts_sized two) sized in
    let parts = both (stmts_sized one) (stmts_sized two) sizes.1 in
    if_said sc (said.If test) one two (written _ _ (words.ifs, expr_writable c test head.1 sizes.0))
    (list_said sc classes k first inner.0 parts.0) (list_said sc classes k second inner.1 parts.1))
stmt_case {sc} {classes} {k} c (Stmt-F.Set place x y) = level sc classes k (Stmt-F.Set place x y) (λ known sized.
    let line = both (in_line (change_tokens place x y)) (change_known classes k place x y) known in
    alone sc (Stmt-F.Set place x y) (stmt.Set place x y) (stmt.rolls-Set place x y)
    (written _ _ (change_writable c (codes "set") words.sets place x y line.1 sized)))
stmt_case {sc} {classes} {k} c (Stmt-F.Add place x y) = level sc classes k (Stmt-F.Add place x y) (λ known sized.
    let line = both (in_line (change_tokens place x y)) (change_known classes k place x y) known in
    alone sc (Stmt-F.Add place x y) (stmt.Add place x y) (stmt.rolls-Add place x y)
    (written _ _ (change_writable c (codes "add") words.adds place x y line.1 sized)))
stmt_case {sc} {classes} {k} c (Stmt-F.Wait e) = level sc classes k (Stmt-F.Wait e) (λ known sized.
    let line = both (in_line (1 + tokens_of e)) (is_known k e) known in
    alone sc (Stmt-F.Wait e) (stmt.Wait e) (stmt.rolls-Wait e)
    (written _ _ (words.wait, expr_writable c e line.1 sized)))

stmt_said : {sc : Scope} {classes : List ClassRow} {k : Known} → Covers sc classes k → (s : Stmt) →
    IsSaid sc classes k s
stmt_said {sc} {classes} {k} c = ind-Stmt (IsSaid sc classes k)
    (λ x y is. subst (λ (z : Stmt-F Stmt). IsSaid sc classes k (roll-Stmt z)) is (stmt_case c y))

body_said : {sc : Scope} {classes : List ClassRow} {k : Known} → Covers sc classes k → (body : List Stmt) →
    stmts_fit classes k body ≡ true → stmts_sized body ≡ true → AreSaid sc (says_all body)
body_said c [] known sized = tt
body_said {sc} {classes} {k} c (s ∷ body) known sized =
    let knowns = both (stmt_fits classes k s) (stmts_fit classes k body) known in
    let sizes = both (stmt_sized s) (stmts_sized body) sized in
    join sc (says s) (says_all body) (stmt_said c s knowns.0 sizes.0) (body_said c body knowns.1 sizes.1)

regs_said : (sc : Scope) (rows : List RegRow) → AreNames (reg_names rows) → regs_sized rows ≡ true →
    AreSaid sc (reg_said rows)
regs_said sc [] names sized = tt
regs_said sc (row ∷ rows) names sized =
    let sizes = both (in_i64 row.start) (regs_sized rows) sized in
    (written _ _ (words.reg, (names.0, (fits_i64 row.start sizes.0, tt))), regs_said sc rows names.1 sizes.1)

-- one more sense is known
abbrev more : Known → Known
more k = record k { senses = k.senses + 1 }

more_covered : {sc : Scope} {classes : List ClassRow} {k : Known} → Covers sc classes k →
    k.senses + 1 ≤ length sc.senses → Covers sc classes (more k)
more_covered c low = record {
  named = c.named;
  regs = c.regs;
  senses = c.senses;
  var_count = c.var_count;
  class_count = c.class_count;
  reg_count = c.reg_count;
  sense_count = low;
}

senses_said : (sc : Scope) (classes : List ClassRow) (k : Known) → Covers sc classes k → (rows : List SenseRow) →
    AreNames (sense_names rows) → k.senses + length rows ≤ length sc.senses → senses_fit classes k rows ≡ true →
    senses_sized rows ≡ true → AreSaid sc (sense_said rows)
senses_said sc classes k c [] names few known sized = tt
senses_said sc classes k c (row ∷ rows) names few known sized =
    let low : k.senses + 1 ≤ length sc.senses = omega (arith, few) in
    let rest : (more k).senses + length rows ≤ length sc.senses = omega (arith, few) in
    let line = in_line (sense_tokens row.sense) in
    let knowns = both (line && sense_known classes k row.sense) (senses_fit classes (more k) rows) known in
    let here = both line (sense_known classes k row.sense) knowns.0 in
    let sizes = both (sense_sized row.sense) (senses_sized rows) sized in
    let first = sense_writable c row.name names.0 row.sense here.1 sizes.0 in (
      sense_written sc row.name row.sense first,
      senses_said sc classes (more k) (more_covered c low) rows names.1 rest knowns.1 sizes.1,
    )

names_of : (names : List (List ℕ)) → names_fit names ≡ true → AreNames names
names_of [] e = tt
names_of (w ∷ ws) e =
    let free = is_name w && not (is_reserved w) in
    let outer = both (free && not (has_name w ws)) (names_fit ws) e in
    let inner = both free (not (has_name w ws)) outer.0 in
    let first = both (is_name w) (not (is_reserved w)) inner.0 in
    (first.0, names_of ws outer.1)

names_apart : (a b : List (List ℕ)) → AreNames (a ++ b) → AreNames a × AreNames b
names_apart [] b all = (tt, all)
names_apart (w ∷ a) b all = let rest = names_apart a b all.1 in ((all.0, rest.0), rest.1)

length-reg_names : (rows : List RegRow) → length (reg_names rows) ≡ length rows
length-reg_names [] = refl
length-reg_names (row ∷ rows) = let more = length-reg_names rows in omega (arith, more)

length-sense_names : (rows : List SenseRow) → length (sense_names rows) ≡ length rows
length-sense_names [] = refl
length-sense_names (row ∷ rows) = let more = length-sense_names rows in omega (arith, more)

covered : (t : Table) (p : Program) (senses : ℕ) → IsNamed t → length t.vars ≡ var_count (class_rows t) →
    AreNames (reg_names p.regs) → AreNames (sense_names p.senses) → senses ≤ length p.senses →
    Covers (program_scope t p) (class_rows t) (known_before (class_rows t) p senses)
covered t p senses named count regs senses_named few =
    let regs_there = length-reg_names p.regs in
    let senses_there = length-sense_names p.senses in
    let names = length-map t.classes (λ (c : List ℕ × ClassRow). c.0) in
    let rows = length-map t.classes (λ (c : List ℕ × ClassRow). c.1) in
    record {
      named = named;
      regs = regs;
      senses = senses_named;
      var_count = omega (arith, count);
      class_count = omega (arith, names, rows);
      reg_count = omega (arith, regs_there);
      sense_count = omega (arith, senses_there, few);
    }

-- what the lines of a program that fits say is writable
pub program-written : (t : Table) (p : Program) → IsNamed t → length t.vars ≡ var_count (class_rows t) →
    fits p (record { classes = class_rows t }) ≡ true → program_sized p ≡ true → AreWritten t p
unfolding fits tree_fits
program-written t p named count fit sized =
    let rows = class_rows t in
    let all_fits = tree_fits p (record { classes = rows }) in
    let senses_ok = senses_fit rows (known_before rows p 0) p.senses in
    let body_ok = stmts_fit rows (known_before rows p (length p.senses)) p.body in
    let few = both (are_few p) (names_fit (reg_names p.regs ++ sense_names p.senses) && all_fits) fit in
    let tree = both (names_fit (reg_names p.regs ++ sense_names p.senses)) all_fits few.1 in
    let short = both (is_short p) (senses_ok && body_ok) tree.1 in
    let parts = both senses_ok body_ok short.1 in
    let names = names_apart (reg_names p.regs) (sense_names p.senses) (names_of _ tree.0) in
    let sizes = both (regs_sized p.regs) (senses_sized p.senses && stmts_sized p.body) sized in
    let inner = both (senses_sized p.senses) (stmts_sized p.body) sizes.1 in
    split t p names.0 sizes.0
    (senses_said _ _ _ (covered t p 0 named count names.0 names.1 (omega arith)) p.senses names.1
    (all_there p) parts.0 inner.0)
    (body_said (covered t p (length p.senses) named count names.0 names.1 (omega arith)) p.body parts.1 inner.1)
  where
    all_there : (p : Program) → 0 + length p.senses ≤ length (sense_names p.senses)
    all_there p = let there = length-sense_names p.senses in omega (arith, there)

    split : (t : Table) (p : Program) → AreNames (reg_names p.regs) → regs_sized p.regs ≡ true →
        AreSaid (program_scope t p) (sense_said p.senses) → AreSaid (program_scope t p) (says_all p.body) →
        AreWritten t p
    split t p names sized senses body =
        join (program_scope t p) (reg_said p.regs) (sense_said p.senses ++ says_all p.body)
        (regs_said (program_scope t p) p.regs names sized)
        (join (program_scope t p) (sense_said p.senses) (says_all p.body) senses body)

-- The lines of a program have no needless `else`, and needless ones make no difference.
use Rattle.std.proofs.Common.{◌≡◌, ◌∙◌, ap, refl, sym, List, [], ◌∷◌, ◌++◌, append_assoc}
use Rattle.std.specs.Prelude.{map}
use Rattle.pm_base.specs.declared.program.Expr.{Expr}
use Rattle.pm_base.specs.declared.program.Program.{Program}
use Rattle.pm_base.specs.declared.program.RegRow.{RegRow}
use Rattle.pm_base.specs.declared.program.SenseRow.{SenseRow}
use Rattle.pm_base.specs.declared.program.Stmt.{Stmt}
use Rattle.pm_base.specs.declared.program.Stmt.TheVariants.{Let, If, Set, Add, Wait}
use Rattle.pm_rules.specs.Grammar.{drops_else, without_idle_else}
use Rattle.pm_rules.specs.Spelling.{else_said, program_says, reg_said, says, says_all, sense_said}
use Rattle.pm_rules.specs.declared.said.Said.{Said}
use Rattle.pm_rules.specs.declared.said.Said.TheVariants as said
use Rattle.pm_rules.proofs.Variants.{every_statement, those}
use Rattle.pm_rules.proofs.NestingLaws.{says-Let, says-If, says-Set, says-Add, says-Wait}

-- an `else` before the lines of a statement stays
abbrev KeepsElse : Stmt → Type 0
KeepsElse c = (rest : List Said) → drops_else said.Else (says c ++ rest) ≡ said.Else ∷ (says c ++ rest)

keeps_does : (c : Stmt) → says c ≡ said.Does c ∷ [] → KeepsElse c
keeps_does c e rest = rw e refl

keeps_if : (test : Expr) (first second : List Stmt) → KeepsElse (If test first second)
keeps_if test first second rest = rw (says-If test first second) refl

keeps_else : (c : Stmt) → KeepsElse c
keeps_else = every_statement KeepsElse (record {
  let_ = λ reg e. keeps_does (Let reg e) (says-Let reg e);
  if_ = λ test first second. keeps_if test (those KeepsElse first) (those KeepsElse second);
  set = λ place x y. keeps_does (Set place x y) (says-Set place x y);
  add = λ place x y. keeps_does (Add place x y) (says-Add place x y);
  wait = λ e. keeps_does (Wait e) (says-Wait e);
})

-- the lines of a statement stay as they are
abbrev IsCanonical : Stmt → Type 0
IsCanonical c = (rest : List Said) → without_idle_else (says c ++ rest) ≡ says c ++ without_idle_else rest

one_canonical : (c : Stmt) → says c ≡ said.Does c ∷ [] → IsCanonical c
one_canonical c e rest = rw e refl

list_canonical : (cs : List ((c : Stmt) × IsCanonical c)) (rest : List Said) →
    without_idle_else (says_all (map (λ c. c.0) cs) ++ rest) ≡ says_all (map (λ c. c.0) cs) ++ without_idle_else rest
list_canonical [] rest = refl
list_canonical (c ∷ cs) rest =
    ap (λ (ss : List Said). without_idle_else ss) (append_assoc (says c.0) (says_all (map (λ c. c.0) cs)) rest)
    ∙ c.1 (says_all (map (λ c. c.0) cs) ++ rest)
    ∙ ap (λ (ss : List Said). says c.0 ++ ss) (list_canonical cs rest)
    ∙ sym (append_assoc (says c.0) (says_all (map (λ c. c.0) cs)) (without_idle_else rest))

tail_canonical : (second : List ((c : Stmt) × IsCanonical c)) (rest : List Said) →
    without_idle_else (else_said (map says (map (λ c. c.0) second)) ++ (said.End ∷ rest))
    ≡ else_said (map says (map (λ c. c.0) second)) ++ (said.End ∷ without_idle_else rest)
tail_canonical [] rest = refl
tail_canonical (c ∷ cs) rest =
    let more = says_all (map (λ (c : (c : Stmt) × IsCanonical c). c.0) cs) in
    ap (λ (ss : List Said). drops_else said.Else ss) (list_canonical (c ∷ cs) (said.End ∷ rest) ∙ append_assoc (says c.0) more (said.End ∷ without_idle_else rest))
    ∙ keeps_else c.0 (more ++ (said.End ∷ without_idle_else rest))
    ∙ ap (λ (ss : List Said). said.Else ∷ ss) (sym (append_assoc (says c.0) more (said.End ∷ without_idle_else rest)))

if_canonical : (test : Expr) (first second : List ((c : Stmt) × IsCanonical c)) →
    IsCanonical (If test (map (λ c. c.0) first) (map (λ c. c.0) second))
if_canonical test first second rest =
    let a = says_all (map (λ (c : (c : Stmt) × IsCanonical c). c.0) first) in
    let b = else_said (map says (map (λ (c : (c : Stmt) × IsCanonical c). c.0) second)) in
    rw (says-If test (map (λ c. c.0) first) (map (λ c. c.0) second))
    (ap (λ (ss : List Said). said.If test ∷ ss)
    (ap (λ (ss : List Said). without_idle_else ss) (append_assoc a (b ++ said.End ∷ []) rest ∙ ap (λ (ss : List Said). a ++ ss) (append_assoc b (said.End ∷ []) rest))
    ∙ list_canonical first (b ++ (said.End ∷ rest))
    ∙ ap (λ (ss : List Said). a ++ ss) (tail_canonical second rest ∙ sym (append_assoc b (said.End ∷ []) (without_idle_else rest)))
    ∙ sym (append_assoc a (b ++ said.End ∷ []) (without_idle_else rest))))

canonical : (c : Stmt) → IsCanonical c
canonical = every_statement IsCanonical (record {
  let_ = λ reg e. one_canonical (Let reg e) (says-Let reg e);
  if_ = if_canonical;
  set = λ place x y. one_canonical (Set place x y) (says-Set place x y);
  add = λ place x y. one_canonical (Add place x y) (says-Add place x y);
  wait = λ e. one_canonical (Wait e) (says-Wait e);
})

body_canonical : (cs : List Stmt) → without_idle_else (says_all cs) ≡ says_all cs
body_canonical [] = refl
body_canonical (c ∷ cs) = canonical c (says_all cs) ∙ ap (λ (ss : List Said). says c ++ ss) (body_canonical cs)

senses_canonical : (rows : List SenseRow) (rest : List Said) → without_idle_else (sense_said rows ++ rest) ≡ sense_said rows ++ without_idle_else rest
senses_canonical [] rest = refl
senses_canonical (row ∷ rows) rest = ap (λ (ss : List Said). said.Sense row.name row.sense ∷ ss) (senses_canonical rows rest)

regs_canonical : (rows : List RegRow) (rest : List Said) → without_idle_else (reg_said rows ++ rest) ≡ reg_said rows ++ without_idle_else rest
regs_canonical [] rest = refl
regs_canonical (row ∷ rows) rest = ap (λ (ss : List Said). said.Reg row.name row.start ∷ ss) (regs_canonical rows rest)

-- the lines of a program have no needless `else`
pub program_canonical : (p : Program) → without_idle_else (program_says p) ≡ program_says p
program_canonical p =
    regs_canonical p.regs (sense_said p.senses ++ says_all p.body)
    ∙ ap (λ (ss : List Said). reg_said p.regs ++ ss) (senses_canonical p.senses (says_all p.body) ∙ ap (λ (ss : List Said). sense_said p.senses ++ ss) (body_canonical p.body))

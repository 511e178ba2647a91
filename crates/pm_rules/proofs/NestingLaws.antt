-- The lines of a program lead to the program.
use Rattle.std.proofs.Common.{◌≡◌, ◌∙◌, ap, refl, sym, ℕ, List, [], ◌∷◌, ◌++◌, Option, Some, None, append_assoc}
use Rattle.std.specs.Prelude.{map}
use Rattle.std.proofs.lemmas.List.{append-nil}
use Rattle.pm_base.specs.declared.program.Expr.{Expr}
use Rattle.pm_base.specs.declared.program.Place.{Place}
use Rattle.pm_base.specs.declared.program.Program.{Program}
use Rattle.pm_base.specs.declared.program.RegRow.{RegRow}
use Rattle.pm_base.specs.declared.program.SenseRow.{SenseRow}
use Rattle.pm_base.specs.declared.program.Stmt.{Stmt}
use Rattle.pm_base.specs.declared.program.Stmt.TheFolds.{fold-roll-Stmt}
use Rattle.pm_base.specs.declared.program.Stmt.TheOpen.{Stmt-F}
use Rattle.pm_base.specs.declared.program.Stmt.TheVariants.{Let, If, Set, Add, Wait, rolls-Let, rolls-If, rolls-Set, rolls-Add, rolls-Wait}
use Rattle.pm_base.specs.declared.program.Stmt.TheViews.{roll-Stmt}
use Rattle.pm_rules.specs.Nesting.{all_said, draft_of}
use Rattle.pm_rules.proofs.Variants.{every_statement}
use Rattle.pm_rules.specs.Rules.{empty, last_frame, with_first, with_said}
use Rattle.pm_rules.specs.Spelling.{else_said, program_says, reg_said, says, says_all, says_step, sense_said}
use Rattle.pm_rules.specs.declared.draft.Draft.{Draft}
use Rattle.pm_rules.specs.declared.draft.Frame.{Frame}
use Rattle.pm_rules.specs.declared.said.Said.{Said}
use Rattle.pm_rules.specs.declared.said.Said.TheVariants as said

-- what the lines of a statement say, by its variants
says-roll : (x : Stmt-F Stmt) (c : Stmt) → roll-Stmt x ≡ c → says c ≡ says (roll-Stmt x)
says-roll x c e = ap (λ (c : Stmt). says c) (sym e)

pub says-Let : (reg : ℕ) (e : Expr) → says (Let reg e) ≡ said.Does (Let reg e) ∷ []
says-Let reg e = says-roll (Stmt-F.Let reg e) (Let reg e) (rolls-Let reg e) ∙ fold-roll-Stmt (List Said) says_step (Stmt-F.Let reg e)

pub says-If : (test : Expr) (first second : List Stmt) →
    says (If test first second) ≡ said.If test ∷ (says_all first ++ (else_said (map says second) ++ said.End ∷ []))
says-If test first second =
    says-roll (Stmt-F.If test first second) (If test first second) (rolls-If test first second)
    ∙ fold-roll-Stmt (List Said) says_step (Stmt-F.If test first second)

pub says-Set : (place : Place) (x y : Expr) → says (Set place x y) ≡ said.Does (Set place x y) ∷ []
says-Set place x y = says-roll (Stmt-F.Set place x y) (Set place x y) (rolls-Set place x y) ∙ fold-roll-Stmt (List Said) says_step (Stmt-F.Set place x y)

pub says-Add : (place : Place) (x y : Expr) → says (Add place x y) ≡ said.Does (Add place x y) ∷ []
says-Add place x y = says-roll (Stmt-F.Add place x y) (Add place x y) (rolls-Add place x y) ∙ fold-roll-Stmt (List Said) says_step (Stmt-F.Add place x y)

pub says-Wait : (e : Expr) → says (Wait e) ≡ said.Does (Wait e) ∷ []
says-Wait e = says-roll (Stmt-F.Wait e) (Wait e) (rolls-Wait e) ∙ fold-roll-Stmt (List Said) says_step (Stmt-F.Wait e)

pub all_said-append : (a b : List Said) (d : Draft) → all_said (a ++ b) d ≡ all_said b (all_said a d)
all_said-append [] b d = refl
all_said-append (s ∷ a) b d = all_said-append a b (with_said s d)

pub last_frame-append : (fs : List Frame) (f : Frame) → last_frame (fs ++ f ∷ []) ≡ Some (fs, f)
last_frame-append [] f = refl
last_frame-append (g ∷ fs) f = ap (λ (o : Option (List Frame × Frame)). Some (with_first g o)) (last_frame-append fs f)

-- a draft with these statements more in the list that is open
abbrev pub with_body : List Stmt → Draft → Draft
with_body stmts d = record d { body = d.body ++ stmts }

-- the lines of a statement put it into the list that is open
abbrev pub IsSaidWhole : Stmt → Type 0
IsSaidWhole c = (d : Draft) → all_said (says c) d ≡ with_body (c ∷ []) d

one_whole : (c : Stmt) → says c ≡ said.Does c ∷ [] → IsSaidWhole c
unfolding with_said
one_whole c e d = rw e refl

with_body-nil : (d : Draft) → with_body [] d ≡ d
with_body-nil d = ap (λ (b : List Stmt). record d { body = b }) (append-nil d.body)

with_body-more : (c : Stmt) (cs : List Stmt) (d : Draft) → with_body cs (with_body (c ∷ []) d) ≡ with_body (c ∷ cs) d
with_body-more c cs d = ap (λ (b : List Stmt). record d { body = b }) (append_assoc d.body (c ∷ []) cs)

list_whole : (cs : List ((c : Stmt) × IsSaidWhole c)) (d : Draft) → all_said (says_all (map (λ c. c.0) cs)) d ≡ with_body (map (λ c. c.0) cs) d
list_whole [] d = sym (with_body-nil d)
list_whole (c ∷ cs) d =
    all_said-append (says c.0) (says_all (map (λ c. c.0) cs)) d
    ∙ ap (λ (e : Draft). all_said (says_all (map (λ c. c.0) cs)) e) (c.1 d)
    ∙ list_whole cs (with_body (c.0 ∷ []) d)
    ∙ with_body-more c.0 (map (λ c. c.0) cs) d

-- the draft within an `if`
abbrev pub inside : Expr → Option (List Stmt) → List Stmt → Draft → Draft
inside test first body d = record d { frames = d.frames ++ record { test = test; first = first; outer = d.body } ∷ []; body = body }

pub end_first : (test : Expr) (body : List Stmt) (d : Draft) → with_said said.End (inside test None body d) ≡ with_body (If test body [] ∷ []) d
unfolding with_said
end_first test body d = rw (last_frame-append d.frames (record { test = test; first = None; outer = d.body })) refl

pub end_second : (test : Expr) (first body : List Stmt) (d : Draft) → with_said said.End (inside test (Some first) body d) ≡ with_body (If test first body ∷ []) d
unfolding with_said
end_second test first body d = rw (last_frame-append d.frames (record { test = test; first = Some first; outer = d.body })) refl

pub else_first : (test : Expr) (body : List Stmt) (d : Draft) → with_said said.Else (inside test None body d) ≡ inside test (Some body) [] d
unfolding with_said
else_first test body d = rw (last_frame-append d.frames (record { test = test; first = None; outer = d.body })) refl

-- the lines from the `else` on, or from the `end` on where the second list is empty
tail_whole : (test : Expr) (first : List Stmt) (second : List ((c : Stmt) × IsSaidWhole c)) (d : Draft) →
    all_said (else_said (map says (map (λ c. c.0) second)) ++ said.End ∷ []) (inside test None first d)
    ≡ with_body (If test first (map (λ c. c.0) second) ∷ []) d
tail_whole test first [] d = end_first test first d
tail_whole test first (c ∷ cs) d =
    let second = map (λ (c : (c : Stmt) × IsSaidWhole c). c.0) (c ∷ cs) in
    all_said-append (said.Else ∷ says_all second) (said.End ∷ []) (inside test None first d)
    ∙ ap (λ (e : Draft). with_said said.End (all_said (says_all second) e)) (else_first test first d)
    ∙ ap (λ (e : Draft). with_said said.End e) (list_whole (c ∷ cs) (inside test (Some first) [] d))
    ∙ end_second test first second d

pub if_open : (test : Expr) (d : Draft) → with_said (said.If test) d ≡ inside test None [] d
unfolding with_said
if_open test d = refl

if_whole : (test : Expr) (first second : List ((c : Stmt) × IsSaidWhole c)) →
    IsSaidWhole (If test (map (λ c. c.0) first) (map (λ c. c.0) second))
if_whole test first second d =
    let a = map (λ (c : (c : Stmt) × IsSaidWhole c). c.0) first in
    let b = map (λ (c : (c : Stmt) × IsSaidWhole c). c.0) second in
    ap (λ (ss : List Said). all_said ss d) (says-If test a b)
    ∙ ap (λ (e : Draft). all_said (says_all a ++ (else_said (map says b) ++ said.End ∷ [])) e) (if_open test d)
    ∙ all_said-append (says_all a) (else_said (map says b) ++ said.End ∷ []) (inside test None [] d)
    ∙ ap (λ (e : Draft). all_said (else_said (map says b) ++ said.End ∷ []) e) (list_whole first (inside test None [] d))
    ∙ tail_whole test a second d

pub said_whole : (c : Stmt) → IsSaidWhole c
said_whole = every_statement IsSaidWhole (record {
  let_ = λ reg e. one_whole (Let reg e) (says-Let reg e);
  if_ = if_whole;
  set = λ place x y. one_whole (Set place x y) (says-Set place x y);
  add = λ place x y. one_whole (Add place x y) (says-Add place x y);
  wait = λ e. one_whole (Wait e) (says-Wait e);
})

pub all_whole : (cs : List Stmt) (d : Draft) → all_said (says_all cs) d ≡ with_body cs d
all_whole [] d = sym (with_body-nil d)
all_whole (c ∷ cs) d =
    all_said-append (says c) (says_all cs) d
    ∙ ap (λ (e : Draft). all_said (says_all cs) e) (said_whole c d)
    ∙ all_whole cs (with_body (c ∷ []) d)
    ∙ with_body-more c cs d

regs_whole : (rows : List RegRow) (d : Draft) → all_said (reg_said rows) d ≡ record d { regs = d.regs ++ rows }
unfolding with_said
regs_whole [] d = ap (λ (rs : List RegRow). record d { regs = rs }) (sym (append-nil d.regs))
regs_whole (row ∷ rows) d =
    regs_whole rows (record d { regs = d.regs ++ row ∷ [] })
    ∙ ap (λ (rs : List RegRow). record d { regs = rs }) (append_assoc d.regs (row ∷ []) rows)

senses_whole : (rows : List SenseRow) (d : Draft) → all_said (sense_said rows) d ≡ record d { senses = d.senses ++ rows }
unfolding with_said
senses_whole [] d = ap (λ (rs : List SenseRow). record d { senses = rs }) (sym (append-nil d.senses))
senses_whole (row ∷ rows) d =
    senses_whole rows (record d { senses = d.senses ++ row ∷ [] })
    ∙ ap (λ (rs : List SenseRow). record d { senses = rs }) (append_assoc d.senses (row ∷ []) rows)

-- the lines of a program lead to it
pub program_whole : (p : Program) → all_said (program_says p) empty ≡ draft_of p
program_whole p =
    all_said-append (reg_said p.regs) (sense_said p.senses ++ says_all p.body) empty
    ∙ ap (λ (e : Draft). all_said (sense_said p.senses ++ says_all p.body) e) (regs_whole p.regs empty)
    ∙ all_said-append (sense_said p.senses) (says_all p.body) (record empty { regs = p.regs })
    ∙ ap (λ (e : Draft). all_said (says_all p.body) e) (senses_whole p.senses (record empty { regs = p.regs }))
    ∙ all_whole p.body (record empty { regs = p.regs; senses = p.senses })

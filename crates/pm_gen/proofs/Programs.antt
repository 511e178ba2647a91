-- The rules of generated agents fit, and are what their texts say.
use Rattle.std.proofs.Common.{◌≡◌, ℕ, zero, suc, ◌+◌, ◌*◌, ◌<◌, ◌^◌, true, List, [], ◌∷◌, length, map, Ok, Err, refl, arith, ap, sym, ◌∙◌}
use Rattle.std.specs.List.{list_all, range_with_len}
use Rattle.pm_base.specs.Fits.{fits}
use Rattle.pm_base.specs.Names.{is_name, is_reserved}
use Rattle.pm_base.specs.declared.layout.ClassRow.{ClassRow}
use Rattle.pm_plan.specs.Plans.{all_vars, class_rows, rules_fit}
use Rattle.pm_plan.specs.declared.parts.AgentPart.{AgentPart}
use Rattle.pm_tokens.specs.Lexing.{lex, token, word, positive, negative, digits, at_most, mark}
use Rattle.pm_tokens.specs.Lines.{lines_of, code, without_return}
use Rattle.pm_base.specs.declared.program.Program.{Program}
use Rattle.pm_rules.proofs.GrammarLaws.{accepted_rule}
use Rattle.pm_rules.specs.Reading.{Table}
use Rattle.pm_rules.specs.Reading.{number_of, number_in, after, name_at, operator, field_at, part, register, named, joined, closed, expression, variable, indexed, place}
use Rattle.pm_rules.specs.declared.fault.RuleFault.{RuleFault}
use Rattle.pm_rules.specs.Rules.{fault_of, with_said, after_line, after_lines, finished, parsed}
use Rattle.pm_rules.specs.Statements.{is_free, number_at, declared, assigned, reg_line, read_line, two, window, scan_line, let_line, change, set_line, add_line, only, wait_line, if_line, after_word, statement}
use Rattle.pm_gen.specs.Draws.{draw, state_after}
use Rattle.pm_gen.specs.Generated.{agent, agents, cells, classes, generated, marks}
use Rattle.pm_gen.specs.Rules.{program, rule_text, table}

pub rules_read : (rule : ℕ) (vars : List (List ℕ)) → parsed (table vars) 1 (rule_text rule) ≡ Ok (program rule)
unfolding is_name is_reserved lex token word positive negative digits at_most mark lines_of code without_return number_of number_in after name_at operator field_at part register named joined closed expression variable indexed place fault_of with_said after_line after_lines finished parsed is_free number_at declared assigned reg_line read_line two window scan_line let_line change set_line add_line only wait_line if_line after_word statement
rules_read zero vars = refl
rules_read (suc zero) vars = refl
rules_read (suc (suc n)) vars = refl

-- 24 cells and 4 marks
abbrev rows : List ClassRow
rows = record { first = 0; count = 24 } ∷ record { first = 24; count = 4 } ∷ []

-- some names for the variables
abbrev some_names : List (List ℕ)
some_names = map (λ k. []) (range_with_len 0 28)

fits_rows : (rule : ℕ) → fits (program rule) (record { classes = rows }) ≡ true
fits_rows rule =
    (accepted_rule (table some_names) 1 (rule_text rule) (program rule) refl (rules_read rule some_names)).fits

rows_are : (n : ℕ) → class_rows 0 (generated n).classes ≡ rows
unfolding generated classes cells marks
rows_are n = refl

all_fit : (f : ℕ → AgentPart) → ((k : ℕ) → fits (f k).program (record { classes = rows }) ≡ true) → (a n : ℕ) →
    list_all (λ (x : AgentPart). fits x.program (record { classes = rows })) (map f (range_with_len a n)) ≡ true
all_fit f h a zero = refl
all_fit f h a (suc n) = rw (h a) (all_fit f h (a + 1) n)

agents_fit : (state : ℕ) →
    list_all (λ (x : AgentPart). fits x.program (record { classes = rows })) (agents state) ≡ true
unfolding agents
agents_fit state =
    all_fit (λ k. agent (state_after state (3 * k)) k)
    (λ k. fits_rows (draw (state_after (state_after state (3 * k)) 2) 3)) 0 12

agents_are : (n : ℕ) → (generated n).agents ≡ agents (state_after n 80)
unfolding generated classes
agents_are n = refl

pub rules_do_fit : (n : ℕ) → rules_fit (generated n).classes (generated n).agents ≡ true
rules_do_fit n =
    ap (λ (rs : List ClassRow). list_all (λ (x : AgentPart). fits x.program (record { classes = rs })) (generated n).agents)
    (rows_are n)
    ∙ ap (list_all (λ (x : AgentPart). fits x.program (record { classes = rows }))) (agents_are n)
    ∙ agents_fit (state_after n 80)

count_is : (n : ℕ) → length (all_vars (generated n).classes) ≡ 28
unfolding generated classes cells marks
count_is n = refl

pub vars_few : (n : ℕ) → length (all_vars (generated n).classes) < 2 ^ 32
vars_few n = let e = count_is n in omega (arith, e)

-- what a rule's text is read as
pub only_program : (t : Table) (text : List ℕ) (rule : ℕ) (p : Program) →
    t ≡ table [] → text ≡ rule_text rule → parsed t 1 text ≡ Ok p → p ≡ program rule
only_program t text rule p e f h =
    let g : parsed t 1 text ≡ Ok (program rule) =
    ap (λ (x : Table). parsed x 1 text) e ∙ ap (parsed (table []) 1) f ∙ rules_read rule []
    in
    let k : Ok p ≡ Ok (program rule) = sym h ∙ g in
    cc

-- no rule's text is refused
pub no_refusal : (t : Table) (text : List ℕ) (rule : ℕ) (f : RuleFault) →
    t ≡ table [] → text ≡ rule_text rule → parsed t 1 text ≡ Err f → ⊥
no_refusal t text rule f e same h =
    let g : parsed t 1 text ≡ Ok (program rule) =
    ap (λ (x : Table). parsed x 1 text) e ∙ ap (parsed (table []) 1) same ∙ rules_read rule []
    in
    let k : Err f ≡ Ok (program rule) = sym h ∙ g in
    cc

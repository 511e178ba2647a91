-- Worked texts.
use Rattle.std.proofs.Common.{◌≡◌, refl, arith, ℕ, zero, suc, nat_lt, Bool, true, List, [], ◌∷◌, Some, None, Ok, Err, codes, pos}
use Rattle.std.specs.List.{list_all}
use Rattle.std.specs.Fmt.{digits}
use Rattle.std.specs.Str.{IsAscii, is_utf8}
use Rattle.std.proofs.lemmas.Bool.Decides.{nat_tests}
use Rattle.std.proofs.lemmas.Str.{IsUtf8-from_ascii, is_utf8-from_IsUtf8}
use Rattle.toml.specs.Data.{Members, no_members, member, Items, no_items, item, integer, string, array, table}
use Rattle.toml.specs.Parse.{parse_document}
use Rattle.toml.proofs.OnLiterals.{toml_on_literals}
use Rattle.pm_base.specs.Names.{is_name}
use Rattle.pm_plan.specs.Numbers.{number_of, first_wrong, first_repeat}
use Rattle.pm_plan.specs.Plans as plans
use Rattle.pm_plan.specs.declared.parts.PlanParts.{PlanParts}
use Rattle.pm_rules.specs.Rules.{parsed}
use Rattle.pm_rules.specs.Samples.{worked_program, worked_table, worked_text}
use Rattle.pm_scenario.specs.Forms.{no_strange, all_tables, elements, tables}
use Rattle.pm_scenario.specs.Samples.{worked_scenario, worked_plan, later_version, two_strange_keys, table_and_number, empty_table_and_number, number_as_text}
use Rattle.pm_scenario.specs.Scenarios.{clp_form, class_form, var_form, agent_form, root_form, draft_of_root, draft_of, agent_parts, parts_of, plan_of}
use Rattle.pm_scenario.specs.declared.draft.Draft.{Draft}
use Rattle.pm_scenario.specs.declared.draft.Version.TheVariants as version
use Rattle.pm_scenario.specs.declared.fault.ScenarioFault.{ScenarioFault}
use Rattle.pm_scenario.specs.declared.fault.ScenarioFault.TheVariants as fault

abbrev is_low : ℕ → Bool
is_low b = nat_lt b 128

all_low : (bs : List ℕ) → list_all is_low bs ≡ true → IsAscii bs
all_low [] h i = omega arith
all_low (b ∷ bs) h zero = grind (arith, nat_tests)
all_low (b ∷ bs) h (suc i) = all_low bs (grind (arith, nat_tests)) i

-- bytes below 128 are text
low_utf8 : (bs : List ℕ) → list_all is_low bs ≡ true → is_utf8 bs ≡ true
low_utf8 bs e = is_utf8-from_IsUtf8 bs (IsUtf8-from_ascii bs (all_low bs e))

refused_at : (bytes : List ℕ) (root : Members) (f : ScenarioFault) → list_all is_low bytes ≡ true → parse_document bytes ≡ Some root → draft_of_root root ≡ Err f → plan_of bytes ≡ Err f
unfolding plan_of draft_of
refused_at bytes root f low known e = rw (low_utf8 bytes low, known, e) refl

abbrev one : ℕ → Members
one n = member (codes "version") (integer (pos n)) no_members

abbrev version_root : Members
version_root = member (codes "odd") (integer (pos 0)) (one 3)

version_known : parse_document later_version ≡ Some version_root
unfolding toml_on_literals
version_known = refl

version_refused : draft_of_root version_root ≡ Err fault.Version
unfolding draft_of_root
version_refused = refl

pub version_row : plan_of later_version ≡ Err fault.Version
version_row = refused_at later_version version_root fault.Version refl version_known version_refused

abbrev strange_root : Members
strange_root = member (codes "best") (integer (pos 0)) (member (codes "version") (integer (pos 1)) (member (codes "zeal") (integer (pos 0)) no_members))

strange_known : parse_document two_strange_keys ≡ Some strange_root
unfolding toml_on_literals
strange_known = refl

strange_refused : draft_of_root strange_root ≡ Err (fault.Strange (codes "best"))
unfolding draft_of_root root_form no_strange
strange_refused = refl

pub strange_row : plan_of two_strange_keys ≡ Err (fault.Strange (codes "best"))
strange_row = refused_at two_strange_keys strange_root _ refl strange_known strange_refused

abbrev horizon : ℕ → Members
horizon n = member (codes "horizon") (integer (pos 0)) (one n)

abbrev element_root : Members
element_root = member (codes "clp") (array (item (table no_members) (item (integer (pos 3)) no_items))) (horizon 1)

element_known : parse_document table_and_number ≡ Some element_root
unfolding toml_on_literals
element_known = refl

element_refused : draft_of_root element_root ≡ Err (fault.Kind (codes "clp[1]"))
unfolding draft_of_root root_form no_strange tables all_tables digits
element_refused = refl

pub element_row : plan_of table_and_number ≡ Err (fault.Kind (codes "clp[1]"))
element_row = refused_at table_and_number element_root _ refl element_known element_refused

abbrev order_root : Members
order_root = member (codes "class") (integer (pos 3)) (member (codes "clp") (array (item (table no_members) no_items)) (horizon 1))

order_known : parse_document empty_table_and_number ≡ Some order_root
unfolding toml_on_literals
order_known = refl

order_refused : draft_of_root order_root ≡ Err (fault.Missing (codes "clp[0].name"))
unfolding draft_of_root root_form clp_form no_strange tables all_tables elements digits
order_refused = refl

pub order_row : plan_of empty_table_and_number ≡ Err (fault.Missing (codes "clp[0].name"))
order_row = refused_at empty_table_and_number order_root _ refl order_known order_refused

abbrev path_root : Members
path_root =
    member (codes "class") (array (item (table (member (codes "name") (string (codes "c")) (member (codes "var") (array (item (table
    (member (codes "at") (string (codes "p")) (member (codes "name") (string (codes "v")) (member (codes "x") (string (codes "1")) no_members)))) no_items)) no_members))) no_items))
    (horizon 1)

path_known : parse_document number_as_text ≡ Some path_root
unfolding toml_on_literals
path_known = refl

path_refused : draft_of_root path_root ≡ Err (fault.Kind (codes "class[0].var[0].x"))
unfolding draft_of_root root_form class_form var_form no_strange tables all_tables elements digits
path_refused = refl

pub path_row : plan_of number_as_text ≡ Err (fault.Kind (codes "class[0].var[0].x"))
path_row = refused_at number_as_text path_root _ refl path_known path_refused

abbrev list : Members → Items
list t = item (table t) no_items

abbrev worked_root : Members
worked_root =
    member (codes "agent") (array (list (member (codes "home") (string (codes "root")) (member (codes "name") (string (codes "ant")) (member (codes "rule") (string worked_text) no_members)))))
    (member (codes "class") (array (list (member (codes "name") (string (codes "cell")) (member (codes "var") (array (list (member (codes "at") (string (codes "root")) (member (codes "name") (string (codes "c0")) no_members)))) no_members))))
    (member (codes "clp") (array (list (member (codes "name") (string (codes "root")) no_members)))
    (member (codes "horizon") (integer (pos 2)) (one 1))))

worked_known : parse_document worked_scenario ≡ Some worked_root
unfolding toml_on_literals
worked_known = refl

abbrev worked_draft : Draft
worked_draft = record {
  version = version.One;
  horizon = 2;
  move_after = 0;
  clps = record { name = codes "root"; parent = None } ∷ [];
  classes = record { name = codes "cell"; vars = record { name = codes "c0"; at = codes "root"; value = record { x = pos 0; y = pos 0 } } ∷ [] } ∷ [];
  agents = record { name = codes "ant"; home = codes "root"; start = 0; rule = worked_text } ∷ [];
}

worked_drafted : draft_of_root worked_root ≡ Ok worked_draft
unfolding draft_of_root root_form clp_form class_form var_form agent_form no_strange tables all_tables elements
worked_drafted = refl

abbrev worked_parts : PlanParts
worked_parts = record {
  horizon = 2;
  move_after = 0;
  clps = worked_draft.clps;
  classes = worked_draft.classes;
  agents = record { name = codes "ant"; home = codes "root"; start = 0; program = worked_program } ∷ [];
}

worked_ruled : parsed worked_table 1 worked_text ≡ Ok worked_program → parts_of worked_draft ≡ Ok worked_parts
unfolding parts_of agent_parts
worked_ruled rule = rw rule refl

worked_planned : plans.plan_of worked_parts ≡ Ok worked_plan
unfolding plans.plan_of plans.refusal plans.later_refusal plans.numbered plans.first_off_tree plans.first_nowhere first_wrong first_repeat number_of is_name
worked_planned = refl

pub worked_row : parsed worked_table 1 worked_text ≡ Ok worked_program → plan_of worked_scenario ≡ Ok worked_plan
unfolding plan_of draft_of
worked_row rule = rw (low_utf8 worked_scenario refl, worked_known, worked_drafted, worked_ruled rule, worked_planned) refl

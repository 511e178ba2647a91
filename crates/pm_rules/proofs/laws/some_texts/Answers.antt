use Rattle.std.proofs.Common.{refl}
use Rattle.pm_base.specs.Names.{is_name, is_reserved}
use Rattle.pm_tokens.specs.Lexing.{lex, token, word, positive, negative, digits, at_most, mark}
use Rattle.pm_tokens.specs.Lines.{lines_of, code, without_return}
use Rattle.pm_rules.specs.Reading.{number_of, number_in, after, name_at, operator, field_at, part, register, named, joined, closed, expression, variable, indexed, place}
use Rattle.pm_rules.specs.Rules.{fault_of, with_said, after_line, after_lines, finished, parsed}
use Rattle.pm_rules.specs.Statements.{is_free, number_at, declared, assigned, reg_line, read_line, two, window, scan_line, let_line, change, set_line, add_line, only, wait_line, if_line, after_word, statement}
use Rattle.pm_rules.proofs.laws.some_texts.Goals as goal

pub returns : goal.returns
unfolding is_name is_reserved lex token word positive negative digits at_most mark lines_of code without_return number_of number_in after name_at operator field_at part register named joined closed expression variable indexed place fault_of with_said after_line after_lines finished parsed is_free number_at declared assigned reg_line read_line two window scan_line let_line change set_line add_line only wait_line if_line after_word statement
returns c = record { worked = refl; operand = refl; unclosed = refl; version = refl; reserved = refl }

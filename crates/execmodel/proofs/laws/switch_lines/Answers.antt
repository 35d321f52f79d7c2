-- The law that each line of a switch is that of a choice.
use Rattle.execmodel.proofs.Choices.{each_switch_line_is_a_choice}
use Rattle.execmodel.proofs.laws.switch_lines.Goals as goal

pub returns : goal.returns
returns c = each_switch_line_is_a_choice

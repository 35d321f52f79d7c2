-- The proof of `is_of_interrupt`.
use Rattle.std.proofs.Common.{◌≡◌, ◌∙◌, ◌&&◌, Bool, true, option_map, sym, ap}
use Rattle.std.specs.List.{list_all}
use Rattle.script.specs.Interrupting.{is_word_of_interrupt}
use Rattle.taskscript.specs.{declared.named.NamedArgument.NamedArgument, Interrupting.is_open, Lines.NamedVariableData, Lines.named_variable_view, Lines.named_argument_view, Lines.named_command_view, Numbering.variables_of_target, Numbering.variables_of}
use Rattle.taskscript.proofs.Interrupts.{all_open}
use Rattle.taskscript.proofs.interrupting.is_of_interrupt.Goals as goal

pub returns : goal.returns
returns c =
    let command = c.args.command.now in
    let all = list_all (λ (v : NamedVariableData). v.is_shared) (variables_of (named_command_view command)) in
    let open_arguments = list_all (λ (a : NamedArgument). is_open (named_argument_view a)) command.arguments.items in
    let arguments : c.are_open.result ≡ open_arguments = rw c.as_slice.ensures.value at c.are_open.ensures in
    let word : is_word_of_interrupt command.word ≡ true = sym c.is_word_of_interrupt.ensures ∙ c.if-not-is_word_of_interrupt.false in
    let target : list_all (λ (v : NamedVariableData). v.is_shared) (variables_of_target (option_map named_variable_view command.target)) ≡ true = sym c.is_target_open.ensures ∙ c.if-not-is_target_open.false in
    arguments ∙ sym (ap (λ (b : Bool). b && all) word ∙ all_open command.target command.arguments.items ∙ ap (λ (b : Bool). b && open_arguments) target)

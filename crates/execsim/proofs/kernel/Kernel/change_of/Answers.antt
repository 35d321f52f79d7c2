-- The proof of `Kernel::change_of`: what a command of task t of that plain word changes, if the next one is at that
-- place; none for a word that prints.
use Rattle.std.proofs.Common.{ap, ◌∙◌}
use Rattle.script.specs.{declared.word.Word.TheVariants.Plain, Commands.command_view}
use Rattle.execmodel.specs.{Calls.call_of, Calls.silent, Plain.jumps}
use Rattle.execsim.proofs.Changing.{sets, adds, subtracts, masks, joins, goes, goes_at_zero, goes_unless_zero}
use Rattle.execsim.proofs.kernel.Kernel.change_of.Goals as goal

pub returns-in-Set : goal.returns-in-Set
unfolding call_of silent
returns-in-Set g c = sets c.args.t (call_of c.args.t c.args.next (command_view c.args.command.now) c.args.self.now.scripts) _ _
    (c.number_at-first.ensures c.args.next) (c.number_at-second.ensures c.args.next) (c.requires.plain ∙ ap Plain c.in-Set.is)

pub returns-in-Add : goal.returns-in-Add
unfolding call_of silent
returns-in-Add g c = adds c.args.t (call_of c.args.t c.args.next (command_view c.args.command.now) c.args.self.now.scripts) _ _
    (c.number_at-first.ensures c.args.next) (c.number_at-second.ensures c.args.next) (c.requires.plain ∙ ap Plain c.in-Add.is) _ c.sum.ensures

pub returns-in-Sub : goal.returns-in-Sub
unfolding call_of silent
returns-in-Sub g c = subtracts c.args.t (call_of c.args.t c.args.next (command_view c.args.command.now) c.args.self.now.scripts) _ _
    (c.number_at-first.ensures c.args.next) (c.number_at-second.ensures c.args.next) (c.requires.plain ∙ ap Plain c.in-Sub.is) _ c.difference.ensures

pub returns-in-And : goal.returns-in-And
unfolding call_of silent
returns-in-And g c = masks c.args.t (call_of c.args.t c.args.next (command_view c.args.command.now) c.args.self.now.scripts) _ _
    (c.number_at-first.ensures c.args.next) (c.number_at-second.ensures c.args.next) (c.requires.plain ∙ ap Plain c.in-And.is) _ c.common_bits.ensures

pub returns-in-Or : goal.returns-in-Or
unfolding call_of silent
returns-in-Or g c = joins c.args.t (call_of c.args.t c.args.next (command_view c.args.command.now) c.args.self.now.scripts) _ _
    (c.number_at-first.ensures c.args.next) (c.number_at-second.ensures c.args.next) (c.requires.plain ∙ ap Plain c.in-Or.is) _ c.all_bits.ensures

pub returns-in-Jump : goal.returns-in-Jump
unfolding call_of jumps
returns-in-Jump g c = goes c.args.t (call_of c.args.t c.args.next (command_view c.args.command.now) c.args.self.now.scripts) _ _
    (c.number_at-first.ensures c.args.next) (c.number_at-second.ensures c.args.next) (c.requires.plain ∙ ap Plain c.in-Jump.is)

pub returns-in-JumpZ : goal.returns-in-JumpZ
unfolding call_of jumps
returns-in-JumpZ g c = goes_at_zero c.args.t (call_of c.args.t c.args.next (command_view c.args.command.now) c.args.self.now.scripts) _ _
    (c.number_at-first.ensures c.args.next) (c.number_at-second.ensures c.args.next) (c.requires.plain ∙ ap Plain c.in-JumpZ.is) _ c.place_at_zero-there.ensures

pub returns-in-JumpNZ : goal.returns-in-JumpNZ
unfolding call_of jumps
returns-in-JumpNZ g c = goes_unless_zero c.args.t (call_of c.args.t c.args.next (command_view c.args.command.now) c.args.self.now.scripts) _ _
    (c.number_at-first.ensures c.args.next) (c.number_at-second.ensures c.args.next) (c.requires.plain ∙ ap Plain c.in-JumpNZ.is) _ c.place_at_zero-here.ensures

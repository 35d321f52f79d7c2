-- The proof of `Kernel::feed`: nothing changes if there is no such task.
use Rattle.std.proofs.Common.{◌≡◌, ◌≤◌, ◌∙◌, ℕ, length, ap, sym, subst}
use Rattle.script.specs.Commands.{command_view}
use Rattle.execmodel.specs.State.{Scripts}
use Rattle.execsim.specs.Agreement.{Seen}
use Rattle.execsim.proofs.Fed.{fed_past}
use Rattle.execsim.proofs.kernel.Kernel.feed.Goals as goal

pub returns-else-t-len-clause-fed : goal.returns-else-t-len-clause-fed
returns-else-t-len-clause-fed g c =
    let own = c.self.inside.programs in
    let count : c.len.result ≡ length own.items = c.len.ensures ∙ own.ok.0 in
    let past : length own.items ≤ c.args.t = subst (λ (n : ℕ). n ≤ c.args.t) count c.if-t-len.false in
    let none : length c.args.self.now.scripts.programs ≤ c.args.t = subst (λ (m : Seen). length m.scripts.programs ≤ c.args.t) c.self.view_is past in
    ap (λ (scripts : Scripts). record c.args.self.now { scripts = scripts }) (sym (fed_past c.args.t (command_view c.args.command) c.args.self.now.scripts none))

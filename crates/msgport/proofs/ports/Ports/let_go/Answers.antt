-- What is not held leaves those that are as they are.
use Rattle.std.proofs.Common.{◌∙◌, ap, sym}
use Rattle.msgport.proofs.Linking.{without_absent}
use Rattle.msgport.proofs.ports.Ports.let_go.Goals as goal

pub returns-else-is_held-clause-next : goal.returns-else-is_held-clause-next
returns-else-is_held-clause-next g c = sym (ap (λ xs. record c.args.self.now { holding = xs }) (without_absent c.args.m c.args.self.now.holding (sym c.is_held.ensures ∙ c.if-is_held.false)))

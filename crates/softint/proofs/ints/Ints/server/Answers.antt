-- What is in a chain is a server.
use Rattle.std.proofs.Common.{◌∙◌, ap, slice_get}
use Rattle.softint.proofs.Chains.{server_known}
use Rattle.softint.proofs.ints.Ints.server.Goals as goal

pub returns-clause-known : goal.returns-clause-known
returns-clause-known g c =
    server_known c.args.source c.args.self.now.servers c.args.k c.server_at.result (c.server_at.ensures ∙ ap (λ l. slice_get l c.args.k) c.chain.ensures)

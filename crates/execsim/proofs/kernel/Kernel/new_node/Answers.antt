-- The proof of `Kernel::new_node`: NewNode pri name: answers the address of a new node, which is not linked, or 0.
use Rattle.execsim.proofs.Listing.{node_made, node_refused}
use Rattle.execsim.proofs.kernel.Kernel.new_node.Goals as goal

pub returns-then-not-is_priority : goal.returns-then-not-is_priority
returns-then-not-is_priority g c = node_refused _ _ (rw (c.is_priority.ensures, c.number-pri.ensures) at c.if-not-is_priority.true) c.alert.ensures

pub returns-else-not-is_priority : goal.returns-else-not-is_priority
returns-else-not-is_priority g c = node_made _ _ _ (rw (c.is_priority.ensures, c.number-pri.ensures) at c.if-not-is_priority.false)
    c.make_node-node.ensures.address (rw (c.number-pri.ensures, c.name.ensures) at c.make_node-node.ensures.next)
    (rw c.unwrap_or.ensures at c.answer.ensures)

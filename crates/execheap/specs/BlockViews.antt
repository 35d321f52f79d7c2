-- What is seen of a block and of the object that begins there.
use Rattle.msgport.specs.Port.{Port}
use Rattle.execmodel.specs.State as model
use Rattle.execmodel.specs.State.{Block, ListHead, MsgPort, Node, Object}
use Rattle.execheap.specs.declared.view.ObjectView.TheVariants.{Plain, List, Node as SeenNode, Port as SeenPort, Message, Semaphore, Library, Request}
use Rattle.execheap.specs.{declared.view.BlockView.BlockView, declared.view.ObjectView.ObjectView, declared.view.PortView.PortView}

abbrev pub port_view : Port → PortView
port_view port = record { task = port.task; signal = port.bit; action = port.action }

-- the members of a list, the messages of a port and the tasks that wait at a semaphore are left out
abbrev pub object_view : Object → ObjectView
object_view model.Plain = Plain
object_view (ListHead nodes) = List
object_view (Node key) = SeenNode key.pri
object_view (MsgPort port messages) = SeenPort (port_view port)
object_view (model.Message content) = Message content
object_view (model.Semaphore sem waiters) = Semaphore sem
object_view (model.Library number count delayed) = Library (record { number = number; count = count; is_delayed = delayed })
object_view (model.Request content) = Request content

abbrev pub block_view : Block → BlockView
block_view block = record { size = block.size; object = object_view block.object }

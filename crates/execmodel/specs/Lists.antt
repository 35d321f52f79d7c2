-- Lists of nodes (RKM Libraries, Exec Lists and Queues). A list is the sequence of its nodes, by their addresses; no
-- node is in two lists, nor twice in one. An address at which no object of the kind begins is the alert HANDLE; a node
-- that is linked where it must not be, or is not linked where it must be, and a list that has nodes when it is freed,
-- is the alert LINK (project rule).
use Rattle.std.specs.Prelude.{ℕ, zero, suc, ℤ, Bool, true, false, not, ◌-◌, ◌==◌, if◌then◌else◌, nat_eq, is_some, length, map, take, drop, find, unwrap_or, codes, List, [], ◌∷◌, ◌++◌, Option, None, Some, ⊤}
use Rattle.std.specs.{List.list_any, Int.cast_signed, Int.w32}
use Rattle.execlist.specs.{Order.enqueue, Order.first, Order.without_item, Lists.KeyData, Lists.blank, Lists.last, Lists.name_is, Lists.part_after, Lists.part_before, Lists.put_after}
use Rattle.script.specs.declared.word.lists.ListWord.{ListWord}
use Rattle.script.specs.declared.word.lists.ListWord.TheVariants as word
use Rattle.execmodel.specs.{State.Call, State.Object, State.ListHead, State.Node, State.Block, State.Heap, State.State, State.Outcome, Calls.argument, Calls.name_argument, Deeds.Deed, Deeds.performs, Deeds.changes, Deeds.answers_and_changes, Deeds.reads, Deeds.frees_block, Deeds.makes, Objects.object_at, Objects.is_kind, Tasks.is_priority}
use Rattle.script.specs.declared.alert.Alert.TheVariants as an_alert
use Rattle.script.specs.declared.alert.Alert.{Alert}

-- ---- lists and nodes in memory

-- the object is the header of a list
abbrev pub is_list : Object → Bool
is_list (ListHead nodes) = true
is_list _ = false

-- the object is a node
abbrev pub is_node : Object → Bool
is_node (Node key) = true
is_node _ = false

-- a list begins at an address
unfoldable pub is_list_at : ℕ → Heap → Bool
is_list_at address heap = is_kind is_list (object_at address heap)

-- a node begins at an address
unfoldable pub is_node_at : ℕ → Heap → Bool
is_node_at address heap = is_kind is_node (object_at address heap)

-- the nodes of a list, none for another object
abbrev pub nodes_in : Object → List ℕ
nodes_in (ListHead nodes) = nodes
nodes_in _ = []

-- the nodes of what begins at an address, none if it is not a list
abbrev pub nodes_of_object : Option Object → List ℕ
nodes_of_object None = []
nodes_of_object (Some object) = nodes_in object

-- the nodes of the list that begins at an address
unfoldable pub nodes_of : ℕ → Heap → List ℕ
nodes_of list heap = nodes_of_object (object_at list heap)

-- the priority and the name of a node, those of a new one for another object
abbrev pub key_in : Object → KeyData
key_in (Node key) = key
key_in _ = blank

-- the priority and the name of what begins at an address
abbrev pub key_of_object : Option Object → KeyData
key_of_object None = blank
key_of_object (Some object) = key_in object

-- the priority and the name of the node that begins at an address
unfoldable pub key_of : ℕ → Heap → KeyData
key_of node heap = key_of_object (object_at node heap)

-- a node is in a sequence
abbrev pub is_in_nodes : ℕ → List ℕ → Bool
is_in_nodes node nodes = list_any (λ other. other == node) nodes

-- the nodes of the list that a node is in, none if it is in no list
unfoldable pub sequence_with : ℕ → Heap → List ℕ
sequence_with node [] = []
sequence_with node (entry ∷ rest) =
    if is_in_nodes node (nodes_in entry.1.object) then nodes_in entry.1.object else sequence_with node rest

-- a node is linked: it is in a list
abbrev pub is_linked : ℕ → Heap → Bool
is_linked node heap = is_in_nodes node (sequence_with node heap)

-- an entry of the heap, which gets these nodes if it is the list at that address
abbrev pub relisted : ℕ → List ℕ → ℕ × Block → ℕ × Block
relisted list nodes entry = (entry.0, if nat_eq entry.0 list then record entry.1 { object = ListHead nodes } else entry.1)

-- the list that begins at an address gets these nodes, and nothing else changes
unfoldable pub with_nodes : ℕ → List ℕ → Heap → Heap
with_nodes list nodes heap = map (relisted list nodes) heap

-- a list without that node; another object stays as it is
abbrev pub left_by : ℕ → Object → Object
left_by node (ListHead nodes) = ListHead (without_item node nodes)
left_by node object = object

-- a node leaves the list that it is in; the lists keep their other nodes in their order
unfoldable pub unlinked : ℕ → Heap → Heap
unlinked node heap = map (λ (entry : ℕ × Block). (entry.0, record entry.1 { object = left_by node entry.1.object })) heap

-- an address, or 0 if there is none
abbrev pub or_none : Option ℕ → ℕ
or_none place = unwrap_or place 0

-- ---- making and freeing

-- the size of a list in bytes: Exec's List (include file exec/lists.h)
abbrev pub list_size : ℕ
list_size = 14

-- the size of a node in bytes: Exec's Node (include file exec/nodes.h)
abbrev pub node_size : ℕ
node_size = 14

-- the alert of a call that frees a list: HANDLE if none begins there, LINK if it has nodes
unfoldable pub free_list_alert : ℕ → Heap → Option Alert
free_list_alert list heap =
    if not (is_list_at list heap) then Some an_alert.Handle
    else (if is_some (first (nodes_of list heap)) then Some an_alert.Link else None)

-- the alert of NewNode: VALUE if the priority is not one that a task may have
abbrev pub new_node_alert : ℤ → Option Alert
new_node_alert pri = if not (is_priority pri) then Some an_alert.Value else None

-- the alert of a call that frees a node: HANDLE if none begins there, LINK if it is linked
unfoldable pub free_node_alert : ℕ → Heap → Option Alert
free_node_alert node heap =
    if not (is_node_at node heap) then Some an_alert.Handle
    else (if is_linked node heap then Some an_alert.Link else None)

-- ---- linking

-- the alert of a call that links a node into a list: HANDLE if the list or the node is not there, LINK if the node is
-- linked
unfoldable pub link_alert : ℕ → ℕ → Heap → Option Alert
link_alert list node heap =
    if not (is_list_at list heap) then Some an_alert.Handle
    else (if not (is_node_at node heap) then Some an_alert.Handle
    else (if is_linked node heap then Some an_alert.Link else None))

-- the node becomes the first of the list
unfoldable pub added_head : ℕ → ℕ → Heap → Heap
added_head list node heap = with_nodes list (node ∷ nodes_of list heap) heap

-- the node becomes the last of the list
unfoldable pub added_tail : ℕ → ℕ → Heap → Heap
added_tail list node heap = with_nodes list (nodes_of list heap ++ node ∷ []) heap

-- the node is put before the first node of lower priority, or last if there is none
unfoldable pub enqueued : ℕ → ℕ → Heap → Heap
enqueued list node heap = with_nodes list (enqueue (λ other. (key_of other heap).pri) (nodes_of list heap) node) heap

-- an address as a predecessor: 0 means that there is none
abbrev pub predecessor : ℕ → Option ℕ
predecessor zero = None
predecessor (suc p) = Some (suc p)

-- a predecessor is a node, or there is none
abbrev pub is_pred_at : Option ℕ → Heap → Bool
is_pred_at None heap = true
is_pred_at (Some pred) heap = is_node_at pred heap

-- the alert of a predecessor: HANDLE if it is not a node
abbrev pub pred_alert : Option ℕ → Heap → Option Alert
pred_alert pred heap = if not (is_pred_at pred heap) then Some an_alert.Handle else None

-- a predecessor is in the list, or there is none
abbrev pub is_pred_in : Option ℕ → ℕ → Heap → Bool
is_pred_in None list heap = true
is_pred_in (Some pred) list heap = is_in_nodes pred (nodes_of list heap)

-- the alert of Insert: HANDLE if the list, the node or the predecessor is not there, LINK if the node is linked or the
-- predecessor is not in the list
unfoldable pub insert_alert : ℕ → ℕ → ℕ → Heap → Option Alert
insert_alert list node pred heap =
    if not (is_list_at list heap) then Some an_alert.Handle
    else (if not (is_node_at node heap) then Some an_alert.Handle
    else (if not (is_pred_at (predecessor pred) heap) then Some an_alert.Handle
    else (if is_linked node heap then Some an_alert.Link
    else (if not (is_pred_in (predecessor pred) list heap) then Some an_alert.Link else None))))

-- the node is put after its predecessor, or becomes the first of the list for 0
unfoldable pub inserted : ℕ → ℕ → ℕ → Heap → Heap
inserted list node pred heap = with_nodes list (put_after (predecessor pred) node (nodes_of list heap)) heap

-- ---- unlinking

-- the alert of a call on a linked node: HANDLE if no node begins there, LINK if it is not linked
unfoldable pub linked_alert : ℕ → Heap → Option Alert
linked_alert node heap =
    if not (is_node_at node heap) then Some an_alert.Handle
    else (if not (is_linked node heap) then Some an_alert.Link else None)

-- the alert of a call on a list: HANDLE if none begins there
unfoldable pub list_alert : ℕ → Heap → Option Alert
list_alert list heap = if not (is_list_at list heap) then Some an_alert.Handle else None

-- the first node of a list, or 0 if it is empty
unfoldable pub first_of : ℕ → Heap → ℕ
first_of list heap = or_none (first (nodes_of list heap))

-- the last node of a list, or 0 if it is empty
unfoldable pub last_of : ℕ → Heap → ℕ
last_of list heap = or_none (last (nodes_of list heap))

-- a list without its first node
unfoldable pub removed_head : ℕ → Heap → Heap
removed_head list heap = with_nodes list (drop 1 (nodes_of list heap)) heap

-- a list without its last node
unfoldable pub removed_tail : ℕ → Heap → Heap
removed_tail list heap = with_nodes list (take (length (nodes_of list heap) - 1) (nodes_of list heap)) heap

-- ---- scanning

-- the node after a node in its list, or 0 if it is the last
unfoldable pub succ_of : ℕ → Heap → ℕ
succ_of node heap = or_none (first (part_after node (sequence_with node heap)))

-- the node before a node in its list, or 0 if it is the first
unfoldable pub pred_of : ℕ → Heap → ℕ
pred_of node heap = or_none (last (part_before node (sequence_with node heap)))

-- the alert of FindName: none if it starts at a list, and else that of a call on a linked node
unfoldable pub find_alert : ℕ → Heap → Option Alert
find_alert start heap = if is_list_at start heap then None else linked_alert start heap

-- the nodes among which FindName looks: those of the list, or those after the node
unfoldable pub searched : ℕ → Heap → List ℕ
searched start heap = if is_list_at start heap then nodes_of start heap else part_after start (sequence_with start heap)

-- a node has that name, byte for byte
abbrev pub has_name : List ℕ → Heap → ℕ → Bool
has_name name heap node = name_is (key_of node heap).name name

-- the first node of that name among those where FindName looks, or 0
unfoldable pub found_node : ℕ → List ℕ → Heap → ℕ
found_node start name heap = or_none (find (has_name name heap) (searched start heap))

-- ---- the words of this group

-- what a call on lists does: the alert that refuses it, how it changes the lists and nodes, and what it returns
unfoldable pub list_deed : ListWord → Call → Deed
-- NewList: returns the address of a new empty list, or 0 if it cannot be made (autodoc amiga.lib/NewList; that it takes
-- the memory: project rule)
list_deed word.NewList call = makes None is_list list_size (ListHead [])
-- FreeList list: an empty list is freed (project rule)
list_deed word.FreeList call = frees_block (free_list_alert (argument 0 call)) (argument 0 call)
-- NewNode pri name: returns the address of a new node that is not linked, or 0 if it cannot be made; the priority is
-- read as a signed word (project rule)
list_deed word.NewNode call =
    let pri = cast_signed w32 (argument 0 call) in
    makes (new_node_alert pri) is_node node_size (Node (record { pri = pri; name = name_argument 1 call }))
-- FreeNode node: a node that is not linked is freed (project rule)
list_deed word.FreeNode call = frees_block (free_node_alert (argument 0 call)) (argument 0 call)
-- AddHead list node: the node becomes the first of the list (autodoc exec.library/AddHead)
list_deed word.AddHead call = changes (link_alert (argument 0 call) (argument 1 call)) (added_head (argument 0 call) (argument 1 call))
-- AddTail list node: the node becomes the last of the list (autodoc exec.library/AddTail)
list_deed word.AddTail call = changes (link_alert (argument 0 call) (argument 1 call)) (added_tail (argument 0 call) (argument 1 call))
-- Enqueue list node: the node is put before the first node of lower priority, or last if there is none (autodoc
-- exec.library/Enqueue)
list_deed word.Enqueue call = changes (link_alert (argument 0 call) (argument 1 call)) (enqueued (argument 0 call) (argument 1 call))
-- Insert list node pred: the node is put after its predecessor, or becomes the first of the list for 0 (autodoc
-- exec.library/Insert)
list_deed word.Insert call =
    changes (insert_alert (argument 0 call) (argument 1 call) (argument 2 call)) (inserted (argument 0 call) (argument 1 call) (argument 2 call))
-- Remove node: the node leaves the list that it is in (autodoc exec.library/Remove)
list_deed word.Remove call = changes (linked_alert (argument 0 call)) (unlinked (argument 0 call))
-- RemHead list: returns the first node, which leaves the list, or 0 for an empty one (autodoc exec.library/RemHead)
list_deed word.RemHead call = answers_and_changes (list_alert (argument 0 call)) (first_of (argument 0 call)) (removed_head (argument 0 call))
-- RemTail list: returns the last node, which leaves the list, or 0 for an empty one (autodoc exec.library/RemTail)
list_deed word.RemTail call = answers_and_changes (list_alert (argument 0 call)) (last_of (argument 0 call)) (removed_tail (argument 0 call))
-- First list: returns the first node, or 0 for an empty list (RKM Libraries, Exec Lists and Queues: scanning a list)
list_deed word.First call = reads (list_alert (argument 0 call)) (first_of (argument 0 call))
-- Last list: returns the last node, or 0 for an empty list (RKM Libraries, Exec Lists and Queues: scanning a list)
list_deed word.Last call = reads (list_alert (argument 0 call)) (last_of (argument 0 call))
-- Succ node: returns the node after a linked one, or 0 if it is the last (RKM Libraries, Exec Lists and Queues:
-- ln_Succ)
list_deed word.Succ call = reads (linked_alert (argument 0 call)) (succ_of (argument 0 call))
-- Pred node: returns the node before a linked one, or 0 if it is the first (RKM Libraries, Exec Lists and Queues:
-- ln_Pred)
list_deed word.Pred call = reads (linked_alert (argument 0 call)) (pred_of (argument 0 call))
-- FindName start name: returns the first node of that name in a list, or after a node of it, or 0 if there is none
-- (autodoc exec.library/FindName; that the start may be a node: RKM Libraries, Exec Lists and Queues: searching by
-- name)
list_deed word.FindName call = reads (find_alert (argument 0 call)) (found_node (argument 0 call) (unwrap_or (name_argument 1 call) []))

-- a call of task t on lists, by its word
abbrev pub does_lists : ListWord → ℕ → Call → State → Outcome
does_lists word t call s = performs (list_deed word call) t call s

-- the rules of this group, where all of them are to unfold
unfoldable pub list_rules : ⊤
unfolding added_head added_tail enqueued find_alert first_of found_node free_list_alert free_node_alert insert_alert inserted is_list_at is_node_at key_of last_of link_alert linked_alert list_alert list_deed nodes_of pred_of removed_head removed_tail searched sequence_with succ_of unlinked with_nodes
list_rules = tt

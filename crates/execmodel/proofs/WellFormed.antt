-- Blocks lie in the regions and do not meet, whatever a call does.
use Rattle.std.proofs.Common.{◌≡◌, ℕ, Bool, true, false, List, [], ◌∷◌, Option, None, Some, refl, sym, ap, ◌∙◌, subst, not, cond, if◌then◌else◌, nat_eq, map, option_map, nat_cmp, Ordering, Less, Equal, Greater}
use Rattle.std.specs.{Ordering.eq_by_cmp, FinMap.find, FinMap.put, FinMap.Entries.by_order}
use Rattle.memlist.specs.{declared.region.Region.Region, Blocks.Blocks, Blocks.freed, Fit.fit, Fit.round, Memory.IsWellFormed}
use Rattle.memlist.proofs.{Fitting.fitted_well_formed, Fitting.fitted_fresh, Keeping.freed_well_formed}
use Rattle.iorequest.specs.declared.request.Request.{Request as TimerRequest}
use Rattle.execmodel.specs.Semaphores.{with_semaphore, left_by_task, entered, queued, dropped, handed_on, released_once}
use Rattle.execmodel.specs.{State.Call, State.Object, State.Library, State.Request, State.Block, State.Heap, State.Waiting as Queued, State.Mark, State.State, Requests.with_request, Objects.object_at, Objects.replaced, Memory.extents, Memory.block_at, Lists.with_nodes, Lists.unlinked, Lists.left_by, Ports.with_action, Ports.with_port, Ports.appended, Ports.taken_off, Libraries.library_number_at, Libraries.with_library}
use Rattle.execmodel.proofs.BlocksAfter.{Moves, touches, takes, frees, relists, unlinks, sets, enters, queues, hands, opens, releases, counts, expunges, drops}
use Rattle.execmodel.proofs.{Heaps.rid, Commands.Touches, Commands.remains, Commands.fills, Commands.puts, Commands.gets, Commands.none_some, Asking.Asks, Asking.writes, Asking.answers, Asking.written, Asking.without_reply, Taking.Takes, Taking.nothing, Taking.places, Taking.recounts, Taking.yields}

-- where a block lies, and how long it is
abbrev extent : ℕ × Block → ℕ × (ℕ × ℕ)
extent entry = (entry.0, (entry.1.size, 0))

ordered : (order : Ordering) (a size : ℕ) (object : Object) (entry : ℕ × Block) (rest more : Heap) (others : Blocks)
    → extents more ≡ others
    → extents (by_order order ((a, record { size = size; object = object }) ∷ entry ∷ rest) ((entry.0, record { size = size; object = object }) ∷ rest) (entry ∷ more))
    ≡ by_order order ((a, (size, 0)) ∷ extent entry ∷ extents rest) ((entry.0, (size, 0)) ∷ extents rest) (extent entry ∷ others)
ordered Less a size object entry rest more others e = refl
ordered Equal a size object entry rest more others e = refl
ordered Greater a size object entry rest more others e = ap (λ bs. extent entry ∷ bs) e

extents_put : (a size : ℕ) (object : Object) (heap : Heap)
    → extents (put nat_cmp a (record { size = size; object = object }) heap) ≡ put nat_cmp a (size, 0) (extents heap)
extents_put a size object [] = refl
extents_put a size object (entry ∷ rest) =
    ordered (nat_cmp a entry.0) a size object entry rest (put nat_cmp a (record { size = size; object = object }) rest) _ (extents_put a size object rest)

filtered_extent : (test : Bool) (entry : ℕ × Block) (rest : Heap) (others : Blocks) → extents rest ≡ others
    → extents (cond test (entry ∷ rest) rest) ≡ cond test (extent entry ∷ others) others
filtered_extent true entry rest others e = ap (λ bs. extent entry ∷ bs) e
filtered_extent false entry rest others e = e

extents_rid : (a : ℕ) (heap : Heap) → extents (rid a heap) ≡ freed a (extents heap)
extents_rid a [] = refl
extents_rid a (entry ∷ rest) = filtered_extent (not (nat_eq entry.0 a)) entry (rid a rest) _ (extents_rid a rest)

replaced_extent : (test : Bool) (k : ℕ) (object : Object) (block : Block)
    → extent (k, if test then record block { object = object } else block) ≡ extent (k, block)
replaced_extent true k object block = refl
replaced_extent false k object block = refl

extents_replaced : (address : ℕ) (object : Object) (heap : Heap) → extents (map (replaced address object) heap) ≡ extents heap
extents_replaced address object [] = refl
extents_replaced address object (entry ∷ rest) =
    ap (λ b. b ∷ extents (map (replaced address object) rest)) (replaced_extent (nat_eq entry.0 address) entry.0 object entry.1)
    ∙ ap (λ bs. extent entry ∷ bs) (extents_replaced address object rest)

extents_remade : (f : Object → Object) (heap : Heap)
    → extents (map (λ (entry : ℕ × Block). (entry.0, record entry.1 { object = f entry.1.object })) heap) ≡ extents heap
extents_remade f [] = refl
extents_remade f (entry ∷ rest) = ap (λ bs. extent entry ∷ bs) (extents_remade f rest)

same_extents : (regions : List Region) (old new : Heap) → extents new ≡ extents old → IsWellFormed regions (extents old)
    → IsWellFormed regions (extents new)
same_extents regions old new e formed = subst (λ bs. IsWellFormed regions bs) (sym e) formed

-- whatever a call does, also one in a body
pub touched_formed : (regions : List Region) (old : Heap) (marks : List Mark) (new : Heap) → Touches old marks new
    → IsWellFormed regions (extents old) → IsWellFormed regions (extents new)
unfolding with_port appended taken_off
touched_formed regions old marks new remains formed = formed
touched_formed regions old marks new (fills message content is) formed = same_extents regions old new (extents_replaced message _ old) formed
touched_formed regions old marks new (puts port message content is is_message loose) formed =
    same_extents regions old new (extents_replaced port _ _ ∙ extents_replaced message _ old) formed
touched_formed regions old marks new (gets port message is e) formed = same_extents regions old new (extents_replaced port _ old) formed

pub counted_formed : (regions : List Region) (base count : ℕ) (delayed : Bool) (heap : Heap) → IsWellFormed regions (extents heap)
    → IsWellFormed regions (extents (with_library base count delayed heap))
unfolding with_library
counted_formed regions base count delayed heap formed =
    same_extents regions heap (map (replaced base (Library (library_number_at base heap) count delayed)) heap) (extents_replaced base _ heap) formed

pub rid_formed : (regions : List Region) (address : ℕ) (heap : Heap) → IsWellFormed regions (extents heap) → IsWellFormed regions (extents (rid address heap))
rid_formed regions address heap formed =
    subst (λ bs. IsWellFormed regions bs) (sym (extents_rid address heap)) (freed_well_formed regions (extents heap) address formed)

takes_formed : {asks may_count : Bool} (regions : List Region) (old new : Heap) → Takes asks may_count regions old new → IsWellFormed regions (extents old) → IsWellFormed regions (extents new)
takes_formed regions old new nothing formed = formed
takes_formed regions old new (places size reqs address object is fits) formed =
    subst (λ bs. IsWellFormed regions bs) (sym (extents_put address (round size) object old))
    (fitted_well_formed regions (extents old) size reqs 0 address formed fits)
takes_formed regions old new (recounts base count delayed is more may rest) formed =
    takes_formed regions (with_library base count delayed old) new rest (counted_formed regions base count delayed old formed)
takes_formed regions old new (yields base is none may rest) formed = takes_formed regions (rid base old) new rest (rid_formed regions base old formed)

pub moves_formed : {asks : Bool} (regions : List Region) (t : ℕ) (call : Call) (old : Heap) (marks : List Mark) (new : Heap) → Moves asks regions t call old marks new
    → IsWellFormed regions (extents old) → IsWellFormed regions (extents new)
unfolding with_nodes unlinked with_action with_port with_semaphore entered queued dropped handed_on released_once
moves_formed regions t call old marks new (touches how) formed = touched_formed regions old marks new how formed
moves_formed regions t call old marks new (takes how) formed = takes_formed regions old new how formed
moves_formed regions t call old marks new (frees address may unneeded) formed = rid_formed regions address old formed
moves_formed regions t call old marks new (relists list nodes is) formed =
    same_extents regions old new (extents_replaced list _ old) formed
moves_formed regions t call old marks new (unlinks node) formed = same_extents regions old new (extents_remade (left_by node) old) formed
moves_formed regions t call old marks new (sets act port is) formed = same_extents regions old new (extents_replaced port _ old) formed
moves_formed regions t call old marks new (enters semaphore is e) formed = same_extents regions old new (extents_replaced semaphore _ old) formed
moves_formed regions t call old marks new (queues semaphore is e) formed = same_extents regions old new (extents_replaced semaphore _ old) formed
moves_formed regions t call old marks new (hands semaphore owner release is last e) formed =
    same_extents regions old new (extents_replaced semaphore _ old) formed
moves_formed regions t call old marks new (opens semaphore release is last e) formed =
    same_extents regions old new (extents_replaced semaphore _ old) formed
moves_formed regions t call old marks new (releases semaphore is last) formed =
    same_extents regions old new (extents_replaced semaphore _ old) formed
moves_formed regions t call old marks new (counts base count delayed is may) formed = counted_formed regions base count delayed old formed
moves_formed regions t call old marks new (expunges base is may) formed = rid_formed regions base old formed
moves_formed regions t call old marks new (drops other apart) formed =
    same_extents regions old new (extents_remade (left_by_task other) old) formed

-- whatever a call does on a request, and the clock
written_extents : (request : ℕ) (content : TimerRequest) (heap : Heap) → extents (with_request request content heap) ≡ extents heap
written_extents request content heap =
    written (λ h. extents h ≡ extents heap) request content heap refl (λ is. extents_replaced request (Request content) heap)

pub asked_formed : (regions : List Region) (s : State) (marks : List Mark) (new : Heap) (later : List Queued) → Asks s marks new later
    → IsWellFormed regions (extents s.memory.heap) → IsWellFormed regions (extents new)
unfolding with_port appended
asked_formed regions s marks new later (writes request content waiting rewritten) formed =
    same_extents regions s.memory.heap new (written_extents request content s.memory.heap) formed
asked_formed regions s marks new later (answers port request content waiting is rewritten reply) formed =
    same_extents regions s.memory.heap new (extents_replaced port _ _ ∙ written_extents request content s.memory.heap) formed

pub taken_formed : (regions : List Region) (port request : ℕ) (heap : Heap) → IsWellFormed regions (extents heap)
    → IsWellFormed regions (extents (without_reply port request heap))
unfolding with_port
taken_formed regions port request heap formed =
    same_extents regions heap (without_reply port request heap) (extents_replaced port _ heap) formed

-- ---- an object is placed if none begins

extent_found : (test : Bool) (block : Block) (old : Option Block) (new : Option (ℕ × ℕ))
    → new ≡ option_map (λ (b : Block). (b.size, 0)) old
    → cond test (Some (block.size, 0)) new ≡ option_map (λ (b : Block). (b.size, 0)) (cond test (Some block) old)
extent_found true block old new e = refl
extent_found false block old new e = e

found_extent : (a : ℕ) (heap : Heap) → find nat_cmp a (extents heap) ≡ option_map (λ (b : Block). (b.size, 0)) (block_at a heap)
found_extent a [] = refl
found_extent a (entry ∷ rest) = extent_found (eq_by_cmp nat_cmp a entry.0) entry.1 (block_at a rest) _ (found_extent a rest)

nothing_found : (found : Option Block) → option_map {U = ℕ × ℕ} (λ (b : Block). (b.size, 0)) found ≡ None → option_map (λ (b : Block). b.object) found ≡ None
nothing_found None e = refl
nothing_found (Some block) e = none_some e

pub placed_fresh : (regions : List Region) (size reqs address : ℕ) (heap : Heap) → IsWellFormed regions (extents heap)
    → fit regions (extents heap) size reqs ≡ Some address → object_at address heap ≡ None
placed_fresh regions size reqs address heap formed fits =
    nothing_found (block_at address heap)
    (sym (found_extent address heap) ∙ fitted_fresh regions (extents heap) size reqs address formed fits)

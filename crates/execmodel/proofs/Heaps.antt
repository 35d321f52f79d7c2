-- What begins at an address, after a block is placed or freed and after what begins there becomes another.
use Rattle.std.proofs.Common.{◌≡◌, ◌≢◌, ℕ, Bool, true, false, [], ◌∷◌, Option, None, Some, refl, sym, ap, ◌∙◌, not, ◌&&◌, cond, if◌then◌else◌, nat_eq, map, nat_cmp, is_eq, option_map, Equal}
use Rattle.std.specs.{Ordering.eq_by_cmp, Cmp.nat_cmp_total, FinMap.Entries.find-put, FinMap.Entries.find-where_key, FinMap.Entries.where_key, FinMap.put}
use Rattle.memlist.proofs.Answered.{nat_eq-same, nat_eq-other, cases_eq, key_same, key_other}
use Rattle.msgport.specs.declared.message.Message.{Message as Content}
use Rattle.execmodel.specs.{State.Object, State.Message, State.Block, State.Heap, Memory.block_at, Objects.object_at, Objects.replaced, Ports.is_message_at, Ports.with_content}

pub true_is_not_false : {A : Type 0} → true ≡ false → A
true_is_not_false e = let bad : true ≡ false = e in cc

-- both of two are so
pub both_true : {A : Type 0} (b c : Bool) → (b && c) ≡ true → (b ≡ true → c ≡ true → A) → A
both_true true c e f = f refl e
both_true false c e f = true_is_not_false (sym e)

key_is : (a k : ℕ) → eq_by_cmp nat_cmp a k ≡ true → k ≡ a
key_is a k e = cases_eq a k (λ same. sym same) (λ apart. true_is_not_false (sym e ∙ key_other a k apart))

entry_tested : (remade : ℕ → Block → Block) (a k : ℕ) (block : Block) (test : Bool) (old new : Option Block) → (test ≡ true → k ≡ a)
    → new ≡ option_map (remade a) old
    → cond test (Some (remade k block)) new ≡ option_map (remade a) (cond test (Some block) old)
entry_tested remade a k block true old new is same = ap (λ n. Some (remade n block)) (is refl)
entry_tested remade a k block false old new is same = same

-- each block becomes another, by its address
pub block_remade : (remade : ℕ → Block → Block) (a : ℕ) (heap : Heap)
    → block_at a (map (λ (entry : ℕ × Block). (entry.0, remade entry.0 entry.1)) heap) ≡ option_map (remade a) (block_at a heap)
block_remade remade a [] = refl
block_remade remade a (entry ∷ rest) =
    entry_tested remade a entry.0 entry.1 (eq_by_cmp nat_cmp a entry.0) (block_at a rest) _ (key_is a entry.0) (block_remade remade a rest)

-- an object in place of one that is there
abbrev pub instead : Object → Option Object → Option Object
instead object None = None
instead object (Some other) = Some object

replaced_tested : (object : Object) (test : Bool) (found : Option Block)
    → option_map (λ (block : Block). block.object) (option_map (λ (block : Block). if test then record block { object = object } else block) found)
    ≡ (if test then instead object (option_map (λ (block : Block). block.object) found) else option_map (λ (block : Block). block.object) found)
replaced_tested object true None = refl
replaced_tested object false None = refl
replaced_tested object true (Some block) = refl
replaced_tested object false (Some block) = refl

-- what begins at one address becomes another
pub object_replaced : (address : ℕ) (object : Object) (a : ℕ) (heap : Heap)
    → object_at a (map (replaced address object) heap) ≡ (if nat_eq a address then instead object (object_at a heap) else object_at a heap)
object_replaced address object a heap =
    ap (λ found. option_map (λ (block : Block). block.object) found)
    (block_remade (λ k block. if nat_eq k address then record block { object = object } else block) a heap)
    ∙ replaced_tested object (nat_eq a address) (block_at a heap)

remade_tested : (f : Object → Object) (found : Option Block)
    → option_map (λ (block : Block). block.object) (option_map (λ (block : Block). record block { object = f block.object }) found)
    ≡ option_map f (option_map (λ (block : Block). block.object) found)
remade_tested f None = refl
remade_tested f (Some block) = refl

-- every object becomes another
pub object_remade : (f : Object → Object) (a : ℕ) (heap : Heap)
    → object_at a (map (λ (entry : ℕ × Block). (entry.0, record entry.1 { object = f entry.1.object })) heap) ≡ option_map f (object_at a heap)
object_remade f a heap =
    ap (λ found. option_map (λ (block : Block). block.object) found)
    (block_remade (λ k block. record block { object = f block.object }) a heap)
    ∙ remade_tested f (block_at a heap)

pub object_placed_here : (a size : ℕ) (object : Object) (heap : Heap)
    → object_at a (put nat_cmp a (record { size = size; object = object }) heap) ≡ Some object
object_placed_here a size object heap =
    ap (λ found. option_map (λ (block : Block). block.object) found)
    (find-put nat_cmp nat_cmp_total a a (record { size = size; object = object }) heap
    ∙ ap (λ test. cond test (Some (record { size = size; object = object })) (block_at a heap)) (key_same a))

pub object_placed_there : (a address : ℕ) (block : Block) (heap : Heap) → a ≢ address
    → object_at a (put nat_cmp address block heap) ≡ object_at a heap
object_placed_there a address block heap apart =
    ap (λ found. option_map (λ (block : Block). block.object) found)
    (find-put nat_cmp nat_cmp_total a address block heap ∙ ap (λ test. cond test (Some block) (block_at a heap)) (key_other a address apart))

-- the blocks without the one that begins at an address
abbrev pub rid : ℕ → Heap → Heap
rid address heap = where_key nat_cmp (λ other. not (nat_eq other address)) heap

tie : (a address x : ℕ) → nat_cmp a x ≡ Equal → not (nat_eq x address) ≡ not (nat_eq a address)
tie a address x e = ap (λ k. not (nat_eq k address)) (key_is a x (ap is_eq e))

pub found_rid : (a address : ℕ) (heap : Heap) → block_at a (rid address heap) ≡ cond (not (nat_eq a address)) (block_at a heap) None
found_rid a address heap = find-where_key nat_cmp (λ other. not (nat_eq other address)) a (tie a address) heap

pub object_rid_here : (a : ℕ) (heap : Heap) → object_at a (rid a heap) ≡ None
object_rid_here a heap =
    ap (λ found. option_map (λ (block : Block). block.object) found)
    (found_rid a a heap ∙ ap (λ test. cond (not test) (block_at a heap) None) (nat_eq-same a))

pub object_rid_there : (a address : ℕ) (heap : Heap) → a ≢ address → object_at a (rid address heap) ≡ object_at a heap
object_rid_there a address heap apart =
    ap (λ found. option_map (λ (block : Block). block.object) found)
    (found_rid a address heap ∙ ap (λ test. cond (not test) (block_at a heap) None) (nat_eq-other a address apart))

-- a message with that content begins at an address
abbrev pub filled : ℕ → Content → Heap → Heap
filled address content heap = map (replaced address (Message content)) heap

-- where a message begins, it gets the content
pub content_is : (message : ℕ) (content : Content) (heap : Heap) → is_message_at message heap ≡ true
    → with_content message content heap ≡ filled message content heap
unfolding with_content
content_is message content heap is = ap (λ b. if b then filled message content heap else heap) is

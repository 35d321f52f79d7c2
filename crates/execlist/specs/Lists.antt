-- What calls on a list space speak of: headers that hold sequences of nodes, the header of each node,
-- and its key. Nodes and headers are numbers. RKM Libraries, Exec Lists and Queues.
use Rattle.std.specs.Prelude.{ℕ, ℤ, pos, suc, List, [], ◌∷◌, ◌++◌, Option, Some, None, Bool, false, ◌==◌, if◌then◌else◌, slice_index_or}
use Rattle.std.specs.Cmp.Lexicographic.{pointwise}

-- what is known of a node besides its place: its priority, and its name or none
pub record KeyData : Type 0 where
  pub pri : ℤ
  pub name : Option (List ℕ)

-- the key of a new node: priority 0, and no name
abbrev pub blank : KeyData
blank = record { pri = pos 0; name = None }

-- the sequence of header h
abbrev pub sequence : List (List ℕ) → ℕ → List ℕ
sequence all h = slice_index_or all h []

-- the header that holds node n, or none
abbrev pub home : List (Option ℕ) → ℕ → Option ℕ
home homes n = slice_index_or homes n None

-- the key of node n
abbrev pub key_at : List KeyData → ℕ → KeyData
key_at keys n = slice_index_or keys n blank

-- the priority of node n
abbrev pub pri_of : List KeyData → ℕ → ℤ
pri_of keys n = (slice_index_or keys n blank).pri

-- the name of node n, or none
abbrev pub name_of : List KeyData → ℕ → Option (List ℕ)
name_of keys n = (slice_index_or keys n blank).name

-- the nodes before node n
abbrev pub part_before : ℕ → List ℕ → List ℕ
part_before n [] = []
part_before n (x ∷ xs) = if x == n then [] else x ∷ part_before n xs

-- the nodes after node n
abbrev pub part_after : ℕ → List ℕ → List ℕ
part_after n [] = []
part_after n (x ∷ xs) = if x == n then xs else part_after n xs

-- the last node, if there is one
abbrev pub last : List ℕ → Option ℕ
last [] = None
last (x ∷ []) = Some x
last (x ∷ y ∷ xs) = last (y ∷ xs)

-- node n put after node p, or first if p is none
abbrev pub put_after : Option ℕ → ℕ → List ℕ → List ℕ
put_after None n xs = n ∷ xs
put_after (Some p) n xs = part_before p xs ++ p ∷ n ∷ part_after p xs

-- the whole sequence, or the part after a node
abbrev pub part_from : Option ℕ → List ℕ → List ℕ
part_from None xs = xs
part_from (Some n) xs = part_after n xs

-- a node and those after it, or none of them
abbrev pub ahead : Option ℕ → List ℕ → List ℕ
ahead None xs = []
ahead (Some n) xs = n ∷ part_after n xs

-- there is a name, and it is this one, byte for byte
abbrev pub name_is : Option (List ℕ) → List ℕ → Bool
name_is None b = false
name_is (Some a) b = pointwise ◌==◌ a b

-- node n has that name
abbrev pub is_named : List KeyData → List ℕ → ℕ → Bool
is_named keys name n = name_is (name_of keys n) name

-- there is a number, of a header or of an owner, and it is this one
abbrev pub is_at : Option ℕ → ℕ → Bool
is_at None h = false
is_at (Some k) h = k == h

-- how often node n is in a sequence
abbrev pub times : ℕ → List ℕ → ℕ
times n [] = 0
times n (x ∷ xs) = if x == n then suc (times n xs) else times n xs

-- The keys of the nodes of a space, of which the first are stored.
use Rattle.std.proofs.Common.{◌≡◌, ℕ, zero, suc, ◌+◌, ◌-◌, ◌<◌, ◌≤◌, List, [], ◌∷◌, ◌++◌, length, get_or, set, map, replicate, refl, sym, ap, ◌∙◌, arith, append_assoc, Option, None, Some, slice_get, length-append, length-set}
use Rattle.std.proofs.lemmas.List.{length-map, length-replicate, replicate-append-replicate, replicate_more, map-append, map-set}
use Rattle.execlist.specs.{Lists.KeyData, Lists.blank, Lists.key_at, DigestKeys.digest_key_of, DigestKeys.digest_keys_of, DigestKeys.keys_in, declared.digest.DigestKey.DigestKey}

-- a list set before its end
set-left : {A : Type 0} (xs ys : List A) (n : ℕ) (a : A) → n < length xs → set (xs ++ ys) n a ≡ set xs n a ++ ys
set-left [] ys n a lt = absurd (omega (arith, lt))
set-left (x ∷ xs) ys zero a lt = refl
set-left (x ∷ xs) ys (suc n) a lt = ap (λ rest. x ∷ rest) (set-left xs ys n a (omega (arith, lt)))

pub no-keys : (nodes : ℕ) → keys_in nodes [] ≡ replicate nodes blank
unfolding keys_in
no-keys nodes = let all : nodes - 0 ≡ nodes = omega arith in ap (λ k. replicate k blank) all

blanks : (m n : ℕ) → get_or (replicate m blank) n blank ≡ blank
blanks zero n = refl
blanks (suc m) zero = refl
blanks (suc m) (suc n) = blanks m n

-- more keys of new nodes are stored
pub filled : (nodes m : ℕ) (ks more : List DigestKey) → digest_keys_of more ≡ digest_keys_of ks ++ replicate m blank → length more ≤ nodes
    → keys_in nodes more ≡ keys_in nodes ks
unfolding keys_in
filled nodes m ks more e le =
    let long : length more ≡ length ks + m =
    sym (length-map more digest_key_of) ∙ ap length e ∙ length-append (map digest_key_of ks) (replicate m blank) ∙ sum in
    ap (λ (l : List KeyData). l ++ replicate (nodes - length more) blank) e
    ∙ append_assoc (map digest_key_of ks) (replicate m blank) (replicate (nodes - length more) blank)
    ∙ ap (λ l. map digest_key_of ks ++ l) (replicate-append-replicate m (nodes - length more) blank)
    ∙ ap (λ k. map digest_key_of ks ++ replicate k blank) (let rest : m + (nodes - length more) ≡ nodes - length ks = omega (arith, long, le) in rest)
  where
    sum : length (map digest_key_of ks) + length (replicate m blank) ≡ length ks + m
    sum = let left : length (map digest_key_of ks) ≡ length ks = length-map ks digest_key_of in
        let right = length-replicate m blank in omega (arith, left, right)

-- another key is stored of a node
pub set_stored : (nodes n : ℕ) (ks : List DigestKey) (k : DigestKey) → n < length ks
    → keys_in nodes (set ks n k) ≡ set (keys_in nodes ks) n (digest_key_of k)
unfolding keys_in
set_stored nodes n ks k lt =
    ap (λ j. map digest_key_of (set ks n k) ++ replicate (nodes - j) blank) (length-set ks n k)
    ∙ ap (λ l. l ++ replicate (nodes - length ks) blank) (map-set digest_key_of ks n k)
    ∙ sym (set-left (map digest_key_of ks) (replicate (nodes - length ks) blank) n (digest_key_of k) (omega (arith, lt, length-map ks digest_key_of)))

-- the lengths of keys that were stored
pub stored-length : (ks was : List DigestKey) (n : ℕ) → digest_keys_of ks ≡ digest_keys_of was ++ replicate n blank → length ks ≡ length was + n
stored-length ks was n e =
    let one : length (map digest_key_of ks) ≡ length ks = length-map ks digest_key_of in
    let left : length (map digest_key_of was) ≡ length was = length-map was digest_key_of in
    let right = length-replicate n blank in
    let both = length-append (map digest_key_of was) (replicate n blank) in
    let same : length (map digest_key_of ks) ≡ length (map digest_key_of was ++ replicate n blank) = ap length e in
    omega (arith, one, left, right, both, same)

-- the key of one node more is stored
pub pushed : (ks was : List DigestKey) (k : DigestKey) (n : ℕ) → digest_keys_of ks ≡ digest_keys_of was ++ replicate (n - length was) blank
    → digest_key_of k ≡ blank → length was ≤ n → digest_keys_of (ks ++ k ∷ []) ≡ digest_keys_of was ++ replicate (n + 1 - length was) blank
pushed ks was k n e new le =
    let old = map digest_key_of was in
    let one : (n - length was) + 1 ≡ n + 1 - length was = omega (arith, le) in
    map-append digest_key_of ks (k ∷ [])
    ∙ ap (λ (l : List KeyData). l ++ digest_key_of k ∷ []) e
    ∙ ap (λ (b : KeyData). (old ++ replicate (n - length was) blank) ++ b ∷ []) new
    ∙ append_assoc old (replicate (n - length was) blank) (blank ∷ [])
    ∙ ap (λ (l : List KeyData). old ++ l) (replicate_more (n - length was) blank)
    ∙ ap (λ (j : ℕ). old ++ replicate j blank) one

-- one node is given a key, once each node up to it has one
pub key_set : (nodes n : ℕ) (was ks : List DigestKey) (k : DigestKey) → digest_keys_of ks ≡ digest_keys_of was ++ replicate (n + 1 - length was) blank
    → n < nodes → length was ≤ nodes → (length ks ≤ nodes) × (keys_in nodes (set ks n k) ≡ set (keys_in nodes was) n (digest_key_of k))
key_set nodes n was ks k e lt le =
    let long = stored-length ks was (n + 1 - length was) e in
    let inside : length ks ≤ nodes = omega (arith, long, lt, le) in
    let there : n < length ks = omega (arith, long) in
    (inside, set_stored nodes n ks k there ∙ ap (λ (l : List KeyData). set l n (digest_key_of k)) (filled nodes (n + 1 - length was) was ks e inside))

-- what is stored of a node, if something is, or the key of a new node
abbrev pub key_or : Option DigestKey → KeyData
key_or None = blank
key_or (Some k) = digest_key_of k

unread : (m n : ℕ) (ks : List DigestKey) → get_or (map digest_key_of ks ++ replicate m blank) n blank ≡ key_or (slice_get ks n)
unread m n [] = blanks m n
unread m zero (k ∷ ks) = refl
unread m (suc n) (k ∷ ks) = unread m n ks

-- the key of a node that was looked up
pub key_seen : (nodes n : ℕ) (ks all : List DigestKey) (o : Option DigestKey) → o ≡ slice_get all n → all ≡ ks → key_at (keys_in nodes ks) n ≡ key_or o
unfolding keys_in
key_seen nodes n ks all o is same = unread (nodes - length ks) n ks ∙ ap (λ l. key_or (slice_get l n)) (sym same) ∙ ap key_or (sym is)

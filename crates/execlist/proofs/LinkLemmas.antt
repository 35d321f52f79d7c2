-- What the links of a block say of the sequences and of the nodes' headers.
use Rattle.std.proofs.Common.{◌≡◌, ℕ, zero, suc, ◌+◌, ◌-◌, ◌<◌, ◌≤◌, false, cond, eqb, List, [], ◌∷◌, ◌++◌, length, get_or, set, replicate, refl, sym, ap, subst, ◌∙◌, arith, Option, Some, None, inl, inr, append_assoc, ◌⊎◌, slice_set, IsSome, eq-eqb, ne_eqb, lt-ltb, le-ltb}
use Rattle.std.proofs.lemmas.{Bool.cond-true, Bool.cond-false, Bool.cases_lt, Bool.cases_eq, List.get_or_past, List.same_lists, List.set-get_or, List.length-replicate, List.FromFn.length-map-range_with_len, List.FromFn.get_or-map-range_with_len}
use Rattle.execlist.specs.Chains.{head_cell, tail_cell, Follows, Misses, Apart, AtHome, Below, IsIn, IsChain, IsLinked, lists_of, homes_of, header_of, node_at, cell_before, empty_links}
use Rattle.execlist.specs.{Order.first, Order.without_item, Lists.sequence, Lists.home, Lists.is_at, Lists.times, Lists.part_before, Lists.part_after, Lists.part_from, Lists.put_after, Lists.last, Links.Link, Links.link_at, Links.linked, Links.unlinked}
use Rattle.execlist.proofs.{PlainLemmas.home_known, PlainLemmas.map_set, PlainLemmas.times-append, PlainLemmas.times_same, PlainLemmas.without_round, Walks.upto, Walks.put_parts, Chains.last_from, Chains.prev-is, Chains.next-is, Chains.home-misses, Chains.append-assoc, Chains.linked-home, Chains.linked-home-c, Chains.unlinked-home, Chains.unlinked-home-c, Linked.first_or, Linked.rest_of, Linked.first-is, Linked.decide, Linked.linked-holds, Linked.unlinked-holds, Empty.empty-at, Read.lists-is, Read.apart-left}

-- lists of numbers
miss-times : (x : ℕ) (p : List ℕ) → Misses x p → times x p ≡ 0
miss-times x [] m = refl
miss-times x (y ∷ p) m = cond-false _ _ _ (ne_eqb y x (λ e. m.0 (sym e))) ∙ miss-times x p m.1

in-once : (x : ℕ) (p : List ℕ) → Apart p → IsIn x p → times x p ≡ 1
in-once x [] a i = absurd (i tt)
in-once x (y ∷ p) a i = decide (times x (y ∷ p) ≡ 1) y x
    (λ e. cond-true _ _ _ (eq-eqb y x e) ∙ ap suc (miss-times x p (subst (λ z. Misses z p) e a.0)))
    (λ ne. cond-false _ _ _ (ne_eqb y x ne) ∙ in-once x p a.1 (λ m. i ((λ q. ne (sym q)), m)))

parts : (c : ℕ) (p : List ℕ) → IsIn c p → part_before c p ++ c ∷ part_after c p ≡ p
parts c [] i = absurd (i tt)
parts c (x ∷ p) i = decide (part_before c (x ∷ p) ++ c ∷ part_after c (x ∷ p) ≡ x ∷ p) x c
    (λ e. let t = eq-eqb x c e in ap (λ l. l ++ c ∷ part_after c (x ∷ p)) (cond-true _ _ _ t) ∙ ap (λ l. c ∷ l) (cond-true _ _ _ t) ∙ ap (λ y. y ∷ p) (sym e))
    (λ ne. let f = ne_eqb x c ne in ap (λ l. l ++ c ∷ part_after c (x ∷ p)) (cond-false _ _ _ f) ∙ ap (λ l. x ∷ part_before c p ++ c ∷ l) (cond-false _ _ _ f) ∙ ap (λ l. x ∷ l) (parts c p (λ m. i ((λ q. ne (sym q)), m))))

below-misses : (n x : ℕ) (p : List ℕ) → Below n p → n ≤ x → Misses x p
below-misses n x [] b le = tt
below-misses n x (y ∷ p) b le = ((λ e. absurd (omega (arith, e, b.0))), below-misses n x p b.1 le)

below-left : (n : ℕ) (p q : List ℕ) → Below n (p ++ q) → Below n p
below-left n [] q b = tt
below-left n (x ∷ p) q b = (b.0, below-left n p q b.1)

below-right : (n : ℕ) (p q : List ℕ) → Below n (p ++ q) → Below n q
below-right n [] q b = b
below-right n (x ∷ p) q b = below-right n p q b.1

home-left : (ls : List Link) (m : ℕ) (p q : List ℕ) → AtHome ls m (p ++ q) → AtHome ls m p
home-left ls m [] q t = tt
home-left ls m (x ∷ p) q t = (t.0, home-left ls m p q t.1)

follows-first : (ls : List Link) (x : ℕ) (p : List ℕ) (t : ℕ) → Follows ls x (p ++ t ∷ []) → (link_at ls x).next ≡ first_or p t
unfolding first_or
follows-first ls x [] t f = f.0.0
follows-first ls x (y ∷ p) t f = f.0.0

first-in : (n m t : ℕ) (p : List ℕ) → n ≤ m → t < m → Below n p → first_or p t < m
unfolding first_or
first-in n m t [] le lt b = lt
first-in n m t (x ∷ p) le lt b = omega (arith, le, b.0)

last-in : (n m x : ℕ) (p : List ℕ) → n ≤ m → x < m → Below n p → last_from x p < m
unfolding last_from
last-in n m x [] le lt b = lt
last-in n m x (y ∷ p) le lt b = last-in n m y p le (omega (arith, le, b.0)) b.1

last-push : (x c : ℕ) (p : List ℕ) → last_from x (p ++ c ∷ []) ≡ c
unfolding last_from
last-push x c [] = refl
last-push x c (y ∷ p) = last-push y c p

none-after : (x : ℕ) → last_from x [] ≡ x
unfolding last_from
none-after x = refl

node-first : (n t : ℕ) (p : List ℕ) → Below n p → n ≤ t → node_at n (first_or p t) ≡ first p
unfolding first_or
node-first n t [] b le = cond-false _ _ _ (le-ltb t n le)
node-first n t (y ∷ p) b le = cond-true _ _ _ (lt-ltb y n b.0)

node-more : (n y : ℕ) (p : List ℕ) → y < n → Below n p → node_at n (last_from y p) ≡ last (y ∷ p)
unfolding last_from
node-more n y [] lt b = cond-true _ _ _ (lt-ltb y n lt)
node-more n y (z ∷ p) lt b = node-more n z p b.0 b.1

node-last : (n t : ℕ) (p : List ℕ) → Below n p → n ≤ t → node_at n (last_from t p) ≡ last p
unfolding last_from
node-last n t [] b le = cond-false _ _ _ (le-ltb t n le)
node-last n t (y ∷ p) b le = node-more n y p b.0 b.1

-- headers
header-some : (m h : ℕ) → header_of m ≡ Some h → m ≡ suc h
header-some zero h e = cc
header-some (suc g) h e = let same : g ≡ h = cc in ap suc same

header-none : (m : ℕ) → header_of m ≡ None → m ≡ 0
header-none zero e = refl
header-none (suc g) e = cc

header-other : (m h : ℕ) → (m ≡ suc h → ⊥) → is_at (header_of m) h ≡ false
header-other zero h ne = refl
header-other (suc g) h ne = ne_eqb g h (λ e. ne (ap suc e))

at-some : (o : Option ℕ) (h : ℕ) → 0 < cond (is_at o h) 1 0 → o ≡ Some h
at-some None h l = absurd (omega arith)
at-some (Some g) h l = decide (Some g ≡ Some h) g h (λ e. ap Some e) (λ ne. absurd (omega (arith, l, cond-false {A = ℕ} (eqb g h) 1 0 (ne_eqb g h ne))))

pub homes_length : (ls : List Link) (n : ℕ) → length (homes_of ls n) ≡ n
homes_length ls n = length-map-range_with_len (λ i. header_of (link_at ls i).home) 0 n

pub home-at : (ls : List Link) (n i : ℕ) → i < n → home (homes_of ls n) i ≡ header_of (link_at ls i).home
home-at ls n i l = get_or-map-range_with_len (λ j. header_of (link_at ls j).home) 0 n i i None l (omega arith)

pub home-past : (ls : List Link) (n i : ℕ) → n ≤ i → home (homes_of ls n) i ≡ None
home-past ls n i l = get_or_past (homes_of ls n) i None (omega (arith, homes_length ls n))

pub home-some : (ls : List Link) (n i h : ℕ) → home (homes_of ls n) i ≡ Some h → (i < n) × ((link_at ls i).home ≡ suc h)
home-some ls n i h e =
    let small : i < n = omega (arith, home_known (homes_of ls n) i h e, homes_length ls n) in
    (small, header-some (link_at ls i).home h (sym (home-at ls n i small) ∙ e))

-- a node that is in a list is the node of its number
pub node-known : (ls : List Link) (n i h : ℕ) → home (homes_of ls n) i ≡ Some h → node_at n i ≡ Some i
node-known ls n i h e = let small = (home-some ls n i h e).0 in cond-true _ _ _ (lt-ltb i n small)

-- no node has the number of all of them
pub node-none : (n : ℕ) → node_at n n ≡ None
node-none n = cond-false _ _ _ (le-ltb n n (omega arith))

pub home-none : (ls : List Link) (n i : ℕ) → i < n → home (homes_of ls n) i ≡ None → (link_at ls i).home ≡ 0
home-none ls n i small e = header-none (link_at ls i).home (sym (home-at ls n i small) ∙ e)

pub home-read : (ls : List Link) (n i m : ℕ) → i < n → m ≡ (link_at ls i).home → header_of m ≡ home (homes_of ls n) i
home-read ls n i m small e = ap header_of e ∙ sym (home-at ls n i small)

module _ (n k : ℕ) (ls : List Link) (L : IsLinked n k ls (lists_of ls n k)) where
  abbrev seqs : List (List ℕ)
  seqs = lists_of ls n k

  abbrev homes : List (Option ℕ)
  homes = homes_of ls n

  pub known-header : (h : ℕ) → h < length seqs → h < k
  known-header h l = omega (arith, L.lists)

  not-home : (c h : ℕ) → h < k → ((link_at ls c).home ≡ suc h → ⊥) → Misses c (sequence seqs h)
  not-home c h lt ne = home-misses ls c (suc h) (sequence seqs h) ne (home-left ls (suc h) (sequence seqs h) (tail_cell n h ∷ []) (L.chains h lt).at_home.1)

  seq-apart : (h : ℕ) → h < k → Apart (sequence seqs h)
  seq-apart h lt = apart-left (sequence seqs h) (tail_cell n h ∷ []) (L.chains h lt).apart.1

  -- a node is once in the sequence of its header
  pub stands-linked : (h x : ℕ) → times x (sequence seqs h) ≡ cond (is_at (home homes x) h) 1 0
  stands-linked h x = by_header (cases_lt h k) (cases_lt x n) where
    inside : h < k → x < n → times x (sequence seqs h) ≡ cond (is_at (home homes x) h) 1 0
    inside lt small = decide (times x (sequence seqs h) ≡ cond (is_at (home homes x) h) 1 0) (link_at ls x).home (suc h)
        (λ e. in-once x (sequence seqs h) (seq-apart h lt) (L.homes x h small e).1 ∙ sym (ap (λ o. cond (is_at o h) 1 0) (home-at ls n x small ∙ ap header_of e) ∙ cond-true _ _ _ (eq-eqb h h refl)))
        (λ ne. miss-times x (sequence seqs h) (not-home x h lt ne) ∙ sym (ap (λ o. cond (is_at o h) 1 0) (home-at ls n x small) ∙ cond-false _ _ _ (header-other (link_at ls x).home h ne)))

    by_header : (h < k) ⊎ (k ≤ h) → (x < n) ⊎ (n ≤ x) → times x (sequence seqs h) ≡ cond (is_at (home homes x) h) 1 0
    by_header (inl lt) (inl small) = inside lt small
    by_header (inl lt) (inr big) = miss-times x (sequence seqs h) (below-misses n x (sequence seqs h) (L.chains h lt).below big) ∙ sym (ap (λ o. cond (is_at o h) 1 0) (home-past ls n x big))
    by_header (inr le) (inl small) =
        ap (times x) (get_or_past seqs h [] (omega (arith, L.lists))) ∙ sym (ap (λ o. cond (is_at o h) 1 0) (home-at ls n x small) ∙ cond-false _ _ _ (header-other (link_at ls x).home h (λ e. absurd (omega (arith, le, (L.homes x h small e).0)))))
    by_header (inr le) (inr big) = ap (times x) (get_or_past seqs h [] (omega (arith, L.lists))) ∙ sym (ap (λ o. cond (is_at o h) 1 0) (home-past ls n x big))

  -- a node of the sequence has that header
  pub member-home : (h x : ℕ) → 0 < times x (sequence seqs h) → home homes x ≡ Some h
  member-home h x l = at-some (home homes x) h (subst (λ t. 0 < t) (stands-linked h x) l)

  -- from the ends of a list
  module _ (h : ℕ) (lt : h < k) where
    C : IsChain ls n h (sequence seqs h)
    C = L.chains h lt

    pub head-in : head_cell n h < length ls
    head-in = omega (arith, lt, L.cells)

    pub tail-in : tail_cell n h < length ls
    tail-in = omega (arith, lt, L.cells)

    pub head-next : (link_at ls (head_cell n h)).next ≡ first_or (sequence seqs h) (tail_cell n h)
    head-next = follows-first ls (head_cell n h) (sequence seqs h) (tail_cell n h) C.follows

    pub head-next-in : (link_at ls (head_cell n h)).next < length ls
    head-next-in = subst (λ x. x < length ls) (sym head-next) (first-in n (length ls) (tail_cell n h) (sequence seqs h) (omega (arith, L.cells)) tail-in C.below)

    tail-prev : (link_at ls (tail_cell n h)).prev ≡ last_from (head_cell n h) (sequence seqs h)
    tail-prev = prev-is ls (head_cell n h) (sequence seqs h) (tail_cell n h) [] C.follows

    pub tail-prev-in : (link_at ls (tail_cell n h)).prev < length ls
    tail-prev-in = subst (λ x. x < length ls) (sym tail-prev) (last-in n (length ls) (head_cell n h) (sequence seqs h) (omega (arith, L.cells)) head-in C.below)

    pub first-read : node_at n (link_at ls (head_cell n h)).next ≡ first (sequence seqs h)
    first-read = ap (node_at n) head-next ∙ node-first n (tail_cell n h) (sequence seqs h) C.below (omega arith)

    pub last-read : node_at n (link_at ls (tail_cell n h)).prev ≡ last (sequence seqs h)
    last-read = ap (node_at n) tail-prev ∙ node-last n (head_cell n h) (sequence seqs h) C.below (omega arith)

  -- from a node of a list
  module _ (c h : ℕ) (own : home homes c ≡ Some h) where
    abbrev hd : ℕ
    hd = head_cell n h

    abbrev tl : ℕ
    tl = tail_cell n h

    abbrev xs : List ℕ
    xs = part_before c (sequence seqs h)

    abbrev ys : List ℕ
    ys = part_after c (sequence seqs h)

    pub node-small : c < n
    node-small = (home-some ls n c h own).0

    is-in : (h < k) × IsIn c (sequence seqs h)
    is-in = L.homes c h node-small (home-some ls n c h own).1

    round : xs ++ c ∷ ys ≡ sequence seqs h
    round = parts c (sequence seqs h) is-in.1

    chain : IsChain ls n h (xs ++ c ∷ ys)
    chain = subst (IsChain ls n h) (sym round) (L.chains h is-in.0)

    follows : Follows ls hd (xs ++ c ∷ first_or ys tl ∷ rest_of ys tl)
    follows = subst (Follows ls hd) (append-assoc xs (c ∷ ys) (tl ∷ []) ∙ ap (λ l. xs ++ c ∷ l) (first-is ys tl)) chain.follows

    node-next : (link_at ls c).next ≡ first_or ys tl
    node-next = next-is ls hd xs c (first_or ys tl) (rest_of ys tl) follows

    node-prev : (link_at ls c).prev ≡ last_from hd xs
    node-prev = prev-is ls hd xs c (first_or ys tl ∷ rest_of ys tl) follows

    ys-below : Below n ys
    ys-below = (below-right n xs (c ∷ ys) chain.below).1

    xs-below : Below n xs
    xs-below = below-left n xs (c ∷ ys) chain.below

    ahead-in : first_or ys tl < length ls
    ahead-in = first-in n (length ls) tl ys (omega (arith, L.cells)) (tail-in h is-in.0) ys-below

    behind-in : last_from hd xs < length ls
    behind-in = last-in n (length ls) hd xs (omega (arith, L.cells)) (head-in h is-in.0) xs-below

    pub node-in : c < length ls
    node-in = omega (arith, node-small, L.cells)

    pub node-next-in : (link_at ls c).next < length ls
    node-next-in = subst (λ x. x < length ls) (sym node-next) ahead-in

    pub node-prev-in : (link_at ls c).prev < length ls
    node-prev-in = subst (λ x. x < length ls) (sym node-prev) behind-in

    pub succ-read : node_at n (link_at ls c).next ≡ first ys
    succ-read = ap (node_at n) node-next ∙ node-first n tl ys ys-below (omega arith)

    pub pred-read : node_at n (link_at ls c).prev ≡ last xs
    pred-read = ap (node_at n) node-prev ∙ node-last n hd xs xs-below (omega arith)

    -- the node is taken out
    out-linked : IsLinked n k (unlinked c ls) (set seqs h (xs ++ ys))
    out-linked = unlinked-holds n k ls seqs L h is-in.0 xs ys c (sym round) ahead-in behind-in

    left-out : xs ++ ys ≡ without_item c (sequence seqs h)
    left-out =
        let once = in-once c (sequence seqs h) (seq-apart h is-in.0) is-in.1 in let t = times-append c xs (c ∷ ys) in let s = times_same c ys in let e = ap (times c) round in
        sym (ap (without_item c) (sym round) ∙ without_round c xs ys (omega arith) (omega arith))

    pub out-lists : lists_of (unlinked c ls) n k ≡ slice_set seqs h (without_item c (sequence seqs h))
    out-lists = lists-is n k (unlinked c ls) (set seqs h (xs ++ ys)) out-linked ∙ ap (set seqs h) left-out

    pub out-holds : IsLinked n k (unlinked c ls) (lists_of (unlinked c ls) n k)
    out-holds = subst (IsLinked n k (unlinked c ls)) (sym (lists-is n k (unlinked c ls) (set seqs h (xs ++ ys)) out-linked)) out-linked

    pub out-homes : homes_of (unlinked c ls) n ≡ slice_set homes c None
    out-homes = map_set (λ i. header_of (link_at ls i).home) (λ i. header_of (link_at (unlinked c ls) i).home) n c None node-small
        (ap header_of (unlinked-home-c c ls node-in)) (λ x ne. ap header_of (unlinked-home c ls x ne))

  -- a node is put in after another, or first
  module _ (h c : ℕ) (lt : h < k) (small : c < n) (unlinked' : home homes c ≡ None) (pred : Option ℕ) (pred-at : (p : ℕ) → pred ≡ Some p → home homes p ≡ Some h) where
    abbrev before : List ℕ
    before = upto pred (sequence seqs h)

    abbrev after : List ℕ
    after = part_from pred (sequence seqs h)

    both : (o : Option ℕ) → ((p : ℕ) → o ≡ Some p → home homes p ≡ Some h) → sequence seqs h ≡ upto o (sequence seqs h) ++ part_from o (sequence seqs h)
    both None at = refl
    both (Some p) at = sym (append_assoc (part_before p (sequence seqs h)) (p ∷ []) (part_after p (sequence seqs h)) ∙ round p h (at p refl))

    last-before : (o : Option ℕ) → last_from (head_cell n h) (upto o (sequence seqs h)) ≡ cell_before n h o
    last-before None = none-after (head_cell n h)
    last-before (Some p) = last-push (head_cell n h) p (part_before p (sequence seqs h))

    pub pred-in : (o : Option ℕ) → ((p : ℕ) → o ≡ Some p → home homes p ≡ Some h) → cell_before n h o < length ls
    pred-in None at = head-in h lt
    pred-in (Some p) at = node-in p h (at p refl)

    next-after : (o : Option ℕ) → ((p : ℕ) → o ≡ Some p → home homes p ≡ Some h) → (link_at ls (cell_before n h o)).next ≡ first_or (part_from o (sequence seqs h)) (tail_cell n h)
    next-after None at = head-next h lt
    next-after (Some p) at = node-next p h (at p refl)

    pub pred-next-in : (o : Option ℕ) → ((p : ℕ) → o ≡ Some p → home homes p ≡ Some h) → (link_at ls (cell_before n h o)).next < length ls
    pred-next-in None at = head-next-in h lt
    pred-next-in (Some p) at = node-next-in p h (at p refl)

    abbrev made : List Link
    made = linked (cell_before n h pred) c (link_at ls (cell_before n h pred)).next (suc h) ls

    put-linked : IsLinked n k made (set seqs h (before ++ c ∷ after))
    put-linked =
        let e = last-before pred in let f = sym (next-after pred pred-at) in
        subst (λ a. IsLinked n k (linked a c (link_at ls (cell_before n h pred)).next (suc h) ls) (set seqs h (before ++ c ∷ after))) e
        (subst (λ b. IsLinked n k (linked (last_from (head_cell n h) before) c b (suc h) ls) (set seqs h (before ++ c ∷ after))) f
        (linked-holds n k ls seqs L h lt before after c (both pred pred-at) small (home-none ls n c small unlinked')
        (subst (λ a. a < length ls) (sym e) (pred-in pred pred-at)) (subst (λ b. b < length ls) (sym f) (pred-next-in pred pred-at))))

    pub put-lists : lists_of made n k ≡ slice_set seqs h (put_after pred c (sequence seqs h))
    put-lists = lists-is n k made (set seqs h (before ++ c ∷ after)) put-linked ∙ ap (set seqs h) (sym (put_parts pred c (sequence seqs h)))

    pub put-holds : IsLinked n k made (lists_of made n k)
    put-holds = subst (IsLinked n k made) (sym (lists-is n k made (set seqs h (before ++ c ∷ after)) put-linked)) put-linked

    pub put-homes : homes_of made n ≡ slice_set homes c (Some h)
    put-homes =
        let a = cell_before n h pred in let b = (link_at ls (cell_before n h pred)).next in
        map_set (λ i. header_of (link_at ls i).home) (λ i. header_of (link_at made i).home) n c (Some h) small
        (ap header_of (linked-home-c a c b (suc h) ls (omega (arith, small, L.cells)))) (λ x ne. ap header_of (linked-home a c b (suc h) ls x ne))

  -- the same of a block that was linked so
  module _ (h c : ℕ) (header : h < length seqs) (node : c < length homes) (free : home homes c ≡ None) (pred : Option ℕ) (pred-at : (p : ℕ) → pred ≡ Some p → home homes p ≡ Some h)
      (new : List Link) (a b : ℕ) (ea : a ≡ cell_before n h pred) (eb : b ≡ (link_at ls a).next) (en : new ≡ linked a c b (h + 1) ls) where
    lt : h < k
    lt = known-header h header

    small : c < n
    small = omega (arith, node, homes_length ls n)

    is : new ≡ made h c lt small free pred pred-at
    is =
        let up : h + 1 ≡ suc h = omega arith in let e = eb ∙ ap (λ t. (link_at ls t).next) ea in
        en ∙ (λ j. linked (ea j) c (e j) (up j) ls)

    pub new-lists : lists_of new n k ≡ slice_set seqs h (put_after pred c (sequence seqs h))
    new-lists = ap (λ m. lists_of m n k) is ∙ put-lists h c lt small free pred pred-at

    pub new-holds : IsLinked n k new (lists_of new n k)
    new-holds = subst (λ m. IsLinked n k m (lists_of m n k)) (sym is) (put-holds h c lt small free pred pred-at)

    pub new-homes : homes_of new n ≡ slice_set homes c (Some h)
    new-homes = ap (λ m. homes_of m n) is ∙ put-homes h c lt small free pred pred-at

pub first-times : (x : ℕ) (p : List ℕ) → first p ≡ Some x → 0 < times x p
first-times x [] e = cc
first-times x (y ∷ p) e =
    let here : y ≡ x = cc in
    omega (arith, cond-true (eqb y x) (suc (times x p)) (times x p) (eq-eqb y x here))

pub is-some : (o : Option ℕ) → IsSome o → (h : ℕ) × (o ≡ Some h)
is-some None i = cc
is-some (Some h) i = (h, refl)

pub header-less : (m : ℕ) → (m ≡ 0 → ⊥) → Some (m - 1) ≡ header_of m
header-less zero ne = absurd (ne refl)
header-less (suc h) ne = let e : suc h - 1 ≡ h = omega arith in ap Some e

none-at : (n i : ℕ) (d : Option ℕ) → i < n → get_or (replicate {A = Option ℕ} n None) i d ≡ None
none-at zero i d l = absurd (omega (arith, l))
none-at (suc n) zero d l = refl
none-at (suc n) (suc i) d l = none-at n i d (omega (arith, l))

pub empty-homes : (n k : ℕ) → homes_of (empty_links n k) n ≡ replicate n None
empty-homes n k = same_lists _ _ (homes_length (empty_links n k) n ∙ sym (length-replicate n None)) (λ i d l.
    let small : i < n = omega (arith, l, homes_length (empty_links n k) n) in
    get_or-map-range_with_len (λ j. header_of (link_at (empty_links n k) j).home) 0 n i i d small (omega arith) ∙ ap (λ (m : Link). header_of m.home) (empty-at n k i small) ∙ sym (none-at n i d small))

-- ---- nodes that are in no list, and a space of which no node is in one

-- the nodes below a number are in no list
abbrev pub AreFresh : ℕ → List Link → Type 0
AreFresh low ls = (n : ℕ) → n < low → (link_at ls n).home ≡ 0

-- another node is put in a list
pub linked-fresh : (low new a c b h : ℕ) (ls : List Link) → new ≤ low → new ≤ c → AreFresh low ls → AreFresh new (linked a c b h ls)
linked-fresh low new a c b h ls less before fresh n lt =
    linked-home a c b h ls n (λ e. omega (arith, lt, before, e)) ∙ fresh n (omega (arith, lt, less))

-- a node is taken out of its list
pub unlinked-fresh : (low c : ℕ) (ls : List Link) → c < length ls → AreFresh low ls → AreFresh low (unlinked c ls)
unlinked-fresh low c ls inside fresh n lt = by_case (cases_eq n c) where
  by_case : (n ≡ c) ⊎ (n ≡ c → ⊥) → (link_at (unlinked c ls) n).home ≡ 0
  by_case (inl e) = subst (λ m. (link_at (unlinked c ls) m).home ≡ 0) (sym e) (unlinked-home-c c ls inside)
  by_case (inr ne) = unlinked-home c ls n ne ∙ fresh n lt

-- a node that was in no list stays in none
pub same-homes : (n c : ℕ) (ls : List Link) → c < n → (link_at ls c).home ≡ 0 → homes_of ls n ≡ slice_set (homes_of ls n) c None
same-homes n c ls lt none =
    sym (set-get_or (homes_of ls n) c None) ∙ ap (slice_set (homes_of ls n) c) (home-at ls n c lt ∙ ap header_of none)

-- no node is in a list
pub none-there : (xs : List ℕ) → ((x : ℕ) → times x xs ≡ 0) → xs ≡ []
none-there [] none = refl
none-there (y ∷ ys) none = let once : times y (y ∷ ys) ≡ suc (times y ys) = cond-true _ _ _ (eq-eqb y y refl) in absurd (omega (arith, once, none y))

pub no-members : (seqs : List (List ℕ)) → ((h x : ℕ) → times x (sequence seqs h) ≡ 0) → seqs ≡ replicate (length seqs) []
no-members [] none = refl
no-members (xs ∷ rest) none =
    ap (λ (ys : List ℕ). ys ∷ rest) (none-there xs (λ x. none zero x)) ∙ ap (λ (l : List (List ℕ)). [] ∷ l) (no-members rest (λ h x. none (suc h) x))

pub no-homes : (homes : List (Option ℕ)) → ((m : ℕ) → m < length homes → home homes m ≡ None) → homes ≡ replicate (length homes) None
no-homes [] none = refl
no-homes (x ∷ rest) none =
    ap (λ (y : Option ℕ). y ∷ rest) (none zero (omega arith)) ∙ ap (λ (l : List (Option ℕ)). None ∷ l) (no-homes rest (λ m lt. none (suc m) (omega (arith, lt))))

module _ (n k : ℕ) (ls : List Link) (L : IsLinked n k ls (lists_of ls n k)) (out : (m : ℕ) → m < n → home (homes_of ls n) m ≡ None) where
  pub all-out : (m : ℕ) → home (homes_of ls n) m ≡ None
  all-out m = by_case (cases_lt m n) where
    by_case : (m < n) ⊎ (n ≤ m) → home (homes_of ls n) m ≡ None
    by_case (inl lt) = out m lt
    by_case (inr past) = home-past ls n m past

  pub all-empty : lists_of ls n k ≡ replicate k []
  all-empty =
      no-members (lists_of ls n k) (λ h x. stands-linked n k ls L h x ∙ cond-false _ _ _ (ap (λ o. is_at o h) (all-out x)))
      ∙ ap (λ j. replicate j []) L.lists

  pub all-unlinked : homes_of ls n ≡ replicate n None
  all-unlinked =
      no-homes (homes_of ls n) (λ m lt. all-out m)
      ∙ ap (λ j. replicate j None) (homes_length ls n)

  pub all-fresh : AreFresh n ls
  all-fresh m lt = home-none ls n m lt (out m lt)

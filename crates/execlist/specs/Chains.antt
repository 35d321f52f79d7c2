-- The lists that the links of a block make. Of n nodes and k headers, node i is cell i, and header h has
-- the cells n + 2 h and n + 2 h + 1 at its ends.
use Rattle.std.specs.Prelude.{◌≡◌, ℕ, zero, suc, ◌+◌, ◌*◌, ◌<◌, List, [], ◌∷◌, ◌++◌, length, get_or, cond, map, Option, Some, None}
use Rattle.std.specs.{List.range_with_len, Coded.×_prop, Coded.Unit-prop, Coded.le_prop, Coded.Coded-set, Coded.coded_ℕ}
use lib.Dec.{ltb}
use Rattle.execlist.specs.Links.{Link, link, link_at}

-- the cell before the first node of header h
abbrev pub head_cell : ℕ → ℕ → ℕ
head_cell n h = n + h * 2

-- the cell after the last node of header h
abbrev pub tail_cell : ℕ → ℕ → ℕ
tail_cell n h = n + h * 2 + 1

-- y comes right after x
abbrev pub Edge : List Link → ℕ → ℕ → Type 0
Edge ls x y = ((link_at ls x).next ≡ y) × ((link_at ls y).prev ≡ x)

-- the cells p follow x, in their order
abbrev pub Follows : List Link → ℕ → List ℕ → Type 0
Follows ls x [] = Unit {0}
Follows ls x (y ∷ p) = Edge ls x y × Follows ls y p

-- x is not among p
abbrev pub Misses : ℕ → List ℕ → Type 0
Misses x [] = Unit {0}
Misses x (y ∷ p) = (x ≡ y → ⊥) × Misses x p

-- no two are equal
abbrev pub Apart : List ℕ → Type 0
Apart [] = Unit {0}
Apart (x ∷ p) = Misses x p × Apart p

-- the home of each is m
abbrev pub AtHome : List Link → ℕ → List ℕ → Type 0
AtHome ls m [] = Unit {0}
AtHome ls m (x ∷ p) = ((link_at ls x).home ≡ m) × AtHome ls m p

-- each is below n
abbrev pub Below : ℕ → List ℕ → Type 0
Below n [] = Unit {0}
Below n (x ∷ p) = (x < n) × Below n p

-- x is among p
abbrev pub IsIn : ℕ → List ℕ → Type 0
IsIn x p = Misses x p → ⊥

-- the list of header h is p
pub record IsChain (ls : List Link) (n : ℕ) (h : ℕ) (p : List ℕ) : Type 0 where
  pub follows : Follows ls (head_cell n h) (p ++ tail_cell n h ∷ [])
  pub apart : Apart (head_cell n h ∷ p ++ tail_cell n h ∷ [])
  pub at_home : AtHome ls (suc h) (head_cell n h ∷ p ++ tail_cell n h ∷ [])
  pub below : Below n p

-- the lists of k headers over n nodes are seqs, and a node that has a header is in that header's list
pub record IsLinked (n : ℕ) (k : ℕ) (ls : List Link) (seqs : List (List ℕ)) : Type 0 where
  pub cells : length ls ≡ n + k * 2
  pub lists : length seqs ≡ k
  pub chains : (h : ℕ) → h < k → IsChain ls n h (get_or seqs h [])
  pub homes : (x h : ℕ) → x < n → (link_at ls x).home ≡ suc h → (h < k) × IsIn x (get_or seqs h [])

-- the nodes from cell x on, at most f
abbrev pub nodes_from : List Link → ℕ → ℕ → ℕ → List ℕ
nodes_from ls n zero x = []
nodes_from ls n (suc f) x = cond (ltb x n) (x ∷ nodes_from ls n f (link_at ls x).next) []

-- the lists of m headers from header h on
abbrev pub lists_from : List Link → ℕ → ℕ → ℕ → List (List ℕ)
lists_from ls n h zero = []
lists_from ls n h (suc m) = nodes_from ls n n (link_at ls (head_cell n h)).next ∷ lists_from ls n (suc h) m

-- the lists of k headers
unfoldable pub lists_of : List Link → ℕ → ℕ → List (List ℕ)
lists_of ls n k = lists_from ls n 0 k

-- n nodes that are in no list
unfoldable pub free_links : ℕ → List Link
free_links zero = []
free_links (suc m) = free_links m ++ link m m 0 ∷ []

-- and the ends of k lists
unfoldable pub empty_links : ℕ → ℕ → List Link
empty_links n zero = free_links n
empty_links n (suc h) =
    (empty_links n h ++ link (tail_cell n h) (head_cell n h) (suc h) ∷ []) ++ link (tail_cell n h) (head_cell n h) (suc h) ∷ []

-- the header that a cell's number reports, or none
abbrev pub header_of : ℕ → Option ℕ
header_of zero = None
header_of (suc h) = Some h

-- the header of each of n nodes
abbrev pub homes_of : List Link → ℕ → List (Option ℕ)
homes_of ls n = map (λ i. header_of (link_at ls i).home) (range_with_len 0 n)

-- the node that a cell is, or none
abbrev pub node_at : ℕ → ℕ → Option ℕ
node_at n x = cond (ltb x n) (Some x) None

-- the cell after which a node goes
abbrev pub cell_before : ℕ → ℕ → Option ℕ → ℕ
cell_before n h None = head_cell n h
cell_before n h (Some p) = p

-- each of these facts has at most one proof
pub Follows-prop : (ls : List Link) (x : ℕ) (p : List ℕ) → IsProp (Follows ls x p)
Follows-prop ls x [] = Unit-prop
Follows-prop ls x (y ∷ p) = ×_prop (×_prop (Coded-set coded_ℕ _ _) (Coded-set coded_ℕ _ _)) (Follows-prop ls y p)

pub Misses-prop : (x : ℕ) (p : List ℕ) → IsProp (Misses x p)
Misses-prop x [] = Unit-prop
Misses-prop x (y ∷ p) = ×_prop (λ a b. absurd-prop a b) (Misses-prop x p) where
  absurd-prop : {A : Type 0} (a b : A → ⊥) → a ≡ b
  absurd-prop a b = λ i y. absurd {A = a y ≡ b y} (a y) i

pub Apart-prop : (p : List ℕ) → IsProp (Apart p)
Apart-prop [] = Unit-prop
Apart-prop (x ∷ p) = ×_prop (Misses-prop x p) (Apart-prop p)

pub AtHome-prop : (ls : List Link) (m : ℕ) (p : List ℕ) → IsProp (AtHome ls m p)
AtHome-prop ls m [] = Unit-prop
AtHome-prop ls m (x ∷ p) = ×_prop (Coded-set coded_ℕ _ _) (AtHome-prop ls m p)

pub Below-prop : (n : ℕ) (p : List ℕ) → IsProp (Below n p)
Below-prop n [] = Unit-prop
Below-prop n (x ∷ p) = ×_prop le_prop (Below-prop n p)

pub IsChain-prop : (ls : List Link) (n h : ℕ) (p : List ℕ) → IsProp (IsChain ls n h p)
IsChain-prop ls n h p = λ a b i. record {
  follows = Follows-prop ls (head_cell n h) (p ++ tail_cell n h ∷ []) a.follows b.follows i;
  apart = Apart-prop (head_cell n h ∷ p ++ tail_cell n h ∷ []) a.apart b.apart i;
  at_home = AtHome-prop ls (suc h) (head_cell n h ∷ p ++ tail_cell n h ∷ []) a.at_home b.at_home i;
  below = Below-prop n p a.below b.below i;
}

pub IsLinked-prop : (n k : ℕ) (ls : List Link) (seqs : List (List ℕ)) → IsProp (IsLinked n k ls seqs)
IsLinked-prop n k ls seqs = λ a b i. record {
  cells = Coded-set coded_ℕ _ _ a.cells b.cells i;
  lists = Coded-set coded_ℕ _ _ a.lists b.lists i;
  chains = λ h l. IsChain-prop ls n h (get_or seqs h []) (a.chains h l) (b.chains h l) i;
  homes = λ x h l e. ×_prop le_prop (in-prop x (get_or seqs h [])) (a.homes x h l e) (b.homes x h l e) i;
} where
  in-prop : (x : ℕ) (p : List ℕ) → IsProp (IsIn x p)
  in-prop x p = λ f g i m. absurd {A = f m ≡ g m} (f m) i

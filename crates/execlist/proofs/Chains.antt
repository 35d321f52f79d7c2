-- A node that is put into a list, or taken out of it.
use Rattle.std.proofs.Common.{◌≡◌, ℕ, zero, suc, ◌<◌, List, [], ◌∷◌, ◌++◌, length, set, refl, sym, ap, subst, ◌∙◌, arith, length-set, get_or-set_same, get_or-set_other}
use Rattle.execlist.specs.{Links.Link, Links.no_link, Links.link_at, Links.set_next, Links.set_prev, Links.set_home, Links.linked, Links.unlinked, Chains.Follows, Chains.Misses, Chains.Apart, Chains.AtHome, Chains.Below}

-- what a write leaves as it was
kept_by : {X : Type 0} (f : Link → X) (ls : List Link) (i : ℕ) (l : Link) (k : ℕ) → f l ≡ f (link_at ls i) → f (link_at (set ls i l) k) ≡ f (link_at ls k)
kept_by f [] i l k e = refl
kept_by f (m ∷ ls) zero l zero e = e
kept_by f (m ∷ ls) zero l (suc k) e = refl
kept_by f (m ∷ ls) (suc i) l zero e = refl
kept_by f (m ∷ ls) (suc i) l (suc k) e = kept_by f ls i l k e

module _ (ls : List Link) (i j : ℕ) where
  pub next-set_next : i < length ls → (link_at (set_next i j ls) i).next ≡ j
  next-set_next p = ap (λ (l : Link). l.next) (get_or-set_same ls i (record (link_at ls i) { next = j }) no_link p)

  pub next-other : (k : ℕ) → (k ≡ i → ⊥) → (link_at (set_next i j ls) k).next ≡ (link_at ls k).next
  next-other k ne = ap (λ (l : Link). l.next) (get_or-set_other ls i k (record (link_at ls i) { next = j }) no_link ne)

  pub prev-set_prev : i < length ls → (link_at (set_prev i j ls) i).prev ≡ j
  prev-set_prev p = ap (λ (l : Link). l.prev) (get_or-set_same ls i (record (link_at ls i) { prev = j }) no_link p)

  pub prev-other : (k : ℕ) → (k ≡ i → ⊥) → (link_at (set_prev i j ls) k).prev ≡ (link_at ls k).prev
  prev-other k ne = ap (λ (l : Link). l.prev) (get_or-set_other ls i k (record (link_at ls i) { prev = j }) no_link ne)

  pub home-set_home : i < length ls → (link_at (set_home i j ls) i).home ≡ j
  home-set_home p = ap (λ (l : Link). l.home) (get_or-set_same ls i (record (link_at ls i) { home = j }) no_link p)

  pub home-other : (k : ℕ) → (k ≡ i → ⊥) → (link_at (set_home i j ls) k).home ≡ (link_at ls k).home
  home-other k ne = ap (λ (l : Link). l.home) (get_or-set_other ls i k (record (link_at ls i) { home = j }) no_link ne)

  pub next-set_prev : (k : ℕ) → (link_at (set_prev i j ls) k).next ≡ (link_at ls k).next
  next-set_prev k = kept_by (λ l. l.next) ls i (record (link_at ls i) { prev = j }) k refl

  pub next-set_home : (k : ℕ) → (link_at (set_home i j ls) k).next ≡ (link_at ls k).next
  next-set_home k = kept_by (λ l. l.next) ls i (record (link_at ls i) { home = j }) k refl

  pub prev-set_next : (k : ℕ) → (link_at (set_next i j ls) k).prev ≡ (link_at ls k).prev
  prev-set_next k = kept_by (λ l. l.prev) ls i (record (link_at ls i) { next = j }) k refl

  pub prev-set_home : (k : ℕ) → (link_at (set_home i j ls) k).prev ≡ (link_at ls k).prev
  prev-set_home k = kept_by (λ l. l.prev) ls i (record (link_at ls i) { home = j }) k refl

  pub home-set_next : (k : ℕ) → (link_at (set_next i j ls) k).home ≡ (link_at ls k).home
  home-set_next k = kept_by (λ l. l.home) ls i (record (link_at ls i) { next = j }) k refl

  pub home-set_prev : (k : ℕ) → (link_at (set_prev i j ls) k).home ≡ (link_at ls k).home
  home-set_prev k = kept_by (λ l. l.home) ls i (record (link_at ls i) { prev = j }) k refl

-- c is put between a and b
module _ (a c b h : ℕ) (ls : List Link) where
  abbrev k1 : List Link
  k1 = set_next c b ls

  abbrev k2 : List Link
  k2 = set_prev c a k1

  abbrev k3 : List Link
  k3 = set_home c h k2

  abbrev k4 : List Link
  k4 = set_next a c k3

  long : (n : ℕ) → n < length ls → (n < length k1) × (n < length k2) × (n < length k3) × (n < length k4)
  long n p =
      let e1 = length-set ls c (record (link_at ls c) { next = b }) in let e2 = length-set k1 c (record (link_at k1 c) { prev = a }) in
      let e3 = length-set k2 c (record (link_at k2 c) { home = h }) in let e4 = length-set k3 a (record (link_at k3 a) { next = c }) in
      (omega (arith, p, e1), omega (arith, p, e1, e2), omega (arith, p, e1, e2, e3), omega (arith, p, e1, e2, e3, e4))

  pub linked-next-a : a < length ls → (link_at (linked a c b h ls) a).next ≡ c
  linked-next-a p = next-set_prev k4 b c a ∙ next-set_next k3 a c (long a p).2

  pub linked-next-c : (c ≡ a → ⊥) → c < length ls → (link_at (linked a c b h ls) c).next ≡ b
  linked-next-c ne p = next-set_prev k4 b c c ∙ next-other k3 a c c ne ∙ next-set_home k2 c h c ∙ next-set_prev k1 c a c ∙ next-set_next ls c b p

  pub linked-next : (x : ℕ) → (x ≡ a → ⊥) → (x ≡ c → ⊥) → (link_at (linked a c b h ls) x).next ≡ (link_at ls x).next
  linked-next x na nc = next-set_prev k4 b c x ∙ next-other k3 a c x na ∙ next-set_home k2 c h x ∙ next-set_prev k1 c a x ∙ next-other ls c b x nc

  pub linked-prev-b : b < length ls → (link_at (linked a c b h ls) b).prev ≡ c
  linked-prev-b p = prev-set_prev k4 b c (long b p).3

  pub linked-prev-c : (c ≡ b → ⊥) → c < length ls → (link_at (linked a c b h ls) c).prev ≡ a
  linked-prev-c ne p = prev-other k4 b c c ne ∙ prev-set_next k3 a c c ∙ prev-set_home k2 c h c ∙ prev-set_prev k1 c a (long c p).0

  pub linked-prev : (x : ℕ) → (x ≡ b → ⊥) → (x ≡ c → ⊥) → (link_at (linked a c b h ls) x).prev ≡ (link_at ls x).prev
  linked-prev x nb nc = prev-other k4 b c x nb ∙ prev-set_next k3 a c x ∙ prev-set_home k2 c h x ∙ prev-other k1 c a x nc ∙ prev-set_next ls c b x

  pub linked-home-c : c < length ls → (link_at (linked a c b h ls) c).home ≡ h
  linked-home-c p = home-set_prev k4 b c c ∙ home-set_next k3 a c c ∙ home-set_home k2 c h (long c p).1

  pub linked-home : (x : ℕ) → (x ≡ c → ⊥) → (link_at (linked a c b h ls) x).home ≡ (link_at ls x).home
  linked-home x nc = home-set_prev k4 b c x ∙ home-set_next k3 a c x ∙ home-other k2 c h x nc ∙ home-set_prev k1 c a x ∙ home-set_next ls c b x

-- c is taken from between a and b
module _ (c : ℕ) (ls : List Link) where
  abbrev n : ℕ
  n = (link_at ls c).next

  abbrev p : ℕ
  p = (link_at ls c).prev

  abbrev u1 : List Link
  u1 = set_next p n ls

  abbrev u2 : List Link
  u2 = set_prev n p u1

  pub unlinked-next-p : p < length ls → (link_at (unlinked c ls) p).next ≡ n
  unlinked-next-p q = next-set_home u2 c 0 p ∙ next-set_prev u1 n p p ∙ next-set_next ls p n q

  pub unlinked-next : (x : ℕ) → (x ≡ p → ⊥) → (link_at (unlinked c ls) x).next ≡ (link_at ls x).next
  unlinked-next x ne = next-set_home u2 c 0 x ∙ next-set_prev u1 n p x ∙ next-other ls p n x ne

  pub unlinked-prev-n : n < length ls → (link_at (unlinked c ls) n).prev ≡ p
  unlinked-prev-n q = prev-set_home u2 c 0 n ∙ prev-set_prev u1 n p (omega (arith, q, length-set ls p (record (link_at ls p) { next = n })))

  pub unlinked-prev : (x : ℕ) → (x ≡ n → ⊥) → (link_at (unlinked c ls) x).prev ≡ (link_at ls x).prev
  unlinked-prev x ne = prev-set_home u2 c 0 x ∙ prev-other u1 n p x ne ∙ prev-set_next ls p n x

  pub unlinked-home-c : c < length ls → (link_at (unlinked c ls) c).home ≡ 0
  unlinked-home-c q = home-set_home u2 c 0 (omega (arith, q, length-set ls p (record (link_at ls p) { next = n }), length-set u1 n (record (link_at u1 n) { prev = p })))

  pub unlinked-home : (x : ℕ) → (x ≡ c → ⊥) → (link_at (unlinked c ls) x).home ≡ (link_at ls x).home
  unlinked-home x ne = home-other u2 c 0 x ne ∙ home-set_prev u1 n p x ∙ home-set_next ls p n x

-- lists of numbers
unfoldable pub last_from : ℕ → List ℕ → ℕ
last_from x [] = x
last_from x (y ∷ p) = last_from y p

pub misses-left : (x : ℕ) (p q : List ℕ) → Misses x (p ++ q) → Misses x p
misses-left x [] q m = tt
misses-left x (y ∷ p) q m = (m.0, misses-left x p q m.1)

pub misses-right : (x : ℕ) (p q : List ℕ) → Misses x (p ++ q) → Misses x q
misses-right x [] q m = m
misses-right x (y ∷ p) q m = misses-right x p q m.1

pub misses-join : (x : ℕ) (p q : List ℕ) → Misses x p → Misses x q → Misses x (p ++ q)
misses-join x [] q m n = n
misses-join x (y ∷ p) q m n = (m.0, misses-join x p q m.1 n)

-- x is not the last of p, which it misses
pub misses-last : (x y : ℕ) (p : List ℕ) → Misses x (y ∷ p) → x ≡ last_from y p → ⊥
unfolding last_from
misses-last x y [] m e = m.0 e
misses-last x y (z ∷ p) m e = misses-last x z p m.1 e

module _ (ls ls' : List Link) (a b c : ℕ) (next-kept : (x : ℕ) → (x ≡ a → ⊥) → (x ≡ c → ⊥) → (link_at ls' x).next ≡ (link_at ls x).next)
    (prev-kept : (x : ℕ) → (x ≡ b → ⊥) → (x ≡ c → ⊥) → (link_at ls' x).prev ≡ (link_at ls x).prev) where
  -- edges that none of a, b and c is at, but for the first, which may be b
  pub follows-kept : (x : ℕ) (p : List ℕ) → (x ≡ a → ⊥) → (x ≡ c → ⊥) → Misses a p → Misses b p → Misses c p → Follows ls x p → Follows ls' x p
  follows-kept x [] xa xc ma mb mc f = tt
  follows-kept x (y ∷ p) xa xc ma mb mc f =
      ((next-kept x xa xc ∙ f.0.0, prev-kept y (λ e. mb.0 (sym e)) (λ e. mc.0 (sym e)) ∙ f.0.1), follows-kept y p (λ e. ma.0 (sym e)) (λ e. mc.0 (sym e)) ma.1 mb.1 mc.1 f.1)

module _ (a c b h : ℕ) (ls : List Link) (pa : a < length ls) (pb : b < length ls) (pc : c < length ls) where
  -- c goes in after xs, whose last is a
  pub follows-linked : (x : ℕ) (xs rest : List ℕ) → a ≡ last_from x xs → Apart (x ∷ xs ++ b ∷ rest) → Misses c (x ∷ xs ++ b ∷ rest) → Follows ls x (xs ++ b ∷ rest)
      → Follows (linked a c b h ls) x (xs ++ c ∷ b ∷ rest)
  unfolding last_from
  follows-linked x [] rest e ap mc f =
      let ca : c ≡ a → ⊥ = λ q. mc.0 (q ∙ e) in let cb : c ≡ b → ⊥ = mc.1.0 in let ls' = linked a c b h ls in (
        (subst (λ y. (link_at ls' y).next ≡ c) e (linked-next-a a c b h ls pa), linked-prev-c a c b h ls cb pc ∙ e),
        (
          (linked-next-c a c b h ls ca pc, linked-prev-b a c b h ls pb),
          follows-kept ls ls' a b c (linked-next a c b h ls) (linked-prev a c b h ls) b rest (λ q. ap.0.0 (sym e ∙ sym q)) (λ q. cb (sym q))
              (subst (λ y. Misses y rest) (sym e) ap.0.1) ap.1.0 mc.1.1 f.1,
        ),
      )
  follows-linked x (y ∷ xs) rest e ap mc f =
      let xa : x ≡ a → ⊥ = λ q. misses-last x y xs (misses-left x (y ∷ xs) (b ∷ rest) ap.0) (q ∙ e) in
      let yb : y ≡ b → ⊥ = (misses-right y xs (b ∷ rest) ap.1.0).0 in
      ((linked-next a c b h ls x xa (λ q. mc.0 (sym q)) ∙ f.0.0, linked-prev a c b h ls y yb (λ q. mc.1.0 (sym q)) ∙ f.0.1), follows-linked y xs rest e ap.1 mc.1 f.1)

-- what comes before c, and after it
pub prev-is : (ls : List Link) (x : ℕ) (xs : List ℕ) (c : ℕ) (q : List ℕ) → Follows ls x (xs ++ c ∷ q) → (link_at ls c).prev ≡ last_from x xs
unfolding last_from
prev-is ls x [] c q f = f.0.1
prev-is ls x (y ∷ xs) c q f = prev-is ls y xs c q f.1

pub next-is : (ls : List Link) (x : ℕ) (xs : List ℕ) (c b : ℕ) (q : List ℕ) → Follows ls x (xs ++ c ∷ b ∷ q) → (link_at ls c).next ≡ b
next-is ls x [] c b q f = f.1.0.0
next-is ls x (y ∷ xs) c b q f = next-is ls y xs c b q f.1

module _ (c b : ℕ) (ls : List Link) (pb : b < length ls) (pp : (link_at ls c).prev < length ls) where
  -- c goes out from between xs and b
  pub follows-unlinked : (x : ℕ) (xs rest : List ℕ) → Apart (x ∷ xs ++ c ∷ b ∷ rest) → Follows ls x (xs ++ c ∷ b ∷ rest) → Follows (unlinked c ls) x (xs ++ b ∷ rest)
  unfolding last_from
  follows-unlinked x [] rest ap f =
      let ls' = unlinked c ls in let px : (link_at ls c).prev ≡ x = f.0.1 in let nb : (link_at ls c).next ≡ b = f.1.0.0 in (
        (subst (λ y. (link_at ls' y).next ≡ b) px (unlinked-next-p c ls pp ∙ nb), subst (λ y. (link_at ls' y).prev ≡ x) nb (unlinked-prev-n c ls (subst (λ y. y < length ls) (sym nb) pb) ∙ px)),
        follows-kept ls ls' x b c (λ y ny _. unlinked-next c ls y (λ e. ny (e ∙ px))) (λ y ny _. unlinked-prev c ls y (λ e. ny (e ∙ nb))) b rest
            (λ e. ap.0.1.0 (sym e)) (λ e. ap.1.0.0 (sym e)) ap.0.1.1 ap.1.1.0 ap.1.0.1 f.1.1,
      )
  follows-unlinked x (y ∷ xs) rest ap f =
      let ls' = unlinked c ls in let px = prev-is ls x (y ∷ xs) c (b ∷ rest) f in let nb = next-is ls x (y ∷ xs) c b rest f in
      let xp : x ≡ (link_at ls c).prev → ⊥ = λ e. misses-last x y xs (misses-left x (y ∷ xs) (c ∷ b ∷ rest) ap.0) (e ∙ px) in
      let yb : y ≡ b → ⊥ = (misses-right y xs (c ∷ b ∷ rest) ap.1.0).1.0 in
      ((unlinked-next c ls x xp ∙ f.0.0, unlinked-prev c ls y (λ e. yb (e ∙ nb)) ∙ f.0.1), follows-unlinked y xs rest ap.1 f.1)

-- homes
pub home-misses : (ls : List Link) (a m : ℕ) (p : List ℕ) → ((link_at ls a).home ≡ m → ⊥) → AtHome ls m p → Misses a p
home-misses ls a m [] ne t = tt
home-misses ls a m (x ∷ p) ne t = ((λ e. ne (subst (λ y. (link_at ls y).home ≡ m) (sym e) t.0)), home-misses ls a m p ne t.1)

pub home-kept : (ls ls' : List Link) (c m : ℕ) (p : List ℕ) → ((x : ℕ) → (x ≡ c → ⊥) → (link_at ls' x).home ≡ (link_at ls x).home) → Misses c p → AtHome ls m p → AtHome ls' m p
home-kept ls ls' c m [] k mc t = tt
home-kept ls ls' c m (x ∷ p) k mc t = (k x (λ e. mc.0 (sym e)) ∙ t.0, home-kept ls ls' c m p k mc.1 t.1)

pub home-put : (ls : List Link) (m c : ℕ) (p q : List ℕ) → (link_at ls c).home ≡ m → AtHome ls m (p ++ q) → AtHome ls m (p ++ c ∷ q)
home-put ls m c [] q e t = (e, t)
home-put ls m c (x ∷ p) q e t = (t.0, home-put ls m c p q e t.1)

pub home-out : (ls : List Link) (m c : ℕ) (p q : List ℕ) → AtHome ls m (p ++ c ∷ q) → ((link_at ls c).home ≡ m) × AtHome ls m (p ++ q)
home-out ls m c [] q t = (t.0, t.1)
home-out ls m c (x ∷ p) q t = let r = home-out ls m c p q t.1 in (r.0, (t.0, r.1))

pub apart-put : (c : ℕ) (p q : List ℕ) → Apart (p ++ q) → Misses c (p ++ q) → Apart (p ++ c ∷ q)
apart-put c [] q ap mc = (mc, ap)
apart-put c (x ∷ p) q ap mc = (misses-join x p (c ∷ q) (misses-left x p q ap.0) ((λ e. mc.0 (sym e)), misses-right x p q ap.0), apart-put c p q ap.1 mc.1)

pub apart-out : (c : ℕ) (p q : List ℕ) → Apart (p ++ c ∷ q) → Apart (p ++ q) × Misses c (p ++ q)
apart-out c [] q ap = (ap.1, ap.0)
apart-out c (x ∷ p) q ap =
    let r = apart-out c p q ap.1 in let m = misses-right x p (c ∷ q) ap.0 in
    ((misses-join x p q (misses-left x p (c ∷ q) ap.0) m.1, r.0), ((λ e. m.0 (sym e)), r.1))

pub below-put : (n c : ℕ) (p q : List ℕ) → c < n → Below n (p ++ q) → Below n (p ++ c ∷ q)
below-put n c [] q lt t = (lt, t)
below-put n c (x ∷ p) q lt t = (t.0, below-put n c p q lt t.1)

pub below-out : (n c : ℕ) (p q : List ℕ) → Below n (p ++ c ∷ q) → (c < n) × Below n (p ++ q)
below-out n c [] q t = (t.0, t.1)
below-out n c (x ∷ p) q t = let r = below-out n c p q t.1 in (r.0, (t.0, r.1))

pub append-assoc : (p q r : List ℕ) → (p ++ q) ++ r ≡ p ++ (q ++ r)
append-assoc [] q r = refl
append-assoc (x ∷ p) q r = ap (λ l. x ∷ l) (append-assoc p q r)
